use Rattle.std.proofs.Common.{◌∙◌, map}
use Rattle.std.specs.Prelude.{option_map}
use Rattle.sctp_terms.specs.Meanings.{state_meaning, end_meaning}
use Rattle.sctp_events.specs.Events.{side_meaning}
use Rattle.sctp_script.specs.ReportText.{ticket_number}
use Rattle.sctp_pair.specs.Sides.{SideStands}
use Rattle.sctp_pair.proofs.ReportLemmas.{side_lines}
use Rattle.sctp_pair.proofs.TakenLemmas.{on_ok}
use Rattle.sctp_pair.proofs.reporting.put_side.Goals as goal

pub returns : goal.returns
unfolding SideStands
returns c = λ v stands.
    on_ok c.put_streams.result _ _
    (λ streams. side_lines (side_meaning c.args.name) v.end v.log (state_meaning c.state.result) (option_map end_meaning c.ended.result)
    (map ticket_number c.in_ok-tickets.tickets.items) (map ticket_number c.args.side.now.abandoned.items)
    c.args.out.now.items c.put_end.new.out.items c.put_numbered.new.out.items c.put_abandoned.new.out.items c.put_streams.new.out.items
    (c.state.ensures v.end stands.end) (c.ended.ensures v.end stands.end)
    (c.in_ok-tickets.ensures ∙ rw c.deref.ensures.value stands.notes.numbers) stands.notes.order
    c.in_ok-put_end.ensures.put (rw c.deref-2.ensures.value at c.in_ok-put_numbered.ensures.put) (rw c.deref-3.ensures.value at c.in_ok-put_abandoned.ensures.put) streams)
    (c.put_streams.ensures v stands)
