use Rattle.std.proofs.Common.{◌∙◌, sym}
use Rattle.std.proofs.lemmas.Bool.{and_parts}
use Rattle.sctp_model.specs.sender.Abandoning.{is_overdue, may_abandon}
use Rattle.sctp_model.proofs.sender.LateLaws.{expires_none}
use Rattle.sctp_send.specs.SenderStands.{StandsFor}
use Rattle.sctp_send.proofs.sender.Sender.abandon_late.Goals as goal

pub returns-then-is_late : goal.returns-then-is_late
unfolding StandsFor
returns-then-is_late g c = λ v stands.
    let late = sym (c.is_late.ensures v stands) ∙ c.if-is_late.true in
    let both = and_parts (is_overdue v c.args.now c.args.ticket) (may_abandon v c.args.ticket) late in
    rw both.0 (c.abandon_open.ensures v stands both.1)

pub returns-else-is_late : goal.returns-else-is_late
unfolding StandsFor
returns-else-is_late g c = λ v stands. rw (expires_none v c.args.now c.args.ticket (sym (c.is_late.ensures v stands) ∙ c.if-is_late.false)) stands
