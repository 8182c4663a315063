use Rattle.std.proofs.Common.{◌≡◌, ◌∙◌, ◌-◌, ◌/◌, map, sym, refl, ap, arith}
use Rattle.std.proofs.lemmas.List.{length-map}
use Rattle.sctp_wire.specs.Skips.{skip_size}
use Rattle.sctp_framing.specs.SkipForms.{skip_form}
use Rattle.sctp_send.specs.OutstandingFields.{item_meaning}
use Rattle.sctp_send.specs.inner.Lanes.{passed_meaning}
use Rattle.sctp_send.proofs.ReaderLemmas.{run_within}
use Rattle.sctp_send.proofs.forward.LaneWalks.{none_below}
use Rattle.sctp_send.proofs.forward.ForwardLemmas.{IsPassed, is_passed}
use Rattle.sctp_send.proofs.forward.ReachLemmas.{too_short, walked_far, furthest_is_end}
use Rattle.sctp_send.proofs.forward.note_within.Goals as goal

pub returns-then-limit-lt-PACKET_ALONE-clause-end : goal.returns-then-limit-lt-PACKET_ALONE-clause-end
returns-then-limit-lt-PACKET_ALONE-clause-end g c = λ s v size keeps items streams. too_short g.F.Framing.format v c.args.limit c.if-limit-lt-PACKET_ALONE.true

pub returns-then-limit-lt-PACKET_ALONE-clause-lanes : goal.returns-then-limit-lt-PACKET_ALONE-clause-lanes
returns-then-limit-lt-PACKET_ALONE-clause-lanes g c = λ size. ap (map passed_meaning) c.requires.none ∙ sym (none_below g.F.Framing.format c.args.streams)

pub note_first-requires-clause-run : goal.note_first-requires-clause-run
note_first-requires-clause-run g c =
    let within = run_within (map (item_meaning 1) c.args.outstanding.now.items) in
    omega (arith, within, length-map c.args.outstanding.now.items (item_meaning 1), c.abandoned_run-run.ensures 1)

pub returns-clause-end : goal.returns-clause-end
returns-clause-end g c = λ s v size keeps items streams.
    let f = g.F.Framing.format in
    let run = c.abandoned_run-run.result in
    let bytes : c.size.result ≡ skip_size (skip_form f) = c.size.ensures ∙ ap skip_size c.skip_form.ensures in
    let passed : IsPassed v run = rw (c.abandoned_run-run.ensures size, ← items) (is_passed f s v keeps) in
    let most : c.from.result / c.size.result ≡ (c.args.limit - 20) / skip_size (skip_form f) = rw (c.from.ensures, bytes) refl in
    furthest_is_end f v c.args.limit (c.from.result / c.size.result) run c.note_first.result (omega arith) most passed.point
    (walked_far f s v size c.args.streams (c.from.result / c.size.result) run c.note_first.result c.args.outstanding.now.items c.note_first.new.lanes.items keeps items streams c.note_first.ensures.within
    (c.note_first.ensures.lanes size) c.note_first.ensures.few (c.note_first.ensures.last size))
