use Rattle.std.proofs.Common.{map, sym, ◌∙◌, arith}
use Rattle.sctp_send.specs.SenderFields.{track_meaning}
use Rattle.sctp_send.proofs.fill.NextLemmas.{one_more_off}
use Rattle.sctp_send.proofs.kept.looking.next_part_by_looking.Goals as goal

pub loop-stream-preserved : goal.loop-stream-preserved
loop-stream-preserved c = λ size.
    one_more_off c.args.from c.loop-stream.stream (map (track_meaning size) c.args.tracks.now) (c.loop-stream.invariant size) (sym (c.goes_on_at.ensures size) ∙ c.if-goes_on_at.false)

pub returns-then-goes_on_at : goal.returns-then-goes_on_at
returns-then-goes_on_at c = λ size. record { before = c.loop-stream.invariant size; here = λ lt. (omega arith, sym (c.goes_on_at.ensures size) ∙ c.if-goes_on_at.true); within = omega arith }

pub returns : goal.returns
returns c = λ size. record { before = λ j lo hi. c.loop-stream.invariant size j lo (omega (arith, hi)); here = λ lt. absurd (omega (arith, lt)); within = omega arith }
