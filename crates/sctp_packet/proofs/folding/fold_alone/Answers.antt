use Rattle.std.proofs.Common.{◌≡◌, ◌+◌, ◌*◌, arith, ◌∙◌}
use Rattle.sctp_packet.specs.Folding.{IsFolded}
use Rattle.sctp_packet.proofs.StartLemmas.{folded_first, folded_alone}
use Rattle.sctp_packet.proofs.folding.fold_alone.Goals as goal

pub loop-place-init : goal.loop-place-init
loop-place-init c =
    (c.put.ensures.length, folded_first c.args.register c.from.result c.args.bytes.now c.args.room.now c.put.new.bytes c.word.result c.from.ensures c.requires.empty c.word.ensures c.put.ensures.before c.put.ensures.here c.put.ensures.behind)

pub loop-place-preserved : goal.loop-place-preserved
loop-place-preserved c =
    let n = 8 * c.loop-place.place in
    let more : 8 * (c.loop-place.place + 1) ≡ n + 8 = omega arith in
    let put = c.put-in-loop-place in
    let some = c.loop-place.auto.place in
    let folded : IsFolded c.args.register c.args.bytes.now (n + 8) put.new.bytes =
    folded_alone c.args.register c.args.bytes.now c.loop-place.room put.new.bytes n c.word-in-loop-place.result (omega arith) (omega arith) (omega arith) c.loop-place.invariant.1 c.word-in-loop-place.ensures put.ensures.before put.ensures.here put.ensures.behind in
    (put.ensures.length ∙ c.loop-place.invariant.0, rw more folded)
