use Rattle.std.proofs.Common.{◌∙◌, ℕ, ap, length, arith}
use Rattle.std.specs.Int.{div_ceil}
use Rattle.sctp_send.proofs.QueueLemmas.{count_is, few_are}
use Rattle.sctp_send.proofs.kept.pieces.fragments_in.Goals as goal

pub returns-then-bytes-most : goal.returns-then-bytes-most
returns-then-bytes-most c = omega (arith, c.requires.some, few_are c.args.size c.args.bytes.now c.requires.size (omega (arith, c.if-bytes-most.true, c.from-most.ensures)))

pub returns : goal.returns
returns c = c.div_ceil.ensures ∙ ap (λ (n : ℕ). div_ceil (length c.args.bytes.now) n) c.from-most.ensures ∙ count_is c.args.size c.args.bytes.now c.requires.size
