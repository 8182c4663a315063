use Rattle.std.proofs.Common.{w64}
use Rattle.std.proofs.lemmas.Nat.Bits.{bit_at_set_same, bit_at_set_other, bit_at_clear_same, bit_at_clear_other}
use Rattle.sctp_recv.proofs.bits.with_bit.Goals as goal

pub returns-then-set-clause-here : goal.returns-then-set-clause-here
returns-then-set-clause-here c = rw c.if-set.true (bit_at_set_same w64 c.args.word c.args.place c.requires)

pub returns-then-set-clause-others : goal.returns-then-set-clause-others
returns-then-set-clause-others c = λ j lt apart. bit_at_set_other w64 c.args.word c.args.place c.requires j apart

pub returns-else-set-clause-here : goal.returns-else-set-clause-here
returns-else-set-clause-here c = rw c.if-set.false (bit_at_clear_same w64 c.args.word c.args.place c.requires)

pub returns-else-set-clause-others : goal.returns-else-set-clause-others
returns-else-set-clause-others c = λ j lt apart. bit_at_clear_other w64 c.args.word c.args.place c.requires j lt apart
