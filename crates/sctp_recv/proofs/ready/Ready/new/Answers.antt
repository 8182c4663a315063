use Rattle.std.proofs.Common.{arith}
use Rattle.std.proofs.lemmas.Grind.{common_steps}
use Rattle.sctp_recv.proofs.BitLemmas.{zero_bits, zero_tops}
use Rattle.sctp_recv.proofs.ready.Ready.new.Goals as goal

pub invariant_of-result : goal.invariant_of-result
invariant_of-result c = record { upper = zero_tops c.in_ok-words.words.items c.in_ok-tops.tops.items _ _ c.in_ok-words.ensures c.in_ok-tops.ensures (omega arith) (omega arith) (omega arith) }

pub returns-clause-fits : goal.returns-clause-fits
returns-clause-fits c = grind (arith, common_steps)

pub returns-clause-none : goal.returns-clause-none
returns-clause-none c = λ s. zero_bits c.in_ok-words.words.items _ s c.in_ok-words.ensures
