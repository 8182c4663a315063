use Rattle.std.proofs.Common.{refl, sym, arith}
use Rattle.std.proofs.lemmas.Grind.{common_steps}
use Rattle.sctp_wire.proofs.OneReading.{chunks_of-nil}
use Rattle.sctp_wire.proofs.StandingLemmas.{init_first}
use Rattle.sctp_wire.proofs.first.starts_with_init.Goals as goal

pub returns-then-is_empty : goal.returns-then-is_empty
returns-then-is_empty c = rw (chunks_of-nil c.args.chunks.now (grind (arith, common_steps))) refl

pub returns : goal.returns
returns c = sym (init_first c.args.chunks.now (λ i. omega (arith, c.type_inv.chunks i)) (grind (arith, common_steps)) c.requires)
