use Rattle.std.proofs.Common.{refl, arith}
use Rattle.std.proofs.lemmas.Grind.{common_steps}
use Rattle.sctp_wire.proofs.OneReading.{chunks_of-nil}
use Rattle.sctp_wire.proofs.StandingLemmas.{whole_first, reflected_first}
use Rattle.sctp_wire.proofs.first.starts_reflected.Goals as goal

pub bounds-chunks-1 : goal.bounds-chunks-1
bounds-chunks-1 c =
    let whole = whole_first c.args.chunks.now (grind (arith, common_steps)) c.requires in grind (arith, common_steps)

pub returns-then-is_empty : goal.returns-then-is_empty
returns-then-is_empty c = rw (chunks_of-nil c.args.chunks.now (grind (arith, common_steps))) refl

pub returns-then-has_reflected : goal.returns-then-has_reflected
returns-then-has_reflected c =
    let told = reflected_first c.args.chunks.now (λ i. omega (arith, c.type_inv.chunks i)) (grind (arith, common_steps)) c.requires in grind (arith, common_steps)

pub returns : goal.returns
returns c =
    let told = reflected_first c.args.chunks.now (λ i. omega (arith, c.type_inv.chunks i)) (grind (arith, common_steps)) c.requires in grind (arith, common_steps)
