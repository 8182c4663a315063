use Rattle.std.proofs.Common.{refl, arith}
use Rattle.std.proofs.lemmas.Grind.{common_steps}
use Rattle.sctp_wire.proofs.OneReading.{chunks_of-nil}
use Rattle.sctp_wire.proofs.FirstLemmas.{no_sack_first, sack_parted}
use Rattle.sctp_wire.proofs.first.split_sack.Goals as goal

pub returns-then-is_empty : goal.returns-then-is_empty
returns-then-is_empty c = rw (chunks_of-nil c.args.chunks.now (grind (arith, common_steps))) refl

pub returns-then-chunks-ne-SACK : goal.returns-then-chunks-ne-SACK
returns-then-chunks-ne-SACK c =
    no_sack_first c.args.chunks.now (λ i. omega (arith, c.type_inv.chunks i)) (grind (arith, common_steps)) c.requires (grind (arith, common_steps))

pub returns : goal.returns
returns c = sack_parted c.args.chunks.now _ _ _ c.parted.ensures (grind (arith, common_steps)) c.read_sack-sack.ensures
