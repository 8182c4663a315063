use Rattle.std.proofs.Common.{refl, arith}
use Rattle.std.proofs.lemmas.Grind.{common_steps}
use Rattle.sctp_wire.proofs.OneReading.{chunks_of-nil}
use Rattle.sctp_wire.proofs.FirstLemmas.{no_i_data_first, i_data_parted}
use Rattle.sctp_wire.proofs.first.split_i_data.Goals as goal

pub returns-then-is_empty : goal.returns-then-is_empty
returns-then-is_empty c = rw (chunks_of-nil c.args.chunks.now (grind (arith, common_steps))) refl

pub returns-then-chunks-ne-I_DATA : goal.returns-then-chunks-ne-I_DATA
returns-then-chunks-ne-I_DATA c =
    no_i_data_first c.args.chunks.now (λ i. omega (arith, c.type_inv.chunks i)) (grind (arith, common_steps)) c.requires (grind (arith, common_steps))

pub returns : goal.returns
returns c = i_data_parted c.args.chunks.now _ _ _ c.parted.ensures (grind (arith, common_steps)) c.read_i_data-piece.ensures
