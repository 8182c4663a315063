use Rattle.std.proofs.Common.{sym, subst, arith}
use Rattle.sctp_model.specs.wire.Chunk.{ChunkMeaning}
use Rattle.sctp_wire.specs.Layouts.{Fits}
use Rattle.sctp_send.proofs.forward.ForwardLemmas.{forward_fits}
use Rattle.sctp_send.proofs.forward.put_list.Goals as goal

pub try_chunk-requires : goal.try_chunk-requires
try_chunk-requires g c =
    let f = g.F.Framing.format in
    let said = rw (c.new.ensures, c.skip_form.ensures) at c.forward_chunk-chunk.ensures in
    subst (λ (m : ChunkMeaning). Fits m) (sym said) (forward_fits f c.args.cumulative c.args.list.now (omega arith) (λ i. omega (arith, c.type_inv.list i)) (omega (arith, c.requires.few)))
