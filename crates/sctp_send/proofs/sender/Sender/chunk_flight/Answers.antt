use Rattle.std.proofs.Common.{◌∙◌, List, ℕ, map, length, sym, ap}
use Rattle.std.proofs.lemmas.List.{length-map}
use Rattle.sctp_send.specs.OutstandingFields.{item_meaning}
use Rattle.sctp_send.specs.SenderKept.{Item, Kept}
use Rattle.sctp_send.specs.SenderStands.{StandsFor}
use Rattle.sctp_send.proofs.pace.ChunkLemmas.{chunks_told}
use Rattle.sctp_send.proofs.sender.Sender.chunk_flight.Goals as goal

pub returns : goal.returns
unfolding StandsFor
returns g c = λ v stands.
    let out = c.self.inside.parts.outstanding in
    let es = out.items in
    let items = ap (λ (k : Kept). k.items) c.self.view_is in
    let sized = ap (λ (n : ℕ). map (item_meaning n) es) c.self.invariant.window in
    let count = sym (length-map es (item_meaning c.self.inside.told.fragment)) ∙ ap (λ (xs : List Item). length xs) items in
    chunks_told g.F.Framing.format c.args.self.now v c.chunk_flight.result (length es) out.header (map (item_meaning out.size) es) stands c.self.invariant.header (sized ∙ items) count c.chunk_flight.ensures.flight c.chunk_flight.ensures.bound
