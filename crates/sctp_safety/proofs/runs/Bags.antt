-- The chunks of the packets of a bag.
use Rattle.std.proofs.Common.{◌≡◌, ℕ, zero, suc, List, [], ◌∷◌, ◌++◌, slice_get, Some, append-nil, inl, inr, refl, ap, ◌∙◌}
use Rattle.sctp_model.specs.numbers.Lists.{Has, item_at}
use Rattle.sctp_model.specs.wire.Chunk.{ChunkMeaning}
use Rattle.sctp_model.specs.wire.Packet.{Packet}
use Rattle.sctp_safety.proofs.lists.Basics.{Has-left, Has-right}

-- every chunk that an endpoint ever built
abbrev pub chunks_in : List Packet → List ChunkMeaning
chunks_in [] = []
chunks_in (p ∷ ps) = p.chunks ++ chunks_in ps

-- those of a new packet come last
pub chunks_push : (ps : List Packet) (p : Packet) → chunks_in (ps ++ p ∷ []) ≡ chunks_in ps ++ p.chunks
chunks_push [] p = append-nil p.chunks
chunks_push (q ∷ ps) p = ap (λ (xs : List ChunkMeaning). q.chunks ++ xs) (chunks_push ps p) ∙ append_assoc' q.chunks (chunks_in ps) p.chunks
  where
    append_assoc' : (xs ys zs : List ChunkMeaning) → xs ++ (ys ++ zs) ≡ (xs ++ ys) ++ zs
    append_assoc' [] ys zs = refl
    append_assoc' (x ∷ xs) ys zs = ap (λ (us : List ChunkMeaning). x ∷ us) (append_assoc' xs ys zs)

pub chunk_of_bag : (ps : List Packet) (p : Packet) (x : ChunkMeaning) → Has ps p → Has p.chunks x → Has (chunks_in ps) x
chunk_of_bag [] p x h k = absurd h
chunk_of_bag (q ∷ ps) p x (inl e) k = Has-left q.chunks (chunks_in ps) x (rw e k)
chunk_of_bag (q ∷ ps) p x (inr h) k = Has-right q.chunks (chunks_in ps) x (chunk_of_bag ps p x h k)

-- what is at a place of a list is in it
got : {A : Type 0} (xs : List A) (n : ℕ) (x : A) → slice_get xs n ≡ Some x → Has xs x
got [] n x h = absurd (cc)
got (y ∷ xs) zero x h = inl (cc)
got (y ∷ xs) (suc n) x h = inr (got xs n x h)

pub item_is_in : {A : Type 0} (xs : List A) (i : ℕ) (x : A) → item_at xs i ≡ Some x → Has xs x
item_is_in xs zero x h = absurd (cc)
item_is_in xs (suc i) x h = got xs i x h
