-- Under both formats chunks of an orderly plan are whole exactly if they are all fragments of one message.
use Rattle.std.proofs.Common.{◌≡◌, ℕ, zero, suc, ◌+◌, ◌<◌, List, [], ◌∷◌, length, slice_get, Some, refl, ap, sym, subst, arith}
use Rattle.sctp_model.specs.numbers.Lists.{Has}
use Rattle.sctp_model.specs.messages.Format.{Format, Lane}
use Rattle.sctp_model.specs.messages.Plan.{Message, Part, Plan, entry_at, message_at}
use Rattle.sctp_model.specs.messages.Orderly.{Orderly}
use Rattle.sctp_model.specs.messages.Pieces.{Piece, piece_of, IsFragment}
use Rattle.sctp_model.specs.messages.Whole.{IsWhole}
use Rattle.sctp_model.specs.messages.FormatLaws.{IsMessage, WholeLaw}
use Rattle.sctp_safety.proofs.plan.Framing.{IsFramed, IsPart, AreFrom, is_first, is_row, text_from}
use Rattle.sctp_safety.proofs.plan.OneMessage.{whole_is_one, first_payload}

pub framed_by_orderly : (f : Format) (p : Plan) → Orderly f p → IsFramed f p
framed_by_orderly f p o = record { within = o.numbered.within; once = o.numbered.once; consecutive = λ e. (o.together e).consecutive }

-- each message has a fragment
pub some_fragment : (f : Format) (p : Plan) → Orderly f p → (l : Lane) (n : ℕ) (m : Message) → message_at p l n ≡ Some m → 0 < length m.fragments
some_fragment f p o l n m named =
    let b = o.numbered.begun l n m named in
    let w = o.numbered.within b.0 l n 0 b.1 in
    let a = w.1 in
    let e : w.0 ≡ m = cc in
    subst (λ (q : Message). 0 < length q.fragments) e w.2

module _ (f : Format) (p : Plan) (l : Lane) (n : ℕ) (m : Message) where
  -- the j-th chunk of those from fragment k on is fragment k + j
  from_counts : (xs : List Piece) (k : ℕ) → AreFrom f p l n m k xs → k + length xs ≡ length m.fragments
  from_counts [] k last = omega arith
  from_counts (x ∷ xs) k (h, rest) = let r = from_counts xs (suc k) rest in omega arith

  from_reads : (xs : List Piece) (k : ℕ) → AreFrom f p l n m k xs → (j : ℕ) → k + j < length m.fragments →
      (x : Piece) × (slice_get xs j ≡ Some x) × IsPart f p l n m (k + j) x
  from_reads [] k last j b = absurd (omega arith)
  from_reads (x ∷ xs) k (h, rest) zero b =
      let e : k ≡ k + 0 = omega arith in
      (x, refl, subst (λ (i : ℕ). IsPart f p l n m i x) e h)
  from_reads (x ∷ xs) k (h, rest) (suc j) b =
      let r = from_reads xs (suc k) rest j (omega arith) in
      let e : suc k + j ≡ k + suc j = omega arith in
      (r.0, r.1, subst (λ (i : ℕ). IsPart f p l n m i r.0) e r.2)

  message_from : (xs : List Piece) → message_at p l n ≡ Some m → AreFrom f p l n m 0 xs → IsMessage f p l n m xs
  message_from xs named parts = record {
    named = named;
    count = let c = from_counts xs 0 parts in omega arith;
    each = each;
  }
    where
      each : (k : ℕ) → k < length m.fragments → (i : ℕ) × (entry_at p i ≡ Some (Part l n k)) × (slice_get xs k ≡ Some (piece_of f i l n k m))
      each k b =
          let r = from_reads xs 0 parts k (omega arith) in
          let e : 0 + k ≡ k = omega arith in
          let g : IsPart f p l n m k r.0 = subst (λ (i : ℕ). IsPart f p l n m i r.0) e r.2 in
          let s = g.same in
          let t = r.1 in
          (r.0.index, g.here, cc)

  -- chunks that are read one by one as fragments k, k + 1, .. are all from k on
  from_each : (xs : List Piece) (k : ℕ) → k + length xs ≡ length m.fragments →
      ((j : ℕ) → j < length xs → (i : ℕ) × (entry_at p i ≡ Some (Part l n (k + j))) × (slice_get xs j ≡ Some (piece_of f i l n (k + j) m))) →
      AreFrom f p l n m k xs
  from_each [] k count each = omega arith
  from_each (x ∷ xs) k count each = (first (each 0 (omega arith)), from_each xs (suc k) (omega arith) (λ j b. later j (each (suc j) (omega arith))))
    where
      first : (i : ℕ) × (entry_at p i ≡ Some (Part l n (k + 0))) × (Some x ≡ Some (piece_of f i l n (k + 0) m)) → IsPart f p l n m k x
      first (i, here, same) =
          let z : k + 0 ≡ k = omega arith in
          let e : x ≡ piece_of f i l n (k + 0) m = cc in
          let d : x ≡ piece_of f i l n k m = subst (λ (j : ℕ). x ≡ piece_of f i l n j m) z e in
          let a : x.index ≡ i = ap (λ (y : Piece). y.index) d in
          record {
            within = omega arith;
            here = subst (λ (j : ℕ). entry_at p j ≡ Some (Part l n k)) (sym a) (subst (λ (j : ℕ). entry_at p i ≡ Some (Part l n j)) z here);
            same = subst (λ (j : ℕ). x ≡ piece_of f j l n k m) (sym a) d;
          }

      later : (j : ℕ) → (i : ℕ) × (entry_at p i ≡ Some (Part l n (k + suc j))) × (slice_get xs j ≡ Some (piece_of f i l n (k + suc j) m)) →
          (i : ℕ) × (entry_at p i ≡ Some (Part l n (suc k + j))) × (slice_get xs j ≡ Some (piece_of f i l n (suc k + j) m))
      later j h =
          let z : k + suc j ≡ suc k + j = omega arith in
          subst (λ (q : ℕ). (i : ℕ) × (entry_at p i ≡ Some (Part l n q)) × (slice_get xs j ≡ Some (piece_of f i l n q m))) z h

  from_message : (xs : List Piece) → IsMessage f p l n m xs → AreFrom f p l n m 0 xs
  from_message xs h = from_each xs 0 (let c = h.count in omega arith) each
    where
      each : (j : ℕ) → j < length xs → (i : ℕ) × (entry_at p i ≡ Some (Part l n (0 + j))) × (slice_get xs j ≡ Some (piece_of f i l n (0 + j) m))
      each j b =
          let c = h.count in
          let z : j ≡ 0 + j = omega arith in
          subst (λ (q : ℕ). (i : ℕ) × (entry_at p i ≡ Some (Part l n q)) × (slice_get xs j ≡ Some (piece_of f i l n q m))) z (h.each j (omega arith))

pub whole_law : (f : Format) → WholeLaw f
whole_law f p o = record {
  one = one;
  whole = λ l n m xs h. whole l n m xs (some_fragment f p o l n m h.named) (from_message f p l n m xs h);
  bytes = λ l n m xs h. text_from f p l n m xs 0 (from_message f p l n m xs h);
  payload = λ l n m x xs h. first_payload f p l n m x (from_message f p l n m (x ∷ xs) h).0;
}
  where
    framed : IsFramed f p
    framed = framed_by_orderly f p o

    one : (xs : List Piece) → ((x : Piece) → Has xs x → IsFragment f p x) → IsWhole f xs →
        (l : Lane) × (n : ℕ) × (m : Message) × IsMessage f p l n m xs
    one [] all h = absurd h
    one (x ∷ xs) all h =
        let r = whole_is_one f p framed x xs all h in
        (x.lane, r.number, r.message, message_from f p x.lane r.number r.message (x ∷ xs) r.complete.0 r.parts)

    whole : (l : Lane) (n : ℕ) (m : Message) (xs : List Piece) → 0 < length m.fragments → AreFrom f p l n m 0 xs → IsWhole f xs
    whole l n m [] some last = absurd (omega arith)
    whole l n m (x ∷ xs) some h = (is_first f p l n m x h.0, is_row f p framed l n m xs x 0 h)
