-- A message of which every fragment is kept is held whole: chunks of rising TSN, whose bytes joined are its bytes.
use Rattle.std.proofs.Common.{◌≡◌, ℕ, zero, suc, ◌+◌, ◌<◌, ◌≤◌, List, [], ◌∷◌, ◌++◌, length, map, Some, inl, inr, refl, sym, subst, ap, ◌∙◌, arith}
use Rattle.std.specs.Prelude.{slice_index_or, drop}
use Rattle.sctp_model.specs.numbers.Lists.{Has, AreInOrder, joined}
use Rattle.sctp_model.specs.messages.Format.{Format, Lane}
use Rattle.sctp_model.specs.messages.Plan.{Message, Part, Plan, bytes_of, entry_at}
use Rattle.sctp_model.specs.messages.Pieces.{Piece, piece_of}
use Rattle.sctp_model.specs.messages.Orderly.{Orderly}
use Rattle.sctp_model.specs.receiver.ReceiverView.{ReceiverView}
use Rattle.sctp_model.specs.world.Safe.{IsHeldWhole}
use Rattle.sctp_outcomes.specs.Users.{Sent, Exchange, IsHeld}

-- a list from a place on is the element there, and the rest
from_place : (xs : List (List ℕ)) (k : ℕ) → k < length xs → drop k xs ≡ slice_index_or xs k [] ∷ drop (suc k) xs
from_place [] k lt = absurd (omega (arith, lt))
from_place (x ∷ xs) zero lt = refl
from_place (x ∷ xs) (suc k) lt = from_place xs k (omega (arith, lt))

past_all : (xs : List (List ℕ)) (k : ℕ) → length xs ≤ k → drop k xs ≡ []
past_all [] zero le = refl
past_all [] (suc k) le = refl
past_all (x ∷ xs) zero le = absurd (omega (arith, le))
past_all (x ∷ xs) (suc k) le = past_all xs k (omega (arith, le))

module _ (f : Format) (p : Plan) (orderly : Orderly f p) (l : Lane) (n : ℕ) where
  -- fragments are in rising index
  rising : (d i j k : ℕ) → entry_at p i ≡ Some (Part l n k) → entry_at p j ≡ Some (Part l n (suc k + d)) → i < j
  rising zero i j k here there =
      let next : entry_at p j ≡ Some (Part l n (suc k)) = subst (λ (m : ℕ). entry_at p j ≡ Some (Part l n m)) (let same : suc k + 0 ≡ suc k = omega arith in same) there in
      let before = orderly.numbered.follows j l n k next in
      let own = orderly.numbered.once before.0 i l n k before.2 here in
      let lt = before.1 in
      omega (arith, own, lt)
  rising (suc d) i j k here there =
      let next : entry_at p j ≡ Some (Part l n (suc (suc k + d))) = subst (λ (m : ℕ). entry_at p j ≡ Some (Part l n m)) (let same : suc k + suc d ≡ suc (suc k + d) = omega arith in same) there in
      let before = orderly.numbered.follows j l n (suc k + d) next in
      let lt = before.1 in
      let low = rising d i before.0 k here before.2 in
      omega (arith, low, lt)

  rising_in : (i j k c : ℕ) → k < c → entry_at p i ≡ Some (Part l n k) → entry_at p j ≡ Some (Part l n c) → i < j
  rising_in i j k c lt here there = go c lt there
    where
      go : (c : ℕ) → k < c → entry_at p j ≡ Some (Part l n c) → i < j
      go c lt there = by_gap (cases_gap k c lt)
        where
          cases_gap : (k c : ℕ) → k < c → (d : ℕ) × (c ≡ suc k + d)
          cases_gap k zero lt = absurd (omega (arith, lt))
          cases_gap zero (suc c) lt = (c, omega arith)
          cases_gap (suc k) (suc c) lt = let r = cases_gap k c (omega (arith, lt)) in let same = r.1 in (r.0, omega (arith, same))

          by_gap : (d : ℕ) × (c ≡ suc k + d) → i < j
          by_gap (d, same) = rising d i j k here (subst (λ (m : ℕ). entry_at p j ≡ Some (Part l n m)) same there)

  module _ (r : ReceiverView) (m : Message) (kept : IsHeldWhole f p r l n m) where
    -- chunks from a fragment on
    record From (k : ℕ) : Type 0 where
      chunks : List Piece
      each : (x : Piece) → Has chunks x → Has r.kept x × (x.lane ≡ l)
      places : (x : Piece) → Has chunks x → (c : ℕ) × (k ≤ c) × (entry_at p x.index ≡ Some (Part l n c))
      in_order : AreInOrder (λ (x y : Piece). x.index < y.index) chunks
      bytes : joined (map (λ (x : Piece). x.bytes) chunks) ≡ joined (drop k m.fragments)

    -- the fragment before them too
    put : (k : ℕ) → k < length m.fragments → From (suc k) → From k
    put k low rest = record {
      chunks = x ∷ rest.chunks;
      each = each;
      places = places;
      in_order = (λ y has. (let c = rest.places y has in let lt = c.1 in rising_in here.0 y.index k c.0 (omega (arith, lt)) here.1 c.2), rest.in_order);
      bytes = ap (λ (bs : List ℕ). slice_index_or m.fragments k [] ++ bs) rest.bytes ∙ sym (ap joined (from_place m.fragments k low));
    }
      where
        here : (i : ℕ) × (entry_at p i ≡ Some (Part l n k)) × Has r.kept (piece_of f i l n k m)
        here = kept k low

        x : Piece
        x = piece_of f here.0 l n k m

        each : (y : Piece) → Has (x ∷ rest.chunks) y → Has r.kept y × (y.lane ≡ l)
        each y (inl own) = subst (λ (z : Piece). Has r.kept z × (z.lane ≡ l)) own (here.2, refl)
        each y (inr has) = rest.each y has

        places : (y : Piece) → Has (x ∷ rest.chunks) y → (c : ℕ) × (k ≤ c) × (entry_at p y.index ≡ Some (Part l n c))
        places y (inl own) = subst (λ (z : Piece). (c : ℕ) × (k ≤ c) × (entry_at p z.index ≡ Some (Part l n c))) own (k, omega arith, here.1)
        places y (inr has) = let c = rest.places y has in let le = c.1 in (c.0, omega (arith, le), c.2)

    from : (d k : ℕ) → length m.fragments ≡ k + d → From k
    from zero k all = record {
      chunks = [];
      each = λ x none. absurd none;
      places = λ x none. absurd none;
      in_order = tt;
      bytes = sym (ap joined (past_all m.fragments k (omega (arith, all))));
    }
    from (suc d) k all = put k (omega (arith, all)) (from d (suc k) (omega (arith, all)))

    pub held : (e : Exchange) (of : Piece → ℕ) (s : Sent) → ((x : Piece) (c : ℕ) → entry_at p x.index ≡ Some (Part l n c) → of x ≡ s.ticket) →
        e.held ≡ r.kept → s.call.lane ≡ l → bytes_of m ≡ s.call.bytes → IsHeld e of s
    held e of s own same lane bytes =
        let all = from (length m.fragments) 0 (omega arith) in record {
          chunks = all.chunks;
          each = λ x has. (subst (λ (ps : List Piece). Has ps x) (sym same) (all.each x has).0, (all.each x has).1 ∙ sym lane);
          own = λ x has. let c = all.places x has in own x c.0 c.2;
          rising = all.in_order;
          bytes = all.bytes ∙ bytes;
        }
