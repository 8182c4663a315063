-- A whole row of a plan's chunks is one message, and the fragments of a message that are all kept are whole.
use Rattle.std.proofs.Common.{◌≡◌, ℕ, ◌<◌, true, List, [], ◌∷◌, length, Some, inl, inr, refl, subst, ap, arith}
use Rattle.sctp_model.specs.numbers.Lists.{Has, IsWithin}
use Rattle.sctp_model.specs.messages.Format.{Format, Plain, Interleaved, Lane, is_numbered}
use Rattle.sctp_model.specs.messages.Plan.{Message, bytes_of, Part, Plan, entry_at, message_at, IsComplete}
use Rattle.sctp_model.specs.messages.Pieces.{Piece, number_of, piece_of, payload_of, IsFragment}
use Rattle.sctp_model.specs.messages.Whole.{IsWhole, text_of}
use Rattle.sctp_safety.proofs.moves.Facts.{IsOrderedPlan}
use Rattle.sctp_safety.proofs.plan.Framing.{IsFramed, framed_by_arranged, IsPart, AreFrom, part_by_fragment, part_here, part_number, part_lane, first_is, is_first, row_is, is_row, text_from, each_from, all_from, gather}

-- What a whole row of a plan's chunks is.
pub record IsOneMessage (f : Format) (p : Plan) (x : Piece) (xs : List Piece) : Type 0 where
  pub number : ℕ
  pub message : Message
  pub complete : IsComplete p x.lane number message
  pub first : entry_at p x.index ≡ Some (Part x.lane number 0)
  pub text : text_of (x ∷ xs) ≡ bytes_of message
  pub payload : payload_of f x ≡ message.payload
  pub each : (y : Piece) → Has (x ∷ xs) y → (y.lane ≡ x.lane) × ((k : ℕ) × (entry_at p y.index ≡ Some (Part x.lane number k)))
  pub all : (k : ℕ) → k < length message.fragments → (y : Piece) × Has (x ∷ xs) y × (entry_at p y.index ≡ Some (Part x.lane number k))
  pub counted : is_numbered f x.lane.kind ≡ true → x.number ≡ Some number
  pub parts : AreFrom f p x.lane number message 0 (x ∷ xs)

pub first_payload : (f : Format) (p : Plan) (l : Lane) (n : ℕ) (m : Message) (x : Piece) → IsPart f p l n m 0 x → payload_of f x ≡ m.payload
first_payload Plain p l n m x h = ap (payload_of Plain) h.same
first_payload Interleaved p l n m x h = ap (payload_of Interleaved) h.same

pub number_counts : (f : Format) (l : Lane) (n : ℕ) → is_numbered f l.kind ≡ true → number_of f l n ≡ Some n
number_counts f l n e = rw e refl

-- The fragments of a message from the first are a message.
pub one_by_parts : (f : Format) (p : Plan) (n : ℕ) (m : Message) (x : Piece) (xs : List Piece) → message_at p x.lane n ≡ Some m →
    AreFrom f p x.lane n m 0 (x ∷ xs) → IsOneMessage f p x xs
one_by_parts f p n m x xs named parts = record {
  number = n;
  message = m;
  complete = (named, λ k b. let r = all_from f p x.lane n m (x ∷ xs) 0 parts k (omega arith) b in (r.0.index, r.2.here));
  first = parts.0.here;
  text = text_from f p x.lane n m (x ∷ xs) 0 parts;
  payload = first_payload f p x.lane n m x parts.0;
  each = λ y h. let r = each_from f p x.lane n m (x ∷ xs) 0 parts y h in (part_lane f p x.lane n m r.0 y r.1, (r.0, r.1.here));
  all = λ k b. let r = all_from f p x.lane n m (x ∷ xs) 0 parts k (omega arith) b in (r.0, r.1, r.2.here);
  counted = λ e. let a = part_number f p x.lane n m 0 x parts.0 in let b = number_counts f x.lane n e in cc;
  parts = parts;
}

pub whole_is_one : (f : Format) (p : Plan) → IsFramed f p → (x : Piece) (xs : List Piece) →
    ((y : Piece) → Has (x ∷ xs) y → IsFragment f p y) → IsWhole f (x ∷ xs) → IsOneMessage f p x xs
whole_is_one f p framed x xs all (first, row) =
    let h = all x (inl refl) in
    let g = part_by_fragment f p x h in
    let z = first_is f p x.lane h.number h.message h.fragment x g first in
    let part : IsPart f p x.lane h.number h.message 0 x = subst (λ (k : ℕ). IsPart f p x.lane h.number h.message k x) z g in
    one_by_parts f p h.number h.message x xs h.named
    (row_is f p framed x.lane h.number h.message h.named xs x 0 part (λ y has. all y (inr has)) row)

-- What is whole is a message that was sent, each fragment of it assigned.
pub honest_whole : (f : Format) (p : Plan) → IsOrderedPlan f p → (x : Piece) (xs : List Piece) →
    ((y : Piece) → Has (x ∷ xs) y → IsFragment f p y) → IsWhole f (x ∷ xs) → IsOneMessage f p x xs
honest_whole f p a = whole_is_one f p (framed_by_arranged f p a)

-- A whole row of kept chunks with all that is kept of this message.
pub record IsGathered (f : Format) (p : Plan) (l : Lane) (n : ℕ) (m : Message) (kept : List Piece) : Type 0 where
  pub head : Piece
  pub rest : List Piece
  pub whole : IsWhole f (head ∷ rest)
  pub within : IsWithin (head ∷ rest) kept
  pub lane : head.lane ≡ l
  pub number : head.number ≡ number_of f l n
  pub all : (y : Piece) (k : ℕ) → Has kept y → entry_at p y.index ≡ Some (Part l n k) → Has (head ∷ rest) y
  pub parts : AreFrom f p l n m 0 (head ∷ rest)

pub one_when_kept : (f : Format) (p : Plan) → IsFramed f p → (l : Lane) (n : ℕ) (m : Message) → message_at p l n ≡ Some m →
    0 < length m.fragments → (kept : List Piece) → ((y : Piece) → Has kept y → IsFragment f p y) →
    ((k : ℕ) → k < length m.fragments → (y : Piece) × Has kept y × (entry_at p y.index ≡ Some (Part l n k))) → IsGathered f p l n m kept
one_when_kept f p framed l n m named some kept all each =
    go (gather f p l n m kept part (length m.fragments) 0 (omega arith))
  where
    part : (k : ℕ) → k < length m.fragments → (y : Piece) × Has kept y × IsPart f p l n m k y
    part k b = let r = each k b in (r.0, r.1, part_here f p l n m k r.0 named (all r.0 r.1) r.2)

    go : (xs : List Piece) × AreFrom f p l n m 0 xs × IsWithin xs kept → IsGathered f p l n m kept
    go ([], last, within) = absurd (omega arith)
    go (x ∷ xs, (h, rest), within) = record {
      head = x;
      rest = xs;
      whole = (is_first f p l n m x h, is_row f p framed l n m xs x 0 (h, rest));
      within = within;
      lane = part_lane f p l n m 0 x h;
      number = part_number f p l n m 0 x h;
      all = λ y k has here. mine y k (part_here f p l n m k y named (all y has) here);
      parts = (h, rest);
    }
      where
        mine : (y : Piece) (k : ℕ) → IsPart f p l n m k y → Has (x ∷ xs) y
        mine y k g =
            let r = all_from f p l n m (x ∷ xs) 0 (h, rest) k (omega arith) g.within in
            let e : r.0.index ≡ y.index = framed.once r.0.index y.index l n k r.2.here g.here in
            let a = r.2.same in
            let b = g.same in
            let q : r.0 ≡ y = cc in
            subst (Has (x ∷ xs)) q r.1

-- If each fragment is kept, the message is whole.
pub whole_when_kept : (f : Format) (p : Plan) → IsOrderedPlan f p → (l : Lane) (n : ℕ) (m : Message) → message_at p l n ≡ Some m →
    (kept : List Piece) → ((y : Piece) → Has kept y → IsFragment f p y) →
    ((k : ℕ) → k < length m.fragments → (i : ℕ) × (entry_at p i ≡ Some (Part l n k)) × Has kept (piece_of f i l n k m)) →
    IsGathered f p l n m kept
whole_when_kept f p a l n m named kept all each =
    one_when_kept f p (framed_by_arranged f p a) l n m named (a.filled l n m named).0 kept all
    (λ k b. let r = each k b in (piece_of f r.0 l n k m, r.2, r.1))
