-- What an answer to a data chunk says of the chunk: that it is new, has no stream, or isn't wanted.
use Rattle.std.proofs.Common.{◌≡◌, ℕ, ◌<◌, ◌≤◌, ◌⊎◌, ◌==◌, ◌&&◌, not, nat_lt, nat_le, true, false, Bool, List, [], ◌∷◌, Option, Some, None, inl, inr, refl, sym, subst, ap, arith, eqb-true, leb-true}
use Rattle.std.proofs.lemmas.Bool.{and_parts, or_parts, or_cases, cases_lt}
use Rattle.std.proofs.lemmas.Bool.Decides.{nat_tests}
use Rattle.sctp_model.specs.numbers.Lists.{Has}
use Rattle.sctp_model.specs.numbers.Serial.{tsn, before, half_space}
use Rattle.sctp_model.specs.wire.Chunk.{PieceMeaning}
use Rattle.sctp_model.specs.messages.Format.{Format, Plain, Interleaved, Kind, Ordered, Unordered, is_numbered, same_lane}
use Rattle.sctp_model.specs.messages.Pieces.{Piece, same_number, fragment_of, IsNumberBelow}
use Rattle.sctp_model.specs.receiver.ReceiverView.{ReceiverView}
use Rattle.sctp_model.specs.receiver.Receiving.{IsDeliveredNumber, IsPassed}
use Rattle.sctp_model.specs.receiver.Reading.{offset, is_behind, is_ahead, lowest_in, is_late, piece_at}
use Rattle.sctp_model.specs.receiver.PieceTaken.{PieceAnswer, Duplicate, Ahead, NoSuchStream, Passed, NoRoom, Kept, are_one_fragment, is_held, is_repeated, is_passed, is_duplicate, is_too_much, answer_to}
use Rattle.sctp_model.proofs.receiver.RowLemmas.{row_fails, row_holds, row_lacks}
use Rattle.sctp_safety.proofs.lists.Basics.{same_lane-true}

-- ---- a new TSN

-- it lies ahead of that of c, by less than half the space
pub ahead_of : (r : ReceiverView) (c wire : ℕ) → is_behind r c wire ≡ false → (0 < offset r c wire) × (nat_le (half_space 32) (offset r c wire) ≡ false)
ahead_of r c wire new =
    let parts = and_parts (nat_lt 0 (offset r c wire)) (nat_lt (offset r c wire) (half_space 32)) (turned (before 32 (tsn r.initial c) wire) new) in
    let some = parts.0 in
    let less = parts.1 in
    (grind (arith, some, nat_tests), grind (arith, less, nat_tests))
  where
    turned : (b : Bool) → not b ≡ false → b ≡ true
    turned true e = refl
    turned false e = absurd (cc)

-- its TSN is new, and its index isn't recorded
pub record IsFresh (r : ReceiverView) (c i wire : ℕ) : Type 0 where
  pub ahead : is_behind r c wire ≡ false
  pub unseen : r.seen i ≡ false

-- ---- rows of the table

module _ (f : Format) (r : ReceiverView) (c : ℕ) (p : PieceMeaning) where
  pub fresh_is : (a : PieceAnswer) → a ≡ answer_to f r c p → (Duplicate ≡ a → ⊥) → IsFresh r c (piece_at f r c p).index p.tsn
  fresh_is a is other =
      let row = row_fails (is_duplicate f r c p) Duplicate _ a (sym is) other in
      let parts = or_parts (is_behind r c p.tsn) (r.seen (piece_at f r c p).index) row.0 in
      record { ahead = parts.0; unseen = parts.1 }

  pub no_stream_is : NoSuchStream ≡ answer_to f r c p → r.streams ≤ p.stream
  no_stream_is is =
      let first = row_fails (is_duplicate f r c p) Duplicate _ NoSuchStream (sym is) (λ e. cc) in
      let second = row_fails (is_ahead r c p.tsn) Ahead _ NoSuchStream first.1 (λ e. cc) in
      leb-true r.streams p.stream (row_holds (nat_le r.streams p.stream) NoSuchStream _ second.1
      (row_lacks (is_passed f r (piece_at f r c p)) Passed _ NoSuchStream (λ e. cc) (row_lacks (is_too_much f r c p) NoRoom Kept NoSuchStream (λ e. cc) (λ e. cc))))

  pub passed_is : Passed ≡ answer_to f r c p → is_passed f r (piece_at f r c p) ≡ true
  passed_is is =
      let first = row_fails (is_duplicate f r c p) Duplicate _ Passed (sym is) (λ e. cc) in
      let second = row_fails (is_ahead r c p.tsn) Ahead _ Passed first.1 (λ e. cc) in
      let third = row_fails (nat_le r.streams p.stream) NoSuchStream _ Passed second.1 (λ e. cc) in
      row_holds (is_passed f r (piece_at f r c p)) Passed _ third.1 (row_lacks (is_too_much f r c p) NoRoom Kept Passed (λ e. cc) (λ e. cc))

-- ---- a chunk that isn't wanted

-- the fragment that is held already
held_is : (kept : List Piece) (x : Piece) → is_held kept x ≡ true → (y : Piece) × Has kept y × (y.lane ≡ x.lane) × (y.number ≡ x.number) × (fragment_of y ≡ fragment_of x)
held_is [] x h = absurd (cc)
held_is (y ∷ ys) x h = go (or_cases (are_one_fragment y x) (is_held ys x) h) (held_is ys x)
  where
    Held : List Piece → Type 0
    Held zs = (z : Piece) × Has zs z × (z.lane ≡ x.lane) × (z.number ≡ x.number) × (fragment_of z ≡ fragment_of x)

    numbers : (a b : Option ℕ) → same_number a b ≡ true → a ≡ b
    numbers None None e = refl
    numbers None (Some n) e = absurd (cc)
    numbers (Some m) None e = absurd (cc)
    numbers (Some m) (Some n) e = ap (λ (k : ℕ). Some k) (eqb-true m n e)

    go : (are_one_fragment y x ≡ true) ⊎ (is_held ys x ≡ true) → (is_held ys x ≡ true → Held ys) → Held (y ∷ ys)
    go (inr later) more = let z = more later in (z.0, inr z.1, z.2, z.3, z.4)
    go (inl e) more =
        let lane = and_parts (same_lane y.lane x.lane) (same_number y.number x.number && (fragment_of y == fragment_of x)) e in
        let number = and_parts (same_number y.number x.number) (fragment_of y == fragment_of x) lane.1 in
        (y, inl refl, same_lane-true y.lane x.lane lane.0, numbers y.number x.number number.0, eqb-true (fragment_of y) (fragment_of x) number.1)

-- a late number is below the stream's next, or skipped
late_is : (r : ReceiverView) (x : Piece) (n : ℕ) → x.number ≡ Some n → is_late r x.lane x.number ≡ true → IsDeliveredNumber r x.lane.kind x ⊎ IsNumberBelow (r.skip x.lane) x.number
late_is r x n has late = go x.lane.kind (subst (λ (o : Option ℕ). is_late r x.lane o ≡ true) has late)
  where
    below : (m : ℕ) → n < m → IsNumberBelow m x.number
    below m less = subst (IsNumberBelow m) (sym has) less

    go : (k : Kind) → nat_lt n (lowest_in r x.lane k) ≡ true → IsDeliveredNumber r k x ⊎ IsNumberBelow (r.skip x.lane) x.number
    go Unordered h = inr (below (r.skip x.lane) (grind (arith, h, nat_tests)))
    go Ordered h = elim (cases_lt n (r.next x.lane.stream)) [
      | inl less ↦ inl (below (r.next x.lane.stream) less)
      | inr past ↦ inr (below (r.skip x.lane) (grind (arith, h, past, nat_tests)))
    ]

-- A chunk with a number that is passed isn't wanted any longer.
pub passed_by : (f : Format) (r : ReceiverView) (x : Piece) (n : ℕ) → x.number ≡ Some n → is_passed f r x ≡ true → IsPassed f r x
passed_by f r x n has h = elim (or_cases (is_numbered f x.lane.kind && is_late r x.lane x.number) (is_repeated f r.kept x) h) [
  | inl numbered ↦ by_number f (late_is r x n has (and_parts (is_numbered f x.lane.kind) (is_late r x.lane x.number) numbered).1)
  | inr again ↦ by_fragment f again
]
  where
    by_number : (g : Format) → IsDeliveredNumber r x.lane.kind x ⊎ IsNumberBelow (r.skip x.lane) x.number → IsPassed g r x
    by_number Plain late = late
    by_number Interleaved (inl behind) = inl behind
    by_number Interleaved (inr below) = inr (inl below)

    by_fragment : (g : Format) → is_repeated g r.kept x ≡ true → IsPassed g r x
    by_fragment Plain again = absurd (cc)
    by_fragment Interleaved again = inr (inr (held_is r.kept x again))
