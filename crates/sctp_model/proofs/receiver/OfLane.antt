-- The kept chunks of one lane: what happens to a lane happens to its own chunks, and leaves those of all others as they were.
use Rattle.std.proofs.Common.{◌≡◌, ◌↔◌, ℕ, ◌+◌, ◌⊎◌, ◌==◌, Bool, true, false, List, [], ◌∷◌, filter, refl, ap, sym, ◌∙◌, inl, inr, arith, eqb-true}
use Rattle.std.specs.Prelude.{not, ◌||◌}
use Rattle.std.proofs.lemmas.Bool.{cases_Bool}
use Rattle.sctp_model.specs.numbers.Lists.{Has}
use Rattle.sctp_model.specs.messages.Format.{Format, Plain, Interleaved, Lane, same_lane, ordered_lane}
use Rattle.sctp_model.specs.messages.Pieces.{Piece, is_number_below}
use Rattle.sctp_model.specs.receiver.ReceiverView.{size_of_pieces}
use Rattle.sctp_model.specs.receiver.Receiving.{IsWholeNumber, IsLowest, HasNoWhole, IsWholeWith, is_below, without_below, has_index, goes_with, without_message}
use Rattle.sctp_model.specs.receiver.KeptOfLane.{of_lane}
use Rattle.sctp_model.specs.receiver.Laws.{IsFilledOnce}
use Rattle.sctp_model.specs.receiver.PieceTaken.{are_one_fragment, is_held, is_repeated}
use Rattle.sctp_model.proofs.receiver.Filters.{filter_passed, filter_where, filter_none, filter_turned}
use Rattle.sctp_model.proofs.receiver.Giving.{filter_passes}
use Rattle.sctp_model.proofs.receiver.OneStep.{filter_has}
use Rattle.sctp_model.proofs.receiver.RowFacts.{row_same, lane_same, lanes_same}

-- the chunks of all other lanes
abbrev pub off_lane : Lane → List Piece → List Piece
off_lane l kept = filter (λ (x : Piece). not (same_lane x.lane l)) kept

-- ---- which chunks those are

pub of_says : (l : Lane) (kept : List Piece) (x : Piece) → Has (of_lane l kept) x → Has kept x × (x.lane ≡ l)
of_says l kept x there = (filter_has _ kept x there, lanes_same x.lane l (filter_passes (λ (y : Piece). same_lane y.lane l) kept x there))

pub of_has : (l : Lane) (kept : List Piece) (x : Piece) → x.lane ≡ l → Has kept x → Has (of_lane l kept) x
of_has l kept x lane there = filter_passed (λ (y : Piece). same_lane y.lane l) kept x (lane_same x.lane l lane) there

differs : (l k : Lane) → (l ≡ k → ⊥) → same_lane l k ≡ false
differs l k other = elim (cases_Bool (same_lane l k)) [ inl same ↦ absurd (other (lanes_same l k same)) | inr apart ↦ apart ]

-- one chunk more
pub of_more : (l : Lane) (x : Piece) (kept : List Piece) → x.lane ≡ l → of_lane l (x ∷ kept) ≡ x ∷ of_lane l kept
of_more l x kept lane = let same = lane_same x.lane l lane in rw same refl

pub of_other : (l : Lane) (x : Piece) (kept : List Piece) → (x.lane ≡ l → ⊥) → of_lane l (x ∷ kept) ≡ of_lane l kept
of_other l x kept other = let apart = differs x.lane l other in rw apart refl

pub off_own : (l : Lane) (x : Piece) (kept : List Piece) → x.lane ≡ l → off_lane l (x ∷ kept) ≡ off_lane l kept
off_own l x kept lane = let same = lane_same x.lane l lane in rw same refl

-- ---- ordered chunks below a number go

below_is : (s n : ℕ) (x : Piece) → x.lane ≡ ordered_lane s → is_below s n x ≡ is_number_below n x.number
below_is s n x lane = let same = lane_same x.lane (ordered_lane s) lane in rw same refl

pub of_below : (s n : ℕ) (kept : List Piece) → of_lane (ordered_lane s) (without_below kept s n) ≡ filter (λ (x : Piece). not (is_number_below n x.number)) (of_lane (ordered_lane s) kept)
of_below s n kept =
    filter_turned (λ (x : Piece). same_lane x.lane (ordered_lane s)) (λ (x : Piece). not (is_below s n x)) kept
    ∙ filter_where (λ (x : Piece). not (is_below s n x)) (λ (x : Piece). not (is_number_below n x.number)) (of_lane (ordered_lane s) kept)
    (λ x there. ap not (below_is s n x (of_says (ordered_lane s) kept x there).1))

not_below : (s n : ℕ) (x : Piece) → same_lane x.lane (ordered_lane s) ≡ false → not (is_below s n x) ≡ true
not_below s n x apart = rw apart refl

pub of_below_other : (l : Lane) (s n : ℕ) (kept : List Piece) → (l ≡ ordered_lane s → ⊥) → of_lane l (without_below kept s n) ≡ of_lane l kept
of_below_other l s n kept other =
    filter_turned (λ (x : Piece). same_lane x.lane l) (λ (x : Piece). not (is_below s n x)) kept
    ∙ filter_none (λ (x : Piece). not (is_below s n x)) (of_lane l kept)
    (λ x there. not_below s n x (differs x.lane (ordered_lane s) (λ e. other (sym (of_says l kept x there).1 ∙ e))))

off_says : (l : Lane) (kept : List Piece) (x : Piece) → Has (off_lane l kept) x → same_lane x.lane l ≡ false
off_says l kept x there = turned (same_lane x.lane l) (filter_passes (λ (y : Piece). not (same_lane y.lane l)) kept x there)
  where
    turned : (b : Bool) → not b ≡ true → b ≡ false
    turned true e = absurd (cc)
    turned false e = refl

pub off_below : (s n : ℕ) (kept : List Piece) → off_lane (ordered_lane s) (without_below kept s n) ≡ off_lane (ordered_lane s) kept
off_below s n kept =
    filter_turned (λ (x : Piece). not (same_lane x.lane (ordered_lane s))) (λ (x : Piece). not (is_below s n x)) kept
    ∙ filter_none (λ (x : Piece). not (is_below s n x)) (off_lane (ordered_lane s) kept) (λ x there. not_below s n x (off_says (ordered_lane s) kept x there))

-- ---- whole messages

-- a whole message of a lane is one of all lists that have that lane's chunks
number_within : (f : Format) (l : Lane) (kept others : List Piece) → ((x : Piece) → x.lane ≡ l → Has kept x → Has others x) →
    (n : ℕ) (xs : List Piece) → IsWholeNumber f kept l n xs → IsWholeNumber f others l n xs
number_within f l kept others to n [] (whole, within, number) = absurd number
number_within f l kept others to n (x ∷ xs) (whole, within, (lane, number)) =
    (whole, (λ y there. to y ((row_same f x xs y whole.1 there).0 ∙ lane) (within y there)), (lane, number))

pub whole_of : (f : Format) (kept : List Piece) (l : Lane) (n : ℕ) (xs : List Piece) → IsWholeNumber f kept l n xs ↔ IsWholeNumber f (of_lane l kept) l n xs
whole_of f kept l n xs = (
  number_within f l kept (of_lane l kept) (λ x lane there. of_has l kept x lane there) n xs,
  number_within f l (of_lane l kept) kept (λ x lane there. (of_says l kept x there).0) n xs,
)

pub none_of : (f : Format) (kept : List Piece) (l : Lane) (n : ℕ) → HasNoWhole f (of_lane l kept) l n → HasNoWhole f kept l n
none_of f kept l n none xs whole = none xs ((whole_of f kept l n xs).0 whole)

pub lowest_of : (f : Format) (kept : List Piece) (l : Lane) (n : ℕ) (xs : List Piece) → IsLowest f (of_lane l kept) l n xs → IsLowest f kept l n xs
lowest_of f kept l n [] low = low
lowest_of f kept l n (x ∷ xs) low = λ y ys whole. low y ys ((whole_of f kept l n (y ∷ ys)).0 whole)

pub with_of : (f : Format) (kept : List Piece) (l : Lane) (y : Piece) (xs : List Piece) → y.lane ≡ l → IsWholeWith f kept y xs ↔ IsWholeWith f (of_lane l kept) y xs
with_of f kept l y [] lane = ((λ w. absurd w.0), (λ w. absurd w.0))
with_of f kept l y (x ∷ xs) lane = (
  (λ w. (w.0, (λ z there. of_has l kept z ((row_same f x xs z w.0.1 there).0 ∙ sym (row_same f x xs y w.0.1 w.2).0 ∙ lane) (w.1 z there)), w.2)),
  (λ w. (w.0, (λ z there. (of_says l kept z (w.1 z there)).0), w.2)),
)

-- what goes with a message is of its lane
has_one : (xs : List Piece) (i : ℕ) → has_index xs i ≡ true → (z : Piece) × Has xs z × (z.index ≡ i)
has_one [] i e = absurd (cc)
has_one (x ∷ xs) i e = elim (cases_Bool (x.index == i)) [
  | inl here ↦ (x, inl refl, eqb-true x.index i here)
  | inr other ↦ let more = has_one xs i (rw other at e) in (more.0, inr more.1, more.2)
]

goes_not : (f : Format) (kept : List Piece) (x : Piece) (xs : List Piece) (w y : Piece) → IsFilledOnce f kept → IsWholeWith f kept w (x ∷ xs) → Has kept y →
    same_lane y.lane x.lane ≡ false → goes_with f (x ∷ xs) y ≡ false
goes_not Interleaved kept x xs w y apart whole there other = rw other refl
goes_not Plain kept x xs w y apart whole there other = elim (cases_Bool (has_index (x ∷ xs) y.index)) [
  | inr none ↦ none
  | inl some ↦
      let z = has_one (x ∷ xs) y.index some in
      let same : z.0 ≡ y = apart z.0 y (whole.1 z.0 z.1) there z.2 in
      let lane : y.lane ≡ x.lane = ap (λ (p : Piece). p.lane) (sym same) ∙ (row_same Plain x xs z.0 whole.0.1 z.1).0 in
      absurd (let yes = lane_same y.lane x.lane lane in cc)
]

pub without_of : (f : Format) (kept : List Piece) (l : Lane) (xs : List Piece) → of_lane l (without_message f kept xs) ≡ without_message f (of_lane l kept) xs
without_of f kept l xs = filter_turned (λ (y : Piece). same_lane y.lane l) (λ (y : Piece). not (goes_with f xs y)) kept

pub without_other : (f : Format) (kept : List Piece) (l : Lane) (x : Piece) (xs : List Piece) (w : Piece) → IsFilledOnce f kept → IsWholeWith f kept w (x ∷ xs) → (x.lane ≡ l → ⊥) →
    of_lane l (without_message f kept (x ∷ xs)) ≡ of_lane l kept
without_other f kept l x xs w apart whole other =
    without_of f kept l (x ∷ xs)
    ∙ filter_none (λ (y : Piece). not (goes_with f (x ∷ xs) y)) (of_lane l kept)
    (λ y there. ap not (goes_not f kept x xs w y apart whole (of_says l kept y there).0 (differs y.lane x.lane (λ e. other (sym e ∙ (of_says l kept y there).1)))))

pub off_without : (f : Format) (kept : List Piece) (x : Piece) (xs : List Piece) (w : Piece) → IsFilledOnce f kept → IsWholeWith f kept w (x ∷ xs) →
    off_lane x.lane (without_message f kept (x ∷ xs)) ≡ off_lane x.lane kept
off_without f kept x xs w apart whole =
    filter_turned (λ (y : Piece). not (same_lane y.lane x.lane)) (λ (y : Piece). not (goes_with f (x ∷ xs) y)) kept
    ∙ filter_none (λ (y : Piece). not (goes_with f (x ∷ xs) y)) (off_lane x.lane kept)
    (λ y there. ap not (goes_not f kept x xs w y apart whole (filter_has (λ (z : Piece). not (same_lane z.lane x.lane)) kept y there) (off_says x.lane kept y there)))

-- ---- a fragment that is kept already

held_of : (kept : List Piece) (x : Piece) → is_held kept x ≡ is_held (of_lane x.lane kept) x
held_of [] x = refl
held_of (y ∷ kept) x = go (cases_Bool (same_lane y.lane x.lane)) (held_of kept x)
  where
    go : (same_lane y.lane x.lane ≡ true) ⊎ (same_lane y.lane x.lane ≡ false) → is_held kept x ≡ is_held (of_lane x.lane kept) x → is_held (y ∷ kept) x ≡ is_held (of_lane x.lane (y ∷ kept)) x
    go (inl same) more =
        let here : of_lane x.lane (y ∷ kept) ≡ y ∷ of_lane x.lane kept = rw same refl in
        ap (λ (b : Bool). are_one_fragment y x || b) more ∙ ap (λ (ps : List Piece). is_held ps x) (sym here)
    go (inr apart) more = rw apart more

pub repeated_of : (f : Format) (kept : List Piece) (x : Piece) → is_repeated f kept x ≡ is_repeated f (of_lane x.lane kept) x
repeated_of Plain kept x = refl
repeated_of Interleaved kept x = held_of kept x

-- ---- bytes

pub size_of_lane : (l : Lane) (kept : List Piece) → size_of_pieces kept ≡ size_of_pieces (of_lane l kept) + size_of_pieces (off_lane l kept)
size_of_lane l [] = omega arith
size_of_lane l (x ∷ kept) = go (cases_Bool (same_lane x.lane l)) (size_of_lane l kept)
  where
    go : (same_lane x.lane l ≡ true) ⊎ (same_lane x.lane l ≡ false) → size_of_pieces kept ≡ size_of_pieces (of_lane l kept) + size_of_pieces (off_lane l kept) →
        size_of_pieces (x ∷ kept) ≡ size_of_pieces (of_lane l (x ∷ kept)) + size_of_pieces (off_lane l (x ∷ kept))
    go (inl same) more = rw same (omega (arith, more))
    go (inr apart) more = rw apart (omega (arith, more))
