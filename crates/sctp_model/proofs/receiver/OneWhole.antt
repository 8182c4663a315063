-- Among kept chunks of which no two are for one place, a number has one whole message, a chunk belongs to one at most,
-- and one thing is due.
use Rattle.std.proofs.Common.{◌≡◌, ℕ, suc, ◌<◌, ◌≤◌, true, false, List, [], ◌∷◌, refl, ap, sym, ◌∙◌, subst, inl, inr, arith}
use Rattle.std.proofs.lemmas.Bool.{cases_lt, cases_order}
use Rattle.sctp_model.specs.numbers.Lists.{Has, IsWithin}
use Rattle.sctp_model.specs.messages.Format.{Format, Plain, Interleaved, Lane, ordered_lane}
use Rattle.sctp_model.specs.messages.Pieces.{Piece}
use Rattle.sctp_model.specs.messages.Whole.{IsFirst, Follows, IsRow, IsWhole}
use Rattle.sctp_model.specs.receiver.ReceiverView.{Handed, ReceiverView}
use Rattle.sctp_model.specs.receiver.Receiving.{IsWholeNumber, IsLowest, IsWholeWith, message_of, IsDue, Stop, GivesWhole, Past}
use Rattle.sctp_model.specs.receiver.Laws.{IsOnePlace, IsFilledOnce}

same_place : (f : Format) (x y z : Piece) → Follows f x y → Follows f x z → IsOnePlace f y z
same_place Plain x y z h k = h.2 ∙ sym k.2
same_place Interleaved x y z h k = (h.0 ∙ sym k.0, h.1 ∙ sym k.1, h.2 ∙ sym k.2)

tail_within : (kept : List Piece) (x : Piece) (xs : List Piece) → IsWithin (x ∷ xs) kept → IsWithin xs kept
tail_within kept x xs h z there = h z (inr there)

module _ (f : Format) (kept : List Piece) (apart : IsFilledOnce f kept) where
  pub row_only : (x : Piece) (xs ys : List Piece) → IsRow f x xs → IsRow f x ys → IsWithin xs kept → IsWithin ys kept → xs ≡ ys
  row_only x [] [] h k within there = refl
  row_only x [] (y ∷ ys) h k within there = let on : x.end ≡ false = k.0 in cc
  row_only x (y ∷ ys) [] h k within there = let on : x.end ≡ false = h.0 in cc
  row_only x (y ∷ ys) (z ∷ zs) h k within there =
      let same = apart y z (within y (inl refl)) (there z (inl refl)) (same_place f x y z h.1 k.1) in
      let row = subst (λ (w : Piece). IsRow f w zs) (sym same) k.2 in
      let rest = row_only y ys zs h.2 row (tail_within kept y ys within) (tail_within kept z zs there) in
      ap (λ (w : Piece). w ∷ ys) same ∙ ap (λ (ws : List Piece). z ∷ ws) rest

  whole_same : (x y : Piece) (xs ys : List Piece) → x ≡ y → IsWhole f (x ∷ xs) → IsWhole f (y ∷ ys) → IsWithin xs kept → IsWithin ys kept → x ∷ xs ≡ y ∷ ys
  whole_same x y xs ys same h k within there =
      let row = subst (λ (w : Piece). IsRow f w ys) (sym same) k.1 in
      ap (λ (w : Piece). w ∷ xs) same ∙ ap (λ (ws : List Piece). y ∷ ws) (row_only x xs ys h.1 row within there)

-- two first chunks of one lane and number, neither before the other, fill one place
firsts_meet : (f : Format) (x y : Piece) → IsFirst f x → IsFirst f y → (x.lane ≡ y.lane) × (x.number ≡ y.number) → x.index ≡ y.index → IsOnePlace f x y
firsts_meet Plain x y one other same here = here
firsts_meet Interleaved x y one other (lane, number) here = (lane, number, one ∙ sym other)

pub number_only : (f : Format) (kept : List Piece) (l : Lane) (n : ℕ) → IsFilledOnce f kept → (xs ys : List Piece) →
    IsWholeNumber f kept l n xs → IsLowest f kept l n xs → IsWholeNumber f kept l n ys → IsLowest f kept l n ys → xs ≡ ys
number_only f kept l n apart [] ys h low k least = elim h.0 [ ]
number_only f kept l n apart (x ∷ xs) [] h low k least = elim k.0 [ ]
number_only f kept l n apart (x ∷ xs) (y ∷ ys) h low k least =
    let low_x = low y ys k in
    let low_y = least x xs h in
    let place = firsts_meet f x y h.0.0 k.0.0 (h.2.0 ∙ sym k.2.0, h.2.1 ∙ sym k.2.1) (omega (arith, low_x, low_y)) in
    let same = apart x y (h.1 x (inl refl)) (k.1 y (inl refl)) place in
    whole_same f kept apart x y xs ys same h.0 k.0 (tail_within kept x xs h.1) (tail_within kept y ys k.1)

-- under DATA a row has every index from its first on, and none of them but the first begins a message
row_between : (x : Piece) (xs : List Piece) (y : Piece) (i : ℕ) → IsRow Plain x xs → Has xs y → x.index < i → i ≤ y.index →
    (z : Piece) × Has xs z × (z.index ≡ i) × (z.begin ≡ false)
row_between x [] y i h there above below = elim there [ ]
row_between x (w ∷ ws) y i h (inl e) above below =
    let same : w.index ≡ y.index = ap (λ (v : Piece). v.index) e in
    (w, inl refl, omega (arith, h.1.2), h.1.3)
row_between x (w ∷ ws) y i h (inr there) above below = elim (cases_lt w.index i) [
  | inl past ↦ let z = row_between w ws y i h.2 there past below in (z.0, inr z.1, z.2, z.3)
  | inr here ↦ (w, inl refl, omega (arith, h.1.2), h.1.3)
]

-- no message begins within another
begins_once : (kept : List Piece) (x z y : Piece) (xs : List Piece) → IsFilledOnce Plain kept → IsWhole Plain (x ∷ xs) → IsWithin (x ∷ xs) kept → Has kept z → IsFirst Plain z →
    Has (x ∷ xs) y → z.index ≤ y.index → x.index < z.index → ⊥
begins_once kept x z y xs apart h within here first (inl e) below above = let same : x.index ≡ y.index = ap (λ (v : Piece). v.index) e in omega arith
begins_once kept x z y xs apart h within here first (inr there) below above =
    let w = row_between x xs y z.index h.1 there above below in
    let same = apart w.0 z (within w.0 (inr w.1)) here w.2 in
    let begins : w.0.begin ≡ true = ap (λ (v : Piece). v.begin) same ∙ first in
    let goes : w.0.begin ≡ false = w.3 in
    cc

row_rises : (x : Piece) (xs : List Piece) (y : Piece) → IsRow Plain x xs → Has xs y → x.index < y.index
row_rises x [] y h there = elim there [ ]
row_rises x (w ∷ ws) y h (inl e) = let same : w.index ≡ y.index = ap (λ (v : Piece). v.index) e in omega (arith, h.1.2)
row_rises x (w ∷ ws) y h (inr there) = omega (arith, h.1.2, row_rises w ws y h.2 there)

first_least : (x : Piece) (xs : List Piece) (y : Piece) → IsRow Plain x xs → Has (x ∷ xs) y → x.index ≤ y.index
first_least x xs y h (inl e) = let same : x.index ≡ y.index = ap (λ (v : Piece). v.index) e in omega arith
first_least x xs y h (inr there) = omega (arith, row_rises x xs y h there)

-- under I-DATA all fragments of a message have its lane and number
row_number : (x : Piece) (xs : List Piece) (y : Piece) → IsRow Interleaved x xs → Has (x ∷ xs) y → (y.lane ≡ x.lane) × (y.number ≡ x.number)
row_number x xs y h (inl e) = (ap (λ (v : Piece). v.lane) (sym e), ap (λ (v : Piece). v.number) (sym e))
row_number x [] y h (inr there) = elim there [ ]
row_number x (w ∷ ws) y h (inr there) = let rest = row_number w ws y h.2 there in (rest.0 ∙ h.1.0, rest.1 ∙ h.1.1)

one_first : (f : Format) (kept : List Piece) (y : Piece) → IsFilledOnce f kept → (x z : Piece) (xs zs : List Piece) →
    IsWholeWith f kept y (x ∷ xs) → IsWholeWith f kept y (z ∷ zs) → IsOnePlace f x z
one_first Plain kept y apart x z xs zs h k = elim (cases_order x.index z.index) [
  | inl same ↦ same
  | inr other ↦ elim other [
    | inl below ↦ absurd (begins_once kept x z y xs apart h.0 h.1 (k.1 z (inl refl)) k.0.0 h.2 (first_least z zs y k.0.1 k.2) below)
    | inr above ↦ absurd (begins_once kept z x y zs apart k.0 k.1 (h.1 x (inl refl)) h.0.0 k.2 (first_least x xs y h.0.1 h.2) above)
  ]
]
one_first Interleaved kept y apart x z xs zs h k =
    let mine = row_number x xs y h.0.1 h.2 in
    let its = row_number z zs y k.0.1 k.2 in
    (sym mine.0 ∙ its.0, sym mine.1 ∙ its.1, h.0.0 ∙ sym k.0.0)

pub with_only : (f : Format) (kept : List Piece) (y : Piece) → IsFilledOnce f kept → (xs ys : List Piece) → IsWholeWith f kept y xs → IsWholeWith f kept y ys → xs ≡ ys
with_only f kept y apart [] ys h k = elim h.0 [ ]
with_only f kept y apart (x ∷ xs) [] h k = elim k.0 [ ]
with_only f kept y apart (x ∷ xs) (z ∷ zs) h k =
    let same = apart x z (h.1 x (inl refl)) (k.1 z (inl refl)) (one_first f kept y apart x z xs zs h k) in
    whole_same f kept apart x z xs zs same h.0 k.0 (tail_within kept x xs h.1) (tail_within kept z zs k.1)

-- what is due from a number on, and the number where it stops
abbrev IsSameDue : List Handed → ℕ → List Handed → ℕ → Type 0
IsSameDue ms m os o = (ms ≡ os) × (m ≡ o)

pub same_message : (f : Format) (x : Piece) (xs : List Piece) (y : Piece) (ys : List Piece) → x ∷ xs ≡ y ∷ ys → message_of f x xs ≡ message_of f y ys
same_message f x xs y ys e = λ i. message_of f (first i) (others i)
  where
    first : x ≡ y
    first = let both = e in cc

    others : xs ≡ ys
    others = let both = e in cc

pub due_only : (f : Format) (r : ReceiverView) (s : ℕ) → IsFilledOnce f r.kept → (n : ℕ) (ms : List Handed) (m : ℕ) (os : List Handed) (o : ℕ) →
    IsDue f r s n ms m → IsDue f r s n os o → IsSameDue ms m os o
due_only f r s apart _ _ _ _ _ (Stop n above none) (Stop _ high empty) = (refl, refl)
due_only f r s apart _ _ _ _ _ (Stop n above none) (GivesWhole _ o x xs os whole low rest) = absurd (none (x ∷ xs) whole)
due_only f r s apart _ _ _ _ _ (Stop n above none) (Past _ o os below empty rest) = absurd (omega arith)
due_only f r s apart _ _ _ _ _ (GivesWhole n m x xs ms whole low rest) (Stop _ high empty) = absurd (empty (x ∷ xs) whole)
due_only f r s apart _ _ _ _ _ (GivesWhole n m x xs ms whole low rest) (GivesWhole _ o y ys os its least others) =
    let same = number_only f r.kept (ordered_lane s) n apart (x ∷ xs) (y ∷ ys) whole low its least in
    let tail = due_only f r s apart (suc n) ms m os o rest others in
    (ap (λ (h : Handed). h ∷ ms) (same_message f x xs y ys same) ∙ ap (λ (hs : List Handed). message_of f y ys ∷ hs) tail.0, tail.1)
due_only f r s apart _ _ _ _ _ (GivesWhole n m x xs ms whole low rest) (Past _ o os below empty others) = absurd (empty (x ∷ xs) whole)
due_only f r s apart _ _ _ _ _ (Past n m ms below none rest) (Stop _ high empty) = absurd (omega arith)
due_only f r s apart _ _ _ _ _ (Past n m ms below none rest) (GivesWhole _ o y ys os its least others) = absurd (none (y ∷ ys) its)
due_only f r s apart _ _ _ _ _ (Past n m ms below none rest) (Past _ o os low empty others) = due_only f r s apart (suc n) ms m os o rest others
