-- What is delivered was among what is kept no longer: giving never takes more space.
use Rattle.std.proofs.Common.{◌≡◌, ℕ, suc, ◌+◌, ◌≤◌, ◌⊎◌, nat_lt, Bool, true, false, List, [], ◌∷◌, ◌++◌, filter, length, Option, Some, refl, ap, sym, ◌∙◌, subst, inl, inr, arith}
use Rattle.std.specs.Prelude.{not, ◌&&◌}
use Rattle.std.proofs.lemmas.Bool.{cases_Bool}
use Rattle.std.proofs.lemmas.Bool.Decides.{nat_tests}
use Rattle.sctp_model.specs.numbers.Lists.{Has, IsWithin}
use Rattle.sctp_model.specs.messages.Format.{Format, same_lane, ordered_lane}
use Rattle.sctp_model.specs.messages.Pieces.{Piece, is_number_below}
use Rattle.sctp_model.specs.messages.Whole.{text_of}
use Rattle.sctp_model.specs.receiver.ReceiverView.{Handed, ReceiverView, size_of_pieces, size_of_messages}
use Rattle.sctp_model.specs.receiver.Receiving.{IsWholeNumber, IsWholeWith, IsDue, Stop, GivesWhole, Past, is_below, without_below, goes_with, without_message}
use Rattle.sctp_model.proofs.receiver.RowFacts.{AreDistinct, row_same, row_distinct, goes_own, lane_same, text_size}

-- ---- one element of a list

pub record IsPicked {A : Type 0} (k : A) (ys : List A) : Type 0 where
  pub front : List A
  pub back : List A
  pub is : ys ≡ front ++ k ∷ back

-- of what is within a list, the first element is one, or all is within the rest
pub pick : {A : Type 0} (k : A) (ks ys : List A) → IsWithin ys (k ∷ ks) → IsWithin ys ks ⊎ IsPicked k ys
pick k ks [] within = inl (λ z there. absurd there)
pick k ks (y ∷ ys) within = elim (within y (inl refl)) [
  | inl here ↦ inr (record { front = []; back = ys; is = ap (λ z. z ∷ ys) (sym here) })
  | inr other ↦ elim (pick k ks ys (λ z there. within z (inr there))) [
    | inl all ↦ inl (λ z there. elim there [ inl is ↦ subst (Has ks) is other | inr later ↦ all z later ])
    | inr p ↦ inr (record { front = y ∷ p.front; back = p.back; is = ap (λ zs. y ∷ zs) p.is })
  ]
]

around : {A : Type 0} (front back : List A) (k z : A) → Has (front ++ back) z → Has (front ++ k ∷ back) z
around [] back k z there = inr there
around (y ∷ ys) back k z (inl is) = inl is
around (y ∷ ys) back k z (inr there) = inr (around ys back k z there)

pub between : {A : Type 0} (front back : List A) (k : A) → Has (front ++ k ∷ back) k
between [] back k = inl refl
between (y ∷ ys) back k = inr (between ys back k)

distinct_without : {A : Type 0} (front back : List A) (k : A) → AreDistinct (front ++ k ∷ back) → AreDistinct (front ++ back) × ((z : A) → Has (front ++ back) z → k ≡ z → ⊥)
distinct_without [] back k (first, rest) = (rest, first)
distinct_without (y ∷ ys) back k (first, rest) = (
  (λ z there. first z (around ys back k z there), (distinct_without ys back k rest).0),
  λ z there same. elim there [
    | inl is ↦ first k (between ys back k) (is ∙ sym same)
    | inr later ↦ (distinct_without ys back k rest).1 z later same
  ],
)

size_with : (front back : List Piece) (k : Piece) → size_of_pieces (front ++ k ∷ back) ≡ length k.bytes + size_of_pieces (front ++ back)
size_with [] back k = refl
size_with (y ∷ ys) back k = let more = size_with ys back k in omega (arith, more)

-- ---- chunks that are let go, and those that stay

module _ (stays stood : Piece → Bool) (fewer : (x : Piece) → stays x ≡ true → stood x ≡ true) where
  -- one chunk more that isn't among them
  one_more : (k : Piece) (ks : List Piece) (n : ℕ) → n + size_of_pieces (filter stays ks) ≤ size_of_pieces (filter stood ks) →
      n + size_of_pieces (filter stays (k ∷ ks)) ≤ size_of_pieces (filter stood (k ∷ ks))
  one_more k ks n less = go (cases_Bool (stays k)) (cases_Bool (stood k))
    where
      go : (stays k ≡ true) ⊎ (stays k ≡ false) → (stood k ≡ true) ⊎ (stood k ≡ false) → n + size_of_pieces (filter stays (k ∷ ks)) ≤ size_of_pieces (filter stood (k ∷ ks))
      go (inl a) (inl b) = rw (a, b) (omega (arith, less))
      go (inr a) (inl b) = rw (a, b) (omega (arith, less))
      go (inr a) (inr b) = rw (a, b) less
      go (inl a) (inr b) = absurd (let c = fewer k a in cc)

  -- one chunk more that is
  one_gone : (k : Piece) (ks : List Piece) (n : ℕ) → stays k ≡ false → stood k ≡ true → n + size_of_pieces (filter stays ks) ≤ size_of_pieces (filter stood ks) →
      length k.bytes + n + size_of_pieces (filter stays (k ∷ ks)) ≤ size_of_pieces (filter stood (k ∷ ks))
  one_gone k ks n goes was less = rw (goes, was) (omega (arith, less))

  -- Chunks that were there and don't stay, each once, and those that stay: together no more than those that were there.
  pub gone_size : (kept ys : List Piece) → AreDistinct ys → IsWithin ys kept → ((y : Piece) → Has ys y → (stood y ≡ true) × (stays y ≡ false)) →
      size_of_pieces ys + size_of_pieces (filter stays kept) ≤ size_of_pieces (filter stood kept)
  gone_size [] [] distinct within goes = omega arith
  gone_size [] (y ∷ ys) distinct within goes = absurd (within y (inl refl))
  gone_size (k ∷ ks) ys distinct within goes = by (pick k ks ys within) (gone_size ks ys distinct) (λ rest. gone_size ks rest)
    where
      Goal : List Piece → List Piece → Type 0
      Goal zs ps = size_of_pieces zs + size_of_pieces (filter stays ps) ≤ size_of_pieces (filter stood ps)

      Goes : List Piece → Type 0
      Goes zs = (y : Piece) → Has zs y → (stood y ≡ true) × (stays y ≡ false)

      by : IsWithin ys ks ⊎ IsPicked k ys → (IsWithin ys ks → Goes ys → Goal ys ks) → ((rest : List Piece) → AreDistinct rest → IsWithin rest ks → Goes rest → Goal rest ks) → Goal ys (k ∷ ks)
      by (inl all) same other = one_more k ks (size_of_pieces ys) (same all goes)
      by (inr p) same other = subst (λ (zs : List Piece). Goal zs (k ∷ ks)) (sym p.is) (let n = size_with p.front p.back k in let here = one_gone k ks (size_of_pieces (p.front ++ p.back)) own.1 own.0 less in omega (arith, n, here))
        where
          parts : AreDistinct (p.front ++ p.back) × ((z : Piece) → Has (p.front ++ p.back) z → k ≡ z → ⊥)
          parts = distinct_without p.front p.back k (subst AreDistinct p.is distinct)

          there : (z : Piece) → Has (p.front ++ p.back) z → Has ys z
          there z h = subst (λ (zs : List Piece). Has zs z) (sym p.is) (around p.front p.back k z h)

          own : (stood k ≡ true) × (stays k ≡ false)
          own = goes k (subst (λ (zs : List Piece). Has zs k) (sym p.is) (between p.front p.back k))

          less : Goal (p.front ++ p.back) ks
          less = other (p.front ++ p.back) parts.0 (λ z h. elim (within z (there z h)) [ inl is ↦ absurd (parts.1 z h is) | inr later ↦ later ]) (λ z h. goes z (there z h))

all_stand : (ks : List Piece) → filter (λ (x : Piece). true) ks ≡ ks
all_stand [] = refl
all_stand (k ∷ ks) = ap (λ (zs : List Piece). k ∷ zs) (all_stand ks)

-- ---- an unordered message

pub message_size : (f : Format) (kept : List Piece) (y x : Piece) (xs : List Piece) → IsWholeWith f kept y (x ∷ xs) →
    length (text_of (x ∷ xs)) + size_of_pieces (without_message f kept (x ∷ xs)) ≤ size_of_pieces kept
message_size f kept y x xs (whole, within, has) =
    let less = gone_size (λ (z : Piece). not (goes_with f (x ∷ xs) z)) (λ (z : Piece). true) (λ z e. refl) kept (x ∷ xs) (row_distinct f x xs whole.1) within goes in
    let text = text_size (x ∷ xs) in
    let all : size_of_pieces (filter (λ (z : Piece). true) kept) ≡ size_of_pieces kept = ap size_of_pieces (all_stand kept) in
    omega (arith, less, text, all)
  where
    goes : (z : Piece) → Has (x ∷ xs) z → (true ≡ true) × (not (goes_with f (x ∷ xs) z) ≡ false)
    goes z there = (refl, let own = goes_own f x xs z whole there in rw own refl)

-- ---- what is due on a stream

-- a chunk of this number is below the next number and not below its own
number_goes : (s n : ℕ) (y : Piece) → y.lane ≡ ordered_lane s → y.number ≡ Some n → (not (is_below s n y) ≡ true) × (not (is_below s (suc n) y) ≡ false)
number_goes s n y lane number = (subst (λ (o : Option ℕ). not (same_lane y.lane (ordered_lane s) && is_number_below n o) ≡ true) (sym number) own, subst (λ (o : Option ℕ). not (same_lane y.lane (ordered_lane s) && is_number_below (suc n) o) ≡ false) (sym number) next)
  where
    here : same_lane y.lane (ordered_lane s) ≡ true
    here = lane_same y.lane (ordered_lane s) lane

    own : not (same_lane y.lane (ordered_lane s) && nat_lt n n) ≡ true
    own = let no : nat_lt n n ≡ false = grind (arith, nat_tests) in rw (here, no) refl

    next : not (same_lane y.lane (ordered_lane s) && nat_lt n (suc n)) ≡ false
    next = let yes : nat_lt n (suc n) ≡ true = grind (arith, nat_tests) in rw (here, yes) refl

-- what isn't below a number isn't below a lower one
below_less : (s n : ℕ) (x : Piece) → not (is_below s (suc n) x) ≡ true → not (is_below s n x) ≡ true
below_less s n x stays = grind (arith, stays, nat_tests)

module _ (f : Format) (r : ReceiverView) (s : ℕ) where
  Standing : ℕ → ℕ
  Standing n = size_of_pieces (without_below r.kept s n)

  one_message : (n : ℕ) (x : Piece) (xs : List Piece) → IsWholeNumber f r.kept (ordered_lane s) n (x ∷ xs) → length (text_of (x ∷ xs)) + Standing (suc n) ≤ Standing n
  unfolding Standing
  one_message n x xs (whole, within, (lane, number)) =
      let less = gone_size (λ (z : Piece). not (is_below s (suc n) z)) (λ (z : Piece). not (is_below s n z)) (below_less s n) r.kept (x ∷ xs) (row_distinct f x xs whole.1) within
      (λ z there. let same = row_same f x xs z whole.1 there in number_goes s n z (same.0 ∙ lane) (same.1 ∙ number)) in
      let text = text_size (x ∷ xs) in
      omega (arith, less, text)

  none_gone : (n : ℕ) → Standing (suc n) ≤ Standing n
  unfolding Standing
  none_gone n = let less = gone_size (λ (z : Piece). not (is_below s (suc n) z)) (λ (z : Piece). not (is_below s n z)) (below_less s n) r.kept [] tt (λ z there. absurd there) (λ z there. absurd there) in omega (arith, less)

  due_above : (n : ℕ) (ms : List Handed) (m : ℕ) → IsDue f r s n ms m → size_of_messages ms + Standing m ≤ Standing n
  due_above _ _ _ (Stop n high none) = omega arith
  due_above _ _ _ (GivesWhole n m x xs ms whole low more) = let later = due_above (suc n) ms m more in let here = one_message n x xs whole in omega (arith, later, here)
  due_above _ _ _ (Past n m ms below none more) = let later = due_above (suc n) ms m more in let here = none_gone n in omega (arith, later, here)

  -- What is due on a stream, and what is kept then, is no more than what was kept.
  pub due_size : (n : ℕ) (ms : List Handed) (m : ℕ) → IsDue f r s n ms m → size_of_messages ms + size_of_pieces (without_below r.kept s m) ≤ size_of_pieces r.kept
  unfolding Standing
  due_size n ms m due =
      let later = due_above n ms m due in
      let all = gone_size (λ (z : Piece). not (is_below s n z)) (λ (z : Piece). true) (λ z e. refl) r.kept [] tt (λ z there. absurd there) (λ z there. absurd there) in
      let same : size_of_pieces (filter (λ (z : Piece). true) r.kept) ≡ size_of_pieces r.kept = ap size_of_pieces (all_stand r.kept) in
      omega (arith, later, all, same)
