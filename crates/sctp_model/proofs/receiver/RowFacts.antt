-- The chunks of one message: of one lane and number, each at a place of its own, and gone together.
use Rattle.std.proofs.Common.{◌≡◌, ℕ, suc, ◌<◌, ◌==◌, true, List, [], ◌∷◌, length, Option, Some, None, refl, ap, sym, ◌∙◌, subst, inl, inr, arith, eqb-true}
use Rattle.std.proofs.lemmas.Bool.{eq-eqb, or_right, and_parts}
use Rattle.std.proofs.lemmas.List.{length-append}
use Rattle.sctp_model.specs.numbers.Lists.{Has, AreInOrder}
use Rattle.sctp_model.specs.messages.Format.{Format, Plain, Interleaved, Kind, Ordered, Unordered, Lane, same_kind, same_lane}
use Rattle.sctp_model.specs.messages.Pieces.{Piece, same_number, fragment_of}
use Rattle.sctp_model.specs.messages.Whole.{Follows, IsRow, IsWhole, text_of}
use Rattle.sctp_model.specs.receiver.ReceiverView.{size_of_pieces}
use Rattle.sctp_model.specs.receiver.Receiving.{has_index, goes_with}

-- ---- of one lane and number

follows_same : (f : Format) (x y : Piece) → Follows f x y → (y.lane ≡ x.lane) × (y.number ≡ x.number)
follows_same Plain x y (lane, number, index, begin) = (lane, number)
follows_same Interleaved x y (lane, number, fragment) = (lane, number)

pub row_same : (f : Format) (x : Piece) (xs : List Piece) (y : Piece) → IsRow f x xs → Has (x ∷ xs) y → (y.lane ≡ x.lane) × (y.number ≡ x.number)
row_same f x xs y row (inl is) = (ap (λ (z : Piece). z.lane) (sym is), ap (λ (z : Piece). z.number) (sym is))
row_same f x [] y row (inr there) = absurd there
row_same f x (w ∷ ws) y row (inr there) =
    let one = follows_same f x w row.1 in
    let more = row_same f w ws y row.2 there in
    (more.0 ∙ one.0, more.1 ∙ one.1)

-- ---- at places of their own

-- what rises by one from a chunk of a message to the next
abbrev pub place : Format → Piece → ℕ
place Plain x = x.index
place Interleaved x = fragment_of x

follows_next : (f : Format) (x y : Piece) → Follows f x y → place f y ≡ suc (place f x)
follows_next Plain x y (lane, number, index, begin) = index
follows_next Interleaved x y (lane, number, fragment) = fragment

pub row_rises : (f : Format) (x : Piece) (xs : List Piece) (y : Piece) → IsRow f x xs → Has xs y → place f x < place f y
row_rises f x [] y row there = absurd there
row_rises f x (w ∷ ws) y row (inl is) = let next = follows_next f x w row.1 in let same : place f w ≡ place f y = ap (place f) is in omega (arith, next, same)
row_rises f x (w ∷ ws) y row (inr there) = let next = follows_next f x w row.1 in let more = row_rises f w ws y row.2 there in omega (arith, next, more)

-- no chunk is in the list again
abbrev pub AreDistinct : {A : Type 0} → List A → Type 0
AreDistinct {A} = AreInOrder (λ (x y : A). x ≡ y → ⊥)

pub row_distinct : (f : Format) (x : Piece) (xs : List Piece) → IsRow f x xs → AreDistinct (x ∷ xs)
row_distinct f x [] row = (λ y there. absurd there, tt)
row_distinct f x (w ∷ ws) row = (
  λ y there same. let above = row_rises f x (w ∷ ws) y row there in let place_same : place f x ≡ place f y = ap (place f) same in omega (arith, above, place_same),
  row_distinct f w ws row.2,
)

-- ---- gone together

pub lane_same : (l k : Lane) → l ≡ k → same_lane l k ≡ true
lane_same l k e = rw e (let a = eq-eqb k.stream k.stream refl in let b = kind_same k.kind in rw (a, b) refl)
  where
    kind_same : (z : Kind) → same_kind z z ≡ true
    kind_same Ordered = refl
    kind_same Unordered = refl

-- and two lanes that the test finds the same are one
pub lanes_same : (l k : Lane) → same_lane l k ≡ true → l ≡ k
lanes_same l k test = λ i. record { stream = stream i; kind = kind i }
  where
    parts : ((l.stream == k.stream) ≡ true) × (same_kind l.kind k.kind ≡ true)
    parts = and_parts (l.stream == k.stream) (same_kind l.kind k.kind) test

    stream : l.stream ≡ k.stream
    stream = eqb-true l.stream k.stream parts.0

    kinds : (a b : Kind) → same_kind a b ≡ true → a ≡ b
    kinds Ordered Ordered e = refl
    kinds Ordered Unordered e = absurd (cc)
    kinds Unordered Ordered e = absurd (cc)
    kinds Unordered Unordered e = refl

    kind : l.kind ≡ k.kind
    kind = kinds l.kind k.kind parts.1

number_same : (m n : Option ℕ) → m ≡ n → same_number m n ≡ true
number_same m n e = subst (λ (o : Option ℕ). same_number o n ≡ true) (sym e) (own n)
  where
    own : (o : Option ℕ) → same_number o o ≡ true
    own None = refl
    own (Some k) = eq-eqb k k refl

index_own : (xs : List Piece) (y : Piece) → Has xs y → has_index xs y.index ≡ true
index_own [] y there = absurd there
index_own (x ∷ xs) y (inl is) = let same = eq-eqb x.index y.index (ap (λ (z : Piece). z.index) is) in rw same refl
index_own (x ∷ xs) y (inr there) = or_right (x.index == y.index) (has_index xs y.index) (index_own xs y there)

-- Each chunk of a whole message goes with it.
pub goes_own : (f : Format) (x : Piece) (xs : List Piece) (y : Piece) → IsWhole f (x ∷ xs) → Has (x ∷ xs) y → goes_with f (x ∷ xs) y ≡ true
goes_own Plain x xs y whole there = index_own (x ∷ xs) y there
goes_own Interleaved x xs y whole there =
    let same = row_same Interleaved x xs y whole.1 there in
    let lane = lane_same y.lane x.lane same.0 in
    let number = number_same y.number x.number same.1 in
    rw (lane, number) refl

-- ---- the bytes of a message are those of its chunks

pub text_size : (xs : List Piece) → length (text_of xs) ≡ size_of_pieces xs
text_size [] = refl
text_size (x ∷ xs) = let first = length-append x.bytes (text_of xs) in let more = text_size xs in omega (arith, first, more)
