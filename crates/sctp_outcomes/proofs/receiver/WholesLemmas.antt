-- The lists computed are the whole messages among kept chunks: these, and no others.
use Rattle.std.proofs.Common.{◌≡◌, ℕ, zero, suc, ◌+◌, ◌==◌, ◌<◌, ◌≤◌, not, Bool, true, false, List, [], ◌∷◌, inl, inr, refl, ap, subst, arith, eqb-true}
use Rattle.std.proofs.lemmas.Bool.{and_parts, eq-eqb}
use Rattle.sctp_model.specs.numbers.Lists.{Has, IsWithin}
use Rattle.sctp_model.specs.messages.Format.{Format, Plain, Interleaved, same_lane}
use Rattle.sctp_model.specs.messages.Pieces.{Piece, fragment_of, same_number}
use Rattle.sctp_model.specs.messages.Whole.{IsFirst, Follows, IsRow, IsWhole}
use Rattle.sctp_outcomes.specs.receiver.Wholes.{is_first_chunk, place_on_wire, follows, places, first_chunks, rows, wholes}
use Rattle.sctp_outcomes.proofs.receiver.MemberLemmas.{has_source, has_image, has_longer, has_shorter}
use Rattle.sctp_outcomes.proofs.receiver.SameLemmas.{both, lane_is, lane_same, number_is, number_same}

-- ---- tests

first_is : (f : Format) (x : Piece) → is_first_chunk f x ≡ true → IsFirst f x
first_is Plain x e = e
first_is Interleaved x e = eqb-true (fragment_of x) 0 e

is_first_is : (f : Format) (x : Piece) → IsFirst f x → is_first_chunk f x ≡ true
is_first_is Plain x e = e
is_first_is Interleaved x e = eq-eqb (fragment_of x) 0 e

not_true : (b : Bool) → not b ≡ true → b ≡ false
not_true true e = absurd (cc)
not_true false e = refl

follows_is : (f : Format) (x y : Piece) → follows f x y ≡ true → Follows f x y
follows_is Plain x y e =
    let a = and_parts (same_lane y.lane x.lane) _ e in
    let b = and_parts (same_number y.number x.number) _ a.1 in
    let c = and_parts (y.index == suc x.index) _ b.1 in
    (lane_is y.lane x.lane a.0, number_is y.number x.number b.0, eqb-true y.index (suc x.index) c.0, not_true y.begin c.1)
follows_is Interleaved x y e =
    let a = and_parts (same_lane y.lane x.lane) _ e in
    let b = and_parts (same_number y.number x.number) _ a.1 in
    let c = and_parts (fragment_of y == suc (fragment_of x)) _ b.1 in
    (lane_is y.lane x.lane a.0, number_is y.number x.number b.0, eqb-true (fragment_of y) (suc (fragment_of x)) c.0)

is_follows : (f : Format) (x y : Piece) → Follows f x y → follows f x y ≡ true
is_follows Plain x y (l, n, i, b) =
    both _ _ (lane_same y.lane x.lane l) (both _ _ (number_same y.number x.number n)
    (both _ _ (eq-eqb y.index (suc x.index) i) (ap (λ (z : Bool). not z) b)))
is_follows Interleaved x y (l, n, i) =
    both _ _ (lane_same y.lane x.lane l) (both _ _ (number_same y.number x.number n)
    (both _ _ (eq-eqb (fragment_of y) (suc (fragment_of x)) i) refl))

-- ---- places

rises : (f : Format) (x y : Piece) → Follows f x y → place_on_wire f y ≡ suc (place_on_wire f x)
rises Plain x y (l, n, i, b) = i
rises Interleaved x y (l, n, i) = i

below_places : (f : Format) (kept : List Piece) (x : Piece) → Has kept x → place_on_wire f x < places f kept
below_places f [] x h = absurd h
below_places f (y ∷ kept) x (inl e) = let same : place_on_wire f y ≡ place_on_wire f x = ap (place_on_wire f) e in omega arith
below_places f (y ∷ kept) x (inr h) = let l = below_places f kept x h in omega arith

-- ---- the lists that begin with a chunk

begins : (b : Bool) (y : Piece) (more : Bool → Piece → List (List Piece)) (w : List Piece) → Has (first_chunks b y more) w →
    (ys : List Piece) × (b ≡ true) × (y ∷ ys ≡ w) × Has (more y.end y) ys
begins false y more w h = absurd h
begins true y more w h = let t = has_shorter y (more y.end y) w h in (t.0, refl, t.1, t.2)

has_beginning : (b : Bool) (y : Piece) (more : Bool → Piece → List (List Piece)) (ys : List Piece) → b ≡ true → Has (more y.end y) ys →
    Has (first_chunks b y more) (y ∷ ys)
has_beginning true y more ys e h = has_longer y (more y.end y) ys h
has_beginning false y more ys e h = absurd (cc)

-- ---- rows

-- kept chunks that go on after x to the end of its message
abbrev GoesOn : Format → List Piece → Piece → List Piece → Type 0
GoesOn f kept x xs = IsRow f x xs × IsWithin xs kept

within_more : (kept : List Piece) (y : Piece) (ys : List Piece) → Has kept y → IsWithin ys kept → IsWithin (y ∷ ys) kept
within_more kept y ys h within z (inl e) = subst (Has kept) e h
within_more kept y ys h within z (inr k) = within z k

ends : (f : Format) (kept : List Piece) (x : Piece) (xs : List Piece) → x.end ≡ true → Has ([] ∷ []) xs → GoesOn f kept x xs
ends f kept x [] e h = (e, λ y k. absurd k)
ends f kept x (z ∷ zs) e (inl h) = absurd (cc)
ends f kept x (z ∷ zs) e (inr h) = absurd h

rows_are : (f : Format) (kept : List Piece) (d : ℕ) (b : Bool) (x : Piece) (xs : List Piece) → x.end ≡ b → Has (rows f kept d b x) xs → GoesOn f kept x xs
rows_are f kept zero true x xs e h = ends f kept x xs e h
rows_are f kept (suc d) true x xs e h = ends f kept x xs e h
rows_are f kept zero false x xs e h = absurd h
rows_are f kept (suc d) false x xs e h =
    let s = has_source (λ (y : Piece). first_chunks (follows f x y) y (rows f kept d)) kept xs h in
    let t = begins (follows f x s.0) s.0 (rows f kept d) xs s.2 in
    let more = rows_are f kept d s.0.end s.0 t.0 refl t.3 in
    subst (GoesOn f kept x) t.2 ((e, follows_is f x s.0 t.1, more.0), within_more kept s.0 t.0 s.1 more.1)

has_rows : (f : Format) (kept : List Piece) (xs : List Piece) (d : ℕ) (b : Bool) (x : Piece) → x.end ≡ b → IsRow f x xs → IsWithin xs kept →
    places f kept ≤ d + suc (place_on_wire f x) → Has (rows f kept d b x) xs
has_rows f kept [] zero true x e row within enough = inl refl
has_rows f kept [] (suc d) true x e row within enough = inl refl
has_rows f kept [] d false x e row within enough = absurd (cc)
has_rows f kept (y ∷ ys) d true x e (stop, goes, row) within enough = absurd (cc)
has_rows f kept (y ∷ ys) zero false x e (stop, goes, row) within enough =
    let a = below_places f kept y (within y (inl refl)) in
    let b = rises f x y goes in
    absurd (omega arith)
has_rows f kept (y ∷ ys) (suc d) false x e (stop, goes, row) within enough =
    let a = rises f x y goes in
    let more = has_rows f kept ys d y.end y refl row (λ z h. within z (inr h)) (omega arith) in
    has_image (λ (z : Piece). first_chunks (follows f x z) z (rows f kept d)) kept y (y ∷ ys) (within y (inl refl))
    (has_beginning (follows f x y) y (rows f kept d) ys (is_follows f x y goes) more)

-- ---- whole messages

pub wholes_are : (f : Format) (kept xs : List Piece) → Has (wholes f kept) xs → IsWhole f xs × IsWithin xs kept
wholes_are f kept xs h =
    let s = has_source (λ (x : Piece). first_chunks (is_first_chunk f x) x (rows f kept (places f kept))) kept xs h in
    let t = begins (is_first_chunk f s.0) s.0 (rows f kept (places f kept)) xs s.2 in
    let more = rows_are f kept (places f kept) s.0.end s.0 t.0 refl t.3 in
    subst (λ (w : List Piece). IsWhole f w × IsWithin w kept) t.2 ((first_is f s.0 t.1, more.0), within_more kept s.0 t.0 s.1 more.1)

pub has_wholes : (f : Format) (kept xs : List Piece) → IsWhole f xs → IsWithin xs kept → Has (wholes f kept) xs
has_wholes f kept [] whole within = absurd whole
has_wholes f kept (x ∷ xs) (first, row) within =
    has_image (λ (z : Piece). first_chunks (is_first_chunk f z) z (rows f kept (places f kept))) kept x (x ∷ xs) (within x (inl refl))
    (has_beginning (is_first_chunk f x) x (rows f kept (places f kept)) xs (is_first_is f x first)
    (has_rows f kept xs (places f kept) x.end x refl row (λ z h. within z (inr h)) (omega arith)))
