-- The whole message of a lane and number, and the one that a chunk belongs to, computed.
use Rattle.std.proofs.Common.{◌≡◌, ℕ, ◌<◌, ◌≤◌, ◌||◌, nat_lt, ◌⊎◌, cond, Bool, true, false, List, [], ◌∷◌, filter, Option, None, Some, inl, inr, refl, ap, subst, arith}
use Rattle.std.proofs.lemmas.Bool.{and_parts, cond_both}
use Rattle.std.proofs.lemmas.Bool.Decides.{nat_tests}
use Rattle.sctp_model.specs.numbers.Lists.{Has}
use Rattle.sctp_model.specs.messages.Format.{Format, Lane, same_lane}
use Rattle.sctp_model.specs.messages.Pieces.{Piece, same_number}
use Rattle.sctp_model.specs.receiver.Receiving.{IsNumberOf, IsWholeNumber, IsLowest, HasNoWhole, IsWholeWith}
use Rattle.sctp_outcomes.specs.receiver.Wholes.{wholes, is_number_of, first_index, lower, lowest_first, whole_number, same_piece, has_piece, first_with, whole_with}
use Rattle.sctp_outcomes.proofs.receiver.MemberLemmas.{filtered_has, has_filtered}
use Rattle.sctp_outcomes.proofs.receiver.SameLemmas.{both, lane_is, lane_same, number_is, number_same, piece_is, piece_same}
use Rattle.sctp_outcomes.proofs.receiver.WholesLemmas.{wholes_are, has_wholes}

pub below_true : (a b : ℕ) → nat_lt a b ≡ true → a < b
below_true a b e = grind (arith, nat_tests)

pub below_false : (a b : ℕ) → nat_lt a b ≡ false → b ≤ a
below_false a b e = grind (arith, nat_tests)

-- ---- the lowest of some lists

abbrev IsLowestOf : List (List Piece) → List Piece → Type 0
IsLowestOf ws w = Has ws w × ((v : List Piece) → Has ws v → first_index w ≤ first_index v)

lowest_none : (ws : List (List Piece)) → lowest_first ws ≡ None → (w : List Piece) → Has ws w → ⊥
lowest_none [] e w h = h
lowest_none (x ∷ ws) e w h = absurd (cc)

lower_is : (x : List Piece) (ws : List (List Piece)) (o : Option (List Piece)) → lowest_first ws ≡ o → ((v : List Piece) → lowest_first ws ≡ Some v → IsLowestOf ws v) →
    IsLowestOf (x ∷ ws) (lower x o)
lower_is x ws None e more = (inl refl, only)
  where
    only : (v : List Piece) → Has (x ∷ ws) v → first_index x ≤ first_index v
    only v (inl s) = let same : first_index x ≡ first_index v = ap first_index s in omega arith
    only v (inr h) = absurd (lowest_none ws e v h)
lower_is x ws (Some u) e more =
    cond_both (nat_lt (first_index u) (first_index x)) u x (IsLowestOf (x ∷ ws)) (λ t. other t (more u e)) (λ t. this t (more u e))
  where
    other : nat_lt (first_index u) (first_index x) ≡ true → IsLowestOf ws u → IsLowestOf (x ∷ ws) u
    other t (h, low) = (inr h, least)
      where
        least : (v : List Piece) → Has (x ∷ ws) v → first_index u ≤ first_index v
        least v (inl s) = let same : first_index x ≡ first_index v = ap first_index s in let b = below_true (first_index u) (first_index x) t in omega arith
        least v (inr k) = low v k

    this : nat_lt (first_index u) (first_index x) ≡ false → IsLowestOf ws u → IsLowestOf (x ∷ ws) x
    this t (h, low) = (inl refl, least)
      where
        least : (v : List Piece) → Has (x ∷ ws) v → first_index x ≤ first_index v
        least v (inl s) = let same : first_index x ≡ first_index v = ap first_index s in omega arith
        least v (inr k) = let b = below_false (first_index u) (first_index x) t in let l = low v k in omega arith

lowest_is : (ws : List (List Piece)) (w : List Piece) → lowest_first ws ≡ Some w → IsLowestOf ws w
lowest_is [] w e = absurd (cc)
lowest_is (x ∷ ws) w e =
    let same : lower x (lowest_first ws) ≡ w = cc in
    subst (IsLowestOf (x ∷ ws)) same (lower_is x ws (lowest_first ws) refl (lowest_is ws))

-- ---- the whole message of a number

is_number : (l : Lane) (n : ℕ) (xs : List Piece) → is_number_of l n xs ≡ true → IsNumberOf l n xs
is_number l n [] e = absurd (cc)
is_number l n (x ∷ xs) e =
    let p = and_parts (same_lane x.lane l) (same_number x.number (Some n)) e in
    (lane_is x.lane l p.0, number_is x.number (Some n) p.1)

number_tests : (l : Lane) (n : ℕ) (xs : List Piece) → IsNumberOf l n xs → is_number_of l n xs ≡ true
number_tests l n [] h = absurd h
number_tests l n (x ∷ xs) (a, b) = both _ _ (lane_same x.lane l a) (number_same x.number (Some n) b)

module _ (f : Format) (kept : List Piece) (l : Lane) (n : ℕ) where
  member_is : (w : List Piece) → Has (filter (is_number_of l n) (wholes f kept)) w → IsWholeNumber f kept l n w
  member_is w h =
      let a = filtered_has (is_number_of l n) (wholes f kept) w h in
      let b = wholes_are f kept w a.0 in
      (b.0, b.1, is_number l n w a.1)

  is_member : (w : List Piece) → IsWholeNumber f kept l n w → Has (filter (is_number_of l n) (wholes f kept)) w
  is_member w (whole, within, number) = has_filtered (is_number_of l n) (wholes f kept) w (has_wholes f kept w whole within) (number_tests l n w number)

  whole_lowest : (w : List Piece) → IsLowestOf (filter (is_number_of l n) (wholes f kept)) w → IsNumberOf l n w → IsLowest f kept l n w
  whole_lowest [] low number = absurd number
  whole_lowest (x ∷ xs) (h, low) number = λ y ys whole. low (y ∷ ys) (is_member (y ∷ ys) whole)

  pub whole_is : (w : List Piece) → whole_number f kept l n ≡ Some w → IsWholeNumber f kept l n w × IsLowest f kept l n w
  whole_is w e =
      let low = lowest_is (filter (is_number_of l n) (wholes f kept)) w e in
      let whole = member_is w low.0 in
      (whole, whole_lowest w low whole.2)

  pub none_whole : whole_number f kept l n ≡ None → HasNoWhole f kept l n
  none_whole e w whole = lowest_none (filter (is_number_of l n) (wholes f kept)) e w (is_member w whole)

-- ---- the whole message that a chunk belongs to

or_true : (a b : Bool) → (a || b) ≡ true → (a ≡ true) ⊎ (b ≡ true)
or_true true b e = inl refl
or_true false b e = inr e

has_is : (xs : List Piece) (y : Piece) → has_piece xs y ≡ true → Has xs y
has_is [] y e = absurd (cc)
has_is (x ∷ xs) y e = go (or_true (same_piece x y) (has_piece xs y) e) (has_is xs y)
  where
    go : (same_piece x y ≡ true) ⊎ (has_piece xs y ≡ true) → (has_piece xs y ≡ true → Has xs y) → Has (x ∷ xs) y
    go (inl s) more = inl (piece_is x y s)
    go (inr s) more = inr (more s)

or_left : (a b : Bool) → a ≡ true → (a || b) ≡ true
or_left true b e = refl
or_left false b e = absurd (cc)

or_right : (a b : Bool) → b ≡ true → (a || b) ≡ true
or_right true b e = refl
or_right false b e = e

is_has : (xs : List Piece) (y : Piece) → Has xs y → has_piece xs y ≡ true
is_has [] y h = absurd h
is_has (x ∷ xs) y (inl e) = or_left (same_piece x y) (has_piece xs y) (subst (λ (z : Piece). same_piece x z ≡ true) e (piece_same x))
is_has (x ∷ xs) y (inr h) = or_right (same_piece x y) (has_piece xs y) (is_has xs y h)

first_is : (y : Piece) (ws : List (List Piece)) (w : List Piece) → first_with y ws ≡ Some w → Has ws w × Has w y
first_is y [] w e = absurd (cc)
first_is y (v ∷ ws) w e = go (has_piece v y) refl (first_is y ws w) e
  where
    go : (b : Bool) → has_piece v y ≡ b → (first_with y ws ≡ Some w → Has ws w × Has w y) → cond b (Some v) (first_with y ws) ≡ Some w → Has (v ∷ ws) w × Has w y
    go true t more e = let same : v ≡ w = cc in (inl same, subst (λ (z : List Piece). Has z y) same (has_is v y t))
    go false t more e = let r = more e in (inr r.0, r.1)

first_none : (y : Piece) (ws : List (List Piece)) → first_with y ws ≡ None → (w : List Piece) → Has ws w → Has w y → ⊥
first_none y [] e w h k = h
first_none y (v ∷ ws) e w h k = go (has_piece v y) refl (first_none y ws) e h
  where
    go : (b : Bool) → has_piece v y ≡ b → (first_with y ws ≡ None → (u : List Piece) → Has ws u → Has u y → ⊥) → cond b (Some v) (first_with y ws) ≡ None → Has (v ∷ ws) w → ⊥
    go true t more e h = absurd (cc)
    go false t more e (inl s) = let a : has_piece w y ≡ true = is_has w y k in let b : has_piece v y ≡ has_piece w y = ap (λ (z : List Piece). has_piece z y) s in absurd (cc)
    go false t more e (inr m) = more e w m k

pub with_is : (f : Format) (kept : List Piece) (y : Piece) (w : List Piece) → whole_with f kept y ≡ Some w → IsWholeWith f kept y w
with_is f kept y w e =
    let a = first_is y (wholes f kept) w e in
    let b = wholes_are f kept w a.0 in
    (b.0, b.1, a.1)

pub none_with : (f : Format) (kept : List Piece) (y : Piece) → whole_with f kept y ≡ None → (w : List Piece) → IsWholeWith f kept y w → ⊥
none_with f kept y e w (whole, within, has) = first_none y (wholes f kept) e w (has_wholes f kept w whole within) has
