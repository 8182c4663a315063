-- FILL: there is one; it is the list after which nothing may go; and the function computes it.
use Rattle.std.proofs.Common.{◌≡◌, ℕ, zero, suc, ◌+◌, ◌-◌, ◌*◌, ◌/◌, ◌<◌, ◌≤◌, List, [], ◌∷◌, ◌++◌, length, true, false, Option, Some, None, refl, sym, ap, ◌∙◌, subst, arith, length-append}
use Rattle.std.specs.Prelude.{nat_le, fold, ◌&&◌, option_and_then}
use Rattle.std.specs.Option.{option_map_or}
use Rattle.std.proofs.lemmas.Bool.{and_parts}
use Rattle.std.proofs.lemmas.Bool.Decides.{nat_tests}
use Rattle.sctp_model.specs.numbers.Limits.{WINDOW}
use Rattle.sctp_model.specs.messages.Format.{Format, Plain, Interleaved}
use Rattle.sctp_model.specs.sender.SenderView.{SenderView}
use Rattle.sctp_model.specs.sender.Words.{when}
use Rattle.sctp_model.specs.sender.Readers.{outstanding}
use Rattle.sctp_model.specs.sender.Filling.{Wish, next_wish, is_let_flow, may_go, room_of, bytes_of_wish, goes, gone, Follows, IsFill, no_more, before_these, fill_at_most, fill}
use Rattle.sctp_model.proofs.sender.WordLaws.{when_there}

-- ---- the wish that goes

pub goes_is : (f : Format) (room : ℕ) (v : SenderView) (w : Wish) → next_wish f v ≡ Some w → may_go f room w ≡ true → goes f room v ≡ Some w
goes_is f room v w next may = rw next (rw may refl)

-- none goes if the next one may not
pub goes_not : (f : Format) (room : ℕ) (v : SenderView) (w : Wish) → next_wish f v ≡ Some w → may_go f room w ≡ false → goes f room v ≡ None
goes_not f room v w next may = rw next (rw may refl)

-- nor if there is none
pub goes_none : (f : Format) (room : ℕ) (v : SenderView) → next_wish f v ≡ None → goes f room v ≡ None
goes_none f room v next = rw next refl

pub goes_parts : (f : Format) (room : ℕ) (v : SenderView) (w : Wish) → goes f room v ≡ Some w → (next_wish f v ≡ Some w) × (may_go f room w ≡ true)
goes_parts f room v w is = by_next (next_wish f v) refl is
  where
    by_next : (o : Option Wish) → next_wish f v ≡ o → option_and_then (λ x. when (may_go f room x) x) o ≡ Some w → (next_wish f v ≡ Some w) × (may_go f room w ≡ true)
    by_next None none here = absurd (cc)
    by_next (Some x) some here =
        let r = when_there (may_go f room x) x w here in
        (some ∙ ap (λ (y : Wish). Some y) r.1, subst (λ (y : Wish). may_go f room y ≡ true) r.1 r.0)

-- it takes space
pub room_some : (f : Format) (w : Wish) → 0 < room_of f w
room_some Plain w = large 16 (length (bytes_of_wish w)) (omega arith)
  where
    large : (header n : ℕ) → 0 < header → 0 < (header + n + 3) / 4 * 4
    large header n some = grind (arith, nat_tests)
room_some Interleaved w = large 20 (length (bytes_of_wish w)) (omega arith)
  where
    large : (header n : ℕ) → 0 < header → 0 < (header + n + 3) / 4 * 4
    large header n some = grind (arith, nat_tests)

pub room_fits : (f : Format) (room : ℕ) (w : Wish) → may_go f room w ≡ true → room_of f w ≤ room
room_fits f room w may = le_of (room_of f w) room (and_parts (nat_le (room_of f w) room) (is_let_flow w && nat_le (outstanding w.view) WINDOW) may).0
  where
    le_of : (a b : ℕ) → nat_le a b ≡ true → a ≤ b
    le_of a b is = grind (arith, nat_tests)

-- ---- one list after another

-- the space that wishes leave
abbrev pub room_after : Format → (room : ℕ) → List Wish → ℕ
room_after f room ws = fold (λ left w. left - room_of f w) room ws

pub follows_on : (f : Format) (v u x : SenderView) (room : ℕ) (ws xs : List Wish) → Follows f v room ws u → Follows f u (room_after f room ws) xs x → Follows f v room (ws ++ xs) x
follows_on f v u x room [] xs first then = subst (λ (y : SenderView). Follows f y room xs x) first then
follows_on f v u x room (w ∷ ws) xs first then = (first.0, follows_on f (gone w) u x (room - room_of f w) ws xs first.1 then)

-- one wish more
pub follows_more : (f : Format) (v u : SenderView) (room : ℕ) (ws : List Wish) (w : Wish) → Follows f v room ws u → goes f (room_after f room ws) u ≡ Some w → Follows f v room (ws ++ w ∷ []) (gone w)
follows_more f v u room ws w first next = follows_on f v u (gone w) room ws (w ∷ []) first (next, refl)

-- each takes space, so there are no more than there are bytes of space
pub follows_fewer : (f : Format) (v u : SenderView) (room : ℕ) (ws : List Wish) → Follows f v room ws u → length ws ≤ room
follows_fewer f v u room [] is = omega arith
follows_fewer f v u room (w ∷ ws) is =
    let rest = follows_fewer f (gone w) u (room - room_of f w) ws is.1 in
    let some = room_some f w in
    let fits = room_fits f room w (goes_parts f room v w is.0).1 in
    omega (arith, rest, some, fits)

-- two of one length are one
pub follows_alike : (f : Format) (v u x : SenderView) (room : ℕ) (ws xs : List Wish) → Follows f v room ws u → Follows f v room xs x → length ws ≡ length xs → (ws ≡ xs) × (u ≡ x)
follows_alike f v u x room [] [] one other long = (refl, one ∙ sym other)
follows_alike f v u x room [] (y ∷ ys) one other long = absurd (omega arith)
follows_alike f v u x room (w ∷ ws) [] one other long = absurd (omega arith)
follows_alike f v u x room (w ∷ ws) (y ∷ ys) one other long =
    let same : y ≡ w = cc (one.0, other.0) in
    let rest = subst (λ (z : Wish). Follows f (gone z) (room - room_of f z) ys x) same other.1 in
    let alike = follows_alike f (gone w) u x (room - room_of f w) ws ys one.1 rest (omega arith) in
    (ap (λ (zs : List Wish). w ∷ zs) alike.0 ∙ ap (λ (z : Wish). z ∷ ys) (sym same), alike.1)

-- ---- there is one

pub one_fill : (f : Format) (v u x : SenderView) (room : ℕ) (ws xs : List Wish) → IsFill f v room ws u → IsFill f v room xs x → (ws ≡ xs) × (u ≡ x)
one_fill f v u x room ws xs one other =
    let more = one.longest xs x other.follows in
    let fewer = other.longest ws u one.follows in
    follows_alike f v u x room ws xs one.follows other.follows (omega arith)

-- ---- it is the list after which nothing may go

pub fill_stops : (f : Format) (v u : SenderView) (room : ℕ) (ws : List Wish) → IsFill f v room ws u → goes f (room_after f room ws) u ≡ None
fill_stops f v u room ws fill = by_goes (goes f (room_after f room ws) u) refl
  where
    by_goes : (o : Option Wish) → goes f (room_after f room ws) u ≡ o → o ≡ None
    by_goes None is = refl
    by_goes (Some w) is =
        let more = fill.longest (ws ++ w ∷ []) (gone w) (follows_more f v u room ws w fill.follows is) in
        let long = length-append ws (w ∷ []) in
        absurd (omega (arith, more, long))

-- what stops is no shorter than any other
stopped_longest : (f : Format) (v u x : SenderView) (room : ℕ) (ws xs : List Wish) → Follows f v room ws u → goes f (room_after f room ws) u ≡ None → Follows f v room xs x → length xs ≤ length ws
stopped_longest f v u x room ws [] here none there = omega arith
stopped_longest f v u x room [] (y ∷ xs) here none there = let quiet : goes f room v ≡ None = subst (λ (z : SenderView). goes f room z ≡ None) here none in absurd (cc (there.0, quiet))
stopped_longest f v u x room (w ∷ ws) (y ∷ xs) here none there =
    let same : y ≡ w = cc (here.0, there.0) in
    let rest = subst (λ (z : Wish). Follows f (gone z) (room - room_of f z) xs x) same there.1 in
    let fewer = stopped_longest f (gone w) u x (room - room_of f w) ws xs here.1 none rest in
    omega (arith, fewer)

pub stopped_is_fill : (f : Format) (v u : SenderView) (room : ℕ) (ws : List Wish) → Follows f v room ws u → goes f (room_after f room ws) u ≡ None → IsFill f v room ws u
stopped_is_fill f v u room ws here none = record { follows = here; longest = λ xs x there. stopped_longest f v u x room ws xs here none there }

-- ---- the function computes it

-- this many at most follow each other
most_follow : (many : ℕ) (f : Format) (room : ℕ) (v : SenderView) → Follows f v room (fill_at_most many f room v).wishes (fill_at_most many f room v).view
most_follow zero f room v = refl
most_follow (suc many) f room v = by_goes (goes f room v) refl (λ r u. most_follow many f r u)
  where
    by_goes : (o : Option Wish) → goes f room v ≡ o → ((r : ℕ) (u : SenderView) → Follows f u r (fill_at_most many f r u).wishes (fill_at_most many f r u).view)
        → Follows f v room (option_map_or (λ w. before_these w (fill_at_most many f (room - room_of f w) (gone w))) o (no_more v)).wishes (option_map_or (λ w. before_these w (fill_at_most many f (room - room_of f w) (gone w))) o (no_more v)).view
    by_goes None is further = refl
    by_goes (Some w) is further = (is, further (room - room_of f w) (gone w))

-- and as many as follow each other are computed
most_computed : (many : ℕ) (f : Format) (v x : SenderView) (room : ℕ) (xs : List Wish) → Follows f v room xs x → length xs ≤ many → length xs ≤ length (fill_at_most many f room v).wishes
most_computed many f v x room [] is le = omega arith
most_computed zero f v x room (w ∷ xs) is le = absurd (omega arith)
most_computed (suc many) f v x room (w ∷ xs) is le =
    let rest = most_computed many f (gone w) x (room - room_of f w) xs is.1 (omega arith) in
    rw is.0 (omega (arith, rest))

pub fill_is_fill : (f : Format) (room : ℕ) (v : SenderView) → IsFill f v room (fill f room v).wishes (fill f room v).view
fill_is_fill f room v = record {
  follows = most_follow room f room v;
  longest = λ xs x is. most_computed room f v x room xs is (follows_fewer f v x room xs is);
}
