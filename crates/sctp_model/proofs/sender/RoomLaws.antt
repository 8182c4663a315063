-- A pace gives fragments no more space than a packet has; if nothing is in flight, it gives all of it.
use Rattle.std.proofs.Common.{◌≡◌, ℕ, zero, suc, ◌+◌, ◌-◌, ◌≤◌, Bool, true, false, nat_le, List, [], ◌∷◌, length, Option, None, Some, refl, arith, if◌then◌else◌}
use Rattle.std.specs.Prelude.{◌&&◌}
use Rattle.std.proofs.lemmas.Bool.{and_parts}
use Rattle.std.proofs.lemmas.Bool.Decides.{nat_tests}
use Rattle.sctp_model.specs.numbers.Limits.{WINDOW}
use Rattle.sctp_model.specs.sender.Readers.{outstanding}
use Rattle.sctp_model.specs.messages.Format.{Format}
use Rattle.sctp_model.specs.sender.SenderView.{SenderView}
use Rattle.sctp_model.specs.sender.Filling.{Wish, next_wish, room_of, is_let_flow, goes, gone, Follows, fill_at_most, fill}
use Rattle.sctp_model.specs.end.Control.{Control, chunk_flight, is_let_in, room_of_repeats, room_controlled}
use Rattle.sctp_model.specs.end.Pacing.{Pace, room_paced, room_by}
use Rattle.sctp_model.proofs.sender.FillLaws.{goes_is, goes_not, goes_none, goes_parts, room_some, room_fits, fill_is_fill}

repeats_fit : (f : Format) (v : SenderView) (room : ℕ) (ws : List Wish) (u : SenderView) → Follows f v room ws u → room_of_repeats f ws ≤ room
repeats_fit f v room [] u h = omega arith
repeats_fit f v room (w ∷ ws) u (first, rest) = go (w.view.sent w.index) (repeats_fit f (gone w) (room - room_of f w) ws u rest)
  where
    fits : room_of f w ≤ room
    fits = room_fits f room w (goes_parts f room v w first).1

    go : (b : Bool) → room_of_repeats f ws ≤ room - room_of f w → (if b then room_of f w + room_of_repeats f ws else 0) ≤ room
    go true more = omega (arith, fits, more)
    go false more = omega arith

controlled_fits : (k : Control) (f : Format) (room : ℕ) (v : SenderView) → room_controlled k f room v ≤ room
controlled_fits k f room v = go (is_let_in (chunk_flight k.header v) k)
  where
    saved : (b : Bool) → (if b then room_of_repeats f (fill f room v).wishes else 0) ≤ room
    saved true = repeats_fit f v room (fill f room v).wishes (fill f room v).view (fill_is_fill f room v).follows
    saved false = omega arith

    go : (b : Bool) → (if b then room else if k.rescue then room_of_repeats f (fill f room v).wishes else 0) ≤ room
    go true = omega arith
    go false = saved k.rescue

pub room_is_there : (o : Option Pace) (f : Format) (room : ℕ) (v : SenderView) → room_by o f room v ≤ room
room_is_there None f room v = omega arith
room_is_there (Some p) f room v = by p.control
  where
    by : (o : Option Control) → room_paced o f room v ≤ room
    by None = omega arith
    by (Some k) = controlled_fits k f room v

-- ---- the packet that goes at once

-- those at the head of a list that went out before
abbrev pub repeats_of_list : List Wish → List Wish
repeats_of_list [] = []
repeats_of_list (w ∷ ws) = if w.view.sent w.index then w ∷ repeats_of_list ws else []

-- into no space nothing fits
nothing_fits : (f : Format) (v : SenderView) → goes f 0 v ≡ None
nothing_fits f v = go (next_wish f v) refl
  where
    go : (o : Option Wish) → next_wish f v ≡ o → goes f 0 v ≡ None
    go None is = goes_none f 0 v is
    go (Some w) is = goes_not f 0 v w is (let large = room_some f w in let off : nat_le (room_of f w) 0 ≡ false = grind (arith, nat_tests, large) in rw off refl)

none_fill : (many : ℕ) (f : Format) (v : SenderView) → (fill_at_most many f 0 v).wishes ≡ []
none_fill zero f v = refl
none_fill (suc many) f v = rw (nothing_fits f v) refl

still_goes : (f : Format) (room more : ℕ) (v : SenderView) (w : Wish) → goes f room v ≡ Some w → goes f (room_of f w + more) v ≡ Some w
still_goes f room more v w is =
    let parts = goes_parts f room v w is in
    let rules = and_parts (nat_le (room_of f w) room) (is_let_flow w && nat_le (outstanding w.view) WINDOW) parts.1 in
    let fits : nat_le (room_of f w) (room_of f w + more) ≡ true = grind (arith, nat_tests) in
    goes_is f (room_of f w + more) v w parts.0 (rw (fits, rules.1) refl)

repeats_go : (many : ℕ) (f : Format) (v : SenderView) (room : ℕ) (ws : List Wish) (u : SenderView) → Follows f v room ws u → length (repeats_of_list ws) ≤ many
    → (fill_at_most many f (room_of_repeats f ws) v).wishes ≡ repeats_of_list ws
repeats_go many f v room [] u h few = none_fill many f v
repeats_go zero f v room (w ∷ ws) u (first, rest) few = go (w.view.sent w.index) few
  where
    go : (b : Bool) → length (if b then w ∷ repeats_of_list ws else []) ≤ 0 → [] ≡ (if b then w ∷ repeats_of_list ws else [])
    go true few = absurd (omega (arith, few))
    go false few = refl
repeats_go (suc many) f v room (w ∷ ws) u (first, rest) few = go (w.view.sent w.index) few (λ less. repeats_go many f (gone w) (room - room_of f w) ws u rest less)
  where
    go : (b : Bool) → length (if b then w ∷ repeats_of_list ws else []) ≤ suc many
        → (length (repeats_of_list ws) ≤ many → (fill_at_most many f (room_of_repeats f ws) (gone w)).wishes ≡ repeats_of_list ws)
        → (fill_at_most (suc many) f (if b then room_of f w + room_of_repeats f ws else 0) v).wishes ≡ (if b then w ∷ repeats_of_list ws else [])
    go false few further = none_fill (suc many) f v
    go true few further =
        let left : room_of f w + room_of_repeats f ws - room_of f w ≡ room_of_repeats f ws = omega arith in
        let more = further (omega (arith, few)) in
        rw (still_goes f room (room_of_repeats f ws) v w first, left, more) refl

few_repeats : (f : Format) (ws : List Wish) → length (repeats_of_list ws) ≤ room_of_repeats f ws
few_repeats f [] = omega arith
few_repeats f (w ∷ ws) = go (w.view.sent w.index) (few_repeats f ws)
  where
    go : (b : Bool) → length (repeats_of_list ws) ≤ room_of_repeats f ws → length (if b then w ∷ repeats_of_list ws else []) ≤ (if b then room_of f w + room_of_repeats f ws else 0)
    go true more = let large = room_some f w in omega (arith, more, large)
    go false more = omega arith

-- It holds the repeats that the packet would hold without a window, and nothing else (RFC 9260, 7.2.4, step 3).
pub repeats_go_alone : (f : Format) (room : ℕ) (v : SenderView) →
    (fill f (room_of_repeats f (fill f room v).wishes) v).wishes ≡ repeats_of_list (fill f room v).wishes
repeats_go_alone f room v =
    let ws = (fill f room v).wishes in
    repeats_go (room_of_repeats f ws) f v room ws (fill f room v).view (fill_is_fill f room v).follows (few_repeats f ws)
