-- Nothing lands in flight but by going out: if nothing is, nothing is once a ticket is abandoned, a time is taken or the data timer expires. What is in
-- flight is unsettled.
use Rattle.std.proofs.Common.{◌≡◌, ℕ, suc, ◌+◌, List, [], ◌∷◌, ◌++◌, length, Bool, true, false, Option, Some, refl, sym, ap, subst, arith, ◌∙◌}
use Rattle.std.specs.Prelude.{not, ◌&&◌, ◌||◌, ◌==◌, if◌then◌else◌, fold, slice_get}
use Rattle.std.proofs.lemmas.Bool.{and_parts}
use Rattle.std.proofs.lemmas.Bool.Decides.{nat_tests}
use Rattle.sctp_model.specs.messages.Format.{Lane, same_lane}
use Rattle.sctp_model.specs.messages.Plan.{Message, Entry, Part, End, Plan, entry_at}
use Rattle.sctp_model.specs.sender.SenderView.{SenderView}
use Rattle.sctp_model.specs.sender.Words.{some_passes, count_up}
use Rattle.sctp_model.specs.sender.Entries.{is_of, entry_lane, entry_number, entry_bytes, bytes_in, sum_from, any_from, is_unsettled, is_in_flight, flight_of, in_flight, some_entry, passes_at}
use Rattle.sctp_model.specs.sender.Readers.{unsettled, point}
use Rattle.sctp_model.specs.sender.Queueing.{queued}
use Rattle.sctp_model.specs.sender.Abandoning.{Name, is_overdue, ended, with_abandoned, abandon_after, expire_one, expired, unsettled_at, timed_out, is_worn}
use Rattle.sctp_model.proofs.sender.AbandonCases.{same_lane-self, lanes_same, after_abandon, after_end, given_other, given_itself}
use Rattle.sctp_model.proofs.sender.FlightLaws.{sum_from-append}

-- ---- sums over entries

-- each summand is that of an entry at its place
lands : (g : ℕ → Entry → ℕ) (i : ℕ) (es : List Entry) → ((k : ℕ) (e : Entry) → slice_get es k ≡ Some e → g (i + k) e ≡ 0) → sum_from g i es ≡ 0
lands g i [] none = refl
lands g i (e ∷ es) none =
    let same : i + 0 ≡ i = omega arith in
    let here : g i e ≡ 0 = subst (λ (j : ℕ). g j e ≡ 0) same (none 0 e refl) in
    let rest = lands g (suc i) es (λ k d is. let next : i + suc k ≡ suc i + k = omega arith in subst (λ (j : ℕ). g j d ≡ 0) next (none (suc k) d is)) in
    omega (arith, here, rest)

-- one sum is 0 if another is, if its summands are
pub lands_as : (g h : ℕ → Entry → ℕ) (i : ℕ) (es : List Entry) → ((k : ℕ) (e : Entry) → slice_get es k ≡ Some e → g (i + k) e ≡ 0 → h (i + k) e ≡ 0)
    → sum_from g i es ≡ 0 → sum_from h i es ≡ 0
lands_as g h i [] goes none = refl
lands_as g h i (e ∷ es) goes none =
    let same : i + 0 ≡ i = omega arith in
    let first : g i e ≡ 0 = omega (arith, none) in
    let others : sum_from g (suc i) es ≡ 0 = omega (arith, none) in
    let here : h i e ≡ 0 = subst (λ (j : ℕ). h j e ≡ 0) same (goes 0 e refl (subst (λ (j : ℕ). g j e ≡ 0) (sym same) first)) in
    let rest = lands_as g h (suc i) es
    (λ k d is at. let next : i + suc k ≡ suc i + k = omega arith in subst (λ (j : ℕ). h j d ≡ 0) next (goes (suc k) d is (subst (λ (j : ℕ). g j d ≡ 0) (sym next) at))) others in
    omega (arith, here, rest)

-- ---- what is in flight is unsettled

-- a summand, by the two tests
by_tests : (m u : Bool) (n : ℕ) → u ≡ false → (if not m && u then n else 0) ≡ 0
by_tests true u n off = refl
by_tests false u n off = rw off refl

none_unsettled : (v : SenderView) (i : ℕ) (es : List Entry) → any_from (is_unsettled v) i es ≡ false → sum_from (flight_of v) i es ≡ 0
none_unsettled v i [] off = refl
none_unsettled v i (e ∷ es) off = go (is_unsettled v i e) refl off (λ less. none_unsettled v (suc i) es less)
  where
    go : (b : Bool) → is_unsettled v i e ≡ b → (b || any_from (is_unsettled v) (suc i) es) ≡ false → (any_from (is_unsettled v) (suc i) es ≡ false → sum_from (flight_of v) (suc i) es ≡ 0)
        → sum_from (flight_of v) i (e ∷ es) ≡ 0
    go true is none further = absurd (cc)
    go false is none further =
        let here : flight_of v i e ≡ 0 = by_tests (v.marked i) (is_unsettled v i e) (length (entry_bytes v.plan e)) is in
        let rest = further none in
        omega (arith, here, rest)

pub settled_lands : (v : SenderView) → unsettled v ≡ false → in_flight v ≡ 0
settled_lands v off = none_unsettled v 1 v.plan.entries (first (some_entry v (is_unsettled v)) (not (point v == v.cum)) off)
  where
    first : (a b : Bool) → (a || b) ≡ false → a ≡ false
    first true b none = absurd (cc)
    first false b none = refl

-- ---- the data timer

-- all that is unsettled may go again
abbrev pub NoneWorn : SenderView → Type 0
NoneWorn v = (i : ℕ) (e : Entry) → entry_at v.plan i ≡ Some e → (is_unsettled v i e && is_worn v i e) ≡ false

-- then all of it is marked, and so not in flight
pub timed_out_lands : (v : SenderView) → NoneWorn v → in_flight (timed_out v) ≡ 0
timed_out_lands v clear = lands (flight_of (timed_out v)) 1 v.plan.entries one
  where
    by : (m u w : Bool) (n : ℕ) → (u && w) ≡ false → (if not (m || (u && not w)) && u then n else 0) ≡ 0
    by true true w n off = refl
    by true false w n off = refl
    by false true true n off = absurd (cc)
    by false true false n off = refl
    by false false w n off = refl

    here : (k : ℕ) (e : Entry) → slice_get v.plan.entries k ≡ Some e → flight_of (timed_out v) (suc k) e ≡ 0
    here k e is = subst (λ (o : Option Entry). (if not (v.marked (suc k) || unsettled_at v (suc k) o) && is_unsettled v (suc k) e then length (entry_bytes v.plan e) else 0) ≡ 0)
        (sym is) (by (v.marked (suc k)) (is_unsettled v (suc k) e) (is_worn v (suc k) e) (length (entry_bytes v.plan e)) (clear (suc k) e is))

    one : (k : ℕ) (e : Entry) → slice_get v.plan.entries k ≡ Some e → flight_of (timed_out v) (1 + k) e ≡ 0
    one k e is = let next : suc k ≡ 1 + k = omega arith in subst (λ (j : ℕ). flight_of (timed_out v) j e ≡ 0) next (here k e is)

-- ---- abandoning

-- an end mark has no data
end_lands : (u : SenderView) (i : ℕ) (n : Name) → sum_from (flight_of u) i (End n.lane n.number ∷ []) ≡ 0
end_lands u i n = go (is_in_flight u i (End n.lane n.number))
  where
    go : (b : Bool) → (if b then 0 else 0) + 0 ≡ 0
    go true = refl
    go false = refl

-- how much of an entry is in flight, by what is known of it
abbrev shape : (m s c a : Bool) (x : ℕ) → ℕ
shape m s c a x = if not m && (s && (not c && not a)) then x else 0

given_shape : (m s c : Bool) (x : ℕ) → shape m s c true x ≡ 0
given_shape true s c x = refl
given_shape false true true x = refl
given_shape false true false x = refl
given_shape false false c x = refl

other_shape : (m s c a : Bool) (x : ℕ) → shape m s c a x ≡ 0 → shape (m && not false) s c a x ≡ 0
other_shape true s c a x is = refl
other_shape false s c a x is = is

-- what was there before flies no more than it did
given_entries : (v : SenderView) (n : Name) → in_flight v ≡ 0 → sum_from (flight_of (with_abandoned v n)) 1 v.plan.entries ≡ 0
given_entries v n none = lands_as (flight_of v) (flight_of (with_abandoned v n)) 1 v.plan.entries one none
  where
    u : SenderView
    u = with_abandoned v n

    mine : ℕ → Entry → Bool
    mine j e = is_of n.lane n.number e

    messages : (ended v n).messages ≡ v.plan.messages
    messages = after_end (λ (p : Plan). p.messages ≡ v.plan.messages) v n (λ off. refl) (λ on. refl)

    bytes : (e : Entry) → entry_bytes u.plan e ≡ entry_bytes v.plan e
    bytes (Part l m k) = ap (λ (f : Lane → List Message). bytes_in (Part l m k) (slice_get (f l) m)) messages
    bytes (End l m) = refl

    its_own : (e : Entry) → (entry_lane e ≡ n.lane) × (entry_number e ≡ n.number) → is_of n.lane n.number e ≡ true
    its_own e (lane, number) = let self : (n.number == n.number) ≡ true = grind (arith, nat_tests) in rw (lane, number, same_lane-self n.lane, self) refl

    by_name : (j : ℕ) (e : Entry) → entry_at v.plan j ≡ Some e → (b : Bool) → is_of n.lane n.number e ≡ b → flight_of v j e ≡ 0 → flight_of u j e ≡ 0
    by_name j e there true on nought =
        let parts = and_parts (same_lane n.lane (entry_lane e)) (n.number == entry_number e) on in
        let lane = lanes_same n.lane (entry_lane e) parts.0 in
        let number : n.number ≡ entry_number e = let is = parts.1 in grind (arith, nat_tests) in
        let given : u.abandoned (entry_lane e) (entry_number e) ≡ true =
        subst (λ (m : ℕ). u.abandoned (entry_lane e) m ≡ true) number (subst (λ (l : Lane). u.abandoned l n.number ≡ true) lane (given_itself v n)) in
        subst (λ (a : Bool). shape (u.marked j) (v.sent j) (v.covered j) a (length (entry_bytes u.plan e)) ≡ 0) (sym given)
        (given_shape (u.marked j) (v.sent j) (v.covered j) (length (entry_bytes u.plan e)))
    by_name j e there false off nought =
        let apart = given_other v n (entry_lane e) (entry_number e) (λ same. let on = its_own e same in let clash : true ≡ false = sym on ∙ off in absurd (cc)) in
        let passed : passes_at v.plan mine j ≡ false = ap (some_passes (mine j)) there ∙ off in
        subst (λ (q : Bool). shape (v.marked j && not q) (v.sent j) (v.covered j) (u.abandoned (entry_lane e) (entry_number e)) (length (entry_bytes u.plan e)) ≡ 0) (sym passed)
        (subst (λ (a : Bool). shape (v.marked j && not false) (v.sent j) (v.covered j) a (length (entry_bytes u.plan e)) ≡ 0) (sym apart)
        (subst (λ (bs : List ℕ). shape (v.marked j && not false) (v.sent j) (v.covered j) (v.abandoned (entry_lane e) (entry_number e)) (length bs) ≡ 0) (sym (bytes e))
        (other_shape (v.marked j) (v.sent j) (v.covered j) (v.abandoned (entry_lane e) (entry_number e)) (length (entry_bytes v.plan e)) nought)))

    one : (k : ℕ) (e : Entry) → slice_get v.plan.entries k ≡ Some e → flight_of v (1 + k) e ≡ 0 → flight_of u (1 + k) e ≡ 0
    one k e is nought =
        let next : suc k ≡ 1 + k = omega arith in
        subst (λ (j : ℕ). flight_of u j e ≡ 0) next (by_name (suc k) e is (is_of n.lane n.number e) refl (subst (λ (j : ℕ). flight_of v j e ≡ 0) (sym next) nought))

given_lands : (v : SenderView) (n : Name) → in_flight v ≡ 0 → in_flight (with_abandoned v n) ≡ 0
given_lands v n none = after_end (λ (p : Plan). sum_from (flight_of (with_abandoned v n)) 1 p.entries ≡ 0) v n (λ off. before) (λ on. marked)
  where
    before : sum_from (flight_of (with_abandoned v n)) 1 v.plan.entries ≡ 0
    before = given_entries v n none

    marked : sum_from (flight_of (with_abandoned v n)) 1 (v.plan.entries ++ End n.lane n.number ∷ []) ≡ 0
    marked =
        let split = sum_from-append (flight_of (with_abandoned v n)) 1 v.plan.entries (End n.lane n.number ∷ []) in
        let last = end_lands (with_abandoned v n) (1 + length v.plan.entries) n in
        omega (arith, split, last, before)

-- nothing is in flight there if nothing was here
abbrev pub LandsAs : (v u : SenderView) → Type 0
LandsAs v u = in_flight v ≡ 0 → in_flight u ≡ 0

pub abandoned_lands : (v : SenderView) (t : ℕ) → LandsAs v (abandon_after v t)
abandoned_lands v t = after_abandon (LandsAs v) v t (λ none. none) (λ waits none. none) (λ n is kept none. given_lands v n none)

one_lands : (now : ℕ) (v : SenderView) (t : ℕ) → LandsAs v (expire_one now v t)
one_lands now v t = go (is_overdue v now t)
  where
    go : (b : Bool) → LandsAs v (if b then abandon_after v t else v)
    go true = abandoned_lands v t
    go false = λ none. none

all_land : (now : ℕ) (v : SenderView) (ts : List ℕ) → LandsAs v (fold (expire_one now) v ts)
all_land now v [] none = none
all_land now v (t ∷ ts) none = all_land now (expire_one now v t) ts (one_lands now v t none)

pub expired_lands : (v : SenderView) (now : ℕ) → LandsAs v (expired v now)
expired_lands v now = all_land now v (count_up 1 v.tickets)

-- nor does a message that waits fly
pub queued_lands : (v : SenderView) (lane : Lane) (payload : ℕ) (bytes : List ℕ) (until limit : Option ℕ) → LandsAs v (queued v lane payload bytes until limit)
queued_lands v lane payload bytes until limit none = lands_as (flight_of v) (flight_of (queued v lane payload bytes until limit)) 1 v.plan.entries (λ k e is nought. nought) none
