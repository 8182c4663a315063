-- What CUM passed is acknowledged: none of it is in flight, is marked for repeating, or is given up. An end at rest stays as it is where nothing is given up.
use Rattle.std.proofs.Common.{◌≡◌, ◌∙◌, ℕ, zero, suc, ◌<◌, ◌≤◌, nat_lt, Bool, true, false, refl, sym, ap, arith}
use Rattle.std.specs.Prelude.{Option, None, Some, nat_le, not, ◌&&◌, ◌||◌, ◌==◌, fold, length, if◌then◌else◌}
use Rattle.std.proofs.lemmas.Bool.Decides.{nat_tests}
use Rattle.sctp_model.specs.messages.Format.{Format}
use Rattle.sctp_model.specs.messages.Plan.{Entry, entry_at}
use Rattle.sctp_model.specs.sender.SenderView.{SenderView}
use Rattle.sctp_model.specs.sender.Words.{some_passes, count_up}
use Rattle.sctp_model.specs.sender.Entries.{is_of_abandoned, is_unsettled, is_in_flight, passes_at}
use Rattle.sctp_model.specs.sender.Readers.{point, unsettled}
use Rattle.sctp_model.specs.sender.Abandoning.{abandon_after, is_worn, is_to_repeat, ticket_at, wear_one, worn, marking}
use Rattle.sctp_model.specs.sender.Reached.{IsReached}
use Rattle.sctp_model.specs.end.EndView.{EndView, Alarm, DataAlarm, Timer}
use Rattle.sctp_model.specs.end.Clock.{stopped, with_timer, is_point_past, settled}
use Rattle.sctp_model.specs.end.Closing.{hears, rested}
use Rattle.sctp_model.specs.end.Moments.{after_abandoning}
use Rattle.sctp_model.specs.end.Pacing.{Pace}
use Rattle.sctp_model.specs.end.Misses.{is_missed}
use Rattle.sctp_model.specs.end.Wearing.{worn_since, wearing}
use Rattle.sctp_model.proofs.sender.WordLaws.{lowest_none}
use Rattle.sctp_model.proofs.sender.Bounds.{IsBounded, is_bounded}
use Rattle.sctp_send.specs.PaceAnswers.{first_in_flight}
use Rattle.sctp_association.proofs.RoomLemmas.{data_same}

and_false : (b : Bool) → (b && false) ≡ false
and_false true = refl
and_false false = refl

or_false : (b : Bool) → (b || false) ≡ b
or_false true = refl
or_false false = refl

-- ---- what is acknowledged

settled_at : (v : SenderView) (i : ℕ) (e : Entry) → v.covered i ≡ true → is_unsettled v i e ≡ false
settled_at v i e on = ap (λ (b : Bool). v.sent i && (not b && not (is_of_abandoned v e))) on ∙ and_false (v.sent i)

landed_at : (v : SenderView) (i : ℕ) (e : Entry) → v.covered i ≡ true → is_in_flight v i e ≡ false
landed_at v i e on = ap (λ (b : Bool). not (v.marked i) && b) (settled_at v i e on) ∙ and_false (not (v.marked i))

-- a test that only what is acknowledged passes
abbrev IsPassed : SenderView → (ℕ → Bool) → Type 0
IsPassed v test = (i : ℕ) → 0 < i → test i ≡ true → v.covered i ≡ true

-- none that passes is one of these, if none of these is acknowledged
off_at : (v : SenderView) (test : ℕ → Bool) (keep : ℕ → Entry → Bool) → IsPassed v test → ((i : ℕ) (e : Entry) → v.covered i ≡ true → keep i e ≡ false)
    → (i : ℕ) → (test i && some_passes (keep i) (entry_at v.plan i)) ≡ false
off_at v test keep passed off zero = and_false (test 0)
off_at v test keep passed off (suc j) = by (test (suc j)) refl (entry_at v.plan (suc j))
  where
    by : (b : Bool) → test (suc j) ≡ b → (o : Option Entry) → (b && some_passes (keep (suc j)) o) ≡ false
    by false is o = refl
    by true is None = refl
    by true is (Some e) = off (suc j) e (passed (suc j) (omega arith) is)

off_within : (v : SenderView) (test : ℕ → Bool) (keep : ℕ → Entry → Bool) → IsPassed v test → ((i : ℕ) (e : Entry) → v.covered i ≡ true → keep i e ≡ false)
    → (i : ℕ) → passes_at v.plan (λ j e. test j && keep j e) i ≡ false
off_within v test keep passed off zero = refl
off_within v test keep passed off (suc j) = by (test (suc j)) refl (entry_at v.plan (suc j))
  where
    by : (b : Bool) → test (suc j) ≡ b → (o : Option Entry) → some_passes (λ e. b && keep (suc j) e) o ≡ false
    by false is None = refl
    by false is (Some e) = refl
    by true is None = refl
    by true is (Some e) = off (suc j) e (passed (suc j) (omega arith) is)

-- ---- what CUM passed

on_off : true ≡ false → ⊥
on_off e = cc

-- so is one that none above CUM passes
passed_by : (v : SenderView) (test : ℕ → Bool) → IsBounded v → ((i : ℕ) → v.cum < i → test i ≡ false) → IsPassed v test
passed_by v test b off i some is = b.covered i some (low (nat_lt v.cum i) refl)
  where
    on_off : true ≡ false → ⊥
    on_off e = cc

    low : (x : Bool) → nat_lt v.cum i ≡ x → i ≤ v.cum
    low true above = let over : v.cum < i = grind (arith, nat_tests) in absurd (on_off (sym is ∙ off i over))
    low false above = grind (arith, nat_tests)

-- none above CUM is among those of a range that ends up to it
pub none_above : (cum from below : ℕ) (test says : ℕ → Bool) → below ≤ cum → ((i : ℕ) → cum < i → test i ≡ (nat_le from i && (nat_lt i below && says i))) → (i : ℕ) → cum < i → test i ≡ false
none_above cum from below test says low is i above = is i above ∙ (ap (λ (b : Bool). nat_le from i && (b && says i)) past ∙ and_false (nat_le from i))
  where
    past : nat_lt i below ≡ false
    past = grind (arith, nat_tests)

-- none of it is in flight
pub none_missed : (f : Format) (v : SenderView) (test : ℕ → Bool) → IsReached f v → ((i : ℕ) → v.cum < i → test i ≡ false) → first_in_flight v test ≡ None
none_missed f v test reached off =
    lowest_none (passes_at v.plan (λ i e. test i && is_in_flight v i e)) (length v.plan.entries)
    (λ i lo hi. off_within v test (is_in_flight v) (passed_by v test (is_bounded f v reached) off) (landed_at v) i)

-- none of it is marked
pub none_marked : (f : Format) (v : SenderView) (test : ℕ → Bool) → IsReached f v → ((i : ℕ) → v.cum < i → test i ≡ false) → marking v test ≡ v
none_marked f v test reached off = ap (λ (m : ℕ → Bool). record v { marked = m }) (λ k i. at i k)
  where
    none : (i : ℕ) (e : Entry) → v.covered i ≡ true → is_to_repeat v i e ≡ false
    none i e on = ap (λ (b : Bool). b && not (is_worn v i e)) (settled_at v i e on)

    at : (i : ℕ) → (v.marked i || (test i && some_passes (is_to_repeat v i) (entry_at v.plan i))) ≡ v.marked i
    at i = ap (λ (b : Bool). v.marked i || b) (off_at v test (is_to_repeat v) (passed_by v test (is_bounded f v reached) off) none i) ∙ or_false (v.marked i)

-- none of it is given up
none_worn : (v : SenderView) (test : ℕ → Bool) → IsPassed v test → (i : ℕ) → wear_one test v i ≡ v
none_worn v test passed i =
    ap (λ (b : Bool). if b then abandon_after v (ticket_at v i) else v)
    (off_at v test (λ j e. is_unsettled v j e && is_worn v j e) passed (λ j e on. ap (λ (b : Bool). b && is_worn v j e) (settled_at v j e on)) i)

none_worn_from : (v : SenderView) (test : ℕ → Bool) → IsPassed v test → (from many : ℕ) → fold (wear_one test) v (count_up from many) ≡ v
none_worn_from v test passed from zero = refl
none_worn_from v test passed from (suc n) =
    ap (λ (u : SenderView). fold (wear_one test) u (count_up (suc from) n)) (none_worn v test passed from) ∙ none_worn_from v test passed (suc from) n

-- ---- an end at rest

settled_same : (v : EndView) → v.due.forward ≡ false → (if unsettled v.sender then v.timers DataAlarm else stopped (v.timers DataAlarm)) ≡ v.timers DataAlarm → settled v ≡ v
settled_same v none same =
    ap (λ (t : Timer). record (with_timer DataAlarm t v) { due = record v.due { forward = v.due.forward && is_point_past v.sender } }) same
    ∙ (ap (λ (b : Bool). record (with_timer DataAlarm (v.timers DataAlarm) v) { due = record v.due { forward = b } }) (ap (λ (b : Bool). b && is_point_past v.sender) none ∙ sym none)
    ∙ ap (λ (f : Alarm → Timer). record v { timers = f }) (λ k a. data_same v.timers a k))

-- its data timer doesn't run
pub settled_still : (v : EndView) (t : Timer) → v.due.forward ≡ false → t ≡ v.timers DataAlarm → t.expiry ≡ None → settled v ≡ v
settled_still v t none is still = settled_same v none (by (unsettled v.sender))
  where
    rests : (v.timers DataAlarm).expiry ≡ None
    rests = sym (ap (λ (x : Timer). x.expiry) is) ∙ still

    by : (b : Bool) → (if b then v.timers DataAlarm else stopped (v.timers DataAlarm)) ≡ v.timers DataAlarm
    by true = refl
    by false = ap (λ (o : Option ℕ). record (v.timers DataAlarm) { expiry = o }) (sym rests)

-- or it is wanted
pub settled_wanted : (v : EndView) → v.due.forward ≡ false → unsettled v.sender ≡ true → settled v ≡ v
settled_wanted v none wanted = settled_same v none (ap (λ (b : Bool). if b then v.timers DataAlarm else stopped (v.timers DataAlarm)) wanted)

same_number : (n : ℕ) → (n == n) ≡ true
same_number n = grind (arith, nat_tests)

still : (v : EndView) → settled v ≡ v → rested v ≡ v → after_abandoning v v.sender ≡ v
still v settles rests =
    ap (λ (b : Bool). rested (settled (record v { due = record v.due { forward = b } }))) (ap (λ (b : Bool). v.due.forward || not b) (same_number (point v.sender)) ∙ or_false v.due.forward)
    ∙ (ap (λ (x : EndView). rested x) settles ∙ rests)

chosen : {A : Type 0} (b : Bool) (x y : A) → x ≡ y → (if b then x else y) ≡ y
chosen true x y same = same
chosen false x y same = refl

-- nothing is given up at it if none above CUM is missed
pub spared : (f : Format) (v : EndView) (from : ℕ) → IsReached f v.sender → settled v ≡ v → rested v ≡ v → ((p : Pace) → v.pace ≡ Some p → (i : ℕ) → v.sender.cum < i → is_missed p.misses i ≡ false)
    → wearing from v ≡ v
spared f v from reached settles rests none = by v.pace none
  where
    by : (o : Option Pace) → ((p : Pace) → o ≡ Some p → (i : ℕ) → v.sender.cum < i → is_missed p.misses i ≡ false) → worn_since o from v ≡ v
    by None off = refl
    by (Some p) off =
        let test : ℕ → Bool = is_missed p.misses in
        let unworn = none_worn_from v.sender test (passed_by v.sender test (is_bounded f v.sender reached) (off p refl)) 1 (length v.sender.plan.entries) in
        chosen (nat_lt from p.misses.third && hears (λ g. true) v.phase) (after_abandoning v (worn test v.sender)) v (ap (λ (s : SenderView). after_abandoning v s) unworn ∙ still v settles rests)
