-- Messages in part, and the window: how an end mark changes what streams go on with, and that no more is outstanding than the window holds.
use Rattle.std.proofs.Common.{◌≡◌, ℕ, suc, ◌+◌, ◌-◌, ◌<◌, ◌≤◌, [], ◌∷◌, length, Bool, true, false, Some, None, refl, sym, ap, ◌∙◌, subst, arith, length-append}
use Rattle.std.specs.Prelude.{◌==◌, nat_le, ◌&&◌}
use Rattle.std.proofs.lemmas.Bool.{and_parts}
use Rattle.std.proofs.lemmas.Bool.Decides.{nat_tests}
use Rattle.sctp_model.specs.numbers.Limits.{WINDOW}
use Rattle.sctp_model.specs.messages.Format.{Format, Lane, same_lane}
use Rattle.sctp_model.specs.messages.Plan.{Entry, Part, End, Plan, message_at}
use Rattle.sctp_model.specs.sender.SenderView.{SenderView}
use Rattle.sctp_model.specs.sender.Entries.{fragments_in, is_of, is_in_part, continued, one_if_some, sum_below, in_part}
use Rattle.sctp_model.specs.sender.Assigning.{with_entry}
use Rattle.sctp_model.specs.sender.Readers.{outstanding}
use Rattle.sctp_model.specs.sender.Filling.{Wish, may_go, is_let_flow, room_of}
use Rattle.sctp_model.specs.sender.Abandoning.{Name, with_abandoned}
use Rattle.sctp_model.specs.sender.Reached.{IsReached, Begins, Queues, Goes, Covers, Closes, Abandons, Repeats, Rebases}
use Rattle.sctp_model.proofs.sender.WordLaws.{some_is, sum-zero, sum-changed}
use Rattle.sctp_model.proofs.sender.AbandonCases.{lanes_same, after_abandon, after_end}
use Rattle.sctp_model.proofs.sender.PlanLaws.{continued_is, continued_more}
use Rattle.sctp_model.proofs.sender.CountLaws.{HasMessages, is_named, name_found}

-- ---- a message in part

-- the fragment that the message in part takes next
pub in_part_is : (v : SenderView) (n : Name) → HasMessages v → is_in_part v n.lane n.number ≡ true
    → (k : ℕ) × (continued v.plan n.lane.stream ≡ Some (Part n.lane n.number (suc k))) × (suc k < length (fragments_in (message_at v.plan n.lane n.number)))
in_part_is v n h is =
    let there = some_is (is_of n.lane n.number) (continued v.plan n.lane.stream) is in
    let next = continued_is v.streams v.plan n.lane.stream there.0 h there.1 in
    let mine : is_of n.lane n.number (Part next.lane next.number (suc next.fragment)) ≡ true = rw (← next.is) there.2 in
    let parts = and_parts (same_lane n.lane next.lane) (n.number == next.number) mine in
    let lane : next.lane ≡ n.lane = sym (lanes_same n.lane next.lane parts.0) in
    let number : next.number ≡ n.number = let e2 = parts.1 in grind (arith, nat_tests) in
    let whole : continued v.plan n.lane.stream ≡ Some (Part n.lane n.number (suc next.fragment)) =
    there.1 ∙ ap (λ (x : Entry). Some x) next.is ∙ ap (λ (l : Lane). Some (Part l next.number (suc next.fragment))) lane ∙ ap (λ (m : ℕ). Some (Part n.lane m (suc next.fragment))) number in
    let more : suc next.fragment < length (fragments_in (message_at v.plan n.lane n.number)) =
    subst (λ (m : ℕ). suc next.fragment < length (fragments_in (message_at v.plan n.lane m))) number (subst (λ (l : Lane). suc next.fragment < length (fragments_in (message_at v.plan l next.number))) lane next.more) in
    (next.fragment, whole, more)

-- the plan with its end mark
abbrev pub with_end : Plan → Name → Plan
with_end p n = with_entry p (End n.lane n.number)

-- its stream goes on with nothing then
pub ended_here : (p : Plan) (n : Name) → continued (with_end p n) n.lane.stream ≡ None
ended_here p n = let on : (n.lane.stream == n.lane.stream) ≡ true = grind (arith, nat_tests) in continued_more p (End n.lane n.number) n.lane.stream ∙ rw on refl

-- and the others with what they did
pub ended_there : (p : Plan) (n : Name) (s : ℕ) → (s ≡ n.lane.stream → ⊥) → continued (with_end p n) s ≡ continued p s
ended_there p n s apart =
    let off : (n.lane.stream == s) ≡ false = by_test (n.lane.stream == s) refl in
    continued_more p (End n.lane n.number) s ∙ rw off refl
  where
    by_test : (b : Bool) → (n.lane.stream == s) ≡ b → b ≡ false
    by_test false is = refl
    by_test true is = absurd (apart (grind (arith, nat_tests)))

-- one message less is in part
pub fewer_in_part : (v : SenderView) (n : Name) → HasMessages v → n.lane.stream < v.streams → is_in_part v n.lane n.number ≡ true
    → sum_below (λ s. one_if_some (continued (with_end v.plan n) s)) v.streams + 1 ≡ in_part v
fewer_in_part v n h lt is =
    let next = in_part_is v n h is in
    let s = n.lane.stream in
    let change = sum-changed (λ j. one_if_some (continued v.plan j)) (λ j. one_if_some (continued (with_end v.plan n) j)) v.streams s lt (λ j apart. ap one_if_some (sym (ended_there v.plan n j apart))) in
    let before = ap one_if_some next.1 in
    let after = ap one_if_some (ended_here v.plan n) in
    omega arith

-- ---- the window

-- no more is outstanding than the window holds
abbrev pub IsWindowed : SenderView → Type 0
IsWindowed v = length v.plan.entries + in_part v ≤ WINDOW + v.cum

-- the same of a plan, in place of the view's
abbrev HasWindow : SenderView → Plan → Type 0
HasWindow v p = length p.entries + sum_below (λ s. one_if_some (continued p s)) v.streams ≤ WINDOW + v.cum

windowed_given : (v : SenderView) (n : Name) → HasMessages v → n.lane.stream < v.streams → IsWindowed v → IsWindowed (with_abandoned v n)
windowed_given v n h lt k =
    after_end (HasWindow v) v n (λ off. k) (λ on. let less = fewer_in_part v n h lt on in omega (arith, length-append v.plan.entries (End n.lane n.number ∷ []), less, k))

-- what may go leaves it so
pub windowed_wish : (f : Format) (room : ℕ) (w : Wish) → may_go f room w ≡ true → IsWindowed w.view
windowed_wish f room w may =
    let rules = and_parts (nat_le (room_of f w) room) (is_let_flow w && nat_le (outstanding w.view) WINDOW) may in
    let window = (and_parts (is_let_flow w) (nat_le (outstanding w.view) WINDOW) rules.1).1 in
    le_of (length w.view.plan.entries) w.view.cum (in_part w.view) window
  where
    le_of : (n c p : ℕ) → nat_le (n - c + p) WINDOW ≡ true → n + p ≤ WINDOW + c
    le_of n c p is = let le : n - c + p ≤ WINDOW = grind (arith, nat_tests) in omega arith

pub is_windowed : (f : Format) (v : SenderView) → IsReached f v → IsWindowed v
is_windowed f _ (Begins i s b r p most large) = let none = sum-zero (λ j. one_if_some (continued (record { messages = λ l. []; entries = [] }) j)) s (λ j. refl) in omega (arith, none)
is_windowed f _ (Queues v l p b u n h free) = is_windowed f v h
is_windowed f _ (Goes v room w h next may) = windowed_wish f room w may
is_windowed f _ (Covers v x h none) = let k = is_windowed f v h in omega arith
is_windowed f _ (Closes v x h none) = let k = is_windowed f v h in omega arith
is_windowed f _ (Abandons v t h) =
    let before = is_windowed f v h in
    let names = is_named f v h in
    after_abandon IsWindowed v t before (λ on. before) (λ n is kept. windowed_given v n names (name_found v.streams v.plan t v.plan.entries n names is).1 before)
is_windowed f _ (Repeats v test h) = is_windowed f v h
is_windowed f _ (Rebases v x h) = is_windowed f v h
