-- The counts of a view that calls reach: the window, and the TSNs assigned and owed.
use Rattle.std.proofs.Common.{◌≡◌, ℕ, ◌<◌, inl, inr, List, [], ◌∷◌, ◌++◌, length, Bool, true, false, Some, refl, sym, subst, arith, length-append}
use Rattle.std.specs.Prelude.{◌==◌, if◌then◌else◌, find, option_map}
use Rattle.sctp_model.specs.messages.Format.{Format, Lane, same_lane}
use Rattle.sctp_model.specs.messages.Plan.{Message, Entry, End, Plan, parts_from}
use Rattle.sctp_model.specs.sender.SenderView.{Queued, SenderView}
use Rattle.sctp_model.specs.sender.Entries.{entry_message}
use Rattle.sctp_model.specs.sender.Assigning.{with_message, with_entry, first_on}
use Rattle.sctp_model.specs.sender.Abandoning.{Name, name_at, name_among, has_ticket, ended, with_abandoned}
use Rattle.sctp_model.specs.sender.Reached.{IsReached, Begins, Queues, Goes, Covers, Closes, Abandons, Repeats, Rebases}
use Rattle.sctp_model.proofs.sender.WishCases.{IsAssigned, Whole, Begun, Continued, after_wish}
use Rattle.sctp_model.proofs.sender.AbandonCases.{same_lane-self, lanes_same, after_abandon, after_end, given_or_before}
use Rattle.sctp_model.proofs.sender.SetLaws.{AllFilled, is_filled}
use Rattle.sctp_model.proofs.sender.PlanLaws.{AllNamed, named_stays, named_append, named_parts, named_kept, continued_is}

-- ---- each entry's message is there

pub new_number : (p : Plan) (q : Queued) (d : ℕ) → length (p.messages q.lane) < length ((with_message p q d).messages q.lane)
new_number p q d = rw (same_lane-self q.lane) (omega (arith, length-append (p.messages q.lane) (q.message ∷ [])))

pub first_there : (n s : ℕ) (q : Queued) (qs : List Queued) → AllFilled n qs → first_on s qs ≡ Some q → q.lane.stream < n
first_there n s q [] full is = absurd (cc)
first_there n s q (x ∷ qs) full is = by_test (x.lane.stream == s) refl (λ there. first_there n s q qs full.1 there)
  where
    by_test : (b : Bool) → (x.lane.stream == s) ≡ b → (first_on s qs ≡ Some q → q.lane.stream < n) → q.lane.stream < n
    by_test true on further = let here : Some x ≡ Some q = rw on at is in let same : x ≡ q = cc in subst (λ (y : Queued). y.lane.stream < n) same full.0.1
    by_test false on further = further (rw on at is)

named_assigned : (f : Format) (v u : SenderView) → AllFilled v.streams v.queue → AllNamed v.streams v.plan v.plan.entries → IsAssigned v f u → AllNamed u.streams u.plan u.plan.entries
named_assigned _ v _ full h (Whole q rest is) =
    let here = (subst (λ (qs : List Queued). AllFilled v.streams qs) is full).0.1 in
    let d = length q.message.fragments in
    let m = length (v.plan.messages q.lane) in
    named_append v.streams (with_message v.plan q d) v.plan.entries (parts_from q.lane m 0 d) (named_stays v.streams v.plan q d v.plan.entries h)
    (named_parts v.streams (with_message v.plan q d) q.lane m 0 d (new_number v.plan q d) here)
named_assigned _ v _ full h (Begun s q lt on first) =
    let m = length (v.plan.messages q.lane) in
    named_append v.streams (with_message v.plan q 1) v.plan.entries (parts_from q.lane m 0 1) (named_stays v.streams v.plan q 1 v.plan.entries h)
    (named_parts v.streams (with_message v.plan q 1) q.lane m 0 1 (new_number v.plan q 1) (first_there v.streams s q v.queue full first))
named_assigned _ v _ full h (Continued s e lt on) =
    let next = continued_is v.streams v.plan s e h on in
    named_append v.streams (with_entry v.plan e) v.plan.entries (e ∷ []) (named_kept v.streams v.plan (v.plan.entries ++ e ∷ []) v.plan.entries h)
    (record { number = next.named.number; stream = next.named.stream }, tt)

-- the entry that a name stands for
pub name_found : (n : ℕ) (p : Plan) (t : ℕ) (es : List Entry) (m : Name) → AllNamed n p es → name_among p t es ≡ Some m → (m.number < length (p.messages m.lane)) × (m.lane.stream < n)
name_found n p t [] m h is = absurd (cc)
name_found n p t (e ∷ es) m h is = by_test (has_ticket t (entry_message p e)) is (λ there. name_found n p t es m h.1 there)
  where
    by_test : (b : Bool) → option_map name_at (if b then Some e else find (λ d. has_ticket t (entry_message p d)) es) ≡ Some m
        → (name_among p t es ≡ Some m → (m.number < length (p.messages m.lane)) × (m.lane.stream < n)) → (m.number < length (p.messages m.lane)) × (m.lane.stream < n)
    by_test true here further = let same : name_at e ≡ m = cc in subst (λ (y : Name). (y.number < length (p.messages y.lane)) × (y.lane.stream < n)) same (h.0.number, h.0.stream)
    by_test false here further = further here

named_given : (v : SenderView) (n : Name) → AllNamed v.streams v.plan v.plan.entries → n.number < length (v.plan.messages n.lane) → n.lane.stream < v.streams
    → AllNamed v.streams (ended v n) (ended v n).entries
named_given v n h number stream =
    let more = v.plan.entries ++ End n.lane n.number ∷ [] in
    after_end (λ (p : Plan). AllNamed v.streams p p.entries) v n (λ off. h)
    (λ on. named_append v.streams (with_entry v.plan (End n.lane n.number)) v.plan.entries (End n.lane n.number ∷ []) (named_kept v.streams v.plan more v.plan.entries h) (record { number = number; stream = stream }, tt))

-- the entries of a view and their messages
abbrev pub HasMessages : SenderView → Type 0
HasMessages v = AllNamed v.streams v.plan v.plan.entries

pub is_named : (f : Format) (v : SenderView) → IsReached f v → HasMessages v
is_named f _ (Begins i s b r p most large) = tt
is_named f _ (Queues v l p b u n h free) = is_named f v h
is_named f _ (Goes v room w h next may) =
    after_wish HasMessages f v w (is_named f v h) (λ u a. named_assigned f v u (is_filled f v h) (is_named f v h) a) (λ u i k. k) next
is_named f _ (Covers v x h none) = is_named f v h
is_named f _ (Closes v x h none) = is_named f v h
is_named f _ (Abandons v t h) =
    let before = is_named f v h in
    after_abandon HasMessages v t before (λ on. before) (λ n is kept. let there = name_found v.streams v.plan t v.plan.entries n before is in named_given v n before there.0 there.1)
is_named f _ (Repeats v test h) = is_named f v h
is_named f _ (Rebases v x h) = is_named f v h

-- ---- only messages with a number are abandoned

abbrev pub KnowsAbandoned : SenderView → Type 0
KnowsAbandoned v = (l : Lane) (n : ℕ) → v.abandoned l n ≡ true → n < length (v.plan.messages l)

knows_new : (v : SenderView) (q : Queued) (d : ℕ) → KnowsAbandoned v → (l : Lane) (n : ℕ) → v.abandoned l n ≡ true → n < length ((with_message v.plan q d).messages l)
knows_new v q d h l n on = by_test (same_lane l q.lane) refl
  where
    by_test : (b : Bool) → same_lane l q.lane ≡ b → n < length ((with_message v.plan q d).messages l)
    by_test false is = rw is (h l n on)
    by_test true is =
        let same = lanes_same l q.lane is in
        let low : n < length (v.plan.messages q.lane) = rw same at (h l n on) in
        rw is (omega (arith, length-append (v.plan.messages q.lane) (q.message ∷ [])))

knows_assigned : (f : Format) (v u : SenderView) → KnowsAbandoned v → IsAssigned v f u → KnowsAbandoned u
knows_assigned _ v _ h (Whole q rest is) = knows_new v q (length q.message.fragments) h
knows_assigned _ v _ h (Begun s q lt on first) = knows_new v q 1 h
knows_assigned _ v _ h (Continued s e lt on) = h

knows_given : (v : SenderView) (n : Name) → KnowsAbandoned v → n.number < length (v.plan.messages n.lane) → KnowsAbandoned (with_abandoned v n)
knows_given v n h low l k on =
    let same : (ended v n).messages ≡ v.plan.messages = after_end (λ (p : Plan). p.messages ≡ v.plan.messages) v n (λ off. refl) (λ end. refl) in
    subst (λ (ms : Lane → List Message). k < length (ms l)) (sym same)
    (elim (given_or_before v n l k on) [
      | inl this ↦ subst (λ (y : ℕ). y < length (v.plan.messages l)) (sym this.1) (subst (λ (y : Lane). n.number < length (v.plan.messages y)) (sym this.0) low)
      | inr before ↦ h l k before
    ])

pub knows_abandoned : (f : Format) (v : SenderView) → IsReached f v → KnowsAbandoned v
knows_abandoned f _ (Begins i s b r p most large) = λ l n on. absurd (cc)
knows_abandoned f _ (Queues v l p b u n h free) = knows_abandoned f v h
knows_abandoned f _ (Goes v room w h next may) = after_wish KnowsAbandoned f v w (knows_abandoned f v h) (λ u a. knows_assigned f v u (knows_abandoned f v h) a) (λ u i k. k) next
knows_abandoned f _ (Covers v x h none) = knows_abandoned f v h
knows_abandoned f _ (Closes v x h none) = knows_abandoned f v h
knows_abandoned f _ (Abandons v t h) =
    let before = knows_abandoned f v h in
    after_abandon KnowsAbandoned v t before (λ on. before) (λ n is kept. knows_given v n before (name_found v.streams v.plan t v.plan.entries n (is_named f v h) is).0)
knows_abandoned f _ (Repeats v test h) = knows_abandoned f v h
knows_abandoned f _ (Rebases v x h) = knows_abandoned f v h

-- a new number is not abandoned yet
pub new_kept : (f : Format) (v : SenderView) (l : Lane) → IsReached f v → v.abandoned l (length (v.plan.messages l)) ≡ false
new_kept f v l h = by_test (v.abandoned l (length (v.plan.messages l))) refl
  where
    by_test : (b : Bool) → v.abandoned l (length (v.plan.messages l)) ≡ b → b ≡ false
    by_test false is = refl
    by_test true is = absurd (let low = knows_abandoned f v h l (length (v.plan.messages l)) is in omega arith)
