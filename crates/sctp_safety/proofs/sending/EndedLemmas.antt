-- What a call that abandons takes from the queue, and what an end mark adds to the plan.
use Rattle.std.proofs.Common.{◌≡◌, ℕ, zero, suc, inl, inr, ◌⊎◌, Bool, true, false, ◌&&◌, List, [], ◌∷◌, ◌++◌, Some, refl, ap, ◌∙◌, arith}
use Rattle.std.specs.Prelude.{◌==◌, slice_get, if◌then◌else◌}
use Rattle.std.proofs.lemmas.Bool.{or_left, or_right}
use Rattle.std.proofs.lemmas.Bool.Decides.{nat_tests}
use Rattle.sctp_model.specs.numbers.Lists.{Has}
use Rattle.sctp_model.specs.messages.Format.{Lane}
use Rattle.sctp_model.specs.messages.Plan.{Message, Entry, Part, End, Plan, entry_at, message_at}
use Rattle.sctp_model.specs.sender.SenderView.{Queued, SenderView}
use Rattle.sctp_model.specs.sender.Abandoning.{Name, waits, without, ended, is_past}
use Rattle.sctp_model.proofs.sender.AbandonCases.{after_end}
use Rattle.sctp_model.proofs.sender.ExpiredLaws.{late_waits}
use Rattle.sctp_safety.proofs.moves.Later.{Extends}

-- ---- messages that wait

pub off_of : (b : Bool) → (b ≡ true → ⊥) → b ≡ false
off_of true never = absurd (never refl)
off_of false never = refl

pub waits_has : (t : ℕ) (qs : List Queued) (q : Queued) → Has qs q → q.message.ticket ≡ t → waits t qs ≡ true
waits_has t [] q has ticket = absurd has
waits_has t (x ∷ qs) q (inl same) ticket =
    let mine : x.message.ticket ≡ t = ap (λ (y : Queued). y.message.ticket) same ∙ ticket in
    or_left (x.message.ticket == t) (waits t qs) (let e = mine in grind (arith, nat_tests))
waits_has t (x ∷ qs) q (inr has) ticket = or_right (x.message.ticket == t) (waits t qs) (waits_has t qs q has ticket)

pub late_has : (now t : ℕ) (qs : List Queued) (q : Queued) → Has qs q → q.message.ticket ≡ t → is_past now q.message ≡ true → late_waits now t qs ≡ true
late_has now t [] q has ticket past = absurd has
late_has now t (x ∷ qs) q (inl same) ticket past =
    let mine : x.message.ticket ≡ t = ap (λ (y : Queued). y.message.ticket) same ∙ ticket in
    let test : (x.message.ticket == t) ≡ true = let e = mine in grind (arith, nat_tests) in
    let late : is_past now x.message ≡ true = ap (λ (y : Queued). is_past now y.message) same ∙ past in
    or_left ((x.message.ticket == t) && is_past now x.message) (late_waits now t qs) (rw (test, late) refl)
late_has now t (x ∷ qs) q (inr has) ticket past = or_right ((x.message.ticket == t) && is_past now x.message) (late_waits now t qs) (late_has now t qs q has ticket past)

-- what is left was there
pub has_left : (t : ℕ) (qs : List Queued) (q : Queued) → Has (without t qs) q → Has qs q
has_left t [] q has = absurd has
has_left t (x ∷ qs) q has = by_test (x.message.ticket == t) has (λ there. has_left t qs q there)
  where
    by_test : (b : Bool) → Has (if b then qs else x ∷ without t qs) q → (Has (without t qs) q → Has qs q) → Has (x ∷ qs) q
    by_test true here further = inr here
    by_test false (inl same) further = inl same
    by_test false (inr there) further = inr (further there)

-- ---- a plan that ends a message

-- the messages are the same
pub ended_messages : (v : SenderView) (n : Name) → (ended v n).messages ≡ v.plan.messages
ended_messages v n = after_end (λ (p : Plan). p.messages ≡ v.plan.messages) v n (λ off. refl) (λ on. refl)

pub same_named : (v : SenderView) (n : Name) (l : Lane) (k : ℕ) → message_at (ended v n) l k ≡ message_at v.plan l k
same_named v n l k = ap (λ (ms : Lane → List Message). slice_get (ms l) k) (ended_messages v n)

pub one_more : (es : List Entry) (e x : Entry) (j : ℕ) → slice_get (es ++ e ∷ []) j ≡ Some x → (slice_get es j ≡ Some x) ⊎ (e ≡ x)
one_more [] e x zero here = inr (cc)
one_more [] e x (suc j) here = absurd (cc)
one_more (y ∷ es) e x zero here = inl here
one_more (y ∷ es) e x (suc j) here = one_more es e x j here

pub still_there : (es : List Entry) (e x : Entry) (j : ℕ) → slice_get es j ≡ Some x → slice_get (es ++ e ∷ []) j ≡ Some x
still_there [] e x j here = absurd (cc)
still_there (y ∷ es) e x zero here = here
still_there (y ∷ es) e x (suc j) here = still_there es e x j here

-- all that was there is there
pub ended_extends : (v : SenderView) (n : Name) → Extends v.plan (ended v n)
ended_extends v n = record { entries = entries; messages = λ l k m here. same_named v n l k ∙ here }
  where
    entries : (i : ℕ) (e : Entry) → entry_at v.plan i ≡ Some e → entry_at (ended v n) i ≡ Some e
    entries zero e here = absurd (cc)
    entries (suc i) e here = after_end (λ (p : Plan). entry_at p (suc i) ≡ Some e) v n (λ off. here) (λ on. still_there v.plan.entries (End n.lane n.number) e i here)

-- and no further fragment
pub ended_parts : (v : SenderView) (n : Name) (i : ℕ) (l : Lane) (k d : ℕ) → entry_at (ended v n) i ≡ Some (Part l k d) → entry_at v.plan i ≡ Some (Part l k d)
ended_parts v n zero l k d here = absurd (cc)
ended_parts v n (suc i) l k d here =
    after_end (λ (p : Plan). entry_at p (suc i) ≡ Some (Part l k d) → entry_at v.plan (suc i) ≡ Some (Part l k d)) v n (λ off was. was)
    (λ on was. elim (one_more v.plan.entries (End n.lane n.number) (Part l k d) i was) [ inl old ↦ old | inr mark ↦ absurd (cc) ]) here
