-- A message in part isn't abandoned: giving it up would have ended it.
use Rattle.std.proofs.Common.{◌≡◌, ℕ, zero, suc, ◌<◌, List, length, Bool, true, false, Some, refl, sym, ap, ◌∙◌, subst, arith}
use Rattle.std.specs.Prelude.{◌==◌, nat_lt, if◌then◌else◌}
use Rattle.std.proofs.lemmas.Bool.Decides.{nat_tests}
use Rattle.sctp_model.specs.messages.Format.{Format, Lane}
use Rattle.sctp_model.specs.messages.Plan.{Entry, Part, End, Plan}
use Rattle.sctp_model.specs.sender.SenderView.{Queued, SenderView}
use Rattle.sctp_model.specs.sender.Words.{when, some_passes}
use Rattle.sctp_model.specs.sender.Entries.{entry_lane, entry_number, is_of, is_of_abandoned, is_in_part, next_part, continued}
use Rattle.sctp_model.specs.sender.Assigning.{with_message, with_entry}
use Rattle.sctp_model.specs.sender.Abandoning.{Name, with_abandoned}
use Rattle.sctp_model.specs.sender.Reached.{IsReached, Begins, Queues, Goes, Covers, Closes, Abandons, Repeats, Rebases}
use Rattle.sctp_model.proofs.sender.WordLaws.{when_there}
use Rattle.sctp_model.proofs.sender.WishCases.{IsAssigned, Whole, Begun, Continued, after_wish}
use Rattle.sctp_model.proofs.sender.AbandonCases.{same_lane-self, after_abandon, after_end, given_other}
use Rattle.sctp_model.proofs.sender.SetLaws.{AllFilled, is_filled}
use Rattle.sctp_model.proofs.sender.PlanLaws.{continued_is, continued_new, continued_more}
use Rattle.sctp_model.proofs.sender.CountLaws.{HasMessages, is_named, new_kept}
use Rattle.sctp_model.proofs.sender.PartLaws.{ended_here, ended_there}

-- what a stream goes on with is of a message that isn't abandoned
abbrev pub ArePartsKept : SenderView → Type 0
ArePartsKept v = (s : ℕ) (e : Entry) → continued v.plan s ≡ Some e → is_of_abandoned v e ≡ false

-- a message took its number: its stream goes on with it, or with nothing
kept_new : (v : SenderView) (q : Queued) (d s : ℕ) (e : Entry) → HasMessages v → ArePartsKept v → v.abandoned q.lane (length (v.plan.messages q.lane)) ≡ false
    → continued (with_message v.plan q (suc d)) s ≡ Some e → is_of_abandoned v e ≡ false
kept_new v q d s e named h fresh is = by_stream (q.lane.stream == s) (sym (continued_new v.streams v.plan q d s named) ∙ is)
  where
    part : Entry
    part = Part q.lane (length (v.plan.messages q.lane)) (suc d)

    by_stream : (b : Bool) → (if b then when (nat_lt (suc d) (length q.message.fragments)) part else continued v.plan s) ≡ Some e → is_of_abandoned v e ≡ false
    by_stream true next = subst (λ (x : Entry). is_of_abandoned v x ≡ false) (when_there (nat_lt (suc d) (length q.message.fragments)) part e next).1 fresh
    by_stream false next = h s e next

-- one entry more: its stream goes on with what follows it
kept_more : (v : SenderView) (x : Entry) (s : ℕ) (e : Entry) → HasMessages v → ArePartsKept v → (t : ℕ) → continued v.plan t ≡ Some x → continued (with_entry v.plan x) s ≡ Some e → is_of_abandoned v e ≡ false
kept_more v x s e named h t before is = by_stream ((entry_lane x).stream == s) (sym (continued_more v.plan x s) ∙ is)
  where
    behind : (y : Entry) → is_of_abandoned v y ≡ false → next_part v.plan y ≡ Some e → is_of_abandoned v e ≡ false
    behind (End l n) kept next = absurd (cc)
    behind (Part l n k) kept next = subst (λ (z : Entry). is_of_abandoned v z ≡ false) (when_there _ (Part l n (suc k)) e next).1 kept

    by_stream : (b : Bool) → (if b then next_part v.plan x else continued v.plan s) ≡ Some e → is_of_abandoned v e ≡ false
    by_stream true next = behind x (h t x before) next
    by_stream false next = h s e next

kept_assigned : (f : Format) (v u : SenderView) → IsReached f v → ArePartsKept v → IsAssigned v f u → ArePartsKept u
kept_assigned f v u reached h a = by_case f u a
  where
    named : HasMessages v
    named = is_named f v reached

    by_count : (q : Queued) (d : ℕ) → 0 < d → (s : ℕ) (e : Entry) → continued (with_message v.plan q d) s ≡ Some e → is_of_abandoned v e ≡ false
    by_count q zero some s e is = absurd (omega arith)
    by_count q (suc d) some s e is = kept_new v q d s e named h (new_kept f v q.lane reached) is

    by_case : (g : Format) (x : SenderView) → IsAssigned v g x → ArePartsKept x
    by_case _ _ (Whole q rest queue) = by_count q (length q.message.fragments) (subst (λ (qs : List Queued). AllFilled v.streams qs) queue (is_filled f v reached)).0.0
    by_case _ _ (Begun s q low idle first) = by_count q 1 (omega arith)
    by_case _ _ (Continued t x low on) = λ s e is. kept_more v x s e named h t on is

-- the message given up goes on no more
kept_given : (v : SenderView) (n : Name) → HasMessages v → ArePartsKept v → ArePartsKept (with_abandoned v n)
kept_given v n named h s e = after_end (λ (p : Plan). continued p s ≡ Some e → is_of_abandoned (with_abandoned v n) e ≡ false) v n untouched marked
  where
    -- an entry of another message
    other : ((entry_lane e ≡ n.lane) × (entry_number e ≡ n.number) → ⊥) → continued v.plan s ≡ Some e → is_of_abandoned (with_abandoned v n) e ≡ false
    other apart is = given_other v n (entry_lane e) (entry_number e) apart ∙ h s e is

    on_its_stream : continued v.plan s ≡ Some e → (entry_lane e).stream ≡ s
    on_its_stream is = let next = continued_is v.streams v.plan s e named is in ap (λ (x : Entry). (entry_lane x).stream) next.is ∙ next.on

    untouched : is_in_part v n.lane n.number ≡ false → continued v.plan s ≡ Some e → is_of_abandoned (with_abandoned v n) e ≡ false
    untouched off is = other (λ same.
        let stream : n.lane.stream ≡ s = ap (λ (l : Lane). l.stream) (sym same.0) ∙ on_its_stream is in
        let self : (n.number == n.number) ≡ true = grind (arith, nat_tests) in
        let mine : is_of n.lane n.number e ≡ true = rw (same.0, same.1, same_lane-self n.lane, self) refl in
        let on : is_in_part v n.lane n.number ≡ true = ap (some_passes (is_of n.lane n.number)) (ap (continued v.plan) stream ∙ is) ∙ mine in
        cc) is

    marked : is_in_part v n.lane n.number ≡ true → continued (with_entry v.plan (End n.lane n.number)) s ≡ Some e → is_of_abandoned (with_abandoned v n) e ≡ false
    marked on is = by_stream (s == n.lane.stream) refl
      where
        by_stream : (b : Bool) → (s == n.lane.stream) ≡ b → is_of_abandoned (with_abandoned v n) e ≡ false
        by_stream true same = absurd (let here : s ≡ n.lane.stream = grind (arith, nat_tests) in let none = ap (continued (with_entry v.plan (End n.lane n.number))) here ∙ ended_here v.plan n in cc)
        by_stream false off =
            let apart : (s ≡ n.lane.stream → ⊥) = λ same. let yes : (s == n.lane.stream) ≡ true = grind (arith, nat_tests) in cc in
            let before = sym (ended_there v.plan n s apart) ∙ is in
            other (λ same. apart (sym (ap (λ (l : Lane). l.stream) (sym same.0) ∙ on_its_stream before))) before

pub are_parts_kept : (f : Format) (v : SenderView) → IsReached f v → ArePartsKept v
are_parts_kept f _ (Begins i s b r p most large) = λ t e is. absurd (cc)
are_parts_kept f _ (Queues v l p b u n h free) = are_parts_kept f v h
are_parts_kept f _ (Goes v room w h next may) = let k = are_parts_kept f v h in after_wish ArePartsKept f v w k (λ u a. kept_assigned f v u h k a) (λ u i x. x) next
are_parts_kept f _ (Covers v x h none) = are_parts_kept f v h
are_parts_kept f _ (Closes v x h none) = are_parts_kept f v h
are_parts_kept f _ (Abandons v t h) = let k = are_parts_kept f v h in after_abandon ArePartsKept v t k (λ on. k) (λ n is kept. kept_given v n (is_named f v h) k)
are_parts_kept f _ (Repeats v test h) = are_parts_kept f v h
are_parts_kept f _ (Rebases v x h) = are_parts_kept f v h
