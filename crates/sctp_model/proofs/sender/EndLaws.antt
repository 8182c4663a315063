-- End marks of a view that calls reach are of abandoned messages.
use Rattle.std.proofs.Common.{◌≡◌, ℕ, zero, suc, inl, inr, List, [], ◌∷◌, ◌++◌, Bool, true, false, Some, refl, sym, ap, ◌∙◌, subst}
use Rattle.std.specs.Prelude.{◌==◌, slice_get, if◌then◌else◌}
use Rattle.sctp_model.specs.numbers.Lists.{Has}
use Rattle.sctp_model.specs.messages.Format.{Format, Lane, same_lane}
use Rattle.sctp_model.specs.messages.Plan.{Entry, End, Plan, entry_at}
use Rattle.sctp_model.specs.sender.SenderView.{SenderView}
use Rattle.sctp_model.specs.sender.Abandoning.{Name, with_abandoned}
use Rattle.sctp_model.specs.sender.Reached.{IsReached, Begins, Queues, Goes, Covers, Closes, Abandons, Repeats, Rebases}
use Rattle.sctp_model.proofs.sender.WishCases.{IsAssigned, Whole, Begun, Continued, after_wish}
use Rattle.sctp_model.proofs.sender.AbandonCases.{lanes_same, after_abandon, after_end, given_itself}
use Rattle.sctp_model.proofs.sender.CountLaws.{HasMessages, is_named}
use Rattle.sctp_model.proofs.sender.WordLaws.{has_either}
use Rattle.sctp_model.proofs.sender.MarkLaws.{IsPutBehind, put_behind}

-- the message of each end mark is abandoned
abbrev pub AreEndsGiven : SenderView → Type 0
AreEndsGiven v = (l : Lane) (n : ℕ) → Has v.plan.entries (End l n) → v.abandoned l n ≡ true

-- what was abandoned stays so
pub given_stays : (v : SenderView) (n : Name) (l : Lane) (k : ℕ) → v.abandoned l k ≡ true → (with_abandoned v n).abandoned l k ≡ true
given_stays v n l k on = by_lane (same_lane l n.lane) refl
  where
    by_number : (b : Bool) → l ≡ n.lane → (if b then true else v.abandoned n.lane k) ≡ true
    by_number true lane = refl
    by_number false lane = ap (λ (x : Lane). v.abandoned x k) (sym lane) ∙ on

    by_lane : (b : Bool) → same_lane l n.lane ≡ b → (if b then (λ (j : ℕ). if j == n.number then true else v.abandoned n.lane j) else v.abandoned l) k ≡ true
    by_lane true same = by_number (k == n.number) (lanes_same l n.lane same)
    by_lane false other = on

ends_assigned : (f : Format) (v u : SenderView) → HasMessages v → AreEndsGiven v → IsAssigned v f u → AreEndsGiven u
ends_assigned f v u named h a = by_case f u a (put_behind f v u named a)
  where
    old : (x : SenderView) → IsPutBehind v x → (l : Lane) (n : ℕ) → Has x.plan.entries (End l n) → v.abandoned l n ≡ true
    old x p l n has =
        elim (has_either v.plan.entries p.more (End l n) (subst (λ (es : List Entry). Has es (End l n)) p.entries has)) [
          | inl before ↦ h l n before
          | inr new ↦ absurd (p.parts l n new)
        ]

    by_case : (g : Format) (x : SenderView) → IsAssigned v g x → IsPutBehind v x → AreEndsGiven x
    by_case _ _ (Whole q rest is) p = old _ p
    by_case _ _ (Begun s q lt on first) p = old _ p
    by_case _ _ (Continued s e lt on) p = old _ p

ends_given : (v : SenderView) (n : Name) → AreEndsGiven v → AreEndsGiven (with_abandoned v n)
ends_given v n h l k = after_end (λ (p : Plan). Has p.entries (End l k) → (with_abandoned v n).abandoned l k ≡ true) v n (λ off has. given_stays v n l k (h l k has)) (λ on has. more has)
  where
    its_own : Has (End n.lane n.number ∷ []) (End l k) → (with_abandoned v n).abandoned l k ≡ true
    its_own (inl same) =
        let lane : n.lane ≡ l = cc in
        let number : n.number ≡ k = cc in
        subst (λ (j : ℕ). (with_abandoned v n).abandoned l j ≡ true) number (subst (λ (b : Lane). (with_abandoned v n).abandoned b n.number ≡ true) lane (given_itself v n))
    its_own (inr never) = absurd never

    more : Has (v.plan.entries ++ End n.lane n.number ∷ []) (End l k) → (with_abandoned v n).abandoned l k ≡ true
    more has =
        elim (has_either v.plan.entries (End n.lane n.number ∷ []) (End l k) has) [
          | inl before ↦ given_stays v n l k (h l k before)
          | inr new ↦ its_own new
        ]

pub are_ends_given : (f : Format) (v : SenderView) → IsReached f v → AreEndsGiven v
are_ends_given f _ (Begins i s b r p most large) = λ l n has. absurd has
are_ends_given f _ (Queues v l p b u n h free) = are_ends_given f v h
are_ends_given f _ (Goes v room w h next may) =
    let k = are_ends_given f v h in
    after_wish AreEndsGiven f v w k (λ u a. ends_assigned f v u (is_named f v h) k a) (λ u i x. x) next
are_ends_given f _ (Covers v x h none) = are_ends_given f v h
are_ends_given f _ (Closes v x h none) = are_ends_given f v h
are_ends_given f _ (Abandons v t h) = let k = are_ends_given f v h in after_abandon AreEndsGiven v t k (λ on. k) (λ n is kept. ends_given v n k)
are_ends_given f _ (Repeats v test h) = are_ends_given f v h
are_ends_given f _ (Rebases v x h) = are_ends_given f v h

-- by its index
has_at : (es : List Entry) (i : ℕ) (e : Entry) → slice_get es i ≡ Some e → Has es e
has_at [] i e here = absurd (cc)
has_at (d ∷ es) zero e here = inl (cc)
has_at (d ∷ es) (suc i) e here = inr (has_at es i e here)

pub end_given : (f : Format) (v : SenderView) (i : ℕ) (l : Lane) (n : ℕ) → IsReached f v → entry_at v.plan i ≡ Some (End l n) → v.abandoned l n ≡ true
end_given f v zero l n h here = absurd (cc)
end_given f v (suc i) l n h here = are_ends_given f v h l n (has_at v.plan.entries i (End l n) here)
