-- What is kept when more tickets are over; and the tickets that take their numbers are not over.
use Rattle.std.proofs.Common.{◌≡◌, ℕ, suc, ◌+◌, ◌-◌, ◌<◌, ◌≤◌, inl, inr, List, [], ◌∷◌, length, drop, Bool, true, false, Option, Some, None, refl, sym, ap, ◌∙◌, subst, arith}
use Rattle.std.specs.Prelude.{◌==◌, not, ◌&&◌}
use Rattle.std.proofs.lemmas.List.{drop-drop}
use Rattle.std.proofs.lemmas.Bool.{cases_lt}
use Rattle.std.proofs.lemmas.Bool.Decides.{nat_tests}
use Rattle.sctp_model.specs.messages.Format.{Format}
use Rattle.sctp_model.specs.messages.Plan.{Message, Entry}
use Rattle.sctp_model.specs.sender.SenderView.{SenderView}
use Rattle.sctp_model.specs.sender.Words.{when}
use Rattle.sctp_model.specs.sender.Entries.{entry_message}
use Rattle.sctp_model.specs.sender.Abandoning.{waits, has_ticket}
use Rattle.sctp_model.specs.sender.Filling.{is_first, begun_ticket, begun_tickets, newly_numbered}
use Rattle.sctp_model.proofs.sender.Bounds.{is_bounded}
use Rattle.sctp_send.specs.SenderKept.{Item, Kept}
use Rattle.sctp_send.specs.SenderStands.{items_from, Keeps}
use Rattle.sctp_send.specs.inner.Walks.{any_item, any_rest, any_uncovered}
use Rattle.sctp_send.specs.inner.Stocking.{AreOpen}
use Rattle.sctp_send.proofs.HeldLemmas.{still_held}
use Rattle.sctp_send.proofs.KeepLemmas.{items_beyond}
use Rattle.sctp_send.proofs.QueueLemmas.{fates_given}
use Rattle.sctp_send.proofs.OverLemmas.{neither, no_item_behind}

-- ---- more of them are over

clash : {b : Bool} → b ≡ true → b ≡ false → ⊥
clash on off = cc

pub keeps_over : (f : Format) (s : Kept) (v : SenderView) (n last : ℕ) → Keeps f s v → n ≤ length s.fates → n ≤ last → ((t : ℕ) → t ≤ last → waits t s.queue ≡ false)
    → ((t : ℕ) → t ≤ last → any_rest t s.tracks ≡ false) → ((t : ℕ) → t ≤ last → any_item t s.items ≡ false) → Keeps f (record s { ended = n }) v
keeps_over f s v n last k given low queue rests items = record {
  holds = still_held s v n s.passed s.moments s.asleep k.holds;
  over = record {
    within = let all = fates_given f s v k in omega (arith, all, given);
    each = λ t le. record { queue = queue t (omega (arith, le, low)); tracks = rests t (omega (arith, le, low)); items = items t (omega (arith, le, low)) };
  };
  due = record { many = k.due.many; each = λ t now lt. let i = k.due.each t now lt in record { queue = i.queue; items = i.items; tracks = i.tracks } };
  forward = k.forward;
  resets = k.resets;
  before = k.before;
  counted = k.counted;
  limits = k.limits;
  reached = k.reached;
}

-- ---- what is still kept isn't over

pub open_waiting : (f : Format) (s : Kept) (v : SenderView) (t : ℕ) → Keeps f s v → waits t v.queue ≡ true → s.ended < t
open_waiting f s v t k on = elim (cases_lt s.ended t) [
  | inl lt ↦ lt
  | inr ge ↦ absurd (clash (ap (waits t) k.holds.queue ∙ on) (k.over.each t (omega (arith, ge))).queue)
]

uncovered_of : (t : ℕ) (xs : List Item) → any_item t xs ≡ false → any_uncovered t xs ≡ false
uncovered_of t [] none = refl
uncovered_of t (x ∷ xs) none = let parts = neither (has_ticket t x.message) (any_item t xs) none in rw (parts.0, uncovered_of t xs parts.1) refl

pub open_missing : (f : Format) (s : Kept) (v : SenderView) (t : ℕ) → Keeps f s v → (not (any_rest t s.tracks) && not (any_uncovered t s.items)) ≡ false → s.ended < t
open_missing f s v t k missing = elim (cases_lt s.ended t) [
  | inl lt ↦ lt
  | inr ge ↦ let o = k.over.each t (omega (arith, ge)) in absurd (clash (rw (o.tracks, uncovered_of t s.items o.items) refl) missing)
]

-- ---- what is numbered isn't over

open_begun : (w : SenderView) (n i : ℕ) (es : List Entry) → ((t : ℕ) → t ≤ n → any_item t (items_from w i es) ≡ false) → AreOpen n (begun_tickets w.plan es)
open_begun w n i [] none = tt
open_begun w n i (e ∷ es) none =
    by_message (entry_message w.plan e) refl (open_begun w n (suc i) es (λ t le. (neither (has_ticket t (entry_message w.plan e)) (any_item t (items_from w (suc i) es)) (none t le)).1))
  where
    behind : (m : Message) → entry_message w.plan e ≡ Some m → n < m.ticket
    behind m is = elim (cases_lt n m.ticket) [
      | inl lt ↦ lt
      | inr ge ↦
          let off = (neither (has_ticket m.ticket (entry_message w.plan e)) (any_item m.ticket (items_from w (suc i) es)) (none m.ticket ge)).0 in
          let on : (m.ticket == m.ticket) ≡ true = grind (arith, nat_tests) in
          absurd (clash (ap (has_ticket m.ticket) is ∙ on) off)
    ]

    by_first : (m : Message) → entry_message w.plan e ≡ Some m → (b : Bool) → begun_ticket w.plan e ≡ when b m.ticket → AreOpen n (begun_tickets w.plan es) → AreOpen n (begun_tickets w.plan (e ∷ es))
    by_first m is true here rest = rw here (behind m is, rest)
    by_first m is false here rest = rw here rest

    by_message : (o : Option Message) → entry_message w.plan e ≡ o → AreOpen n (begun_tickets w.plan es) → AreOpen n (begun_tickets w.plan (e ∷ es))
    by_message None is rest = rw is rest
    by_message (Some m) is rest = by_first m is (is_first e) (rw is refl) rest

-- the tickets that are numbered from one view to another
pub open_newly : (f : Format) (s u : Kept) (v w : SenderView) → Keeps f s v → Keeps f u w → u.cum ≡ s.cum → AreOpen u.ended (newly_numbered v w)
open_newly f s u v w k l same =
    let n = length v.plan.entries in
    let within = (is_bounded f v k.reached).within in
    let old = k.holds.cum in
    let new = l.holds.cum in
    let d = n - w.cum in
    let parts : w.cum + d ≡ n = omega (arith, within, old, new, same) in
    let left : drop d (drop w.cum w.plan.entries) ≡ drop n w.plan.entries = drop-drop d w.cum w.plan.entries ∙ ap (λ (x : ℕ). drop x w.plan.entries) parts in
    let beyond = items_beyond w (drop w.cum w.plan.entries) (suc w.cum) d in
    subst (λ (es : List Entry). AreOpen u.ended (begun_tickets w.plan es)) left (open_begun w u.ended (d + suc w.cum) (drop d (drop w.cum w.plan.entries))
    (λ t le. ap (any_item t) beyond ∙ no_item_behind t d (items_from w (suc w.cum) (drop w.cum w.plan.entries)) (ap (any_item t) (sym l.holds.items) ∙ (l.over.each t (omega (arith, le))).items)))
