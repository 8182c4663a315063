-- Which wishes are sent again: the marked ones, and no others; and what is counted of them, one after the other.
use Rattle.std.proofs.Common.{◌≡◌, ℕ, suc, ◌+◌, ◌%◌, ◌^◌, ◌<◌, ◌≤◌, List, [], ◌∷◌, ◌++◌, length, Bool, true, false, Some, refl, sym, ap, ◌∙◌, arith}
use Rattle.std.specs.Prelude.{not, if◌then◌else◌, cond, count_by, option_map}
use Rattle.std.proofs.lemmas.List.Sums.{sum_by_push, count_by-le-length}
use Rattle.sctp_model.specs.messages.Format.{Format}
use Rattle.sctp_model.specs.sender.SenderView.{SenderView}
use Rattle.sctp_model.specs.sender.Assigning.{assigned}
use Rattle.sctp_model.specs.sender.Filling.{Wish, newcomer, next_wish, standing}
use Rattle.sctp_send.specs.SenderKept.{Kept}
use Rattle.sctp_send.specs.SenderStands.{Keeps}
use Rattle.sctp_send.specs.FillAnswers.{is_sent_first, is_sent_again, sendings_of}
use Rattle.sctp_send.specs.inner.Asking.{IsNext}
use Rattle.sctp_send.specs.inner.Stocking.{NothingStands}
use Rattle.sctp_send.specs.inner.Sending.{sent_more, sent_going}
use Rattle.sctp_send.specs.declared.fill.asking.Going.{Going}
use Rattle.sctp_send.specs.declared.fill.asking.Going.TheVariants.{Indexed, New}
use Rattle.sctp_send.specs.declared.fill.assigning.Next.TheVariants.{Begins, Continues}
use Rattle.sctp_send.specs.declared.fill.sendings.Sendings.{Sendings}
use Rattle.sctp_send.proofs.fill.RoomLemmas.{unsent_new}

-- what takes an index wasn't sent before
counted_new : (f : Format) (v u : SenderView) (w : Wish) (r : Sendings) (s : Kept) → Keeps f s v → NothingStands f v → assigned f v ≡ Some u → next_wish f v ≡ Some w
    → record r { first = (r.first + 1) % 2 ^ 32 } ≡ sent_more (w.view.sent w.index) r
counted_new f v u w r s k stands is next =
    let same : newcomer v u ≡ w = let here : Some (newcomer v u) ≡ Some w = sym (stands ∙ ap (option_map (newcomer v)) is) ∙ next in cc in
    ap (λ (b : Bool). sent_more b r) (sym (unsent_new f v u k.reached is)) ∙ ap (λ (x : Wish). sent_more (x.view.sent x.index) r) same

-- the next wish counts as the code says
pub counted_going : (f : Format) (s : Kept) (v : SenderView) (going : Going) (r : Sendings) (w : Wish) → Keeps f s v → IsNext f v going → next_wish f v ≡ Some w
    → sent_going going r ≡ sent_more (w.view.sent w.index) r
counted_going f s v (Indexed x) r w k next is =
    let same : standing v (suc (v.cum + x.at)) ≡ w = let here : Some (standing v (suc (v.cum + x.at))) ≡ Some w = sym next.next ∙ is in cc in
    ap (λ (b : Bool). sent_more b r) (sym next.sent) ∙ ap (λ (y : Wish). sent_more (y.view.sent y.index) r) same
counted_going f s v (New (Begins x)) r w k next is = counted_new f v _ w r s k next.0 next.1.assigned is
counted_going f s v (New (Continues x)) r w k next is = counted_new f v _ w r s k next.0 next.1.assigned is

-- so many of each kind
abbrev pub made : (first again : ℕ) → Sendings
made a b = record { first = a; again = b }

-- one wish more
pub one_sent : (ws : List Wish) (w : Wish) → length ws < 65536 → sendings_of (ws ++ w ∷ []) ≡ sent_more (w.view.sent w.index) (sendings_of ws)
one_sent ws w few =
    let first = sum_by_push (λ x. cond (is_sent_first x) 1 0) ws w in
    let again = sum_by_push (λ x. cond (is_sent_again x) 1 0) ws w in
    rw (first, again) (by_kind (count_by is_sent_first ws) (count_by is_sent_again ws) (w.view.sent w.index) (count_by-le-length is_sent_first ws) (count_by-le-length is_sent_again ws))
  where
    by_kind : (a b : ℕ) (again : Bool) → a ≤ length ws → b ≤ length ws
        → made (a + cond (not again) 1 0) (b + cond again 1 0) ≡ (if again then made a ((b + 1) % 2 ^ 32) else made ((a + 1) % 2 ^ 32) b)
    by_kind a b true ha hb = let x : a + 0 ≡ a = omega arith in let y : (b + 1) % 2 ^ 32 ≡ b + 1 = omega (arith, few) in rw (x, y) refl
    by_kind a b false ha hb = let x : (a + 1) % 2 ^ 32 ≡ a + 1 = omega (arith, few) in let y : b + 0 ≡ b = omega arith in rw (x, y) refl
