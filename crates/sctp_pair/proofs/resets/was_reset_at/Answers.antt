use Rattle.std.proofs.Common.{◌≡◌, ℕ, Option, None, Some, sym, ap, subst}
use Rattle.sctp_model.specs.end.EndView.{EndView}
use Rattle.sctp_model.specs.end.UserCalls.{reset_there, told_leaves}
use Rattle.sctp_model.specs.world.World.{World, Side, end_of, bag_of, log_of}
use Rattle.sctp_model.specs.world.Events as meaning
use Rattle.sctp_model.specs.world.Events.{ResetThere}
use Rattle.sctp_model.specs.world.Steps.{Step}
use Rattle.sctp_outcomes.specs.Kept.{IsSound, KeepsLogs}
use Rattle.sctp_outcomes.proofs.logs.Called.{told_keeps_logs}
use Rattle.sctp_pair.proofs.NotesLemmas.{notes_kept}
use Rattle.sctp_pair.specs.Sides.{SideStands, with_side}
use Rattle.sctp_pair.proofs.StepLemmas.{side, tells_reset}
use Rattle.sctp_pair.proofs.resets.was_reset_at.Goals as goal

-- what is reported keeps the logs
told_keeps : (e : EndView) (o : Option ℕ) → IsSound e → reset_there e ≡ o → KeepsLogs e (told_leaves o e)
told_keeps e o s is = subst (λ (x : Option ℕ). KeepsLogs e (told_leaves x e)) is (told_keeps_logs e s)

pub returns-in-Some : goal.returns-in-Some
unfolding SideStands
returns-in-Some c = λ w s stands.
    let v = end_of w s in
    let told = c.in-Some.ensures.answer v stands.end in
    let x = c.in-Some.reset.stream in
    let keeps = told_keeps v (Some x) (c.sound.ensures _ stands.end) told.0 in
    let h = side (told_leaves (Some x) v) (bag_of w s) (log_of w s) in (
      h,
      subst (λ (n : ℕ). Step w (meaning.WasReset s) (Some (ResetThere x n)) (with_side w s h)) (sym told.1) (tells_reset w s (Some x) told.0),
      record { end = c.in-Some.ensures.step v stands.end; bag = stands.bag; notes = notes_kept _ _ _ v (told_leaves (Some x) v) (log_of w s) stands.notes keeps },
    )

pub returns-in-None : goal.returns-in-None
unfolding SideStands
returns-in-None c = λ w s stands.
    let v = end_of w s in
    let told = c.in-None.ensures.answer v stands.end in
    let keeps = told_keeps v None (c.sound.ensures _ stands.end) told in (
      side v (bag_of w s) (log_of w s),
      tells_reset w s None told,
      record { end = c.in-None.ensures.step v stands.end; bag = stands.bag; notes = notes_kept _ _ _ v v (log_of w s) stands.notes keeps },
    )
