use Rattle.std.proofs.Common.{Some, sym, subst}
use Rattle.sctp_model.specs.end.UserCalls.{ShutdownAnswer, shut}
use Rattle.sctp_model.specs.world.World.{end_of, bag_of, log_of}
use Rattle.sctp_model.specs.world.Events as meaning
use Rattle.sctp_model.specs.world.Events.{shutdown_told}
use Rattle.sctp_model.specs.world.Steps.{Step}
use Rattle.sctp_outcomes.proofs.logs.Called.{shutdown_keeps_logs}
use Rattle.sctp_pair.proofs.NotesLemmas.{notes_kept}
use Rattle.sctp_pair.specs.Sides.{SideStands, with_side}
use Rattle.sctp_pair.proofs.StepLemmas.{side, shuts_down}
use Rattle.sctp_pair.proofs.one_side.shut_down.Goals as goal

pub returns-in-Ok : goal.returns-in-Ok
unfolding SideStands
returns-in-Ok c = λ w s stands.
    let v = end_of w s in
    let h = side (shut v) (bag_of w s) (log_of w s) in
    let keeps = shutdown_keeps_logs v (c.sound.ensures _ stands.end) in (
      h,
      subst (λ (a : ShutdownAnswer). Step w (meaning.Shutdown s) (Some (shutdown_told a)) (with_side w s h)) (sym (c.in-Ok.ensures.answer v stands.end)) (shuts_down w s),
      record { end = c.in-Ok.ensures.step v stands.end; bag = stands.bag; notes = notes_kept _ _ _ v (shut v) (log_of w s) stands.notes keeps },
    )

pub returns-in-Err : goal.returns-in-Err
unfolding SideStands
returns-in-Err c = λ w s stands.
    let v = end_of w s in
    let h = side (shut v) (bag_of w s) (log_of w s) in
    let keeps = shutdown_keeps_logs v (c.sound.ensures _ stands.end) in (
      h,
      subst (λ (a : ShutdownAnswer). Step w (meaning.Shutdown s) (Some (shutdown_told a)) (with_side w s h)) (sym (c.in-Err.ensures.answer v stands.end)) (shuts_down w s),
      record { end = c.in-Err.ensures.step v stands.end; bag = stands.bag; notes = notes_kept _ _ _ v (shut v) (log_of w s) stands.notes keeps },
    )
