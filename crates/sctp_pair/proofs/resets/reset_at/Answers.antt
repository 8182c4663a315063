use Rattle.std.proofs.Common.{◌≡◌, ℕ, refl, subst, arith}
use Rattle.std.proofs.lemmas.Grind.{common_steps}
use Rattle.sctp_model.specs.end.EndView.{EndView}
use Rattle.sctp_model.specs.end.UserCalls.{ResetCall, Begun, reset_call, reset_leaves}
use Rattle.sctp_model.specs.world.World.{end_of, bag_of, log_of}
use Rattle.sctp_model.specs.world.Events as meaning
use Rattle.sctp_model.specs.world.Steps as steps
use Rattle.sctp_outcomes.specs.Kept.{IsSound, KeepsLogs}
use Rattle.sctp_outcomes.proofs.logs.Called.{reset_keeps_logs}
use Rattle.sctp_pair.proofs.NotesLemmas.{notes_kept}
use Rattle.sctp_pair.specs.Sides.{side_of, SideStands}
use Rattle.sctp_pair.proofs.StepLemmas.{side, resets, no_memory}
use Rattle.sctp_pair.proofs.resets.reset_at.Goals as goal

-- a call that begins a reset keeps the logs
begun_keeps : (e : EndView) (n : ℕ) → IsSound e → reset_call e n ≡ Begun → KeepsLogs e (reset_leaves Begun e n)
begun_keeps e n s is = subst (λ (a : ResetCall). KeepsLogs e (reset_leaves a e n)) is (reset_keeps_logs e n s)

pub returns-in-Ok-clause-step : goal.returns-in-Ok-clause-step
unfolding SideStands
returns-in-Ok-clause-step c = λ w s stands.
    let v = end_of w s in
    let told = c.in-Ok.ensures.answer v stands.end in
    let keeps = begun_keeps v c.args.stream (c.sound.ensures _ stands.end) told in (
      side (reset_leaves Begun v c.args.stream) (bag_of w s) (log_of w s),
      resets w s c.args.stream Begun told,
      record { end = c.in-Ok.ensures.step v stands.end; bag = stands.bag; notes = notes_kept _ _ _ v (reset_leaves Begun v c.args.stream) (log_of w s) stands.notes keeps },
    )

pub returns-in-Err-State-clause-step : goal.returns-in-Err-State-clause-step
unfolding SideStands
returns-in-Err-State-clause-step c = λ w s stands.
    let v = end_of w s in
    let told = rw c.in-Err-State.field-0-is at (c.in-Err-State.ensures.answer v stands.end) in
    rw c.refused.ensures (side_of w s, resets w s c.args.stream _ told, record { end = c.in-Err-State.ensures.step v stands.end; bag = stands.bag; notes = stands.notes })

pub returns-in-Err-NoSuchStream-clause-step : goal.returns-in-Err-NoSuchStream-clause-step
unfolding SideStands
returns-in-Err-NoSuchStream-clause-step c = λ w s stands.
    let v = end_of w s in
    let told = rw c.in-Err-NoSuchStream.field-0-is at (c.in-Err-NoSuchStream.ensures.answer v stands.end) in
    rw c.refused-in-Err-NoSuchStream.ensures (side_of w s, resets w s c.args.stream _ told, record { end = c.in-Err-NoSuchStream.ensures.step v stands.end; bag = stands.bag; notes = stands.notes })

pub returns-in-Err-NoMemory-clause-step : goal.returns-in-Err-NoMemory-clause-step
unfolding SideStands
returns-in-Err-NoMemory-clause-step c = λ w s stands.
    let v = end_of w s in
    let e = meaning.Reset s c.args.stream in
    (side_of w s, no_memory w e s (steps.NoMemory e refl), record { end = c.in-Err-NoMemory.ensures.step v stands.end; bag = stands.bag; notes = stands.notes })

pub returns-in-Err-State-clause-memory : goal.returns-in-Err-State-clause-memory
returns-in-Err-State-clause-memory c = grind (arith, common_steps)

pub returns-in-Err-NoSuchStream-clause-memory : goal.returns-in-Err-NoSuchStream-clause-memory
returns-in-Err-NoSuchStream-clause-memory c = grind (arith, common_steps)

pub returns-in-Err-NoMemory-clause-memory : goal.returns-in-Err-NoMemory-clause-memory
unfolding SideStands
returns-in-Err-NoMemory-clause-memory c = λ w s stands. rw c.in-Err-NoMemory.field-0-is at (c.in-Err-NoMemory.ensures.answer (end_of w s) stands.end)
