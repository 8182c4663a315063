use Rattle.std.proofs.Common.{◌≡◌, ℕ, true, refl, sym, subst}
use Rattle.std.proofs.lemmas.Result.{err_from_is_err_and}
use Rattle.sctp_model.specs.world.World.{end_of}
use Rattle.sctp_model.specs.world.Events as meaning
use Rattle.sctp_model.specs.world.Steps as steps
use Rattle.sctp_pair.specs.Noted.{has_to_give_up}
use Rattle.sctp_pair.specs.Sides.{side_of, ticked_side}
use Rattle.sctp_pair.proofs.MemoryLemmas.{anyway}
use Rattle.sctp_pair.proofs.StepLemmas.{no_memory}
use Rattle.sctp_pair.proofs.TimeLemmas.{moment_comes}
use Rattle.sctp_pair.proofs.moments.notify_at.Goals as goal

pub returns-in_err-before-clause-step : goal.returns-in_err-before-clause-step
returns-in_err-before-clause-step c = λ w s stands clock.
    let e = meaning.Moment s in
    let p = err_from_is_err_and c.from_residual.result c.from_residual.ensures.1 in
    (side_of w s, rw p.1 (no_memory w e s (steps.NoMemory e refl)), c.make_room.ensures.same (side_of w s) stands)

pub returns-clause-step : goal.returns-clause-step
returns-clause-step c = λ w s stands clock.
    let n = c.args.clock in
    let same = c.make_room.ensures.same (side_of w s) stands in (
      ticked_side (side_of w s) n,
      moment_comes w s n clock,
      c.tick.ensures (side_of w s) same (rw c.deref.ensures.value (c.in_ok-before.ensures.listed (side_of w s) stands)),
    )

pub returns-in_err-before-clause-memory : goal.returns-in_err-before-clause-memory
returns-in_err-before-clause-memory c = λ w s stands clock.
    let late = c.in_err-before.ensures.memory (side_of w s) stands in
    anyway c.from_residual.result (subst (λ (k : ℕ). has_to_give_up (end_of w s) k ≡ true) (sym clock) late)
