use Rattle.std.proofs.Common.{◌≡◌, ℕ, max, true, refl, sym, subst, arith}
use Rattle.std.proofs.lemmas.Grind.{common_steps}
use Rattle.std.proofs.lemmas.Result.{err_from_is_err_and}
use Rattle.sctp_model.specs.world.World.{A, B, end_of}
use Rattle.sctp_model.specs.world.Events as meaning
use Rattle.sctp_model.specs.world.Steps as steps
use Rattle.sctp_pair.specs.Noted.{has_to_give_up}
use Rattle.sctp_pair.specs.Sides.{side_of}
use Rattle.sctp_pair.specs.PairStands.{PairStands}
use Rattle.sctp_pair.proofs.ClockLemmas.{on_time}
use Rattle.sctp_pair.proofs.MemoryLemmas.{anyway}
use Rattle.sctp_pair.proofs.TimeLemmas.{at_times, time_passes}
use Rattle.sctp_pair.proofs.pair.Pair.pass_time.Goals as goal

pub returns-in_err-of_a-clause-step : goal.returns-in_err-of_a-clause-step
unfolding PairStands
returns-in_err-of_a-clause-step c = λ w stands.
    let p = err_from_is_err_and c.from_residual.result c.from_residual.ensures.1 in
    let a = c.make_room.ensures.same (side_of w A) stands.a in (
      w,
      rw p.1 (steps.NoMemory (meaning.At c.args.moment) refl),
      record { a = a; b = stands.b; clock_a = stands.clock_a; clock_b = stands.clock_b; draw = stands.draw; openable = stands.openable; on_time = stands.on_time },
    )

pub returns-in_err-of_b-clause-step : goal.returns-in_err-of_b-clause-step
unfolding PairStands
returns-in_err-of_b-clause-step c = λ w stands.
    let p = err_from_is_err_and c.from_residual-in_err-of_b.result c.from_residual-in_err-of_b.ensures.1 in
    let a = c.make_room.ensures.same (side_of w A) stands.a in
    let b = c.make_room-2.ensures.same (side_of w B) stands.b in (
      w,
      rw p.1 (steps.NoMemory (meaning.At c.args.moment) refl),
      record { a = a; b = b; clock_a = stands.clock_a; clock_b = stands.clock_b; draw = stands.draw; openable = stands.openable; on_time = stands.on_time },
    )

pub returns-clause-step : goal.returns-clause-step
unfolding PairStands
returns-clause-step c = λ w stands.
    let n = c.max-at_a.result in
    let k = c.max-at_b.result in
    let m = c.args.moment in
    let at_a : max c.args.self.now.clock_a m ≡ n = grind (arith, common_steps) in
    let at_b : max c.args.self.now.clock_b m ≡ k = grind (arith, common_steps) in
    let a = c.tick.ensures (side_of w A) (c.make_room.ensures.same (side_of w A) stands.a) (rw c.deref.ensures.value (c.in_ok-of_a.ensures.listed (side_of w A) stands.a)) in
    let b = c.tick-2.ensures (side_of w B) (c.make_room-2.ensures.same (side_of w B) stands.b) (rw c.deref-2.ensures.value (c.in_ok-of_b.ensures.listed (side_of w B) stands.b)) in
    let step = time_passes w m n k (omega (arith, c.ranges.moment.fits)) (rw stands.clock_a at_a) (rw stands.clock_b at_b) in
    (at_times w n k, step, record { a = a; b = b; clock_a = refl; clock_b = refl; draw = stands.draw; openable = stands.openable; on_time = on_time w _ _ _ stands.on_time step })

pub returns-in_err-of_a-clause-memory : goal.returns-in_err-of_a-clause-memory
unfolding PairStands
returns-in_err-of_a-clause-memory c = λ w stands.
    let n = c.max-at_a.result in
    let clock : max c.args.self.now.clock_a c.args.moment ≡ n = grind (arith, common_steps) in
    let is : max w.clock_a c.args.moment ≡ n = rw stands.clock_a clock in
    let late = c.in_err-of_a.ensures.memory (side_of w A) stands.a in
    anyway c.from_residual.result (A, subst (λ (k : ℕ). has_to_give_up (end_of w A) k ≡ true) (sym is) late)

pub returns-in_err-of_b-clause-memory : goal.returns-in_err-of_b-clause-memory
unfolding PairStands
returns-in_err-of_b-clause-memory c = λ w stands.
    let n = c.max-at_b.result in
    let clock : max c.args.self.now.clock_b c.args.moment ≡ n = grind (arith, common_steps) in
    let is : max w.clock_b c.args.moment ≡ n = rw stands.clock_b clock in
    let late = c.in_err-of_b.ensures.memory (side_of w B) stands.b in
    anyway c.from_residual-in_err-of_b.result (B, subst (λ (k : ℕ). has_to_give_up (end_of w B) k ≡ true) (sym is) late)
