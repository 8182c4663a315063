use Rattle.std.proofs.Common.{ℕ, false, Some, refl, sym, subst}
use Rattle.sctp_model.specs.end.Clock.{at_moment}
use Rattle.sctp_model.specs.end.UserCalls.{called}
use Rattle.sctp_model.specs.world.World.{World}
use Rattle.sctp_model.specs.world.Events as meaning
use Rattle.sctp_model.specs.world.Steps as steps
use Rattle.sctp_model.specs.world.Steps.{Step}
use Rattle.sctp_pair.specs.Sides.{SideStands}
use Rattle.sctp_pair.specs.PairStands.{PairStands}
use Rattle.sctp_outcomes.proofs.logs.Called.{connect_keeps_logs}
use Rattle.sctp_pair.proofs.ClockLemmas.{on_time}
use Rattle.sctp_pair.proofs.NotesLemmas.{notes_kept}
use Rattle.sctp_pair.proofs.pair.Pair.connect.Goals as goal

pub returns-in-Ok : goal.returns-in-Ok
unfolding PairStands SideStands
returns-in-Ok c = λ w stands.
    let d = c.args.draw in
    let n = c.args.self.now.clock_a in
    let to : ℕ → World = λ k. record w { a = called (at_moment w.a k) d; openable = false } in
    let answer = sym (c.in-Ok.ensures.answer w.a stands.a.end) in
    let keeps = connect_keeps_logs w.a n d (c.sound.ensures _ stands.a.end) answer in
    let step = subst (λ (k : ℕ). Step w (meaning.Connect d) (Some meaning.Done) (to k)) stands.clock_a (steps.Connects d c.tag-tag.ensures.drawn answer) in (
      to n,
      step,
      record {
        a = record { end = c.in-Ok.ensures.step w.a stands.a.end; bag = stands.a.bag; notes = notes_kept _ _ _ w.a (called (at_moment w.a n) d) w.log_a stands.a.notes keeps };
        b = stands.b;
        clock_a = stands.clock_a;
        clock_b = stands.clock_b;
        draw = stands.draw;
        openable = refl;
        on_time = on_time w _ _ _ stands.on_time step;
      },
    )

pub returns-in-Err : goal.returns-in-Err
unfolding PairStands SideStands
returns-in-Err c = λ w stands.
    let d = c.args.draw in
    let answer = c.in-Err.ensures.answer w.a stands.a.end in (
      w,
      steps.ConnectRefused d (sym answer),
      record {
        a = record { end = c.in-Err.ensures.step w.a stands.a.end; bag = stands.a.bag; notes = stands.a.notes };
        b = stands.b;
        clock_a = stands.clock_a;
        clock_b = stands.clock_b;
        draw = stands.draw;
        openable = stands.openable;
        on_time = stands.on_time;
      },
    )
