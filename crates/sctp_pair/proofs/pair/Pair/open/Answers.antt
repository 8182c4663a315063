use Rattle.std.proofs.Common.{◌≡◌, true, false, refl, sym, subst, ◌∙◌, arith}
use Rattle.std.proofs.lemmas.Grind.{common_steps}
use Rattle.std.proofs.lemmas.Result.{err_from_is_err_and}
use Rattle.sctp_model.specs.end.EndView.{Configuration}
use Rattle.sctp_model.specs.end.Opening.{opened}
use Rattle.sctp_model.specs.world.Events as meaning
use Rattle.sctp_model.specs.world.Steps as steps
use Rattle.sctp_endpoint.specs.EndpointStands.{EndpointStands}
use Rattle.sctp_pair.specs.Sides.{side_of, SideStands}
use Rattle.std.proofs.lemmas.Bool.{and_parts}
use Rattle.sctp_model.specs.world.World.{A, B, are_alike}
use Rattle.sctp_pair.proofs.ClockLemmas.{on_time}
use Rattle.sctp_pair.proofs.MemoryLemmas.{anyway}
use Rattle.sctp_pair.specs.PairStands.{PairStands}
use Rattle.sctp_pair.proofs.pair.Pair.open.Goals as goal

pub returns-then-not-may_open-clause-step : goal.returns-then-not-may_open-clause-step
unfolding PairStands
returns-then-not-may_open-clause-step c = λ w stands.
    let off : c.may_open.result ≡ false = grind (arith, common_steps) in
    (w, rw c.refused.ensures (steps.OpenRefused c.args.a c.args.b (sym (c.may_open.ensures w stands) ∙ off)), stands)

pub returns-in_err-at_a-clause-step : goal.returns-in_err-at_a-clause-step
unfolding PairStands
returns-in_err-at_a-clause-step c = λ w stands.
    let p = err_from_is_err_and c.from_residual.result c.from_residual.ensures.1 in
    (w, rw p.1 (steps.NoMemory (meaning.OpenBoth c.args.a c.args.b) refl), stands)

pub returns-in-Err-clause-step : goal.returns-in-Err-clause-step
unfolding PairStands
returns-in-Err-clause-step c = λ w stands. (w, steps.NoMemory (meaning.OpenBoth c.args.a c.args.b) refl, stands)

pub returns-clause-step : goal.returns-clause-step
unfolding PairStands SideStands
returns-clause-step c = λ w stands.
    let x = c.args.a in
    let y = c.args.b in
    let on : c.may_open.result ≡ true = grind (arith, common_steps) in
    let both = and_parts w.openable (are_alike w.a.configuration w.b.configuration) (sym (c.may_open.ensures w stands) ∙ on) in
    let a = subst (λ (k : Configuration). EndpointStands c.in_ok-at_a.at_a (opened k x y)) (c.config.ensures w.a stands.a.end) c.in_ok-at_a.ensures.stands in
    let b = subst (λ (k : Configuration). EndpointStands c.in-Ok.at_b (opened k y x)) (c.config-2.ensures w.b stands.b.end) (let made = c.opened-2.ensures.stands in rw c.in-Ok.is at made) in
    let new = c.new_ends_have_no_logs.ensures.opened in
    let step = steps.OpensBoth x y both.1 both.0 c.tag.ensures.drawn c.tag-2.ensures.drawn in (
      record w { a = opened w.a.configuration x y; b = opened w.b.configuration y x; openable = false },
      step,
      record {
        a = c.put_in-2.ensures (side_of w A) (opened w.a.configuration x y) stands.a a (new w.a.configuration x y);
        b = c.put_in.ensures (side_of w B) (opened w.b.configuration y x) stands.b b (new w.b.configuration y x);
        clock_a = stands.clock_a;
        clock_b = stands.clock_b;
        draw = stands.draw;
        openable = refl;
        on_time = on_time w _ _ _ stands.on_time step;
      },
    )

pub returns-in_err-at_a-clause-memory : goal.returns-in_err-at_a-clause-memory
unfolding PairStands
returns-in_err-at_a-clause-memory c = λ w stands.
    let on : c.may_open.result ≡ true = grind (arith, common_steps) in
    anyway c.from_residual.result (sym (c.may_open.ensures w stands) ∙ on)

pub returns-in-Err-clause-memory : goal.returns-in-Err-clause-memory
unfolding PairStands
returns-in-Err-clause-memory c = λ w stands.
    let on : c.may_open.result ≡ true = grind (arith, common_steps) in
    sym (c.may_open.ensures w stands) ∙ on
