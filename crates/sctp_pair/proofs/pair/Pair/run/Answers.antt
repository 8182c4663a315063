use Rattle.std.proofs.Common.{◌≡◌, ◌+◌, ◌<◌, false, [], ◌∷◌, ◌++◌, length, take, drop, None, Some, sym, refl, inl, inr, ap, ◌∙◌, arith}
use Rattle.std.specs.Prelude.{is_ok}
use Rattle.std.proofs.lemmas.Grind.{common_steps}
use Rattle.std.proofs.lemmas.Result.{err_from_is_err_and}
use Rattle.std.proofs.lemmas.List.{take-append-drop}
use Rattle.sctp_events.specs.Events.{outcome_meaning}
use Rattle.sctp_pair.specs.PairRuns.{Course, IsCut}
use Rattle.sctp_pair.proofs.RunLemmas.{passes_push, last_push, told_push, mean_more, some_wanted}
use Rattle.sctp_pair.proofs.PromiseLemmas.{promised_run}
use Rattle.sctp_pair.proofs.pair.Pair.run.Goals as goal

pub loop-event-preserved : goal.loop-event-preserved
loop-event-preserved c =
    let outcome = c.in_ok-outcome.outcome in
    let items : c.push_reserved.new.self.items ≡ c.loop-event.outcomes.items ++ outcome ∷ [] = grind (arith, common_steps) in (
      grind (arith, common_steps),
      grind (arith, common_steps),
      λ w stands.
          let before = c.loop-event.invariant.2 w stands in
          let now = c.in_ok-outcome.ensures.step _ before.6 in
          let o = Some (outcome_meaning outcome) in (
            before.0 ++ now.0 ∷ [],
            before.1 ++ o ∷ [],
            before.2 ++ now.1 ∷ [],
            mean_more c.args.events.now c.loop-event.event-index _ before.0 now.0 c.loop-event-test.true c.event-item.is before.3 now.2,
            rw items (told_push _ before.1 outcome before.4),
            passes_push w before.0 before.1 before.2 now.0 o now.1 before.5 now.3,
            rw last_push now.5,
          ),
    )

pub returns-in_err-outcomes : goal.returns-in_err-outcomes
returns-in_err-outcomes c = λ w stands.
    let laws = c.a_run_passes_its_worlds.ensures in
    let p = err_from_is_err_and c.from_residual.result c.from_residual.ensures.1 in
    let none : Course = record { events = []; answers = []; worlds = [] } in
    let off : is_ok c.with_capacity.result ≡ false = sym c.map_err.ensures.variant ∙ ap is_ok c.in_err-outcomes.was in
    let some : 0 < length c.args.events.now = some_wanted (length c.args.events.now) (is_ok c.with_capacity.result) (λ none. c.with_capacity.ensures.succeeds (omega (arith, none))) off in
    (none, rw p.1 ([], c.args.events.now, refl, tt, inl (some, refl), tt), promised_run laws.passes_on c.each_world_on_the_way_is_safe.ensures c.users_take_what_was_sent.ensures w none tt, stands)

pub loop-event-init : goal.loop-event-init
loop-event-init c =
    let none : c.in_ok-outcomes.outcomes.items ≡ [] = grind (arith, common_steps) in (
      grind (arith, common_steps),
      grind (arith, common_steps),
      λ w stands. ([], [], [], tt, rw none refl, tt, stands),
    )

pub returns-in_err-outcome : goal.returns-in_err-outcome
returns-in_err-outcome c = λ w stands.
    let laws = c.a_run_passes_its_worlds.ensures in
    let before = c.loop-event.invariant.2 w stands in
    let now = c.in_err-outcome.ensures.step _ before.6 in
    let events = c.args.events.now in
    let i = c.loop-event.event-index in
    let course : Course = record {
      events = before.0 ++ now.0 ∷ [];
      answers = before.1 ++ None ∷ [];
      worlds = before.2 ++ now.1 ∷ [];
    } in
    let run = passes_push w before.0 before.1 before.2 now.0 None now.1 before.5 now.3 in
    let means = mean_more events i _ before.0 now.0 c.loop-event-test.true c.event-item.is before.3 now.2 in
    let takes = c.in_err-outcome.ensures.memory _ now.0 before.6 now.2 in
    let cut : IsCut w course = record {
      before = record { events = before.0; answers = before.1; worlds = before.2 };
      outcomes = c.loop-event.outcomes.items;
      answered = before.4;
      event = now.0;
      takes = takes;
      left = now.1;
      cut = refl;
    } in
    let p = err_from_is_err_and c.from_residual-in_err-outcome.result c.from_residual-in_err-outcome.ensures.1 in (
      course,
      rw p.1 (take (i + 1) events, drop (i + 1) events, sym (take-append-drop _ _), means, inr cut, run),
      promised_run laws.passes_on c.each_world_on_the_way_is_safe.ensures c.users_take_what_was_sent.ensures w course run,
      rw last_push now.5,
    )

pub returns : goal.returns
returns c = λ w stands.
    let laws = c.a_run_passes_its_worlds.ensures in
    let before = c.loop-event.invariant.2 w stands in
    let all : take c.loop-event.event-index c.args.events.now ≡ c.args.events.now = grind (arith, common_steps) in
    let means = rw all at before.3 in
    let course : Course = record { events = before.0; answers = before.1; worlds = before.2 } in
    (course, (before.4, means, before.5), promised_run laws.passes_on c.each_world_on_the_way_is_safe.ensures c.users_take_what_was_sent.ensures w course before.5, before.6)
