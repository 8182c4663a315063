use Rattle.std.proofs.Common.{◌≡◌, Bool, [], Some, None, refl, subst, ap, sym, ◌∙◌, append-nil}
use Rattle.sctp_model.specs.world.Steps.{Step}
use Rattle.sctp_events.specs.Events.{event_meaning, outcome_meaning, answer_of}
use Rattle.sctp_script.specs.Grammar.{Silent, Pairs, Acts, Fault}
use Rattle.sctp_script.specs.PlacedAnswer.{place_meaning, place_at, placed_meaning}
use Rattle.sctp_script.specs.Places.{Place, PlacedMeaning, Plain, Configures, SaysAt, is_paired}
use Rattle.sctp_trace.specs.Stages.{place_of, world_of}
use Rattle.sctp_trace.proofs.LineActs.{paired, options_kept, world_there, outcome_leaves, pair_leaves, options_leave, mapped_is, finds, no_pair}
use Rattle.sctp_trace.proofs.script.act.Goals as goal

pub unreachable-requires : goal.unreachable-requires
unreachable-requires c =
    let e = c.in-Ok-Some-Event in
    let at = place_meaning c.of.result in
    let says : SaysAt at c.args.line.now (Plain (Acts (event_meaning e.event))) =
    finds at c.args.line.now e.field-0 e.field-0-0 (Plain (Acts (event_meaning e.event))) e.field-0-is (ap placed_meaning e.field-0-0-is) e.ensures in
    no_pair (is_paired at) c.args.pair.now (c.events_at_their_place.ensures.follow _ _ _ says)
    (ap is_paired c.of.ensures ∙ paired c.is_some.result c.args.preamble.now ∙ c.is_some.ensures) c.in_default.is

pub returns-in-Ok-None-clause-leaves : goal.returns-in-Ok-None-clause-leaves
returns-in-Ok-None-clause-leaves c = λ stage stand.
    let says : SaysAt (place_meaning c.of.result) c.args.line.now (Plain Silent) = rw c.in-Ok-None.field-0-is at c.in-Ok-None.ensures in
    let here = subst (λ (at : Place). SaysAt at c.args.line.now (Plain Silent)) (c.of.ensures ∙ ap (λ (b : Bool). place_at b c.args.preamble.now) c.is_some.ensures ∙ stand.1) says in
    ([], sym (append-nil _), (stage, (Plain Silent, here, (refl, refl)), stand))

pub returns-in-Ok-Some-Pair-clause-leaves : goal.returns-in-Ok-Some-Pair-clause-leaves
returns-in-Ok-Some-Pair-clause-leaves c = λ stage stand.
    let p = c.in-Ok-Some-Pair in
    let m = Plain (Pairs p.config.a) in
    let says = finds (place_meaning c.of.result) c.args.line.now p.field-0 p.field-0-0 m p.field-0-is (ap placed_meaning p.field-0-0-is) p.ensures in
    let here = subst (λ (at : Place). SaysAt at c.args.line.now m) (c.of.ensures ∙ ap (λ (b : Bool). place_at b c.args.preamble.now) c.is_some.ensures ∙ stand.1) says in
    ([], sym (append-nil _), pair_leaves c.set_up.result c.args.number stage c.args.line.now p.config c.alike.result _ _ here c.alike.ensures.0 c.alike.ensures.1 c.set_up.ensures)

pub returns-in-Ok-Some-Options-clause-leaves : goal.returns-in-Ok-Some-Options-clause-leaves
returns-in-Ok-Some-Options-clause-leaves c = λ stage stand.
    let p = c.in-Ok-Some-Options in
    let m = Configures p.configs.a p.configs.b in
    let says = finds (place_meaning c.of.result) c.args.line.now p.field-0 p.field-0-0 m p.field-0-is (ap placed_meaning p.field-0-0-is) p.ensures in
    let here = subst (λ (at : Place). SaysAt at c.args.line.now m) (c.of.ensures ∙ ap (λ (b : Bool). place_at b c.args.preamble.now) c.is_some.ensures ∙ stand.1) says in
    ([], sym (append-nil _), options_leave c.set_up-in-Ok-Some-Options.result c.args.number stage c.args.line.now p.configs _ _ here c.set_up-in-Ok-Some-Options.ensures)

pub returns-in_ok-outcome-in-Ok-Some-Event-clause-leaves : goal.returns-in_ok-outcome-in-Ok-Some-Event-clause-leaves
returns-in_ok-outcome-in-Ok-Some-Event-clause-leaves c = λ stage stand.
    let e = c.in-Ok-Some-Event in
    let outcome = c.in_ok-outcome-in-Ok-Some-Event.outcome in
    let m = Plain (Acts (event_meaning e.event)) in
    let says = finds (place_meaning c.of.result) c.args.line.now e.field-0 e.field-0-0 m e.field-0-is (ap placed_meaning e.field-0-0-is) e.ensures in
    let here = subst (λ (at : Place). SaysAt at c.args.line.now m) (c.of.ensures ∙ ap (λ (b : Bool). place_at b c.args.preamble.now) c.is_some.ensures ∙ stand.1) says in
    let at = world_there c.args.pair.now c.in-Some.pair (world_of stage) c.in-Some.is stand.0 in
    let now = c.step.ensures.step at.0 at.2 in
    let is = mapped_is _ c.step.result c.map_err.result outcome c.map_err.ensures.cases c.in_ok-outcome-in-Ok-Some-Event.was in
    let step : Step at.0 now.0 (Some (outcome_meaning outcome)) now.1 = rw is at now.3 in
    let out = c.gather_outcome.ensures.gathers in
    let kept = options_kept c.args.pair.now c.in-Some.pair c.args.preamble.now stage c.in-Some.is stand.1 in
    (out.0, out.1, outcome_leaves c.gather_outcome.result c.args.number stage at.0 now.1 c.args.line.now (event_meaning e.event) now.0 (outcome_meaning outcome) out.0 c.step.new.self c.args.preamble.now.with_options at.1 here now.2 step now.5 kept out.2)
