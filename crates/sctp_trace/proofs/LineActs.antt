-- What one line of a script leaves.
use Rattle.std.proofs.Common.{◌≡◌, ℕ, Bool, true, false, List, [], Option, Some, None, Result, Ok, Err, refl, sym, ap, ◌∙◌, subst}
use Rattle.std.proofs.lemmas.Option.{none-some, same_Some}
use Rattle.std.specs.Prelude.{MatchResult}
use Rattle.std.specs.Result.{IsErrAnd}
use Rattle.std.specs.Option.{is_some}
use Rattle.sctp_model.specs.end.EndView.{Configuration}
use Rattle.sctp_model.specs.world.World.{World}
use Rattle.sctp_model.specs.world.Events as meaning
use Rattle.sctp_model.specs.world.Steps.{Step}
use Rattle.sctp_events.specs.Alike.{turned_round}
use Rattle.sctp_events.specs.Events.{Wanted, event_meaning}
use Rattle.sctp_events.specs.declared.config.PairConfig.{PairConfig}
use Rattle.sctp_events.specs.declared.two_configs.TwoConfigs.{TwoConfigs}
use Rattle.sctp_events.specs.declared.event.Event.{Event}
use Rattle.sctp_script.specs.Grammar.{Pairs, Acts}
use Rattle.sctp_script.specs.Places.{Place, Acted, PlacedMeaning, Plain, Configures, SaysAt, is_paired, has_options}
use Rattle.sctp_script.specs.OutcomeText.{outcome_line}
use Rattle.sctp_script.specs.PlacedAnswer.{placed_meaning, paired_place, place_at, FindsAt}
use Rattle.sctp_script.specs.declared.placed.Preamble.{Preamble}
use Rattle.sctp_script.specs.declared.placed.Placed.{Placed}
use Rattle.sctp_script.specs.declared.placed.Placed.TheVariants as placed
use Rattle.sctp_pair.specs.declared.pair.Pair.{Pair}
use Rattle.sctp_pair.specs.Happens.{IsMeant}
use Rattle.sctp_trace.specs.declared.script.ScriptFault.{ScriptFault}
use Rattle.sctp_trace.specs.declared.script.ScriptFault.TheVariants.{Read, Write, NoMemory, Line}
use Rattle.sctp_pair.specs.PairStands.{PairStands}
use Rattle.sctp_trace.specs.Stages.{Stage, SetUp, Reached, place_of, world_of}
use Rattle.sctp_trace.specs.inner.ScriptSteps.{StandsAt, IsSetUp, IsGatheredOf, LineLeaves}

-- ---- one line acts

-- a place behind the `pair` line has a pair
pub paired : (b : Bool) (preamble : Preamble) → is_paired (place_at b preamble) ≡ b
paired false preamble = refl
paired true preamble = behind_pair preamble.fresh preamble.with_options
  where
    behind_pair : (fresh : Option TwoConfigs) (with_options : Bool) → is_paired (paired_place fresh with_options) ≡ true
    behind_pair (Some configs) with_options = refl
    behind_pair None with_options = refl

-- and keeps whether there was a line of options
kept_options : (fresh : Option TwoConfigs) (with_options : Bool) → has_options (paired_place fresh with_options) ≡ with_options
kept_options (Some configs) with_options = refl
kept_options None with_options = refl

pub options_kept : (option : Option Pair) (pair : Pair) (preamble : Preamble) (stage : Stage) → option ≡ Some pair → place_at (is_some option) preamble ≡ place_of stage
    → has_options (place_of stage) ≡ preamble.with_options
options_kept None pair preamble stage e at = absurd (none-some pair e)
options_kept (Some other) pair preamble stage e at = ap has_options (sym at) ∙ kept_options preamble.fresh preamble.with_options

-- The world of a pair that is there. The equations of pairs go to lemmas on any type: `cc` would go through all of a pair's parts.
pub world_there : (option : Option Pair) (pair : Pair) (state : Option World) → option ≡ Some pair → StandsAt option state
    → (w : World) × (state ≡ Some w) × PairStands pair w
world_there None pair state e stands = absurd (none-some pair e)
world_there (Some other) pair None e stands = absurd stands
world_there (Some other) pair (Some w) e stands =
    (w, refl, subst (λ (p : Pair). PairStands p w) (same_Some other pair e) stands)

-- what is wanted came to pass, and what was written of its outcome
pub outcome_leaves : (result : Result (Unit {0}) ScriptFault) (n : ℕ) (stage : Stage) (w x : World) (line : List ℕ) (wanted : Wanted) (e : meaning.Event)
    (o : meaning.Outcome) (here : List ℕ) (pair : Pair) (with_options : Bool) → world_of stage ≡ Some w → SaysAt (place_of stage) line (Plain (Acts wanted)) → IsMeant wanted e
    → Step w e (Some o) x → PairStands pair x → has_options (place_of stage) ≡ with_options → IsGatheredOf result (outcome_line wanted o) here
    → LineLeaves result n stage line here (Some pair) (record { fresh = None; with_options = with_options })
outcome_leaves (Ok u) n stage w x line wanted e o here pair with_options is says meant step stands kept written = (
  Reached (has_options (place_of stage)) x,
  (Plain (Acts wanted), says, (w, x, e, o, meant, is, step, written, refl)),
  (stands, ap (λ (b : Bool). Acted b) (sym kept)),
)
outcome_leaves (Err Read) n stage w x line wanted e o here pair with_options is says meant step stands kept written = absurd written
outcome_leaves (Err Write) n stage w x line wanted e o here pair with_options is says meant step stands kept written = absurd written
outcome_leaves (Err NoMemory) n stage w x line wanted e o here pair with_options is says meant step stands kept written = written
outcome_leaves (Err (Line m fault)) n stage w x line wanted e o here pair with_options is says meant step stands kept written = absurd written

-- two endpoints were set up, as the `pair` line or a line of options says
pub pair_leaves : (result : Result (Unit {0}) ScriptFault) (n : ℕ) (stage : Stage) (line : List ℕ) (config : PairConfig) (configs : TwoConfigs) (pair : Option Pair)
    (preamble : Preamble) → SaysAt (place_of stage) line (Plain (Pairs config.a)) → configs.a ≡ config.a → configs.b ≡ turned_round config.a
    → IsSetUp result configs false pair preamble → LineLeaves result n stage line [] pair preamble
pair_leaves (Ok u) n stage line config configs pair preamble says is_a is_b (s, under, stand) =
    let same : SetUp false configs.a configs.b s ≡ SetUp false config.a (turned_round config.a) s =
    ap (λ (a : Configuration). SetUp false a configs.b s) is_a ∙ ap (λ (b : Configuration). SetUp false config.a b s) is_b in
    (SetUp false configs.a configs.b s, (Plain (Pairs config.a), says, (s, under, refl, same)), stand)
pair_leaves (Err Read) n stage line config configs pair preamble says is_a is_b set = absurd set
pair_leaves (Err Write) n stage line config configs pair preamble says is_a is_b set = absurd set
pair_leaves (Err NoMemory) n stage line config configs pair preamble says is_a is_b set = refl
pair_leaves (Err (Line m fault)) n stage line config configs pair preamble says is_a is_b set = absurd set

pub options_leave : (result : Result (Unit {0}) ScriptFault) (n : ℕ) (stage : Stage) (line : List ℕ) (configs : TwoConfigs) (pair : Option Pair)
    (preamble : Preamble) → SaysAt (place_of stage) line (Configures configs.a configs.b) → IsSetUp result configs true pair preamble
    → LineLeaves result n stage line [] pair preamble
options_leave (Ok u) n stage line configs pair preamble says (s, under, stand) =
    (SetUp true configs.a configs.b s, (Configures configs.a configs.b, says, (s, under, refl, refl)), stand)
options_leave (Err Read) n stage line configs pair preamble says set = absurd set
options_leave (Err Write) n stage line configs pair preamble says set = absurd set
options_leave (Err NoMemory) n stage line configs pair preamble says set = refl
options_leave (Err (Line m fault)) n stage line configs pair preamble says set = absurd set

-- ---- what calls answered

-- what is Ok behind `map_err` was Ok before
pub mapped_is : {X E D : Type 0} (Q : E → D → Type 0) (r : Result X E) (q : Result X D) (x : X)
    → MatchResult r (λ y. q ≡ Ok y) (λ e. IsErrAnd q (Q e)) → q ≡ Ok x → r ≡ Ok x
mapped_is Q (Ok y) q x cases is = cc
mapped_is Q (Err e) (Ok y) x cases is = absurd cases
mapped_is Q (Err e) (Err d) x cases is = cc

-- what was found on a line says what the line does
pub finds : (place : Place) (line : List ℕ) (found : Option Placed) (p : Placed) (m : PlacedMeaning) → found ≡ Some p → placed_meaning p ≡ m
    → FindsAt place line found → SaysAt place line m
finds place line found p m f e says =
    subst (λ (x : PlacedMeaning). SaysAt place line x) e (subst (λ (x : Option Placed). FindsAt place line x) f says)

pub no_pair : (b : Bool) (option : Option Pair) → b ≡ true → b ≡ is_some option → option ≡ None → ⊥
no_pair b None t e n = cc
no_pair b (Some pair) t e n = none-some pair (sym n)
