-- The worlds that the lines of a script lead to are reached from START.
use Rattle.std.proofs.Common.{◌≡◌, ℕ, List, [], ◌∷◌, ◌++◌, Option, Some, sym, subst}
use Rattle.std.proofs.lemmas.Option.{same_Some}
use Rattle.sctp_model.specs.world.World.{World, Setup, start}
use Rattle.sctp_model.specs.world.Events.{Event, Outcome}
use Rattle.sctp_model.specs.world.Steps.{Step, Run, Rest, Then}
use Rattle.sctp_events.specs.Setups.{setup_with}
use Rattle.sctp_script.specs.Grammar.{Silent, Pairs, Acts, Fault}
use Rattle.sctp_script.specs.Places.{PlacedMeaning, Plain, Configures}
use Rattle.sctp_trace.specs.Stages.{Stage, Unpaired, SetUp, Reached, world_of}
use Rattle.sctp_trace.specs.Script.{Does, Goes}

-- ---- worlds that lines lead to

-- a run from START led to the world
pub record IsRunTo (w : World) : Type 0 where
  pub setup : Setup
  pub events : List Event
  pub answers : List (Option Outcome)
  pub run : Run (start setup) events answers w

-- a script's stage: before the pair, or one with such a world
abbrev pub IsReached : Stage → Type 0
IsReached Unpaired = Unit {0}
IsReached (SetUp o a b s) = Unit {0}
IsReached (Reached o w) = IsRunTo w

run_push : (v w x : World) (es : List Event) (os : List (Option Outcome)) (e : Event) (o : Option Outcome) → Run v es os w → Step w e o x
    → Run v (es ++ e ∷ []) (os ++ o ∷ []) x
run_push v w x es os e o (Rest last) step = Then w x x e [] o [] step (Rest x)
run_push v w x es os e o (Then first next last f fs p ps is run) step =
    Then first next x f (fs ++ e ∷ []) p (ps ++ o ∷ []) is (run_push next w x fs ps e o run step)

pub one_step : (w x : World) (e : Event) (o : Outcome) → IsRunTo w → Step w e (Some o) x → IsRunTo x
one_step w x e o r step = record {
  setup = r.setup;
  events = r.events ++ e ∷ [];
  answers = r.answers ++ Some o ∷ [];
  run = run_push (start r.setup) w x r.events r.answers e (Some o) r.run step;
}

at_start : (s : Setup) → IsRunTo (start s)
at_start s = record { setup = s; events = []; answers = []; run = Rest (start s) }

-- the world of such a stage
pub run_to : (state : Stage) (w : World) → IsReached state → world_of state ≡ Some w → IsRunTo w
run_to Unpaired w r was = cc
run_to (SetUp o a b s) w r was = subst IsRunTo (same_Some (start (setup_with a b s)) w was) (at_start (setup_with a b s))
run_to (Reached o v) w r was = subst IsRunTo (same_Some v w was) r

does_reach : (state : Stage) (m : PlacedMeaning) (written : List ℕ) (after : Stage) → IsReached state → Does state m written after → IsReached after
does_reach state (Plain Silent) written after r does = subst IsReached (sym does.1) r
does_reach state (Plain (Pairs c)) written after r (s, under, line, is) = subst IsReached (sym is) tt
does_reach state (Configures a b) written after r (s, under, line, is) = subst IsReached (sym is) tt
does_reach state (Plain (Acts wanted)) written after r (w, x, e, o, meant, was, step, line, is) =
    subst IsReached (sym is) (one_step w x e o (run_to state w r was) step)
does_reach state (Plain (Fault fault)) written after r does = absurd does

pub all_lines : (state : Stage) (lines : List (List ℕ)) (written : List ℕ) (after : Stage) → IsReached state → Goes state lines written after → IsReached after
all_lines state [] written after r goes = subst IsReached (sym goes.1) r
all_lines state (line ∷ lines) written after r (here, behind, mid, (m, says, does), rest, whole) =
    all_lines mid lines behind after (does_reach state m here mid r does) rest
