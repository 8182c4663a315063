-- What is promised of a course: with the one that led to its world it is one course, and the theorem speaks of each of its worlds.
use Rattle.std.proofs.Common.{◌∷◌, ◌++◌, Option, sym, subst, ap, ◌∙◌}
use Rattle.sctp_model.specs.world.World.{World, start}
use Rattle.sctp_model.specs.world.Events.{Event, Outcome}
use Rattle.sctp_model.specs.world.Steps.{Step, PassesThrough, last_of}
use Rattle.sctp_safety.specs.Runs.{PassingGoesOn, KeepBothPromises, EachWorldIsSafe}
use Rattle.sctp_outcomes.specs.Users.{UsersTakeWhatWasSent}
use Rattle.sctp_pair.specs.PairRuns.{Course, one_event, LeadsOn, Promised}

pub promised_run : PassingGoesOn → EachWorldIsSafe → UsersTakeWhatWasSent → (w : World) (c : Course) → LeadsOn w c → Promised w c
promised_run goes_on safe users w c leads s before run =
    let from : LeadsOn (last_of (start s) before.worlds) c = subst (λ (v : World). PassesThrough v c.events c.answers c.worlds) (sym run.ends) leads in
    let on = goes_on (start s) before.events c.events before.answers c.answers before.worlds c.worlds run.leads from in
    record {
      whole = record { configured = run.configured; leads = on.0; ends = on.1 ∙ ap (λ (v : World). last_of v c.worlds) run.ends };
      safe = λ premises. subst (λ (v : World). KeepBothPromises (v ∷ c.worlds)) run.ends
          (safe s before.events c.events before.answers c.answers before.worlds c.worlds run.configured run.leads from premises.strangers premises.aged);
      users = λ premises x n. users s (before.events ++ c.events) (before.answers ++ c.answers) (before.worlds ++ c.worlds) run.configured on.0 premises.strangers premises.aged x n;
    }

pub promised_step : PassingGoesOn → EachWorldIsSafe → UsersTakeWhatWasSent → (w x : World) (e : Event) (o : Option Outcome) → Step w e o x → Promised w (one_event e o x)
promised_step goes_on safe users w x e o step = promised_run goes_on safe users w (one_event e o x) (step, tt)
