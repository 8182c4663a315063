-- What the answer to an event says of its allocations.
use Rattle.std.proofs.Common.{◌≡◌, sym, subst}
use Rattle.std.specs.Prelude.{Result, Ok, Err, OnErr}
use Rattle.sctp_model.specs.world.World.{World}
use Rattle.sctp_model.specs.world.Events.{Event}
use Rattle.sctp_values.specs.declared.no_memory.NoMemory.{NoMemory}
use Rattle.sctp_events.specs.declared.outcome.Outcome.{Outcome}
use Rattle.sctp_pair.specs.Memory.{TakesMemory}

-- the event that is meant takes some
pub meant_takes : (w : World) (r : Result Outcome NoMemory) (e d : Event) → e ≡ d → OnErr r (TakesMemory w d) → OnErr r (TakesMemory w e)
meant_takes w r e d is takes = subst (λ (x : Event). OnErr r (TakesMemory w x)) (sym is) takes

-- what holds anyway
pub anyway : {T E P : Type 0} → (r : Result T E) → P → OnErr r P
anyway (Ok x) p = tt
anyway (Err e) p = p
