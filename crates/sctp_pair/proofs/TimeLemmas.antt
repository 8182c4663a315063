-- The steps of time.
use Rattle.std.proofs.Common.{◌≡◌, ℕ, ◌^◌, ◌<◌, max, Some, refl, subst}
use Rattle.sctp_model.specs.end.Moments.{ticked}
use Rattle.sctp_model.specs.world.World.{Side, A, B, World, end_of, clock_of, with_end, with_log, logged}
use Rattle.sctp_model.specs.world.Events.{Moment, At, Done}
use Rattle.sctp_model.specs.world.Steps.{Step, MomentComes, TimePasses}
use Rattle.sctp_pair.specs.Sides.{side_of, with_side, ticked_side}

-- both ends and both logs, and both clocks, at these times
abbrev pub at_times : World → ℕ → ℕ → World
at_times w n k = record w { a = ticked w.a n; b = ticked w.b k; log_a = logged w A (ticked w.a n); log_b = logged w B (ticked w.b k); clock_a = n; clock_b = k }

pub time_passes : (w : World) (m n k : ℕ) → m < 2 ^ 64 → max w.clock_a m ≡ n → max w.clock_b m ≡ k → Step w (At m) (Some Done) (at_times w n k)
time_passes w m n k fits of_a of_b =
    subst (λ (j : ℕ). Step w (At m) (Some Done) (at_times w n j)) of_b
    (subst (λ (j : ℕ). Step w (At m) (Some Done) (at_times w j (max w.clock_b m))) of_a (TimePasses m fits))

-- one end, at the time of its clock
pub moment_comes : (w : World) (s : Side) (n : ℕ) → clock_of w s ≡ n → Step w (Moment s) (Some Done) (with_side w s (ticked_side (side_of w s) n))
moment_comes w s n is =
    subst (λ (k : ℕ). Step w (Moment s) (Some Done) (with_side w s (ticked_side (side_of w s) k))) is
    (subst (λ (v : World). Step w (Moment s) (Some Done) v) (by_side w s (clock_of w s)) (MomentComes s))
  where
    by_side : (w : World) (s : Side) (k : ℕ) → with_log (with_end w s (ticked (end_of w s) k)) s (logged w s (ticked (end_of w s) k)) ≡ with_side w s (ticked_side (side_of w s) k)
    by_side w A k = refl
    by_side w B k = refl
