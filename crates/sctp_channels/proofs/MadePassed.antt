-- What calls make that are passed on to the endpoint: its steps; and time passes at one end.
use Rattle.std.proofs.Common.{◌≡◌, ℕ, List, [], ◌∷◌, None, Ok, Err, refl, arith, sym, subst}
use Rattle.sctp_model.specs.end.Moments.{ticked}
use Rattle.sctp_model.specs.end.UserCalls.{abandoned_at, called, shut, AbortAnswer, Aborts, NoPeer, TooLong, abort_answer, abort_leaves}
use Rattle.sctp_model.specs.world.World.{Side, A, B, World, end_of, bag_of, clock_of, with_end, with_log, with_clock, logged, end_now}
use Rattle.sctp_model.specs.world.Events.{Abandon, Connect, Shutdown, Abort}
use Rattle.sctp_model.specs.world.Steps as steps
use Rattle.sctp_safety.proofs.machine.OneEnd.{at_end, at_log, abort_of, at_abort}
use Rattle.sctp_outcomes.proofs.Unheard.{unheard_abandoned, unheard_shut, unheard_aborted}
use Rattle.sctp_terms.specs.declared.calls.AbortFault.TheVariants as fault
use Rattle.sctp_channels.specs.declared.channels.Channels.{Channels}
use Rattle.sctp_channels.specs.Streams.{Table}
use Rattle.sctp_channels.specs.ChannelsStand.{ChannelsStand}
use Rattle.sctp_channels.specs.Driven.{Elsewhere}
use Rattle.sctp_channels.specs.Making.{IsMade}
use Rattle.sctp_channels.specs.MadeByCalls.{AbandonsAreMade, ConnectsAreMade, ShutdownsAreMade, AbortsAreMade, TimesAreMade}
use Rattle.sctp_channels.proofs.MadeLemmas.{packets_in, makes_one}
use Rattle.sctp_channels.proofs.MadeRuns.{noted_same}

pub abandons_are_made : AbandonsAreMade
abandons_are_made y w x k c stands = record {
  view = abandoned_at (end_of w y) k;
  table = x;
  makes = makes_one y w x (Abandon y k ∷ []) (Abandon y k) _ _ (abandoned_at (end_of w y) k) None [] x refl (at_log w y _ _) (steps.AbandonsOne y k) (Elsewhere (Abandon y k) _ refl) refl;
  stands = stands;
  few = omega arith;
  noted = λ r all. noted_same (end_of w y) (abandoned_at (end_of w y) k) (unheard_abandoned (end_of w y) k).receiver all;
}

pub connects_are_made : ConnectsAreMade
connects_are_made w x d (Ok _) c drawn answer stands = record {
  view = called (end_now w A) d;
  table = x;
  makes = makes_one A w x (Connect d ∷ []) (Connect d) _ _ (called (end_now w A) d) None [] x refl (record { here = refl; there = refl; bag = refl; bag_there = refl; clock_a = refl; clock_b = refl; draw = refl })
      (steps.Connects d drawn (sym answer)) (Elsewhere (Connect d) _ refl) refl;
  stands = stands;
  few = omega arith;
  noted = λ r all. noted_same w.a (called (end_now w A) d) refl all;
}
connects_are_made w x d (Err fault) c drawn answer stands = record {
  view = w.a;
  table = x;
  makes = makes_one A w x (Connect d ∷ []) (Connect d) _ w w.a None [] x refl (record { here = refl; there = refl; bag = refl; bag_there = refl; clock_a = refl; clock_b = refl; draw = refl })
      (steps.ConnectRefused d (sym answer)) (Elsewhere (Connect d) _ refl) refl;
  stands = stands;
  few = omega arith;
  noted = λ r all. all;
}

pub shutdowns_are_made : ShutdownsAreMade
shutdowns_are_made y w x c stands = record {
  view = shut (end_of w y);
  table = x;
  makes = makes_one y w x (Shutdown y ∷ []) (Shutdown y) _ _ (shut (end_of w y)) None [] x refl (at_end w y _) (steps.ShutsDown y) (Elsewhere (Shutdown y) _ refl) refl;
  stands = stands;
  few = omega arith;
  noted = λ r all. noted_same (end_of w y) (shut (end_of w y)) (unheard_shut (end_of w y)).receiver all;
}

-- the answer of the endpoint, whatever it is
abort_made : (y : Side) (w : World) (x : Table) (reason : List ℕ) (a : AbortAnswer) → abort_answer (end_of w y) reason ≡ a → (c : Channels) → ChannelsStand c (abort_leaves a (end_of w y)) x →
    IsMade y w x (Abort y reason ∷ []) [] (packets_in (abort_of a)) c
abort_made y w x reason a is = subst (λ (b : AbortAnswer). (c : Channels) → ChannelsStand c (abort_leaves b (end_of w y)) x → IsMade y w x (Abort y reason ∷ []) [] (packets_in (abort_of b)) c) is (λ c stands. record {
  view = abort_leaves (abort_answer (end_of w y) reason) (end_of w y);
  table = x;
  makes = makes_one y w x (Abort y reason ∷ []) (Abort y reason) _ _ _ (abort_of (abort_answer (end_of w y) reason)) [] x refl (at_abort w y _ _) (steps.AbortsIt y reason) (Elsewhere (Abort y reason) _ refl) refl;
  stands = stands;
  few = omega arith;
  noted = λ r all. noted_same (end_of w y) (abort_leaves (abort_answer (end_of w y) reason) (end_of w y)) (unheard_aborted (end_of w y) (abort_answer (end_of w y) reason)).receiver all;
})

pub aborts_are_made : AbortsAreMade
aborts_are_made y w x reason (Ok bytes) c (p, is, writes) stands =
    (p ∷ [], (p, refl, writes), abort_made y w x reason (Aborts p) is c (subst (λ (a : AbortAnswer). ChannelsStand c (abort_leaves a (end_of w y)) x) is stands))
aborts_are_made y w x reason (Err fault.State) c is stands = ([], refl, abort_made y w x reason NoPeer is c stands)
aborts_are_made y w x reason (Err fault.TooLong) c is stands = ([], refl, abort_made y w x reason TooLong is c stands)
aborts_are_made y w x reason (Err fault.NoMemory) c is stands = (
  [],
  refl,
  record {
    view = end_of w y;
    table = x;
    makes = makes_one y w x (Abort y reason ∷ []) (Abort y reason) None w (end_of w y) None [] x refl (record { here = refl; there = refl; bag = refl; bag_there = refl; clock_a = refl; clock_b = refl; draw = refl })
        (steps.NoMemory (Abort y reason) refl) (Elsewhere (Abort y reason) None refl) refl;
    stands = stands;
    few = omega arith;
    noted = λ r all. all;
  },
)

-- the clock of one end has gone on, and it was asked what is due
abbrev after_time : World → Side → ℕ → World
after_time w y m =
    let u = with_clock w y m in
    let t = ticked (end_of u y) (clock_of u y) in
    with_log (with_end u y t) y (logged u y t)

pub times_are_made : TimesAreMade
times_are_made A w m x c small stands = (with_clock w A m, _, steps.TimeGoesOn A m small, steps.MomentComes A, stands, refl, bags, refl, refl)
  where
    bags : (z : Side) → bag_of (after_time w A m) z ≡ bag_of w z
    bags A = refl
    bags B = refl
times_are_made B w m x c small stands = (with_clock w B m, _, steps.TimeGoesOn B m small, steps.MomentComes B, stands, refl, bags, refl, refl)
  where
    bags : (z : Side) → bag_of (after_time w B m) z ≡ bag_of w z
    bags A = refl
    bags B = refl
