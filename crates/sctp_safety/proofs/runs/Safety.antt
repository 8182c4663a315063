-- SAFE and CLOSING in every world of every run: each step keeps the endpoints apart, or lets them meet, or keeps what they have since they met.
use Rattle.std.proofs.Common.{arith, ◌≡◌, ℕ, true, List, [], ◌∷◌, Option, Some, inl, inr, refl, subst, ◌⊎◌}
use Rattle.sctp_model.specs.numbers.Lists.{Has}
use Rattle.sctp_model.specs.messages.Plan.{entry_at}
use Rattle.sctp_model.specs.sender.SenderView.{SenderView}
use Rattle.sctp_model.specs.sender.Readers.{drained}
use Rattle.sctp_model.specs.world.Calls.{Asked}
use Rattle.sctp_model.specs.world.Safe.{Safe}
use Rattle.sctp_model.specs.end.EndView.{Over, Completed, Phase, Listening, EndView, format_of}
use Rattle.sctp_model.specs.end.Configured.{IsConfiguration}
use Rattle.sctp_model.specs.world.World.{Side, A, B, World, end_of, bag_of, log_of, Setup, configuration_of, start, clock_of}
use Rattle.sctp_model.specs.world.Events.{Event, Outcome}
use Rattle.sctp_model.specs.world.Steps.{Step, PassesThrough, last_of}
use Rattle.sctp_model.specs.world.Aged.{Aged}
use Rattle.sctp_model.specs.world.Premises.{drawn_in, asked_at, FreshAndUnforged, IsSafeWorld, IsAllArrived, IsClosedWorld, IsReachedInTime}
use Rattle.sctp_safety.specs.States.{IsTurn, ByCall, ByInitAck, ByCookieAck, ByCookie, ByPair, ByStage, ByEnd, IsPath, Here, On}
use Rattle.sctp_safety.specs.Agreement.{IsOpening}
use Rattle.sctp_safety.specs.Runs.{NothingWaits, TwoEndsAreSafe, NothingIsMissing, KeepBothPromises, ShortRunsAreSafe}
use Rattle.sctp_safety.proofs.machine.Ground.{IsFine}
use Rattle.sctp_safety.proofs.machine.EndsAgree.{fine_by, IsSound, sound_step, sound_start, opening_of}
use Rattle.sctp_safety.proofs.moves.SafeWhenGood.{safe_when_good}
use Rattle.sctp_safety.proofs.moves.UsualLemmas.{good_usual}
use Rattle.sctp_safety.proofs.machine.DiagramRuns.{step_onward}
use Rattle.sctp_safety.proofs.runs.Bags.{chunks_in}
use Rattle.sctp_safety.proofs.runs.Dates.{Dated}
use Rattle.sctp_safety.proofs.runs.DatedBags.{Dates, dated_bag, AreKept}
use Rattle.sctp_safety.proofs.runs.Dating.{dates_of, AllKept, kept_in_time, kept_by_few}
use Rattle.sctp_safety.proofs.runs.Direction.{way_of, Direction}
use Rattle.sctp_safety.proofs.runs.Pair.{AreOpening}
use Rattle.sctp_safety.proofs.runs.Unmet.{IsBlank, IsUnmet, never_opened}
use Rattle.sctp_safety.proofs.runs.Arrived.{drained_arrives}
use Rattle.sctp_safety.proofs.runs.Ending.{IsDone}
use Rattle.sctp_safety.proofs.runs.Pairs.{IsPair, pair_round}
use Rattle.sctp_safety.proofs.runs.Meeting.{nothing_stands, blank_is_safe}
use Rattle.sctp_safety.proofs.runs.MetWorld.{IsMetWorld}
use Rattle.sctp_safety.proofs.runs.MetSteps.{met_step}
use Rattle.sctp_safety.proofs.runs.ApartWorld.{IsApartWorld, AreSetUp}
use Rattle.sctp_safety.proofs.runs.ApartSteps.{apart_step}

-- The two endpoints are apart, or have met.
abbrev pub IsKept : Dates → World → Type 0
IsKept d w = IsApartWorld w ⊎ IsMetWorld d w

-- ---- what is kept is safe

direction_safe : (e p : EndView) (u : Asked) (out back : List Dated) → Direction (format_of e) e.terms.outbound e.sender u p.receiver out back →
    Safe (format_of e) e.sender p.receiver u
direction_safe e p u out back d =
    safe_when_good (way_of (format_of e) e.terms.outbound e.sender u p.receiver d.bags) (good_usual (way_of (format_of e) e.terms.outbound e.sender u p.receiver d.bags) d.usual)

pub kept_safe : (d : Dates) (w : World) → IsKept d w → IsSafeWorld w
kept_safe d w (inl k) A = blank_is_safe w.a w.b (asked_at w A) (k.calls A) (k.ends A).blank (k.ends B).blank
kept_safe d w (inl k) B = blank_is_safe w.b w.a (asked_at w B) (k.calls B) (k.ends B).blank (k.ends A).blank
kept_safe d w (inr m) A = direction_safe w.a w.b (asked_at w A) (dated_bag d w A) (dated_bag d w B) m.met.met.going
kept_safe d w (inr m) B = direction_safe w.b w.a (asked_at w B) (dated_bag d w B) (dated_bag d w A) m.met.met.coming

-- ---- and once an endpoint has completed nothing is missing

-- of a sender that nothing was asked of, nothing is missing
blank_arrived : (e p : EndView) → IsBlank e → IsAllArrived e.sender p.receiver
blank_arrived e p b l n (i, x, here, own) =
    absurd (nothing_stands i x (subst (λ (a : SenderView). entry_at a.plan i ≡ Some x) b.sender here))

done_arrived : (e p : EndView) (u v : Asked) (out back : List Dated) → IsPair e p u v out back → IsDone e → IsAllArrived e.sender p.receiver
done_arrived e p u v out back k d = drained_arrives (format_of e) e.terms.outbound e.sender u p.receiver out back k.met.going d.empty

pub kept_closed : (d : Dates) (w : World) → IsKept d w → IsClosedWorld w
kept_closed d w (inl k) s over = (blank_arrived w.a w.b (k.ends A).blank, blank_arrived w.b w.a (k.ends B).blank)
kept_closed d w (inr m) s over = arrived (done s over)
  where
    done : (x : Side) → (end_of w x).phase ≡ Over Completed → IsDone w.a × IsDone w.b
    done A is = m.met.ending.this.completed is
    done B is = let both = m.met.ending.there.completed is in (both.1, both.0)

    arrived : IsDone w.a × IsDone w.b → IsAllArrived w.a.sender w.b.receiver × IsAllArrived w.b.sender w.a.receiver
    arrived (da, db) = (
      done_arrived w.a w.b (asked_at w A) (asked_at w B) (dated_bag d w A) (dated_bag d w B) m.met da,
      done_arrived w.b w.a (asked_at w B) (asked_at w A) (dated_bag d w B) (dated_bag d w A)
          (pair_round w.a w.b (asked_at w A) (asked_at w B) (dated_bag d w A) (dated_bag d w B) m.met) db,
    )

-- once an endpoint has completed both are drained
pub kept_drained : (d : Dates) (w : World) → IsKept d w → (x : Side) → (end_of w x).phase ≡ Over Completed → (drained w.a.sender ≡ true) × (drained w.b.sender ≡ true)
kept_drained d w (inl k) x over = absurd (let q : never_opened (Over Completed) ≡ true = subst (λ (h : Phase). never_opened h ≡ true) over (k.ends x).unopened in cc)
kept_drained d w (inr m) x over = both (done x over)
  where
    done : (y : Side) → (end_of w y).phase ≡ Over Completed → IsDone w.a × IsDone w.b
    done A is = m.met.ending.this.completed is
    done B is = let both = m.met.ending.there.completed is in (both.1, both.0)

    both : IsDone w.a × IsDone w.b → (drained w.a.sender ≡ true) × (drained w.b.sender ≡ true)
    both (da, db) = (da.empty, db.empty)

-- ---- how the endpoints of a run are set up

no_listener : (h k : Phase) → IsTurn h k → k ≡ Listening → ⊥
no_listener h k (ByCall d) e = absurd (cc)
no_listener h k (ByInitAck d peer cookie) e = absurd (cc)
no_listener h k (ByCookieAck t cookie) e = absurd (cc)
no_listener h k (ByCookie t) e = absurd (cc)
no_listener h k (ByPair t) e = absurd (cc)
no_listener h k (ByStage t g i turn) e = absurd (cc)
no_listener h k (ByEnd _ why has) e = absurd (cc)

listens_from : (h k : Phase) → IsPath h k → k ≡ Listening → h ≡ Listening
listens_from h k (Here _) e = e
listens_from h k (On _ m _ turn rest) e = absurd (no_listener h m turn (listens_from m k rest e))

pub kept_start : (s : Setup) (d : Dates) → IsKept d (start s)
kept_start s d = inl (record { listens = refl; ends = ends; calls = calls; opening = opening })
  where
    ends : (x : Side) → IsUnmet (clock_of (start s) x) (end_of (start s) x)
    ends A = record { blank = record { rwnd = 0; sender = refl; receiver = refl }; unopened = refl; home = record { shutdown = λ on. absurd (cc); ack = λ on. absurd (cc); shutdown_runs = λ n on. absurd (cc); ack_runs = λ n on. absurd (cc) }; moment = omega arith }
    ends B = record { blank = record { rwnd = 0; sender = refl; receiver = refl }; unopened = refl; home = record { shutdown = λ on. absurd (cc); ack = λ on. absurd (cc); shutdown_runs = λ n on. absurd (cc); ack_runs = λ n on. absurd (cc) }; moment = omega arith }

    calls : (x : Side) → (log_of (start s) x).calls ≡ []
    calls A = refl
    calls B = refl

    opening : (x : Side) → AreOpening (chunks_in (bag_of (start s) x))
    opening A y h = absurd h
    opening B y h = absurd h

-- ---- runs

-- what the opening keeps, that the caller never listens, and what is kept of both endpoints
pub record IsSteady (s : Setup) (drawn : List ℕ) (d : Dates) (w : World) : Type 0 where
  pub sound : IsSound s drawn w
  pub caller : w.a.phase ≡ Listening → ⊥
  pub kept : IsKept d w

module _ (s : Setup) (drawn : List ℕ) (within : (x : Side) → IsConfiguration (configuration_of s x)) (d : Dates) where
  pub set_up : (w : World) → IsSteady s drawn d w → AreSetUp s w
  set_up w i = record { alike = λ x. (i.sound.ground.ends x).configuration; within = within }

  kept_step : (w v : World) (e : Event) (o : Option Outcome) → AreKept d w e v → IsFine s drawn e → IsSteady s drawn d w → Step w e o v → IsKept d v
  kept_step w v e o dates fine i step = go i.kept
    where
      opening : IsOpening s drawn w
      opening = opening_of s drawn w i.sound

      go : IsKept d w → IsKept d v
      go (inl k) = apart_step s drawn d w opening (set_up w i) k i.caller e o v dates fine step
      go (inr m) = inr (met_step s drawn d w opening m e o v dates fine step)

  pub steady_step : (w v : World) (e : Event) (o : Option Outcome) → AreKept d w e v → IsFine s drawn e → IsSteady s drawn d w → Step w e o v → IsSteady s drawn d v
  steady_step w v e o dates fine i step = record {
    sound = sound_step s drawn within w e o v fine step i.sound;
    caller = λ q. i.caller (listens_from w.a.phase v.a.phase ((step_onward w e o v i.sound.fresh step).later A).path q);
    kept = kept_step w v e o dates fine i step;
  }

  steady_safe : (w : World) → IsSteady s drawn d w → IsSafeWorld w × IsClosedWorld w
  steady_safe w i = (kept_safe d w i.kept, kept_closed d w i.kept)

  -- each world of a run whose dates are kept
  all_steady : (w : World) (es : List Event) (os : List (Option Outcome)) (vs : List World) → ((e : Event) → Has es e → IsFine s drawn e) → PassesThrough w es os vs → AllKept d w es vs →
      IsSteady s drawn d w → KeepBothPromises (w ∷ vs)
  all_steady w [] [] [] fine passes kept i = (steady_safe w i, tt)
  all_steady w (e ∷ es) (o ∷ os) (v ∷ vs) fine (step, more) (now, later) i =
      (steady_safe w i, all_steady v es os vs (λ x h. fine x (inr h)) more later (steady_step w v e o now (fine e (inl refl)) i step))
  all_steady w [] (o ∷ os) vs fine passes kept i = absurd passes
  all_steady w [] [] (v ∷ vs) fine passes kept i = absurd passes
  all_steady w (e ∷ es) [] vs fine passes kept i = absurd passes
  all_steady w (e ∷ es) (o ∷ os) [] fine passes kept i = absurd passes

-- the last of them
module _ (s : Setup) (drawn : List ℕ) (within : (x : Side) → IsConfiguration (configuration_of s x)) (d : Dates) where
  last_kept : (w : World) (es : List Event) (os : List (Option Outcome)) (vs : List World) → ((e : Event) → Has es e → IsFine s drawn e) → PassesThrough w es os vs → AllKept d w es vs →
      IsSteady s drawn d w → IsKept d (last_of w vs)
  last_kept w [] [] [] fine passes kept i = i.kept
  last_kept w (e ∷ es) (o ∷ os) (v ∷ vs) fine (step, more) (now, later) i =
      last_kept v es os vs (λ x h. fine x (inr h)) more later (steady_step s drawn within d w v e o now (fine e (inl refl)) i step)
  last_kept w [] (o ∷ os) vs fine passes kept i = absurd passes
  last_kept w [] [] (v ∷ vs) fine passes kept i = absurd passes
  last_kept w (e ∷ es) [] vs fine passes kept i = absurd passes
  last_kept w (e ∷ es) (o ∷ os) [] fine passes kept i = absurd passes

-- a run from the start
all_safe : (s : Setup) (es : List Event) (os : List (Option Outcome)) (vs : List World) → ((x : Side) → IsConfiguration (configuration_of s x)) → PassesThrough (start s) es os vs →
    FreshAndUnforged s.sealing es → AllKept (dates_of (start s) vs) (start s) es vs → KeepBothPromises (start s ∷ vs)
all_safe s es os vs within passes premises kept =
    all_steady s (drawn_in es) within (dates_of (start s) vs) (start s) es os vs (fine_by s es premises) passes kept
    (record { sound = sound_start s (drawn_in es) (inl refl); caller = λ q. absurd (cc); kept = kept_start s (dates_of (start s) vs) })

-- the last world of a run whose dates are kept: its ends are apart, or have met
pub kept_by_all : (s : Setup) (es : List Event) (os : List (Option Outcome)) (vs : List World) → ((x : Side) → IsConfiguration (configuration_of s x)) → PassesThrough (start s) es os vs →
    FreshAndUnforged s.sealing es → AllKept (dates_of (start s) vs) (start s) es vs → IsKept (dates_of (start s) vs) (last_of (start s) vs)
kept_by_all s es os vs within passes premises kept =
    last_kept s (drawn_in es) within (dates_of (start s) vs) (start s) es os vs (fine_by s es premises) passes kept
    (record { sound = sound_start s (drawn_in es) (inl refl); caller = λ q. absurd (cc); kept = kept_start s (dates_of (start s) vs) })

-- ---- SAFE and CLOSING

-- In each world of a run that meets the premises both hold.
pub all_safe_in_time : (s : Setup) (es : List Event) (os : List (Option Outcome)) (vs : List World) → ((x : Side) → IsConfiguration (configuration_of s x)) →
    PassesThrough (start s) es os vs → FreshAndUnforged s.sealing es → Aged (start s) es vs → KeepBothPromises (start s ∷ vs)
all_safe_in_time s es os vs within passes premises aged = all_safe s es os vs within passes premises (kept_in_time s es os vs passes aged)

-- And in each world of a run that meets FRESH and UNFORGED, and in which neither endpoint assigns half the space of TSNs.
pub short_runs_are_safe : ShortRunsAreSafe
short_runs_are_safe s es os vs within passes premises few = all_safe s es os vs within passes premises (kept_by_few s es os vs passes few)

last_safe : (w : World) (vs : List World) → KeepBothPromises (w ∷ vs) → IsSafeWorld (last_of w vs) × IsClosedWorld (last_of w vs)
last_safe w [] h = h.0
last_safe w (v ∷ vs) h = last_safe v vs h.1

reached_safe : (s : Setup) (events : List Event) (w : World) → IsReachedInTime s events w → IsSafeWorld w × IsClosedWorld w
reached_safe s events w r =
    subst (λ (v : World). IsSafeWorld v × IsClosedWorld v) r.ends
    (last_safe (start s) r.worlds (all_safe_in_time s events r.answers r.worlds r.configured r.run r.premises r.aged))

pub two_ends_are_safe : TwoEndsAreSafe
two_ends_are_safe s events w r = (reached_safe s events w r).0

pub nothing_is_missing : NothingIsMissing
nothing_is_missing s events w r = (reached_safe s events w r).1

-- a world that a run reaches in time: its ends are apart, or have met
pub reached_kept : (s : Setup) (events : List Event) (w : World) → (r : IsReachedInTime s events w) → IsKept (dates_of (start s) r.worlds) w
reached_kept s events w r =
    let d = dates_of (start s) r.worlds in
    subst (IsKept d) r.ends (last_kept s (drawn_in events) r.configured d (start s) events r.answers r.worlds (fine_by s events r.premises) r.run (kept_in_time s events r.answers r.worlds r.run r.aged)
    (record { sound = sound_start s (drawn_in events) (inl refl); caller = λ q. absurd (cc); kept = kept_start s d }))

pub nothing_waits : NothingWaits
nothing_waits s events w r x over = kept_drained (dates_of (start s) r.worlds) w (reached_kept s events w r) x over
