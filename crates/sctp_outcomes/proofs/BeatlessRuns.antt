-- In every world of every run an endpoint that is set up without HEARTBEATs sends none.
use Rattle.std.proofs.Common.{max, List, [], ◌∷◌, Option, None, refl, sym, subst, ◌≡◌, ap, ◌∙◌}
use Rattle.sctp_model.specs.wire.Packet.{Packet}
use Rattle.sctp_model.specs.end.EndView.{EndView, Configuration, Calling}
use Rattle.sctp_model.specs.end.Arriving.{DroppedUnread, ReadAs, CutFirst, CutLater}
use Rattle.sctp_model.specs.end.UserCalls.{shut, abort_answer, abort_leaves, reset_call, reset_leaves, reset_there, told_leaves}
use Rattle.sctp_model.specs.world.World.{Side, A, B, World, end_of, end_now, start, Setup, configuration_of, clock_of}
use Rattle.sctp_model.specs.world.Events.{Event, Outcome}
use Rattle.sctp_model.specs.world.Steps.{Step, OpensBoth, OpenRefused, TimePasses, Draws, Connects, ConnectRefused, BuildsOne, BuildsNone, PacketComes, IsAbsent, Sends, AbandonsOne, TakesOne, ShutsDown, AbortsIt, NoMemory, Run, Rest, Then, PacketCut, ResetsOne, TellsReset, TimeGoesOn, MomentComes}
use Rattle.sctp_safety.proofs.machine.OneEnd.{IsAt, at_end, at_log, at_packet, at_came, answer_of, at_verdict, abort_of, at_abort, both_ends}
use Rattle.sctp_outcomes.proofs.BeatlessEnds.{IsStillAt, still_opened, still_turned, still_arrives, still_builds, still_ticked, still_sent, still_abandoned, still_shut, still_aborted, still_reset, still_told}
use Rattle.sctp_safety.proofs.machine.DiagramRuns.{ends_follow_the_diagram}
use Rattle.sctp_outcomes.specs.NeverBeats.{NoBeatUnasked, IsNeverBeating}

-- both endpoints are
abbrev pub AreStill : World → Type 0
AreStill w = (x : Side) → IsStillAt (end_of w x)

at_one_end : (w v : World) (x : Side) (t : EndView) (given : Option Packet) → IsAt w v x t given → AreStill w → IsStillAt t → AreStill v
at_one_end w v x t given at all new = both_ends (λ (y : Side) (e : EndView). IsStillAt e) w v x t given at all new

at_both : (v : World) → IsStillAt v.a → IsStillAt v.b → AreStill v
at_both v a b A = a
at_both v a b B = b

pub still_step : (w : World) (e : Event) (o : Option Outcome) (v : World) → AreStill w → Step w e o v → AreStill v
still_step w e o v r (OpensBoth x y like may dx dy) = at_both v (still_opened w.a.configuration x y) (still_opened w.b.configuration y x)
still_step w e o v r (OpenRefused x y closed) = r
still_step w e o v r (TimeGoesOn A m small) = at_both v (r A) (r B)
still_step w e o v r (TimeGoesOn B m small) = at_both v (r A) (r B)
still_step w e o v r (MomentComes x) = at_one_end w v x _ None (at_log w x _ _) r (still_ticked (end_of w x) (clock_of w x) (r x))
still_step w e o v r (TimePasses m small) = at_both v (still_ticked w.a (max w.clock_a m) (r A)) (still_ticked w.b (max w.clock_b m) (r B))
still_step w e o v r (Draws d dd) = at_both v (r A) (r B)
still_step w e o v r (Connects d dd answer) = at_both v (still_turned (Calling d) (end_now w A) (r A)) (r B)
still_step w e o v r (ConnectRefused d answer) = r
still_step w e o v r (BuildsOne x y ys t b) = at_one_end w v x t _ (at_packet w x t _) r (still_builds (end_now w x) (y ∷ ys) t (r x) b)
still_step w e o v r (BuildsNone x t b) = at_one_end w v x t None (at_end w x t) r (still_builds (end_now w x) [] t (r x) b)
still_step w e o v r (PacketComes _ x _ t d brings (ReadAs p _ _ arrives)) =
    at_one_end w v x t (answer_of d) (at_verdict w x t d) r (still_arrives (end_now w x) w.draw p t d (r x) arrives)
still_step w e o v r (PacketComes _ x _ _ _ brings DroppedUnread) = at_one_end w v x (end_now w x) None (at_came w x (end_now w x)) r (r x)
still_step w e o v r (PacketCut _ x _ _ brings (CutFirst _)) = at_one_end w v x (end_now w x) None (at_came w x (end_now w x)) r (r x)
still_step w e o v r (PacketCut _ x _ t brings (CutLater p y front back c _ d part arrives untold)) =
    at_one_end w v x t None (at_came w x t) r (still_arrives (end_now w x) w.draw _ t d (r x) arrives)
still_step w e o v r (IsAbsent x n none) = r
still_step w e o v r (Sends x c) = at_one_end w v x _ None (at_log w x _ _) r (still_sent (end_of w x) c (r x))
still_step w e o v r (AbandonsOne x n) = at_one_end w v x _ None (at_log w x _ _) r (still_abandoned (end_of w x) n (r x))
still_step w e o v r (TakesOne x n h t takes) = at_one_end w v x t None (at_end w x t) r (subst IsStillAt (sym takes.leaves) (r x))
still_step w e o v r (ResetsOne x n) = at_one_end w v x (reset_leaves (reset_call (end_of w x) n) (end_of w x) n) None (at_end w x _) r (still_reset (end_of w x) (reset_call (end_of w x) n) n (r x))
still_step w e o v r (TellsReset x) = at_one_end w v x (told_leaves (reset_there (end_of w x)) (end_of w x)) None (at_end w x _) r (still_told (end_of w x) (reset_there (end_of w x)) (r x))
still_step w e o v r (ShutsDown x) = at_one_end w v x (shut (end_of w x)) None (at_end w x _) r (still_shut (end_of w x) (r x))
still_step w e o v r (AbortsIt x why) =
    let a = abort_answer (end_of w x) why in
    at_one_end w v x (abort_leaves a (end_of w x)) (abort_of a) (at_abort w x _ a) r (still_aborted (end_of w x) a (r x))
still_step w e o v r (NoMemory _ other_event) = r

pub still_run : (w : World) (es : List Event) (os : List (Option Outcome)) (v : World) → AreStill w → Run w es os v → AreStill v
still_run w es os v r (Rest _) = r
still_run w es os v r (Then _ mid _ e rest o others step run) = still_run mid rest others v (still_step w e o mid r step) run

-- an endpoint is set up as it was
configured_so : (s : Setup) (x : Side) → (end_of (start s) x).configuration ≡ configuration_of s x
configured_so s A = refl
configured_so s B = refl

pub no_beat_unasked : NoBeatUnasked
no_beat_unasked s events answers w run x off =
    let later = ends_follow_the_diagram s [] events [] answers (start s) w (Rest (start s)) run x in
    let k = still_run (start s) events answers w (at_both (start s) (λ none. (refl, (refl, refl))) (λ none. (refl, (refl, refl)))) run x
    (ap (λ (c : Configuration). c.heartbeat) (later.configuration ∙ configured_so s x) ∙ off) in
    record { made = k.0; rests = k.1.0; due = k.1.1 }
