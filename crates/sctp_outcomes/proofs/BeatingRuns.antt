-- In every world of every run the timer of HEARTBEATs runs, at an endpoint that is set up for them.
use Rattle.std.proofs.Common.{max, List, [], ◌∷◌, Option, None, refl, sym, subst, ◌≡◌, ap, ◌∙◌}
use Rattle.sctp_model.specs.wire.Packet.{Packet}
use Rattle.sctp_model.specs.end.EndView.{EndView, Configuration, Calling}
use Rattle.sctp_model.specs.end.Arriving.{DroppedUnread, ReadAs, CutFirst, CutLater}
use Rattle.sctp_model.specs.end.UserCalls.{shut, abort_answer, abort_leaves, reset_call, reset_leaves, reset_there, told_leaves}
use Rattle.sctp_model.specs.world.World.{Side, A, B, World, end_of, end_now, start, Setup, configuration_of, clock_of}
use Rattle.sctp_model.specs.world.Events.{Event, Outcome}
use Rattle.sctp_model.specs.world.Steps.{Step, OpensBoth, OpenRefused, TimePasses, Draws, Connects, ConnectRefused, BuildsOne, BuildsNone, PacketComes, IsAbsent, Sends, AbandonsOne, TakesOne, ShutsDown, AbortsIt, NoMemory, Run, Rest, Then, PacketCut, ResetsOne, TellsReset, TimeGoesOn, MomentComes}
use Rattle.sctp_safety.proofs.machine.OneEnd.{IsAt, at_end, at_log, at_packet, at_came, answer_of, at_verdict, abort_of, at_abort, both_ends}
use Rattle.sctp_outcomes.proofs.BeatingEnds.{IsBeatingAt, beats_started, beats_nowhere, beats_arrives, beats_builds, beats_ticked, beats_sent, beats_abandoned, beats_shut, beats_aborted, beats_reset, beats_told}
use Rattle.sctp_safety.proofs.machine.DiagramRuns.{ends_follow_the_diagram}
use Rattle.sctp_outcomes.specs.NeverBeats.{BeatsGoOn}

-- both endpoints are
abbrev pub AreBeating : World → Type 0
AreBeating w = (x : Side) → IsBeatingAt (end_of w x)

at_one_end : (w v : World) (x : Side) (t : EndView) (given : Option Packet) → IsAt w v x t given → AreBeating w → IsBeatingAt t → AreBeating v
at_one_end w v x t given at all new = both_ends (λ (y : Side) (e : EndView). IsBeatingAt e) w v x t given at all new

at_both : (v : World) → IsBeatingAt v.a → IsBeatingAt v.b → AreBeating v
at_both v a b A = a
at_both v a b B = b

pub beats_step : (w : World) (e : Event) (o : Option Outcome) (v : World) → AreBeating w → Step w e o v → AreBeating v
beats_step w e o v r (OpensBoth x y like may dx dy) = at_both v (beats_started _) (beats_started _)
beats_step w e o v r (OpenRefused x y closed) = r
beats_step w e o v r (TimeGoesOn A m small) = at_both v (r A) (r B)
beats_step w e o v r (TimeGoesOn B m small) = at_both v (r A) (r B)
beats_step w e o v r (MomentComes x) = at_one_end w v x _ None (at_log w x _ _) r (beats_ticked (end_of w x) (clock_of w x) (r x))
beats_step w e o v r (TimePasses m small) = at_both v (beats_ticked w.a (max w.clock_a m) (r A)) (beats_ticked w.b (max w.clock_b m) (r B))
beats_step w e o v r (Draws d dd) = at_both v (r A) (r B)
beats_step w e o v r (Connects d dd answer) = at_both v (beats_nowhere (Calling d) (end_now w A) refl) (r B)
beats_step w e o v r (ConnectRefused d answer) = r
beats_step w e o v r (BuildsOne x y ys t b) = at_one_end w v x t _ (at_packet w x t _) r (beats_builds (end_now w x) (y ∷ ys) t (r x) b)
beats_step w e o v r (BuildsNone x t b) = at_one_end w v x t None (at_end w x t) r (beats_builds (end_now w x) [] t (r x) b)
beats_step w e o v r (PacketComes _ x _ t d brings (ReadAs p _ _ arrives)) =
    at_one_end w v x t (answer_of d) (at_verdict w x t d) r (beats_arrives (end_now w x) w.draw p t d (r x) arrives)
beats_step w e o v r (PacketComes _ x _ _ _ brings DroppedUnread) = at_one_end w v x (end_now w x) None (at_came w x (end_now w x)) r (r x)
beats_step w e o v r (PacketCut _ x _ _ brings (CutFirst _)) = at_one_end w v x (end_now w x) None (at_came w x (end_now w x)) r (r x)
beats_step w e o v r (PacketCut _ x _ t brings (CutLater p y front back c _ d part arrives untold)) =
    at_one_end w v x t None (at_came w x t) r (beats_arrives (end_now w x) w.draw _ t d (r x) arrives)
beats_step w e o v r (IsAbsent x n none) = r
beats_step w e o v r (Sends x c) = at_one_end w v x _ None (at_log w x _ _) r (beats_sent (end_of w x) c (r x))
beats_step w e o v r (AbandonsOne x n) = at_one_end w v x _ None (at_log w x _ _) r (beats_abandoned (end_of w x) n (r x))
beats_step w e o v r (TakesOne x n h t takes) = at_one_end w v x t None (at_end w x t) r (subst IsBeatingAt (sym takes.leaves) (r x))
beats_step w e o v r (ResetsOne x n) = at_one_end w v x (reset_leaves (reset_call (end_of w x) n) (end_of w x) n) None (at_end w x _) r (beats_reset (end_of w x) (reset_call (end_of w x) n) n (r x))
beats_step w e o v r (TellsReset x) = at_one_end w v x (told_leaves (reset_there (end_of w x)) (end_of w x)) None (at_end w x _) r (beats_told (end_of w x) (reset_there (end_of w x)) (r x))
beats_step w e o v r (ShutsDown x) = at_one_end w v x (shut (end_of w x)) None (at_end w x _) r (beats_shut (end_of w x) (r x))
beats_step w e o v r (AbortsIt x why) =
    let a = abort_answer (end_of w x) why in
    at_one_end w v x (abort_leaves a (end_of w x)) (abort_of a) (at_abort w x _ a) r (beats_aborted (end_of w x) a (r x))
beats_step w e o v r (NoMemory _ other_event) = r

pub beats_run : (w : World) (es : List Event) (os : List (Option Outcome)) (v : World) → AreBeating w → Run w es os v → AreBeating v
beats_run w es os v r (Rest _) = r
beats_run w es os v r (Then _ mid _ e rest o others step run) = beats_run mid rest others v (beats_step w e o mid r step) run

-- an endpoint is set up as it was
configured_so : (s : Setup) (x : Side) → (end_of (start s) x).configuration ≡ configuration_of s x
configured_so s A = refl
configured_so s B = refl

pub beats_go_on : BeatsGoOn
beats_go_on s events answers w run x n on home =
    let later = ends_follow_the_diagram s [] events [] answers (start s) w (Rest (start s)) run x in
    beats_run (start s) events answers w (at_both (start s) (λ m is here. absurd (cc)) (λ m is here. absurd (cc))) run x n
    (ap (λ (c : Configuration). c.heartbeat) (later.configuration ∙ configured_so s x) ∙ on) home
