-- In every world of every run no request is forgotten.
use Rattle.std.proofs.Common.{Bool, true, false, ◌||◌, ◌⊎◌, inl, inr, is_some, max, List, [], ◌∷◌, Option, None, refl, sym, subst, ◌≡◌}
use Rattle.sctp_model.specs.wire.Packet.{Packet}
use Rattle.sctp_model.specs.end.EndView.{Phase, EndView, ResetAlarm}
use Rattle.sctp_model.specs.end.Arriving.{DroppedUnread, ReadAs, CutFirst, CutLater}
use Rattle.sctp_model.specs.end.UserCalls.{shut, abort_answer, abort_leaves, reset_call, reset_leaves, reset_there, told_leaves}
use Rattle.sctp_model.specs.world.World.{Side, A, B, World, end_of, end_now, start, clock_of}
use Rattle.sctp_model.specs.world.Events.{Event, Outcome}
use Rattle.sctp_model.specs.world.Steps.{Step, OpensBoth, OpenRefused, TimePasses, Draws, Connects, ConnectRefused, BuildsOne, BuildsNone, PacketComes, IsAbsent, Sends, AbandonsOne, TakesOne, ShutsDown, AbortsIt, NoMemory, Run, Rest, Then, PacketCut, ResetsOne, TellsReset, TimeGoesOn, MomentComes}
use Rattle.sctp_safety.proofs.machine.DiagramRuns.{connect_idle}
use Rattle.sctp_safety.proofs.machine.OneEnd.{IsAt, at_end, at_log, at_packet, at_came, answer_of, at_verdict, abort_of, at_abort, both_ends}
use Rattle.sctp_outcomes.proofs.resets.AskingEnds.{Goes, runs, IsAskingAt, asking_arrives, asking_builds, asking_ticked, asking_sent, asking_abandoned, asking_shut, asking_aborted, asking_reset, asking_told}
use Rattle.sctp_outcomes.specs.Resets.{NoRequestIsForgotten}

-- both endpoints are
abbrev pub AreAsking : World → Type 0
AreAsking w = (x : Side) → IsAskingAt (end_of w x)

at_one_end : (w v : World) (x : Side) (t : EndView) (given : Option Packet) → IsAt w v x t given → AreAsking w → IsAskingAt t → AreAsking v
at_one_end w v x t given at all new = both_ends (λ (y : Side) (e : EndView). IsAskingAt e) w v x t given at all new

at_both : (v : World) → IsAskingAt v.a → IsAskingAt v.b → AreAsking v
at_both v a b A = a
at_both v a b B = b

pub asking_step : (w : World) (e : Event) (o : Option Outcome) (v : World) → AreAsking w → Step w e o v → AreAsking v
asking_step w e o v r (OpensBoth x y like may dx dy) = at_both v (λ on. absurd (cc)) (λ on. absurd (cc))
asking_step w e o v r (OpenRefused x y closed) = r
asking_step w e o v r (TimeGoesOn A m small) = at_both v (r A) (r B)
asking_step w e o v r (TimeGoesOn B m small) = at_both v (r A) (r B)
asking_step w e o v r (MomentComes x) = at_one_end w v x _ None (at_log w x _ _) r (asking_ticked (end_of w x) (clock_of w x) (r x))
asking_step w e o v r (TimePasses m small) = at_both v (asking_ticked w.a (max w.clock_a m) (r A)) (asking_ticked w.b (max w.clock_b m) (r B))
asking_step w e o v r (Draws d dd) = at_both v (r A) (r B)
asking_step w e o v r (Connects d dd answer) =
    at_both v (subst (λ (h : Phase). Goes h (is_some w.a.sender.resets.pending) w.a.due.request (runs (w.a.timers ResetAlarm))) (connect_idle w.a.phase answer) (r A)) (r B)
asking_step w e o v r (ConnectRefused d answer) = r
asking_step w e o v r (BuildsOne x y ys t b) = at_one_end w v x t _ (at_packet w x t _) r (asking_builds (end_now w x) (y ∷ ys) t (r x) b)
asking_step w e o v r (BuildsNone x t b) = at_one_end w v x t None (at_end w x t) r (asking_builds (end_now w x) [] t (r x) b)
asking_step w e o v r (PacketComes _ x _ t d brings (ReadAs p _ _ arrives)) =
    at_one_end w v x t (answer_of d) (at_verdict w x t d) r (asking_arrives (end_now w x) w.draw p t d (r x) arrives)
asking_step w e o v r (PacketComes _ x _ _ _ brings DroppedUnread) = at_one_end w v x (end_now w x) None (at_came w x (end_now w x)) r (r x)
asking_step w e o v r (PacketCut _ x _ _ brings (CutFirst _)) = at_one_end w v x (end_now w x) None (at_came w x (end_now w x)) r (r x)
asking_step w e o v r (PacketCut _ x _ t brings (CutLater p y front back c _ d part arrives untold)) =
    at_one_end w v x t None (at_came w x t) r (asking_arrives (end_now w x) w.draw _ t d (r x) arrives)
asking_step w e o v r (IsAbsent x n none) = r
asking_step w e o v r (Sends x c) = at_one_end w v x _ None (at_log w x _ _) r (asking_sent (end_of w x) c (r x))
asking_step w e o v r (AbandonsOne x n) = at_one_end w v x _ None (at_log w x _ _) r (asking_abandoned (end_of w x) n (r x))
asking_step w e o v r (TakesOne x n h t takes) = at_one_end w v x t None (at_end w x t) r (subst IsAskingAt (sym takes.leaves) (r x))
asking_step w e o v r (ResetsOne x n) = at_one_end w v x (reset_leaves (reset_call (end_of w x) n) (end_of w x) n) None (at_end w x _) r (asking_reset (end_of w x) (reset_call (end_of w x) n) n (r x))
asking_step w e o v r (TellsReset x) = at_one_end w v x (told_leaves (reset_there (end_of w x)) (end_of w x)) None (at_end w x _) r (asking_told (end_of w x) (reset_there (end_of w x)) (r x))
asking_step w e o v r (ShutsDown x) = at_one_end w v x (shut (end_of w x)) None (at_end w x _) r (asking_shut (end_of w x) (r x))
asking_step w e o v r (AbortsIt x why) =
    let a = abort_answer (end_of w x) why in
    at_one_end w v x (abort_leaves a (end_of w x)) (abort_of a) (at_abort w x _ a) r (asking_aborted (end_of w x) a (r x))
asking_step w e o v r (NoMemory _ other_event) = r

pub asking_run : (w : World) (es : List Event) (os : List (Option Outcome)) (v : World) → AreAsking w → Run w es os v → AreAsking v
asking_run w es os v r (Rest _) = r
asking_run w es os v r (Then _ mid _ e rest o others step run) = asking_run mid rest others v (asking_step w e o mid r step) run

-- one of two tests holds
one_of : (b c : Bool) → (b || c) ≡ true → (b ≡ true) ⊎ (c ≡ true)
one_of true c on = inl refl
one_of false c on = inr on

pub no_request_is_forgotten : NoRequestIsForgotten
no_request_is_forgotten s events answers w run x t is waits =
    let e = end_of w x in
    let goes = asking_run (start s) events answers w (at_both (start s) refl refl) run x in
    one_of e.due.request (is_some (e.timers ResetAlarm).expiry) (subst (λ (h : Phase). Goes h (is_some e.sender.resets.pending) e.due.request (runs (e.timers ResetAlarm))) is goes waits)
