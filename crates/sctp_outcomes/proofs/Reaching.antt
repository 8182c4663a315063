-- In every world of every run each sender is one that its calls reach, as far as its endpoint's fragments aren't empty: nothing else in the world changes a
-- sender.
use Rattle.std.proofs.Common.{max, List, [], ◌∷◌, Option, None, refl, sym, subst}
use Rattle.sctp_model.specs.wire.Packet.{Packet}
use Rattle.sctp_model.specs.end.EndView.{EndView}
use Rattle.sctp_model.specs.end.Arriving.{DroppedUnread, ReadAs, CutFirst, CutLater}
use Rattle.sctp_model.specs.end.UserCalls.{shut, abort_answer, abort_leaves, reset_call, reset_leaves, reset_there, told_leaves}
use Rattle.sctp_model.specs.world.World.{Side, A, B, World, end_of, end_now, start, Setup, clock_of}
use Rattle.sctp_model.specs.world.Events.{Event, Outcome}
use Rattle.sctp_model.specs.world.Steps.{Step, OpensBoth, OpenRefused, TimePasses, Draws, Connects, ConnectRefused, BuildsOne, BuildsNone, PacketComes, IsAbsent, Sends, AbandonsOne, TakesOne, ShutsDown, AbortsIt, NoMemory, Run, Rest, Then, PacketCut, ResetsOne, TellsReset, TimeGoesOn, MomentComes}
use Rattle.sctp_safety.proofs.machine.OneEnd.{IsAt, at_end, at_log, at_packet, at_came, answer_of, at_verdict, abort_of, at_abort, both_ends}
use Rattle.sctp_outcomes.proofs.ReachedEnds.{IsReachedAt, reached_anew, reached_arrives, reached_builds, reached_ticked, reached_sent, reached_abandoned, reached_shut, reached_aborted, reached_reset, reached_told}

-- both endpoints' senders are
abbrev pub AreReached : World → Type 0
AreReached w = (x : Side) → IsReachedAt (end_of w x)

at_one_end : (w v : World) (x : Side) (t : EndView) (given : Option Packet) → IsAt w v x t given → AreReached w → IsReachedAt t → AreReached v
at_one_end w v x t given at all new = both_ends (λ (y : Side) (e : EndView). IsReachedAt e) w v x t given at all new

at_both : (v : World) → IsReachedAt v.a → IsReachedAt v.b → AreReached v
at_both v a b A = a
at_both v a b B = b

pub reached_step : (w : World) (e : Event) (o : Option Outcome) (v : World) → AreReached w → Step w e o v → AreReached v
reached_step w e o v r (OpensBoth x y like may dx dy) = at_both v (reached_anew v.a _ _ _ _ _ refl) (reached_anew v.b _ _ _ _ _ refl)
reached_step w e o v r (OpenRefused x y closed) = r
reached_step w e o v r (TimeGoesOn A m small) = at_both v (r A) (r B)
reached_step w e o v r (TimeGoesOn B m small) = at_both v (r A) (r B)
reached_step w e o v r (MomentComes x) = at_one_end w v x _ None (at_log w x _ _) r (reached_ticked (end_of w x) (clock_of w x) (r x))
reached_step w e o v r (TimePasses m small) = at_both v (reached_ticked w.a (max w.clock_a m) (r A)) (reached_ticked w.b (max w.clock_b m) (r B))
reached_step w e o v r (Draws d dd) = at_both v (r A) (r B)
reached_step w e o v r (Connects d dd answer) = at_both v (r A) (r B)
reached_step w e o v r (ConnectRefused d answer) = r
reached_step w e o v r (BuildsOne x y ys t b) = at_one_end w v x t _ (at_packet w x t _) r (reached_builds (end_now w x) (y ∷ ys) t (r x) b)
reached_step w e o v r (BuildsNone x t b) = at_one_end w v x t None (at_end w x t) r (reached_builds (end_now w x) [] t (r x) b)
reached_step w e o v r (PacketComes _ x _ t d brings (ReadAs p _ _ arrives)) =
    at_one_end w v x t (answer_of d) (at_verdict w x t d) r (reached_arrives (end_now w x) w.draw p t d (r x) arrives)
reached_step w e o v r (PacketComes _ x _ _ _ brings DroppedUnread) = at_one_end w v x (end_now w x) None (at_came w x (end_now w x)) r (r x)
reached_step w e o v r (PacketCut _ x _ _ brings (CutFirst _)) = at_one_end w v x (end_now w x) None (at_came w x (end_now w x)) r (r x)
reached_step w e o v r (PacketCut _ x _ t brings (CutLater p y front back c _ d part arrives untold)) =
    at_one_end w v x t None (at_came w x t) r (reached_arrives (end_now w x) w.draw _ t d (r x) arrives)
reached_step w e o v r (IsAbsent x n none) = r
reached_step w e o v r (Sends x c) = at_one_end w v x _ None (at_log w x _ _) r (reached_sent (end_of w x) c (r x))
reached_step w e o v r (AbandonsOne x n) = at_one_end w v x _ None (at_log w x _ _) r (reached_abandoned (end_of w x) n (r x))
reached_step w e o v r (TakesOne x n h t takes) = at_one_end w v x t None (at_end w x t) r (subst IsReachedAt (sym takes.leaves) (r x))
reached_step w e o v r (ResetsOne x n) = at_one_end w v x (reset_leaves (reset_call (end_of w x) n) (end_of w x) n) None (at_end w x _) r (reached_reset (end_of w x) (reset_call (end_of w x) n) n (r x))
reached_step w e o v r (TellsReset x) = at_one_end w v x (told_leaves (reset_there (end_of w x)) (end_of w x)) None (at_end w x _) r (reached_told (end_of w x) (reset_there (end_of w x)) (r x))
reached_step w e o v r (ShutsDown x) = at_one_end w v x (shut (end_of w x)) None (at_end w x _) r (reached_shut (end_of w x) (r x))
reached_step w e o v r (AbortsIt x why) =
    let a = abort_answer (end_of w x) why in
    at_one_end w v x (abort_leaves a (end_of w x)) (abort_of a) (at_abort w x _ a) r (reached_aborted (end_of w x) a (r x))
reached_step w e o v r (NoMemory _ other_event) = r

pub reached_run : (w : World) (es : List Event) (os : List (Option Outcome)) (v : World) → AreReached w → Run w es os v → AreReached v
reached_run w es os v r (Rest _) = r
reached_run w es os v r (Then _ mid _ e rest o others step run) = reached_run mid rest others v (reached_step w e o mid r step) run

pub senders_reached : (s : Setup) (es : List Event) (os : List (Option Outcome)) (w : World) → Run (start s) es os w → AreReached w
senders_reached s es os w run =
    reached_run (start s) es os w (at_both (start s) (reached_anew (start s).a _ _ _ _ _ refl) (reached_anew (start s).b _ _ _ _ _ refl)) run
