-- No endpoint's time is past its clock: each is notified of its clock only.
use Rattle.std.proofs.Common.{◌≡◌, ℕ, ◌≤◌, max, [], ◌∷◌, Option, None, refl, sym, subst, arith}
use Rattle.sctp_model.specs.wire.Packet.{Packet}
use Rattle.sctp_model.specs.end.EndView.{EndView}
use Rattle.sctp_model.specs.end.Arriving.{DroppedUnread, ReadAs, CutFirst, CutLater}
use Rattle.sctp_model.specs.end.Moments.{ticked}
use Rattle.sctp_model.specs.end.UserCalls.{send_answer, reset_call, reset_there, shut, abort_answer, abort_leaves}
use Rattle.sctp_model.specs.world.World.{Side, A, B, World, end_of, end_now, clock_of}
use Rattle.sctp_model.specs.world.Events.{Event, Outcome}
use Rattle.sctp_model.specs.world.Steps.{Step, OpensBoth, OpenRefused, TimeGoesOn, MomentComes, TimePasses, Draws, Connects, ConnectRefused, BuildsOne, BuildsNone, PacketComes, IsAbsent, Sends, AbandonsOne, TakesOne, ResetsOne, TellsReset, ShutsDown, AbortsIt, NoMemory, PacketCut}
use Rattle.sctp_safety.proofs.machine.Turns.{builds_plain}
use Rattle.sctp_safety.proofs.machine.TurnsOfTime.{plain_ticked, plain_sent, plain_abandoned, plain_taken, plain_reset, plain_told, plain_shut, plain_aborted}
use Rattle.sctp_safety.proofs.machine.Ground.{arrives_same}
use Rattle.sctp_safety.proofs.machine.OneEnd.{IsAt, at_end, at_log, at_packet, at_came, at_verdict, at_abort, answer_of, abort_of, both_ends}
use Rattle.sctp_pair.specs.PairStands.{IsOnTime}

-- one end acts, and is left with a moment that its clock has reached
one_end : (w v : World) (x : Side) (t : EndView) (given : Option Packet) → IsOnTime w → IsAt w v x t given → t.moment ≤ clock_of w x → IsOnTime v
one_end w v x t given on at here y =
    let there : (end_of v y).moment ≤ clock_of w y = both_ends (λ (z : Side) (e : EndView). e.moment ≤ clock_of w z) w v x t given at on here y in
    subst (λ (n : ℕ). (end_of v y).moment ≤ n) (sym (clocks y)) there
  where
    clocks : (z : Side) → clock_of v z ≡ clock_of w z
    clocks A = at.clock_a
    clocks B = at.clock_b

-- at its own moment
at_its_own : (w v : World) (x : Side) (t : EndView) (given : Option Packet) → IsOnTime w → IsAt w v x t given → t.moment ≡ (end_of w x).moment → IsOnTime v
at_its_own w v x t given on at same = one_end w v x t given on at (subst (λ (n : ℕ). n ≤ clock_of w x) (sym same) (on x))

-- at its clock
at_the_clock : (w v : World) (x : Side) (t : EndView) (given : Option Packet) → IsOnTime w → IsAt w v x t given → t.moment ≡ (end_now w x).moment → IsOnTime v
at_the_clock w v x t given on at same =
    let before = on x in
    one_end w v x t given on at (omega (arith, same, before))

pub on_time : (w : World) (e : Event) (o : Option Outcome) (v : World) → IsOnTime w → Step w e o v → IsOnTime v
on_time w e o v on (OpensBoth x y like may dx dy) = ends
  where
    ends : (x : Side) → (end_of v x).moment ≤ clock_of v x
    ends A = omega arith
    ends B = omega arith
on_time w e o v on (OpenRefused x y closed) = on
on_time w e o v on (TimeGoesOn A m small) = ends
  where
    ends : (x : Side) → (end_of v x).moment ≤ clock_of v x
    ends A = let before = on A in omega (arith, before)
    ends B = on B
on_time w e o v on (TimeGoesOn B m small) = ends
  where
    ends : (x : Side) → (end_of v x).moment ≤ clock_of v x
    ends A = on A
    ends B = let before = on B in omega (arith, before)
on_time w e o v on (MomentComes x) = at_the_clock w v x _ None on (at_log w x _ _) (plain_ticked (end_of w x) (clock_of w x)).moment
on_time w e o v on (TimePasses m small) = ends
  where
    told : (x : Side) → (ticked (end_of w x) (max (clock_of w x) m)).moment ≤ max (clock_of w x) m
    told x = let same = (plain_ticked (end_of w x) (max (clock_of w x) m)).moment in let before = on x in omega (arith, same, before)

    ends : (x : Side) → (end_of v x).moment ≤ clock_of v x
    ends A = told A
    ends B = told B
on_time w e o v on (Draws d dd) = ends
  where
    ends : (x : Side) → (end_of v x).moment ≤ clock_of v x
    ends A = on A
    ends B = on B
on_time w e o v on (Connects d dd answer) = ends
  where
    ends : (x : Side) → (end_of v x).moment ≤ clock_of v x
    ends A = let before = on A in omega (arith, before)
    ends B = on B
on_time w e o v on (ConnectRefused d answer) = on
on_time w e o v on (BuildsOne x y ys t b) = at_the_clock w v x t _ on (at_packet w x t _) (builds_plain (end_now w x) (y ∷ ys) t b).moment
on_time w e o v on (BuildsNone x t b) = at_the_clock w v x t None on (at_end w x t) (builds_plain (end_now w x) [] t b).moment
on_time w e o v on (PacketComes _ x _ t d brings (ReadAs p _ _ arrives)) =
    at_the_clock w v x t (answer_of d) on (at_verdict w x t d) (arrives_same (end_now w x) w.draw p t d arrives).moment
on_time w e o v on (PacketComes _ x _ _ _ brings DroppedUnread) = at_the_clock w v x (end_now w x) None on (at_came w x (end_now w x)) refl
on_time w e o v on (IsAbsent x n none) = on
on_time w e o v on (Sends x c) = at_its_own w v x _ None on (at_log w x _ _) (plain_sent (end_of w x) c (send_answer (end_of w x) c)).moment
on_time w e o v on (AbandonsOne x k) = at_its_own w v x _ None on (at_log w x _ _) (plain_abandoned (end_of w x) k).moment
on_time w e o v on (TakesOne x n h t takes) = at_its_own w v x t None on (at_end w x t) (plain_taken (end_of w x) n h t takes).moment
on_time w e o v on (ResetsOne x n) = at_its_own w v x _ None on (at_end w x _) (plain_reset (end_of w x) (reset_call (end_of w x) n) n).moment
on_time w e o v on (TellsReset x) = at_its_own w v x _ None on (at_end w x _) (plain_told (end_of w x) (reset_there (end_of w x))).moment
on_time w e o v on (ShutsDown x) = at_its_own w v x (shut (end_of w x)) None on (at_end w x _) (plain_shut (end_of w x)).moment
on_time w e o v on (AbortsIt x r) =
    at_its_own w v x (abort_leaves (abort_answer (end_of w x) r) (end_of w x)) (abort_of (abort_answer (end_of w x) r)) on (at_abort w x _ _) (plain_aborted (end_of w x) r).moment
on_time w e o v on (PacketCut _ x _ _ brings (CutFirst _)) = at_the_clock w v x (end_now w x) None on (at_came w x (end_now w x)) refl
on_time w e o v on (PacketCut _ x _ t brings (CutLater p y front back c _ d part arrives untold)) =
    at_the_clock w v x t None on (at_came w x t) (arrives_same (end_now w x) w.draw _ t d arrives).moment
on_time w e o v on (NoMemory _ other_event) = on
