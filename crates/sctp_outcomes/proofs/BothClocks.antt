-- One clock for both is two that show the same.
use Rattle.std.proofs.Common.{◌≡◌, ℕ, max, true, List, [], ◌∷◌, Option, Some, inl, inr, refl, sym, ap, ◌∙◌}
use Rattle.sctp_model.specs.numbers.Lists.{Has}
use Rattle.sctp_model.specs.wire.Packet.{Packet}
use Rattle.sctp_model.specs.end.EndView.{EndView}
use Rattle.sctp_model.specs.world.World.{Side, A, B, World, start}
use Rattle.sctp_model.specs.world.Events.{Event, Outcome}
use Rattle.sctp_model.specs.world.Steps.{Brings, FromBag, FromStranger, NoPacket, Step, OpensBoth, OpenRefused, TimeGoesOn, MomentComes, TimePasses, Draws, Connects, ConnectRefused, BuildsOne, BuildsNone, PacketComes, IsAbsent, Sends, AbandonsOne, TakesOne, ResetsOne, TellsReset, ShutsDown, AbortsIt, PacketCut, NoMemory, Run, Rest, Then}
use Rattle.sctp_safety.proofs.machine.OneEnd.{IsAt, at_end, at_log, at_packet, at_came, at_verdict, at_abort}
use Rattle.sctp_safety.proofs.runs.Courses.{runs_go_on}
use Rattle.sctp_outcomes.specs.Clocks.{is_of_both, OneClockStaysOne, each_of, answers_of, by_each, answers_by_each, BothAreEach}

-- ---- both show the same

by_one : (w v : World) (s : Side) (t : EndView) (given : Option Packet) → IsAt w v s t given → w.clock_a ≡ w.clock_b → v.clock_a ≡ v.clock_b
by_one w v s t given at same = at.clock_a ∙ same ∙ sym at.clock_b

one_step : (w : World) (e : Event) (o : Option Outcome) (v : World) → is_of_both e ≡ true → w.clock_a ≡ w.clock_b → Step w e o v → v.clock_a ≡ v.clock_b
one_step w e o v both same (OpensBoth x y like may dx dy) = same
one_step w e o v both same (OpenRefused x y closed) = same
one_step w e o v both same (TimeGoesOn s m small) = absurd (cc)
one_step w e o v both same (MomentComes s) = absurd (cc)
one_step w e o v both same (TimePasses m small) = ap (λ (k : ℕ). max k m) same
one_step w e o v both same (Draws d dd) = same
one_step w e o v both same (Connects d dd answer) = same
one_step w e o v both same (ConnectRefused d answer) = same
one_step w e o v both same (BuildsOne x c cs t b) = by_one w v x t _ (at_packet w x t _) same
one_step w e o v both same (BuildsNone x t b) = by_one w v x t _ (at_end w x t) same
one_step w e o v both same (PacketComes _ x p t d brings received) = by_one w v x t _ (at_verdict w x t d) same
one_step w e o v both same (PacketCut _ x p t brings cut) = by_one w v x t _ (at_came w x t) same
one_step w e o v both same (IsAbsent x n none) = same
one_step w e o v both same (Sends x c) = by_one w v x _ _ (at_log w x _ _) same
one_step w e o v both same (AbandonsOne x k) = by_one w v x _ _ (at_log w x _ _) same
one_step w e o v both same (TakesOne x n h t takes) = by_one w v x t _ (at_end w x t) same
one_step w e o v both same (ResetsOne x n) = by_one w v x _ _ (at_end w x _) same
one_step w e o v both same (TellsReset x) = by_one w v x _ _ (at_end w x _) same
one_step w e o v both same (ShutsDown x) = by_one w v x _ _ (at_end w x _) same
one_step w e o v both same (AbortsIt x r) = by_one w v x _ _ (at_abort w x _ _) same
one_step w e o v both same (NoMemory _ calm) = same

one_run : (w : World) (es : List Event) (os : List (Option Outcome)) (v : World) → ((e : Event) → Has es e → is_of_both e ≡ true) → w.clock_a ≡ w.clock_b → Run w es os v → v.clock_a ≡ v.clock_b
one_run w es os v both same (Rest _) = same
one_run w es os v both same (Then _ mid _ e rest o others step run) = one_run mid rest others v (λ x has. both x (inr has)) (one_step w e o mid (both e (inl refl)) same step) run

pub one_clock_stays_one : OneClockStaysOne
one_clock_stays_one s events answers w run both = one_run (start s) events answers w both refl run

-- ---- a time of both

single : (w : World) (e : Event) (o : Option Outcome) (v : World) → Step w e o v → Run w (e ∷ []) (o ∷ []) v
single w e o v step = Then w v v e [] o [] step (Rest v)

brought : (w v : World) (e : Event) (x : Side) (p : Option Packet) (o : Outcome) → Brings w e x p → Step w e (Some o) v → Run w (each_of (Some o) e) (answers_of (Some o) e) v
brought w v e x p o (FromBag s n q found) step = single w e (Some o) v step
brought w v e x p o (FromStranger s q placed) step = single w e (Some o) v step
brought w v e x p o (NoPacket s) step = single w e (Some o) v step

each_step : (w : World) (e : Event) (o : Option Outcome) (v : World) → Step w e o v → Run w (each_of o e) (answers_of o e) v
each_step w e o v (OpensBoth x y like may dx dy) = single w e o v (OpensBoth x y like may dx dy)
each_step w e o v (OpenRefused x y closed) = single w e o v (OpenRefused x y closed)
each_step w e o v (TimeGoesOn s m small) = single w e o v (TimeGoesOn s m small)
each_step w e o v (MomentComes s) = single w e o v (MomentComes s)
each_step w e o v (TimePasses m small) =
    Then w _ v _ _ _ _ (TimeGoesOn A m small) (Then _ _ v _ _ _ _ (TimeGoesOn B m small) (Then _ _ v _ _ _ _ (MomentComes A) (Then _ _ v _ _ _ _ (MomentComes B) (Rest v))))
each_step w e o v (Draws d dd) = single w e o v (Draws d dd)
each_step w e o v (Connects d dd answer) = single w e o v (Connects d dd answer)
each_step w e o v (ConnectRefused d answer) = single w e o v (ConnectRefused d answer)
each_step w e o v (BuildsOne x c cs t b) = single w e o v (BuildsOne x c cs t b)
each_step w e o v (BuildsNone x t b) = single w e o v (BuildsNone x t b)
each_step w e o v (PacketComes _ x p t d brings received) = brought w v e x p _ brings (PacketComes e x p t d brings received)
each_step w e o v (PacketCut _ x p t brings cut) = single w e o v (PacketCut e x p t brings cut)
each_step w e o v (IsAbsent x n none) = single w e o v (IsAbsent x n none)
each_step w e o v (Sends x c) = single w e o v (Sends x c)
each_step w e o v (AbandonsOne x k) = single w e o v (AbandonsOne x k)
each_step w e o v (TakesOne x n h t takes) = single w e o v (TakesOne x n h t takes)
each_step w e o v (ResetsOne x n) = single w e o v (ResetsOne x n)
each_step w e o v (TellsReset x) = single w e o v (TellsReset x)
each_step w e o v (ShutsDown x) = single w e o v (ShutsDown x)
each_step w e o v (AbortsIt x r) = single w e o v (AbortsIt x r)
each_step w e o v (NoMemory _ calm) = single w e o v (NoMemory e calm)

pub both_are_each : BothAreEach
both_are_each w v es os (Rest _) = Rest w
both_are_each w v es os (Then _ mid _ e rest o others step run) =
    runs_go_on w mid v (each_of o e) (by_each rest others) (answers_of o e) (answers_by_each rest others) (each_step w e o mid step) (both_are_each mid v rest others run)
