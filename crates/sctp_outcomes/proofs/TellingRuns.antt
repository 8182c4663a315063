-- Over every run an endpoint's tickets are reported after those reported before, and none twice: each step notes what its own law says, and senders are
-- reached.
use Rattle.std.proofs.Common.{◌≡◌, ℕ, ◌<◌, max, true, List, [], ◌∷◌, ◌++◌, Option, Some, None, inl, inr, refl, sym, subst, ap, ◌∙◌}
use Rattle.std.proofs.lemmas.List.{append-nil, append_assoc}
use Rattle.sctp_model.specs.numbers.Lists.{Has}
use Rattle.sctp_model.specs.wire.Packet.{Packet}
use Rattle.sctp_model.specs.sender.SenderView.{SenderView}
use Rattle.sctp_model.specs.sender.Filling.{begun_tickets}
use Rattle.sctp_model.specs.receiver.ReceiverView.{Handed}
use Rattle.sctp_model.specs.end.EndView.{Configuration, Draw, Phase, Role, EndView, fresh_end, format_of}
use Rattle.sctp_model.specs.end.Opening.{opened}
use Rattle.sctp_model.specs.end.UserCalls.{SendAnswer, Ticket, Refused, NotOpen, send_answer, abort_answer, abort_leaves, shut, reset_call, reset_leaves, reset_there, told_leaves}
use Rattle.sctp_model.specs.world.World.{Side, A, B, World, end_of, end_now, start, Setup, clock_of}
use Rattle.sctp_model.specs.world.Events.{Event, Outcome}
use Rattle.sctp_model.specs.world.Steps.{Step, OpensBoth, OpenRefused, TimePasses, Draws, Connects, ConnectRefused, BuildsOne, BuildsNone, PacketComes, IsAbsent, Sends, AbandonsOne, TakesOne, ShutsDown, AbortsIt, NoMemory, Run, Rest, Then, PacketCut, ResetsOne, TellsReset, TimeGoesOn, MomentComes}
use Rattle.sctp_safety.proofs.machine.OneEnd.{IsAt, at_end, at_log, at_packet, at_came, answer_of, at_verdict, abort_of, at_abort, both_ends}
use Rattle.sctp_safety.proofs.machine.Turns.{builds_plain}
use Rattle.sctp_safety.proofs.machine.DiagramRuns.{IsFresh, step_onward, ends_follow_the_diagram}
use Rattle.sctp_outcomes.specs.Kept.{is_before, numbered, IsSound, KeepsLogs, AddsNumbers, SendNotes, TakeNotes}
use Rattle.sctp_outcomes.specs.ToldOnce.{NoTicketTwice, AreToldAnew, BuildsTellAnew, RunsTellAnew}
use Rattle.sctp_outcomes.proofs.ReachedEnds.{IsReachedAt, reached_builds}
use Rattle.sctp_outcomes.proofs.Reaching.{senders_reached, reached_run}
use Rattle.sctp_outcomes.proofs.ToldOnce.{tickets_once}
use Rattle.sctp_outcomes.proofs.logs.Built.{builds_add_numbers}
use Rattle.sctp_outcomes.proofs.logs.Called.{connect_keeps_logs, shutdown_keeps_logs, abort_keeps_logs, abandon_keeps_logs, send_gives_tickets, take_takes_one, reset_keeps_logs, told_keeps_logs}
use Rattle.sctp_outcomes.proofs.logs.Heard.{packets_keep_logs, cut_packets_keep_logs}
use Rattle.sctp_outcomes.proofs.logs.Passed.{moments_keep_logs}

-- ---- one endpoint

-- it is sound, and what was reported of it goes on
record GoesOn (e t : EndView) : Type 0 where
  sound : IsSound t
  tickets : List ℕ
  behind : numbered t ≡ numbered e ++ tickets

by_none : (e t : EndView) → IsSound t → numbered t ≡ numbered e → GoesOn e t
by_none e t sound same = record { sound = sound; tickets = []; behind = same ∙ sym (append-nil (numbered e)) }

by_itself : (e : EndView) → IsSound e → GoesOn e e
by_itself e sound = by_none e e sound refl

by_logs : (e t : EndView) → KeepsLogs e t → GoesOn e t
by_logs e t k = by_none e t k.sound k.numbers

by_numbers : (e t : EndView) → AddsNumbers e t → GoesOn e t
by_numbers e t a = record { sound = a.sound; tickets = _; behind = a.numbers }

goes_on : (e t u : EndView) → GoesOn e t → GoesOn t u → GoesOn e u
goes_on e t u a b = record {
  sound = b.sound;
  tickets = a.tickets ++ b.tickets;
  behind = b.behind ∙ ap (λ (ts : List ℕ). ts ++ b.tickets) a.behind ∙ append_assoc (numbered e) a.tickets b.tickets;
}

by_send : (a : SendAnswer) (e t : EndView) → SendNotes a e t → GoesOn e t
by_send (Ticket n) e t a = by_none e t a.sound a.numbers
by_send (Refused r) e t k = by_logs e t k
by_send NotOpen e t k = by_logs e t k

by_take : (h : Option Handed) (stream : ℕ) (e t : EndView) → TakeNotes h stream e t → GoesOn e t
by_take (Some h) stream e t a = by_none e t a.sound a.numbers
by_take None stream e t k = by_logs e t k

-- ---- ends as they are made

new_sound : (c : Configuration) (r : Role) (h : Phase) → IsSound (fresh_end c r h)
new_sound c r h = record { bare = λ on. record { sender = refl; receiver = refl }; buffer = refl; named = λ e none. absurd none }

opened_sound : (c : Configuration) (own peer : Draw) → IsSound (opened c own peer)
opened_sound c own peer = record { bare = λ on. absurd (cc); buffer = refl; named = λ e none. absurd none }

-- an endpoint that is opened had reported nothing
by_opening : (e : EndView) (own peer : Draw) → is_before e.phase ≡ true → IsSound e → GoesOn e (opened e.configuration own peer)
by_opening e own peer before s =
    by_none e (opened e.configuration own peer) (opened_sound e.configuration own peer)
    (sym (ap (λ (v : SenderView). begun_tickets v.plan v.plan.entries) (s.bare before).sender))

-- ---- both endpoints

abbrev AreSound : World → Type 0
AreSound w = (x : Side) → IsSound (end_of w x)

abbrev GoOn : World → World → Type 0
GoOn w v = (x : Side) → GoesOn (end_of w x) (end_of v x)

at_one : (w v : World) (x : Side) (t : EndView) (given : Option Packet) → IsAt w v x t given → AreSound w → GoesOn (end_of w x) t → GoOn w v
at_one w v x t given at sound new = both_ends (λ (y : Side) (e : EndView). GoesOn (end_of w y) e) w v x t given at (λ y. by_itself (end_of w y) (sound y)) new

at_both : (w v : World) → GoesOn w.a v.a → GoesOn w.b v.b → GoOn w v
at_both w v a b A = a
at_both w v a b B = b

step_goes_on : (w : World) (e : Event) (o : Option Outcome) (v : World) → IsFresh w → AreSound w → Step w e o v → GoOn w v
step_goes_on w e o v f s (OpensBoth x y like may dx dy) =
    at_both w v (by_opening w.a x y (ap is_before (f may).0) (s A)) (by_opening w.b y x (ap is_before (f may).1) (s B))
step_goes_on w e o v f s (OpenRefused x y closed) = at_both w w (by_itself w.a (s A)) (by_itself w.b (s B))
step_goes_on w e o v f s (TimeGoesOn A m small) = at_both w v (by_itself w.a (s A)) (by_itself w.b (s B))
step_goes_on w e o v f s (TimeGoesOn B m small) = at_both w v (by_itself w.a (s A)) (by_itself w.b (s B))
step_goes_on w e o v f s (MomentComes x) = at_one w v x _ None (at_log w x _ _) s (by_logs (end_of w x) _ (moments_keep_logs (end_of w x) (clock_of w x) (s x)))
step_goes_on w e o v f s (TimePasses m small) =
    at_both w v (by_logs w.a v.a (moments_keep_logs w.a (max w.clock_a m) (s A))) (by_logs w.b v.b (moments_keep_logs w.b (max w.clock_b m) (s B)))
step_goes_on w e o v f s (Draws d dd) = at_both w v (by_itself w.a (s A)) (by_itself w.b (s B))
step_goes_on w e o v f s (Connects d dd answer) = at_both w v (by_logs w.a v.a (connect_keeps_logs w.a w.clock_a d (s A) answer)) (by_itself w.b (s B))
step_goes_on w e o v f s (ConnectRefused d answer) = at_both w w (by_itself w.a (s A)) (by_itself w.b (s B))
step_goes_on w e o v f s (BuildsOne x y ys t b) =
    at_one w v x t _ (at_packet w x t _) s (by_numbers (end_of w x) t (builds_add_numbers (end_of w x) (clock_of w x) (y ∷ ys) t (s x) b))
step_goes_on w e o v f s (BuildsNone x t b) = at_one w v x t None (at_end w x t) s (by_numbers (end_of w x) t (builds_add_numbers (end_of w x) (clock_of w x) [] t (s x) b))
step_goes_on w e o v f s (PacketComes _ x p t d brings received) =
    at_one w v x t (answer_of d) (at_verdict w x t d) s (by_logs (end_of w x) t (packets_keep_logs (end_of w x) (clock_of w x) w.draw p t d (s x) received))
step_goes_on w e o v f s (PacketCut _ x p t brings cut) =
    at_one w v x t None (at_came w x t) s (by_logs (end_of w x) t (cut_packets_keep_logs (end_of w x) (clock_of w x) w.draw p t (s x) cut))
step_goes_on w e o v f s (IsAbsent x n none) = at_both w w (by_itself w.a (s A)) (by_itself w.b (s B))
step_goes_on w e o v f s (Sends x c) =
    at_one w v x _ None (at_log w x _ _) s (by_send (send_answer (end_of w x) c) (end_of w x) _ (send_gives_tickets (end_of w x) c (s x)))
step_goes_on w e o v f s (AbandonsOne x n) = at_one w v x _ None (at_log w x _ _) s (by_logs (end_of w x) _ (abandon_keeps_logs (end_of w x) n (s x)))
step_goes_on w e o v f s (TakesOne x n h t takes) = at_one w v x t None (at_end w x t) s (by_take h n (end_of w x) t (take_takes_one (end_of w x) n h t (s x) takes))
step_goes_on w e o v f s (ResetsOne x n) = at_one w v x (reset_leaves (reset_call (end_of w x) n) (end_of w x) n) None (at_end w x _) s (by_logs (end_of w x) _ (reset_keeps_logs (end_of w x) n (s x)))
step_goes_on w e o v f s (TellsReset x) = at_one w v x (told_leaves (reset_there (end_of w x)) (end_of w x)) None (at_end w x _) s (by_logs (end_of w x) _ (told_keeps_logs (end_of w x) (s x)))
step_goes_on w e o v f s (ShutsDown x) = at_one w v x (shut (end_of w x)) None (at_end w x _) s (by_logs (end_of w x) _ (shutdown_keeps_logs (end_of w x) (s x)))
step_goes_on w e o v f s (AbortsIt x why) =
    let a = abort_answer (end_of w x) why in
    at_one w v x (abort_leaves a (end_of w x)) (abort_of a) (at_abort w x _ a) s (by_logs (end_of w x) _ (abort_keeps_logs (end_of w x) a (s x)))
step_goes_on w e o v f s (NoMemory _ other_event) = at_both w w (by_itself w.a (s A)) (by_itself w.b (s B))

-- ---- runs

-- both endpoints, and the world that they are in
record IsOn (w v : World) : Type 0 where
  fresh : IsFresh v
  on : GoOn w v

run_goes_on : (w : World) (es : List Event) (os : List (Option Outcome)) (v : World) → IsFresh w → AreSound w → Run w es os v → IsOn w v
run_goes_on w es os v f s (Rest _) = record { fresh = f; on = λ x. by_itself (end_of w x) (s x) }
run_goes_on w es os v f s (Then _ mid _ e rest o others step run) =
    let one = step_goes_on w e o mid f s step in
    let more = run_goes_on mid rest others v (step_onward w e o mid f step).fresh (λ x. (one x).sound) run in
    record { fresh = more.fresh; on = λ x. goes_on (end_of w x) (end_of mid x) (end_of v x) (one x) (more.on x) }

start_sound : (s : Setup) → AreSound (start s)
start_sound s A = new_sound _ _ _
start_sound s B = new_sound _ _ _

from_start : (s : Setup) (es : List Event) (os : List (Option Outcome)) (w : World) → Run (start s) es os w → IsOn (start s) w
from_start s es os w run = run_goes_on (start s) es os w (λ q. (refl, refl)) (start_sound s) run

-- ---- nothing is reported twice

apart_across : (xs ys : List ℕ) → NoTicketTwice (xs ++ ys) → (k : ℕ) → Has ys k → Has xs k → ⊥
apart_across [] ys h k there here = here
apart_across (x ∷ xs) ys h k there (inl same) = h.0 k (behind xs) same
  where
    behind : (zs : List ℕ) → Has (zs ++ ys) k
    behind [] = there
    behind (z ∷ zs) = inr (behind zs)
apart_across (x ∷ xs) ys h k there (inr here) = apart_across xs ys h.1 k there here

told_anew : (e t : EndView) (tickets : List ℕ) → numbered t ≡ numbered e ++ tickets → NoTicketTwice (numbered t) → AreToldAnew e t tickets
told_anew e t tickets behind once = record { behind = behind; anew = apart_across (numbered e) tickets (subst NoTicketTwice behind once); once = once }

once_reached : (e : EndView) → IsReachedAt e → 0 < e.configuration.fragment → NoTicketTwice (numbered e)
once_reached e reached some = tickets_once (format_of e) e.sender (reached some)

-- an endpoint that is set up as another, whose fragments may hold a byte
holds : (e t : EndView) → t.configuration ≡ e.configuration → 0 < e.configuration.fragment → 0 < t.configuration.fragment
holds e t same some = subst (λ (c : Configuration). 0 < c.fragment) (sym same) some

pub builds_tell_anew : BuildsTellAnew
builds_tell_anew s events answers w run x some xs t builds =
    let sound = ((from_start s events answers w run).on x).sound in
    let adds = builds_add_numbers (end_of w x) (clock_of w x) xs t sound builds in
    let reached : IsReachedAt t = reached_builds (end_now w x) xs t (senders_reached s events answers w run x) builds in
    told_anew (end_of w x) t _ adds.numbers (once_reached t reached (holds (end_of w x) t (builds_plain (end_now w x) xs t builds).configuration some))

pub runs_tell_anew : RunsTellAnew
runs_tell_anew s events more answers others w v before after x some =
    let begun = from_start s events answers w before in
    let on = (run_goes_on w more others v begun.fresh (λ y. (begun.on y).sound) after).on x in
    let reached = reached_run w more others v (senders_reached s events answers w before) after x in
    let later = ends_follow_the_diagram s events more answers others w v before after x in
    (on.tickets, told_anew (end_of w x) (end_of v x) on.tickets on.behind (once_reached (end_of v x) reached (holds (end_of w x) (end_of v x) later.configuration some)))
