-- In a run without limits no accepted `send` had one.
use Rattle.std.proofs.Common.{◌≡◌, ◌⊎◌, List, [], ◌∷◌, ◌++◌, Option, None, inl, inr, refl, subst}
use Rattle.sctp_model.specs.numbers.Lists.{Has}
use Rattle.sctp_model.specs.wire.Packet.{Packet}
use Rattle.sctp_model.specs.world.Calls.{Call}
use Rattle.sctp_model.specs.end.EndView.{EndView, format_of}
use Rattle.sctp_model.specs.end.Strays.{Verdict, Taken, Dropped, Answer}
use Rattle.sctp_model.specs.end.UserCalls.{SendAnswer, Ticket, Refused, NotOpen, send_answer, AbortAnswer, Aborts, NoPeer, TooLong, abort_answer}
use Rattle.sctp_model.specs.world.World.{Side, A, B, other, Log, World, end_of, log_of, with_end, with_packet, with_log, came, start, Setup}
use Rattle.sctp_model.specs.world.Events.{Event, Send, Outcome, with_verdict, with_abort}
use Rattle.sctp_model.specs.world.Steps.{Step, OpensBoth, OpenRefused, TimePasses, Draws, Connects, ConnectRefused, BuildsOne, BuildsNone, PacketComes, IsAbsent, Sends, AbandonsOne, TakesOne, ResetsOne, TellsReset, ShutsDown, AbortsIt, NoMemory, PacketCut, accepted, PassesThrough, last_of, TimeGoesOn, MomentComes}
use Rattle.sctp_model.specs.world.Premises.{asked_at}
use Rattle.sctp_safety.specs.Unlimited.{NoneIsLimited, NoneHasLimit, UnlimitedRunsAreSafe}
use Rattle.sctp_safety.proofs.lists.Basics.{Has-cases}
use Rattle.sctp_safety.proofs.machine.Fronts.{item_has}
use Rattle.sctp_safety.proofs.runs.Safety.{two_ends_are_safe}
use Rattle.sctp_safety.proofs.runs.Unlimited.{safe_without_limits}

-- of both endpoints
abbrev Unlimited : World → Type 0
Unlimited w = (x : Side) (c : Call) → Has (log_of w x).calls c → c.limit ≡ None

-- ---- a step that leaves the calls

abbrev SameCalls : World → World → Type 0
SameCalls w v = (x : Side) → (log_of v x).calls ≡ (log_of w x).calls

unlimited_still : (w v : World) → SameCalls w v → Unlimited w → Unlimited v
unlimited_still w v same u x c has = u x c (subst (λ (cs : List Call). Has cs c) (same x) has)

both : (w v : World) → v.log_a.calls ≡ w.log_a.calls → v.log_b.calls ≡ w.log_b.calls → SameCalls w v
both w v a b A = a
both w v a b B = b

of_end : (w : World) (s : Side) (t : EndView) → SameCalls w (with_end w s t)
of_end w A t = both w (with_end w A t) refl refl
of_end w B t = both w (with_end w B t) refl refl

of_packet : (w : World) (s : Side) (t : EndView) (p : Packet) → SameCalls w (with_packet (with_end w s t) s p)
of_packet w A t p = both w (with_packet (with_end w A t) A p) refl refl
of_packet w B t p = both w (with_packet (with_end w B t) B p) refl refl

of_came : (w : World) (s : Side) (t : EndView) → SameCalls w (came w s t)
of_came w A t = both w (came w A t) refl refl
of_came w B t = both w (came w B t) refl refl

of_verdict : (w : World) (s : Side) (t : EndView) (k : Verdict) → SameCalls w (with_verdict (came w s t) s k)
of_verdict w s t Taken = of_came w s t
of_verdict w s t (Dropped n) = of_came w s t
of_verdict w A t (Answer p) = both w (with_verdict (came w A t) A (Answer p)) refl refl
of_verdict w B t (Answer p) = both w (with_verdict (came w B t) B (Answer p)) refl refl

of_abort : (w : World) (s : Side) (t : EndView) (a : AbortAnswer) → SameCalls w (with_abort (with_end w s t) s a)
of_abort w s t (Aborts p) = of_packet w s t p
of_abort w s t NoPeer = of_end w s t
of_abort w s t TooLong = of_end w s t

of_log : (w : World) (s : Side) (t : EndView) (l : Log) → l.calls ≡ (log_of w s).calls → SameCalls w (with_log (with_end w s t) s l)
of_log w A t l is = both w (with_log (with_end w A t) A l) is refl
of_log w B t l is = both w (with_log (with_end w B t) B l) refl is

-- ---- an accepted message

one_more : (w : World) (s : Side) (t : EndView) (c : Call) → c.limit ≡ None → Unlimited w → Unlimited (with_log (with_end w s t) s (record (log_of w s) { calls = (log_of w s).calls ++ c ∷ [] }))
one_more w s t c none u x d has = go s x has
  where
    among : (cs : List Call) → ((y : Call) → Has cs y → y.limit ≡ None) → Has (cs ++ c ∷ []) d → d.limit ≡ None
    among cs all here = by (Has-cases cs (c ∷ []) d here)
      where
        by : Has cs d ⊎ Has (c ∷ []) d → d.limit ≡ None
        by (inl old) = all d old
        by (inr (inl same)) = subst (λ (y : Call). y.limit ≡ None) same none
        by (inr (inr empty)) = absurd empty

    go : (s x : Side) → Has (log_of (with_log (with_end w s t) s (record (log_of w s) { calls = (log_of w s).calls ++ c ∷ [] })) x).calls d → d.limit ≡ None
    go A A here = among w.log_a.calls (u A) here
    go B B here = among w.log_b.calls (u B) here
    go A B here = u B d here
    go B A here = u A d here

by_answer : (w : World) (s : Side) (t : EndView) (c : Call) (a : SendAnswer) → c.limit ≡ None → Unlimited w → Unlimited (with_log (with_end w s t) s (accepted w s a c))
by_answer w s t c (Ticket k) none u = one_more w s t c none u
by_answer w s t c (Refused r) none u = unlimited_still w (with_log (with_end w s t) s (log_of w s)) (of_log w s t (log_of w s) refl) u
by_answer w s t c NotOpen none u = unlimited_still w (with_log (with_end w s t) s (log_of w s)) (of_log w s t (log_of w s) refl) u

-- ---- steps and runs

unlimited_step : (w : World) (e : Event) (o : Option Outcome) (v : World) → ((x : Side) (c : Call) → e ≡ Send x c → c.limit ≡ None) → Unlimited w → Step w e o v → Unlimited v
unlimited_step w e o v none u (OpensBoth y z like may dx dy) = unlimited_still w v (both w v refl refl) u
unlimited_step w e o v none u (OpenRefused y z closed) = u
unlimited_step w e o v none u (TimeGoesOn A m small) = unlimited_still w v (both w v refl refl) u
unlimited_step w e o v none u (TimeGoesOn B m small) = unlimited_still w v (both w v refl refl) u
unlimited_step w e o v none u (MomentComes y) = unlimited_still w v (of_log w y _ _ refl) u
unlimited_step w e o v none u (TimePasses m small) = unlimited_still w v (both w v refl refl) u
unlimited_step w e o v none u (Draws d dd) = unlimited_still w v (both w v refl refl) u
unlimited_step w e o v none u (Connects d dd answer) = unlimited_still w v (both w v refl refl) u
unlimited_step w e o v none u (ConnectRefused d answer) = u
unlimited_step w e o v none u (BuildsOne y c cs t b) = unlimited_still w v (of_packet w y t _) u
unlimited_step w e o v none u (BuildsNone y t b) = unlimited_still w v (of_end w y t) u
unlimited_step w e o v none u (PacketComes _ y p t k brings received) = unlimited_still w v (of_verdict w y t k) u
unlimited_step w e o v none u (PacketCut _ y p t brings cut) = unlimited_still w v (of_came w y t) u
unlimited_step w e o v none u (IsAbsent y n absent) = u
unlimited_step w e o v none u (Sends y c) = by_answer w y _ c (send_answer (end_of w y) c) (none y c refl) u
unlimited_step w e o v none u (AbandonsOne y k) = unlimited_still w v (of_log w y _ _ refl) u
unlimited_step w e o v none u (TakesOne y n h t takes) = unlimited_still w v (of_end w y t) u
unlimited_step w e o v none u (ResetsOne y n) = unlimited_still w v (of_end w y _) u
unlimited_step w e o v none u (TellsReset y) = unlimited_still w v (of_end w y _) u
unlimited_step w e o v none u (ShutsDown y) = unlimited_still w v (of_end w y _) u
unlimited_step w e o v none u (AbortsIt y why) = unlimited_still w v (of_abort w y _ (abort_answer (end_of w y) why)) u
unlimited_step w e o v none u (NoMemory _ calm) = u

unlimited_run : (w : World) (es : List Event) (os : List (Option Outcome)) (vs : List World) → NoneHasLimit es → Unlimited w → PassesThrough w es os vs → Unlimited (last_of w vs)
unlimited_run w [] [] [] none u passes = u
unlimited_run w (e ∷ es) (o ∷ os) (v ∷ vs) none u (step, passes) =
    unlimited_run v es os vs (λ x c has. none x c (inr has)) (unlimited_step w e o v (λ x c is. none x c (inl is)) u step) passes
unlimited_run w [] (o ∷ os) vs none u passes = absurd passes
unlimited_run w [] [] (v ∷ vs) none u passes = absurd passes
unlimited_run w (e ∷ es) [] vs none u passes = absurd passes
unlimited_run w (e ∷ es) (o ∷ os) [] none u passes = absurd passes

none_at_start : (s : Setup) → Unlimited (start s)
none_at_start s A c has = absurd has
none_at_start s B c has = absurd has

pub unlimited_runs_are_safe : UnlimitedRunsAreSafe
unlimited_runs_are_safe s events w r none x =
    (safe_without_limits (format_of (end_of w x)) (end_of w x).sender (end_of w (other x)).receiver (asked_at w x) no_limit).0 (two_ends_are_safe s events w r x)
  where
    all : Unlimited w
    all = subst Unlimited r.ends (unlimited_run (start s) events r.answers r.worlds none (none_at_start s) r.run)

    no_limit : NoneIsLimited (asked_at w x)
    no_limit t c is = all x c (item_has (log_of w x).calls t c is)
