-- Each step of the world takes each endpoint along the diagram, so each run does.
use Rattle.std.proofs.Common.{◌≡◌, max, true, false, List, [], ◌∷◌, Option, inl, inr, refl, sym, subst, ◌∙◌}
use Rattle.sctp_model.specs.wire.Packet.{Packet}
use Rattle.sctp_model.specs.end.EndView.{Ended, has_association, Phase, Idle, Listening, Calling, Echoing, Open, Over, EndView}
use Rattle.sctp_model.specs.end.Strays.{Verdict, Taken, Dropped, Answer}
use Rattle.sctp_model.specs.end.Moments.{ticked}
use Rattle.sctp_model.specs.end.UserCalls.{reset_call, reset_leaves, reset_there, told_leaves, Called, connect_answer, called, send_answer, send_leaves, abandoned_at, shut, AbortAnswer, Aborts, NoPeer, TooLong, abort_answer, abort_leaves}
use Rattle.sctp_model.specs.end.Arriving.{DroppedUnread, ReadAs, CutFirst, CutLater}
use Rattle.sctp_model.specs.world.World.{Side, A, B, other, Log, World, end_of, with_end, with_packet, with_log, end_now, came, start, clock_of}
use Rattle.sctp_model.specs.world.Events.{with_verdict, with_abort, Event, Outcome}
use Rattle.sctp_model.specs.world.Steps.{Step, OpensBoth, OpenRefused, TimePasses, Draws, Connects, ConnectRefused, BuildsOne, BuildsNone, PacketComes, IsAbsent, Sends, AbandonsOne, TakesOne, ResetsOne, TellsReset, ShutsDown, AbortsIt, NoMemory, Run, Rest, Then, PacketCut, TimeGoesOn, MomentComes}
use Rattle.sctp_safety.specs.States.{ClosedForGood, IsTurn, ByCall, ByInitAck, ByCookieAck, ByCookie, ByPair, ByStage, ByEnd, IsPath, Here, On, has_begun, IsLaterEnd, EndsFollowTheDiagram}
use Rattle.sctp_safety.proofs.machine.Turns.{IsPlain, builds_plain}
use Rattle.sctp_safety.proofs.machine.TurnsOfTime.{plain_ticked, plain_sent, plain_abandoned, plain_taken, plain_reset, plain_told, plain_shut, plain_aborted}
use Rattle.sctp_safety.proofs.machine.Diagram.{later_same, later_on, plain_later, plain_unbegun, later_now, later_ticked, later_called, later_opened, arrives_later}

-- while `open` is allowed nothing has begun
abbrev pub IsFresh : World → Type 0
IsFresh w = w.openable ≡ true → (w.a.phase ≡ Idle) × (w.b.phase ≡ Listening)

-- what a step does to both endpoints
pub record IsOnward (w v : World) : Type 0 where
  pub later : (x : Side) → IsLaterEnd (end_of w x) (end_of v x)
  pub fresh : IsFresh v

-- the same endpoints
record IsKept (w v : World) : Type 0 where
  a : v.a ≡ w.a
  b : v.b ≡ w.b
  openable : v.openable ≡ w.openable

kept_packet : (w : World) (s : Side) (p : Packet) → IsKept w (with_packet w s p)
kept_packet w A p = record { a = refl; b = refl; openable = refl }
kept_packet w B p = record { a = refl; b = refl; openable = refl }

kept_log : (w : World) (s : Side) (l : Log) → IsKept w (with_log w s l)
kept_log w A l = record { a = refl; b = refl; openable = refl }
kept_log w B l = record { a = refl; b = refl; openable = refl }

kept_verdict : (w : World) (s : Side) (v : Verdict) → IsKept w (with_verdict w s v)
kept_verdict w s Taken = record { a = refl; b = refl; openable = refl }
kept_verdict w s (Dropped n) = record { a = refl; b = refl; openable = refl }
kept_verdict w s (Answer p) = kept_packet w s p

kept_abort : (w : World) (s : Side) (v : AbortAnswer) → IsKept w (with_abort w s v)
kept_abort w s (Aborts p) = kept_packet w s p
kept_abort w s NoPeer = record { a = refl; b = refl; openable = refl }
kept_abort w s TooLong = record { a = refl; b = refl; openable = refl }

onward_kept : (w v u : World) → IsOnward w v → IsKept v u → IsOnward w u
onward_kept w v u o k = record { later = later; fresh = fresh }
  where
    later : (x : Side) → IsLaterEnd (end_of w x) (end_of u x)
    later A = subst (λ (e : EndView). IsLaterEnd w.a e) (sym k.a) (o.later A)
    later B = subst (λ (e : EndView). IsLaterEnd w.b e) (sym k.b) (o.later B)

    fresh : IsFresh u
    fresh q =
        let f = o.fresh (sym k.openable ∙ q) in
        (subst (λ (e : EndView). e.phase ≡ Idle) (sym k.a) f.0, subst (λ (e : EndView). e.phase ≡ Listening) (sym k.b) f.1)

onward_same : (w : World) → IsFresh w → IsOnward w w
onward_same w f = record { later = λ x. later_same (end_of w x); fresh = f }

-- ---- one endpoint acts

onward_end : (w : World) (s : Side) (t : EndView) → IsFresh w → IsLaterEnd (end_of w s) t →
    (has_begun (end_of w s).phase ≡ false → t.phase ≡ (end_of w s).phase) → IsOnward w (with_end w s t)
onward_end w A t f l still = record { later = later; fresh = fresh }
  where
    later : (x : Side) → IsLaterEnd (end_of w x) (end_of (with_end w A t) x)
    later A = l
    later B = later_same w.b

    fresh : IsFresh (with_end w A t)
    fresh q = let p = f q in (still (subst (λ (h : Phase). has_begun h ≡ false) (sym p.0) refl) ∙ p.0, p.1)
onward_end w B t f l still = record { later = later; fresh = fresh }
  where
    later : (x : Side) → IsLaterEnd (end_of w x) (end_of (with_end w B t) x)
    later A = later_same w.a
    later B = l

    fresh : IsFresh (with_end w B t)
    fresh q = let p = f q in (p.0, still (subst (λ (h : Phase). has_begun h ≡ false) (sym p.1) refl) ∙ p.1)

onward_plain : (w : World) (s : Side) (t : EndView) → IsFresh w → IsPlain (end_of w s) t → IsOnward w (with_end w s t)
onward_plain w s t f p = onward_end w s t f (plain_later (end_of w s) t p) (plain_unbegun (end_of w s).phase t.phase p.turn)

onward_now : (w : World) (s : Side) (t : EndView) → IsFresh w → IsPlain (end_now w s) t → IsOnward w (with_end w s t)
onward_now w s t f p =
    onward_end w s t f (later_on (end_of w s) (end_now w s) t (later_now (end_of w s) (clock_of w s)) (plain_later (end_now w s) t p))
    (plain_unbegun (end_of w s).phase t.phase p.turn)

onward_came : (w : World) (s : Side) (t : EndView) → IsLaterEnd (end_of w s) t → IsOnward w (came w s t)
onward_came w A t l = record { later = later; fresh = λ q. absurd (cc) }
  where
    later : (x : Side) → IsLaterEnd (end_of w x) (end_of (came w A t) x)
    later A = l
    later B = later_same w.b
onward_came w B t l = record { later = later; fresh = λ q. absurd (cc) }
  where
    later : (x : Side) → IsLaterEnd (end_of w x) (end_of (came w B t) x)
    later A = later_same w.a
    later B = l

onward_arrives : (w : World) (s : Side) (t : EndView) → IsLaterEnd (end_now w s) t → IsOnward w (came w s t)
onward_arrives w s t l = onward_came w s t (later_on (end_of w s) (end_now w s) t (later_now (end_of w s) (clock_of w s)) l)

-- ---- both endpoints act

pub connect_idle : (h : Phase) → connect_answer h ≡ Called → h ≡ Idle
connect_idle Idle e = refl
connect_idle Listening e = absurd (cc)
connect_idle (Calling d) e = absurd (cc)
connect_idle (Echoing t xs) e = absurd (cc)
connect_idle (Open t g) e = absurd (cc)
connect_idle (Over why) e = absurd (cc)

pub step_onward : (w : World) (e : Event) (o : Option Outcome) (v : World) → IsFresh w → Step w e o v → IsOnward w v
step_onward w e o v f (OpensBoth x y like may dx dy) = record { later = later; fresh = λ q. absurd (cc) }
  where
    later : (z : Side) → IsLaterEnd (end_of w z) (end_of v z)
    later A = later_opened w.a x y w.a.phase refl (inl ((f may).0))
    later B = later_opened w.b y x w.b.phase refl (inr ((f may).1))
step_onward w e o v f (OpenRefused x y closed) = onward_same w f
step_onward w e o v f (TimeGoesOn A m small) = onward_kept w w v (onward_same w f) (record { a = refl; b = refl; openable = refl })
step_onward w e o v f (TimeGoesOn B m small) = onward_kept w w v (onward_same w f) (record { a = refl; b = refl; openable = refl })
step_onward w e o v f (MomentComes s) =
    onward_kept w (with_end w s (ticked (end_of w s) (clock_of w s))) v (onward_now w s (ticked (end_of w s) (clock_of w s)) f (plain_ticked (end_of w s) (clock_of w s)))
    (kept_log (with_end w s (ticked (end_of w s) (clock_of w s))) s _)
step_onward w e o v f (TimePasses m small) = record { later = later; fresh = fresh }
  where
    later : (z : Side) → IsLaterEnd (end_of w z) (end_of v z)
    later A = later_ticked w.a (max w.clock_a m)
    later B = later_ticked w.b (max w.clock_b m)

    fresh : IsFresh v
    fresh q =
        let p = f q in
        let a = plain_unbegun w.a.phase (ticked w.a (max w.clock_a m)).phase (plain_ticked w.a (max w.clock_a m)).turn (subst (λ (h : Phase). has_begun h ≡ false) (sym p.0) refl) in
        let b = plain_unbegun w.b.phase (ticked w.b (max w.clock_b m)).phase (plain_ticked w.b (max w.clock_b m)).turn (subst (λ (h : Phase). has_begun h ≡ false) (sym p.1) refl) in
        (a ∙ p.0, b ∙ p.1)
step_onward w e o v f (Draws d dd) = onward_kept w w v (onward_same w f) (record { a = refl; b = refl; openable = refl })
step_onward w e o v f (Connects d dd answer) = record { later = later; fresh = λ q. absurd (cc) }
  where
    later : (z : Side) → IsLaterEnd (end_of w z) (end_of v z)
    later A =
        later_on w.a (end_now w A) (called (end_now w A) d) (later_now w.a w.clock_a) (later_called (end_now w A) d (connect_idle w.a.phase answer))
    later B = later_same w.b
step_onward w e o v f (ConnectRefused d answer) = onward_same w f
step_onward w e o v f (BuildsOne s x xs t b) =
    onward_kept w (with_end w s t) v (onward_now w s t f (builds_plain (end_now w s) (x ∷ xs) t b)) (kept_packet (with_end w s t) s _)
step_onward w e o v f (BuildsNone s t b) = onward_now w s t f (builds_plain (end_now w s) [] t b)
step_onward w e o v f (PacketComes _ s _ t d brings (ReadAs p _ _ arrives)) =
    onward_kept w (came w s t) v (onward_arrives w s t (arrives_later (end_now w s) w.draw p t d arrives)) (kept_verdict (came w s t) s d)
step_onward w e o v f (IsAbsent s n none) = onward_same w f
step_onward w e o v f (PacketComes _ s _ _ _ brings DroppedUnread) = onward_came w s (end_now w s) (later_now (end_of w s) (clock_of w s))
step_onward w e o v f (Sends s c) =
    onward_kept w (with_end w s (send_leaves (send_answer (end_of w s) c) (end_of w s) c)) v
    (onward_plain w s (send_leaves (send_answer (end_of w s) c) (end_of w s) c) f (plain_sent (end_of w s) c (send_answer (end_of w s) c)))
    (kept_log (with_end w s (send_leaves (send_answer (end_of w s) c) (end_of w s) c)) s _)
step_onward w e o v f (AbandonsOne s k) =
    onward_kept w (with_end w s (abandoned_at (end_of w s) k)) v
    (onward_plain w s (abandoned_at (end_of w s) k) f (plain_abandoned (end_of w s) k)) (kept_log (with_end w s (abandoned_at (end_of w s) k)) s _)
step_onward w e o v f (TakesOne s n h t takes) = onward_plain w s t f (plain_taken (end_of w s) n h t takes)
step_onward w e o v f (ResetsOne s n) = onward_plain w s (reset_leaves (reset_call (end_of w s) n) (end_of w s) n) f (plain_reset (end_of w s) (reset_call (end_of w s) n) n)
step_onward w e o v f (TellsReset s) = onward_plain w s (told_leaves (reset_there (end_of w s)) (end_of w s)) f (plain_told (end_of w s) (reset_there (end_of w s)))
step_onward w e o v f (ShutsDown s) = onward_plain w s (shut (end_of w s)) f (plain_shut (end_of w s))
step_onward w e o v f (AbortsIt s r) =
    onward_kept w (with_end w s (abort_leaves (abort_answer (end_of w s) r) (end_of w s))) v
    (onward_plain w s (abort_leaves (abort_answer (end_of w s) r) (end_of w s)) f (plain_aborted (end_of w s) r))
    (kept_abort (with_end w s (abort_leaves (abort_answer (end_of w s) r) (end_of w s))) s (abort_answer (end_of w s) r))
step_onward w e o v f (PacketCut _ s _ _ brings (CutFirst _)) = onward_came w s (end_now w s) (later_now (end_of w s) (clock_of w s))
step_onward w e o v f (PacketCut _ s _ t brings (CutLater p y front back x _ d part arrives untold)) = onward_arrives w s t (arrives_later (end_now w s) w.draw _ t d arrives)
step_onward w e o v f (NoMemory _ other_event) = onward_same w f

-- ---- runs

onward_on : (w v u : World) → IsOnward w v → IsOnward v u → IsOnward w u
onward_on w v u a b = record { later = λ x. later_on (end_of w x) (end_of v x) (end_of u x) (a.later x) (b.later x); fresh = b.fresh }

run_onward : (w : World) (es : List Event) (os : List (Option Outcome)) (v : World) → IsFresh w → Run w es os v → IsOnward w v
run_onward w es os v f (Rest _) = onward_same w f
run_onward w es os v f (Then _ mid _ e rest o others step run) =
    let first = step_onward w e o mid f step in
    onward_on w mid v first (run_onward mid rest others v first.fresh run)

pub ends_follow_the_diagram : EndsFollowTheDiagram
ends_follow_the_diagram s events more answers others w v before after x =
    (run_onward w more others v (run_onward (start s) events answers w (λ q. (refl, refl)) before).fresh after).later x

-- ---- a closed endpoint

no_turn : (h k : Phase) (why : Ended) → h ≡ Over why → IsTurn h k → ⊥
no_turn h k why is (ByCall d) = absurd (cc)
no_turn h k why is (ByInitAck d peer cookie) = absurd (cc)
no_turn h k why is (ByCookieAck t cookie) = absurd (cc)
no_turn h k why is (ByCookie t) = absurd (cc)
no_turn h k why is (ByPair t) = absurd (cc)
no_turn h k why is (ByStage t g i turn) = absurd (cc)
no_turn h k why is (ByEnd _ other has) = let q : false ≡ true = subst (λ (l : Phase). has_association l ≡ true) is has in absurd (cc)

pub from_over : (h k : Phase) (why : Ended) → h ≡ Over why → IsPath h k → k ≡ Over why
from_over h k why is (Here _) = is
from_over h k why is (On _ m _ t rest) = absurd (no_turn h m why is t)

pub closed_for_good : ClosedForGood
closed_for_good s events more answers others w v before after x why is =
    from_over (end_of w x).phase (end_of v x).phase why is (ends_follow_the_diagram s events more answers others w v before after x).path
