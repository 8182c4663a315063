-- Whatever happens at an endpoint, the numbers of its congestion control aren't 0, and if it is open, its data timer runs while something is in flight.
use Rattle.std.proofs.Common.{ℕ, zero, suc, ◌-◌, ◌<◌, ◌≡◌, not, ◌||◌, ◌==◌, Bool, true, false, List, [], ◌∷◌, ◌++◌, Option, None, Some, refl, sym, subst, arith, ◌∙◌}
use Rattle.std.specs.Prelude.{if◌then◌else◌, nat_lt, option_map}
use Rattle.std.proofs.lemmas.Bool.Decides.{nat_tests}
use Rattle.sctp_model.specs.messages.Framing.{header_of}
use Rattle.sctp_model.specs.wire.Packet.{Packet, size_of_packet}
use Rattle.sctp_model.specs.wire.Chunk.{ChunkMeaning, Data, IData, Init, InitAck, Sack, Heartbeat, HeartbeatAck, Abort, Shutdown, ShutdownAck, Error, CookieEcho, CookieAck, ShutdownComplete, ForwardTsn, IForwardTsn, Unknown}
use Rattle.sctp_model.specs.world.Calls.{Call}
use Rattle.sctp_model.specs.sender.SenderView.{SenderView}
use Rattle.sctp_model.specs.sender.Entries.{in_flight}
use Rattle.sctp_model.specs.sender.Queueing.{Refusal, refusal, queued}
use Rattle.sctp_model.specs.sender.Readers.{point, unsettled}
use Rattle.sctp_model.specs.sender.Filling.{Wish}
use Rattle.sctp_model.specs.sender.SackTaken.{sack_taken, shutdown_taken}
use Rattle.sctp_model.specs.sender.Abandoning.{abandon_after, worn, timed_out}
use Rattle.sctp_model.specs.sender.Abandoning.{expired as expired_messages}
use Rattle.sctp_model.specs.end.EndView.{Draw, Tags, Stage, Configuration, Aborted, TimedOut, Established, ShutdownPending, ShutdownSent, ShutdownReceived, ShutdownAckSent, Phase, Idle, Listening, Calling, Echoing, Open, Over, Alarm, InitAlarm, CookieAlarm, DataAlarm, ShutdownAlarm, AckAlarm, Timer, EndView, has_association, ResetAlarm, format_of}
use Rattle.sctp_model.specs.end.EndView.{BeatAlarm, GuardAlarm, format_for}
use Rattle.sctp_model.specs.end.Misses.{last_sent}
use Rattle.sctp_model.specs.end.Pacing.{Pace, heard, wait_heard, expired_pace, sent_pace, pace_begun}
use Rattle.sctp_model.specs.end.Clock.{is_over_at, with_timer, running, stopped, closed, at_moment, settled, turned, expired_timer, paced_expiry, timer_heard, sender_heard, echo_trip}
use Rattle.sctp_model.specs.end.Clock.{may_go_on}
use Rattle.sctp_model.specs.end.Closing.{rested, hears, takes_acknowledgements}
use Rattle.sctp_model.specs.end.PeerFaults.{GoesOn, Ends, Replies, Note, Unnoted}
use Rattle.sctp_model.specs.end.Opening.{AcceptedAck, RefusedAck, EchoedAgain, CookieAcked, cookie_trip, begun, pace_for, terms_of_body}
use Rattle.sctp_model.specs.end.Trips.{RtoBounds}
use Rattle.sctp_model.specs.end.Beating.{beat_trip, beat_heard}
use Rattle.sctp_model.specs.end.Acting.{Acts, ForwardComes, PieceComes, IsOld, SackStale, ShutdownStale, HeartbeatCounts, SackCounts, ShutdownCounts, Closes, SaysNothing, Crosses, Again, AckCompletes, CompleteCompleted, PieceEmpty, WrongFormat, SackWrong, ShutdownWrong, WrongKind, IsBad, ReconfigComes, IsUnknown, Misnumbered}
use Rattle.sctp_model.specs.end.Wearing.{missed_below, wearing}
use Rattle.sctp_model.proofs.PacedEnds.{worn_cases}
use Rattle.sctp_model.specs.end.Arriving.{AllAct, NoneLeft, Next, Passes, Last, EndsAnswered, Stopped, Arrives, Elsewhere, NotOurs, Stray, CookieBegins, Heard, Notes, no_notes, noted, urged, packet_ended}
use Rattle.sctp_model.specs.end.Strays.{Verdict}
use Rattle.sctp_model.specs.end.Building.{filled_behind, room_behind, timer_after, sent, Slot, Puts, NoMore, NotDue, Put, IsFull, Builds, Sleeps, Waits, Calls, Echoes, EndsFull, Fills, EchoSlot, CookieAckSlot, HeartbeatSlot, ErrorSlot, SackSlot, ForwardSlot, ShutdownSlot, ShutdownAckSlot, once_built, AnswerSlot, RequestSlot}
use Rattle.sctp_model.specs.end.Building.{BeatSlot}
use Rattle.sctp_model.specs.end.Moments.{after_abandoning, due_again, rung, ring, rung_all, all_alarms, waited_in, passed, ticked, is_data_due, given_up}
use Rattle.sctp_model.specs.end.UserCalls.{connect_answer, Called, called, is_established, answer_for, send_answer, send_leaves, NotOpen, is_open, abandoned_at, shut_in, shut, AbortAnswer, Aborts, NoPeer, TooLong, abort_leaves, ResetCall, Begun, NotAgreed, NoStream, reset_leaves, told_leaves}
use Rattle.sctp_model.proofs.sender.LandLaws.{LandsAs, settled_lands, timed_out_lands, abandoned_lands, expired_lands, queued_lands, NoneWorn}
use Rattle.sctp_model.proofs.sender.ControlLaws.{IsPaced, begun_paced, fresh_paced, heard_paced, expired_paced, sent_paced, free_room}
use Rattle.sctp_safety.proofs.machine.EndWords.{rested_cases, ended_cases}
use Rattle.sctp_safety.proofs.machine.Sides.{unknown_goes, unknown_ends, unknown_never_replies}
use Rattle.sctp_outcomes.specs.NeverHeld.{IsNeverHeld}
use Rattle.sctp_outcomes.proofs.logs.Filled.{nothing_filled}
use Rattle.sctp_model.specs.end.Reconfiguring.{asking}
use Rattle.sctp_model.specs.sender.Resetting.{resetting, with_resets}
use Rattle.sctp_model.specs.sender.Outgoing.{Outgoing}
use Rattle.sctp_model.specs.wire.Typed.{typed_in}
use Rattle.sctp_safety.proofs.machine.Reconfigured.{IsReconfigured, parameters_same, asking_same, again_same}
use Rattle.sctp_model.proofs.sender.WearLands.{worn_clear, worn_lands}
use Rattle.sctp_model.proofs.sender.AbandonedLaws.{expired_reached}
use Rattle.sctp_model.specs.messages.Format.{Format}
use Rattle.sctp_outcomes.proofs.ReachedEnds.{IsReachedAt}
use Rattle.sctp_model.specs.sender.Reached.{IsReached}

-- ---- an endpoint

-- its expiry is set
abbrev pub IsRunning : Timer → Type 0
IsRunning t = (m : ℕ) × (t.expiry ≡ Some m)

-- An open endpoint has its data timer running while something is in flight; one that isn't open yet has nothing in flight.
abbrev pub Wakes : Phase → SenderView → Timer → Type 0
Wakes (Open t g) v r = 0 < in_flight v → IsRunning r
Wakes (Over why) v r = Unit {0}
Wakes Idle v r = in_flight v ≡ 0
Wakes Listening v r = in_flight v ≡ 0
Wakes (Calling d) v r = in_flight v ≡ 0
Wakes (Echoing t xs) v r = in_flight v ≡ 0

-- and the numbers of its control aren't 0, if its packets have space
abbrev pub IsHeldWell : EndView → Type 0
IsHeldWell e = (12 < e.configuration.limit → IsPaced e.pace) × Wakes e.phase e.sender (e.timers DataAlarm)

rebased_wakes : (h : Phase) (v : SenderView) (x : Outgoing) (t : Timer) → Wakes h v t → Wakes h (with_resets x v) t
rebased_wakes (Open k g) v x t r = r
rebased_wakes (Over why) v x t r = tt
rebased_wakes Idle v x t r = r
rebased_wakes Listening v x t r = r
rebased_wakes (Calling d) v x t r = r
rebased_wakes (Echoing k xs) v x t r = r

-- in a state with both endpoints, from another one
turns : (e : EndView) (h : Phase) → e.phase ≡ h → IsHeldWell e → Wakes h e.sender (e.timers DataAlarm)
turns e h is r = subst (λ (k : Phase). Wakes k e.sender (e.timers DataAlarm)) is r.1

-- the pace of an association that begins
pub begins_paced : (c : Configuration) (header window : ℕ) → 12 < c.limit → IsPaced (pace_for c header window)
begins_paced c header window some = fresh_paced c.fast_retransmit c.congestion_control c.growth c.cubic header (c.limit - size_of_packet []) window (omega (arith, some))

held_rested : (e : EndView) → IsHeldWell e → IsHeldWell (rested e)
held_rested e r = rested_cases IsHeldWell e r (λ t is d. (r.0, turns e (Open t ShutdownPending) is r)) (λ t is d. (r.0, turns e (Open t ShutdownReceived) is r))

-- what is known of resets wakes nobody
held_reconfigured : (e t : EndView) → IsReconfigured e t → IsHeldWell e → IsHeldWell t
held_reconfigured e t u r = (
  λ some. subst (λ (o : Option Pace). IsPaced o) (sym u.pace) (r.0 (subst (λ (c : Configuration). 12 < c.limit) u.configuration some)),
  subst (λ (h : Phase). Wakes h t.sender (t.timers DataAlarm)) (sym u.phase)
      (subst (λ (k : Timer). Wakes e.phase t.sender k) (sym u.data_timer)
      (subst (λ (v : SenderView). Wakes e.phase v (e.timers DataAlarm)) (sym u.sender.1) (rebased_wakes e.phase e.sender u.sender.0 (e.timers DataAlarm) r.1))),
)

held_asking : (e : EndView) → IsHeldWell e → IsHeldWell (asking e)
held_asking e r = held_reconfigured e (asking e) (asking_same e) r

-- ---- HEARTBEATs

-- another timer with the same expiry
other_timer : (h : Phase) (v : SenderView) (t u : Timer) → u.expiry ≡ t.expiry → Wakes h v t → Wakes h v u
other_timer (Open k g) v t u same r = λ some. let runs = r some in (runs.0, same ∙ runs.1)
other_timer (Over why) v t u same r = tt
other_timer Idle v t u same r = r
other_timer Listening v t u same r = r
other_timer (Calling d) v t u same r = r
other_timer (Echoing k xs) v t u same r = r

-- ---- an acknowledgement

heard_runs : (o : Option Pace) (now : ℕ) (least : RtoBounds) (wait : ℕ) (v u : SenderView) (t : Timer)
    → 0 < in_flight (sender_heard o now v u) → IsRunning (timer_heard o now least wait v u t)
heard_runs None now least wait v u t some = go t.expiry
  where
    flies : nat_lt 0 (in_flight u) ≡ true
    flies = grind (arith, nat_tests, some)

    go : (e : Option ℕ) → (m : ℕ) × (paced_expiry now t.wait false (nat_lt 0 (in_flight u)) e ≡ Some m)
    go None = rw flies (_, refl)
    go (Some n) = (_, refl)
heard_runs (Some q) now least wait v u t some = go t.expiry
  where
    flies : nat_lt 0 (in_flight (heard now v u q).sender) ≡ true
    flies = grind (arith, nat_tests, some)

    go : (e : Option ℕ) → (m : ℕ) × (paced_expiry now (wait_heard least wait (heard now v u q)) (heard now v u q).anew (nat_lt 0 (in_flight (heard now v u q).sender)) e ≡ Some m)
    go None = rw flies (_, refl)
    go (Some n) = (_, refl)

heard_wakes : (h : Phase) → hears takes_acknowledgements h ≡ true → (o : Option Pace) (now : ℕ) (least : RtoBounds) (wait : ℕ) (v u : SenderView) (t : Timer)
    → Wakes h (sender_heard o now v u) (timer_heard o now least wait v u t)
heard_wakes (Open k g) on o now least wait v u t = heard_runs o now least wait v u t
heard_wakes (Over why) on o now least wait v u t = tt
heard_wakes Idle on o now least wait v u t = absurd (cc)
heard_wakes Listening on o now least wait v u t = absurd (cc)
heard_wakes (Calling d) on o now least wait v u t = absurd (cc)
heard_wakes (Echoing k xs) on o now least wait v u t = absurd (cc)

-- ---- a chunk

-- a chunk after which the packet goes on
held_goes : (e : EndView) (tag : ℕ) (x : ChunkMeaning) (y : Note) (t : EndView) → IsHeldWell e → Acts e tag x (GoesOn y t) → IsHeldWell t
held_goes e tag (Data p) y t r (PieceComes _ _ _ _ _ _ _ _ _ _) = r
held_goes e tag (IData p) y t r (PieceComes _ _ _ _ _ _ _ _ _ _) = r
held_goes e tag (Init m) y t r h = absurd (cc)
held_goes e tag (InitAck m) y t r (AcceptedAck _ _ _ _ _ _) = (λ some. begins_paced e.configuration _ m.rwnd some, refl)
held_goes e tag (Sack s) y t r (SackStale _ _) = r
held_goes e tag (Sack s) y t r (SackCounts on none) =
    (λ some. heard_paced e.moment e.sender (sack_taken e.sender s) e.pace (r.0 some), heard_wakes e.phase on e.pace e.moment _ _ e.sender (sack_taken e.sender s) _)
held_goes e tag (Heartbeat i) y t r (HeartbeatCounts _) = r
held_goes e tag (HeartbeatAck i) y t r h = let q : t ≡ beat_heard e i = cc in subst IsHeldWell (sym q)
    ((λ some. begun_paced (beat_trip e i) e.pace (r.0 some)), other_timer e.phase e.sender (e.timers DataAlarm) _ refl r.1)
held_goes e tag (Abort b xs) y t r h = absurd (cc)
held_goes e tag (Shutdown n) y t r (ShutdownStale k g is _ _) = (r.0, turns e (Open k g) is r)
held_goes e tag (Shutdown n) y t r (ShutdownCounts k g is _ none) =
    (λ some. heard_paced e.moment e.sender (shutdown_taken e.sender n) e.pace (r.0 some), λ some. heard_runs e.pace e.moment _ _ e.sender (shutdown_taken e.sender n) _ some)
held_goes e tag (Shutdown n) y t r (Crosses k is) = (r.0, turns e (Open k ShutdownSent) is r)
held_goes e tag (Shutdown n) y t r (Again k is) = r
held_goes e tag ShutdownAck y t r h = elim h [ ]
held_goes e tag (Error xs) y t r (SaysNothing _) = r
held_goes e tag (CookieEcho xs) y t r (EchoedAgain _ _ _ _ _ _ _) = r
held_goes e tag CookieAck y t r (CookieAcked k xs is) =
    (λ some. begun_paced (echo_trip e.configuration.first_wait e.moment (e.timers CookieAlarm)) e.pace (r.0 some), λ some. absurd (let none = turns e (Echoing k xs) is r in omega (arith, none, some)))
held_goes e tag (ShutdownComplete b) y t r h = elim h [ ]
held_goes e tag (ForwardTsn m) y t r (IsOld _ _ _ _ _ _ _) = r
held_goes e tag (ForwardTsn m) y t r (ForwardComes _ _ _ _ _ _ _) = r
held_goes e tag (IForwardTsn m) y t r (IsOld _ _ _ _ _ _ _) = r
held_goes e tag (IForwardTsn m) y t r (ForwardComes _ _ _ _ _ _ _) = r
held_goes e tag (Unknown n f v) y t r (ReconfigComes c _ _) = held_reconfigured e t (parameters_same c e (typed_in v)) r
held_goes e tag (Unknown n f v) y t r (IsUnknown _ _ h) = let u = unknown_goes e y t n f v h in subst IsHeldWell (sym u.same) r

-- one that ends it
held_ends : (e : EndView) (tag : ℕ) (x : ChunkMeaning) (t : EndView) → IsHeldWell e → Acts e tag x (Ends t) → IsHeldWell t
held_ends e tag (Data p) t r h = elim h [ ]
held_ends e tag (IData p) t r h = elim h [ ]
held_ends e tag (Init m) t r h = absurd (cc)
held_ends e tag (InitAck m) t r h = elim h [ ]
held_ends e tag (Sack s) t r h = elim h [ ]
held_ends e tag (Heartbeat i) t r h = elim h [ ]
held_ends e tag (HeartbeatAck i) t r h = absurd (cc)
held_ends e tag (Abort b xs) t r h = let q : t ≡ closed Aborted e = cc in subst IsHeldWell (sym q) (r.0, tt)
held_ends e tag (Shutdown n) t r h = elim h [ ]
held_ends e tag ShutdownAck t r h = elim h [ ]
held_ends e tag (Error xs) t r (Closes _) = (r.0, tt)
held_ends e tag (CookieEcho xs) t r h = elim h [ ]
held_ends e tag CookieAck t r h = elim h [ ]
held_ends e tag (ShutdownComplete b) t r (CompleteCompleted _) = (r.0, tt)
held_ends e tag (ForwardTsn m) t r h = elim h [ ]
held_ends e tag (IForwardTsn m) t r h = elim h [ ]
held_ends e tag (Unknown n f v) t r (IsUnknown _ _ h) = let u = unknown_ends e t n f v h in subst IsHeldWell (sym u.same) r

-- one that is answered
held_replies : (e : EndView) (tag : ℕ) (x : ChunkMeaning) (t : EndView) (p : Packet) → IsHeldWell e → Acts e tag x (Replies t p) → IsHeldWell t
held_replies e tag (Data q) t p r (PieceEmpty _ _ _ _ _) = (r.0, tt)
held_replies e tag (Data q) t p r (WrongFormat _ _ _ _ _ _) = (r.0, tt)
held_replies e tag (Data q) t p r (Misnumbered _ _ _ _ _ _ _ _ _) = (r.0, tt)
held_replies e tag (IData q) t p r (PieceEmpty _ _ _ _ _) = (r.0, tt)
held_replies e tag (IData q) t p r (WrongFormat _ _ _ _ _ _) = (r.0, tt)
held_replies e tag (IData q) t p r (Misnumbered _ _ _ _ _ _ _ _ _) = (r.0, tt)
held_replies e tag (Init m) t p r h = absurd (cc)
held_replies e tag (InitAck m) t p r (RefusedAck _ _ _ _ _) = (r.0, tt)
held_replies e tag (Sack s) t p r (SackWrong _ _ _ _ _) = (r.0, tt)
held_replies e tag (Heartbeat i) t p r h = elim h [ ]
held_replies e tag (HeartbeatAck i) t p r h = absurd (cc)
held_replies e tag (Abort b xs) t p r h = absurd (cc)
held_replies e tag (Shutdown n) t p r (ShutdownWrong _ _ _ _ _) = (r.0, tt)
held_replies e tag ShutdownAck t p r (AckCompletes _ _ _ _) = (r.0, tt)
held_replies e tag (Error xs) t p r h = elim h [ ]
held_replies e tag (CookieEcho xs) t p r h = elim h [ ]
held_replies e tag CookieAck t p r h = elim h [ ]
held_replies e tag (ShutdownComplete b) t p r h = elim h [ ]
held_replies e tag (ForwardTsn m) t p r (WrongKind _ _ _ _ _) = (r.0, tt)
held_replies e tag (ForwardTsn m) t p r (IsBad _ _ _ _ _ _ _) = (r.0, tt)
held_replies e tag (IForwardTsn m) t p r (WrongKind _ _ _ _ _) = (r.0, tt)
held_replies e tag (IForwardTsn m) t p r (IsBad _ _ _ _ _ _ _) = (r.0, tt)
held_replies e tag (Unknown n f v) t p r (IsUnknown _ _ h) = absurd (unknown_never_replies e t p n f v h)

-- ---- a packet that arrives

held_acts : (tag : ℕ) (e : EndView) (b : Notes) (xs : List ChunkMeaning) (t : EndView) (m : Notes) (v : Verdict) → IsHeldWell e → AllAct tag e b xs t m v → IsHeldWell t
held_acts tag e b xs t m v r (NoneLeft _ _) = r
held_acts tag e b xs t m v r (Next _ mid _ y _ _ x ys _ act rest) = held_acts tag (rested mid) (noted y b) ys t m v (held_rested mid (held_goes e tag x y mid r act)) rest
held_acts tag e b xs t m v r (Passes _ _ _ _ x ys _ act rest) = held_acts tag e b ys t m v r rest
held_acts tag e b xs t m v r (Last _ _ _ x ys act) = held_ends e tag x t r act
held_acts tag e b xs t m v r (EndsAnswered _ _ _ x ys p act) = held_replies e tag x t p r act
held_acts tag e b xs t m v r (Stopped _ _ x ys n act) = r

held_ended : (n : Notes) (e : EndView) → IsHeldWell e → IsHeldWell (packet_ended n e)
held_ended n e r = ended_cases IsHeldWell n e r (λ t g is. r) (λ t g is. r) (λ x h. h)

settled_wakes : (h : Phase) (v : SenderView) (t : Timer) → Wakes h v t → (b : Bool) → unsettled v ≡ b → Wakes h v (if b then t else stopped t)
settled_wakes h v t r true is = r
settled_wakes (Open k g) v t r false is = λ some. absurd (let none = settled_lands v is in omega (arith, none, some))
settled_wakes (Over why) v t r false is = tt
settled_wakes Idle v t r false is = r
settled_wakes Listening v t r false is = r
settled_wakes (Calling d) v t r false is = r
settled_wakes (Echoing k xs) v t r false is = r

lands_wakes : (h : Phase) (v a : SenderView) (t : Timer) → LandsAs v a → Wakes h v t → Wakes h a t
lands_wakes (Open k g) v a t less r = λ some. go (in_flight v) refl some
  where
    go : (n : ℕ) → in_flight v ≡ n → 0 < in_flight a → IsRunning t
    go zero none some = absurd (let also = less none in omega (arith, also, some))
    go (suc n) is some = r (omega (arith, is))
lands_wakes (Over why) v a t less r = tt
lands_wakes Idle v a t less r = less r
lands_wakes Listening v a t less r = less r
lands_wakes (Calling d) v a t less r = less r
lands_wakes (Echoing k xs) v a t less r = less r

held_abandoning : (e : EndView) (a : SenderView) → LandsAs e.sender a → IsHeldWell e → IsHeldWell (after_abandoning e a)
held_abandoning e a less r =
    held_rested (settled (record e { sender = a; due = record e.due { forward = e.due.forward || not (point a == point e.sender) } }))
    (r.0, settled_wakes e.phase a (e.timers DataAlarm) (lands_wakes e.phase e.sender a (e.timers DataAlarm) less r.1) (unsettled a) refl)

held_worn : (from : ℕ) (e : EndView) → IsHeldWell e → IsHeldWell (wearing from e)
held_worn from e r = worn_cases IsHeldWell from e r (λ test on. held_abandoning e (worn test e.sender) (worn_lands e.sender test) r)

pub held_arrives : (e : EndView) (d : Draw) (p : Packet) (t : EndView) (v : Verdict) → IsHeldWell e → Arrives e d p t v → IsHeldWell t
held_arrives e d p t v r (Elsewhere _) = r
held_arrives e d p t v r (NotOurs _ _) = r
held_arrives e d p t v r (Stray _ _ _ _) = r
held_arrives e d p t v r (CookieBegins b u n _ _ _ _ _ acts gap _) =
    held_ended (urged gap n) u (held_acts p.tag (begun b e) (noted Unnoted no_notes) _ u n v (λ some. begun_paced (Some (cookie_trip e.moment b)) (pace_for e.configuration (header_of (format_for (terms_of_body b).interleave)) b.rwnd) (begins_paced e.configuration _ b.rwnd some), λ some. absurd (omega (arith, some))) acts)
held_arrives e d p t v r (Heard u n _ _ _ _ acts gap _) =
    held_ended (urged gap n) (wearing (missed_below e.pace) u) (held_worn (missed_below e.pace) u (held_acts p.tag e no_notes p.chunks u n v r acts))

-- ---- a packet that is built

-- a timer that starts runs
runs : (now : ℕ) (t : Timer) (o : Option ℕ) → t.expiry ≡ o → IsRunning (running now t o)
runs now t (Some m) is = (m, is)
runs now t None is = (_, refl)

started_wakes : (h : Phase) (v : SenderView) (now : ℕ) (t : Timer) → Wakes h v t → Wakes h v (running now t t.expiry)
started_wakes (Open k g) v now t r = λ some. runs now t t.expiry refl
started_wakes (Over why) v now t r = tt
started_wakes Idle v now t r = r
started_wakes Listening v now t r = r
started_wakes (Calling d) v now t r = r
started_wakes (Echoing k xs) v now t r = r

held_built : (s : Slot) (e : EndView) → IsHeldWell e → IsHeldWell (once_built s e)
held_built EchoSlot e r = r
held_built CookieAckSlot e r = r
held_built HeartbeatSlot e r = r
held_built BeatSlot e r = r
held_built ErrorSlot e r = r
held_built SackSlot e r = r
held_built AnswerSlot e r = r
held_built RequestSlot e r = r
held_built ForwardSlot e r = (r.0, started_wakes e.phase e.sender e.moment (e.timers DataAlarm) r.1)
held_built ShutdownSlot e r = r
held_built ShutdownAckSlot e r = r

same_phase : (s : Slot) (e : EndView) → (once_built s e).phase ≡ e.phase
same_phase EchoSlot e = refl
same_phase CookieAckSlot e = refl
same_phase HeartbeatSlot e = refl
same_phase BeatSlot e = refl
same_phase ErrorSlot e = refl
same_phase SackSlot e = refl
same_phase AnswerSlot e = refl
same_phase RequestSlot e = refl
same_phase ForwardSlot e = refl
same_phase ShutdownSlot e = refl
same_phase ShutdownAckSlot e = refl

held_puts : (ss : List Slot) (e : EndView) (xs zs : List ChunkMeaning) (full : Bool) (t : EndView) → IsHeldWell e → Puts ss e xs zs full t → IsHeldWell t × (t.phase ≡ e.phase)
held_puts ss e xs zs full t r (NoMore _ _) = (r, refl)
held_puts ss e xs zs full t r (NotDue _ more _ _ _ _ _ off rest) = held_puts more e xs zs full t r rest
held_puts ss e xs zs full t r (Put s more _ x _ _ _ _ due wants room rest) =
    let k = held_puts more (once_built s e) (xs ++ x ∷ []) zs full t (held_built s e r) rest in
    (k.0, k.1 ∙ same_phase s e)
held_puts ss e xs zs full t r (IsFull _ _ _ _ _ due wants room) = (r, refl)

-- fragments that go out start the timer
sent_runs : (x : EndView) (ys : List ChunkMeaning) → (0 < in_flight x.sender → IsRunning (x.timers DataAlarm)) → 0 < in_flight (filled_behind x ys).view → IsRunning (timer_after x (filled_behind x ys).wishes)
sent_runs x ys r some = go (filled_behind x ys).wishes refl
  where
    go : (ws : List Wish) → (filled_behind x ys).wishes ≡ ws → IsRunning (timer_after x ws)
    go [] none =
        let same = nothing_filled _ (room_behind x ys) x.sender none in
        r (subst (λ (v : SenderView). 0 < in_flight v) same some)
    go (w ∷ ws) more = runs x.moment (x.timers DataAlarm) (x.timers DataAlarm).expiry refl

held_sent : (x : EndView) (ys : List ChunkMeaning) (k : Tags) (g : Stage) → x.phase ≡ Open k g → IsHeldWell x → IsHeldWell (sent x ys)
held_sent x ys k g is r = (
  λ some. sent_paced x.moment x.sender (filled_behind x ys).view (filled_behind x ys).wishes x.pace (r.0 some),
  subst (λ (h : Phase). Wakes h (sent x ys).sender (timer_after x (filled_behind x ys).wishes)) (sym is) (sent_runs x ys (turns x (Open k g) is r)),
)

pub held_builds : (e : EndView) (zs : List ChunkMeaning) (t : EndView) → IsHeldWell e → Builds e zs t → IsHeldWell t
held_builds e zs t r (Sleeps _) = r
held_builds e zs t r (Waits _ _ _) = r
held_builds e zs t r (Calls _ _ _) = r
held_builds e zs t r (Echoes _ _ _ full _ is puts) = (held_puts _ e [] zs full t r puts).0
held_builds e zs t r (EndsFull _ _ _ _ is puts) = (held_puts _ (asking e) [] zs true t (held_asking e r) puts).0
held_builds e zs t r (Fills k g ys x is puts) = let h = held_puts _ (asking e) [] ys false x (held_asking e r) puts in held_sent x ys k g (h.1 ∙ (asking_same e).phase ∙ is) h.0

-- ---- time

expired_wakes : (h : Phase) (v : SenderView) (t : Timer) → NoneWorn v → Wakes h (timed_out v) t
expired_wakes (Open k g) v t clear = λ some. absurd (let none = timed_out_lands v clear in omega (arith, none, some))
expired_wakes (Over why) v t clear = tt
expired_wakes Idle v t clear = timed_out_lands v clear
expired_wakes Listening v t clear = timed_out_lands v clear
expired_wakes (Calling d) v t clear = timed_out_lands v clear
expired_wakes (Echoing k xs) v t clear = timed_out_lands v clear

abbrev is_data : Alarm → Bool
is_data InitAlarm = false
is_data CookieAlarm = false
is_data DataAlarm = true
is_data ShutdownAlarm = false
is_data AckAlarm = false
is_data ResetAlarm = false
is_data BeatAlarm = false
is_data GuardAlarm = false

held_again : (a : Alarm) (e : EndView) → (is_data a ≡ true → NoneWorn e.sender) → IsHeldWell e → IsHeldWell (due_again a (with_timer a (expired_timer e.configuration.longest_wait (e.timers a)) e))
held_again InitAlarm e clear r = r
held_again CookieAlarm e clear r = r
held_again DataAlarm e clear r = (λ some. expired_paced e.sender e.pace (r.0 some), expired_wakes e.phase e.sender (expired_timer e.configuration.longest_wait (e.timers DataAlarm)) (clear refl))
held_again ShutdownAlarm e clear r = r
held_again AckAlarm e clear r = r
held_again ResetAlarm e clear r = let t = with_timer ResetAlarm (expired_timer e.configuration.longest_wait (e.timers ResetAlarm)) e in held_reconfigured t (due_again ResetAlarm t) (again_same t) r
held_again BeatAlarm e clear r = (r.0, other_timer e.phase e.sender (e.timers DataAlarm) _ refl r.1)
held_again GuardAlarm e clear r = r

held_rung : (b : Bool) (a : Alarm) (e : EndView) → (b ≡ true → is_data a ≡ true → NoneWorn e.sender) → IsHeldWell e → IsHeldWell (rung b a e)
held_rung false a e clear r = r
held_rung true a e clear r = go (may_go_on a e)
  where
    go : (c : Bool) → IsHeldWell (if c then due_again a (with_timer a (expired_timer e.configuration.longest_wait (e.timers a)) e) else closed TimedOut e)
    go true = held_again a e (clear refl) r
    go false = (r.0, tt)

held_ring : (a : Alarm) (e : EndView) → (is_over_at e.moment (e.timers a).expiry ≡ true → is_data a ≡ true → NoneWorn e.sender) → IsHeldWell e → IsHeldWell (ring a e)
held_ring a e clear r = held_rung (is_over_at e.moment (e.timers a).expiry) a e clear r

-- if the data timer is due, nothing that is unsettled is worn
abbrev IsReady : EndView → Type 0
IsReady e = is_data_due e ≡ true → NoneWorn e.sender

-- the timers before it leave that so
ready_init : (b : Bool) (e : EndView) → IsReady e → IsReady (rung b InitAlarm e)
ready_init false e ready = ready
ready_init true e ready = go (may_go_on InitAlarm e)
  where
    go : (c : Bool) → IsReady (if c then due_again InitAlarm (with_timer InitAlarm (expired_timer e.configuration.longest_wait (e.timers InitAlarm)) e) else closed TimedOut e)
    go true = ready
    go false = λ on. absurd (cc)

ready_cookie : (b : Bool) (e : EndView) → IsReady e → IsReady (rung b CookieAlarm e)
ready_cookie false e ready = ready
ready_cookie true e ready = go (may_go_on CookieAlarm e)
  where
    go : (c : Bool) → IsReady (if c then due_again CookieAlarm (with_timer CookieAlarm (expired_timer e.configuration.longest_wait (e.timers CookieAlarm)) e) else closed TimedOut e)
    go true = ready
    go false = λ on. absurd (cc)

held_rung_all : (e : EndView) → IsReady e → IsHeldWell e → IsHeldWell (rung_all all_alarms e)
held_rung_all e ready r =
    let e1 = ring InitAlarm e in
    let e2 = ring CookieAlarm e1 in
    let e3 = ring DataAlarm e2 in
    let e4 = ring ShutdownAlarm e3 in
    let e5 = ring AckAlarm e4 in
    let ready1 = ready_init (is_over_at e.moment (e.timers InitAlarm).expiry) e ready in
    let ready2 = ready_cookie (is_over_at e1.moment (e1.timers CookieAlarm).expiry) e1 ready1 in
    let e6 = ring ResetAlarm e5 in
    let e7 = ring BeatAlarm e6 in
    held_ring GuardAlarm e7 (λ over on. absurd (cc)) (held_ring BeatAlarm e6 (λ over on. absurd (cc)) (held_ring ResetAlarm e5 (λ over on. absurd (cc)) (held_ring AckAlarm e4 (λ over on. absurd (cc)) (held_ring ShutdownAlarm e3 (λ over on. absurd (cc))
    (held_ring DataAlarm e2 (λ over on. ready2 over) (held_ring CookieAlarm e1 (λ over on. absurd (cc)) (held_ring InitAlarm e (λ over on. absurd (cc)) r)))))))

-- what is given up at a time
given_up_lands : (b : Bool) (v : SenderView) (now : ℕ) → LandsAs v (given_up b v now)
given_up_lands true v now none = worn_lands (expired_messages v now) (λ i. true) (expired_lands v now none)
given_up_lands false v now none = expired_lands v now none

ready_rested : (e : EndView) → IsReady e → IsReady (rested e)
ready_rested e ready = rested_cases IsReady e ready (λ t is d. ready) (λ t is d. ready)

ready_abandoning : (e : EndView) (a : SenderView) → (is_data_due e ≡ true → NoneWorn a) → IsReady (after_abandoning e a)
ready_abandoning e a clear =
    ready_rested (settled (record e { sender = a; due = record e.due { forward = e.due.forward || not (point a == point e.sender) } })) (go (unsettled a))
  where
    go : (b : Bool) → is_over_at e.moment (if b then e.timers DataAlarm else stopped (e.timers DataAlarm)).expiry ≡ true → NoneWorn a
    go true = clear
    go false = λ on. absurd (cc)

given_up_clear : (f : Format) (b : Bool) (v : SenderView) (now : ℕ) → IsReached f v → b ≡ true → NoneWorn (given_up b v now)
given_up_clear f true v now h on = worn_clear f (expired_messages v now) (expired_reached f v now h)
given_up_clear f false v now h on = absurd (cc)

held_waited : (b : Bool) (e : EndView) → IsHeldWell e → IsHeldWell (waited_in b e)
held_waited false e r = r
held_waited true e r = r

pub held_ticked : (e : EndView) (now : ℕ) → 0 < e.configuration.fragment → IsReachedAt e → IsHeldWell e → IsHeldWell (ticked e now)
held_ticked e now some reached r = go (has_association e.phase)
  where
    go : (b : Bool) → IsHeldWell (if b then passed (at_moment e now) else at_moment e now)
    go false = r
    go true =
        let m = at_moment e now in
        let a = given_up (is_data_due m) m.sender m.moment in
        let u = after_abandoning m a in
        let rang = rung_all all_alarms u in
        let abandoned = held_abandoning m a (given_up_lands (is_data_due m) m.sender m.moment) r in
        let ready = ready_abandoning m a (given_up_clear (format_of e) (is_data_due m) m.sender m.moment (reached some)) in
        held_waited (is_over_at rang.moment rang.delayed) rang (held_rung_all u ready abandoned)

-- ---- calls

pub held_called : (e : EndView) (d : Draw) → connect_answer e.phase ≡ Called → IsHeldWell e → IsHeldWell (called e d)
held_called e d may r = (r.0, go e.phase may r.1)
  where
    go : (h : Phase) → connect_answer h ≡ Called → Wakes h e.sender (e.timers DataAlarm) → in_flight e.sender ≡ 0
    go Idle on none = none
    go Listening on none = none
    go (Calling k) on none = none
    go (Echoing k xs) on none = none
    go (Open k g) on none = absurd (cc)
    go (Over why) on none = absurd (cc)

pub held_queued : (e : EndView) (c : Call) → IsHeldWell e → IsHeldWell (send_leaves (send_answer e c) e c)
held_queued e c r = go (hears is_established e.phase)
  where
    by : (o : Option Refusal) → IsHeldWell (send_leaves (answer_for e o) e c)
    by None = (r.0, lands_wakes e.phase e.sender (queued e.sender c.lane c.payload c.bytes c.until c.limit) (e.timers DataAlarm) (queued_lands e.sender c.lane c.payload c.bytes c.until c.limit) r.1)
    by (Some x) = r

    go : (b : Bool) → IsHeldWell (send_leaves (if b then answer_for e (refusal e.sender c.lane.stream c.bytes) else NotOpen) e c)
    go true = by (refusal e.sender c.lane.stream c.bytes)
    go false = r

pub held_abandoned : (e : EndView) (n : ℕ) → IsHeldWell e → IsHeldWell (abandoned_at e n)
held_abandoned e n r = go (is_open e.phase)
  where
    go : (b : Bool) → IsHeldWell (if b then after_abandoning e (abandon_after e.sender n) else record e { sender = abandon_after e.sender n })
    go true = held_abandoning e (abandon_after e.sender n) (abandoned_lands e.sender n) r
    go false = (r.0, lands_wakes e.phase e.sender (abandon_after e.sender n) (e.timers DataAlarm) (abandoned_lands e.sender n) r.1)

pub held_reset : (e : EndView) (a : ResetCall) (n : ℕ) → IsHeldWell e → IsHeldWell (reset_leaves a e n)
held_reset e Begun n r = (r.0, rebased_wakes e.phase e.sender (resetting e.sender n).resets (e.timers DataAlarm) r.1)
held_reset e NotAgreed n r = r
held_reset e NoStream n r = r

pub held_told : (e : EndView) (o : Option ℕ) → IsHeldWell e → IsHeldWell (told_leaves o e)
held_told e None r = r
held_told e (Some n) r = r

pub held_shut : (e : EndView) → IsHeldWell e → IsHeldWell (shut e)
held_shut e r = go e.phase refl
  where
    go : (h : Phase) → e.phase ≡ h → IsHeldWell (shut_in h e)
    go (Open t Established) is = held_rested (turned (Open t ShutdownPending) e) (r.0, turns e (Open t Established) is r)
    go (Open t ShutdownPending) is = r
    go (Open t ShutdownSent) is = r
    go (Open t ShutdownReceived) is = r
    go (Open t ShutdownAckSent) is = r
    go Idle is = r
    go Listening is = r
    go (Calling d) is = r
    go (Echoing t xs) is = r
    go (Over why) is = r

pub held_aborted : (e : EndView) (a : AbortAnswer) → IsHeldWell e → IsHeldWell (abort_leaves a e)
held_aborted e (Aborts x) r = (r.0, tt)
held_aborted e NoPeer r = r
held_aborted e TooLong r = r

-- ---- the law

pub never_held : (e : EndView) → 12 < e.configuration.limit → IsHeldWell e → IsNeverHeld e
never_held e large r = record {
  free = λ none xs. free_room e.pace _ (e.configuration.limit - size_of_packet xs) e.sender (r.0 large) none;
  wakes = λ on some. go e.phase on r.1 some;
}
  where
    go : (h : Phase) → is_open h ≡ true → Wakes h e.sender (e.timers DataAlarm) → 0 < in_flight e.sender → IsRunning (e.timers DataAlarm)
    go (Open k g) on w some = w some
    go (Over why) on w some = absurd (cc)
    go Idle on w some = absurd (cc)
    go Listening on w some = absurd (cc)
    go (Calling d) on w some = absurd (cc)
    go (Echoing k xs) on w some = absurd (cc)
