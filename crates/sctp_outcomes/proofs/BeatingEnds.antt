-- Whatever happens at an endpoint that is set up for HEARTBEATs, their timer runs in each state in which it may send one.
use Rattle.std.proofs.Common.{ℕ, ◌≡◌, not, ◌||◌, ◌==◌, Bool, true, false, List, [], ◌∷◌, ◌++◌, Option, None, Some, refl, sym, subst, ap, ◌∙◌}
use Rattle.std.specs.Prelude.{if◌then◌else◌, ◌&&◌, length, is_some, option_map}
use Rattle.sctp_model.specs.wire.Packet.{Packet, size_of_packet}
use Rattle.sctp_model.specs.wire.Chunk.{ChunkMeaning, Data, IData, Init, InitAck, Sack, Heartbeat, HeartbeatAck, Abort, Shutdown, ShutdownAck, Error, CookieEcho, CookieAck, ShutdownComplete, ForwardTsn, IForwardTsn, Unknown}
use Rattle.sctp_model.specs.world.Calls.{Call}
use Rattle.sctp_model.specs.sender.SenderView.{SenderView}
use Rattle.sctp_model.specs.sender.Queueing.{Refusal, refusal}
use Rattle.sctp_model.specs.sender.Readers.{point}
use Rattle.sctp_model.specs.sender.Abandoning.{abandon_after, worn}
use Rattle.sctp_model.specs.end.Sealing.{Body}
use Rattle.sctp_model.specs.end.EndView.{Draw, Aborted, TimedOut, Established, ShutdownPending, ShutdownSent, ShutdownReceived, ShutdownAckSent, Phase, Idle, Listening, Calling, Echoing, Open, Over, Alarm, InitAlarm, CookieAlarm, DataAlarm, ShutdownAlarm, AckAlarm, EndView, has_association, ResetAlarm, BeatAlarm, GuardAlarm, Configuration, Ended, AbortedHere, Completed, StaleCookie, Paired, fresh_end, Timer, Beats, no_beats, Tags, Stage}
use Rattle.sctp_model.specs.end.Clock.{echo_trip, measured, stopped, is_home, may_go_on, is_over_at, with_timer, closed, at_moment, settled, turned}
use Rattle.sctp_model.specs.end.Clock.{expired_timer}
use Rattle.sctp_model.specs.end.Closing.{rested, hears, takes_acknowledgements}
use Rattle.sctp_model.specs.end.PeerFaults.{GoesOn, Ends, Replies, Note, Unnoted}
use Rattle.sctp_model.specs.end.Opening.{opened, terms_alike, tags_between, terms_of_ack, tags_of_body, AcceptedAck, RefusedAck, EchoedAgain, CookieAcked, joined, terms_of_body, cookie_trip, begun, pace_for}
use Rattle.sctp_model.specs.end.Beating.{beat_timer, beating, beating_after, beat_trip, beat_heard}
use Rattle.sctp_model.specs.end.Acting.{shutdown_counted, Acts, ForwardComes, PieceComes, IsOld, SackStale, ShutdownStale, HeartbeatCounts, SackCounts, ShutdownCounts, Closes, SaysNothing, Crosses, Again, AckCompletes, CompleteCompleted, PieceEmpty, WrongFormat, SackWrong, ShutdownWrong, WrongKind, IsBad, ReconfigComes, IsUnknown, Misnumbered}
use Rattle.sctp_model.specs.sender.Filling.{Wish}
use Rattle.sctp_model.specs.end.Wearing.{missed_below, wearing}
use Rattle.sctp_model.proofs.PacedEnds.{worn_cases}
use Rattle.sctp_model.specs.end.Arriving.{AllAct, NoneLeft, Next, Passes, Last, EndsAnswered, Stopped, Arrives, Elsewhere, NotOurs, Stray, CookieBegins, Heard, Notes, no_notes, noted, urged, packet_ended}
use Rattle.sctp_model.specs.end.Strays.{Verdict}
use Rattle.sctp_model.specs.end.Building.{timer_after, is_due, filled_behind, Slot, Puts, NoMore, NotDue, Put, IsFull, Builds, Sleeps, Waits, Calls, Echoes, EndsFull, Fills, EchoSlot, CookieAckSlot, HeartbeatSlot, BeatSlot, ErrorSlot, SackSlot, ForwardSlot, ShutdownSlot, ShutdownAckSlot, once_built, AnswerSlot, RequestSlot}
use Rattle.sctp_model.specs.end.Moments.{after_abandoning, is_data_due, given_up, due_again, rung, ring, rung_all, all_alarms, waited_in, passed, ticked}
use Rattle.sctp_model.specs.end.UserCalls.{is_established, answer_for, send_answer, send_leaves, NotOpen, is_open, abandoned_at, shut_in, shut, AbortAnswer, Aborts, NoPeer, TooLong, abort_leaves, ResetCall, Begun, NotAgreed, NoStream, reset_leaves, told_leaves}
use Rattle.sctp_safety.proofs.machine.EndWords.{rested_cases, ended_cases}
use Rattle.sctp_safety.proofs.machine.Sides.{unknown_goes, unknown_ends, unknown_never_replies}
use Rattle.sctp_model.specs.sender.SackTaken.{sack_taken, shutdown_taken}
use Rattle.sctp_model.specs.end.Reconfiguring.{asking}
use Rattle.sctp_model.specs.wire.Typed.{typed_in}
use Rattle.sctp_safety.proofs.machine.Reconfigured.{IsReconfigured, parameters_same, asking_same}
use Rattle.sctp_model.specs.end.Pacing.{Pace, pace_begun, fresh_pace, heard, expired_pace, sent_pace}
use Rattle.sctp_model.specs.sender.Words.{when}

-- ---- an endpoint

-- the timer runs, where it may
abbrev pub IsBeatingAt : EndView → Type 0
IsBeatingAt e = (n : ℕ) → e.configuration.heartbeat ≡ Some n → is_home BeatAlarm e.phase ≡ true → is_some (e.timers BeatAlarm).expiry ≡ true

-- it is started
pub beats_started : (e : EndView) → IsBeatingAt (beating e)
beats_started e n on home = ap (λ (o : Option ℕ). is_some (beat_timer o e).expiry) on

-- a state in which none is sent
pub beats_nowhere : (h : Phase) (e : EndView) → is_home BeatAlarm h ≡ false → IsBeatingAt (turned h e)
beats_nowhere h e off n on home = absurd (cc (off, home))

-- from one state in which one may be sent to another
beats_still : (h : Phase) (e : EndView) → is_home BeatAlarm h ≡ true → is_home BeatAlarm e.phase ≡ true → IsBeatingAt e → IsBeatingAt (turned h e)
beats_still h e here was r n on home = ap (λ (b : Bool). is_some (if b then e.timers BeatAlarm else stopped (e.timers BeatAlarm)).expiry) here ∙ r n on was

pub beats_closed : (why : Ended) (e : EndView) → IsBeatingAt (closed why e)
beats_closed why e n on home = absurd (cc)

beats_after : (ws : List Wish) (e : EndView) → IsBeatingAt e → IsBeatingAt (beating_after ws e)
beats_after ws e r n on home = go (0 == length ws)
  where
    go : (b : Bool) → is_some (if b then e.timers BeatAlarm else beat_timer e.configuration.heartbeat e).expiry ≡ true
    go true = r n on home
    go false = ap (λ (o : Option ℕ). is_some (beat_timer o e).expiry) on

-- a state in which acknowledgements are taken
acked_home : (t : Tags) (g : Stage) → takes_acknowledgements g ≡ true → is_home BeatAlarm (Open t g) ≡ true
acked_home t Established on = refl
acked_home t ShutdownPending on = refl
acked_home t ShutdownSent on = absurd (cc)
acked_home t ShutdownReceived on = refl
acked_home t ShutdownAckSent on = absurd (cc)

at_home : (e : EndView) (t : Tags) (g : Stage) → e.phase ≡ Open t g → is_home BeatAlarm (Open t g) ≡ true → is_home BeatAlarm e.phase ≡ true
at_home e t g is here = ap (is_home BeatAlarm) is ∙ here

beats_rested : (e : EndView) → IsBeatingAt e → IsBeatingAt (rested e)
beats_rested e r = rested_cases IsBeatingAt e r (λ t is d. beats_nowhere (Open t ShutdownSent) e refl) (λ t is d. beats_nowhere (Open t ShutdownAckSent) e refl)

beats_reconfigured : (e t : EndView) → IsReconfigured e t → IsBeatingAt e → IsBeatingAt t
beats_reconfigured e t u r n on home =
    ap (λ (x : Timer). is_some x.expiry) u.beat_timer ∙ r n (ap (λ (c : Configuration). c.heartbeat) (sym u.configuration) ∙ on) (ap (is_home BeatAlarm) (sym u.phase) ∙ home)

beats_asking : (e : EndView) → IsBeatingAt e → IsBeatingAt (asking e)
beats_asking e r = beats_reconfigured e (asking e) (asking_same e) r

-- ---- a chunk

-- a chunk after which the packet goes on
beats_goes : (e : EndView) (tag : ℕ) (x : ChunkMeaning) (y : Note) (t : EndView) → IsBeatingAt e → Acts e tag x (GoesOn y t) → IsBeatingAt t
beats_goes e tag (Data p) y t r (PieceComes _ _ _ _ _ _ _ _ _ _) = r
beats_goes e tag (IData p) y t r (PieceComes _ _ _ _ _ _ _ _ _ _) = r
beats_goes e tag (Init m) y t r h = absurd (cc)
beats_goes e tag (InitAck m) y t r (AcceptedAck d xs _ _ _ _) = beats_nowhere (Echoing (record { own = d.tag; peer = m.tag }) xs) (joined (terms_of_ack e.configuration d m) m.rwnd e) refl
beats_goes e tag (Sack s) y t r (SackStale _ _) = r
beats_goes e tag (Sack s) y t r (SackCounts hears none) = r
beats_goes e tag (Heartbeat i) y t r (HeartbeatCounts _) = r
beats_goes e tag (HeartbeatAck i) y t r h = let q : t ≡ beat_heard e i = cc in subst IsBeatingAt (sym q) r
beats_goes e tag (Abort b xs) y t r h = absurd (cc)
beats_goes e tag (Shutdown n) y t r (ShutdownStale k g is takes _) = beats_still (Open k ShutdownReceived) e refl (at_home e k g is (acked_home k g takes)) r
beats_goes e tag (Shutdown n) y t r (ShutdownCounts k g is takes none) = beats_still (Open k ShutdownReceived) (shutdown_counted e n) refl (at_home e k g is (acked_home k g takes)) r
beats_goes e tag (Shutdown n) y t r (Crosses k _) = beats_nowhere (Open k ShutdownAckSent) e refl
beats_goes e tag (Shutdown n) y t r (Again _ _) = r
beats_goes e tag ShutdownAck y t r h = elim h [ ]
beats_goes e tag (Error xs) y t r (SaysNothing _) = r
beats_goes e tag (CookieEcho xs) y t r (EchoedAgain _ _ _ _ _ _ _) = r
beats_goes e tag CookieAck y t r (CookieAcked k _ _) = beats_started (measured (echo_trip e.configuration.first_wait e.moment (e.timers CookieAlarm)) (e.timers CookieAlarm).wait (turned (Open k Established) e))
beats_goes e tag (ShutdownComplete b) y t r h = elim h [ ]
beats_goes e tag (ForwardTsn m) y t r (IsOld _ _ _ _ _ _ _) = r
beats_goes e tag (ForwardTsn m) y t r (ForwardComes _ _ _ _ _ _ _) = r
beats_goes e tag (IForwardTsn m) y t r (IsOld _ _ _ _ _ _ _) = r
beats_goes e tag (IForwardTsn m) y t r (ForwardComes _ _ _ _ _ _ _) = r
beats_goes e tag (Unknown n f v) y t r (ReconfigComes c _ _) = beats_reconfigured e t (parameters_same c e (typed_in v)) r
beats_goes e tag (Unknown n f v) y t r (IsUnknown _ _ h) = let u = unknown_goes e y t n f v h in subst IsBeatingAt (sym u.same) r

-- one that ends it
beats_ends : (e : EndView) (tag : ℕ) (x : ChunkMeaning) (t : EndView) → IsBeatingAt e → Acts e tag x (Ends t) → IsBeatingAt t
beats_ends e tag (Data p) t r h = elim h [ ]
beats_ends e tag (IData p) t r h = elim h [ ]
beats_ends e tag (Init m) t r h = absurd (cc)
beats_ends e tag (InitAck m) t r h = elim h [ ]
beats_ends e tag (Sack s) t r h = elim h [ ]
beats_ends e tag (Heartbeat i) t r h = elim h [ ]
beats_ends e tag (HeartbeatAck i) t r h = absurd (cc)
beats_ends e tag (Abort b xs) t r h = let q : t ≡ closed Aborted e = cc in subst IsBeatingAt (sym q) (beats_closed Aborted e)
beats_ends e tag (Shutdown n) t r h = elim h [ ]
beats_ends e tag ShutdownAck t r h = elim h [ ]
beats_ends e tag (Error xs) t r (Closes _) = beats_closed StaleCookie e
beats_ends e tag (CookieEcho xs) t r h = elim h [ ]
beats_ends e tag CookieAck t r h = elim h [ ]
beats_ends e tag (ShutdownComplete b) t r (CompleteCompleted _) = beats_closed Completed e
beats_ends e tag (ForwardTsn m) t r h = elim h [ ]
beats_ends e tag (IForwardTsn m) t r h = elim h [ ]
beats_ends e tag (Unknown n f v) t r (IsUnknown _ _ h) = let u = unknown_ends e t n f v h in subst IsBeatingAt (sym u.same) r

-- one that is answered
beats_replies : (e : EndView) (tag : ℕ) (x : ChunkMeaning) (t : EndView) (p : Packet) → IsBeatingAt e → Acts e tag x (Replies t p) → IsBeatingAt t
beats_replies e tag (Data q) t p r (PieceEmpty _ _ _ _ _) = beats_closed AbortedHere e
beats_replies e tag (Data q) t p r (WrongFormat _ _ _ _ _ _) = beats_closed AbortedHere e
beats_replies e tag (Data q) t p r (Misnumbered _ _ _ _ _ _ _ _ _) = beats_closed AbortedHere e
beats_replies e tag (IData q) t p r (PieceEmpty _ _ _ _ _) = beats_closed AbortedHere e
beats_replies e tag (IData q) t p r (WrongFormat _ _ _ _ _ _) = beats_closed AbortedHere e
beats_replies e tag (IData q) t p r (Misnumbered _ _ _ _ _ _ _ _ _) = beats_closed AbortedHere e
beats_replies e tag (Init m) t p r h = absurd (cc)
beats_replies e tag (InitAck m) t p r (RefusedAck _ _ _ _ _) = beats_closed AbortedHere e
beats_replies e tag (Sack s) t p r (SackWrong _ _ _ _ _) = beats_closed AbortedHere e
beats_replies e tag (Heartbeat i) t p r h = elim h [ ]
beats_replies e tag (HeartbeatAck i) t p r h = absurd (cc)
beats_replies e tag (Abort b xs) t p r h = absurd (cc)
beats_replies e tag (Shutdown n) t p r (ShutdownWrong _ _ _ _ _) = beats_closed AbortedHere e
beats_replies e tag ShutdownAck t p r (AckCompletes _ _ _ _) = beats_closed Completed e
beats_replies e tag (Error xs) t p r h = elim h [ ]
beats_replies e tag (CookieEcho xs) t p r h = elim h [ ]
beats_replies e tag CookieAck t p r h = elim h [ ]
beats_replies e tag (ShutdownComplete b) t p r h = elim h [ ]
beats_replies e tag (ForwardTsn m) t p r (WrongKind _ _ _ _ _) = beats_closed AbortedHere e
beats_replies e tag (ForwardTsn m) t p r (IsBad _ _ _ _ _ _ _) = beats_closed AbortedHere e
beats_replies e tag (IForwardTsn m) t p r (WrongKind _ _ _ _ _) = beats_closed AbortedHere e
beats_replies e tag (IForwardTsn m) t p r (IsBad _ _ _ _ _ _ _) = beats_closed AbortedHere e
beats_replies e tag (Unknown n f v) t p r (IsUnknown _ _ h) = absurd (unknown_never_replies e t p n f v h)

-- ---- a packet that arrives

beats_acts : (tag : ℕ) (e : EndView) (b : Notes) (xs : List ChunkMeaning) (t : EndView) (m : Notes) (v : Verdict) → IsBeatingAt e → AllAct tag e b xs t m v → IsBeatingAt t
beats_acts tag e b xs t m v r (NoneLeft _ _) = r
beats_acts tag e b xs t m v r (Next _ mid _ y _ _ x ys _ act rest) = beats_acts tag (rested mid) (noted y b) ys t m v (beats_rested mid (beats_goes e tag x y mid r act)) rest
beats_acts tag e b xs t m v r (Passes _ _ _ _ x ys _ act rest) = beats_acts tag e b ys t m v r rest
beats_acts tag e b xs t m v r (Last _ _ _ x ys act) = beats_ends e tag x t r act
beats_acts tag e b xs t m v r (EndsAnswered _ _ _ x ys p act) = beats_replies e tag x t p r act
beats_acts tag e b xs t m v r (Stopped _ _ x ys n act) = r

beats_ended : (n : Notes) (e : EndView) → IsBeatingAt e → IsBeatingAt (packet_ended n e)
beats_ended n e r = ended_cases IsBeatingAt n e r (λ t g is. r) (λ t g is. r) (λ x h. h)

beats_abandoning : (e : EndView) (a : SenderView) → IsBeatingAt e → IsBeatingAt (after_abandoning e a)
beats_abandoning e a r =
    beats_rested (settled (record e { sender = a; due = record e.due { forward = e.due.forward || not (point a == point e.sender) } })) r

beats_worn : (from : ℕ) (e : EndView) → IsBeatingAt e → IsBeatingAt (wearing from e)
beats_worn from e r = worn_cases IsBeatingAt from e r (λ test on. beats_abandoning e (worn test e.sender) r)

-- the association that a cookie begins
beats_begun : (b : Body) (e : EndView) → IsBeatingAt (begun b e)
beats_begun b e = beats_started (measured (Some (cookie_trip e.moment b)) e.configuration.first_wait (turned (Open (tags_of_body b) Established) (joined (terms_of_body b) b.rwnd e)))

pub beats_arrives : (e : EndView) (d : Draw) (p : Packet) (t : EndView) (v : Verdict) → IsBeatingAt e → Arrives e d p t v → IsBeatingAt t
beats_arrives e d p t v r (Elsewhere _) = r
beats_arrives e d p t v r (NotOurs _ _) = r
beats_arrives e d p t v r (Stray _ _ _ _) = r
beats_arrives e d p t v r (CookieBegins b u n _ _ _ _ _ acts gap _) =
    beats_ended (urged gap n) u (beats_acts p.tag (begun b e) (noted Unnoted no_notes) _ u n v (beats_begun b e) acts)
beats_arrives e d p t v r (Heard u n _ _ _ _ acts gap _) =
    beats_ended (urged gap n) (wearing (missed_below e.pace) u) (beats_worn (missed_below e.pace) u (beats_acts p.tag e no_notes p.chunks u n v r acts))

-- ---- a packet that is built

beats_built : (s : Slot) (e : EndView) → IsBeatingAt e → IsBeatingAt (once_built s e)
beats_built EchoSlot e r = r
beats_built CookieAckSlot e r = r
beats_built HeartbeatSlot e r = r
beats_built BeatSlot e r = r
beats_built ErrorSlot e r = r
beats_built SackSlot e r = r
beats_built ForwardSlot e r = r
beats_built AnswerSlot e r = r
beats_built RequestSlot e r = r
beats_built ShutdownSlot e r = r
beats_built ShutdownAckSlot e r = r

beats_puts : (ss : List Slot) (e : EndView) (xs zs : List ChunkMeaning) (full : Bool) (t : EndView) → IsBeatingAt e → Puts ss e xs zs full t → IsBeatingAt t
beats_puts ss e xs zs full t r (NoMore _ _) = r
beats_puts ss e xs zs full t r (NotDue _ more _ _ _ _ _ off rest) = beats_puts more e xs zs full t r rest
beats_puts ss e xs zs full t r (Put s more _ x _ _ _ _ due wants room rest) = beats_puts more (once_built s e) (xs ++ x ∷ []) zs full t (beats_built s e r) rest
beats_puts ss e xs zs full t r (IsFull _ _ _ _ _ due wants room) = r

pub beats_builds : (e : EndView) (zs : List ChunkMeaning) (t : EndView) → IsBeatingAt e → Builds e zs t → IsBeatingAt t
beats_builds e zs t r (Sleeps _) = r
beats_builds e zs t r (Waits _ _ _) = r
beats_builds e zs t r (Calls _ _ _) = r
beats_builds e zs t r (Echoes _ _ _ full _ is puts) = beats_puts _ e [] zs full t r puts
beats_builds e zs t r (EndsFull _ _ _ _ is puts) = beats_puts _ (asking e) [] zs true t (beats_asking e r) puts
beats_builds e zs t r (Fills _ _ ys x is puts) =
    beats_after (filled_behind x ys).wishes (with_timer DataAlarm (timer_after x (filled_behind x ys).wishes) (record x {
      sender = (filled_behind x ys).view;
      pace = option_map (sent_pace x.moment x.sender (filled_behind x ys).view (filled_behind x ys).wishes) x.pace;
    })) (beats_puts _ (asking e) [] ys false x (beats_asking e r) puts)

-- ---- time

beats_again : (a : Alarm) (e : EndView) → IsBeatingAt e → IsBeatingAt (due_again a (with_timer a (expired_timer e.configuration.longest_wait (e.timers a)) e))
beats_again InitAlarm e r = r
beats_again CookieAlarm e r = r
beats_again DataAlarm e r = r
beats_again ShutdownAlarm e r = r
beats_again AckAlarm e r = r
beats_again ResetAlarm e r = r
beats_again BeatAlarm e r = beats_started _
beats_again GuardAlarm e r = r

beats_rung : (b : Bool) (a : Alarm) (e : EndView) → IsBeatingAt e → IsBeatingAt (rung b a e)
beats_rung false a e r = r
beats_rung true a e r = go (may_go_on a e)
  where
    go : (c : Bool) → IsBeatingAt (if c then due_again a (with_timer a (expired_timer e.configuration.longest_wait (e.timers a)) e) else closed TimedOut e)
    go true = beats_again a e r
    go false = beats_closed TimedOut e

beats_rung_all : (alarms : List Alarm) (e : EndView) → IsBeatingAt e → IsBeatingAt (rung_all alarms e)
beats_rung_all [] e r = r
beats_rung_all (a ∷ more) e r = beats_rung_all more (ring a e) (beats_rung (is_over_at e.moment (e.timers a).expiry) a e r)

beats_waited : (b : Bool) (e : EndView) → IsBeatingAt e → IsBeatingAt (waited_in b e)
beats_waited false e r = r
beats_waited true e r = r

pub beats_ticked : (e : EndView) (now : ℕ) → IsBeatingAt e → IsBeatingAt (ticked e now)
beats_ticked e now r = go (has_association e.phase)
  where
    go : (b : Bool) → IsBeatingAt (if b then passed (at_moment e now) else at_moment e now)
    go false = r
    go true =
        let m = at_moment e now in
        let u = after_abandoning m (given_up (is_data_due m) m.sender m.moment) in
        let rang = rung_all all_alarms u in
        let abandoned = beats_abandoning m (given_up (is_data_due m) m.sender m.moment) r in
        beats_waited (is_over_at rang.moment rang.delayed) rang (beats_rung_all all_alarms u abandoned)

-- ---- calls

pub beats_sent : (e : EndView) (c : Call) → IsBeatingAt e → IsBeatingAt (send_leaves (send_answer e c) e c)
beats_sent e c r = go (hears is_established e.phase)
  where
    by : (o : Option Refusal) → refusal e.sender c.lane.stream c.bytes ≡ o → IsBeatingAt (send_leaves (answer_for e o) e c)
    by None none = r
    by (Some x) why = r

    go : (b : Bool) → IsBeatingAt (send_leaves (if b then answer_for e (refusal e.sender c.lane.stream c.bytes) else NotOpen) e c)
    go true = by (refusal e.sender c.lane.stream c.bytes) refl
    go false = r

pub beats_abandoned : (e : EndView) (n : ℕ) → IsBeatingAt e → IsBeatingAt (abandoned_at e n)
beats_abandoned e n r = go (is_open e.phase)
  where
    go : (b : Bool) → IsBeatingAt (if b then after_abandoning e (abandon_after e.sender n) else record e { sender = abandon_after e.sender n })
    go true = beats_abandoning e (abandon_after e.sender n) r
    go false = r

pub beats_reset : (e : EndView) (a : ResetCall) (n : ℕ) → IsBeatingAt e → IsBeatingAt (reset_leaves a e n)
beats_reset e Begun n r = r
beats_reset e NotAgreed n r = r
beats_reset e NoStream n r = r

pub beats_told : (e : EndView) (o : Option ℕ) → IsBeatingAt e → IsBeatingAt (told_leaves o e)
beats_told e None r = r
beats_told e (Some n) r = r

pub beats_shut : (e : EndView) → IsBeatingAt e → IsBeatingAt (shut e)
beats_shut e r = go e.phase refl
  where
    go : (h : Phase) → e.phase ≡ h → IsBeatingAt (shut_in h e)
    go (Open t Established) is = beats_rested (turned (Open t ShutdownPending) e) (beats_still (Open t ShutdownPending) e refl (at_home e t Established is refl) r)
    go (Open t ShutdownPending) is = r
    go (Open t ShutdownSent) is = r
    go (Open t ShutdownReceived) is = r
    go (Open t ShutdownAckSent) is = r
    go Idle is = r
    go Listening is = r
    go (Calling d) is = r
    go (Echoing t xs) is = r
    go (Over why) is = r

pub beats_aborted : (e : EndView) (a : AbortAnswer) → IsBeatingAt e → IsBeatingAt (abort_leaves a e)
beats_aborted e (Aborts x) r = beats_closed AbortedHere e
beats_aborted e NoPeer r = r
beats_aborted e TooLong r = r
