-- Whatever happens at an endpoint that is set up without round trips, it gets no pace.
use Rattle.std.proofs.Common.{ℕ, ◌≡◌, not, ◌||◌, ◌==◌, Bool, true, false, List, [], ◌∷◌, ◌++◌, Option, None, Some, refl, sym, subst, ap, ◌∙◌}
use Rattle.std.specs.Prelude.{if◌then◌else◌, nat_lt, option_map, ◌-◌}
use Rattle.sctp_model.specs.wire.Packet.{Packet, size_of_packet}
use Rattle.sctp_model.specs.wire.Chunk.{ChunkMeaning, Data, IData, Init, InitAck, Sack, Heartbeat, HeartbeatAck, Abort, Shutdown, ShutdownAck, Error, CookieEcho, CookieAck, ShutdownComplete, ForwardTsn, IForwardTsn, Unknown}
use Rattle.sctp_model.specs.world.Calls.{Call}
use Rattle.sctp_model.specs.sender.SenderView.{SenderView}
use Rattle.sctp_model.specs.sender.Queueing.{Refusal, refusal}
use Rattle.sctp_model.specs.sender.Readers.{point}
use Rattle.sctp_model.specs.sender.Abandoning.{abandon_after, worn}
use Rattle.sctp_model.specs.end.Sealing.{Body}
use Rattle.sctp_model.specs.end.EndView.{Draw, Aborted, TimedOut, Established, ShutdownPending, ShutdownSent, ShutdownReceived, ShutdownAckSent, Phase, Idle, Listening, Calling, Echoing, Open, Over, Alarm, InitAlarm, CookieAlarm, DataAlarm, ShutdownAlarm, AckAlarm, EndView, has_association, ResetAlarm, BeatAlarm, GuardAlarm, Configuration}
use Rattle.sctp_model.specs.end.Clock.{echo_trip, may_go_on, is_over_at, with_timer, closed, at_moment, settled, turned}
use Rattle.sctp_model.specs.end.Clock.{expired_timer}
use Rattle.sctp_model.specs.end.Closing.{rested, hears}
use Rattle.sctp_model.specs.end.PeerFaults.{GoesOn, Ends, Replies, Note, Unnoted}
use Rattle.sctp_model.specs.end.Opening.{AcceptedAck, RefusedAck, EchoedAgain, CookieAcked, joined, terms_of_body, cookie_trip, begun, pace_for}
use Rattle.sctp_model.specs.end.Beating.{beat_trip, beat_heard}
use Rattle.sctp_model.specs.end.Acting.{Acts, ForwardComes, PieceComes, IsOld, SackStale, ShutdownStale, HeartbeatCounts, SackCounts, ShutdownCounts, Closes, SaysNothing, Crosses, Again, AckCompletes, CompleteCompleted, PieceEmpty, WrongFormat, SackWrong, ShutdownWrong, WrongKind, IsBad, ReconfigComes, IsUnknown, Misnumbered}
use Rattle.sctp_model.specs.end.Wearing.{missed_below, wearing}
use Rattle.sctp_model.proofs.PacedEnds.{worn_cases}
use Rattle.sctp_model.specs.end.Arriving.{AllAct, NoneLeft, Next, Passes, Last, EndsAnswered, Stopped, Arrives, Elsewhere, NotOurs, Stray, CookieBegins, Heard, Notes, no_notes, noted, urged, packet_ended}
use Rattle.sctp_model.specs.end.Strays.{Verdict}
use Rattle.sctp_model.specs.end.Building.{filled_behind, Slot, Puts, NoMore, NotDue, Put, IsFull, Builds, Sleeps, Waits, Calls, Echoes, EndsFull, Fills, EchoSlot, CookieAckSlot, HeartbeatSlot, BeatSlot, ErrorSlot, SackSlot, ForwardSlot, ShutdownSlot, ShutdownAckSlot, once_built, AnswerSlot, RequestSlot}
use Rattle.sctp_model.specs.end.Moments.{after_abandoning, is_data_due, given_up, due_again, rung, ring, rung_all, all_alarms, waited_in, passed, ticked}
use Rattle.sctp_model.specs.end.UserCalls.{is_established, answer_for, send_answer, send_leaves, NotOpen, is_open, abandoned_at, shut_in, shut, AbortAnswer, Aborts, NoPeer, TooLong, abort_leaves, ResetCall, Begun, NotAgreed, NoStream, reset_leaves, told_leaves}
use Rattle.sctp_safety.proofs.machine.EndWords.{rested_cases, ended_cases}
use Rattle.sctp_safety.proofs.machine.Sides.{unknown_goes, unknown_ends, unknown_never_replies}
use Rattle.sctp_model.specs.sender.SackTaken.{sack_taken, shutdown_taken}
use Rattle.sctp_model.specs.end.Reconfiguring.{asking}
use Rattle.sctp_model.specs.wire.Typed.{typed_in}
use Rattle.sctp_safety.proofs.machine.Reconfigured.{IsReconfigured, parameters_same, asking_same}
use Rattle.sctp_model.specs.end.Misses.{last_sent}
use Rattle.sctp_model.specs.end.Pacing.{Pace, pace_begun, fresh_pace, heard, expired_pace, sent_pace}
use Rattle.sctp_model.specs.sender.Words.{when}

-- ---- an endpoint

-- it has no pace if it is set up without
abbrev pub IsPlainAt : EndView → Type 0
IsPlainAt e = e.configuration.fast_retransmit ≡ false → e.pace ≡ None

-- an association that begins
pub plain_anew : (e : EndView) (header window : ℕ) → e.pace ≡ pace_for e.configuration header window → IsPlainAt e
plain_anew e header window is off = is ∙ by e.configuration.fast_retransmit off
  where
    by : (b : Bool) → b ≡ false → when b (fresh_pace e.configuration.congestion_control e.configuration.growth e.configuration.cubic header (e.configuration.limit - size_of_packet []) window) ≡ None
    by true on = absurd (cc)
    by false on = refl

-- what changes a pace makes none
none_from : (f : Pace → Pace) (e : EndView) → IsPlainAt e → e.configuration.fast_retransmit ≡ false → option_map f e.pace ≡ None
none_from f e r off = ap (option_map f) (r off)

plain_rested : (e : EndView) → IsPlainAt e → IsPlainAt (rested e)
plain_rested e r = rested_cases IsPlainAt e r (λ t is d. r) (λ t is d. r)

plain_reconfigured : (e t : EndView) → IsReconfigured e t → IsPlainAt e → IsPlainAt t
plain_reconfigured e t u r = λ off. u.pace ∙ r (ap (λ (c : Configuration). c.fast_retransmit) (sym u.configuration) ∙ off)

plain_asking : (e : EndView) → IsPlainAt e → IsPlainAt (asking e)
plain_asking e r = plain_reconfigured e (asking e) (asking_same e) r

-- ---- a chunk

-- a chunk after which the packet goes on
plain_goes : (e : EndView) (tag : ℕ) (x : ChunkMeaning) (y : Note) (t : EndView) → IsPlainAt e → Acts e tag x (GoesOn y t) → IsPlainAt t
plain_goes e tag (Data p) y t r (PieceComes _ _ _ _ _ _ _ _ _ _) = r
plain_goes e tag (IData p) y t r (PieceComes _ _ _ _ _ _ _ _ _ _) = r
plain_goes e tag (Init m) y t r h = absurd (cc)
plain_goes e tag (InitAck m) y t r (AcceptedAck _ _ _ _ _ _) = plain_anew t _ m.rwnd refl
plain_goes e tag (Sack s) y t r (SackStale _ _) = r
plain_goes e tag (Sack s) y t r (SackCounts hears none) = none_from (λ p. (heard e.moment e.sender (sack_taken e.sender s) p).pace) e r
plain_goes e tag (Heartbeat i) y t r (HeartbeatCounts _) = r
plain_goes e tag (HeartbeatAck i) y t r h = let q : t ≡ beat_heard e i = cc in subst IsPlainAt (sym q) (none_from (pace_begun (beat_trip e i)) e r)
plain_goes e tag (Abort b xs) y t r h = absurd (cc)
plain_goes e tag (Shutdown n) y t r (ShutdownStale _ _ _ _ _) = r
plain_goes e tag (Shutdown n) y t r (ShutdownCounts _ _ _ _ none) = none_from (λ p. (heard e.moment e.sender (shutdown_taken e.sender n) p).pace) e r
plain_goes e tag (Shutdown n) y t r (Crosses _ _) = r
plain_goes e tag (Shutdown n) y t r (Again _ _) = r
plain_goes e tag ShutdownAck y t r h = elim h [ ]
plain_goes e tag (Error xs) y t r (SaysNothing _) = r
plain_goes e tag (CookieEcho xs) y t r (EchoedAgain _ _ _ _ _ _ _) = r
plain_goes e tag CookieAck y t r (CookieAcked _ _ _) = none_from (pace_begun (echo_trip e.configuration.first_wait e.moment (e.timers CookieAlarm))) e r
plain_goes e tag (ShutdownComplete b) y t r h = elim h [ ]
plain_goes e tag (ForwardTsn m) y t r (IsOld _ _ _ _ _ _ _) = r
plain_goes e tag (ForwardTsn m) y t r (ForwardComes _ _ _ _ _ _ _) = r
plain_goes e tag (IForwardTsn m) y t r (IsOld _ _ _ _ _ _ _) = r
plain_goes e tag (IForwardTsn m) y t r (ForwardComes _ _ _ _ _ _ _) = r
plain_goes e tag (Unknown n f v) y t r (ReconfigComes c _ _) = plain_reconfigured e t (parameters_same c e (typed_in v)) r
plain_goes e tag (Unknown n f v) y t r (IsUnknown _ _ h) = let u = unknown_goes e y t n f v h in subst IsPlainAt (sym u.same) r

-- one that ends it
plain_ends : (e : EndView) (tag : ℕ) (x : ChunkMeaning) (t : EndView) → IsPlainAt e → Acts e tag x (Ends t) → IsPlainAt t
plain_ends e tag (Data p) t r h = elim h [ ]
plain_ends e tag (IData p) t r h = elim h [ ]
plain_ends e tag (Init m) t r h = absurd (cc)
plain_ends e tag (InitAck m) t r h = elim h [ ]
plain_ends e tag (Sack s) t r h = elim h [ ]
plain_ends e tag (Heartbeat i) t r h = elim h [ ]
plain_ends e tag (HeartbeatAck i) t r h = absurd (cc)
plain_ends e tag (Abort b xs) t r h = let q : t ≡ closed Aborted e = cc in subst IsPlainAt (sym q) r
plain_ends e tag (Shutdown n) t r h = elim h [ ]
plain_ends e tag ShutdownAck t r h = elim h [ ]
plain_ends e tag (Error xs) t r (Closes _) = r
plain_ends e tag (CookieEcho xs) t r h = elim h [ ]
plain_ends e tag CookieAck t r h = elim h [ ]
plain_ends e tag (ShutdownComplete b) t r (CompleteCompleted _) = r
plain_ends e tag (ForwardTsn m) t r h = elim h [ ]
plain_ends e tag (IForwardTsn m) t r h = elim h [ ]
plain_ends e tag (Unknown n f v) t r (IsUnknown _ _ h) = let u = unknown_ends e t n f v h in subst IsPlainAt (sym u.same) r

-- one that is answered
plain_replies : (e : EndView) (tag : ℕ) (x : ChunkMeaning) (t : EndView) (p : Packet) → IsPlainAt e → Acts e tag x (Replies t p) → IsPlainAt t
plain_replies e tag (Data q) t p r (PieceEmpty _ _ _ _ _) = r
plain_replies e tag (Data q) t p r (WrongFormat _ _ _ _ _ _) = r
plain_replies e tag (Data q) t p r (Misnumbered _ _ _ _ _ _ _ _ _) = r
plain_replies e tag (IData q) t p r (PieceEmpty _ _ _ _ _) = r
plain_replies e tag (IData q) t p r (WrongFormat _ _ _ _ _ _) = r
plain_replies e tag (IData q) t p r (Misnumbered _ _ _ _ _ _ _ _ _) = r
plain_replies e tag (Init m) t p r h = absurd (cc)
plain_replies e tag (InitAck m) t p r (RefusedAck _ _ _ _ _) = r
plain_replies e tag (Sack s) t p r (SackWrong _ _ _ _ _) = r
plain_replies e tag (Heartbeat i) t p r h = elim h [ ]
plain_replies e tag (HeartbeatAck i) t p r h = absurd (cc)
plain_replies e tag (Abort b xs) t p r h = absurd (cc)
plain_replies e tag (Shutdown n) t p r (ShutdownWrong _ _ _ _ _) = r
plain_replies e tag ShutdownAck t p r (AckCompletes _ _ _ _) = r
plain_replies e tag (Error xs) t p r h = elim h [ ]
plain_replies e tag (CookieEcho xs) t p r h = elim h [ ]
plain_replies e tag CookieAck t p r h = elim h [ ]
plain_replies e tag (ShutdownComplete b) t p r h = elim h [ ]
plain_replies e tag (ForwardTsn m) t p r (WrongKind _ _ _ _ _) = r
plain_replies e tag (ForwardTsn m) t p r (IsBad _ _ _ _ _ _ _) = r
plain_replies e tag (IForwardTsn m) t p r (WrongKind _ _ _ _ _) = r
plain_replies e tag (IForwardTsn m) t p r (IsBad _ _ _ _ _ _ _) = r
plain_replies e tag (Unknown n f v) t p r (IsUnknown _ _ h) = absurd (unknown_never_replies e t p n f v h)

-- ---- a packet that arrives

plain_acts : (tag : ℕ) (e : EndView) (b : Notes) (xs : List ChunkMeaning) (t : EndView) (m : Notes) (v : Verdict) → IsPlainAt e → AllAct tag e b xs t m v → IsPlainAt t
plain_acts tag e b xs t m v r (NoneLeft _ _) = r
plain_acts tag e b xs t m v r (Next _ mid _ y _ _ x ys _ act rest) = plain_acts tag (rested mid) (noted y b) ys t m v (plain_rested mid (plain_goes e tag x y mid r act)) rest
plain_acts tag e b xs t m v r (Passes _ _ _ _ x ys _ act rest) = plain_acts tag e b ys t m v r rest
plain_acts tag e b xs t m v r (Last _ _ _ x ys act) = plain_ends e tag x t r act
plain_acts tag e b xs t m v r (EndsAnswered _ _ _ x ys p act) = plain_replies e tag x t p r act
plain_acts tag e b xs t m v r (Stopped _ _ x ys n act) = r

plain_ended : (n : Notes) (e : EndView) → IsPlainAt e → IsPlainAt (packet_ended n e)
plain_ended n e r = ended_cases IsPlainAt n e r (λ t g is. r) (λ t g is. r) (λ x h. h)

plain_abandoning : (e : EndView) (a : SenderView) → IsPlainAt e → IsPlainAt (after_abandoning e a)
plain_abandoning e a r =
    plain_rested (settled (record e { sender = a; due = record e.due { forward = e.due.forward || not (point a == point e.sender) } })) r

plain_worn : (from : ℕ) (e : EndView) → IsPlainAt e → IsPlainAt (wearing from e)
plain_worn from e r = worn_cases IsPlainAt from e r (λ test on. plain_abandoning e (worn test e.sender) r)

-- the association that a cookie begins
plain_begun : (b : Body) (e : EndView) → IsPlainAt (begun b e)
plain_begun b e = none_from (pace_begun (Some (cookie_trip e.moment b))) (joined (terms_of_body b) b.rwnd e) (plain_anew (joined (terms_of_body b) b.rwnd e) _ b.rwnd refl)

pub plain_arrives : (e : EndView) (d : Draw) (p : Packet) (t : EndView) (v : Verdict) → IsPlainAt e → Arrives e d p t v → IsPlainAt t
plain_arrives e d p t v r (Elsewhere _) = r
plain_arrives e d p t v r (NotOurs _ _) = r
plain_arrives e d p t v r (Stray _ _ _ _) = r
plain_arrives e d p t v r (CookieBegins b u n _ _ _ _ _ acts gap _) =
    plain_ended (urged gap n) u (plain_acts p.tag (begun b e) (noted Unnoted no_notes) _ u n v (plain_begun b e) acts)
plain_arrives e d p t v r (Heard u n _ _ _ _ acts gap _) =
    plain_ended (urged gap n) (wearing (missed_below e.pace) u) (plain_worn (missed_below e.pace) u (plain_acts p.tag e no_notes p.chunks u n v r acts))

-- ---- a packet that is built

plain_built : (s : Slot) (e : EndView) → IsPlainAt e → IsPlainAt (once_built s e)
plain_built EchoSlot e r = r
plain_built CookieAckSlot e r = r
plain_built HeartbeatSlot e r = r
plain_built BeatSlot e r = r
plain_built ErrorSlot e r = r
plain_built SackSlot e r = r
plain_built ForwardSlot e r = r
plain_built AnswerSlot e r = r
plain_built RequestSlot e r = r
plain_built ShutdownSlot e r = r
plain_built ShutdownAckSlot e r = r

plain_puts : (ss : List Slot) (e : EndView) (xs zs : List ChunkMeaning) (full : Bool) (t : EndView) → IsPlainAt e → Puts ss e xs zs full t → IsPlainAt t
plain_puts ss e xs zs full t r (NoMore _ _) = r
plain_puts ss e xs zs full t r (NotDue _ more _ _ _ _ _ off rest) = plain_puts more e xs zs full t r rest
plain_puts ss e xs zs full t r (Put s more _ x _ _ _ _ due wants room rest) = plain_puts more (once_built s e) (xs ++ x ∷ []) zs full t (plain_built s e r) rest
plain_puts ss e xs zs full t r (IsFull _ _ _ _ _ due wants room) = r

pub plain_builds : (e : EndView) (zs : List ChunkMeaning) (t : EndView) → IsPlainAt e → Builds e zs t → IsPlainAt t
plain_builds e zs t r (Sleeps _) = r
plain_builds e zs t r (Waits _ _ _) = r
plain_builds e zs t r (Calls _ _ _) = r
plain_builds e zs t r (Echoes _ _ _ full _ is puts) = plain_puts _ e [] zs full t r puts
plain_builds e zs t r (EndsFull _ _ _ _ is puts) = plain_puts _ (asking e) [] zs true t (plain_asking e r) puts
plain_builds e zs t r (Fills _ _ ys x is puts) =
    none_from (sent_pace x.moment x.sender (filled_behind x ys).view (filled_behind x ys).wishes) x (plain_puts _ (asking e) [] ys false x (plain_asking e r) puts)

-- ---- time

plain_again : (a : Alarm) (e : EndView) → IsPlainAt e → IsPlainAt (due_again a e)
plain_again InitAlarm e r = r
plain_again CookieAlarm e r = r
plain_again DataAlarm e r = none_from (expired_pace e.sender) e r
plain_again ShutdownAlarm e r = r
plain_again AckAlarm e r = r
plain_again ResetAlarm e r = r
plain_again BeatAlarm e r = r
plain_again GuardAlarm e r = r

plain_rung : (b : Bool) (a : Alarm) (e : EndView) → IsPlainAt e → IsPlainAt (rung b a e)
plain_rung false a e r = r
plain_rung true a e r = go (may_go_on a e)
  where
    go : (c : Bool) → IsPlainAt (if c then due_again a (with_timer a (expired_timer e.configuration.longest_wait (e.timers a)) e) else closed TimedOut e)
    go true = plain_again a (with_timer a (expired_timer e.configuration.longest_wait (e.timers a)) e) r
    go false = r

plain_rung_all : (alarms : List Alarm) (e : EndView) → IsPlainAt e → IsPlainAt (rung_all alarms e)
plain_rung_all [] e r = r
plain_rung_all (a ∷ more) e r = plain_rung_all more (ring a e) (plain_rung (is_over_at e.moment (e.timers a).expiry) a e r)

plain_waited : (b : Bool) (e : EndView) → IsPlainAt e → IsPlainAt (waited_in b e)
plain_waited false e r = r
plain_waited true e r = r

pub plain_ticked : (e : EndView) (now : ℕ) → IsPlainAt e → IsPlainAt (ticked e now)
plain_ticked e now r = go (has_association e.phase)
  where
    go : (b : Bool) → IsPlainAt (if b then passed (at_moment e now) else at_moment e now)
    go false = r
    go true =
        let m = at_moment e now in
        let u = after_abandoning m (given_up (is_data_due m) m.sender m.moment) in
        let rang = rung_all all_alarms u in
        let abandoned = plain_abandoning m (given_up (is_data_due m) m.sender m.moment) r in
        plain_waited (is_over_at rang.moment rang.delayed) rang (plain_rung_all all_alarms u abandoned)

-- ---- calls

pub plain_sent : (e : EndView) (c : Call) → IsPlainAt e → IsPlainAt (send_leaves (send_answer e c) e c)
plain_sent e c r = go (hears is_established e.phase)
  where
    by : (o : Option Refusal) → refusal e.sender c.lane.stream c.bytes ≡ o → IsPlainAt (send_leaves (answer_for e o) e c)
    by None none = r
    by (Some x) why = r

    go : (b : Bool) → IsPlainAt (send_leaves (if b then answer_for e (refusal e.sender c.lane.stream c.bytes) else NotOpen) e c)
    go true = by (refusal e.sender c.lane.stream c.bytes) refl
    go false = r

pub plain_abandoned : (e : EndView) (n : ℕ) → IsPlainAt e → IsPlainAt (abandoned_at e n)
plain_abandoned e n r = go (is_open e.phase)
  where
    go : (b : Bool) → IsPlainAt (if b then after_abandoning e (abandon_after e.sender n) else record e { sender = abandon_after e.sender n })
    go true = plain_abandoning e (abandon_after e.sender n) r
    go false = r

pub plain_reset : (e : EndView) (a : ResetCall) (n : ℕ) → IsPlainAt e → IsPlainAt (reset_leaves a e n)
plain_reset e Begun n r = r
plain_reset e NotAgreed n r = r
plain_reset e NoStream n r = r

pub plain_told : (e : EndView) (o : Option ℕ) → IsPlainAt e → IsPlainAt (told_leaves o e)
plain_told e None r = r
plain_told e (Some n) r = r

pub plain_shut : (e : EndView) → IsPlainAt e → IsPlainAt (shut e)
plain_shut e r = go e.phase
  where
    go : (h : Phase) → IsPlainAt (shut_in h e)
    go (Open t Established) = plain_rested (turned (Open t ShutdownPending) e) r
    go (Open t ShutdownPending) = r
    go (Open t ShutdownSent) = r
    go (Open t ShutdownReceived) = r
    go (Open t ShutdownAckSent) = r
    go Idle = r
    go Listening = r
    go (Calling d) = r
    go (Echoing t xs) = r
    go (Over why) = r

pub plain_aborted : (e : EndView) (a : AbortAnswer) → IsPlainAt e → IsPlainAt (abort_leaves a e)
plain_aborted e (Aborts x) r = r
plain_aborted e NoPeer r = r
plain_aborted e TooLong r = r
