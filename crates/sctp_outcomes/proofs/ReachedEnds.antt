-- Whatever happens at an endpoint, its sender stays one that its calls reach, as far as its fragments aren't empty.
use Rattle.std.proofs.Common.{ℕ, ◌<◌, ◌≡◌, not, ◌||◌, ◌==◌, Bool, true, false, List, [], ◌∷◌, ◌++◌, Option, None, Some, refl, sym, subst}
use Rattle.std.specs.Prelude.{if◌then◌else◌, nat_lt}
use Rattle.sctp_model.specs.wire.Packet.{Packet}
use Rattle.sctp_model.specs.wire.Chunk.{ChunkMeaning, Data, IData, Init, InitAck, Sack, Heartbeat, HeartbeatAck, Abort, Shutdown, ShutdownAck, Error, CookieEcho, CookieAck, ShutdownComplete, ForwardTsn, IForwardTsn, Unknown}
use Rattle.sctp_model.specs.world.Calls.{Call}
use Rattle.sctp_model.specs.sender.SenderView.{SenderView, fresh_sender, SendLimits}
use Rattle.sctp_model.specs.sender.Queueing.{Refusal, refusal}
use Rattle.sctp_model.specs.sender.Readers.{point}
use Rattle.sctp_model.specs.sender.Abandoning.{abandon_after, worn}
use Rattle.sctp_model.specs.sender.Abandoning.{expired as expired_messages}
use Rattle.sctp_model.specs.sender.Reached.{IsReached, Begins, Queues, Covers, Abandons, Repeats, Rebases}
use Rattle.sctp_model.specs.sender.Reached.{Closes as Shuts}
use Rattle.sctp_model.specs.end.EndView.{Draw, Aborted, TimedOut, Established, ShutdownPending, ShutdownSent, ShutdownReceived, ShutdownAckSent, Phase, Idle, Listening, Calling, Echoing, Open, Over, Alarm, InitAlarm, CookieAlarm, DataAlarm, ShutdownAlarm, AckAlarm, EndView, format_of, has_association, ResetAlarm, Terms, Configuration, format_for}
use Rattle.sctp_model.specs.end.EndView.{BeatAlarm, GuardAlarm}
use Rattle.sctp_model.specs.end.Clock.{is_over_at, with_timer, closed, at_moment, settled, turned}
use Rattle.sctp_model.specs.end.Clock.{expired_timer, may_go_on}
use Rattle.sctp_model.specs.end.Closing.{rested, hears}
use Rattle.sctp_model.specs.end.PeerFaults.{GoesOn, Ends, Replies, Note, Unnoted}
use Rattle.sctp_model.specs.end.Opening.{AcceptedAck, RefusedAck, EchoedAgain, CookieAcked, begun}
use Rattle.sctp_model.specs.end.Beating.{beat_heard}
use Rattle.sctp_model.specs.end.Acting.{Acts, ForwardComes, PieceComes, IsOld, SackStale, ShutdownStale, HeartbeatCounts, SackCounts, ShutdownCounts, Closes, SaysNothing, Crosses, Again, AckCompletes, CompleteCompleted, PieceEmpty, WrongFormat, SackWrong, ShutdownWrong, WrongKind, IsBad, ReconfigComes, IsUnknown, Misnumbered}
use Rattle.sctp_model.specs.end.Wearing.{missed_below, wearing}
use Rattle.sctp_model.proofs.PacedEnds.{worn_cases}
use Rattle.sctp_model.specs.end.Arriving.{AllAct, NoneLeft, Next, Passes, Last, EndsAnswered, Stopped, Arrives, Elsewhere, NotOurs, Stray, CookieBegins, Heard, Notes, no_notes, noted, urged, packet_ended}
use Rattle.sctp_model.specs.end.Strays.{Verdict}
use Rattle.sctp_model.specs.end.Building.{filled_behind, Slot, Puts, NoMore, NotDue, Put, IsFull, Builds, Sleeps, Waits, Calls, Echoes, EndsFull, Fills, EchoSlot, CookieAckSlot, HeartbeatSlot, ErrorSlot, SackSlot, ForwardSlot, ShutdownSlot, ShutdownAckSlot, once_built, room_behind, AnswerSlot, RequestSlot}
use Rattle.sctp_model.specs.end.Building.{BeatSlot}
use Rattle.sctp_model.specs.end.Moments.{after_abandoning, is_data_due, given_up, due_again, rung, ring, rung_all, all_alarms, waited_in, passed, ticked}
use Rattle.sctp_model.specs.end.UserCalls.{is_established, answer_for, send_answer, send_leaves, NotOpen, is_open, abandoned_at, shut_in, shut, AbortAnswer, Aborts, NoPeer, TooLong, abort_leaves, ResetCall, Begun, NotAgreed, NoStream, reset_leaves, told_leaves}
use Rattle.sctp_model.proofs.sender.FillLaws.{fill_is_fill}
use Rattle.sctp_model.proofs.sender.AbandonedLaws.{expired_reached}
use Rattle.sctp_model.proofs.sender.WornLaws.{worn_reached}
use Rattle.sctp_safety.proofs.machine.EndWords.{rested_cases, ended_cases}
use Rattle.sctp_safety.proofs.machine.Sides.{unknown_goes, unknown_ends, unknown_never_replies}
use Rattle.sctp_safety.proofs.runs.Sending.{follows_reached}
use Rattle.sctp_model.proofs.sender.HeardLaws.{heard_reached}
use Rattle.sctp_model.specs.sender.SackTaken.{sack_taken, shutdown_taken}
use Rattle.sctp_model.specs.end.Reconfiguring.{asking}
use Rattle.sctp_model.specs.sender.Resetting.{resetting}
use Rattle.sctp_model.specs.wire.Typed.{typed_in}
use Rattle.sctp_safety.proofs.machine.Reconfigured.{IsReconfigured, parameters_same, asking_same, again_same}

-- ---- an endpoint

-- its sender is one that its calls reach, as far as its fragments aren't empty
abbrev pub IsReachedAt : EndView → Type 0
IsReachedAt e = 0 < e.configuration.fragment → IsReached (format_of e) e.sender

-- a sender as it is made, with this endpoint's fragments
pub reached_anew : (e : EndView) (initial streams rwnd : ℕ) (partial : Bool) (limits : SendLimits) → e.sender ≡ fresh_sender initial streams e.configuration.fragment rwnd partial limits → IsReachedAt e
reached_anew e initial streams rwnd partial limits is = λ some.
    subst (λ (v : SenderView). IsReached (format_of e) v) (sym is) (Begins initial streams e.configuration.fragment rwnd partial limits some)

reached_rested : (e : EndView) → IsReachedAt e → IsReachedAt (rested e)
reached_rested e r = rested_cases IsReachedAt e r (λ t is d. r) (λ t is d. r)

-- what it knows of resets may be anything
pub reached_reconfigured : (e t : EndView) → IsReconfigured e t → IsReachedAt e → IsReachedAt t
reached_reconfigured e t u r = λ some.
    subst (λ (x : Terms). IsReached (format_for x.interleave) t.sender) (sym u.terms)
    (subst (λ (v : SenderView). IsReached (format_of e) v) (sym u.sender.1) (Rebases e.sender u.sender.0 (r (subst (λ (c : Configuration). 0 < c.fragment) u.configuration some))))

reached_asking : (e : EndView) → IsReachedAt e → IsReachedAt (asking e)
reached_asking e r = reached_reconfigured e (asking e) (asking_same e) r

-- ---- a chunk

-- a chunk after which the packet goes on
reached_goes : (e : EndView) (tag : ℕ) (x : ChunkMeaning) (y : Note) (t : EndView) → IsReachedAt e → Acts e tag x (GoesOn y t) → IsReachedAt t
reached_goes e tag (Data p) y t r (PieceComes _ _ _ _ _ _ _ _ _ _) = r
reached_goes e tag (IData p) y t r (PieceComes _ _ _ _ _ _ _ _ _ _) = r
reached_goes e tag (Init m) y t r h = absurd (cc)
reached_goes e tag (InitAck m) y t r (AcceptedAck _ _ _ _ _ _) = reached_anew t _ _ _ _ _ refl
reached_goes e tag (Sack s) y t r (SackStale _ _) = r
reached_goes e tag (Sack s) y t r (SackCounts hears none) = λ some. heard_reached (format_of e) e.pace e.moment e.sender (sack_taken e.sender s) (Covers e.sender s (r some) none)
reached_goes e tag (Heartbeat i) y t r (HeartbeatCounts _) = r
reached_goes e tag (HeartbeatAck i) y t r h = let q : t ≡ beat_heard e i = cc in subst IsReachedAt (sym q) r
reached_goes e tag (Abort b xs) y t r h = absurd (cc)
reached_goes e tag (Shutdown n) y t r (ShutdownStale _ _ _ _ _) = r
reached_goes e tag (Shutdown n) y t r (ShutdownCounts _ _ _ _ none) = λ some. heard_reached (format_of e) e.pace e.moment e.sender (shutdown_taken e.sender n) (Shuts e.sender n (r some) none)
reached_goes e tag (Shutdown n) y t r (Crosses _ _) = r
reached_goes e tag (Shutdown n) y t r (Again _ _) = r
reached_goes e tag ShutdownAck y t r h = elim h [ ]
reached_goes e tag (Error xs) y t r (SaysNothing _) = r
reached_goes e tag (CookieEcho xs) y t r (EchoedAgain _ _ _ _ _ _ _) = r
reached_goes e tag CookieAck y t r (CookieAcked _ _ _) = r
reached_goes e tag (ShutdownComplete b) y t r h = elim h [ ]
reached_goes e tag (ForwardTsn m) y t r (IsOld _ _ _ _ _ _ _) = r
reached_goes e tag (ForwardTsn m) y t r (ForwardComes _ _ _ _ _ _ _) = r
reached_goes e tag (IForwardTsn m) y t r (IsOld _ _ _ _ _ _ _) = r
reached_goes e tag (IForwardTsn m) y t r (ForwardComes _ _ _ _ _ _ _) = r
reached_goes e tag (Unknown n f v) y t r (ReconfigComes c _ _) = reached_reconfigured e t (parameters_same c e (typed_in v)) r
reached_goes e tag (Unknown n f v) y t r (IsUnknown _ _ h) = let u = unknown_goes e y t n f v h in subst IsReachedAt (sym u.same) r

-- one that ends it
reached_ends : (e : EndView) (tag : ℕ) (x : ChunkMeaning) (t : EndView) → IsReachedAt e → Acts e tag x (Ends t) → IsReachedAt t
reached_ends e tag (Data p) t r h = elim h [ ]
reached_ends e tag (IData p) t r h = elim h [ ]
reached_ends e tag (Init m) t r h = absurd (cc)
reached_ends e tag (InitAck m) t r h = elim h [ ]
reached_ends e tag (Sack s) t r h = elim h [ ]
reached_ends e tag (Heartbeat i) t r h = elim h [ ]
reached_ends e tag (HeartbeatAck i) t r h = absurd (cc)
reached_ends e tag (Abort b xs) t r h = let q : t ≡ closed Aborted e = cc in subst IsReachedAt (sym q) r
reached_ends e tag (Shutdown n) t r h = elim h [ ]
reached_ends e tag ShutdownAck t r h = elim h [ ]
reached_ends e tag (Error xs) t r (Closes _) = r
reached_ends e tag (CookieEcho xs) t r h = elim h [ ]
reached_ends e tag CookieAck t r h = elim h [ ]
reached_ends e tag (ShutdownComplete b) t r (CompleteCompleted _) = r
reached_ends e tag (ForwardTsn m) t r h = elim h [ ]
reached_ends e tag (IForwardTsn m) t r h = elim h [ ]
reached_ends e tag (Unknown n f v) t r (IsUnknown _ _ h) = let u = unknown_ends e t n f v h in subst IsReachedAt (sym u.same) r

-- one that is answered
reached_replies : (e : EndView) (tag : ℕ) (x : ChunkMeaning) (t : EndView) (p : Packet) → IsReachedAt e → Acts e tag x (Replies t p) → IsReachedAt t
reached_replies e tag (Data q) t p r (PieceEmpty _ _ _ _ _) = r
reached_replies e tag (Data q) t p r (WrongFormat _ _ _ _ _ _) = r
reached_replies e tag (Data q) t p r (Misnumbered _ _ _ _ _ _ _ _ _) = r
reached_replies e tag (IData q) t p r (PieceEmpty _ _ _ _ _) = r
reached_replies e tag (IData q) t p r (WrongFormat _ _ _ _ _ _) = r
reached_replies e tag (IData q) t p r (Misnumbered _ _ _ _ _ _ _ _ _) = r
reached_replies e tag (Init m) t p r h = absurd (cc)
reached_replies e tag (InitAck m) t p r (RefusedAck _ _ _ _ _) = r
reached_replies e tag (Sack s) t p r (SackWrong _ _ _ _ _) = r
reached_replies e tag (Heartbeat i) t p r h = elim h [ ]
reached_replies e tag (HeartbeatAck i) t p r h = absurd (cc)
reached_replies e tag (Abort b xs) t p r h = absurd (cc)
reached_replies e tag (Shutdown n) t p r (ShutdownWrong _ _ _ _ _) = r
reached_replies e tag ShutdownAck t p r (AckCompletes _ _ _ _) = r
reached_replies e tag (Error xs) t p r h = elim h [ ]
reached_replies e tag (CookieEcho xs) t p r h = elim h [ ]
reached_replies e tag CookieAck t p r h = elim h [ ]
reached_replies e tag (ShutdownComplete b) t p r h = elim h [ ]
reached_replies e tag (ForwardTsn m) t p r (WrongKind _ _ _ _ _) = r
reached_replies e tag (ForwardTsn m) t p r (IsBad _ _ _ _ _ _ _) = r
reached_replies e tag (IForwardTsn m) t p r (WrongKind _ _ _ _ _) = r
reached_replies e tag (IForwardTsn m) t p r (IsBad _ _ _ _ _ _ _) = r
reached_replies e tag (Unknown n f v) t p r (IsUnknown _ _ h) = absurd (unknown_never_replies e t p n f v h)

-- ---- a packet that arrives

reached_acts : (tag : ℕ) (e : EndView) (b : Notes) (xs : List ChunkMeaning) (t : EndView) (m : Notes) (v : Verdict) → IsReachedAt e → AllAct tag e b xs t m v → IsReachedAt t
reached_acts tag e b xs t m v r (NoneLeft _ _) = r
reached_acts tag e b xs t m v r (Next _ mid _ y _ _ x ys _ act rest) = reached_acts tag (rested mid) (noted y b) ys t m v (reached_rested mid (reached_goes e tag x y mid r act)) rest
reached_acts tag e b xs t m v r (Passes _ _ _ _ x ys _ act rest) = reached_acts tag e b ys t m v r rest
reached_acts tag e b xs t m v r (Last _ _ _ x ys act) = reached_ends e tag x t r act
reached_acts tag e b xs t m v r (EndsAnswered _ _ _ x ys p act) = reached_replies e tag x t p r act
reached_acts tag e b xs t m v r (Stopped _ _ x ys n act) = r

reached_ended : (n : Notes) (e : EndView) → IsReachedAt e → IsReachedAt (packet_ended n e)
reached_ended n e r = ended_cases IsReachedAt n e r (λ t g is. r) (λ t g is. r) (λ x h. h)

reached_abandoning : (e : EndView) (a : SenderView) → (IsReached (format_of e) e.sender → IsReached (format_of e) a) → IsReachedAt e → IsReachedAt (after_abandoning e a)
reached_abandoning e a goes r =
    reached_rested (settled (record e { sender = a; due = record e.due { forward = e.due.forward || not (point a == point e.sender) } })) (λ some. goes (r some))

reached_worn : (from : ℕ) (e : EndView) → IsReachedAt e → IsReachedAt (wearing from e)
reached_worn from e r = worn_cases IsReachedAt from e r (λ test on. reached_abandoning e (worn test e.sender) (worn_reached (format_of e) test e.sender) r)

pub reached_arrives : (e : EndView) (d : Draw) (p : Packet) (t : EndView) (v : Verdict) → IsReachedAt e → Arrives e d p t v → IsReachedAt t
reached_arrives e d p t v r (Elsewhere _) = r
reached_arrives e d p t v r (NotOurs _ _) = r
reached_arrives e d p t v r (Stray _ _ _ _) = r
reached_arrives e d p t v r (CookieBegins b u n _ _ _ _ _ acts gap _) =
    reached_ended (urged gap n) u (reached_acts p.tag (begun b e) (noted Unnoted no_notes) _ u n v (reached_anew (begun b e) _ _ _ _ _ refl) acts)
reached_arrives e d p t v r (Heard u n _ _ _ _ acts gap _) =
    reached_ended (urged gap n) (wearing (missed_below e.pace) u) (reached_worn (missed_below e.pace) u (reached_acts p.tag e no_notes p.chunks u n v r acts))

-- ---- a packet that is built

reached_built : (s : Slot) (e : EndView) → IsReachedAt e → IsReachedAt (once_built s e)
reached_built EchoSlot e r = r
reached_built CookieAckSlot e r = r
reached_built HeartbeatSlot e r = r
reached_built BeatSlot e r = r
reached_built ErrorSlot e r = r
reached_built SackSlot e r = r
reached_built ForwardSlot e r = r
reached_built AnswerSlot e r = r
reached_built RequestSlot e r = r
reached_built ShutdownSlot e r = r
reached_built ShutdownAckSlot e r = r

reached_puts : (ss : List Slot) (e : EndView) (xs zs : List ChunkMeaning) (full : Bool) (t : EndView) → IsReachedAt e → Puts ss e xs zs full t → IsReachedAt t
reached_puts ss e xs zs full t r (NoMore _ _) = r
reached_puts ss e xs zs full t r (NotDue _ more _ _ _ _ _ off rest) = reached_puts more e xs zs full t r rest
reached_puts ss e xs zs full t r (Put s more _ x _ _ _ _ due wants room rest) = reached_puts more (once_built s e) (xs ++ x ∷ []) zs full t (reached_built s e r) rest
reached_puts ss e xs zs full t r (IsFull _ _ _ _ _ due wants room) = r

pub reached_builds : (e : EndView) (zs : List ChunkMeaning) (t : EndView) → IsReachedAt e → Builds e zs t → IsReachedAt t
reached_builds e zs t r (Sleeps _) = r
reached_builds e zs t r (Waits _ _ _) = r
reached_builds e zs t r (Calls _ _ _) = r
reached_builds e zs t r (Echoes _ _ _ full _ is puts) = reached_puts _ e [] zs full t r puts
reached_builds e zs t r (EndsFull _ _ _ _ is puts) = reached_puts _ (asking e) [] zs true t (reached_asking e r) puts
reached_builds e zs t r (Fills _ _ ys x is puts) = λ some.
    follows_reached (format_of x) x.sender (room_behind x ys) (filled_behind x ys).wishes (filled_behind x ys).view (reached_puts _ (asking e) [] ys false x (reached_asking e r) puts some)
    (fill_is_fill (format_of x) (room_behind x ys) x.sender).follows

-- ---- time

reached_again : (a : Alarm) (e : EndView) → IsReachedAt e → IsReachedAt (due_again a e)
reached_again InitAlarm e r = r
reached_again CookieAlarm e r = r
reached_again DataAlarm e r = λ some. Repeats e.sender (λ i. true) (r some)
reached_again ShutdownAlarm e r = r
reached_again AckAlarm e r = r
reached_again ResetAlarm e r = reached_reconfigured e (due_again ResetAlarm e) (again_same e) r
reached_again BeatAlarm e r = r
reached_again GuardAlarm e r = r

reached_rung : (b : Bool) (a : Alarm) (e : EndView) → IsReachedAt e → IsReachedAt (rung b a e)
reached_rung false a e r = r
reached_rung true a e r = go (may_go_on a e)
  where
    go : (c : Bool) → IsReachedAt (if c then due_again a (with_timer a (expired_timer e.configuration.longest_wait (e.timers a)) e) else closed TimedOut e)
    go true = reached_again a (with_timer a (expired_timer e.configuration.longest_wait (e.timers a)) e) r
    go false = r

reached_rung_all : (alarms : List Alarm) (e : EndView) → IsReachedAt e → IsReachedAt (rung_all alarms e)
reached_rung_all [] e r = r
reached_rung_all (a ∷ more) e r = reached_rung_all more (ring a e) (reached_rung (is_over_at e.moment (e.timers a).expiry) a e r)

reached_waited : (b : Bool) (e : EndView) → IsReachedAt e → IsReachedAt (waited_in b e)
reached_waited false e r = r
reached_waited true e r = r

gives_up : (b : Bool) (m : EndView) → IsReached (format_of m) m.sender → IsReached (format_of m) (given_up b m.sender m.moment)
gives_up true m h = worn_reached (format_of m) (λ i. true) (expired_messages m.sender m.moment) (expired_reached (format_of m) m.sender m.moment h)
gives_up false m h = expired_reached (format_of m) m.sender m.moment h

pub reached_ticked : (e : EndView) (now : ℕ) → IsReachedAt e → IsReachedAt (ticked e now)
reached_ticked e now r = go (has_association e.phase)
  where
    go : (b : Bool) → IsReachedAt (if b then passed (at_moment e now) else at_moment e now)
    go false = r
    go true =
        let m = at_moment e now in
        let u = after_abandoning m (given_up (is_data_due m) m.sender m.moment) in
        let rang = rung_all all_alarms u in
        let abandoned = reached_abandoning m (given_up (is_data_due m) m.sender m.moment) (gives_up (is_data_due m) m) r in
        reached_waited (is_over_at rang.moment rang.delayed) rang (reached_rung_all all_alarms u abandoned)

-- ---- calls

pub reached_sent : (e : EndView) (c : Call) → IsReachedAt e → IsReachedAt (send_leaves (send_answer e c) e c)
reached_sent e c r = go (hears is_established e.phase)
  where
    by : (o : Option Refusal) → refusal e.sender c.lane.stream c.bytes ≡ o → IsReachedAt (send_leaves (answer_for e o) e c)
    by None none = λ some. Queues e.sender c.lane c.payload c.bytes c.until c.limit (r some) none
    by (Some x) why = r

    go : (b : Bool) → IsReachedAt (send_leaves (if b then answer_for e (refusal e.sender c.lane.stream c.bytes) else NotOpen) e c)
    go true = by (refusal e.sender c.lane.stream c.bytes) refl
    go false = r

pub reached_abandoned : (e : EndView) (n : ℕ) → IsReachedAt e → IsReachedAt (abandoned_at e n)
reached_abandoned e n r = go (is_open e.phase)
  where
    go : (b : Bool) → IsReachedAt (if b then after_abandoning e (abandon_after e.sender n) else record e { sender = abandon_after e.sender n })
    go true = reached_abandoning e (abandon_after e.sender n) (λ h. Abandons e.sender n h) r
    go false = λ some. Abandons e.sender n (r some)

pub reached_reset : (e : EndView) (a : ResetCall) (n : ℕ) → IsReachedAt e → IsReachedAt (reset_leaves a e n)
reached_reset e Begun n r = λ some. Rebases e.sender (resetting e.sender n).resets (r some)
reached_reset e NotAgreed n r = r
reached_reset e NoStream n r = r

pub reached_told : (e : EndView) (o : Option ℕ) → IsReachedAt e → IsReachedAt (told_leaves o e)
reached_told e None r = r
reached_told e (Some n) r = r

pub reached_shut : (e : EndView) → IsReachedAt e → IsReachedAt (shut e)
reached_shut e r = go e.phase
  where
    go : (h : Phase) → IsReachedAt (shut_in h e)
    go (Open t Established) = reached_rested (turned (Open t ShutdownPending) e) r
    go (Open t ShutdownPending) = r
    go (Open t ShutdownSent) = r
    go (Open t ShutdownReceived) = r
    go (Open t ShutdownAckSent) = r
    go Idle = r
    go Listening = r
    go (Calling d) = r
    go (Echoing t xs) = r
    go (Over why) = r

pub reached_aborted : (e : EndView) (a : AbortAnswer) → IsReachedAt e → IsReachedAt (abort_leaves a e)
reached_aborted e (Aborts x) r = r
reached_aborted e NoPeer r = r
reached_aborted e TooLong r = r
