-- Whatever happens at an endpoint that is set up without resets, it agrees on none.
use Rattle.std.proofs.Common.{ℕ, ◌≡◌, not, ◌||◌, ◌==◌, Bool, true, false, List, [], ◌∷◌, ◌++◌, Option, None, Some, refl, sym, subst, ap, ◌∙◌}
use Rattle.std.specs.Prelude.{if◌then◌else◌, nat_lt, ◌&&◌}
use Rattle.sctp_model.specs.wire.Packet.{Packet}
use Rattle.sctp_model.specs.wire.Chunk.{ChunkMeaning, Data, IData, Init, InitAck, Sack, Heartbeat, HeartbeatAck, Abort, Shutdown, ShutdownAck, Error, CookieEcho, CookieAck, ShutdownComplete, ForwardTsn, IForwardTsn, Unknown}
use Rattle.sctp_model.specs.world.Calls.{Call}
use Rattle.sctp_model.specs.sender.SenderView.{SenderView}
use Rattle.sctp_model.specs.sender.Queueing.{Refusal, refusal}
use Rattle.sctp_model.specs.sender.Readers.{point}
use Rattle.sctp_model.specs.sender.Abandoning.{abandon_after, worn}
use Rattle.sctp_model.specs.end.EndView.{Terms, Draw, Aborted, TimedOut, Established, ShutdownPending, ShutdownSent, ShutdownReceived, ShutdownAckSent, Phase, Idle, Listening, Calling, Echoing, Open, Over, Alarm, InitAlarm, CookieAlarm, DataAlarm, ShutdownAlarm, AckAlarm, EndView, has_association, ResetAlarm, BeatAlarm, GuardAlarm, Configuration}
use Rattle.sctp_model.specs.end.Clock.{may_go_on, is_over_at, with_timer, closed, at_moment, settled, turned}
use Rattle.sctp_model.specs.end.Clock.{expired_timer}
use Rattle.sctp_model.specs.end.Closing.{rested, hears}
use Rattle.sctp_model.specs.end.PeerFaults.{GoesOn, Ends, Replies, Note, Unnoted}
use Rattle.sctp_model.specs.end.Opening.{AcceptedAck, RefusedAck, EchoedAgain, CookieAcked, begun, is_formed}
use Rattle.sctp_model.specs.end.Beating.{beat_heard}
use Rattle.sctp_model.specs.end.Acting.{Acts, ForwardComes, PieceComes, IsOld, SackStale, ShutdownStale, HeartbeatCounts, SackCounts, ShutdownCounts, Closes, SaysNothing, Crosses, Again, AckCompletes, CompleteCompleted, PieceEmpty, WrongFormat, SackWrong, ShutdownWrong, WrongKind, IsBad, ReconfigComes, IsUnknown, Misnumbered}
use Rattle.sctp_model.specs.end.Wearing.{missed_below, wearing}
use Rattle.sctp_model.proofs.PacedEnds.{worn_cases}
use Rattle.sctp_model.specs.end.Arriving.{AllAct, NoneLeft, Next, Passes, Last, EndsAnswered, Stopped, Arrives, Elsewhere, NotOurs, Stray, CookieBegins, Heard, Notes, no_notes, noted, urged, packet_ended}
use Rattle.sctp_model.specs.end.Strays.{Verdict}
use Rattle.sctp_model.specs.end.Building.{Slot, Puts, NoMore, NotDue, Put, IsFull, Builds, Sleeps, Waits, Calls, Echoes, EndsFull, Fills, EchoSlot, CookieAckSlot, HeartbeatSlot, BeatSlot, ErrorSlot, SackSlot, ForwardSlot, ShutdownSlot, ShutdownAckSlot, once_built, AnswerSlot, RequestSlot}
use Rattle.sctp_model.specs.end.Moments.{after_abandoning, is_data_due, given_up, due_again, rung, ring, rung_all, all_alarms, waited_in, passed, ticked}
use Rattle.sctp_model.specs.end.UserCalls.{is_established, answer_for, send_answer, send_leaves, NotOpen, is_open, abandoned_at, shut_in, shut, AbortAnswer, Aborts, NoPeer, TooLong, abort_leaves, ResetCall, Begun, NotAgreed, NoStream, reset_leaves, told_leaves}
use Rattle.sctp_safety.proofs.machine.EndWords.{rested_cases, ended_cases}
use Rattle.sctp_safety.proofs.machine.Sides.{unknown_goes, unknown_ends, unknown_never_replies}
use Rattle.sctp_model.specs.end.Reconfiguring.{asking}
use Rattle.sctp_model.specs.wire.Typed.{typed_in}
use Rattle.sctp_safety.proofs.machine.Reconfigured.{IsReconfigured, parameters_same, asking_same}
use Rattle.sctp_model.specs.end.Sealing.{Body}
use Rattle.sctp_model.specs.end.Options.{agreed_reset, lists_type, value_of, SUPPORTED_EXTENSIONS}
use Rattle.sctp_model.specs.wire.Reconfig.{RECONFIG}
use Rattle.sctp_safety.proofs.machine.Strangers.{found_is}
use Rattle.std.proofs.lemmas.Bool.{and_parts}

-- ---- an endpoint

-- it has agreed on no resets if it is set up without
abbrev pub IsUnresetAt : EndView → Type 0
IsUnresetAt e = e.configuration.reset ≡ false → e.terms.reset ≡ false

agreed_off : (c : Configuration) (xs : List ℕ) → c.reset ≡ false → agreed_reset c xs ≡ false
agreed_off c xs off = ap (λ (b : Bool). b && lists_type RECONFIG (value_of SUPPORTED_EXTENSIONS xs)) off

formed_off : (e : EndView) (b : Body) → is_formed e b ≡ true → e.configuration.reset ≡ false → b.reset ≡ false
formed_off e b formed off = by e.configuration.reset b.reset (and_parts (e.configuration.reset || not b.reset) (e.configuration.zero_checksum || not b.zero_checksum) formed).0 off
  where
    by : (c r : Bool) → (c || not r) ≡ true → c ≡ false → r ≡ false
    by true r h on = absurd (cc)
    by false true h on = absurd (cc)
    by false false h on = refl

unreset_rested : (e : EndView) → IsUnresetAt e → IsUnresetAt (rested e)
unreset_rested e r = rested_cases IsUnresetAt e r (λ t is d. r) (λ t is d. r)

unreset_reconfigured : (e t : EndView) → IsReconfigured e t → IsUnresetAt e → IsUnresetAt t
unreset_reconfigured e t u r = λ off. ap (λ (x : Terms). x.reset) u.terms ∙ r (ap (λ (c : Configuration). c.reset) (sym u.configuration) ∙ off)

unreset_asking : (e : EndView) → IsUnresetAt e → IsUnresetAt (asking e)
unreset_asking e r = unreset_reconfigured e (asking e) (asking_same e) r

-- ---- a chunk

-- a chunk after which the packet goes on
unreset_goes : (e : EndView) (tag : ℕ) (x : ChunkMeaning) (y : Note) (t : EndView) → IsUnresetAt e → Acts e tag x (GoesOn y t) → IsUnresetAt t
unreset_goes e tag (Data p) y t r (PieceComes _ _ _ _ _ _ _ _ _ _) = r
unreset_goes e tag (IData p) y t r (PieceComes _ _ _ _ _ _ _ _ _ _) = r
unreset_goes e tag (Init m) y t r h = absurd (cc)
unreset_goes e tag (InitAck m) y t r (AcceptedAck _ _ _ _ _ _) = agreed_off e.configuration m.parameters
unreset_goes e tag (Sack s) y t r (SackStale _ _) = r
unreset_goes e tag (Sack s) y t r (SackCounts hears none) = r
unreset_goes e tag (Heartbeat i) y t r (HeartbeatCounts _) = r
unreset_goes e tag (HeartbeatAck i) y t r h = let q : t ≡ beat_heard e i = cc in subst IsUnresetAt (sym q) r
unreset_goes e tag (Abort b xs) y t r h = absurd (cc)
unreset_goes e tag (Shutdown n) y t r (ShutdownStale _ _ _ _ _) = r
unreset_goes e tag (Shutdown n) y t r (ShutdownCounts _ _ _ _ none) = r
unreset_goes e tag (Shutdown n) y t r (Crosses _ _) = r
unreset_goes e tag (Shutdown n) y t r (Again _ _) = r
unreset_goes e tag ShutdownAck y t r h = elim h [ ]
unreset_goes e tag (Error xs) y t r (SaysNothing _) = r
unreset_goes e tag (CookieEcho xs) y t r (EchoedAgain _ _ _ _ _ _ _) = r
unreset_goes e tag CookieAck y t r (CookieAcked _ _ _) = r
unreset_goes e tag (ShutdownComplete b) y t r h = elim h [ ]
unreset_goes e tag (ForwardTsn m) y t r (IsOld _ _ _ _ _ _ _) = r
unreset_goes e tag (ForwardTsn m) y t r (ForwardComes _ _ _ _ _ _ _) = r
unreset_goes e tag (IForwardTsn m) y t r (IsOld _ _ _ _ _ _ _) = r
unreset_goes e tag (IForwardTsn m) y t r (ForwardComes _ _ _ _ _ _ _) = r
unreset_goes e tag (Unknown n f v) y t r (ReconfigComes c _ _) = unreset_reconfigured e t (parameters_same c e (typed_in v)) r
unreset_goes e tag (Unknown n f v) y t r (IsUnknown _ _ h) = let u = unknown_goes e y t n f v h in subst IsUnresetAt (sym u.same) r

-- one that ends it
unreset_ends : (e : EndView) (tag : ℕ) (x : ChunkMeaning) (t : EndView) → IsUnresetAt e → Acts e tag x (Ends t) → IsUnresetAt t
unreset_ends e tag (Data p) t r h = elim h [ ]
unreset_ends e tag (IData p) t r h = elim h [ ]
unreset_ends e tag (Init m) t r h = absurd (cc)
unreset_ends e tag (InitAck m) t r h = elim h [ ]
unreset_ends e tag (Sack s) t r h = elim h [ ]
unreset_ends e tag (Heartbeat i) t r h = elim h [ ]
unreset_ends e tag (HeartbeatAck i) t r h = absurd (cc)
unreset_ends e tag (Abort b xs) t r h = let q : t ≡ closed Aborted e = cc in subst IsUnresetAt (sym q) r
unreset_ends e tag (Shutdown n) t r h = elim h [ ]
unreset_ends e tag ShutdownAck t r h = elim h [ ]
unreset_ends e tag (Error xs) t r (Closes _) = r
unreset_ends e tag (CookieEcho xs) t r h = elim h [ ]
unreset_ends e tag CookieAck t r h = elim h [ ]
unreset_ends e tag (ShutdownComplete b) t r (CompleteCompleted _) = r
unreset_ends e tag (ForwardTsn m) t r h = elim h [ ]
unreset_ends e tag (IForwardTsn m) t r h = elim h [ ]
unreset_ends e tag (Unknown n f v) t r (IsUnknown _ _ h) = let u = unknown_ends e t n f v h in subst IsUnresetAt (sym u.same) r

-- one that is answered
unreset_replies : (e : EndView) (tag : ℕ) (x : ChunkMeaning) (t : EndView) (p : Packet) → IsUnresetAt e → Acts e tag x (Replies t p) → IsUnresetAt t
unreset_replies e tag (Data q) t p r (PieceEmpty _ _ _ _ _) = r
unreset_replies e tag (Data q) t p r (WrongFormat _ _ _ _ _ _) = r
unreset_replies e tag (Data q) t p r (Misnumbered _ _ _ _ _ _ _ _ _) = r
unreset_replies e tag (IData q) t p r (PieceEmpty _ _ _ _ _) = r
unreset_replies e tag (IData q) t p r (WrongFormat _ _ _ _ _ _) = r
unreset_replies e tag (IData q) t p r (Misnumbered _ _ _ _ _ _ _ _ _) = r
unreset_replies e tag (Init m) t p r h = absurd (cc)
unreset_replies e tag (InitAck m) t p r (RefusedAck _ _ _ _ _) = r
unreset_replies e tag (Sack s) t p r (SackWrong _ _ _ _ _) = r
unreset_replies e tag (Heartbeat i) t p r h = elim h [ ]
unreset_replies e tag (HeartbeatAck i) t p r h = absurd (cc)
unreset_replies e tag (Abort b xs) t p r h = absurd (cc)
unreset_replies e tag (Shutdown n) t p r (ShutdownWrong _ _ _ _ _) = r
unreset_replies e tag ShutdownAck t p r (AckCompletes _ _ _ _) = r
unreset_replies e tag (Error xs) t p r h = elim h [ ]
unreset_replies e tag (CookieEcho xs) t p r h = elim h [ ]
unreset_replies e tag CookieAck t p r h = elim h [ ]
unreset_replies e tag (ShutdownComplete b) t p r h = elim h [ ]
unreset_replies e tag (ForwardTsn m) t p r (WrongKind _ _ _ _ _) = r
unreset_replies e tag (ForwardTsn m) t p r (IsBad _ _ _ _ _ _ _) = r
unreset_replies e tag (IForwardTsn m) t p r (WrongKind _ _ _ _ _) = r
unreset_replies e tag (IForwardTsn m) t p r (IsBad _ _ _ _ _ _ _) = r
unreset_replies e tag (Unknown n f v) t p r (IsUnknown _ _ h) = absurd (unknown_never_replies e t p n f v h)

-- ---- a packet that arrives

unreset_acts : (tag : ℕ) (e : EndView) (b : Notes) (xs : List ChunkMeaning) (t : EndView) (m : Notes) (v : Verdict) → IsUnresetAt e → AllAct tag e b xs t m v → IsUnresetAt t
unreset_acts tag e b xs t m v r (NoneLeft _ _) = r
unreset_acts tag e b xs t m v r (Next _ mid _ y _ _ x ys _ act rest) = unreset_acts tag (rested mid) (noted y b) ys t m v (unreset_rested mid (unreset_goes e tag x y mid r act)) rest
unreset_acts tag e b xs t m v r (Passes _ _ _ _ x ys _ act rest) = unreset_acts tag e b ys t m v r rest
unreset_acts tag e b xs t m v r (Last _ _ _ x ys act) = unreset_ends e tag x t r act
unreset_acts tag e b xs t m v r (EndsAnswered _ _ _ x ys p act) = unreset_replies e tag x t p r act
unreset_acts tag e b xs t m v r (Stopped _ _ x ys n act) = r

unreset_ended : (n : Notes) (e : EndView) → IsUnresetAt e → IsUnresetAt (packet_ended n e)
unreset_ended n e r = ended_cases IsUnresetAt n e r (λ t g is. r) (λ t g is. r) (λ x h. h)

unreset_abandoning : (e : EndView) (a : SenderView) → IsUnresetAt e → IsUnresetAt (after_abandoning e a)
unreset_abandoning e a r =
    unreset_rested (settled (record e { sender = a; due = record e.due { forward = e.due.forward || not (point a == point e.sender) } })) r

unreset_worn : (from : ℕ) (e : EndView) → IsUnresetAt e → IsUnresetAt (wearing from e)
unreset_worn from e r = worn_cases IsUnresetAt from e r (λ test on. unreset_abandoning e (worn test e.sender) r)

pub unreset_arrives : (e : EndView) (d : Draw) (p : Packet) (t : EndView) (v : Verdict) → IsUnresetAt e → Arrives e d p t v → IsUnresetAt t
unreset_arrives e d p t v r (Elsewhere _) = r
unreset_arrives e d p t v r (NotOurs _ _) = r
unreset_arrives e d p t v r (Stray _ _ _ _) = r
unreset_arrives e d p t v r (CookieBegins b u n _ _ _ _ opens acts gap _) =
    unreset_ended (urged gap n) u (unreset_acts p.tag (begun b e) (noted Unnoted no_notes) _ u n v (formed_off e b (found_is e p.tag p.chunks b opens).formed) acts)
unreset_arrives e d p t v r (Heard u n _ _ _ _ acts gap _) =
    unreset_ended (urged gap n) (wearing (missed_below e.pace) u) (unreset_worn (missed_below e.pace) u (unreset_acts p.tag e no_notes p.chunks u n v r acts))

-- ---- a packet that is built

unreset_built : (s : Slot) (e : EndView) → IsUnresetAt e → IsUnresetAt (once_built s e)
unreset_built EchoSlot e r = r
unreset_built CookieAckSlot e r = r
unreset_built HeartbeatSlot e r = r
unreset_built BeatSlot e r = r
unreset_built ErrorSlot e r = r
unreset_built SackSlot e r = r
unreset_built ForwardSlot e r = r
unreset_built AnswerSlot e r = r
unreset_built RequestSlot e r = r
unreset_built ShutdownSlot e r = r
unreset_built ShutdownAckSlot e r = r

unreset_puts : (ss : List Slot) (e : EndView) (xs zs : List ChunkMeaning) (full : Bool) (t : EndView) → IsUnresetAt e → Puts ss e xs zs full t → IsUnresetAt t
unreset_puts ss e xs zs full t r (NoMore _ _) = r
unreset_puts ss e xs zs full t r (NotDue _ more _ _ _ _ _ off rest) = unreset_puts more e xs zs full t r rest
unreset_puts ss e xs zs full t r (Put s more _ x _ _ _ _ due wants room rest) = unreset_puts more (once_built s e) (xs ++ x ∷ []) zs full t (unreset_built s e r) rest
unreset_puts ss e xs zs full t r (IsFull _ _ _ _ _ due wants room) = r

pub unreset_builds : (e : EndView) (zs : List ChunkMeaning) (t : EndView) → IsUnresetAt e → Builds e zs t → IsUnresetAt t
unreset_builds e zs t r (Sleeps _) = r
unreset_builds e zs t r (Waits _ _ _) = r
unreset_builds e zs t r (Calls _ _ _) = r
unreset_builds e zs t r (Echoes _ _ _ full _ is puts) = unreset_puts _ e [] zs full t r puts
unreset_builds e zs t r (EndsFull _ _ _ _ is puts) = unreset_puts _ (asking e) [] zs true t (unreset_asking e r) puts
unreset_builds e zs t r (Fills _ _ ys x is puts) = unreset_puts _ (asking e) [] ys false x (unreset_asking e r) puts

-- ---- time

unreset_again : (a : Alarm) (e : EndView) → IsUnresetAt e → IsUnresetAt (due_again a e)
unreset_again InitAlarm e r = r
unreset_again CookieAlarm e r = r
unreset_again DataAlarm e r = r
unreset_again ShutdownAlarm e r = r
unreset_again AckAlarm e r = r
unreset_again ResetAlarm e r = r
unreset_again BeatAlarm e r = r
unreset_again GuardAlarm e r = r

unreset_rung : (b : Bool) (a : Alarm) (e : EndView) → IsUnresetAt e → IsUnresetAt (rung b a e)
unreset_rung false a e r = r
unreset_rung true a e r = go (may_go_on a e)
  where
    go : (c : Bool) → IsUnresetAt (if c then due_again a (with_timer a (expired_timer e.configuration.longest_wait (e.timers a)) e) else closed TimedOut e)
    go true = unreset_again a (with_timer a (expired_timer e.configuration.longest_wait (e.timers a)) e) r
    go false = r

unreset_rung_all : (alarms : List Alarm) (e : EndView) → IsUnresetAt e → IsUnresetAt (rung_all alarms e)
unreset_rung_all [] e r = r
unreset_rung_all (a ∷ more) e r = unreset_rung_all more (ring a e) (unreset_rung (is_over_at e.moment (e.timers a).expiry) a e r)

unreset_waited : (b : Bool) (e : EndView) → IsUnresetAt e → IsUnresetAt (waited_in b e)
unreset_waited false e r = r
unreset_waited true e r = r

pub unreset_ticked : (e : EndView) (now : ℕ) → IsUnresetAt e → IsUnresetAt (ticked e now)
unreset_ticked e now r = go (has_association e.phase)
  where
    go : (b : Bool) → IsUnresetAt (if b then passed (at_moment e now) else at_moment e now)
    go false = r
    go true =
        let m = at_moment e now in
        let u = after_abandoning m (given_up (is_data_due m) m.sender m.moment) in
        let rang = rung_all all_alarms u in
        let abandoned = unreset_abandoning m (given_up (is_data_due m) m.sender m.moment) r in
        unreset_waited (is_over_at rang.moment rang.delayed) rang (unreset_rung_all all_alarms u abandoned)

-- ---- calls

pub unreset_sent : (e : EndView) (c : Call) → IsUnresetAt e → IsUnresetAt (send_leaves (send_answer e c) e c)
unreset_sent e c r = go (hears is_established e.phase)
  where
    by : (o : Option Refusal) → refusal e.sender c.lane.stream c.bytes ≡ o → IsUnresetAt (send_leaves (answer_for e o) e c)
    by None none = r
    by (Some x) why = r

    go : (b : Bool) → IsUnresetAt (send_leaves (if b then answer_for e (refusal e.sender c.lane.stream c.bytes) else NotOpen) e c)
    go true = by (refusal e.sender c.lane.stream c.bytes) refl
    go false = r

pub unreset_abandoned : (e : EndView) (n : ℕ) → IsUnresetAt e → IsUnresetAt (abandoned_at e n)
unreset_abandoned e n r = go (is_open e.phase)
  where
    go : (b : Bool) → IsUnresetAt (if b then after_abandoning e (abandon_after e.sender n) else record e { sender = abandon_after e.sender n })
    go true = unreset_abandoning e (abandon_after e.sender n) r
    go false = r

pub unreset_reset : (e : EndView) (a : ResetCall) (n : ℕ) → IsUnresetAt e → IsUnresetAt (reset_leaves a e n)
unreset_reset e Begun n r = r
unreset_reset e NotAgreed n r = r
unreset_reset e NoStream n r = r

pub unreset_told : (e : EndView) (o : Option ℕ) → IsUnresetAt e → IsUnresetAt (told_leaves o e)
unreset_told e None r = r
unreset_told e (Some n) r = r

pub unreset_shut : (e : EndView) → IsUnresetAt e → IsUnresetAt (shut e)
unreset_shut e r = go e.phase
  where
    go : (h : Phase) → IsUnresetAt (shut_in h e)
    go (Open t Established) = unreset_rested (turned (Open t ShutdownPending) e) r
    go (Open t ShutdownPending) = r
    go (Open t ShutdownSent) = r
    go (Open t ShutdownReceived) = r
    go (Open t ShutdownAckSent) = r
    go Idle = r
    go Listening = r
    go (Calling d) = r
    go (Echoing t xs) = r
    go (Over why) = r

pub unreset_aborted : (e : EndView) (a : AbortAnswer) → IsUnresetAt e → IsUnresetAt (abort_leaves a e)
unreset_aborted e (Aborts x) r = r
unreset_aborted e NoPeer r = r
unreset_aborted e TooLong r = r
