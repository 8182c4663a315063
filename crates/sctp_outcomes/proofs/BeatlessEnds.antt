-- Whatever happens at an endpoint that is set up without HEARTBEATs: none is made, none is due, and their timer rests.
use Rattle.std.proofs.Common.{ℕ, ◌≡◌, not, ◌||◌, ◌==◌, Bool, true, false, List, [], ◌∷◌, ◌++◌, Option, None, Some, refl, sym, subst, ap, ◌∙◌}
use Rattle.std.specs.Prelude.{if◌then◌else◌, ◌&&◌, length, is_some, option_map}
use Rattle.sctp_model.specs.wire.Packet.{Packet, size_of_packet}
use Rattle.sctp_model.specs.wire.Chunk.{ChunkMeaning, Data, IData, Init, InitAck, Sack, Heartbeat, HeartbeatAck, Abort, Shutdown, ShutdownAck, Error, CookieEcho, CookieAck, ShutdownComplete, ForwardTsn, IForwardTsn, Unknown}
use Rattle.sctp_model.specs.world.Calls.{Call}
use Rattle.sctp_model.specs.sender.SenderView.{SenderView}
use Rattle.sctp_model.specs.sender.Queueing.{Refusal, refusal}
use Rattle.sctp_model.specs.sender.Readers.{point}
use Rattle.sctp_model.specs.sender.Abandoning.{abandon_after, worn}
use Rattle.sctp_model.specs.end.Sealing.{Body}
use Rattle.sctp_model.specs.end.EndView.{Draw, Aborted, TimedOut, Established, ShutdownPending, ShutdownSent, ShutdownReceived, ShutdownAckSent, Phase, Idle, Listening, Calling, Echoing, Open, Over, Alarm, InitAlarm, CookieAlarm, DataAlarm, ShutdownAlarm, AckAlarm, EndView, has_association, ResetAlarm, BeatAlarm, GuardAlarm, Configuration, Ended, AbortedHere, Completed, StaleCookie, Paired, fresh_end, Timer, Beats, no_beats, first_offer}
use Rattle.sctp_model.specs.end.Clock.{echo_trip, measured, stopped, is_home, may_go_on, is_over_at, with_timer, closed, at_moment, settled, turned}
use Rattle.sctp_model.specs.end.Clock.{expired_timer}
use Rattle.sctp_model.specs.end.Closing.{rested, hears}
use Rattle.sctp_model.specs.end.PeerFaults.{GoesOn, Ends, Replies, Note, Unnoted}
use Rattle.sctp_model.specs.end.Opening.{opened, terms_alike, tags_between, terms_of_ack, tags_of_body, AcceptedAck, RefusedAck, EchoedAgain, CookieAcked, joined, terms_of_body, cookie_trip, begun, pace_for}
use Rattle.sctp_model.specs.end.Beating.{beat_timer, beating, beating_after, beat_trip, beat_heard}
use Rattle.sctp_model.specs.end.Acting.{shutdown_counted, Acts, ForwardComes, PieceComes, IsOld, SackStale, ShutdownStale, HeartbeatCounts, SackCounts, ShutdownCounts, Closes, SaysNothing, Crosses, Again, AckCompletes, CompleteCompleted, PieceEmpty, WrongFormat, SackWrong, ShutdownWrong, WrongKind, IsBad, ReconfigComes, IsUnknown, Misnumbered}
use Rattle.sctp_model.specs.sender.Filling.{Wish}
use Rattle.sctp_model.specs.end.Wearing.{missed_below, wearing}
use Rattle.sctp_model.proofs.PacedEnds.{worn_cases}
use Rattle.sctp_model.specs.end.Arriving.{AllAct, NoneLeft, Next, Passes, Last, EndsAnswered, Stopped, Arrives, Elsewhere, NotOurs, Stray, CookieBegins, Heard, Notes, no_notes, noted, urged, packet_ended}
use Rattle.sctp_model.specs.end.Strays.{Verdict}
use Rattle.sctp_model.specs.end.Building.{timer_after, is_due, filled_behind, Slot, Puts, NoMore, NotDue, Put, IsFull, Builds, Sleeps, Waits, Calls, Echoes, EndsFull, Fills, EchoSlot, CookieAckSlot, HeartbeatSlot, BeatSlot, ErrorSlot, SackSlot, ForwardSlot, ShutdownSlot, ShutdownAckSlot, once_built, AnswerSlot, RequestSlot}
use Rattle.sctp_model.specs.end.Moments.{after_abandoning, is_data_due, given_up, due_again, rung, ring, rung_all, all_alarms, waited_in, passed, ticked}
use Rattle.sctp_model.specs.end.UserCalls.{is_established, answer_for, send_answer, send_leaves, NotOpen, is_open, abandoned_at, shut_in, shut, AbortAnswer, Aborts, NoPeer, TooLong, abort_leaves, ResetCall, Begun, NotAgreed, NoStream, reset_leaves, told_leaves}
use Rattle.sctp_safety.proofs.machine.EndWords.{rested_cases, ended_cases}
use Rattle.sctp_safety.proofs.machine.Sides.{unknown_goes, unknown_ends, unknown_never_replies}
use Rattle.sctp_model.specs.sender.SackTaken.{sack_taken, shutdown_taken}
use Rattle.sctp_model.specs.end.Reconfiguring.{asking}
use Rattle.sctp_model.specs.wire.Typed.{typed_in}
use Rattle.sctp_safety.proofs.machine.Reconfigured.{IsReconfigured, parameters_same, asking_same}
use Rattle.sctp_model.specs.end.Pacing.{Pace, pace_begun, fresh_pace, heard, expired_pace, sent_pace}
use Rattle.sctp_model.specs.sender.Words.{when}

-- ---- an endpoint

-- none was made, their timer rests, and none is due, if it is set up without
abbrev pub IsStillAt : EndView → Type 0
IsStillAt e = e.configuration.heartbeat ≡ None → (e.beats ≡ no_beats) × (((e.timers BeatAlarm).expiry ≡ None) × (e.due.beat ≡ false))

none_stays : (t : Timer) (b : Bool) → t.expiry ≡ None → (if b then t else stopped t).expiry ≡ None
none_stays t true rests = rests
none_stays t false rests = refl

-- in another state
pub still_turned : (h : Phase) (e : EndView) → IsStillAt e → IsStillAt (turned h e)
still_turned h e r off =
    ((r off).0, (none_stays (e.timers BeatAlarm) (is_home BeatAlarm h) (r off).1.0, ap (λ (b : Bool). b && is_home BeatAlarm h) (r off).1.1))

pub still_closed : (why : Ended) (e : EndView) → IsStillAt e → IsStillAt (closed why e)
still_closed why e r off = ((r off).0, (refl, refl))

-- the timer isn't started
pub still_beating : (e : EndView) → IsStillAt e → IsStillAt (beating e)
still_beating e r off = ((r off).0, (ap (λ (o : Option ℕ). (beat_timer o e).expiry) off ∙ (r off).1.0, (r off).1.1))

still_beating_after : (ws : List Wish) (e : EndView) → IsStillAt e → IsStillAt (beating_after ws e)
still_beating_after ws e r off = ((r off).0, (go (0 == length ws) (r off).1.0, (r off).1.1))
  where
    go : (b : Bool) → (e.timers BeatAlarm).expiry ≡ None → (if b then e.timers BeatAlarm else beat_timer e.configuration.heartbeat e).expiry ≡ None
    go true rests = rests
    go false rests = ap (λ (o : Option ℕ). (beat_timer o e).expiry) off ∙ rests

-- two that are opened without packets
pub still_opened : (c : Configuration) (x y : Draw) → IsStillAt (opened c x y)
still_opened c x y = still_beating (record (joined (terms_alike c x y) (first_offer c) (fresh_end c Paired Idle)) { phase = Open (tags_between x y) Established }) (λ off. (refl, (refl, refl)))

-- nothing is answered
still_heard : (e : EndView) (i : List ℕ) → IsStillAt e → IsStillAt (beat_heard e i)
still_heard e i r off =
    (ap (λ (x : Beats). record x { sent = if is_some (beat_trip e i) then None else x.sent }) (r off).0 ∙ go (is_some (beat_trip e i)), ((r off).1.0, (r off).1.1))
  where
    go : (b : Bool) → record no_beats { sent = if b then None else None } ≡ no_beats
    go true = refl
    go false = refl

still_rested : (e : EndView) → IsStillAt e → IsStillAt (rested e)
still_rested e r = rested_cases IsStillAt e r (λ t is d. still_turned (Open t ShutdownSent) e r) (λ t is d. still_turned (Open t ShutdownAckSent) e r)

still_reconfigured : (e t : EndView) → IsReconfigured e t → IsStillAt e → IsStillAt t
still_reconfigured e t u r = λ off.
    let k = r (ap (λ (c : Configuration). c.heartbeat) (sym u.configuration) ∙ off) in
    (u.beats ∙ k.0, (ap (λ (x : Timer). x.expiry) u.beat_timer ∙ k.1.0, u.beat_due ∙ k.1.1))

still_asking : (e : EndView) → IsStillAt e → IsStillAt (asking e)
still_asking e r = still_reconfigured e (asking e) (asking_same e) r

-- ---- a chunk

-- a chunk after which the packet goes on
still_goes : (e : EndView) (tag : ℕ) (x : ChunkMeaning) (y : Note) (t : EndView) → IsStillAt e → Acts e tag x (GoesOn y t) → IsStillAt t
still_goes e tag (Data p) y t r (PieceComes _ _ _ _ _ _ _ _ _ _) = r
still_goes e tag (IData p) y t r (PieceComes _ _ _ _ _ _ _ _ _ _) = r
still_goes e tag (Init m) y t r h = absurd (cc)
still_goes e tag (InitAck m) y t r (AcceptedAck d xs _ _ _ _) = still_turned (Echoing (record { own = d.tag; peer = m.tag }) xs) (joined (terms_of_ack e.configuration d m) m.rwnd e) r
still_goes e tag (Sack s) y t r (SackStale _ _) = r
still_goes e tag (Sack s) y t r (SackCounts hears none) = r
still_goes e tag (Heartbeat i) y t r (HeartbeatCounts _) = r
still_goes e tag (HeartbeatAck i) y t r h = let q : t ≡ beat_heard e i = cc in subst IsStillAt (sym q) (still_heard e i r)
still_goes e tag (Abort b xs) y t r h = absurd (cc)
still_goes e tag (Shutdown n) y t r (ShutdownStale k _ _ _ _) = still_turned (Open k ShutdownReceived) e r
still_goes e tag (Shutdown n) y t r (ShutdownCounts k _ _ _ none) = still_turned (Open k ShutdownReceived) (shutdown_counted e n) r
still_goes e tag (Shutdown n) y t r (Crosses k _) = still_turned (Open k ShutdownAckSent) e r
still_goes e tag (Shutdown n) y t r (Again _ _) = r
still_goes e tag ShutdownAck y t r h = elim h [ ]
still_goes e tag (Error xs) y t r (SaysNothing _) = r
still_goes e tag (CookieEcho xs) y t r (EchoedAgain _ _ _ _ _ _ _) = r
still_goes e tag CookieAck y t r (CookieAcked k _ _) = still_beating (measured (echo_trip e.configuration.first_wait e.moment (e.timers CookieAlarm)) (e.timers CookieAlarm).wait (turned (Open k Established) e)) (still_turned (Open k Established) e r)
still_goes e tag (ShutdownComplete b) y t r h = elim h [ ]
still_goes e tag (ForwardTsn m) y t r (IsOld _ _ _ _ _ _ _) = r
still_goes e tag (ForwardTsn m) y t r (ForwardComes _ _ _ _ _ _ _) = r
still_goes e tag (IForwardTsn m) y t r (IsOld _ _ _ _ _ _ _) = r
still_goes e tag (IForwardTsn m) y t r (ForwardComes _ _ _ _ _ _ _) = r
still_goes e tag (Unknown n f v) y t r (ReconfigComes c _ _) = still_reconfigured e t (parameters_same c e (typed_in v)) r
still_goes e tag (Unknown n f v) y t r (IsUnknown _ _ h) = let u = unknown_goes e y t n f v h in subst IsStillAt (sym u.same) r

-- one that ends it
still_ends : (e : EndView) (tag : ℕ) (x : ChunkMeaning) (t : EndView) → IsStillAt e → Acts e tag x (Ends t) → IsStillAt t
still_ends e tag (Data p) t r h = elim h [ ]
still_ends e tag (IData p) t r h = elim h [ ]
still_ends e tag (Init m) t r h = absurd (cc)
still_ends e tag (InitAck m) t r h = elim h [ ]
still_ends e tag (Sack s) t r h = elim h [ ]
still_ends e tag (Heartbeat i) t r h = elim h [ ]
still_ends e tag (HeartbeatAck i) t r h = absurd (cc)
still_ends e tag (Abort b xs) t r h = let q : t ≡ closed Aborted e = cc in subst IsStillAt (sym q) (still_closed Aborted e r)
still_ends e tag (Shutdown n) t r h = elim h [ ]
still_ends e tag ShutdownAck t r h = elim h [ ]
still_ends e tag (Error xs) t r (Closes _) = still_closed StaleCookie e r
still_ends e tag (CookieEcho xs) t r h = elim h [ ]
still_ends e tag CookieAck t r h = elim h [ ]
still_ends e tag (ShutdownComplete b) t r (CompleteCompleted _) = still_closed Completed e r
still_ends e tag (ForwardTsn m) t r h = elim h [ ]
still_ends e tag (IForwardTsn m) t r h = elim h [ ]
still_ends e tag (Unknown n f v) t r (IsUnknown _ _ h) = let u = unknown_ends e t n f v h in subst IsStillAt (sym u.same) r

-- one that is answered
still_replies : (e : EndView) (tag : ℕ) (x : ChunkMeaning) (t : EndView) (p : Packet) → IsStillAt e → Acts e tag x (Replies t p) → IsStillAt t
still_replies e tag (Data q) t p r (PieceEmpty _ _ _ _ _) = still_closed AbortedHere e r
still_replies e tag (Data q) t p r (WrongFormat _ _ _ _ _ _) = still_closed AbortedHere e r
still_replies e tag (Data q) t p r (Misnumbered _ _ _ _ _ _ _ _ _) = still_closed AbortedHere e r
still_replies e tag (IData q) t p r (PieceEmpty _ _ _ _ _) = still_closed AbortedHere e r
still_replies e tag (IData q) t p r (WrongFormat _ _ _ _ _ _) = still_closed AbortedHere e r
still_replies e tag (IData q) t p r (Misnumbered _ _ _ _ _ _ _ _ _) = still_closed AbortedHere e r
still_replies e tag (Init m) t p r h = absurd (cc)
still_replies e tag (InitAck m) t p r (RefusedAck _ _ _ _ _) = still_closed AbortedHere e r
still_replies e tag (Sack s) t p r (SackWrong _ _ _ _ _) = still_closed AbortedHere e r
still_replies e tag (Heartbeat i) t p r h = elim h [ ]
still_replies e tag (HeartbeatAck i) t p r h = absurd (cc)
still_replies e tag (Abort b xs) t p r h = absurd (cc)
still_replies e tag (Shutdown n) t p r (ShutdownWrong _ _ _ _ _) = still_closed AbortedHere e r
still_replies e tag ShutdownAck t p r (AckCompletes _ _ _ _) = still_closed Completed e r
still_replies e tag (Error xs) t p r h = elim h [ ]
still_replies e tag (CookieEcho xs) t p r h = elim h [ ]
still_replies e tag CookieAck t p r h = elim h [ ]
still_replies e tag (ShutdownComplete b) t p r h = elim h [ ]
still_replies e tag (ForwardTsn m) t p r (WrongKind _ _ _ _ _) = still_closed AbortedHere e r
still_replies e tag (ForwardTsn m) t p r (IsBad _ _ _ _ _ _ _) = still_closed AbortedHere e r
still_replies e tag (IForwardTsn m) t p r (WrongKind _ _ _ _ _) = still_closed AbortedHere e r
still_replies e tag (IForwardTsn m) t p r (IsBad _ _ _ _ _ _ _) = still_closed AbortedHere e r
still_replies e tag (Unknown n f v) t p r (IsUnknown _ _ h) = absurd (unknown_never_replies e t p n f v h)

-- ---- a packet that arrives

still_acts : (tag : ℕ) (e : EndView) (b : Notes) (xs : List ChunkMeaning) (t : EndView) (m : Notes) (v : Verdict) → IsStillAt e → AllAct tag e b xs t m v → IsStillAt t
still_acts tag e b xs t m v r (NoneLeft _ _) = r
still_acts tag e b xs t m v r (Next _ mid _ y _ _ x ys _ act rest) = still_acts tag (rested mid) (noted y b) ys t m v (still_rested mid (still_goes e tag x y mid r act)) rest
still_acts tag e b xs t m v r (Passes _ _ _ _ x ys _ act rest) = still_acts tag e b ys t m v r rest
still_acts tag e b xs t m v r (Last _ _ _ x ys act) = still_ends e tag x t r act
still_acts tag e b xs t m v r (EndsAnswered _ _ _ x ys p act) = still_replies e tag x t p r act
still_acts tag e b xs t m v r (Stopped _ _ x ys n act) = r

still_ended : (n : Notes) (e : EndView) → IsStillAt e → IsStillAt (packet_ended n e)
still_ended n e r = ended_cases IsStillAt n e r (λ t g is. r) (λ t g is. r) (λ x h. h)

still_abandoning : (e : EndView) (a : SenderView) → IsStillAt e → IsStillAt (after_abandoning e a)
still_abandoning e a r =
    still_rested (settled (record e { sender = a; due = record e.due { forward = e.due.forward || not (point a == point e.sender) } })) r

still_worn : (from : ℕ) (e : EndView) → IsStillAt e → IsStillAt (wearing from e)
still_worn from e r = worn_cases IsStillAt from e r (λ test on. still_abandoning e (worn test e.sender) r)

-- the association that a cookie begins
still_begun : (b : Body) (e : EndView) → IsStillAt e → IsStillAt (begun b e)
still_begun b e r =
    let x = turned (Open (tags_of_body b) Established) (joined (terms_of_body b) b.rwnd e) in
    still_beating (measured (Some (cookie_trip e.moment b)) e.configuration.first_wait x) (still_turned (Open (tags_of_body b) Established) (joined (terms_of_body b) b.rwnd e) r)

pub still_arrives : (e : EndView) (d : Draw) (p : Packet) (t : EndView) (v : Verdict) → IsStillAt e → Arrives e d p t v → IsStillAt t
still_arrives e d p t v r (Elsewhere _) = r
still_arrives e d p t v r (NotOurs _ _) = r
still_arrives e d p t v r (Stray _ _ _ _) = r
still_arrives e d p t v r (CookieBegins b u n _ _ _ _ _ acts gap _) =
    still_ended (urged gap n) u (still_acts p.tag (begun b e) (noted Unnoted no_notes) _ u n v (still_begun b e r) acts)
still_arrives e d p t v r (Heard u n _ _ _ _ acts gap _) =
    still_ended (urged gap n) (wearing (missed_below e.pace) u) (still_worn (missed_below e.pace) u (still_acts p.tag e no_notes p.chunks u n v r acts))

-- ---- a packet that is built

still_built : (s : Slot) (e : EndView) → is_due s e ≡ true → IsStillAt e → IsStillAt (once_built s e)
still_built EchoSlot e due r = r
still_built CookieAckSlot e due r = r
still_built HeartbeatSlot e due r = r
still_built BeatSlot e due r = λ off. absurd (let none = (r off).1.1 in cc)
still_built ErrorSlot e due r = r
still_built SackSlot e due r = r
still_built ForwardSlot e due r = r
still_built AnswerSlot e due r = r
still_built RequestSlot e due r = r
still_built ShutdownSlot e due r = r
still_built ShutdownAckSlot e due r = r

still_puts : (ss : List Slot) (e : EndView) (xs zs : List ChunkMeaning) (full : Bool) (t : EndView) → IsStillAt e → Puts ss e xs zs full t → IsStillAt t
still_puts ss e xs zs full t r (NoMore _ _) = r
still_puts ss e xs zs full t r (NotDue _ more _ _ _ _ _ off rest) = still_puts more e xs zs full t r rest
still_puts ss e xs zs full t r (Put s more _ x _ _ _ _ due wants room rest) = still_puts more (once_built s e) (xs ++ x ∷ []) zs full t (still_built s e due r) rest
still_puts ss e xs zs full t r (IsFull _ _ _ _ _ due wants room) = r

pub still_builds : (e : EndView) (zs : List ChunkMeaning) (t : EndView) → IsStillAt e → Builds e zs t → IsStillAt t
still_builds e zs t r (Sleeps _) = r
still_builds e zs t r (Waits _ _ _) = r
still_builds e zs t r (Calls _ _ _) = r
still_builds e zs t r (Echoes _ _ _ full _ is puts) = still_puts _ e [] zs full t r puts
still_builds e zs t r (EndsFull _ _ _ _ is puts) = still_puts _ (asking e) [] zs true t (still_asking e r) puts
still_builds e zs t r (Fills _ _ ys x is puts) =
    still_beating_after (filled_behind x ys).wishes (with_timer DataAlarm (timer_after x (filled_behind x ys).wishes) (record x {
      sender = (filled_behind x ys).view;
      pace = option_map (sent_pace x.moment x.sender (filled_behind x ys).view (filled_behind x ys).wishes) x.pace;
    })) (still_puts _ (asking e) [] ys false x (still_asking e r) puts)

-- ---- time

abbrev is_beat : Alarm → Bool
is_beat BeatAlarm = true
is_beat InitAlarm = false
is_beat CookieAlarm = false
is_beat DataAlarm = false
is_beat ShutdownAlarm = false
is_beat AckAlarm = false
is_beat ResetAlarm = false
is_beat GuardAlarm = false

still_again : (a : Alarm) (e : EndView) → is_beat a ≡ false → IsStillAt e → IsStillAt (due_again a (with_timer a (expired_timer e.configuration.longest_wait (e.timers a)) e))
still_again InitAlarm e other r = r
still_again CookieAlarm e other r = r
still_again DataAlarm e other r = r
still_again ShutdownAlarm e other r = r
still_again AckAlarm e other r = r
still_again ResetAlarm e other r = r
still_again BeatAlarm e other r = absurd (cc)
still_again GuardAlarm e other r = r

still_rung : (b : Bool) (a : Alarm) (e : EndView) → is_beat a ≡ false → IsStillAt e → IsStillAt (rung b a e)
still_rung false a e other r = r
still_rung true a e other r = go (may_go_on a e)
  where
    go : (c : Bool) → IsStillAt (if c then due_again a (with_timer a (expired_timer e.configuration.longest_wait (e.timers a)) e) else closed TimedOut e)
    go true = still_again a e other r
    go false = still_closed TimedOut e r

-- the timer of HEARTBEATs never expires
still_unrung : (e : EndView) → IsStillAt e → IsStillAt (ring BeatAlarm e)
still_unrung e r = go (is_over_at e.moment (e.timers BeatAlarm).expiry) refl
  where
    go : (b : Bool) → is_over_at e.moment (e.timers BeatAlarm).expiry ≡ b → IsStillAt (rung b BeatAlarm e)
    go false not_yet = r
    go true over = by (may_go_on BeatAlarm e)
      where
        never : e.configuration.heartbeat ≡ None → ⊥
        never off = let none : is_over_at e.moment (e.timers BeatAlarm).expiry ≡ false = ap (λ (o : Option ℕ). is_over_at e.moment o) (r off).1.0 in cc

        by : (c : Bool) → IsStillAt (if c then due_again BeatAlarm (with_timer BeatAlarm (expired_timer e.configuration.longest_wait (e.timers BeatAlarm)) e) else closed TimedOut e)
        by true off = absurd (never off)
        by false off = still_closed TimedOut e r off

still_ring : (a : Alarm) (e : EndView) → IsStillAt e → IsStillAt (ring a e)
still_ring BeatAlarm e r = still_unrung e r
still_ring InitAlarm e r = still_rung (is_over_at e.moment (e.timers InitAlarm).expiry) InitAlarm e refl r
still_ring CookieAlarm e r = still_rung (is_over_at e.moment (e.timers CookieAlarm).expiry) CookieAlarm e refl r
still_ring DataAlarm e r = still_rung (is_over_at e.moment (e.timers DataAlarm).expiry) DataAlarm e refl r
still_ring ShutdownAlarm e r = still_rung (is_over_at e.moment (e.timers ShutdownAlarm).expiry) ShutdownAlarm e refl r
still_ring AckAlarm e r = still_rung (is_over_at e.moment (e.timers AckAlarm).expiry) AckAlarm e refl r
still_ring ResetAlarm e r = still_rung (is_over_at e.moment (e.timers ResetAlarm).expiry) ResetAlarm e refl r
still_ring GuardAlarm e r = still_rung (is_over_at e.moment (e.timers GuardAlarm).expiry) GuardAlarm e refl r

still_rung_all : (alarms : List Alarm) (e : EndView) → IsStillAt e → IsStillAt (rung_all alarms e)
still_rung_all [] e r = r
still_rung_all (a ∷ more) e r = still_rung_all more (ring a e) (still_ring a e r)

still_waited : (b : Bool) (e : EndView) → IsStillAt e → IsStillAt (waited_in b e)
still_waited false e r = r
still_waited true e r = r

pub still_ticked : (e : EndView) (now : ℕ) → IsStillAt e → IsStillAt (ticked e now)
still_ticked e now r = go (has_association e.phase)
  where
    go : (b : Bool) → IsStillAt (if b then passed (at_moment e now) else at_moment e now)
    go false = r
    go true =
        let m = at_moment e now in
        let u = after_abandoning m (given_up (is_data_due m) m.sender m.moment) in
        let rang = rung_all all_alarms u in
        let abandoned = still_abandoning m (given_up (is_data_due m) m.sender m.moment) r in
        still_waited (is_over_at rang.moment rang.delayed) rang (still_rung_all all_alarms u abandoned)

-- ---- calls

pub still_sent : (e : EndView) (c : Call) → IsStillAt e → IsStillAt (send_leaves (send_answer e c) e c)
still_sent e c r = go (hears is_established e.phase)
  where
    by : (o : Option Refusal) → refusal e.sender c.lane.stream c.bytes ≡ o → IsStillAt (send_leaves (answer_for e o) e c)
    by None none = r
    by (Some x) why = r

    go : (b : Bool) → IsStillAt (send_leaves (if b then answer_for e (refusal e.sender c.lane.stream c.bytes) else NotOpen) e c)
    go true = by (refusal e.sender c.lane.stream c.bytes) refl
    go false = r

pub still_abandoned : (e : EndView) (n : ℕ) → IsStillAt e → IsStillAt (abandoned_at e n)
still_abandoned e n r = go (is_open e.phase)
  where
    go : (b : Bool) → IsStillAt (if b then after_abandoning e (abandon_after e.sender n) else record e { sender = abandon_after e.sender n })
    go true = still_abandoning e (abandon_after e.sender n) r
    go false = r

pub still_reset : (e : EndView) (a : ResetCall) (n : ℕ) → IsStillAt e → IsStillAt (reset_leaves a e n)
still_reset e Begun n r = r
still_reset e NotAgreed n r = r
still_reset e NoStream n r = r

pub still_told : (e : EndView) (o : Option ℕ) → IsStillAt e → IsStillAt (told_leaves o e)
still_told e None r = r
still_told e (Some n) r = r

pub still_shut : (e : EndView) → IsStillAt e → IsStillAt (shut e)
still_shut e r = go e.phase
  where
    go : (h : Phase) → IsStillAt (shut_in h e)
    go (Open t Established) = still_rested (turned (Open t ShutdownPending) e) (still_turned (Open t ShutdownPending) e r)
    go (Open t ShutdownPending) = r
    go (Open t ShutdownSent) = r
    go (Open t ShutdownReceived) = r
    go (Open t ShutdownAckSent) = r
    go Idle = r
    go Listening = r
    go (Calling d) = r
    go (Echoing t xs) = r
    go (Over why) = r

pub still_aborted : (e : EndView) (a : AbortAnswer) → IsStillAt e → IsStillAt (abort_leaves a e)
still_aborted e (Aborts x) r = still_closed AbortedHere e r
still_aborted e NoPeer r = r
still_aborted e TooLong r = r
