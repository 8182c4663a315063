-- What one chunk does at an endpoint with an association: a data type for each kind of chunk, and a row for each state that takes it (RFC 9260, 4, 6 and 9).
use Rattle.std.specs.Prelude.{◌≡◌, ℕ, ◌+◌, ◌<◌, ◌⊎◌, nat_lt, Bool, true, false, ◌&&◌, ◌||◌, ◌==◌, if◌then◌else◌, List, [], ◌∷◌, ◌++◌, length, Some, None}
use Rattle.std.specs.Prelude.{nat_le, not}
use Rattle.sctp_model.specs.numbers.Numbers.{u16_bytes}
use Rattle.sctp_model.specs.wire.Typed.{Typed, typed_in}
use Rattle.sctp_model.specs.wire.Unknown.{chunk_rule}
use Rattle.sctp_model.specs.wire.Chunk.{PieceMeaning, SackMeaning, ForwardMeaning, ChunkMeaning, Data, IData, Init, InitAck, Sack, Heartbeat, HeartbeatAck}
use Rattle.sctp_model.specs.wire.Chunk.{Abort, Shutdown, ShutdownAck, Error, CookieEcho, CookieAck, ShutdownComplete, ForwardTsn, IForwardTsn, Unknown}
use Rattle.sctp_model.specs.messages.Format.{Format, Plain, Interleaved}
use Rattle.sctp_model.specs.receiver.ReceiverView.{ReceiverView, IsCumulative}
use Rattle.sctp_model.specs.sender.SackTaken.{Stale, Beyond, BadBlock, sack_fault, sack_taken, shutdown_fault, shutdown_taken}
use Rattle.sctp_model.specs.receiver.PieceTaken.{PieceAnswer, Duplicate, Ahead, NoSuchStream, Passed, NoRoom, Kept, PieceTaken, is_misnumbered}
use Rattle.sctp_model.specs.receiver.ForwardTaken.{OutOfDate, Bad, Moved, ForwardTaken}
use Rattle.sctp_model.specs.end.EndView.{format_of, Tags, Completed, Aborted, StaleCookie, Stage, ShutdownSent, ShutdownReceived, ShutdownAckSent, Phase}
use Rattle.sctp_model.specs.end.EndView.{Calling, Echoing, Open, DataAlarm, Timer, EndView}
use Rattle.sctp_model.specs.end.Clock.{turned, closed, settled, renewed, paced}
use Rattle.sctp_model.specs.end.Closing.{with_due, answers_shutdown, takes_data, takes_acknowledgements, awaits_ack, awaits_complete, hears}
use Rattle.sctp_model.specs.end.Reports.{item, causes_with, with_causes, fits_alone, INVALID_STREAM, STALE_COOKIE, UNRECOGNIZED_CHUNK}
use Rattle.sctp_model.specs.end.PeerFaults.{Unnoted, ToAcknowledge, After, GoesOn, Ends, PassedOver, Replies, packet_to, at_fault, no_user_data, violation}
use Rattle.sctp_model.specs.end.Opening.{InitAckActs, EchoActs, CookieAckActs}
use Rattle.sctp_model.specs.end.Reconfiguring.{parameters_heard, takes_reconfig}
use Rattle.sctp_model.specs.end.Misses.{moves, newest}
use Rattle.sctp_model.specs.end.Beating.{beat_heard}

-- ---- chunks with data (6.2 and 6.5; RFC 8260, 2.1 and 2.2)

-- the two formats are one
abbrev pub same_format : Format → Format → Bool
same_format Plain Plain = true
same_format Plain Interleaved = false
same_format Interleaved Plain = false
same_format Interleaved Interleaved = true

-- a data chunk that wasn't kept, or whose I bit is set (3.3.1), is to be acknowledged at once (6.2)
abbrev pub asks_at_once : PieceMeaning → PieceAnswer → Bool
asks_at_once p Kept = p.immediate
asks_at_once p a = true

-- a stream that isn't there is reported (6.5)
abbrev pub piece_causes : EndView → PieceMeaning → PieceAnswer → List Typed
piece_causes e p NoSuchStream = causes_with e (item INVALID_STREAM (u16_bytes p.stream ++ 0 ∷ 0 ∷ []))
piece_causes e p Duplicate = e.due.causes
piece_causes e p Ahead = e.due.causes
piece_causes e p Passed = e.due.causes
piece_causes e p NoRoom = e.due.causes
piece_causes e p Kept = e.due.causes

-- a strict endpoint ends the association if its peer numbers fragments against the rules (RFC 8260, 2.1), at the cumulative index c
abbrev pub is_refused : EndView → (c : ℕ) → PieceMeaning → Bool
is_refused e c p = e.configuration.strict && is_misnumbered (format_of e) e.receiver c p

-- What a DATA or an I-DATA does (6.2; RFC 8260, 2.1).
pub data PieceActs (f : Format) (e : EndView) (p : PieceMeaning) : After → Type 0 where
  PieceNotHeard : hears takes_data e.phase ≡ false → PieceActs f e p PassedOver
  PieceEmpty : (t : Tags) (g : Stage) → e.phase ≡ Open t g → takes_data g ≡ true → length p.bytes ≡ 0 →
      PieceActs f e p (at_fault t (no_user_data p.tsn) e)
  WrongFormat : (t : Tags) (g : Stage) → e.phase ≡ Open t g → takes_data g ≡ true → 0 < length p.bytes → same_format f (format_of e) ≡ false →
      PieceActs f e p (at_fault t violation e)
  Misnumbered : (t : Tags) (g : Stage) (c : ℕ) → e.phase ≡ Open t g → takes_data g ≡ true → 0 < length p.bytes → same_format f (format_of e) ≡ true →
      IsCumulative e.receiver c → is_refused e c p ≡ true → PieceActs f e p (at_fault t violation e)
  PieceComes : (t : Tags) (g : Stage) (a : PieceAnswer) (r : ReceiverView) → e.phase ≡ Open t g → takes_data g ≡ true → 0 < length p.bytes →
      same_format f (format_of e) ≡ true → (k : PieceTaken (format_of e) e.receiver p a r) → is_refused e k.c p ≡ false →
      PieceActs f e p (GoesOn (ToAcknowledge true (asks_at_once p a)) (with_causes (piece_causes e p a) (record e { receiver = r })))

-- ---- FORWARD-TSN and I-FORWARD-TSN (RFC 3758, 3.6; RFC 8260, 2.3.1)

-- it is of the association's format, and partial reliability is on
abbrev pub may_forward : Format → EndView → Bool
may_forward f e = same_format f (format_of e) && e.terms.partial

-- What a FORWARD-TSN or an I-FORWARD-TSN does (RFC 3758, 3.6).
pub data ForwardActs (f : Format) (e : EndView) (m : ForwardMeaning) : After → Type 0 where
  ForwardNotHeard : hears takes_data e.phase ≡ false → ForwardActs f e m PassedOver
  WrongKind : (t : Tags) (g : Stage) → e.phase ≡ Open t g → takes_data g ≡ true → may_forward f e ≡ false →
      ForwardActs f e m (at_fault t violation e)
  IsBad : (t : Tags) (g : Stage) (r : ReceiverView) → e.phase ≡ Open t g → takes_data g ≡ true → may_forward f e ≡ true →
      ForwardTaken (format_of e) e.receiver m Bad r → ForwardActs f e m (at_fault t violation e)
  IsOld : (t : Tags) (g : Stage) (r : ReceiverView) → e.phase ≡ Open t g → takes_data g ≡ true → may_forward f e ≡ true →
      ForwardTaken (format_of e) e.receiver m OutOfDate r → ForwardActs f e m (GoesOn (ToAcknowledge false true) (record e { receiver = r }))
  ForwardComes : (t : Tags) (g : Stage) (r : ReceiverView) → e.phase ≡ Open t g → takes_data g ≡ true → may_forward f e ≡ true →
      ForwardTaken (format_of e) e.receiver m Moved r → ForwardActs f e m (GoesOn (ToAcknowledge false true) (record e { receiver = r }))

-- ---- SACK (6.2.1 and 6.3.2)

-- A SACK that acknowledges nothing new, of a peer that has space for a fragment, at an endpoint that doesn't take it for an answer (8.1): one that has none is
-- probed without being counted (6.1, rule A).
abbrev pub is_in_vain : EndView → SackMeaning → Bool
is_in_vain e s =
    let v = sack_taken e.sender s in
    e.configuration.progress && (not (moves e.sender v) && ((newest false e.sender v == 0) && nat_le e.configuration.fragment s.rwnd))

-- the data timer after a SACK, with the count of its expiries before, if it was in vain
abbrev pub timer_acked : (vain : Bool) → Timer → (repeats : ℕ) → Timer
timer_acked vain t n = record t { repeats = if vain then n else t.repeats }

-- The endpoint after a SACK that was taken: what it acknowledges is acknowledged; a FORWARD is due if the point is past CUM; the data timer's count of
-- expiries is 0 again; and an endpoint with a pace acts on the round trip and the misses that it reports.
abbrev pub sack_heard : EndView → SackMeaning → EndView
sack_heard e s =
    let x = settled (record e { sender = sack_taken e.sender s; due = record e.due { forward = true } }) in
    let t = renewed e.configuration.first_wait e.moment (nat_lt e.sender.cum (sack_taken e.sender s).cum) (x.timers DataAlarm) in
    paced e.sender (e.timers DataAlarm).wait (timer_acked (is_in_vain e s) t (e.timers DataAlarm).repeats) x

-- What a SACK does (6.2.1).
pub data SackActs (e : EndView) (s : SackMeaning) : After → Type 0 where
  SackNotHeard : hears takes_acknowledgements e.phase ≡ false → SackActs e s PassedOver
  SackStale : hears takes_acknowledgements e.phase ≡ true → sack_fault e.sender s ≡ Some Stale → SackActs e s (GoesOn Unnoted e)
  SackWrong : (t : Tags) (g : Stage) → e.phase ≡ Open t g → takes_acknowledgements g ≡ true →
      (sack_fault e.sender s ≡ Some Beyond) ⊎ (sack_fault e.sender s ≡ Some BadBlock) → SackActs e s (at_fault t violation e)
  SackCounts : hears takes_acknowledgements e.phase ≡ true → sack_fault e.sender s ≡ None → SackActs e s (GoesOn Unnoted (sack_heard e s))

-- ---- HEARTBEAT, HEARTBEAT ACK (8.3), ERROR (3.3.10), ABORT (9.1)

-- the answer to the latest HEARTBEAT is due (8.3), if it fits a packet
abbrev pub heartbeat_heard : EndView → List ℕ → EndView
heartbeat_heard e info = with_due (record e.due { heartbeat = if fits_alone e (HeartbeatAck info) then Some info else e.due.heartbeat }) e

-- What a HEARTBEAT does (8.3).
pub data HeartbeatActs (e : EndView) (info : List ℕ) : After → Type 0 where
  HeartbeatNotHeard : hears (λ g. true) e.phase ≡ false → HeartbeatActs e info PassedOver
  HeartbeatCounts : hears (λ g. true) e.phase ≡ true → HeartbeatActs e info (GoesOn Unnoted (heartbeat_heard e info))

-- a cause of this type is among these
abbrev pub has_cause : ℕ → List Typed → Bool
has_cause k [] = false
has_cause k (x ∷ xs) = (x.kind == k) || has_cause k xs

-- the cookie that was echoed arrived too late (5.2.6)
abbrev pub is_stale_cookie : Phase → List ℕ → Bool
is_stale_cookie (Echoing t xs) causes = has_cause STALE_COOKIE (typed_in causes)
is_stale_cookie h causes = false

-- What an ERROR does (3.3.10): if the cookie was too old, the caller closes (5.2.6).
pub data ErrorActs (e : EndView) (causes : List ℕ) : After → Type 0 where
  Closes : is_stale_cookie e.phase causes ≡ true → ErrorActs e causes (Ends (closed StaleCookie e))
  SaysNothing : is_stale_cookie e.phase causes ≡ false → ErrorActs e causes (GoesOn Unnoted e)

-- ---- the three chunks that close an association (9.2)

-- The data timer after a SHUTDOWN whose cumulative TSN was taken: it stays as it is; with standard closing one that moved CUM is to it what a SACK is
-- (6.3.2, 9.2).
abbrev pub shut_timer : (standard moved : Bool) → (first now : ℕ) → Timer → Timer
shut_timer standard moved first now t = if standard && moved then renewed first now true t else t

-- what the cumulative TSN of a SHUTDOWN acknowledges
abbrev pub shutdown_counted : EndView → ℕ → EndView
shutdown_counted e tsn =
    let x = settled (record e { sender = shutdown_taken e.sender tsn }) in
    let moved = nat_lt e.sender.cum (shutdown_taken e.sender tsn).cum in
    paced e.sender (e.timers DataAlarm).wait
    (shut_timer e.configuration.standard_closing moved e.configuration.first_wait e.moment (x.timers DataAlarm)) x

-- the peer says that it is done (9.2): its cumulative TSN acknowledges
abbrev pub shutdown_heard : Tags → EndView → ℕ → EndView
shutdown_heard t e tsn = turned (Open t ShutdownReceived) (shutdown_counted e tsn)

-- What a SHUTDOWN does (3.3.8 and 9.2).
pub data ShutdownActs (e : EndView) (tsn : ℕ) : After → Type 0 where
  ShutdownNotOpen : hears (λ g. true) e.phase ≡ false → ShutdownActs e tsn PassedOver
  ShutdownWrong : (t : Tags) (g : Stage) → e.phase ≡ Open t g → takes_acknowledgements g ≡ true → shutdown_fault e.sender tsn ≡ Some Beyond →
      ShutdownActs e tsn (at_fault t violation e)
  ShutdownStale : (t : Tags) (g : Stage) → e.phase ≡ Open t g → takes_acknowledgements g ≡ true → shutdown_fault e.sender tsn ≡ Some Stale →
      ShutdownActs e tsn (GoesOn Unnoted (turned (Open t ShutdownReceived) e))
  ShutdownCounts : (t : Tags) (g : Stage) → e.phase ≡ Open t g → takes_acknowledgements g ≡ true → shutdown_fault e.sender tsn ≡ None →
      ShutdownActs e tsn (GoesOn Unnoted (shutdown_heard t e tsn))
  Crosses : (t : Tags) → e.phase ≡ Open t ShutdownSent → ShutdownActs e tsn (GoesOn Unnoted (answers_shutdown t e))
  Again : (t : Tags) → e.phase ≡ Open t ShutdownAckSent → ShutdownActs e tsn (GoesOn Unnoted (with_due (record e.due { shutdown_ack = true }) e))

-- What a SHUTDOWN ACK does (3.3.9 and 9.2).
pub data ShutdownAckActs (e : EndView) : After → Type 0 where
  AckNotAwaited : hears awaits_ack e.phase ≡ false → ShutdownAckActs e PassedOver
  AckCompletes : (t : Tags) (g : Stage) → e.phase ≡ Open t g → awaits_ack g ≡ true →
      ShutdownAckActs e (Replies (closed Completed e) (packet_to e.configuration t.peer (ShutdownComplete false)))

-- What a SHUTDOWN COMPLETE does (3.3.13 and 9.2).
pub data CompleteActs (e : EndView) : After → Type 0 where
  CompleteNotAwaited : hears awaits_complete e.phase ≡ false → CompleteActs e PassedOver
  CompleteCompleted : hears awaits_complete e.phase ≡ true → CompleteActs e (Ends (closed Completed e))

-- ---- chunks of an unknown type (3.2)

-- the cause that reports a chunk (3.3.10.6): its header and value, without padding
abbrev pub unknown_item : ℕ → ℕ → List ℕ → Typed
unknown_item kind flags value = item UNRECOGNIZED_CHUNK (kind ∷ flags ∷ (u16_bytes (4 + length value) ++ value))

-- a caller that knows no peer yet reports nothing
abbrev pub may_report : Phase → Bool
may_report (Calling d) = false
may_report h = true

-- the causes that wait, with the report if the rule asks for it
abbrev pub unknown_causes : EndView → ℕ → ℕ → List ℕ → List Typed
unknown_causes e kind flags value =
    if (chunk_rule kind).report && may_report e.phase then causes_with e (unknown_item kind flags value) else e.due.causes

-- the chunks after it are left unread, or act
abbrev pub unknown_leaves : Bool → EndView → After
unknown_leaves true e = Ends e
unknown_leaves false e = GoesOn Unnoted e

-- What a chunk of an unknown type does, by the two highest bits of its type (3.2).
abbrev pub unknown_acts : EndView → ℕ → ℕ → List ℕ → After
unknown_acts e kind flags value =
    unknown_leaves (chunk_rule kind).stop (with_causes (unknown_causes e kind flags value) e)

-- What a chunk of any other type does: a RE-CONFIG, at an endpoint that has agreed on it, acts by its parameters (RFC 6525, 5.2); every other one is of an
-- unknown type.
pub data OtherActs (e : EndView) (kind flags : ℕ) (value : List ℕ) : After → Type 0 where
  ReconfigComes : (c : ℕ) → takes_reconfig e kind ≡ true → IsCumulative e.receiver c →
      OtherActs e kind flags value (GoesOn Unnoted (parameters_heard c e (typed_in value)))
  IsUnknown : (a : After) → takes_reconfig e kind ≡ false → a ≡ unknown_acts e kind flags value → OtherActs e kind flags value a

-- ---- one clause for each type; the tag is that of the packet

-- What one chunk does to an endpoint, by its type (3.2, table 1).
abbrev pub Acts : EndView → ℕ → ChunkMeaning → After → Type 0
Acts e tag (Data p) a = PieceActs Plain e p a
Acts e tag (IData p) a = PieceActs Interleaved e p a
Acts e tag (Init m) a = a ≡ PassedOver
Acts e tag (InitAck m) a = InitAckActs e m a
Acts e tag (Sack s) a = SackActs e s a
Acts e tag (Heartbeat info) a = HeartbeatActs e info a
Acts e tag (HeartbeatAck info) a = a ≡ GoesOn Unnoted (beat_heard e info)
Acts e tag (Abort t causes) a = a ≡ Ends (closed Aborted e)
Acts e tag (Shutdown tsn) a = ShutdownActs e tsn a
Acts e tag ShutdownAck a = ShutdownAckActs e a
Acts e tag (Error causes) a = ErrorActs e causes a
Acts e tag (CookieEcho cookie) a = EchoActs e tag cookie a
Acts e tag CookieAck a = CookieAckActs e a
Acts e tag (ShutdownComplete t) a = CompleteActs e a
Acts e tag (ForwardTsn m) a = ForwardActs Plain e m a
Acts e tag (IForwardTsn m) a = ForwardActs Interleaved e m a
Acts e tag (Unknown kind flags value) a = OtherActs e kind flags value a
