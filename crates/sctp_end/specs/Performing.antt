-- What an endpoint answers to a call, and what the call leaves: over the definitions of its state machine.
use Rattle.std.specs.Prelude.{◌≡◌, ℕ, max, Bool, true, false, List, [], ◌∷◌, length, Option, Some, None, option_map}
use Rattle.sctp_model.specs.wire.Chunk.{ChunkMeaning}
use Rattle.sctp_model.specs.wire.Packet.{Packet}
use Rattle.sctp_model.specs.world.Calls.{Call as Message}
use Rattle.sctp_model.specs.receiver.ReceiverView.{Handed, held_bytes, size_of_pieces}
use Rattle.sctp_model.specs.receiver.ResetTaken.{old_waiting}
use Rattle.sctp_model.specs.sender.Entries.{in_flight}
use Rattle.sctp_model.specs.sender.Queueing as queueing
use Rattle.sctp_model.specs.sender.Readers.{acknowledged, abandoned}
use Rattle.sctp_model.specs.end.EndView.{Draw, EndView, state_of, ended_of}
use Rattle.sctp_model.specs.end.Clock.{at_moment}
use Rattle.sctp_model.specs.end.Strays as strays
use Rattle.sctp_model.specs.end.Arriving.{Receives, IsCutShort, WantsNoMemory}
use Rattle.sctp_model.specs.end.Building.{Builds, packet_of}
use Rattle.sctp_model.specs.end.Moments.{ticked, next_moment}
use Rattle.sctp_model.specs.end.UserCalls as model
use Rattle.sctp_model.specs.end.UserCalls.{connect_answer, called, send_answer, send_leaves, abandons, abandoned_at, UserTakes, reset_call, reset_leaves, reset_there, told_leaves, shutdown_answer, shut, abort_answer, abort_leaves}
use Rattle.sctp_values.specs.declared.kind.Kind.{Kind}
use Rattle.sctp_values.specs.Meanings.{kind_meaning}
use Rattle.sctp_terms.specs.declared.life.End.{End}
use Rattle.sctp_terms.specs.declared.life.State.{State}
use Rattle.sctp_terms.specs.declared.reason.Reason.{Reason}
use Rattle.sctp_terms.specs.Meanings.{end_meaning, state_meaning, reason_code}
use Rattle.sctp_packet.specs.PacketBytes.{WritesPacket}
use Rattle.sctp_send.specs.declared.abandon.Abandoned.{Abandoned as Fates}
use Rattle.sctp_send.specs.SenderAnswers.{answer_meaning, abandoned_messages}
use Rattle.sctp_association.specs.declared.build.sendings.Sendings.{Sendings}
use Rattle.sctp_association.specs.declared.user.path.Path.{Path}
use Rattle.sctp_association.specs.PathAnswers.{PathAnswer}
use Rattle.sctp_association.specs.Sends as sendings
use Rattle.sctp_endpoint.specs.Counted.{Counted, counts_meaning, sacks_read}
use Rattle.sctp_endpoint.specs.Handled.{IsRead}
use Rattle.sctp_endpoint.specs.declared.counts.Counts.{Counts}
use Rattle.sctp_end.specs.Counting.{packet_counts, build_counts, abort_counts}
use Rattle.sctp_end.specs.Telling.{IsStatus}
use Rattle.sctp_end.specs.declared.status.Status.{Status}
use Rattle.sctp_end.specs.declared.call.Call.{Call}
use Rattle.sctp_end.specs.declared.call.Call.TheVariants as call
use Rattle.sctp_end.specs.declared.reply.Refusal.TheVariants.{NotIdle, NoSuchStream, Empty, TooLong, QueueFull, Spent, Resetting, NotEstablished, NotAgreed, NoSuchReset, NotOpen, NoPeer, ReasonTooLong}
use Rattle.sctp_end.specs.declared.reply.Reply.{Reply}
use Rattle.sctp_end.specs.declared.reply.Reply.TheVariants as reply

-- The state between two lines: the endpoint, what it counted from its start on, the random values (tag and initial TSN) for packets that arrive, and the
-- time, in milliseconds.
pub record Standing : Type 0 where
  pub view : EndView
  pub counts : Counted
  pub draw : Draw
  pub now : ℕ

-- ---- answers

-- of connect
abbrev pub connect_reply : model.ConnectAnswer → Reply
connect_reply model.Called = reply.Done
connect_reply model.NotIdle = reply.Refused NotIdle

-- and the endpoint that it leaves
abbrev pub connect_leaves : model.ConnectAnswer → Standing → Draw → EndView
connect_leaves model.Called s d = called (at_moment s.view s.now) d
connect_leaves model.NotIdle s d = s.view

-- of a packet that arrived
abbrev pub TellsPacket : strays.Verdict → Reply → Type 0
TellsPacket strays.Taken r = r ≡ reply.Taken
TellsPacket (strays.Dropped n) r = (reason : Reason) × (n ≡ reason_code reason) × (r ≡ reply.Dropped reason)
TellsPacket (strays.Answer p) r = (bytes : List ℕ) × WritesPacket bytes p × (r ≡ reply.Answer bytes)

-- of a message that is sent
abbrev pub send_reply : model.SendAnswer → Reply
send_reply (model.Ticket k) = reply.Ticket k
send_reply (model.Refused queueing.NoSuchStream) = reply.Refused NoSuchStream
send_reply (model.Refused queueing.Empty) = reply.Refused Empty
send_reply (model.Refused queueing.TooLong) = reply.Refused TooLong
send_reply (model.Refused queueing.QueueFull) = reply.Refused QueueFull
send_reply (model.Refused queueing.Spent) = reply.Refused Spent
send_reply (model.Refused queueing.Resetting) = reply.Refused Resetting
send_reply model.NotOpen = reply.Refused NotEstablished

-- a message as the definitions have it, with a limit of retransmissions or without
abbrev pub message_of : (stream : ℕ) → Kind → (payload : ℕ) → (until limit : Option ℕ) → List ℕ → Message
message_of stream kind payload until limit bytes =
    record { lane = record { stream = stream; kind = kind_meaning kind }; payload = payload; bytes = bytes; until = until; limit = limit }

-- of a message that the user takes
abbrev pub TellsMessage : (stream : ℕ) → Handed → Reply → Type 0
TellsMessage stream h r = (kind : Kind) × (kind_meaning kind ≡ h.lane.kind) × (r ≡ reply.Message stream kind h.number h.payload h.bytes)

-- of the reset of a stream
abbrev pub reset_reply : model.ResetCall → Reply
reset_reply model.Begun = reply.Done
reset_reply model.NotAgreed = reply.Refused NotAgreed
reset_reply model.NoStream = reply.Refused NoSuchReset

-- of shutdown
abbrev pub shutdown_reply : model.ShutdownAnswer → Reply
shutdown_reply model.Shut = reply.Done
shutdown_reply model.NotShut = reply.Refused NotOpen

-- of abort
abbrev pub TellsAbort : model.AbortAnswer → Reply → Type 0
TellsAbort (model.Aborts p) r = (bytes : List ℕ) × WritesPacket bytes p × (r ≡ reply.Answer bytes)
TellsAbort model.NoPeer r = r ≡ reply.Refused NoPeer
TellsAbort model.TooLong r = r ≡ reply.Refused ReasonTooLong

-- the calls that allocate and, if that fails, change nothing; of a packet the chunks before the failing one may have taken effect
abbrev pub may_want : Call → Bool
may_want call.Build = true
may_want (call.Send stream kind payload until bytes) = true
may_want (call.SendWithMaxRetransmits stream kind payload until limit bytes) = true
may_want (call.Take stream) = true
may_want (call.Reset stream) = true
may_want (call.Abort reason) = true
may_want _ = false

-- ---- calls

-- A call is answered so, and leaves this. Each row says what is counted where it is more than before.
pub data Performs (s : Standing) : Call → Reply → Standing → Type 0 where
  Connects : (d : Draw) (a : model.ConnectAnswer) → connect_answer s.view.phase ≡ a →
      Performs s (call.Connect d) (connect_reply a) (record s { view = connect_leaves a s d })
  Draws : (d : Draw) → Performs s (call.NewDraw d) reply.Done (record s { draw = d })
  TimePasses : (m now : ℕ) → now ≡ max s.now m →
      Performs s (call.At m) reply.Done (record s { view = ticked s.view now; now = now })
  PacketComes : (bytes : List ℕ) (p : Option Packet) (t : EndView) (x : strays.Verdict) (r : Reply) → IsRead bytes p → Receives s.view s.now s.draw p t x → TellsPacket x r →
      Performs s (call.Packet bytes) r (record s { view = t; counts = packet_counts (length bytes) (sacks_read p) r s.counts })
  PacketCut : (bytes : List ℕ) (p : Option Packet) (t : EndView) → IsRead bytes p → IsCutShort s.view s.now s.draw p t → (WantsNoMemory s.view s.now s.draw p → ⊥) →
      Performs s (call.Packet bytes) reply.NoMemory (record s { view = t })
  BuildsOne : (bytes : List ℕ) (x : ChunkMeaning) (xs : List ChunkMeaning) (t : EndView) (n : Sendings) → Builds (at_moment s.view s.now) (x ∷ xs) t →
      WritesPacket bytes (packet_of (at_moment s.view s.now) (x ∷ xs)) → sendings.Sends (at_moment s.view s.now) (x ∷ xs) n →
      Performs s call.Build (reply.Sent bytes) (record s { view = t; counts = build_counts (length bytes) (at_moment s.view s.now) t n s.counts })
  BuildsNone : (t : EndView) → Builds (at_moment s.view s.now) [] t → Performs s call.Build reply.Quiet (record s { view = t })
  Sends : (stream : ℕ) (kind : Kind) (payload : ℕ) (until : Option ℕ) (bytes : List ℕ) (a : model.SendAnswer) →
      send_answer s.view (message_of stream kind payload until None bytes) ≡ a →
      Performs s (call.Send stream kind payload until bytes) (send_reply a)
      (record s { view = send_leaves a s.view (message_of stream kind payload until None bytes) })
  SendsLimited : (stream : ℕ) (kind : Kind) (payload : ℕ) (until : Option ℕ) (limit : ℕ) (bytes : List ℕ) (a : model.SendAnswer) →
      send_answer s.view (message_of stream kind payload until (Some limit) bytes) ≡ a →
      Performs s (call.SendWithMaxRetransmits stream kind payload until limit bytes) (send_reply a)
      (record s { view = send_leaves a s.view (message_of stream kind payload until (Some limit) bytes) })
  Abandons : (k : ℕ) (fate : Fates) → answer_meaning fate ≡ abandons s.view k →
      Performs s (call.Abandon k) (reply.Fate fate) (record s { view = abandoned_at s.view k })
  TellsAcknowledged : (k : ℕ) (b : Bool) → b ≡ acknowledged s.view.sender k → Performs s (call.Acknowledged k) (reply.Holds b) s
  TellsAbandoned : (k : ℕ) (b : Bool) → b ≡ abandoned s.view.sender k → Performs s (call.Abandoned k) (reply.Holds b) s
  TakesOne : (stream : ℕ) (h : Handed) (r : Reply) (t : EndView) → UserTakes s.view stream (Some h) t → TellsMessage stream h r →
      Performs s (call.Take stream) r (record s { view = t })
  TakesNone : (stream : ℕ) (t : EndView) → UserTakes s.view stream None t → Performs s (call.Take stream) (reply.Empty stream) (record s { view = t })
  ResetsOne : (stream : ℕ) (a : model.ResetCall) → reset_call s.view stream ≡ a →
      Performs s (call.Reset stream) (reset_reply a) (record s { view = reset_leaves a s.view stream })
  TellsReset : (stream n : ℕ) → reset_there s.view ≡ Some stream → n ≡ old_waiting s.view.receiver stream →
      Performs s call.Resets (reply.ResetThere stream n) (record s { view = told_leaves (Some stream) s.view })
  TellsNoReset : reset_there s.view ≡ None → Performs s call.Resets reply.NoReset s
  ShutsDown : (a : model.ShutdownAnswer) → shutdown_answer s.view.phase ≡ a →
      Performs s call.Shutdown (shutdown_reply a) (record s { view = shut s.view })
  AbortsIt : (reason : List ℕ) (a : model.AbortAnswer) (r : Reply) → abort_answer s.view reason ≡ a → TellsAbort a r →
      Performs s (call.Abort reason) r (record s { view = abort_leaves a s.view; counts = abort_counts r s.counts })
  TellsNext : (m : Option ℕ) → m ≡ next_moment s.view → Performs s call.Next (reply.Next m) s
  TellsState : (x : State) (y : Option End) → state_meaning x ≡ state_of s.view.phase → option_map end_meaning y ≡ ended_of s.view.phase →
      Performs s call.State (reply.Stands x y) s
  TellsStatus : (x : Status) → IsStatus s.view x → Performs s call.Status (reply.Status x) s
  TellsPath : (n : ℕ) (x : Option Path) → n ≡ in_flight s.view.sender → PathAnswer s.view x → Performs s call.Path (reply.Path n x) s
  TellsCounts : (x : Counts) → counts_meaning x ≡ s.counts → x.abandoned ≡ abandoned_messages s.view.sender → Performs s call.Counts (reply.Counts x) s
  TellsHeld : (n : ℕ) → n ≡ held_bytes s.view.receiver → Performs s call.Held (reply.Held n) s
  TellsReassembly : (n : ℕ) → n ≡ size_of_pieces s.view.receiver.kept → Performs s call.Reassembly (reply.Reassembly n) s
  WantsMemory : (c : Call) → may_want c ≡ true → Performs s c reply.NoMemory s
