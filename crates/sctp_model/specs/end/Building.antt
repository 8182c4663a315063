-- A packet that is built: what is due, in its order, and then fragments (RFC 9260, 5.1, 6.1, 6.10 and 9.2; RFC 3758, 3.5; RFC 8260, 2.2 and 2.3.1).
use Rattle.std.specs.Prelude.{◌≡◌, ℕ, ◌-◌, nat_le, Bool, true, false, ◌&&◌, List, [], ◌∷◌, ◌++◌, map, Option, Some, None, option_map, is_some, ◌+◌, ◌*◌, ◌/◌}
use Rattle.std.specs.Prelude.{if◌then◌else◌}
use Rattle.sctp_model.specs.numbers.Serial.{tsn}
use Rattle.sctp_model.specs.wire.Typed.{Typed}
use Rattle.sctp_model.specs.wire.Chunk.{SackMeaning, ChunkMeaning, Sack, Heartbeat, HeartbeatAck, Shutdown, ShutdownAck, Error, CookieEcho, CookieAck}
use Rattle.sctp_model.specs.wire.Packet.{Packet, size_of_packet}
use Rattle.sctp_model.specs.receiver.ReceiverView.{IsCumulative, room_left}
use Rattle.sctp_model.specs.wire.Reconfig.{reconfig_chunk, reset_item}
use Rattle.sctp_model.specs.sender.Outgoing.{Request}
use Rattle.sctp_model.specs.sender.Resetting.{request_said}
use Rattle.sctp_model.specs.sender.Filling.{Wish, Fill, fill}
use Rattle.sctp_model.specs.sender.SentChunks.{chunk_of, forward_chunk_of}
use Rattle.sctp_model.specs.receiver.SackMade.{IsSack, sack_sent}
use Rattle.sctp_model.specs.receiver.ResetTaken.{last_finished, with_answers}
use Rattle.sctp_model.specs.end.EndView.{format_of, Draw, Tags, Stage, Phase, Calling, Echoing, Open, InitAlarm, CookieAlarm, DataAlarm, ShutdownAlarm}
use Rattle.sctp_model.specs.end.EndView.{AckAlarm, ResetAlarm, Timer, EndView, has_association, Configuration}
use Rattle.sctp_model.specs.end.Clock.{running, with_timer, started, is_point_past}
use Rattle.sctp_model.specs.end.Beating.{beat_said, beat_sent, beating_after, guarded}
use Rattle.sctp_model.specs.end.Closing.{with_due}
use Rattle.sctp_model.specs.end.Pacing.{room_by, sent_pace}
use Rattle.sctp_model.specs.end.Reports.{written}
use Rattle.sctp_model.specs.end.Opening.{own_init}
use Rattle.sctp_model.specs.end.Reconfiguring.{asking}
use Rattle.sctp_model.specs.numbers.Limits.{BLOCK_LIMIT, DUPLICATE_LIMIT}

-- ---- what is due

-- Where each kind of control chunk goes in a packet: before all user data, in this order (RFC 9260, 6.10).
pub data Slot : Type 0 where
  EchoSlot CookieAckSlot HeartbeatSlot BeatSlot ErrorSlot SackSlot ForwardSlot AnswerSlot RequestSlot ShutdownSlot ShutdownAckSlot : Slot

-- while a cookie is echoed, and while the association is open (RFC 9260, 5.1 and 6.10)
abbrev pub echoing_slots : List Slot
echoing_slots = EchoSlot ∷ ErrorSlot ∷ []

-- the order of filling while the association is open (RFC 9260, 6.10)
abbrev pub open_slots : List Slot
open_slots = CookieAckSlot ∷ HeartbeatSlot ∷ BeatSlot ∷ ErrorSlot ∷ SackSlot ∷ ForwardSlot ∷ AnswerSlot ∷ RequestSlot ∷ ShutdownSlot ∷ ShutdownAckSlot ∷ []

-- there is a value
abbrev pub has_some : Option (List ℕ) → Bool
has_some None = false
has_some (Some xs) = true

-- there are causes
abbrev pub has_causes : List Typed → Bool
has_causes [] = false
has_causes (x ∷ xs) = true

-- something is due at this place
abbrev pub is_due : Slot → EndView → Bool
is_due EchoSlot e = e.due.cookie_echo
is_due CookieAckSlot e = e.due.cookie_ack
is_due HeartbeatSlot e = has_some e.due.heartbeat
is_due BeatSlot e = e.due.beat
is_due ErrorSlot e = has_causes e.due.causes
is_due SackSlot e = e.due.sack
is_due ForwardSlot e = e.due.forward && is_point_past e.sender
is_due AnswerSlot e = has_causes e.receiver.resets.answers
is_due RequestSlot e = e.due.request && is_some e.sender.resets.pending
is_due ShutdownSlot e = e.due.shutdown
is_due ShutdownAckSlot e = e.due.shutdown_ack

-- How many gap blocks a SACK of this endpoint has at most: with the option as many as a packet of its own holds, whatever duplicates it reports (3.3.4).
abbrev pub most_blocks : Configuration → ℕ
most_blocks c = if c.all_blocks then (c.limit - (size_of_packet [] + 16 + 4 * DUPLICATE_LIMIT)) / 4 else BLOCK_LIMIT

-- The chunk that is due at a place.
pub data Wants (e : EndView) : Slot → ChunkMeaning → Type 0 where
  EchoCookie : (t : Tags) (xs : List ℕ) → e.phase ≡ Echoing t xs → Wants e EchoSlot (CookieEcho xs)
  AckCookie : Wants e CookieAckSlot CookieAck
  AckHeartbeat : (info : List ℕ) → e.due.heartbeat ≡ Some info → Wants e HeartbeatSlot (HeartbeatAck info)
  Beat : Wants e BeatSlot (Heartbeat (beat_said e))
  ReportCauses : Wants e ErrorSlot (Error (written e.due.causes))
  Acknowledge : (s : SackMeaning) → IsSack (most_blocks e.configuration) e.receiver s → Wants e SackSlot (Sack s)
  PassOn : Wants e ForwardSlot (forward_chunk_of (format_of e) e.configuration.limit e.sender)
  AnswerReset : Wants e AnswerSlot (reconfig_chunk e.receiver.resets.answers)
  AskReset : (q : Request) → e.sender.resets.pending ≡ Some q →
      Wants e RequestSlot (reconfig_chunk (reset_item (last_finished e.receiver) (request_said e.sender q) ∷ []))
  SayShutdown : (c : ℕ) → IsCumulative e.receiver c → Wants e ShutdownSlot (Shutdown (tsn e.receiver.initial c))
  AnswerShutdown : Wants e ShutdownAckSlot ShutdownAck

-- The endpoint once that chunk is built, whatever it says: at this place nothing is due any more; what is retransmitted starts its timer (RFC 9260, 6.3.2);
-- after a SACK none is delayed.
abbrev pub once_built : Slot → EndView → EndView
once_built EchoSlot e = started CookieAlarm (with_due (record e.due { cookie_echo = false }) e)
once_built CookieAckSlot e = with_due (record e.due { cookie_ack = false }) e
once_built HeartbeatSlot e = with_due (record e.due { heartbeat = None }) e
once_built BeatSlot e = beat_sent e
once_built ErrorSlot e = with_due (record e.due { causes = [] }) e
once_built SackSlot e = record e { due = record e.due { sack = false }; delayed = None; offered = room_left e.receiver; receiver = sack_sent e.receiver }
once_built ForwardSlot e = started DataAlarm (with_due (record e.due { forward = false }) e)
once_built AnswerSlot e = record e { receiver = with_answers e.receiver [] }
once_built RequestSlot e = started ResetAlarm (with_due (record e.due { request = false }) e)
once_built ShutdownSlot e = guarded (started ShutdownAlarm (with_due (record e.due { shutdown = false }) e))
once_built ShutdownAckSlot e = started AckAlarm (with_due (record e.due { shutdown_ack = false }) e)

-- ---- filling

-- after these chunks there is space for one more, up to the packet limit (RFC 9260, 6.10)
abbrev pub has_room : EndView → List ChunkMeaning → ChunkMeaning → Bool
has_room e xs x = nat_le (size_of_packet (xs ++ x ∷ [])) e.configuration.limit

-- What is due at these places goes in after `xs`, one after the other; the first that doesn't fit ends the packet (`full`) and stays due.
pub data Puts : List Slot → EndView → List ChunkMeaning → List ChunkMeaning → (full : Bool) → EndView → Type 0 where
  NoMore : (e : EndView) (xs : List ChunkMeaning) → Puts [] e xs xs false e
  NotDue : (s : Slot) (ss : List Slot) (e : EndView) (xs zs : List ChunkMeaning) (full : Bool) (t : EndView) → is_due s e ≡ false →
      Puts ss e xs zs full t → Puts (s ∷ ss) e xs zs full t
  Put : (s : Slot) (ss : List Slot) (e : EndView) (x : ChunkMeaning) (xs zs : List ChunkMeaning) (full : Bool) (t : EndView) → is_due s e ≡ true →
      Wants e s x → has_room e xs x ≡ true → Puts ss (once_built s e) (xs ++ x ∷ []) zs full t → Puts (s ∷ ss) e xs zs full t
  IsFull : (s : Slot) (ss : List Slot) (e : EndView) (x : ChunkMeaning) (xs : List ChunkMeaning) → is_due s e ≡ true →
      Wants e s x → has_room e xs x ≡ false → Puts (s ∷ ss) e xs xs true e

-- fragments that go out start the data timer (RFC 9260, 6.3.2)
abbrev pub timer_after : EndView → List Wish → Timer
timer_after e [] = e.timers DataAlarm
timer_after e (w ∷ ws) = running e.moment (e.timers DataAlarm) (e.timers DataAlarm).expiry

-- the space for fragments after these chunks: what is left of the packet, if the endpoint's pace allows it (RFC 9260, 6.1)
abbrev pub room_behind : EndView → List ChunkMeaning → ℕ
room_behind e xs = room_by e.pace (format_of e) (e.configuration.limit - size_of_packet xs) e.sender

-- the fragments that fill it (RFC 9260, 6.1)
abbrev pub filled_behind : EndView → List ChunkMeaning → Fill
filled_behind e xs = fill (format_of e) (room_behind e xs) e.sender

-- the endpoint once fragments went out after these chunks
abbrev pub sent : EndView → List ChunkMeaning → EndView
sent e xs = beating_after (filled_behind e xs).wishes (with_timer DataAlarm (timer_after e (filled_behind e xs).wishes) (record e {
  sender = (filled_behind e xs).view;
  pace = option_map (sent_pace e.moment e.sender (filled_behind e xs).view (filled_behind e xs).wishes) e.pace;
}))

-- the chunks of these fragments
abbrev pub fragments : EndView → List ChunkMeaning → List ChunkMeaning
fragments e xs = map (chunk_of (format_of e)) (filled_behind e xs).wishes

-- ---- the next packet

-- BUILD: what the next packet of an endpoint holds (RFC 9260, 6.10), and what building it leaves. If it holds nothing there is no packet.
pub data Builds (e : EndView) : List ChunkMeaning → EndView → Type 0 where
  Sleeps : has_association e.phase ≡ false → Builds e [] e
  Waits : (d : Draw) → e.phase ≡ Calling d → e.due.init ≡ false → Builds e [] e
  -- an INIT is alone in its packet
  Calls : (d : Draw) → e.phase ≡ Calling d → e.due.init ≡ true →
      Builds e (own_init e.configuration d ∷ []) (started InitAlarm (with_due (record e.due { init = false }) e))
  Echoes : (t : Tags) (cookie : List ℕ) (zs : List ChunkMeaning) (full : Bool) (x : EndView) → e.phase ≡ Echoing t cookie →
      Puts echoing_slots e [] zs full x → Builds e zs x
  EndsFull : (t : Tags) (g : Stage) (zs : List ChunkMeaning) (x : EndView) → e.phase ≡ Open t g → Puts open_slots (asking e) [] zs true x → Builds e zs x
  Fills : (t : Tags) (g : Stage) (zs : List ChunkMeaning) (x : EndView) → e.phase ≡ Open t g → Puts open_slots (asking e) [] zs false x →
      Builds e (zs ++ fragments x zs) (sent x zs)

-- the tag on an endpoint's packets: the one that its peer asked for, once it knows it; an INIT has 0 (8.5.1)
abbrev pub tag_to : Phase → ℕ
tag_to (Echoing tags cookie) = tags.peer
tag_to (Open tags stage) = tags.peer
tag_to h = 0

-- the packet of these chunks (RFC 9260, 3)
abbrev pub packet_of : EndView → List ChunkMeaning → Packet
packet_of e xs = record { source = e.configuration.own_port; destination = e.configuration.peer_port; tag = tag_to e.phase; chunks = xs }
