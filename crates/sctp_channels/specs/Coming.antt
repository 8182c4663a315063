-- What a message does to the stream on which it is received, and what the user is told (RFC 8831, 6.5 to 6.7; RFC 8832, 6).
use Rattle.std.specs.Prelude.{ℕ, ◌-◌, max, ◌==◌, nat_le, Bool, true, false, if◌then◌else◌, Option, None, Some}
use Rattle.sctp_model.specs.receiver.ReceiverView.{Handed}
use Rattle.sctp_dcep.specs.Content.{Content, DCEP, content_of}
use Rattle.sctp_dcep.specs.Dcep.{Parameters, Control, Opens, Acknowledges, Faulty, control_of}
use Rattle.sctp_channels.specs.declared.stream.Due.TheVariants.{Acknowledgement, Reset}
use Rattle.sctp_channels.specs.declared.stream.State.{State}
use Rattle.sctp_channels.specs.declared.stream.State.TheVariants.{Unused, Connecting, Unanswered, Open, Closing, Refused, Silent}
use Rattle.sctp_channels.specs.declared.stream.Resets.TheVariants.{One, Two}
use Rattle.sctp_channels.specs.declared.stream.Stream.{Stream}
use Rattle.sctp_channels.specs.declared.table.DtlsRole.{DtlsRole}
use Rattle.sctp_channels.specs.Streams.{unused, is_reset, is_reset_again, with_channel, is_own}
use Rattle.sctp_channels.specs.Told.{Refusal, BadOpening, WrongHalf, NoWayBack, NoChannel, OpenAgain, StrayAck, LateAck, BadControl, OtherPayload, OnClosing, OnRefused, Told, Incoming, Opened, Message, Refuses, Ignores}

-- The stream after a message; what the user is told; whether the message is taken by that, or waits on.
pub record After : Type 0 where
  pub stream : Stream
  pub told : Told
  pub taken : Bool

-- this is told of a message that is taken
abbrev pub tells : Told → Stream → After
tells t x = record { stream = x; told = t; taken = true }

-- ---- DCEP

-- No channel begins so: this side's half of the stream is reset, as if a channel were closed (RFC 8832, 6), and its messages are ignored until the peer has reset its half.
abbrev pub refuses : Refusal → Stream → After
refuses why x = tells (Refuses why) (record x { state = Refused; due = Reset })

-- An OPEN on a stream without a channel: the channel is open, and its ACK is due (RFC 8832, 6). So many streams go out.
abbrev pub begins : DtlsRole → (outgoing stream : ℕ) → Parameters → Stream → After
begins role outgoing s p x =
    if is_own role s then refuses WrongHalf x
    else if nat_le outgoing s then refuses NoWayBack x
    else tells (Incoming p) (record (with_channel Open p.ordered p.reliability x) { due = Acknowledgement })

-- a message of DCEP on a stream without a channel
abbrev pub opens_channel : DtlsRole → (outgoing stream : ℕ) → Control → Stream → After
opens_channel role outgoing s (Opens p) x = begins role outgoing s p x
opens_channel role outgoing s Acknowledges x = tells (Ignores StrayAck) x
opens_channel role outgoing s (Faulty w) x = refuses (BadOpening w) x

-- one on a stream with a channel, where an ACK does this
abbrev pub with_ack : After → Control → Stream → After
with_ack ack (Opens p) x = tells (Ignores OpenAgain) x
with_ack ack Acknowledges x = ack
with_ack ack (Faulty w) x = tells (Ignores (BadControl w)) x

-- a message of DCEP, by the state
abbrev pub control_comes : DtlsRole → (outgoing stream : ℕ) → State → Control → Stream → After
control_comes role outgoing s Unused k x = opens_channel role outgoing s k x
control_comes role outgoing s Connecting k x = with_ack (tells Opened (record x { state = Open })) k x
control_comes role outgoing s Unanswered k x = with_ack (tells (Ignores LateAck) (record x { state = Open })) k x
control_comes role outgoing s Open k x = with_ack (tells (Ignores StrayAck) x) k x
control_comes role outgoing s Closing k x = tells (Ignores OnClosing) x
control_comes role outgoing s Refused k x = tells (Ignores OnRefused) x
control_comes role outgoing s Silent k x = tells (Ignores OnClosing) x

-- ---- what the peer's application sent

-- By the state. Before the ACK it shows that the channel is open, since an unordered message may overtake the ACK: this is told first (RFC 8832, 6). It is told on a
-- channel that is being closed, too.
abbrev pub content_comes : State → Content → Stream → After
content_comes Unused c x = tells (Ignores NoChannel) x
content_comes Connecting c x = record { stream = record x { state = Unanswered }; told = Opened; taken = false }
content_comes Unanswered c x = tells (Message c) x
content_comes Open c x = tells (Message c) x
content_comes Closing c x = tells (Message c) x
content_comes Refused c x = tells (Ignores OnRefused) x
content_comes Silent c x = tells (Ignores OnClosing) x

-- another payload protocol identifier (RFC 8831, 8)
abbrev pub other_comes : State → Stream → After
other_comes Unused x = tells (Ignores NoChannel) x
other_comes Connecting x = tells (Ignores OtherPayload) x
other_comes Unanswered x = tells (Ignores OtherPayload) x
other_comes Open x = tells (Ignores OtherPayload) x
other_comes Closing x = tells (Ignores OnClosing) x
other_comes Refused x = tells (Ignores OnRefused) x
other_comes Silent x = tells (Ignores OnClosing) x

-- whatever isn't of DCEP
abbrev pub data_comes : Option Content → Stream → After
data_comes (Some c) x = content_comes x.state c x
data_comes None x = other_comes x.state x

-- what a message says: DCEP, or what the peer's application sent, if its payload protocol identifier is one of a channel
pub data Said : Type 0 where
  OfDcep : Control → Said
  OfChannel : Option Content → Said

-- by its payload protocol identifier (RFC 8831, 8)
abbrev pub said_in : Handed → Said
said_in h = if h.payload == DCEP then OfDcep (control_of h.bytes) else OfChannel (content_of h.payload h.bytes)

-- by what it says
abbrev pub comes_saying : DtlsRole → (outgoing stream : ℕ) → Said → Stream → After
comes_saying role outgoing s (OfDcep k) x = control_comes role outgoing s x.state k x
comes_saying role outgoing s (OfChannel o) x = data_comes o x

-- A message comes.
abbrev pub comes : DtlsRole → (outgoing stream : ℕ) → Handed → Stream → After
comes role outgoing s h x = comes_saying role outgoing s (said_in h) x

-- ---- messages before the peer's reset

-- The peer's half is closed: the stream is being closed, and this side resets its half, too, unless it has asked for that (RFC 8831, 6.7). Where no channel was reported, nothing is reported of it.
abbrev pub half_closed : State → Stream → Stream
half_closed Unused x = record x { state = Silent; due = Reset }
half_closed Connecting x = record x { state = Closing; due = Reset }
half_closed Unanswered x = record x { state = Closing; due = Reset }
half_closed Open x = record x { state = Closing; due = Reset }
half_closed Closing x = x
half_closed Refused x = record x { state = Silent }
half_closed Silent x = x

-- so many messages that were sent before the reset are left
abbrev pub leaving : (left : ℕ) → Stream → Stream
leaving left x = if left == 0 then half_closed x.state (record x { left = 0 }) else record x { left = left }

-- one of them was taken, if the peer has reset the stream; it was one of those before a further reset, too
abbrev pub one_taken : Stream → Stream
one_taken x = if is_reset x.resets then leaving (x.left - 1) (record x { again = x.again - 1 }) else x

-- The stream after a message, which counts if it was taken.
abbrev pub heard : After → Stream
heard a = if a.taken then one_taken a.stream else a.stream

-- The peer has reset the stream, and so many messages that wait were sent before. A further reset is of the stream's next channel: it is kept until this one is closed,
-- and no fewer messages were sent before it.
abbrev pub peer_resets : (count : ℕ) → Stream → Stream
peer_resets count x = if is_reset x.resets then record x { again = max x.left count; resets = Two } else leaving count (record x { resets = One })

-- what is left of a stream that is closed: the peer has reset it again, or nothing is known of it
abbrev pub left_over : Stream → Stream
left_over x = if is_reset_again x.resets then peer_resets x.again unused else unused
