-- What C gets of an event, and which one waits then.
use Rattle.std.specs.Prelude.{◌≡◌, ℕ, ◌-◌, ◌^◌, ◌==◌, ◌<◌, ◌≤◌, min, Bool, true, false, if◌then◌else◌, List, [], ◌∷◌, ◌++◌, length, drop, Option, None, Some, Result, Ok, Err, IfOk, OnErr}
use Rattle.sctp_model.specs.end.EndView.{EndView}
use Rattle.sctp_values.specs.declared.no_memory.NoMemory.{NoMemory}
use Rattle.sctp_dcep.specs.Dcep.{Parameters, type_of, value_of}
use Rattle.sctp_channels.specs.declared.event.Event.{Event}
use Rattle.sctp_channels.specs.declared.channels.Channels.{Channels}
use Rattle.sctp_channels.specs.declared.reading.Written.{Written}
use Rattle.sctp_channels.specs.declared.reading.Written.TheVariants.{Other}
use Rattle.sctp_channels.specs.ChannelsStand.{ChannelsStand}
use Rattle.sctp_channels.specs.Events.{next_told}
use Rattle.sctp_channels.specs.Meanings.{event_meaning}
use Rattle.sctp_channels.specs.Streams.{Table}
use Rattle.sctp_channels.specs.Told.{Told, Incoming, Opened, Message, Closed, BufferedAmountLow, Refuses, Ignores, Report}
use Rattle.sctp_channels.specs.Writing.{Writes}
use Rattle.sctp_c.specs.channels.Codes.{refusal_number, ignored_number}
use Rattle.sctp_c.specs.channels.Holds.{HoldsChannels, TellsIn, waiting_in, next_of}
use Rattle.sctp_c.specs.declared.channels.crossing.SctpChannelEvent.{SctpChannelEvent}
use Rattle.sctp_c.specs.declared.channels.held.Held.{Held}
use Rattle.sctp_c.specs.declared.codes.TheConstants.{OK, NO_MEMORY, NOTHING, NEEDS_ROOM}

-- ---- its numbers

-- how many bytes these are, as 64 bits say it
abbrev pub capped : List ℕ → ℕ
capped bytes = min (length bytes) (2 ^ 64 - 1)

-- an event of this kind on this stream: no other number has a meaning
abbrev pub plain_event : (stream kind : ℕ) → SctpChannelEvent
plain_event s k = record {
  length = 0;
  label_length = 0;
  reason = 0;
  limit = 0;
  priority = 0;
  reliability = 0;
  ordered = false;
  stream = s;
  kind = k;
  text = false;
  reserved = 0 ∷ 0 ∷ [];
}

-- the peer opened a channel
abbrev pub incoming_numbers : (stream : ℕ) → Parameters → SctpChannelEvent
incoming_numbers s p = record (plain_event s 1) {
  length = capped (p.label ++ p.protocol);
  label_length = length p.label;
  limit = value_of p.reliability;
  priority = p.priority;
  reliability = type_of p.reliability;
  ordered = p.ordered;
}

-- whatever is told of a stream
abbrev pub told_numbers : (stream : ℕ) → Told → SctpChannelEvent
told_numbers s (Incoming p) = incoming_numbers s p
told_numbers s Opened = plain_event s 2
told_numbers s (Message c) = record (plain_event s 3) { length = capped c.bytes; text = c.text }
told_numbers s Closed = plain_event s 4
told_numbers s (Refuses why) = record (plain_event s 5) { reason = refusal_number why }
told_numbers s (Ignores why) = record (plain_event s 6) { reason = ignored_number why }
told_numbers s BufferedAmountLow = plain_event s 7

-- THE NUMBERS OF AN EVENT
abbrev pub event_numbers : Report → SctpChannelEvent
event_numbers r = told_numbers r.stream r.told

-- ---- its bytes

-- of an opening its label and its protocol, of a message its content
abbrev pub told_bytes : Told → List ℕ
told_bytes (Incoming p) = p.label ++ p.protocol
told_bytes Opened = []
told_bytes (Message c) = c.bytes
told_bytes Closed = []
told_bytes (Refuses why) = []
told_bytes (Ignores why) = []
told_bytes BufferedAmountLow = []

-- THE BYTES OF AN EVENT
abbrev pub event_bytes : Report → List ℕ
event_bytes r = told_bytes r.told

-- they are at the beginning of the buffer, and after them it is as it was; or it has no space for them, and is as it was
abbrev pub PutsAll : (bytes : List ℕ) → Bool → (old new : List ℕ) → Type 0
PutsAll bytes true old new = (length bytes ≤ length old) × (new ≡ bytes ++ drop (length bytes) old)
PutsAll bytes false old new = (length old < length bytes) × (new ≡ old)

-- ---- what C gets

-- its numbers, and its bytes if the buffer has space for them
pub record IsTold (r : Report) (code : ℕ) (event : SctpChannelEvent) (old new : List ℕ) : Type 0 where
  pub numbers : event ≡ event_numbers r
  pub narrow : length old < length (event_bytes r) → (code ≡ NEEDS_ROOM) × (new ≡ old)
  pub put : length (event_bytes r) ≤ length old → (code ≡ OK) × (new ≡ event_bytes r ++ drop (length (event_bytes r)) old)

-- or that there is none, or that an allocation failed: all is as it was
abbrev pub EventTold : Result (Option Event) NoMemory → (code : ℕ) → (event_old event : SctpChannelEvent) → (old new : List ℕ) → Type 0
EventTold (Ok (Some told)) n e_old e old new = IsTold (event_meaning told) n e old new
EventTold (Ok None) n e_old e old new = (n ≡ NOTHING) × (e ≡ e_old) × (new ≡ old)
EventTold (Err why) n e_old e old new = (n ≡ NO_MEMORY) × (e ≡ e_old) × (new ≡ old)

-- what still waits once the next event was taken: nothing; after a failed allocation what did before
abbrev pub rest_of : Result (Option Event) NoMemory → (before : Option Event) → Option Event
rest_of (Ok told) before = None
rest_of (Err why) before = before

-- which event waits then: one that didn't fit
abbrev pub waits_after : Result (Option Event) NoMemory → (code : ℕ) → (rest : Option Event) → Option Event
waits_after (Ok (Some told)) n rest = if n == NEEDS_ROOM then Some told else rest
waits_after (Ok None) n rest = rest
waits_after (Err why) n rest = rest

-- what was written of the next event, if no event waits
abbrev pub WritesNext : EndView → Table → (before : Option Event) → Written → Channels → (old new : List ℕ) → Type 0
WritesNext v x None w c old new = Writes (next_told v x) v x w c old new
WritesNext v x (Some event) w c old new = (w ≡ Other) × ChannelsStand c v x × (new ≡ old)

-- The event that waited, or else the channels' next one, was this; C gets it, what is left is what it leaves, and it waits if it didn't fit.
pub record TellsNext (v : EndView) (x : Table) (before after : Option Held) (code : ℕ) (event_old event : SctpChannelEvent) (old new : List ℕ) : Type 0 where
  pub answer : Result (Option Event) NoMemory
  pub tells : IfOk answer (λ told. TellsIn (next_of (waiting_in before) v x) told after)
  pub refused : OnErr answer (HoldsChannels after v x)
  pub told : EventTold answer code event_old event old new
  pub waits : waiting_in after ≡ waits_after answer code (rest_of answer (waiting_in before))
