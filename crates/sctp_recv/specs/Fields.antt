-- What the structs of a stream say, and which lane a stream and a kind are.
use Rattle.std.specs.Prelude.{ℕ, map, Option, None, Some}
use Rattle.std.specs.declared.alloc.Global.{Global}
use Rattle.std.specs.declared.boxed.Box.{Box}
use Rattle.sctp_model.specs.messages.Format.{Lane}
use Rattle.sctp_values.specs.declared.kind.Kind.{Kind}
use Rattle.sctp_values.specs.Meanings.{kind_meaning}
use Rattle.sctp_recv.specs.HandedOf.{handed_of}
use Rattle.sctp_recv.specs.ReceiverKept.{StreamKept, FRESH}
use Rattle.sctp_recv.specs.declared.inbound.Inbound.{Inbound}
use Rattle.sctp_recv.specs.declared.stream.Stream.{Stream}

-- numbers and messages, these as they were handed over
abbrev pub inbound_of : {F : Type 0} → Inbound F → StreamKept
inbound_of x = record { next = x.next; skip = x.skip; past = x.past; waiting = map handed_of x.waiting.items }

-- the same, and nothing where nothing is known
abbrev pub known_of : {F : Type 0} → Option (Inbound F) → StreamKept
known_of None = FRESH
known_of (Some x) = inbound_of x

-- what is in the box
abbrev pub unboxed : {F : Type 0} → Option (Box (Inbound F) Global) → Option (Inbound F)
unboxed None = None
unboxed (Some b) = Some b.value

-- what is known of a stream, if something is
abbrev pub inside : {F : Type 0} → Stream F → Option (Inbound F)
inside s = unboxed s.inbound

-- what is known of it
abbrev pub stream_of : {F : Type 0} → Stream F → StreamKept
stream_of s = known_of (inside s)

-- a stream's messages of one kind
abbrev pub lane_at : ℕ → Kind → Lane
lane_at stream kind = record { stream = stream; kind = kind_meaning kind }
