-- What a receiver keeps.
use Rattle.std.specs.Prelude.{map}
use Rattle.sctp_recv.specs.ReceiverKept.{ReceiverKept}
use Rattle.sctp_recv.specs.Fields.{stream_of}
use Rattle.sctp_recv.specs.Resets.{resets_in}
use Rattle.sctp_recv.specs.declared.receiver.Receiver.{Receiver}

-- a receiver without its memory and its chunks
abbrev pub kept_of : {F : Type 0} → Receiver F → ReceiverKept
kept_of r = record {
  seen = r.seen.kept;
  streams = map stream_of r.streams.items;
  duplicates = r.duplicates.tsns.items;
  resets = resets_in r.resets;
  held = r.held;
  initial = r.initial;
  buffer = r.buffer;
}
