-- What a message that was handed over says.
use Rattle.std.specs.Prelude.{ℕ, not, List}
use Rattle.sctp_model.specs.receiver.ReceiverView.{Handed}
use Rattle.sctp_model.specs.receiver.Reading.{lane_of}
use Rattle.sctp_chains.specs.Fragments.{fragments_in}
use Rattle.sctp_recv.specs.Parts.{text_of_parts}
use Rattle.sctp_recv.specs.declared.message.Message.{Message}

-- its fragments' data, joined
abbrev pub message_bytes : Message → List ℕ
message_bytes m = text_of_parts (fragments_in m.parts)

-- the message as the view has it
abbrev pub handed_of : Message → Handed
handed_of m = record {
  first = m.first;
  lane = lane_of m.stream (not m.ordered);
  number = m.number;
  payload = m.payload_id;
  bytes = message_bytes m;
}
