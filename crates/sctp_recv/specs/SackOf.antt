-- What a SACK's own lists say, and a SACK without lists.
use Rattle.std.specs.Prelude.{◌≡◌, []}
use Rattle.sctp_model.specs.numbers.Limits.{BLOCK_LIMIT}
use Rattle.sctp_model.specs.wire.Chunk.{SackMeaning}
use Rattle.sctp_wire.specs.Items.{blocks_in, words_in}
use Rattle.sctp_model.specs.receiver.ReceiverView.{ReceiverView}
use Rattle.sctp_model.specs.receiver.SackMade.{IsSack}
use Rattle.sctp_recv.specs.declared.sack.SackLists.{SackLists}
use Rattle.sctp_recv.specs.declared.sack.PlainSack.{PlainSack}

-- what they say on the wire (RFC 9260, 3.3.4)
abbrev pub lists_meaning : SackLists → SackMeaning
lists_meaning s = record {
  cumulative = s.cumulative;
  rwnd = s.rwnd;
  blocks = blocks_in s.blocks.items;
  duplicates = words_in s.duplicates.items;
}

-- the same of a SACK without lists
abbrev pub plain_meaning : PlainSack → SackMeaning
plain_meaning s = record { cumulative = s.cumulative; rwnd = s.rwnd; blocks = []; duplicates = [] }

-- the SACK of the view has gap ack blocks or duplicates
abbrev pub TellsLists : ReceiverView → Type 0
TellsLists r = (s : SackMeaning) → IsSack BLOCK_LIMIT r s → s.blocks ≡ [] → s.duplicates ≡ [] → ⊥
