-- What a fill counts of its chunks: whether each was sent before.
use Rattle.std.specs.Prelude.{◌+◌, ◌%◌, ◌^◌, Bool, if◌then◌else◌}
use Rattle.sctp_send.specs.declared.fill.asking.Going.{Going}
use Rattle.sctp_send.specs.declared.fill.asking.Going.TheVariants.{Indexed, New}
use Rattle.sctp_send.specs.declared.fill.sendings.Sendings.{Sendings}

-- one more, which was sent before or not
abbrev pub sent_more : (again : Bool) → Sendings → Sendings
sent_more again x = if again then record x { again = (x.again + 1) % 2 ^ 32 } else record x { first = (x.first + 1) % 2 ^ 32 }

-- the same of a wish that goes
abbrev pub sent_going : Going → Sendings → Sendings
sent_going (Indexed x) s = sent_more x.again s
sent_going (New next) s = record s { first = (s.first + 1) % 2 ^ 32 }
