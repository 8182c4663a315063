use Rattle.std.proofs.Common.{map, sym}
use Rattle.sctp_send.specs.SenderFields.{track_meaning}
use Rattle.sctp_send.proofs.kept.PartStreams.{there_goes_on}
use Rattle.sctp_send.proofs.readers.is_in_part.Goals as goal

pub returns-in-Some : goal.returns-in-Some
returns-in-Some c = λ size. sym (there_goes_on c.args.ticket c.in-Some.field-0 (map (track_meaning size) c.args.streams.now.items) (c.in-Some.ensures.some size))
