use Rattle.std.proofs.Common.{arith}
use Rattle.sctp_send.proofs.kept.PartStreams.{streams_fresh}
use Rattle.sctp_send.proofs.kept.streams.Streams.new.Goals as goal

pub invariant_of-result : goal.invariant_of-result
invariant_of-result c = streams_fresh c.args.size c.args.streams c.in_ok-tracks.tracks.items c.in_ok-lists.lists c.requires (omega arith) c.in_ok-tracks.ensures (c.in_ok-lists.ensures.map c.args.streams)
