use Rattle.sctp_recv.proofs.GiveLemmas.{handed_none}
use Rattle.sctp_recv.proofs.give.give_ordered.Goals as goal

pub returns : goal.returns
returns g c = λ kept stands counted room.
    let start = c.args.inbound.now in
    c.give_on.ensures start kept counted (record { rest = kept; handed = handed_none g.F.Framing.format c.args.stream c.args.floor kept start; left = stands; room = room })
