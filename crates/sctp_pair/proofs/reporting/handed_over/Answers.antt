use Rattle.sctp_pair.specs.Sides.{SideStands}
use Rattle.sctp_pair.proofs.reporting.handed_over.Goals as goal

pub returns : goal.returns
unfolding SideStands
returns c = λ v stands.
    let taken = v.end.receiver.taken in
    c.in_ok-add_waiting.ensures v.end (taken c.args.stream) stands.end (c.in_ok-log.ensures taken (rw c.deref.ensures.value stands.notes.taken))
