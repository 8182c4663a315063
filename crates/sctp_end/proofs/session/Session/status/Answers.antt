use Rattle.sctp_end.specs.Performing.{TellsStatus}
use Rattle.sctp_end.proofs.session.Session.status.Goals as goal

pub returns : goal.returns
returns c = λ v stands. (
  v,
  TellsStatus _ (record {
    state = c.state.ensures v stands;
    ended = c.ended.ensures v stands;
    next = c.next_moment.ensures v stands;
    agreed = c.agreed.ensures v stands;
    outstanding = c.outstanding.ensures.count v stands;
    queued = c.queued.ensures.count v stands;
    bytes = c.queued_bytes.ensures.bytes v stands;
    held = c.held_bytes.ensures.held v stands;
    window = c.peer_window.ensures v stands;
    readable = c.readable.ensures v stands;
  }),
  stands,
)
