use Rattle.sctp_send.specs.inner.Owning.{messages_of}
use Rattle.sctp_send.proofs.kept.LoadLemmas.{waiting_is}
use Rattle.sctp_send.proofs.kept.queue.Queue.bytes.Goals as goal

pub returns : goal.returns
returns c =
    let w = c.self.inside in
    rw (← c.self.view_is, waiting_is w.size (messages_of w.messages.items) c.self.invariant.some) c.self.invariant.bytes
