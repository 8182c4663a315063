use Rattle.std.proofs.Common.{◌∙◌}
use Rattle.sctp_send.specs.inner.Owning.{messages_of}
use Rattle.sctp_send.proofs.kept.UserLemmas.{user_is}
use Rattle.sctp_send.proofs.kept.queue.Queue.user_bytes_on.Goals as goal

pub returns : goal.returns
returns c =
    let w = c.self.inside in
    let read = rw c.deref.ensures.value at c.count_of.ensures in
    rw (← c.self.view_is, user_is w.size c.args.stream (messages_of w.messages.items) c.self.invariant.some) (c.from.ensures ∙ read ∙ c.self.invariant.user.sums c.args.stream)
