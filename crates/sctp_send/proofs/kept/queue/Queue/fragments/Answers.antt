use Rattle.std.proofs.Common.{◌≡◌, ◌<◌, ◌∙◌, length, get_or, sym, ap, subst, arith}
use Rattle.std.proofs.lemmas.List.{get_or_default}
use Rattle.std.specs.declared.sync.Arc.{Arc}
use Rattle.std.specs.declared.alloc.Global.{Global}
use Rattle.sctp_model.specs.sender.Queueing.{cut}
use Rattle.sctp_send.specs.PartsKept.{QueueKept}
use Rattle.sctp_send.specs.inner.Owning.{IsOwned, messages_of}
use Rattle.sctp_send.specs.declared.kept.message.Message.{Message as MessageFields}
use Rattle.sctp_send.specs.declared.kept.waiting.Waiting.{Waiting}
use Rattle.sctp_send.proofs.kept.OwnedLemmas.{message_read, messages_long}
use Rattle.sctp_send.proofs.kept.queue.Queue.fragments.Goals as goal

pub returns-clause-count : goal.returns-clause-count
returns-clause-count c = λ x read.
    let w = c.self.inside in
    let n = c.args.at in
    let y = c.index.result.now in
    let ms = messages_of w.messages.items in
    let long = messages_long w.messages.items in
    let there : n < length ms = rw (← c.self.view_is) at c.requires in
    let own = subst (λ (z : Waiting). IsOwned w.size 0 z.message z.others.items) (sym c.index.ensures) (c.self.invariant.owned n y (omega (arith, there, long))) in
    let found : x ≡ get_or ms n x = rw (← c.self.view_is) at read in
    let is : x ≡ y.message = found ∙ (get_or_default ms n x y.message there ∙ sym (message_read w.messages.items n y c.index.ensures)) in
    c.fragments.ensures w.size own
    ∙ (ap (λ (m : Arc MessageFields Global). length (cut w.size m.value.bytes.items)) (sym is) ∙ ap (λ (q : QueueKept). length (cut q.size x.value.bytes.items)) c.self.view_is)

pub returns-clause-some : goal.returns-clause-some
returns-clause-some c =
    let w = c.self.inside in
    let n = c.args.at in
    let long = messages_long w.messages.items in
    let there : n < length (messages_of w.messages.items) = rw (← c.self.view_is) at c.requires in
    let own = subst (λ (z : Waiting). IsOwned w.size 0 z.message z.others.items) (sym c.index.ensures) (c.self.invariant.owned n c.index.result.now (omega (arith, there, long))) in
    omega (arith, c.fragments.ensures w.size own, own.many)
