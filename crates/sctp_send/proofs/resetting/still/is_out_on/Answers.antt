use Rattle.std.proofs.Common.{ap, sym, refl, ◌∙◌, arith}
use Rattle.sctp_send.specs.declared.kept.message.Message.{Message as MessageFields}
use Rattle.sctp_send.proofs.resetting.StillLemmas.{out_on, out_off, out_end}
use Rattle.sctp_send.proofs.resetting.still.is_out_on.Goals as goal

pub loop-at-init : goal.loop-at-init
loop-at-init c = λ size. refl

pub loop-at-preserved : goal.loop-at-preserved
loop-at-preserved c = λ size.
    let stream = ap (λ (m : MessageFields). m.stream) c.deref.ensures in
    c.loop-at.invariant size ∙ out_off size c.args.stream c.loop-at.at c.args.outstanding.now.items c.get.result.now (omega arith) c.get.ensures (λ e. c.if-deref-stream.false (stream ∙ e))

pub returns-then-deref-stream : goal.returns-then-deref-stream
returns-then-deref-stream c = λ size.
    let stream = ap (λ (m : MessageFields). m.stream) c.deref.ensures in
    sym (c.loop-at.invariant size ∙ out_on size c.args.stream c.loop-at.at c.args.outstanding.now.items c.get.result.now (omega arith) c.get.ensures (sym stream ∙ c.if-deref-stream.true))

pub returns : goal.returns
returns c = λ size. sym (c.loop-at.invariant size ∙ out_end size c.args.stream c.loop-at.at c.args.outstanding.now.items (omega arith))
