use Rattle.std.proofs.Common.{Option, sym, ap, ◌∙◌, subst}
use Rattle.std.specs.Prelude.{is_some}
use Rattle.std.specs.declared.alloc.Global.{Global}
use Rattle.std.specs.declared.boxed.Box.{Box}
use Rattle.sctp_recv.specs.declared.resets.Resets.{Resets}
use Rattle.sctp_recv.specs.Resets.{resets_of, resets_in, KeepsResets}
use Rattle.sctp_recv.specs.inner.Bits.{NextBit}
use Rattle.sctp_recv.proofs.ReportLemmas.{resets_kept, nothing_there, is_there}
use Rattle.sctp_recv.proofs.receiver.Receiver.has_reset.Goals as goal

pub returns-in-Some : goal.returns-in-Some
returns-in-Some g c = λ v w.
    let f = g.F.Framing.format in
    let b = c.in-Some.resets in
    let kept = subst (λ (o : Option (Box Resets Global)). KeepsResets f (resets_in o) v.initial v.streams v.taken v.resets) c.in-Some.is (resets_kept f c.args.self.now v w) in
    c.is_some.ensures ∙ is_there f v (resets_of b.value) c.next.result kept (subst (λ (r : Resets). NextBit (resets_of r).told 0 c.next.result) c.deref.ensures c.next.ensures)

pub returns-in-None : goal.returns-in-None
returns-in-None g c = λ v w.
    let f = g.F.Framing.format in
    let kept = subst (λ (o : Option (Box Resets Global)). KeepsResets f (resets_in o) v.initial v.streams v.taken v.resets) c.in-None.is (resets_kept f c.args.self.now v w) in
    sym (ap is_some (nothing_there f v kept))
