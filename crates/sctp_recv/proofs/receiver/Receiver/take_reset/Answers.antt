use Rattle.std.proofs.Common.{Option, Some, refl, subst}
use Rattle.std.specs.declared.alloc.Global.{Global}
use Rattle.std.specs.declared.boxed.Box.{Box}
use Rattle.std.specs.Box.{with_value}
use Rattle.sctp_recv.specs.declared.resets.Resets.{Resets}
use Rattle.sctp_recv.specs.Resets.{resets_of, resets_in, KeepsResets}
use Rattle.sctp_recv.specs.inner.Restarting.{TakesTold}
use Rattle.sctp_recv.proofs.ReportLemmas.{resets_kept, nothing_there, reported}
use Rattle.sctp_recv.proofs.receiver.Receiver.take_reset.Goals as goal

pub returns-in-Some : goal.returns-in-Some
returns-in-Some g c = λ v w.
    let b = c.in-Some.resets in
    let new = c.take_told.new.self in
    let taken = subst (λ (r : Resets). TakesTold (resets_of r) (resets_of new) c.take_told.result) c.deref_mut.ensures.value c.take_told.ensures in
    reported g.F.Framing.format v c.args.self.now b new c.take_told.result w c.in-Some.is taken (Some (with_value b new)) refl

pub returns-in-None : goal.returns-in-None
returns-in-None g c = λ v w.
    let f = g.F.Framing.format in
    let kept = subst (λ (o : Option (Box Resets Global)). KeepsResets f (resets_in o) v.initial v.streams v.taken v.resets) c.in-None.is (resets_kept f c.args.self.now v w) in
    (nothing_there f v kept, w)
