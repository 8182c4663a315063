use Rattle.std.proofs.Common.{Option, Some, sym, subst}
use Rattle.std.specs.declared.alloc.Global.{Global}
use Rattle.std.specs.declared.boxed.Box.{Box}
use Rattle.sctp_recv.specs.declared.resets.Resets.{Resets}
use Rattle.sctp_recv.specs.Resets.{resets_of, resets_in, KeepsResets}
use Rattle.sctp_recv.proofs.ReportLemmas.{resets_kept}
use Rattle.sctp_recv.proofs.receiver.Receiver.last_finished_request.Goals as goal

pub returns-in-Some : goal.returns-in-Some
returns-in-Some g c = λ v stands.
    let f = g.F.Framing.format in
    let kept = subst (λ (o : Option (Box Resets Global)). KeepsResets f (resets_in o) v.initial v.streams v.taken v.resets) c.in-Some.is (resets_kept f c.args.self.now v stands) in
    c.last_finished.ensures f v (subst (λ (r : Resets). KeepsResets f (Some (resets_of r)) v.initial v.streams v.taken v.resets) (sym c.deref.ensures) kept)
