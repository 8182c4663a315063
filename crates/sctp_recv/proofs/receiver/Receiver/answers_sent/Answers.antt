use Rattle.std.proofs.Common.{List, Option, Some, [], map, ap, subst}
use Rattle.std.specs.declared.alloc.Global.{Global}
use Rattle.std.specs.declared.boxed.Box.{Box}
use Rattle.std.specs.Box.{with_value}
use Rattle.sctp_recv.specs.declared.resets.Resets.{Resets}
use Rattle.sctp_recv.specs.declared.restart.ResetResponse.{ResetResponse}
use Rattle.sctp_recv.specs.Resets.{response_of, resets_of, resets_in, KeepsResets}
use Rattle.sctp_recv.proofs.ResponseLemmas.{rejoined}
use Rattle.sctp_recv.proofs.ReportLemmas.{stands_resets, resets_kept}
use Rattle.sctp_recv.proofs.receiver.Receiver.answers_sent.Goals as goal

pub returns-in-Some : goal.returns-in-Some
returns-in-Some g c = λ v w.
    let f = g.F.Framing.format in
    let b = c.in-Some.resets in
    let left = c.truncate.new.self in
    let new : Resets = record c.deref_mut.result.now { answers = left } in
    let was = subst (λ (o : Option (Box Resets Global)). KeepsResets f (resets_in o) v.initial v.streams v.taken v.resets) c.in-Some.is (resets_kept f c.args.self.now v w) in
    let kept = rejoined f (resets_of b.value) (resets_of new) v.initial v.streams v.taken v.resets [] (map response_of left.items) was
    (ap (λ (r : Resets). record (resets_of r) { answers = map response_of left.items }) c.deref_mut.ensures.value) (ap (λ (xs : List ResetResponse). map response_of xs) c.truncate.ensures.items) in
    stands_resets f c.args.self.now v (Some (with_value b new)) (record v.resets { answers = [] }) w kept
