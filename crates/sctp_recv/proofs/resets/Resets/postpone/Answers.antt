use Rattle.std.proofs.Common.{◌≡◌, Option, Some, refl, sym, ◌∙◌}
use Rattle.sctp_model.specs.receiver.Incoming.{Waited}
use Rattle.sctp_model.specs.receiver.ResetTaken.{waited_on}
use Rattle.sctp_reconfig.specs.Meanings.{request_meaning, result_meaning}
use Rattle.sctp_recv.specs.ResetsKept.{ResetsKept}
use Rattle.sctp_recv.specs.Resets.{resets_of}
use Rattle.sctp_recv.specs.inner.Restarting.{done_by}
use Rattle.sctp_recv.proofs.PostponedLemmas.{rewaited, said, waits_now, waits_again}
use Rattle.sctp_recv.proofs.resets.Resets.postpone.Goals as goal
use Rattle.sctp_recv.proofs.resets.Resets.postpone.Goals.{else-is_next-via-then-is_next+else-not-is_in_progress, else-is_next-via-else-is_next}

pub returns-clause-postponed : goal.returns-clause-postponed
returns-clause-postponed c = λ f v kept room.
    let m = request_meaning c.args.request.now in
    let a = result_meaning c.args.answer in
    let old = resets_of c.args.self.now in
    let x : Option Waited = Some (said c.args.request.now.last c.list.new.known.items c.is_done-done.result) in
    let new : ResetsKept = record old { waited = x } in
    let same : x ≡ Some (said m.last m.streams (done_by v m a)) = λ i. Some (said m.last (c.list.ensures.items room i) (c.is_done-done.ensures f v kept i)) in
    let known : waited_on v m a ≡ Some (said m.last m.streams (done_by v m a)) = elim c.else-is_next.branch [
      | else-is_next-via-then-is_next+else-not-is_in_progress w ↦ waits_now v m a (sym w.is_in_progress.ensures ∙ w.if-not-is_in_progress.false)
      | else-is_next-via-else-is_next w ↦ waits_again v m a (sym (c.is_next.ensures f v kept) ∙ w.if-is_next.false)
    ] in
    rewaited f old new v.initial v.streams v.taken v.resets x (waited_on v m a) kept refl (same ∙ sym known)
