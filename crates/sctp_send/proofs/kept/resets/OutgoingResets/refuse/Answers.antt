use Rattle.std.proofs.Common.{Option, Some, None, List, ℕ, refl, subst, ap, sym, ◌∙◌}
use Rattle.std.specs.declared.alloc.Global.{Global}
use Rattle.std.specs.declared.boxed.Box.{Box}
use Rattle.sctp_send.specs.ResetsKept.{AreResets}
use Rattle.sctp_send.specs.inner.Resetting.{all_changed, refused_by}
use Rattle.sctp_send.specs.declared.kept.resets.ResetTable.{ResetTable}
use Rattle.sctp_send.proofs.resetting.WaitingLemmas.{answered_from, put_back}
use Rattle.sctp_send.proofs.resetting.ResetTables.{resets_refused}
use Rattle.sctp_send.proofs.kept.resets.OutgoingResets.refuse.Goals as goal

pub returns-in-Some-take : goal.returns-in-Some-take
returns-in-Some-take c = λ n x q are asked.
    let b = c.in-Some.table in
    let d = c.deref_mut-table.result.now in
    let r = c.in-Some-take.request in
    let t1 = c.refuse_all.new.table in
    let t2 = c.unlist.new.table in
    let streams = c.refuse_all.ensures.streams ∙ ap (λ (ss : List ℕ). all_changed refused_by ss d.streams.items) c.deref.ensures.value in
    let i =
    put_back _ t2 _ _ (Some (record r { numbering = None })) _
    (answered_from (record d { last_made = c.take.new.self }) t1 t2 refused_by r.streams.items (λ s x. refl) (λ s x. refl) c.refuse_all.ensures.same streams c.unlist.ensures.same c.unlist.ensures.listed c.unlist.ensures.capacity) in
    resets_refused n b _ x q d c.take.new.self r (subst (λ (t : Option (Box ResetTable Global)). AreResets n (record { table = t }) x) c.in-Some.is are) asked c.deref_mut-table.ensures.value (sym c.in-Some-take.ensures.value) c.take.ensures.after i
