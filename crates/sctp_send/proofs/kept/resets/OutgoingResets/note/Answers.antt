use Rattle.std.proofs.Common.{Option, subst, ap, ◌∙◌}
use Rattle.std.specs.declared.alloc.Global.{Global}
use Rattle.std.specs.declared.boxed.Box.{Box}
use Rattle.sctp_send.specs.ResetsKept.{AreResets}
use Rattle.sctp_send.specs.declared.kept.resets.ResetTable.{ResetTable}
use Rattle.sctp_send.proofs.resetting.ResetTables.{resets_noted}
use Rattle.sctp_send.proofs.kept.resets.OutgoingResets.note.Goals as goal

pub returns-in-Some : goal.returns-in-Some
returns-in-Some c = λ n x are.
    let b = c.in-Some.table in
    let t = c.note_at.new.table in
    resets_noted n b _ x (c.note_at.ensures ∙ ap (λ (d : ResetTable). record d { hints = t.hints }) c.deref_mut.ensures.value) (subst (λ (o : Option (Box ResetTable Global)). AreResets n (record { table = o }) x) c.in-Some.is are)
