use Rattle.std.proofs.Common.{Option, subst}
use Rattle.std.specs.declared.alloc.Global.{Global}
use Rattle.std.specs.declared.boxed.Box.{Box}
use Rattle.sctp_send.specs.ResetsKept.{AreResets}
use Rattle.sctp_send.specs.PartsKept.{changed_at}
use Rattle.sctp_send.specs.inner.Resetting.{stream_as}
use Rattle.sctp_send.specs.declared.kept.resets.ResetTable.{ResetTable}
use Rattle.sctp_send.specs.declared.kept.resets.Sending.TheVariants.{Resets}
use Rattle.sctp_send.proofs.resetting.WaitingLemmas.{IsListed, shut_from}
use Rattle.sctp_send.proofs.resetting.ResetTables.{resets_shut}
use Rattle.sctp_send.proofs.kept.resets.OutgoingResets.shut.Goals as goal

pub returns-in-Some : goal.returns-in-Some
returns-in-Some c = λ n x some are.
    let b = c.in-Some.table in
    let d = c.deref_mut-table.result.now in
    let t1 = c.list_stream.new.table in
    let t2 = c.set_sending.new.table in
    let i = shut_from d t1 t2 c.args.stream c.list_stream.ensures.same c.list_stream.ensures.listed c.list_stream.ensures.capacity c.set_sending.ensures.same c.set_sending.ensures.streams in
    let here = subst (λ (t : ResetTable). IsListed t t2 (changed_at (stream_as Resets) c.args.stream t.streams.items) t.last_made t.made) c.deref_mut-table.ensures.value i in
    resets_shut n c.args.stream b _ x (subst (λ (t : Option (Box ResetTable Global)). AreResets n (record { table = t }) x) c.in-Some.is are) here
