use Rattle.std.proofs.Common.{ℕ, sym, ap, ◌∙◌, arith}
use Rattle.sctp_send.specs.PartsKept.{changed_at}
use Rattle.sctp_send.specs.inner.Resetting.{stream_as}
use Rattle.sctp_send.proofs.kept.ChangedLemmas.{changed_set}
use Rattle.sctp_send.proofs.resetting.CountedUp.{changed_past}
use Rattle.sctp_send.proofs.resetting.table.set_sending.Goals as goal

pub returns-then-at-len-clause-streams : goal.returns-then-at-len-clause-streams
returns-then-at-len-clause-streams c =
    let v = c.args.table.now.streams in
    let f = stream_as c.args.sending in
    sym (changed_set f c.from-at.result v.items c.index_mut.result.now (omega (arith, c.if-at-len.true, c.len.ensures, v.ok)) c.index_mut.ensures.value) ∙ ap (λ (n : ℕ). changed_at f n v.items) c.from-at.ensures

pub returns-else-at-len-clause-streams : goal.returns-else-at-len-clause-streams
returns-else-at-len-clause-streams c =
    let v = c.args.table.now.streams in
    changed_past (stream_as c.args.sending) c.args.stream v.items (omega (arith, c.if-at-len.false, c.len.ensures, v.ok, c.from-at.ensures))
