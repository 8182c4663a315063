use Rattle.std.proofs.Common.{ℕ, sym, ap, ◌∙◌, arith}
use Rattle.sctp_send.specs.PartsKept.{changed_at}
use Rattle.sctp_send.specs.inner.Resetting.{restarted_by}
use Rattle.sctp_send.proofs.resetting.CountedUp.{changed_to, changed_past}
use Rattle.sctp_send.proofs.resetting.restarting.restart_one.Goals as goal

pub returns-then-at-len-clause-streams : goal.returns-then-at-len-clause-streams
returns-then-at-len-clause-streams c =
    let v = c.args.table.now.streams in
    let f = restarted_by c.args.tracks.now c.args.stream in
    changed_to f c.begun_anew.result c.from-at.result v.items (λ r. sym c.begun_anew.ensures) (omega (arith, c.if-at-len.true, c.len.ensures, v.ok)) ∙ ap (λ (n : ℕ). changed_at f n v.items) c.from-at.ensures

pub returns-else-at-len-clause-streams : goal.returns-else-at-len-clause-streams
returns-else-at-len-clause-streams c =
    let v = c.args.table.now.streams in
    changed_past (restarted_by c.args.tracks.now c.args.stream) c.args.stream v.items (omega (arith, c.if-at-len.false, c.len.ensures, v.ok, c.from-at.ensures))
