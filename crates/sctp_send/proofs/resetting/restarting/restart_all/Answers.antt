use Rattle.std.proofs.Common.{ap, sym, refl, drop, ◌+◌, ◌∙◌, arith}
use Rattle.sctp_send.specs.inner.Resetting.{all_changed, restarted_by}
use Rattle.sctp_send.specs.declared.kept.resets.ResetTable.{ResetTable}
use Rattle.sctp_send.proofs.resetting.CountedUp.{all_step, all_end}
use Rattle.sctp_send.proofs.resetting.restarting.restart_all.Goals as goal

pub loop-at-init : goal.loop-at-init
loop-at-init c = record { same = refl; done = refl }

pub loop-at-preserved : goal.loop-at-preserved
loop-at-preserved c = record {
  same = c.restart_one.ensures.same ∙ ap (λ (t : ResetTable). record t { streams = c.restart_one.new.table.streams }) c.loop-at.invariant.same;
  done =
      c.loop-at.invariant.done ∙ all_step (restarted_by c.args.tracks.now) c.args.request.now c.loop-at.at 0 c.loop-at.table.streams.items (omega arith)
      ∙ ap (all_changed (restarted_by c.args.tracks.now) (drop (c.loop-at.at + 1) c.args.request.now)) (sym c.restart_one.ensures.streams);
}

pub returns-clause-streams : goal.returns-clause-streams
returns-clause-streams c = sym (c.loop-at.invariant.done ∙ all_end (restarted_by c.args.tracks.now) c.args.request.now c.loop-at.at c.loop-at.table.streams.items (omega arith))
