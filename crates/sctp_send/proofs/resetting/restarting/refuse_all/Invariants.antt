use Rattle.std.proofs.Common.{◌≡◌, drop}
use Rattle.sctp_send.specs.inner.Resetting.{all_changed, refused_by}
use Rattle.sctp_send.proofs.resetting.restarting.refuse_all.Given as goal

abbrev pub invariant-loop-at : goal.invariant-loop-at
invariant-loop-at l = record {
  same : l.table ≡ record l.initial.table { streams = l.table.streams };
  done : all_changed (refused_by) l.request l.initial.table.streams.items ≡ all_changed (refused_by) (drop l.at l.request) l.table.streams.items;
}
