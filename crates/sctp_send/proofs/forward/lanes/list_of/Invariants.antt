use Rattle.std.proofs.Common.{◌≡◌, ◌*◌, map, take, length}
use Rattle.sctp_model.specs.sender.SentChunks.{skip_said}
use Rattle.sctp_wire.specs.Skips.{skip_size, skips_in}
use Rattle.sctp_framing.specs.SkipForms.{skip_form}
use Rattle.sctp_send.specs.ResetsKept.{base_of}
use Rattle.sctp_send.specs.inner.Lanes.{passed_meaning}
use Rattle.sctp_send.proofs.forward.lanes.list_of.Given as goal

abbrev pub invariant-loop-at : goal.invariant-loop-at
invariant-loop-at g l = record {
  count : length l.list.items ≡ skip_size (skip_form g.F.Framing.format) * length (skips_in (skip_form g.F.Framing.format) l.list.items);
  skips : skips_in (skip_form g.F.Framing.format) l.list.items ≡ map (skip_said g.F.Framing.format (base_of l.resets)) (map passed_meaning (take l.at l.lanes));
}
