use Rattle.std.proofs.Common.{arith}
use Rattle.sctp_wire.specs.Skips.{skips_in}
use Rattle.sctp_framing.specs.SkipForms.{skip_form}
use Rattle.sctp_values.specs.declared.kind.Kind.TheVariants.{Ordered}
use Rattle.sctp_send.specs.ResetsKept.{base_of}
use Rattle.sctp_send.specs.declared.forward.lanes.Passed.{Passed}
use Rattle.sctp_send.proofs.forward.ForwardLemmas.{none_counted}
use Rattle.sctp_send.proofs.forward.LaneBytes.{said_fits, said_more, said_all}
use Rattle.sctp_send.proofs.forward.lanes.list_of.Goals as goal

pub loop-at-init : goal.loop-at-init
loop-at-init g c = let none = none_counted g.F.Framing.format c.new-list.result.items c.new-list.ensures.items in record { count = none.0; skips = none.1 }

pub put_lane-requires-clause-fits : goal.put_lane-requires-clause-fits
put_lane-requires-clause-fits g c =
    let none : Passed = record { stream = 0; kind = Ordered; number = 0 } in
    said_fits g.F.Framing.format (base_of c.args.resets.now) c.args.lanes.now c.loop-at.at none (omega arith) c.requires

pub loop-at-preserved : goal.loop-at-preserved
loop-at-preserved g c =
    let none : Passed = record { stream = 0; kind = Ordered; number = 0 } in
    record {
      count = c.in_ok-put_lane.ensures.count;
      skips =
          said_more g.F.Framing.format (base_of c.args.resets.now) c.args.lanes.now c.loop-at.at none (skips_in (skip_form g.F.Framing.format) c.loop-at.list.items) (skips_in (skip_form g.F.Framing.format) c.put_lane.new.list.items) (omega arith)
          c.in_ok-put_lane.ensures.skips c.loop-at.invariant.skips;
    }

pub returns-clause-skips : goal.returns-clause-skips
returns-clause-skips g c = rw (said_all g.F.Framing.format (base_of c.args.resets.now) c.args.lanes.now c.loop-at.at (omega arith)) at c.loop-at.invariant.skips
