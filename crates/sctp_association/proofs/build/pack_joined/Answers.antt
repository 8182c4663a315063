use Rattle.std.proofs.Common.{◌∙◌, refl, sym, ap}
use Rattle.sctp_association.specs.PhaseMeans.{phase_in}
use Rattle.sctp_association.proofs.BuildLemmas.{sleeps, whole_so, with_traffic_kept}
use Rattle.sctp_association.proofs.build.pack_joined.Goals as goal

pub returns-in-Echoing-clause-packed : goal.returns-in-Echoing-clause-packed
returns-in-Echoing-clause-packed c = λ e phase part pace clock empty.
    let echoing = sym phase ∙ ap (phase_in c.args.association.now.tags) c.in-Echoing.is in
    with_traffic_kept c.pack_echoing.result e c.pack_echoing.new.packing _ _ (c.pack_echoing.ensures e _ echoing part.due_stands empty) part.traffic_stands pace

pub returns-in-Open-clause-packed : goal.returns-in-Open-clause-packed
returns-in-Open-clause-packed c = λ e phase part pace clock empty.
    c.pack_open.ensures.packed e _ _ (sym phase ∙ ap (phase_in c.args.association.now.tags) c.in-Open.is) part pace clock empty

pub returns-in-Over-clause-packed : goal.returns-in-Over-clause-packed
returns-in-Over-clause-packed c = λ e phase part pace clock empty.
    let over = sym phase ∙ ap (phase_in c.args.association.now.tags) c.in-Over.is in
    whole_so e c.args.packing.now c.filled_none.result _ _ (sleeps e _ c.args.packing.now c.filled_none.result over refl empty c.filled_none.ensures) part.traffic_stands pace
