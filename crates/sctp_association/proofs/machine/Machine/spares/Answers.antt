use Rattle.std.proofs.Common.{◌∙◌, refl, sym, arith}
use Rattle.sctp_model.specs.end.EndView.{format_for}
use Rattle.sctp_association.specs.MachineStands.{MachineStands}
use Rattle.sctp_association.specs.StageMeans.{tags_meaning}
use Rattle.sctp_association.specs.declared.state.stage.Stage.TheVariants.{Established}
use Rattle.sctp_association.proofs.MachineLemmas.{joined, phase_joined}
use Rattle.sctp_association.proofs.RestLemmas.{rested_established}
use Rattle.sctp_association.proofs.PassedLemmas.{spared}
use Rattle.sctp_association.proofs.machine.Machine.spares.Goals as goal

pub returns-in-Joined : goal.returns-in-Joined
unfolding MachineStands
returns-in-Joined c = λ v stands is from.
    let here = joined _ _ v c.in-Joined.is stands in
    let passed = c.passed.ensures.passed _ v.sender v.receiver here.traffic is in
    let rests = rested_established v (tags_meaning c.in-Joined.association.tags) Established (sym (phase_joined _ _ v c.in-Joined.is stands) ∙ c.passed.ensures.established is) refl in
    spared (format_for v.terms.interleave) v from passed.0 (c.is_settled.ensures v stands c.if-not-is_settled.false) rests
    (λ p pace i above. let past = passed.1 in c.missed_end.ensures v p stands pace i above (omega (arith, past, above)))
