use Rattle.std.proofs.Common.{◌∙◌, ap, refl}
use Rattle.sctp_association.specs.PhaseMeans.{phase_unjoined}
use Rattle.sctp_association.proofs.BuildLemmas.{sleeps}
use Rattle.sctp_association.proofs.build.pack_unjoined.Goals as goal

pub returns-in-Idle : goal.returns-in-Idle
returns-in-Idle c = λ e configured phase empty. sleeps e _ c.args.packing.now c.filled_none.result (phase ∙ ap phase_unjoined c.in-Idle.is) refl empty c.filled_none.ensures

pub returns-in-Listening : goal.returns-in-Listening
returns-in-Listening c = λ e configured phase empty.
    sleeps e _ c.args.packing.now c.filled_none-in-Listening.result (phase ∙ ap phase_unjoined c.in-Listening.is) refl empty c.filled_none-in-Listening.ensures

pub returns-in-Calling : goal.returns-in-Calling
returns-in-Calling c = λ e configured phase empty. c.pack_init.ensures e configured (phase ∙ ap phase_unjoined c.in-Calling.is) empty

pub returns-in-Failed : goal.returns-in-Failed
returns-in-Failed c = λ e configured phase empty.
    sleeps e _ c.args.packing.now c.filled_none-in-Failed.result (phase ∙ ap phase_unjoined c.in-Failed.is) refl empty c.filled_none-in-Failed.ensures
