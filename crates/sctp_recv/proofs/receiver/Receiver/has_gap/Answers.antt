use Rattle.std.proofs.Common.{subst, sym, Bool}
use Rattle.sctp_model.specs.end.Arriving.{TellsGap}
use Rattle.sctp_recv.specs.StandsFor.{StandsFor}
use Rattle.sctp_recv.proofs.GapLemmas.{gap_is_run}
use Rattle.sctp_recv.proofs.receiver.Receiver.has_gap.Goals as goal

pub returns : goal.returns
unfolding StandsFor
returns g c = λ v w. subst (λ (b : Bool). TellsGap b v) (sym c.has_runs.ensures) (gap_is_run c.args.self.now.seen.kept v w.0.seen)
