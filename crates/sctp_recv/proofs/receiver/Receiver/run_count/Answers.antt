use Rattle.std.proofs.Common.{◌∙◌, map, sym}
use Rattle.sctp_recv.specs.Blocks.{block_of_run}
use Rattle.sctp_recv.specs.StandsFor.{StandsFor}
use Rattle.sctp_recv.proofs.BlockLemmas.{all_runs, mapped_length}
use Rattle.sctp_recv.proofs.ReceiverSteps.{cumulative_is}
use Rattle.sctp_recv.proofs.receiver.Receiver.run_count.Goals as goal

pub returns-clause-runs : goal.returns-clause-runs
unfolding StandsFor
returns-clause-runs g c = λ v w.
    let s = c.args.self.now.seen.kept in
    (s.cumulative, map (block_of_run s.cumulative) s.runs, cumulative_is s v w.0.seen, all_runs v s.cumulative s.runs w.0.seen.runs w.0.seen.above, c.run_count.ensures.count ∙ sym (mapped_length s.cumulative s.runs))
