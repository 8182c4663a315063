use Rattle.sctp_chains.proofs.MemoryLemmas.{any_err, set_same}
use Rattle.sctp_chains.proofs.filing.begin_earlier.Goals as goal

pub returns-in_err-push_front-clause-refused : goal.returns-in_err-push_front-clause-refused
returns-in_err-push_front-clause-refused c =
    any_err c.from_residual.result _
    (set_same c.args.chains.now.items c.args.at c.get_mut-chain.result.now c.push_front.new.self c.requires c.get_mut-chain.ensures.value c.in_err-push_front.ensures.refused)
