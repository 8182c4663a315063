use Rattle.std.proofs.Common.{List, suc, ◌+◌, ◌<◌, length, map, refl, ap, ◌∙◌}
use Rattle.sctp_chains.specs.Links.{chain_of, one_if_whole, whole_in}
use Rattle.sctp_chains.specs.declared.chain.Chain.{Chain}
use Rattle.sctp_chains.proofs.MemoryLemmas.{one_shorter}
use Rattle.sctp_chains.proofs.GoingLemmas.{out_of}
use Rattle.sctp_chains.proofs.WholeCounts.{whole_remove}
use Rattle.sctp_chains.proofs.OpenLemmas.{kept_removed}
use Rattle.sctp_chains.proofs.letting_go.remove.Goals as goal

pub returns-clause-taken : goal.returns-clause-taken
returns-clause-taken c =
    let cs = c.args.chains.now.items in
    let l : c.args.at < length cs = c.in_ok-chain.ensures.variant.0 refl in
    out_of cs c.args.at c.in_ok-chain.chain l c.in_ok-chain.ensures.value c.remove_at.new.chains.items c.args.held.now c.less_all.result c.in_ok-chain.ensures.items
    c.less_all.ensures

pub returns-clause-fewer : goal.returns-clause-fewer
returns-clause-fewer c =
    let cs = c.args.chains.now.items in
    let l : c.args.at < length cs = c.in_ok-chain.ensures.variant.0 refl in
    ap (λ (xs : List Chain). suc (length xs)) c.in_ok-chain.ensures.items ∙ one_shorter cs c.args.at l

pub returns-clause-whole : goal.returns-clause-whole
returns-clause-whole c =
    let cs = c.args.chains.now.items in
    let l : c.args.at < length cs = c.in_ok-chain.ensures.variant.0 refl in
    ap (λ (xs : List Chain). whole_in (map chain_of xs) + one_if_whole (chain_of c.in_ok-chain.chain)) c.in_ok-chain.ensures.items ∙ whole_remove cs c.args.at c.in_ok-chain.chain l c.in_ok-chain.ensures.value

pub returns-clause-passed : goal.returns-clause-passed
returns-clause-passed c = λ k open_now. kept_removed c.args.chains.now.items c.remove_at.new.chains.items c.args.at k c.in_ok-chain.ensures.items open_now
