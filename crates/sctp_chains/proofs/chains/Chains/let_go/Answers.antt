use Rattle.std.proofs.Common.{map, sym, ap, ◌∙◌, subst}
use Rattle.sctp_model.specs.messages.Format.{is_numbered}
use Rattle.sctp_chains.specs.Links.{chain_of}
use Rattle.sctp_chains.specs.StandsFor.{StandsFor}
use Rattle.sctp_chains.proofs.LaneLemmas.{left_behind, by_number}
use Rattle.sctp_chains.proofs.chains.Chains.let_go.Goals as goal

pub returns-then-is_numbered : goal.returns-then-is_numbered
returns-then-is_numbered g c = λ l kept stands kind.
    let f = g.F.Framing.format in
    let numbered = sym c.is_numbered.ensures ∙ c.if-is_numbered.true in
    subst (StandsFor f c.drop_below.new.self l) (by_number f kept c.args.jump c.args.skip numbered) (c.drop_below.ensures l kept stands (ap (is_numbered f) kind ∙ numbered))

pub returns-else-is_numbered : goal.returns-else-is_numbered
unfolding StandsFor
returns-else-is_numbered g c = λ l kept stands kind.
    left_behind g.F.Framing.format l (map chain_of c.args.self.now.filed.chains.items) (map chain_of c.drop_upto-self.new.self.chains.items) c.args.self.now.held c.drop_upto-self.result kept stands
    (sym c.is_numbered.ensures ∙ c.if-is_numbered.false) kind c.args.jump c.args.skip c.rank_at.result c.rank_at.ensures c.drop_upto-self.ensures.left
