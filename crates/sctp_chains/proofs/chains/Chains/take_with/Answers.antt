use Rattle.std.proofs.Common.{◌≡◌, Option, map, sym, ap, ◌∙◌, subst}
use Rattle.sctp_wire.specs.ChunkTree.{piece_meaning}
use Rattle.sctp_chains.specs.Cells.{counted, rank_at, rank_of}
use Rattle.sctp_chains.specs.Links.{chain_of}
use Rattle.sctp_chains.specs.StandsFor.{StandsFor}
use Rattle.sctp_chains.specs.WholeOf.{TakesWith}
use Rattle.sctp_chains.specs.declared.whole.Whole.{Whole}
use Rattle.sctp_chains.proofs.WithLemmas.{top_of, top_numbered, top_plain, none_with, took_with}
use Rattle.sctp_chains.proofs.chains.Chains.take_with.Goals as goal
use Rattle.sctp_chains.proofs.chains.Chains.take_with.Goals.{then-is_numbered, else-is_numbered}

pub returns-in_err-found-clause-taken : goal.returns-in_err-found-clause-taken
unfolding StandsFor
returns-in_err-found-clause-taken g c = λ l kept stands there.
    let f = g.F.Framing.format in
    let y = counted c.args.index (piece_meaning c.args.piece.now) c.args.number in
    let rank : c.rank_at.result ≡ rank_of f y = c.rank_at.ensures ∙ ap (rank_at c.args.number) c.place-place.ensures in
    subst (λ (o : Option Whole). TakesWith f l kept y o c.args.self.now) (sym c.from_residual.ensures)
    (none_with f l (map chain_of c.args.self.now.filed.chains.items) c.args.self.now.held kept stands c.rank_at.result y (c.in_err-found.ensures stands.chains) rank, stands)

pub returns-clause-taken : goal.returns-clause-taken
unfolding StandsFor
returns-clause-taken g c = λ l kept stands there.
    let f = g.F.Framing.format in
    let y = counted c.args.index (piece_meaning c.args.piece.now) c.args.number in
    let d = chain_of c.in_ok-chain.chain in
    let rank : c.rank_at.result ≡ rank_of f y = c.rank_at.ensures ∙ ap (rank_at c.args.number) c.place-place.ensures in
    let top : c.if-is_numbered.upto ≡ top_of f d c.args.number = elim c.if-is_numbered.branch [
      | then-is_numbered w ↦ w.upto-is ∙ w.rank_at-upto.ensures ∙ top_numbered f (sym c.is_numbered.ensures ∙ w.if-is_numbered.true) d c.args.number
      | else-is_numbered w ↦ w.upto-is ∙ w.last-upto.ensures ∙ top_plain f (sym c.is_numbered.ensures ∙ w.if-is_numbered.false) d c.args.number
    ] in
    took_with f l (map chain_of c.args.self.now.filed.chains.items) c.args.self.now.held kept stands y there c.rank_at.result c.in_ok-found.found (map chain_of c.remove.new.self.chains.items)
    c.remove.new.held d c.if-is_numbered.upto c.whole_of.result
    _
    rank (c.in_ok-found.ensures stands.chains) c.in_ok-chain.ensures.taken top c.drop_upto-self.ensures.left c.whole_of.ensures
