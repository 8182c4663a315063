use Rattle.std.proofs.Common.{◌≡◌, ◌+◌, length, map, arith}
use Rattle.sctp_wire.specs.ChunkTree.{piece_meaning}
use Rattle.sctp_chains.specs.Cells.{counted, cell_of}
use Rattle.sctp_chains.specs.Links.{chain_of, one_of}
use Rattle.sctp_chains.specs.StandsFor.{StandsFor}
use Rattle.sctp_chains.proofs.HeldLemmas.{part_rank}
use Rattle.sctp_chains.proofs.LaneLemmas.{avoids, added}
use Rattle.sctp_chains.proofs.chains.Chains.add.Goals as goal

pub returns-clause-kept : goal.returns-clause-kept
unfolding StandsFor
returns-clause-kept g c = λ l kept stands new.
    let f = g.F.Framing.format in
    let x = counted c.args.index (piece_meaning c.args.piece.now) c.args.number in
    let part = c.in_ok-part.part in
    let cs = map chain_of c.args.self.now.filed.chains.items in
    let ds = map chain_of c.file.new.self.chains.items in
    let own = c.in_ok-part.ensures in
    let gains = c.in_ok-file.ensures.filed stands.chains (avoids f l cs ds c.args.self.now.held c.saturating_add-self.result kept x (one_of part) stands new (part_rank part (cell_of f x) own)) in
    let count : c.saturating_add-self.result ≡ c.args.self.now.held + length x.bytes = let fits = new.fits in let held = stands.held in omega (arith, c.saturating_add-self.ensures, c.small_len.ensures, fits, held) in
    added f l cs ds c.args.self.now.held c.saturating_add-self.result kept x (one_of part) stands new gains own count
