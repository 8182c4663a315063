use Rattle.std.proofs.Common.{◌≡◌, ap, length, arith}
use Rattle.std.proofs.lemmas.Grind.{common_steps}
use Rattle.sctp_wire.specs.Reading.{chunks_of}
use Rattle.sctp_wire.proofs.StandingLemmas.{some_chunks}
use Rattle.sctp_wire.proofs.read.Chunks.is_empty.Goals as goal

pub returns : goal.returns
returns c =
    let same = some_chunks c.self.inside.rest.now c.self.invariant in
    let seen : length (chunks_of c.self.inside.rest.now) ≡ length c.args.self.now = ap length c.self.view_is in grind (arith, common_steps)
