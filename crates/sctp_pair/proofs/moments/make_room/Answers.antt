use Rattle.std.proofs.Common.{◌<◌, length, arith}
use Rattle.std.proofs.lemmas.Grind.{common_steps}
use Rattle.sctp_pair.specs.Sides.{SideStands}
use Rattle.sctp_pair.proofs.ListedLemmas.{listed_some}
use Rattle.sctp_pair.proofs.MemoryLemmas.{anyway}
use Rattle.sctp_pair.proofs.moments.make_room.Goals as goal

pub returns-clause-listed : goal.returns-clause-listed
unfolding SideStands
returns-clause-listed c = λ v stands. c.in_ok-before.ensures.tickets v.end stands.end

pub returns-in_err-before-clause-memory : goal.returns-in_err-before-clause-memory
unfolding SideStands
returns-in_err-before-clause-memory c = λ v stands. anyway c.from_residual.result (c.in_err-before.ensures.memory v.end stands.end)

pub returns-in_err-map_err-clause-memory : goal.returns-in_err-map_err-clause-memory
unfolding SideStands
returns-in_err-map_err-clause-memory c = λ v stands.
    let some : 0 < length c.in_ok-before.before.items = grind (arith, common_steps) in
    anyway c.from_residual-in_err-map_err.result (listed_some v.end c.args.now c.in_ok-before.before.items (c.in_ok-before.ensures.tickets v.end stands.end) some)
