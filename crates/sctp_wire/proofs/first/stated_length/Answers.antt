use Rattle.std.proofs.Common.{◌∙◌}
use Rattle.sctp_wire.proofs.NumberLemmas.{u16_in_four}
use Rattle.sctp_wire.proofs.first.stated_length.Goals as goal

pub returns-clause-exact : goal.returns-clause-exact
returns-clause-exact c = c.from.ensures ∙ c.read_u16.ensures ∙ u16_in_four c.args.bytes.now
