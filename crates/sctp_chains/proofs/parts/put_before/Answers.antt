use Rattle.std.proofs.Common.{◌+◌, length, subst}
use Rattle.sctp_chains.specs.Links.{parts_in}
use Rattle.sctp_chains.specs.inner.Filing.{HasRoom}
use Rattle.sctp_chains.specs.declared.parts.Parts.{Parts}
use Rattle.sctp_chains.proofs.parts.put_before.Goals as goal

-- there is a list
pub returns-in-One : goal.returns-in-One
returns-in-One c = absurd (subst (λ (p : Parts). HasRoom p (length (parts_in c.args.before) + 1)) c.in-One.is c.requires)
