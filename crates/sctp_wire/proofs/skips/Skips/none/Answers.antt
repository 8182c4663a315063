use Rattle.std.proofs.Common.{◌∙◌, [], ap, arith}
use Rattle.sctp_wire.specs.declared.skips.SkipForm.TheVariants.{Narrow}
use Rattle.sctp_wire.specs.Skips.{SkipList}
use Rattle.sctp_wire.proofs.SkipLemmas.{skips_in-none, zero-narrow}
use Rattle.sctp_wire.proofs.skips.Skips.none.Goals as goal

pub returns-clause-skips : goal.returns-clause-skips
returns-clause-skips c = ap (λ (l : SkipList). l.skips) c.new.ensures ∙ skips_in-none Narrow [] (omega arith)

pub returns-clause-plain : goal.returns-clause-plain
returns-clause-plain c = ap (λ (l : SkipList). l.plain) c.new.ensures ∙ zero-narrow []
