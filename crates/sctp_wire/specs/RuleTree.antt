-- What a rule for an unknown type says.
use Rattle.sctp_model.specs.wire.Unknown.{RuleMeaning}
use Rattle.sctp_wire.specs.declared.unknown.Rule.{Rule}

-- a rule as it is answered
abbrev pub rule_meaning : Rule → RuleMeaning
rule_meaning r = record { stop = r.stop; report = r.report }
