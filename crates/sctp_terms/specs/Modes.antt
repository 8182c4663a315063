-- What an end asks for when it opens, by the name of its mode.
use Rattle.std.specs.Prelude.{true}
use Rattle.sctp_model.specs.end.EndView.{Configuration}
use Rattle.sctp_terms.specs.declared.mode.Mode.{Mode}
use Rattle.sctp_terms.specs.declared.mode.Mode.TheVariants.{Data, PartialData, IData, PartialIData}

-- the configuration that also asks for what a mode says (RFC 3758, 3.3.1; RFC 8260, 2.2.1)
abbrev pub asked : Mode → Configuration → Configuration
asked Data c = c
asked PartialData c = record c { partial = true }
asked IData c = record c { interleave = true }
asked PartialIData c = record (record c { interleave = true }) { partial = true }
