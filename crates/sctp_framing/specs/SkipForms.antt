-- How the entries of a FORWARD lie in bytes, by format (RFC 3758, 3.2; RFC 8260, 2.3.1).
use Rattle.sctp_model.specs.messages.Format.{Format, Plain, Interleaved}
use Rattle.sctp_wire.specs.declared.skips.SkipForm.{SkipForm}
use Rattle.sctp_wire.specs.declared.skips.SkipForm.TheVariants.{Narrow, Wide}

-- a stream and an SSN; or a stream, the flag U and a MID
abbrev pub skip_form : Format → SkipForm
skip_form Plain = Narrow
skip_form Interleaved = Wide
