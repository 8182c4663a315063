-- What the shared values say, in the words of the definitions.
use Rattle.sctp_model.specs.messages.Format as format
use Rattle.sctp_values.specs.declared.kind.Kind.{Kind}
use Rattle.sctp_values.specs.declared.kind.Kind.TheVariants.{Ordered, Unordered}

-- whether a message is ordered (RFC 9260, 6.6)
abbrev pub kind_meaning : Kind → format.Kind
kind_meaning Ordered = format.Ordered
kind_meaning Unordered = format.Unordered
