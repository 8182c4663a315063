-- What a parameter or a cause says.
use Rattle.std.specs.Prelude.{ℕ, List}
use Rattle.sctp_model.specs.wire.Typed.{Typed}
use Rattle.sctp_wire.specs.declared.typed.TypedItem.{TypedItem}

-- A parameter or a cause, without where it lies.
abbrev pub typed_meaning : TypedItem → Typed
typed_meaning item = record { kind = item.kind; value = item.value.now }

-- a parameter or a cause of this type with this value
abbrev pub item : ℕ → List ℕ → Typed
item kind value = record { kind = kind; value = value }
