-- A list of parameters or causes that is written is read again as it was.
use Rattle.std.proofs.Common.{◌≡◌, List}
use Rattle.std.specs.List.{AllByRecursion}
use Rattle.sctp_model.specs.wire.Typed.{Typed, IsTyped, typed_in}
use Rattle.sctp_model.specs.end.Reports.{written}
use Rattle.sctp_model.proofs.TypedWriting.{typed_in-written}

abbrev pub AreTyped : List Typed → Type 0
AreTyped items = AllByRecursion IsTyped items

pub written_read : (items : List Typed) → AreTyped items → typed_in (written items) ≡ items
written_read items all = typed_in-written items all
