-- What follows a list after its padding and an item were appended.
use Rattle.std.proofs.Common.{◌≡◌, ℕ, List, ◌++◌, length, replicate, refl, append_assoc}
use Rattle.sctp_model.specs.wire.Chunk.{padding_after}
use Rattle.sctp_model.specs.numbers.Numbers.{u16_bytes}
use Rattle.sctp_model.specs.wire.Typed.{Typed, typed_length, typed_bytes, filled}

-- the padding, the type, the length and the value, one after another
pub filled_then : (list : List ℕ) (item : Typed) (gap : ℕ) → gap ≡ padding_after (length list)
    → (((list ++ replicate gap 0) ++ u16_bytes item.kind) ++ u16_bytes (typed_length item)) ++ item.value ≡ filled list ++ typed_bytes item
filled_then list item gap e =
    let kind = u16_bytes item.kind in
    let size = u16_bytes (typed_length item) in
    rw (e, append_assoc (filled list ++ kind) size item.value, append_assoc (filled list) kind (size ++ item.value)) refl
