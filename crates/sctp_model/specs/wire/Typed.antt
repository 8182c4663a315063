-- Parameters and causes: lists of items that say their type and their length (RFC 9260, 3.2.1 and 3.3.10).
use Rattle.std.specs.Prelude.{◌≡◌, ℕ, zero, suc, ◌+◌, ◌-◌, ◌<◌, ◌^◌, Bool, if◌then◌else◌, ◌==◌, ◌&&◌, ◌||◌, nat_le, List, [], ◌∷◌, ◌++◌, length, drop}
use Rattle.std.specs.Prelude.{replicate, slice_range, Option, Some, None, is_some, unwrap_or, option_map}
use Rattle.std.specs.List.{AllByRecursion}
use Rattle.sctp_model.specs.wire.Chunk.{padded, padding_after}
use Rattle.sctp_model.specs.numbers.Numbers.{u16_bytes, u16_at}

-- ---- one item

-- A parameter or a cause, without where it lies.
pub record Typed : Type 0 where
  pub kind : ℕ
  pub value : List ℕ

-- The length field counts the type, itself and the value, and none of the padding.
abbrev pub typed_length : Typed → ℕ
typed_length item = 4 + length item.value

-- type and length are numbers of 16 bits
pub record IsTyped (item : Typed) : Type 0 where
  pub kind : item.kind < 2 ^ 16
  pub length : typed_length item < 2 ^ 16

-- type, length and value, one after the other
abbrev pub typed_bytes : Typed → List ℕ
typed_bytes item = u16_bytes item.kind ++ (u16_bytes (typed_length item) ++ item.value)

-- ---- the grammar

-- The bytes are this list: nothing; an item that ends them; or an item, its padding with any value, and a list. So the last item may
-- have its padding, and need not.
pub data ReadsTyped : List ℕ → List Typed → Type 0 where
  NoItem : ReadsTyped [] []
  LastItem : (item : Typed) → IsTyped item → ReadsTyped (typed_bytes item) (item ∷ [])
  NextItem : (item : Typed) (padding rest : List ℕ) (others : List Typed) → IsTyped item
      → length padding ≡ padding_after (typed_length item) → ReadsTyped rest others
      → ReadsTyped (typed_bytes item ++ (padding ++ rest)) (item ∷ others)

-- zeros after bytes, up to a multiple of 4
abbrev pub filled : List ℕ → List ℕ
filled front = front ++ replicate (padding_after (length front)) 0

-- the bytes written for a list: zeros fill each item before another one, and there are none after the last
abbrev pub written_typed : List Typed → List ℕ
written_typed [] = []
written_typed (item ∷ []) = typed_bytes item
written_typed (item ∷ next ∷ others) = filled (typed_bytes item) ++ written_typed (next ∷ others)

-- The bytes are those written for this list.
pub record WritesTyped (bytes : List ℕ) (items : List Typed) : Type 0 where
  pub bytes_are : bytes ≡ written_typed items
  pub fit : AllByRecursion IsTyped items

-- ---- the items of bytes, from left to right

-- what the length field of an item says that begins here
abbrev pub length_field : List ℕ → ℕ
length_field bytes = u16_at (drop 2 bytes)

-- An item begins here: the length covers its header, and after it nothing is left, or its padding at least.
unfoldable pub starts_typed : List ℕ → Bool
starts_typed bytes =
    nat_le 4 (length_field bytes) && ((length bytes == length_field bytes) || nat_le (padded (length_field bytes)) (length bytes))

-- the item that begins here
abbrev pub typed_at : List ℕ → Typed
typed_at bytes = record { kind = u16_at bytes; value = slice_range bytes 4 (length_field bytes) }

-- The items; this many bytes are still inside the item before, or its padding. At each byte that isn't, one begins.
abbrev pub items_after : (inside : ℕ) → List ℕ → Option (List Typed)
items_after inside [] = Some []
items_after (suc inside) (b ∷ bytes) = items_after inside bytes
items_after zero (b ∷ bytes) =
    if starts_typed (b ∷ bytes)
    then option_map (λ (others : List Typed). typed_at (b ∷ bytes) ∷ others) (items_after (padded (length_field (b ∷ bytes)) - 1) bytes)
    else None

-- the list that bytes are, if they are one
unfoldable pub typed_of : List ℕ → Option (List Typed)
typed_of bytes = items_after 0 bytes

-- The bytes are a list.
abbrev pub are_typed : List ℕ → Bool
are_typed bytes = is_some (typed_of bytes)

-- the items of a list
abbrev pub typed_in : List ℕ → List Typed
typed_in bytes = unwrap_or (typed_of bytes) []

-- The bytes are as they would be written for their items: the padding between them is zero, and there is none after the last.
abbrev pub AreAsWritten : List ℕ → Type 0
AreAsWritten bytes = bytes ≡ written_typed (typed_in bytes)
