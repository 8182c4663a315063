-- What is looked at, item by item, where a list is compared with what is written.
use Rattle.std.specs.Prelude.{◌≡◌, ◌<◌, ◌⊎◌, ℕ, List, EachIndex, length, slice_index, slice_range}
use Rattle.sctp_model.specs.wire.Chunk.{padded}
use Rattle.sctp_model.specs.wire.Typed.{length_field}

-- The first item ends the bytes, or its padding is zero and another item follows.
abbrev pub IsFirstAsWritten : List ℕ → Type 0
IsFirstAsWritten bytes =
    (length_field bytes ≡ length bytes)
    ⊎ ((padded (length_field bytes) < length bytes)
    × EachIndex (slice_range bytes (length_field bytes) (padded (length_field bytes))) (λ k. slice_index (slice_range bytes (length_field bytes) (padded (length_field bytes))) k ≡ 0))
