-- FORWARD-TSN and I-FORWARD-TSN: the new cumulative TSN, and the entries (RFC 3758, 3.2; RFC 8260, 2.3.1).
use Rattle.std.specs.Prelude.{◌≡◌, ℕ, ◌+◌, ◌*◌, ◌-◌, ◌%◌, ◌<◌, ◌^◌, Bool, ◌==◌, ◌&&◌, nat_le, List, ◌++◌, length, drop}
use Rattle.std.specs.List.{flat_map, AllByRecursion}
use Rattle.sctp_model.specs.wire.Chunk.{ForwardMeaning}
use Rattle.sctp_model.specs.numbers.Numbers.{u32_bytes, u32_at}
use Rattle.sctp_wire.specs.declared.skips.SkipForm.{SkipForm}
use Rattle.sctp_wire.specs.Skips.{skip_size, skip_bytes, IsSkip, ReadsSkips, skips_in}

-- the value, reserved bits zero
abbrev pub forward_value : SkipForm → ForwardMeaning → List ℕ
forward_value form f = u32_bytes f.cumulative ++ flat_map (skip_bytes form) f.skips

-- with any value in the reserved bits
abbrev pub ReadsForward : SkipForm → List ℕ → ForwardMeaning → Type 0
ReadsForward form value f = (rest : List ℕ) × ((value ≡ u32_bytes f.cumulative ++ rest) × ReadsSkips form rest f.skips)

-- the values that the layout accepts: 4 bytes, and whole entries
abbrev pub is_forward_value : SkipForm → List ℕ → Bool
is_forward_value form value = nat_le 4 (length value) && ((length value - 4) % skip_size form == 0)

-- the fields are within their bits
pub record IsForward (form : SkipForm) (f : ForwardMeaning) : Type 0 where
  pub cumulative : f.cumulative < 2 ^ 32
  pub skips : AllByRecursion (IsSkip form) f.skips

-- the fields of a value
unfoldable pub forward_at : SkipForm → List ℕ → ForwardMeaning
forward_at form value = record { cumulative = u32_at value; skips = skips_in form (drop 4 value) }

-- a FORWARD's fields and its length are within their bits
pub record FitsForward (form : SkipForm) (f : ForwardMeaning) : Type 0 where
  pub fields : IsForward form f
  pub length : 8 + skip_size form * length f.skips < 2 ^ 16
