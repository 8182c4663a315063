-- ABORT: causes, and the flag T (RFC 9260, 3.3.7).
use Rattle.std.specs.Prelude.{◌≡◌, ℕ, ◌+◌, ◌*◌, Bool, List}
use Rattle.sctp_model.specs.wire.Typed.{are_typed}
use Rattle.sctp_wire.specs.declared.codes.TheConstants.{REFLECTED}
use Rattle.sctp_wire.specs.chunks.Flags.{flag}

-- the flags: T, and seven unused ones, which are ignored
abbrev pub ReadsReflected : (flags : ℕ) → (reflected : Bool) → Type 0
ReadsReflected flags reflected = (unused : ℕ) × (flags ≡ 2 * unused + flag REFLECTED reflected)

-- the value is the bytes of the causes
abbrev pub abort_value : (causes : List ℕ) → List ℕ
abort_value causes = causes

-- which must be a list
abbrev pub has_abort_list : List ℕ → Bool
has_abort_list value = are_typed value
