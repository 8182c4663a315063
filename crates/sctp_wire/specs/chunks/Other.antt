-- A chunk of a type that has no case of its own: any flags, any value (RFC 9260, 3.2).
use Rattle.std.specs.Prelude.{◌≡◌, ℕ, ◌<◌, ◌^◌, Bool, false, ◌==◌, ◌||◌, nat_le}
use Rattle.sctp_wire.specs.declared.codes.TheConstants.{COOKIE_ACK, SHUTDOWN_COMPLETE, I_DATA, FORWARD_TSN, I_FORWARD_TSN}

-- the types that have a case of their own: 0 to 11, and four more
abbrev pub is_known : ℕ → Bool
is_known kind =
    nat_le kind COOKIE_ACK || ((kind == SHUTDOWN_COMPLETE) || ((kind == I_DATA) || ((kind == FORWARD_TSN) || (kind == I_FORWARD_TSN))))

-- another type, not one that has a case of its own
pub record IsUnknown (code kept : ℕ) : Type 0 where
  pub kind : code < 2 ^ 8
  pub other : is_known code ≡ false
  pub flags : kept < 2 ^ 8
