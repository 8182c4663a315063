-- The buffer that an end keeps for its next packet.
use Rattle.std.specs.Prelude.{ℕ, nat_le, if◌then◌else◌, vec_capacity}
use Rattle.sctp_association.specs.declared.machine.Machine.{Machine}

-- its capacity in bytes: 0 if none is kept
unfoldable pub kept_capacity : Machine → ℕ
kept_capacity m = vec_capacity m.room

-- what is kept once a packet is handed back: the larger buffer of the two, unless that of the packet is larger than a packet may be
abbrev pub kept_of : (limit size kept : ℕ) → ℕ
kept_of limit size kept = if nat_le size limit then (if nat_le size kept then kept else size) else kept
