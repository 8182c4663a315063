-- How many bytes of user data wait on each stream: what its data channel buffers.
use Rattle.std.specs.Prelude.{◌≡◌, ℕ, ◌+◌, ◌-◌, ◌%◌, ◌^◌, ◌<◌, ◌≤◌, ◌==◌, Bool, true, ◌&&◌, List, [], ◌∷◌, length, slice_index_or, set, if◌then◌else◌}
use Rattle.std.specs.List.{All, list_any, sum_by}
use Rattle.std.specs.declared.sync.Arc.{Arc}
use Rattle.std.specs.declared.alloc.Global.{Global}
use Rattle.sctp_send.specs.declared.kept.message.Message.{Message as MessageFields}

-- the payload protocol identifiers of user data: text and binary data that aren't empty (RFC 8831, 8)
abbrev pub user_data : List ℕ
user_data = 51 ∷ 53 ∷ []

-- a message has one of these
abbrev pub has_user_data : MessageFields → Bool
has_user_data m = list_any (λ (id : ℕ). id == m.payload_id) user_data

-- the bytes of a message, if it is on this stream and has user data; otherwise 0
abbrev pub user_bytes_on : (stream : ℕ) → Arc MessageFields Global → ℕ
user_bytes_on s m = if (m.value.stream == s) && has_user_data m.value then length m.value.bytes.items else 0

-- Of each stream the bytes of user data that wait on it, modulo 2^32. Each stream on which some wait has its count.
pub record AreUserBytes (counts : List ℕ) (ms : List (Arc MessageFields Global)) : Type 0 where
  pub sums : (s : ℕ) → slice_index_or counts s 0 ≡ sum_by (user_bytes_on s) ms % 2 ^ 32
  pub reach : All (λ m. has_user_data m.value ≡ true → m.value.stream < length counts) ms

-- the bytes of a message are added to the count of its stream, if it has user data
abbrev pub with_bytes : MessageFields → List ℕ → List ℕ
with_bytes m us = if has_user_data m then set us m.stream ((slice_index_or us m.stream 0 + length m.bytes.items % 2 ^ 32) % 2 ^ 32) else us

-- The counts after a message was queued: there is one for its stream, if it has user data, and those that weren't there were 0.
pub record IsCounted (m : MessageFields) (us vs : List ℕ) : Type 0 where
  pub grown : List ℕ
  pub same : (s : ℕ) → slice_index_or grown s 0 ≡ slice_index_or us s 0
  pub longer : length us ≤ length grown
  pub reach : has_user_data m ≡ true → m.stream < length grown
  pub after : vs ≡ with_bytes m grown

-- they are taken from it
abbrev pub without_bytes : MessageFields → List ℕ → List ℕ
without_bytes m us = if has_user_data m then set us m.stream ((slice_index_or us m.stream 0 + (2 ^ 32 - length m.bytes.items % 2 ^ 32)) % 2 ^ 32) else us
