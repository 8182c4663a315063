-- HMAC over SHA-256 (RFC 2104, 2), on lists of bytes, for keys of every length.
use Rattle.std.specs.Prelude.{ℕ, ◌-◌, List, ◌++◌, length, map, replicate, bit_xor, nat_le, if◌then◌else◌}
use Rattle.sha2.specs.Sha256.{sha256}

-- a key longer than a block of 64 bytes is replaced by its digest
abbrev pub short_key : List ℕ → List ℕ
short_key key = if nat_le (length key) 64 then key else sha256 key

-- the key, filled up to a block with zeros
unfoldable pub block_key : List ℕ → List ℕ
block_key key = short_key key ++ replicate (64 - length (short_key key)) 0

-- the block of the key, each byte xored with the pad
abbrev pub padded_key : ℕ → List ℕ → List ℕ
padded_key pad key = map (λ byte. bit_xor byte pad) (block_key key)

-- H((key xor opad) ++ H((key xor ipad) ++ text)), where ipad is 0x36 and opad 0x5c
unfoldable pub hmac : List ℕ → List ℕ → List ℕ
hmac key text = sha256 (padded_key 0x5c key ++ sha256 (padded_key 0x36 key ++ text))
