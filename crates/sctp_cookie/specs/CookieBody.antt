-- The body of a state cookie, what a listener keeps in it (RFC 9260, 5.1.3), as 40 bytes.
use Rattle.std.specs.Prelude.{ℕ, ◌+◌, List, [], ◌∷◌, ◌++◌, length, drop, Bool, true, false, ◌&&◌, ◌||◌, not, bit_and, ◌==◌, nat_le, slice_index, if◌then◌else◌}
use Rattle.byteorder.specs.Endian.{big_bytes, big_number}
use Rattle.sctp_model.specs.end.Sealing.{Body, COOKIE_SIZE}
use Rattle.sctp_cookie.specs.declared.body.CookieOptions.{CookieOptions}

-- the options in one byte: 1 partial reliability, 2 I-DATA, 4 stream reset, 8 zero checksums
abbrev pub options_byte : Body → ℕ
options_byte body =
    (if body.partial then 1 else 0) + (if body.interleave then 2 else 0) + (if body.reset then 4 else 0) + (if body.zero_checksum then 8 else 0)

-- a listener with none of the options that only some are set up with
abbrev pub no_options : CookieOptions
no_options = record { reset = false; zero_checksum = false }

-- one with all of them
abbrev pub all_options : CookieOptions
all_options = record { reset = true; zero_checksum = true }

-- the byte says the option of this bit
abbrev pub says : (bit n : ℕ) → Bool
says bit n = not (bit_and n bit == 0)

-- The byte says no option that isn't in the layout; stream reset and zero checksums only to a listener that is set up with them.
abbrev pub says_only : CookieOptions → ℕ → Bool
says_only taken n = nat_le n 15 && (taken.reset || not (says 4 n)) && (taken.zero_checksum || not (says 8 n))

-- the 40 bytes: each field in its place, numbers high byte first, three zeros at the end
unfoldable pub body_bytes : Body → List ℕ
body_bytes body =
    big_bytes 8 body.made
    ++ big_bytes 2 body.listener.port ++ big_bytes 2 body.caller.port
    ++ big_bytes 4 body.listener.tag ++ big_bytes 4 body.caller.tag
    ++ big_bytes 4 body.listener.tsn ++ big_bytes 4 body.caller.tsn
    ++ big_bytes 4 body.rwnd
    ++ big_bytes 2 body.to_caller ++ big_bytes 2 body.from_caller
    ++ options_byte body ∷ 0 ∷ 0 ∷ 0 ∷ []

-- the body whose fields stand in these bytes
unfoldable pub body_of : List ℕ → Body
body_of bytes = record {
  made = big_number 8 bytes;
  listener = record { port = big_number 2 (drop 8 bytes); tag = big_number 4 (drop 12 bytes); tsn = big_number 4 (drop 20 bytes) };
  caller = record { port = big_number 2 (drop 10 bytes); tag = big_number 4 (drop 16 bytes); tsn = big_number 4 (drop 24 bytes) };
  rwnd = big_number 4 (drop 28 bytes);
  to_caller = big_number 2 (drop 32 bytes);
  from_caller = big_number 2 (drop 34 bytes);
  partial = says 1 (slice_index bytes 36);
  interleave = says 2 (slice_index bytes 36);
  reset = says 4 (slice_index bytes 36);
  zero_checksum = says 8 (slice_index bytes 36);
}

-- a cookie of such a listener has this form: its size, the options that it may say, then three zeros
unfoldable pub has_form : CookieOptions → List ℕ → Bool
has_form taken bytes =
    length bytes == COOKIE_SIZE && says_only taken (slice_index bytes 36)
    && slice_index bytes 37 == 0 && slice_index bytes 38 == 0 && slice_index bytes 39 == 0
