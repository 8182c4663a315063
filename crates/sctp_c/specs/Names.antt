-- The texts that C gets: what each result means.
use Rattle.std.specs.Prelude.{◌≡◌, ◌<◌, ◌≤◌, ℕ, suc, ◌==◌, if◌then◌else◌, List, ◌∷◌, ◌++◌, length, drop, codes}

-- the length is that of this text; if the buffer has space for it and a 0, both are at its beginning, and after them it is as it was; else it is all
-- as it was
pub record IsText (text : List ℕ) (count : ℕ) (old new : List ℕ) : Type 0 where
  pub size : count ≡ length text
  pub put : length text < length old → new ≡ text ++ 0 ∷ drop (suc (length text)) old
  pub narrow : length old ≤ length text → new ≡ old

-- the faults of a configuration
abbrev pub config_name : ℕ → List ℕ
config_name n =
    if n == 21 then codes "a port is 0"
    else if n == 22 then codes "the packet limit isn't in 576 to 1,500"
    else if n == 23 then codes "the fragment isn't in 4 to 1,400, or with 32 bytes of headers doesn't fit a packet"
    else if n == 24 then codes "the receive buffer isn't in 65,536 to 16,777,216"
    else if n == 25 then codes "a number of streams isn't in 1 to 1,024"
    else codes "no result of this library"

-- each result
abbrev pub name_of : ℕ → List ℕ
name_of n =
    if n == 0 then codes "done"
    else if n == 1 then codes "the stream isn't below the number of streams agreed on"
    else if n == 2 then codes "the message has no bytes"
    else if n == 3 then codes "the message has more than 65,536 bytes, or the reason doesn't fit one packet"
    else if n == 4 then codes "1,024 messages are queued: send again after the next SACK"
    else if n == 5 then codes "the TSNs or the tickets of this association are used up"
    else if n == 6 then codes "memory allocation failed"
    else if n == 7 then codes "the association isn't established"
    else if n == 8 then codes "the call isn't allowed in this state"
    else if n == 9 then codes "there is none"
    else if n == 10 then codes "the buffer is too small"
    else if n == 11 then codes "the handle is empty, or, to make an endpoint, isn't"
    else if n == 12 then codes "a tag is 0"
    else if n == 13 then codes "a reserved number isn't 0"
    else if n == 14 then codes "the stream is being reset"
    else if n == 15 then codes "there is no open channel on the stream"
    else if n == 16 then codes "there is no such stream, or none is free"
    else if n == 17 then codes "the stream is one of the peer's"
    else if n == 18 then codes "there is a channel on the stream"
    else if n == 19 then codes "more than 65,535 retransmissions or milliseconds"
    else if n == 26 then codes "the bytes of the key are all 0"
    else config_name n
