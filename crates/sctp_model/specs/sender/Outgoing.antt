-- What a sender knows of the resets of its outgoing streams (RFC 6525, 5.1).
use Rattle.std.specs.Prelude.{ℕ, Bool, true, false, List, [], ◌∷◌, ◌||◌, ◌&&◌, ◌==◌, Option, None}
use Rattle.sctp_model.specs.messages.Format.{Lane}

-- whether a stream takes messages of its user
pub data Sending : Type 0 where
  -- it does; it takes none, since its reset was asked for; it takes none, since the peer refused that
  Sends Resets Refuses : Sending

-- Which sequence number an outstanding request has, the last one used (5.2.7).
pub data Numbering : Type 0 where
  -- the one with which it was sent first
  FirstNumber : Numbering
  -- one under which it is in progress: when its timer retransmits it, it takes the next one
  NextNumber : Numbering
  -- one after a number under which it was in progress
  LaterNumber : Numbering

-- An outstanding request: the number of its first sending, which it may not have any more if it was in progress; the last index assigned then; its streams;
-- which number it has.
pub record Request : Type 0 where
  pub first : ℕ
  pub last : ℕ
  pub streams : List ℕ
  pub numbering : Numbering

-- For each lane the number that is 0 on the wire; what each stream does; how many sequence numbers of requests were used; the outstanding request; the last
-- request that was made, outstanding or not, as it was made.
pub record Outgoing : Type 0 where
  pub base : Lane → ℕ
  pub sending : ℕ → Sending
  pub made : ℕ
  pub pending : Option Request
  pub last_made : Option Request

-- before the first reset
abbrev pub no_outgoing : Outgoing
no_outgoing = record { base = λ l. 0; sending = λ s. Sends; made = 0; pending = None; last_made = None }

-- the stream takes messages
abbrev pub is_sending : Sending → Bool
is_sending Sends = true
is_sending Resets = false
is_sending Refuses = false

-- its reset was asked for
abbrev pub is_resetting : Sending → Bool
is_resetting Sends = false
is_resetting Resets = true
is_resetting Refuses = false

-- it is to take the next number
abbrev pub takes_next : Numbering → Bool
takes_next FirstNumber = false
takes_next NextNumber = true
takes_next LaterNumber = false

-- its number is one after a number under which it was in progress
abbrev pub is_later : Numbering → Bool
is_later FirstNumber = false
is_later NextNumber = false
is_later LaterNumber = true

-- the stream is one of these
abbrev pub lists : List ℕ → ℕ → Bool
lists [] s = false
lists (x ∷ xs) s = (x == s) || lists xs s

-- both name the same streams, in the same order
abbrev pub are_listed : List ℕ → List ℕ → Bool
are_listed [] [] = true
are_listed (x ∷ xs) (y ∷ ys) = (x == y) && are_listed xs ys
are_listed (x ∷ xs) [] = false
are_listed [] (y ∷ ys) = false
