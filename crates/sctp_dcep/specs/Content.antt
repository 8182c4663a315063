-- What an application sends on a data channel, and how it is carried as a message of the association (RFC 8831, 6.6 and 8).
use Rattle.std.specs.Prelude.{◌≡◌, ℕ, Bool, true, false, ◌==◌, if◌then◌else◌, List, [], ◌∷◌, Option, Some, None}

-- the payload protocol identifiers (8): of a message of DCEP
abbrev pub DCEP : ℕ
DCEP = 50

-- of text
abbrev pub STRING : ℕ
STRING = 51

-- of binary data
abbrev pub BINARY : ℕ
BINARY = 53

-- of text without a byte
abbrev pub STRING_EMPTY : ℕ
STRING_EMPTY = 56

-- of binary data without a byte
abbrev pub BINARY_EMPTY : ℕ
BINARY_EMPTY = 57

-- Text, as UTF-8, or binary data. Whether text is UTF-8 is left to the application.
pub record Content : Type 0 where
  pub text : Bool
  pub bytes : List ℕ

-- the identifier of what isn't empty
abbrev pub full_id : (text : Bool) → ℕ
full_id text = if text then STRING else BINARY

-- that of what is empty
abbrev pub empty_id : (text : Bool) → ℕ
empty_id text = if text then STRING_EMPTY else BINARY_EMPTY

-- the identifier that a content is sent with (6.6)
abbrev pub id_of : (text : Bool) → (bytes : List ℕ) → ℕ
id_of text [] = empty_id text
id_of text (b ∷ bs) = full_id text

-- The user data that it is sent as: a message of the association isn't empty, so an empty content goes as one zero (6.6).
abbrev pub carried : List ℕ → List ℕ
carried [] = 0 ∷ []
carried (b ∷ bs) = b ∷ bs

-- What a message with this identifier and this user data says: of an empty content the user data is ignored. None with any other identifier, those of
-- partial messages (52 and 54) too, which are deprecated (8).
abbrev pub content_of : (payload : ℕ) → List ℕ → Option Content
content_of payload bytes =
    if payload == STRING then Some (record { text = true; bytes = bytes })
    else if payload == BINARY then Some (record { text = false; bytes = bytes })
    else if payload == STRING_EMPTY then Some (record { text = true; bytes = [] })
    else if payload == BINARY_EMPTY then Some (record { text = false; bytes = [] })
    else None

-- what is sent for a content is read as it
abbrev pub ContentReadsBack : Type 0
ContentReadsBack = (c : Content) → content_of (id_of c.text c.bytes) (carried c.bytes) ≡ Some c
