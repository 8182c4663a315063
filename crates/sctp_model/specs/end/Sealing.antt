-- A listener's cookie without its bytes: what is in it, and that the listener reads again what it sealed (RFC 9260, 5.1.3).
use Rattle.std.specs.Prelude.{◌≡◌, ℕ, ◌^◌, ◌<◌, Bool, List, length, Option, Some}

-- One of the two endpoints, as a cookie remembers it: its port, the tag that packets to it carry, and its first TSN.
pub record Party : Type 0 where
  pub port : ℕ
  pub tag : ℕ
  pub tsn : ℕ

-- What a listener would have to remember of an INIT and of its own answer, had it no cookie: the time in milliseconds, both endpoints, the caller's window
-- in bytes, how many streams lead each way, and what is turned on (RFC 9260, 5.1.3).
pub record Body : Type 0 where
  pub made : ℕ
  pub listener : Party
  pub caller : Party
  pub rwnd : ℕ
  pub to_caller : ℕ
  pub from_caller : ℕ
  pub partial : Bool
  pub interleave : Bool
  pub reset : Bool
  pub zero_checksum : Bool

-- a port of 16 bits, a tag and a TSN of 32
pub record IsPartyInRange (x : Party) : Type 0 where
  pub port : x.port < 2 ^ 16
  pub tag : x.tag < 2 ^ 32
  pub tsn : x.tsn < 2 ^ 32

-- Every number fits its field of the cookie.
pub record IsInRange (b : Body) : Type 0 where
  pub moment : b.made < 2 ^ 64
  pub parties : IsPartyInRange b.listener × IsPartyInRange b.caller
  pub window : b.rwnd < 2 ^ 32
  pub counts : (b.to_caller < 2 ^ 16) × (b.from_caller < 2 ^ 16)

-- the bytes of a cookie: 40 of the body, 32 of the MAC
abbrev pub COOKIE_SIZE : ℕ
COOKIE_SIZE = 72

-- A seal that a listener keeps to itself: how it makes a cookie of a body, and which body it finds in bytes. It finds none unless they have the
-- form of a cookie and the right MAC; whose ports and tag it names, and how old it is, is looked at elsewhere. Nothing else is asked of a seal.
pub record Sealing : Type 0 where
  pub sealed : Body → List ℕ
  pub opened : List ℕ → Option Body
  pub size : (b : Body) → length (sealed b) ≡ COOKIE_SIZE
  pub opens : (b : Body) → IsInRange b → opened (sealed b) ≡ Some b
