-- The premises on third parties in the words of a key, for a pair whose listener seals its cookies with it.
use Rattle.std.specs.Prelude.{ℕ, List, Some}
use Rattle.sctp_model.specs.numbers.Numbers.{AreBytes}
use Rattle.sctp_model.specs.numbers.Lists.{Has}
use Rattle.sctp_model.specs.wire.Chunk.{InitMeaning, Init, CookieEcho}
use Rattle.sctp_model.specs.wire.Packet.{Packet}
use Rattle.sctp_model.specs.end.Sealing.{Sealing}
use Rattle.sctp_model.specs.world.World.{Side}
use Rattle.sctp_model.specs.world.Events.{Event, Foreign}
use Rattle.sctp_model.specs.world.Premises.{drawn_in, FreshAndUnforged}
use Rattle.sctp_cookie.specs.Seals.{IsUnder, IsSealed}
use Rattle.sctp_packet.specs.PacketBytes.{ReadsPacket}

-- A third party's packet. It carries none of these tags, no INIT in it proposes one (FRESH), and no COOKIE ECHO in it has a cookie that the key seals
-- (UNFORGED).
pub record IsWithoutKey (key tags : List ℕ) (p : Packet) : Type 0 where
  pub untagged : Has tags p.tag → ⊥
  pub inits : (m : InitMeaning) → Has p.chunks (Init m) → Has tags m.tag → ⊥
  pub cookies : (cookie : List ℕ) → Has p.chunks (CookieEcho cookie) → IsSealed key cookie → ⊥

-- FRESH and UNFORGED, of the events of a run: whoever else sends to either endpoint is such a third party.
abbrev pub KeyPremises : (key : List ℕ) → List Event → Type 0
KeyPremises key es = (x : Side) (p : Packet) → Has es (Foreign x (Some p)) → IsWithoutKey key (drawn_in es) p

-- the cookie of each COOKIE ECHO in a packet is bytes
abbrev pub HasByteCookies : Packet → Type 0
HasByteCookies p = (cookie : List ℕ) → Has p.chunks (CookieEcho cookie) → AreBytes cookie

-- .. and in each packet of a third party
abbrev pub HaveByteCookies : List Event → Type 0
HaveByteCookies es = (x : Side) (p : Packet) → Has es (Foreign x (Some p)) → HasByteCookies p

-- Under the key's seal the premises say the same in both words, if cookies are bytes.
pub record PremisesOfKey (key : List ℕ) (s : Sealing) (es : List Event) : Type 0 where
  pub in_words_of_the_key : FreshAndUnforged s es → KeyPremises key es
  pub in_words_of_the_seal : HaveByteCookies es → KeyPremises key es → FreshAndUnforged s es

-- So it is for each key.
abbrev pub PremisesAreTheKeys : Type 0
PremisesAreTheKeys = (key : List ℕ) (s : Sealing) (es : List Event) → IsUnder key s → PremisesOfKey key s es

-- And a packet that was read has cookies that are bytes, since it was read from bytes.
abbrev pub WhatIsReadHasByteCookies : Type 0
WhatIsReadHasByteCookies = (bytes : List ℕ) (p : Packet) → AreBytes bytes → ReadsPacket bytes p → HasByteCookies p
