-- What a listener does with a packet that it was made for, and keeps nothing of (RFC 9260, 5.1 and 8.4).
use Rattle.std.specs.Prelude.{◌≡◌, true, Some, None, List, ◌∷◌}
use Rattle.sctp_model.specs.wire.Chunk.{InitMeaning, ChunkMeaning, Init}
use Rattle.sctp_model.specs.wire.Packet.{Packet}
use Rattle.sctp_model.specs.end.EndView.{Draw, EndView}
use Rattle.sctp_model.specs.end.Passing.{has_ports, passes}
use Rattle.sctp_model.specs.end.Strays.{Verdict, Dropped, opened_by}
use Rattle.sctp_model.specs.end.Arriving.{Arrives}
use Rattle.sctp_cookie.specs.CookieTree.{content_meaning}
use Rattle.sctp_terms.specs.Meanings.{reason_code}
use Rattle.sctp_opening.specs.Told.{IsAnswer}
use Rattle.sctp_opening.specs.declared.outside.Stray.{Stray}
use Rattle.sctp_opening.specs.declared.outside.Stray.TheVariants as stray

-- The packet is for the listener: its ports and its tag are right.
pub record IsForListener (e : EndView) (p : Packet) : Type 0 where
  pub ports : has_ports e.configuration p ≡ true
  pub tag : passes e.phase p ≡ true

-- It arrives, is dropped or answered, and the listener stays as it is; or its cookie opens, and has this content.
abbrev pub Leaves : EndView → Draw → Packet → Stray → Type 0
Leaves e d p (stray.Begins content) = IsForListener e p × (opened_by e p ≡ Some (content_meaning content))
Leaves e d p (stray.Dropped reason) = Arrives e d p e (Dropped (reason_code reason))
Leaves e d p (stray.Answered packet) = (v : Verdict) × Arrives e d p e v × IsAnswer packet.items v

-- AN UNVERIFIED INIT LEAVES NOTHING: no listener opens a cookie in a packet that begins with one.
abbrev pub InitsOpenNothing : Type 0
InitsOpenNothing = (e : EndView) (p : Packet) (m : InitMeaning) (xs : List ChunkMeaning) → p.chunks ≡ Init m ∷ xs → opened_by e p ≡ None
