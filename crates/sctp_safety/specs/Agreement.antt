-- What the opening gives, whichever way two endpoints are opened: once both have an association they agree on all of its terms (RFC 9260, 5.1).
use Rattle.std.specs.Prelude.{◌≡◌, ℕ, ◌<◌, ◌⊎◌, Bool, true, false, List, Some}
use Rattle.sctp_model.specs.numbers.Lists.{Has}
use Rattle.sctp_model.specs.wire.Chunk.{CookieEcho}
use Rattle.sctp_model.specs.wire.Packet.{Packet}
use Rattle.sctp_model.specs.end.Sealing.{Body, Sealing}
use Rattle.sctp_model.specs.end.EndView.{Terms, Phase, Listening, Echoing, Open, Over, Listener}
use Rattle.sctp_model.specs.end.Opening.{terms_of_body}
use Rattle.sctp_model.specs.end.UserCalls.{is_open}
use Rattle.sctp_model.specs.world.World.{Side, World, end_of, Setup}
use Rattle.sctp_model.specs.world.Events.{Event}
use Rattle.sctp_model.specs.world.Premises.{drawn_in, IsReachable}
use Rattle.sctp_safety.specs.States.{has_agreed}
use Rattle.sctp_safety.specs.Strangers.{IsDrawn}

-- What the one sends with the other receives with, and the same is turned on: first TSNs, streams, I-DATA, partial reliability
-- (RFC 9260, 5.1.1; RFC 8260, 2.2.1; RFC 3758, 3.1). Each way there is a stream.
pub record AreAgreed (x y : Terms) : Type 0 where
  pub first_tsn : y.peer_tsn ≡ x.own_tsn
  pub first_tsn_back : y.own_tsn ≡ x.peer_tsn
  pub streams : y.inbound ≡ x.outbound
  pub streams_back : y.outbound ≡ x.inbound
  pub interleave : y.interleave ≡ x.interleave
  pub partial : y.partial ≡ x.partial
  pub reset : y.reset ≡ x.reset
  pub zero_checksum : y.zero_checksum ≡ x.zero_checksum
  pub some_streams : (0 < x.outbound) × (0 < x.inbound)

-- If both endpoints go by tags, each puts on its packets the tag that the other looks for (RFC 9260, 8.5).
abbrev pub AreEachOthers : Phase → Phase → Type 0
AreEachOthers (Open t g) (Open u h) = (u.own ≡ t.peer) × (u.peer ≡ t.own)
AreEachOthers (Echoing t cookie) (Open u h) = (u.own ≡ t.peer) × (u.peer ≡ t.own)
AreEachOthers k l = Unit {0}

-- No association has both its endpoints yet: the listener remembers nothing, and the caller, if it has called, was never open.
pub record AreApart (w : World) : Type 0 where
  pub listens : w.b.phase ≡ Listening
  pub unopened : is_open w.a.phase ≡ false

-- the endpoint is open, or it is over
abbrev pub was_open : Phase → Bool
was_open (Open t g) = true
was_open (Over why) = true
was_open h = false

-- The association has, or had, both its endpoints, and they agree, for good.
pub record HaveMet (w : World) : Type 0 where
  pub caller : has_agreed w.a.phase ≡ true
  pub listener : was_open w.b.phase ≡ true
  pub terms : AreAgreed w.a.terms w.b.terms
  pub tags : AreEachOthers w.a.phase w.b.phase
  pub closed_to_opening : w.openable ≡ false

-- What the opening keeps in every world, as far as the tags go that were generated: the endpoints go by such tags and the one seal, and every cookie of the
-- caller's that would open at a listener says what the caller has joined on. So the endpoints are apart, or they have met.
pub record IsOpening (s : Setup) (drawn : List ℕ) (w : World) : Type 0 where
  pub drawn_tags : (x : Side) → IsDrawn drawn (end_of w x).phase
  pub one_seal : (x : Side) (z : Sealing) → (end_of w x).role ≡ Listener z → z ≡ s.sealing
  pub cookies : w.b.phase ≡ Listening → (p : Packet) (cookie : List ℕ) (b : Body) → Has w.from_a p → Has p.chunks (CookieEcho cookie) →
      s.sealing.opened cookie ≡ Some b → (has_agreed w.a.phase ≡ true) × AreAgreed w.a.terms (terms_of_body b)
  pub met : AreApart w ⊎ HaveMet w

-- THE ENDPOINTS AGREE: so it is in every world of every run that meets the premises.
abbrev pub EndsAgree : Type 0
EndsAgree = (s : Setup) (events : List Event) (w : World) → IsReachable s events w → IsOpening s (drawn_in events) w
