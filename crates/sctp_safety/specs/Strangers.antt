-- What the packets of a third party do at an endpoint: nothing (RFC 9260, 5.1.3, 8.4 and 8.5).
use Rattle.std.specs.Prelude.{◌≡◌, ℕ, List, [], ◌∷◌}
use Rattle.sctp_model.specs.numbers.Lists.{IsWithin}
use Rattle.sctp_model.specs.wire.Packet.{Packet}
use Rattle.sctp_model.specs.wire.Places.{ArePlaced}
use Rattle.sctp_model.specs.end.Sealing.{Sealing}
use Rattle.sctp_model.specs.end.EndView.{Draw, Phase, Calling, Echoing, Open, Listener, EndView}
use Rattle.sctp_model.specs.end.Strays.{Verdict}
use Rattle.sctp_model.specs.end.Arriving.{Arrives}
use Rattle.sctp_model.specs.world.Premises.{IsStranger}

-- the tags that an endpoint goes by in its state
abbrev pub tags_of : Phase → List ℕ
tags_of (Calling d) = d.tag ∷ []
tags_of (Echoing t cookie) = t.own ∷ t.peer ∷ []
tags_of (Open t stage) = t.own ∷ t.peer ∷ []
tags_of h = []

-- Each of them was generated.
abbrev pub IsDrawn : List ℕ → Phase → Type 0
IsDrawn drawn h = IsWithin (tags_of h) drawn

-- Whatever a third party's packet holds, and however it is answered, the endpoint at which it arrives stays as it was.
abbrev pub StrangersChangeNothing : Type 0
StrangersChangeNothing = (s : Sealing) (drawn : List ℕ) (e : EndView) (d : Draw) (p : Packet) (t : EndView) (v : Verdict) →
    IsStranger s drawn p → ArePlaced p.chunks → IsDrawn drawn e.phase → ((z : Sealing) → e.role ≡ Listener z → z ≡ s) → Arrives e d p t v → t ≡ e
