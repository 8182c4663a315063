-- What a socket need not keep, and need not hand over (RFC 9260, 5.1.3 and 5.2).
use Rattle.std.specs.Prelude.{◌≡◌, ℕ, ◌≤◌, true, [], ◌∷◌}
use Rattle.sctp_model.specs.wire.Chunk.{InitMeaning, Init}
use Rattle.sctp_model.specs.wire.Packet.{Packet}
use Rattle.sctp_model.specs.end.Sealing.{Sealing}
use Rattle.sctp_model.specs.end.EndView.{Configuration, Draw, EndView, Listener, Listening, fresh_end, has_association}
use Rattle.sctp_model.specs.end.Clock.{at_moment}
use Rattle.sctp_model.specs.end.Strays.{Verdict, Dropped}
use Rattle.sctp_model.specs.end.Arriving.{Arrives}

-- A listener that is made anew for a packet is the one that was kept since an earlier moment.
abbrev pub ListenersAreAnew : Type 0
ListenersAreAnew = (c : Configuration) (s : Sealing) (then now : ℕ) → then ≤ now →
    at_moment (at_moment (fresh_end c (Listener s) Listening) then) now ≡ at_moment (fresh_end c (Listener s) Listening) now

-- An INIT that is handed to an endpoint with an association is dropped, whatever it says.
abbrev pub InitsAreDropped : Type 0
InitsAreDropped = (e t : EndView) (d : Draw) (p : Packet) (m : InitMeaning) (v : Verdict) → has_association e.phase ≡ true →
    Arrives e d (record p { chunks = Init m ∷ [] }) t v → (reason : ℕ) × (v ≡ Dropped reason)
