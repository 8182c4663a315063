-- `abort`: the ABORT with the user's reason is the specification's packet, and it is refused as too long exactly if it doesn't fit the packet limit.
use Rattle.std.proofs.Common.{◌≡◌, ◌∙◌, ℕ, ◌+◌, ◌<◌, ◌≤◌, nat_le, Bool, true, false, List, [], ◌∷◌, length, refl, ap, sym, arith}
use Rattle.std.specs.Prelude.{Some, None, if◌then◌else◌}
use Rattle.std.proofs.lemmas.Bool.Decides.{nat_tests}
use Rattle.sctp_model.specs.wire.Packet.{size_of_packet}
use Rattle.sctp_model.specs.wire.Typed.{Typed}
use Rattle.sctp_model.specs.end.EndView.{EndView, Configuration}
use Rattle.sctp_model.specs.end.Reports.{item, USER_ABORT}
use Rattle.sctp_model.specs.end.PeerFaults.{abort_for}
use Rattle.sctp_model.specs.end.UserCalls.{Aborts, NoPeer, TooLong, peer_tag, abort_packet, abort_answer, abort_answer_to}
use Rattle.sctp_model.proofs.TypedLemmas.{length-item}
use Rattle.sctp_opening.specs.Room.{size_alone}
use Rattle.sctp_association.specs.PhaseMeans.{phase_unjoined, phase_of}
use Rattle.sctp_association.specs.MachineStands.{KeepsMachine}
use Rattle.sctp_association.specs.declared.state.life.Unjoined.{Unjoined}
use Rattle.sctp_association.specs.declared.state.life.Unjoined.TheVariants.{Idle, Listening, Calling, Failed}
use Rattle.sctp_association.specs.declared.state.life.Life.TheVariants as life
use Rattle.sctp_association.specs.declared.machine.Machine.{Machine}

-- a packet of one cause
pub abort_size : (x : Typed) → size_of_packet (abort_for x ∷ []) ≡ size_alone (8 + length x.value)
abort_size x = let long = length-item x in grind arith

no_tag_at : (x : Unjoined) → None ≡ peer_tag (phase_unjoined x)
no_tag_at Idle = refl
no_tag_at Listening = refl
no_tag_at (Calling d) = refl
no_tag_at (Failed why) = refl

-- before an association no peer is known
pub no_tag : (m : Machine) (x : Unjoined) (v : EndView) → m.life ≡ life.Unjoined x → KeepsMachine m v → None ≡ peer_tag v.phase
no_tag m x v is k = no_tag_at x ∙ ap peer_tag (ap phase_of (sym is) ∙ k.phase)

pub no_peer : (v : EndView) (reason : List ℕ) → None ≡ peer_tag v.phase → abort_answer v reason ≡ NoPeer
no_peer v reason none = ap (abort_answer_to v reason) (sym none)

pub peer_by : (v : EndView) (reason : List ℕ) (tag : ℕ) (b : Bool) → Some tag ≡ peer_tag v.phase → nat_le (size_of_packet (abort_for (item USER_ABORT reason) ∷ [])) v.configuration.limit ≡ b
    → abort_answer v reason ≡ (if b then Aborts (abort_packet v tag reason) else TooLong)
peer_by v reason tag b there fits = ap (abort_answer_to v reason) (sym there) ∙ ap (λ (x : Bool). if x then Aborts (abort_packet v tag reason) else TooLong) fits

-- by the room that a reason has, behind the headers
pub by_room : (v : EndView) (c : Configuration) (reason : List ℕ) (room : ℕ) (b : Bool) → c ≡ v.configuration → nat_le (size_alone (8 + length reason)) c.limit ≡ nat_le (length reason) room
    → nat_le (length reason) room ≡ b → nat_le (size_of_packet (abort_for (item USER_ABORT reason) ∷ [])) v.configuration.limit ≡ b
by_room v c reason room b configured exact is =
    ap (λ (n : ℕ). nat_le n v.configuration.limit) (abort_size (item USER_ABORT reason))
    ∙ (sym (ap (λ (k : Configuration). nat_le (size_alone (8 + length reason)) k.limit) configured) ∙ (exact ∙ is))

pub too_long : (n room : ℕ) → room < n → nat_le n room ≡ false
too_long n room long = grind (arith, nat_tests)

pub short_enough : (n room : ℕ) → n ≤ room → nat_le n room ≡ true
short_enough n room short = grind (arith, nat_tests)
