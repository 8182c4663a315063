-- What an end answers to abort, in terms of its view, and what that leaves (RFC 9260, 11.1.4).
use Rattle.std.specs.Prelude.{◌≡◌, ℕ, List, Result, Ok, Err}
use Rattle.std.specs.declared.vec.Vec.{Vec}
use Rattle.std.specs.declared.alloc.Global.{Global}
use Rattle.sctp_model.specs.wire.Packet.{Packet}
use Rattle.sctp_model.specs.end.EndView.{EndView}
use Rattle.sctp_model.specs.end.UserCalls.{Aborts, NoPeer, abort_answer, abort_leaves}
use Rattle.sctp_model.specs.end.UserCalls as model
use Rattle.sctp_packet.specs.PacketBytes.{WritesPacket}
use Rattle.sctp_terms.specs.declared.calls.AbortFault.{AbortFault}
use Rattle.sctp_terms.specs.declared.calls.AbortFault.TheVariants.{State, TooLong, NoMemory}

-- A packet is the machine's answer, a refusal the machine's; want of memory is told only where it gives a packet.
abbrev pub AbortAnswers : EndView → (reason : List ℕ) → Result (Vec ℕ Global) AbortFault → Type 0
AbortAnswers v reason (Ok bytes) = (p : Packet) × (abort_answer v reason ≡ Aborts p) × WritesPacket bytes.items p
AbortAnswers v reason (Err State) = abort_answer v reason ≡ NoPeer
AbortAnswers v reason (Err TooLong) = abort_answer v reason ≡ model.TooLong
AbortAnswers v reason (Err NoMemory) = (p : Packet) × (abort_answer v reason ≡ Aborts p)

-- only a packet leaves another view
abbrev pub aborted_view : EndView → (reason : List ℕ) → Result (Vec ℕ Global) AbortFault → EndView
aborted_view v reason (Ok bytes) = abort_leaves (abort_answer v reason) v
aborted_view v reason (Err why) = v
