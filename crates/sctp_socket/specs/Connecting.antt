-- A call, and an association that begins (RFC 9260, 5.1 and 11.1.2; RFC 6458, 3).
use Rattle.std.specs.Prelude.{◌≡◌, ℕ, ◌==◌, Bool, true, false, if◌then◌else◌, Option, Some, None, Result, Ok, Err}
use Rattle.sctp_model.specs.end.EndView.{Draw}
use Rattle.sctp_socket.specs.SocketView.{SocketView, at_time, begun_with, is_taken, slot_at, slot_called, standing_of}
use Rattle.sctp_socket.specs.declared.peer.Peer.{Peer}
use Rattle.sctp_socket.specs.declared.meeting.Standing.{Standing}
use Rattle.sctp_socket.specs.declared.meeting.Standing.TheVariants.{Apart, Called, Echoed, Joined}
use Rattle.sctp_socket.specs.declared.calling.CallFault.{CallFault}
use Rattle.sctp_socket.specs.declared.calling.CallFault.TheVariants.{Port, Exists, Full, Tag, NoMemory}

-- there is an association, or a call
abbrev pub is_with : Standing → Bool
is_with Apart = false
is_with (Called d) = true
is_with (Echoed own peer) = true
is_with (Joined own peer) = true

-- why a call to this peer with these random values is refused: the first of these
abbrev pub call_fault : SocketView → Peer → Draw → Option CallFault
call_fault v p d =
    if p.port == 0 then Some Port
    else if is_with (standing_of (slot_at v (v.latest p))) then Some Exists
    else if v.room == 0 then Some Full
    else if is_taken v d.tag None then Some Tag
    else None

-- The number of the call, or the fault. That an allocation failed is answered only if nothing else is wrong.
abbrev pub CallAnswers : SocketView → Peer → Draw → Result ℕ CallFault → Type 0
CallAnswers v p d (Ok number) = (call_fault v p d ≡ None) × (number ≡ v.next)
CallAnswers v p d (Err NoMemory) = call_fault v p d ≡ None
CallAnswers v p d (Err Port) = call_fault v p d ≡ Some Port
CallAnswers v p d (Err Exists) = call_fault v p d ≡ Some Exists
CallAnswers v p d (Err Full) = call_fault v p d ≡ Some Full
CallAnswers v p d (Err Tag) = call_fault v p d ≡ Some Tag

-- the socket that has called at this time
abbrev pub called_at : SocketView → (now : ℕ) → Peer → Draw → SocketView
called_at v now p d = begun_with (slot_called v.configuration p (at_time v now).moment d) (at_time v now)

-- A refused call leaves it as it is.
abbrev pub call_leaves : SocketView → (now : ℕ) → Peer → Draw → Result ℕ CallFault → SocketView
call_leaves v now p d (Ok number) = called_at v now p d
call_leaves v now p d (Err why) = v
