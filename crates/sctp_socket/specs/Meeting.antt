-- What a socket does with an INIT, and with a COOKIE ECHO whose cookie opens, by what it has with the peer that they come from (RFC 9260, 5.2.1 to 5.2.4).
use Rattle.std.specs.Prelude.{ℕ, nat_lt, nat_le, Bool, false, ◌||◌, ◌==◌, if◌then◌else◌, Option, Some, None}
use Rattle.sctp_model.specs.end.Sealing.{Body}
use Rattle.sctp_socket.specs.declared.meeting.Standing.{Standing}
use Rattle.sctp_socket.specs.declared.meeting.Standing.TheVariants.{Apart, Called, Echoed, Joined}
use Rattle.sctp_socket.specs.declared.meeting.Reply.{Reply}
use Rattle.sctp_socket.specs.declared.meeting.Reply.TheVariants.{Silent, UnderOwn, UnderFresh}
use Rattle.sctp_socket.specs.declared.meeting.Meeting.{Meeting}
use Rattle.sctp_socket.specs.declared.meeting.Meeting.TheVariants.{Ignored, Begins, CallsAgain}

-- made at or before the bar, if there is one
abbrev pub is_barred : (bar : Option ℕ) → (made : ℕ) → Bool
is_barred None made = false
is_barred (Some m) made = nat_le made m

-- how an INIT with this initiate tag is answered: a caller shows its own tag (5.2.1); one that echoes is silent to the call that it answers with its echo
abbrev pub reply_from : Standing → (tag : ℕ) → Reply
reply_from Apart tag = UnderFresh
reply_from (Called own) tag = UnderOwn
reply_from (Echoed own peer) tag = if tag == peer then Silent else UnderFresh
reply_from (Joined own peer) tag = UnderFresh

-- an INIT at this time; one whose cookie would be barred isn't answered
abbrev pub reply : Standing → (bar : Option ℕ) → (now tag : ℕ) → Reply
reply x bar now tag = if is_barred bar now then Silent else reply_from x tag

-- both echo to each other: the call with the higher initiate tag wins
abbrev pub crossing : (own caller : ℕ) → Meeting
crossing own caller = if nat_lt own caller then Begins else Ignored

-- under this side's own tag: the association's own cookie is handled by its endpoint; of another caller, which answered nothing, it says that the peer called anew
abbrev pub called_anew : (peer caller : ℕ) → Meeting
called_anew peer caller = if caller == peer then Ignored else CallsAgain

-- what a cookie does of a listener with the tag `listener`, for a caller with the tag `caller`
abbrev pub meets_from : Standing → (listener caller : ℕ) → Meeting
meets_from Apart listener caller = Begins
meets_from (Called own) listener caller = if listener == own.tag then Begins else Ignored
meets_from (Echoed own peer) listener caller =
    if caller == peer then crossing own caller
    else if listener == own then CallsAgain
    else Begins
meets_from (Joined own peer) listener caller = if listener == own then called_anew peer caller else Begins

-- A cookie that opens. One under a tag that another association of the socket has, or had, does nothing (`served`), so that no tag of this side serves two associations.
abbrev pub meets : Standing → (bar : Option ℕ) → (served : Bool) → Body → Meeting
meets x bar served b = if is_barred bar b.made || served then Ignored else meets_from x b.listener.tag b.caller.tag
