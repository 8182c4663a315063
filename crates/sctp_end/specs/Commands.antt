-- The commands: their names, which are all different, and the fields of each.
use Rattle.std.specs.Prelude.{ℕ, if◌then◌else◌, List, [], ◌∷◌, length, Option, None, Some, codes, bytes_eq}
use Rattle.sctp_end.specs.Fields.{Field, ANumber, ATag, AKind, AnUntil, SomeBytes, Value}
use Rattle.sctp_end.specs.declared.command.Command.{Command}
use Rattle.sctp_end.specs.declared.command.Command.TheVariants.{Connect, Draw, At, Packet, Build, Send, Abandon, Acknowledged, Abandoned, Take, Reset, Resets, Shutdown, Abort, Next, State, Held, Reassembly, Status, Path, Counts}
use Rattle.sctp_end.specs.declared.call.Call.{Call}
use Rattle.sctp_end.specs.declared.call.Call.TheVariants as call
use Rattle.sctp_values.specs.declared.kind.Kind.{Kind}
use Rattle.sctp_words.specs.Fields.{Values}

-- all commands
abbrev pub commands : List Command
commands =
    Connect ∷ Draw ∷ At ∷ Packet ∷ Build ∷ Send ∷ Abandon ∷ Acknowledged ∷ Abandoned ∷ Take ∷ Reset ∷ Resets ∷ Shutdown ∷ Abort ∷ Next ∷ State ∷ Held ∷ Reassembly
    ∷ Status ∷ Path ∷ Counts ∷ []

-- the word that a command is
abbrev pub name_of : Command → List ℕ
name_of Connect = codes "connect"
name_of Draw = codes "draw"
name_of At = codes "at"
name_of Packet = codes "packet"
name_of Build = codes "build"
name_of Send = codes "send"
name_of Abandon = codes "abandon"
name_of Acknowledged = codes "acknowledged"
name_of Abandoned = codes "abandoned"
name_of Take = codes "take"
name_of Reset = codes "reset"
name_of Resets = codes "resets"
name_of Shutdown = codes "shutdown"
name_of Abort = codes "abort"
name_of Next = codes "next"
name_of State = codes "state"
name_of Held = codes "held"
name_of Reassembly = codes "reassembly"
name_of Status = codes "status"
name_of Path = codes "path"
name_of Counts = codes "counts"

-- TAG TSN
abbrev pub draw_fields : List Field
draw_fields = ATag ∷ ANumber 32 ∷ []

-- K
abbrev pub ticket_fields : List Field
ticket_fields = ANumber 64 ∷ []

-- connect TAG TSN; draw TAG TSN; at T; packet HEX; build; send STREAM KIND ID UNTIL HEX; abandon K; acknowledged K; abandoned K; take STREAM;
-- reset STREAM; resets; shutdown; abort HEX; next; state; held; reassembly; status; path; counts
abbrev pub fields_of : Command → List Field
fields_of Connect = draw_fields
fields_of Draw = draw_fields
fields_of At = ANumber 64 ∷ []
fields_of Packet = SomeBytes ∷ []
fields_of Build = []
fields_of Send = ANumber 16 ∷ AKind ∷ ANumber 32 ∷ AnUntil ∷ SomeBytes ∷ []
fields_of Abandon = ticket_fields
fields_of Acknowledged = ticket_fields
fields_of Abandoned = ticket_fields
fields_of Take = ANumber 16 ∷ []
fields_of Reset = ANumber 16 ∷ []
fields_of Resets = []
fields_of Shutdown = []
fields_of Abort = SomeBytes ∷ []
fields_of Next = []
fields_of State = []
fields_of Held = []
fields_of Reassembly = []
fields_of Status = []
fields_of Path = []
fields_of Counts = []

-- the number of words after a command's name
abbrev pub arguments_of : Command → ℕ
arguments_of c = length (fields_of c)

-- the call that sends a message, with a limit of retransmissions or without
abbrev pub send_call : (stream : ℕ) → Kind → (payload : ℕ) → (until limit : Option ℕ) → List ℕ → Call
send_call stream kind payload until None bytes = call.Send stream kind payload until bytes
send_call stream kind payload until (Some n) bytes = call.SendWithMaxRetransmits stream kind payload until n bytes

-- What a command with these values asks for.
abbrev pub meaning_of : (c : Command) → Values Value (fields_of c) → Call
meaning_of Connect (tag, (tsn, rest)) = call.Connect (record { tag = tag; tsn = tsn })
meaning_of Draw (tag, (tsn, rest)) = call.NewDraw (record { tag = tag; tsn = tsn })
meaning_of At (moment, rest) = call.At moment
meaning_of Packet (bytes, rest) = call.Packet bytes
meaning_of Build rest = call.Build
meaning_of Send (stream, (kind, (payload, ((until, limit), (bytes, rest))))) = send_call stream kind payload until limit bytes
meaning_of Abandon (ticket, rest) = call.Abandon ticket
meaning_of Acknowledged (ticket, rest) = call.Acknowledged ticket
meaning_of Abandoned (ticket, rest) = call.Abandoned ticket
meaning_of Take (stream, rest) = call.Take stream
meaning_of Reset (stream, rest) = call.Reset stream
meaning_of Resets rest = call.Resets
meaning_of Shutdown rest = call.Shutdown
meaning_of Abort (bytes, rest) = call.Abort bytes
meaning_of Next rest = call.Next
meaning_of State rest = call.State
meaning_of Held rest = call.Held
meaning_of Reassembly rest = call.Reassembly
meaning_of Status rest = call.Status
meaning_of Path rest = call.Path
meaning_of Counts rest = call.Counts

-- the first of these commands with this name
abbrev pub first_named : List ℕ → List Command → Option Command
first_named word [] = None
first_named word (c ∷ cs) = if bytes_eq word (name_of c) then Some c else first_named word cs

-- the command of this name
abbrev pub command_named : List ℕ → Option Command
command_named word = first_named word commands
