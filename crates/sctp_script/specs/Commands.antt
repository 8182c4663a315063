-- The commands of a script: their names and their fields. No two have the same name and number of words: only `pair` has two forms.
use Rattle.std.specs.Prelude.{ℕ, ◌==◌, Bool, true, false, if◌then◌else◌, List, [], ◌∷◌, ◌++◌, length, Option, None, Some, codes, bytes_eq}
use Rattle.sctp_script.specs.Fields.{Field, ASide, ANumber, ATag, AMode, ADelay, AKind, AnUntil, SomeBytes}
use Rattle.sctp_script.specs.declared.command.Command.{Command}
use Rattle.sctp_script.specs.declared.command.Command.TheVariants.{Pair, DelayedPair, Open, At, Draw, Connect, Build, Deliver, Foreign, Send, Abandon, Take, Shutdown, Abort}

-- all commands
abbrev pub commands : List Command
commands = Pair ∷ DelayedPair ∷ Open ∷ At ∷ Draw ∷ Connect ∷ Build ∷ Deliver ∷ Foreign ∷ Send ∷ Abandon ∷ Take ∷ Shutdown ∷ Abort ∷ []

-- the word that a command is
abbrev pub name_of : Command → List ℕ
name_of Pair = codes "pair"
name_of DelayedPair = codes "pair"
name_of Open = codes "open"
name_of At = codes "at"
name_of Draw = codes "draw"
name_of Connect = codes "connect"
name_of Build = codes "build"
name_of Deliver = codes "deliver"
name_of Foreign = codes "foreign"
name_of Send = codes "send"
name_of Abandon = codes "abandon"
name_of Take = codes "take"
name_of Shutdown = codes "shutdown"
name_of Abort = codes "abort"

-- TAG TSN
abbrev pub draw_fields : List Field
draw_fields = ATag ∷ ANumber 32 ∷ []

-- LIMIT FRAGMENT BUFFER STREAMS MODE
abbrev pub pair_fields : List Field
pair_fields = ANumber 16 ∷ ANumber 16 ∷ ANumber 32 ∷ ANumber 16 ∷ AMode ∷ []

-- pair LIMIT FRAGMENT BUFFER STREAMS MODE; the same and delay; open; at T; draw TAG TSN; connect TAG TSN; build X; deliver X N; foreign X HEX;
-- send X STREAM KIND ID UNTIL HEX; abandon X K; take X STREAM; shutdown X; abort X HEX
abbrev pub fields_of : Command → List Field
fields_of Pair = pair_fields
fields_of DelayedPair = pair_fields ++ ADelay ∷ []
fields_of Open = []
fields_of At = ANumber 64 ∷ []
fields_of Draw = draw_fields
fields_of Connect = draw_fields
fields_of Build = ASide ∷ []
fields_of Deliver = ASide ∷ ANumber 32 ∷ []
fields_of Foreign = ASide ∷ SomeBytes ∷ []
fields_of Send = ASide ∷ ANumber 16 ∷ AKind ∷ ANumber 32 ∷ AnUntil ∷ SomeBytes ∷ []
fields_of Abandon = ASide ∷ ANumber 64 ∷ []
fields_of Take = ASide ∷ ANumber 16 ∷ []
fields_of Shutdown = ASide ∷ []
fields_of Abort = ASide ∷ SomeBytes ∷ []

-- the number of words after a command's name
abbrev pub arguments_of : Command → ℕ
arguments_of c = length (fields_of c)

-- a command's form for this number of words
abbrev pub form_of : Command → ℕ → Command
form_of Pair n = if n == 6 then DelayedPair else Pair
form_of DelayedPair n = if n == 6 then DelayedPair else Pair
form_of c n = c

-- the first of these commands with this name
abbrev pub first_named : List ℕ → List Command → Option Command
first_named word [] = None
first_named word (c ∷ cs) = if bytes_eq word (name_of c) then Some c else first_named word cs

-- the command of this name; of `pair` the shorter form
abbrev pub command_named : List ℕ → Option Command
command_named word = first_named word commands

-- the command that precedes all others, in either form
abbrev pub is_pair : Command → Bool
is_pair Pair = true
is_pair DelayedPair = true
is_pair _ = false

-- it has a field of bytes
abbrev pub has_bytes : Command → Bool
has_bytes Foreign = true
has_bytes Send = true
has_bytes Abort = true
has_bytes _ = false
