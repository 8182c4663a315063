-- What the code notes of a message, in the words of the definitions.
use Rattle.std.specs.Prelude.{◌≡◌, ℕ, Bool, true, false, List, [], Option, None, Some}
use Rattle.sctp_dcep.specs.Content.{Content, content_of}
use Rattle.sctp_dcep.specs.Dcep.{Opens, Acknowledges, Faulty}
use Rattle.sctp_dcep.specs.Meanings.{fault_meaning}
use Rattle.sctp_channels.specs.declared.coming.After as declared
use Rattle.sctp_channels.specs.declared.coming.Told as code
use Rattle.sctp_channels.specs.declared.coming.Told.TheVariants as told
use Rattle.sctp_channels.specs.declared.said.ContentKind.{ContentKind}
use Rattle.sctp_channels.specs.declared.said.Said.{Said}
use Rattle.sctp_channels.specs.declared.said.Said.TheVariants as said
use Rattle.sctp_channels.specs.declared.stream.State.{State}
use Rattle.sctp_channels.specs.declared.stream.State.TheVariants as state
use Rattle.sctp_channels.specs.Told.{Told, Incoming, Opened, Message, Refuses, Ignores}
use Rattle.sctp_channels.specs.Meanings.{parameters_meaning, refusal_meaning, ignored_meaning}
use Rattle.sctp_channels.specs.Coming as model
use Rattle.sctp_channels.specs.Coming.{OfDcep, OfChannel, After}

-- the bytes of a message, or none
abbrev pub bytes_unless : (empty : Bool) → List ℕ → List ℕ
bytes_unless true bytes = []
bytes_unless false bytes = bytes

-- a content
abbrev pub content_as : (text empty : Bool) → List ℕ → Content
content_as text empty bytes = record { text = text; bytes = bytes_unless empty bytes }

-- one of this kind
abbrev pub kind_meaning : List ℕ → ContentKind → Content
kind_meaning bytes k = content_as k.text k.empty bytes

-- The content that a message tells on a stream in this state, if that is all that it tells, and nothing else of the stream changes.
abbrev pub content_told : State → (payload : ℕ) → List ℕ → Option Content
content_told state.Unused payload bytes = None
content_told state.Connecting payload bytes = None
content_told state.Unanswered payload bytes = content_of payload bytes
content_told state.Open payload bytes = content_of payload bytes
content_told state.Closing payload bytes = content_of payload bytes
content_told state.Refused payload bytes = None
content_told state.Silent payload bytes = None

-- what a message of these bytes says
abbrev pub said_meaning : List ℕ → Said → model.Said
said_meaning bytes (said.Open p) = OfDcep (Opens (parameters_meaning p))
said_meaning bytes said.Acknowledgement = OfDcep Acknowledges
said_meaning bytes (said.Faulty fault) = OfDcep (Faulty (fault_meaning fault))
said_meaning bytes (said.Content text empty) = OfChannel (Some (content_as text empty bytes))
said_meaning bytes said.Other = OfChannel None

-- whatever its bytes are, a message with this payload protocol identifier says so
abbrev pub SaysContent : (payload : ℕ) → Said → Type 0
SaysContent payload x = (bytes : List ℕ) → said_meaning bytes x ≡ OfChannel (content_of payload bytes)

-- what is told of a message of these bytes
abbrev pub told_meaning : List ℕ → code.Told → Told
told_meaning bytes (told.Incoming p) = Incoming (parameters_meaning p)
told_meaning bytes told.Opened = Opened
told_meaning bytes (told.Message text empty) = Message (content_as text empty bytes)
told_meaning bytes (told.Refused why) = Refuses (refusal_meaning why)
told_meaning bytes (told.Ignored why) = Ignores (ignored_meaning why)

-- and what is left
abbrev pub after_meaning : List ℕ → declared.After → After
after_meaning bytes a = record { stream = a.stream; told = told_meaning bytes a.told; taken = a.taken }
