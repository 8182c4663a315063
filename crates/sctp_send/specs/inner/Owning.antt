-- The owners of a message, which are taken when it is queued: one for each of its fragments.
use Rattle.std.specs.Prelude.{◌≡◌, ℕ, suc, ◌+◌, ◌<◌, ◌^◌, List, [], ◌∷◌, ◌++◌, map, length, Option, None, Some}
use Rattle.std.specs.List.{All}
use Rattle.std.specs.declared.sync.Arc.{Arc}
use Rattle.std.specs.declared.alloc.Global.{Global}
use Rattle.sctp_model.specs.messages.Plan.{Part}
use Rattle.sctp_model.specs.sender.Queueing.{cut}
use Rattle.sctp_send.specs.SenderKept.{Rest}
use Rattle.sctp_send.specs.OutstandingFields.{lane_meaning, message_meaning}
use Rattle.sctp_send.specs.SenderFields.{counts_meaning, number_left}
use Rattle.sctp_send.specs.declared.kept.message.Message.{Message as MessageFields}
use Rattle.sctp_send.specs.declared.kept.track.Rest.{Rest as RestFields}
use Rattle.sctp_send.specs.declared.kept.track.Taken.{Taken}
use Rattle.sctp_send.specs.declared.kept.track.Track.{Track as TrackFields}
use Rattle.sctp_send.specs.declared.kept.waiting.Waiting.{Waiting}

-- these are owners of the same message
abbrev pub AreOf : MessageFields → List (Arc MessageFields Global) → Type 0
AreOf m xs = All (λ x. x.value ≡ m) xs

-- A message's owners from a fragment on: its own, and one for each fragment behind that. Fragments are counted in 32 bits.
pub record IsOwned (size fragment : ℕ) (m : Arc MessageFields Global) (others : List (Arc MessageFields Global)) : Type 0 where
  pub all : AreOf m.value others
  pub many : length others + suc fragment ≡ length (cut size m.value.bytes.items)
  pub few : length (cut size m.value.bytes.items) < 2 ^ 32

-- the messages that wait, without their further owners
abbrev pub messages_of : List Waiting → List (Arc MessageFields Global)
messages_of ws = map (λ w. w.message) ws

-- what is left of a message in part has its owners
abbrev pub IsRestOwned : (size : ℕ) → Option RestFields → Type 0
IsRestOwned size None = Unit {0}
IsRestOwned size (Some r) = IsOwned size r.fragment r.message r.others.items

-- the same of each stream
abbrev pub AreRestsOwned : (size : ℕ) → List TrackFields → Type 0
AreRestsOwned size ts = All (λ t. IsRestOwned size t.rest) ts

-- a fragment that its stream takes, as what was left of its message
abbrev pub taken_meaning : (size : ℕ) → Taken → Rest
taken_meaning size t = record { entry = Part (lane_meaning t.message.value) t.number t.fragment; message = Some (message_meaning size t.message.value) }

-- no owners are left behind the message's own
abbrev pub AreOthersGone : Option RestFields → Type 0
AreOthersGone None = Unit {0}
AreOthersGone (Some r) = r.others.items ≡ []

-- A stream took the next fragment of its message in part, with the last of the further owners: how it goes on, and what it took.
pub record IsTaken (old new : TrackFields) (t : Taken) : Type 0 where
  pub rest : RestFields
  pub left : RestFields
  pub before : old.rest ≡ Some rest
  pub after : new ≡ record old { rest = Some left }
  pub message : left.message ≡ rest.message
  pub others : rest.others.items ≡ left.others.items ++ t.message ∷ []
  pub next : suc rest.fragment < 2 ^ 32 → left.fragment ≡ suc rest.fragment
  pub fragment : t.fragment ≡ rest.fragment
  pub number : t.message.value ≡ rest.message.value → t.number ≡ number_left (counts_meaning old) rest
