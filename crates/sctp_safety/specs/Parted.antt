-- A request for the reset of a stream parts the messages of the stream: those that `send` accepted before it from those accepted later (RFC 6525, 5.1 and 5.2).
use Rattle.std.specs.Prelude.{◌≡◌, ℕ, ◌<◌, true, List, ◌++◌, Option, Some}
use Rattle.sctp_model.specs.numbers.Lists.{Has}
use Rattle.sctp_model.specs.messages.Plan.{Message, Part, entry_at, message_at}
use Rattle.sctp_model.specs.sender.Outgoing.{Request, lists}
use Rattle.sctp_model.specs.sender.SenderView.{SenderView}
use Rattle.sctp_model.specs.receiver.ReceiverView.{Handed, ReceiverView, handed}
use Rattle.sctp_model.specs.end.Configured.{IsConfiguration}
use Rattle.sctp_model.specs.world.World.{Side, other, World, end_of, Setup, configuration_of, start}
use Rattle.sctp_model.specs.world.Events.{Event, Outcome}
use Rattle.sctp_model.specs.world.Steps.{PassesThrough, last_of}
use Rattle.sctp_model.specs.world.Aged.{Aged}
use Rattle.sctp_model.specs.world.Premises.{FreshAndUnforged}

-- the message that was delivered is one with a later ticket than this
pub record IsLater (a : SenderView) (ticket : ℕ) (h : Handed) : Type 0 where
  pub number : ℕ
  pub message : Message
  pub named : message_at a.plan h.lane number ≡ Some message
  pub first : entry_at a.plan h.first ≡ Some (Part h.lane number 0)
  pub later : ticket < message.ticket

-- what was delivered on a stream between two views of a receiver: later messages alone
pub record HandsLaterOnes (a : SenderView) (ticket : ℕ) (r t : ReceiverView) (stream : ℕ) : Type 0 where
  pub more : List Handed
  pub behind : handed t stream ≡ handed r stream ++ more
  pub each : (h : Handed) → Has more h → IsLater a ticket h

-- this endpoint's request waits for its answer, and names the stream
pub record Asks (a : SenderView) (stream : ℕ) : Type 0 where
  pub request : Request
  pub waits : a.resets.pending ≡ Some request
  pub named : lists request.streams stream ≡ true

-- In every run that meets the premises, from a world on in which a request for a stream waits for its answer, only messages that are accepted after it are
-- delivered on that stream.
abbrev pub RequestsPartMessages : Type 0
RequestsPartMessages = (s : Setup) (before events : List Event) (answers others : List (Option Outcome)) (past worlds : List World) →
    ((x : Side) → IsConfiguration (configuration_of s x)) → PassesThrough (start s) before answers past →
    PassesThrough (last_of (start s) past) events others worlds →
    FreshAndUnforged s.sealing (before ++ events) → Aged (start s) (before ++ events) (past ++ worlds) → (x : Side) (stream : ℕ) →
    Asks (end_of (last_of (start s) past) x).sender stream →
    HandsLaterOnes (end_of (last_of (last_of (start s) past) worlds) x).sender (end_of (last_of (start s) past) x).sender.tickets
    (end_of (last_of (start s) past) (other x)).receiver (end_of (last_of (last_of (start s) past) worlds) (other x)).receiver stream
