-- What holds of the senders and the receivers of both endpoints in every world, whatever their peers send.
use Rattle.std.specs.Prelude.{◌≡◌, ◌<◌, List, Option}
use Rattle.sctp_model.specs.messages.Orderly.{Orderly}
use Rattle.sctp_model.specs.sender.Reached.{IsReached}
use Rattle.sctp_model.specs.receiver.Laws.{IsAtRest, FitsBuffer}
use Rattle.sctp_model.specs.end.EndView.{EndView, format_of}
use Rattle.sctp_model.specs.world.World.{Side, World, end_of, Setup, start}
use Rattle.sctp_model.specs.world.Events.{Event, Outcome}
use Rattle.sctp_model.specs.world.Steps.{Run}
use Rattle.sctp_model.specs.world.Premises.{IsReachable}

-- ---- senders, over every run, also of one that meets no premise

-- The sender of an endpoint is one that its calls reach, so that all laws of a sender's calls speak of it; so its plan is orderly (RFC 9260, 6.6 and 6.9;
-- RFC 8260, 2.2).
pub record IsSenderInOrder (e : EndView) : Type 0 where
  pub plan : Orderly (format_of e) e.sender.plan
  pub reached : IsReached (format_of e) e.sender

-- Each is, as far as its endpoint may put a byte into a fragment.
abbrev pub SendersAreInOrder : Type 0
SendersAreInOrder = (s : Setup) (events : List Event) (answers : List (Option Outcome)) (w : World) → Run (start s) events answers w →
    (x : Side) → 0 < (end_of w x).configuration.fragment → IsSenderInOrder (end_of w x)

-- An endpoint that is set up within the limits may; so in every world of every run that meets the premises both are.
abbrev pub BothSendersAreInOrder : Type 0
BothSendersAreInOrder = (s : Setup) (events : List Event) (w : World) → IsReachable s events w → (x : Side) → IsSenderInOrder (end_of w x)

-- ---- receivers, over every run

-- Both are at rest: all that is due was delivered, and no place is filled twice (RFC 9260, 6.6 and 6.9).
abbrev pub ReceiversAreAtRest : Type 0
ReceiversAreAtRest = (s : Setup) (events : List Event) (answers : List (Option Outcome)) (w : World) → Run (start s) events answers w →
    (x : Side) → IsAtRest (format_of (end_of w x)) (end_of w x).receiver

-- A receiver has the buffer that its endpoint is set up with, and holds no more: neither chunks kept nor messages that wait (RFC 9260, 6.2).
pub record IsWithinBuffer (e : EndView) : Type 0 where
  pub same : e.receiver.buffer ≡ e.configuration.buffer
  pub fits : FitsBuffer e.receiver

-- So does either.
abbrev pub BuffersHold : Type 0
BuffersHold = (s : Setup) (events : List Event) (answers : List (Option Outcome)) (w : World) → Run (start s) events answers w →
    (x : Side) → IsWithinBuffer (end_of w x)
