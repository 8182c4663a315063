-- Which session stands for what between two lines, and what it is after a call.
use Rattle.sctp_model.specs.end.EndView.{EndView}
use Rattle.sctp_endpoint.specs.Counted.{counted}
use Rattle.sctp_endpoint.specs.EndpointStands.{EndpointStands}
use Rattle.sctp_end.specs.declared.call.Call.{Call}
use Rattle.sctp_end.specs.declared.reply.Reply.{Reply}
use Rattle.sctp_end.specs.declared.session.Session.{Session}
use Rattle.sctp_end.specs.Performing.{Standing, Performs}

-- the endpoint as this view has it, with what it counted, and the session's random values and time
abbrev pub standing : Session → EndView → Standing
standing s v = record { view = v; counts = counted s.endpoint; draw = s.draw; now = s.moment }

-- A session was asked for this, whatever view its endpoint stands for, and answered so.
abbrev pub Performed : Session → Call → Reply → Session → Type 0
Performed old c r new =
    (v : EndView) → EndpointStands old.endpoint v → (w : EndView) × Performs (standing old v) c r (standing new w) × EndpointStands new.endpoint w
