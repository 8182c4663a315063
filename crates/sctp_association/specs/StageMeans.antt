-- The states with both ends, and the tags, by their names in the machine (RFC 9260, 4 and 8.5).
use Rattle.sctp_model.specs.end.EndView as model
use Rattle.sctp_association.specs.declared.state.stage.Tags.{Tags}
use Rattle.sctp_association.specs.declared.state.stage.Stage.{Stage}
use Rattle.sctp_association.specs.declared.state.stage.Stage.TheVariants.{Established, ShutdownPending, ShutdownSent, ShutdownReceived, ShutdownAckSent}

-- both tags
abbrev pub tags_meaning : Tags → model.Tags
tags_meaning t = record { own = t.own; peer = t.peer }

-- how far it has come
abbrev pub stage_meaning : Stage → model.Stage
stage_meaning Established = model.Established
stage_meaning ShutdownPending = model.ShutdownPending
stage_meaning ShutdownSent = model.ShutdownSent
stage_meaning ShutdownReceived = model.ShutdownReceived
stage_meaning ShutdownAckSent = model.ShutdownAckSent
