-- Where an end stands in its life, by its name in the machine (RFC 9260, 4).
use Rattle.std.specs.Prelude.{Bool, true, false}
use Rattle.sctp_model.specs.end.EndView as model
use Rattle.sctp_terms.specs.Meanings.{end_meaning}
use Rattle.sctp_association.specs.StageMeans.{tags_meaning, stage_meaning}
use Rattle.sctp_association.specs.declared.state.stage.Tags.{Tags}
use Rattle.sctp_association.specs.declared.state.life.Progress.{Progress}
use Rattle.sctp_association.specs.declared.state.life.Progress.TheVariants.{Echoing, Open, Over}
use Rattle.sctp_association.specs.declared.state.life.Unjoined.{Unjoined}
use Rattle.sctp_association.specs.declared.state.life.Unjoined.TheVariants.{Idle, Listening, Calling, Failed}
use Rattle.sctp_association.specs.declared.state.life.Life.{Life}
use Rattle.sctp_association.specs.declared.state.life.Life.TheVariants as life

-- the phase of an association with these tags
abbrev pub phase_in : Tags → Progress → model.Phase
phase_in t (Echoing cookie) = model.Echoing (tags_meaning t) cookie.bytes.items
phase_in t (Open g) = model.Open (tags_meaning t) (stage_meaning g)
phase_in t (Over why) = model.Over (end_meaning why)

-- the phase of an end that never had an association
abbrev pub phase_unjoined : Unjoined → model.Phase
phase_unjoined Idle = model.Idle
phase_unjoined Listening = model.Listening
phase_unjoined (Calling d) = model.Calling d
phase_unjoined (Failed why) = model.Over (end_meaning why)

-- the phase of an end
abbrev pub phase_of : Life → model.Phase
phase_of (life.Unjoined x) = phase_unjoined x
phase_of (life.Joined a) = phase_in a.tags a.progress

-- nothing happened to it yet
abbrev pub is_idle : Life → Bool
is_idle (life.Unjoined Idle) = true
is_idle (life.Unjoined Listening) = false
is_idle (life.Unjoined (Calling d)) = false
is_idle (life.Unjoined (Failed why)) = false
is_idle (life.Joined a) = false

-- the listener, while there was no association
abbrev pub is_listening : model.Phase → Bool
is_listening model.Listening = true
is_listening h = false
