use Rattle.std.proofs.Common.{◌∙◌, ℕ, ap}
use Rattle.std.specs.Prelude.{Option, unwrap_or}
use Rattle.sctp_model.specs.end.EndView.{Configuration}
use Rattle.sctp_packet.specs.Draft.{Draft}
use Rattle.sctp_association.specs.MachineStands.{MachineStands}
use Rattle.sctp_association.proofs.BuildLemmas.{tag_by}
use Rattle.sctp_association.proofs.machine.Machine.empty_packet.Goals as goal

pub returns-clause-empty : goal.returns-clause-empty
unfolding MachineStands
returns-clause-empty c = λ v before.
    let stands = c.take_room-room.ensures.stands v before in
    let d = c.in_room.ensures in
    record {
      options = stands.options;
      limit = ap (λ (w : Draft). w.limit) d ∙ (c.limit.ensures.exact ∙ ap (λ (k : Configuration). k.limit) stands.configuration);
      source = ap (λ (w : Draft). w.source) d ∙ (c.own_port.ensures.exact ∙ ap (λ (k : Configuration). k.own_port) stands.configuration);
      destination = ap (λ (w : Draft). w.destination) d ∙ (c.peer_port.ensures.exact ∙ ap (λ (k : Configuration). k.peer_port) stands.configuration);
      tag = ap (λ (w : Draft). w.tag) d ∙ (c.unwrap_or-tag.ensures ∙ (ap (λ (o : Option ℕ). unwrap_or o 0) (c.peer_tag.ensures v stands) ∙ tag_by v.phase));
      chunks = ap (λ (w : Draft). w.chunks) d;
    }
