use Rattle.std.proofs.Common.{◌∙◌, sym, ap}
use Rattle.sctp_model.specs.wire.Packet.{Packet}
use Rattle.std.specs.Prelude.{Option}
use Rattle.sctp_endpoint.specs.Packets.{abort_said}
use Rattle.sctp_endpoint.proofs.HandlingLemmas.{reads_none, reads_one}
use Rattle.sctp_endpoint.proofs.packets.abort_cause.Goals as goal

pub returns-in-Ok : goal.returns-in-Ok
returns-in-Ok c = λ o read.
    c.first_abort.ensures ∙ sym (ap (λ (x : Option Packet). abort_said x) (reads_one _ o _ read c.in-Ok.ensures.packet c.in-Ok.ensures.fault))

pub returns-in-Err : goal.returns-in-Err
returns-in-Err c = λ o read. sym (ap (λ (x : Option Packet). abort_said x) (reads_none _ o read c.in-Err.ensures.packet))
