use Rattle.std.proofs.Common.{◌∙◌, option_map, ap, sym}
use Rattle.sctp_model.specs.end.Building.{HeartbeatSlot}
use Rattle.sctp_association.specs.DueStands.{info_bytes}
use Rattle.sctp_association.proofs.PutLemmas.{not_due, none_left}
use Rattle.sctp_association.proofs.build.replying.put_heartbeat.Goals as goal

pub returns-in-None : goal.returns-in-None
returns-in-None c = λ e due packet.
    not_due HeartbeatSlot e c.args.packing.now (none_left c.args.packing.now.marks.heartbeat e.due.heartbeat (sym due.heartbeat ∙ ap (option_map info_bytes) c.in-None.is)) packet

pub returns-in-Some : goal.returns-in-Some
returns-in-Some c = λ e due packet. c.put_info.ensures e (sym due.heartbeat ∙ ap (option_map info_bytes) c.in-Some.is) packet
