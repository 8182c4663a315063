-- What a chunk left, in terms of a view and of the rows for it (RFC 9260, 4).
use Rattle.std.specs.Prelude.{◌≤◌, length}
use Rattle.sctp_model.specs.wire.Packet.{Packet}
use Rattle.sctp_model.specs.end.EndView.{EndView}
use Rattle.sctp_model.specs.end.PeerFaults as model
use Rattle.sctp_terms.specs.Meanings.{reason_code}
use Rattle.sctp_packet.specs.PacketBytes.{WritesPacket}
use Rattle.sctp_association.specs.MachineStands.{MachineStands}
use Rattle.sctp_association.specs.declared.machine.Machine.{Machine}
use Rattle.sctp_endpoint.specs.declared.after.After.{After}
use Rattle.sctp_endpoint.specs.declared.after.After.TheVariants.{GoesOn, Acknowledges, Ends, PassedOver, Replies, Drops}

-- What the code returned is what one of the rows leaves, and the machine represents the view that it leaves. An answer is within the packet limit.
abbrev pub Left : After → EndView → (model.After → Type 0) → Machine → Type 0
Left GoesOn v acts m = (w : EndView) × acts (model.GoesOn model.Unnoted w) × MachineStands m w
Left (Acknowledges is_data at_once) v acts m = (w : EndView) × acts (model.GoesOn (model.ToAcknowledge is_data at_once) w) × MachineStands m w
Left Ends v acts m = (w : EndView) × acts (model.Ends w) × MachineStands m w
Left PassedOver v acts m = acts model.PassedOver × MachineStands m v
Left (Replies bytes) v acts m = (w : EndView) × (p : Packet) × acts (model.Replies w p) × WritesPacket bytes.items p × (length bytes.items ≤ v.configuration.limit) × MachineStands m w
Left (Drops reason) v acts m = acts (model.Drops (reason_code reason)) × MachineStands m v
