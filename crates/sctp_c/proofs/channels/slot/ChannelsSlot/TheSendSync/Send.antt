-- A slot may go to another thread, since what it holds and its block may.
use mir.Raw.{raw}
use base.Shift.{Keyless}
use denote.Memory.{lone}
use denote.RawPtr.{Ptr}
use denote.Struct.Struct.{exits_of}
use denote.Struct.Owning.{shape, fields, to}
use denote.Param.Send.{IsSend, AllSend, owning_send, struct_send, sendable}
use Rattle.std.proofs.Common.{Option, None, Some}
use Rattle.std.proofs.Crossing as heap
use Rattle.std.specs.declared.alloc.Global.{Global}
use Rattle.std_alloc.proofs.SendSync.{quiet, lies}
use Rattle.std_heap.proofs.Global.TheSendSync as handle
use Rattle.sctp_c.specs.contracts.channels.held.Held as held
use Rattle.sctp_c.proofs.channels.held.Held.TheSendSync.{the_send}
use Rattle.sctp_c.specs.channels.Slot.{slot_owns}
use Rattle.sctp_c.specs.contracts.channels.slot.ChannelsSlot.{the_row, the_type}

owned : (a : Global) (p : Ptr) (e : Option (held.the_row).Denot) → Keyless (slot_owns a p e)
owned a p None = tt
owned a p (Some x) = (lies held.the_row the_send p x, heap.frees.frees a (raw (lone (held.the_row).mir)) p)

pub send : IsSend the_row
send =
    let all : AllSend (fields the_type) = (search sendable, (handle.the_field_send, tt)) in
    owning_send the_type all (λ d. owned d.alloc d.at d.held) (λ k. quiet (to the_type) (exits_of k (fields the_type)) ((struct_send (shape the_type) all).leaving k))
