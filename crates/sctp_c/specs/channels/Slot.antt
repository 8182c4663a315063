-- What a slot of channels owns: nothing, or the block of what a handle holds.
use Rattle.std.specs.Prelude.{Option, None, Some}
use base.Fml.{Fml, ftrue}
use denote.RawPtr.{Ptr}
use Rattle.std.specs.Box.Ownership.{box_owns}
use Rattle.std.specs.declared.alloc.Global.{Global}
use Rattle.std.specs.contracts.impls.GlobalAllocator.TheImpl.{ghosts}
use Rattle.sctp_c.specs.contracts.channels.held.Held as held

-- nothing, or the channels at this address and the right to free their block
abbrev pub slot_owns : Global → Ptr → Option (held.the_row).Denot → Fml
slot_owns a p None = ftrue
slot_owns a p (Some h) = box_owns (ghosts.dealloc_token a) held.the_row p h
