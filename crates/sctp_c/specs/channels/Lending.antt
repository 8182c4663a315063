-- What a slot of channels is once the borrow of them has ended.
use Rattle.std.specs.Prelude.{Some}
use Rattle.std.specs.Borrow.{Lends, MutBor, Fml}
use Rattle.sctp_c.specs.contracts.channels.held.Held as held
use Rattle.sctp_c.specs.declared.channels.held.Held.{Held}
use Rattle.sctp_c.specs.contracts.channels.slot.ChannelsSlot as slot
use Rattle.sctp_c.specs.declared.channels.slot.ChannelsSlot.{ChannelsSlot}

-- this slot, with these channels in it
abbrev pub with_held : ChannelsSlot → Held → ChannelsSlot
with_held s h = record s { held = Some h }

-- s ends with the last value behind r in it, which is its channels
abbrev pub LendsHeld : MutBor ChannelsSlot → MutBor Held → Fml
LendsHeld s r = Lends slot.the_row held.the_row s r (with_held s.now)
