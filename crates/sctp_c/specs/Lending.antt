-- What a slot is once the borrow of its endpoint has ended.
use Rattle.std.specs.Prelude.{Some}
use Rattle.std.specs.Borrow.{Lends, MutBor, Fml}
use Rattle.sctp_endpoint.specs.contracts.endpoint.Endpoint as endpoint
use Rattle.sctp_endpoint.specs.declared.endpoint.Endpoint.{Endpoint}
use Rattle.sctp_c.specs.contracts.slot.Slot as slot
use Rattle.sctp_c.specs.declared.slot.Slot.{Slot}

-- this slot, with this endpoint in it
abbrev pub with_endpoint : Slot → Endpoint → Slot
with_endpoint s e = record s { endpoint = Some e }

-- s ends with the last value behind r in it, which is its endpoint
abbrev pub LendsEndpoint : MutBor Slot → MutBor Endpoint → Fml
LendsEndpoint s r = Lends slot.the_row endpoint.the_row s r (with_endpoint s.now)
