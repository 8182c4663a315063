-- AGED: how long the network may keep a packet, measured in TSNs. TSNs wrap around, so one that arrived too late could be read as another (RFC 9260, 2.6).
use Rattle.std.specs.Prelude.{◌≡◌, ℕ, ◌+◌, ◌<◌, List, ◌∷◌, length, Some}
use Rattle.sctp_model.specs.numbers.Limits.{AGE_LIMIT}
use Rattle.sctp_model.specs.numbers.Lists.{item_at}
use Rattle.sctp_model.specs.wire.Packet.{Packet}
use Rattle.sctp_model.specs.world.World.{Side, World, end_of, bag_of}
use Rattle.sctp_model.specs.world.Events.{Event, Deliver}

-- the TSNs that an endpoint has assigned so far (RFC 9260, 6.1; RFC 3758, 3.5)
abbrev pub assigned_tsns : World → Side → ℕ
assigned_tsns w x = length (end_of w x).sender.plan.entries

-- What arrives was in its bag already in an earlier world, and since then neither endpoint has assigned AGE_LIMIT more TSNs (RFC 9260, 2.6). Whether it
-- arrives whole or cut short is no matter.
abbrev pub ComesInTime : (earlier now : World) → Event → Type 0
ComesInTime u w (Deliver s n) = (p : Packet) → item_at (bag_of u s) n ≡ Some p → (x : Side) → assigned_tsns w x < assigned_tsns u x + AGE_LIMIT
ComesInTime u w e = Unit {0}

-- so it is of each packet of an earlier world that arrives in one of these steps
abbrev pub AllComeInTime : (earlier now : World) → List Event → List World → Type 0
AllComeInTime u w (e ∷ es) (v ∷ vs) = ComesInTime u w e × AllComeInTime u v es vs
AllComeInTime u w es vs = Unit {0}

-- AGED, of a run with its worlds: so it is from each of them on. The first world that has a packet is the one that its building left; the others have
-- assigned no fewer, so that what is asked of all of them is asked of the first: TSNs are counted since the packet was built.
abbrev pub Aged : World → List Event → List World → Type 0
Aged w (e ∷ es) (v ∷ vs) = AllComeInTime w w (e ∷ es) (v ∷ vs) × Aged v es vs
Aged w es vs = Unit {0}
