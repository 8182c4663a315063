-- What may be wanted of a pair.
use Rattle.std.specs.Prelude.{◌<◌, ◌^◌}
use Rattle.sctp_model.specs.numbers.Numbers.{AreBytes}
use Rattle.sctp_model.specs.end.EndView.{IsDraw}
use Rattle.sctp_model.specs.world.Events.{OpenBoth, Later, At, Drawing, Connect, Foreign}
use Rattle.sctp_events.specs.Events.{Wanted, Happens, BringsBytes}

-- Tags aren't 0, and a time has 64 bits. A third party's packet is given as bytes, never as what they read as.
abbrev pub CanBe : Wanted → Type 0
CanBe (Happens (OpenBoth x y)) = IsDraw x × IsDraw y
CanBe (Happens (Later x m)) = m < 2 ^ 64
CanBe (Happens (At m)) = m < 2 ^ 64
CanBe (Happens (Drawing d)) = IsDraw d
CanBe (Happens (Connect d)) = IsDraw d
CanBe (Happens (Foreign x p)) = ⊥
CanBe (Happens e) = Unit {0}
CanBe (BringsBytes x bytes) = AreBytes bytes
