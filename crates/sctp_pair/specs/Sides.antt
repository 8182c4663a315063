-- One side of the world, and what stands for it.
use Rattle.std.specs.Prelude.{◌≡◌, ℕ, false, List, [], ◌∷◌, Some}
use Rattle.std.specs.declared.vec.Vec.{Vec}
use Rattle.std.specs.declared.alloc.Global.{Global}
use Rattle.sctp_model.specs.numbers.Lists.{item_at}
use Rattle.sctp_model.specs.wire.Packet.{Packet}
use Rattle.sctp_model.specs.end.EndView.{EndView}
use Rattle.sctp_model.specs.end.Moments.{ticked}
use Rattle.sctp_model.specs.world.World.{Side, A, B, World, Log, end_of, bag_of, log_of, with_order, newly_abandoned}
use Rattle.sctp_packet.specs.PacketBytes.{ReadsPacket, WritesPacket}
use Rattle.sctp_endpoint.specs.EndpointStands.{EndpointStands}
use Rattle.sctp_pair.specs.Noted.{AreNoted}
use Rattle.sctp_pair.specs.declared.one_side.OneSide.{OneSide}

-- ---- one side of the world

-- the endpoint, its bag and its user's log
pub record SideView : Type 0 where
  pub end : EndView
  pub bag : List Packet
  pub log : Log

-- the side of a world
abbrev pub side_of : World → Side → SideView
side_of w s = record { end = end_of w s; bag = bag_of w s; log = log_of w s }

-- the world with another one in its place
abbrev pub with_side : World → Side → SideView → World
with_side w A h = record w { a = h.end; from_a = h.bag; log_a = h.log }
with_side w B h = record w { b = h.end; from_b = h.bag; log_b = h.log }

-- the world with another side, at whose endpoint something has arrived: the two can't be opened without packets any more
abbrev pub left : World → Side → SideView → World
left w s h = record (with_side w s h) { openable = false }

-- a side after a time: its endpoint, and in its user's log what was abandoned then
abbrev pub ticked_side : SideView → (now : ℕ) → SideView
ticked_side v now = record v {
  end = ticked v.end now;
  log = with_order v.log (newly_abandoned v.end.sender (ticked v.end now).sender (ticked v.end now).sender.tickets);
}

-- ---- what stands for it

-- the bytes that were written for a packet, byte for byte, which read as it
abbrev pub Carries : List ℕ → Packet → Type 0
Carries bytes p = WritesPacket bytes p × ReadsPacket bytes p

-- the bytes of each packet of a bag, in order
abbrev pub ArePackets : List (Vec ℕ Global) → List Packet → Type 0
ArePackets [] [] = Unit {0}
ArePackets (b ∷ bag) (p ∷ ps) = Carries b.items p × ArePackets bag ps
ArePackets [] (p ∷ ps) = ⊥
ArePackets (b ∷ bag) [] = ⊥

-- the bytes are the packet with this number, from 1
pub record IsItem (ps : List Packet) (number : ℕ) (bytes : List ℕ) : Type 0 where
  pub packet : Packet
  pub here : item_at ps number ≡ Some packet
  pub writes : WritesPacket bytes packet
  pub reads : ReadsPacket bytes packet

-- Each part of a side of a pair stands for its part of the world's: the endpoint, the bag, and the logs.
pub record KeepsSide (h : OneSide) (v : SideView) : Type 0 where
  pub end : EndpointStands h.end v.end
  pub bag : ArePackets h.bag.items v.bag
  pub notes : AreNoted h.numbered.items h.abandoned.items h.taken.items v.end v.log

-- it stands for this side
unfoldable pub SideStands : OneSide → SideView → Type 0
SideStands h v = KeepsSide h v
