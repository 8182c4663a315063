-- In every world of every run each event has an outcome.
use Rattle.std.proofs.Common.{◌≡◌, ℕ, Bool, true, false, List, [], ◌∷◌, Option, Some, None, refl, ap, ◌∙◌}
use Rattle.std.specs.Prelude.{◌&&◌}
use Rattle.sctp_model.specs.numbers.Lists.{item_at}
use Rattle.sctp_model.specs.wire.Chunk.{ChunkMeaning}
use Rattle.sctp_model.specs.wire.Packet.{Packet}
use Rattle.sctp_model.specs.receiver.ReceiverView.{Handed}
use Rattle.sctp_model.specs.end.EndView.{Draw, EndView, IsDraw}
use Rattle.sctp_model.specs.end.Building.{Builds}
use Rattle.sctp_model.specs.end.UserCalls.{ConnectAnswer, Called, NotIdle, connect_answer}
use Rattle.sctp_model.specs.end.Arriving.{ReadAs, DroppedUnread}
use Rattle.sctp_model.specs.world.World.{Side, other, are_alike, World, end_of, bag_of, end_now}
use Rattle.sctp_model.specs.world.Events.{Event, OpenBoth, At, Drawing, Connect, Build, Deliver, Foreign, Send, Abandon, Take, Shutdown, Abort, Reset, WasReset, Later, Moment}
use Rattle.sctp_model.specs.world.Steps.{FromBag, FromStranger, Brings, OpensBoth, OpenRefused, TimePasses, Draws, Connects, ConnectRefused, BuildsOne, BuildsNone, PacketComes, IsAbsent, Sends, AbandonsOne, TakesOne, ShutsDown, AbortsIt, NoPacket, ResetsOne, TellsReset, TimeGoesOn, MomentComes}
use Rattle.sctp_outcomes.specs.Outcomes.{CanHappen, HasOutcome, EventsHaveOutcomes}
use Rattle.sctp_outcomes.proofs.Receivers.{Whatever, HoldsIn, holds_always}
use Rattle.sctp_outcomes.proofs.Bounded.{IsBounded, bounded_law}
use Rattle.sctp_outcomes.proofs.TotalPackets.{arrived}
use Rattle.sctp_outcomes.proofs.TotalBuilds.{built}

module _ (w : World) (bounded : HoldsIn (Whatever IsBounded) bounded_law w) where
  opening : (x y : Draw) → IsDraw x → IsDraw y → HasOutcome w (OpenBoth x y)
  opening x y dx dy = go w.openable (are_alike w.a.configuration w.b.configuration) refl refl
    where
      go : (b c : Bool) → w.openable ≡ b → are_alike w.a.configuration w.b.configuration ≡ c → HasOutcome w (OpenBoth x y)
      go true true may like = (_, _, OpensBoth x y like may dx dy)
      go true false may like = (_, _, OpenRefused x y (ap (λ (d : Bool). d && are_alike w.a.configuration w.b.configuration) may ∙ like))
      go false c may like = (_, _, OpenRefused x y (ap (λ (d : Bool). d && are_alike w.a.configuration w.b.configuration) may))

  connecting : (d : Draw) → IsDraw d → HasOutcome w (Connect d)
  connecting d dd = go (connect_answer w.a.phase) refl
    where
      go : (a : ConnectAnswer) → connect_answer w.a.phase ≡ a → HasOutcome w (Connect d)
      go Called q = (_, _, Connects d dd q)
      go NotIdle q = (_, _, ConnectRefused d q)

  building : (x : Side) → HasOutcome w (Build x)
  building x = let b = built (end_now w x) (bounded x) in go b.chunks b.left b.builds
    where
      go : (zs : List ChunkMeaning) (t : EndView) → Builds (end_now w x) zs t → HasOutcome w (Build x)
      go [] t builds = (_, _, BuildsNone x t builds)
      go (y ∷ ys) t builds = (_, _, BuildsOne x y ys t builds)

  coming : (e : Event) (x : Side) (p : Packet) → Brings w e x (Some p) → HasOutcome w e
  coming e x p brings = let a = arrived (end_now w x) w.draw p (bounded x) in (_, _, PacketComes e x (Some p) a.last a.verdict brings (ReadAs p a.last a.verdict a.arrives))

  delivering : (x : Side) (n : ℕ) → HasOutcome w (Deliver x n)
  delivering x n = go (item_at (bag_of w x) n) refl
    where
      go : (o : Option Packet) → item_at (bag_of w x) n ≡ o → HasOutcome w (Deliver x n)
      go None q = (_, _, IsAbsent x n q)
      go (Some p) q = coming (Deliver x n) (other x) p (FromBag x n p q)

  taking : (x : Side) (n : ℕ) → HasOutcome w (Take x n)
  taking x n = go ((end_of w x).receiver.waiting n) refl
    where
      go : (hs : List Handed) → (end_of w x).receiver.waiting n ≡ hs → HasOutcome w (Take x n)
      go [] q = (_, _, TakesOne x n None _ (record { receiver = (end_of w x).receiver; takes = (q, refl); leaves = refl }))
      go (h ∷ hs) q = (_, _, TakesOne x n (Some h) _ (record { receiver = _; takes = (hs, q, refl); leaves = refl }))

  has_outcome : (e : Event) → CanHappen w e → HasOutcome w e
  has_outcome (OpenBoth x y) (dx, dy) = opening x y dx dy
  has_outcome (Later x m) small = (_, _, TimeGoesOn x m small)
  has_outcome (Moment x) can = (_, _, MomentComes x)
  has_outcome (At m) small = (_, _, TimePasses m small)
  has_outcome (Drawing d) dd = (_, _, Draws d dd)
  has_outcome (Connect d) dd = connecting d dd
  has_outcome (Build x) can = building x
  has_outcome (Deliver x n) can = delivering x n
  has_outcome (Foreign x None) can = (_, _, PacketComes (Foreign x None) x None _ _ (NoPacket x) DroppedUnread)
  has_outcome (Foreign x (Some p)) placed = coming (Foreign x (Some p)) x p (FromStranger x p placed)
  has_outcome (Send x c) can = (_, _, Sends x c)
  has_outcome (Abandon x k) can = (_, _, AbandonsOne x k)
  has_outcome (Take x n) can = taking x n
  has_outcome (Reset x n) can = (_, _, ResetsOne x n)
  has_outcome (WasReset x) can = (_, _, TellsReset x)
  has_outcome (Shutdown x) can = (_, _, ShutsDown x)
  has_outcome (Abort x r) can = (_, _, AbortsIt x r)

pub events_have_outcomes : EventsHaveOutcomes
events_have_outcomes s events answers w run e can = has_outcome w (holds_always (Whatever IsBounded) bounded_law s events answers w run) e can
