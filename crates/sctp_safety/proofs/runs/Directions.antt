-- In a world that a run reaches in time: what each sender's queue holds, and where each accepted message is.
use Rattle.std.proofs.Common.{◌≡◌, ℕ, zero, suc, ◌<◌, List, [], Some, inl, inr, subst}
use Rattle.sctp_model.specs.numbers.Lists.{Has}
use Rattle.sctp_model.specs.messages.Format.{Lane, Ordered}
use Rattle.sctp_model.specs.messages.Pieces.{IsNumberBelow}
use Rattle.sctp_model.specs.receiver.ReceiverView.{Handed, ReceiverView, handed}
use Rattle.sctp_model.specs.messages.Plan.{Message, bytes_of, message_at}
use Rattle.sctp_model.specs.sender.SenderView.{Queued, SenderView}
use Rattle.sctp_model.specs.world.Calls.{Call, Asked, call_at}
use Rattle.sctp_model.specs.end.EndView.{format_of}
use Rattle.sctp_model.specs.world.World.{Side, A, B, other, World, end_of, Setup, start}
use Rattle.sctp_model.specs.world.Events.{Event}
use Rattle.sctp_model.specs.world.Premises.{asked_at, IsReachedInTime}
use Rattle.sctp_safety.specs.SenderLaws.{IsUsual}
use Rattle.sctp_safety.specs.Placed.{AllArePlaced}
use Rattle.sctp_safety.proofs.moves.PlacedAlways.{placed_always}
use Rattle.sctp_safety.proofs.moves.UsualLemmas.{good_usual}
use Rattle.sctp_safety.proofs.runs.Dating.{dates_of}
use Rattle.sctp_safety.proofs.runs.DatedBags.{Dates}
use Rattle.sctp_safety.proofs.runs.Direction.{Bags, way_of}
use Rattle.sctp_safety.proofs.runs.ApartWorld.{IsApartWorld}
use Rattle.sctp_safety.proofs.runs.MetWorld.{IsMetWorld}
use Rattle.sctp_safety.proofs.runs.Safety.{IsKept, reached_kept}

-- What is known of one direction: of its sender by what its user asked for, and of its receiver.
pub record IsKnown (v : SenderView) (u : Asked) (r : ReceiverView) : Type 0 where
  -- what waits is the message of its call
  pub called : (q : Queued) → Has v.queue q → call_at u q.message.ticket ≡ Some (record { lane = q.lane; payload = q.message.payload; bytes = bytes_of q.message; until = q.message.until; limit = q.message.limit })
  -- and has a later ticket than each message of its stream that has a number
  pub later : (q : Queued) (l : Lane) (n : ℕ) (m : Message) → Has v.queue q → message_at v.plan l n ≡ Some m → l.stream ≡ q.lane.stream → m.ticket < q.message.ticket
  pub placed : AllArePlaced v u
  -- what was delivered in order is below the next number
  pub below : (s : ℕ) (h : Handed) → Has (handed r s) h → h.lane.kind ≡ Ordered → IsNumberBelow (r.next s) h.number

module _ (w : World) where
  by_way : (x : Side) (b : Bags) → IsUsual (way_of (format_of (end_of w x)) (end_of w x).terms.outbound (end_of w x).sender (asked_at w x) (end_of w (other x)).receiver b) → IsKnown (end_of w x).sender (asked_at w x) (end_of w (other x)).receiver
  by_way x b u =
      let way = way_of (format_of (end_of w x)) (end_of w x).terms.outbound (end_of w x).sender (asked_at w x) (end_of w (other x)).receiver b in
      let g = good_usual way u in
      record { called = g.waits.called; later = g.waits.later; placed = placed_always u.origin way u.led.0 u.started u.led.1; below = g.held.told.below }

  apart : (x : Side) → IsApartWorld w → IsKnown (end_of w x).sender (asked_at w x) (end_of w (other x)).receiver
  apart x k = record {
    called = λ q has. absurd (none q has);
    later = λ q l n m has named same. absurd (none q has);
    placed = λ t c at. absurd (uncalled t c at);
    below = λ s h has kind. absurd (let none = subst (λ (r : ReceiverView). Has (handed r s) h) (k.ends (other x)).blank.receiver has in none);
  }
    where
      none : (q : Queued) → Has (end_of w x).sender.queue q → ⊥
      none q has = subst (λ (v : SenderView). Has v.queue q) (k.ends x).blank.sender has

      nothing_at : (t : ℕ) (c : Call) → call_at (record (asked_at w x) { calls = [] }) t ≡ Some c → ⊥
      nothing_at zero c at = cc
      nothing_at (suc t) c at = cc

      uncalled : (t : ℕ) (c : Call) → call_at (asked_at w x) t ≡ Some c → ⊥
      uncalled t c at = nothing_at t c (subst (λ (cs : List Call). call_at (record (asked_at w x) { calls = cs }) t ≡ Some c) (k.calls x) at)

  met : (d : Dates) (x : Side) → IsMetWorld d w → IsKnown (end_of w x).sender (asked_at w x) (end_of w (other x)).receiver
  met d A m = by_way A m.met.met.going.bags m.met.met.going.usual
  met d B m = by_way B m.met.met.coming.bags m.met.met.coming.usual

  pub known : (d : Dates) (x : Side) → IsKept d w → IsKnown (end_of w x).sender (asked_at w x) (end_of w (other x)).receiver
  known d x (inl k) = apart x k
  known d x (inr m) = met d x m

pub senders_known : (s : Setup) (events : List Event) (w : World) → IsReachedInTime s events w → (x : Side) → IsKnown (end_of w x).sender (asked_at w x) (end_of w (other x)).receiver
senders_known s events w r x = known w (dates_of (start s) r.worlds) x (reached_kept s events w r)
