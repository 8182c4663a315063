-- What the sender says of an acknowledgement: `v` is the sender before it, `u` the sender after it, `p` the pace when it arrived.
use Rattle.std.specs.Prelude.{◌≡◌, ◌||◌, IfSome}
use Rattle.sctp_model.specs.messages.Format.{Format}
use Rattle.sctp_model.specs.messages.Framing.{header_of}
use Rattle.sctp_model.specs.sender.SenderView.{SenderView}
use Rattle.sctp_model.specs.sender.Readers.{has_more}
use Rattle.sctp_model.specs.sender.Abandoning.{marking}
use Rattle.sctp_model.specs.end.Misses.{moves, is_missed, first_missed, last_sent}
use Rattle.sctp_model.specs.end.Control.{newly_acked, chunk_flight}
use Rattle.sctp_model.specs.end.Pacing.{Pace, misses_heard}
use Rattle.sctp_congestion.specs.declared.hearing.Weighed.{Weighed}
use Rattle.sctp_congestion.specs.Numbers.{is_measured}

-- the sender once what has its third miss indication now is marked for retransmission
abbrev pub remarked : (v u : SenderView) → Pace → SenderView
remarked v u p = marking u (is_missed (misses_heard v u p.misses))

-- these are its numbers, at a sender of this format
pub record Weighs (f : Format) (v u : SenderView) (p : Pace) (x : Weighed) : Type 0 where
  pub moved : x.moved ≡ moves v u
  pub cum : x.cum ≡ u.cum
  pub waits : x.waits ≡ has_more v
  pub lost : x.lost ≡ first_missed (misses_heard v u p.misses) u
  pub last_sent : IfSome x.lost (λ i. x.last_sent ≡ last_sent u)
  pub flight : x.flight ≡ chunk_flight (header_of f) v
  pub bytes : x.bytes ≡ newly_acked (header_of f) v u
  pub left : x.left ≡ chunk_flight (header_of f) (remarked v u p)
  pub acked : IfSome p.trips.timed (λ t. x.acked ≡ is_measured v u t.index)
  pub over : IfSome p.trips.timed (λ t. x.over ≡ ((remarked v u p).marked t.index || (remarked v u p).covered t.index))
