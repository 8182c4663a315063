-- Which traffic stands for which views of a sender and a receiver.
use Rattle.std.specs.Prelude.{◌≡◌, ℕ, List}
use Rattle.sctp_model.specs.messages.Format.{Format}
use Rattle.sctp_model.specs.messages.Format as model
use Rattle.sctp_model.specs.sender.SenderView.{SenderView}
use Rattle.sctp_model.specs.receiver.ReceiverView.{ReceiverView}
use Rattle.sctp_send.specs.SenderStands as sender
use Rattle.sctp_recv.specs.StandsFor as receiver
use Rattle.sctp_association.specs.declared.traffic.Directions.{Directions}
use Rattle.sctp_association.specs.declared.traffic.Traffic.{Traffic}
use Rattle.sctp_association.specs.declared.traffic.Traffic.TheVariants.{Plain, Interleaved}

-- both directions, in one format
pub record DirectionsStand {F : Type 0} (f : Format) (d : Directions F) (s : SenderView) (r : ReceiverView) : Type 0 where
  pub sender : sender.StandsFor f d.sender s
  pub receiver : receiver.StandsFor f d.receiver r

-- both directions, in the format in which they are
abbrev pub TrafficStands : Traffic → Format → SenderView → ReceiverView → Type 0
TrafficStands (Plain d) f s r = (f ≡ model.Plain) × DirectionsStand model.Plain d s r
TrafficStands (Interleaved d) f s r = (f ≡ model.Interleaved) × DirectionsStand model.Interleaved d s r

-- the list of indexes that is kept: those that the last packet retransmitted, or that the last SACK took back
abbrev pub indexes_of : Traffic → List ℕ
indexes_of (Plain d) = d.indexes.items
indexes_of (Interleaved d) = d.indexes.items
