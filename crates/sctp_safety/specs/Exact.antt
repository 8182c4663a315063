-- What the two endpoints build and take are things that the moves allow.
use Rattle.std.specs.Prelude.{◌≡◌, ℕ, ◌≤◌, ◌⊎◌, false, List, ◌∷◌}
use Rattle.sctp_model.specs.numbers.Lists.{Has}
use Rattle.sctp_model.specs.messages.Pieces.{Piece}
use Rattle.sctp_model.specs.sender.SenderView.{IsPoint}
use Rattle.sctp_model.specs.messages.Forward.{Forward, IsForward}
use Rattle.sctp_model.specs.receiver.ReceiverView.{ReceiverView, Reaches, IsCumulative}
use Rattle.sctp_model.specs.messages.Acknowledgement.{Acknowledgement, IsAcknowledgement}
use Rattle.sctp_model.specs.receiver.Receiving.{recorded, TakesPiece, IsPassed, TakesForward}
use Rattle.sctp_safety.specs.Way.{Way, Move, Put_forward, Put_sack, Put_shutdown, with_receiver, Step, Run}

-- some list of moves leads from the one to the other
abbrev pub Leads : Way → Way → Type 0
Leads w v = (es : List Move) × Run w es v

-- A FORWARD up to any index from CUM to the point may be built.
abbrev pub ForwardIsAllowed : Type 0
ForwardIsAllowed = (w : Way) (p q : ℕ) (x : Forward) → IsPoint w.sender p → w.sender.cum ≤ q → q ≤ p →
    IsForward w.format w.sender.plan w.sender.cum q x → Step w (Put_forward x) (record w { forwards = x ∷ w.forwards })

-- A SACK of the cumulative index and any of the runs may be built.
abbrev pub SackIsAllowed : Type 0
SackIsAllowed = (w : Way) (x : Acknowledgement) → IsAcknowledgement w.receiver x → Step w (Put_sack x) (record w { sacks = x ∷ w.sacks })

-- A SHUTDOWN of the cumulative index may be built.
abbrev pub ShutdownIsAllowed : Type 0
ShutdownIsAllowed = (w : Way) (c : ℕ) → IsCumulative w.receiver c → Step w (Put_shutdown c) (record w { shutdowns = c ∷ w.shutdowns })

-- A chunk that arrived for the first time may be recorded and its data dropped, if it is no longer wanted or its stream isn't there.
abbrev pub PassingIsMoves : Type 0
PassingIsMoves = (w : Way) (x : Piece) → Has w.pieces x → w.receiver.seen x.index ≡ false →
    IsPassed w.format w.receiver x ⊎ (w.streams ≤ x.lane.stream) → Leads w (with_receiver w (recorded w.receiver x))

-- A chunk that arrived for the first time may be taken, and what is due delivered.
abbrev pub TakingIsMoves : Type 0
TakingIsMoves = (w : Way) (x : Piece) (t : ReceiverView) → Has w.pieces x → w.receiver.seen x.index ≡ false →
    TakesPiece w.format w.receiver x t → Leads w (with_receiver w t)

-- A FORWARD that counts, which some index up to its point isn't reached for yet, may be taken, and what is due delivered.
abbrev pub ForwardIsMoves : Type 0
ForwardIsMoves = (w : Way) (x : Forward) (t : ReceiverView) → Has w.forwards x → (i : ℕ) → i ≤ x.point → (Reaches w.receiver i → ⊥) →
    TakesForward w.format w.receiver x t → Leads w (with_receiver w t)
