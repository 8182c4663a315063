-- What becomes of each message that `send` accepted: no message is lost in the sender itself.
use Rattle.std.specs.Prelude.{◌≡◌, ℕ, ◌≤◌, true, List, Some}
use Rattle.sctp_model.specs.numbers.Lists.{Has}
use Rattle.sctp_model.specs.messages.Format.{Lane}
use Rattle.sctp_model.specs.messages.Plan.{Message, message_at}
use Rattle.sctp_model.specs.sender.SenderView.{Queued, SenderView}
use Rattle.sctp_model.specs.world.Calls.{Call, Asked, call_at}
use Rattle.sctp_safety.specs.Way.{Way, Move, IsStart, Run}

-- The message of this ticket waits for its number, or it has one; or its user gave it up before it had one: by name, or by its time.
pub data IsPlaced (v : SenderView) (u : Asked) (t : ℕ) (c : Call) : Type 0 where
  IsQueued : (q : Queued) → Has v.queue q → q.message.ticket ≡ t → IsPlaced v u t c
  IsNumbered : (l : Lane) (n : ℕ) (m : Message) → message_at v.plan l n ≡ Some m → m.ticket ≡ t → IsPlaced v u t c
  WasNamed : u.named t ≡ true → IsPlaced v u t c
  WasLate : (until : ℕ) → c.until ≡ Some until → until ≤ u.clock → IsPlaced v u t c

-- so it is of each ticket
abbrev pub AllArePlaced : SenderView → Asked → Type 0
AllArePlaced v u = (t : ℕ) (c : Call) → call_at u t ≡ Some c → IsPlaced v u t c

-- In every world that a list of moves leads to from a start each accepted message is.
abbrev pub PlacedAlways : Type 0
PlacedAlways = (w v : Way) (moves : List Move) → IsStart w → Run w moves v → AllArePlaced v.sender v.asked
