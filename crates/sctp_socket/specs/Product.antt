-- A socket is many endpoints side by side: each call is of one of them at most, and what each does is what it does alone (RFC 6458, 3).
use Rattle.std.specs.Prelude.{◌≡◌, ◌≢◌, ℕ, ◌⊎◌, List, [], ◌∷◌, ◌==◌, if◌then◌else◌, Option}
use Rattle.sctp_model.specs.wire.Packet.{Packet}
use Rattle.sctp_model.specs.wire.Chunk.{ChunkMeaning}
use Rattle.sctp_model.specs.world.Calls.{Call}
use Rattle.sctp_model.specs.receiver.ReceiverView.{Handed}
use Rattle.sctp_model.specs.end.EndView.{Draw, EndView}
use Rattle.sctp_model.specs.end.Clock.{at_moment}
use Rattle.sctp_model.specs.end.Strays.{Verdict}
use Rattle.sctp_model.specs.end.Arriving.{Receives, IsCutShort}
use Rattle.sctp_model.specs.end.Building.{Builds}
use Rattle.sctp_model.specs.end.Moments.{ticked}
use Rattle.sctp_model.specs.end.UserCalls.{connect_answer, Called, called, send_answer, send_leaves, abandoned_at, UserTakes, shut, reset_call, reset_leaves, reset_there, told_leaves, abort_answer, abort_leaves}

-- ---- one endpoint

-- what an endpoint may be asked for
pub data Asked : Type 0 where
  Hear : (now : ℕ) → Draw → Option Packet → Asked
  BuildNext Tick : (now : ℕ) → Asked
  Connect : (now : ℕ) → Draw → Asked
  Send : Call → Asked
  Take Reset Abandon : ℕ → Asked
  TellReset Shut : Asked
  Abort : (reason : List ℕ) → Asked

-- What it does then: the state machine's step.
abbrev pub Does : Asked → EndView → EndView → Type 0
Does (Hear now d p) e t = ((v : Verdict) × Receives e now d p t v) ⊎ IsCutShort e now d p t
Does (BuildNext now) e t = (xs : List ChunkMeaning) × Builds (at_moment e now) xs t
Does (Tick now) e t = t ≡ ticked e now
Does (Connect now d) e t = (connect_answer e.phase ≡ Called) × (t ≡ called (at_moment e now) d)
Does (Send c) e t = t ≡ send_leaves (send_answer e c) e c
Does (Take s) e t = (m : Option Handed) × UserTakes e s m t
Does (Reset s) e t = t ≡ reset_leaves (reset_call e s) e s
Does (Abandon n) e t = t ≡ abandoned_at e n
Does TellReset e t = t ≡ told_leaves (reset_there e) e
Does Shut e t = t ≡ shut e
Does (Abort reason) e t = t ≡ abort_leaves (abort_answer e reason) e

-- what it is asked for, one after the other
pub data RunsAlone : EndView → List Asked → EndView → Type 0 where
  StaysAlone : (e : EndView) → RunsAlone e [] e
  GoesAlone : (e m t : EndView) (a : Asked) (xs : List Asked) → Does a e m → RunsAlone m xs t → RunsAlone e (a ∷ xs) t

-- ---- a socket: its endpoints by the numbers of their associations

-- what is asked for, of the association with this number
pub record Request : Type 0 where
  pub id : ℕ
  pub asked : Asked

-- That endpoint does it; all others stay as they are.
pub record Touches (r : Request) (s t : ℕ → EndView) : Type 0 where
  pub does : Does r.asked (s r.id) (t r.id)
  pub others : (i : ℕ) → r.id ≢ i → t i ≡ s i

-- requests one after the other
pub data Runs : (ℕ → EndView) → List Request → (ℕ → EndView) → Type 0 where
  Stays : (s : ℕ → EndView) → Runs s [] s
  Goes : (s m t : ℕ → EndView) (r : Request) (xs : List Request) → Touches r s m → Runs m xs t → Runs s (r ∷ xs) t

-- those of one association
abbrev pub asked_of : ℕ → List Request → List Asked
asked_of i [] = []
asked_of i (r ∷ xs) = if r.id == i then r.asked ∷ asked_of i xs else asked_of i xs

-- WHAT EACH ENDPOINT OF A SOCKET DOES IS WHAT IT DOES ALONE, asked for the same in the same order.
abbrev pub EachIsAlone : Type 0
EachIsAlone = (s t : ℕ → EndView) (xs : List Request) → Runs s xs t → (i : ℕ) → RunsAlone (s i) (asked_of i xs) (t i)
