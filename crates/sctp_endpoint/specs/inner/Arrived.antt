-- What a well-formed packet leaves, at a machine whose time is that of its arrival (RFC 9260, 5.1 and 8.4).
use Rattle.std.specs.Prelude.{◌≡◌, ℕ, Bool, true, List, ◌∷◌, ◌++◌, Option, None, Some, Result, Ok, Err}
use Rattle.sctp_model.specs.wire.Chunk.{ChunkMeaning}
use Rattle.sctp_model.specs.wire.Packet.{Packet}
use Rattle.sctp_model.specs.wire.Places.{ArePlaced}
use Rattle.sctp_model.specs.end.EndView.{Draw, EndView}
use Rattle.sctp_model.specs.end.Passing.{has_ports, passes}
use Rattle.sctp_model.specs.end.Wearing.{wearing}
use Rattle.sctp_model.specs.end.Strays as model
use Rattle.sctp_model.specs.end.Arriving.{Notes, AllAct, verdict_of, LeavesGap, urged, packet_ended, Receives, IsCutShort, WantsNoMemory}
use Rattle.sctp_values.specs.declared.no_memory.NoMemory.{NoMemory}
use Rattle.sctp_association.specs.MachineStands.{MachineStands}
use Rattle.sctp_association.specs.declared.machine.Machine.{Machine}
use Rattle.sctp_endpoint.specs.Handled.{VerdictStands, IsAnsweredWithin}
use Rattle.sctp_endpoint.specs.inner.Acted.{HasTag}
use Rattle.sctp_endpoint.specs.declared.after.Verdict.{Verdict}

-- the packet has the ports of this endpoint, and a verification tag that it accepts (8.5)
pub record IsFor (v : EndView) (p : Packet) : Type 0 where
  pub ports : has_ports v.configuration p ≡ true
  pub tag : passes v.phase p ≡ true

-- what is given up for what the packet missed, from this index on; of a packet that began the association nothing
abbrev pub worn_from : Option ℕ → EndView → EndView
worn_from None v = v
worn_from (Some n) v = wearing n v

-- The packet ended after chunks that left this view, by the gap that they left; what was missed from an index on is given up.
abbrev pub Ends : Option ℕ → EndView → Notes → Machine → Type 0
Ends from t n e = (gap : Bool) × LeavesGap t gap × MachineStands e (packet_ended (urged gap n) (worn_from from t))

-- Chunks acted, all or those before a failed allocation, and the packet ended after them.
abbrev pub HearsAll : Option ℕ → ℕ → EndView → Notes → List ChunkMeaning → Result Verdict NoMemory → Machine → Type 0
HearsAll from tag v k ms (Ok told) e =
    (t : EndView) × (n : Notes) × (x : model.Verdict) × AllAct tag v k ms t n x × VerdictStands told x × IsAnsweredWithin v.configuration.limit told × Ends from t n e
HearsAll from tag v k ms (Err why) e =
    (front back : List ChunkMeaning) × (m : ChunkMeaning) × (t : EndView) × (n : Notes) × (ms ≡ front ++ m ∷ back) × HasTag m
    × AllAct tag v k front t n (verdict_of n.listed) × Ends from t n e

-- The packet was received, and its answer is within the limit; or it was cut short at a failed allocation, and then it isn't one that is dropped for its ports or its tag, if each of its chunks
-- may be bundled so.
abbrev pub Arrived : EndView → (now : ℕ) → Draw → Packet → Result Verdict NoMemory → Machine → Type 0
Arrived v now d p (Ok told) e =
    (t : EndView) × (x : model.Verdict) × Receives v now d (Some p) t x × VerdictStands told x × IsAnsweredWithin v.configuration.limit told × MachineStands e t
Arrived v now d p (Err why) e =
    (t : EndView) × IsCutShort v now d (Some p) t × MachineStands e t × (ArePlaced p.chunks → WantsNoMemory v now d (Some p) → ⊥)
