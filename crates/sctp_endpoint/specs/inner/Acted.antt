-- What acted of a packet so far, in terms of a view, of the chunks and of the notes on them (RFC 9260, 6.2 and 6.10).
use Rattle.std.specs.Prelude.{◌≡◌, ℕ, ◌<◌, Bool, true, false, List, ◌∷◌, ◌++◌, Option, Some, None, Result, Ok, Err}
use Rattle.sctp_model.specs.wire.Chunk.{ChunkMeaning, InitAck}
use Rattle.sctp_model.specs.end.EndView.{EndView}
use Rattle.sctp_model.specs.end.Strays as model
use Rattle.sctp_model.specs.end.Arriving as arriving
use Rattle.sctp_model.specs.end.Arriving.{AllAct, verdict_of}
use Rattle.sctp_values.specs.declared.no_memory.NoMemory.{NoMemory}
use Rattle.sctp_association.specs.MachineStands.{MachineStands}
use Rattle.sctp_association.specs.declared.machine.Machine.{Machine}
use Rattle.sctp_endpoint.specs.Handled.{VerdictStands, IsAnsweredWithin}
use Rattle.sctp_endpoint.specs.declared.after.Notes.{Notes}
use Rattle.sctp_endpoint.specs.declared.after.Verdict.{Verdict}

-- the notes, by their names in the definitions
abbrev pub notes_meaning : Notes → arriving.Notes
notes_meaning n = record { listed = n.listed; acknowledges = n.acknowledges; brings_data = n.brings_data; at_once = n.at_once }

-- An INIT ACK has an initiate tag: one with tag 0 is dropped, and needs no memory (3.3.3).
abbrev pub HasTag : ChunkMeaning → Type 0
HasTag (InitAck m) = 0 < m.tag
HasTag m = Unit {0}

-- whatever acts after a chunk, acts after it with its note
abbrev pub GoesOnBehind : ℕ → EndView → arriving.Notes → ChunkMeaning → EndView → arriving.Notes → Type 0
GoesOnBehind tag v k m t l =
    (rest : List ChunkMeaning) (u : EndView) (n : arriving.Notes) (x : model.Verdict) → AllAct tag t l rest u n x → AllAct tag v k (m ∷ rest) u n x

-- whatever follows a chunk, the packet ends with it
abbrev pub EndsWith : ℕ → EndView → arriving.Notes → ChunkMeaning → EndView → model.Verdict → Type 0
EndsWith tag v k m t x = (rest : List ChunkMeaning) → AllAct tag v k (m ∷ rest) t k x

-- What a chunk that acted returned: whether the packet ends with it, and then the verdict.
abbrev pub told_by : Result Bool NoMemory → Verdict → Result (Option Verdict) NoMemory
told_by (Ok true) told = Ok (Some told)
told_by (Ok false) told = Ok None
told_by (Err why) told = Err why

-- What a call that wrote its verdict beside its result returned of a packet.
abbrev pub with_verdict : Result (Unit {0}) NoMemory → Verdict → Result Verdict NoMemory
with_verdict (Ok done) told = Ok told
with_verdict (Err why) told = Err why

-- One chunk acted: the chunks after it follow, or the packet ends with it, and an answer is within the limit. After a failed allocation nothing has acted.
abbrev pub ActsOne : ℕ → EndView → Notes → ChunkMeaning → Result (Option Verdict) NoMemory → Machine → Notes → Type 0
ActsOne tag v n m (Ok None) e l = (t : EndView) × MachineStands e t × GoesOnBehind tag v (notes_meaning n) m t (notes_meaning l)
ActsOne tag v n m (Ok (Some told)) e l =
    (t : EndView) × (x : model.Verdict) × (l ≡ n) × EndsWith tag v (notes_meaning n) m t x × VerdictStands told x × IsAnsweredWithin v.configuration.limit told × MachineStands e t
ActsOne tag v n m (Err why) e l = MachineStands e v × (l ≡ n) × HasTag m

-- Chunks acted one after the other; after a failed allocation those before the failing one.
abbrev pub ActsAll : ℕ → EndView → Notes → List ChunkMeaning → Result Verdict NoMemory → Machine → Notes → Type 0
ActsAll tag v n ms (Ok told) e l =
    (t : EndView) × (x : model.Verdict) × AllAct tag v (notes_meaning n) ms t (notes_meaning l) x × VerdictStands told x × IsAnsweredWithin v.configuration.limit told × MachineStands e t
ActsAll tag v n ms (Err why) e l =
    (front back : List ChunkMeaning) × (m : ChunkMeaning) × (t : EndView) × (ms ≡ front ++ m ∷ back) × HasTag m
    × AllAct tag v (notes_meaning n) front t (notes_meaning l) (verdict_of l.listed) × MachineStands e t
