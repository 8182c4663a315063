-- A packet arrives, whole or cut short: whether it passes, what its chunks do one after the other, and what is reported of it (RFC 9260, 4, 5.1, 8.4 and 8.5).
use Rattle.std.specs.Prelude.{◌≡◌, ℕ, ◌<◌, ◌⊎◌, Bool, true, false, not, ◌&&◌, ◌||◌, if◌then◌else◌, List, [], ◌∷◌, ◌++◌, drop, Option, Some, None}
use Rattle.sctp_model.specs.numbers.Limits.{SACK_DELAY}
use Rattle.sctp_model.specs.wire.Chunk.{ChunkMeaning}
use Rattle.sctp_model.specs.wire.Packet.{Packet}
use Rattle.sctp_model.specs.receiver.ReceiverView.{ReceiverView, IsCumulative}
use Rattle.sctp_model.specs.end.Sealing.{Body}
use Rattle.sctp_model.specs.end.EndView.{Draw, Stage, Phase, Open, ShutdownAlarm, EndView, has_association}
use Rattle.sctp_model.specs.end.Clock.{after_wait, at_moment, with_timer, renewed}
use Rattle.sctp_model.specs.end.Closing.{with_due, is_shutdown_sent, rested}
use Rattle.sctp_model.specs.end.PeerFaults.{FAULT, PORTS, TAG, STATE, Note, Unnoted, ToAcknowledge, GoesOn, Ends, PassedOver, Replies, Drops}
use Rattle.sctp_model.specs.end.Opening.{begun}
use Rattle.sctp_model.specs.end.Acting.{Acts}
use Rattle.sctp_model.specs.end.Wearing.{missed_below, wearing}
use Rattle.sctp_model.specs.end.Passing.{has_ports, passes}
use Rattle.sctp_model.specs.end.Strays.{Verdict, Taken, Dropped, Answer, stray_verdict, opened_by}

-- ---- what is noted of a packet

-- Notes of the chunks so far: one was listed for the state that it found; one is to be acknowledged; one of these brought user data; one may not wait.
pub record Notes : Type 0 where
  pub listed : Bool
  pub acknowledges : Bool
  pub brings_data : Bool
  pub at_once : Bool

-- before the first chunk
abbrev pub no_notes : Notes
no_notes = record { listed = false; acknowledges = false; brings_data = false; at_once = false }

-- with the note of one chunk more
abbrev pub noted : Note → Notes → Notes
noted Unnoted n = record n { listed = true }
noted (ToAcknowledge is_data at_once) n = record { listed = true; acknowledges = true; brings_data = n.brings_data || is_data; at_once = n.at_once || at_once }

-- taken if some chunk was listed, else dropped for the state (RFC 9260, 4)
abbrev pub verdict_of : Bool → Verdict
verdict_of true = Taken
verdict_of false = Dropped STATE

-- ---- its chunks

-- Chunks act in their order, each on what the one before left (RFC 9260, 6.10); a drained end goes on with closing before the next one acts (9.2).
-- They begin with some notes, and end with those of all that acted.
pub data AllAct (tag : ℕ) : EndView → Notes → List ChunkMeaning → EndView → Notes → Verdict → Type 0 where
  NoneLeft : (e : EndView) (n : Notes) → AllAct tag e n [] e n (verdict_of n.listed)
  Next : (e mid t : EndView) (k : Note) (n m : Notes) (x : ChunkMeaning) (xs : List ChunkMeaning) (v : Verdict) →
      Acts e tag x (GoesOn k mid) → AllAct tag (rested mid) (noted k n) xs t m v → AllAct tag e n (x ∷ xs) t m v
  Passes : (e t : EndView) (n m : Notes) (x : ChunkMeaning) (xs : List ChunkMeaning) (v : Verdict) →
      Acts e tag x PassedOver → AllAct tag e n xs t m v → AllAct tag e n (x ∷ xs) t m v
  Last : (e t : EndView) (n : Notes) (x : ChunkMeaning) (xs : List ChunkMeaning) → Acts e tag x (Ends t) → AllAct tag e n (x ∷ xs) t n Taken
  EndsAnswered : (e t : EndView) (n : Notes) (x : ChunkMeaning) (xs : List ChunkMeaning) (p : Packet) →
      Acts e tag x (Replies t p) → AllAct tag e n (x ∷ xs) t n (Answer p)
  Stopped : (e : EndView) (n : Notes) (x : ChunkMeaning) (xs : List ChunkMeaning) (reason : ℕ) →
      Acts e tag x (Drops reason) → AllAct tag e n (x ∷ xs) e n (Dropped reason)

-- ---- a gap that it leaves (6.2)

-- an index above the cumulative one was seen
abbrev pub HasGap : ReceiverView → Type 0
HasGap r = (c : ℕ) × (i : ℕ) × IsCumulative r c × (c < i) × (r.seen i ≡ true)

-- so this says
abbrev pub TellsGap : Bool → ReceiverView → Type 0
TellsGap true r = HasGap r
TellsGap false r = HasGap r → ⊥

-- It is asked of an endpoint that delays its SACKs, after all chunks of the packet: to another one it makes no difference.
abbrev pub LeavesGap : EndView → (gap : Bool) → Type 0
LeavesGap e gap = e.configuration.delay ≡ true → TellsGap gap e.receiver

-- with a gap no SACK waits
abbrev pub urged : (gap : Bool) → Notes → Notes
urged gap n = record n { at_once = n.at_once || gap }

-- ---- the end of a packet

-- there is a time
abbrev pub is_set : Option ℕ → Bool
is_set None = false
is_set (Some m) = true

-- a packet was acted on since the last SACK was built: a SACK is due, or waits
abbrev pub owes_sack : EndView → Bool
owes_sack e = e.due.sack || is_set e.delayed

-- A SACK may not wait: the endpoint doesn't delay, something in the packet asks for it, it is the second such packet, or a SHUTDOWN was sent (6.2 and 9.2).
abbrev pub is_at_once : Notes → Stage → EndView → Bool
is_at_once n g e = not e.configuration.delay || (n.at_once || (owes_sack e || is_shutdown_sent g))

-- a SACK is due, and in SHUTDOWN SENT the SHUTDOWN again (6.2 and 9.2)
abbrev pub acknowledges : Stage → EndView → EndView
acknowledges g e = with_due (record e.due { sack = true; shutdown = e.due.shutdown || is_shutdown_sent g }) e

-- a SACK is delayed, until another packet arrives or until its time (6.2)
abbrev pub delays : EndView → EndView
delays e = record e { delayed = Some (after_wait e.moment SACK_DELAY) }

-- with standard closing user data in SHUTDOWN SENT clears the count of the SHUTDOWN's timer, which begins anew if it runs (9.2)
abbrev pub kept_going : Bool → EndView → EndView
kept_going false e = e
kept_going true e = with_timer ShutdownAlarm (renewed e.configuration.first_wait e.moment true (e.timers ShutdownAlarm)) e

-- What a packet leaves at an open endpoint, if something in it is to be acknowledged.
abbrev pub answered_in : Notes → Stage → EndView → EndView
answered_in n g e =
    kept_going (e.configuration.standard_closing && (n.brings_data && is_shutdown_sent g)) (if is_at_once n g e then acknowledges g e else delays e)

-- if something is to be acknowledged, and the association isn't over by now
abbrev pub acknowledges_in : Notes → Bool → Phase → EndView → EndView
acknowledges_in n false h e = e
acknowledges_in n true (Open t g) e = answered_in n g e
acknowledges_in n true h e = e

-- The end of a packet, whatever ended it, or if it was cut: what is due after all its chunks (6.2).
abbrev pub packet_ended : Notes → EndView → EndView
packet_ended n e = acknowledges_in n n.acknowledges e.phase e

-- What a packet that acted leaves, after its last chunk: messages that may not be retransmitted again are given up (`wearing`), and it is noted how its
-- data is to be acknowledged; `e` is the endpoint before the packet.
abbrev pub at_its_end : (e : EndView) → Notes → (gap : Bool) → EndView → EndView
at_its_end e n gap t = packet_ended (urged gap n) (wearing (missed_below e.pace) t)

-- ---- a packet

-- ACT: a packet that reads, at the endpoint's time, with these random values: the endpoint after it, and the verdict (8.4 and 8.5).
pub data Arrives (e : EndView) (d : Draw) (p : Packet) : EndView → Verdict → Type 0 where
  Elsewhere : has_ports e.configuration p ≡ false → Arrives e d p e (Dropped PORTS)
  NotOurs : has_ports e.configuration p ≡ true → passes e.phase p ≡ false → Arrives e d p e (Dropped TAG)
  Stray : has_ports e.configuration p ≡ true → passes e.phase p ≡ true → has_association e.phase ≡ false → opened_by e p ≡ None →
      Arrives e d p e (stray_verdict e d p)
  CookieBegins : (b : Body) (t : EndView) (n : Notes) (v : Verdict) → has_ports e.configuration p ≡ true → passes e.phase p ≡ true →
      has_association e.phase ≡ false → opened_by e p ≡ Some b → AllAct p.tag (begun b e) (noted Unnoted no_notes) (drop 1 p.chunks) t n v →
      (gap : Bool) → LeavesGap t gap → Arrives e d p (packet_ended (urged gap n) t) v
  Heard : (t : EndView) (n : Notes) (v : Verdict) → has_ports e.configuration p ≡ true → passes e.phase p ≡ true → has_association e.phase ≡ true →
      AllAct p.tag e no_notes p.chunks t n v → (gap : Bool) → LeavesGap t gap → Arrives e d p (at_its_end e n gap t) v

-- ---- what arrives at an endpoint at a time, as it reads: None if the bytes don't

-- The endpoint takes the time. Bytes that don't read are dropped for that; a packet arrives.
pub data Receives (e : EndView) (now : ℕ) (d : Draw) : Option Packet → EndView → Verdict → Type 0 where
  DroppedUnread : Receives e now d None (at_moment e now) (Dropped FAULT)
  ReadAs : (p : Packet) (t : EndView) (v : Verdict) → Arrives (at_moment e now) d p t v → Receives e now d (Some p) t v

-- the beginning of a packet, up to the chunk that wanted memory
abbrev pub cut_to : Packet → List ChunkMeaning → Packet
cut_to p front = record p { chunks = front }

-- A packet that is answered ends with its answer, so for no chunk after it can an allocation fail.
abbrev pub is_answer : Verdict → Bool
is_answer (Answer p) = true
is_answer (Dropped reason) = false
is_answer Taken = false

-- An allocation failed, at the first chunk or at a later one: all chunks before that one have acted; if there are none, the time alone was taken.
pub data IsCutShort (e : EndView) (now : ℕ) (d : Draw) : Option Packet → EndView → Type 0 where
  CutFirst : (p : Option Packet) → IsCutShort e now d p (at_moment e now)
  CutLater : (p : Packet) (y : ChunkMeaning) (front back : List ChunkMeaning) (x : ChunkMeaning) (t : EndView) (v : Verdict) →
      p.chunks ≡ (y ∷ front) ++ x ∷ back → Arrives (at_moment e now) d (cut_to p (y ∷ front)) t v → is_answer v ≡ false → IsCutShort e now d (Some p) t

-- What is dropped for its bytes, its ports or its tag wants no memory.
abbrev pub WantsNoMemory : EndView → (now : ℕ) → Draw → Option Packet → Type 0
WantsNoMemory e now d p = (t : EndView) × (reason : ℕ) × Receives e now d p t (Dropped reason) × ((reason ≡ FAULT) ⊎ (reason ≡ PORTS) ⊎ (reason ≡ TAG))
