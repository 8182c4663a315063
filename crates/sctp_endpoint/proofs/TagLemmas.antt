-- A packet that is dropped for its bytes, its ports or its tag needs no memory: by a chunk only an INIT ACK with tag 0 is dropped so, and that stands
-- alone and allocates nothing.
use Rattle.std.proofs.Common.{◌≡◌, ℕ, ◌+◌, ◌<◌, ◌⊎◌, inl, inr, Bool, true, false, List, [], ◌∷◌, ◌++◌, drop, Option, Some, None, refl, sym, subst, ◌∙◌, arith}
use Rattle.std.specs.Prelude.{if◌then◌else◌}
use Rattle.sctp_model.specs.wire.Unknown.{chunk_rule}
use Rattle.sctp_model.specs.wire.Chunk.{ChunkMeaning, Data, IData, Init, InitAck, Sack, Heartbeat, HeartbeatAck, Abort, Shutdown, ShutdownAck, Error, CookieEcho, CookieAck, ShutdownComplete, ForwardTsn, IForwardTsn, Unknown, PieceMeaning, SackMeaning, ForwardMeaning, InitMeaning, size_of_chunk}
use Rattle.sctp_model.specs.wire.Packet.{Packet}
use Rattle.sctp_model.specs.wire.Places.{stands_alone, never_follows, misplaced_behind, ArePlaced}
use Rattle.sctp_model.specs.messages.Format.{Format, Plain, Interleaved}
use Rattle.sctp_model.specs.end.EndView.{Draw, EndView, Aborted, has_association}
use Rattle.sctp_model.specs.end.Clock.{at_moment, closed}
use Rattle.sctp_model.specs.end.Reports.{with_causes}
use Rattle.sctp_model.specs.end.Closing.{rested}
use Rattle.sctp_model.specs.end.PeerFaults.{FAULT, PORTS, TAG, STATE, COOKIE, Unnoted, After, GoesOn, Ends, PassedOver, Replies, Drops}
use Rattle.sctp_model.specs.end.Opening.{begun, InitAckActs, NotCalling, NoTag, RefusedAck, AcceptedAck, EchoActs, NotHere, EchoedAgain, IsStrange, CookieAckActs, NotEchoing, CookieAcked}
use Rattle.sctp_model.specs.end.Acting.{Acts, PieceActs, PieceNotHeard, PieceEmpty, WrongFormat, Misnumbered, PieceComes, ForwardActs, ForwardNotHeard, WrongKind, IsBad, IsOld, ForwardComes, SackActs, SackNotHeard, SackStale, SackWrong, SackCounts, HeartbeatActs, HeartbeatNotHeard, HeartbeatCounts, ErrorActs, Closes, SaysNothing, ShutdownActs, ShutdownNotOpen, ShutdownWrong, ShutdownStale, ShutdownCounts, Crosses, Again, ShutdownAckActs, AckNotAwaited, AckCompletes, CompleteActs, CompleteNotAwaited, CompleteCompleted, unknown_leaves, unknown_causes, unknown_acts, OtherActs, ReconfigComes, IsUnknown}
use Rattle.sctp_model.specs.end.Beating.{beat_heard}
use Rattle.sctp_model.specs.end.Passing.{has_ports, passes}
use Rattle.sctp_model.specs.end.Strays.{Verdict, Taken, Dropped, Answer, opened_by, stray_verdict}
use Rattle.sctp_model.specs.end.Arriving.{AllAct, NoneLeft, Next, Passes, Last, EndsAnswered, Stopped, Arrives, Elsewhere, NotOurs, Stray, CookieBegins, Heard, Notes, noted, no_notes, verdict_of, is_answer, Receives, ReadAs, WantsNoMemory}
use Rattle.sctp_endpoint.specs.inner.Acted.{HasTag}

-- ---- where chunks may stand

abbrev pub HaveTags : List ChunkMeaning → Type 0
HaveTags [] = Unit {0}
HaveTags (m ∷ ms) = HasTag m × HaveTags ms

tagged_unless : (m : ChunkMeaning) → never_follows m ≡ false → HasTag m
tagged_unless (InitAck m) off = absurd (cc)
tagged_unless m off = tt

tagged_beside : (m : ChunkMeaning) → stands_alone m ≡ false → HasTag m
tagged_beside (InitAck m) off = absurd (cc)
tagged_beside m off = tt

none_else : (b : Bool) (n : ℕ) (o : Option ℕ) → (if b then Some n else o) ≡ None → (b ≡ false) × (o ≡ None)
none_else true n o is = absurd (cc)
none_else false n o is = (refl, is)

tagged_behind : (n : ℕ) (ms : List ChunkMeaning) → misplaced_behind n ms ≡ None → HaveTags ms
tagged_behind n [] placed = tt
tagged_behind n (m ∷ ms) placed =
    let here = none_else (never_follows m) n (misplaced_behind (n + size_of_chunk m) ms) placed in
    (tagged_unless m here.0, tagged_behind (n + size_of_chunk m) ms here.1)

-- of several chunks none is an INIT ACK
pub several_tagged : (m next : ChunkMeaning) (ms : List ChunkMeaning) → ArePlaced (m ∷ next ∷ ms) → HaveTags (m ∷ next ∷ ms)
several_tagged m next ms placed =
    let here = none_else (stands_alone m) 0 (misplaced_behind (size_of_chunk m) (next ∷ ms)) placed in
    (tagged_beside m here.0, tagged_behind (size_of_chunk m) (next ∷ ms) here.1)

-- where one chunk has a tag if it needs one, all have
pub all_tagged : (front back : List ChunkMeaning) (m : ChunkMeaning) → ArePlaced (front ++ m ∷ back) → HasTag m → HaveTags (front ++ m ∷ back)
all_tagged [] [] m placed tagged = (tagged, tt)
all_tagged [] (next ∷ back) m placed tagged = several_tagged m next back placed
all_tagged (first ∷ []) back m placed tagged = several_tagged first m back placed
all_tagged (first ∷ next ∷ front) back m placed tagged = several_tagged first next (front ++ m ∷ back) placed

-- behind the first one none is an INIT ACK
pub others_tagged : (ms : List ChunkMeaning) → ArePlaced ms → HaveTags (drop 1 ms)
others_tagged [] placed = tt
others_tagged (m ∷ []) placed = tt
others_tagged (m ∷ next ∷ ms) placed = (several_tagged m next ms placed).1

-- ---- why a chunk drops its packet

-- it is dropped for the state or for its cookie, if at all
abbrev pub IsLate : Verdict → Type 0
IsLate (Dropped reason) = (reason ≡ STATE) ⊎ (reason ≡ COOKIE)
IsLate Taken = Unit {0}
IsLate (Answer p) = Unit {0}

-- the same of what a chunk leaves
abbrev pub LeavesLate : After → Type 0
LeavesLate (Drops reason) = (reason ≡ STATE) ⊎ (reason ≡ COOKIE)
LeavesLate (GoesOn k e) = Unit {0}
LeavesLate (Ends e) = Unit {0}
LeavesLate PassedOver = Unit {0}
LeavesLate (Replies e p) = Unit {0}

late_unknown : (b : Bool) (e : EndView) → LeavesLate (unknown_leaves b e)
late_unknown true e = tt
late_unknown false e = tt

late_ack : (e : EndView) (m : InitMeaning) (a : After) → 0 < m.tag → InitAckActs e m a → LeavesLate a
late_ack e m a some (NotCalling _) = tt
late_ack e m a some (NoTag d phase none) = absurd (let z = none in let s = some in omega (arith, z, s))
late_ack e m a some (RefusedAck _ _ _ _ _) = tt
late_ack e m a some (AcceptedAck _ _ _ _ _ _) = tt

late_echo : (e : EndView) (tag : ℕ) (xs : List ℕ) (a : After) → EchoActs e tag xs a → LeavesLate a
late_echo e tag xs a (NotHere _) = tt
late_echo e tag xs a (EchoedAgain _ _ _ _ _ _ _) = tt
late_echo e tag xs a (IsStrange _ _ _ _ _ _ _) = inr refl

late_piece : (f : Format) (e : EndView) (p : PieceMeaning) (a : After) → PieceActs f e p a → LeavesLate a
late_piece f e p a (PieceNotHeard _) = tt
late_piece f e p a (PieceEmpty _ _ _ _ _) = tt
late_piece f e p a (WrongFormat _ _ _ _ _ _) = tt
late_piece f e p a (Misnumbered _ _ _ _ _ _ _ _ _) = tt
late_piece f e p a (PieceComes _ _ _ _ _ _ _ _ _ _) = tt

late_forward : (f : Format) (e : EndView) (m : ForwardMeaning) (a : After) → ForwardActs f e m a → LeavesLate a
late_forward f e m a (ForwardNotHeard _) = tt
late_forward f e m a (WrongKind _ _ _ _ _) = tt
late_forward f e m a (IsBad _ _ _ _ _ _ _) = tt
late_forward f e m a (IsOld _ _ _ _ _ _ _) = tt
late_forward f e m a (ForwardComes _ _ _ _ _ _ _) = tt

late_sack : (e : EndView) (s : SackMeaning) (a : After) → SackActs e s a → LeavesLate a
late_sack e s a (SackNotHeard _) = tt
late_sack e s a (SackStale _ _) = tt
late_sack e s a (SackWrong _ _ _ _ _) = tt
late_sack e s a (SackCounts _ _) = tt

late_heartbeat : (e : EndView) (info : List ℕ) (a : After) → HeartbeatActs e info a → LeavesLate a
late_heartbeat e info a (HeartbeatNotHeard _) = tt
late_heartbeat e info a (HeartbeatCounts _) = tt

late_error : (e : EndView) (causes : List ℕ) (a : After) → ErrorActs e causes a → LeavesLate a
late_error e causes a (Closes _) = tt
late_error e causes a (SaysNothing _) = tt

late_shutdown : (e : EndView) (tsn : ℕ) (a : After) → ShutdownActs e tsn a → LeavesLate a
late_shutdown e tsn a (ShutdownNotOpen _) = tt
late_shutdown e tsn a (ShutdownWrong _ _ _ _ _) = tt
late_shutdown e tsn a (ShutdownStale _ _ _ _ _) = tt
late_shutdown e tsn a (ShutdownCounts _ _ _ _ _) = tt
late_shutdown e tsn a (Crosses _ _) = tt
late_shutdown e tsn a (Again _ _) = tt

late_shutdown_ack : (e : EndView) (a : After) → ShutdownAckActs e a → LeavesLate a
late_shutdown_ack e a (AckNotAwaited _) = tt
late_shutdown_ack e a (AckCompletes _ _ _ _) = tt

late_complete : (e : EndView) (a : After) → CompleteActs e a → LeavesLate a
late_complete e a (CompleteNotAwaited _) = tt
late_complete e a (CompleteCompleted _) = tt

late_cookie_ack : (e : EndView) (a : After) → CookieAckActs e a → LeavesLate a
late_cookie_ack e a (NotEchoing _) = tt
late_cookie_ack e a (CookieAcked _ _ _) = tt

late_as : (a b : After) → a ≡ b → LeavesLate b → LeavesLate a
late_as a b is late = subst LeavesLate (sym is) late

late_other : (e : EndView) (kind flags : ℕ) (value : List ℕ) (a : After) → OtherActs e kind flags value a → LeavesLate a
late_other e kind flags value a (ReconfigComes _ _ _) = tt
late_other e kind flags value a (IsUnknown _ _ is) =
    late_as a (unknown_acts e kind flags value) is (late_unknown (chunk_rule kind).stop (with_causes (unknown_causes e kind flags value) e))

pub late_chunk : (e : EndView) (tag : ℕ) (m : ChunkMeaning) (a : After) → HasTag m → Acts e tag m a → LeavesLate a
late_chunk e tag (Data p) a tagged acts = late_piece Plain e p a acts
late_chunk e tag (IData p) a tagged acts = late_piece Interleaved e p a acts
late_chunk e tag (Init m) a tagged acts = late_as a PassedOver acts tt
late_chunk e tag (InitAck m) a tagged acts = late_ack e m a tagged acts
late_chunk e tag (Sack s) a tagged acts = late_sack e s a acts
late_chunk e tag (Heartbeat info) a tagged acts = late_heartbeat e info a acts
late_chunk e tag (HeartbeatAck info) a tagged acts = late_as a (GoesOn Unnoted (beat_heard e info)) acts tt
late_chunk e tag (Abort t causes) a tagged acts = late_as a (Ends (closed Aborted e)) acts tt
late_chunk e tag (Shutdown tsn) a tagged acts = late_shutdown e tsn a acts
late_chunk e tag ShutdownAck a tagged acts = late_shutdown_ack e a acts
late_chunk e tag (Error causes) a tagged acts = late_error e causes a acts
late_chunk e tag (CookieEcho cookie) a tagged acts = late_echo e tag cookie a acts
late_chunk e tag CookieAck a tagged acts = late_cookie_ack e a acts
late_chunk e tag (ShutdownComplete t) a tagged acts = late_complete e a acts
late_chunk e tag (ForwardTsn m) a tagged acts = late_forward Plain e m a acts
late_chunk e tag (IForwardTsn m) a tagged acts = late_forward Interleaved e m a acts
late_chunk e tag (Unknown kind flags value) a tagged acts = late_other e kind flags value a acts

-- ---- why chunks drop their packet

late_listed : (b : Bool) → IsLate (verdict_of b)
late_listed true = tt
late_listed false = inl refl

pub late_all : (tag : ℕ) (e : EndView) (k : Notes) (ms : List ChunkMeaning) (t : EndView) (n : Notes) (x : Verdict) → HaveTags ms
    → AllAct tag e k ms t n x → IsLate x
late_all tag e k ms t n x tagged (NoneLeft _ _) = late_listed k.listed
late_all tag e k ms t n x tagged (Next _ mid _ note _ _ m more _ acts rest) = late_all tag (rested mid) (noted note k) more t n x tagged.1 rest
late_all tag e k ms t n x tagged (Passes _ _ _ _ m more _ acts rest) = late_all tag e k more t n x tagged.1 rest
late_all tag e k ms t n x tagged (Last _ _ _ _ _ _) = tt
late_all tag e k ms t n x tagged (EndsAnswered _ _ _ _ _ _ _) = tt
late_all tag e k ms t n x tagged (Stopped _ _ m more reason acts) = late_chunk e tag m (Drops reason) tagged.0 acts

-- ---- why a packet is dropped

-- an answer is no drop
late_answer : (x : Verdict) → is_answer x ≡ true → IsLate x
late_answer (Answer p) is = tt
late_answer (Dropped reason) is = absurd (cc)
late_answer Taken is = tt

clash : {b : Bool} → b ≡ true → b ≡ false → ⊥
clash {b} on off = let q : true ≡ false = sym on ∙ off in absurd (cc)

-- at an end with an association
pub late_heard : (e : EndView) (d : Draw) (p : Packet) (t : EndView) (x : Verdict) → has_ports e.configuration p ≡ true → passes e.phase p ≡ true
    → has_association e.phase ≡ true → HaveTags p.chunks → Arrives e d p t x → IsLate x
late_heard e d p t x ports tag has tagged (Elsewhere off) = absurd (clash ports off)
late_heard e d p t x ports tag has tagged (NotOurs _ off) = absurd (clash tag off)
late_heard e d p t x ports tag has tagged (Stray _ _ off _) = absurd (clash has off)
late_heard e d p t x ports tag has tagged (CookieBegins _ _ _ _ _ _ off _ _ _ _) = absurd (clash has off)
late_heard e d p t x ports tag has tagged (Heard u n _ _ _ _ acts _ _) = late_all p.tag e no_notes p.chunks u n x tagged acts

-- at an end without one, where a stray is answered or opens it
pub late_outside : (e : EndView) (d : Draw) (p : Packet) (t : EndView) (x : Verdict) → has_ports e.configuration p ≡ true → passes e.phase p ≡ true
    → has_association e.phase ≡ false → (opened_by e p ≡ None → is_answer (stray_verdict e d p) ≡ true) → HaveTags (drop 1 p.chunks)
    → Arrives e d p t x → IsLate x
late_outside e d p t x ports tag has answered tagged (Elsewhere off) = absurd (clash ports off)
late_outside e d p t x ports tag has answered tagged (NotOurs _ off) = absurd (clash tag off)
late_outside e d p t x ports tag has answered tagged (Stray _ _ _ none) = late_answer (stray_verdict e d p) (answered none)
late_outside e d p t x ports tag has answered tagged (CookieBegins b u n _ _ _ _ _ acts _ _) =
    late_all p.tag (begun b e) (noted Unnoted no_notes) (drop 1 p.chunks) u n x tagged acts
late_outside e d p t x ports tag has answered tagged (Heard _ _ _ _ _ on _ _ _) = absurd (clash on has)

-- neither is what is dropped before its chunks are looked at
pub late_never_early : (reason : ℕ) → IsLate (Dropped reason) → (reason ≡ FAULT) ⊎ (reason ≡ PORTS) ⊎ (reason ≡ TAG) → ⊥
late_never_early reason (inl late) (inl early) = let a = late in let b = early in omega (arith, a, b)
late_never_early reason (inl late) (inr (inl early)) = let a = late in let b = early in omega (arith, a, b)
late_never_early reason (inl late) (inr (inr early)) = let a = late in let b = early in omega (arith, a, b)
late_never_early reason (inr late) (inl early) = let a = late in let b = early in omega (arith, a, b)
late_never_early reason (inr late) (inr (inl early)) = let a = late in let b = early in omega (arith, a, b)
late_never_early reason (inr late) (inr (inr early)) = let a = late in let b = early in omega (arith, a, b)

-- a packet that is never dropped early isn't one that wants no memory
pub wants : (e : EndView) (now : ℕ) (d : Draw) (p : Packet) → ((t : EndView) (x : Verdict) → Arrives (at_moment e now) d p t x → IsLate x)
    → WantsNoMemory e now d (Some p) → ⊥
wants e now d p late w = late_never_early w.1 (by w.0 w.1 w.2) w.3
  where
    by : (t : EndView) (reason : ℕ) → Receives e now d (Some p) t (Dropped reason) → IsLate (Dropped reason)
    by t reason (ReadAs _ _ _ arrives) = late t (Dropped reason) arrives
