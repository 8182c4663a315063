-- A packet at a listener that is made for it.
use Rattle.std.proofs.Common.{◌≡◌, ℕ, max, Bool, true, false, not, ◌||◌, ◌==◌, List, [], ◌∷◌, Result, Ok, Err, IfOk, refl, subst, arith}
use Rattle.sctp_model.specs.wire.Chunk.{ChunkMeaning, Data, IData, Init, InitAck, Sack, Heartbeat, HeartbeatAck, Abort, Shutdown, ShutdownAck, Error, CookieEcho, CookieAck, ShutdownComplete, ForwardTsn, IForwardTsn, Unknown}
use Rattle.sctp_model.specs.wire.Packet.{Packet}
use Rattle.sctp_model.specs.end.Sealing.{Sealing}
use Rattle.sctp_model.specs.end.EndView.{Configuration, Draw, EndView, Listening, has_association}
use Rattle.sctp_model.specs.end.Passing.{has_ports, passes, passes_chunks}
use Rattle.sctp_model.specs.end.Strays.{Verdict, opened_by, stray_verdict}
use Rattle.sctp_model.specs.end.Arriving.{Arrives, Stray}
use Rattle.sctp_values.specs.declared.no_memory.NoMemory.{NoMemory}
use Rattle.sctp_wire.specs.Starts.{starts_with_init}
use Rattle.sctp_opening.specs.Cookies.{IsAt}
use Rattle.sctp_opening.specs.Told.{IsTold}
use Rattle.sctp_opening.specs.declared.outside.Stray.{Stray as Told}
use Rattle.sctp_opening.specs.declared.outside.Stray.TheVariants as stray
use Rattle.sctp_socket.specs.Routing.{listener_at}
use Rattle.sctp_socket.specs.Unkept.{Leaves}

-- its time is the one at which it is made
zero_max : (n : ℕ) → max 0 n ≡ n
zero_max n = omega arith

pub is_there : (c : Configuration) (s : Sealing) (now : ℕ) → IsAt c now (listener_at c s now)
is_there c s now = record { configured = refl; now = zero_max now }

-- a listener looks into a packet unless it is an INIT with a tag
passes_there : (tag : ℕ) (xs : List ChunkMeaning) → (not (starts_with_init xs) || (tag == 0)) ≡ passes_chunks Listening tag xs
passes_there tag [] = refl
passes_there tag (Init m ∷ xs) = refl
passes_there tag (Data p ∷ xs) = refl
passes_there tag (IData p ∷ xs) = refl
passes_there tag (InitAck m ∷ xs) = refl
passes_there tag (Sack m ∷ xs) = refl
passes_there tag (Heartbeat i ∷ xs) = refl
passes_there tag (HeartbeatAck i ∷ xs) = refl
passes_there tag (Abort t causes ∷ xs) = refl
passes_there tag (Shutdown n ∷ xs) = refl
passes_there tag (ShutdownAck ∷ xs) = refl
passes_there tag (Error causes ∷ xs) = refl
passes_there tag (CookieEcho cookie ∷ xs) = refl
passes_there tag (CookieAck ∷ xs) = refl
passes_there tag (ShutdownComplete t ∷ xs) = refl
passes_there tag (ForwardTsn m ∷ xs) = refl
passes_there tag (IForwardTsn m ∷ xs) = refl
passes_there tag (Unknown k f v ∷ xs) = refl

pub passes_init : (tag : ℕ) (xs : List ChunkMeaning) → starts_with_init xs ≡ true → (tag == 0) ≡ passes_chunks Listening tag xs
passes_init tag xs h = subst (λ (b : Bool). (not b || (tag == 0)) ≡ passes_chunks Listening tag xs) h (passes_there tag xs)

pub passes_other : (tag : ℕ) (xs : List ChunkMeaning) → starts_with_init xs ≡ false → true ≡ passes_chunks Listening tag xs
passes_other tag xs h = subst (λ (b : Bool). (not b || (tag == 0)) ≡ passes_chunks Listening tag xs) h (passes_there tag xs)

told_leaves : (e : EndView) (d : Draw) (p : Packet) (told : Told) → has_ports e.configuration p ≡ true → passes e.phase p ≡ true → has_association e.phase ≡ false →
    IsTold told (opened_by e p) (stray_verdict e d p) → Leaves e d p told
told_leaves e d p (stray.Begins content) ports tag none h = (record { ports = ports; tag = tag }, h)
told_leaves e d p (stray.Dropped reason) ports tag none h = subst (λ (v : Verdict). Arrives e d p e v) h.1 (Stray ports tag none h.0)
told_leaves e d p (stray.Answered packet) ports tag none h = (stray_verdict e d p, Stray ports tag none h.0, h.1)

-- the same of a result
pub result_leaves : (e : EndView) (d : Draw) (p : Packet) (r : Result Told NoMemory) → has_ports e.configuration p ≡ true → passes e.phase p ≡ true →
    has_association e.phase ≡ false → IfOk r (λ told. IsTold told (opened_by e p) (stray_verdict e d p)) → IfOk r (λ told. Leaves e d p told)
result_leaves e d p (Ok told) ports tag none h = told_leaves e d p told ports tag none h
result_leaves e d p (Err why) ports tag none h = tt
