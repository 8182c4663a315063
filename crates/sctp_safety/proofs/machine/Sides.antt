-- What no chunk, time or call changes of an endpoint: how it was set up, and its role.
use Rattle.std.proofs.Common.{◌≡◌, ℕ, Bool, true, false, List, refl, sym, subst, ◌∙◌}
use Rattle.sctp_model.specs.wire.Chunk.{ChunkMeaning, Data, IData, Init, InitAck, Sack, Heartbeat, HeartbeatAck, Abort, Shutdown, ShutdownAck, Error, CookieEcho, CookieAck, ShutdownComplete, ForwardTsn, IForwardTsn, Unknown}
use Rattle.sctp_model.specs.wire.Typed.{typed_in}
use Rattle.sctp_model.specs.wire.Unknown.{chunk_rule}
use Rattle.sctp_model.specs.wire.Packet.{Packet}
use Rattle.sctp_model.specs.end.EndView.{Aborted, EndView}
use Rattle.sctp_model.specs.end.Clock.{closed}
use Rattle.sctp_model.specs.end.Reports.{with_causes}
use Rattle.sctp_model.specs.end.Closing.{rested}
use Rattle.sctp_model.specs.end.PeerFaults.{GoesOn, Ends, Replies, Note}
use Rattle.sctp_model.specs.end.Opening.{AcceptedAck, EchoedAgain, CookieAcked}
use Rattle.sctp_model.specs.end.Beating.{beat_heard}
use Rattle.sctp_model.specs.end.Acting.{ReconfigComes, IsUnknown, Acts, ForwardComes, PieceComes, IsOld, SackStale, ShutdownStale, HeartbeatCounts, SackCounts, ShutdownCounts, Closes, SaysNothing, Crosses, Again, CompleteCompleted, unknown_causes, unknown_leaves}
use Rattle.sctp_safety.proofs.machine.Reconfigured.{parameters_same}
use Rattle.sctp_safety.proofs.machine.EndWords.{rested_cases}

-- the same end, as far as it was set up
pub record IsSameEnd (e t : EndView) : Type 0 where
  pub configuration : t.configuration ≡ e.configuration
  pub role : t.role ≡ e.role
  pub moment : t.moment ≡ e.moment

pub same_end : (e : EndView) → IsSameEnd e e
same_end e = record { configuration = refl; role = refl; moment = refl }

pub same_on : (e t u : EndView) → IsSameEnd e t → IsSameEnd t u → IsSameEnd e u
same_on e t u a b = record { configuration = b.configuration ∙ a.configuration; role = b.role ∙ a.role; moment = b.moment ∙ a.moment }

pub same_rested : (e : EndView) → IsSameEnd e (rested e)
same_rested e = rested_cases (IsSameEnd e) e (same_end e)
    (λ t h d. record { configuration = refl; role = refl; moment = refl }) (λ t h d. record { configuration = refl; role = refl; moment = refl })

-- ---- a chunk of an unknown type, whichever way it goes

pub record IsUnknownLeft (e : EndView) (k f : ℕ) (v : List ℕ) (t : EndView) : Type 0 where
  pub same : t ≡ with_causes (unknown_causes e k f v) e

pub unknown_goes : (e : EndView) (y : Note) (t : EndView) (k f : ℕ) (v : List ℕ) → GoesOn y t ≡ unknown_leaves (chunk_rule k).stop (with_causes (unknown_causes e k f v) e) → IsUnknownLeft e k f v t
unknown_goes e y t k f v h = go (chunk_rule k).stop h
  where
    go : (b : Bool) → GoesOn y t ≡ unknown_leaves b (with_causes (unknown_causes e k f v) e) → IsUnknownLeft e k f v t
    go true q = absurd (cc)
    go false q = record { same = cc }

pub unknown_ends : (e t : EndView) (k f : ℕ) (v : List ℕ) → Ends t ≡ unknown_leaves (chunk_rule k).stop (with_causes (unknown_causes e k f v) e) → IsUnknownLeft e k f v t
unknown_ends e t k f v h = go (chunk_rule k).stop h
  where
    go : (b : Bool) → Ends t ≡ unknown_leaves b (with_causes (unknown_causes e k f v) e) → IsUnknownLeft e k f v t
    go true q = record { same = cc }
    go false q = absurd (cc)

pub unknown_never_replies : (e t : EndView) (p : Packet) (k f : ℕ) (v : List ℕ) → Replies t p ≡ unknown_leaves (chunk_rule k).stop (with_causes (unknown_causes e k f v) e) → ⊥
unknown_never_replies e t p k f v h = go (chunk_rule k).stop h
  where
    go : (b : Bool) → Replies t p ≡ unknown_leaves b (with_causes (unknown_causes e k f v) e) → ⊥
    go true q = absurd (cc)
    go false q = absurd (cc)

-- ---- every chunk

pub goes_same : (e : EndView) (tag : ℕ) (x : ChunkMeaning) (y : Note) (t : EndView) → Acts e tag x (GoesOn y t) → IsSameEnd e t
goes_same e tag (Data p) y t (PieceComes _ _ _ _ _ _ _ _ _ _) = record { configuration = refl; role = refl; moment = refl }
goes_same e tag (IData p) y t (PieceComes _ _ _ _ _ _ _ _ _ _) = record { configuration = refl; role = refl; moment = refl }
goes_same e tag (Init m) y t h = absurd (cc)
goes_same e tag (InitAck m) y t (AcceptedAck _ _ _ _ _ _) = record { configuration = refl; role = refl; moment = refl }
goes_same e tag (Sack s) y t (SackStale _ _) = same_end e
goes_same e tag (Sack s) y t (SackCounts _ _) = record { configuration = refl; role = refl; moment = refl }
goes_same e tag (Heartbeat i) y t (HeartbeatCounts _) = record { configuration = refl; role = refl; moment = refl }
goes_same e tag (HeartbeatAck i) y t h = let q : t ≡ beat_heard e i = cc in subst (IsSameEnd e) (sym q) (record { configuration = refl; role = refl; moment = refl })
goes_same e tag (Abort b xs) y t h = absurd (cc)
goes_same e tag (Shutdown n) y t (ShutdownStale _ _ _ _ _) = record { configuration = refl; role = refl; moment = refl }
goes_same e tag (Shutdown n) y t (ShutdownCounts _ _ _ _ _) = record { configuration = refl; role = refl; moment = refl }
goes_same e tag (Shutdown n) y t (Crosses _ _) = record { configuration = refl; role = refl; moment = refl }
goes_same e tag (Shutdown n) y t (Again _ _) = record { configuration = refl; role = refl; moment = refl }
goes_same e tag ShutdownAck y t h = elim h [ ]
goes_same e tag (Error xs) y t (SaysNothing _) = same_end e
goes_same e tag (CookieEcho xs) y t (EchoedAgain _ _ _ _ _ _ _) = record { configuration = refl; role = refl; moment = refl }
goes_same e tag CookieAck y t (CookieAcked _ _ _) = record { configuration = refl; role = refl; moment = refl }
goes_same e tag (ShutdownComplete b) y t h = elim h [ ]
goes_same e tag (ForwardTsn m) y t (IsOld _ _ _ _ _ _ _) = record { configuration = refl; role = refl; moment = refl }
goes_same e tag (ForwardTsn m) y t (ForwardComes _ _ _ _ _ _ _) = record { configuration = refl; role = refl; moment = refl }
goes_same e tag (IForwardTsn m) y t (IsOld _ _ _ _ _ _ _) = record { configuration = refl; role = refl; moment = refl }
goes_same e tag (IForwardTsn m) y t (ForwardComes _ _ _ _ _ _ _) = record { configuration = refl; role = refl; moment = refl }
goes_same e tag (Unknown k f v) y t (ReconfigComes c takes cumulative) = let u = parameters_same c e (typed_in v) in record { configuration = u.configuration; role = u.role; moment = u.moment }
goes_same e tag (Unknown k f v) y t (IsUnknown _ off h) = let u = unknown_goes e y t k f v h in subst (IsSameEnd e) (sym u.same) (record { configuration = refl; role = refl; moment = refl })

pub ends_same : (e : EndView) (tag : ℕ) (x : ChunkMeaning) (t : EndView) → Acts e tag x (Ends t) → IsSameEnd e t
ends_same e tag (Data p) t h = elim h [ ]
ends_same e tag (IData p) t h = elim h [ ]
ends_same e tag (Init m) t h = absurd (cc)
ends_same e tag (InitAck m) t h = elim h [ ]
ends_same e tag (Sack s) t h = elim h [ ]
ends_same e tag (Heartbeat i) t h = elim h [ ]
ends_same e tag (HeartbeatAck i) t h = absurd (cc)
ends_same e tag (Abort b xs) t h = let q : t ≡ closed Aborted e = cc in subst (IsSameEnd e) (sym q) (record { configuration = refl; role = refl; moment = refl })
ends_same e tag (Shutdown n) t h = elim h [ ]
ends_same e tag ShutdownAck t h = elim h [ ]
ends_same e tag (Error xs) t (Closes _) = record { configuration = refl; role = refl; moment = refl }
ends_same e tag (CookieEcho xs) t h = elim h [ ]
ends_same e tag CookieAck t h = elim h [ ]
ends_same e tag (ShutdownComplete b) t (CompleteCompleted _) = record { configuration = refl; role = refl; moment = refl }
ends_same e tag (ForwardTsn m) t h = elim h [ ]
ends_same e tag (IForwardTsn m) t h = elim h [ ]
ends_same e tag (Unknown k f v) t (IsUnknown _ off h) = let u = unknown_ends e t k f v h in subst (IsSameEnd e) (sym u.same) (record { configuration = refl; role = refl; moment = refl })
