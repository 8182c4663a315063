-- What an endpoint's answers hold: a listener's INIT ACK apart, never a chunk of the opening.
use Rattle.std.proofs.Common.{◌≡◌, ℕ, ◌==◌, ◌⊎◌, Bool, true, false, List, [], ◌∷◌, Option, Some, None, inl, inr, refl, sym, subst}
use Rattle.std.specs.Prelude.{if◌then◌else◌}
use Rattle.sctp_model.specs.numbers.Lists.{Has}
use Rattle.sctp_model.specs.wire.Chunk.{InitMeaning, ChunkMeaning, Data, IData, Init, InitAck, Sack, Heartbeat, HeartbeatAck, Abort, Shutdown, ShutdownAck, Error, CookieEcho, CookieAck, ShutdownComplete, ForwardTsn, IForwardTsn, Unknown}
use Rattle.sctp_model.specs.wire.Packet.{Packet}
use Rattle.sctp_model.specs.end.Sealing.{Sealing}
use Rattle.sctp_model.specs.end.EndView.{Draw, Configuration, EndView}
use Rattle.sctp_model.specs.end.Reports.{item, INVALID_PARAMETER}
use Rattle.sctp_model.specs.end.PeerFaults.{Replies, packet_to, abort_for}
use Rattle.sctp_model.specs.end.Opening.{RefusedAck, CookieRead, CookieOpens, CookieLate, Strange, cookie_read, has_no_stream, init_ack}
use Rattle.sctp_model.specs.end.Acting.{IsUnknown, Acts, PieceEmpty, WrongFormat, SackWrong, ShutdownWrong, AckCompletes, WrongKind, IsBad, Misnumbered}
use Rattle.sctp_model.specs.end.Strays.{Verdict, Dropped, Answer, holds_abort, listens, init_verdict, cookie_verdict, echo_verdict, first_verdict, chunks_verdict, stray_verdict}
use Rattle.sctp_model.specs.end.Arriving.{AllAct, NoneLeft, Next, Last, EndsAnswered, Stopped, Notes, noted, verdict_of}
use Rattle.sctp_model.specs.end.Arriving.{Passes}
use Rattle.sctp_safety.proofs.machine.Sides.{unknown_never_replies}

-- INIT, INIT ACK, COOKIE ECHO and COOKIE ACK open an association
abbrev pub opens_association : ChunkMeaning → Bool
opens_association (Init m) = true
opens_association (InitAck m) = true
opens_association (CookieEcho cookie) = true
opens_association CookieAck = true
opens_association x = false

-- none of these is in the packet
abbrev pub OpensNothing : Packet → Type 0
OpensNothing p = (x : ChunkMeaning) → Has p.chunks x → opens_association x ≡ false

-- a packet of one chunk
pub one_chunk : (c : Configuration) (tag : ℕ) (y : ChunkMeaning) → opens_association y ≡ false → OpensNothing (packet_to c tag y)
one_chunk c tag y off x (inl e) = subst (λ (z : ChunkMeaning). opens_association z ≡ false) e off
one_chunk c tag y off x (inr none) = elim none [ ]

-- ---- an answer of an endpoint with an association

pub replies_nothing : (e : EndView) (tag : ℕ) (x : ChunkMeaning) (t : EndView) (p : Packet) → Acts e tag x (Replies t p) → OpensNothing p
replies_nothing e tag (Data q) t p (PieceEmpty u _ _ _ _) = one_chunk e.configuration u.peer _ refl
replies_nothing e tag (Data q) t p (WrongFormat u _ _ _ _ _) = one_chunk e.configuration u.peer _ refl
replies_nothing e tag (Data q) t p (Misnumbered u _ _ _ _ _ _ _ _) = one_chunk e.configuration u.peer _ refl
replies_nothing e tag (IData q) t p (PieceEmpty u _ _ _ _) = one_chunk e.configuration u.peer _ refl
replies_nothing e tag (IData q) t p (WrongFormat u _ _ _ _ _) = one_chunk e.configuration u.peer _ refl
replies_nothing e tag (IData q) t p (Misnumbered u _ _ _ _ _ _ _ _) = one_chunk e.configuration u.peer _ refl
replies_nothing e tag (Init m) t p h = absurd (cc)
replies_nothing e tag (InitAck m) t p (RefusedAck _ _ _ _ _) = one_chunk e.configuration m.tag _ refl
replies_nothing e tag (Sack s) t p (SackWrong u _ _ _ _) = one_chunk e.configuration u.peer _ refl
replies_nothing e tag (Heartbeat i) t p h = elim h [ ]
replies_nothing e tag (HeartbeatAck i) t p h = absurd (cc)
replies_nothing e tag (Abort b xs) t p h = absurd (cc)
replies_nothing e tag (Shutdown n) t p (ShutdownWrong u _ _ _ _) = one_chunk e.configuration u.peer _ refl
replies_nothing e tag ShutdownAck t p (AckCompletes u _ _ _) = one_chunk e.configuration u.peer _ refl
replies_nothing e tag (Error xs) t p h = elim h [ ]
replies_nothing e tag (CookieEcho xs) t p h = elim h [ ]
replies_nothing e tag CookieAck t p h = elim h [ ]
replies_nothing e tag (ShutdownComplete b) t p h = elim h [ ]
replies_nothing e tag (ForwardTsn m) t p (WrongKind u _ _ _ _) = one_chunk e.configuration u.peer _ refl
replies_nothing e tag (ForwardTsn m) t p (IsBad u _ _ _ _ _ _) = one_chunk e.configuration u.peer _ refl
replies_nothing e tag (IForwardTsn m) t p (WrongKind u _ _ _ _) = one_chunk e.configuration u.peer _ refl
replies_nothing e tag (IForwardTsn m) t p (IsBad u _ _ _ _ _ _) = one_chunk e.configuration u.peer _ refl
replies_nothing e tag (Unknown k f v) t p (IsUnknown _ off h) = absurd (unknown_never_replies e t p k f v h)

no_answer : (b : Bool) (p : Packet) → verdict_of b ≡ Answer p → ⊥
no_answer true p q = absurd (cc)
no_answer false p q = absurd (cc)

-- the verdict on the chunks of a packet, if it is an answer
pub acts_answer : (tag : ℕ) (e : EndView) (b : Notes) (xs : List ChunkMeaning) (t : EndView) (m : Notes) (v : Verdict) → AllAct tag e b xs t m v →
    (p : Packet) → v ≡ Answer p → OpensNothing p
acts_answer tag e b xs t m v (NoneLeft _ _) p q = absurd (no_answer b.listed p q)
acts_answer tag e b xs t m v (Next _ mid _ y _ _ x ys _ act rest) p q = acts_answer tag _ (noted y b) ys t m v rest p q
acts_answer tag e b xs t m v (Passes _ _ _ _ x ys _ act rest) p q = acts_answer tag e b ys t m v rest p q
acts_answer tag e b xs t m v (Last _ _ _ x ys act) p q = absurd (cc)
acts_answer tag e b xs t m v (EndsAnswered _ _ _ x ys r act) p q = let s : r ≡ p = cc in subst OpensNothing s (replies_nothing e tag x t r act)
acts_answer tag e b xs t m v (Stopped _ _ x ys n act) p q = absurd (cc)

-- ---- an answer of an endpoint without one

-- The answer to an INIT at a listener: an INIT ACK to the tag that it asks for.
pub record AnswersInit (e : EndView) (d : Draw) (p : Packet) (r : Packet) : Type 0 where
  pub seal : Sealing
  pub init : InitMeaning
  pub listening : listens e ≡ Some seal
  pub held : Has p.chunks (Init init)
  pub answer : r ≡ packet_to e.configuration init.tag (init_ack seal e d init)

pub stray_answer : (e : EndView) (d : Draw) (p : Packet) (r : Packet) → stray_verdict e d p ≡ Answer r → OpensNothing r ⊎ AnswersInit e d p r
stray_answer e d p r is = by_chunks p.chunks refl is
  where
    plain : (tag : ℕ) (y : ChunkMeaning) → opens_association y ≡ false → Answer (packet_to e.configuration tag y) ≡ Answer r → OpensNothing r ⊎ AnswersInit e d p r
    plain tag y off q = let s : packet_to e.configuration tag y ≡ r = cc in inl (subst OpensNothing s (one_chunk e.configuration tag y off))

    by_init : (m : InitMeaning) → Has p.chunks (Init m) → (o : Option Sealing) → listens e ≡ o → init_verdict o e d m ≡ Answer r → OpensNothing r ⊎ AnswersInit e d p r
    by_init m here None l q = plain m.tag (Abort false []) refl q
    by_init m here (Some z) l q = go (has_no_stream m) q
      where
        go : (b : Bool) → (if b then Answer (packet_to e.configuration m.tag (abort_for (item INVALID_PARAMETER []))) else Answer (packet_to e.configuration m.tag (init_ack z e d m))) ≡ Answer r → OpensNothing r ⊎ AnswersInit e d p r
        go true h = plain m.tag (abort_for (item INVALID_PARAMETER [])) refl h
        go false h = inr (record { seal = z; init = m; listening = l; held = here; answer = sym cc })

    by_cookie : (c : CookieRead) → cookie_verdict e c ≡ Answer r → OpensNothing r ⊎ AnswersInit e d p r
    by_cookie (CookieLate b) q = plain b.caller.tag _ refl q
    by_cookie (CookieOpens b) q = absurd (cc)
    by_cookie Strange q = absurd (cc)

    by_echo : (o : Option Sealing) (cookie : List ℕ) → echo_verdict o e p.tag cookie ≡ Answer r → OpensNothing r ⊎ AnswersInit e d p r
    by_echo None cookie q = plain p.tag (Abort true []) refl q
    by_echo (Some z) cookie q = by_cookie (cookie_read z e p.tag cookie) q

    by_first : (x : ChunkMeaning) → Has p.chunks x → first_verdict e d p.tag x ≡ Answer r → OpensNothing r ⊎ AnswersInit e d p r
    by_first (Init m) here q = go (m.tag == 0) q
      where
        go : (b : Bool) → (if b then Dropped 3 else init_verdict (listens e) e d m) ≡ Answer r → OpensNothing r ⊎ AnswersInit e d p r
        go true h = absurd (cc)
        go false h = by_init m here (listens e) refl h
    by_first (CookieEcho cookie) here q = by_echo (listens e) cookie q
    by_first ShutdownAck here q = plain p.tag (ShutdownComplete true) refl q
    by_first (ShutdownComplete t) here q = absurd (cc)
    by_first CookieAck here q = absurd (cc)
    by_first (InitAck m) here q = absurd (cc)
    by_first (Error xs) here q = absurd (cc)
    by_first (Unknown k f v) here q = absurd (cc)
    by_first (Abort t xs) here q = absurd (cc)
    by_first (Data y) here q = plain p.tag (Abort true []) refl q
    by_first (IData y) here q = plain p.tag (Abort true []) refl q
    by_first (Sack s) here q = plain p.tag (Abort true []) refl q
    by_first (Heartbeat i) here q = plain p.tag (Abort true []) refl q
    by_first (HeartbeatAck i) here q = plain p.tag (Abort true []) refl q
    by_first (Shutdown n) here q = plain p.tag (Abort true []) refl q
    by_first (ForwardTsn m) here q = plain p.tag (Abort true []) refl q
    by_first (IForwardTsn m) here q = plain p.tag (Abort true []) refl q

    by_chunks : (xs : List ChunkMeaning) → p.chunks ≡ xs → chunks_verdict e d p.tag xs ≡ Answer r → OpensNothing r ⊎ AnswersInit e d p r
    by_chunks [] same q = absurd (cc)
    by_chunks (x ∷ xs) same q = go (holds_abort (x ∷ xs)) q
      where
        go : (b : Bool) → (if b then Dropped 4 else first_verdict e d p.tag x) ≡ Answer r → OpensNothing r ⊎ AnswersInit e d p r
        go true h = absurd (cc)
        go false h = by_first x (subst (λ (ys : List ChunkMeaning). Has ys x) (sym same) (inl refl)) h
