-- What an endpoint answers to a packet, whoever sent it, opens an association or ends one: it says nothing of a direction.
use Rattle.std.proofs.Common.{◌≡◌, ℕ, ◌==◌, Bool, true, false, List, [], ◌∷◌, Option, Some, None, inl, inr, refl, subst, if◌then◌else◌}
use Rattle.sctp_model.specs.wire.Chunk.{InitMeaning, ChunkMeaning, Data, IData, Init, InitAck, Sack, Heartbeat, HeartbeatAck, Abort, Shutdown, ShutdownAck, Error, CookieEcho, CookieAck, ShutdownComplete, ForwardTsn, IForwardTsn, Unknown}
use Rattle.sctp_model.specs.wire.Packet.{Packet}
use Rattle.sctp_model.specs.end.Sealing.{Sealing}
use Rattle.sctp_model.specs.end.EndView.{Draw, EndView}
use Rattle.sctp_model.specs.end.PeerFaults.{TAG, STATE, Replies, packet_to, abort_for, Unnoted}
use Rattle.sctp_model.specs.end.Reports.{item, INVALID_PARAMETER}
use Rattle.sctp_model.specs.end.Opening.{RefusedAck, CookieRead, CookieOpens, CookieLate, Strange, cookie_read, has_no_stream, init_ack}
use Rattle.sctp_model.specs.end.Acting.{IsUnknown, Acts, PieceEmpty, WrongFormat, WrongKind, IsBad, SackWrong, ShutdownWrong, AckCompletes, Misnumbered}
use Rattle.sctp_model.specs.end.Strays.{Verdict, Dropped, Answer, holds_abort, listens, init_verdict, cookie_verdict, echo_verdict, first_verdict, chunks_verdict}
use Rattle.sctp_model.specs.end.Arriving.{Arrives, Elsewhere, NotOurs, Stray, CookieBegins, Heard, noted, no_notes}
use Rattle.sctp_safety.proofs.machine.Sides.{unknown_never_replies}
use Rattle.sctp_safety.proofs.machine.EndWords.{OfAnswer, Keeps, all_act_keeps}
use Rattle.sctp_safety.proofs.runs.Pair.{opens_or_ends, AreOpening}

pub one_opening : (x : ChunkMeaning) → opens_or_ends x ≡ true → AreOpening (x ∷ [])
one_opening x h y (inl e) = subst (λ (z : ChunkMeaning). opens_or_ends z ≡ true) e h
one_opening x h y (inr k) = absurd k

-- the verdict on a packet, if it is an answer, is an opening one
abbrev pub OpensOrEnds : Verdict → Type 0
OpensOrEnds v = OfAnswer (λ r. AreOpening r.chunks) v

-- ---- an endpoint that has an association

pub reply_opens : (e : EndView) (tag : ℕ) (x : ChunkMeaning) (t : EndView) (r : Packet) → Acts e tag x (Replies t r) → AreOpening r.chunks
reply_opens e tag (Data d) t r (PieceEmpty _ _ _ _ _) = one_opening _ refl
reply_opens e tag (Data d) t r (WrongFormat _ _ _ _ _ _) = one_opening _ refl
reply_opens e tag (Data d) t r (Misnumbered _ _ _ _ _ _ _ _ _) = one_opening _ refl
reply_opens e tag (IData d) t r (PieceEmpty _ _ _ _ _) = one_opening _ refl
reply_opens e tag (IData d) t r (WrongFormat _ _ _ _ _ _) = one_opening _ refl
reply_opens e tag (IData d) t r (Misnumbered _ _ _ _ _ _ _ _ _) = one_opening _ refl
reply_opens e tag (Init i) t r h = absurd (cc)
reply_opens e tag (InitAck i) t r (RefusedAck _ _ _ _ _) = one_opening _ refl
reply_opens e tag (Sack s) t r (SackWrong _ _ _ _ _) = one_opening _ refl
reply_opens e tag (Heartbeat i) t r h = elim h [ ]
reply_opens e tag (HeartbeatAck i) t r h = absurd (cc)
reply_opens e tag (Abort b xs) t r h = absurd (cc)
reply_opens e tag (Shutdown n) t r (ShutdownWrong _ _ _ _ _) = one_opening _ refl
reply_opens e tag ShutdownAck t r (AckCompletes _ _ _ _) = one_opening _ refl
reply_opens e tag (Error xs) t r h = elim h [ ]
reply_opens e tag (CookieEcho xs) t r h = elim h [ ]
reply_opens e tag CookieAck t r h = elim h [ ]
reply_opens e tag (ShutdownComplete b) t r h = elim h [ ]
reply_opens e tag (ForwardTsn d) t r (WrongKind _ _ _ _ _) = one_opening _ refl
reply_opens e tag (ForwardTsn d) t r (IsBad _ _ _ _ _ _ _) = one_opening _ refl
reply_opens e tag (IForwardTsn d) t r (WrongKind _ _ _ _ _) = one_opening _ refl
reply_opens e tag (IForwardTsn d) t r (IsBad _ _ _ _ _ _ _) = one_opening _ refl
reply_opens e tag (Unknown k f w) t r (IsUnknown _ off h) = absurd (unknown_never_replies e t r k f w h)

any_chunk : (tag : ℕ) → Keeps tag (λ (e : EndView). Unit {0}) (λ (x : ChunkMeaning). Unit {0}) (λ (r : Packet). AreOpening r.chunks)
any_chunk tag = record {
  goes = λ e x y t q m act. tt;
  ends = λ e x t q m act. tt;
  replies = λ e x t r q m act. (tt, reply_opens e tag x t r act);
}

-- ---- an endpoint that has none

of_init : (o : Option Sealing) (e : EndView) (d : Draw) (m : InitMeaning) → OpensOrEnds (init_verdict o e d m)
of_init None e d m = one_opening _ refl
of_init (Some s) e d m = go (has_no_stream m)
  where
    go : (b : Bool) → OpensOrEnds (if b then Answer (packet_to e.configuration m.tag (abort_for (item INVALID_PARAMETER []))) else Answer (packet_to e.configuration m.tag (init_ack s e d m)))
    go true = one_opening _ refl
    go false = one_opening _ refl

of_cookie : (e : EndView) (c : CookieRead) → OpensOrEnds (cookie_verdict e c)
of_cookie e (CookieLate b) = one_opening _ refl
of_cookie e (CookieOpens b) = tt
of_cookie e Strange = tt

of_echo : (o : Option Sealing) (e : EndView) (tag : ℕ) (cookie : List ℕ) → OpensOrEnds (echo_verdict o e tag cookie)
of_echo None e tag cookie = one_opening _ refl
of_echo (Some s) e tag cookie = of_cookie e (cookie_read s e tag cookie)

of_first : (e : EndView) (d : Draw) (tag : ℕ) (x : ChunkMeaning) → OpensOrEnds (first_verdict e d tag x)
of_first e d tag (Init m) = go (m.tag == 0)
  where
    go : (b : Bool) → OpensOrEnds (if b then Dropped TAG else init_verdict (listens e) e d m)
    go true = tt
    go false = of_init (listens e) e d m
of_first e d tag (CookieEcho cookie) = of_echo (listens e) e tag cookie
of_first e d tag ShutdownAck = one_opening _ refl
of_first e d tag (ShutdownComplete t) = tt
of_first e d tag CookieAck = tt
of_first e d tag (InitAck m) = tt
of_first e d tag (Error causes) = tt
of_first e d tag (Unknown kind flags value) = tt
of_first e d tag (Abort t causes) = tt
of_first e d tag (Data p) = one_opening _ refl
of_first e d tag (IData p) = one_opening _ refl
of_first e d tag (Sack s) = one_opening _ refl
of_first e d tag (Heartbeat info) = one_opening _ refl
of_first e d tag (HeartbeatAck info) = one_opening _ refl
of_first e d tag (Shutdown tsn) = one_opening _ refl
of_first e d tag (ForwardTsn m) = one_opening _ refl
of_first e d tag (IForwardTsn m) = one_opening _ refl

of_chunks : (e : EndView) (d : Draw) (tag : ℕ) (xs : List ChunkMeaning) → OpensOrEnds (chunks_verdict e d tag xs)
of_chunks e d tag [] = tt
of_chunks e d tag (x ∷ xs) = go (holds_abort (x ∷ xs))
  where
    go : (b : Bool) → OpensOrEnds (if b then Dropped STATE else first_verdict e d tag x)
    go true = tt
    go false = of_first e d tag x

-- Whatever arrives, the answer opens an association, or ends one.
pub answer_opens : (e : EndView) (d : Draw) (p : Packet) (t : EndView) (v : Verdict) → Arrives e d p t v → OpensOrEnds v
answer_opens e d p t v (Elsewhere ports) = tt
answer_opens e d p t v (NotOurs ports passes) = tt
answer_opens e d p t v (Stray ports passes none closed) = of_chunks e d p.tag p.chunks
answer_opens e d p t v (CookieBegins b u n _ ports passes none opens acts _ _) = (all_act_keeps p.tag _ _ _ (any_chunk p.tag) _ (noted Unnoted no_notes) _ u n v (λ x has. tt) tt acts).1
answer_opens e d p t v (Heard u n _ ports passes has acts _ _) = (all_act_keeps p.tag _ _ _ (any_chunk p.tag) e no_notes p.chunks u n v (λ x has. tt) tt acts).1
