-- The packet with which an endpoint answers or aborts: one chunk, in a permitted place, of the length that is reported.
use Rattle.std.proofs.Common.{◌≡◌, ℕ, ◌+◌, ◌==◌, Bool, true, false, List, [], ◌∷◌, ◌++◌, length, replicate, Option, Some, None, refl, ap, ◌∙◌, subst, arith, length-append}
use Rattle.std.specs.Prelude.{if◌then◌else◌, nat_le}
use Rattle.std.specs.List.{flat_map}
use Rattle.std.proofs.Math.ListN.{length-replicate}
use Rattle.sctp_model.specs.numbers.Numbers.{u16_bytes, u32_bytes}
use Rattle.sctp_model.specs.wire.Chunk.{InitMeaning, ChunkMeaning, Data, IData, Init, InitAck, Sack, Heartbeat, HeartbeatAck, Abort, Shutdown, ShutdownAck, Error, CookieEcho, CookieAck, ShutdownComplete, ForwardTsn, IForwardTsn, Unknown, chunk_length, padding_after, size_of_chunk}
use Rattle.sctp_model.specs.wire.Packet.{Packet, size_of_packet}
use Rattle.sctp_model.specs.wire.Places.{ArePlaced}
use Rattle.sctp_model.specs.end.Sealing.{Sealing}
use Rattle.sctp_model.specs.end.EndView.{Draw, Configuration, EndView}
use Rattle.sctp_model.specs.end.Reports.{item, INVALID_PARAMETER}
use Rattle.sctp_model.specs.end.PeerFaults.{Replies, packet_to, abort_for}
use Rattle.sctp_model.specs.end.Opening.{RefusedAck, CookieRead, CookieOpens, CookieLate, Strange, cookie_read, has_no_stream, init_ack}
use Rattle.sctp_model.specs.end.Acting.{Acts, PieceEmpty, WrongFormat, Misnumbered, SackWrong, ShutdownWrong, AckCompletes, WrongKind, IsBad, IsUnknown}
use Rattle.sctp_model.specs.end.Strays.{Verdict, Dropped, Answer, holds_abort, listens, init_verdict, cookie_verdict, echo_verdict, first_verdict, chunks_verdict, stray_verdict}
use Rattle.sctp_model.specs.end.Arriving.{AllAct, NoneLeft, Next, Last, EndsAnswered, Stopped, Notes, noted, verdict_of, Arrives, Elsewhere, NotOurs, Stray, CookieBegins, Heard, Receives, ReadAs}
use Rattle.sctp_model.specs.end.Arriving.{Passes}
use Rattle.sctp_model.specs.end.UserCalls.{Aborts, TooLong, abort_answer, abort_answer_to, abort_packet, peer_tag}
use Rattle.sctp_safety.proofs.machine.Sides.{unknown_never_replies}
use Rattle.sctp_wire.specs.chunks.Init.{init_value}
use Rattle.sctp_wire.specs.Layouts.{value_of}
use Rattle.sctp_wire.specs.Writes.{written}
use Rattle.sctp_packet.specs.Checksum.{crc32c}
use Rattle.sctp_packet.specs.PacketBytes.{WritesPacket, with_sum}

-- ---- which chunks answer

-- a chunk that answers a packet, or tells of an abort
pub data IsAnswering : ChunkMeaning → Type 0 where
  AnAbort : (t : Bool) (causes : List ℕ) → IsAnswering (Abort t causes)
  AnInitAck : (m : InitMeaning) → IsAnswering (InitAck m)
  AnError : (causes : List ℕ) → IsAnswering (Error causes)
  AComplete : (t : Bool) → IsAnswering (ShutdownComplete t)

-- a packet of one of these
pub record IsPlain (p : Packet) : Type 0 where
  pub chunk : ChunkMeaning
  pub only : p.chunks ≡ chunk ∷ []
  pub answers : IsAnswering chunk

one_chunk : (c : Configuration) (tag : ℕ) (y : ChunkMeaning) → IsAnswering y → IsPlain (packet_to c tag y)
one_chunk c tag y is = record { chunk = y; only = refl; answers = is }

-- ---- an end with an association

replies_plain : (e : EndView) (tag : ℕ) (x : ChunkMeaning) (t : EndView) (p : Packet) → Acts e tag x (Replies t p) → IsPlain p
replies_plain e tag (Data q) t p (PieceEmpty u _ _ _ _) = one_chunk e.configuration u.peer _ (AnAbort false _)
replies_plain e tag (Data q) t p (WrongFormat u _ _ _ _ _) = one_chunk e.configuration u.peer _ (AnAbort false _)
replies_plain e tag (Data q) t p (Misnumbered u _ _ _ _ _ _ _ _) = one_chunk e.configuration u.peer _ (AnAbort false _)
replies_plain e tag (IData q) t p (PieceEmpty u _ _ _ _) = one_chunk e.configuration u.peer _ (AnAbort false _)
replies_plain e tag (IData q) t p (WrongFormat u _ _ _ _ _) = one_chunk e.configuration u.peer _ (AnAbort false _)
replies_plain e tag (IData q) t p (Misnumbered u _ _ _ _ _ _ _ _) = one_chunk e.configuration u.peer _ (AnAbort false _)
replies_plain e tag (Init m) t p h = absurd (cc)
replies_plain e tag (InitAck m) t p (RefusedAck _ _ _ _ _) = one_chunk e.configuration m.tag _ (AnAbort false _)
replies_plain e tag (Sack s) t p (SackWrong u _ _ _ _) = one_chunk e.configuration u.peer _ (AnAbort false _)
replies_plain e tag (Heartbeat i) t p h = elim h [ ]
replies_plain e tag (HeartbeatAck i) t p h = absurd (cc)
replies_plain e tag (Abort b xs) t p h = absurd (cc)
replies_plain e tag (Shutdown n) t p (ShutdownWrong u _ _ _ _) = one_chunk e.configuration u.peer _ (AnAbort false _)
replies_plain e tag ShutdownAck t p (AckCompletes u _ _ _) = one_chunk e.configuration u.peer _ (AComplete false)
replies_plain e tag (Error xs) t p h = elim h [ ]
replies_plain e tag (CookieEcho xs) t p h = elim h [ ]
replies_plain e tag CookieAck t p h = elim h [ ]
replies_plain e tag (ShutdownComplete b) t p h = elim h [ ]
replies_plain e tag (ForwardTsn m) t p (WrongKind u _ _ _ _) = one_chunk e.configuration u.peer _ (AnAbort false _)
replies_plain e tag (ForwardTsn m) t p (IsBad u _ _ _ _ _ _) = one_chunk e.configuration u.peer _ (AnAbort false _)
replies_plain e tag (IForwardTsn m) t p (WrongKind u _ _ _ _) = one_chunk e.configuration u.peer _ (AnAbort false _)
replies_plain e tag (IForwardTsn m) t p (IsBad u _ _ _ _ _ _) = one_chunk e.configuration u.peer _ (AnAbort false _)
replies_plain e tag (Unknown k f v) t p (IsUnknown _ _ q) = absurd (unknown_never_replies e t p k f v q)

no_answer : (b : Bool) (p : Packet) → verdict_of b ≡ Answer p → ⊥
no_answer true p q = absurd (cc)
no_answer false p q = absurd (cc)

acts_plain : (tag : ℕ) (e : EndView) (b : Notes) (xs : List ChunkMeaning) (t : EndView) (m : Notes) (v : Verdict) → AllAct tag e b xs t m v →
    (p : Packet) → v ≡ Answer p → IsPlain p
acts_plain tag e b xs t m v (NoneLeft _ _) p q = absurd (no_answer b.listed p q)
acts_plain tag e b xs t m v (Next _ mid _ y _ _ x ys _ act rest) p q = acts_plain tag _ (noted y b) ys t m v rest p q
acts_plain tag e b xs t m v (Passes _ _ _ _ x ys _ act rest) p q = acts_plain tag e b ys t m v rest p q
acts_plain tag e b xs t m v (Last _ _ _ x ys act) p q = absurd (cc)
acts_plain tag e b xs t m v (EndsAnswered _ _ _ x ys r act) p q = let s : r ≡ p = cc in subst IsPlain s (replies_plain e tag x t r act)
acts_plain tag e b xs t m v (Stopped _ _ x ys n act) p q = absurd (cc)

-- ---- an end without one

stray_plain : (e : EndView) (d : Draw) (p : Packet) (r : Packet) → stray_verdict e d p ≡ Answer r → IsPlain r
stray_plain e d p r is = by_chunks p.chunks is
  where
    plain : (tag : ℕ) (y : ChunkMeaning) → IsAnswering y → Answer (packet_to e.configuration tag y) ≡ Answer r → IsPlain r
    plain tag y off q = let s : packet_to e.configuration tag y ≡ r = cc in subst IsPlain s (one_chunk e.configuration tag y off)

    by_init : (m : InitMeaning) → (o : Option Sealing) → init_verdict o e d m ≡ Answer r → IsPlain r
    by_init m None q = plain m.tag (Abort false []) (AnAbort false []) q
    by_init m (Some z) q = go (has_no_stream m) q
      where
        go : (b : Bool) → (if b then Answer (packet_to e.configuration m.tag (abort_for (item INVALID_PARAMETER []))) else Answer (packet_to e.configuration m.tag (init_ack z e d m))) ≡ Answer r → IsPlain r
        go true h = plain m.tag (abort_for (item INVALID_PARAMETER [])) (AnAbort false _) h
        go false h = plain m.tag (init_ack z e d m) (AnInitAck _) h

    by_cookie : (c : CookieRead) → cookie_verdict e c ≡ Answer r → IsPlain r
    by_cookie (CookieLate b) q = plain b.caller.tag _ (AnError _) q
    by_cookie (CookieOpens b) q = absurd (cc)
    by_cookie Strange q = absurd (cc)

    by_echo : (o : Option Sealing) (cookie : List ℕ) → echo_verdict o e p.tag cookie ≡ Answer r → IsPlain r
    by_echo None cookie q = plain p.tag (Abort true []) (AnAbort true []) q
    by_echo (Some z) cookie q = by_cookie (cookie_read z e p.tag cookie) q

    refuses : Answer (packet_to e.configuration p.tag (Abort true [])) ≡ Answer r → IsPlain r
    refuses q = plain p.tag (Abort true []) (AnAbort true []) q

    by_first : (x : ChunkMeaning) → first_verdict e d p.tag x ≡ Answer r → IsPlain r
    by_first (Init m) q = go (m.tag == 0) q
      where
        go : (b : Bool) → (if b then Dropped 3 else init_verdict (listens e) e d m) ≡ Answer r → IsPlain r
        go true h = absurd (cc)
        go false h = by_init m (listens e) h
    by_first (CookieEcho cookie) q = by_echo (listens e) cookie q
    by_first ShutdownAck q = plain p.tag (ShutdownComplete true) (AComplete true) q
    by_first (ShutdownComplete t) q = absurd (cc)
    by_first CookieAck q = absurd (cc)
    by_first (InitAck m) q = absurd (cc)
    by_first (Error xs) q = absurd (cc)
    by_first (Unknown k f v) q = absurd (cc)
    by_first (Abort t xs) q = absurd (cc)
    by_first (Data y) q = refuses q
    by_first (IData y) q = refuses q
    by_first (Sack s) q = refuses q
    by_first (Heartbeat i) q = refuses q
    by_first (HeartbeatAck i) q = refuses q
    by_first (Shutdown n) q = refuses q
    by_first (ForwardTsn m) q = refuses q
    by_first (IForwardTsn m) q = refuses q

    by_chunks : (xs : List ChunkMeaning) → chunks_verdict e d p.tag xs ≡ Answer r → IsPlain r
    by_chunks [] q = absurd (cc)
    by_chunks (x ∷ xs) q = go (holds_abort (x ∷ xs)) q
      where
        go : (b : Bool) → (if b then Dropped 4 else first_verdict e d p.tag x) ≡ Answer r → IsPlain r
        go true h = absurd (cc)
        go false h = by_first x h

-- ---- what comes

arrival_plain : (e : EndView) (d : Draw) (p : Packet) (t : EndView) (v : Verdict) → Arrives e d p t v → (r : Packet) → v ≡ Answer r → IsPlain r
arrival_plain e d p t v (Elsewhere a) r q = absurd (cc)
arrival_plain e d p t v (NotOurs a b) r q = absurd (cc)
arrival_plain e d p t v (Stray a b c f) r q = stray_plain e d p r q
arrival_plain e d p t v (CookieBegins b x n _ h i j k all gap left) r q = acts_plain p.tag _ _ _ x n v all r q
arrival_plain e d p t v (Heard x n _ h i j all gap left) r q = acts_plain p.tag e _ p.chunks x n v all r q

-- an answer to what came
pub answer_plain : (e : EndView) (now : ℕ) (d : Draw) (o : Option Packet) (t : EndView) (r : Packet) → Receives e now d o t (Answer r) → IsPlain r
answer_plain e now d o t r (ReadAs p _ _ arrives) = arrival_plain _ d p t (Answer r) arrives r refl

-- the packet of an abort
pub abort_plain : (e : EndView) (reason : List ℕ) (r : Packet) → abort_answer e reason ≡ Aborts r → IsPlain r
abort_plain e reason r is = by (peer_tag e.phase) is
  where
    by : (o : Option ℕ) → abort_answer_to e reason o ≡ Aborts r → IsPlain r
    by None q = absurd (cc)
    by (Some tag) q = go (nat_le (size_of_packet (abort_packet e tag reason).chunks) e.configuration.limit) q
      where
        go : (b : Bool) → (if b then Aborts (abort_packet e tag reason) else TooLong) ≡ Aborts r → IsPlain r
        go true h = let s : abort_packet e tag reason ≡ r = cc in subst IsPlain s (one_chunk e.configuration tag _ (AnAbort false _))
        go false h = absurd (cc)

-- ---- where it stands, and how long it is

pub plain_is_placed : (p : Packet) → IsPlain p → ArePlaced p.chunks
plain_is_placed p is = rw is.only refl

init_long : (m : InitMeaning) → length (init_value m) ≡ 16 + length m.parameters
unfolding u32_bytes u16_bytes
init_long m = omega arith

value_long : (x : ChunkMeaning) → IsAnswering x → 4 + length (value_of x) ≡ chunk_length x
value_long x (AnAbort t causes) = refl
value_long x (AnInitAck m) = omega (arith, init_long m)
value_long x (AnError causes) = refl
value_long x (AComplete t) = refl

header_long : (n : ℕ) → length (u16_bytes n) ≡ 2
unfolding u16_bytes
header_long n = refl

written_long : (x : ChunkMeaning) → IsAnswering x → length (written x) ≡ size_of_chunk x
written_long x is =
    let padding : List ℕ = replicate (padding_after (chunk_length x)) 0 in
    let zeros : length padding ≡ padding_after (chunk_length x) = length-replicate {A = ℕ} (padding_after (chunk_length x)) 0 in
    omega (arith, length-append (u16_bytes (chunk_length x)) (value_of x ++ padding), header_long (chunk_length x), length-append (value_of x) padding, zeros, value_long x is)

packet_long : (p : Packet) (body : List ℕ) (sum : ℕ) → length (with_sum p body sum) ≡ 12 + length body
packet_long p body sum = omega arith

-- so long are its bytes
pub plain_size : (bytes : List ℕ) (p : Packet) → WritesPacket bytes p → IsPlain p → size_of_packet p.chunks ≡ length bytes
plain_size bytes p w is =
    let one : w.body ≡ written is.chunk ++ [] = w.chunks.bytes_are ∙ ap (λ (xs : List ChunkMeaning). flat_map written xs) is.only in
    let body : length w.body ≡ size_of_chunk is.chunk = omega (arith, ap length one, length-append (written is.chunk) [], written_long is.chunk is.answers) in
    let all : length bytes ≡ 12 + length w.body = ap length w.layout ∙ packet_long p w.body (crc32c (with_sum p w.body 0)) in
    ap size_of_packet is.only ∙ omega (arith, body, all)
