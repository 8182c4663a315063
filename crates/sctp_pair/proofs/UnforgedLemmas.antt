-- The premises on third parties in the words of a key, and that what was read from bytes has cookies of bytes.
use Rattle.std.proofs.Common.{ℕ, zero, suc, ◌++◌, List, [], ◌∷◌, inl, inr, subst, arith}
use Rattle.sctp_model.specs.numbers.Numbers.{AreBytes}
use Rattle.sctp_model.specs.numbers.Lists.{Has}
use Rattle.sctp_model.specs.wire.Chunk.{ChunkMeaning, Data, IData, Init, InitAck, Sack, Heartbeat, HeartbeatAck, Abort, Shutdown, ShutdownAck, Error, CookieEcho, CookieAck, ShutdownComplete, ForwardTsn, IForwardTsn, Unknown, chunk_length, kind_of}
use Rattle.sctp_model.specs.wire.Packet.{Packet}
use Rattle.sctp_model.specs.end.Sealing.{Sealing}
use Rattle.sctp_model.specs.world.Premises.{drawn_in, IsTheirs, IsStranger, FreshAndUnforged}
use Rattle.sctp_cookie.specs.Seals.{IsUnder, OpensTheSealed}
use Rattle.sctp_packet.specs.PacketBytes.{header_bytes}
use Rattle.sctp_packet.specs.Checksum.{crc32c}
use Rattle.sctp_packet.specs.PacketBytes.{with_sum}
use Rattle.sctp_wire.specs.Reads.{header, ReadsChunk, ReadsEach}
use Rattle.sctp_pair.specs.Unforged.{IsWithoutKey, KeyPremises, HasByteCookies, HaveByteCookies, PremisesAreTheKeys, WhatIsReadHasByteCookies}

-- ---- strangers

-- what only the two ends could have made, of a packet without the key
theirs_not : (key tags : List ℕ) (s : Sealing) (p : Packet) → OpensTheSealed key s → HasByteCookies p → IsWithoutKey key tags p →
    (x : ChunkMeaning) → Has p.chunks x → IsTheirs s tags x → ⊥
theirs_not key tags s p opens bytes without (Init m) here theirs = without.inits m here theirs
theirs_not key tags s p opens bytes without (CookieEcho cookie) here theirs = without.cookies cookie here (opens.only cookie (bytes cookie here) theirs)
theirs_not key tags s p opens bytes without (Data m) here theirs = absurd theirs
theirs_not key tags s p opens bytes without (IData m) here theirs = absurd theirs
theirs_not key tags s p opens bytes without (InitAck m) here theirs = absurd theirs
theirs_not key tags s p opens bytes without (Sack m) here theirs = absurd theirs
theirs_not key tags s p opens bytes without (Heartbeat m) here theirs = absurd theirs
theirs_not key tags s p opens bytes without (HeartbeatAck m) here theirs = absurd theirs
theirs_not key tags s p opens bytes without (Abort t m) here theirs = absurd theirs
theirs_not key tags s p opens bytes without (Shutdown m) here theirs = absurd theirs
theirs_not key tags s p opens bytes without ShutdownAck here theirs = absurd theirs
theirs_not key tags s p opens bytes without (Error m) here theirs = absurd theirs
theirs_not key tags s p opens bytes without CookieAck here theirs = absurd theirs
theirs_not key tags s p opens bytes without (ShutdownComplete m) here theirs = absurd theirs
theirs_not key tags s p opens bytes without (ForwardTsn m) here theirs = absurd theirs
theirs_not key tags s p opens bytes without (IForwardTsn m) here theirs = absurd theirs
theirs_not key tags s p opens bytes without (Unknown k f m) here theirs = absurd theirs

without_key : (key tags : List ℕ) (s : Sealing) (p : Packet) → OpensTheSealed key s → IsStranger s tags p → IsWithoutKey key tags p
without_key key tags s p opens stranger = record {
  untagged = stranger.untagged;
  inits = λ m here asks. stranger.chunks (Init m) here asks;
  cookies = λ cookie here sealed. stranger.chunks (CookieEcho cookie) here (opens.all cookie sealed);
}

pub premises_of_key : ((key : List ℕ) (s : Sealing) → IsUnder key s → OpensTheSealed key s) → PremisesAreTheKeys
premises_of_key seals key s es under = record {
  in_words_of_the_key = λ (all : FreshAndUnforged s es). λ x p here. without_key key (drawn_in es) s p (seals key s under) (all x p here);
  in_words_of_the_seal = λ (bytes : HaveByteCookies es) (all : KeyPremises key es). λ x p here. record {
    untagged = (all x p here).untagged;
    chunks = theirs_not key (drawn_in es) s p (seals key s under) (bytes x p here) (all x p here);
  };
}

-- ---- bytes

front : (xs ys : List ℕ) → AreBytes (xs ++ ys) → AreBytes xs
front [] ys all i = omega arith
front (x ∷ xs) ys all zero = all 0
front (x ∷ xs) ys all (suc i) = front xs ys (λ (j : ℕ). all (suc j)) i

back : (xs ys : List ℕ) → AreBytes (xs ++ ys) → AreBytes ys
back [] ys all = all
back (x ∷ xs) ys all = back xs ys (λ (j : ℕ). all (suc j))

-- the cookie of a chunk
cookie_bytes : (bytes cookie : List ℕ) → AreBytes bytes → ReadsChunk bytes (CookieEcho cookie) → AreBytes cookie
cookie_bytes bytes cookie all c =
    let head = header (kind_of (CookieEcho cookie)) c.flags (chunk_length (CookieEcho cookie)) in
    let body : AreBytes (c.value ++ c.padding) = back head (c.value ++ c.padding) (subst AreBytes c.layout all) in
    subst AreBytes c.valued (front c.value c.padding body)

-- .. among chunks
each_bytes : (bytes : List ℕ) (ms : List ChunkMeaning) (cookie : List ℕ) → AreBytes bytes → ReadsEach bytes ms → Has ms (CookieEcho cookie) → AreBytes cookie
each_bytes bytes [] cookie all reads here = absurd here
each_bytes bytes (m ∷ ms) cookie all (chunk, rest, is, first, more) (inl same) =
    cookie_bytes chunk cookie (front chunk rest (subst AreBytes is all)) (subst (λ (x : ChunkMeaning). ReadsChunk chunk x) same first)
each_bytes bytes (m ∷ ms) cookie all (chunk, rest, is, first, more) (inr later) =
    each_bytes rest ms cookie (back chunk rest (subst AreBytes is all)) more later

pub read_cookies : WhatIsReadHasByteCookies
read_cookies bytes p all reads cookie here =
    let body : AreBytes reads.body = back (header_bytes p.source p.destination p.tag (crc32c (with_sum p reads.body 0))) reads.body (subst AreBytes reads.layout all) in
    each_bytes reads.body p.chunks cookie body reads.chunks.each here
