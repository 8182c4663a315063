-- SACKs that are counted chunk by chunk are those of the packet.
use Rattle.std.proofs.Common.{◌≡◌, ℕ, ◌+◌, ◌%◌, ◌^◌, Bool, true, false, List, [], ◌∷◌, drop, length, refl, sym, ap, subst, ◌∙◌, arith}
use Rattle.std.specs.Prelude.{Option, Some, None, Result, Ok, Err, OnOk, if◌then◌else◌, cond, not, ◌&&◌}
use Rattle.std.proofs.Math.Nat.{mod-add-mod, add-mod-mod}
use Rattle.std.proofs.lemmas.List.Sums.{sum_by-cons}
use Rattle.sctp_model.specs.wire.Chunk.{SackMeaning, ChunkMeaning, Data, IData, Init, InitAck, Sack, Heartbeat, HeartbeatAck, Abort, Shutdown, ShutdownAck, Error, CookieEcho, CookieAck, ShutdownComplete, ForwardTsn, IForwardTsn, Unknown}
use Rattle.sctp_model.specs.end.Sealing.{Body, Sealing}
use Rattle.sctp_model.specs.end.EndView.{EndView}
use Rattle.sctp_model.specs.end.Strays.{holds_abort, listens, body_in, body_among}
use Rattle.sctp_values.specs.declared.no_memory.NoMemory.{NoMemory}
use Rattle.sctp_association.specs.declared.build.sendings.Sendings.{Sendings}
use Rattle.sctp_association.specs.MachineStands.{MachineStands}
use Rattle.sctp_association.specs.BuildAnswers.{IsBuilt}
use Rattle.sctp_association.specs.declared.build.Built.{Built}
use Rattle.sctp_association.specs.declared.machine.Machine.{Machine}
use Rattle.sctp_endpoint.specs.EndpointStands.{EndpointStands}
use Rattle.sctp_endpoint.specs.Counted.{Counted, CountsSent, counted, tally_meaning, more, is_sack, sacks_among, with_packet, with_sack, with_sendings, with_arrival, heard_counts}
use Rattle.sctp_endpoint.specs.Straying.{IsUntaken}
use Rattle.sctp_endpoint.specs.inner.Acted.{with_verdict}
use Rattle.sctp_endpoint.specs.inner.SacksHeard.{after_chunk, after_chunks, IfTaken}
use Rattle.sctp_endpoint.specs.declared.counts.Tally.{Tally}
use Rattle.sctp_endpoint.specs.declared.after.Strayed.TheVariants.{Told}
use Rattle.sctp_endpoint.specs.declared.after.Verdict.{Verdict}
use Rattle.sctp_endpoint.specs.declared.after.Verdict.TheVariants.{Taken, Dropped, Answer}

-- ---- chunk by chunk

-- a chunk is counted as the one that it is
pub same_count : (a m : ChunkMeaning) (n k : ℕ) → a ≡ m → k ≡ after_chunk a n → k ≡ after_chunk m n
same_count a m n k is e = subst (λ (x : ChunkMeaning). k ≡ after_chunk x n) is e

-- the first of these was counted, and the others follow
pub counted_on : (all rest : List ChunkMeaning) (m : ChunkMeaning) (ms : List ChunkMeaning) (n k : ℕ) → all ≡ m ∷ ms → rest ≡ ms → k ≡ after_chunk m n
    → after_chunks rest k ≡ after_chunks all n
counted_on all rest m ms n k split taken one = rw (split, taken, one) refl

-- none follows
pub counted_all : (rest : List ChunkMeaning) (n total : ℕ) → rest ≡ [] → after_chunks rest n ≡ total → n ≡ total
counted_all rest n total none e = rw none at e

-- ---- in all

one_more : (b : Bool) (n s : ℕ) → ((if b then more n 1 else n) + s) % 2 ^ 64 ≡ (n + (cond b 1 0 + s)) % 2 ^ 64
one_more true n s = let e : n + 1 + s ≡ n + (1 + s) = omega arith in mod-add-mod (n + 1) (2 ^ 64) s ∙ ap (λ (k : ℕ). k % 2 ^ 64) e
one_more false n s = let e : n + s ≡ n + (0 + s) = omega arith in ap (λ (k : ℕ). k % 2 ^ 64) e

-- what was counted chunk by chunk, modulo 2^64
summed : (ms : List ChunkMeaning) (n : ℕ) → after_chunks ms n % 2 ^ 64 ≡ (n + sacks_among ms) % 2 ^ 64
summed [] n = let e : n ≡ n + 0 = omega arith in ap (λ (k : ℕ). k % 2 ^ 64) e
summed (m ∷ ms) n =
    summed ms (after_chunk m n) ∙ one_more (is_sack m) n (sacks_among ms)
    ∙ ap (λ (k : ℕ). (n + k) % 2 ^ 64) (sym (sum_by-cons (λ (x : ChunkMeaning). cond (is_sack x) 1 0) m ms))

-- added to a count
more_sacks : (ms : List ChunkMeaning) (c : ℕ) → more c (after_chunks ms 0) ≡ more c (sacks_among ms)
more_sacks ms c =
    let none : 0 + sacks_among ms ≡ sacks_among ms = omega arith in
    sym (add-mod-mod c (after_chunks ms 0) (2 ^ 64)) ∙ ap (λ (k : ℕ). (c + k) % 2 ^ 64) (summed ms 0) ∙ add-mod-mod c (0 + sacks_among ms) (2 ^ 64)
    ∙ ap (λ (k : ℕ). (c + k) % 2 ^ 64) none

-- what is counted of a packet of these chunks
pub heard_sacks : (r : Result Verdict NoMemory) (bytes n : ℕ) (ms : List ChunkMeaning) (c : Counted) → IfTaken r (n ≡ after_chunks ms 0)
    → heard_counts bytes n r c ≡ heard_counts bytes (sacks_among ms) r c
heard_sacks (Ok Taken) bytes n ms c e = ap (λ (k : ℕ). record (with_arrival bytes c) { sacks_in = k }) (ap (λ (k : ℕ). more c.sacks_in k) e ∙ more_sacks ms c.sacks_in)
heard_sacks (Ok (Dropped reason)) bytes n ms c e = refl
heard_sacks (Ok (Answer packet)) bytes n ms c e = refl
heard_sacks (Err why) bytes n ms c e = refl

-- ---- what is returned of a packet

-- what was counted of all its chunks, or of those behind the first, is counted of the packet
pub if_taken : (r : Result (Unit {0}) NoMemory) (told : Verdict) (n k : ℕ) (ms all : List ChunkMeaning) → after_chunks ms n ≡ after_chunks all n
    → OnOk r (k ≡ after_chunks ms n) → IfTaken (with_verdict r told) (k ≡ after_chunks all n)
if_taken (Ok done) Taken n k ms all same counts = counts ∙ same
if_taken (Ok done) (Dropped reason) n k ms all same counts = tt
if_taken (Ok done) (Answer packet) n k ms all same counts = tt
if_taken (Err why) told n k ms all same counts = tt

pub untaken : (told : Verdict) (p : Type 0) → IsUntaken (Told told) → IfTaken (Ok told) p
untaken Taken p never = absurd never
untaken (Dropped reason) p never = tt
untaken (Answer packet) p never = tt

-- ---- a cookie that begins an association is in no SACK

no_body : (s : Option Sealing) (e : EndView) (tag : ℕ) (m : SackMeaning) → body_in s e tag (Sack m) ≡ None
no_body None e tag m = refl
no_body (Some s) e tag m = refl

no_sack : (b : Bool) (s : Option Sealing) (e : EndView) (tag : ℕ) (x : ChunkMeaning) (body : Body) → (if b then None else body_in s e tag x) ≡ Some body → is_sack x ≡ false
no_sack true s e tag x body q = absurd (cc)
no_sack false s e tag (Sack m) body q = absurd (let none : None ≡ Some body = sym (no_body s e tag m) ∙ q in cc)
no_sack false s e tag (Data p) body q = refl
no_sack false s e tag (IData p) body q = refl
no_sack false s e tag (Init m) body q = refl
no_sack false s e tag (InitAck m) body q = refl
no_sack false s e tag (Heartbeat info) body q = refl
no_sack false s e tag (HeartbeatAck info) body q = refl
no_sack false s e tag (Abort t causes) body q = refl
no_sack false s e tag (Shutdown tsn) body q = refl
no_sack false s e tag ShutdownAck body q = refl
no_sack false s e tag (Error causes) body q = refl
no_sack false s e tag (CookieEcho cookie) body q = refl
no_sack false s e tag CookieAck body q = refl
no_sack false s e tag (ShutdownComplete t) body q = refl
no_sack false s e tag (ForwardTsn m) body q = refl
no_sack false s e tag (IForwardTsn m) body q = refl
no_sack false s e tag (Unknown kind flags value) body q = refl

-- so the first chunk of its packet needs no look
pub begun_first : (v : EndView) (tag : ℕ) (ms : List ChunkMeaning) (b : Body) (n : ℕ) → body_among v tag ms ≡ Some b → after_chunks (drop 1 ms) n ≡ after_chunks ms n
begun_first v tag [] b n opened = refl
begun_first v tag (x ∷ xs) b n opened =
    ap (λ (y : Bool). after_chunks xs (if y then more n 1 else n)) (sym (no_sack (holds_abort (x ∷ xs)) (listens v) v tag x b opened))

-- ---- a packet that is sent

-- what is counted of it one after the other
sent_so : (was is w i : Bool) (bytes : ℕ) (x : Sendings) (a b c d : Counted) → was ≡ w → is ≡ i → b ≡ with_packet bytes a
    → c ≡ with_sack (was && not is) b → d ≡ with_sendings x c → d ≡ with_sendings x (with_sack (w && not i) (with_packet bytes a))
sent_so was is w i bytes x a b c d before after packet sack chunks =
    chunks ∙ ap (λ (k : Counted). with_sendings x k) (sack ∙ rw (before, after, packet) refl)

-- The machine built this packet, and it is counted: itself, whether a SACK was due before it and is after it, and its chunks of user data.
pub counts_sent : (v : EndView) (b : Built) (m : Machine) (was is : Bool) (first second third last : Tally) → IsBuilt v b m
    → was ≡ v.due.sack → ((t : EndView) → MachineStands m t → is ≡ t.due.sack)
    → tally_meaning second ≡ with_packet (length b.packet.items) (tally_meaning first) → tally_meaning third ≡ with_sack (was && not is) (tally_meaning second)
    → tally_meaning last ≡ with_sendings b.sendings (tally_meaning third)
    → CountsSent v (record { packet = b.packet; tickets = b.tickets }) (record { machine = m; tally = last }) (tally_meaning first)
unfolding EndpointStands counted
counts_sent v b m was is first second third last built before after packet sack chunks = record {
  chunks = built.chunks;
  after = built.after;
  builds = built.builds;
  packet = built.packet;
  stands = built.stands;
  sendings = b.sendings;
  sends = built.sendings;
  counts = sent_so was is v.due.sack built.after.due.sack (length b.packet.items) b.sendings (tally_meaning first) (tally_meaning second) (tally_meaning third)
      (tally_meaning last) before (after built.after built.stands) packet sack chunks;
}
