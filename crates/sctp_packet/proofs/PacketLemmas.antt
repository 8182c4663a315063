-- A packet and its bytes: what is read says all of the bytes, so that there is one packet or one fault, and what is written reads back.
use Rattle.std.proofs.Common.{◌≡◌, ℕ, ◌-◌, ◌<◌, ◌⊎◌, inl, inr, List, [], ◌∷◌, length, take, drop, refl, sym, ap, subst, ◌∙◌, arith, length-append, length-drop}
use Rattle.std.proofs.lemmas.List.{take_all}
use Rattle.std.proofs.lemmas.Bool.{cases_lt, cases_eq}
use Rattle.byteorder.specs.Endian.{big_number, little_number}
use Rattle.sctp_model.specs.wire.Chunk.{ChunkMeaning}
use Rattle.sctp_model.specs.wire.Packet.{Packet, HEADER_ROOM}
use Rattle.sctp_wire.specs.declared.fault.WireFault.{WireFault}
use Rattle.sctp_wire.specs.FirstFault.{Faults}
use Rattle.sctp_wire.specs.Laws as wire
use Rattle.sctp_wire.specs.FaultTree.{moved}
use Rattle.sctp_wire.specs.Reads.{ReadsEach, Reads}
use Rattle.sctp_packet.specs.Checksum.{crc32c}
use Rattle.sctp_packet.specs.declared.fault.PacketFault.{PacketFault}
use Rattle.sctp_packet.specs.declared.fault.PacketFault.TheVariants.{Short, Checksum, NoChunk, Wire}
use Rattle.sctp_packet.specs.PacketBytes.{with_sum, packet_bytes, without_sum, IsHeader, IsChecked, ReadsPacket, FaultsPacket}
use Rattle.sctp_packet.specs.PacketLaws.{ReadInOneWay}
use Rattle.sctp_packet.proofs.HeaderLemmas.{AreLow, low_behind, length-with_sum, source_of, destination_of, tag_of, sum_left_out, packet_is_checked, header_back}

-- ---- what stands behind the header

pub all_behind : (n : ℕ) (xs : List ℕ) → take (length xs - n) (drop n xs) ≡ drop n xs
all_behind n xs = take_all (length xs - n) (drop n xs) (omega (arith, length-drop n xs))

each_some : (body : List ℕ) (ms : List ChunkMeaning) → ReadsEach body ms → (ms ≡ [] → ⊥) → 0 < length body
each_some body [] h some = absurd (some refl)
each_some body (m ∷ ms) h some =
    let joined = ap length h.2 in
    let layout = ap length h.3.layout in
    omega (arith, length-append h.0 h.1)

each_none : (body : List ℕ) (ms : List ChunkMeaning) → ReadsEach body ms → ms ≡ [] → body ≡ []
each_none body [] h none = h
each_none body (m ∷ ms) h none = cc

-- ---- what a packet says of its bytes

pub record IsRead (bytes : List ℕ) (p : Packet) : Type 0 where
  pub long : HEADER_ROOM < length bytes
  pub checked : IsChecked bytes
  pub source : p.source ≡ big_number 2 bytes
  pub destination : p.destination ≡ big_number 2 (drop 2 bytes)
  pub tag : p.tag ≡ big_number 4 (drop 4 bytes)
  pub chunks : Reads (drop HEADER_ROOM bytes) p.chunks

pub packet_parts : (bytes : List ℕ) (p : Packet) → ReadsPacket bytes p → IsRead bytes p
packet_parts bytes p h =
    let sum = crc32c (with_sum p h.body 0) in
    let some : 0 < length h.body = each_some h.body p.chunks h.chunks.each h.some in
    let parts : IsRead (packet_bytes p h.body) p = record {
      long = omega (arith, length-with_sum p h.body sum);
      checked = packet_is_checked p h.body;
      source = sym (source_of p h.body sum h.header);
      destination = sym (destination_of p h.body sum h.header);
      tag = sym (tag_of p h.body sum h.header);
      chunks = h.chunks;
    } in
    subst (λ (xs : List ℕ). IsRead xs p) (sym h.layout) parts

pub packet_whole : (bytes : List ℕ) (p : Packet) → AreLow bytes → IsHeader p → IsRead bytes p → ReadsPacket bytes p
packet_whole bytes p low header h =
    let body = drop HEADER_ROOM bytes in
    let back : with_sum p body (little_number 4 (drop 8 bytes)) ≡ bytes = header_back p bytes low (omega (arith, h.long)) h.source h.destination h.tag in
    let left_out : without_sum bytes ≡ with_sum p body 0 = ap without_sum (sym back) ∙ sum_left_out p body (little_number 4 (drop 8 bytes)) in
    record {
      body = body;
      layout = sym (ap (with_sum p body) (sym (h.checked ∙ ap crc32c left_out)) ∙ back);
      header = header;
      chunks = h.chunks;
      some = λ none. absurd (omega (arith, h.long, ap length (each_none body p.chunks h.chunks.each none), length-drop HEADER_ROOM bytes));
    }

-- ---- one packet, one fault

same_packet : (p q : Packet) → p.source ≡ q.source → p.destination ≡ q.destination → p.tag ≡ q.tag → p.chunks ≡ q.chunks → p ≡ q
same_packet p q a b c d = λ i. record { source = a i; destination = b i; tag = c i; chunks = d i }

one_packet_of : (bytes : List ℕ) → wire.ReadInOneWay (drop HEADER_ROOM bytes) → (p q : Packet) → ReadsPacket bytes p → ReadsPacket bytes q → p ≡ q
one_packet_of bytes law p q h k =
    let a = packet_parts bytes p h in
    let b = packet_parts bytes q k in
    same_packet p q (a.source ∙ sym b.source) (a.destination ∙ sym b.destination) (a.tag ∙ sym b.tag) (law.one_list p.chunks q.chunks a.chunks b.chunks)

pub one_fault_of : (bytes : List ℕ) → wire.ReadInOneWay (drop HEADER_ROOM bytes) → (f g : PacketFault) → FaultsPacket bytes f → FaultsPacket bytes g → f ≡ g
one_fault_of bytes law Short Short h k = refl
one_fault_of bytes law Short Checksum h k = absurd (omega (arith, k.0))
one_fault_of bytes law Short NoChunk h k = absurd (omega (arith, k.0))
one_fault_of bytes law Short (Wire g) h k = absurd (omega (arith, k.0))
one_fault_of bytes law Checksum Short h k = absurd (omega (arith, h.0))
one_fault_of bytes law Checksum Checksum h k = refl
one_fault_of bytes law Checksum NoChunk h k = absurd (h.1 k.1)
one_fault_of bytes law Checksum (Wire g) h k = absurd (h.1 k.1)
one_fault_of bytes law NoChunk Short h k = absurd (omega (arith, h.0))
one_fault_of bytes law NoChunk Checksum h k = absurd (k.1 h.1)
one_fault_of bytes law NoChunk NoChunk h k = refl
one_fault_of bytes law NoChunk (Wire g) h k = absurd (omega (arith, h.0, k.0))
one_fault_of bytes law (Wire f) Short h k = absurd (omega (arith, h.0))
one_fault_of bytes law (Wire f) Checksum h k = absurd (k.1 h.1)
one_fault_of bytes law (Wire f) NoChunk h k = absurd (omega (arith, h.0, k.0))
one_fault_of bytes law (Wire f) (Wire g) h k =
    ap Wire (h.2.2 ∙ (ap (moved HEADER_ROOM) (law.one_fault h.2.0 k.2.0 h.2.1 k.2.1) ∙ sym k.2.2))

pub never_both_of : (bytes : List ℕ) → wire.ReadInOneWay (drop HEADER_ROOM bytes) → (p : Packet) (f : PacketFault) → ReadsPacket bytes p → FaultsPacket bytes f → ⊥
never_both_of bytes law p Short h k = let a = packet_parts bytes p h in absurd (omega (arith, a.long))
never_both_of bytes law p Checksum h k = let a = packet_parts bytes p h in k.1 a.checked
never_both_of bytes law p NoChunk h k = let a = packet_parts bytes p h in absurd (omega (arith, a.long, k.0))
never_both_of bytes law p (Wire f) h k = let a = packet_parts bytes p h in law.never_both p.chunks k.2.0 a.chunks k.2.1

-- ---- one of the two

abbrev fields_of : List ℕ → List ChunkMeaning → Packet
fields_of bytes ms = record {
  source = big_number 2 bytes;
  destination = big_number 2 (drop 2 bytes);
  tag = big_number 4 (drop 4 bytes);
  chunks = ms;
}

pub fields_small : (bytes : List ℕ) (ms : List ChunkMeaning) → AreLow bytes → IsHeader (fields_of bytes ms)
fields_small bytes ms low =
    let at_2 = low_behind 2 bytes low in
    let at_4 = low_behind 4 bytes low in
    record {
      source = omega (arith, low 0, low 1);
      destination = omega (arith, at_2 0, at_2 1);
      tag = omega (arith, at_4 0, at_4 1, at_4 2, at_4 3);
    }

chunks_or_fault : (bytes : List ℕ) → AreLow bytes → HEADER_ROOM < length bytes → IsChecked bytes
    → ((ms : List ChunkMeaning) × Reads (drop HEADER_ROOM bytes) ms) ⊎ ((f : WireFault) × Faults (drop HEADER_ROOM bytes) f)
    → ((p : Packet) × ReadsPacket bytes p) ⊎ ((f : PacketFault) × FaultsPacket bytes f)
chunks_or_fault bytes low long checked (inl h) =
    let p = fields_of bytes h.0 in
    inl (p, packet_whole bytes p low (fields_small bytes h.0 low) (record { long = long; checked = checked; source = refl; destination = refl; tag = refl; chunks = h.1 }))
chunks_or_fault bytes low long checked (inr h) = inr (Wire (moved HEADER_ROOM h.0), (long, checked, (h.0, h.1, refl)))

one_of_them_of : (bytes : List ℕ) → wire.ReadInOneWay (drop HEADER_ROOM bytes) → AreLow bytes → ((p : Packet) × ReadsPacket bytes p) ⊎ ((f : PacketFault) × FaultsPacket bytes f)
one_of_them_of bytes law low =
    elim (cases_lt (length bytes) HEADER_ROOM) [
      | inl short ↦ inr (Short, short)
      | inr long ↦
          elim (cases_eq (little_number 4 (drop 8 bytes)) (crc32c (without_sum bytes))) [
            | inr wrong ↦ inr (Checksum, (long, wrong))
            | inl checked ↦
                elim (cases_eq (length bytes) HEADER_ROOM) [
                  | inl alone ↦ inr (NoChunk, (alone, checked))
                  | inr more ↦ chunks_or_fault bytes low (omega arith) checked (law.one_of_them (low_behind HEADER_ROOM bytes low))
                ]
          ]
    ]

pub packets_in_one_way : ((bytes : List ℕ) → wire.ReadInOneWay bytes) → (bytes : List ℕ) → ReadInOneWay bytes
packets_in_one_way law bytes = record {
  one_packet = one_packet_of bytes (law (drop HEADER_ROOM bytes));
  one_fault = one_fault_of bytes (law (drop HEADER_ROOM bytes));
  never_both = never_both_of bytes (law (drop HEADER_ROOM bytes));
  one_of_them = one_of_them_of bytes (law (drop HEADER_ROOM bytes));
}
