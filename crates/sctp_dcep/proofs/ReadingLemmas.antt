-- What is written is read as the same.
use Rattle.std.proofs.Common.{◌≡◌, ℕ, ◌+◌, ◌%◌, ◌<◌, ◌≤◌, ◌^◌, Bool, true, false, List, [], ◌∷◌, ◌++◌, length, take, drop, refl, sym, ap, ◌∙◌, arith}
use Rattle.std.specs.Prelude.{◌==◌, nat_lt, if◌then◌else◌, Option, Some, None}
use Rattle.std.proofs.lemmas.Bool.Decides.{nat_tests}
use Rattle.sctp_model.specs.numbers.Numbers.{u16_bytes, u32_bytes, u16_at, u32_at}
use Rattle.sctp_dcep.specs.Content.{ContentReadsBack, content_of, id_of, carried}
use Rattle.sctp_dcep.specs.Dcep.{Reliability, Reliable, MaxRetransmits, MaxPacketLifetime, Parameters, value_of, type_of, IsParameters, channel_type, Control, Opens, opening_of, OpeningReadsBack, AcknowledgementReadsBack}

-- ---- a content

of_content : (text : Bool) (bytes : List ℕ) → content_of (id_of text bytes) (carried bytes) ≡ Some (record { text = text; bytes = bytes })
of_content true [] = refl
of_content false [] = refl
of_content true (b ∷ bs) = refl
of_content false (b ∷ bs) = refl

pub contents_read_back : ContentReadsBack
contents_read_back c = of_content c.text c.bytes

-- ---- an OPEN

-- its fields and texts, after the channel type
abbrev fields_of : (priority value : ℕ) → (label protocol more : List ℕ) → List ℕ
fields_of priority value label protocol more =
    (u16_bytes priority ++ (u32_bytes value ++ (u16_bytes (length label) ++ (u16_bytes (length protocol) ++ (label ++ protocol))))) ++ more

-- where each is
record AreFields (fields : List ℕ) (priority value : ℕ) (label protocol more : List ℕ) : Type 0 where
  long : nat_lt (length fields) 10 ≡ false
  whole : nat_lt (length fields) (10 + (length label + length protocol)) ≡ false
  priority_is : u16_at fields ≡ priority
  value_is : u32_at (drop 2 fields) ≡ value
  label_is : u16_at (drop 6 fields) ≡ length label
  protocol_is : u16_at (drop 8 fields) ≡ length protocol
  label_there : take (length label) (drop 10 fields) ≡ label
  protocol_there : take (length protocol) (drop (length label) (drop 10 fields)) ≡ protocol

take_all : (xs ys : List ℕ) → take (length xs) (xs ++ ys) ≡ xs
take_all [] ys = refl
take_all (x ∷ xs) ys = ap (λ (zs : List ℕ). x ∷ zs) (take_all xs ys)

drop_all : (xs ys : List ℕ) → drop (length xs) (xs ++ ys) ≡ ys
drop_all [] ys = refl
drop_all (x ∷ xs) ys = drop_all xs ys

put_behind : (xs ys zs : List ℕ) → (xs ++ ys) ++ zs ≡ xs ++ (ys ++ zs)
put_behind [] ys zs = refl
put_behind (x ∷ xs) ys zs = ap (λ (ws : List ℕ). x ∷ ws) (put_behind xs ys zs)

long_all : (xs ys : List ℕ) → length xs + length ys ≡ length (xs ++ ys)
long_all [] ys = omega arith
long_all (x ∷ xs) ys = let more = long_all xs ys in omega (arith, more)

are_fields : (priority value : ℕ) (label protocol more : List ℕ) → priority < 2 ^ 16 → value < 2 ^ 32 → length label < 2 ^ 16 → length protocol < 2 ^ 16
    → AreFields (fields_of priority value label protocol more) priority value label protocol more
unfolding u16_bytes u32_bytes u16_at u32_at
are_fields priority value label protocol more hp hv hl hq =
    let texts = long_all (label ++ protocol) more in
    let two = long_all label protocol in
    let same = put_behind label protocol more in
    record {
      long = grind (arith, nat_tests);
      whole = grind (arith, nat_tests, texts, two);
      priority_is = omega (arith, hp);
      value_is = omega (arith, hv);
      label_is = omega (arith, hl);
      protocol_is = omega (arith, hq);
      label_there = rw same (take_all label (protocol ++ more));
      protocol_there = rw same (rw (drop_all label (protocol ++ more)) (take_all protocol more));
    }

-- by ordering and reliability
by_kind : (fields : List ℕ) (priority : ℕ) (label protocol more : List ℕ) (ordered : Bool) (r : Reliability) → AreFields fields priority (value_of r) label protocol more
    → opening_of (channel_type (record { label = label; protocol = protocol; ordered = ordered; reliability = r; priority = priority }) ∷ fields)
    ≡ Opens (record { label = label; protocol = protocol; ordered = ordered; reliability = r; priority = priority })
by_kind fields priority label protocol more true Reliable h = rw (h.long, h.label_is, h.protocol_is, h.whole, h.priority_is, h.label_there, h.protocol_there) refl
by_kind fields priority label protocol more false Reliable h = rw (h.long, h.label_is, h.protocol_is, h.whole, h.priority_is, h.label_there, h.protocol_there) refl
by_kind fields priority label protocol more true (MaxRetransmits n) h = rw (h.long, h.label_is, h.protocol_is, h.whole, h.priority_is, h.value_is, h.label_there, h.protocol_there) refl
by_kind fields priority label protocol more false (MaxRetransmits n) h = rw (h.long, h.label_is, h.protocol_is, h.whole, h.priority_is, h.value_is, h.label_there, h.protocol_there) refl
by_kind fields priority label protocol more true (MaxPacketLifetime n) h = rw (h.long, h.label_is, h.protocol_is, h.whole, h.priority_is, h.value_is, h.label_there, h.protocol_there) refl
by_kind fields priority label protocol more false (MaxPacketLifetime n) h = rw (h.long, h.label_is, h.protocol_is, h.whole, h.priority_is, h.value_is, h.label_there, h.protocol_there) refl

pub openings_read_back : OpeningReadsBack
openings_read_back p more h =
    by_kind (fields_of p.priority (value_of p.reliability) p.label p.protocol more) p.priority p.label p.protocol more p.ordered p.reliability
    (are_fields p.priority (value_of p.reliability) p.label p.protocol more h.priority h.value h.label h.protocol)

-- ---- an ACK

pub acknowledgement_reads_back : AcknowledgementReadsBack
acknowledgement_reads_back = refl
