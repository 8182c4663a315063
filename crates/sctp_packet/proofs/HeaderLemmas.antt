-- A packet's header reads back from its bytes, and the bytes from what is read; the checksum is taken over the bytes with zero in its field.
use Rattle.std.proofs.Common.{◌≡◌, ℕ, zero, suc, ◌+◌, ◌^◌, ◌<◌, ◌≤◌, Bool, true, false, not, List, [], ◌∷◌, ◌++◌, map, length, drop, get_or, refl, sym, ap, subst, ◌∙◌, arith, length-drop}
use Rattle.std.proofs.lemmas.Nat.{be_bytes_2, be_bytes_4, le_bytes_4}
use Rattle.std.proofs.lemmas.List.{drop-drop, get_or-drop, length-map}
use Rattle.std.proofs.Math.Nat.{pow-suc}
use Rattle.byteorder.specs.Endian.{big_bytes, big_number, little_bytes, little_number}
use Rattle.byteorder.specs.Numbers.{big_number-reads_back, little_number-reads_back}
use Rattle.sctp_model.specs.wire.Packet.{Packet, HEADER_ROOM}
use Rattle.sctp_packet.specs.Checksum.{number, divisor, crc32c}
use Rattle.sctp_packet.specs.PacketBytes.{with_sum, packet_bytes, without_sum, IsHeader, IsChecked}
use Rattle.sctp_packet.proofs.ChecksumLaws.{checksum_is, length_tail, divisor_is}

-- ---- a checksum has 32 bits

number_small : (bs : List Bool) → number bs < 2 ^ length bs
unfolding number
number_small [] = omega arith
number_small (true ∷ bs) = omega (arith, number_small bs, pow-suc 2 (length bs))
number_small (false ∷ bs) = omega (arith, number_small bs, pow-suc 2 (length bs))

pub sum_small : (bytes : List ℕ) → crc32c bytes < 2 ^ 32
unfolding crc32c
sum_small bytes =
    let h = checksum_is bytes in
    let whole : length divisor ≡ 33 = ap length divisor_is ∙ ap suc length_tail in
    let long : length (map not h.rest) ≡ 32 = length-map h.rest not ∙ omega (arith, h.remains.shorter, whole) in
    let P : ℕ → Type 0 = λ n. n < 2 ^ 32 in
    let Q : ℕ → Type 0 = λ k. number (map not h.rest) < 2 ^ k in
    subst P (sym h.sent) (subst Q long (number_small (map not h.rest)))

-- ---- fields where they are written

pub length-with_sum : (p : Packet) (body : List ℕ) (sum : ℕ) → length (with_sum p body sum) ≡ 12 + length body
length-with_sum p body sum = omega arith

pub body_of : (p : Packet) (body : List ℕ) (sum : ℕ) → drop HEADER_ROOM (with_sum p body sum) ≡ body
body_of p body sum = refl

pub source_of : (p : Packet) (body : List ℕ) (sum : ℕ) → IsHeader p → big_number 2 (with_sum p body sum) ≡ p.source
source_of p body sum h = big_number-reads_back 2 p.source (big_bytes 2 p.destination ++ (big_bytes 4 p.tag ++ (little_bytes 4 sum ++ body))) h.source

pub destination_of : (p : Packet) (body : List ℕ) (sum : ℕ) → IsHeader p → big_number 2 (drop 2 (with_sum p body sum)) ≡ p.destination
destination_of p body sum h = big_number-reads_back 2 p.destination (big_bytes 4 p.tag ++ (little_bytes 4 sum ++ body)) h.destination

pub tag_of : (p : Packet) (body : List ℕ) (sum : ℕ) → IsHeader p → big_number 4 (drop 4 (with_sum p body sum)) ≡ p.tag
tag_of p body sum h = big_number-reads_back 4 p.tag (little_bytes 4 sum ++ body) h.tag

pub sum_of : (p : Packet) (body : List ℕ) (sum : ℕ) → sum < 2 ^ 32 → little_number 4 (drop 8 (with_sum p body sum)) ≡ sum
sum_of p body sum h = little_number-reads_back 4 sum body h

pub sum_left_out : (p : Packet) (body : List ℕ) (sum : ℕ) → without_sum (with_sum p body sum) ≡ with_sum p body 0
sum_left_out p body sum = refl

pub packet_is_checked : (p : Packet) (body : List ℕ) → IsChecked (packet_bytes p body)
packet_is_checked p body =
    let sum = crc32c (with_sum p body 0) in
    sum_of p body sum (sum_small (with_sum p body 0)) ∙ ap crc32c (sym (sum_left_out p body sum))

-- ---- the bytes of the fields that are read

two : (a b : ℕ) → a < 256 → b < 256 → (i : ℕ) → get_or (a ∷ b ∷ []) i 0 < 256
two a b p q zero = p
two a b p q (suc zero) = q
two a b p q (suc (suc i)) = omega arith

four : (a b c d : ℕ) → a < 256 → b < 256 → c < 256 → d < 256 → (i : ℕ) → get_or (a ∷ b ∷ c ∷ d ∷ []) i 0 < 256
four a b c d p q r s zero = p
four a b c d p q r s (suc zero) = q
four a b c d p q r s (suc (suc zero)) = r
four a b c d p q r s (suc (suc (suc zero))) = s
four a b c d p q r s (suc (suc (suc (suc i)))) = omega arith

abbrev pub AreLow : List ℕ → Type 0
AreLow bytes = (i : ℕ) → get_or bytes i 0 < 256

two_back : (bytes : List ℕ) → AreLow bytes → 2 ≤ length bytes → big_bytes 2 (big_number 2 bytes) ++ drop 2 bytes ≡ bytes
two_back [] fits long = absurd (omega arith)
two_back (a ∷ []) fits long = absurd (omega arith)
two_back (a ∷ b ∷ rest) fits long =
    ap (λ (xs : List ℕ). xs ++ rest) (be_bytes_2 (a ∷ b ∷ []) _ refl (two a b (fits 0) (fits 1)) (omega arith))

four_back : (bytes : List ℕ) → AreLow bytes → 4 ≤ length bytes → big_bytes 4 (big_number 4 bytes) ++ drop 4 bytes ≡ bytes
four_back [] fits long = absurd (omega arith)
four_back (a ∷ []) fits long = absurd (omega arith)
four_back (a ∷ b ∷ []) fits long = absurd (omega arith)
four_back (a ∷ b ∷ c ∷ []) fits long = absurd (omega arith)
four_back (a ∷ b ∷ c ∷ d ∷ rest) fits long =
    ap (λ (xs : List ℕ). xs ++ rest) (be_bytes_4 (a ∷ b ∷ c ∷ d ∷ []) _ refl (four a b c d (fits 0) (fits 1) (fits 2) (fits 3)) (omega arith))

low_back : (bytes : List ℕ) → AreLow bytes → 4 ≤ length bytes → little_bytes 4 (little_number 4 bytes) ++ drop 4 bytes ≡ bytes
low_back [] fits long = absurd (omega arith)
low_back (a ∷ []) fits long = absurd (omega arith)
low_back (a ∷ b ∷ []) fits long = absurd (omega arith)
low_back (a ∷ b ∷ c ∷ []) fits long = absurd (omega arith)
low_back (a ∷ b ∷ c ∷ d ∷ rest) fits long =
    ap (λ (xs : List ℕ). xs ++ rest) (le_bytes_4 (a ∷ b ∷ c ∷ d ∷ []) _ refl (four a b c d (fits 0) (fits 1) (fits 2) (fits 3)) (omega arith))

pub low_behind : (n : ℕ) (bytes : List ℕ) → AreLow bytes → AreLow (drop n bytes)
low_behind n bytes fits = λ i. rw (get_or-drop n bytes i 0) (fits (n + i))

-- the header that is read is the header of the bytes
pub header_back : (p : Packet) (bytes : List ℕ) → AreLow bytes → 12 ≤ length bytes → p.source ≡ big_number 2 bytes → p.destination ≡ big_number 2 (drop 2 bytes)
    → p.tag ≡ big_number 4 (drop 4 bytes) → with_sum p (drop 12 bytes) (little_number 4 (drop 8 bytes)) ≡ bytes
header_back p bytes fits long source destination tag =
    let behind_2 : big_bytes 2 p.destination ++ drop 4 bytes ≡ drop 2 bytes =
    rw (destination, ← drop-drop 2 2 bytes) (two_back (drop 2 bytes) (low_behind 2 bytes fits) (omega (arith, length-drop 2 bytes))) in
    let behind_4 : big_bytes 4 p.tag ++ drop 8 bytes ≡ drop 4 bytes =
    rw (tag, ← drop-drop 4 4 bytes) (four_back (drop 4 bytes) (low_behind 4 bytes fits) (omega (arith, length-drop 4 bytes))) in
    let behind_8 : little_bytes 4 (little_number 4 (drop 8 bytes)) ++ drop 12 bytes ≡ drop 8 bytes =
    rw (← drop-drop 4 8 bytes) (low_back (drop 8 bytes) (low_behind 8 bytes fits) (omega (arith, length-drop 8 bytes))) in
    ap (λ (xs : List ℕ). big_bytes 2 p.source ++ (big_bytes 2 p.destination ++ (big_bytes 4 p.tag ++ xs))) behind_8
    ∙ (ap (λ (xs : List ℕ). big_bytes 2 p.source ++ (big_bytes 2 p.destination ++ xs)) behind_4
    ∙ (ap (λ (xs : List ℕ). big_bytes 2 p.source ++ xs) behind_2
    ∙ (ap (λ (n : ℕ). big_bytes 2 n ++ drop 2 bytes) source ∙ two_back bytes fits (omega arith))))
