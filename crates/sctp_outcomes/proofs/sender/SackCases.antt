-- What is reported of a SACK and of a SHUTDOWN is what they say: their index, their faults, and what they cover.
use Rattle.std.proofs.Common.{◌≡◌, ℕ, ◌+◌, ◌^◌, ◌<◌, ◌≤◌, ◌⊎◌, ◌↔◌, inl, inr, Bool, true, false, not, ◌&&◌, ◌||◌, List, [], ◌∷◌, length, refl, sym, subst, arith}
use Rattle.std.specs.Prelude.{nat_lt, nat_le}
use Rattle.std.proofs.lemmas.Bool.{and_parts, and_from, or_parts, or_from, or_left, or_right}
use Rattle.std.proofs.lemmas.Bool.Decides.{nat_tests}
use Rattle.sctp_model.specs.numbers.Lists.{Has}
use Rattle.sctp_model.specs.wire.Chunk.{BlockMeaning}
use Rattle.sctp_model.specs.numbers.Serial.{tsn, ahead, before}
use Rattle.sctp_model.specs.messages.Acknowledgement.{in_blocks}
use Rattle.sctp_model.specs.sender.SenderView.{SenderView}
use Rattle.sctp_model.specs.sender.SackTaken.{is_stale, index_of, some_ends_past, is_beyond, some_is_bad, sack_covers}
use Rattle.sctp_outcomes.specs.sender.Sacks.{IsReadAs, IsPast, AreBlocks, IsAcknowledged}

-- ---- tests of numbers

le_of : (a b : ℕ) → nat_le a b ≡ true → a ≤ b
le_of a b is = grind (arith, nat_tests)

of_le : (a b : ℕ) → a ≤ b → nat_le a b ≡ true
of_le a b is = grind (arith, nat_tests)

lt_of : (a b : ℕ) → nat_lt a b ≡ true → a < b
lt_of a b is = grind (arith, nat_tests)

of_lt : (a b : ℕ) → a < b → nat_lt a b ≡ true
of_lt a b is = grind (arith, nat_tests)

-- one of two tests holds
pub or_way : (x y : Bool) → (x || y) ≡ true → (x ≡ true) ⊎ (y ≡ true)
or_way true y is = inl refl
or_way false y is = inr is

-- ---- the index

value_at : (initial c wire : ℕ) → wire < 2 ^ 32 → tsn initial (c + ahead 32 (tsn initial c) wire) ≡ wire
value_at initial c wire low = grind (arith, low)

near_at : (initial c wire : ℕ) → before 32 wire (tsn initial c) ≡ false → ahead 32 (tsn initial c) wire ≤ 2 ^ 31
near_at initial c wire fresh = grind (arith, nat_tests, fresh)

pub read_is : (v : SenderView) (wire : ℕ) → wire < 2 ^ 32 → is_stale v wire ≡ false → IsReadAs v wire (index_of v wire)
read_is v wire low fresh = record {
  from = omega arith;
  within = let near = near_at v.initial v.cum wire fresh in omega (arith, near);
  tsn = value_at v.initial v.cum wire low;
}

-- what is so far ahead isn't before, and it is read as itself
pub not_before : (initial c d : ℕ) → d ≤ 2 ^ 31 → before 32 (tsn initial (c + d)) (tsn initial c) ≡ false
not_before initial c d near = grind (arith, nat_tests, near)

pub ahead_is : (initial c d : ℕ) → d ≤ 2 ^ 31 → ahead 32 (tsn initial c) (tsn initial (c + d)) ≡ d
ahead_is initial c d near = grind (arith, near)

-- ---- past the last one

pub ends_past : (last c : ℕ) (blocks : List BlockMeaning) → some_ends_past last c blocks ≡ true → (b : BlockMeaning) × Has blocks b × (last < c + b.end)
ends_past last c [] is = absurd (cc)
ends_past last c (b ∷ bs) is =
    elim (or_way (nat_lt last (c + b.end)) (some_ends_past last c bs) is) [
      | inl here ↦ (b, inl refl, lt_of last (c + b.end) here)
      | inr later ↦ let r = ends_past last c bs later in (r.0, inr r.1, r.2)
    ]

pub past_ends : (last c : ℕ) (blocks : List BlockMeaning) (b : BlockMeaning) → Has blocks b → last < c + b.end → some_ends_past last c blocks ≡ true
past_ends last c [] b has past = absurd has
past_ends last c (x ∷ bs) b has past =
    elim has [
      | inl same ↦ or_left (nat_lt last (c + x.end)) (some_ends_past last c bs) (of_lt last (c + x.end) (subst (λ (y : BlockMeaning). last < c + y.end) (sym same) past))
      | inr later ↦ or_right (nat_lt last (c + x.end)) (some_ends_past last c bs) (past_ends last c bs b later past)
    ]

pub beyond_is : (v : SenderView) (c : ℕ) (blocks : List BlockMeaning) → is_beyond v c blocks ≡ true → IsPast v c blocks
beyond_is v c blocks is =
    elim (or_way (nat_lt (length v.plan.entries) c) (some_ends_past (length v.plan.entries) c blocks) is) [
      | inl past ↦ inl (lt_of (length v.plan.entries) c past)
      | inr ends ↦ inr (ends_past (length v.plan.entries) c blocks ends)
    ]

pub past_is : (v : SenderView) (c : ℕ) (blocks : List BlockMeaning) → IsPast v c blocks → is_beyond v c blocks ≡ true
past_is v c blocks is =
    elim is [
      | inl past ↦ or_left (nat_lt (length v.plan.entries) c) (some_ends_past (length v.plan.entries) c blocks) (of_lt (length v.plan.entries) c past)
      | inr r ↦ or_right (nat_lt (length v.plan.entries) c) (some_ends_past (length v.plan.entries) c blocks) (past_ends (length v.plan.entries) c blocks r.0 r.1 r.2)
    ]

-- ---- blocks in order

pub blocks_are : (offset : ℕ) (blocks : List BlockMeaning) → some_is_bad offset blocks ≡ false → AreBlocks offset blocks
blocks_are offset [] is = tt
blocks_are offset (b ∷ bs) is =
    let parts = or_parts (nat_le b.start offset || nat_lt b.end b.start) (some_is_bad b.end bs) is in
    let two = or_parts (nat_le b.start offset) (nat_lt b.end b.start) parts.0 in
    (let off = two.0 in grind (arith, nat_tests), let off = two.1 in grind (arith, nat_tests), blocks_are b.end bs parts.1)

pub are_blocks : (offset : ℕ) (blocks : List BlockMeaning) → AreBlocks offset blocks → some_is_bad offset blocks ≡ false
are_blocks offset [] is = refl
are_blocks offset (b ∷ bs) is =
    let behind : nat_le b.start offset ≡ false = let lt = is.0 in grind (arith, nat_tests) in
    let whole : nat_lt b.end b.start ≡ false = let le = is.1 in grind (arith, nat_tests) in
    or_from (nat_le b.start offset || nat_lt b.end b.start) (some_is_bad b.end bs) (or_from (nat_le b.start offset) (nat_lt b.end b.start) behind whole) (are_blocks b.end bs is.2)

-- ---- what is covered

in_blocks_is : (c : ℕ) (blocks : List BlockMeaning) (i : ℕ) → in_blocks c blocks i ≡ true → (b : BlockMeaning) × Has blocks b × (c + b.start ≤ i) × (i ≤ c + b.end)
in_blocks_is c [] i is = absurd (cc)
in_blocks_is c (b ∷ bs) i is =
    elim (or_way (nat_le (c + b.start) i && nat_le i (c + b.end)) (in_blocks c bs i) is) [
      | inl here ↦ let r = and_parts (nat_le (c + b.start) i) (nat_le i (c + b.end)) here in (b, inl refl, le_of (c + b.start) i r.0, le_of i (c + b.end) r.1)
      | inr later ↦ let r = in_blocks_is c bs i later in (r.0, inr r.1, r.2, r.3)
    ]

is_in_blocks : (c : ℕ) (blocks : List BlockMeaning) (i : ℕ) (b : BlockMeaning) → Has blocks b → c + b.start ≤ i → i ≤ c + b.end → in_blocks c blocks i ≡ true
is_in_blocks c [] i b has low high = absurd has
is_in_blocks c (x ∷ bs) i b has low high =
    elim has [
      | inl same ↦ or_left (nat_le (c + x.start) i && nat_le i (c + x.end)) (in_blocks c bs i)
          (and_from (nat_le (c + x.start) i) (nat_le i (c + x.end)) (of_le (c + x.start) i (subst (λ (y : BlockMeaning). c + y.start ≤ i) (sym same) low)) (of_le i (c + x.end) (subst (λ (y : BlockMeaning). i ≤ c + y.end) (sym same) high)))
      | inr later ↦ or_right (nat_le (c + x.start) i && nat_le i (c + x.end)) (in_blocks c bs i) (is_in_blocks c bs i b later low high)
    ]

pub covers_is : (c : ℕ) (blocks : List BlockMeaning) (i : ℕ) → (sack_covers c blocks i ≡ true) ↔ IsAcknowledged c blocks i
covers_is c blocks i = (forth, back)
  where
    forth : sack_covers c blocks i ≡ true → IsAcknowledged c blocks i
    forth is =
        elim (or_way (nat_le i c) (in_blocks c blocks i) is) [
          | inl low ↦ inl (le_of i c low)
          | inr high ↦ inr (in_blocks_is c blocks i high)
        ]

    back : IsAcknowledged c blocks i → sack_covers c blocks i ≡ true
    back is =
        elim is [
          | inl low ↦ or_left (nat_le i c) (in_blocks c blocks i) (of_le i c low)
          | inr r ↦ or_right (nat_le i c) (in_blocks c blocks i) (is_in_blocks c blocks i r.0 r.1 r.2 r.3)
        ]

-- a mark stays if it was, and isn't covered
pub mark_stays : (marked covered : Bool) → ((marked && not covered) ≡ true) ↔ ((marked ≡ true) × (covered ≡ true → ⊥))
mark_stays true true = (λ is. absurd (cc), λ is. absurd (is.1 refl))
mark_stays true false = (λ is. (refl, λ on. absurd (cc)), λ is. refl)
mark_stays false covered = (λ is. absurd (cc), λ is. absurd (let on = is.0 in cc))
