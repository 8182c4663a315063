-- What an acknowledgement does to miss indications.
use Rattle.std.proofs.Common.{◌≡◌, ℕ, suc, ◌<◌, ◌≤◌, inl, inr, max, Bool, true, false, nat_lt, List, [], ◌∷◌, length, refl, sym, ap, ◌∙◌, arith}
use Rattle.std.specs.Prelude.{if◌then◌else◌, nat_le, ◌&&◌}
use Rattle.std.proofs.lemmas.Bool.{cases_Bool, cases_lt, false≢true, and_from, and_right, le-leb, lt-ltb, ltb-true}
use Rattle.sctp_model.specs.sender.SenderView.{SenderView}
use Rattle.sctp_model.specs.end.Misses.{Misses, newest, is_missed, is_taken_back, last_sent}
use Rattle.sctp_congestion.specs.Went.{is_among, went_at}
use Rattle.sctp_congestion.specs.PaceStands.{MissesKept, MissesStand}
use Rattle.sctp_congestion.specs.Highest.{AreHighest, AreTakenBack}
use Rattle.sctp_congestion.specs.declared.misses.Highest.{Highest}
use Rattle.sctp_congestion.proofs.WentLemmas.{went_by, went_later}

-- there is one among them
some_among : (is : List ℕ) (i : ℕ) → is_among is i ≡ true → 0 < length is
some_among [] i among = absurd (false≢true among)
some_among (j ∷ is) i among = omega arith

-- what is taken back has the highest index that was sent
back_at : (v u : SenderView) (room last i other : ℕ) (is : List ℕ) → AreTakenBack v u room last is → u.cum < i
    → (if is_taken_back v u i then last else other) ≡ (if is_taken_back v u i then last_sent u else other)
back_at v u room last i other is back above = elim (cases_Bool (is_taken_back v u i)) [
  | inl taken ↦ ap (λ (n : ℕ). if is_taken_back v u i then n else other) (back.highest (some_among is i (back.those.those i above ∙ taken)))
  | inr kept ↦ ap (λ (b : Bool). if b then last else other) kept ∙ sym (ap (λ (b : Bool). if b then last_sent u else other) kept)
]

pub taken_back_by : (v u : SenderView) (room last : ℕ) (is : List ℕ) (k : MissesKept) (m : Misses) → AreTakenBack v u room last is
    → MissesStand u.cum k (record m { went = λ i. if is_taken_back v u i then last else m.went i })
    → MissesStand u.cum k (record m { went = λ i. if is_taken_back v u i then last_sent u else m.went i })
taken_back_by v u room last is k m back stands = record {
  first = stands.first;
  second = stands.second;
  third = stands.third;
  exit = stands.exit;
  went = went_by u.cum k.went (λ i. if is_taken_back v u i then last else m.went i) (λ i. if is_taken_back v u i then last_sent u else m.went i) stands.went
      (λ i above. back_at v u room last i (m.went i) is back above);
}

-- which of its highest indexes counts
pub newest_by : (v u : SenderView) (x : Highest) (recovers : Bool) → AreHighest v u x → (if recovers then x.newest_in_recovery else x.newest) ≡ newest recovers v u
newest_by v u x true highest = highest.inside
newest_by v u x false highest = highest.outside

-- CUM has moved
pub misses_later : (cum later : ℕ) (k : MissesKept) (m : Misses) → MissesStand cum k m → cum ≤ later → MissesStand later k m
misses_later cum later k m stands more = record {
  first = stands.first;
  second = stands.second;
  third = stands.third;
  exit = stands.exit;
  went = went_later cum later k.went m.went stands.went more;
}

-- ---- which are missed

-- a test that is false from some number on is itself up to that
within : (b : Bool) (from i end : ℕ) → from ≤ i → (b ≡ true → i < end) → b ≡ (nat_le from i && (nat_lt i end && b))
within true from i end low high = sym (and_from (nat_le from i) (nat_lt i end && true) (le-leb from i low) (and_from (nat_lt i end) true (lt-ltb i end (high refl)) refl))
within false from i end low high = sym (and_right (nat_le from i) (nat_lt i end && false) (and_right (nat_lt i end) false refl))

pub missed_within : (cum from i end : ℕ) (k : MissesKept) (m : Misses) → MissesStand cum k m → from ≤ suc cum → cum < i → end ≡ max k.third k.went.early_end
    → is_missed m i ≡ (nat_le from i && (nat_lt i end && nat_lt (went_at k.went i) k.third))
missed_within cum from i end k m stands low above is =
    let at : went_at k.went i ≡ m.went i = stands.went.each i above in
    let same : is_missed m i ≡ nat_lt (went_at k.went i) k.third = sym (ap (λ (n : ℕ). nat_lt n k.third) at ∙ ap (nat_lt (m.went i)) stands.third) in
    same ∙ within (nat_lt (went_at k.went i) k.third) from i end (omega (arith, low, above)) (λ missed. elim (cases_lt i k.went.early_end) [
      | inl early ↦ omega (arith, early, is)
      | inr late ↦
          let first = stands.went.late i above late in
          let lower = ltb-true (went_at k.went i) k.third missed in
          omega (arith, first, lower, at, is)
    ])
