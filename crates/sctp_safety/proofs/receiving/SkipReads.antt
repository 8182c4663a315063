-- A FORWARD's entries, written and read again, are the ones that it had; which of them count.
use Rattle.std.proofs.Common.{◌≡◌, ℕ, suc, ◌<◌, ◌≤◌, ◌⊎◌, max, nat_lt, true, false, Bool, List, [], ◌∷◌, map, Option, Some, inl, inr, refl, subst, ap, arith, ◌∙◌}
use Rattle.std.specs.Prelude.{if◌then◌else◌}
use Rattle.std.proofs.lemmas.Bool.{cases_lt}
use Rattle.std.proofs.lemmas.Bool.Decides.{nat_tests}
use Rattle.sctp_model.specs.numbers.Lists.{Has}
use Rattle.sctp_model.specs.messages.Format.{Format, Kind, Ordered, Unordered, Lane}
use Rattle.sctp_model.specs.messages.Forward.{Skip, skipped}
use Rattle.sctp_model.specs.receiver.ReceiverView.{ReceiverView}
use Rattle.sctp_model.specs.sender.SentChunks.{number_said, skip_said}
use Rattle.sctp_model.specs.receiver.Reading.{number_in, lowest_in, is_late}
use Rattle.sctp_model.specs.receiver.ForwardTaken.{with_skip, skips_read}
use Rattle.sctp_safety.specs.Way.{IsSkippedBy}
use Rattle.sctp_safety.proofs.lists.Basics.{at_lane_cases}
use Rattle.sctp_safety.proofs.moves.ForwardMove.{raised, raised_grows, skipped_grows, skipped_has}
use Rattle.sctp_safety.proofs.receiving.PieceReads.{kind_reads}

-- ---- the entries read again

-- an entry, whose number is counted from this base, is read as its number
abbrev pub ReadsSkip : Format → ReceiverView → (base : Lane → ℕ) → Skip → Type 0
ReadsSkip f r base y = number_in f r y.lane (number_said f base y.lane y.number) ≡ Some y.number

-- of these entries, those whose numbers aren't late
abbrev pub counting : ReceiverView → List Skip → List Skip
counting r [] = []
counting r (y ∷ ys) = if is_late r y.lane (Some y.number) then counting r ys else y ∷ counting r ys

pub read_again : (f : Format) (r : ReceiverView) (base : Lane → ℕ) (ys : List Skip) → ((y : Skip) → Has ys y → ReadsSkip f r base y) → skips_read f r (map (skip_said f base) ys) ≡ counting r ys
read_again f r base [] reads = refl
read_again f r base (y ∷ ys) reads =
    ap (λ (l : Lane). with_skip r l (number_in f r l (number_said f base y.lane y.number)) (skips_read f r (map (skip_said f base) ys))) (kind_reads y.lane)
    ∙ ap (λ (o : Option ℕ). with_skip r y.lane o (skips_read f r (map (skip_said f base) ys))) (reads y (inl refl))
    ∙ ap (with_skip r y.lane (Some y.number)) (read_again f r base ys (λ z h. reads z (inr h)))

-- ---- the numbers that are skipped then

module _ (r : ReceiverView) where
  -- an entry counts, or is late
  counts_or_late : (ys : List Skip) (y : Skip) → Has ys y → Has (counting r ys) y ⊎ (is_late r y.lane (Some y.number) ≡ true)
  counts_or_late [] y h = absurd h
  counts_or_late (x ∷ xs) y h = go (is_late r x.lane (Some x.number)) refl h (counts_or_late xs y)
    where
      go : (b : Bool) → is_late r x.lane (Some x.number) ≡ b → Has (x ∷ xs) y → (Has xs y → Has (counting r xs) y ⊎ (is_late r y.lane (Some y.number) ≡ true)) →
          Has (if b then counting r xs else x ∷ counting r xs) y ⊎ (is_late r y.lane (Some y.number) ≡ true)
      go true late (inl e) more = inr (subst (λ (z : Skip). is_late r z.lane (Some z.number) ≡ true) e late)
      go true late (inr k) more = more k
      go false late (inl e) more = inl (inl e)
      go false late (inr k) more = elim (more k) [ inl there ↦ inl (inr there) | inr old ↦ inr old ]

  -- the fewer entries, the less is skipped
  raised_more : (low high : Lane → ℕ) (y : Skip) → ((l : Lane) → low l ≤ high l) → (l : Lane) → raised low y l ≤ raised high y l
  raised_more low high y le l = at_lane_cases (λ (b : ℕ). b ≤ raised high y l) low y.lane (max (low y.lane) (suc y.number)) l here there
    where
      here : l ≡ y.lane → max (low y.lane) (suc y.number) ≤ raised high y l
      here e = at_lane_cases (λ (b : ℕ). max (low y.lane) (suc y.number) ≤ b) high y.lane (max (high y.lane) (suc y.number)) l
          (λ q. let a = le y.lane in omega (arith, a)) (λ ne. absurd (ne e))

      there : (l ≡ y.lane → ⊥) → low l ≤ raised high y l
      there ne = let a = le l in let b = raised_grows high y l in omega (arith, a, b)

  counting_less : (ys : List Skip) (low high : Lane → ℕ) → ((l : Lane) → low l ≤ high l) → (l : Lane) → skipped low (counting r ys) l ≤ skipped high ys l
  counting_less [] low high le l = le l
  counting_less (x ∷ xs) low high le l = go (is_late r x.lane (Some x.number)) (λ lower less. counting_less xs lower (raised high x) less l)
    where
      go : (b : Bool) → ((lower : Lane → ℕ) → ((k : Lane) → lower k ≤ raised high x k) → skipped lower (counting r xs) l ≤ skipped (raised high x) xs l) →
          skipped low (if b then counting r xs else x ∷ counting r xs) l ≤ skipped high (x ∷ xs) l
      go true more = more low (λ k. let a = le k in let b = raised_grows high x k in omega (arith, a, b))
      go false more = more (raised low x) (raised_more low high x le)

  -- a late number is skipped already, or it lies below the stream's next
  late_is : (y : Skip) → is_late r y.lane (Some y.number) ≡ true → (y.number < r.skip y.lane) ⊎ ((y.lane.kind ≡ Ordered) × (y.number < r.next y.lane.stream))
  late_is y late = go y.lane.kind refl late
    where
      go : (k : Kind) → y.lane.kind ≡ k → nat_lt y.number (lowest_in r y.lane k) ≡ true → (y.number < r.skip y.lane) ⊎ ((y.lane.kind ≡ Ordered) × (y.number < r.next y.lane.stream))
      go Unordered e h = inl (grind (arith, h, nat_tests))
      go Ordered e h = elim (cases_lt y.number (r.next y.lane.stream)) [
        | inl below ↦ inr (e, below)
        | inr past ↦ inl (grind (arith, h, past, nat_tests))
      ]

  pub counting_skips : (ys : List Skip) → IsSkippedBy r ys (skipped r.skip (counting r ys))
  counting_skips ys = record {
    raised = skipped_grows (counting r ys) r.skip;
    within = counting_less ys r.skip r.skip (λ l. omega arith);
    counts = λ y h. elim (counts_or_late ys y h) [
      | inl there ↦ inl (skipped_has (counting r ys) r.skip y there)
      | inr late ↦ elim (late_is y late) [
        | inl before ↦ let more = skipped_grows (counting r ys) r.skip y.lane in inl (omega (arith, before, more))
        | inr behind ↦ inr behind
      ]
    ];
  }
