-- The walk over a stream's numbers ends where the words say, and delivers what they say; and they say it of one list alone.
use Rattle.std.proofs.Common.{◌≡◌, ℕ, suc, ◌<◌, ◌≤◌, List, ◌∷◌, Option, Some, ap, sym, ◌∙◌, subst, inl, inr, arith}
use Rattle.std.proofs.lemmas.Bool.{cases_lt}
use Rattle.sctp_model.specs.numbers.Lists.{Has}
use Rattle.sctp_model.specs.messages.Format.{Format, Ordered, ordered_lane}
use Rattle.sctp_model.specs.messages.Pieces.{Piece}
use Rattle.sctp_model.specs.receiver.ReceiverView.{Handed, ReceiverView}
use Rattle.sctp_model.specs.receiver.Receiving.{IsWholeNumber, HasNoWhole, message_of, IsDue, Stop, GivesWhole, Past}
use Rattle.sctp_model.specs.world.Safe.{IsNumberLess, IsRising}
use Rattle.sctp_model.specs.receiver.DueInWords.{IsToCome, AreMessage, IsPassedWhole, IsDueInWords}
use Rattle.sctp_model.specs.receiver.Laws.{IsFilledOnce}
use Rattle.sctp_model.proofs.receiver.Orders.{one_order}
use Rattle.sctp_model.proofs.receiver.OneWhole.{number_only, same_message}

-- ---- numbers of messages

less_by : (a b : ℕ) (o q : Option ℕ) → o ≡ Some a → q ≡ Some b → a < b → IsNumberLess o q
less_by a b o q first second less = subst (λ (z : Option ℕ). IsNumberLess z q) (sym first) (subst (IsNumberLess (Some a)) (sym second) less)

never_both : (a b : ℕ) (o q : Option ℕ) → o ≡ Some a → q ≡ Some b → IsNumberLess o q → IsNumberLess q o → ⊥
never_both a b o q first second up down =
    let less : a < b = subst (IsNumberLess (Some a)) second (subst (λ (z : Option ℕ). IsNumberLess z q) first up) in
    let more : b < a = subst (IsNumberLess (Some b)) first (subst (λ (z : Option ℕ). IsNumberLess z o) second down) in
    omega (arith, less, more)

module _ (f : Format) (r : ReceiverView) (s : ℕ) where
  its_number : (n m : ℕ) (h : Handed) → (p : IsPassedWhole f r s n m h) → h.number ≡ Some p.number
  its_number n m h p = ap (λ (k : Handed). k.number) (sym p.made) ∙ p.chunks.0.2.1

  its_kind : (n m : ℕ) (h : Handed) → IsPassedWhole f r s n m h → h.lane.kind ≡ Ordered
  its_kind n m h p = ap (λ (k : Handed). k.lane.kind) (sym p.made) ∙ ap (λ l. l.kind) p.chunks.0.2.0

  from_lower : (n m : ℕ) (h : Handed) → IsPassedWhole f r s (suc n) m h → IsPassedWhole f r s n m h
  from_lower n m h p = record { number = p.number; begun = omega (arith, p.begun); ended = p.ended; head = p.head; rest = p.rest; chunks = p.chunks; made = p.made }

  from_higher : (n m : ℕ) (h : Handed) → (p : IsPassedWhole f r s n m h) → n < p.number → IsPassedWhole f r s (suc n) m h
  from_higher n m h p above = record { number = p.number; begun = omega (arith, above); ended = p.ended; head = p.head; rest = p.rest; chunks = p.chunks; made = p.made }

  -- ---- where the walk ends

  ends_past : (n : ℕ) (ms : List Handed) (m : ℕ) → IsDue f r s n ms m → n ≤ m
  ends_past _ _ _ (Stop n high none) = omega arith
  ends_past _ _ _ (GivesWhole n m x xs ms whole low more) = omega (arith, ends_past (suc n) ms m more)
  ends_past _ _ _ (Past n m ms below none more) = omega (arith, ends_past (suc n) ms m more)

  pub ends_at : (n : ℕ) (ms : List Handed) (m : ℕ) → IsDue f r s n ms m → (r.skip (ordered_lane s) ≤ m) × HasNoWhole f r.kept (ordered_lane s) m
  ends_at _ _ _ (Stop n high none) = (high, none)
  ends_at _ _ _ (GivesWhole n m x xs ms whole low more) = ends_at (suc n) ms m more
  ends_at _ _ _ (Past n m ms below none more) = ends_at (suc n) ms m more

  ends_by : (n : ℕ) (ms : List Handed) (m : ℕ) → IsDue f r s n ms m → (k : ℕ) → IsToCome f r s n k → m ≤ k
  ends_by _ _ _ (Stop n high none) k (from, above, unmade) = from
  ends_by _ _ _ (GivesWhole n m x xs ms whole low more) k (from, above, unmade) = elim (cases_lt n k) [
    | inl past ↦ ends_by (suc n) ms m more k (omega (arith, past), above, unmade)
    | inr upto ↦ absurd (unmade (x ∷ xs) (let same : n ≡ k = omega (arith, upto, from) in subst (λ (j : ℕ). IsWholeNumber f r.kept (ordered_lane s) j (x ∷ xs)) same whole))
  ]
  ends_by _ _ _ (Past n m ms below none more) k (from, above, unmade) = ends_by (suc n) ms m more k (omega (arith, below, above), above, unmade)

  -- ---- what it delivers

  passed_each : (n : ℕ) (ms : List Handed) (m : ℕ) → IsDue f r s n ms m → (h : Handed) → Has ms h → IsPassedWhole f r s n m h
  passed_each _ _ _ (Stop n high none) h there = absurd there
  passed_each _ _ _ (GivesWhole n m x xs ms whole low more) h (inl made) =
      record { number = n; begun = omega arith; ended = omega (arith, ends_past (suc n) ms m more); head = x; rest = xs; chunks = (whole, low); made = made }
  passed_each _ _ _ (GivesWhole n m x xs ms whole low more) h (inr later) = from_lower n m h (passed_each (suc n) ms m more h later)
  passed_each _ _ _ (Past n m ms below none more) h there = from_lower n m h (passed_each (suc n) ms m more h there)

  rises : (n : ℕ) (ms : List Handed) (m : ℕ) → IsDue f r s n ms m → IsRising ms
  rises _ _ _ (Stop n high none) = tt
  rises _ _ _ (GivesWhole n m x xs ms whole low more) = (
    λ k later one two.
        let p = passed_each (suc n) ms m more k later in
        less_by n p.number x.number k.number whole.2.1 (its_number (suc n) m k p) (omega (arith, p.begun)),
    rises (suc n) ms m more,
  )
  rises _ _ _ (Past n m ms below none more) = rises (suc n) ms m more

  module _ (apart : IsFilledOnce f r.kept) where
    -- a number has one message
    one_message : (n : ℕ) (x z : Piece) (xs zs : List Piece) → AreMessage f r s n (x ∷ xs) → AreMessage f r s n (z ∷ zs) → message_of f x xs ≡ message_of f z zs
    one_message n x z xs zs (whole, low) (other, least) = same_message f x xs z zs (number_only f r.kept (ordered_lane s) n apart (x ∷ xs) (z ∷ zs) whole low other least)

    every_passed : (n : ℕ) (ms : List Handed) (m : ℕ) → IsDue f r s n ms m → (h : Handed) → IsPassedWhole f r s n m h → Has ms h
    every_passed _ _ _ (Stop n high none) h p = absurd (omega (arith, p.begun, p.ended))
    every_passed _ _ _ (GivesWhole n m x xs ms whole low more) h p = elim (cases_lt n p.number) [
      | inl past ↦ inr (every_passed (suc n) ms m more h (from_higher n m h p past))
      | inr upto ↦
          let same : p.number ≡ n = omega (arith, upto, p.begun) in
          let its = subst (λ (j : ℕ). AreMessage f r s j (p.head ∷ p.rest)) same p.chunks in
          inl (one_message n x p.head xs p.rest (whole, low) its ∙ p.made)
    ]
    every_passed _ _ _ (Past n m ms below none more) h p = elim (cases_lt n p.number) [
      | inl past ↦ every_passed (suc n) ms m more h (from_higher n m h p past)
      | inr upto ↦
          let same : p.number ≡ n = omega (arith, upto, p.begun) in
          absurd (none (p.head ∷ p.rest) (subst (λ (j : ℕ). IsWholeNumber f r.kept (ordered_lane s) j (p.head ∷ p.rest)) same p.chunks.0))
    ]

    -- THE WALK IS WHAT THE WORDS SAY.
    pub due_in_words : (n : ℕ) (ms : List Handed) (m : ℕ) → IsDue f r s n ms m → IsDueInWords f r s n ms m
    due_in_words n ms m due = record {
      waits = record { has = (ends_past n ms m due, (ends_at n ms m due).0, (ends_at n ms m due).1); least = ends_by n ms m due };
      in_order = rises n ms m due;
      only = passed_each n ms m due;
      all = every_passed n ms m due;
    }

  -- The words say it of one list and one number, whatever is kept.
  pub words_only : (n : ℕ) (ms os : List Handed) (m o : ℕ) → IsDueInWords f r s n ms m → IsDueInWords f r s n os o → (ms ≡ os) × (m ≡ o)
  words_only n ms os m o w v = (one_order _ ms os (strict ms m w) (strict os o v) w.in_order v.in_order to from, same)
    where
      same : m ≡ o
      same = let low = w.waits.least o v.waits.has in let high = v.waits.least m w.waits.has in omega (arith, low, high)

      to : (h : Handed) → Has ms h → Has os h
      to h there = v.all h (subst (λ (k : ℕ). IsPassedWhole f r s n k h) same (w.only h there))

      from : (h : Handed) → Has os h → Has ms h
      from h there = w.all h (subst (λ (k : ℕ). IsPassedWhole f r s n k h) (sym same) (v.only h there))

      Less : Handed → Handed → Type 0
      Less x y = x.lane.kind ≡ Ordered → y.lane.kind ≡ Ordered → IsNumberLess x.number y.number

      strict : (hs : List Handed) (k : ℕ) → IsDueInWords f r s n hs k → (x y : Handed) → Has hs x → Has hs y → Less x y → Less y x → ⊥
      strict hs k u x y here there up down =
          let p = u.only x here in
          let q = u.only y there in
          let a = its_kind n k x p in
          let b = its_kind n k y q in
          never_both p.number q.number x.number y.number (its_number n k x p) (its_number n k y q) (up a b) (down b a)
