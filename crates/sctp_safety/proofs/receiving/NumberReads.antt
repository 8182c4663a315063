-- The numbers of chunks and FORWARDs that come are read again: no number that is still to come lies further from the count that it is read near than the window
-- lets indexes lie past the cumulative one.
use Rattle.std.proofs.Common.{◌≡◌, ℕ, suc, ◌+◌, ◌-◌, ◌<◌, ◌≤◌, ◌⊎◌, true, length, Some, inl, inr, refl, arith}
use Rattle.std.proofs.lemmas.Bool.{cases_lt}
use Rattle.sctp_model.specs.numbers.Limits.{WINDOW}
use Rattle.sctp_model.specs.numbers.Serial.{COUNTS}
use Rattle.sctp_model.specs.messages.Format.{Kind, Ordered, Unordered, Lane, is_numbered, ordered_lane}
use Rattle.sctp_model.specs.messages.Framing.{wire_number, number_near}
use Rattle.sctp_model.specs.messages.Plan.{Message, Entry, Part, entry_at, message_at, IsOf}
use Rattle.sctp_model.specs.receiver.ReceiverView.{Reaches, IsCumulative}
use Rattle.sctp_model.specs.receiver.Reading.{reference_in}
use Rattle.sctp_model.specs.receiver.Laws.{IsIdle}
use Rattle.sctp_safety.specs.Way.{Way}
use Rattle.sctp_safety.specs.ReceiverLaws.{IsCounted}
use Rattle.sctp_safety.proofs.lists.Basics.{item_at-within}
use Rattle.sctp_safety.proofs.moves.Facts.{Good}
use Rattle.sctp_safety.proofs.plan.PlanLemmas.{message_of}
use Rattle.sctp_safety.proofs.plan.WaitedFor.{not_far_above, begun_below, not_far_below}
use Rattle.sctp_safety.proofs.receiving.NearReads.{IsClose, close_reads}
use Rattle.sctp_safety.proofs.receiving.ReadBounds.{cum_within, number_within}
use Rattle.sctp_safety.proofs.receiving.TopReads.{begun_to_top, not_far_above_top, not_far_below_top}

module _ (w : Way) (g : Good w) (idle : IsIdle w.format w.receiver) where
  -- ---- a lane's numbers, and the count that they are read near: NEXT or TOP

  abbrev lane : ℕ → Kind → Lane
  lane s k = record { stream = s; kind = k }

  known : (s n : ℕ) → w.sender.abandoned (ordered_lane s) n ≡ true → (m : Message) × (message_at w.sender.plan (ordered_lane s) n ≡ Some m)
  known s n gone = let x = g.sound.abandoned (ordered_lane s) n gone in (x.0, x.1)

  -- where all up to c is reached, no number lies far above it
  above : (s : ℕ) (k : Kind) → is_numbered w.format k ≡ true → (c d : ℕ) → ((i : ℕ) → 0 < i → i ≤ c → Reaches w.receiver i) → length w.sender.plan.entries ≤ c + d →
      (i n : ℕ) (e : Entry) → entry_at w.sender.plan i ≡ Some e → IsOf (lane s k) n e → n ≤ reference_in w.receiver s k + d
  above s Ordered numbered c d reached window i n e here own = elim (cases_lt (w.receiver.next s) n) [
    | inr low ↦ omega (arith, low)
    | inl more ↦
        let h = not_far_above w.format w.sender w.receiver s c d g.arranged g.held reached (idle.ordered s) window i n e here own more in
        omega (arith, h)
  ]
  above s Unordered numbered c d reached window i n e here own = not_far_above_top w g s numbered c d reached window i n e here own

  -- one with an entry past c doesn't lie far below it
  below : (s : ℕ) (k : Kind) → is_numbered w.format k ≡ true → (c d : ℕ) → length w.sender.plan.entries ≤ c + d →
      (i n : ℕ) (e : Entry) → entry_at w.sender.plan i ≡ Some e → IsOf (lane s k) n e → c < i → reference_in w.receiver s k ≤ n + d
  below s Ordered numbered c d window i n e here own past = elim (cases_lt (suc n) (w.receiver.next s)) [
    | inr low ↦ let within = item_at-within w.sender.plan.entries i e here in omega (arith, low, past, within, window)
    | inl more ↦ not_far_below w.format w.sender w.receiver s g.arranged g.held (known s) c d window i n e here own past more
  ]
  below s Unordered numbered c d window i n e here own past =
      let h = not_far_below_top w g s numbered c d window i n e here own past in
      omega (arith, h)

  -- each below it has begun
  begun : (s : ℕ) (k : Kind) → is_numbered w.format k ≡ true → (n : ℕ) → n < reference_in w.receiver s k → (i : ℕ) × (entry_at w.sender.plan i ≡ Some (Part (lane s k) n 0))
  begun s Ordered numbered n less = begun_below w.format w.sender w.receiver s g.arranged g.held (known s) n less
  begun s Unordered numbered n less = begun_to_top w g s numbered n (omega (arith, less)) (omega (arith, less))

  -- ---- what arrives

  module _ (counted : IsCounted w.sender) (c : ℕ) (cumulative : IsCumulative w.receiver c) (l : Lane) (numbered : is_numbered w.format l.kind ≡ true) where
    abbrev reference : ℕ
    reference = reference_in w.receiver l.stream l.kind

    -- the number, counted from a base, is read again
    abbrev IsRead : ℕ → ℕ → Type 0
    IsRead b n = number_near w.format l.kind (wire_number w.format l.kind (n - b)) (reference - b) ≡ Some (n - b)

    window : length w.sender.plan.entries ≤ c + WINDOW
    window = let a = counted.window in let b = cum_within w g c cumulative in omega (arith, a, b)

    reads : (b i n : ℕ) (e : Entry) → entry_at w.sender.plan i ≡ Some e → IsOf l n e → reference ≤ n + WINDOW → IsRead b n
    reads b i n e here own low = close_reads w.format l.kind (n - b) (reference - b) numbered close small
      where
        close : IsClose (n - b) (reference - b)
        close =
            let high = above l.stream l.kind numbered c WINDOW cumulative.reached window i n e here own in
            record { above = omega (arith, high); below = omega (arith, low) }

        small : n - b < COUNTS - 1
        small =
            let named = message_of w.format w.sender.plan g.arranged i e l n here own in
            let within = number_within w g l n named.0 named.1 in
            let counts = counted.counts in
            omega (arith, within, counts)

    -- The number of an entry past the cumulative index.
    pub entry_reads : (b i n : ℕ) (e : Entry) → entry_at w.sender.plan i ≡ Some e → IsOf l n e → c < i → IsRead b n
    entry_reads b i n e here own past = reads b i n e here own (below l.stream l.kind numbered c WINDOW window i n e here own past)

    -- The largest number that has an entry up to a point past the cumulative index: the one after it begins past the point.
    pub largest_reads : (b i n : ℕ) (e : Entry) → entry_at w.sender.plan i ≡ Some e → IsOf l n e → (p : ℕ) → c < p →
        ((j o : ℕ) (d : Entry) → j ≤ p → entry_at w.sender.plan j ≡ Some d → IsOf l o d → o ≤ n) → IsRead b n
    largest_reads b i n e here own p past largest = reads b i n e here own (low (cases_lt (suc n) reference))
      where
        by : (j : ℕ) → entry_at w.sender.plan j ≡ Some (Part l (suc n) 0) → (p < j) ⊎ (j ≤ p) → reference ≤ n + WINDOW
        by j there (inl later) =
            let h = below l.stream l.kind numbered p (WINDOW - 1) (omega (arith, window, past)) j (suc n) (Part l (suc n) 0) there (refl, refl) later in
            omega (arith, h)
        by j there (inr upto) = let h = largest j (suc n) (Part l (suc n) 0) upto there (refl, refl) in absurd (omega (arith, h))

        low : (suc n < reference) ⊎ (reference ≤ suc n) → reference ≤ n + WINDOW
        low (inr near) = omega (arith, near)
        low (inl far) = let next = begun l.stream l.kind numbered (suc n) far in by next.0 next.1 (cases_lt p next.0)
