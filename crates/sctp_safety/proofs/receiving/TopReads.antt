-- TOP of a stream: no index that was reached is of an unordered message above it, and it is 0 or the number of a message. So the numbers that are still to come
-- lie as near to it as indexes lie to the cumulative one.
use Rattle.std.proofs.Common.{◌≡◌, ℕ, ◌+◌, ◌-◌, ◌<◌, ◌≤◌, ◌⊎◌, max, true, List, [], ◌∷◌, length, Option, None, Some, inl, inr, refl, sym, subst, ap, arith, ◌∙◌}
use Rattle.std.proofs.lemmas.Bool.{cases_lt, cond_both}
use Rattle.sctp_model.specs.numbers.Lists.{Has}
use Rattle.sctp_model.specs.messages.Format.{Unordered, Lane, is_numbered, same_lane, unordered_lane}
use Rattle.sctp_model.specs.messages.Plan.{Message, Entry, Part, entry_at, message_at, IsOf}
use Rattle.sctp_model.specs.messages.Pieces.{Piece, piece_of}
use Rattle.sctp_model.specs.receiver.ReceiverView.{Handed, ReceiverView, handed, Reaches}
use Rattle.sctp_model.specs.receiver.Top.{number_on, largest_kept, largest_handed, top}
use Rattle.sctp_model.specs.world.Safe.{WasHanded}
use Rattle.sctp_safety.specs.Way.{Way}
use Rattle.sctp_safety.proofs.lists.Basics.{same_lane-true, same_lane-refl, item_at-above, item_at-within}
use Rattle.sctp_safety.proofs.moves.Facts.{Good, MayPass, IsDone, IsLost, IsOver, IsSettled}
use Rattle.sctp_safety.proofs.moves.Settled.{number_is}
use Rattle.sctp_safety.proofs.plan.OneMessage.{number_counts}
use Rattle.sctp_safety.proofs.plan.PlanLemmas.{message_of, same_message, renamed}
use Rattle.sctp_safety.proofs.plan.Spread.{lower_to, spread}

-- ---- the largest of some numbers

-- the larger of two has what both have
of_larger : (P : ℕ → Type 0) (a b : ℕ) → P a → P b → P (max a b)
of_larger P a b one other = elim (cases_lt a b) [
  | inl less ↦ let is : b ≡ max a b = omega (arith, less) in subst P is other
  | inr more ↦ let is : a ≡ max a b = omega (arith, more) in subst P is one
]

-- a number on the lane counts
on_lane_is : (l k : Lane) (o : Option ℕ) (n : ℕ) → k ≡ l → o ≡ Some n → number_on l k o ≡ n
on_lane_is l k o n lane number =
    let same : same_lane k l ≡ true = subst (λ (y : Lane). same_lane k y ≡ true) lane (same_lane-refl k) in
    rw (number, same) refl

-- what counts has what 0 and a number on the lane have
on_lane_has : (P : ℕ → Type 0) (l k : Lane) (o : Option ℕ) → P 0 → ((n : ℕ) → k ≡ l → o ≡ Some n → P n) → P (number_on l k o)
on_lane_has P l k None none own = none
on_lane_has P l k (Some n) none own = cond_both (same_lane k l) n 0 P (λ e. own n (same_lane-true k l e) refl) (λ e. none)

kept_below : (l : Lane) (xs : List Piece) (x : Piece) (n : ℕ) → Has xs x → x.lane ≡ l → x.number ≡ Some n → n ≤ largest_kept l xs
kept_below l [] x n there lane number = absurd there
kept_below l (y ∷ ys) x n (inl same) lane number =
    let own : number_on l y.lane y.number ≡ n = subst (λ (z : Piece). number_on l z.lane z.number ≡ n) (sym same) (on_lane_is l x.lane x.number n lane number) in
    omega (arith, own)
kept_below l (y ∷ ys) x n (inr there) lane number = let low = kept_below l ys x n there lane number in omega (arith, low)

kept_has : (P : ℕ → Type 0) (l : Lane) (xs : List Piece) → P 0 → ((x : Piece) (n : ℕ) → Has xs x → x.lane ≡ l → x.number ≡ Some n → P n) → P (largest_kept l xs)
kept_has P l [] none each = none
kept_has P l (x ∷ xs) none each =
    of_larger P (number_on l x.lane x.number) (largest_kept l xs) (on_lane_has P l x.lane x.number none (λ n. each x n (inl refl))) (kept_has P l xs none (λ y n there. each y n (inr there)))

handed_below : (l : Lane) (hs : List Handed) (h : Handed) (n : ℕ) → Has hs h → h.lane ≡ l → h.number ≡ Some n → n ≤ largest_handed l hs
handed_below l [] h n there lane number = absurd there
handed_below l (y ∷ ys) h n (inl same) lane number =
    let own : number_on l y.lane y.number ≡ n = subst (λ (z : Handed). number_on l z.lane z.number ≡ n) (sym same) (on_lane_is l h.lane h.number n lane number) in
    omega (arith, own)
handed_below l (y ∷ ys) h n (inr there) lane number = let low = handed_below l ys h n there lane number in omega (arith, low)

handed_has : (P : ℕ → Type 0) (l : Lane) (hs : List Handed) → P 0 → ((h : Handed) (n : ℕ) → Has hs h → h.lane ≡ l → h.number ≡ Some n → P n) → P (largest_handed l hs)
handed_has P l [] none each = none
handed_has P l (h ∷ hs) none each =
    of_larger P (number_on l h.lane h.number) (largest_handed l hs) (on_lane_has P l h.lane h.number none (λ n. each h n (inl refl))) (handed_has P l hs none (λ y n there. each y n (inr there)))

-- ---- a stream's TOP, if unordered messages have numbers

module _ (w : Way) (g : Good w) (s : ℕ) (numbered : is_numbered w.format Unordered ≡ true) where
  abbrev r : ReceiverView
  r = w.receiver

  abbrev l : Lane
  l = unordered_lane s

  numbered_there : (k : Lane) → k ≡ l → is_numbered w.format k.kind ≡ true
  numbered_there k same = subst (λ (y : Lane). is_numbered w.format y.kind ≡ true) (sym same) numbered

  -- ---- what lies no higher

  -- a number that the receiver is done with
  done_low : (n : ℕ) → IsDone w.format r l n → n ≤ top r s
  done_low n (inl unnumbered) = absurd (cc)
  done_low n (inr (inl skipped)) = omega (arith, skipped)
  done_low n (inr (inr (kind, below))) = absurd (cc)

  -- one that was delivered
  handed_low : (n : ℕ) → WasHanded w.sender.plan r l n → n ≤ top r s
  handed_low n (h, has, lane, first) =
      let honest = g.held.told.honest s h has in
      let begins = honest.sent.first in
      let same : honest.sent.number ≡ n = cc (begins, first) in
      let low = handed_below l (handed r s) h n has lane (honest.counted (numbered_there h.lane lane) ∙ ap (λ (k : ℕ). Some k) same) in
      omega (arith, low)

  -- one of an index that is settled
  settled_low : (i n : ℕ) (e : Entry) → entry_at w.sender.plan i ≡ Some e → IsOf l n e → IsSettled w.format w.sender r i → n ≤ top r s
  settled_low i n e here own x = go x.state
    where
      same : (x.lane ≡ l) × (x.number ≡ n)
      same =
          let there = x.here in
          let one : Part x.lane x.number x.fragment ≡ e = cc (there, here) in
          subst (IsOf l n) (sym one) own

      number : (piece_of w.format i x.lane x.number x.fragment x.message).number ≡ Some n
      number = number_counts w.format x.lane x.number (numbered_there x.lane same.0) ∙ ap (λ (k : ℕ). Some k) same.1

      go : Has r.kept (piece_of w.format i x.lane x.number x.fragment x.message) ⊎ IsOver w.format w.sender r x.lane x.number → n ≤ top r s
      go (inl kept) =
          let low = kept_below l r.kept (piece_of w.format i x.lane x.number x.fragment x.message) n kept same.0 number in
          omega (arith, low)
      go (inr (inl told)) = handed_low n (renamed (WasHanded w.sender.plan r) x.lane l x.number n same.0 same.1 told)
      go (inr (inr (gone, done))) = done_low n (renamed (IsDone w.format r) x.lane l x.number n same.0 same.1 done)

  -- So no index that was reached is of a message above it.
  pub reached_low : (i n : ℕ) (e : Entry) → entry_at w.sender.plan i ≡ Some e → IsOf l n e → Reaches r i → n ≤ top r s
  reached_low i n e here own (inl seen) = settled_low i n e here own (g.held.seen i seen)
  reached_low i n e here own (inr upto) = elim (g.held.jumped i (item_at-above w.sender.plan.entries i e here) upto) [
    | inl seen ↦ settled_low i n e here own (g.held.seen i seen)
    | inr x ↦ lost x
  ]
    where
      lost : IsLost w.format w.sender r i → n ≤ top r s
      lost x =
          let there = x.here in
          let one : x.entry ≡ e = cc (there, here) in
          let same = same_message x.lane l x.number n e (subst (IsOf x.lane x.number) one x.of) own in
          done_low n (renamed (IsDone w.format r) x.lane l x.number n same.0 same.1 x.done)

  -- ---- it is 0, or the number of a message

  abbrev IsNamed : ℕ → Type 0
  IsNamed n = (m : Message) × (message_at w.sender.plan l n ≡ Some m)

  -- above 0, a message has the number
  abbrev IsNoneOrNamed : ℕ → Type 0
  IsNoneOrNamed n = 0 < n → IsNamed n

  at_zero : IsNoneOrNamed 0
  at_zero some = absurd (omega (arith, some))

  skip_named : IsNoneOrNamed (r.skip l - 1)
  skip_named some = go (g.held.skips l (r.skip l - 1) (omega (arith, some)))
    where
      go : MayPass w.sender r l (r.skip l - 1) → IsNamed (r.skip l - 1)
      go (inl gone) = let x = g.sound.abandoned l (r.skip l - 1) gone in (x.0, x.1)
      go (inr seen) = (seen.message, seen.named)

  piece_named : (x : Piece) (n : ℕ) → Has r.kept x → x.lane ≡ l → x.number ≡ Some n → IsNoneOrNamed n
  piece_named x n has lane number some =
      let y = g.held.kept x has in
      let own = number_is w.format w.sender.plan x y (numbered_there x.lane lane) in
      let same : y.number ≡ n = cc (own, number) in
      (y.message, renamed (λ (k : Lane) (o : ℕ). message_at w.sender.plan k o ≡ Some y.message) x.lane l y.number n lane same y.named)

  message_named : (h : Handed) (n : ℕ) → Has (handed r s) h → h.lane ≡ l → h.number ≡ Some n → IsNoneOrNamed n
  message_named h n has lane number some =
      let honest = g.held.told.honest s h has in
      let own = honest.counted (numbered_there h.lane lane) in
      let same : honest.sent.number ≡ n = cc (own, number) in
      (honest.sent.message, renamed (λ (k : Lane) (o : ℕ). message_at w.sender.plan k o ≡ Some honest.sent.message) h.lane l honest.sent.number n lane same honest.sent.complete.0)

  pub top_named : IsNoneOrNamed (top r s)
  top_named =
      of_larger IsNoneOrNamed (r.skip l - 1) (max (largest_kept l r.kept) (largest_handed l (handed r s))) skip_named
      (of_larger IsNoneOrNamed (largest_kept l r.kept) (largest_handed l (handed r s)) (kept_has IsNoneOrNamed l r.kept at_zero piece_named)
      (handed_has IsNoneOrNamed l (handed r s) at_zero message_named))

  -- so each message up to it has begun
  pub begun_to_top : (n : ℕ) → n ≤ top r s → 0 < top r s → (i : ℕ) × (entry_at w.sender.plan i ≡ Some (Part l n 0))
  begun_to_top n low some =
      let highest = top_named some in
      let named = lower_to (w.sender.plan.messages l) n (top r s) highest.0 low highest.1 in
      g.arranged.begun l n named.0 named.1

  -- ---- how far the numbers of entries lie from it

  -- If all up to c is reached, whatever is of a message above it lies past c.
  pub not_far_above_top : (c d : ℕ) → ((i : ℕ) → 0 < i → i ≤ c → Reaches r i) → length w.sender.plan.entries ≤ c + d → (i n : ℕ) (e : Entry) → entry_at w.sender.plan i ≡ Some e → IsOf l n e →
      n ≤ top r s + d
  not_far_above_top c d reached window i n e here own = elim (cases_lt (top r s) n) [ inl above ↦ far above | inr low ↦ omega (arith, low) ]
    where
      -- the lowest number above it
      o : ℕ
      o = 1 + top r s

      far : top r s < n → n ≤ top r s + d
      far above =
          let highest = message_of w.format w.sender.plan g.arranged i e l n here own in
          let named = lower_to (w.sender.plan.messages l) o n highest.0 (omega (arith, above)) highest.1 in
          let first = g.arranged.begun l o named.0 named.1 in
          by first.0 first.1 (cases_lt c first.0) (cases_lt o n)
        where
          by : (j : ℕ) → entry_at w.sender.plan j ≡ Some (Part l o 0) → (c < j) ⊎ (j ≤ c) → (o < n) ⊎ (n ≤ o) → n ≤ top r s + d
          by j there (inr before) order =
              let low = reached_low j o (Part l o 0) there (refl, refl) (reached j (item_at-above w.sender.plan.entries j (Part l o 0) there) before) in
              absurd (omega (arith, low))
          by j there (inl past) (inr one) = let within = item_at-within w.sender.plan.entries j (Part l o 0) there in omega (arith, one, past, within, window)
          by j there (inl past) (inl more) =
              let apart = spread w.format w.sender.plan g.arranged l o n j i (Part l o 0) e there (refl, refl) here own more in
              let within = item_at-within w.sender.plan.entries i e here in
              omega (arith, more, past, apart, within, window)

  -- And what lies past c isn't far below it.
  pub not_far_below_top : (c d : ℕ) → length w.sender.plan.entries ≤ c + d → (i n : ℕ) (e : Entry) → entry_at w.sender.plan i ≡ Some e → IsOf l n e → c < i → top r s < n + d
  not_far_below_top c d window i n e here own past = elim (cases_lt n (top r s)) [
    | inr low ↦ let within = item_at-within w.sender.plan.entries i e here in omega (arith, low, past, within, window)
    | inl above ↦
        let j = begun_to_top (top r s) (omega arith) (omega (arith, above)) in
        let apart = spread w.format w.sender.plan g.arranged l n (top r s) i j.0 e (Part l (top r s) 0) here own j.1 (refl, refl) above in
        let within = item_at-within w.sender.plan.entries j.0 (Part l (top r s) 0) j.1 in
        omega (arith, above, past, apart, within, window)
  ]
