-- How many items are before each of the blocks: what a change among them leaves of that.
use Rattle.std.proofs.Common.{◌≡◌, ℕ, zero, suc, ◌+◌, ◌-◌, ◌<◌, ◌≤◌, List, [], ◌++◌, ◌∷◌, length, get_or, set, take, drop, sym, ap, inl, inr, ◌∙◌, arith, length-append}
use Rattle.std.specs.List.{insert, remove}
use Rattle.std.specs.declared.collections.VecDeque.{VecDeque}
use Rattle.std.proofs.lemmas.Bool.{cases_lt}
use Rattle.std.proofs.lemmas.List.{length-take-le, get_or_append_left, get_or_default, get_or-take, take-set-le, take-append-le, take-take}
use Rattle.sctp_sequence.specs.Blocks.{joined, AreStarts}
use Rattle.sctp_sequence.proofs.JoinedLemmas.{count_more, count_all}

-- what stands before a place stays in front
pub front_insert : {X : Type 0} (xs : List X) (i k : ℕ) (x : X) → k ≤ i → i ≤ length xs → take k (insert xs i x) ≡ take k xs
front_insert xs i k x below within =
    let long = length-take-le i xs within in
    take-append-le k (take i xs) (x ∷ drop i xs) (omega (arith, long)) ∙ take-take k i xs below

pub front_remove : {X : Type 0} (xs : List X) (i k : ℕ) → k ≤ i → i ≤ length xs → take k (remove xs i) ≡ take k xs
front_remove xs i k below within =
    let long = length-take-le i xs within in
    take-append-le k (take i xs) (drop (suc i) xs) (omega (arith, long)) ∙ take-take k i xs below

-- a number that is read of a list written in front of another
pub read_front : {X : Type 0} (n : ℕ) (xs ys : List X) (k : ℕ) (d : X) → k < n → k < length xs → get_or (take n (xs ++ ys)) k d ≡ get_or xs k d
read_front n xs ys k d less within = get_or-take n (xs ++ ys) k d less ∙ get_or_append_left xs ys d k within

module _ {X Z : Type 0} where
  -- behind a block that changes its length there are so many more or fewer
  pub later_set : (bs : List (VecDeque X Z)) (j k : ℕ) (b c : VecDeque X Z) → j < k → j < length bs → b ≡ get_or bs j b → length (joined (take k (set bs j c))) + length b.items ≡ length (joined (take k bs)) + length c.items
  later_set [] j k b c above less is = absurd (omega arith)
  later_set (x ∷ bs) j zero b c above less is = absurd (omega arith)
  later_set (x ∷ bs) zero (suc k) b c above less is =
      let new = length-append c.items (joined (take k bs)) in
      let old = length-append x.items (joined (take k bs)) in
      let same : length b.items ≡ length x.items = ap (λ (y : VecDeque X Z). length y.items) is in
      omega (arith, new, old, same)
  later_set (x ∷ bs) (suc j) (suc k) b c above less is =
      let others = later_set bs j k b c (omega arith) (omega arith) is in
      omega (arith, length-append x.items (joined (take k (set bs j c))), length-append x.items (joined (take k bs)), others)

  -- behind a block with an item there is one
  pub start_some : (bs : List (VecDeque X Z)) (j k : ℕ) (b : VecDeque X Z) → j < k → j < length bs → b ≡ get_or bs j b → 0 < length b.items → 0 < length (joined (take k bs))
  start_some [] j k b above less is some = absurd (omega arith)
  start_some (x ∷ bs) j zero b above less is some = absurd (omega arith)
  start_some (x ∷ bs) zero (suc k) b above less is some =
      let all = length-append x.items (joined (take k bs)) in
      let same : length b.items ≡ length x.items = ap (λ (y : VecDeque X Z). length y.items) is in
      omega (arith, all, same, some)
  start_some (x ∷ bs) (suc j) (suc k) b above less is some =
      let others = start_some bs j k b (omega arith) (omega arith) is some in
      omega (arith, length-append x.items (joined (take k bs)), others)

  -- a place behind the number of a block and not behind that of the next one lies in it
  pub lies_within : (bs : List (VecDeque X Z)) (m k high at s : ℕ) (ss : List ℕ) → m ≡ length bs → k < m → high ≡ k + 1 → AreStarts m ss bs → s ≡ get_or ss k s → length (joined (take k bs)) ≤ at → (high < length bs → at < length (joined (take high bs))) → at ≤ length (joined bs)
      → (b : VecDeque X Z) → (at - s ≤ length (get_or bs k b).items) × (at < length (joined bs) → at - s < length (get_or bs k b).items)
  lies_within bs m k high at s ss long less next starts read from below within b =
      let here = get_or bs k b in
      let start : s ≡ length (joined (take k bs)) = read ∙ starts k s less in
      let more = count_more bs k here (omega arith) (get_or_default bs k b here (omega arith)) in
      let same : length (joined (take high bs)) ≡ length (joined (take (k + 1) bs)) = ap (λ (n : ℕ). length (joined (take n bs))) next in
      elim (cases_lt high (length bs)) [
        | inl inside ↦ (let before = below inside in (omega (arith, start, more, same, before), λ _. omega (arith, start, from, more, same, before)))
        | inr over ↦ (let all = ap length (count_all bs high over) in (omega (arith, start, more, same, all), λ there. omega (arith, start, from, more, same, all, there)))
      ]

  -- a block changes, and not its length
  pub starts_kept : (m j : ℕ) (ss : List ℕ) (bs : List (VecDeque X Z)) (b c : VecDeque X Z) → j < length bs → b ≡ get_or bs j b → AreStarts m ss bs → length c.items ≡ length b.items → AreStarts m ss (set bs j c)
  starts_kept m j ss bs b c less is old same k d within = elim (cases_lt j k) [
    | inl above ↦ (let was = old k d within in let now = later_set bs j k b c above less is in omega (arith, was, now, same))
    | inr below ↦ old k d within ∙ ap (λ (l : List (VecDeque X Z)). length (joined l)) (sym (take-set-le k bs j c below))
  ]

  -- the first of them, where the blocks before are the same
  pub starts_same : (m n : ℕ) (ss ss' : List ℕ) (bs bs' : List (VecDeque X Z)) → n ≤ m → AreStarts m ss bs → ((k d : ℕ) → k < n → get_or ss' k d ≡ get_or ss k d) → ((k : ℕ) → k < n → take k bs' ≡ take k bs) → AreStarts n ss' bs'
  starts_same m n ss ss' bs bs' within old read same k d less = read k d less ∙ old k d (omega arith) ∙ ap (λ (l : List (VecDeque X Z)). length (joined l)) (sym (same k less))

  module _ (m j : ℕ) (ss ss' : List ℕ) (bs : List (VecDeque X Z)) (b c : VecDeque X Z) (less : j < length bs) (is : b ≡ get_or bs j b) (each : length ss ≡ m) (old : AreStarts m ss bs) (before : (k d : ℕ) → k < j + 1 → get_or ss' k d ≡ get_or ss k d) where
    start_before : (k d : ℕ) → k < j + 1 → k < m → get_or ss' k d ≡ length (joined (take k (set bs j c)))
    start_before k d below within = before k d below ∙ old k d within ∙ ap (λ (l : List (VecDeque X Z)). length (joined l)) (sym (take-set-le k bs j c (omega arith)))

    -- an item came into a block
    pub starts_raised : length c.items ≡ length b.items + 1 → ((k d : ℕ) → j + 1 ≤ k → k < length ss → get_or ss' k d ≡ get_or ss k d + 1) → AreStarts m ss' (set bs j c)
    starts_raised more later k d within = elim (cases_lt k (j + 1)) [
      | inl below ↦ start_before k d below within
      | inr above ↦ (let one = later k d above (omega arith) in
          let now = later_set bs j k b c (omega arith) less is in
          omega (arith, one, old k d within, now, more))
    ]

    -- and one went
    pub starts_lowered : length c.items + 1 ≡ length b.items → ((k d : ℕ) → j + 1 ≤ k → k < length ss → get_or ss' k d + 1 ≡ get_or ss k d) → AreStarts m ss' (set bs j c)
    starts_lowered fewer later k d within = elim (cases_lt k (j + 1)) [
      | inl below ↦ start_before k d below within
      | inr above ↦ (let one = later k d above (omega arith) in
          let now = later_set bs j k b c (omega arith) less is in
          omega (arith, one, old k d within, now, fewer))
    ]
