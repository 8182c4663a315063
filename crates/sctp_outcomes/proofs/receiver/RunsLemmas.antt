-- The blocks computed are all maximal runs above the cumulative index.
use Rattle.std.proofs.Common.{◌≡◌, ℕ, zero, suc, ◌+◌, ◌-◌, ◌<◌, ◌≤◌, ◌⊎◌, Bool, true, false, List, [], ◌∷◌, Option, None, Some, inl, inr, refl, ap, sym, subst, arith}
use Rattle.std.proofs.lemmas.Bool.{cases_eq, cases_lt}
use Rattle.sctp_model.specs.numbers.Lists.{Has}
use Rattle.sctp_model.specs.wire.Chunk.{BlockMeaning}
use Rattle.sctp_model.specs.receiver.ReceiverView.{ReceiverView, IsCumulative}
use Rattle.sctp_model.specs.messages.Acknowledgement.{IsRun}
use Rattle.sctp_model.specs.receiver.SackMade.{AreBlocksRising, AreAllRuns}
use Rattle.sctp_outcomes.specs.receiver.Runs.{block, walked, runs_from, all_runs}
use Rattle.sctp_outcomes.specs.receiver.Steps.{IsBound}

-- ---- the walk

module _ (r : ReceiverView) (c bound : ℕ) (within : IsBound r bound) where
  -- the index at the offset was recorded, or not
  abbrev IsSeen : ℕ → Type 0
  IsSeen k = r.seen (c + k) ≡ true

  -- a run is open that started here
  record IsOpen (s k : ℕ) : Type 0 where
    above : 1 < s
    some : s < k
    seen : (j : ℕ) → s ≤ j → j < k → IsSeen j
    before : (i : ℕ) → suc i ≡ c + s → r.seen i ≡ true → ⊥

  -- what the walk knows at an offset: it is past the first one, and the index before it isn't recorded, or a run is open
  abbrev Knows : Option ℕ → ℕ → Type 0
  Knows None k = (1 < k) × ((i : ℕ) → suc i ≡ c + k → r.seen i ≡ true → ⊥)
  Knows (Some s) k = IsOpen s k

  -- the lowest start of a run that the walk may still find
  abbrev least : Option ℕ → ℕ → ℕ
  least None k = k
  least (Some s) k = s

  record AreRuns (low : ℕ) (bs : List BlockMeaning) : Type 0 where
    runs : (b : BlockMeaning) → Has bs b → IsRun r c b
    from : (b : BlockMeaning) → Has bs b → low ≤ b.start
    rising : AreBlocksRising bs
    all : (b : BlockMeaning) → IsRun r c b → low ≤ b.start → Has bs b

  -- an open run that ends is one
  ended_run : (s k : ℕ) → IsOpen s k → (IsSeen k → ⊥) → IsRun r c (block s k)
  ended_run s k o ends = record {
    above = o.above;
    some = let a = o.some in omega arith;
    seen = λ i a b. at i a b;
    before = o.before;
    after = λ h. after h;
  }
    where
      at : (i : ℕ) → c + s ≤ i → i ≤ c + (k - 1) → r.seen i ≡ true
      at i a b =
          let l = o.some in
          let e : c + (i - c) ≡ i = omega arith in
          subst (λ (j : ℕ). r.seen j ≡ true) e (o.seen (i - c) (omega arith) (omega arith))

      after : r.seen (suc (c + (k - 1))) ≡ true → ⊥
      after h = let l = o.some in let e : suc (c + (k - 1)) ≡ c + k = omega arith in ends (subst (λ (j : ℕ). r.seen j ≡ true) e h)

  -- a run that starts with an open one that ends is that one; it can't start inside it
  same_run : (s k : ℕ) (b : BlockMeaning) → IsOpen s k → (IsSeen k → ⊥) → IsRun r c b → b.start ≡ s → block s k ≡ b
  same_run s k b o ends run e = same b run e (ended_run s k o ends) (cases_lt b.end (k - 1)) (cases_lt (k - 1) b.end)
    where
      block_of : (i j : ℕ) (a : BlockMeaning) → i ≡ a.start → j ≡ a.end → record { start = i; end = j } ≡ a
      block_of i j a p q =
          subst (λ (u : ℕ). record { start = u; end = j } ≡ a) (sym p) (subst (λ (u : ℕ). record { start = a.start; end = u } ≡ a) (sym q) refl)

      same : (a : BlockMeaning) → IsRun r c a → a.start ≡ s → IsRun r c (block s k) → (a.end < k - 1) ⊎ (k - 1 ≤ a.end) → (k - 1 < a.end) ⊎ (a.end ≤ k - 1) → block s k ≡ a
      same a run e mine (inl l) m =
          let some = run.some in
          absurd (run.after (mine.seen (suc (c + a.end)) (omega arith) (omega arith)))
      same a run e mine (inr l) (inl m) =
          let some = mine.some in
          absurd (mine.after (run.seen (suc (c + (k - 1))) (omega arith) (omega arith)))
      same a run e mine (inr l) (inr m) = block_of s (k - 1) a (sym e) (omega arith)

  not_inside : (s k : ℕ) (b : BlockMeaning) → IsOpen s k → IsRun r c b → s < b.start → b.start < k → ⊥
  not_inside s k b o run l m =
      run.before (c + (b.start - 1)) (omega arith) (o.seen (b.start - 1) (omega arith) (omega arith))

  -- no run starts at an offset whose index isn't recorded
  not_at : (k : ℕ) (b : BlockMeaning) → (IsSeen k → ⊥) → IsRun r c b → b.start ≡ k → ⊥
  not_at k b gone run e =
      let some = run.some in
      gone (run.seen (c + k) (omega arith) (omega arith))

  -- ---- one offset

  opens : (k : ℕ) → Knows None k → IsSeen k → IsOpen k (suc k)
  opens k (above, before) h = record {
    above = above;
    some = omega arith;
    seen = λ j a b. let e : k ≡ j = omega arith in subst IsSeen e h;
    before = before;
  }

  goes_on : (s k : ℕ) → IsOpen s k → IsSeen k → IsOpen s (suc k)
  goes_on s k o h = record { above = o.above; some = let l = o.some in omega arith; seen = λ j a b. at j a b (cases_eq j k); before = o.before }
    where
      at : (j : ℕ) → s ≤ j → j < suc k → (j ≡ k) ⊎ (j ≡ k → ⊥) → IsSeen j
      at j a b (inl e) = subst IsSeen (sym e) h
      at j a b (inr ne) = o.seen j a (omega arith)

  passes : (k : ℕ) → 1 < k → (IsSeen k → ⊥) → Knows None (suc k)
  passes k above gone = (omega arith, λ i e h. let same : i ≡ c + k = omega arith in gone (subst (λ (j : ℕ). r.seen j ≡ true) same h))

  -- a block before runs that start past it
  with_block : (s k : ℕ) (bs : List BlockMeaning) → IsOpen s k → (IsSeen k → ⊥) → AreRuns (suc k) bs → AreRuns s (block s k ∷ bs)
  with_block s k bs o ends more = record { runs = runs; from = from; rising = (λ a h. rises a h, more.rising); all = λ b run l. all b run l (cases_eq b.start s) }
    where
      runs : (b : BlockMeaning) → Has (block s k ∷ bs) b → IsRun r c b
      runs b (inl e) = subst (IsRun r c) e (ended_run s k o ends)
      runs b (inr h) = more.runs b h

      from : (b : BlockMeaning) → Has (block s k ∷ bs) b → s ≤ b.start
      from b (inl e) = let same : s ≡ b.start = ap (λ (z : BlockMeaning). z.start) e in omega arith
      from b (inr h) = let l = more.from b h in let m = o.some in omega arith

      rises : (a : BlockMeaning) → Has bs a → k - 1 < a.start
      rises a h = let l = more.from a h in omega arith

      past : (b : BlockMeaning) → IsRun r c b → s < b.start → (b.start < k) ⊎ (k ≤ b.start) → (b.start ≡ k) ⊎ (b.start ≡ k → ⊥) → Has bs b
      past b run l (inl m) e = absurd (not_inside s k b o run l m)
      past b run l (inr m) (inl e) = absurd (not_at k b ends run e)
      past b run l (inr m) (inr ne) = more.all b run (omega arith)

      all : (b : BlockMeaning) → IsRun r c b → s ≤ b.start → (b.start ≡ s) ⊎ (b.start ≡ s → ⊥) → Has (block s k ∷ bs) b
      all b run l (inl e) = inl (same_run s k b o ends run e)
      all b run l (inr ne) = inr (past b run (omega arith) (cases_lt b.start k) (cases_eq b.start k))

  -- no run starts at a gap
  past_gap : (k : ℕ) (bs : List BlockMeaning) → (IsSeen k → ⊥) → AreRuns (suc k) bs → AreRuns k bs
  past_gap k bs gone more = record { runs = more.runs; from = λ b h. let l = more.from b h in omega arith; rising = more.rising; all = λ b run l. all b run l (cases_eq b.start k) }
    where
      all : (b : BlockMeaning) → IsRun r c b → k ≤ b.start → (b.start ≡ k) ⊎ (b.start ≡ k → ⊥) → Has bs b
      all b run l (inl e) = absurd (not_at k b gone run e)
      all b run l (inr ne) = more.all b run (omega arith)

  none_from : (k : ℕ) → bound < c + k → AreRuns k []
  none_from k high = record { runs = λ b h. absurd h; from = λ b h. absurd h; rising = tt; all = λ b run l. all b run l }
    where
      all : (b : BlockMeaning) → IsRun r c b → k ≤ b.start → Has [] b
      all b run l = let some = run.some in let m = within (c + b.start) (run.seen (c + b.start) (omega arith) (omega arith)) in absurd (omega arith)

  walk : (depth : ℕ) (o : Option ℕ) (k : ℕ) → Knows o k → bound < c + k + depth → AreRuns (least o k) (runs_from r.seen c depth o k)
  walk zero None k knows enough = none_from k (omega arith)
  walk zero (Some s) k knows enough = with_block s k [] knows high (none_from (suc k) (omega arith))
    where
      high : IsSeen k → ⊥
      high h = let l = within (c + k) h in omega arith
  walk (suc depth) None k (above, before) enough =
      go (r.seen (c + k)) refl (λ knows. walk depth (Some k) (suc k) knows (omega arith)) (λ knows. walk depth None (suc k) knows (omega arith))
    where
      go : (b : Bool) → r.seen (c + k) ≡ b → (IsOpen k (suc k) → AreRuns k (runs_from r.seen c depth (Some k) (suc k))) →
          (Knows None (suc k) → AreRuns (suc k) (runs_from r.seen c depth None (suc k))) → AreRuns k (walked b None k (runs_from r.seen c depth))
      go true h on off = on (opens k (above, before) h)
      go false h on off = past_gap k (runs_from r.seen c depth None (suc k)) (λ y. cc (h, y)) (off (passes k above (λ y. cc (h, y))))
  walk (suc depth) (Some s) k knows enough =
      go (r.seen (c + k)) refl (λ more. walk depth (Some s) (suc k) more (omega arith)) (λ more. walk depth None (suc k) more (omega arith))
    where
      past_one : 1 < k
      past_one = let a = knows.above in let l = knows.some in omega arith

      go : (b : Bool) → r.seen (c + k) ≡ b → (IsOpen s (suc k) → AreRuns s (runs_from r.seen c depth (Some s) (suc k))) →
          (Knows None (suc k) → AreRuns (suc k) (runs_from r.seen c depth None (suc k))) → AreRuns s (walked b (Some s) k (runs_from r.seen c depth))
      go true h on off = on (goes_on s k knows h)
      go false h on off =
          with_block s k (runs_from r.seen c depth None (suc k)) knows (λ y. cc (h, y)) (off (passes k past_one (λ y. cc (h, y))))

pub runs_are : (r : ReceiverView) (c bound : ℕ) → IsBound r bound → IsCumulative r c → AreAllRuns r c (all_runs r c bound)
runs_are r c bound within cumulative = record { rising = all.rising; runs = all.runs; all = λ b run. let above = run.above in all.all b run (omega arith) }
  where
    knows : Knows r c bound within None 2
    knows = (omega arith, λ i e h. let same : i ≡ suc c = omega arith in cumulative.open_end (inl (subst (λ (j : ℕ). r.seen j ≡ true) same h)))

    all : AreRuns r c bound within 2 (all_runs r c bound)
    all = walk r c bound within bound None 2 knows (omega arith)
