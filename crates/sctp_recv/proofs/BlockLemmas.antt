-- The runs kept are the maximal runs of the view.
use Rattle.std.proofs.Common.{◌≡◌, ℕ, suc, ◌+◌, ◌-◌, ◌<◌, ◌≤◌, ◌⊎◌, true, false, List, [], ◌∷◌, length, map, inl, inr, refl, sym, ◌∙◌, ap, subst, arith}
use Rattle.std.proofs.lemmas.Bool.{cases_Bool, cases_lt}
use Rattle.std.proofs.lemmas.Bool.Decides.{nat_tests}
use Rattle.std.proofs.lemmas.Grind.{common_steps}
use Rattle.sctp_model.specs.numbers.Lists.{Has}
use Rattle.sctp_model.specs.wire.Chunk.{BlockMeaning}
use Rattle.sctp_model.specs.receiver.ReceiverView.{ReceiverView}
use Rattle.sctp_model.specs.messages.Acknowledgement.{IsRun}
use Rattle.sctp_model.specs.receiver.SackMade.{AreBlocksRising, AreAllRuns}
use Rattle.sctp_recv.specs.declared.runs.SeenRun.{SeenRun}
use Rattle.sctp_recv.specs.Runs.{in_run, in_runs, IsApart, AreRuns}
use Rattle.sctp_recv.specs.Blocks.{block_of_run}
use Rattle.sctp_recv.proofs.RunLemmas.{in_none}
use Rattle.sctp_recv.proofs.ListOrder.{either_order}

-- ---- one run among runs

-- a run's own indexes are in the runs, and an index in them is some run's
held_by : (rs : List SeenRun) (r : SeenRun) (i : ℕ) → Has rs r → in_run r i ≡ true → in_runs rs i ≡ true
held_by [] r i there inside = absurd there
held_by (x ∷ xs) r i (inl is) inside = let own : in_run x i ≡ true = subst (λ (y : SeenRun). in_run y i ≡ true) (sym is) inside in rw own refl
held_by (x ∷ xs) r i (inr there) inside = let more = held_by xs r i there inside in grind (arith, more, common_steps)

holder : (rs : List SeenRun) (i : ℕ) → in_runs rs i ≡ true → (r : SeenRun) × Has rs r × (in_run r i ≡ true)
holder [] i held = absurd (cc)
holder (x ∷ xs) i held = go (holder xs i) (cases_Bool (in_run x i))
  where
    go : (in_runs xs i ≡ true → (r : SeenRun) × Has xs r × (in_run r i ≡ true)) → (in_run x i ≡ true) ⊎ (in_run x i ≡ false) → (r : SeenRun) × Has (x ∷ xs) r × (in_run r i ≡ true)
    go more (inl own) = (x, inl refl, own)
    go more (inr other) = let m = more (rw other at held) in (m.0, inr m.1, m.2)

-- an index right before a run, or right after it, is in none
module _ (c : ℕ) (rs : List SeenRun) (h : AreRuns c rs) (r : SeenRun) (there : Has rs r) where
  beside : (i : ℕ) → (suc i ≡ r.first) ⊎ (i ≡ suc r.last) → in_runs rs i ≡ false
  beside i next = in_none rs i (λ q held. no q held next (either_order IsApart rs h.spaced.apart q r held there))
    where
      no : (q : SeenRun) → Has rs q → (suc i ≡ r.first) ⊎ (i ≡ suc r.last) → (q ≡ r) ⊎ (IsApart q r ⊎ IsApart r q) → in_run q i ≡ false
      no q held (inl before) (inl is) = let first : q.first ≡ r.first = ap (λ (y : SeenRun). y.first) is in grind (arith, before, first, nat_tests)
      no q held (inr after) (inl is) = let last : q.last ≡ r.last = ap (λ (y : SeenRun). y.last) is in grind (arith, after, last, nat_tests)
      no q held (inl before) (inr (inl low)) = grind (arith, before, low, nat_tests)
      no q held (inr after) (inr (inl low)) = let some = h.spaced.some r there in grind (arith, after, low, some, nat_tests)
      no q held (inl before) (inr (inr high)) = let some = h.spaced.some r there in grind (arith, before, high, some, nat_tests)
      no q held (inr after) (inr (inr high)) = grind (arith, after, high, nat_tests)

block_same : (b : BlockMeaning) (s e : ℕ) → s ≡ b.start → e ≡ b.end → record { start = s; end = e } ≡ b
block_same b s e p q = rw (p, q) refl

-- Where what was recorded above c is what the runs have, they are the view's runs, and it has no others.
module _ (v : ReceiverView) (c : ℕ) (rs : List SeenRun) (h : AreRuns c rs) (says : (i : ℕ) → c < i → v.seen i ≡ in_runs rs i) where
  came : (r : SeenRun) → Has rs r → (i : ℕ) → r.first ≤ i → i ≤ r.last → v.seen i ≡ true
  came r there i low high = let above = h.above r there in says i (omega (arith, above, low)) ∙ held_by rs r i there (grind (arith, low, high, nat_tests))

  missing : (r : SeenRun) → Has rs r → (i : ℕ) → (suc i ≡ r.first) ⊎ (i ≡ suc r.last) → v.seen i ≡ true → ⊥
  missing r there i next seen = let no = says i (high next) ∙ beside c rs h r there i next in absurd (cc)
    where
      high : (suc i ≡ r.first) ⊎ (i ≡ suc r.last) → c < i
      high (inl before) = let above = h.above r there in omega (arith, above, before)
      high (inr after) = let above = h.above r there in let some = h.spaced.some r there in omega (arith, above, some, after)

  run_is : (r : SeenRun) → Has rs r → IsRun v c (block_of_run c r)
  run_is r there = let above = h.above r there in let order = h.spaced.some r there in record {
    above = omega (arith, above);
    some = omega (arith, above, order);
    seen = λ i low high. came r there i (omega (arith, above, low)) (omega (arith, above, order, high));
    before = λ i at seen. missing r there i (inl (omega (arith, above, at))) seen;
    after = λ seen. let last : suc (c + (r.last - c)) ≡ suc r.last = omega (arith, above, order) in missing r there (suc r.last) (inr refl) (subst (λ (i : ℕ). v.seen i ≡ true) last seen);
  }

  is_kept : (b : BlockMeaning) → IsRun v c b → (r : SeenRun) × Has rs r × (block_of_run c r ≡ b)
  is_kept b run = (r, found.1, block_same b (r.first - c) (r.last - c) (omega (arith, starts)) (omega (arith, ends, starts, start, order)))
    where
      start : 1 < b.start
      start = run.above

      order : b.start ≤ b.end
      order = run.some

      found : (r : SeenRun) × Has rs r × (in_run r (c + b.start) ≡ true)
      found = holder rs (c + b.start) (sym (says (c + b.start) (omega (arith, start))) ∙ run.seen (c + b.start) (omega arith) (omega (arith, order)))

      r : SeenRun
      r = found.0

      low : r.first ≤ c + b.start
      low = let inside = found.2 in grind (arith, inside, nat_tests, common_steps)

      high : c + b.start ≤ r.last
      high = let inside = found.2 in grind (arith, inside, nat_tests, common_steps)

      starts : r.first ≡ c + b.start
      starts = elim (cases_lt r.first (c + b.start)) [
        | inr le ↦ let l = low in omega (arith, l, le)
        | inl less ↦ absurd (run.before (c + b.start - 1) (omega (arith, start)) (came r found.1 (c + b.start - 1) (omega (arith, less)) (let t = high in omega (arith, t))))
      ]

      ends : r.last ≡ c + b.end
      ends = elim (cases_lt r.last (c + b.end)) [
        | inl less ↦ absurd (missing r found.1 (suc r.last) (inr refl) (run.seen (suc r.last) (let t = high in omega (arith, t)) (omega (arith, less))))
        | inr le ↦ elim (cases_lt (c + b.end) r.last) [
          | inr same ↦ omega (arith, le, same)
          | inl more ↦ absurd (run.after (came r found.1 (suc (c + b.end)) (let l = low in omega (arith, l, order)) (omega (arith, more))))
        ]
      ]

-- ---- lists of blocks

mapped_has : (c : ℕ) (rs : List SeenRun) (b : BlockMeaning) → Has (map (block_of_run c) rs) b → (r : SeenRun) × Has rs r × (block_of_run c r ≡ b)
mapped_has c [] b none = absurd none
mapped_has c (r ∷ rs) b (inl is) = (r, inl refl, is)
mapped_has c (r ∷ rs) b (inr later) = let found = mapped_has c rs b later in (found.0, inr found.1, found.2)

has_mapped : (c : ℕ) (rs : List SeenRun) (r : SeenRun) → Has rs r → Has (map (block_of_run c) rs) (block_of_run c r)
has_mapped c (x ∷ xs) r (inl is) = inl (ap (block_of_run c) is)
has_mapped c (x ∷ xs) r (inr later) = inr (has_mapped c xs r later)
has_mapped c [] r none = absurd none

-- blocks above c rise as their runs do
blocks_rise : (c : ℕ) (rs : List SeenRun) → AreRuns c rs → AreBlocksRising (map (block_of_run c) rs)
blocks_rise c [] h = tt
blocks_rise c (r ∷ rs) h = (
  λ b later.
      let found = mapped_has c rs b later in
      let gap = h.spaced.apart.0 found.0 found.1 in
      let start : found.0.first - c ≡ b.start = ap (λ (x : BlockMeaning). x.start) found.2 in
      let above = h.above r (inl refl) in
      let order = h.spaced.some r (inl refl) in
      omega (arith, gap, start, above, order),
  blocks_rise c rs (record { spaced = record { some = λ q later. h.spaced.some q (inr later); apart = h.spaced.apart.1 }; above = λ q later. h.above q (inr later) }),
)

pub mapped_length : (c : ℕ) (rs : List SeenRun) → length (map (block_of_run c) rs) ≡ length rs
mapped_length c [] = refl
mapped_length c (r ∷ rs) = let rest = mapped_length c rs in omega (arith, rest)

-- They are all runs of the view.
pub all_runs : (v : ReceiverView) (c : ℕ) (rs : List SeenRun) → AreRuns c rs → ((i : ℕ) → c < i → v.seen i ≡ in_runs rs i) → AreAllRuns v c (map (block_of_run c) rs)
all_runs v c rs h says = record {
  rising = blocks_rise c rs h;
  runs = λ b there. let found = mapped_has c rs b there in subst (IsRun v c) found.2 (run_is v c rs h says found.0 found.1);
  all = λ b run. let kept = is_kept v c rs h says b run in subst (Has (map (block_of_run c) rs)) kept.2 (has_mapped c rs kept.0 kept.1);
}
