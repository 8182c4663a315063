-- Entries between runs in order: set gap by gap, all of them are set, and none in a run.
use Rattle.std.proofs.Common.{◌≡◌, ℕ, zero, suc, ◌+◌, ◌<◌, ◌≤◌, List, [], ◌∷◌, length, drop, get_or, min, max, Bool, true, false, refl, sym, ap, ◌∙◌, arith}
use Rattle.std.specs.Prelude.{not, ◌&&◌, ◌||◌}
use Rattle.std.proofs.lemmas.List.{drop_all, drop_more}
use Rattle.std.proofs.lemmas.Bool.Decides.{nat_tests}
use Rattle.sctp_send.specs.CoveredRuns.{in_run, in_runs, AreInOrder, HasPassed}
use Rattle.sctp_send.specs.inner.Changes.{told_where, is_between, in_gaps}
use Rattle.sctp_send.specs.declared.kept.entry.CoveredRun.{CoveredRun}
use Rattle.sctp_send.specs.declared.kept.entry.Entry.{Entry as EntryFields}
use Rattle.sctp_send.proofs.sack.TellLemmas.{where_same, where_none, where_joined}

-- ---- one run, and those behind it

-- one that holds it is one of them
pub run_holds : (rs : List CoveredRun) (k : ℕ) (r d : CoveredRun) (i : ℕ) → k < length rs → r ≡ get_or rs k d → in_run r i ≡ true → in_runs rs i ≡ true
run_holds [] k r d i low read on = absurd (omega arith)
run_holds (x ∷ rs) zero r d i low read on = let here : in_run x i ≡ true = rw (← read) on in rw here refl
run_holds (x ∷ rs) (suc k) r d i low read on = let rest = run_holds rs k r d i (omega arith) read on in grind (arith, nat_tests, rest)

-- none of the first ones holds it, and this one doesn't
pub none_more : (rs : List CoveredRun) (k : ℕ) (r d : CoveredRun) (i : ℕ) → k < length rs → r ≡ get_or rs k d → in_run r i ≡ false → in_runs rs i ≡ in_runs (drop k rs) i → in_runs rs i ≡ in_runs (drop (k + 1) rs) i
none_more rs k r d i low read off before = before ∙ rw (drop_more rs k d low, ← read, off) refl

pub none_left : (rs : List CoveredRun) (k i : ℕ) → length rs ≤ k → in_runs (drop k rs) i ≡ false
none_left rs k i le = rw (drop_all k rs le) refl

-- ---- runs in order

-- below where they may begin they hold nothing
none_below : (n : ℕ) (rs : List CoveredRun) (i : ℕ) → AreInOrder n rs → i ≤ n → in_runs rs i ≡ false
none_below n [] i order low = refl
none_below n (r ∷ rs) i order low =
    let rest = none_below r.to rs i order.2 (omega (arith, order.0, order.1, low)) in grind (arith, nat_tests, order.0, rest)

-- one of them and those behind it hold nothing below where it begins
none_before : (rs : List CoveredRun) (n k : ℕ) (r d : CoveredRun) (i : ℕ) → AreInOrder n rs → k < length rs → r ≡ get_or rs k d → i ≤ r.from → in_runs (drop k rs) i ≡ false
none_before [] n k r d i order lt read low = absurd (omega arith)
none_before (x ∷ rs) n zero r d i order lt read low =
    let same : r.from ≡ x.from = ap (λ (y : CoveredRun). y.from) read in
    let rest = none_below x.to rs i order.2 (omega (arith, order.1, same, low)) in grind (arith, nat_tests, same, rest)
none_before (x ∷ rs) n (suc k) r d i order lt read low = none_before rs x.to k r d i order.2 (omega arith) read low

-- none ends before it begins
pub ends_behind : (rs : List CoveredRun) (n k : ℕ) (r d : CoveredRun) → AreInOrder n rs → k < length rs → r ≡ get_or rs k d → r.from ≤ r.to
ends_behind [] n k r d order lt read = absurd (omega arith)
ends_behind (x ∷ rs) n zero r d order lt read = rw read order.1
ends_behind (x ∷ rs) n (suc k) r d order lt read = ends_behind rs x.to k r d order.2 (omega arith) read

-- nor behind where the next one begins
pub next_begins : (rs : List CoveredRun) (n k : ℕ) (r d e : CoveredRun) → AreInOrder n rs → k + 1 < length rs → r ≡ get_or rs k d → r.to ≤ (get_or rs (k + 1) e).from
next_begins rs n k r d e order lt read = let one : k + 1 ≡ suc k = omega arith in rw one (step rs n k order (omega arith) read)
  where
    step : (xs : List CoveredRun) (m j : ℕ) → AreInOrder m xs → suc j < length xs → r ≡ get_or xs j d → r.to ≤ (get_or xs (suc j) e).from
    step [] m j sorted low is = absurd (omega arith)
    step (x ∷ []) m j sorted low is = absurd (omega arith)
    step (x ∷ y ∷ xs) m zero sorted low is = let same : r.to ≡ x.to = ap (λ (z : CoveredRun). z.to) is in omega (arith, same, sorted.2.0)
    step (x ∷ y ∷ xs) m (suc j) sorted low is = step (y ∷ xs) x.to j sorted.2 (omega arith) is

-- ---- runs that are passed

pub passed_on : (rs : List CoveredRun) (k at later : ℕ) → at ≤ later → HasPassed rs k at → HasPassed rs k later
passed_on rs k at later le before = λ i past. before i (omega (arith, past))

-- one more
pub passed_more : (rs : List CoveredRun) (k : ℕ) (r d : CoveredRun) (at later : ℕ) → k < length rs → r ≡ get_or rs k d → at ≤ later → r.to ≤ later → HasPassed rs k at → HasPassed rs (k + 1) later
passed_more rs k r d at later lt read le ends before = λ i past. none_more rs k r d i lt read (grind (arith, nat_tests)) (before i (omega (arith, past)))

-- all of them
pub passed_all : (rs : List CoveredRun) (k at later : ℕ) → length rs ≤ k → at ≤ later → HasPassed rs k at → HasPassed rs (length rs) later
passed_all rs k at later all le before = λ i past. before i (omega (arith, past)) ∙ none_left rs k i all ∙ sym (none_left rs (length rs) i (omega arith))

-- ---- between runs

-- Entries behind `at` were told up to x, where none is held, and those behind x are held up to `end`: so all is told as far as the end.
gap_more : (held : Bool) (from at x end to most later i : ℕ) → from ≤ at → x ≤ end → most ≡ min x to → later ≡ max at end → (at < i → i ≤ x → held ≡ false) → (x < i → i ≤ end → held ≡ true)
    → ((is_between from (min at to) i && not held) || is_between (min at most) most i) ≡ (is_between from (min later to) i && not held)
gap_more held from at x end to most later i le ends most_is later_is free holds = grind (arith, nat_tests)

pub gaps_start : (b : Bool) (rs : List CoveredRun) (from to : ℕ) (es : List EntryFields) → es ≡ told_where b (in_gaps rs from (min from to)) 1 es
gaps_start b rs from to es = where_none b (in_gaps rs from (min from to)) 1 es (λ j lo. grind (arith, nat_tests))

-- the gap before a run was told, and the run is passed
pub gaps_more : (b : Bool) (rs : List CoveredRun) (k : ℕ) (r d : CoveredRun) (from at to most later : ℕ) (es now last : List EntryFields) → AreInOrder 0 rs → k < length rs → r ≡ get_or rs k d → from ≤ at → most ≡ min r.from to → later ≡ max at r.to → HasPassed rs k at
    → now ≡ told_where b (in_gaps rs from (min at to)) 1 es → last ≡ told_where b (is_between (min at most) most) 1 now → last ≡ told_where b (in_gaps rs from (min later to)) 1 es
gaps_more b rs k r d from at to most later es now last order lt read le most_is later_is passed is last_is =
    last_is ∙ ap (told_where b (is_between (min at most) most) 1) is ∙ where_joined b (in_gaps rs from (min at to)) (is_between (min at most) most) 1 es
    ∙ where_same b (λ j. in_gaps rs from (min at to) j || is_between (min at most) most j) (in_gaps rs from (min later to)) 1 es (λ j lo hi.
    gap_more (in_runs rs j) from at r.from r.to to most later j le (ends_behind rs 0 k r d order lt read) most_is later_is (λ past near. passed j past ∙ none_before rs 0 k r d j order lt read near)
    (λ far near. run_holds rs k r d j lt read (grind (arith, nat_tests))))

-- behind all runs the rest was told
pub gaps_rest : (b : Bool) (rs : List CoveredRun) (k from at to most : ℕ) (es now last : List EntryFields) → length rs ≤ k → from ≤ at → most ≡ min at to → HasPassed rs k at
    → now ≡ told_where b (in_gaps rs from (min at to)) 1 es → last ≡ told_where b (is_between most to) 1 now → last ≡ told_where b (in_gaps rs from to) 1 es
gaps_rest b rs k from at to most es now last all le most_is passed is last_is =
    let end : min (max at to) to ≡ to = omega arith in
    last_is ∙ ap (λ (n : ℕ). told_where b (is_between n to) 1 now) most_is ∙ ap (told_where b (is_between (min at to) to) 1) is ∙ where_joined b (in_gaps rs from (min at to)) (is_between (min at to) to) 1 es
    ∙ where_same b (λ j. in_gaps rs from (min at to) j || is_between (min at to) to j) (in_gaps rs from (min (max at to) to)) 1 es (λ j lo hi.
    gap_more (in_runs rs j) from at to to to to (max at to) j le (omega arith) (omega arith) refl (λ past near. passed j past ∙ none_left rs k j all) (λ far near. absurd (omega (arith, far, near))))
    ∙ ap (λ (n : ℕ). told_where b (in_gaps rs from n) 1 es) end

-- so it was where a run reaches further
pub gaps_end : (b : Bool) (rs : List CoveredRun) (from at to : ℕ) (es now : List EntryFields) → to ≤ at → now ≡ told_where b (in_gaps rs from (min at to)) 1 es → now ≡ told_where b (in_gaps rs from to) 1 es
gaps_end b rs from at to es now le is = let same : min at to ≡ to = omega arith in is ∙ ap (λ (n : ℕ). told_where b (in_gaps rs from n) 1 es) same
