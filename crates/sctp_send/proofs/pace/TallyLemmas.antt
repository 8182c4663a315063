-- The sums of what is newly acknowledged: one entry more, entries of which none is newly acknowledged, and all entries.
use Rattle.std.proofs.Common.{◌≡◌, ℕ, zero, suc, ◌+◌, ◌-◌, ◌%◌, ◌^◌, ◌<◌, ◌≤◌, ◌∙◌, List, [], ◌∷◌, length, get_or, Bool, true, false, Some, refl, sym, ap, arith, max, min}
use Rattle.std.specs.Prelude.{nat_le, ◌&&◌, ◌||◌, if◌then◌else◌, slice_get}
use Rattle.std.proofs.lemmas.Bool.Decides.{nat_tests}
use Rattle.sctp_model.specs.sender.Words.{sum_below, last_that}
use Rattle.sctp_send.specs.SenderKept.{Item}
use Rattle.sctp_send.specs.CoveredRuns.{in_run, in_runs}
use Rattle.sctp_send.specs.declared.kept.entry.CoveredRun.{CoveredRun}
use Rattle.sctp_send.specs.declared.pace.tally.Tally.{Tally}
use Rattle.sctp_send.specs.inner.Weighing.{is_item_closed, is_item_open, is_item_news, unsettled_chunk, passes_here, is_news, news_weight, IsIdle, IsTally, LieCovered}

-- ---- an offset at which nothing is newly acknowledged

behind_one : (k : ℕ) → suc k - 1 ≡ k
behind_one k = omega arith

idle_parts : (xs : List Item) (on : ℕ → Bool) (k : ℕ) → IsIdle xs on (suc k) → (on (suc k) && passes_here is_item_open xs k) ≡ false
idle_parts xs on k idle = ap (λ (n : ℕ). on (suc k) && passes_here is_item_open xs n) (sym (behind_one k)) ∙ idle

idle_weight : (header : ℕ) (xs : List Item) (on : ℕ → Bool) (k : ℕ) → IsIdle xs on (suc k) → news_weight header xs on k ≡ 0
idle_weight header xs on k idle = grind (arith, idle_parts xs on k idle)

idle_news : (xs : List Item) (on : ℕ → Bool) (k : ℕ) → IsIdle xs on (suc k) → is_news xs on (suc k) ≡ false
idle_news xs on k idle = let one = behind_one k in grind (arith, one, idle_parts xs on k idle)

-- so many of them after each other add nothing
pub idle_sum : (header : ℕ) (xs : List Item) (on : ℕ → Bool) (a d : ℕ) → ((j : ℕ) → a < j → j ≤ a + d → IsIdle xs on j) → sum_below (news_weight header xs on) (a + d) ≡ sum_below (news_weight header xs on) a
idle_sum header xs on a zero idle = ap (sum_below (news_weight header xs on)) (let same : a + 0 ≡ a = omega arith in same)
idle_sum header xs on a (suc d) idle =
    let next : a + suc d ≡ suc (a + d) = omega arith in
    let none = idle_weight header xs on (a + d) (idle (suc (a + d)) (omega arith) (omega arith)) in
    let rest = idle_sum header xs on a d (λ j lo hi. idle j lo (omega arith)) in
    ap (sum_below (news_weight header xs on)) next ∙ (let is : sum_below (news_weight header xs on) (a + d) + news_weight header xs on (a + d) ≡ sum_below (news_weight header xs on) a = omega (arith, none, rest) in is)

pub idle_last : (xs : List Item) (on : ℕ → Bool) (a d : ℕ) → ((j : ℕ) → a < j → j ≤ a + d → IsIdle xs on j) → last_that (is_news xs on) (a + d) ≡ last_that (is_news xs on) a
idle_last xs on a zero idle = ap (last_that (is_news xs on)) (let same : a + 0 ≡ a = omega arith in same)
idle_last xs on a (suc d) idle =
    let next : a + suc d ≡ suc (a + d) = omega arith in
    let none = idle_news xs on (a + d) (idle (suc (a + d)) (omega arith) (omega arith)) in
    let rest = idle_last xs on a d (λ j lo hi. idle j lo (omega arith)) in
    ap (last_that (is_news xs on)) next ∙ ap (λ (b : Bool). if b then suc (a + d) else last_that (is_news xs on) (a + d)) none ∙ rest

-- ---- steps

pub tally_none : (header : ℕ) (xs : List Item) (on : ℕ → Bool) (t : Tally) → t.at ≡ 0 → t.bytes ≡ 0 → t.newest ≡ 0 → IsTally header xs on t
tally_none header xs on t at bytes newest = record { bytes = rw (at, bytes) refl; last = rw (at, newest) refl }

pub tally_with : (header : ℕ) (xs : List Item) (on : ℕ → Bool) (t u : Tally) (x : Item) → IsTally header xs on t → on (suc t.at) ≡ true → slice_get xs t.at ≡ Some x → u.at ≡ suc t.at
    → u.bytes ≡ (t.bytes + unsettled_chunk header x) % 2 ^ 64 → u.newest ≡ (if is_item_news x then suc t.at else t.newest) → IsTally header xs on u
tally_with header xs on t u x h here read at bytes newest =
    let weight : news_weight header xs on t.at ≡ unsettled_chunk header x = rw (here, read) refl in
    let sum : (t.bytes + unsettled_chunk header x) % 2 ^ 64 ≡ (sum_below (news_weight header xs on) t.at + news_weight header xs on t.at) % 2 ^ 64 = rw (weight, h.bytes) (omega arith) in
    let one = behind_one t.at in
    let news : is_news xs on (suc t.at) ≡ is_item_news x = rw (here, one, read) refl in
    record {
      bytes = bytes ∙ sum ∙ ap (λ (n : ℕ). sum_below (news_weight header xs on) n % 2 ^ 64) (sym at);
      last = newest ∙ ap (λ (b : Bool). if b then suc t.at else t.newest) (sym news) ∙ ap (λ (n : ℕ). if is_news xs on (suc t.at) then suc t.at else n) h.last ∙ ap (last_that (is_news xs on)) (sym at);
    }

pub tally_skip : (header : ℕ) (xs : List Item) (on : ℕ → Bool) (t u : Tally) (n : ℕ) → IsTally header xs on t → ((j : ℕ) → t.at < j → j ≤ n → IsIdle xs on j) → u.at ≡ max t.at n → u.bytes ≡ t.bytes → u.newest ≡ t.newest → IsTally header xs on u
tally_skip header xs on t u n h idle at bytes newest =
    let split : u.at ≡ t.at + (n - t.at) = omega arith in
    record {
      bytes = bytes ∙ h.bytes ∙ ap (λ (m : ℕ). m % 2 ^ 64) (sym (idle_sum header xs on t.at (n - t.at) (λ j lo hi. idle j lo (omega arith)))) ∙ ap (λ (m : ℕ). sum_below (news_weight header xs on) m % 2 ^ 64) (sym split);
      last = newest ∙ h.last ∙ sym (idle_last xs on t.at (n - t.at) (λ j lo hi. idle j lo (omega arith))) ∙ ap (last_that (is_news xs on)) (sym split);
    }

-- what differs in nothing that counts
pub tally_same : (header : ℕ) (xs : List Item) (on : ℕ → Bool) (t u : Tally) → IsTally header xs on t → u.at ≡ t.at → u.bytes ≡ t.bytes → u.newest ≡ t.newest → IsTally header xs on u
tally_same header xs on t u h at bytes newest = record {
  bytes = bytes ∙ h.bytes ∙ ap (λ (m : ℕ). sum_below (news_weight header xs on) m % 2 ^ 64) (sym at);
  last = newest ∙ h.last ∙ ap (last_that (is_news xs on)) (sym at);
}

-- ---- which offsets are idle

pub idle_off : (xs : List Item) (on : ℕ → Bool) (j : ℕ) → on j ≡ false → IsIdle xs on j
idle_off xs on j off = rw off refl

pub idle_closed : (xs : List Item) (on : ℕ → Bool) (j : ℕ) → passes_here is_item_open xs (j - 1) ≡ false → IsIdle xs on j
idle_closed xs on j off = grind (arith, off)

pub in_one : (rs : List CoveredRun) (k j : ℕ) (d : CoveredRun) → k < length rs → in_run (get_or rs k d) j ≡ true → in_runs rs j ≡ true
in_one [] k j d lt on = absurd (omega arith)
in_one (r ∷ rs) zero j d lt on = rw on refl
in_one (r ∷ rs) (suc k) j d lt on = grind (arith, in_one rs k j d (omega arith) on)

-- ---- past one run: what is before it up to an offset was weighed, and what is in it up to there is acknowledged already
pub run_skipped : (header : ℕ) (xs : List Item) (on : ℕ → Bool) (rs : List CoveredRun) (k to a b : ℕ) (d : CoveredRun) (t m u : Tally) → LieCovered rs xs → k < length rs → a ≡ min (get_or rs k d).from to → b ≡ min (get_or rs k d).to to
    → IsTally header xs on m → m.at ≡ max t.at a → u.at ≡ max m.at b → u.bytes ≡ m.bytes → u.newest ≡ m.newest → IsTally header xs on u
run_skipped header xs on rs k to a b d t m u lie lt start end h weighed at bytes newest = tally_skip header xs on m u b h (λ j lo hi. idle_closed xs on j (lie j (omega (arith, lo)) (in_one rs k j d lt (inside j lo hi)))) at bytes newest
  where
    inside : (j : ℕ) → m.at < j → j ≤ b → in_run (get_or rs k d) j ≡ true
    inside j lo hi =
        let past : (get_or rs k d).from < j = omega (arith, lo, hi, start, end, weighed) in
        let upto : j ≤ (get_or rs k d).to = omega (arith, lo, hi, end) in
        grind (arith, nat_tests, past, upto)

-- ---- the cumulative TSN of a SHUTDOWN: what it passes, and what gap blocks acknowledge

abbrev pub Shut : List Item → (passed : ℕ) → ℕ → Bool
Shut xs n j = nat_le j n || passes_here is_item_closed xs (j - 1)

pub shut_passed : (xs : List Item) (n j : ℕ) → j ≤ n → Shut xs n j ≡ true
shut_passed xs n j le = grind (arith, nat_tests)

pub shut_beyond : (xs : List Item) (n j : ℕ) → n < j → Shut xs n j ≡ passes_here is_item_closed xs (j - 1)
shut_beyond xs n j lt = grind (arith, nat_tests)

pub shut_idle : (xs : List Item) (n j : ℕ) → n < j → IsIdle xs (Shut xs n) j
shut_idle xs n j lt = grind (arith, shut_beyond xs n j lt)
