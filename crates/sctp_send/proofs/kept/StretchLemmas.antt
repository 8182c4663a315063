-- Stretches whose entries are alike: they stay so as other entries are added, removed or changed, and once they are set as a whole.
use Rattle.std.proofs.Common.{◌≡◌, ℕ, zero, suc, ◌+◌, ◌-◌, ◌≤◌, List, [], ◌∷◌, ◌++◌, length, Bool, true, false, Some, refl, sym, ap, ◌∙◌, subst, arith}
use Rattle.std.specs.Prelude.{not, slice_get}
use Rattle.std.proofs.lemmas.Bool.Decides.{nat_tests}
use mathlib.Core.Bool.{beq}
use Rattle.sctp_send.specs.PartsKept.{changed_at}
use Rattle.sctp_send.specs.inner.Changes.{unmarked, told, told_where, is_between}
use Rattle.sctp_send.specs.inner.Stretching.{IsQuiet, plain_bytes, plain_chunk, plain_one, AreAlike, run_changed, told_run, covered_run}
use Rattle.sctp_send.specs.declared.kept.entry.Standing.{Standing}
use Rattle.sctp_send.specs.declared.kept.entry.Entry.{Entry as EntryFields}
use Rattle.sctp_send.proofs.sack.TellLemmas.{run_starts, run_step}

-- ---- two flags

pub flags_same : (a b : Bool) → beq a b ≡ true → a ≡ b
flags_same a b is = grind (arith, nat_tests)

pub flags_differ : (a b : Bool) → beq a b ≡ false → a ≡ not b
flags_differ a b is = grind (arith, nat_tests)

pub flags_not_differ : (a b : Bool) → not (beq a b) ≡ false → a ≡ b
flags_not_differ a b is = grind (arith, nat_tests)

pub flag_on : (b : Bool) → not b ≡ false → b ≡ true
flag_on b is = grind (arith, nat_tests)

-- ---- a quiet entry

-- acknowledged, or not, it is quiet
pub quiet_told : (b c : Bool) (e : EntryFields) → IsQuiet b e → IsQuiet c (told c e)
quiet_told b true e h = record { out = λ kept. h.mark ∙ h.out kept; mark = ap unmarked h.mark; covers = refl }
quiet_told b false e h = record { out = h.out; mark = h.mark; covers = refl }

-- ---- entries that stand alike

-- there are so many
pub alike_long : (header size : ℕ) (c : Bool) (n q p at k : ℕ) (es : List EntryFields) → AreAlike header size c n q p at k es → at + k ≤ length es
alike_long header size c n q p (suc at) k [] h = absurd h
alike_long header size c n q p (suc at) k (e ∷ es) h = let le = alike_long header size c n q p at k es h in omega (arith, le)
alike_long header size c n q p zero zero es h = omega arith
alike_long header size c n q p zero (suc k) [] h = absurd h
alike_long header size c n q p zero (suc k) (e ∷ es) h = let le = alike_long header size c (n - plain_bytes size e) (q - plain_chunk header size e) (p - plain_one e) zero k es h.4 in omega (arith, le)

-- none do
pub alike_none : (header size : ℕ) (c : Bool) (at : ℕ) (es : List EntryFields) → at ≤ length es → AreAlike header size c 0 0 0 at 0 es
alike_none header size c zero es le = (refl, refl, refl)
alike_none header size c (suc at) [] le = absurd (omega (arith, le))
alike_none header size c (suc at) (e ∷ es) le = alike_none header size c at es (omega (arith, le))

-- others come behind them
pub alike_pushed : (header size : ℕ) (c : Bool) (n q p at k : ℕ) (es ds : List EntryFields) → AreAlike header size c n q p at k es → AreAlike header size c n q p at k (es ++ ds)
alike_pushed header size c n q p (suc at) k [] ds h = absurd h
alike_pushed header size c n q p (suc at) k (e ∷ es) ds h = alike_pushed header size c n q p at k es ds h
alike_pushed header size c n q p zero zero es ds h = h
alike_pushed header size c n q p zero (suc k) [] ds h = absurd h
alike_pushed header size c n q p zero (suc k) (e ∷ es) ds h = (h.0, h.1, h.2, h.3, alike_pushed header size c (n - plain_bytes size e) (q - plain_chunk header size e) (p - plain_one e) zero k es ds h.4)

-- one more stands so
pub alike_more : (header size : ℕ) (c : Bool) (n q p at k : ℕ) (es : List EntryFields) (e : EntryFields) → AreAlike header size c n q p at k es → slice_get es (at + k) ≡ Some e → IsQuiet c e → AreAlike header size c (n + plain_bytes size e) (q + plain_chunk header size e) (p + plain_one e) at (suc k) es
alike_more header size c n q p (suc at) k [] e h read plain = absurd h
alike_more header size c n q p (suc at) k (d ∷ es) e h read plain =
    let next : suc at + k ≡ suc (at + k) = omega arith in
    alike_more header size c n q p at k es e h (ap (slice_get (d ∷ es)) (sym next) ∙ read) plain
alike_more header size c n q p zero zero [] e h read plain = absurd (cc)
alike_more header size c n q p zero zero (d ∷ es) e h read plain =
    let same : d ≡ e = cc in
    let bytes : plain_bytes size d ≡ plain_bytes size e = ap (plain_bytes size) same in
    let chunk : plain_chunk header size d ≡ plain_chunk header size e = ap (plain_chunk header size) same in
    let one : plain_one d ≡ plain_one e = ap plain_one same in (
      subst (IsQuiet c) (sym same) plain,
      omega (arith, bytes),
      omega (arith, chunk),
      omega (arith, one),
      (omega (arith, bytes, h.0), omega (arith, chunk, h.1), omega (arith, one, h.2)),
    )
alike_more header size c n q p zero (suc k) [] e h read plain = absurd h
alike_more header size c n q p zero (suc k) (d ∷ es) e h read plain =
    let next : zero + suc k ≡ suc (zero + k) = omega arith in
    let rest = alike_more header size c (n - plain_bytes size d) (q - plain_chunk header size d) (p - plain_one d) zero k es e h.4 (ap (slice_get (d ∷ es)) (sym next) ∙ read) plain in
    let less : n - plain_bytes size d + plain_bytes size e ≡ n + plain_bytes size e - plain_bytes size d = omega (arith, h.1) in
    let lighter : q - plain_chunk header size d + plain_chunk header size e ≡ q + plain_chunk header size e - plain_chunk header size d = omega (arith, h.2) in
    let fewer : p - plain_one d + plain_one e ≡ p + plain_one e - plain_one d = omega (arith, h.3) in (
      h.0,
      omega (arith, h.1),
      omega (arith, h.2),
      omega (arith, h.3),
      subst (λ (m : ℕ). AreAlike header size c m (q + plain_chunk header size e - plain_chunk header size d) (p + plain_one e - plain_one d) zero (suc k) es) less
          (subst (λ (m : ℕ). AreAlike header size c (n - plain_bytes size d + plain_bytes size e) m (p + plain_one e - plain_one d) zero (suc k) es) lighter
          (subst (λ (m : ℕ). AreAlike header size c (n - plain_bytes size d + plain_bytes size e) (q - plain_chunk header size d + plain_chunk header size e) m zero (suc k) es) fewer rest)),
    )

-- ---- entries in a row that are told

pub length-run_changed : (g : EntryFields → EntryFields) (at k : ℕ) (es : List EntryFields) → length (run_changed g at k es) ≡ length es
length-run_changed g (suc at) k [] = refl
length-run_changed g (suc at) k (e ∷ es) = ap suc (length-run_changed g at k es)
length-run_changed g zero zero es = refl
length-run_changed g zero (suc k) [] = refl
length-run_changed g zero (suc k) (e ∷ es) = ap suc (length-run_changed g zero k es)

pub run_none : (g : EntryFields → EntryFields) (at : ℕ) (es : List EntryFields) → run_changed g at zero es ≡ es
run_none g zero es = refl
run_none g (suc at) [] = refl
run_none g (suc at) (e ∷ es) = ap (λ (xs : List EntryFields). e ∷ xs) (run_none g at es)

pub run_more : (g : EntryFields → EntryFields) (at k : ℕ) (es : List EntryFields) → run_changed g at (suc k) es ≡ changed_at g (at + k) (run_changed g at k es)
run_more g (suc at) k [] = refl
run_more g (suc at) k (e ∷ es) = let next : suc at + k ≡ suc (at + k) = omega arith in rw next (ap (λ (xs : List EntryFields). e ∷ xs) (run_more g at k es))
run_more g zero zero [] = refl
run_more g zero zero (e ∷ es) = refl
run_more g zero (suc k) [] = refl
run_more g zero (suc k) (e ∷ es) = let next : zero + suc k ≡ suc (zero + k) = omega arith in rw next (ap (λ (xs : List EntryFields). g e ∷ xs) (run_more g zero k es))

-- they are told by their indexes
pub run_where : (c : Bool) (at k : ℕ) (es : List EntryFields) → at + k ≤ length es → told_run c at k es ≡ told_where c (is_between at (at + k)) 1 es
run_where c at zero es le = let same : at + 0 ≡ at = omega arith in run_none (told c) at es ∙ run_starts c at es ∙ ap (λ (n : ℕ). told_where c (is_between at n) 1 es) (sym same)
run_where c at (suc k) es le =
    let before = run_where c at k es (omega (arith, le)) in
    let next : at + k + 1 ≡ at + suc k = omega arith in
    run_more (told c) at k es ∙ ap (changed_at (told c) (at + k)) before ∙ run_step c at (at + k) es (omega arith) ∙ ap (λ (n : ℕ). told_where c (is_between at n) 1 es) next

-- where they stand alike, it is noted that they are covered, or not, and no more
pub run_noted : (header size : ℕ) (b c : Bool) (n q p at k : ℕ) (es : List EntryFields) → AreAlike header size b n q p at k es → covered_run c at k es ≡ told_run c at k es
run_noted header size b c n q p (suc at) k [] h = refl
run_noted header size b c n q p (suc at) k (e ∷ es) h = ap (λ (xs : List EntryFields). e ∷ xs) (run_noted header size b c n q p at k es h)
run_noted header size b c n q p zero zero es h = refl
run_noted header size b c n q p zero (suc k) [] h = refl
run_noted header size b c n q p zero (suc k) (e ∷ es) h =
    ap (λ (x : EntryFields). x ∷ covered_run c zero k es) (by_told c) ∙ ap (λ (xs : List EntryFields). told c e ∷ xs) (run_noted header size b c (n - plain_bytes size e) (q - plain_chunk header size e) (p - plain_one e) zero k es h.4)
  where
    by_told : (d : Bool) → record e { covered = d } ≡ told d e
    by_told true = ap (λ (s : Standing). record e { covered = true; standing = s }) (sym h.0.mark)
    by_told false = refl

-- where they are told already, nothing changes
pub run_same : (header size : ℕ) (c : Bool) (n q p at k : ℕ) (es : List EntryFields) → AreAlike header size c n q p at k es → told_run c at k es ≡ es
run_same header size c n q p (suc at) k [] h = refl
run_same header size c n q p (suc at) k (e ∷ es) h = ap (λ (xs : List EntryFields). e ∷ xs) (run_same header size c n q p at k es h)
run_same header size c n q p zero zero es h = refl
run_same header size c n q p zero (suc k) [] h = refl
run_same header size c n q p zero (suc k) (e ∷ es) h = ap (λ (x : EntryFields). x ∷ told_run c zero k es) (by_told c h.0.covers) ∙ ap (λ (xs : List EntryFields). e ∷ xs) (run_same header size c (n - plain_bytes size e) (q - plain_chunk header size e) (p - plain_one e) zero k es h.4)
  where
    by_told : (d : Bool) → e.covered ≡ d → told d e ≡ e
    by_told true on = ap (λ (s : Standing). record e { covered = true; standing = s }) h.0.mark ∙ ap (λ (b : Bool). record e { covered = b }) (sym on)
    by_told false off = ap (λ (b : Bool). record e { covered = b }) (sym off)

-- they stand alike then too
pub alike_turned : (header size : ℕ) (b c : Bool) (n q p at k : ℕ) (es : List EntryFields) → AreAlike header size b n q p at k es → AreAlike header size c n q p at k (told_run c at k es)
alike_turned header size b c n q p (suc at) k [] h = absurd h
alike_turned header size b c n q p (suc at) k (e ∷ es) h = alike_turned header size b c n q p at k es h
alike_turned header size b c n q p zero zero es h = h
alike_turned header size b c n q p zero (suc k) [] h = absurd h
alike_turned header size b c n q p zero (suc k) (e ∷ es) h =
    let rest = alike_turned header size b c (n - plain_bytes size e) (q - plain_chunk header size e) (p - plain_one e) zero k es h.4 in
    let quiet = quiet_told b c e h.0 in
    by_told c quiet (h.1, h.2, h.3, rest)
  where
    by_told : (d : Bool) → IsQuiet d (told d e) → (plain_bytes size e ≤ n) × (plain_chunk header size e ≤ q) × (plain_one e ≤ p) × AreAlike header size c (n - plain_bytes size e) (q - plain_chunk header size e) (p - plain_one e) zero k (told_run c zero k es)
        → IsQuiet d (told d e) × (plain_bytes size (told d e) ≤ n) × (plain_chunk header size (told d e) ≤ q) × (plain_one (told d e) ≤ p)
        × AreAlike header size c (n - plain_bytes size (told d e)) (q - plain_chunk header size (told d e)) (p - plain_one (told d e)) zero k (told_run c zero k es)
    by_told true quiet more = (quiet, more.0, more.1, more.2, more.3)
    by_told false quiet more = (quiet, more.0, more.1, more.2, more.3)

-- an entry that changes is a run
pub changed_run : (g : EntryFields → EntryFields) (i : ℕ) (es : List EntryFields) → changed_at g i es ≡ run_changed g i 1 es
changed_run g zero [] = refl
changed_run g (suc i) [] = refl
changed_run g zero (e ∷ es) = refl
changed_run g (suc i) (e ∷ es) = ap (λ (xs : List EntryFields). e ∷ xs) (changed_run g i es)

-- others that lie behind those that change
pub alike_front : (header size : ℕ) (b : Bool) (g : EntryFields → EntryFields) (n q p m j at k : ℕ) (es : List EntryFields) → at + k ≤ m → AreAlike header size b n q p m j es → AreAlike header size b n q p m j (run_changed g at k es)
alike_front header size b g n q p zero j (suc at) k es le h = absurd (omega (arith, le))
alike_front header size b g n q p (suc m) j (suc at) k [] le h = absurd h
alike_front header size b g n q p (suc m) j (suc at) k (e ∷ es) le h = alike_front header size b g n q p m j at k es (omega (arith, le)) h
alike_front header size b g n q p m j zero zero es le h = h
alike_front header size b g n q p zero j zero (suc k) es le h = absurd (omega (arith, le))
alike_front header size b g n q p (suc m) j zero (suc k) [] le h = absurd h
alike_front header size b g n q p (suc m) j zero (suc k) (e ∷ es) le h = alike_front header size b g n q p m j zero k es (omega (arith, le)) h

-- others that lie before them
pub alike_back : (header size : ℕ) (b : Bool) (g : EntryFields → EntryFields) (n q p m j at k : ℕ) (es : List EntryFields) → m + j ≤ at → AreAlike header size b n q p m j es → AreAlike header size b n q p m j (run_changed g at k es)
alike_back header size b g n q p (suc m) j zero k es le h = absurd (omega (arith, le))
alike_back header size b g n q p (suc m) j (suc at) k [] le h = absurd h
alike_back header size b g n q p (suc m) j (suc at) k (e ∷ es) le h = alike_back header size b g n q p m j at k es (omega (arith, le)) h
alike_back header size b g n q p zero zero at k es le h = h
alike_back header size b g n q p zero (suc j) zero k es le h = absurd (omega (arith, le))
alike_back header size b g n q p zero (suc j) (suc at) k [] le h = absurd h
alike_back header size b g n q p zero (suc j) (suc at) k (e ∷ es) le h = (h.0, h.1, h.2, h.3, alike_back header size b g (n - plain_bytes size e) (q - plain_chunk header size e) (p - plain_one e) zero j at k es (omega (arith, le)) h.4)
