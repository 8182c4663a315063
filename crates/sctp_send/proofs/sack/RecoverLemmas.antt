-- What a SACK changes: once the entries in which the old runs and its own differ are set, just its own are acknowledged.
use Rattle.std.proofs.Common.{◌≡◌, ℕ, suc, ◌+◌, ◌<◌, ◌≤◌, List, [], ◌∷◌, length, map, take, drop, get_or, min, Bool, true, false, Option, Some, refl, sym, ap, ◌∙◌, subst, arith}
use Rattle.std.specs.Prelude.{not, ◌&&◌, ◌||◌, if◌then◌else◌}
use Rattle.std.proofs.lemmas.List.{take_all, take_more, drop-map}
use Rattle.std.proofs.lemmas.Bool.Decides.{nat_tests}
use Rattle.sctp_model.specs.messages.Format.{Format}
use Rattle.sctp_model.specs.messages.Plan.{Entry}
use Rattle.sctp_model.specs.sender.SenderView.{SenderView}
use Rattle.sctp_model.specs.sender.Words.{when}
use Rattle.sctp_model.proofs.sender.Bounds.{is_bounded}
use Rattle.sctp_send.specs.SenderKept.{Item, Kept}
use Rattle.sctp_send.specs.SenderStands.{item_here, items_from, Keeps}
use Rattle.sctp_send.specs.CoveredRuns.{in_run, in_runs, AreCovered, runs_behind}
use Rattle.sctp_send.specs.OutstandingFields.{is_marked, item_meaning}
use Rattle.sctp_send.specs.inner.Changes.{unmarked, told, told_at, all_told, told_where, in_gaps, in_alone, IsExact}
use Rattle.sctp_send.specs.declared.kept.entry.CoveredRun.{CoveredRun}
use Rattle.sctp_send.specs.declared.kept.entry.Standing.{Standing}
use Rattle.sctp_send.specs.declared.kept.entry.Standing.TheVariants.{Unsent, Sent, Marked}
use Rattle.sctp_send.specs.declared.kept.entry.Entry.{Entry as EntryFields}
use Rattle.sctp_send.proofs.sack.RunLemmas.{runs_more, order_behind, all_behind}
use Rattle.sctp_send.proofs.KeepLemmas.{left_items}
use Rattle.sctp_send.proofs.sack.EachLemmas.{each_same, each_joined}
use Rattle.sctp_send.proofs.sack.TellLemmas.{told_twice, where_same, where_none, where_joined}

-- ---- runs over others

pub alone_start : (b : Bool) (os : List CoveredRun) (es : List EntryFields) → es ≡ told_where b (in_alone [] os) 1 es
alone_start b os es = where_none b (in_alone [] os) 1 es (λ j lo. refl)

-- one run more
pub alone_more : (b : Bool) (rs os : List CoveredRun) (k last : ℕ) (r d : CoveredRun) (es now later : List EntryFields) → k < length rs → r ≡ get_or rs k d → last ≡ length es → now ≡ told_where b (in_alone (take k rs) os) 1 es
    → later ≡ told_where b (in_gaps os r.from (min r.to last)) 1 now → later ≡ told_where b (in_alone (take (k + 1) rs) os) 1 es
alone_more b rs os k last r d es now later lt read long is last_is =
    last_is ∙ ap (told_where b (in_gaps os r.from (min r.to last)) 1) is ∙ where_joined b (in_alone (take k rs) os) (in_gaps os r.from (min r.to last)) 1 es
    ∙ where_same b (λ j. in_alone (take k rs) os j || in_gaps os r.from (min r.to last) j) (in_alone (take (k + 1) rs) os) 1 es (λ j lo hi. same j (omega (arith, long, hi)))
  where
    same : (j : ℕ) → j ≤ last → (in_alone (take k rs) os j || in_gaps os r.from (min r.to last) j) ≡ in_alone (take (k + 1) rs) os j
    same j le =
        let runs : in_runs (take (k + 1) rs) j ≡ (in_runs (take k rs) j || in_run r j) = rw (take_more rs k d lt, ← read) (runs_more (take k rs) r j) in
        rw runs (grind (arith, nat_tests))

pub alone_all : (b : Bool) (rs os : List CoveredRun) (k : ℕ) (es now : List EntryFields) → length rs ≤ k → now ≡ told_where b (in_alone (take k rs) os) 1 es → now ≡ told_where b (in_alone rs os) 1 es
alone_all b rs os k es now le is = rw take_all at is

-- ---- all of it

-- what lay in the old runs is told covered where it lies in new ones alone, and then uncovered where it lay in old ones alone
all_recovered : (old new : List CoveredRun) (i : ℕ) (es : List EntryFields) → all_told (in_runs old) i es ≡ es → told_where false (in_alone old new) i (told_where true (in_alone new old) i es) ≡ all_told (in_runs new) i es
all_recovered old new i es exact = subst (λ (xs : List EntryFields). told_where false off i (told_where true on i xs) ≡ all_told (in_runs new) i xs) exact
    (ap (told_where false off i) (each_joined was (told_at true on) i es) ∙ each_joined (λ j e. told_at true on j (was j e)) (told_at false off) i es
    ∙ each_same (λ j e. told_at false off j (told_at true on j (was j e))) (λ j e. told (in_runs new j) (was j e)) i es (λ j e lo hi. by_tests e (in_runs old j) (in_runs new j))
    ∙ sym (each_joined was (λ j. told (in_runs new j)) i es))
  where
    on : ℕ → Bool
    on = in_alone new old

    off : ℕ → Bool
    off = in_alone old new

    was : ℕ → EntryFields → EntryFields
    was j e = told (in_runs old j) e

    by_tests : (e : EntryFields) (o n : Bool) → (if o && not n then told false (if n && not o then told true (told o e) else told o e) else (if n && not o then told true (told o e) else told o e)) ≡ told n (told o e)
    by_tests e true true = sym (told_twice true e)
    by_tests e true false = refl
    by_tests e false true = refl
    by_tests e false false = refl

pub recovered : (old new : List CoveredRun) (es now later : List EntryFields) → all_told (in_runs old) 1 es ≡ es → now ≡ told_where true (in_alone new old) 1 es → later ≡ told_where false (in_alone old new) 1 now → later ≡ all_told (in_runs new) 1 es
recovered old new es now later exact first last_is = last_is ∙ ap (told_where false (in_alone old new) 1) first ∙ all_recovered old new 1 es exact

-- ---- what is kept is exact

entry_exact : (b : Bool) (e : EntryFields) → e.covered ≡ b → (b ≡ true → is_marked e.standing ≡ false) → told b e ≡ e
entry_exact false e is apart = ap (λ (c : Bool). record e { covered = c }) (sym is)
entry_exact true e is apart = ap (λ (c : Bool). record e { covered = c; standing = unmarked e.standing }) (sym is) ∙ ap (λ (s : Standing). record e { standing = s }) (stays e.standing (apart refl))
  where
    stays : (s : Standing) → is_marked s ≡ false → unmarked s ≡ s
    stays Unsent off = refl
    stays Sent off = refl
    stays Marked off = absurd (cc)

exact_told : (size : ℕ) (v : SenderView) (c : ℕ) (test : ℕ → Bool) (j : ℕ) (es : List EntryFields) (xs : List Entry) → map (item_meaning size) es ≡ items_from v (suc (c + j)) xs → ((i : ℕ) → 0 < i → v.covered (c + i) ≡ test i)
    → ((i : ℕ) → v.covered i ≡ true → v.marked i ≡ false) → all_told test (suc j) es ≡ es
exact_told size v c test j [] xs is known apart = refl
exact_told size v c test j (e ∷ es) [] is known apart = absurd (cc)
exact_told size v c test j (e ∷ es) (x ∷ xs) is known apart =
    let head : item_meaning size e ≡ item_here v (suc (c + j)) x = ap (λ (ys : List Item). get_or ys 0 (item_meaning size e)) is in
    let tail : map (item_meaning size) es ≡ items_from v (suc (suc (c + j))) xs = ap (drop 1) is in
    let at_is : c + suc j ≡ suc (c + j) = omega arith in
    let covers : v.covered (suc (c + j)) ≡ test (suc j) = ap v.covered (sym at_is) ∙ known (suc j) (omega arith) in
    let covered : e.covered ≡ test (suc j) = ap (λ (y : Item). y.covered) head ∙ covers in
    let unmarks : test (suc j) ≡ true → is_marked e.standing ≡ false = λ on. ap (λ (y : Item). y.marked) head ∙ apart (suc (c + j)) (covers ∙ on) in
    let here = entry_exact (test (suc j)) e covered unmarks in
    let rest = exact_told size v c test (suc j) es xs (rw at_is tail) known apart in
    ap (λ (y : EntryFields). y ∷ all_told test (suc (suc j)) es) here ∙ ap (λ (ys : List EntryFields). e ∷ ys) rest

-- the entries that are left are as the runs say that are left
pub exact_kept : (f : Format) (s : Kept) (v : SenderView) (size n : ℕ) (outs es : List EntryFields) (b : Bool) (rs xs : List CoveredRun) → Keeps f s v → s.items ≡ map (item_meaning size) outs → s.runs ≡ when b rs
    → es ≡ drop n outs → xs ≡ runs_behind n rs → IsExact b xs es
exact_kept f s v size n outs es false rs xs k items runs left behind = tt
exact_kept f s v size n outs es true rs xs k items runs left behind =
    let c = v.cum + n in
    let known : AreCovered (Some rs) v.covered v.cum = subst (λ (o : Option (List CoveredRun)). AreCovered o v.covered v.cum) runs k.holds.covered in
    let start : suc (c + 0) ≡ suc c = omega arith in
    let same : map (item_meaning size) (drop n outs) ≡ items_from v (suc c) (drop c v.plan.entries) = sym (drop-map (item_meaning size) n outs) ∙ ap (drop n) (sym items) ∙ left_items f s v n k in
    let exact = exact_told size v c (in_runs (runs_behind n rs)) 0 (drop n outs) (drop c v.plan.entries) (rw start same)
    (λ i some. let at_is : c + i ≡ v.cum + (n + i) = omega arith in ap v.covered at_is ∙ known.1 (n + i) (omega arith) ∙ all_behind n i rs some) (is_bounded f v k.reached).apart in
    rw (left, behind) (order_behind n 0 0 rs (omega arith) known.0, exact)
