-- Entries that pass a test are set acknowledged, or not; and a run of them, one after the other.
use Rattle.std.proofs.Common.{◌≡◌, ℕ, ◌+◌, ◌-◌, ◌<◌, ◌≤◌, List, ◌∷◌, length, Bool, true, false, refl, ap, ◌∙◌, arith}
use Rattle.std.specs.Prelude.{nat_le, ◌||◌, if◌then◌else◌}
use Rattle.std.proofs.lemmas.Bool.Decides.{nat_tests}
use Rattle.sctp_model.specs.wire.Chunk.{BlockMeaning}
use Rattle.sctp_model.specs.messages.Acknowledgement.{in_blocks}
use Rattle.sctp_send.specs.PartsKept.{changed_at}
use Rattle.sctp_send.specs.inner.Changes.{unmarked, told, told_at, told_where, all_told, is_between}
use Rattle.sctp_send.specs.declared.kept.entry.Standing.{Standing}
use Rattle.sctp_send.specs.declared.kept.entry.Standing.TheVariants.{Unsent, Sent, Marked}
use Rattle.sctp_send.specs.declared.kept.entry.Entry.{Entry as EntryFields}
use Rattle.sctp_send.proofs.sack.EachLemmas.{each_same, each_none, each_joined, each_step}
use Rattle.sctp_send.proofs.sack.CoverLemmas.{block_run}

-- ---- entries told where a test passes

unmarked_again : (s : Standing) → unmarked (unmarked s) ≡ unmarked s
unmarked_again Unsent = refl
unmarked_again Sent = refl
unmarked_again Marked = refl

pub told_twice : (b : Bool) (e : EntryFields) → told b (told b e) ≡ told b e
told_twice true e = rw (unmarked_again e.standing) refl
told_twice false e = refl

-- tests that agree on the entries there are
pub where_same : (b : Bool) (test other : ℕ → Bool) (i : ℕ) (es : List EntryFields) → ((j : ℕ) → i ≤ j → j < i + length es → test j ≡ other j) → told_where b test i es ≡ told_where b other i es
where_same b test other i es same = each_same (told_at b test) (told_at b other) i es (λ j e lo hi. ap (λ (x : Bool). if x then told b e else e) (same j lo hi))

-- a test that none passes
pub where_none : (b : Bool) (test : ℕ → Bool) (i : ℕ) (es : List EntryFields) → ((j : ℕ) → i ≤ j → test j ≡ false) → es ≡ told_where b test i es
where_none b test i es none = each_none (told_at b test) i es (λ j e lo. ap (λ (x : Bool). if x then told b e else e) (none j lo))

-- two tests, one after the other
pub where_joined : (b : Bool) (test other : ℕ → Bool) (i : ℕ) (es : List EntryFields) → told_where b other i (told_where b test i es) ≡ told_where b (λ j. test j || other j) i es
where_joined b test other i es =
    each_joined (told_at b test) (told_at b other) i es
    ∙ each_same (λ j e. told_at b other j (told_at b test j e)) (told_at b (λ j. test j || other j)) i es (λ j e lo hi. by_tests e (test j) (other j))
  where
    by_tests : (e : EntryFields) (x y : Bool) → (if y then told b (if x then told b e else e) else (if x then told b e else e)) ≡ (if x || y then told b e else e)
    by_tests e true true = told_twice b e
    by_tests e true false = refl
    by_tests e false true = refl
    by_tests e false false = refl

-- ---- a run

pub run_starts : (b : Bool) (from : ℕ) (es : List EntryFields) → es ≡ told_where b (is_between from from) 1 es
run_starts b from es = where_none b (is_between from from) 1 es (λ j lo. grind (arith, nat_tests))

pub run_step : (b : Bool) (from at : ℕ) (es : List EntryFields) → from ≤ at → changed_at (told b) at (told_where b (is_between from at) 1 es) ≡ told_where b (is_between from (at + 1)) 1 es
run_step b from at es le = each_step (told_at b (is_between from at)) (told_at b (is_between from (at + 1))) (told b) at 1 es other here
  where
    other : (j : ℕ) (e : EntryFields) → (j ≡ 1 + at → ⊥) → told_at b (is_between from at) j e ≡ told_at b (is_between from (at + 1)) j e
    other j e apart = let same : nat_le j at ≡ nat_le j (at + 1) = grind (arith, nat_tests) in rw same refl

    here : (e : EntryFields) → told b (told_at b (is_between from at) (1 + at) e) ≡ told_at b (is_between from (at + 1)) (1 + at) e
    here e =
        let off : is_between from at (1 + at) ≡ false = grind (arith, nat_tests) in
        let on : is_between from (at + 1) (1 + at) ≡ true = grind (arith, nat_tests) in
        rw (off, on) refl

-- a run, and the one that begins where it ends
pub run_joined : (b : Bool) (from at to : ℕ) (es : List EntryFields) → from ≤ at → at ≤ to → told_where b (is_between at to) 1 (told_where b (is_between from at) 1 es) ≡ told_where b (is_between from to) 1 es
run_joined b from at to es low high =
    where_joined b (is_between from at) (is_between at to) 1 es
    ∙ where_same b (λ j. is_between from at j || is_between at to j) (is_between from to) 1 es (λ j lo hi. grind (arith, nat_tests))

-- ---- blocks

-- where no entry is acknowledged, those that pass are set so
pub told_anew : (test : ℕ → Bool) (es : List EntryFields) → told_where true test 1 (told_where false (is_between 0 (length es)) 1 es) ≡ all_told test 1 es
told_anew test es = each_joined (told_at false all) (told_at true test) 1 es ∙ each_same (λ j e. told_at true test j (told_at false all j e)) (λ j. told (test j)) 1 es same
  where
    all : ℕ → Bool
    all = is_between 0 (length es)

    by_test : (e : EntryFields) (b : Bool) → (if b then told true (told false e) else told false e) ≡ told b e
    by_test e true = refl
    by_test e false = refl

    same : (j : ℕ) (e : EntryFields) → 1 ≤ j → j < 1 + length es → told_at true test j (told_at false all j e) ≡ told (test j) e
    same j e lo hi = let on : all j ≡ true = grind (arith, nat_tests) in rw on (by_test e (test j))

-- a block, and those behind it
pub block_told : (b : BlockMeaning) (bs : List BlockMeaning) (es : List EntryFields)
    → told_where true (in_blocks 0 bs) 1 (told_where true (is_between (b.start - 1) b.end) 1 es) ≡ told_where true (in_blocks 0 (b ∷ bs)) 1 es
block_told b bs es =
    where_joined true (is_between (b.start - 1) b.end) (in_blocks 0 bs) 1 es
    ∙ where_same true (λ j. is_between (b.start - 1) b.end j || in_blocks 0 bs j) (in_blocks 0 (b ∷ bs)) 1 es (λ j lo hi. ap (λ (c : Bool). c || in_blocks 0 bs j) (block_run b j lo))
