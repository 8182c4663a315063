-- How many of the first items are abandoned, as one comes, goes or changes.
use Rattle.std.proofs.Common.{◌≡◌, ℕ, zero, suc, ◌+◌, ◌-◌, ◌<◌, ◌≤◌, ◌≢◌, min, List, [], ◌∷◌, ◌++◌, length, map, drop, get_or, set, Bool, true, false, refl, sym, ap, ◌∙◌, arith}
use Rattle.std.specs.Prelude.{if◌then◌else◌, not}
use Rattle.std.proofs.lemmas.List.{length-map}
use Rattle.std.proofs.lemmas.Bool.Decides.{nat_tests}
use Rattle.sctp_send.specs.SenderKept.{Item}
use Rattle.sctp_send.specs.OutstandingFields.{item_meaning}
use Rattle.sctp_send.specs.inner.Walks.{abandoned_items}
use Rattle.sctp_send.specs.inner.Counting.{furthest}
use Rattle.sctp_send.specs.declared.kept.entry.Entry.{Entry as EntryFields}
use Rattle.sctp_send.proofs.kept.ItemLemmas.{item_read}
use Rattle.sctp_send.proofs.ReaderLemmas.{run_step, run_within}
use Rattle.sctp_send.proofs.WalkLemmas.{none_behind}

-- ---- one more, behind the others

joined_whole : (xs : List Item) (x : Item) → x.abandoned ≡ true → abandoned_items xs ≡ length xs → abandoned_items (xs ++ x ∷ []) ≡ suc (length xs)
joined_whole [] x on whole = rw on refl
joined_whole (y ∷ ys) x on whole = grind (arith, nat_tests, joined_whole ys x on)

joined_less : (xs ys : List Item) → abandoned_items xs < length xs → abandoned_items (xs ++ ys) ≡ abandoned_items xs
joined_less [] ys less = absurd (omega arith)
joined_less (x ∷ xs) ys less = grind (arith, nat_tests, joined_less xs ys)

joined_other : (xs : List Item) (x : Item) → x.abandoned ≡ false → abandoned_items (xs ++ x ∷ []) ≡ abandoned_items xs
joined_other [] x off = rw off refl
joined_other (y ∷ ys) x off = rw (joined_other ys x off) refl

pub front_pushed : (xs : List Item) (x : Item) (front n : ℕ) → n ≡ length xs → front ≡ abandoned_items xs → furthest n (not x.abandoned) front ≡ abandoned_items (xs ++ x ∷ [])
front_pushed xs x front n long is = grind (arith, nat_tests, joined_whole xs x, joined_less xs (x ∷ []), joined_other xs x, run_within xs)

-- ---- one less

pub first_some : (x : Item) (xs : List Item) (front : ℕ) → front ≡ abandoned_items (x ∷ xs) → 0 < front → front - 1 ≡ abandoned_items xs
first_some x xs front is some = grind (arith, nat_tests)

-- ---- one becomes another

set_off : (xs : List Item) (at : ℕ) (y : Item) → at < length xs → y.abandoned ≡ false → min (abandoned_items xs) at ≡ abandoned_items (set xs at y)
set_off [] at y lt off = absurd (omega arith)
set_off (x ∷ xs) zero y lt off = grind (arith, nat_tests)
set_off (x ∷ xs) (suc at) y lt off = let rest = set_off xs at y (omega arith) off in grind (arith, nat_tests, rest)

set_far : (xs : List Item) (at : ℕ) (y : Item) → y.abandoned ≡ true → abandoned_items xs ≢ at → abandoned_items xs ≡ abandoned_items (set xs at y)
set_far [] at y on far = refl
set_far (x ∷ xs) zero y on far = grind (arith, nat_tests)
set_far (x ∷ xs) (suc at) y on far = grind (arith, nat_tests, set_far xs at y on)

set_there : (xs : List Item) (at : ℕ) (y : Item) → abandoned_items xs ≡ at → at + abandoned_items (drop at (set xs at y)) ≡ abandoned_items (set xs at y)
set_there xs zero y is = omega arith
set_there [] (suc at) y is = absurd (omega arith)
set_there (x ∷ xs) (suc at) y is = grind (arith, nat_tests, set_there xs at y)

-- one that is abandoned as it was
pub front_stays : (xs : List Item) (at : ℕ) (x y : Item) → at < length xs → x ≡ get_or xs at x → y.abandoned ≡ x.abandoned → abandoned_items (set xs at y) ≡ abandoned_items xs
front_stays [] at x y lt read same = absurd (omega arith)
front_stays (z ∷ zs) zero x y lt read same = ap (λ (b : Bool). if b then suc (abandoned_items zs) else 0) (same ∙ ap (λ (i : Item). i.abandoned) read)
front_stays (z ∷ zs) (suc at) x y lt read same = ap (λ (n : ℕ). if z.abandoned then suc n else 0) (front_stays zs at x y (omega arith) read same)

-- ---- what is read of entries

-- whatever fragments are cut to
pub front_any : (n m : ℕ) (es : List EntryFields) → abandoned_items (map (item_meaning n) es) ≡ abandoned_items (map (item_meaning m) es)
front_any n m [] = refl
front_any n m (e ∷ es) = ap (λ (k : ℕ). if e.abandoned then suc k else 0) (front_any n m es)

pub front_within : (size : ℕ) (es : List EntryFields) (front : ℕ) → front ≡ abandoned_items (map (item_meaning size) es) → front ≤ length es
front_within size es front is = let le = run_within (map (item_meaning size) es) in omega (arith, is, length-map es (item_meaning size))

pub front_more : (size : ℕ) (es : List EntryFields) (from at : ℕ) (e : EntryFields) → at < length es → e ≡ get_or es at e → e.abandoned ≡ true
    → from + abandoned_items (drop from (map (item_meaning size) es)) ≡ at + abandoned_items (drop at (map (item_meaning size) es))
    → from + abandoned_items (drop from (map (item_meaning size) es)) ≡ at + 1 + abandoned_items (drop (at + 1) (map (item_meaning size) es))
front_more size es from at e lt read on before =
    let long = length-map es (item_meaning size) in
    let step = run_step (map (item_meaning size) es) at (item_meaning size e) (omega arith) in
    let here : (get_or (map (item_meaning size) es) at (item_meaning size e)).abandoned ≡ true = rw (item_read size es at e read) on in
    let one : at + 1 ≡ suc at = omega arith in
    let more : abandoned_items (drop at (map (item_meaning size) es)) ≡ suc (abandoned_items (drop (suc at) (map (item_meaning size) es))) = step ∙ rw here refl in
    rw one (omega (arith, before, more))

pub front_stops : (size : ℕ) (es : List EntryFields) (from at : ℕ) (e : EntryFields) → at < length es → e ≡ get_or es at e → e.abandoned ≡ false
    → from + abandoned_items (drop from (map (item_meaning size) es)) ≡ at + abandoned_items (drop at (map (item_meaning size) es))
    → at ≡ from + abandoned_items (drop from (map (item_meaning size) es))
front_stops size es from at e lt read off before =
    let long = length-map es (item_meaning size) in
    let step = run_step (map (item_meaning size) es) at (item_meaning size e) (omega arith) in
    let here : (get_or (map (item_meaning size) es) at (item_meaning size e)).abandoned ≡ false = rw (item_read size es at e read) off in
    let none : abandoned_items (drop at (map (item_meaning size) es)) ≡ 0 = step ∙ rw here refl in
    omega (arith, before, none)

pub front_ended : (size : ℕ) (es : List EntryFields) (from at : ℕ) → at ≡ length es
    → from + abandoned_items (drop from (map (item_meaning size) es)) ≡ at + abandoned_items (drop at (map (item_meaning size) es))
    → at ≡ from + abandoned_items (drop from (map (item_meaning size) es))
front_ended size es from at end before =
    let long = length-map es (item_meaning size) in
    let none = ap abandoned_items (none_behind at (map (item_meaning size) es) (omega arith)) in
    omega (arith, before, none)

-- ---- the one that changed isn't abandoned; is, and isn't the first that wasn't; is, and was

module _ (items : List Item) (at : ℕ) (before : List Item) (x : Item) (lt : at < length before) (same : items ≡ set before at x) where
  pub after_off : (front : ℕ) → front ≡ abandoned_items before → x.abandoned ≡ false → min front at ≡ abandoned_items items
  after_off front is off = rw (same, is) (set_off before at x lt off)

  pub after_far : (front : ℕ) → front ≡ abandoned_items before → x.abandoned ≡ true → at ≢ front → front ≡ abandoned_items items
  after_far front is on far = rw same (is ∙ set_far before at x on (λ there. far (sym there ∙ sym is)))

  pub after_there : (front : ℕ) → front ≡ abandoned_items before → at ≡ front → front + abandoned_items (drop front items) ≡ abandoned_items items
  after_there front is near = rw (same, ← near) (set_there before at x (sym is ∙ sym near))
