-- What is newly acknowledged where all entries are and nothing is marked for retransmission: what is in flight.
use Rattle.std.proofs.Common.{◌≡◌, ℕ, zero, suc, ◌+◌, ◌-◌, ◌%◌, ◌^◌, ◌<◌, ◌≤◌, ◌∙◌, List, [], ◌∷◌, length, map, take, take_all, get_or, Bool, true, None, refl, sym, ap, arith}
use Rattle.std.proofs.lemmas.List.{length-map}
use Rattle.sctp_model.specs.sender.Words.{sum_below, last_that}
use Rattle.sctp_send.specs.SenderKept.{Item}
use Rattle.sctp_send.specs.declared.pace.tally.Tally.{Tally}
use Rattle.sctp_send.specs.OutstandingFields.{item_meaning}
use Rattle.sctp_send.specs.declared.kept.entry.Entry.{Entry as EntryFields}
use Rattle.sctp_send.proofs.pace.HereLemmas.{here_read}
use Rattle.sctp_send.specs.inner.Wishing.{first_offset, is_item_marked, item_chunks}
use Rattle.sctp_send.specs.inner.Weighing.{is_item_news, passes_here, is_news, news_weight, AreFlying, IsTally}

-- the first summand of a sum apart
pub sum_shift : (h : ℕ → ℕ) (n : ℕ) → sum_below h (suc n) ≡ h 0 + sum_below (λ k. h (suc k)) n
sum_shift h zero = omega arith
sum_shift h (suc n) = let rest = sum_shift h n in omega (arith, rest)

-- so the bytes of chunks are those in flight
pub sum_flying : (header : ℕ) (xs : List Item) (on : ℕ → Bool) → first_offset is_item_marked xs ≡ None → ((j : ℕ) → 0 < j → j ≤ length xs → on j ≡ true) → sum_below (news_weight header xs on) (length xs) ≡ item_chunks header xs
sum_flying header [] on none all = refl
sum_flying header (x ∷ xs) on none all =
    let rest = sum_flying header xs (λ k. on (suc k)) (grind (arith, none)) (λ j lo hi. all (suc j) (omega arith) (omega (arith, hi))) in
    grind (arith, sum_shift (news_weight header (x ∷ xs) on) (length xs), rest, all 1, none)

-- the last of them is the newest
last_flying : (xs : List Item) (on : ℕ → Bool) (n : ℕ) → on (suc n) ≡ true → passes_here is_item_news xs n ≡ true → last_that (is_news xs on) (suc n) ≡ suc n
last_flying xs on n here last =
    let one : suc n - 1 ≡ n = omega arith in
    let news : is_news xs on (suc n) ≡ true = rw (one, here, last) refl in
    rw news refl

pub tally_flying : (header : ℕ) (xs : List Item) (on : ℕ → Bool) (t : Tally) (count : ℕ) → AreFlying count xs → t.at ≡ count → t.newest ≡ count → t.bytes ≡ item_chunks header xs % 2 ^ 64 → ((j : ℕ) → 0 < j → j ≤ count → on j ≡ true) → IsTally header xs on t
tally_flying header xs on t count h at newest bytes all =
    let some = h.some in
    let many = h.all in
    let next : count ≡ suc (count - 1) = omega (arith, some) in
    let every : (j : ℕ) → 0 < j → j ≤ length xs → on j ≡ true = λ j lo hi. all j lo (omega (arith, hi, many)) in
    let top : last_that (is_news xs on) (suc (count - 1)) ≡ suc (count - 1) = last_flying xs on (count - 1) (all (suc (count - 1)) (omega arith) (omega (arith, some))) h.last in
    record {
      bytes = bytes ∙ ap (λ (n : ℕ). n % 2 ^ 64) (sym (sum_flying header xs on h.unmarked every) ∙ ap (sum_below (news_weight header xs on)) (sym (at ∙ many)));
      last = newest ∙ (next ∙ (sym top ∙ ap (last_that (is_news xs on)) (sym (at ∙ next))));
    }

-- so the entries are, read at their end
pub flying_read : (size : ℕ) (es : List EntryFields) (count past : ℕ) (e : EntryFields) (news : Bool) → 0 < count → count ≡ length es → count ≤ past → first_offset is_item_marked (take past (map (item_meaning size) es)) ≡ None
    → e ≡ get_or es (count - 1) e → news ≡ is_item_news (item_meaning size e) → news ≡ true → AreFlying count (map (item_meaning size) es)
flying_read size es count past e news some many over none read is there =
    let xs = map (item_meaning size) es in
    let long : length xs ≡ length es = length-map es (item_meaning size) in
    let whole : take past xs ≡ xs = take_all past xs (omega (arith, long, many, over)) in
    record {
      some = some;
      all = omega (arith, many, long);
      unmarked = ap (first_offset is_item_marked) (sym whole) ∙ none;
      last = here_read is_item_news size es (count - 1) e (omega (arith, some, many)) read ∙ (sym is ∙ there);
    }
