-- The highest index that was sent, by the highest up to CUM and the items above it.
use Rattle.std.proofs.Common.{◌≡◌, ℕ, zero, suc, ◌+◌, ◌-◌, ◌%◌, ◌^◌, ◌<◌, ◌≤◌, ◌∙◌, List, Bool, true, false, refl, sym, ap, arith, length}
use Rattle.sctp_model.specs.messages.Format.{Format}
use Rattle.sctp_model.specs.sender.SenderView.{SenderView}
use Rattle.sctp_model.specs.sender.Words.{last_that}
use Rattle.sctp_model.proofs.sender.Bounds.{is_bounded}
use Rattle.sctp_model.proofs.sender.OwedLaws.{is_promised}
use Rattle.sctp_send.specs.SenderKept.{Item, Kept}
use Rattle.sctp_send.specs.SenderStands.{Keeps}
use Rattle.sctp_send.specs.inner.Weighing.{is_item_sent, passes_here}
use Rattle.sctp_send.proofs.KeepLemmas.{kept_length}
use Rattle.sctp_send.proofs.pace.PaceViews.{index_is}

-- ---- the last that passes

pub last_here : (on : ℕ → Bool) (n : ℕ) → 0 < n → on n ≡ true → last_that on n ≡ n
last_here on zero some here = absurd (omega (arith, some))
last_here on (suc n) some here = rw here refl

pub last_before : (on : ℕ → Bool) (n m : ℕ) → n ≡ suc m → on n ≡ false → last_that on n ≡ last_that on m
last_before on n m is off = grind (arith, is, off)

pub last_low : (on : ℕ → Bool) (n : ℕ) → last_that on n ≤ n
last_low on zero = omega arith
last_low on (suc n) = grind (arith, last_low on n)

-- the last beyond an index, or else the last up to it
abbrev index_from : (c before offset : ℕ) → ℕ
index_from c before zero = before
index_from c before (suc j) = c + suc j

last_from : (on above : ℕ → Bool) (c n : ℕ) → ((j : ℕ) → 0 < j → on (c + j) ≡ above j) → last_that on (c + n) ≡ index_from c (last_that on c) (last_that above n)
last_from on above c zero same = ap (last_that on) (let e : c + 0 ≡ c = omega arith in e)
last_from on above c (suc n) same =
    let next : c + suc n ≡ suc (c + n) = omega arith in
    grind (arith, next, same (suc n), last_from on above c n same)

-- ---- of a view

sent_from : (f : Format) (s : Kept) (v : SenderView) (n : ℕ) → Keeps f s v → last_that v.sent (v.cum + n) ≡ index_from v.cum (last_that v.sent v.cum) (last_that (λ j. passes_here is_item_sent s.items (j - 1)) n)
sent_from f s v n k = last_from v.sent (λ j. passes_here is_item_sent s.items (j - 1)) v.cum n (λ j some. sym (index_is f s v is_item_sent v.sent j k some (λ i e. refl) (is_bounded f v k.reached).unsent))

pub none_sent : (f : Format) (s : Kept) (v : SenderView) (n m : ℕ) (xs : List Item) → Keeps f s v → xs ≡ s.items → m ≡ last_that (λ j. passes_here is_item_sent xs (j - 1)) n → m ≡ 0 → s.before ≡ last_that v.sent (v.cum + n)
none_sent f s v n m xs k items last none =
    let zeroed = ap (λ (ys : List Item). last_that (λ j. passes_here is_item_sent ys (j - 1)) n) (sym items) ∙ sym last ∙ none in
    k.before ∙ sym (sent_from f s v n k ∙ ap (index_from v.cum (last_that v.sent v.cum)) zeroed)

pub some_sent : (f : Format) (s : Kept) (v : SenderView) (n m : ℕ) (xs : List Item) → Keeps f s v → xs ≡ s.items → m ≡ last_that (λ j. passes_here is_item_sent xs (j - 1)) n → 0 < m → n ≤ length s.items
    → (s.cum + m) % 2 ^ 64 ≡ last_that v.sent (v.cum + n)
some_sent f s v n m xs k items last some le =
    let low = last_low (λ j. passes_here is_item_sent xs (j - 1)) n in
    let long = kept_length f s v k in
    let most = is_promised f v k.reached in
    let cum = k.holds.cum in
    let fits : (s.cum + m) % 2 ^ 64 ≡ v.cum + m = omega (arith, low, last, long, most, cum, le) in
    let same = ap (λ (ys : List Item). last_that (λ j. passes_here is_item_sent ys (j - 1)) n) (sym items) ∙ sym last in
    fits ∙ above m some ∙ sym (sent_from f s v n k ∙ ap (index_from v.cum (last_that v.sent v.cum)) same)
  where
    above : (j : ℕ) → 0 < j → v.cum + j ≡ index_from v.cum (last_that v.sent v.cum) j
    above zero lt = absurd (omega (arith, lt))
    above (suc j) lt = refl
