-- How far the FORWARD of a sender goes: over as many entries as name no more lanes than a packet holds behind its headers.
use Rattle.std.proofs.Common.{◌≡◌, ℕ, suc, ◌+◌, ◌-◌, ◌*◌, ◌/◌, ◌%◌, ◌^◌, ◌<◌, ◌≤◌, List, [], ◌∷◌, ◌++◌, length, map, take, drop, Bool, true, false, inl, inr, refl, sym, ap, subst, ◌∙◌, arith}
use Rattle.std.specs.Prelude.{nat_lt, nat_le}
use Rattle.std.proofs.lemmas.Bool.{cases_lt}
use Rattle.std.proofs.lemmas.Bool.Decides.{nat_tests}
use Rattle.std.proofs.lemmas.List.{length-map, take-take, take-append-drop}
use Rattle.sctp_model.specs.messages.Format.{Format, Plain, Interleaved}
use Rattle.sctp_model.specs.messages.Framing.{forward_chunk}
use Rattle.sctp_model.specs.messages.Forward.{Skip}
use Rattle.sctp_model.specs.messages.Plan.{Entry}
use Rattle.sctp_model.specs.numbers.Serial.{tsn}
use Rattle.sctp_model.specs.wire.Chunk.{SkipMeaning, ForwardMeaning, size_of_chunk}
use Rattle.sctp_model.specs.sender.SenderView.{SenderView}
use Rattle.sctp_model.specs.sender.Readers.{point}
use Rattle.sctp_model.specs.sender.Forwarding.{entries_to, forward_to, skips_below}
use Rattle.sctp_model.specs.sender.SentChunks.{skip_said, forward_said, forward_chunk_to, fits_forward, forward_end, forward_chunk_of}
use Rattle.sctp_model.proofs.sender.ForwardEnd.{is_end, end_from, end_upto, end_fits, end_behind}
use Rattle.sctp_wire.specs.Skips.{skip_size}
use Rattle.sctp_framing.specs.SkipForms.{skip_form}
use Rattle.sctp_send.specs.SenderKept.{Kept}
use Rattle.sctp_send.specs.SenderStands.{Keeps}
use Rattle.sctp_send.specs.OutstandingFields.{item_meaning, entries_of}
use Rattle.sctp_send.specs.ResetsKept.{base_of}
use Rattle.sctp_send.specs.inner.Lanes.{passed_meaning, noted_entry, forward_of_lanes}
use Rattle.sctp_send.specs.declared.forward.lanes.Passed.{Passed}
use Rattle.sctp_send.specs.declared.kept.entry.Entry.{Entry as EntryFields}
use Rattle.sctp_send.proofs.ResetLemmas.{based_skips}
use Rattle.sctp_send.proofs.forward.LaneLemmas.{skips_more}
use Rattle.sctp_send.proofs.forward.LaneWalks.{skips_longer, none_below}
use Rattle.sctp_send.proofs.forward.ForwardLemmas.{forward_size, is_passed, first_to}

-- ---- lanes and bytes

-- what a packet with a FORWARD alone takes
small_by_lanes : (f : Format) (limit p : ℕ) (v : SenderView) → fits_forward f limit v p ≡ nat_le (20 + skip_size (skip_form f) * length (forward_to f v p).skips) limit
small_by_lanes f limit p v =
    let x : ForwardMeaning = forward_said f v p in
    let count : length x.skips ≡ length (forward_to f v p).skips = length-map (forward_to f v p).skips (skip_said f v.resets.base) in
    let chunk : size_of_chunk (forward_chunk f x) ≡ 8 + skip_size (skip_form f) * length (forward_to f v p).skips = forward_size f x ∙ ap (λ (n : ℕ). 8 + skip_size (skip_form f) * n) count in
    ap (λ (n : ℕ). nat_le n limit) (omega (arith, chunk))

small_if_few : (f : Format) (limit n most : ℕ) → 20 ≤ limit → most ≡ (limit - 20) / skip_size (skip_form f) → n ≤ most → nat_le (20 + skip_size (skip_form f) * n) limit ≡ true
small_if_few Plain limit n most least is few = let le : 20 + 4 * n ≤ limit = omega (arith, least, few, is) in grind (arith, nat_tests)
small_if_few Interleaved limit n most least is few = let le : 20 + 8 * n ≤ limit = omega (arith, least, few, is) in grind (arith, nat_tests)

large_if_many : (f : Format) (limit n most : ℕ) → most ≡ (limit - 20) / skip_size (skip_form f) → most < n → nat_le (20 + skip_size (skip_form f) * n) limit ≡ false
large_if_many Plain limit n most is many = let lt : limit < 20 + 4 * n = omega (arith, many, is) in grind (arith, nat_tests)
large_if_many Interleaved limit n most is many = let lt : limit < 20 + 8 * n = omega (arith, many, is) in grind (arith, nat_tests)

-- a FORWARD that goes further names no fewer lanes
lanes_grow : (f : Format) (v : SenderView) (p q : ℕ) → p ≤ q → length (forward_to f v p).skips ≤ length (forward_to f v q).skips
lanes_grow f v p q le =
    let es = drop v.cum v.plan.entries in
    let m = p - v.cum in
    let more = drop m (take (q - v.cum) es) in
    let all : take (q - v.cum) es ≡ take m es ++ more = sym (take-append-drop m (take (q - v.cum) es)) ∙ ap (λ (xs : List Entry). xs ++ more) (take-take m (q - v.cum) es (omega (arith, le))) in
    subst (λ (xs : List Entry). length (forward_to f v p).skips ≤ length (skips_below f xs v.streams)) (sym all) (skips_longer f v.streams (entries_to v p) more)

-- over one entry it names one lane at most
one_lane : (f : Format) (streams : ℕ) (es : List Entry) → length (skips_below f (take 1 es) streams) ≤ 1
one_lane f streams [] = subst (λ (xs : List Skip). length xs ≤ 1) (sym (none_below f streams)) (omega arith)
one_lane f streams (e ∷ es) =
    let is : skips_below f (e ∷ []) streams ≡ noted_entry f streams e [] = skips_more f streams [] e ∙ ap (noted_entry f streams e) (none_below f streams) in
    rw is (grind (arith, nat_tests))

-- ---- the end

-- n of the first entries are as many as name no more lanes than this
pub record IsFurthest (f : Format) (v : SenderView) (most run n : ℕ) : Type 0 where
  pub within : n ≤ run
  pub few : length (forward_to f v (v.cum + n)).skips ≤ most
  pub last : n < run → most < length (forward_to f v (v.cum + suc n)).skips

pub furthest_is_end : (f : Format) (v : SenderView) (limit most run n : ℕ) → 20 ≤ limit → most ≡ (limit - 20) / skip_size (skip_form f) → point v ≡ v.cum + run → IsFurthest f v most run n
    → forward_end f limit v ≡ v.cum + n
furthest_is_end f v limit most run n least is there far =
    let within = far.within in
    sym (is_end f limit v (v.cum + n) (omega arith) (omega (arith, there, within))
    (λ past. small_by_lanes f limit (v.cum + n) v ∙ small_if_few f limit (length (forward_to f v (v.cum + n)).skips) most least is far.few)
    (λ q past upto.
    let over = far.last (omega (arith, past, upto, there)) in
    let more = lanes_grow f v (v.cum + suc n) q (omega (arith, past)) in
    small_by_lanes f limit q v ∙ large_if_many f limit (length (forward_to f v q).skips) most is (omega (arith, over, more))))

-- where not even the headers fit, it goes nowhere
pub too_short : (f : Format) (v : SenderView) (limit : ℕ) → limit < 20 → forward_end f limit v ≡ v.cum + 0
too_short f v limit short =
    elim (cases_lt v.cum (forward_end f limit v)) [
      | inl past ↦ absurd (let fits = end_fits f limit v past in let large = small_by_lanes f limit (forward_end f limit v) v ∙ none (length (forward_to f v (forward_end f limit v)).skips) in cc)
      | inr le ↦ let from = end_from f limit v in omega (arith, le, from)
    ]
  where
    none : (n : ℕ) → nat_le (20 + skip_size (skip_form f) * n) limit ≡ false
    none n = let lt : limit < 20 + skip_size (skip_form f) * n = omega (arith, short) in grind (arith, nat_tests)

-- a packet of the least limit holds one entry
pub reaches : (f : Format) (v : SenderView) (limit : ℕ) → 576 ≤ limit → nat_lt v.cum (forward_end f limit v) ≡ nat_lt v.cum (point v)
reaches f v limit least = by_test (nat_lt v.cum (point v)) refl
  where
    first : fits_forward f limit v (v.cum + 1) ≡ true
    first =
        let one : v.cum + 1 - v.cum ≡ 1 = omega arith in
        let few : length (forward_to f v (v.cum + 1)).skips ≤ 1 = subst (λ (n : ℕ). length (skips_below f (take n (drop v.cum v.plan.entries)) v.streams) ≤ 1) (sym one) (one_lane f v.streams (drop v.cum v.plan.entries)) in
        small_by_lanes f limit (v.cum + 1) v ∙ go f (length (forward_to f v (v.cum + 1)).skips) few
      where
        go : (g : Format) (n : ℕ) → n ≤ 1 → nat_le (20 + skip_size (skip_form g) * n) limit ≡ true
        go Plain n few = let le : 20 + 4 * n ≤ limit = omega (arith, least, few) in grind (arith, nat_tests)
        go Interleaved n few = let le : 20 + 8 * n ≤ limit = omega (arith, least, few) in grind (arith, nat_tests)

    by_test : (b : Bool) → nat_lt v.cum (point v) ≡ b → nat_lt v.cum (forward_end f limit v) ≡ b
    by_test false none = grind (arith, nat_tests, end_upto f limit v)
    by_test true some =
        let lt : v.cum < point v = grind (arith, nat_tests) in
        elim (cases_lt v.cum (forward_end f limit v)) [
          | inl past ↦ grind (arith, nat_tests)
          | inr le ↦ absurd (let on = first in let off = end_behind f limit v (v.cum + 1) (omega (arith, le)) (omega (arith, lt)) in cc)
        ]

-- ---- what is kept, and the view

-- what was walked over goes that far
pub walked_far : (f : Format) (s : Kept) (v : SenderView) (size streams most run n : ℕ) (es : List EntryFields) (lanes : List Passed) → Keeps f s v → s.items ≡ map (item_meaning size) es → s.streams ≡ streams
    → n ≤ run → map passed_meaning lanes ≡ skips_below f (entries_of (map (item_meaning size) (take n es))) streams → length lanes ≤ most
    → (n < run → most < length (skips_below f (entries_of (map (item_meaning size) (take (n + 1) es))) streams)) → IsFurthest f v most run n
walked_far f s v size streams most run n es lanes k items same within is few last =
    let here : map passed_meaning lanes ≡ (forward_to f v (v.cum + n)).skips = is ∙ lanes_to n in
    let long : length lanes ≡ length (forward_to f v (v.cum + n)).skips = sym (length-map lanes passed_meaning) ∙ ap (λ (xs : List Skip). length xs) here in
    record {
      within = within;
      few = omega (arith, few, long);
      last = λ lt. let over = last lt in let next = ap (λ (xs : List Skip). length xs) (lanes_to (n + 1)) in let one : n + 1 ≡ suc n = omega arith in subst (λ (m : ℕ). most < length (forward_to f v (v.cum + m)).skips) one (omega (arith, over, next));
    }
  where
    lanes_to : (m : ℕ) → skips_below f (entries_of (map (item_meaning size) (take m es))) streams ≡ (forward_to f v (v.cum + m)).skips
    lanes_to m = let below : streams ≡ v.streams = sym same ∙ k.holds.streams in rw (first_to f s v size m es k items, below) refl

-- the chunk that names those lanes is that of the view
pub sent_forward : (f : Format) (s : Kept) (v : SenderView) (size limit n cumulative : ℕ) (es : List EntryFields) (lanes : List Passed) → Keeps f s v → s.items ≡ map (item_meaning size) es
    → forward_end f limit v ≡ v.cum + n → map passed_meaning lanes ≡ skips_below f (entries_of (map (item_meaning size) (take n es))) s.streams → cumulative ≡ tsn s.initial ((s.cum + n) % 2 ^ 64)
    → forward_of_lanes f (base_of s.resets) cumulative lanes ≡ forward_chunk_of f limit v
sent_forward f s v size limit n cumulative es lanes k items end is said =
    let p = is_passed f s v k in
    let upto = end_upto f limit v in
    let cum = k.holds.cum in
    let there : (s.cum + n) % 2 ^ 64 ≡ v.cum + n = omega (arith, p.point, p.within, upto, end, cum) in
    let first : cumulative ≡ tsn v.initial (v.cum + n) = said ∙ rw (k.holds.initial, there) refl in
    let streams = k.holds.streams in
    let skips : map (skip_said f (base_of s.resets)) (map passed_meaning lanes) ≡ (forward_said f v (v.cum + n)).skips = ap (map (skip_said f (base_of s.resets))) (is ∙ rw (first_to f s v size n es k items, streams) refl) ∙ based_skips f s v (v.cum + n) k in
    ap (λ (c : ℕ). forward_of_lanes f (base_of s.resets) c lanes) first
    ∙ ap (λ (xs : List SkipMeaning). forward_chunk f (record { cumulative = tsn v.initial (v.cum + n); skips = xs })) skips
    ∙ sym (ap (forward_chunk_to f v) end)

-- it goes somewhere where an entry was passed
pub goes_on : (f : Format) (limit n : ℕ) (v : SenderView) → forward_end f limit v ≡ v.cum + n → (n ≡ 0 → ⊥) → nat_lt v.cum (forward_end f limit v) ≡ true
goes_on f limit n v end some = let lt : v.cum < forward_end f limit v = omega (arith, end, some) in grind (arith, nat_tests)
