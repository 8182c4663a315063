-- A fragment that has its index goes out: its item counts as sent, and its mark ends.
use Rattle.std.proofs.Common.{◌≡◌, ℕ, zero, suc, ◌+◌, ◌<◌, List, [], ◌∷◌, Bool, length, drop, get_or, set, Bool, true, false, Some, refl, sym, ap, ◌∙◌, arith, length-set}
use Rattle.std.specs.Prelude.{◌==◌, min, if◌then◌else◌}
use Rattle.std.proofs.lemmas.Bool.Decides.{nat_tests}
use Rattle.sctp_model.specs.messages.Format.{Format}
use Rattle.sctp_model.specs.messages.Plan.{Entry}
use Rattle.sctp_model.specs.sender.SenderView.{SenderView}
use Rattle.sctp_model.specs.sender.Filling.{standing, with_sent, goes, gone}
use Rattle.sctp_model.specs.sender.Reached.{Goes}
use Rattle.sctp_model.specs.sender.Words.{last_that}
use Rattle.sctp_model.specs.numbers.Lists.{at as sent_at}
use Rattle.sctp_model.proofs.sender.FillLaws.{goes_parts}
use Rattle.sctp_send.specs.SenderKept.{Item, Kept}
use Rattle.sctp_send.specs.SenderStands.{item_here, items_from, Holds, Keeps}
use Rattle.sctp_send.proofs.OverLemmas.{same_gone}
use Rattle.sctp_send.specs.inner.Dues.{is_asleep}
use Rattle.sctp_send.proofs.DueLemmas.{late_gone}
use Rattle.sctp_send.specs.inner.Newcomers.{repeats_after}
pub use Rattle.sctp_send.specs.inner.Newcomers.{gone_item}

-- what goes out above an index leaves the highest one up to it
pub sent_above : (g : ℕ → Bool) (i n : ℕ) → n < i → last_that (sent_at g i true) n ≡ last_that g n
sent_above g i zero lt = refl
sent_above g i (suc n) lt = let off : (suc n == i) ≡ false = grind (arith, nat_tests) in rw (off, sent_above g i n (omega arith)) refl

item_other : (v : SenderView) (i j : ℕ) (e : Entry) → (j ≡ i → ⊥) → item_here (with_sent v i) j e ≡ item_here v j e
item_other v i j e apart = let off : (j == i) ≡ false = grind (arith, nat_tests) in rw off refl

item_self : (v : SenderView) (i : ℕ) (e : Entry) → item_here (with_sent v i) i e ≡ gone_item (item_here v i e)
item_self v i e =
    let on : (i == i) ≡ true = grind (arith, nat_tests) in
    rw on (ap (λ (n : ℕ). record (gone_item (item_here v i e)) { repeats = n }) (by_sent (v.sent i)))
  where
    by_sent : (b : Bool) → min (if b then suc (v.repeats i) else v.repeats i) 65535 ≡ repeats_after b (min (v.repeats i) 65535)
    by_sent true = omega arith
    by_sent false = refl

-- items that stand behind it stay
items_behind : (v : SenderView) (i from : ℕ) (es : List Entry) → i < from → items_from (with_sent v i) from es ≡ items_from v from es
items_behind v i from [] low = refl
items_behind v i from (e ∷ es) low = rw (item_other v i from e (λ same. omega arith), items_behind v i (suc from) es (omega arith)) refl

items_sent : (v : SenderView) (i from at : ℕ) (es : List Entry) (d : Item) → i ≡ from + at → at < length es
    → items_from (with_sent v i) from es ≡ set (items_from v from es) at (gone_item (get_or (items_from v from es) at d))
items_sent v i from at [] d is low = absurd (omega arith)
items_sent v i from zero (e ∷ es) d is low =
    let same : from ≡ i = omega arith in
    rw (same, item_self v i e, items_behind v i (suc i) es (omega arith)) refl
items_sent v i from (suc at) (e ∷ es) d is low =
    rw (item_other v i from e (λ same. omega arith)) (ap (λ (xs : List Item). item_here v from e ∷ xs) (items_sent v i (suc from) at es d (omega arith) (omega arith)))

count_items : (v : SenderView) (from : ℕ) (es : List Entry) → length (items_from v from es) ≡ length es
count_items v from [] = refl
count_items v from (e ∷ es) = ap suc (count_items v (suc from) es)

-- what is kept of a view is kept of it once the fragment at this offset went out
pub holds_sent : (s : Kept) (u : SenderView) (at : ℕ) (d : Item) → Holds s u → at < length s.items
    → Holds (record s { items = set s.items at (gone_item (get_or s.items at d)) }) (with_sent u (suc (u.cum + at)))
holds_sent s u at d h low =
    let es = drop u.cum u.plan.entries in
    let long = ap (λ (xs : List Item). length xs) h.items ∙ count_items u (suc u.cum) es in
    let sent = items_sent u (suc (u.cum + at)) (suc u.cum) at es d (omega arith) (omega arith) in
    let kept = length-set s.items at (gone_item (get_or s.items at d)) in
    let space = h.room in
    record {
      initial = h.initial;
      streams = h.streams;
      fragment = h.fragment;
      partial = h.partial;
      cum = h.cum;
      rwnd = h.rwnd;
      turn = h.turn;
      items = ap (λ (xs : List Item). set xs at (gone_item (get_or xs at d))) h.items ∙ sym sent;
      queue = h.queue;
      tracks = h.tracks;
      fates = h.fates;
      covered = h.covered;
      room = omega (arith, kept, space);
    }

-- What is kept once the fragment at this offset went.
pub keeps_gone : (f : Format) (s : Kept) (v : SenderView) (room at : ℕ) (d : Item) → Keeps f s v → goes f room v ≡ Some (standing v (suc (v.cum + at))) → at < length s.items
    → Keeps f (record s { items = set s.items at (gone_item (get_or s.items at d)) }) (gone (standing v (suc (v.cum + at))))
keeps_gone f s v room at d k first low =
    let parts = goes_parts f room v (standing v (suc (v.cum + at))) first in
    record {
      holds = holds_sent s v at d k.holds low;
      over = record { within = k.over.within; each = λ t le. let o = k.over.each t le in record { queue = o.queue; tracks = o.tracks; items = same_gone t at s.items d ∙ o.items } };
      due = record { many = k.due.many; each = λ t now lt. let i = k.due.each t now lt in record { queue = i.queue; items = λ on. late_gone now t at (is_asleep s t) s.items d ∙ i.items on; tracks = i.tracks } };
      forward = k.forward;
      resets = k.resets;
      before = k.before ∙ sym (sent_above v.sent (suc (v.cum + at)) v.cum (omega arith));
      counted = k.counted;
      limits = k.limits;
      reached = Goes v room (standing v (suc (v.cum + at))) k.reached parts.0 parts.1;
    }
