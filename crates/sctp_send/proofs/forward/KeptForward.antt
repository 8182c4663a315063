-- The FORWARD that was built last is the one of the view, if CUM, the point and the packet limit are those that it was built for.
use Rattle.std.proofs.Common.{◌≡◌, ℕ, suc, ◌+◌, ◌-◌, ◌/◌, ◌%◌, ◌^◌, ◌<◌, ◌≤◌, List, length, map, take, drop, Option, Some, None, refl, sym, ap, ◌∙◌, subst, arith}
use Rattle.std.specs.Prelude.{IfSome}
use Rattle.std.proofs.lemmas.List.{length-map, take-take}
use Rattle.sctp_model.specs.messages.Format.{Format, Lane}
use Rattle.sctp_model.specs.messages.Framing.{forward_chunk}
use Rattle.sctp_model.specs.messages.Plan.{Entry}
use Rattle.sctp_model.specs.messages.Forward.{Skip}
use Rattle.sctp_model.specs.numbers.Serial.{tsn}
use Rattle.sctp_model.specs.wire.Chunk.{SkipMeaning}
use Rattle.sctp_model.specs.sender.SenderView.{SenderView}
use Rattle.sctp_model.specs.sender.Readers.{point}
use Rattle.sctp_model.specs.sender.Forwarding.{skips_below, forward_to}
use Rattle.sctp_model.specs.sender.SentChunks.{skip_said, forward_said, forward_chunk_to, forward_end, forward_chunk_of}
use Rattle.sctp_wire.specs.Skips.{skip_size, skips_in}
use Rattle.sctp_framing.specs.SkipForms.{skip_form}
use Rattle.sctp_send.specs.SenderKept.{Kept}
use Rattle.sctp_send.specs.SenderStands.{Keeps}
use Rattle.sctp_send.specs.OutstandingFields.{item_meaning, entries_of}
use Rattle.sctp_send.specs.ResetsKept.{base_of}
use Rattle.sctp_send.specs.ForwardKept.{IsBuilt, IsLastForward, IsForwardKept}
use Rattle.sctp_send.specs.inner.Walks.{abandoned_items}
use Rattle.sctp_send.specs.inner.Lanes.{passed_meaning, forward_of_list}
use Rattle.sctp_send.specs.declared.kept.last_forward.LastForward.{LastForward}
use Rattle.sctp_send.specs.declared.forward.lanes.Passed.{Passed}
use Rattle.sctp_send.specs.declared.kept.entry.Entry.{Entry as EntryFields}
use Rattle.sctp_send.proofs.KeepLemmas.{kept_length}
use Rattle.sctp_send.proofs.HeldLemmas.{keeps_with}
use Rattle.sctp_send.proofs.forward.ForwardLemmas.{is_passed, first_entries, first_kept}
use Rattle.sctp_send.proofs.forward.ReachLemmas.{IsFurthest, furthest_is_end}

-- ---- one is kept

pub keeps_forward : (f : Format) (s : Kept) (v : SenderView) (o : Option LastForward) → Keeps f s v → IsForwardKept f v.resets.base v.streams v.plan.entries o → Keeps f (record s { forward = o }) v
keeps_forward f s v o k built = keeps_with f s v o s.capacity k built k.holds.room

-- one that was built from the entries that are kept
pub forward_built : (f : Format) (s : Kept) (v : SenderView) (size streams run : ℕ) (es : List EntryFields) (l : LastForward) → Keeps f s v → s.items ≡ map (item_meaning size) es → s.streams ≡ streams → run ≤ length s.items
    → l.cum ≡ s.cum → l.run ≡ run → IsBuilt f (base_of s.resets) streams (entries_of (map (item_meaning size) (take run es))) l → IsLastForward f v.resets.base v.streams v.plan.entries l
forward_built f s v size streams run es l k items same within cum long built = record {
  there = let count = kept_length f s v k in let at = k.holds.cum in omega (arith, count, at, within, cum, long);
  built = subst (λ (b : Lane → ℕ). IsBuilt f b v.streams (take l.run (drop l.cum v.plan.entries)) l) (sym k.resets.base)
      (subst (λ (n : ℕ). IsBuilt f (base_of s.resets) n (take l.run (drop l.cum v.plan.entries)) l) (sym same ∙ k.holds.streams) (subst (λ (xs : List Entry). IsBuilt f (base_of s.resets) streams xs l) here built));
}
  where
    here : entries_of (map (item_meaning size) (take run es)) ≡ take l.run (drop l.cum v.plan.entries)
    here = first_kept f s v size run es k items ∙ ap (λ (n : ℕ). take n (drop v.cum v.plan.entries)) (sym long) ∙ ap (λ (n : ℕ). take l.run (drop n v.plan.entries)) (sym (cum ∙ k.holds.cum))

-- what was built, or nothing
pub forward_made : (f : Format) (s : Kept) (v : SenderView) (size streams cum run : ℕ) (es : List EntryFields) (o : Option LastForward) → Keeps f s v → s.items ≡ map (item_meaning size) es → s.streams ≡ streams → s.cum ≡ cum
    → run ≤ length s.items → IfSome o (λ l. l.cum ≡ cum) → IfSome o (λ l. l.run ≡ run) → IfSome o (λ l. IsBuilt f (base_of s.resets) streams (entries_of (map (item_meaning size) (take run es))) l) → IsForwardKept f v.resets.base v.streams v.plan.entries o
forward_made f s v size streams cum run es None k items same at within first long built = tt
forward_made f s v size streams cum run es (Some l) k items same at within first long built = forward_built f s v size streams run es l k items same within (first ∙ sym at) long built

-- the walk over the entries gave it
pub built_is : (f : Format) (base : Lane → ℕ) (streams size most : ℕ) (es : List EntryFields) (lanes : List Passed) (l : LastForward) → 20 ≤ l.limit → most ≡ (l.limit - 20) / skip_size (skip_form f) → (l.passed ≡ 0 → ⊥) → l.passed ≤ l.run
    → map passed_meaning lanes ≡ skips_below f (entries_of (map (item_meaning size) (take l.passed es))) streams → length lanes ≤ most
    → (l.passed < l.run → most < length (skips_below f (entries_of (map (item_meaning size) (take (l.passed + 1) es))) streams))
    → skips_in (skip_form f) l.list.items ≡ map (skip_said f base) (map passed_meaning lanes) → IsBuilt f base streams (entries_of (map (item_meaning size) (take l.run es))) l
built_is f base streams size most es lanes l least limit some within is few last said = record {
  least = least;
  some = omega (arith, some);
  within = within;
  skips = said ∙ ap (map (skip_said f base)) (is ∙ below l.passed within);
  few = let same = ap (λ (xs : List Skip). length xs) (is ∙ below l.passed within) in let long = length-map lanes passed_meaning in omega (arith, same, long, few, limit);
  last = λ lt.
      let one : l.passed + 1 ≡ suc l.passed = omega arith in
      let over = subst (λ (n : ℕ). most < length (skips_below f (entries_of (map (item_meaning size) (take n es))) streams)) one (last lt) in
      let same = ap (λ (xs : List Skip). length xs) (below (suc l.passed) (omega (arith, lt))) in
      omega (arith, over, same, limit);
}
  where
    below : (n : ℕ) → n ≤ l.run → skips_below f (entries_of (map (item_meaning size) (take n es))) streams ≡ skips_below f (take n (entries_of (map (item_meaning size) (take l.run es)))) streams
    below n le = ap (λ (xs : List Entry). skips_below f xs streams)
        (ap (λ (xs : List EntryFields). entries_of (map (item_meaning size) xs)) (sym (take-take n l.run es le)) ∙ first_entries size n (take l.run es))

-- ---- it is the one of the view

-- a FORWARD that is kept, and for what it was built
pub record IsThis (f : Format) (s : Kept) (v : SenderView) (limit run : ℕ) (l : LastForward) : Type 0 where
  pub kept : s.forward ≡ Some l
  pub at : l.cum ≡ s.cum
  pub long : l.run ≡ run
  pub packet : l.limit ≡ limit
  pub here : run ≡ abandoned_items s.items % 2 ^ 32

module _ (f : Format) (s : Kept) (v : SenderView) (limit run : ℕ) (l : LastForward) (k : Keeps f s v) (this : IsThis f s v limit run l) where
  last : IsLastForward f v.resets.base v.streams v.plan.entries l
  last = subst (λ (o : Option LastForward). IsForwardKept f v.resets.base v.streams v.plan.entries o) this.kept k.forward

  -- the first entries that it was built from are those after CUM
  first : (n : ℕ) → n ≤ l.run → skips_below f (take n (take l.run (drop l.cum v.plan.entries))) v.streams ≡ (forward_to f v (v.cum + n)).skips
  first n le =
      let at : l.cum ≡ v.cum = this.at ∙ k.holds.cum in
      let count : v.cum + n - v.cum ≡ n = omega arith in
      ap (λ (es : List Entry). skips_below f es v.streams) (take-take n l.run (drop l.cum v.plan.entries) le ∙ ap (λ (c : ℕ). take n (drop c v.plan.entries)) at ∙ ap (λ (j : ℕ). take j (drop v.cum v.plan.entries)) (sym count))

  furthest : IsFurthest f v ((limit - 20) / skip_size (skip_form f)) run l.passed
  furthest =
      let b = last.built in
      let most : (l.limit - 20) / skip_size (skip_form f) ≡ (limit - 20) / skip_size (skip_form f) = ap (λ (n : ℕ). (n - 20) / skip_size (skip_form f)) this.packet in
      let same = this.long in
      let within = b.within in
      record {
        within = omega (arith, same, within);
        few = let few = b.few in let long = ap (λ (xs : List Skip). length xs) (first l.passed within) in omega (arith, few, long, most);
        last = λ lt. let over = b.last (omega (arith, lt, same)) in let long = ap (λ (xs : List Skip). length xs) (first (suc l.passed) (omega (arith, lt, same))) in omega (arith, over, long, most);
      }

  pub kept_end : forward_end f limit v ≡ v.cum + l.passed
  kept_end =
      let b = last.built in
      let least = b.least in
      let same = this.packet in
      let p = is_passed f s v k in
      let there : point v ≡ v.cum + run = p.point ∙ ap (λ (n : ℕ). v.cum + n) (sym this.here) in
      furthest_is_end f v limit ((limit - 20) / skip_size (skip_form f)) run l.passed (omega (arith, least, same)) refl there furthest

  pub kept_some : l.passed ≡ 0 → ⊥
  kept_some none = let some = last.built.some in absurd (omega (arith, some, none))

  pub kept_chunk : (cumulative : ℕ) → cumulative ≡ tsn s.initial ((l.cum + l.passed) % 2 ^ 64) → forward_of_list f cumulative l.list.items ≡ forward_chunk_of f limit v
  kept_chunk cumulative said =
      let b = last.built in
      let p = is_passed f s v k in
      let within = b.within in
      let inside = p.within in
      let cum = k.holds.cum in
      let was = this.at in
      let same = this.long ∙ this.here in
      let there : (l.cum + l.passed) % 2 ^ 64 ≡ v.cum + l.passed = omega (arith, inside, within, cum, was, same) in
      let at : cumulative ≡ tsn v.initial (v.cum + l.passed) = said ∙ rw (k.holds.initial, there) refl in
      let skips : skips_in (skip_form f) l.list.items ≡ (forward_said f v (v.cum + l.passed)).skips = b.skips ∙ ap (map (skip_said f v.resets.base)) (first l.passed within) in
      ap (λ (c : ℕ). forward_of_list f c l.list.items) at
      ∙ ap (λ (xs : List SkipMeaning). forward_chunk f (record { cumulative = tsn v.initial (v.cum + l.passed); skips = xs })) skips
      ∙ sym (ap (forward_chunk_to f v) kept_end)
