-- What was retransmitted as often as it may be, entry by entry and index by index.
use Rattle.std.proofs.Common.{◌≡◌, ℕ, zero, suc, ◌+◌, ◌-◌, ◌<◌, ◌≤◌, List, [], ◌∷◌, ◌++◌, length, get_or, map, drop, Bool, true, false, Option, Some, None, inl, inr, refl, sym, ap, ◌∙◌, subst, arith}
use Rattle.std.specs.Prelude.{◌&&◌, min, nat_le, nat_lt, if◌then◌else◌, fold, option_map, option_and_then, unwrap_or}
use Rattle.std.proofs.lemmas.Bool.{cases_lt}
use Rattle.std.proofs.lemmas.Bool.Decides.{nat_tests}
use Rattle.std.proofs.lemmas.List.{length-map}
use Rattle.sctp_model.specs.messages.Format.{Format}
use Rattle.sctp_model.specs.messages.Plan.{Message, Entry, entry_at}
use Rattle.sctp_model.specs.sender.SenderView.{SenderView}
use Rattle.sctp_model.specs.sender.Words.{some_passes, count_up}
use Rattle.sctp_model.specs.sender.Entries.{entry_message, is_unsettled, passes_at}
use Rattle.sctp_model.specs.sender.Abandoning.{abandon_after, is_used_up, is_worn, is_worn_at, ticket_at, wear_one, worn}
use Rattle.sctp_model.proofs.sender.Bounds.{is_bounded, entry_beyond}
use Rattle.sctp_model.proofs.sender.PointLaws.{get-drop}
use Rattle.sctp_model.proofs.sender.WordLaws.{count_push, fold-append}
use Rattle.sctp_model.proofs.sender.AbandonCases.{after_abandon}
use Rattle.sctp_model.proofs.sender.WornLaws.{wears_each}
use Rattle.sctp_send.specs.SenderKept.{Item, Kept}
use Rattle.sctp_send.specs.SenderStands.{item_here, items_from, Keeps}
use Rattle.sctp_send.specs.OutstandingFields.{item_meaning}
use Rattle.sctp_send.specs.inner.Marking.{IsCapped, is_spent}
use Rattle.sctp_send.specs.inner.Walks.{is_item_unsettled}
use Rattle.sctp_send.specs.inner.TicketOrder.{ticket_of}
use Rattle.sctp_send.specs.declared.kept.entry.Entry.{Entry as EntryFields}
use Rattle.sctp_send.proofs.KeepLemmas.{kept_length}
use Rattle.sctp_send.proofs.kept.ItemLemmas.{item_read}
use Rattle.sctp_send.proofs.fill.ChunkLemmas.{item_there}

-- ---- an entry above CUM

-- what a view has at the index of an offset
pub record IsKeptAt (v : SenderView) (size at : ℕ) (x : EntryFields) : Type 0 where
  pub entry : Entry
  pub there : entry_at v.plan (suc (v.cum + at)) ≡ Some entry
  pub item : item_meaning size x ≡ item_here v (suc (v.cum + at)) entry

pub kept_at : (f : Format) (s : Kept) (v : SenderView) (size at : ℕ) (es : List EntryFields) (x : EntryFields) → Keeps f s v → s.items ≡ map (item_meaning size) es → at < length es → x ≡ get_or es at x → IsKeptAt v size at x
kept_at f s v size at es x k is lt read =
    let ds = drop v.cum v.plan.entries in
    let all : map (item_meaning size) es ≡ items_from v (suc v.cum) ds = sym is ∙ k.holds.items in
    let r = item_there v (suc v.cum) ds at (item_meaning size x) (subst (λ (xs : List Item). at < length xs) all (omega (arith, lt, length-map es (item_meaning size)))) in
    let next : suc v.cum + at ≡ suc (v.cum + at) = omega arith in
    record {
      entry = r.0;
      there = get-drop v.cum v.plan.entries at ∙ r.1;
      item = sym (item_read size es at x read) ∙ ap (λ (xs : List Item). get_or xs at (item_meaning size x)) all ∙ r.2 ∙ ap (λ (i : ℕ). item_here v i r.0) next;
    }

-- there is none behind the last
pub kept_beyond : (f : Format) (s : Kept) (v : SenderView) (at : ℕ) → Keeps f s v → length s.items ≤ at → entry_at v.plan (suc (v.cum + at)) ≡ None
kept_beyond f s v at k past = entry_beyond v.plan (suc (v.cum + at)) (let long = kept_length f s v k in omega (arith, past, long))

pub at_capped : (v : SenderView) (size at : ℕ) (x : EntryFields) → IsKeptAt v size at x → IsCapped (v.repeats (suc (v.cum + at))) x
at_capped v size at x h = ap (λ (y : Item). y.repeats) h.item

-- its message, and what it says
pub at_spent : (v : SenderView) (size at : ℕ) (x : EntryFields) → (h : IsKeptAt v size at x) → is_worn v (suc (v.cum + at)) h.entry ≡ is_spent v.partial (v.repeats (suc (v.cum + at))) x
at_spent v size at x h = ap (λ (m : Option Message). v.partial && some_passes (is_used_up (v.repeats (suc (v.cum + at)))) m) (sym (ap (λ (y : Item). y.message) h.item))

pub at_ticket : (v : SenderView) (size at : ℕ) (x : EntryFields) → IsKeptAt v size at x → ticket_of x ≡ ticket_at v (suc (v.cum + at))
at_ticket v size at x h =
    ap (λ (m : Option Message). unwrap_or (option_map (λ y. y.ticket) m) 0) (ap (λ (y : Item). y.message) h.item)
    ∙ sym (ap (λ (o : Option Entry). unwrap_or (option_map (λ y. y.ticket) (option_and_then (entry_message v.plan) o)) 0) h.there)

-- whether it is worn
pub at_worn : (f : Format) (s : Kept) (v : SenderView) (test : ℕ → Bool) (size at : ℕ) (x : EntryFields) → Keeps f s v → IsKeptAt v size at x → test (suc (v.cum + at)) ≡ true
    → is_worn_at test v (suc (v.cum + at)) ≡ (is_item_unsettled (item_meaning size x) && is_spent s.partial (v.repeats (suc (v.cum + at))) x)
at_worn f s v test size at x k h on =
    let i = suc (v.cum + at) in
    ap (λ (b : Bool). b && passes_at v.plan (λ j e. is_unsettled v j e && is_worn v j e) i) on
    ∙ ap (some_passes (λ e. is_unsettled v i e && is_worn v i e)) h.there
    ∙ ap (λ (b : Bool). is_unsettled v i h.entry && b) (at_spent v size at x h)
    ∙ ap (λ (b : Bool). b && is_spent v.partial (v.repeats i) x) (sym (ap is_item_unsettled h.item))
    ∙ ap (λ (p : Bool). is_item_unsettled (item_meaning size x) && is_spent p (v.repeats i) x) (sym k.holds.partial)

pub none_worn_at : (test : ℕ → Bool) (v : SenderView) (i : ℕ) → entry_at v.plan i ≡ None → is_worn_at test v i ≡ false
none_worn_at test v i none = grind (arith, none)

-- ---- index by index

-- nothing is given up at an index that doesn't pass
pub wear_off : (test : ℕ → Bool) (v : SenderView) (i : ℕ) → test i ≡ false → wear_one test v i ≡ v
wear_off test v i off = ap (λ (b : Bool). if b && passes_at v.plan (λ j e. is_unsettled v j e && is_worn v j e) i then abandon_after v (ticket_at v i) else v) off

-- nor at one that is covered
wear_covered : (test : ℕ → Bool) (v : SenderView) (i : ℕ) → v.covered i ≡ true → wear_one test v i ≡ v
wear_covered test v i on = grind (arith, on)

wear_idle : (test : ℕ → Bool) (v : SenderView) (i n : ℕ) → ((j : ℕ) → i ≤ j → j < i + n → wear_one test v j ≡ v) → fold (wear_one test) v (count_up i n) ≡ v
wear_idle test v i zero idle = refl
wear_idle test v i (suc n) idle = ap (λ (u : SenderView). fold (wear_one test) u (count_up (suc i) n)) (idle i (omega arith) (omega arith)) ∙ wear_idle test v (suc i) n (λ j lo hi. idle j (omega (arith, lo)) (omega (arith, hi)))

count_split : (i a b : ℕ) → count_up i (a + b) ≡ count_up i a ++ count_up (i + a) b
count_split i zero b = let one : 0 + b ≡ b = omega arith in let two : i + 0 ≡ i = omega arith in rw (one, two) refl
count_split i (suc a) b =
    let one : suc a + b ≡ suc (a + b) = omega arith in
    let two : i + suc a ≡ suc i + a = omega arith in
    rw (one, two) (ap (λ (xs : List ℕ). i ∷ xs) (count_split (suc i) a b))

-- what is worn between two offsets, so far
abbrev pub worn_to : (ℕ → Bool) → SenderView → (first many : ℕ) → SenderView
worn_to test v first many = fold (wear_one test) v (count_up (suc (v.cum + first)) many)

pub cum_stays : (test : ℕ → Bool) (v : SenderView) (first many : ℕ) → (worn_to test v first many).cum ≡ v.cum
cum_stays test v first many = wears_each (λ (u : SenderView). u.cum ≡ v.cum) (λ u t same. after_abandon (λ (w : SenderView). w.cum ≡ v.cum) u t same (λ on. same) (λ n is kept. same)) test v (count_up (suc (v.cum + first)) many) refl

-- one more
pub worn_more : (test : ℕ → Bool) (v : SenderView) (first at : ℕ) → first ≤ at → worn_to test v first (at + 1 - first) ≡ wear_one test (worn_to test v first (at - first)) (suc ((worn_to test v first (at - first)).cum + at))
worn_more test v first at order =
    let many : at + 1 - first ≡ suc (at - first) = omega (arith, order) in
    let index : suc (v.cum + first) + (at - first) ≡ suc (v.cum + at) = omega (arith, order) in
    let cum = cum_stays test v first (at - first) in
    rw (many, count_push (suc (v.cum + first)) (at - first), fold-append (wear_one test) v (count_up (suc (v.cum + first)) (at - first)) ((suc (v.cum + first) + (at - first)) ∷ []), index)
    (ap (λ (n : ℕ). wear_one test (worn_to test v first (at - first)) (suc (n + at))) (sym cum))

-- with all offsets that pass, all is worn that passes
pub worn_all : (f : Format) (s : Kept) (v : SenderView) (says test : ℕ → Bool) (from to first last : ℕ) → Keeps f s v
    → ((k : ℕ) → k < length s.items → ((nat_le from k && nat_lt k to) && says k) ≡ test (suc (v.cum + k)))
    → last ≡ min to (length s.items) → first ≡ min from last → worn_to test v first (last - first) ≡ worn test v
worn_all f s v says test from to first last k tells ends begins =
    let long = kept_length f s v k in
    let many : length v.plan.entries ≡ (v.cum + first) + ((last - first) + (length s.items - last)) = omega (arith, long, ends, begins) in
    let one : 1 + (v.cum + first) ≡ suc (v.cum + first) = omega arith in
    let two : suc (v.cum + first) + (last - first) ≡ suc (v.cum + last) = omega (arith, ends, begins) in
    let split : count_up 1 (length v.plan.entries) ≡ count_up 1 (v.cum + first) ++ (count_up (suc (v.cum + first)) (last - first) ++ count_up (suc (v.cum + last)) (length s.items - last)) =
    ap (count_up 1) many ∙ count_split 1 (v.cum + first) ((last - first) + (length s.items - last))
    ∙ ap (λ (xs : List ℕ). count_up 1 (v.cum + first) ++ xs) (ap (λ (i : ℕ). count_up i ((last - first) + (length s.items - last))) one ∙ count_split (suc (v.cum + first)) (last - first) (length s.items - last)
    ∙ ap (λ (i : ℕ). count_up (suc (v.cum + first)) (last - first) ++ count_up i (length s.items - last)) two) in
    sym (ap (fold (wear_one test) v) split
    ∙ fold-append (wear_one test) v (count_up 1 (v.cum + first)) (count_up (suc (v.cum + first)) (last - first) ++ count_up (suc (v.cum + last)) (length s.items - last))
    ∙ ap (λ (u : SenderView). fold (wear_one test) u (count_up (suc (v.cum + first)) (last - first) ++ count_up (suc (v.cum + last)) (length s.items - last))) (wear_idle test v 1 (v.cum + first) before)
    ∙ fold-append (wear_one test) v (count_up (suc (v.cum + first)) (last - first)) (count_up (suc (v.cum + last)) (length s.items - last))
    ∙ wear_idle test (worn_to test v first (last - first)) (suc (v.cum + last)) (length s.items - last) (λ j lo hi. wear_off test (worn_to test v first (last - first)) j (behind j lo (omega (arith, hi, ends)))))
  where
    at_index : (j : ℕ) → v.cum < j → test (suc (v.cum + (j - suc v.cum))) ≡ test j
    at_index j above = ap test (omega (arith, above))

    before : (j : ℕ) → 1 ≤ j → j < 1 + (v.cum + first) → wear_one test v j ≡ v
    before j lo hi = elim (cases_lt v.cum j) [
      | inr low ↦ wear_covered test v j ((is_bounded f v k.reached).covered j (omega (arith, lo)) low)
      | inl above ↦
          let at = j - suc v.cum in
          let less : at < first = omega (arith, hi, above) in
          let tested = tells at (omega (arith, less, begins, ends)) in
          let off : (nat_le from at && nat_lt at to) ≡ false = grind (arith, nat_tests) in
          wear_off test v j (sym (at_index j above) ∙ sym tested ∙ ap (λ (b : Bool). b && says at) off)
    ]

    behind : (j : ℕ) → suc (v.cum + last) ≤ j → j < suc (v.cum + length s.items) → test j ≡ false
    behind j lo hi =
        let at = j - suc v.cum in
        let above : v.cum < j = omega (arith, lo) in
        let past : last ≤ at = omega (arith, lo) in
        let within : at < length s.items = omega (arith, hi, above) in
        let off : (nat_le from at && nat_lt at to) ≡ false = grind (arith, nat_tests) in
        sym (at_index j above) ∙ sym (tells at within) ∙ ap (λ (b : Bool). b && says at) off
