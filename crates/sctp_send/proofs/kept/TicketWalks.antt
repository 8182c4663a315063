-- Walks over entries in the order of their tickets: what holds of the entries of the pairs passed, and of all.
use Rattle.std.proofs.Common.{◌≡◌, ℕ, zero, suc, ◌+◌, ◌<◌, ◌⊎◌, Bool, true, false, List, [], ◌∷◌, length, get_or, map, option_map, Some, inl, inr, refl, sym, ◌∙◌, ap, subst, arith}
use Rattle.std.specs.Prelude.{◌==◌, ◌||◌, slice_get}
use Rattle.std.proofs.lemmas.Bool.Decides.{nat_tests}
use Rattle.std.proofs.lemmas.Bool.{cases_lt, cases_eq}
use Rattle.std.proofs.lemmas.Option.{slice_get-map, slice_get_read, slice_get_within}
use Rattle.sctp_sequence.specs.declared.pairs.Pair.{Pair}
use Rattle.sctp_send.specs.PartsKept.{changed_at}
use Rattle.sctp_send.specs.OutstandingFields.{item_meaning}
use Rattle.sctp_send.specs.inner.Changes.{unmarked, as_abandoned, all_abandoned}
use Rattle.sctp_send.specs.inner.Walks.{any_uncovered, is_item_uncovered}
use Rattle.sctp_send.specs.inner.TicketOrder.{IsOrderOf, IsInOrder, ticket_of, tickets_of}
use Rattle.sctp_send.specs.inner.TicketHeads.{IsOwn, offset_in}
use Rattle.sctp_send.specs.declared.kept.heads.OwnEntries.{OwnEntries}
use Rattle.sctp_send.specs.inner.Counting.{IsCounted}
use Rattle.sctp_send.specs.declared.kept.by_ticket.ByTicket.{ByTicket}
use Rattle.sctp_send.specs.declared.kept.counts.Counts.{Counts}
use Rattle.sctp_send.specs.declared.kept.entry.Standing.{Standing}
use Rattle.sctp_send.specs.declared.kept.stretches.Stretch.{Stretch}
use Rattle.sctp_send.specs.declared.kept.entry.Standing.TheVariants.{Unsent, Sent, Marked}
use Rattle.sctp_send.specs.declared.kept.entry.Entry.{Entry as EntryFields}
use Rattle.sctp_send.specs.inner.Stretching.{index_at, AreKnown}
use Rattle.sctp_send.proofs.kept.ChangedLemmas.{count_changed}
use Rattle.sctp_send.proofs.kept.KnownLemmas.{SayTheSame, SayNothing, known_changed}

-- ---- entries by offset

-- the ticket at an offset is that of the entry there
read_ticket : (es : List EntryFields) (n t : ℕ) → slice_get (tickets_of es) n ≡ Some t → (e : EntryFields) × (slice_get es n ≡ Some e) × (ticket_of e ≡ t)
read_ticket [] n t read = absurd (cc)
read_ticket (e ∷ es) zero t read = (e, refl, cc)
read_ticket (e ∷ es) (suc n) t read = read_ticket es n t read

pub ticket_read : (es : List EntryFields) (n : ℕ) (e : EntryFields) → slice_get es n ≡ Some e → slice_get (tickets_of es) n ≡ Some (ticket_of e)
ticket_read es n e read = slice_get-map ticket_of es n ∙ ap (option_map ticket_of) read

-- an entry that is read has the ticket at its offset
pub same_entry : (es : List EntryFields) (n t : ℕ) (x : EntryFields) → slice_get (tickets_of es) n ≡ Some t → x ≡ get_or es n x → (slice_get es n ≡ Some x) × (ticket_of x ≡ t)
same_entry es n t x there read =
    let mine = read_ticket es n t there in
    let is = slice_get_read es (length es) n x refl (slice_get_within es n mine.0 mine.1) read in
    let same : x ≡ mine.0 = let both = sym is ∙ mine.1 in cc in
    (is, ap ticket_of same ∙ mine.2)

pub ticket_within : (es : List EntryFields) (n t : ℕ) → slice_get (tickets_of es) n ≡ Some t → n < length es
ticket_within es n t there = let mine = read_ticket es n t there in slice_get_within es n mine.0 mine.1

-- ---- a message's entries

-- the offset of one of them lies within, and what is read there is of the message
pub own_within : {t first : ℕ} {ps : List Pair} {o : OwnEntries} (es : List EntryFields) (k n : ℕ) → IsOwn t (tickets_of es) first ps o → k < o.many → n ≡ offset_in first ps o k → n < length es
own_within {t} es k n own lt at = ticket_within es n t (ap (slice_get (tickets_of es)) at ∙ own.right k lt)

pub own_entry : {t first : ℕ} {ps : List Pair} {o : OwnEntries} (es : List EntryFields) (k n : ℕ) (x : EntryFields) → IsOwn t (tickets_of es) first ps o → k < o.many → n ≡ offset_in first ps o k → x ≡ get_or es n x
    → (slice_get es (offset_in first ps o k) ≡ Some x) × (ticket_of x ≡ t)
own_entry {t} es k n x own lt at read = let mine = same_entry es n t x (ap (slice_get (tickets_of es)) at ∙ own.right k lt) read in (ap (slice_get es) (sym at) ∙ mine.0, mine.1)

-- Of so many of them a property holds.
abbrev pub WerePassed : List EntryFields → (first : ℕ) → List Pair → OwnEntries → (EntryFields → Type 0) → (upto : ℕ) → Type 0
WerePassed es first ps o P j = (k : ℕ) (e : EntryFields) → k < j → slice_get es (offset_in first ps o k) ≡ Some e → P e

-- one more
pub one_passed : (es : List EntryFields) (first : ℕ) (ps : List Pair) (o : OwnEntries) (P : EntryFields → Type 0) (j : ℕ) (x : EntryFields) → slice_get es (offset_in first ps o j) ≡ Some x → P x → WerePassed es first ps o P j → WerePassed es first ps o P (j + 1)
one_passed es first ps o P j x read holds passed k e upto here = elim (cases_lt k j) [
  | inl early ↦ passed k e early here
  | inr late ↦
      let last : k ≡ j = omega (arith, late, upto) in
      let same : x ≡ e = let both = sym read ∙ ap (λ (m : ℕ). slice_get es (offset_in first ps o m)) (sym last) ∙ here in cc in
      subst P same holds
]

-- of all entries it holds then, if nothing is asked of others
pub own_passed : (es : List EntryFields) (first : ℕ) (ps : List Pair) (o : OwnEntries) (P : EntryFields → Type 0) (t : ℕ) → IsOwn t (tickets_of es) first ps o → ((e : EntryFields) → (ticket_of e ≡ t → ⊥) → P e) → WerePassed es first ps o P o.many
    → (n : ℕ) (e : EntryFields) → slice_get es n ≡ Some e → P e
own_passed es first ps o P t own others passed n e read = elim (cases_eq (ticket_of e) t) [
  | inl mine ↦
      let k = own.all n (ticket_read es n e read ∙ ap Some mine) in
      passed k.0 e k.1 (ap (slice_get es) k.2 ∙ read)
  | inr other ↦ others e other
]

-- ---- covered or not

pub none_uncovered : (t size : ℕ) (es : List EntryFields) → ((n : ℕ) (e : EntryFields) → slice_get es n ≡ Some e → is_item_uncovered t (item_meaning size e) ≡ false) → any_uncovered t (map (item_meaning size) es) ≡ false
none_uncovered t size [] each = refl
none_uncovered t size (e ∷ es) each = rw (each 0 e refl) (none_uncovered t size es (λ n d there. each (suc n) d there))

pub one_uncovered : (t size n : ℕ) (es : List EntryFields) (e : EntryFields) → n < length es → e ≡ get_or es n e → is_item_uncovered t (item_meaning size e) ≡ true → any_uncovered t (map (item_meaning size) es) ≡ true
one_uncovered t size n [] e lt read is = absurd (omega arith)
one_uncovered t size zero (d ∷ es) e lt read is = let here : is_item_uncovered t (item_meaning size d) ≡ true = subst (λ (x : EntryFields). is_item_uncovered t (item_meaning size x) ≡ true) read is in rw here refl
one_uncovered t size (suc n) (d ∷ es) e lt read is = rw (one_uncovered t size n es e (omega arith) read is) (by_first (is_item_uncovered t (item_meaning size d)))
  where
    by_first : (b : Bool) → (b || true) ≡ true
    by_first true = refl
    by_first false = refl

-- an entry of another message isn't one of these
pub other_uncovered : (t size : ℕ) (e : EntryFields) → (ticket_of e ≡ t → ⊥) → is_item_uncovered t (item_meaning size e) ≡ false
other_uncovered t size e other = let off : (ticket_of e == t) ≡ false = grind (arith, nat_tests) in rw off refl

-- ---- abandoned

pub abandoned_twice : (t : ℕ) (e : EntryFields) → as_abandoned t (as_abandoned t e) ≡ as_abandoned t e
abandoned_twice t e = by_test (e.message.value.ticket == t) refl
  where
    twice : (s : Standing) → unmarked (unmarked s) ≡ unmarked s
    twice Unsent = refl
    twice Sent = refl
    twice Marked = refl

    by_test : (b : Bool) → (e.message.value.ticket == t) ≡ b → as_abandoned t (as_abandoned t e) ≡ as_abandoned t e
    by_test true on = rw (on, on, twice e.standing) refl
    by_test false off = rw (off, off) refl

pub abandoned_ticket : (t : ℕ) (e : EntryFields) → ticket_of (as_abandoned t e) ≡ ticket_of e
abandoned_ticket t e = by_test (e.message.value.ticket == t) refl
  where
    by_test : (b : Bool) → (e.message.value.ticket == t) ≡ b → ticket_of (as_abandoned t e) ≡ ticket_of e
    by_test true on = rw on refl
    by_test false off = rw off refl

-- one abandoned more: tickets stay, and what all become stays
pub changed_tickets : (f : EntryFields → EntryFields) → ((e : EntryFields) → ticket_of (f e) ≡ ticket_of e) → (n : ℕ) (es : List EntryFields) → tickets_of (changed_at f n es) ≡ tickets_of es
changed_tickets f stays n [] = refl
changed_tickets f stays zero (e ∷ es) = rw (stays e) refl
changed_tickets f stays (suc n) (e ∷ es) = rw (changed_tickets f stays n es) refl

pub changed_abandoned : (t n : ℕ) (es : List EntryFields) → all_abandoned t (changed_at (as_abandoned t) n es) ≡ all_abandoned t es
changed_abandoned t n [] = refl
changed_abandoned t zero (e ∷ es) = rw (abandoned_twice t e) refl
changed_abandoned t (suc n) (e ∷ es) = rw (changed_abandoned t n es) refl

-- what is read then was there, elsewhere, or became so
changed_read : (f : EntryFields → EntryFields) (n m : ℕ) (es : List EntryFields) (e : EntryFields) → slice_get (changed_at f n es) m ≡ Some e
    → ((m ≡ n → ⊥) × (slice_get es m ≡ Some e)) ⊎ ((d : EntryFields) × (e ≡ f d))
changed_read f n m [] e read = absurd (cc)
changed_read f zero zero (d ∷ es) e read = inr (d, cc)
changed_read f zero (suc m) (d ∷ es) e read = inl (λ is. omega (arith, is), read)
changed_read f (suc n) zero (d ∷ es) e read = inl (λ is. omega (arith, is), read)
changed_read f (suc n) (suc m) (d ∷ es) e read = elim (changed_read f n m es e read) [ inl same ↦ inl (λ is. same.0 (omega (arith, is)), same.1) | inr new ↦ inr new ]

abbrev pub IsAbandonedAlready : ℕ → EntryFields → Type 0
IsAbandonedAlready t e = as_abandoned t e ≡ e

-- what was abandoned stays so, and one entry more is
pub abandoned_more : (t first : ℕ) (ps : List Pair) (o : OwnEntries) (es : List EntryFields) (j n : ℕ) → n ≡ offset_in first ps o j → WerePassed es first ps o (IsAbandonedAlready t) j
    → WerePassed (changed_at (as_abandoned t) n es) first ps o (IsAbandonedAlready t) (j + 1)
abandoned_more t first ps o es j n at passed k e upto read = elim (changed_read (as_abandoned t) n (offset_in first ps o k) es e read) [
  | inr new ↦ subst (IsAbandonedAlready t) (sym new.1) (abandoned_twice t new.0)
  | inl same ↦ elim (cases_lt k j) [
    | inl early ↦ passed k e early same.1
    | inr late ↦ absurd (let last : k ≡ j = omega (arith, late, upto) in same.0 (ap (λ (m : ℕ). offset_in first ps o m) last ∙ sym at))
  ]
]

-- where nothing is left to abandon, all is as it becomes
pub all_are_abandoned : (t : ℕ) (es : List EntryFields) → ((n : ℕ) (e : EntryFields) → slice_get es n ≡ Some e → IsAbandonedAlready t e) → all_abandoned t es ≡ es
all_are_abandoned t [] each = refl
all_are_abandoned t (e ∷ es) each = rw (each 0 e refl, all_are_abandoned t es (λ n d there. each (suc n) d there)) refl

-- ---- what is outstanding

-- other counts of the same entries
pub recounted : (size : ℕ) (es : List EntryFields) (capacity : ℕ) (c d : Counts) (o : ByTicket) (room : ℕ) (ss : List Stretch) → IsCounted size es d → d.header ≡ c.header → IsInOrder size es capacity c o room ss → IsInOrder size es capacity d o room ss
recounted size es capacity c d o room ss counted header h =
    record { counted = counted; order = h.order; within = h.within; here = h.here; there = h.there; known = subst (λ (n : ℕ). AreKnown n size o.first ss es) (sym header) h.known }

-- an entry changes, of whose stretch nothing is said
pub entry_changed : {size capacity kept room i : ℕ} {es now : List EntryFields} {c d : Counts} {o : ByTicket} {ss rest : List Stretch} (at : ℕ) (f : EntryFields → EntryFields) → ((e : EntryFields) → ticket_of (f e) ≡ ticket_of e)
    → now ≡ changed_at f at es → IsCounted size now d → d.header ≡ c.header → kept ≡ capacity → i ≡ index_at o.first at → SayTheSame i rest ss → SayNothing i rest → IsInOrder size es capacity c o room ss → IsInOrder size now kept d o room rest
entry_changed {size} {capacity} {kept} {room} {i} {es} {now} {c} {d} {o} {ss} {rest} at f stays items counted header same is others here h =
    let long : length now ≡ length es = ap (λ (xs : List EntryFields). length xs) items ∙ count_changed f at es in
    record {
      counted = counted;
      order = subst (λ (ts : List ℕ). IsOrderOf ts o) (sym (ap tickets_of items ∙ changed_tickets f stays at es)) h.order;
      within = let le = h.within in omega (arith, long, le);
      here = let le = h.here in omega (arith, same, le);
      there = h.there;
      known = subst (λ (xs : List EntryFields). AreKnown d.header size o.first rest xs) (sym items)
          (subst (λ (n : ℕ). AreKnown n size o.first rest (changed_at f at es)) (sym header)
          (known_changed c.header size o.first at f ss rest es (subst (λ (n : ℕ). SayTheSame n rest ss) is others) (subst (λ (n : ℕ). SayNothing n rest) is here) h.known));
    }
