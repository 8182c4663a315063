-- The messages at their limit of retransmissions, by what is kept above CUM.
use Rattle.std.proofs.Common.{◌≡◌, ℕ, zero, suc, ◌+◌, ◌-◌, ◌<◌, ◌≤◌, List, [], ◌∷◌, length, get_or, map, Bool, true, false, Some, None, inl, inr, refl, sym, ap, ◌∙◌, subst, arith}
use Rattle.std.specs.Prelude.{not, ◌&&◌, ◌==◌, nat_lt, slice_get}
use Rattle.std.specs.List.{list_any}
use Rattle.std.proofs.lemmas.Bool.{cases_lt}
use Rattle.std.proofs.lemmas.Bool.Decides.{nat_tests}
use Rattle.std.proofs.lemmas.List.{length-map}
use Rattle.std.proofs.lemmas.Option.{get_or_from_slice_get, slice_get_within}
use Rattle.sctp_model.specs.messages.Format.{Format}
use Rattle.sctp_model.specs.messages.Plan.{Message}
use Rattle.sctp_model.specs.sender.SenderView.{SenderView}
use Rattle.sctp_model.specs.sender.Words.{some_passes, count_up}
use Rattle.sctp_model.specs.sender.Entries.{entry_message, is_of_abandoned, passes_at}
use Rattle.sctp_model.specs.sender.Abandoning.{is_worn, ticket_at}
use Rattle.sctp_model.proofs.sender.WordLaws.{lowest_none, lowest_found}
use Rattle.sctp_model.proofs.sender.TicketLaws.{is_ticketed}
use Rattle.sctp_model.proofs.sender.WearLands.{own_item}
use Rattle.sctp_send.specs.SenderKept.{Item, Kept}
use Rattle.sctp_send.specs.SenderStands.{Keeps}
use Rattle.sctp_send.specs.SenderAnswers.{is_limit_at, is_at_limit, next_at_limit}
use Rattle.sctp_send.specs.OutstandingFields.{item_meaning}
use Rattle.sctp_send.specs.inner.Marking.{is_spent}
use Rattle.sctp_send.specs.inner.Wearing.{SaysSpent, NoneSpent, IsNextSpent}
use Rattle.sctp_send.specs.inner.TicketOrder.{ticket_of}
use Rattle.sctp_send.specs.declared.kept.entry.Entry.{Entry as EntryFields}
use Rattle.sctp_send.proofs.KeepLemmas.{kept_length}
use Rattle.sctp_send.proofs.abandon.WearLemmas.{IsKeptAt, kept_at, at_capped, at_spent, at_ticket}

-- ---- tests of indexes

pub any_off : (test : ℕ → Bool) (i n : ℕ) → ((j : ℕ) → i ≤ j → j < i + n → test j ≡ false) → list_any test (count_up i n) ≡ false
any_off test i zero off = refl
any_off test i (suc n) off = rw (off i (omega arith) (omega arith), any_off test (suc i) n (λ j lo hi. off j (omega (arith, lo)) (omega (arith, hi)))) refl

pub any_on : (test : ℕ → Bool) (i n j : ℕ) → i ≤ j → j < i + n → test j ≡ true → list_any test (count_up i n) ≡ true
any_on test i zero j lo hi on = absurd (omega (arith, lo, hi))
any_on test i (suc n) j lo hi on = grind (arith, any_on test (suc i) n j)

-- ---- entry by entry

get_there : {A : Type 0} (xs : List A) (n : ℕ) → n < length xs → (x : A) × (slice_get xs n ≡ Some x)
get_there [] n lt = absurd (omega arith)
get_there (x ∷ xs) zero lt = (x, refl)
get_there (x ∷ xs) (suc n) lt = get_there xs n (omega arith)

read_there : {A : Type 0} (xs : List A) (n : ℕ) (x : A) → slice_get xs n ≡ Some x → x ≡ get_or xs n x
read_there xs n x there = sym (get_or_from_slice_get xs n x x there)

-- whether an index is at the limit
limit_at : (f : Format) (s : Kept) (v : SenderView) (size at : ℕ) (x : EntryFields) → Keeps f s v → IsKeptAt v size at x → is_limit_at v (suc (v.cum + at)) ≡ (not x.abandoned && is_spent s.partial (v.repeats (suc (v.cum + at))) x)
limit_at f s v size at x k h =
    let i = suc (v.cum + at) in
    let above : nat_lt v.cum i ≡ true = grind (arith, nat_tests) in
    ap (λ (b : Bool). b && passes_at v.plan (λ j e. not (is_of_abandoned v e) && is_worn v j e) i) above
    ∙ ap (some_passes (λ e. not (is_of_abandoned v e) && is_worn v i e)) h.there
    ∙ ap (λ (b : Bool). not (is_of_abandoned v h.entry) && b) (at_spent v size at x h)
    ∙ ap (λ (b : Bool). not b && is_spent v.partial (v.repeats i) x) (sym (ap (λ (y : Item). y.abandoned) h.item))
    ∙ ap (λ (p : Bool). not x.abandoned && is_spent p (v.repeats i) x) (sym k.holds.partial)

at_limit_of : (f : Format) (s : Kept) (v : SenderView) (size at : ℕ) (x : EntryFields) (b : Bool) → Keeps f s v → IsKeptAt v size at x → SaysSpent s.partial x b → is_limit_at v (suc (v.cum + at)) ≡ b
at_limit_of f s v size at x b k h says = limit_at f s v size at x k h ∙ says (v.repeats (suc (v.cum + at))) (at_capped v size at x h)

-- ---- ticket by ticket

-- no entry of the ticket is at the limit
none_of_ticket : (f : Format) (s : Kept) (v : SenderView) (size t : ℕ) (es : List EntryFields) → Keeps f s v → s.items ≡ map (item_meaning size) es
    → ((at : ℕ) (x : EntryFields) → slice_get es at ≡ Some x → ticket_of x ≡ t → SaysSpent s.partial x false) → is_at_limit v t ≡ false
none_of_ticket f s v size t es k is none = any_off (λ i. is_limit_at v i && (ticket_at v i == t)) 1 (length v.plan.entries) each
  where
    by_entry : (at : ℕ) → at < length es → (is_limit_at v (suc (v.cum + at)) && (ticket_at v (suc (v.cum + at)) == t)) ≡ false
    by_entry at lt =
        let x = get_there es at lt in
        let h = kept_at f s v size at es x.0 k is lt (read_there es at x.0 x.1) in
        let off : ticket_of x.0 ≡ t → is_limit_at v (suc (v.cum + at)) ≡ false = λ mine. at_limit_of f s v size at x.0 false k h (none at x.0 x.1 mine) in
        grind (arith, nat_tests, off, at_ticket v size at x.0 h)

    each : (j : ℕ) → 1 ≤ j → j < 1 + length v.plan.entries → (is_limit_at v j && (ticket_at v j == t)) ≡ false
    each j lo hi = elim (cases_lt v.cum j) [
      | inr low ↦ grind (arith, nat_tests, low)
      | inl above ↦
          let long = kept_length f s v k in
          let many : length s.items ≡ length es = ap (λ (xs : List Item). length xs) is ∙ length-map es (item_meaning size) in
          let index : suc (v.cum + (j - suc v.cum)) ≡ j = omega (arith, above) in
          subst (λ (i : ℕ). (is_limit_at v i && (ticket_at v i == t)) ≡ false) index (by_entry (j - suc v.cum) (omega (arith, hi, above, long, many)))
    ]

-- an entry of the ticket is
some_of_ticket : (f : Format) (s : Kept) (v : SenderView) (size t at : ℕ) (es : List EntryFields) (x : EntryFields) → Keeps f s v → s.items ≡ map (item_meaning size) es → slice_get es at ≡ Some x → ticket_of x ≡ t
    → SaysSpent s.partial x true → is_at_limit v t ≡ true
some_of_ticket f s v size t at es x k is there mine says =
    let lt = slice_get_within es at x there in
    let h = kept_at f s v size at es x k is lt (read_there es at x there) in
    let long = kept_length f s v k in
    let many : length s.items ≡ length es = ap (λ (xs : List Item). length xs) is ∙ length-map es (item_meaning size) in
    let ticket : ticket_at v (suc (v.cum + at)) ≡ t = sym (at_ticket v size at x h) ∙ mine in
    let same : (ticket_at v (suc (v.cum + at)) == t) ≡ true = grind (arith, nat_tests) in
    any_on (λ i. is_limit_at v i && (ticket_at v i == t)) 1 (length v.plan.entries) (suc (v.cum + at)) (omega arith) (omega (arith, lt, long, many))
    (ap (λ (b : Bool). b && (ticket_at v (suc (v.cum + at)) == t)) (at_limit_of f s v size at x true k h says) ∙ same)

-- its ticket was given
given_there : (f : Format) (s : Kept) (v : SenderView) (size at : ℕ) (x : EntryFields) → Keeps f s v → IsKeptAt v size at x → (0 < ticket_of x) × (ticket_of x ≤ v.tickets)
given_there f s v size at x k h =
    let own = own_item v.plan v.tickets v.plan.entries v.plan.entries (suc (v.cum + at)) h.entry (is_ticketed f v k.reached).owned h.there in
    let self : (ticket_of x == ticket_of x) ≡ true = grind (arith, nat_tests) in
    let has : some_passes (λ (m : Message). m.ticket == ticket_of x) (entry_message v.plan h.entry) ≡ true =
    ap (some_passes (λ (m : Message). m.ticket == ticket_of x)) (sym (ap (λ (y : Item). y.message) h.item)) ∙ self in
    let r = own (ticket_of x) has in
    (r.0, r.1)

-- ---- the next one

pub none_next : (f : Format) (s : Kept) (v : SenderView) (size last : ℕ) (es : List EntryFields) → Keeps f s v → s.items ≡ map (item_meaning size) es → NoneSpent s.partial last es → next_at_limit v last ≡ None
none_next f s v size last es k is none = lowest_none (λ t. nat_lt last t && is_at_limit v t) v.tickets each
  where
    each : (t : ℕ) → 0 < t → t ≤ v.tickets → (nat_lt last t && is_at_limit v t) ≡ false
    each t lo hi = grind (arith, nat_tests, λ (above : last < t). none_of_ticket f s v size t es k is (λ at x there mine. none at x there (omega (arith, above, mine))))

pub some_next : (f : Format) (s : Kept) (v : SenderView) (size last t : ℕ) (es : List EntryFields) → Keeps f s v → s.items ≡ map (item_meaning size) es → IsNextSpent s.partial last t es → next_at_limit v last ≡ Some t
some_next f s v size last t es k is next =
    let h = kept_at f s v size next.at es next.entry k is (slice_get_within es next.at next.entry next.there) (read_there es next.at next.entry next.there) in
    let given = given_there f s v size next.at next.entry k h in
    let mine = next.mine in
    let above = next.above in
    lowest_found (λ u. nat_lt last u && is_at_limit v u) v.tickets t (record {
      some = omega (arith, above);
      within = omega (arith, given.1, mine);
      passes = grind (arith, nat_tests, above, some_of_ticket f s v size t next.at es next.entry k is next.there mine next.spent);
      first = before;
    })
  where
    before : (u : ℕ) → 0 < u → u < t → (nat_lt last u && is_at_limit v u) ≡ false
    before u lo hi =
        grind (arith, nat_tests, λ (over : last < u). none_of_ticket f s v size u es k is (λ at x there mine. next.before at x there (omega (arith, over, mine)) (omega (arith, hi, mine))))
