-- What is known of stretches stays true as entries are added, removed, changed or set.
use Rattle.std.proofs.Common.{◌≡◌, ℕ, suc, ◌+◌, ◌%◌, ◌^◌, ◌<◌, ◌≤◌, List, [], ◌∷◌, ◌++◌, length, Bool, true, false, Some, inl, inr, sym, ap, ◌∙◌, arith, length-append}
use Rattle.std.specs.Prelude.{slice_get}
use Rattle.std.proofs.lemmas.Bool.{cases_lt, cases_eq}
use Rattle.sctp_send.specs.PartsKept.{changed_at}
use Rattle.sctp_send.specs.inner.Changes.{told}
use Rattle.sctp_send.specs.inner.Stretching.{AreAlike, told_run, index_at, slot_at, AreKnown}
use Rattle.sctp_send.specs.declared.kept.stretches.Stretch.{Stretch}
use Rattle.sctp_send.specs.declared.kept.entry.Entry.{Entry as EntryFields}
use Rattle.sctp_send.proofs.kept.ChangedLemmas.{count_changed}
use Rattle.sctp_send.proofs.kept.StretchLemmas.{length-run_changed, alike_pushed, changed_run, alike_turned, alike_front, alike_back}

-- no more is said of any stretch
abbrev pub SayNoMore : (now before : List Stretch) → Type 0
SayNoMore now before = (k : ℕ) (s : Stretch) → slice_get now k ≡ Some s → s.is_known ≡ true → slice_get before k ≡ Some s

-- all but what is said of the stretch with one index is as before
abbrev pub SayTheSame : (index : ℕ) (now before : List Stretch) → Type 0
SayTheSame i now before = (k : ℕ) → (k ≡ slot_at i → ⊥) → slice_get now k ≡ slice_get before k

-- nothing is said of the stretch with this index
abbrev pub SayNothing : (index : ℕ) (now : List Stretch) → Type 0
SayNothing i now = (s : Stretch) → slice_get now (slot_at i) ≡ Some s → s.is_known ≡ false

pub known_less : (header size first : ℕ) (ss now : List Stretch) (es : List EntryFields) → SayNoMore now ss → AreKnown header size first ss es → AreKnown header size first now es
known_less header size first ss now es less h n s within begins read known = h n s within begins (less (slot_at (index_at first n)) s read known) known

-- what is said of a stretch of which nothing is, is nothing
not_there : (i m : ℕ) (now : List Stretch) (s : Stretch) → SayNothing i now → slot_at m ≡ slot_at i → slice_get now (slot_at m) ≡ Some s → s.is_known ≡ true → ⊥
not_there i m now s none same read known = let off = none s (ap (slice_get now) (sym same) ∙ read) in cc

-- one entry more, of whose stretch nothing is said
pub known_pushed : (header size first : ℕ) (ss now : List Stretch) (es : List EntryFields) (e : EntryFields) → SayTheSame (index_at first (length es)) now ss → SayNothing (index_at first (length es)) now → AreKnown header size first ss es → AreKnown header size first now (es ++ e ∷ [])
known_pushed header size first ss now es e same none h n s within begins read known =
    let long = length-append es (e ∷ []) in
    elim (cases_lt (length es) (n + 64)) [
      | inl short ↦
          let here : slot_at (index_at first n) ≡ slot_at (index_at first (length es)) = omega (arith, short, begins, within, long) in
          absurd (not_there (index_at first (length es)) (index_at first n) now s none here read known)
      | inr le ↦
          alike_pushed header size s.covered s.bytes s.chunks s.plain n 64 es (e ∷ [])
          (h n s (omega (arith, le)) begins (sym (same (slot_at (index_at first n)) (λ is. not_there (index_at first (length es)) (index_at first n) now s none is read known)) ∙ read) known)
    ]

-- the first entry goes
pub known_behind : (header size first next : ℕ) (ss : List Stretch) (e : EntryFields) (es : List EntryFields) → next ≡ (first + 1) % 2 ^ 64 → AreKnown header size first ss (e ∷ es) → AreKnown header size next ss es
known_behind header size first next ss e es is h n s within begins read known =
    let same : index_at next n ≡ index_at first (suc n) = omega (arith, is) in
    h (suc n) s (omega (arith, within)) (ap (λ (i : ℕ). i % 64) (sym same) ∙ begins) (ap (λ (i : ℕ). slice_get ss (slot_at i)) (sym same) ∙ read) known

-- an entry changes, of whose stretch nothing is said
pub known_changed : (header size first at : ℕ) (g : EntryFields → EntryFields) (ss now : List Stretch) (es : List EntryFields) → SayTheSame (index_at first at) now ss → SayNothing (index_at first at) now → AreKnown header size first ss es → AreKnown header size first now (changed_at g at es)
known_changed header size first at g ss now es same none h n s within begins read known =
    let long = count_changed g at es in
    let other = λ (is : slot_at (index_at first n) ≡ slot_at (index_at first at)). not_there (index_at first at) (index_at first n) now s none is read known in
    let before = h n s (omega (arith, within, long)) begins (sym (same (slot_at (index_at first n)) other) ∙ read) known in
    elim (cases_lt at n) [
      | inl lt ↦ rw (changed_run g at es) (alike_front header size s.covered g s.bytes s.chunks s.plain n 64 at 1 es (omega (arith, lt)) before)
      | inr ge ↦ elim (cases_lt at (n + 64)) [
        | inl lt ↦ absurd (other (omega (arith, ge, lt, begins)))
        | inr past ↦ rw (changed_run g at es) (alike_back header size s.covered g s.bytes s.chunks s.plain n 64 at 1 es past before)
      ]
    ]

-- no two whole stretches of a window share a slot
one_there : (first n m long : ℕ) → long ≤ 32768 → n + 64 ≤ long → m + 64 ≤ long → index_at first n % 64 ≡ 0 → index_at first m % 64 ≡ 0 → slot_at (index_at first n) ≡ slot_at (index_at first m) → n ≡ m
one_there first n m long few one two first_begins other_begins same = omega (arith, few, one, two, first_begins, other_begins, same)

-- stretches that begin apart lie apart
lie_apart : (first n m : ℕ) → n < m → index_at first n % 64 ≡ 0 → index_at first m % 64 ≡ 0 → n + 64 ≤ m
lie_apart first n m lt one two = omega (arith, lt, one, two)

-- a stretch that is known is told
pub known_turned : (header size first at : ℕ) (b c : Bool) (bytes chunks plain : ℕ) (ss now : List Stretch) (new : Stretch) (es : List EntryFields) → length es ≤ 32768 → at + 64 ≤ length es → index_at first at % 64 ≡ 0
    → SayTheSame (index_at first at) now ss → ((s : Stretch) → slice_get now (slot_at (index_at first at)) ≡ Some s → s ≡ new)
    → new.covered ≡ c → new.bytes ≡ bytes → new.chunks ≡ chunks → new.plain ≡ plain → AreAlike header size b bytes chunks plain at 64 es → AreKnown header size first ss es → AreKnown header size first now (told_run c at 64 es)
known_turned header size first at b c bytes chunks plain ss now new es few there starts same here covered many heavy kept alike h n s within begins read known =
    let long = length-run_changed (told c) at 64 es in
    elim (cases_eq (slot_at (index_at first n)) (slot_at (index_at first at))) [
      | inl is ↦
          let one = one_there first n at (length es) few (omega (arith, within, long)) there begins starts is in
          let said : s ≡ new = here s (ap (slice_get now) (sym is) ∙ read) in
          let c_is : s.covered ≡ c = ap (λ (r : Stretch). r.covered) said ∙ covered in
          let n_is : s.bytes ≡ bytes = ap (λ (r : Stretch). r.bytes) said ∙ many in
          let q_is : s.chunks ≡ chunks = ap (λ (r : Stretch). r.chunks) said ∙ heavy in
          let p_is : s.plain ≡ plain = ap (λ (r : Stretch). r.plain) said ∙ kept in
          rw (one, c_is, n_is, q_is, p_is) (alike_turned header size b c bytes chunks plain at 64 es alike)
      | inr ne ↦
          let before = h n s (omega (arith, within, long)) begins (sym (same (slot_at (index_at first n)) ne) ∙ read) known in
          elim (cases_lt n at) [
            | inl lt ↦ alike_back header size s.covered (told c) s.bytes s.chunks s.plain n 64 at 64 es (lie_apart first n at lt begins starts) before
            | inr ge ↦ elim (cases_lt at n) [
              | inl lt ↦ alike_front header size s.covered (told c) s.bytes s.chunks s.plain n 64 at 64 es (lie_apart first at n lt starts begins) before
              | inr le ↦ let one : n ≡ at = omega (arith, ge, le) in absurd (ne (ap (λ (m : ℕ). slot_at (index_at first m)) one))
            ]
          ]
    ]

-- a stretch is looked at, and what is seen is so
pub known_looked : (header size first at : ℕ) (ss now : List Stretch) (new : Stretch) (es : List EntryFields) → length es ≤ 32768 → at + 64 ≤ length es → index_at first at % 64 ≡ 0 → SayTheSame (index_at first at) now ss
    → ((s : Stretch) → slice_get now (slot_at (index_at first at)) ≡ Some s → s ≡ new) → (new.is_known ≡ true → AreAlike header size new.covered new.bytes new.chunks new.plain at 64 es) → AreKnown header size first ss es → AreKnown header size first now es
known_looked header size first at ss now new es few there starts same here alike h n s within begins read known =
    elim (cases_eq (slot_at (index_at first n)) (slot_at (index_at first at))) [
      | inl is ↦
          let one = one_there first n at (length es) few within there begins starts is in
          let said : s ≡ new = here s (ap (slice_get now) (sym is) ∙ read) in
          rw (one, said) (alike (ap (λ (r : Stretch). r.is_known) (sym said) ∙ known))
      | inr ne ↦ h n s within begins (sym (same (slot_at (index_at first n)) ne) ∙ read) known
    ]

-- some of a stretch are told, of which nothing is said
pub known_part : (header size first at many : ℕ) (c : Bool) (ss now : List Stretch) (es : List EntryFields) → index_at first at % 64 + many ≤ 64 → SayTheSame (index_at first at) now ss → SayNothing (index_at first at) now → AreKnown header size first ss es
    → AreKnown header size first now (told_run c at many es)
known_part header size first at many c ss now es inside same none h n s within begins read known =
    let long = length-run_changed (told c) at many es in
    let other = λ (is : slot_at (index_at first n) ≡ slot_at (index_at first at)). not_there (index_at first at) (index_at first n) now s none is read known in
    let before = h n s (omega (arith, within, long)) begins (sym (same (slot_at (index_at first n)) other) ∙ read) known in
    elim (cases_lt n at) [
      | inl lt ↦ elim (cases_lt at (n + 64)) [
        | inl near ↦ absurd (other (omega (arith, lt, near, begins)))
        | inr past ↦ alike_back header size s.covered (told c) s.bytes s.chunks s.plain n 64 at many es past before
      ]
      | inr ge ↦ elim (cases_lt n (at + many)) [
        | inl near ↦ absurd (other (omega (arith, ge, near, begins, inside)))
        | inr past ↦ alike_front header size s.covered (told c) s.bytes s.chunks s.plain n 64 at many es past before
      ]
    ]
