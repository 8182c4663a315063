-- What becomes of one entry is what its change says, and where it says nothing, all stays.
use Rattle.std.proofs.Common.{◌≡◌, ℕ, zero, suc, List, [], ◌∷◌, get_or, true, false, refl, sym, ap, ◌∙◌, arith}
use Rattle.std.specs.Prelude.{◌==◌}
use Rattle.std.proofs.lemmas.Bool.Decides.{nat_tests}
use Rattle.sctp_send.specs.PartsKept.{OutstandingKept, changed_at, changed}
use Rattle.sctp_send.specs.inner.Changes.{unmarked, stood, as_abandoned}
use Rattle.sctp_send.specs.declared.kept.entry.Standing.{Standing}
use Rattle.sctp_send.specs.declared.kept.entry.Entry.{Entry as EntryFields}
use Rattle.sctp_send.proofs.kept.ChangedLemmas.{changed_at_like}

-- ---- what is outstanding, with one entry changed

pub stays_there : {A : Type 0} (f : A → A) (n : ℕ) (xs : List A) (x : A) → x ≡ get_or xs n x → f x ≡ x → xs ≡ changed_at f n xs
stays_there f n [] x read same = refl
stays_there {A = A} f zero (y ∷ ys) x read same = ap (λ (z : A). z ∷ ys) (sym (ap f (sym read) ∙ same ∙ read))
stays_there {A = A} f (suc n) (y ∷ ys) x read same = ap (λ (zs : List A). y ∷ zs) (stays_there f n ys x read same)

-- changes that agree on the entry
pub changed_same : (f g : EntryFields → EntryFields) (n : ℕ) (w : OutstandingKept) (x : EntryFields) → x ≡ get_or w.items n x → f x ≡ g x → changed f n w ≡ changed g n w
changed_same f g n w x read same = ap (λ (es : List EntryFields). record w { items = es }) (changed_at_like f g n w.items x read same)

-- a change that leaves the entry as it is
pub changed_none : (f : EntryFields → EntryFields) (n : ℕ) (w : OutstandingKept) (x : EntryFields) → x ≡ get_or w.items n x → f x ≡ x → w ≡ changed f n w
changed_none f n w x read same = ap (λ (es : List EntryFields). record w { items = es }) (stays_there f n w.items x read same)

-- ---- what becomes of an entry

-- an entry of the message is abandoned
pub abandoned_mine : (t : ℕ) (s : Standing) (x : EntryFields) → x.message.value.ticket ≡ t → s ≡ unmarked x.standing → stood (record { standing = s; covered = x.covered; abandoned = true; repeats = x.repeats }) x ≡ as_abandoned t x
abandoned_mine t s x mine is = let on : (x.message.value.ticket == t) ≡ true = grind (arith, nat_tests) in rw (on, is) refl

-- another one stays
pub abandoned_other : (t : ℕ) (x : EntryFields) → (x.message.value.ticket ≡ t → ⊥) → as_abandoned t x ≡ x
abandoned_other t x other = let off : (x.message.value.ticket == t) ≡ false = grind (arith, nat_tests) in rw off refl
