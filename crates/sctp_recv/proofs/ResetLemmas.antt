-- What is kept of the peer's resets, and how it changes.
use Rattle.std.proofs.Common.{◌≡◌, ℕ, zero, suc, ◌-◌, ◌<◌, ◌≤◌, ◌==◌, List, [], ◌∷◌, ◌++◌, length, set, replicate, Option, None, Some, inl, inr, refl, sym, ◌∙◌, ap, arith}
use Rattle.std.specs.Prelude.{unwrap_or}
use Rattle.std.proofs.lemmas.Bool.{cases_Bool, cases_eq}
use Rattle.std.proofs.lemmas.Bool.Decides.{nat_tests}
use Rattle.sctp_model.specs.numbers.Lists.{at}
use Rattle.sctp_model.specs.messages.Format.{Format}
use Rattle.sctp_model.specs.receiver.Incoming.{Incoming, no_incoming}
use Rattle.sctp_model.specs.receiver.ReceiverView.{Handed, ReceiverView}
use Rattle.sctp_recv.specs.declared.restart.Restart.{Restart}
use Rattle.sctp_recv.specs.ReceiverKept.{ReceiverKept}
use Rattle.sctp_recv.specs.ResetsKept.{ResetsKept}
use Rattle.sctp_recv.specs.Resets.{UNRESET, restart_at, restart_in, KeepsResets}
use Rattle.sctp_recv.specs.StandsFor.{KeepsView}
use Rattle.sctp_recv.specs.inner.Restarting.{IsFresh, HasTaken}

-- ---- lists of streams

pub unreset_at : (n s : ℕ) → restart_at (replicate n UNRESET) s ≡ UNRESET
unreset_at zero s = refl
unreset_at (suc n) zero = refl
unreset_at (suc n) (suc s) = unreset_at n s

pub length_unreset : (n : ℕ) → length (replicate n UNRESET) ≡ n
length_unreset zero = refl
length_unreset (suc n) = ap suc (length_unreset n)

pub restart_past : (xs : List Restart) (s : ℕ) → length xs ≤ s → restart_at xs s ≡ UNRESET
restart_past [] s high = refl
restart_past (x ∷ xs) zero high = absurd (omega (arith, high))
restart_past (x ∷ xs) (suc s) high = restart_past xs s (omega (arith, high))

pub restart_set_same : (xs : List Restart) (s : ℕ) (x : Restart) → s < length xs → restart_at (set xs s x) s ≡ x
restart_set_same [] s x low = absurd (omega (arith, low))
restart_set_same (y ∷ xs) zero x low = refl
restart_set_same (y ∷ xs) (suc s) x low = restart_set_same xs s x (omega (arith, low))

pub restart_set_other : (xs : List Restart) (s q : ℕ) (x : Restart) → (q ≡ s → ⊥) → restart_at (set xs s x) q ≡ restart_at xs q
restart_set_other [] s q x apart = refl
restart_set_other (y ∷ xs) zero zero x apart = absurd (apart refl)
restart_set_other (y ∷ xs) zero (suc q) x apart = refl
restart_set_other (y ∷ xs) (suc s) zero x apart = refl
restart_set_other (y ∷ xs) (suc s) (suc q) x apart = restart_set_other xs s q x (λ e. apart (ap suc e))

pub restart_length_set : (xs : List Restart) (s : ℕ) (x : Restart) → length (set xs s x) ≡ length xs
restart_length_set [] s x = refl
restart_length_set (y ∷ xs) zero x = refl
restart_length_set (y ∷ xs) (suc s) x = ap suc (restart_length_set xs s x)

-- ---- the first request

-- before it no request was taken
pub none_kept : (f : Format) (initial streams : ℕ) → KeepsResets f None initial streams (λ s. []) no_incoming
none_kept f initial streams = record {
  last = refl;
  result = refl;
  waited = refl;
  begun = λ on. absurd (cc);
  answers = refl;
  ordered = λ s. refl;
  unordered = λ s e. refl;
  old = λ s. refl;
  told = λ s low. refl;
  none = λ s high. refl;
  all = tt;
}

pub fresh_kept : (f : Format) (k : ResetsKept) (initial streams : ℕ) (taken : ℕ → List Handed) (r : Incoming) → IsFresh initial streams k → KeepsResets f None initial streams taken r → KeepsResets f (Some k) initial streams taken r
fresh_kept f k initial streams taken r fresh h = record {
  last = fresh.last ∙ h.last;
  result = fresh.result ∙ h.result;
  waited = fresh.waited ∙ h.waited;
  begun = h.begun;
  answers = h.answers ∙ sym fresh.answers;
  ordered = λ s. h.ordered s ∙ sym (ap (λ (x : Restart). x.ordered) (fresh.restart s));
  unordered = λ s e. h.unordered s e ∙ sym (ap (λ (x : Restart). x.unordered) (fresh.restart s));
  old = λ s. h.old s ∙ sym (ap (λ (x : Restart). x.old) (fresh.restart s));
  told = λ s low. fresh.told s ∙ h.told s low;
  none = λ s high. fresh.told s;
  all = fresh.all;
}

-- ---- a message taken

pub taken_kept : (f : Format) (k l : Option ResetsKept) (initial streams s : ℕ) (taken : ℕ → List Handed) (r : Incoming) (m : Handed) → HasTaken s k l → KeepsResets f k initial streams taken r →
    KeepsResets f l initial streams (at taken s (taken s ++ m ∷ [])) r
taken_kept f k l initial streams s taken r m has h = record {
  last = has.last initial ∙ h.last;
  result = has.result ∙ h.result;
  waited = has.waited ∙ h.waited;
  begun = h.begun;
  answers = h.answers ∙ sym has.answers;
  ordered = λ q. h.ordered q ∙ sym (same (λ (x : Restart). x.ordered) (λ x n. refl) q);
  unordered = λ q e. h.unordered q e ∙ sym (same (λ (x : Restart). x.unordered) (λ x n. refl) q);
  old = old_now;
  told = λ q low. has.told q ∙ h.told q low;
  none = λ q high. has.told q ∙ h.none q high;
  all = has.all streams h.all;
}
  where
    same : (field : Restart → ℕ) → ((x : Restart) (n : ℕ) → field (record x { old = n }) ≡ field x) → (q : ℕ) → field (restart_in l q) ≡ field (restart_in k q)
    same field but q = elim (cases_eq q s) [
      | inl is ↦ ap (λ (i : ℕ). field (restart_in l i)) is ∙ ap field has.here ∙ but (restart_in k s) ((restart_in k s).old - 1) ∙ ap (λ (i : ℕ). field (restart_in k i)) (sym is)
      | inr other ↦ ap field (has.others q other)
    ]

    longer : (xs : List Handed) → length (xs ++ m ∷ []) ≡ suc (length xs)
    longer [] = refl
    longer (x ∷ xs) = ap suc (longer xs)

    old_now : (q : ℕ) → unwrap_or (r.told q) 0 - length (at taken s (taken s ++ m ∷ []) q) ≡ (restart_in l q).old
    old_now q = elim (cases_Bool (q == s)) [
      | inl e ↦
          let is : q ≡ s = grind (arith, e, nat_tests) in
          let was = h.old q in
          let now : (restart_in l q).old ≡ (restart_in k q).old - 1 = ap (λ (i : ℕ). (restart_in l i).old) is ∙ ap (λ (x : Restart). x.old) has.here ∙ ap (λ (i : ℕ). (restart_in k i).old - 1) (sym is) in
          let size : length (taken s ++ m ∷ []) ≡ suc (length (taken q)) = longer (taken s) ∙ ap (λ (i : ℕ). suc (length (taken i))) (sym is) in
          rw e (omega (arith, was, now, size))
      | inr e ↦ rw e (h.old q ∙ sym (ap (λ (x : Restart). x.old) (has.others q (λ is. grind (arith, e, is, nat_tests)))))
    ]

-- ---- resets alone change

pub keeps_resets : (f : Format) (k : ReceiverKept) (v : ReceiverView) (o : Option ResetsKept) (x : Incoming) → KeepsView f k v → KeepsResets f o v.initial v.streams v.taken x →
    KeepsView f (record k { resets = o }) (record v { resets = x })
keeps_resets f k v o x w h = record {
  seen = w.seen;
  counts = w.counts;
  apart = w.apart;
  recorded = w.recorded;
  numbers = w.numbers;
  next = w.next;
  skip = w.skip;
  past = w.past;
  skipped = w.skipped;
  waiting = w.waiting;
  streams = w.streams;
  few_streams = w.few_streams;
  duplicates = w.duplicates;
  resets = h;
  held = w.held;
  room = w.room;
  small = w.small;
  initial = w.initial;
  buffer = w.buffer;
  reserve = w.reserve;
}
