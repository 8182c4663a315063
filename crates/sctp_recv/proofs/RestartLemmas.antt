-- Streams whose numbers begin anew.
use Rattle.std.proofs.Common.{◌≡◌, ℕ, ◌+◌, ◌-◌, ◌<◌, ◌≤◌, ◌⊎◌, Bool, true, false, nat_lt, ◌==◌, List, [], ◌∷◌, ◌++◌, length, set, Some, inl, inr, refl, sym, ◌∙◌, ap, subst, arith}
use Rattle.std.specs.Prelude.{if◌then◌else◌, is_some, unwrap_or, not, ◌||◌, ◌&&◌}
use Rattle.std.proofs.lemmas.Bool.{cases_Bool, cases_eq, cases_lt}
use Rattle.std.proofs.lemmas.Bool.Decides.{nat_tests}
use Rattle.std.proofs.lemmas.List.{length-append}
use Rattle.sctp_model.specs.messages.Format.{Format, Interleaved, ordered_lane, unordered_lane}
use Rattle.sctp_model.specs.sender.Outgoing.{lists}
use Rattle.sctp_model.specs.receiver.ReceiverView.{Handed, ReceiverView}
use Rattle.sctp_model.specs.receiver.ResetTaken.{names, past_top, renumbered}
use Rattle.sctp_recv.specs.declared.restart.Restart.{Restart}
use Rattle.sctp_recv.specs.declared.stream.Stream.{Stream}
use Rattle.sctp_recv.specs.ReceiverKept.{StreamKept, ReceiverKept, FRESH, stream_at}
use Rattle.sctp_recv.specs.ResetsKept.{ResetsKept}
use Rattle.sctp_recv.specs.Resets.{UNRESET, restart_at, AreAll, KeepsResets}
use Rattle.sctp_recv.specs.StandsFor.{KeepsView}
use Rattle.sctp_recv.specs.inner.Bits.{bit_in}
use Rattle.sctp_recv.specs.inner.Restarting.{restart_from, restart_by, told_by, AreRestarted}
use Rattle.sctp_recv.specs.inner.Requesting.{is_same}
use Rattle.sctp_recv.proofs.StreamLemmas.{past_streams}
use Rattle.sctp_recv.proofs.ResetLemmas.{restart_past, restart_set_same, restart_set_other, restart_length_set}

-- ---- several at once

pub restarted_none : (again : Bool) (ss : List StreamKept) (old : ResetsKept) → AreRestarted again ss (λ s. false) old old
restarted_none again ss old = record {
  restart = λ s low. refl;
  told = λ s low. refl;
  beyond = λ s high. refl;
  streams = refl;
  bits = refl;
  last = refl;
  result = refl;
  waited = refl;
  answers = refl;
}

pub restarted_more : (again : Bool) (ss : List StreamKept) (p q : ℕ → Bool) (a b c : ResetsKept) → AreRestarted again ss p a b → AreRestarted again ss q b c → AreRestarted again ss (λ s. p s || q s) a c
restarted_more again ss p q a b c g h = record {
  restart = λ s low.
      h.restart s low
      ∙ ap (λ (x : Restart). if q s then restart_by again (restart_from (stream_at ss s)) x else x) (g.restart s low)
      ∙ both again (p s) (q s) (restart_from (stream_at ss s)) (restart_at a.streams s);
  told = λ s low. h.told s low ∙ ap (λ (x : ℕ). if q s then told_by again x else x) (g.told s low) ∙ both_told again (p s) (q s) (bit_in a.told s);
  beyond = λ s high. h.beyond s high ∙ g.beyond s high;
  streams = h.streams ∙ g.streams;
  bits = h.bits ∙ g.bits;
  last = h.last ∙ g.last;
  result = h.result ∙ g.result;
  waited = h.waited ∙ g.waited;
  answers = h.answers ∙ g.answers;
}
  where
    both : (t u w : Bool) (x y : Restart) → (if w then restart_by t x (if u then restart_by t x y else y) else (if u then restart_by t x y else y)) ≡ (if u || w then restart_by t x y else y)
    both true true true x y = refl
    both true true false x y = refl
    both true false true x y = refl
    both true false false x y = refl
    both false true true x y = refl
    both false true false x y = refl
    both false false true x y = refl
    both false false false x y = refl

    both_told : (t u w : Bool) (y : ℕ) → (if w then told_by t (if u then told_by t y else y) else (if u then told_by t y else y)) ≡ (if u || w then told_by t y else y)
    both_told true true true y = refl
    both_told true true false y = refl
    both_told true false true y = refl
    both_told true false false y = refl
    both_told false true true y = refl
    both_told false true false y = refl
    both_told false false true y = refl
    both_told false false false y = refl

pub restarted_as : (again : Bool) (ss : List StreamKept) (p q : ℕ → Bool) (a b : ResetsKept) → AreRestarted again ss p a b → ((s : ℕ) → s < length ss → p s ≡ q s) → AreRestarted again ss q a b
restarted_as again ss p q a b h same = record {
  restart = λ s low. h.restart s low ∙ ap (λ (t : Bool). if t then restart_by again (restart_from (stream_at ss s)) (restart_at a.streams s) else restart_at a.streams s) (same s low);
  told = λ s low. h.told s low ∙ ap (λ (t : Bool). if t then told_by again (bit_in a.told s) else bit_in a.told s) (same s low);
  beyond = h.beyond;
  streams = h.streams;
  bits = h.bits;
  last = h.last;
  result = h.result;
  waited = h.waited;
  answers = h.answers;
}

-- ---- one

pub restarted_one : (again : Bool) (ss : List StreamKept) (old : ResetsKept) (s : ℕ) (x : Restart) (words : List ℕ) → AreAll (length ss) old → s < length ss →
    x ≡ restart_by again (restart_from (stream_at ss s)) (restart_at old.streams s) → bit_in words s ≡ told_by again (bit_in old.told s) →
    ((q : ℕ) → (q ≡ s → ⊥) → bit_in words q ≡ bit_in old.told q) → length words ≡ length old.told → AreRestarted again ss (is_same s) old (record old { streams = set old.streams s x; told = words })
restarted_one again ss old s x words all low is here others bits = record {
  restart = λ q under. elim (cases_Bool (s == q)) [
    | inl e ↦
        let same : q ≡ s = grind (arith, e, nat_tests) in
        let inside : s < length old.streams = let n = all.streams in omega (arith, n, low) in
        rw e (ap (restart_at (set old.streams s x)) same ∙ restart_set_same old.streams s x inside ∙ is ∙ ap (λ (i : ℕ). restart_by again (restart_from (stream_at ss i)) (restart_at old.streams i)) (sym same))
    | inr e ↦ rw e (restart_set_other old.streams s q x (λ same. grind (arith, e, same, nat_tests)))
  ];
  told = λ q under. elim (cases_Bool (s == q)) [
    | inl e ↦ let same : q ≡ s = grind (arith, e, nat_tests) in rw e (ap (bit_in words) same ∙ here ∙ ap (λ (i : ℕ). told_by again (bit_in old.told i)) (sym same))
    | inr e ↦ rw e (others q (λ same. grind (arith, e, same, nat_tests)))
  ];
  beyond = λ q high. others q (λ same. omega (arith, same, high, low));
  streams = restart_length_set old.streams s x;
  bits = bits;
  last = refl;
  result = refl;
  waited = refl;
  answers = refl;
}

pub all_restarted : (again : Bool) (ss : List StreamKept) (p : ℕ → Bool) (a b : ResetsKept) → AreRestarted again ss p a b → AreAll (length ss) a → AreAll (length ss) b
all_restarted again ss p a b h all = record { streams = h.streams ∙ all.streams; bits = let n = h.bits in let m = all.bits in omega (arith, n, m) }

-- ---- one after another

pub one_further : (i s : ℕ) → (nat_lt s i || (i == s)) ≡ nat_lt s (i + 1)
one_further i s = elim (cases_lt s i) [
  | inl low ↦
      let a : nat_lt s i ≡ true = grind (arith, low, nat_tests) in
      let b : nat_lt s (i + 1) ≡ true = grind (arith, low, nat_tests) in
      rw (a, b) refl
  | inr high ↦
      let a : nat_lt s i ≡ false = grind (arith, high, nat_tests) in
      rw a (at_or_past (cases_eq i s) high)
]
  where
    at_or_past : (i ≡ s) ⊎ (i ≡ s → ⊥) → i ≤ s → (i == s) ≡ nat_lt s (i + 1)
    at_or_past (inl same) high =
        let a : (i == s) ≡ true = grind (arith, same, nat_tests) in
        let b : nat_lt s (i + 1) ≡ true = grind (arith, same, nat_tests) in
        a ∙ sym b
    at_or_past (inr other) high =
        let a : (i == s) ≡ false = grind (arith, other, nat_tests) in
        let b : nat_lt s (i + 1) ≡ false = let past : i < s = omega (arith, other, high) in grind (arith, past, nat_tests) in
        a ∙ sym b

pub all_below : (s i : ℕ) → s < i → nat_lt s i ≡ true
all_below s i low = grind (arith, low, nat_tests)

-- what is kept of all streams is kept of them still
pub all_of : {F : Type 0} (again : Bool) (items : List (Stream F)) (ss : List StreamKept) (p : ℕ → Bool) (a b : ResetsKept) → AreRestarted again ss p a b → length ss ≡ length items → AreAll (length items) a → AreAll (length items) b
all_of again items ss p a b h same all = subst (λ (n : ℕ). AreAll n b) same (all_restarted again ss p a b h (subst (λ (n : ℕ). AreAll n a) (sym same) all))

-- ---- those that a request lists

pub listed_all : (v : ReceiverView) (xs : List ℕ) (s : ℕ) → (length xs == 0) ≡ true → names v xs s ≡ true
listed_all v [] s none = refl
listed_all v (x ∷ xs) s none = let empty : length (x ∷ xs) ≡ 0 = grind (arith, none, nat_tests) in absurd (omega (arith, empty))

pub listed_some : (v : ReceiverView) (xs : List ℕ) (s : ℕ) → (length xs == 0) ≡ false → names v xs s ≡ lists xs s
listed_some v [] s some = absurd (cc)
listed_some v (x ∷ xs) s some = refl

pub one_listed : (p : Bool) (q t : Bool) → (p || (q || t)) ≡ ((p || q) || t)
one_listed true q t = refl
one_listed false q t = refl

pub none_listed : (p : Bool) → p ≡ (p || false)
none_listed true = refl
none_listed false = refl
