-- What delivery leaves as it was, and what it settles: the streams that were served wait, and no chunk is below their next numbers.
use Rattle.std.proofs.Common.{◌≡◌, ℕ, zero, suc, ◌<◌, ◌≤◌, ◌⊎◌, ◌==◌, Bool, true, false, List, [], ◌∷◌, filter, refl, ap, sym, ◌∙◌, subst, inl, inr, arith, eqb-true}
use Rattle.std.specs.Prelude.{not}
use Rattle.std.proofs.lemmas.Bool.{cases_Bool, cases_eq, eq-eqb}
use Rattle.sctp_model.specs.numbers.Lists.{Has, IsWithin, at}
use Rattle.sctp_model.specs.messages.Format.{Format, Kind, Ordered, Unordered, Lane, ordered_lane}
use Rattle.sctp_model.specs.messages.Pieces.{Piece}
use Rattle.sctp_model.specs.receiver.ReceiverView.{ReceiverView}
use Rattle.sctp_model.specs.receiver.Receiving.{HasNoWhole, HasNoWholeWith, is_below, without_below, GivesOrdered, GivesUnordered, Gives, GivesAll}
use Rattle.sctp_model.specs.receiver.Laws.{IsWaiting}
use Rattle.sctp_model.proofs.receiver.OneStep.{filter_has}
use Rattle.sctp_model.proofs.receiver.DueWords.{ends_at}

-- ---- a function changed at one argument

pub at_here : {A : Type 0} (g : ℕ → A) (s : ℕ) (v : A) → at g s v s ≡ v
at_here g s v = let same = eq-eqb s s refl in rw same refl

pub at_elsewhere : {A : Type 0} (g : ℕ → A) (s : ℕ) (v : A) (t : ℕ) → (t ≡ s → ⊥) → at g s v t ≡ g t
at_elsewhere g s v t other = go (cases_Bool (t == s))
  where
    go : (t == s ≡ true) ⊎ (t == s ≡ false) → at g s v t ≡ g t
    go (inl same) = absurd (other (eqb-true t s same))
    go (inr differ) = rw differ refl

-- what a filter leaves passes its test
pub filter_passes : {A : Type 0} (test : A → Bool) (xs : List A) (x : A) → Has (filter test xs) x → test x ≡ true
filter_passes test [] x there = absurd there
filter_passes test (y ∷ xs) x there = go (cases_Bool (test y)) (filter_passes test xs x)
  where
    go : (test y ≡ true) ⊎ (test y ≡ false) → (Has (filter test xs) x → test x ≡ true) → test x ≡ true
    go (inr p) more = more (rw p at there)
    go (inl p) more = elim (rw p at there) [ inl is ↦ sym (ap test is) ∙ p | inr later ↦ more later ]

-- ---- of fewer chunks no more are whole

pub none_fewer : (f : Format) (kept fewer : List Piece) (l : Lane) (n : ℕ) → IsWithin fewer kept → HasNoWhole f kept l n → HasNoWhole f fewer l n
none_fewer f kept fewer l n within none xs (whole, inside, number) = none xs (whole, (λ z there. within z (inside z there)), number)

pub none_with_fewer : (f : Format) (kept fewer : List Piece) (y : Piece) → IsWithin fewer kept → HasNoWholeWith f kept y → HasNoWholeWith f fewer y
none_with_fewer f kept fewer y within none xs (whole, inside, has) = none xs (whole, (λ z there. within z (inside z there)), has)

-- ---- what delivering leaves as it was

pub record IsGiving (r t : ReceiverView) : Type 0 where
  pub seen : t.seen ≡ r.seen
  pub skip : t.skip ≡ r.skip
  pub initial : t.initial ≡ r.initial
  pub streams : t.streams ≡ r.streams
  pub buffer : t.buffer ≡ r.buffer
  pub fewer : IsWithin t.kept r.kept

pub giving_none : (r : ReceiverView) → IsGiving r r
giving_none r = record { seen = refl; skip = refl; initial = refl; streams = refl; buffer = refl; fewer = λ x there. there }

giving_both : (r s t : ReceiverView) → IsGiving r s → IsGiving s t → IsGiving r t
giving_both r s t a b = record {
  seen = b.seen ∙ a.seen;
  skip = b.skip ∙ a.skip;
  initial = b.initial ∙ a.initial;
  streams = b.streams ∙ a.streams;
  buffer = b.buffer ∙ a.buffer;
  fewer = λ x there. a.fewer x (b.fewer x there);
}

pub giving_ordered : (f : Format) (s : ℕ) (r t : ReceiverView) → GivesOrdered f s r t → IsGiving r t
giving_ordered f s r t (ms, n, due, is) = subst (IsGiving r) (sym is) (record { seen = refl; skip = refl; initial = refl; streams = refl; buffer = refl; fewer = filter_has _ r.kept })

pub giving_unordered : (f : Format) (y : Piece) (r t : ReceiverView) → GivesUnordered f y r t → IsGiving r t
giving_unordered f y r t (inr (none, is)) = subst (IsGiving r) (sym is) (giving_none r)
giving_unordered f y r t (inl (x, xs, whole, is)) = subst (IsGiving r) (sym is) (record { seen = refl; skip = refl; initial = refl; streams = refl; buffer = refl; fewer = filter_has _ r.kept })

pub giving : (f : Format) (k : Kind) (y : Piece) (r t : ReceiverView) → Gives f k y r t → IsGiving r t
giving f Ordered y r t gives = giving_ordered f y.lane.stream r t gives
giving f Unordered y r t gives = giving_unordered f y r t gives

-- ---- what it settles

-- no ordered chunk of the stream lies below its next number
abbrev pub IsClear : ReceiverView → ℕ → Type 0
IsClear r s = (x : Piece) → Has r.kept x → is_below s (r.next s) x ≡ false

pub record IsServed (f : Format) (s : ℕ) (r t : ReceiverView) : Type 0 where
  pub waits : IsWaiting f t s
  pub clear : IsClear t s
  pub others : (u : ℕ) → (u ≡ s → ⊥) → t.next u ≡ r.next u

pub served : (f : Format) (s : ℕ) (r t : ReceiverView) → GivesOrdered f s r t → IsServed f s r t
served f s r t (ms, n, due, is) = subst (IsServed f s r) (sym is) (record {
  waits = record {
    passed = subst (λ (m : ℕ). r.skip (ordered_lane s) ≤ m) (sym (at_here r.next s n)) (ends_at f r s (r.next s) ms n due).0;
    none = subst (HasNoWhole f (without_below r.kept s n) (ordered_lane s)) (sym (at_here r.next s n))
        (none_fewer f r.kept (without_below r.kept s n) (ordered_lane s) n (filter_has _ r.kept) (ends_at f r s (r.next s) ms n due).1);
  };
  clear = λ x there. subst (λ (m : ℕ). is_below s m x ≡ false) (sym (at_here r.next s n)) (not_true (is_below s n x) (filter_passes _ r.kept x there));
  others = λ u other. at_elsewhere r.next s n u other;
})
  where
    not_true : (b : Bool) → not b ≡ true → b ≡ false
    not_true true e = absurd (cc)
    not_true false e = refl

-- A stream waits as before if its numbers are as they were and fewer chunks are kept, and no chunk is below the next number.
pub still_waiting : (f : Format) (r t : ReceiverView) (s : ℕ) → IsWithin t.kept r.kept → t.next s ≡ r.next s → t.skip (ordered_lane s) ≡ r.skip (ordered_lane s) → IsWaiting f r s → IsWaiting f t s
still_waiting f r t s fewer next skip waits = record {
  passed = omega (arith, waits.passed, next, skip);
  none = subst (HasNoWhole f t.kept (ordered_lane s)) (sym next) (none_fewer f r.kept t.kept (ordered_lane s) (r.next s) fewer waits.none);
}

pub still_clear : (r t : ReceiverView) (s : ℕ) → IsWithin t.kept r.kept → t.next s ≡ r.next s → IsClear r s → IsClear t s
still_clear r t s fewer next clear x there = subst (λ (n : ℕ). is_below s n x ≡ false) (sym next) (clear x (fewer x there))

-- ---- all streams, one after the other

pub record AreServed (f : Format) (n : ℕ) (r t : ReceiverView) : Type 0 where
  pub giving : IsGiving r t
  pub waits : (s : ℕ) → s < n → IsWaiting f t s
  pub clear : (s : ℕ) → s < n → IsClear t s
  pub others : (s : ℕ) → n ≤ s → t.next s ≡ r.next s

pub all_served : (f : Format) (n : ℕ) (r t : ReceiverView) → GivesAll f n r t → AreServed f n r t
all_served f zero r t is = subst (AreServed f 0 r) (sym is) (record {
  giving = giving_none r;
  waits = λ s below. absurd (omega (arith, below));
  clear = λ s below. absurd (omega (arith, below));
  others = λ s past. refl;
})
all_served f (suc n) r t (between, before, now) = add (all_served f n r between before) (served f n between t now) (giving_ordered f n between t now)
  where
    add : AreServed f n r between → IsServed f n between t → IsGiving between t → AreServed f (suc n) r t
    add a one g = record {
      giving = giving_both r between t a.giving g;
      waits = λ s below. elim (cases_eq s n) [
        | inl here ↦ subst (IsWaiting f t) (sym here) one.waits
        | inr other ↦ still_waiting f between t s g.fewer (one.others s other) (ap (λ (k : Lane → ℕ). k (ordered_lane s)) g.skip) (a.waits s (omega (arith, below, other)))
      ];
      clear = λ s below. elim (cases_eq s n) [
        | inl here ↦ subst (IsClear t) (sym here) one.clear
        | inr other ↦ still_clear between t s g.fewer (one.others s other) (a.clear s (omega (arith, below, other)))
      ];
      others = λ s past. one.others s (λ here. absurd (omega (arith, here, past))) ∙ a.others s (omega (arith, past));
    }
