-- A plan that is in order by tickets is orderly.
use Rattle.std.proofs.Common.{◌≡◌, ℕ, zero, suc, ◌<◌, ◌≤◌, ◌⊎◌, List, [], ◌∷◌, length, slice_get, slice_index_or, Option, None, Some, inl, inr, refl, sym, ap, arith}
use Rattle.std.proofs.lemmas.Bool.{cases_lt}
use Rattle.sctp_model.specs.numbers.Lists.{Has}
use Rattle.sctp_model.specs.messages.Format.{Format, Lane}
use Rattle.sctp_model.specs.messages.Plan.{Message, Part, Plan, entry_at, message_at, IsClosed}
use Rattle.sctp_model.specs.messages.Orderly.{IsNumbered, IsBefore, IsByNumber, Orderly}
use Rattle.sctp_safety.proofs.moves.Facts.{IsOrderedPlan}
use Rattle.sctp_safety.proofs.plan.PlanLemmas.{message_of}

Has-index : {A : Type 0} (xs : List A) (k : ℕ) (d : A) → k < length xs → Has xs (slice_index_or xs k d)
Has-index [] k d b = absurd (omega arith)
Has-index (x ∷ xs) zero d b = inl refl
Has-index (x ∷ xs) (suc k) d b = inr (Has-index xs k d (omega arith))

-- something is at a place of a list, or nothing
get_cases : {A : Type 0} (xs : List A) (n : ℕ) → ((x : A) × (slice_get xs n ≡ Some x)) ⊎ ((x : A) → slice_get xs n ≡ Some x → ⊥)
get_cases xs n = go (slice_get xs n)
  where
    go : {A : Type 0} (o : Option A) → ((x : A) × (o ≡ Some x)) ⊎ ((x : A) → o ≡ Some x → ⊥)
    go None = inr (λ x h. absurd (cc))
    go (Some x) = inl (x, refl)

three_cases : (m n : ℕ) → (m < n) ⊎ ((n < m) ⊎ (m ≡ n))
three_cases m n = go (cases_lt m n) (cases_lt n m)
  where
    go : (m < n) ⊎ (n ≤ m) → (n < m) ⊎ (m ≤ n) → (m < n) ⊎ ((n < m) ⊎ (m ≡ n))
    go (inl h) e = inl h
    go (inr h) (inl e) = inr (inl e)
    go (inr h) (inr e) = inr (inr (omega arith))

module _ (f : Format) (p : Plan) (a : IsOrderedPlan f p) where
  -- of two messages of a stream, the one with the lower ticket is before the other
  before : (l k : Lane) (n o : ℕ) (m x : Message) → message_at p l n ≡ Some m → message_at p k o ≡ Some x → l.stream ≡ k.stream →
      m.ticket < x.ticket → IsBefore p l n k o
  before l k n o m x hm hx s lt i j d e hd od he oe = a.order i j d e l k n o m x hd od hm he oe hx s lt

  numbered : IsNumbered p
  numbered = record {
    begun = a.begun;
    within = a.within;
    follows = a.follows;
    once = a.once;
    filled = λ l n k m h b. (a.filled l n m h).1 (slice_index_or m.fragments k []) (Has-index m.fragments k [] b);
  }

  counted : IsByNumber p
  counted l n o lt i j d e hd od he oe =
      let r = message_of f p a i d l n hd od in
      let z = message_of f p a j e l o he oe in
      a.order i j d e l l n o r.0 z.0 hd od r.1 he oe z.1 refl (a.rising l n o r.0 z.0 r.1 z.1 lt)

  apart : (l k : Lane) (n o : ℕ) → l.stream ≡ k.stream → (l.kind ≡ k.kind → ⊥) →
      ((m : Message) × (message_at p l n ≡ Some m)) ⊎ ((m : Message) → message_at p l n ≡ Some m → ⊥) →
      ((x : Message) × (message_at p k o ≡ Some x)) ⊎ ((x : Message) → message_at p k o ≡ Some x → ⊥) →
      IsBefore p l n k o ⊎ IsBefore p k o l n
  apart l k n o s ne (inr none) e = inl (λ i j d y hd od hy oy. let r = message_of f p a i d l n hd od in absurd (none r.0 r.1))
  apart l k n o s ne (inl h) (inr none) = inl (λ i j d y hd od hy oy. let r = message_of f p a j y k o hy oy in absurd (none r.0 r.1))
  apart l k n o s ne (inl (m, hm)) (inl (x, hx)) = by_ticket (three_cases m.ticket x.ticket)
    where
      by_ticket : (m.ticket < x.ticket) ⊎ ((x.ticket < m.ticket) ⊎ (m.ticket ≡ x.ticket)) → IsBefore p l n k o ⊎ IsBefore p k o l n
      by_ticket (inl lt) = inl (before l k n o m x hm hx s lt)
      by_ticket (inr (inl lt)) = inr (before k l o n x m hx hm (sym s) lt)
      by_ticket (inr (inr t)) = absurd (ne (ap (λ (v : Lane). v.kind) (a.different l k n o m x hm hx t).0))

  closed : (i j : ℕ) (l k : Lane) (n o : ℕ) → l.stream ≡ k.stream → entry_at p i ≡ Some (Part l n 0) → entry_at p j ≡ Some (Part k o 0) →
      i < j → IsClosed p l n
  closed i j l k n o s hi hj lt = by_ticket (three_cases r.0.ticket z.0.ticket)
    where
      r : (m : Message) × (message_at p l n ≡ Some m)
      r = message_of f p a i (Part l n 0) l n hi (refl, refl)

      z : (x : Message) × (message_at p k o ≡ Some x)
      z = message_of f p a j (Part k o 0) k o hj (refl, refl)

      by_ticket : (r.0.ticket < z.0.ticket) ⊎ ((z.0.ticket < r.0.ticket) ⊎ (r.0.ticket ≡ z.0.ticket)) → IsClosed p l n
      by_ticket (inl t) = a.closed l k n o r.0 z.0 r.1 z.1 s t
      by_ticket (inr (inl t)) =
          let b : j < i = a.order j i (Part k o 0) (Part l n 0) k l o n z.0 r.0 hj (refl, refl) z.1 hi (refl, refl) r.1 (sym s) t in
          absurd (omega arith)
      by_ticket (inr (inr t)) =
          let q = a.different l k n o r.0 z.0 r.1 z.1 t in
          let el : l ≡ k = q.0 in
          let en : n ≡ o = q.1 in
          let e : entry_at p i ≡ Some (Part k o 0) = cc in
          let b : i ≡ j = a.once i j k o 0 e hj in
          absurd (omega arith)

-- The five conditions follow.
pub orderly_when_arranged : (f : Format) (p : Plan) → IsOrderedPlan f p → Orderly f p
orderly_when_arranged f p a = record {
  numbered = numbered f p a;
  ended = record { apart = λ l n m c i h. a.ended i l n m h c; message = a.marked };
  counted = counted f p a;
  in_turn = record {
    apart = λ l k n o s ne. apart f p a l k n o s ne (get_cases (p.messages l) n) (get_cases (p.messages k) o);
    closed = closed f p a;
  };
  together = λ e. record { consecutive = a.consecutive e; complete = a.complete e };
}
