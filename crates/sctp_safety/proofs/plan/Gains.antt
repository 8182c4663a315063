-- The two ways in which a plan gains entries: a run of fragments, and an end mark.
use Rattle.std.proofs.Common.{◌≡◌, ℕ, zero, suc, ◌+◌, ◌-◌, ◌<◌, ◌≤◌, ◌⊎◌, List, [], ◌∷◌, ◌++◌, length, slice_get, Some, inl, inr, refl, sym, subst, ap, arith}
use Rattle.std.proofs.lemmas.Bool.{cases_lt}
use Rattle.sctp_model.specs.numbers.Lists.{Has}
use Rattle.sctp_model.specs.messages.Format.{Format, Plain, Lane, at_lane}
use Rattle.sctp_model.specs.messages.Plan.{Message, Entry, Part, End, Plan, entry_at, message_at, IsOf, IsAssigned, IsComplete, HasEnd, IsClosed, parts_from}
use Rattle.sctp_safety.specs.Way.{IsAllClosed}
use Rattle.sctp_safety.proofs.lists.Basics.{at_lane_cases, at_lane_same, slice_get-left, slice_get-end, slice_get-push, slice_get-within, item_at-left, item_at-within, item_at-cases, item_at-right}
use Rattle.sctp_safety.proofs.moves.Facts.{IsOrderedPlan}
use Rattle.sctp_safety.proofs.plan.PlanLemmas.{parts_get, parts_at, assigned_below}
use Rattle.sctp_safety.proofs.plan.PlanGrows.{grown, IsLatest, arranged_more}

-- a message that is not closed is the latest of its stream
pub latest_open : (f : Format) (p : Plan) → IsOrderedPlan f p → (l : Lane) (n : ℕ) (m : Message) → message_at p l n ≡ Some m →
    (IsClosed p l n → ⊥) → IsLatest p p.messages l n m
latest_open f p a l n m h unclosed = record {
  named = h;
  keeps = λ k o x e. e;
  gains = λ k o x e. inl e;
  last = λ k o x e s. last k o x e s (cases_lt m.ticket x.ticket);
  done = λ k o x e s lt. a.closed k l o n x m e h s lt;
  filled = a.filled;
  rising = a.rising;
  different = a.different;
}
  where
    last : (k : Lane) (o : ℕ) (x : Message) → message_at p k o ≡ Some x → k.stream ≡ l.stream →
        (m.ticket < x.ticket) ⊎ (x.ticket ≤ m.ticket) → x.ticket ≤ m.ticket
    last k o x e s (inl lt) = absurd (unclosed (a.closed l k n o m x h e (sym s) lt))
    last k o x e s (inr le) = le

-- so is a new one with a later ticket
pub latest_new : (f : Format) (p : Plan) → IsOrderedPlan f p → (l : Lane) (m : Message) →
    ((k : Lane) (o : ℕ) (x : Message) → message_at p k o ≡ Some x → k.stream ≡ l.stream → x.ticket < m.ticket) →
    ((k : Lane) (o : ℕ) (x : Message) → message_at p k o ≡ Some x → x.ticket ≡ m.ticket → ⊥) →
    IsAllClosed p l.stream → (0 < length m.fragments) × ((y : List ℕ) → Has m.fragments y → 0 < length y) →
    IsLatest p (at_lane p.messages l (p.messages l ++ m ∷ [])) l (length (p.messages l)) m
latest_new f p a l m later other done full = record {
  named = subst (λ (xs : List Message). slice_get xs n ≡ Some m) (sym (at_lane_same p.messages l more)) (slice_get-end (p.messages l) m);
  keeps = keeps;
  gains = gains;
  last = λ k o x h s. let r : x.ticket < m.ticket = later k o x h s in omega arith;
  done = λ k o x h s lt. done k o x s h;
  filled = λ k o x h. filled k o x (gains k o x h);
  rising = λ k o c x y hx hy lt. rising k o c x y lt (gains k o x hx) (gains k c y hy);
  different = λ b k o c x y hx hy t. different b k o c x y t (gains b o x hx) (gains k c y hy);
}
  where
    n : ℕ
    n = length (p.messages l)

    more : List Message
    more = p.messages l ++ m ∷ []

    keeps : (k : Lane) (o : ℕ) (x : Message) → message_at p k o ≡ Some x → slice_get (at_lane p.messages l more k) o ≡ Some x
    keeps k o x h = at_lane_cases (λ (xs : List Message). slice_get xs o ≡ Some x) p.messages l more k
        (λ e. slice_get-left (p.messages l) (m ∷ []) o x (subst (λ (b : Lane). slice_get (p.messages b) o ≡ Some x) e h)) (λ ne. h)

    Gained : Lane → ℕ → Message → Type 0
    Gained k o x = (message_at p k o ≡ Some x) ⊎ ((l ≡ k) × (n ≡ o) × (m ≡ x))

    gains : (k : Lane) (o : ℕ) (x : Message) → slice_get (at_lane p.messages l more k) o ≡ Some x → Gained k o x
    gains k o x = at_lane_cases (λ (xs : List Message). slice_get xs o ≡ Some x → Gained k o x) p.messages l more k
        (λ e h. new e (slice_get-push (p.messages l) m o x h)) (λ ne h. inl h)
      where
        new : k ≡ l → (slice_get (p.messages l) o ≡ Some x) ⊎ ((o ≡ length (p.messages l)) × (m ≡ x)) → Gained k o x
        new e (inl h) = inl (subst (λ (b : Lane). slice_get (p.messages b) o ≡ Some x) (sym e) h)
        new e (inr (s, h)) = inr (sym e, sym s, h)

    filled : (k : Lane) (o : ℕ) (x : Message) → Gained k o x → (0 < length x.fragments) × ((y : List ℕ) → Has x.fragments y → 0 < length y)
    filled k o x (inl h) = a.filled k o x h
    filled k o x (inr (el, en, em)) = subst (λ (z : Message). (0 < length z.fragments) × ((y : List ℕ) → Has z.fragments y → 0 < length y)) em full

    ticket_is : (x : Message) → m ≡ x → m.ticket ≡ x.ticket
    ticket_is x e = ap (λ (z : Message). z.ticket) e

    rising : (k : Lane) (o c : ℕ) (x y : Message) → o < c → Gained k o x → Gained k c y → x.ticket < y.ticket
    rising k o c x y lt (inl hx) (inl hy) = a.rising k o c x y hx hy lt
    rising k o c x y lt (inl hx) (inr (el, en, em)) =
        let t = ticket_is y em in
        let r : x.ticket < m.ticket = later k o x hx (ap (λ (b : Lane). b.stream) (sym el)) in
        omega arith
    rising k o c x y lt (inr (el, en, em)) (inl hy) =
        let b : c < length (p.messages k) = slice_get-within (p.messages k) c y hy in
        let z : length (p.messages l) ≡ length (p.messages k) = ap (λ (b : Lane). length (p.messages b)) el in
        absurd (omega arith)
    rising k o c x y lt (inr (el, en, em)) (inr (dl, dn, dm)) = absurd (omega arith)

    different : (b k : Lane) (o c : ℕ) (x y : Message) → x.ticket ≡ y.ticket → Gained b o x → Gained k c y → (b ≡ k) × (o ≡ c)
    different b k o c x y t (inl hx) (inl hy) = a.different b k o c x y hx hy t
    different b k o c x y t (inl hx) (inr (el, en, em)) = let s = ticket_is y em in absurd (other b o x hx (cc))
    different b k o c x y t (inr (el, en, em)) (inl hy) = let s = ticket_is x em in absurd (other k c y hy (cc))
    different b k o c x y t (inr (el, en, em)) (inr (dl, dn, dm)) = (cc, cc)

-- a number is none, or follows another
zero_or_more : (k : ℕ) → (k ≡ 0) ⊎ ((c : ℕ) × (k ≡ suc c))
zero_or_more zero = inl refl
zero_or_more (suc c) = inr (c, refl)

-- The next fragments of the latest message of a stream.
module _ (f : Format) (p : Plan) (ms : Lane → List Message) (l : Lane) (n k d : ℕ) (m : Message)
    (a : IsOrderedPlan f p) (t : IsLatest p ms l n m) (some : 0 < d) (bound : k + d ≤ length m.fragments)
    (free : IsAssigned p l n k → ⊥) (before : (c : ℕ) → k ≡ suc c → IsAssigned p l n c) (no_end : HasEnd p l n → ⊥)
    (all : f ≡ Plain → (k ≡ 0) × (d ≡ length m.fragments)) where
  abbrev run : List Entry
  run = parts_from l n k d

  abbrev after : Plan
  after = grown p ms run

  was : (c : ℕ) → IsAssigned p l n c → IsAssigned after l n c
  was c (i, h) = (i, item_at-left p.entries run i (Part l n c) h)

  place : (j c : ℕ) → slice_get run j ≡ Some (Part l n c) → (j < d) × (k + j ≡ c)
  place j c h =
      let r = parts_get l n k d j (Part l n c) h in
      let e : Part l n (k + j) ≡ Part l n c = r.1 in
      (r.0, cc)

  here : (j c : ℕ) → j < d → k + j ≡ c → entry_at after (suc (length p.entries) + j) ≡ Some (Part l n c)
  here j c b e = item_at-right p.entries run j (Part l n c) (subst (λ (z : ℕ). slice_get run j ≡ Some (Part l n z)) e (parts_at l n k d j b))

  begun : (k ≡ 0) ⊎ ((c : ℕ) × (k ≡ suc c)) → IsAssigned after l n 0
  begun (inl e) = (suc (length p.entries) + 0, here 0 0 some (omega arith))
  begun (inr (c, e)) =
      let z : c ≡ 0 + c = omega arith in
      was 0 (assigned_below f p a l n 0 c (subst (λ (y : ℕ). IsAssigned p l n y) z (before c e)))

  follows : (j c : ℕ) → slice_get run j ≡ Some (Part l n (suc c)) → (j ≡ 0) ⊎ ((u : ℕ) × (j ≡ suc u)) →
      (i : ℕ) × (i < suc (length p.entries) + j) × (entry_at after i ≡ Some (Part l n c))
  follows j c h (inl e) =
      let r = place j (suc c) h in
      let s : k + j ≡ suc c = r.1 in
      let y = before c (omega arith) in
      let b : y.0 ≤ length p.entries = item_at-within p.entries y.0 (Part l n c) y.1 in
      (y.0, omega arith, item_at-left p.entries run y.0 (Part l n c) y.1)
  follows j c h (inr (u, e)) =
      let r = place j (suc c) h in
      let b : j < d = r.0 in
      let s : k + j ≡ suc c = r.1 in
      (suc (length p.entries) + u, omega arith, here u c (omega arith) (omega arith))

  fresh : (j c : ℕ) → slice_get run j ≡ Some (Part l n c) → IsAssigned p l n c → ⊥
  fresh j c h y =
      let r = place j c h in
      free (assigned_below f p a l n k j (subst (λ (z : ℕ). IsAssigned p l n z) (sym r.1) y))

  ended : (i : ℕ) → (entry_at p i ≡ Some (End l n)) ⊎ ((j : ℕ) × (i ≡ suc (length p.entries) + j) × (slice_get run j ≡ Some (End l n))) → ⊥
  ended i (inl h) = no_end (i, h)
  ended i (inr (j, e, h)) = let r : Part l n (k + j) ≡ End l n = (parts_get l n k d j (End l n) h).1 in absurd (cc)

  consecutive : k ≡ 0 → (j c : ℕ) → slice_get run j ≡ Some (Part l n (suc c)) → entry_at after (suc (length p.entries) + j - 1) ≡ Some (Part l n c)
  consecutive e j c h =
      let r = place j (suc c) h in
      let b : j < d = r.0 in
      let s : k + j ≡ suc c = r.1 in
      let z : suc (length p.entries) + c ≡ suc (length p.entries) + j - 1 = omega arith in
      subst (λ (i : ℕ). entry_at after i ≡ Some (Part l n c)) z (here c c (omega arith) (omega arith))

  complete : k ≡ 0 → d ≡ length m.fragments → IsComplete after l n m
  complete e s = (t.named, λ c b. (suc (length p.entries) + c, here c c (omega arith) (omega arith)))

  pub run_keeps : IsOrderedPlan f after
  run_keeps = arranged_more f p ms run l n m a t (record {
    own = λ j e h. subst (λ (y : Entry). IsOf l n y) (parts_get l n k d j e h).1 (refl, refl);
    begun = begun (zero_or_more k);
    within = λ j c h. let r = place j c h in let b : j < d = r.0 in let s : k + j ≡ c = r.1 in omega arith;
    follows = λ j c h. follows j c h (zero_or_more j);
    once = λ i j c h e. let s : k + i ≡ c = (place i c h).1 in let z : k + j ≡ c = (place j c e).1 in omega arith;
    fresh = fresh;
    ended = λ h c. ended h.0 (item_at-cases p.entries run h.0 (End l n) h.1);
    consecutive = λ e. consecutive (all e).0;
    complete = λ e. complete (all e).0 (all e).1;
  })

-- The end mark of a message that is not closed.
module _ (f : Format) (p : Plan) (l : Lane) (n : ℕ) (m : Message) (a : IsOrderedPlan f p) (h : message_at p l n ≡ Some m)
    (unclosed : IsClosed p l n → ⊥) where
  abbrev mark : List Entry
  mark = End l n ∷ []

  abbrev with_mark : Plan
  with_mark = grown p p.messages mark

  only : (j : ℕ) (e : Entry) → slice_get mark j ≡ Some e → End l n ≡ e
  only zero e s = cc
  only (suc j) e s = absurd (cc)

  no_part : (j k : ℕ) → slice_get mark j ≡ Some (Part l n k) → ⊥
  no_part j k s = let e = only j (Part l n k) s in absurd (cc)

  had : (i k : ℕ) → (entry_at p i ≡ Some (Part l n k)) ⊎ ((j : ℕ) × (i ≡ suc (length p.entries) + j) × (slice_get mark j ≡ Some (Part l n k))) →
      IsAssigned p l n k
  had i k (inl s) = (i, s)
  had i k (inr (j, e, s)) = absurd (no_part j k s)

  pub mark_keeps : IsOrderedPlan f with_mark
  mark_keeps = arranged_more f p p.messages mark l n m a (latest_open f p a l n m h unclosed) (record {
    own = λ j e s. subst (λ (y : Entry). IsOf l n y) (only j e s) (refl, refl);
    begun = let r = a.begun l n m h in (r.0, item_at-left p.entries mark r.0 (Part l n 0) r.1);
    within = λ j k s. absurd (no_part j k s);
    follows = λ j k s. absurd (no_part j (suc k) s);
    once = λ i j k s e. absurd (no_part i k s);
    fresh = λ j k s e. no_part j k s;
    ended = λ s c. unclosed (inr (m, (h, λ k b. let y = c.1 k b in had y.0 k (item_at-cases p.entries mark y.0 (Part l n k) y.1))));
    consecutive = λ e j k s. absurd (no_part j (suc k) s);
    complete = λ e. absurd (unclosed (inr (m, a.complete e l n m h)));
  })
