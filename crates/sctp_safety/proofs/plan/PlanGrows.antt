-- A plan that gains the next entries of one message stays in order.
use Rattle.std.proofs.Common.{◌≡◌, ℕ, suc, ◌+◌, ◌-◌, ◌<◌, ◌≤◌, ◌⊎◌, List, ◌++◌, length, slice_get, Some, inl, inr, refl, sym, subst, ap, arith}
use Rattle.std.proofs.lemmas.Bool.{cases_eq}
use Rattle.sctp_model.specs.numbers.Lists.{Has}
use Rattle.sctp_model.specs.messages.Format.{Format, Plain, Lane}
use Rattle.sctp_model.specs.messages.Plan.{Message, Entry, Part, End, Plan, entry_at, message_at, IsOf, IsAssigned, IsComplete, HasEnd, IsClosed}
use Rattle.sctp_safety.proofs.lists.Basics.{lane_cases, item_at-left, item_at-within, item_at-cases}
use Rattle.sctp_safety.proofs.moves.Facts.{IsOrderedPlan}
use Rattle.sctp_safety.proofs.moves.Later.{Extends, IsAssigned-later, IsComplete-later, IsClosed-later}
use Rattle.sctp_safety.proofs.plan.PlanLemmas.{same_message, renamed, message_of}

abbrev pub grown : Plan → (Lane → List Message) → List Entry → Plan
grown p ms new = record { messages = ms; entries = p.entries ++ new }

-- The message that entries are gained for, old or new, is the latest of its stream, and all others of the stream are closed.
pub record IsLatest (p : Plan) (ms : Lane → List Message) (l : Lane) (n : ℕ) (m : Message) : Type 0 where
  pub named : slice_get (ms l) n ≡ Some m
  pub keeps : (k : Lane) (o : ℕ) (x : Message) → message_at p k o ≡ Some x → slice_get (ms k) o ≡ Some x
  pub gains : (k : Lane) (o : ℕ) (x : Message) → slice_get (ms k) o ≡ Some x → (message_at p k o ≡ Some x) ⊎ ((l ≡ k) × (n ≡ o) × (m ≡ x))
  pub last : (k : Lane) (o : ℕ) (x : Message) → message_at p k o ≡ Some x → k.stream ≡ l.stream → x.ticket ≤ m.ticket
  pub done : (k : Lane) (o : ℕ) (x : Message) → message_at p k o ≡ Some x → k.stream ≡ l.stream → x.ticket < m.ticket → IsClosed p k o
  pub filled : (k : Lane) (o : ℕ) (x : Message) → slice_get (ms k) o ≡ Some x →
      (0 < length x.fragments) × ((y : List ℕ) → Has x.fragments y → 0 < length y)
  pub rising : (k : Lane) (o c : ℕ) (x y : Message) → slice_get (ms k) o ≡ Some x → slice_get (ms k) c ≡ Some y → o < c → x.ticket < y.ticket
  pub different : (b k : Lane) (o c : ℕ) (x y : Message) → slice_get (ms b) o ≡ Some x → slice_get (ms k) c ≡ Some y →
      x.ticket ≡ y.ticket → (b ≡ k) × (o ≡ c)

-- The entries gained are the message's next ones.
pub record IsNext (f : Format) (p q : Plan) (l : Lane) (n : ℕ) (m : Message) (new : List Entry) : Type 0 where
  pub own : (j : ℕ) (e : Entry) → slice_get new j ≡ Some e → IsOf l n e
  pub begun : IsAssigned q l n 0
  pub within : (j k : ℕ) → slice_get new j ≡ Some (Part l n k) → k < length m.fragments
  pub follows : (j k : ℕ) → slice_get new j ≡ Some (Part l n (suc k)) →
      (i : ℕ) × (i < suc (length p.entries) + j) × (entry_at q i ≡ Some (Part l n k))
  pub once : (i j k : ℕ) → slice_get new i ≡ Some (Part l n k) → slice_get new j ≡ Some (Part l n k) → i ≡ j
  pub fresh : (j k : ℕ) → slice_get new j ≡ Some (Part l n k) → IsAssigned p l n k → ⊥
  pub ended : HasEnd q l n → IsComplete q l n m → ⊥
  pub consecutive : f ≡ Plain → (j k : ℕ) → slice_get new j ≡ Some (Part l n (suc k)) →
      entry_at q (suc (length p.entries) + j - 1) ≡ Some (Part l n k)
  pub complete : f ≡ Plain → IsComplete q l n m

-- Such entries keep the plan in order.
pub arranged_more : (f : Format) (p : Plan) (ms : Lane → List Message) (new : List Entry) (l : Lane) (n : ℕ) (m : Message) →
    IsOrderedPlan f p → IsLatest p ms l n m → IsNext f p (grown p ms new) l n m new → IsOrderedPlan f (grown p ms new)
arranged_more f p ms new l n m a t g = record {
  begun = λ k o x h. begun k o x (t.gains k o x h);
  filled = t.filled;
  within = λ i k o c h. within i k o c (split i (Part k o c) h);
  marked = λ i k o h. marked i k o (split i (End k o) h);
  follows = λ j k o c h. follows j k o c (split j (Part k o (suc c)) h);
  once = λ i j k o c h e. once i j k o c (split i (Part k o c) h) (split j (Part k o c) e);
  ended = λ i k o x h c. ended i k o x h c (lane_cases l k) (cases_eq n o);
  consecutive = λ e j k o c h. consecutive e j k o c (split j (Part k o (suc c)) h);
  complete = λ e k o x h. complete e k o x (t.gains k o x h);
  order = λ i j d e b k o c y x hd od hy he oe hx s lt. order i j d e b k o c y x od hy oe hx s lt (split i d hd) (split j e he);
  closed = λ b k o c y x hy hx s lt. closed b k o c y x s lt (t.gains b o y hy) (t.gains k c x hx);
  rising = t.rising;
  different = t.different;
}
  where
    q : Plan
    q = grown p ms new

    more : Extends p q
    more = record { entries = λ i e h. item_at-left p.entries new i e h; messages = t.keeps }

    New : ℕ → Entry → Type 0
    New i e = (j : ℕ) × (i ≡ suc (length p.entries) + j) × (slice_get new j ≡ Some e)

    split : (i : ℕ) (e : Entry) → entry_at q i ≡ Some e → (entry_at p i ≡ Some e) ⊎ New i e
    split i e h = item_at-cases p.entries new i e h

    begun : (k : Lane) (o : ℕ) (x : Message) → (message_at p k o ≡ Some x) ⊎ ((l ≡ k) × (n ≡ o) × (m ≡ x)) → IsAssigned q k o 0
    begun k o x (inl h) = IsAssigned-later p q more k o 0 (a.begun k o x h)
    begun k o x (inr (el, en, em)) = renamed (λ (b : Lane) (c : ℕ). IsAssigned q b c 0) l k n o el en g.begun

    within : (i : ℕ) (k : Lane) (o c : ℕ) → (entry_at p i ≡ Some (Part k o c)) ⊎ New i (Part k o c) →
        (x : Message) × (message_at q k o ≡ Some x) × (c < length x.fragments)
    within i k o c (inl h) = let r = a.within i k o c h in (r.0, t.keeps k o r.0 r.1, r.2)
    within i k o c (inr (j, e, h)) =
        let y = g.own j (Part k o c) h in (
          m,
          renamed (λ (b : Lane) (d : ℕ). message_at q b d ≡ Some m) l k n o (sym y.0) (sym y.1) t.named,
          g.within j c (renamed (λ (b : Lane) (d : ℕ). slice_get new j ≡ Some (Part b d c)) k l o n y.0 y.1 h),
        )

    marked : (i : ℕ) (k : Lane) (o : ℕ) → (entry_at p i ≡ Some (End k o)) ⊎ New i (End k o) → (x : Message) × (message_at q k o ≡ Some x)
    marked i k o (inl h) = let r = a.marked i k o h in (r.0, t.keeps k o r.0 r.1)
    marked i k o (inr (j, e, h)) =
        let y = g.own j (End k o) h in
        (m, renamed (λ (b : Lane) (d : ℕ). message_at q b d ≡ Some m) l k n o (sym y.0) (sym y.1) t.named)

    follows : (j : ℕ) (k : Lane) (o c : ℕ) → (entry_at p j ≡ Some (Part k o (suc c))) ⊎ New j (Part k o (suc c)) →
        (i : ℕ) × (i < j) × (entry_at q i ≡ Some (Part k o c))
    follows j k o c (inl h) = let r = a.follows j k o c h in (r.0, r.1, more.entries r.0 (Part k o c) r.2)
    follows j k o c (inr (u, e, h)) =
        let y = g.own u (Part k o (suc c)) h in
        let r = g.follows u c (renamed (λ (b : Lane) (d : ℕ). slice_get new u ≡ Some (Part b d (suc c))) k l o n y.0 y.1 h) in
        let b : r.0 < suc (length p.entries) + u = r.1 in
        (r.0, omega arith, renamed (λ (b : Lane) (d : ℕ). entry_at q r.0 ≡ Some (Part b d c)) l k n o (sym y.0) (sym y.1) r.2)

    fresh : (i j : ℕ) (k : Lane) (o c : ℕ) → entry_at p i ≡ Some (Part k o c) → New j (Part k o c) → ⊥
    fresh i j k o c old (u, e, h) =
        let y = g.own u (Part k o c) h in
        g.fresh u c (renamed (λ (b : Lane) (d : ℕ). slice_get new u ≡ Some (Part b d c)) k l o n y.0 y.1 h)
        (renamed (λ (b : Lane) (d : ℕ). IsAssigned p b d c) k l o n y.0 y.1 (i, old))

    once : (i j : ℕ) (k : Lane) (o c : ℕ) → (entry_at p i ≡ Some (Part k o c)) ⊎ New i (Part k o c) →
        (entry_at p j ≡ Some (Part k o c)) ⊎ New j (Part k o c) → i ≡ j
    once i j k o c (inl h) (inl e) = a.once i j k o c h e
    once i j k o c (inl h) (inr e) = absurd (fresh i j k o c h e)
    once i j k o c (inr h) (inl e) = absurd (fresh j i k o c e h)
    once i j k o c (inr (u, eu, hu)) (inr (z, ez, hz)) =
        let y = g.own u (Part k o c) hu in
        let s : u ≡ z = g.once u z c (renamed (λ (b : Lane) (d : ℕ). slice_get new u ≡ Some (Part b d c)) k l o n y.0 y.1 hu)
        (renamed (λ (b : Lane) (d : ℕ). slice_get new z ≡ Some (Part b d c)) k l o n y.0 y.1 hz) in
        omega arith

    -- what another message has, it had
    other : (i : ℕ) (e : Entry) (k : Lane) (o : ℕ) → ((l ≡ k) × (n ≡ o) → ⊥) → IsOf k o e → (entry_at p i ≡ Some e) ⊎ New i e → entry_at p i ≡ Some e
    other i e k o ne of (inl h) = h
    other i e k o ne of (inr (j, s, h)) = absurd (ne (same_message l k n o e (g.own j e h) of))

    ended_other : (i : ℕ) (k : Lane) (o : ℕ) (x : Message) → ((l ≡ k) × (n ≡ o) → ⊥) → entry_at q i ≡ Some (End k o) → IsComplete q k o x → ⊥
    ended_other i k o x ne h whole = a.ended i k o x (other i (End k o) k o ne (refl, refl) (split i (End k o) h))
        (named (t.gains k o x whole.0), λ c b. had c (whole.1 c b))
      where
        named : (message_at p k o ≡ Some x) ⊎ ((l ≡ k) × (n ≡ o) × (m ≡ x)) → message_at p k o ≡ Some x
        named (inl y) = y
        named (inr y) = absurd (ne (y.0, y.1))

        had : (c : ℕ) → IsAssigned q k o c → IsAssigned p k o c
        had c (j, y) = (j, other j (Part k o c) k o ne (refl, refl) (split j (Part k o c) y))

    ended : (i : ℕ) (k : Lane) (o : ℕ) (x : Message) → entry_at q i ≡ Some (End k o) → IsComplete q k o x →
        (l ≡ k) ⊎ (l ≡ k → ⊥) → (n ≡ o) ⊎ (n ≡ o → ⊥) → ⊥
    ended i k o x h whole (inr ne) e = ended_other i k o x (λ y. ne y.0) h whole
    ended i k o x h whole (inl el) (inr ne) = ended_other i k o x (λ y. ne y.1) h whole
    ended i k o x h whole (inl el) (inl en) =
        let c : IsComplete q l n x = renamed (λ (b : Lane) (d : ℕ). IsComplete q b d x) k l o n (sym el) (sym en) whole in
        let hm : slice_get (ms l) n ≡ Some m = t.named in
        let hx : slice_get (ms l) n ≡ Some x = c.0 in
        let s : x ≡ m = cc in
        g.ended (i, renamed (λ (b : Lane) (d : ℕ). entry_at q i ≡ Some (End b d)) k l o n (sym el) (sym en) h)
        (subst (λ (y : Message). IsComplete q l n y) s c)

    consecutive : f ≡ Plain → (j : ℕ) (k : Lane) (o c : ℕ) → (entry_at p j ≡ Some (Part k o (suc c))) ⊎ New j (Part k o (suc c)) →
        entry_at q (j - 1) ≡ Some (Part k o c)
    consecutive e j k o c (inl h) = more.entries (j - 1) (Part k o c) (a.consecutive e j k o c h)
    consecutive e j k o c (inr (u, s, h)) =
        let y = g.own u (Part k o (suc c)) h in
        let r = g.consecutive e u c (renamed (λ (b : Lane) (d : ℕ). slice_get new u ≡ Some (Part b d (suc c))) k l o n y.0 y.1 h) in
        subst (λ (i : ℕ). entry_at q (i - 1) ≡ Some (Part k o c)) (sym s)
        (renamed (λ (b : Lane) (d : ℕ). entry_at q (suc (length p.entries) + u - 1) ≡ Some (Part b d c)) l k n o (sym y.0) (sym y.1) r)

    complete : f ≡ Plain → (k : Lane) (o : ℕ) (x : Message) → (message_at p k o ≡ Some x) ⊎ ((l ≡ k) × (n ≡ o) × (m ≡ x)) → IsComplete q k o x
    complete e k o x (inl h) = IsComplete-later p q more k o x (a.complete e k o x h)
    complete e k o x (inr (el, en, em)) =
        renamed (λ (b : Lane) (d : ℕ). IsComplete q b d x) l k n o el en (subst (λ (y : Message). IsComplete q l n y) em (g.complete e))

    old : (i : ℕ) (d : Entry) (k : Lane) (o : ℕ) (x : Message) → entry_at p i ≡ Some d → IsOf k o d → slice_get (ms k) o ≡ Some x → message_at p k o ≡ Some x
    old i d k o x h of hx =
        let r = message_of f p a i d k o h of in
        let z : slice_get (ms k) o ≡ Some r.0 = t.keeps k o r.0 r.1 in
        let s : r.0 ≡ x = cc in
        subst (λ (y : Message). message_at p k o ≡ Some y) s r.1

    mine : (i : ℕ) (d : Entry) (k : Lane) (o : ℕ) (x : Message) → New i d → IsOf k o d → slice_get (ms k) o ≡ Some x → (l ≡ k) × (m ≡ x)
    mine i d k o x (j, s, h) of hx =
        let y = same_message l k n o d (g.own j d h) of in
        let z : slice_get (ms k) o ≡ Some m = renamed (λ (b : Lane) (c : ℕ). slice_get (ms b) c ≡ Some m) l k n o y.0 y.1 t.named in
        (y.0, cc)

    order : (i j : ℕ) (d e : Entry) (b k : Lane) (o c : ℕ) (y x : Message) → IsOf b o d → slice_get (ms b) o ≡ Some y →
        IsOf k c e → slice_get (ms k) c ≡ Some x → b.stream ≡ k.stream → y.ticket < x.ticket →
        (entry_at p i ≡ Some d) ⊎ New i d → (entry_at p j ≡ Some e) ⊎ New j e → i < j
    order i j d e b k o c y x od hy oe hx s lt (inl hd) (inl he) =
        a.order i j d e b k o c y x hd od (old i d b o y hd od hy) he oe (old j e k c x he oe hx) s lt
    order i j d e b k o c y x od hy oe hx s lt (inl hd) (inr (u, z, h)) = let r : i ≤ length p.entries = item_at-within p.entries i d hd in omega arith
    order i j d e b k o c y x od hy oe hx s lt (inr hd) (inl he) =
        let r = mine i d b o y hd od hy in
        let sl : l.stream ≡ b.stream = ap (λ (v : Lane). v.stream) r.0 in
        let st : m.ticket ≡ y.ticket = ap (λ (v : Message). v.ticket) r.1 in
        let z : x.ticket ≤ m.ticket = t.last k c x (old j e k c x he oe hx) (cc) in
        absurd (omega arith)
    order i j d e b k o c y x od hy oe hx s lt (inr hd) (inr he) =
        let r = mine i d b o y hd od hy in
        let z = mine j e k c x he oe hx in
        let sy : m.ticket ≡ y.ticket = ap (λ (v : Message). v.ticket) r.1 in
        let sx : m.ticket ≡ x.ticket = ap (λ (v : Message). v.ticket) z.1 in
        absurd (omega arith)

    closed : (b k : Lane) (o c : ℕ) (y x : Message) → b.stream ≡ k.stream → y.ticket < x.ticket →
        (message_at p b o ≡ Some y) ⊎ ((l ≡ b) × (n ≡ o) × (m ≡ y)) →
        (message_at p k c ≡ Some x) ⊎ ((l ≡ k) × (n ≡ c) × (m ≡ x)) → IsClosed q b o
    closed b k o c y x s lt (inl hy) (inl hx) = IsClosed-later p q more b o (a.closed b k o c y x hy hx s lt)
    closed b k o c y x s lt (inl hy) (inr (el, en, em)) =
        let sl : l.stream ≡ k.stream = ap (λ (v : Lane). v.stream) el in
        let st : m.ticket ≡ x.ticket = ap (λ (v : Message). v.ticket) em in
        IsClosed-later p q more b o (t.done b o y hy (cc) (omega arith))
    closed b k o c y x s lt (inr (el, en, em)) (inl hx) =
        let sl : l.stream ≡ b.stream = ap (λ (v : Lane). v.stream) el in
        let st : m.ticket ≡ y.ticket = ap (λ (v : Message). v.ticket) em in
        let z : x.ticket ≤ m.ticket = t.last k c x hx (cc) in
        absurd (omega arith)
    closed b k o c y x s lt (inr (el, en, em)) (inr (dl, dn, dm)) =
        let sy : m.ticket ≡ y.ticket = ap (λ (v : Message). v.ticket) em in
        let sx : m.ticket ≡ x.ticket = ap (λ (v : Message). v.ticket) dm in
        absurd (omega arith)
