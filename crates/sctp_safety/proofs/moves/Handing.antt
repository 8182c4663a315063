-- Chunks go, and messages are delivered or passed over.
use Rattle.std.proofs.Common.{◌≡◌, ℕ, ◌<◌, ◌≤◌, ◌⊎◌, true, List, [], ◌∷◌, ◌++◌, Some, inl, inr, refl, sym, subst, ap, le_refl, append_assoc}
use Rattle.sctp_model.specs.numbers.Lists.{Has, IsWithin, at}
use Rattle.sctp_model.specs.messages.Format.{Format, Ordered, Lane, ordered_lane}
use Rattle.sctp_model.specs.messages.Plan.{Part, entry_at}
use Rattle.sctp_model.specs.messages.Pieces.{Piece, IsNumberBelow}
use Rattle.sctp_model.specs.sender.SenderView.{SenderView}
use Rattle.sctp_model.specs.receiver.ReceiverView.{Handed, ReceiverView, handed}
use Rattle.sctp_model.specs.receiver.Receiving.{message_of}
use Rattle.sctp_model.specs.world.Safe.{IsRising, AreDifferent, WasHanded, IsNumberLess}
use Rattle.sctp_safety.proofs.moves.Facts.{IsOver, IsAllSeen, IsOrderedPlan, IsHonest, Held, IsHandedRightly}
use Rattle.sctp_safety.proofs.lists.Basics.{at_cases, Has-left, Has-right, Has-push}
use Rattle.sctp_safety.proofs.moves.Later.{Learns, Grows-refl, Extends-refl, lost-later, IsRetired-later, MayPass-later, IsAllSeen-later}
use Rattle.sctp_safety.proofs.plan.OneMessage.{IsOneMessage}
use Rattle.sctp_safety.proofs.moves.Settled.{settled_on}
use Rattle.sctp_safety.proofs.lists.Numbers.{below_more, is_below_by, less_by}

rising_push : (xs : List Handed) (h : Handed) → IsRising xs →
    ((y : Handed) → Has xs y → y.lane.kind ≡ Ordered → h.lane.kind ≡ Ordered → IsNumberLess y.number h.number) → IsRising (xs ++ h ∷ [])
rising_push [] h r less = (λ y a. absurd a, tt)
rising_push (x ∷ xs) h r less = (λ y k. first y (Has-push xs h y k), rising_push xs h r.1 (λ y k. less y (inr k)))
  where
    first : (y : Handed) → Has xs y ⊎ (h ≡ y) → x.lane.kind ≡ Ordered → y.lane.kind ≡ Ordered → IsNumberLess x.number y.number
    first y (inl k) = r.0 y k
    first y (inr e) = subst (λ (z : Handed). x.lane.kind ≡ Ordered → z.lane.kind ≡ Ordered → IsNumberLess x.number z.number) e (less x (inl refl))

apart_push : (xs : List Handed) (h : Handed) → AreDifferent xs → ((y : Handed) → Has xs y → y.first ≡ h.first → ⊥) → AreDifferent (xs ++ h ∷ [])
apart_push [] h r other = (λ y a. absurd a, tt)
apart_push (x ∷ xs) h r other = (λ y k. first y (Has-push xs h y k), apart_push xs h r.1 (λ y k. other y (inr k)))
  where
    first : (y : Handed) → Has xs y ⊎ (h ≡ y) → x.first ≡ y.first → ⊥
    first y (inl k) = r.0 y k
    first y (inr e) = subst (λ (z : Handed). x.first ≡ z.first → ⊥) e (other x (inl refl))

abbrev pub after : ReceiverView → List Piece → (ℕ → ℕ) → (ℕ → List Handed) → ReceiverView
after r kept next waiting = record r { kept = kept; next = next; waiting = waiting }

-- Chunks that go are of messages that are over, and those that stay aren't of a message delivered.
module _ (f : Format) (a : SenderView) (r : ReceiverView) (kept : List Piece) (next : ℕ → ℕ) (waiting : ℕ → List Handed)
    (forth : (s : ℕ) → r.next s ≤ next s) where
  abbrev then : ReceiverView
  then = after r kept next waiting

  pub after-Learns : Learns r then
  after-Learns = record { seen = λ i h. h; jump = le_refl r.jump; next = forth; skip = λ l. le_refl (r.skip l) }

  pub after_held : Held f a r → ((x : Piece) → Has kept x → Has r.kept x) →
      ((x : Piece) (n k : ℕ) → Has r.kept x → entry_at a.plan x.index ≡ Some (Part x.lane n k) → Has kept x ⊎ IsOver f a then x.lane n) →
      ((x : Piece) (n k : ℕ) → Has kept x → entry_at a.plan x.index ≡ Some (Part x.lane n k) → WasHanded a.plan then x.lane n → ⊥) →
      ((l : Lane) (n : ℕ) → WasHanded a.plan r l n → WasHanded a.plan then l n) → IsHandedRightly f a then → Held f a then
  after_held held fewer gone fresh still told = record {
    jumped = λ i l m. lost-later f a a r then (Grows-refl a) after-Learns i (held.jumped i l m);
    old = λ e i l m. IsRetired-later f a a r then (Grows-refl a) after-Learns i (held.old e i l m);
    kept = λ x h. held.kept x (fewer x h);
    seen = λ i h. settled_on f a r then i after-Learns gone still (held.seen i h);
    skips = λ l n h. MayPass-later f a a r then (Grows-refl a) after-Learns l n (held.skips l n h);
    unskipped = held.unskipped;
    kept_seen = λ x h. held.kept_seen x (fewer x h);
    fresh = fresh;
    told = told;
  }

-- Nothing more is delivered.
pub same_told : (f : Format) (a : SenderView) (r : ReceiverView) (kept : List Piece) (next : ℕ → ℕ) → ((s : ℕ) → r.next s ≤ next s) → IsHandedRightly f a r →
    ((s n : ℕ) → n < next s → WasHanded a.plan r (ordered_lane s) n ⊎ (a.abandoned (ordered_lane s) n ≡ true)) → IsHandedRightly f a (after r kept next r.waiting)
same_told f a r kept next forth told passed = record {
  all_seen = λ l n h. IsAllSeen-later a.plan a.plan (Extends-refl a.plan) r (after r kept next r.waiting) (after-Learns f a r kept next r.waiting forth) l n (told.all_seen l n h);
  below = λ s h k o. below_more (r.next s) (next s) h.number (forth s) (told.below s h k o);
  rising = told.rising;
  apart = told.apart;
  honest = told.honest;
  passed = passed;
}

-- One more message is delivered on stream s.
module _ (f : Format) (a : SenderView) (r : ReceiverView) (kept : List Piece) (next : ℕ → ℕ) (s : ℕ) (x : Piece) (xs : List Piece)
    (one : IsOneMessage f a.plan x xs) (stream : x.lane.stream ≡ s) where
  abbrev new : Handed
  new = message_of f x xs

  abbrev pub more_waiting : ℕ → List Handed
  more_waiting = at r.waiting s (r.waiting s ++ new ∷ [])

  abbrev told_more : ReceiverView
  told_more = after r kept next more_waiting

  -- what is delivered on each stream now
  on : (P : ℕ → List Handed → Type 0) → P s (handed r s ++ new ∷ []) → ((u : ℕ) → (u ≡ s → ⊥) → P u (handed r u)) → (u : ℕ) → P u (handed told_more u)
  on P here there u = at_cases (λ (hs : List Handed). P u (r.taken u ++ hs)) r.waiting s (r.waiting s ++ new ∷ []) u
      (λ e. subst (λ (y : ℕ). P y (r.taken y ++ (r.waiting s ++ new ∷ []))) (sym e)
      (subst (P s) (append_assoc (r.taken s) (r.waiting s) (new ∷ [])) here))
      (λ ne. there u ne)

  has_new : (u : ℕ) → u ≡ s → Has (handed told_more u) new
  has_new = on (λ (u : ℕ) (hs : List Handed). u ≡ s → Has hs new) (λ e. Has-right (handed r s) (new ∷ []) new (inl refl)) (λ u ne e. absurd (ne e))

  pub was_new : WasHanded a.plan told_more x.lane one.number
  was_new = (new, has_new x.lane.stream stream, refl, one.first)

  pub still_handed : (l : Lane) (n : ℕ) → WasHanded a.plan r l n → WasHanded a.plan told_more l n
  still_handed l n (h, has, lane, here) = (
    h,
    on (λ (u : ℕ) (hs : List Handed). Has (handed r u) h → Has hs h) (λ k. Has-left (handed r s) (new ∷ []) h k) (λ u ne k. k) l.stream has,
    lane,
    here,
  )

  pub which_handed : (l : Lane) (n : ℕ) → WasHanded a.plan told_more l n → WasHanded a.plan r l n ⊎ ((l ≡ x.lane) × (n ≡ one.number))
  which_handed l n (h, has, lane, here) = on (λ (u : ℕ) (hs : List Handed). l.stream ≡ u → Has hs h → WasHanded a.plan r l n ⊎ ((l ≡ x.lane) × (n ≡ one.number)))
      (λ e k. which e (Has-push (handed r s) new h k)) (λ u ne e k. inl (was u e k)) l.stream refl has
    where
      was : (u : ℕ) → l.stream ≡ u → Has (handed r u) h → WasHanded a.plan r l n
      was u e k = (h, subst (λ (y : ℕ). Has (handed r y) h) (sym e) k, lane, here)

      which : l.stream ≡ s → Has (handed r s) h ⊎ (new ≡ h) → WasHanded a.plan r l n ⊎ ((l ≡ x.lane) × (n ≡ one.number))
      which e (inl k) = inl (was s e k)
      which e (inr k) =
          let i : x.index ≡ h.first = ap (λ (y : Handed). y.first) k in
          let b = one.first in
          let c : Part x.lane one.number 0 ≡ Part l n 0 = cc in
          inr (cc, cc)

  -- Its chunks were kept, and it wasn't delivered before; it is after all ordered messages of the stream.
  pub more_told : IsOrderedPlan f a.plan → Held f a r → IsWithin (x ∷ xs) r.kept → ((u : ℕ) → r.next u ≤ next u) →
      (x.lane.kind ≡ Ordered → (n : ℕ) × (x.number ≡ Some n) × (r.next s ≤ n) × (n < next s)) →
      ((u n : ℕ) → n < next u → WasHanded a.plan told_more (ordered_lane u) n ⊎ (a.abandoned (ordered_lane u) n ≡ true)) → IsHandedRightly f a told_more
  more_told arranged held within forth place passed = record {
    all_seen = λ l n h. IsAllSeen-later a.plan a.plan (Extends-refl a.plan) r told_more (after-Learns f a r kept next more_waiting forth) l n (all_seen l n (which_handed l n h));
    below = λ u h. on (λ (y : ℕ) (hs : List Handed). Has hs h → h.lane.kind ≡ Ordered → IsNumberBelow (next y) h.number)
        (λ k. below h (Has-push (handed r s) new h k))
        (λ y ne k o. below_more (r.next y) (next y) h.number (forth y) (held.told.below y h k o)) u;
    rising = on (λ (y : ℕ) (hs : List Handed). IsRising hs)
        (rising_push (handed r s) new (held.told.rising s) (λ y k o p. less_by (place p).0 y.number x.number (place p).1 (below_more (r.next s) (place p).0 y.number (place p).2 (held.told.below s y k o))))
        (λ y ne. held.told.rising y);
    apart = on (λ (y : ℕ) (hs : List Handed). AreDifferent hs) (apart_push (handed r s) new (held.told.apart s) (λ y k e. other y k e)) (λ y ne. held.told.apart y);
    honest = λ u h. on (λ (y : ℕ) (hs : List Handed). Has hs h → IsHonest f a.plan y h) (λ k. honest h (Has-push (handed r s) new h k))
        (λ y ne k. held.told.honest y h k) u;
    passed = passed;
  }
    where
      now : IsAllSeen a.plan r x.lane one.number
      now = record {
        message = one.message;
        named = one.complete.0;
        seen = λ k b. let y = one.all k b in (y.0.index, y.2, held.kept_seen y.0 (within y.0 y.1));
      }

      all_seen : (l : Lane) (n : ℕ) → WasHanded a.plan r l n ⊎ ((l ≡ x.lane) × (n ≡ one.number)) → IsAllSeen a.plan r l n
      all_seen l n (inl h) = held.told.all_seen l n h
      all_seen l n (inr (e, d)) =
          subst (λ (k : Lane). IsAllSeen a.plan r k n) (sym e) (subst (λ (y : ℕ). IsAllSeen a.plan r x.lane y) (sym d) now)

      below : (h : Handed) → Has (handed r s) h ⊎ (new ≡ h) → h.lane.kind ≡ Ordered → IsNumberBelow (next s) h.number
      below h (inl k) o = below_more (r.next s) (next s) h.number (forth s) (held.told.below s h k o)
      below h (inr e) o = subst (λ (y : Handed). y.lane.kind ≡ Ordered → IsNumberBelow (next s) y.number) e (λ q. is_below_by (next s) (place q).0 x.number (place q).1 (place q).3) o

      it : IsHonest f a.plan s new
      it = record {
        sent = record {
          number = one.number;
          message = one.message;
          lane = refl;
          complete = one.complete;
          first = one.first;
          payload = one.payload;
          bytes = one.text;
        };
        stream = stream;
        counted = one.counted;
      }

      honest : (h : Handed) → Has (handed r s) h ⊎ (new ≡ h) → IsHonest f a.plan s h
      honest h (inl k) = held.told.honest s h k
      honest h (inr e) = subst (IsHonest f a.plan s) e it

      other : (y : Handed) → Has (handed r s) y → y.first ≡ x.index → ⊥
      other y k e =
          let b = held.told.honest s y k in
          let c = b.sent.first in
          let d = one.first in
          let q : Part y.lane b.sent.number 0 ≡ Part x.lane one.number 0 = cc in
          let lane : y.lane ≡ x.lane = cc in
          held.fresh x one.number 0 (within x (inl refl)) one.first
          (y, subst (λ (u : ℕ). Has (handed r u) y) (sym stream) k, lane, cc)
