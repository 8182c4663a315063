-- What the receiver does with a chunk that arrives: it keeps the data, or drops it.
use Rattle.std.proofs.Common.{◌≡◌, ℕ, ◌<◌, ◌≤◌, ◌⊎◌, Bool, true, false, List, ◌∷◌, Some, inl, inr, refl, sym, subst, ap, arith, le_refl}
use Rattle.std.proofs.lemmas.Bool.{cases_eq, cases_Bool}
use Rattle.sctp_model.specs.numbers.Lists.{Has, at}
use Rattle.sctp_model.specs.messages.Format.{Format, Plain, Interleaved, Kind, Ordered, Unordered, Lane, is_numbered, ordered_lane}
use Rattle.sctp_model.specs.messages.Plan.{Part, Plan, entry_at}
use Rattle.sctp_model.specs.messages.Pieces.{Piece, fragment_of, IsFragment, IsNumberBelow}
use Rattle.sctp_model.specs.sender.SenderView.{SenderView}
use Rattle.sctp_model.specs.receiver.ReceiverView.{ReceiverView}
use Rattle.sctp_model.specs.receiver.Receiving.{IsPassed, IsDeliveredNumber}
use Rattle.sctp_model.specs.world.Safe.{WasHanded}
use Rattle.sctp_safety.specs.Way.{Way, Keep_piece, Drop_piece, Step}
use Rattle.sctp_safety.proofs.moves.Facts.{IsDone, IsOver, IsSettled, MayPass, IsOrderedPlan, Held, Good}
use Rattle.sctp_safety.proofs.lists.Basics.{at_cases, at_same, at_other, lane_is}
use Rattle.sctp_safety.proofs.moves.Later.{Learns, Grows-refl, lost-later, IsRetired-later, MayPass-later, told_later}
use Rattle.sctp_safety.proofs.moves.MovesBySide.{by_receiver}
use Rattle.sctp_safety.proofs.plan.Framing.{part_fragment, part_by_fragment}
use Rattle.sctp_safety.proofs.moves.Settled.{ordered_numbered, all_numbered, number_is, one_number, settled_on, not_all_seen}
use Rattle.sctp_safety.proofs.lists.Numbers.{below_is, not_below_none}

abbrev see : ReceiverView → ℕ → List Piece → ReceiverView
see r i ps = record r { seen = at r.seen i true; kept = ps }

see-Learns : (r : ReceiverView) (i : ℕ) (ps : List Piece) → Learns r (see r i ps)
see-Learns r i ps = record {
  seen = λ j h. at_cases (λ (b : Bool). b ≡ true) r.seen i true j (λ e. refl) (λ ne. h);
  jump = le_refl r.jump;
  next = λ s. le_refl (r.next s);
  skip = λ l. le_refl (r.skip l);
}

-- An index is seen, and the chunks that were kept stay so.
module _ (f : Format) (a : SenderView) (r : ReceiverView) (i : ℕ) (ps : List Piece) where
  -- a chunk that is kept now
  record IsNew (x : Piece) : Type 0 where
    fragment : IsFragment f a.plan x
    index : x.index ≡ i
    fresh : (n k : ℕ) → entry_at a.plan x.index ≡ Some (Part x.lane n k) → WasHanded a.plan r x.lane n → ⊥

  seen_too : Held f a r → ((x : Piece) → Has r.kept x → Has ps x) → ((x : Piece) → Has ps x → Has r.kept x ⊎ IsNew x) →
      IsSettled f a (see r i ps) i → Held f a (see r i ps)
  seen_too held more from here = record {
    jumped = λ j l m. lost-later f a a r t (Grows-refl a) learns j (held.jumped j l m);
    old = λ e j l m. IsRetired-later f a a r t (Grows-refl a) learns j (held.old e j l m);
    kept = λ x h. kept x (from x h);
    seen = λ j h. seen j h (cases_eq j i);
    skips = λ l n h. MayPass-later f a a r t (Grows-refl a) learns l n (held.skips l n h);
    unskipped = held.unskipped;
    kept_seen = λ x h. kept_seen x (from x h);
    fresh = λ x n k h. fresh x n k (from x h);
    told = told_later f a r t.seen t.jump t.skip t.kept learns held.told;
  }
    where
      t : ReceiverView
      t = see r i ps

      learns : Learns r t
      learns = see-Learns r i ps

      seen : (j : ℕ) → at r.seen i true j ≡ true → (j ≡ i) ⊎ (j ≡ i → ⊥) → IsSettled f a t j
      seen j h (inl e) = subst (IsSettled f a t) (sym e) here
      seen j h (inr ne) =
          settled_on f a r t j learns (λ x n k q b. inl (more x q)) (λ l n q. q) (held.seen j (let e = at_other r.seen i true j ne in cc))

      kept : (x : Piece) → Has r.kept x ⊎ IsNew x → IsFragment f a.plan x
      kept x (inl h) = held.kept x h
      kept x (inr h) = h.fragment

      kept_seen : (x : Piece) → Has r.kept x ⊎ IsNew x → at r.seen i true x.index ≡ true
      kept_seen x (inl h) = learns.seen x.index (held.kept_seen x h)
      kept_seen x (inr h) = subst (λ (j : ℕ). at r.seen i true j ≡ true) (sym h.index) (at_same r.seen i true)

      fresh : (x : Piece) (n k : ℕ) → Has r.kept x ⊎ IsNew x → entry_at a.plan x.index ≡ Some (Part x.lane n k) → WasHanded a.plan r x.lane n → ⊥
      fresh x n k (inl h) = held.fresh x n k h
      fresh x n k (inr h) = h.fresh n k

pub kept_by-Keep_piece : (w v : Way) (x : Piece) → Good w → Step w (Keep_piece x) v → Good v
kept_by-Keep_piece w v x g (has, unseen, e) = subst Good (sym e) (by_receiver w (see r x.index ps) g (see-Learns r x.index ps)
    (seen_too f a r x.index ps g.held (λ z h. inr h) from (record {
      lane = x.lane;
      number = y.number;
      fragment = y.fragment;
      message = y.message;
      named = y.named;
      here = y.here;
      state = inl (inl y.same);
    })))
  where
    f : Format
    f = w.format

    a : SenderView
    a = w.sender

    r : ReceiverView
    r = w.receiver

    ps : List Piece
    ps = x ∷ r.kept

    y : IsFragment f a.plan x
    y = g.between.pieces x has

    fresh : (n k : ℕ) → entry_at a.plan x.index ≡ Some (Part x.lane n k) → WasHanded a.plan r x.lane n → ⊥
    fresh n k here was =
        let e = one_number f a.plan x y x.lane n k here in
        not_all_seen f a r x y g.arranged unseen
        (g.held.told.all_seen x.lane y.number (subst (WasHanded a.plan r x.lane) (sym e.1) was))

    from : (z : Piece) → Has ps z → Has r.kept z ⊎ IsNew f a r x.index ps z
    from z (inl e) = subst (λ (q : Piece). Has r.kept q ⊎ IsNew f a r x.index ps q) e (inr (record { fragment = y; index = refl; fresh = fresh }))
    from z (inr h) = inl h

-- under I-DATA a chunk says which fragment it is
fragment_is : (p : Plan) (x : Piece) (y : IsFragment Interleaved p x) → fragment_of x ≡ y.fragment
fragment_is p x y = part_fragment p x.lane y.number y.message y.fragment x (part_by_fragment Interleaved p x y)

-- A chunk that wasn't seen, and is no longer wanted, is of a message that is over.
module _ (f : Format) (a : SenderView) (r : ReceiverView) (x : Piece) (y : IsFragment f a.plan x) (arranged : IsOrderedPlan f a.plan)
    (held : Held f a r) (unseen : r.seen x.index ≡ false) where
  over : IsDone f r x.lane y.number → WasHanded a.plan r x.lane y.number ⊎ (a.abandoned x.lane y.number ≡ true) → IsOver f a r x.lane y.number
  over d (inl h) = inl h
  over d (inr h) = inr (h, d)

  when_behind : (k : Kind) → x.lane.kind ≡ k → IsDeliveredNumber r k x → IsOver f a r x.lane y.number
  when_behind Unordered e b = absurd b
  when_behind Ordered e b = over (inr (inr (e, below))) (subst (λ (l : Lane). WasHanded a.plan r l y.number ⊎ (a.abandoned l y.number ≡ true)) lane
      (held.told.passed x.lane.stream y.number below))
    where
      below : y.number < r.next x.lane.stream
      below = below_is (r.next x.lane.stream) y.number x.number (number_is f a.plan x y (ordered_numbered f x.lane.kind e)) b

      lane : ordered_lane x.lane.stream ≡ x.lane
      lane = lane_is (ordered_lane x.lane.stream) x.lane refl (sym e)

  when_skipped : IsNumberBelow (r.skip x.lane) x.number → IsOver f a r x.lane y.number
  when_skipped b = go (cases_Bool (is_numbered f x.lane.kind))
    where
      may : MayPass a r x.lane y.number → WasHanded a.plan r x.lane y.number ⊎ (a.abandoned x.lane y.number ≡ true)
      may (inl h) = inr h
      may (inr h) = absurd (not_all_seen f a r x y arranged unseen h)

      go : (is_numbered f x.lane.kind ≡ true) ⊎ (is_numbered f x.lane.kind ≡ false) → IsOver f a r x.lane y.number
      go (inl e) =
          let below = below_is (r.skip x.lane) y.number x.number (number_is f a.plan x y e) b in
          over (inr (inl below)) (may (held.skips x.lane y.number below))
      go (inr e) = absurd (not_below_none x.number (subst (λ (z : ℕ). IsNumberBelow z x.number) (held.unskipped x.lane e) b))

same_seen : (a : SenderView) (r : ReceiverView) (x : Piece) (y : IsFragment Interleaved a.plan x) → IsOrderedPlan Interleaved a.plan →
    Held Interleaved a r → r.seen x.index ≡ false → (z : Piece) → Has r.kept z → z.lane ≡ x.lane → z.number ≡ x.number → fragment_of z ≡ fragment_of x → ⊥
same_seen a r x y arranged held unseen z has lane number fragment =
    let seen = held.kept_seen z has in
    let e : z.index ≡ x.index = arranged.once z.index x.index x.lane y.number y.fragment here y.here in
    let h : r.seen z.index ≡ r.seen x.index = ap r.seen e in
    absurd (cc)
  where
    u : IsFragment Interleaved a.plan z
    u = held.kept z has

    here : entry_at a.plan z.index ≡ Some (Part x.lane y.number y.fragment)
    here =
        let h = u.here in
        let n = number_is Interleaved a.plan x y (all_numbered x.lane.kind) in
        let m = number_is Interleaved a.plan z u (all_numbered z.lane.kind) in
        let i = fragment_is a.plan x y in
        let j = fragment_is a.plan z u in
        cc (lane, number, fragment)

pub passed_over : (f : Format) (a : SenderView) (r : ReceiverView) (x : Piece) (y : IsFragment f a.plan x) → IsOrderedPlan f a.plan →
    Held f a r → r.seen x.index ≡ false → IsPassed f r x → IsOver f a r x.lane y.number
passed_over Plain a r x y arranged held unseen (inl h) = when_behind Plain a r x y arranged held unseen x.lane.kind refl h
passed_over Plain a r x y arranged held unseen (inr h) = when_skipped Plain a r x y arranged held unseen h
passed_over Interleaved a r x y arranged held unseen (inl h) = when_behind Interleaved a r x y arranged held unseen x.lane.kind refl h
passed_over Interleaved a r x y arranged held unseen (inr (inl h)) = when_skipped Interleaved a r x y arranged held unseen h
passed_over Interleaved a r x y arranged held unseen (inr (inr (z, has, lane, number, fragment))) =
    absurd (same_seen a r x y arranged held unseen z has lane number fragment)

pub kept_by-Drop_piece : (w v : Way) (x : Piece) → Good w → Step w (Drop_piece x) v → Good v
kept_by-Drop_piece w v x g (has, unseen, why, e) = subst Good (sym e) (by_receiver w (see r x.index r.kept) g (see-Learns r x.index r.kept)
    (seen_too f a r x.index r.kept g.held (λ z h. h) (λ z h. inl h) (record {
      lane = x.lane;
      number = y.number;
      fragment = y.fragment;
      message = y.message;
      named = y.named;
      here = y.here;
      state = inr (over why);
    })))
  where
    f : Format
    f = w.format

    a : SenderView
    a = w.sender

    r : ReceiverView
    r = w.receiver

    y : IsFragment f a.plan x
    y = g.between.pieces x has

    over : IsPassed f r x ⊎ (w.streams ≤ x.lane.stream) → IsOver f a r x.lane y.number
    over (inl h) = passed_over f a r x y g.arranged g.held unseen h
    over (inr h) = let l = g.sound.streamed x.lane y.number y.message y.named in absurd (omega arith)
