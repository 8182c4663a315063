-- The FORWARD that a sender builds says one of its direction, and each number that it lists is the largest of its lane up to the index that it goes to.
use Rattle.std.proofs.Common.{◌≡◌, ℕ, ◌+◌, ◌<◌, ◌≤◌, ◌⊎◌, List, [], ◌∷◌, ◌++◌, length, Some, inl, inr, refl, subst, ap, arith}
use Rattle.std.proofs.lemmas.Bool.{cases_lt}
use Rattle.sctp_model.specs.numbers.Limits.{WINDOW}
use Rattle.sctp_model.specs.numbers.Lists.{Has}
use Rattle.sctp_model.specs.messages.Format.{Format, Plain, Interleaved, Lane}
use Rattle.sctp_model.specs.messages.Plan.{Entry, Plan, entry_at, IsOf}
use Rattle.sctp_model.specs.messages.Forward.{Skip, Forward, StandsIn, IsLaneBefore, IsListed, IsForward}
use Rattle.sctp_model.specs.sender.SenderView.{SenderView}
use Rattle.sctp_model.specs.receiver.ReceiverView.{ReceiverView}
use Rattle.sctp_model.specs.world.Calls.{Asked}
use Rattle.sctp_model.specs.sender.Readers.{point}
use Rattle.sctp_model.specs.sender.Forwarding.{forward_to}
use Rattle.sctp_model.specs.sender.SentChunks.{forward_said, forward_chunk_to}
use Rattle.sctp_model.proofs.sender.Bounds.{is_bounded}
use Rattle.sctp_model.proofs.sender.PointLaws.{point_is_point}
use Rattle.sctp_model.proofs.sender.ForwardLaws.{forward_is_forward}
use Rattle.sctp_safety.specs.Way.{Put_forward}
use Rattle.sctp_safety.specs.ReceiverLaws.{IsTopped}
use Rattle.sctp_safety.proofs.lists.Basics.{item_at-within}
use Rattle.sctp_safety.proofs.moves.Facts.{IsOrderedPlan, Good}
use Rattle.sctp_safety.proofs.plan.OrderlyPlan.{orderly_when_arranged}
use Rattle.sctp_safety.proofs.moves.Built.{forward_is_allowed}
use Rattle.sctp_safety.proofs.moves.Taken.{leads_by}
use Rattle.sctp_safety.proofs.runs.Dates.{Date, Dated, dated}
use Rattle.sctp_safety.proofs.runs.Direction.{Bags, way_of, IsForwardIn, IsSaid, Direction}
use Rattle.sctp_safety.proofs.runs.StillStreams.{fewer_wait}
use Rattle.sctp_safety.proofs.runs.Sending.{good_here, sender_moved, said_more, written_readable}

-- ---- each lane is listed once

not_before_itself : (l k : Lane) → l ≡ k → IsLaneBefore l k → ⊥
not_before_itself l k e (inl lt) = let s : l.stream ≡ k.stream = ap (λ (x : Lane). x.stream) e in omega (arith, lt, s)
not_before_itself l k e (inr (same, a, b)) = let s : l.kind ≡ k.kind = ap (λ (x : Lane). x.kind) e in absurd (cc)

listed_once : (xs : List Skip) → IsListed xs → (y z : Skip) → Has xs y → Has xs z → y.lane ≡ z.lane → y ≡ z
listed_once [] h y z a b e = absurd a
listed_once (x ∷ xs) h y z (inl a) (inl b) e = cc
listed_once (x ∷ xs) h y z (inl a) (inr b) e =
    absurd (not_before_itself x.lane z.lane (let s : x.lane ≡ y.lane = ap (λ (k : Skip). k.lane) a in cc) (h.0 z b))
listed_once (x ∷ xs) h y z (inr a) (inl b) e =
    absurd (not_before_itself x.lane y.lane (let s : x.lane ≡ z.lane = ap (λ (k : Skip). k.lane) b in cc) (h.0 y a))
listed_once (x ∷ xs) h y z (inr a) (inr b) e = listed_once xs h.1 y z a b e

-- ---- the largest number up to an index

module _ (f : Format) (p : Plan) (c q : ℕ) (x : Forward) (arranged : IsOrderedPlan f p) (is : IsForward f p c q x) where
  -- an entry past CUM is among those that the list was made of
  topped_past : (y : Skip) (i n : ℕ) (e : Entry) → Has x.skips y → c < i → i ≤ q → entry_at p i ≡ Some e → IsOf y.lane n e → n ≤ y.number
  topped_past y i n e has lo hi here of =
      let z = is.largest y.lane n (is.numbered y has) (i, e, lo, hi, here, of) in
      let same = listed_once x.skips is.order z.0 y z.1 has z.2 in
      let number : z.0.number ≡ y.number = ap (λ (k : Skip). k.number) same in
      let le = z.3 in
      omega (arith, le, number)

  -- one at or before CUM is before the listed number's, so isn't of a higher number
  topped_before : (y : Skip) (i n : ℕ) (e : Entry) → Has x.skips y → i ≤ c → entry_at p i ≡ Some e → IsOf y.lane n e → n ≤ y.number
  topped_before y i n e has lo here of = go (is.stands y has) (cases_lt y.number n)
    where
      go : StandsIn p c q y.lane y.number → (y.number < n) ⊎ (n ≤ y.number) → n ≤ y.number
      go s (inr le) = le
      go (j, d, past, upto, there, od) (inl lt) =
          let less : j < i = (orderly_when_arranged f p arranged).counted y.lane y.number n lt j i d e there od here of in
          absurd (omega (arith, less, past, lo))

  pub forward_topped : IsTopped p x
  forward_topped y i n e has upto here of = go (cases_lt c i)
    where
      go : (c < i) ⊎ (i ≤ c) → n ≤ y.number
      go (inl lo) = topped_past y i n e has lo (let s = is.point in omega (arith, s, upto)) here of
      go (inr hi) = topped_before y i n e has hi here of

-- ---- a FORWARD goes out

-- the point is an index of the plan, or CUM
point_within : (f : Format) (a : SenderView) (n : ℕ) (u : Asked) (r : ReceiverView) (out back : List Dated) → Direction f n a u r out back →
    point a ≤ length a.plan.entries
point_within f a n u r out back d = go (cases_lt a.cum (point a))
  where
    go : (a.cum < point a) ⊎ (point a ≤ a.cum) → point a ≤ length a.plan.entries
    go (inl lo) = let g = (point_is_point a).abandoned (point a) lo (omega arith) in item_at-within a.plan.entries (point a) g.2 g.3
    go (inr le) = let b = (is_bounded f a d.reached).within in omega (arith, b, le)

-- a FORWARD to any index from CUM to the point
pub after_forward : (f : Format) (n : ℕ) (a : SenderView) (u : Asked) (r : ReceiverView) (out back : List Dated) (p : ℕ) → a.cum ≤ p → p ≤ point a →
    Direction f n a u r out back → (k : Date) → k.own ≤ a.cum + WINDOW → Direction f n a u r (out ++ dated k (forward_chunk_to f a p) ∷ []) back
after_forward f n a u r out back p from upto d k window = said_more f n a u r out back moved (dated k (forward_chunk_to f a p) ∷ []) says
  where
    good : Good (way_of f n a u r d.bags)
    good = good_here f n a u r out back d

    is : IsForward f a.plan a.cum p (forward_to f a p)
    is = forward_is_forward f a p d.reached

    upto_there : p ≤ length a.plan.entries
    upto_there = let top = point_within f a n u r out back d in omega (arith, top, upto)

    bags : Bags
    bags = record d.bags { forwards = forward_to f a p ∷ d.bags.forwards }

    moved : Direction f n a u r out back
    moved = sender_moved f n a u r out back d a u bags
        (record { pieces = λ x h. h; forwards = λ x h. inr h; sacks = λ x h. h; shutdowns = λ x h. h }) d.reached (record {
          leads = leads_by (way_of f n a u r d.bags) (way_of f n a u r bags) (Put_forward (forward_to f a p))
              (forward_is_allowed (way_of f n a u r d.bags) (point a) p (forward_to f a p) (point_is_point a) from upto is);
          order = record { ends = d.usual.order.ends; marked = d.usual.order.marked; tickets = d.usual.order.tickets };
          constants = record { initial = refl; streams = refl; fragment = refl; partial = refl };
        }) refl (λ s off h. fewer_wait s a a refl h.queue h)

    within : IsForwardIn f a.initial a r bags.forwards k.own (forward_said f a p)
    within = record {
      said = record {
        forward = forward_to f a p;
        base = a.resets.base;
        put = inl refl;
        cumulative = refl;
        skips = refl;
        topped = forward_topped f a.plan a.cum p (forward_to f a p) good.arranged is;
      };
      within = upto_there;
      window = omega (arith, window, from);
      readable = λ y has. let z = is.stands y has in written_readable f a r d.step z.0 z.1 y.lane y.number z.4 z.5 z.2 p upto_there;
    }

    by_format : (g : Format) → IsForwardIn f a.initial a r bags.forwards k.own (forward_said g a p) → IsSaid f a.initial a r bags k.own (forward_chunk_to g a p)
    by_format Plain h = h
    by_format Interleaved h = h

    says : (x : Dated) → Has (dated k (forward_chunk_to f a p) ∷ []) x → IsSaid f a.initial a r bags x.date.own x.chunk
    says x (inl e) = subst (λ (y : Dated). IsSaid f a.initial a r bags y.date.own y.chunk) e (by_format f within)
    says x (inr h) = absurd h
