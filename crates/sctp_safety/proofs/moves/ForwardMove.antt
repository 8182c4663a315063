-- What a FORWARD that counts does to the receiver.
use Rattle.std.proofs.Common.{◌≡◌, ℕ, suc, ◌<◌, ◌≤◌, ◌⊎◌, max, true, false, List, [], ◌∷◌, inl, inr, refl, sym, subst, ap, arith, le_refl}
use Rattle.std.proofs.lemmas.Bool.{cases_lt}
use Rattle.sctp_model.specs.numbers.Lists.{Has}
use Rattle.sctp_model.specs.messages.Format.{Format, Plain, Ordered, Lane, is_numbered, at_lane}
use Rattle.sctp_model.specs.sender.SenderView.{SenderView}
use Rattle.sctp_model.specs.messages.Forward.{Skip, Forward, skipped}
use Rattle.sctp_model.specs.receiver.ReceiverView.{ReceiverView}
use Rattle.sctp_safety.specs.Way.{Way, IsSkippedBy, Forward_comes, Step}
use Rattle.sctp_safety.proofs.moves.Facts.{IsDone, IsLost, IsLostBy, IsRetired, IsSendersForward, MayPass, Held, Good}
use Rattle.sctp_safety.proofs.lists.Basics.{at_lane_cases}
use Rattle.sctp_safety.proofs.moves.Later.{Learns, Grows-refl, lost-later, IsDone-later, IsRetired-later, MayPass-later, told_later}
use Rattle.sctp_safety.proofs.moves.MovesBySide.{by_receiver}
use Rattle.sctp_safety.proofs.moves.Settled.{settled_on}

-- a lane's number after one skip more
abbrev pub raised : (Lane → ℕ) → Skip → Lane → ℕ
raised skip x = at_lane skip x.lane (max (skip x.lane) (suc x.number))

raised_by : (skip : Lane → ℕ) (x : Skip) (l : Lane) (k : ℕ) → k < raised skip x l → (k < skip l) ⊎ ((l ≡ x.lane) × (k ≤ x.number))
raised_by skip x l k = at_lane_cases (λ (b : ℕ). k < b → (k < skip l) ⊎ ((l ≡ x.lane) × (k ≤ x.number))) skip x.lane (max (skip x.lane) (suc x.number)) l
    (λ e m. which e m (cases_lt k (skip x.lane))) (λ ne m. inl m)
  where
    which : l ≡ x.lane → k < max (skip x.lane) (suc x.number) → (k < skip x.lane) ⊎ (skip x.lane ≤ k) → (k < skip l) ⊎ ((l ≡ x.lane) × (k ≤ x.number))
    which e m (inl h) = inl (subst (λ (b : Lane). k < skip b) (sym e) h)
    which e m (inr h) = inr (e, omega arith)

pub raised_grows : (skip : Lane → ℕ) (x : Skip) (l : Lane) → skip l ≤ raised skip x l
raised_grows skip x l = at_lane_cases (λ (b : ℕ). skip l ≤ b) skip x.lane (max (skip x.lane) (suc x.number)) l
    (λ e. let q : skip l ≡ skip x.lane = ap skip e in omega arith) (λ ne. le_refl (skip l))

pub skipped_grows : (xs : List Skip) (skip : Lane → ℕ) (l : Lane) → skip l ≤ skipped skip xs l
skipped_grows [] skip l = le_refl (skip l)
skipped_grows (x ∷ xs) skip l =
    let more = skipped_grows xs (raised skip x) l in
    let one = raised_grows skip x l in
    omega arith

pub skipped_has : (xs : List Skip) (skip : Lane → ℕ) (y : Skip) → Has xs y → y.number < skipped skip xs y.lane
skipped_has [] skip y h = absurd h
skipped_has (x ∷ xs) skip y (inr h) = skipped_has xs (raised skip x) y h
skipped_has (x ∷ xs) skip y (inl e) = subst (λ (z : Skip). z.number < skipped skip (x ∷ xs) z.lane) e
    (let more = skipped_grows xs (raised skip x) x.lane in omega (arith, one))
  where
    one : x.number < raised skip x x.lane
    one = at_lane_cases (λ (b : ℕ). x.number < b) skip x.lane (max (skip x.lane) (suc x.number)) x.lane (λ q. omega arith) (λ ne. absurd (ne refl))

-- what may be skipped before, or is listed, may be skipped
skipped_fair : (P : Lane → ℕ → Type 0) (xs : List Skip) (skip : Lane → ℕ) → ((l : Lane) (n : ℕ) → n < skip l → P l n) →
    ((y : Skip) → Has xs y → (n : ℕ) → n ≤ y.number → P y.lane n) → (l : Lane) (n : ℕ) → n < skipped skip xs l → P l n
skipped_fair P [] skip before listed l n m = before l n m
skipped_fair P (x ∷ xs) skip before listed l n m = skipped_fair P xs (raised skip x) (λ k o h. more k o (raised_by skip x k o h)) (λ y h. listed y (inr h)) l n m
  where
    more : (k : Lane) (o : ℕ) → (o < skip k) ⊎ ((k ≡ x.lane) × (o ≤ x.number)) → P k o
    more k o (inl h) = before k o h
    more k o (inr h) = subst (λ (b : Lane). P b o) (sym h.0) (listed x (inl refl) o h.1)

skipped_unnumbered : (f : Format) (xs : List Skip) (skip : Lane → ℕ) → ((y : Skip) → Has xs y → is_numbered f y.lane.kind ≡ true) →
    (l : Lane) → is_numbered f l.kind ≡ false → skip l ≡ 0 → skipped skip xs l ≡ 0
skipped_unnumbered f [] skip numbered l e z = z
skipped_unnumbered f (x ∷ xs) skip numbered l e z = skipped_unnumbered f xs (raised skip x) (λ y h. numbered y (inr h)) l e
    (at_lane_cases (λ (b : ℕ). b ≡ 0) skip x.lane (max (skip x.lane) (suc x.number)) l (λ q. absurd (other q)) (λ ne. z))
  where
    other : l ≡ x.lane → ⊥
    other q =
        let h = numbered x (inl refl) in
        let k : is_numbered f l.kind ≡ is_numbered f x.lane.kind = ap (λ (b : Lane). is_numbered f b.kind) q in
        absurd (cc)

-- all that is listed
pub all_skipped : (r : ReceiverView) (xs : List Skip) → IsSkippedBy r xs (skipped r.skip xs)
all_skipped r xs = record {
  raised = λ l. skipped_grows xs r.skip l;
  within = λ l. le_refl (skipped r.skip xs l);
  counts = λ y h. inl (skipped_has xs r.skip y h);
}

pub kept_by-Forward_comes : (w v : Way) (x : Forward) (skip : Lane → ℕ) → Good w → Step w (Forward_comes x skip) v → Good v
kept_by-Forward_comes w v x skip g (has, ahead, by, e) = subst Good (sym e) (by_receiver w t g learns (record {
  jumped = λ i pos l. jumped i pos l (cases_lt r.jump i);
  old = λ q i pos l. old q i pos l (cases_lt r.jump i);
  kept = held.kept;
  seen = λ i h. settled_on f a r t i learns (λ z n k q b. inl q) (λ l n q. q) (held.seen i h);
  skips = λ l n h. MayPass-later f a a r t (Grows-refl a) learns l n (skipped_fair (MayPass a r) x.skips r.skip held.skips fair.listed l n (below l n h));
  unskipped = λ l q. let z = skipped_unnumbered f x.skips r.skip fair.numbered l q (held.unskipped l q) in let y = by.within l in omega (arith, z, y);
  kept_seen = held.kept_seen;
  fresh = held.fresh;
  told = told_later f a r t.seen t.jump t.skip t.kept learns held.told;
}))
  where
    f : Format
    f = w.format

    a : SenderView
    a = w.sender

    r : ReceiverView
    r = w.receiver

    t : ReceiverView
    t = record r { jump = max r.jump x.point; skip = skip }

    below : (l : Lane) (n : ℕ) → n < skip l → n < skipped r.skip x.skips l
    below l n h = let y = by.within l in omega (arith, y, h)

    held : Held f a r
    held = g.held

    learns : Learns r t
    learns = record { seen = λ j h. h; jump = omega arith; next = λ s. le_refl (r.next s); skip = by.raised }

    fair : IsSendersForward f a r x
    fair = g.between.forwards x has

    lost : {i : ℕ} → (r.seen i ≡ true) ⊎ IsLostBy f a r x.skips i → (r.seen i ≡ true) ⊎ IsLost f a t i
    lost (inl h) = inl h
    lost (inr h) = inr (record { lane = h.lane; number = h.number; entry = h.entry; here = h.here; of = h.of; gone = h.gone; done = done h.lane h.number h.done })
      where
        done : (l : Lane) (n : ℕ) → IsDone f r l n ⊎ ((y : Skip) × Has x.skips y × (y.lane ≡ l) × (n ≤ y.number)) → IsDone f t l n
        done l n (inl k) = IsDone-later f r t learns l n k
        done l n (inr (y, k, q, m)) = counted (by.counts y k)
          where
            counted : (y.number < skip y.lane) ⊎ ((y.lane.kind ≡ Ordered) × (y.number < r.next y.lane.stream)) → IsDone f t l n
            counted (inl b) = inr (inl (subst (λ (z : Lane). n < skip z) q (omega arith)))
            counted (inr (o, b)) = inr (inr (subst (λ (z : Lane). (z.kind ≡ Ordered) × (n < r.next z.stream)) q (o, omega arith)))

    jumped : (i : ℕ) → 0 < i → i ≤ max r.jump x.point → (r.jump < i) ⊎ (i ≤ r.jump) → (r.seen i ≡ true) ⊎ IsLost f a t i
    jumped i pos l (inl h) = lost (fair.upto i pos (omega arith))
    jumped i pos l (inr h) = lost-later f a a r t (Grows-refl a) learns i (held.jumped i pos h)

    old : f ≡ Plain → (i : ℕ) → 0 < i → i ≤ max r.jump x.point → (r.jump < i) ⊎ (i ≤ r.jump) → IsRetired a t i
    old q i pos l (inl h) = IsRetired-later f a a r t (Grows-refl a) learns i (fair.old q ahead i pos (omega arith))
    old q i pos l (inr h) = IsRetired-later f a a r t (Grows-refl a) learns i (held.old q i pos h)
