-- What is at an index of the plan, and what is said of the message that it is of.
use Rattle.std.proofs.Common.{◌≡◌, ℕ, zero, suc, ◌+◌, ◌-◌, ◌<◌, ◌≤◌, true, List, [], ◌∷◌, slice_get, Some, refl, sym, subst, arith}
use Rattle.sctp_model.specs.messages.Format.{Format, Plain, Lane}
use Rattle.sctp_model.specs.messages.Plan.{Entry, Part, End, Plan, entry_at, IsOf}
use Rattle.sctp_model.specs.sender.SenderView.{SenderView, IsOfAbandoned}
use Rattle.sctp_model.specs.receiver.ReceiverView.{ReceiverView}
use Rattle.sctp_safety.proofs.moves.Facts.{IsLost, IsOrderedPlan}

pub IsOf_same : (l k : Lane) (n m : ℕ) (e : Entry) → IsOf l n e → IsOf k m e → (l ≡ k) × (n ≡ m)
IsOf_same l k n m (Part u v j) a b = (cc, cc)
IsOf_same l k n m (End u v) a b = (cc, cc)

-- the messages of two entries that are at one place
pub one_entry : (p : Plan) (i : ℕ) (l k : Lane) (n m : ℕ) (d e : Entry) → entry_at p i ≡ Some d → IsOf l n d → entry_at p i ≡ Some e → IsOf k m e → (l ≡ k) × (n ≡ m)
one_entry p i l k n m d e hd od he oe = IsOf_same l k n m e (let h : d ≡ e = cc in subst (λ (y : Entry). IsOf l n y) h od) oe

-- what is abandoned by one name of a message is so by the other
pub same_gone : (a : SenderView) (l k : Lane) (n m : ℕ) → (l ≡ k) × (n ≡ m) → a.abandoned k m ≡ true → a.abandoned l n ≡ true
same_gone a l k n m (el, en) gone =
    subst (λ (u : Lane). a.abandoned u n ≡ true) (sym el) (subst (λ (u : ℕ). a.abandoned k u ≡ true) (sym en) gone)

-- the message of an index that is given up was abandoned
pub entry_abandoned_at : (a : SenderView) (i : ℕ) (l : Lane) (n : ℕ) (e : Entry) → entry_at a.plan i ≡ Some e → IsOf l n e → IsOfAbandoned a i → a.abandoned l n ≡ true
entry_abandoned_at a i l n e here of (k, m, d, at', of', gone) = same_gone a l k n m (one_entry a.plan i l k n m e d here of at' of') gone

pub lost_at : (f : Format) (a : SenderView) (r : ReceiverView) (i : ℕ) (l : Lane) (n : ℕ) (e : Entry) → entry_at a.plan i ≡ Some e → IsOf l n e → IsLost f a r i → a.abandoned l n ≡ true
lost_at f a r i l n e here of x = same_gone a l x.lane n x.number (one_entry a.plan i l x.lane n x.number e x.entry here of x.here x.of) x.gone

-- every number below one that a list has is in it too
pub slice_get-below : {A : Type 0} (xs : List A) (n m : ℕ) (x : A) → slice_get xs m ≡ Some x → n < m → (y : A) × (slice_get xs n ≡ Some y)
slice_get-below xs n zero x h l = absurd (omega arith)
slice_get-below [] n (suc m) x h l = absurd (cc)
slice_get-below (z ∷ xs) zero (suc m) x h l = (z, refl)
slice_get-below (z ∷ xs) (suc n) (suc m) x h l = slice_get-below xs n m x h (omega arith)

-- the first fragment of a message is before the others
first_below : (f : Format) (p : Plan) → IsOrderedPlan f p → (l : Lane) (n k x i : ℕ) →
    entry_at p x ≡ Some (Part l n 0) → entry_at p i ≡ Some (Part l n k) → x ≤ i
first_below f p g l n zero x i hx hi = let e : x ≡ i = g.once x i l n 0 hx hi in omega arith
first_below f p g l n (suc k) x i hx hi =
    let (j, below, here) = g.follows i l n k hi in
    let more : x ≤ j = first_below f p g l n k x j hx here in
    omega arith

-- Under DATA the indexes between two fragments of a message are the message's.
pub between_fragments : (p : Plan) → IsOrderedPlan Plain p → (l : Lane) (n k c i : ℕ) → entry_at p i ≡ Some (Part l n k) → i ≤ c →
    (d x j : ℕ) → x ≡ suc c + d → entry_at p x ≡ Some (Part l n j) → (o : ℕ) × (entry_at p (suc c) ≡ Some (Part l n o))
between_fragments p g l n k c i hi below zero x j e hx =
    let q : x ≡ suc c = omega arith in
    (j, subst (λ (u : ℕ). entry_at p u ≡ Some (Part l n j)) q hx)
between_fragments p g l n k c i hi below (suc d) x zero e hx =
    let l : x ≤ i = first_below Plain p g l n k x i hx hi in absurd (omega arith)
between_fragments p g l n k c i hi below (suc d) x (suc j) e hx =
    between_fragments p g l n k c i hi below d (x - 1) j (omega arith) (g.consecutive refl x l n j hx)
