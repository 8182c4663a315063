-- What an ordered plan says of its entries: what is in a run of fragments, of which message an entry is.
use Rattle.std.proofs.Common.{◌≡◌, ℕ, zero, suc, ◌+◌, ◌<◌, slice_get, Some, subst, arith}
use Rattle.sctp_model.specs.messages.Format.{Format, Lane}
use Rattle.sctp_model.specs.messages.Plan.{Message, Entry, Part, End, Plan, entry_at, message_at, IsOf, IsAssigned, parts_from}
use Rattle.sctp_safety.proofs.moves.Facts.{IsOrderedPlan}

-- what is in a run of fragments
pub parts_get : (l : Lane) (n k d j : ℕ) (e : Entry) → slice_get (parts_from l n k d) j ≡ Some e → (j < d) × (Part l n (k + j) ≡ e)
parts_get l n k zero j e h = absurd (cc)
parts_get l n k (suc d) zero e h = let z : k + 0 ≡ k = omega arith in (omega arith, cc)
parts_get l n k (suc d) (suc j) e h =
    let r = parts_get l n (suc k) d j e h in
    let b : j < d = r.0 in
    let s : Part l n (suc k + j) ≡ e = r.1 in
    let z : suc k + j ≡ k + suc j = omega arith in
    (omega arith, cc)

pub parts_at : (l : Lane) (n k d j : ℕ) → j < d → slice_get (parts_from l n k d) j ≡ Some (Part l n (k + j))
parts_at l n k zero j b = absurd (omega arith)
parts_at l n k (suc d) zero b = let z : k + 0 ≡ k = omega arith in cc
parts_at l n k (suc d) (suc j) b =
    let r : slice_get (parts_from l n (suc k) d) j ≡ Some (Part l n (suc k + j)) = parts_at l n (suc k) d j (omega arith) in
    let z : suc k + j ≡ k + suc j = omega arith in
    cc

-- an entry is of one message alone
pub same_message : (l k : Lane) (n o : ℕ) (e : Entry) → IsOf l n e → IsOf k o e → (l ≡ k) × (n ≡ o)
same_message l k n o (Part b c d) x y = (cc, cc)
same_message l k n o (End b c) x y = (cc, cc)

-- a fact of a message is one of the message with the same name
pub renamed : (P : Lane → ℕ → Type 0) (l k : Lane) (n o : ℕ) → l ≡ k → n ≡ o → P l n → P k o
renamed P l k n o p q h = subst (λ (b : Lane). P b o) p (subst (λ (c : ℕ). P l c) q h)

-- each entry is of a message that has a number
pub message_of : (f : Format) (p : Plan) → IsOrderedPlan f p → (i : ℕ) (e : Entry) (l : Lane) (n : ℕ) → entry_at p i ≡ Some e → IsOf l n e →
    (m : Message) × (message_at p l n ≡ Some m)
message_of f p a i (Part k o c) l n h (x, y) =
    let r = a.within i k o c h in
    (r.0, renamed (λ (b : Lane) (d : ℕ). message_at p b d ≡ Some r.0) k l o n x y r.1)
message_of f p a i (End k o) l n h (x, y) =
    let r = a.marked i k o h in
    (r.0, renamed (λ (b : Lane) (d : ℕ). message_at p b d ≡ Some r.0) k l o n x y r.1)

-- the fragments below one that has an index have theirs
pub assigned_below : (f : Format) (p : Plan) → IsOrderedPlan f p → (l : Lane) (n k d : ℕ) → IsAssigned p l n (k + d) → IsAssigned p l n k
assigned_below f p a l n k zero (i, h) =
    let z : k + 0 ≡ k = omega arith in
    (i, subst (λ (c : ℕ). entry_at p i ≡ Some (Part l n c)) z h)
assigned_below f p a l n k (suc d) (i, h) =
    let z : k + suc d ≡ suc (k + d) = omega arith in
    let r = a.follows i l n (k + d) (subst (λ (c : ℕ). entry_at p i ≡ Some (Part l n c)) z h) in
    assigned_below f p a l n k d (r.0, r.2)
