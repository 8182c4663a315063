-- What waits for a number, when a call is made, and when a message leaves.
use Rattle.std.proofs.Common.{◌≡◌, ℕ, suc, ◌<◌, ◌≤◌, ◌⊎◌, List, [], ◌∷◌, ◌++◌, length, Some, inl, inr, refl, subst, arith}
use Rattle.sctp_model.specs.numbers.Lists.{Has, item_at}
use Rattle.sctp_model.specs.messages.Format.{Lane}
use Rattle.sctp_model.specs.messages.Plan.{Message, bytes_of, Plan}
use Rattle.sctp_model.specs.sender.SenderView.{Queued}
use Rattle.sctp_model.specs.world.Calls.{Call, Asked}
use Rattle.sctp_safety.proofs.lists.Basics.{Has-push, Has-around, Has-right, slice_get-end, item_at-left, item_at-within}
use Rattle.sctp_safety.proofs.moves.Facts.{IsQueue, IsCalled, Waits}

pub IsQueue-push : (qs : List Queued) (q : Queued) → IsQueue qs → ((x : Queued) → Has qs x → x.message.ticket < q.message.ticket) → IsQueue (qs ++ q ∷ [])
IsQueue-push [] q h last = (λ x a. absurd a, tt)
IsQueue-push (y ∷ qs) q h last = (λ x z. pick x (Has-push qs q x z), IsQueue-push qs q h.1 (λ x z. last x (inr z)))
  where
    pick : (x : Queued) → Has qs x ⊎ (q ≡ x) → y.message.ticket < x.message.ticket
    pick x (inl z) = h.0 x z
    pick x (inr e) = subst (λ (c : Queued). y.message.ticket < c.message.ticket) e (last y (inl refl))

-- what is before a message has a lower ticket, and what is after it a higher one
pub queue_around : (before : List Queued) (q : Queued) (rest : List Queued) → IsQueue (before ++ q ∷ rest) →
    ((x : Queued) → Has before x → x.message.ticket < q.message.ticket) × ((x : Queued) → Has rest x → q.message.ticket < x.message.ticket)
queue_around [] q rest h = (λ x a. absurd a, h.0)
queue_around (y ∷ before) q rest h = let r = queue_around before q rest h.1 in (λ x z. pick r.0 x z, r.1)
  where
    pick : ((x : Queued) → Has before x → x.message.ticket < q.message.ticket) → (x : Queued) → Has (y ∷ before) x → x.message.ticket < q.message.ticket
    pick f x (inl e) = subst (λ (c : Queued). c.message.ticket < q.message.ticket) e (h.0 q (Has-right before (q ∷ rest) q (inl refl)))
    pick f x (inr z) = f x z

queue_without : (before : List Queued) (q : Queued) (rest : List Queued) → IsQueue (before ++ q ∷ rest) → IsQueue (before ++ rest)
queue_without [] q rest h = h.1
queue_without (y ∷ before) q rest h = (λ x z. h.0 x (Has-around before rest q x z), queue_without before q rest h.1)

pub waits_without : (streams : ℕ) (p : Plan) (u : Asked) (before : List Queued) (q : Queued) (rest : List Queued) →
    Waits streams p u (before ++ q ∷ rest) → Waits streams p u (before ++ rest)
waits_without streams p u before q rest w = record {
  rising = queue_without before q rest w.rising;
  streamed = λ x h. w.streamed x (Has-around before rest q x h);
  filled = λ x h. w.filled x (Has-around before rest q x h);
  called = λ x h. w.called x (Has-around before rest q x h);
  later = λ x l n m h hm s. w.later x l n m (Has-around before rest q x h) hm s;
  different = λ x l n m h hm t. w.different x l n m (Has-around before rest q x h) hm t;
}

-- a message's ticket is that of a call there was
pub called_within : (u : Asked) (l : Lane) (m : Message) → IsCalled u l m → m.ticket < suc (length u.calls)
called_within u l m h =
    let r : m.ticket ≤ length u.calls = item_at-within u.calls m.ticket (record { lane = l; payload = m.payload; bytes = bytes_of m; until = m.until; limit = m.limit }) h in
    omega arith

pub called_later : (u : Asked) (call : Call) (l : Lane) (m : Message) → IsCalled u l m → IsCalled (record u { calls = u.calls ++ call ∷ [] }) l m
called_later u call l m h = item_at-left u.calls (call ∷ []) m.ticket (record { lane = l; payload = m.payload; bytes = bytes_of m; until = m.until; limit = m.limit }) h

-- the new call has the next ticket
pub called_new : (u : Asked) (call : Call) (bytes : List ℕ) → call.bytes ≡ bytes →
    item_at (u.calls ++ call ∷ []) (suc (length u.calls)) ≡ Some (record { lane = call.lane; payload = call.payload; bytes = bytes; until = call.until; limit = call.limit })
called_new u call bytes e = subst
    (λ (xs : List ℕ). item_at (u.calls ++ call ∷ []) (suc (length u.calls)) ≡ Some (record { lane = call.lane; payload = call.payload; bytes = xs; until = call.until; limit = call.limit }))
    e (slice_get-end u.calls call)
