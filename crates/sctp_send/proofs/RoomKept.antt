-- There is room for what is owed: for the entry of each fragment without an index, and for an end mark of each message that may need one.
use Rattle.std.proofs.Common.{◌≡◌, ℕ, ◌+◌, ◌<◌, ◌≤◌, [], ◌∷◌, length, drop, Some, refl, arith, length-append, length-drop}
use Rattle.sctp_model.specs.messages.Format.{Format}
use Rattle.sctp_model.specs.messages.Plan.{parts_from}
use Rattle.sctp_model.specs.sender.Assigning.{with_message, going_on, assigned}
use Rattle.sctp_model.specs.sender.Queueing.{owed_by_queue, owed_by_parts, promised}
use Rattle.sctp_model.specs.sender.SenderView.{SenderView}
use Rattle.sctp_model.proofs.sender.Bounds.{is_bounded, length-parts}
use Rattle.sctp_model.proofs.sender.CountLaws.{is_named}
use Rattle.sctp_model.proofs.sender.OwedLaws.{promised_assigned}
use Rattle.sctp_model.proofs.sender.SetLaws.{is_filled}
use Rattle.sctp_model.proofs.sender.WishCases.{IsAssigned, Whole, Begun, Continued, assigned_cases}
use Rattle.sctp_send.specs.SenderKept.{Kept}
use Rattle.sctp_send.specs.SenderStands.{Keeps}
use Rattle.sctp_send.specs.inner.Newcomers.{without_place, IsBegun, IsContinued}
use Rattle.sctp_send.proofs.HeldLemmas.{keeps_with}
use Rattle.sctp_send.proofs.KeepLemmas.{kept_length}

-- memory is given back, but for what is owed, or more is taken
pub keeps_roomy : (f : Format) (s : Kept) (v : SenderView) (c : ℕ) → Keeps f s v → length s.items + (owed_by_queue v.queue + owed_by_parts v) ≤ c → Keeps f (record s { capacity = c }) v
keeps_roomy f s v c k room = keeps_with f s v s.forward c k k.forward room

-- ---- what takes an index is owed

-- no more is assigned and owed then
fewer_promised : (f : Format) (v u : SenderView) (s : Kept) → Keeps f s v → assigned f v ≡ Some u → promised u ≤ promised v
fewer_promised f v u s k is = promised_assigned f v u (is_filled f v k.reached) (is_named f v k.reached) (assigned_cases f v u is)

-- CUM stays, and the plan grows
grown : (f : Format) (v u : SenderView) → IsAssigned v f u → (u.cum ≡ v.cum) × (length v.plan.entries ≤ length u.plan.entries)
grown _ v _ (Whole q rest is) = (refl, let long = length-append v.plan.entries (parts_from q.lane (length (v.plan.messages q.lane)) 0 (length q.message.fragments)) in omega (arith, long))
grown _ v _ (Begun s q lt on first) = (refl, let long = length-append v.plan.entries (parts_from q.lane (length (v.plan.messages q.lane)) 0 1) in omega (arith, long))
grown _ v _ (Continued s e lt on) = (refl, let long = length-append v.plan.entries (e ∷ []) in omega (arith, long))

-- there is room for what is owed once the next fragments have their indexes
pub room_assigned : (f : Format) (s : Kept) (v u : SenderView) → Keeps f s v → assigned f v ≡ Some u → length (drop u.cum u.plan.entries) + (owed_by_queue u.queue + owed_by_parts u) ≤ s.capacity
room_assigned f s v u k is =
    let less = fewer_promised f v u s k is in
    let more = grown f v u (assigned_cases f v u is) in
    omega (arith, less, more.0, more.1, length-drop u.cum u.plan.entries, kept_length f s v k, (is_bounded f v k.reached).within, k.holds.room)

-- and for the entries of a message that begins
pub room_begins : (f : Format) (s : Kept) (v : SenderView) (place count turn : ℕ) → Keeps f s v → IsBegun f v place count turn → length s.items + count ≤ s.capacity
room_begins f s v place count turn k b =
    let q = b.message in
    let less = fewer_promised f v (record v { plan = with_message v.plan q count; queue = without_place place v.queue; turn = turn }) s k b.assigned in
    let n = length (v.plan.messages q.lane) in
    omega (arith, less, length-append v.plan.entries (parts_from q.lane n 0 count), length-parts q.lane n 0 count, k.holds.room)

-- and of one that goes on
pub room_goes_on : (f : Format) (s : Kept) (v : SenderView) (stream : ℕ) → Keeps f s v → IsContinued f v stream → length s.items < s.capacity
room_goes_on f s v stream k c =
    omega (arith, fewer_promised f v (going_on v stream c.entry) s k c.assigned, length-append v.plan.entries (c.entry ∷ []), k.holds.room)
