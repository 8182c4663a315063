-- A message withdrawn: its place in the queue, and what is kept without it.
use Rattle.std.proofs.Common.{◌≡◌, ℕ, suc, ◌+◌, ◌-◌, ◌<◌, ◌≤◌, List, [], ◌∷◌, ◌++◌, length, map, take, drop, set, Bool, true, false, Option, Some, None, refl, sym, ap, ◌∙◌, arith, get_or, append-nil, take_all, IfSome, IfNone, remove}
use Rattle.std.specs.Prelude.{◌==◌, if◌then◌else◌}
use Rattle.std.proofs.Common.{drop-cons, append_assoc, take-suc}
use Rattle.std.proofs.lemmas.List.{length-map, map-append, take-map, drop-map}
use Rattle.std.proofs.lemmas.Bool.Decides.{nat_tests}
use Rattle.std.specs.declared.sync.Arc.{Arc}
use Rattle.std.specs.declared.alloc.Global.{Global}
use Rattle.sctp_model.specs.messages.Format.{Format}
use Rattle.sctp_model.specs.sender.SenderView.{Queued, SenderView}
use Rattle.std.specs.Option.{option_map_or}
use Rattle.sctp_model.specs.sender.Abandoning.{Name, waits, without, name_of, abandon_named, abandon_after}
use Rattle.sctp_model.specs.sender.Queueing.{owed_by_queue, owed_by_parts}
use Rattle.sctp_model.specs.sender.Reached.{Abandons}
use Rattle.sctp_model.proofs.sender.OwedLaws.{owed_rest}
use Rattle.sctp_model.proofs.sender.TicketLaws.{is_ticketed}
use Rattle.sctp_model.proofs.sender.QueueLaws.{without_other, without_self}
use Rattle.sctp_send.specs.SenderKept.{Kept}
use Rattle.sctp_send.specs.PartsKept.{QueueKept}
use Rattle.sctp_send.specs.SenderFields.{queued_by}
use Rattle.sctp_send.specs.SenderStands.{table, fate_here, fate_named, Keeps}
use Rattle.sctp_send.specs.declared.kept.message.Message.{Message as MessageFields}
use Rattle.sctp_send.specs.declared.kept.waiting.Waiting.{Waiting}
use Rattle.sctp_send.specs.declared.kept.message.Fate.TheVariants.{Queued as StillQueued, Withdrawn}
use Rattle.sctp_send.proofs.TableLemmas.{table-set}
use Rattle.sctp_send.proofs.CountedLemmas.{counted_waiting}
use Rattle.sctp_send.proofs.OverLemmas.{not_waiting_without}
use Rattle.sctp_send.proofs.DueLemmas.{late_without}
use Rattle.sctp_send.proofs.WalkLemmas.{none_behind, queue_read}

-- ---- the place of a message that waits

split_at : (t : ℕ) (qs : List Queued) (at : ℕ) (d : Queued) → at < length qs → take at qs ++ without t (drop at qs) ≡ take at qs ++ (if (get_or qs at d).message.ticket == t then drop (suc at) qs else get_or qs at d ∷ without t (drop (suc at) qs))
split_at t qs at d lt = rw (drop-cons qs at d lt) refl

take_more : (qs : List Queued) (at : ℕ) (d : Queued) (rest : List Queued) → at < length qs → take at qs ++ (get_or qs at d ∷ rest) ≡ take (suc at) qs ++ rest
take_more qs at d rest lt = rw (take-suc qs at d lt) (sym (append_assoc (take at qs) (get_or qs at d ∷ []) rest))

pub walked_place : (t size : ℕ) (ms : List (Arc MessageFields Global)) (at : ℕ) (x : Arc MessageFields Global) → at < length ms → x ≡ get_or ms at x → (x.value.ticket ≡ t → ⊥)
    → without t (map (queued_by size) ms) ≡ take at (map (queued_by size) ms) ++ without t (drop at (map (queued_by size) ms))
    → without t (map (queued_by size) ms) ≡ take (at + 1) (map (queued_by size) ms) ++ without t (drop (at + 1) (map (queued_by size) ms))
walked_place t size ms at x lt read ne before =
    let long = length-map ms (queued_by size) in
    let off : (x.value.ticket == t) ≡ false = grind (arith, nat_tests) in
    let here = queue_read size ms at x read in
    let one : at + 1 ≡ suc at = omega arith in
    let split = split_at t (map (queued_by size) ms) at (queued_by size x) (omega arith) in
    let more = take_more (map (queued_by size) ms) at (queued_by size x) (without t (drop (suc at) (map (queued_by size) ms))) (omega arith) in
    before ∙ split ∙ rw (here, off, one) (rw here at more)

pub found_place : (t size : ℕ) (ms : List (Arc MessageFields Global)) (at : ℕ) (x : Arc MessageFields Global) → at < length ms → x ≡ get_or ms at x → x.value.ticket ≡ t
    → without t (map (queued_by size) ms) ≡ take at (map (queued_by size) ms) ++ without t (drop at (map (queued_by size) ms))
    → without t (map (queued_by size) ms) ≡ take at (map (queued_by size) ms) ++ drop (at + 1) (map (queued_by size) ms)
found_place t size ms at x lt read same before =
    let long = length-map ms (queued_by size) in
    let on : (x.value.ticket == t) ≡ true = grind (arith, nat_tests) in
    let here = queue_read size ms at x read in
    let one : at + 1 ≡ suc at = omega arith in
    let split = split_at t (map (queued_by size) ms) at (queued_by size x) (omega arith) in
    before ∙ split ∙ rw (here, on, one) refl

pub ended_place : (t size : ℕ) (ms : List (Arc MessageFields Global)) (at n : ℕ) → length ms ≤ at → n ≡ length ms
    → without t (map (queued_by size) ms) ≡ take at (map (queued_by size) ms) ++ without t (drop at (map (queued_by size) ms))
    → without t (map (queued_by size) ms) ≡ take n (map (queued_by size) ms) ++ drop (n + 1) (map (queued_by size) ms)
ended_place t size ms at n le is before =
    let long = length-map ms (queued_by size) in
    let none = none_behind at (map (queued_by size) ms) (omega arith) in
    let past = none_behind (n + 1) (map (queued_by size) ms) (omega arith) in
    before ∙ rw (none, past, take_all at (map (queued_by size) ms) (omega arith), take_all n (map (queued_by size) ms) (omega arith)) refl

-- what is left around the place, or all where it is past the end
pub withdrawn_is : (p : ℕ) (old new : QueueKept) (taken : Option Waiting) → (p < length old.items → new ≡ record old { items = remove old.items p }) → IfSome taken (λ w. (p < length old.items) × (w.message ≡ get_or old.items p w.message))
    → IfNone taken ((length old.items ≤ p) × (new ≡ old)) → new ≡ record old { items = remove old.items p }
withdrawn_is p old new (Some w) there some none = there some.0
withdrawn_is p old new None there some none =
    let all : remove old.items p ≡ old.items = rw (none_behind (suc p) old.items (omega (arith, none.0)), take_all p old.items none.0) (append-nil old.items) in
    none.1 ∙ ap (λ (ms : List (Arc MessageFields Global)). record old { items = ms }) (sym all)

-- the message with a ticket waits no more
pub withdrawn_place : (size t p : ℕ) (ms : List (Arc MessageFields Global)) → without t (map (queued_by size) ms) ≡ take p (map (queued_by size) ms) ++ drop (p + 1) (map (queued_by size) ms)
    → map (queued_by size) (remove ms p) ≡ without t (map (queued_by size) ms)
withdrawn_place size t p ms is =
    let one : p + 1 ≡ suc p = omega arith in
    map-append (queued_by size) (take p ms) (drop (suc p) ms) ∙ sym (is ∙ rw (one, take-map (queued_by size) p ms, drop-map (queued_by size) (suc p) ms) refl)

-- ---- a message withdrawn

pub keeps_withdrawn : (f : Format) (s : Kept) (v : SenderView) (t : ℕ) → Keeps f s v → waits t v.queue ≡ true → Keeps f (record s { queue = without t s.queue; fates = set s.fates (t - 1) Withdrawn }) (abandon_after v t)
keeps_withdrawn f s v t k on =
    let h = is_ticketed f v k.reached in
    let w = h.waiting t on in
    let low = w.0 in
    let high = w.1 in
    let u : SenderView = record v { queue = without t v.queue } in
    let back : 1 + (t - 1) ≡ t = omega arith in
    let self : fate_here u (1 + (t - 1)) ≡ Withdrawn = rw back (ap (λ (b : Bool). if b then StillQueued else fate_named u (name_of u t)) (without_self t v.queue h.apart) ∙ ap (fate_named u) w.2) in
    let others : (j : ℕ) → 1 ≤ j → j < 1 + v.tickets → (j ≡ 1 + (t - 1) → ⊥) → fate_here u j ≡ fate_here v j = λ j lo hi ne.
    ap (λ (b : Bool). if b then StillQueued else fate_named v (name_of v j)) (without_other t j v.queue (λ e. ne (omega arith))) in
    let fates : set s.fates (t - 1) Withdrawn ≡ table (fate_here u) 1 v.tickets = rw (k.holds.fates, table-set (fate_here v) (fate_here u) 1 v.tickets (t - 1) (omega arith) others, self) refl in
    let reached = Abandons v t k.reached in
    let after : abandon_after v t ≡ u = ap (λ (o : Option Name). option_map_or (abandon_named v) o u) w.2 in
    let queue : without t s.queue ≡ without t v.queue = rw k.holds.queue refl in
    let room : length s.items + (owed_by_queue (without t v.queue) + owed_by_parts v) ≤ s.capacity =
    let room = k.holds.room in let less = owed_rest (λ q. q.message.ticket == t) v.queue in omega (arith, room, less) in
    rw after (record {
      holds = assumption (k.holds, queue, fates, room);
      over = record { within = k.over.within; each = λ x le. let o = k.over.each x le in record { queue = not_waiting_without x t s.queue o.queue; tracks = o.tracks; items = o.items } };
      due = record { many = k.due.many; each = λ x now lt. let i = k.due.each x now lt in record { queue = late_without now x t s.queue i.queue; items = i.items; tracks = i.tracks } };
      forward = k.forward;
      resets = k.resets;
      before = k.before;
      counted = counted_waiting f s v t Withdrawn k on refl;
      limits = k.limits;
      reached = rw after at reached;
    })
