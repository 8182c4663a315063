-- Fragments counted, sums over the streams, what is promised, and a message more in the queue.
use Rattle.std.proofs.Common.{◌≡◌, ℕ, zero, suc, ◌+◌, ◌*◌, ◌/◌, ◌%◌, ◌^◌, ◌<◌, ◌≤◌, inl, inr, List, [], ◌∷◌, ◌++◌, length, Bool, true, false, Option, Some, None, refl, sym, ap, ◌∙◌, subst, arith}
use Rattle.std.specs.Prelude.{min, nat_lt, nat_le, if◌then◌else◌, ◌==◌, ◌&&◌, ◌||◌, Result, Ok, Err, IsErrAnd, unwrap_or}
use Rattle.std.proofs.lemmas.Bool.{cases_lt}
use Rattle.std.specs.Int.{div_ceil}
use Rattle.std.proofs.lemmas.Grind.{common_steps}
use Rattle.std.proofs.lemmas.List.Recursion.{is_sum_by}
use Rattle.std.proofs.lemmas.Bool.Decides.{nat_tests}
use Rattle.sctp_model.specs.numbers.Limits.{LONGEST_MESSAGE, QUEUE_LIMIT, TICKET_LIMIT, TSN_LIMIT, LAST_MOMENT}
use Rattle.sctp_model.specs.messages.Format.{Format, Lane}
use Rattle.sctp_model.specs.messages.Plan.{Entry, Part, End}
use Rattle.sctp_model.specs.sender.SenderView.{Queued, SendLimits, SenderView}
use Rattle.sctp_model.specs.sender.Entries.{continued, fragments_from, one_if_some, sum_below, in_part}
use Rattle.sctp_model.specs.sender.Queueing.{cut, owed_for, owed_by_queue, owed_by_parts, promised, queued_bytes, is_over, refusal, queued, Spent}
use Rattle.sctp_model.specs.sender.Outgoing.{is_sending}
use Rattle.sctp_model.specs.sender.Words.{when, first_there, some_passes}
use Rattle.sctp_model.specs.sender.Abandoning.{waits, name_of}
use Rattle.sctp_model.specs.sender.Reached.{Queues}
use Rattle.sctp_model.proofs.sender.PlanLaws.{continued_is}
use Rattle.sctp_model.proofs.sender.CountLaws.{is_named}
use Rattle.std.proofs.Math.Nat.{mul-suc, mul-le-mul_right}
use Rattle.sctp_model.proofs.sender.CutLaws.{length-cut}
use Rattle.sctp_model.proofs.sender.SetLaws.{is_set, accepted}
use Rattle.sctp_model.proofs.sender.OwedLaws.{is_promised, owed_push}
use Rattle.sctp_model.proofs.sender.TicketLaws.{waits_push}
use Rattle.sctp_send.specs.SenderAnswers.{refused_with, QueueAnswer, queue_after}
use Rattle.sctp_values.specs.declared.ticket.Ticket.{Ticket}
use Rattle.sctp_send.specs.declared.queueing.SendFault.{SendFault}
use Rattle.sctp_send.specs.declared.queueing.SendFault.TheVariants.{NoMemory}
use Rattle.sctp_send.specs.SenderKept.{Track, Kept}
use Rattle.sctp_send.specs.ResetsKept.{sending_under}
use Rattle.sctp_send.specs.SenderStands.{table, rest_here, track_here, fate_here, fate_named, Keeps}
use Rattle.sctp_send.specs.inner.Dues.{some_late, standing_messages, IsPushed}
use Rattle.sctp_send.specs.inner.Walks.{total, one_if_rest, rest_owes}
use Rattle.sctp_send.specs.declared.kept.message.Fate.{Fate}
use Rattle.sctp_send.specs.declared.kept.message.Fate.TheVariants.{Queued as StillQueued}
use Rattle.sctp_send.proofs.TableLemmas.{table-push, table-same, length-table}
use Rattle.sctp_send.proofs.OverLemmas.{not_waiting_more}
use Rattle.sctp_send.proofs.DueLemmas.{late_queue_more, late_before, late_other_items}
use Rattle.sctp_send.proofs.kept.MomentLemmas.{many_pushed, due_pushed}
use Rattle.sctp_send.proofs.kept.GivenUpLemmas.{push_open}
use Rattle.sctp_send.proofs.KeepLemmas.{kept_length, items_given}
use Rattle.sctp_send.proofs.ResetLemmas.{sends_by}

-- ---- fragments

pub count_is : (size : ℕ) (bytes : List ℕ) → 0 < size → div_ceil (length bytes) size ≡ length (cut size bytes)
count_is size bytes p = sym (length-cut size bytes)

ceil_few : (n size : ℕ) → 0 < size → n ≤ size → min n 1 ≡ div_ceil n size
ceil_few n size some le = let whole : size * (n / size) + n % size ≡ n = omega arith in by_count (n / size) (n % size) whole
  where
    by_count : (x y : ℕ) → size * x + y ≡ n → min n 1 ≡ x + min 1 y
    by_count zero y is = let none : size * 0 ≡ 0 = omega arith in omega arith
    by_count (suc zero) y is = let one : size * 1 ≡ size = omega arith in omega arith
    by_count (suc (suc x)) y is = let one = mul-suc size (suc x) in let two = mul-suc size x in absurd (omega (arith, one, two, is, some, le))

-- bytes that fit into one fragment make one, where there are any
pub few_are : (size : ℕ) (bytes : List ℕ) → 0 < size → length bytes ≤ size → min (length bytes) 1 ≡ length (cut size bytes)
few_are size bytes some le = ceil_few (length bytes) size some le ∙ sym (length-cut size bytes)

-- ---- sums

total_push : (f : Track → ℕ) (ts : List Track) (t : Track) → total f (ts ++ t ∷ []) ≡ total f ts + f t
total_push f ts t = grind (arith, common_steps, is_sum_by (total f) f refl (λ x xs. refl))

-- a sum over a table of streams
total_table : (f : Track → ℕ) (g : ℕ → Track) (h : ℕ → ℕ) (n : ℕ) → ((s : ℕ) → f (g s) ≡ h s) → total f (table g 0 n) ≡ sum_below h n
total_table f g h zero same = refl
total_table f g h (suc n) same =
    let push = ap (total f) (table-push g 0 n) in
    let last = total_push f (table g 0 n) (g (0 + n)) in
    let zeroed : f (g (0 + n)) ≡ h n = let z : 0 + n ≡ n = omega arith in rw z (same n) in
    let rest = total_table f g h n same in
    omega arith

pub kept_in_part : (f : Format) (s : Kept) (v : SenderView) → Keeps f s v → total (λ t. one_if_rest t.rest) s.tracks ≡ in_part v
kept_in_part f s v k = ap (total (λ t. one_if_rest t.rest)) k.holds.tracks ∙ total_table (λ t. one_if_rest t.rest) (track_here v) (λ s. one_if_some (continued v.plan s)) v.streams (λ s. same (continued v.plan s))
  where
    same : (o : Option Entry) → one_if_rest (rest_here v.plan o) ≡ one_if_some o
    same None = refl
    same (Some e) = refl

kept_owed : (f : Format) (s : Kept) (v : SenderView) → Keeps f s v → total (λ t. rest_owes t.rest) s.tracks ≡ owed_by_parts v
kept_owed f s v k = ap (total (λ t. rest_owes t.rest)) k.holds.tracks ∙ total_table (λ t. rest_owes t.rest) (track_here v) (λ s. owed_for (fragments_from v.plan (continued v.plan s))) v.streams (λ s. same s (continued v.plan s) refl)
  where
    same : (s : ℕ) (o : Option Entry) → continued v.plan s ≡ o → rest_owes (rest_here v.plan o) ≡ owed_for (fragments_from v.plan o)
    same s None is = refl
    same s (Some (Part l n x)) is = refl
    same s (Some (End l n)) is = let next = continued_is v.streams v.plan s (End l n) (is_named f v k.reached) is in absurd (let no_end = next.is in cc)

pub owed_is : (f : Format) (s : Kept) (v : SenderView) → Keeps f s v
    → (owed_by_queue s.queue % 2 ^ 64 + total (λ t. rest_owes t.rest) s.tracks % 2 ^ 64) % 2 ^ 64 ≡ owed_by_queue v.queue + owed_by_parts v
owed_is f s v k =
    let queue = ap owed_by_queue k.holds.queue in
    let parts = kept_owed f s v k in
    let most = is_promised f v k.reached in
    omega (arith, queue, parts, most)

pub promised_is : (f : Format) (s : Kept) (v : SenderView) (owed : ℕ) → Keeps f s v → owed ≡ owed_by_queue v.queue + owed_by_parts v → ((s.cum + length s.items) % 2 ^ 64 + owed) % 2 ^ 64 ≡ promised v
promised_is f s v owed k is =
    let long = kept_length f s v k in
    let cum = k.holds.cum in
    let most = is_promised f v k.reached in
    omega (arith, long, cum, is, most)

-- ---- a message more

pub keeps_queued : (f : Format) (s : Kept) (v : SenderView) (lane : Lane) (payload ticket : ℕ) (bytes : List ℕ) (until limit : Option ℕ) (capacity q : ℕ) (ns : List ℕ) → Keeps f s v → refusal v lane.stream bytes ≡ None → ticket ≡ suc v.tickets → IsPushed s.passed q s.moments ns until → unwrap_or until LAST_MOMENT < 2 ^ 64
    → length s.items + (owed_by_queue v.queue + owed_by_parts v + owed_for (length (cut v.fragment bytes))) ≤ capacity
    → Keeps f (record s { queue = s.queue ++ record { lane = lane; message = record { ticket = ticket; payload = payload; fragments = cut s.fragment bytes; until = until; limit = limit } } ∷ []; fates = s.fates ++ StillQueued ∷ []; passed = q; moments = ns; capacity = capacity })
    (queued v lane payload bytes until limit)
keeps_queued f s v lane payload ticket bytes until limit capacity q ns k free given pushed small space =
    let u = queued v lane payload bytes until limit in
    let x : Queued = record { lane = lane; message = record { ticket = suc v.tickets; payload = payload; fragments = cut v.fragment bytes; until = until; limit = limit } } in
    let last : fate_here u (1 + v.tickets) ≡ StillQueued =
    let one : 1 + v.tickets ≡ suc v.tickets = omega arith in
    let here : (suc v.tickets == suc v.tickets) ≡ true = grind (arith, nat_tests) in
    let waiting : waits (suc v.tickets) (v.queue ++ x ∷ []) ≡ true = waits_push (suc v.tickets) v.queue x ∙ rw here (or_true (waits (suc v.tickets) v.queue)) in
    rw one (ap (λ (b : Bool). if b then StillQueued else fate_named u (name_of u (suc v.tickets))) waiting) in
    let same : (t : ℕ) → 1 ≤ t → t < 1 + v.tickets → fate_here u t ≡ fate_here v t = λ t lo hi.
    let off : (suc v.tickets == t) ≡ false = grind (arith, nat_tests) in
    let waiting : waits t (v.queue ++ x ∷ []) ≡ waits t v.queue = waits_push t v.queue x ∙ rw off (or_false (waits t v.queue)) in
    ap (λ (b : Bool). if b then StillQueued else fate_named u (name_of u t)) waiting in
    let fates : s.fates ++ StillQueued ∷ [] ≡ table (fate_here u) 1 (suc v.tickets) = rw (table-push (fate_here u) 1 v.tickets, last, table-same (fate_here u) (fate_here v) 1 v.tickets same, k.holds.fates) refl in
    record {
      holds = record {
        initial = k.holds.initial;
        streams = k.holds.streams;
        fragment = k.holds.fragment;
        partial = k.holds.partial;
        cum = k.holds.cum;
        rwnd = k.holds.rwnd;
        turn = k.holds.turn;
        items = k.holds.items;
        queue = rw (k.holds.queue, k.holds.fragment, given) refl;
        tracks = k.holds.tracks;
        fates = fates;
        covered = k.holds.covered;
        room = let more = owed_push v.queue x in omega (arith, more, space);
      };
      over = let within = k.over.within in let held = k.due.many in record {
        within = omega arith;
        each = λ t le. let o = k.over.each t le in record { queue = not_waiting_more t s.queue _ o.queue (λ is. omega arith); tracks = o.tracks; items = o.items };
      };
      due = record {
        many = let held = k.due.many in let more = many_pushed s.passed q s.moments ns until pushed in omega (arith, more, held);
        each = λ t now lt.
            let more = due_pushed s.passed q s.moments ns until t now pushed small lt in
            let i = k.due.each t now more.0 in
            let held = k.due.many in
            record {
              queue = late_queue_more now t s.queue _ i.queue (late_before now t (record { ticket = ticket; payload = payload; fragments = cut s.fragment bytes; until = until; limit = limit }) (λ same. more.1 (omega (arith, held, given, same))));
              items = λ on. by_pushed t now pushed (i.items on);
              tracks = i.tracks;
            };
      };
      forward = k.forward;
      resets = k.resets;
      before = k.before;
      counted = k.counted ∙ sym (push_open s.fates StillQueued refl);
      limits = k.limits;
      reached = Queues v lane payload bytes until limit k.reached free;
    }
  where
    or_true : (b : Bool) → (b || true) ≡ true
    or_true true = refl
    or_true false = refl

    or_false : (b : Bool) → (b || false) ≡ b
    or_false true = refl
    or_false false = refl

    -- what is passed waits alone: no entry has its ticket
    by_pushed : (t now : ℕ) → IsPushed s.passed q s.moments ns until → some_late now t (standing_messages (nat_lt s.passed t && s.asleep) s.items) ≡ false → some_late now t (standing_messages (nat_lt q t && s.asleep) s.items) ≡ false
    by_pushed t now (inl more) idle = rw more.0 idle
    by_pushed t now (inr none) idle =
        let last = none.1 in
        elim (cases_lt q t) [
          | inl past ↦
              let is : nat_lt q t ≡ true = grind (arith, nat_tests) in
              let was : nat_lt s.passed t ≡ true = let lt : s.passed < t = omega (arith, past, last) in grind (arith, nat_tests) in
              ap (λ (c : Bool). some_late now t (standing_messages (c && s.asleep) s.items)) (is ∙ sym was) ∙ idle
          | inr le ↦ let is : nat_lt q t ≡ false = grind (arith, nat_tests) in ap (λ (c : Bool). some_late now t (standing_messages (c && s.asleep) s.items)) is ∙ elim (cases_lt s.passed t) [
            | inl past ↦ let many = k.due.many in let empty = ap (λ (ms : List ℕ). length ms) none.2 in late_other_items now t false s.items (items_given f s v t k (omega (arith, past, many, empty)))
            | inr low ↦ let was : nat_lt s.passed t ≡ false = grind (arith, nat_tests) in ap (λ (c : Bool). some_late now t (standing_messages (c && s.asleep) s.items)) (sym was) ∙ idle
          ]
        ]

-- the room that is taken for it
pub room_queued : (f : Format) (s : Kept) (v : SenderView) (stream : ℕ) (bytes : List ℕ) (owed more capacity : ℕ) → Keeps f s v → refusal v stream bytes ≡ None → owed ≡ owed_by_queue v.queue + owed_by_parts v
    → more ≡ owed_for (length (cut s.fragment bytes)) % 2 ^ 64 → length s.items + (owed + more) % 2 ^ 64 ≤ capacity → length s.items + (owed_by_queue v.queue + owed_by_parts v + owed_for (length (cut v.fragment bytes))) ≤ capacity
room_queued f s v stream bytes owed more capacity k free all one space =
    let most = (accepted v stream bytes free).owed in
    let size = ap (λ (x : ℕ). owed_for (length (cut x bytes))) k.holds.fragment in
    omega (arith, most, size, all, one, space)

-- ---- the refusals

ceil_short : (n size : ℕ) → 0 < size → div_ceil n size ≤ n
ceil_short n size p = let whole : size * (n / size) + n % size ≡ n = omega arith in let least : 1 * (n / size) ≤ size * (n / size) = mul-le-mul_right (n / size) p in omega (arith, whole, least)

-- a message has no more fragments than bytes
pub cut_short : (size : ℕ) (bytes : List ℕ) → 0 < size → length (cut size bytes) ≤ length bytes
cut_short size bytes p = rw (length-cut size bytes) (ceil_short (length bytes) size p)

owed_small : (n : ℕ) → n ≤ 65536 → owed_for n ≤ 65537
owed_small n le = omega arith

-- the limit of a message's bytes
longest_is : (f : Format) (s : Kept) (v : SenderView) → Keeps f s v → v.limits.message ≡ LONGEST_MESSAGE
longest_is f s v k = ap (λ (l : SendLimits). l.message) k.limits

-- the bytes of the messages that wait have no limit
never_over : (f : Format) (s : Kept) (v : SenderView) (bytes : List ℕ) → Keeps f s v → is_over v bytes ≡ false
never_over f s v bytes k = ap (λ (l : SendLimits). some_passes (λ (most : ℕ). nat_lt most (queued_bytes v.queue + length bytes)) l.queue) k.limits

-- the first five reasons don't hold
pub record IsFit (s : Kept) (n : ℕ) (bytes : List ℕ) : Type 0 where
  pub stream : n < s.streams
  pub sends : is_sending (sending_under s.resets.table n) ≡ true
  pub some : 0 < length bytes
  pub short : length bytes ≤ 65536
  pub waits : length s.queue < 1024

-- nothing but Spent can hold then
only_spent : (f : Format) (s : Kept) (v : SenderView) (stream : ℕ) (bytes : List ℕ) → Keeps f s v → IsFit s stream bytes
    → refusal v stream bytes ≡ (if nat_le TICKET_LIMIT v.tickets || nat_lt TSN_LIMIT (promised v + owed_for (length (cut v.fragment bytes))) then Some Spent else None)
only_spent f s v stream bytes k fit =
    let streams = k.holds.streams in
    let queue = ap (λ (qs : List Queued). length qs) k.holds.queue in
    let one = fit.stream in
    let two = fit.some in
    let three = fit.short in
    let four = fit.waits in
    let a : nat_le v.streams stream ≡ false = grind (arith, nat_tests) in
    let b : (length bytes == 0) ≡ false = grind (arith, nat_tests) in
    let most = longest_is f s v k in
    let c : nat_lt v.limits.message (length bytes) ≡ false = grind (arith, nat_tests) in
    let d : (nat_le QUEUE_LIMIT (length v.queue) || is_over v bytes) ≡ false =
    let full : nat_le QUEUE_LIMIT (length v.queue) ≡ false = grind (arith, nat_tests) in
    rw (full, never_over f s v bytes k) refl in
    let e = sends_by f s v stream k (omega arith) ∙ fit.sends in
    rw (a, b, c, d, e) (by_test (nat_le TICKET_LIMIT v.tickets || nat_lt TSN_LIMIT (promised v + owed_for (length (cut v.fragment bytes)))))
  where
    by_test : (x : Bool) → first_there (when x Spent ∷ []) ≡ (if x then Some Spent else None)
    by_test true = refl
    by_test false = refl

-- as many tickets are given as are kept fates
pub fates_given : (f : Format) (s : Kept) (v : SenderView) → Keeps f s v → length s.fates ≡ v.tickets
fates_given f s v k = ap (λ (xs : List Fate). length xs) k.holds.fates ∙ length-table (fate_here v) 1 v.tickets

pub spent_ticket : (f : Format) (s : Kept) (v : SenderView) (stream : ℕ) (bytes : List ℕ) → Keeps f s v → IsFit s stream bytes → TICKET_LIMIT ≤ length s.fates → refusal v stream bytes ≡ Some Spent
spent_ticket f s v stream bytes k fit over =
    let fates = fates_given f s v k in
    let e : nat_le TICKET_LIMIT v.tickets ≡ true = grind (arith, nat_tests) in
    only_spent f s v stream bytes k fit ∙ rw e refl

-- what the sum of what is promised and owed says
sum_fits : (f : Format) (s : Kept) (v : SenderView) (bytes : List ℕ) (p o : ℕ) → Keeps f s v → length bytes ≤ 65536 → p ≡ promised v → o ≡ owed_for (length (cut s.fragment bytes)) % 2 ^ 64
    → (p + o) % 2 ^ 64 ≡ promised v + owed_for (length (cut v.fragment bytes))
sum_fits f s v bytes p o k short promise owed =
    let most = is_promised f v k.reached in
    let size = ap (λ (x : ℕ). owed_for (length (cut x bytes))) k.holds.fragment in
    let little = owed_small (length (cut s.fragment bytes)) (let c = cut_short s.fragment bytes (let size = k.holds.fragment in let some = (is_set f v k.reached).fragment in omega arith) in omega arith) in
    omega (arith, most, size, little, promise, owed)

pub spent_owed : (f : Format) (s : Kept) (v : SenderView) (stream : ℕ) (bytes : List ℕ) (p o : ℕ) → Keeps f s v → IsFit s stream bytes → length s.fates < TICKET_LIMIT → p ≡ promised v → o ≡ owed_for (length (cut s.fragment bytes)) % 2 ^ 64
    → TSN_LIMIT < (p + o) % 2 ^ 64 → refusal v stream bytes ≡ Some Spent
spent_owed f s v stream bytes p o k fit under promise owed over =
    let fates = fates_given f s v k in
    let sum = sum_fits f s v bytes p o k fit.short promise owed in
    let e : nat_le TICKET_LIMIT v.tickets ≡ false = grind (arith, nat_tests) in
    let g : nat_lt TSN_LIMIT (promised v + owed_for (length (cut v.fragment bytes))) ≡ true = grind (arith, nat_tests) in
    only_spent f s v stream bytes k fit ∙ rw (e, g) refl

pub none_refuses : (f : Format) (s : Kept) (v : SenderView) (stream : ℕ) (bytes : List ℕ) (p o : ℕ) → Keeps f s v → IsFit s stream bytes → length s.fates < TICKET_LIMIT → p ≡ promised v → o ≡ owed_for (length (cut s.fragment bytes)) % 2 ^ 64
    → (p + o) % 2 ^ 64 ≤ TSN_LIMIT → refusal v stream bytes ≡ None
none_refuses f s v stream bytes p o k fit under promise owed within =
    let fates = fates_given f s v k in
    let sum = sum_fits f s v bytes p o k fit.short promise owed in
    let e : nat_le TICKET_LIMIT v.tickets ≡ false = grind (arith, nat_tests) in
    let g : nat_lt TSN_LIMIT (promised v + owed_for (length (cut v.fragment bytes))) ≡ false = grind (arith, nat_tests) in
    only_spent f s v stream bytes k fit ∙ rw (e, g) refl

-- want of memory is told where nothing refuses
pub memory_told : (v : SenderView) (stream : ℕ) (bytes : List ℕ) (r : Result Ticket SendFault) (P : SendFault → Type 0) → IsErrAnd r P → ((e : SendFault) → P e → e ≡ NoMemory) → refusal v stream bytes ≡ None → QueueAnswer v stream bytes r
memory_told v stream bytes (Err e) P told only none = subst (λ (x : SendFault). refused_with (refusal v stream bytes) x) (sym (only e told)) none
memory_told v stream bytes (Ok t) P told only none = absurd told

-- and nothing is queued then
pub none_queued : (v : SenderView) (lane : Lane) (payload : ℕ) (bytes : List ℕ) (until limit : Option ℕ) (r : Result Ticket SendFault) (P : SendFault → Type 0) → IsErrAnd r P → queue_after v lane payload bytes until limit r ≡ v
none_queued v lane payload bytes until limit (Err e) P told = refl
none_queued v lane payload bytes until limit (Ok t) P told = absurd told
