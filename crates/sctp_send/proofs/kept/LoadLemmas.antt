-- How many messages wait, and how many bytes they have.
use Rattle.std.proofs.Common.{◌≡◌, ℕ, suc, ◌+◌, ◌*◌, ◌%◌, ◌^◌, ◌<◌, ◌≤◌, List, [], ◌∷◌, length, map, Bool, true, false, refl, ap, subst, arith, length-append}
use Rattle.std.specs.Prelude.{if◌then◌else◌}
use Rattle.std.specs.List.{All, sum_by}
use Rattle.std.specs.declared.sync.Arc.{Arc}
use Rattle.std.specs.declared.alloc.Global.{Global}
use Rattle.std.proofs.lemmas.List.Elements.{All-cons, All-tail, All-push}
use Rattle.std.proofs.lemmas.List.Recursion.{is_sum_by}
use Rattle.std.proofs.lemmas.List.Sums.{sum_by-le}
use Rattle.sctp_model.specs.numbers.Limits.{LONGEST_MESSAGE, QUEUE_LIMIT}
use Rattle.sctp_model.specs.numbers.Lists.{joined}
use Rattle.sctp_model.specs.messages.Format.{Format}
use Rattle.sctp_model.specs.sender.SenderView.{Queued, SendLimits, SenderView}
use Rattle.sctp_model.specs.sender.Assigning.{is_on, without_first}
use Rattle.sctp_model.specs.sender.Queueing.{cut}
use Rattle.sctp_model.specs.sender.Reached.{IsReached, Begins, Queues, Goes, Covers, Closes, Abandons, Repeats, Rebases}
use Rattle.sctp_model.proofs.sender.AbandonCases.{after_abandon}
use Rattle.sctp_model.proofs.sender.CutLaws.{joined_cut}
use Rattle.sctp_model.proofs.sender.SetLaws.{accepted, is_set}
use Rattle.sctp_model.proofs.sender.WishCases.{IsAssigned, Whole, Begun, Continued, after_wish}
use Rattle.sctp_send.specs.SenderKept.{Kept}
use Rattle.sctp_send.specs.SenderStands.{Keeps}
use Rattle.sctp_send.specs.SenderFields.{queued_by}
use Rattle.sctp_send.specs.Waiting.{waiting_bytes, queued_bytes}
use Rattle.sctp_send.specs.inner.Seating.{bytes_of}
use Rattle.sctp_send.specs.declared.kept.message.Message.{Message as MessageFields}

-- ---- what is counted

-- joined, the fragments are the message
pub waiting_is : (size : ℕ) (ms : List (Arc MessageFields Global)) → 0 < size → waiting_bytes (map (queued_by size) ms) ≡ sum_by bytes_of ms
waiting_is size ms some = is_sum_by (λ (ds : List (Arc MessageFields Global)). waiting_bytes (map (queued_by size) ds)) bytes_of refl
    (λ m ds. ap (λ (bs : List ℕ). length bs + waiting_bytes (map (queued_by size) ds)) (joined_cut size m.value.bytes.items some)) ms

-- ---- in a view

-- a message isn't longer than may be
abbrev IsLight : (most : ℕ) → Queued → Type 0
IsLight most q = length (joined q.message.fragments) ≤ most

-- no more messages than may wait, and no longer ones
record AreFew (most : ℕ) (qs : List Queued) : Type 0 where
  many : length qs ≤ QUEUE_LIMIT
  light : All (IsLight most) qs

few_rest : (most : ℕ) (meant : Queued → Bool) (qs : List Queued) → AreFew most qs → AreFew most (without_first meant qs)
few_rest most meant qs h = record { many = let less = fewer qs in omega (arith, less, h.many); light = lighter qs h.light }
  where
    fewer : (xs : List Queued) → length (without_first meant xs) ≤ length xs
    fewer [] = omega arith
    fewer (x ∷ xs) = let rest = fewer xs in grind arith

    lighter : (xs : List Queued) → All (IsLight most) xs → All (IsLight most) (without_first meant xs)
    lighter [] light = light
    lighter (x ∷ xs) light = by_test (meant x) (lighter xs (All-tail (IsLight most) x xs light))
      where
        by_test : (b : Bool) → All (IsLight most) (without_first meant xs) → All (IsLight most) (if b then xs else x ∷ without_first meant xs)
        by_test true rest = All-tail (IsLight most) x xs light
        by_test false rest = All-cons (IsLight most) x _ (light 0 x (omega arith)) rest

few_behind : (most : ℕ) (q : Queued) (qs : List Queued) → AreFew most (q ∷ qs) → AreFew most qs
few_behind most q qs h = record { many = let all = h.many in omega (arith, all); light = All-tail (IsLight most) q qs h.light }

abbrev AreQueuedFew : SenderView → Type 0
AreQueuedFew v = AreFew v.limits.message v.queue

few_assigned : (f : Format) (v u : SenderView) → AreQueuedFew v → IsAssigned v f u → AreQueuedFew u
few_assigned _ v _ h (Whole q rest is) = few_behind v.limits.message q rest (subst (AreFew v.limits.message) is h)
few_assigned _ v _ h (Begun s q lt idle first) = few_rest v.limits.message (is_on s) v.queue h
few_assigned _ v _ h (Continued s e lt on) = h

are_few : (f : Format) (v : SenderView) → IsReached f v → AreQueuedFew v
are_few f _ (Begins i s b r p most large) = record { many = omega arith; light = λ k d low. absurd (omega (arith, low)) }
are_few f _ (Queues v l p b u x h free) =
    let k = are_few f v h in
    let a = accepted v l.stream b free in
    let bytes : length (joined (cut v.fragment b)) ≡ length b = ap (λ (bs : List ℕ). length bs) (joined_cut v.fragment b (is_set f v h).fragment) in
    record {
      many = let more = length-append v.queue (record { lane = l; message = record { ticket = suc v.tickets; payload = p; fragments = cut v.fragment b; until = u; limit = x } } ∷ []) in omega (arith, more, a.waits);
      light = All-push (IsLight v.limits.message) v.queue _ k.light (omega (arith, bytes, a.short));
    }
are_few f _ (Goes v room w h next may) = after_wish AreQueuedFew f v w (are_few f v h) (λ u a. few_assigned f v u (are_few f v h) a) (λ u i k. k) next
are_few f _ (Covers v x h none) = are_few f v h
are_few f _ (Closes v x h none) = are_few f v h
are_few f _ (Abandons v t h) = let k = are_few f v h in after_abandon AreQueuedFew v t k (λ on. few_rest v.limits.message _ v.queue k) (λ n is kept. k)
are_few f _ (Repeats v test h) = are_few f v h
are_few f _ (Rebases v x h) = are_few f v h

light_sum : (most : ℕ) (qs : List Queued) → All (IsLight most) qs → waiting_bytes qs ≤ length qs * most
light_sum most qs h = rw (is_sum_by waiting_bytes (λ q. length (joined q.message.fragments)) refl (λ q qs. refl) qs) (sum_by-le (λ q. length (joined q.message.fragments)) most qs h)

-- ---- what is told of them

pub queued_is : (f : Format) (s : Kept) (v : SenderView) → Keeps f s v → length s.queue ≡ length v.queue
queued_is f s v k = ap (λ (qs : List Queued). length qs) k.holds.queue

pub queued_fits : (f : Format) (s : Kept) (v : SenderView) → Keeps f s v → length s.queue ≤ QUEUE_LIMIT
queued_fits f s v k = let same = queued_is f s v k in let few = (are_few f v k.reached).many in omega (arith, same, few)

-- so few that the count in 64 bits is exact
pub queued_bytes_fit : (f : Format) (s : Kept) (v : SenderView) → Keeps f s v → queued_bytes v ≤ QUEUE_LIMIT * LONGEST_MESSAGE
queued_bytes_fit f s v k =
    let few = subst (λ (l : SendLimits). AreFew l.message v.queue) k.limits (are_few f v k.reached) in
    let sum = light_sum LONGEST_MESSAGE v.queue few.light in
    let many = few.many in
    omega (arith, sum, many)

pub queued_bytes_is : (f : Format) (s : Kept) (v : SenderView) → Keeps f s v → waiting_bytes s.queue % 2 ^ 64 ≡ queued_bytes v
queued_bytes_is f s v k =
    let same : waiting_bytes s.queue ≡ queued_bytes v = ap waiting_bytes k.holds.queue in
    let fits = queued_bytes_fit f s v k in
    omega (arith, same, fits)
