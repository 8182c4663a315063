-- Bounds on what counts: the messages of a lane are fewer than the TSNs promised, the fragments of a message no more than the bytes of the longest.
use Rattle.std.proofs.Common.{◌≡◌, ℕ, zero, suc, ◌<◌, ◌≤◌, ◌^◌, List, [], ◌∷◌, ◌++◌, length, Bool, true, false, Some, ap, subst, arith, length-append}
use Rattle.std.specs.Prelude.{slice_get, if◌then◌else◌}
use Rattle.sctp_model.specs.messages.Format.{Format, Lane, same_lane}
use Rattle.sctp_model.specs.messages.Plan.{Message, Entry, End, Plan, parts_from}
use Rattle.sctp_model.specs.sender.SenderView.{Queued, SendLimits, SenderView}
use Rattle.sctp_model.specs.sender.Entries.{entry_fragment, fragments_in, continued}
use Rattle.sctp_model.specs.sender.Assigning.{with_message, with_entry, is_on, first_on, without_first}
use Rattle.sctp_model.specs.sender.Reached.{IsReached, Begins, Queues, Goes, Covers, Closes, Abandons, Repeats, Rebases}
use Rattle.sctp_model.proofs.sender.WishCases.{IsAssigned, Whole, Begun, Continued, after_wish}
use Rattle.sctp_model.proofs.sender.AbandonCases.{after_abandon, after_end}
use Rattle.sctp_model.proofs.sender.SetLaws.{AllFilled, is_filled, accepted, is_set}
use Rattle.sctp_model.proofs.sender.Bounds.{length-parts}
use Rattle.sctp_model.proofs.sender.PlanLaws.{continued_is}
use Rattle.sctp_model.proofs.sender.CountLaws.{is_named}
use Rattle.sctp_model.proofs.sender.OwedLaws.{is_promised}
use Rattle.sctp_send.specs.SenderStands.{plain_limits}
use Rattle.sctp_send.proofs.QueueLemmas.{cut_short}

-- ---- messages of a lane

-- each message has an index of its own
abbrev HasIndexes : SenderView → Type 0
HasIndexes v = (l : Lane) → length (v.plan.messages l) ≤ length v.plan.entries

indexes_new : (v : SenderView) (q : Queued) (d : ℕ) → HasIndexes v → 0 < d → (l : Lane) → length ((with_message v.plan q d).messages l) ≤ length (with_message v.plan q d).entries
indexes_new v q d h some l = by_lane (same_lane l q.lane)
  where
    by_lane : (b : Bool) → length (if b then v.plan.messages q.lane ++ q.message ∷ [] else v.plan.messages l) ≤ length (with_message v.plan q d).entries
    by_lane true =
        let more = length-append (v.plan.messages q.lane) (q.message ∷ []) in
        let longer = length-append v.plan.entries (parts_from q.lane (length (v.plan.messages q.lane)) 0 d) in
        let parts = length-parts q.lane (length (v.plan.messages q.lane)) 0 d in
        omega (arith, h q.lane, more, longer, parts, some)
    by_lane false = let longer = length-append v.plan.entries (parts_from q.lane (length (v.plan.messages q.lane)) 0 d) in omega (arith, h l, longer)

indexes_more : (v : SenderView) (e : Entry) → HasIndexes v → (l : Lane) → length (v.plan.messages l) ≤ length (with_entry v.plan e).entries
indexes_more v e h l = let longer = length-append v.plan.entries (e ∷ []) in omega (arith, h l, longer)

indexes_assigned : (f : Format) (v u : SenderView) → AllFilled v.streams v.queue → HasIndexes v → IsAssigned v f u → HasIndexes u
indexes_assigned _ v _ full h (Whole q rest is) = indexes_new v q (length q.message.fragments) h (subst (λ (qs : List Queued). AllFilled v.streams qs) is full).0.0
indexes_assigned _ v _ full h (Begun s q lt idle first) = indexes_new v q 1 h (omega arith)
indexes_assigned _ v _ full h (Continued s e lt on) = indexes_more v e h

has_indexes : (f : Format) (v : SenderView) → IsReached f v → HasIndexes v
has_indexes f _ (Begins i s b r p most large) = λ l. omega arith
has_indexes f _ (Queues v l p b u x h free) = has_indexes f v h
has_indexes f _ (Goes v room w h next may) = after_wish HasIndexes f v w (has_indexes f v h) (λ u a. indexes_assigned f v u (is_filled f v h) (has_indexes f v h) a) (λ u i k. k) next
has_indexes f _ (Covers v x h none) = has_indexes f v h
has_indexes f _ (Closes v x h none) = has_indexes f v h
has_indexes f _ (Abandons v t h) =
    let before = has_indexes f v h in
    after_abandon HasIndexes v t before (λ on. before) (λ n is kept. after_end (λ (p : Plan). (l : Lane) → length (p.messages l) ≤ length p.entries) v n (λ off. before) (λ on. indexes_more v (End n.lane n.number) before))
has_indexes f _ (Repeats v test h) = has_indexes f v h
has_indexes f _ (Rebases v x h) = has_indexes f v h

-- the code counts them in 64 bits
pub few_messages : (f : Format) (v : SenderView) (l : Lane) → IsReached f v → suc (length (v.plan.messages l)) < 2 ^ 64
few_messages f v l h = let all = has_indexes f v h l in let most = is_promised f v h in omega (arith, all, most)

-- ---- fragments of a message

-- none of these messages has more fragments than the longest message may have bytes
abbrev AllShort : {A : Type 0} → (most : ℕ) → (A → Message) → List A → Type 0
AllShort most g [] = Unit {0}
AllShort most g (x ∷ xs) = (length (g x).fragments ≤ most) × AllShort most g xs

short_push : {A : Type 0} (most : ℕ) (g : A → Message) (xs : List A) (x : A) → AllShort most g xs → length (g x).fragments ≤ most → AllShort most g (xs ++ x ∷ [])
short_push most g [] x h short = (short, tt)
short_push most g (y ∷ xs) x h short = (h.0, short_push most g xs x h.1 short)

-- a message that waits, without its place in the queue
abbrev of_queued : Queued → Message
of_queued q = q.message

abbrev itself : Message → Message
itself m = m

short_rest : (most : ℕ) (meant : Queued → Bool) (qs : List Queued) → AllShort most of_queued qs → AllShort most of_queued (without_first meant qs)
short_rest most meant [] h = tt
short_rest most meant (q ∷ qs) h = by_test (meant q) (short_rest most meant qs h.1)
  where
    by_test : (b : Bool) → AllShort most of_queued (without_first meant qs) → AllShort most of_queued (if b then qs else q ∷ without_first meant qs)
    by_test true rest = h.1
    by_test false rest = (h.0, rest)

short_first : (most s : ℕ) (q : Queued) (qs : List Queued) → AllShort most of_queued qs → first_on s qs ≡ Some q → length q.message.fragments ≤ most
short_first most s q [] h is = absurd (cc)
short_first most s q (x ∷ qs) h is = by_test (is_on s x) is (λ there. short_first most s q qs h.1 there)
  where
    by_test : (b : Bool) → (if b then Some x else first_on s qs) ≡ Some q → (first_on s qs ≡ Some q → length q.message.fragments ≤ most) → length q.message.fragments ≤ most
    by_test true here further = let same : x ≡ q = cc in subst (λ (y : Queued). length y.message.fragments ≤ most) same h.0
    by_test false here further = further here

short_there : (most : ℕ) (ms : List Message) (n : ℕ) → AllShort most itself ms → length (fragments_in (slice_get ms n)) ≤ most
short_there most [] n h = omega arith
short_there most (m ∷ ms) zero h = h.0
short_there most (m ∷ ms) (suc n) h = short_there most ms n h.1

-- so it is with those that wait, and with those of each lane
abbrev IsShort : SenderView → Type 0
IsShort v = AllShort v.limits.message of_queued v.queue × ((l : Lane) → AllShort v.limits.message itself (v.plan.messages l))

short_new : (v : SenderView) (q : Queued) (d : ℕ) → ((l : Lane) → AllShort v.limits.message itself (v.plan.messages l)) → length q.message.fragments ≤ v.limits.message → (l : Lane) → AllShort v.limits.message itself ((with_message v.plan q d).messages l)
short_new v q d h short l = by_lane (same_lane l q.lane)
  where
    by_lane : (b : Bool) → AllShort v.limits.message itself (if b then v.plan.messages q.lane ++ q.message ∷ [] else v.plan.messages l)
    by_lane true = short_push v.limits.message itself (v.plan.messages q.lane) q.message (h q.lane) short
    by_lane false = h l

short_assigned : (f : Format) (v u : SenderView) → IsShort v → IsAssigned v f u → IsShort u
short_assigned _ v _ h (Whole q rest is) =
    let all = subst (λ (qs : List Queued). AllShort v.limits.message of_queued qs) is h.0 in
    (all.1, short_new v q (length q.message.fragments) h.1 all.0)
short_assigned _ v _ h (Begun s q lt idle first) = (short_rest v.limits.message (is_on s) v.queue h.0, short_new v q 1 h.1 (short_first v.limits.message s q v.queue h.0 first))
short_assigned _ v _ h (Continued s e lt on) = h

are_short : (f : Format) (v : SenderView) → IsReached f v → IsShort v
are_short f _ (Begins i s b r p most large) = (tt, λ l. tt)
are_short f _ (Queues v l p b u x h free) =
    let k = are_short f v h in
    let bytes = (accepted v l.stream b free).short in
    let cut = cut_short v.fragment b (is_set f v h).fragment in
    (short_push v.limits.message of_queued v.queue _ k.0 (omega (arith, bytes, cut)), k.1)
are_short f _ (Goes v room w h next may) = after_wish IsShort f v w (are_short f v h) (λ u a. short_assigned f v u (are_short f v h) a) (λ u i k. k) next
are_short f _ (Covers v x h none) = are_short f v h
are_short f _ (Closes v x h none) = are_short f v h
are_short f _ (Abandons v t h) =
    let k = are_short f v h in
    after_abandon IsShort v t k (λ on. (short_rest v.limits.message _ v.queue k.0, k.1))
    (λ n is kept. (k.0, after_end (λ (p : Plan). (l : Lane) → AllShort v.limits.message itself (p.messages l)) v n (λ off. k.1) (λ on. k.1)))
are_short f _ (Repeats v test h) = are_short f v h
are_short f _ (Rebases v x h) = are_short f v h

-- the code counts those of a message in part in 32 bits
pub few_fragments : (f : Format) (v : SenderView) (s : ℕ) (e : Entry) → IsReached f v → v.limits ≡ plain_limits → continued v.plan s ≡ Some e → suc (entry_fragment e) < 2 ^ 32
few_fragments f v s e h plain on =
    let next = continued_is v.streams v.plan s e (is_named f v h) on in
    let few = short_there v.limits.message (v.plan.messages next.lane) next.number ((are_short f v h).1 next.lane) in
    let most = ap (λ (l : SendLimits). l.message) plain in
    let at_is = ap entry_fragment next.is in
    omega (arith, next.more, few, most, at_is)
