-- What is repeated as often as its limit allows: it is given up by abandoning message after message, and nothing goes out more often than that.
use Rattle.std.proofs.Common.{◌≡◌, ℕ, zero, suc, ◌<◌, ◌≤◌, Bool, true, false, List, [], ◌∷◌, ◌++◌, length, Option, Some, None, refl, sym, ap, ◌∙◌, subst, arith, if◌then◌else◌}
use Rattle.std.specs.Prelude.{◌==◌, not, ◌&&◌, ◌||◌, nat_le, nat_lt, fold, slice_get, option_and_then}
use Rattle.std.proofs.lemmas.Bool.{and_parts}
use Rattle.std.proofs.lemmas.Bool.Decides.{nat_tests}
use Rattle.sctp_model.specs.numbers.Lists.{item_at}
use Rattle.sctp_model.specs.messages.Format.{Format}
use Rattle.sctp_model.specs.messages.Plan.{Message, Entry, End, Plan, entry_at, parts_from}
use Rattle.sctp_model.specs.sender.SenderView.{Queued, SenderView}
use Rattle.sctp_model.specs.sender.Words.{some_passes, count_up}
use Rattle.sctp_model.specs.sender.Entries.{entry_message, is_of, is_unsettled, is_unsent, passes_at}
use Rattle.sctp_model.specs.sender.Assigning.{with_message}
use Rattle.sctp_model.specs.sender.Filling.{Wish, repeats_then, with_sent, gone, next_wish}
use Rattle.sctp_model.specs.sender.Abandoning.{Name, with_abandoned, abandon_after, is_used_up, is_worn, is_to_repeat, unsettled_at, marking, is_worn_at, ticket_at, wear_one, worn}
use Rattle.sctp_model.specs.sender.Reached.{IsReached, Begins, Queues, Goes, Covers, Closes, Abandons, Repeats, Rebases}
use Rattle.sctp_model.proofs.sender.WordLaws.{some_is}
use Rattle.sctp_model.proofs.sender.WishCases.{IsAssigned, Whole, Begun, Continued, assigned_cases, IsWished, Repeated, Unsent, New, wished_ways}
use Rattle.sctp_model.proofs.sender.AbandonCases.{after_abandon, after_end}
use Rattle.sctp_model.proofs.sender.PlanLaws.{AllNamed, message_stays}
use Rattle.sctp_model.proofs.sender.CountLaws.{HasMessages, is_named}
use Rattle.sctp_model.proofs.sender.Bounds.{IsBounded, is_bounded}
use Rattle.sctp_model.proofs.sender.MarkLaws.{entry_kept}

-- ---- one index after the other

-- what calls that abandon keep, wearing keeps
pub wears_each : (P : SenderView → Type 0) → ((u : SenderView) (t : ℕ) → P u → P (abandon_after u t)) → (test : ℕ → Bool) (v : SenderView) (is : List ℕ) → P v → P (fold (wear_one test) v is)
wears_each P keeps test v [] p = p
wears_each P keeps test v (i ∷ is) p = wears_each P keeps test (wear_one test v i) is (one (is_worn_at test v i))
  where
    one : (b : Bool) → P (if b then abandon_after v (ticket_at v i) else v)
    one true = keeps v (ticket_at v i) p
    one false = p

-- the view after it is one that calls reach
pub worn_reached : (f : Format) (test : ℕ → Bool) (v : SenderView) → IsReached f v → IsReached f (worn test v)
worn_reached f test v h = wears_each (IsReached f) (λ u t k. Abandons u t k) test v (count_up 1 (length v.plan.entries)) h

-- ---- nothing goes out too often

-- the limit of the message at an index, if it has one
abbrev pub limit_of : Plan → Option Entry → Option ℕ
limit_of p o = option_and_then (λ e. option_and_then (λ m. m.limit) (entry_message p e)) o

-- If messages may be abandoned, no fragment goes out again more often than its message's limit.
pub record IsLimited (v : SenderView) : Type 0 where
  pub fresh : (i : ℕ) → v.sent i ≡ false → v.repeats i ≡ 0
  pub most : v.partial ≡ true → (i k : ℕ) → limit_of v.plan (entry_at v.plan i) ≡ Some k → v.repeats i ≤ k
  pub marked : v.partial ≡ true → (i k : ℕ) → limit_of v.plan (entry_at v.plan i) ≡ Some k → v.marked i ≡ true → v.repeats i < k

-- ---- a longer plan

-- the message of an entry that there was is the same
named_at : (n : ℕ) (p : Plan) (q : Queued) (d : ℕ) (es : List Entry) (i : ℕ) → AllNamed n p es → limit_of (with_message p q d) (slice_get es i) ≡ limit_of p (slice_get es i)
named_at n p q d [] i named = refl
named_at n p q d (e ∷ es) zero named = ap (λ (o : Option Message). option_and_then (λ m. m.limit) o) (message_stays n p q d e named.0)
named_at n p q d (e ∷ es) (suc i) named = named_at n p q d es i named.1

named_item : (n : ℕ) (p : Plan) (q : Queued) (d : ℕ) (es : List Entry) (i : ℕ) → AllNamed n p es → limit_of (with_message p q d) (item_at es i) ≡ limit_of p (item_at es i)
named_item n p q d es zero named = refl
named_item n p q d es (suc i) named = named_at n p q d es i named

-- The plan grows, and says of what there was what it said before.
limited_longer : (v : SenderView) (p : Plan) (qs : List Queued) (turn : ℕ) → IsBounded v → IsLimited v
    → ((i : ℕ) → i ≤ length v.plan.entries → limit_of p (entry_at p i) ≡ limit_of v.plan (entry_at v.plan i)) → IsLimited (record v { plan = p; queue = qs; turn = turn })
limited_longer v p qs turn b h low = record {
  fresh = h.fresh;
  most = λ on i k is. most on i k is (nat_lt (length v.plan.entries) i) refl;
  marked = λ on i k is mark. marked on i k is mark (nat_lt (length v.plan.entries) i) refl;
}
  where
    most : v.partial ≡ true → (i k : ℕ) → limit_of p (entry_at p i) ≡ Some k → (t : Bool) → nat_lt (length v.plan.entries) i ≡ t → v.repeats i ≤ k
    most on i k is true past = let none = h.fresh i (b.unsent i (grind (arith, nat_tests))) in omega (arith, none)
    most on i k is false within = h.most on i k (sym (low i (grind (arith, nat_tests))) ∙ is)

    marked : v.partial ≡ true → (i k : ℕ) → limit_of p (entry_at p i) ≡ Some k → v.marked i ≡ true → (t : Bool) → nat_lt (length v.plan.entries) i ≡ t → v.repeats i < k
    marked on i k is mark true past = absurd (let off = b.unmarked i (grind (arith, nat_tests)) in cc)
    marked on i k is mark false within = h.marked on i k (sym (low i (grind (arith, nat_tests))) ∙ is) mark

limit_before : (v : SenderView) (q : Queued) (d : ℕ) → HasMessages v → (i : ℕ) → i ≤ length v.plan.entries
    → limit_of (with_message v.plan q d) (entry_at (with_message v.plan q d) i) ≡ limit_of v.plan (entry_at v.plan i)
limit_before v q d named i low =
    ap (λ (o : Option Entry). limit_of (with_message v.plan q d) o) (entry_kept v.plan.entries (parts_from q.lane (length (v.plan.messages q.lane)) 0 d) i low)
    ∙ named_item v.streams v.plan q d v.plan.entries i named

limited_assigned : (f : Format) (v u : SenderView) → IsBounded v → HasMessages v → IsLimited v → IsAssigned v f u → IsLimited u
limited_assigned _ v _ b named h (Whole q rest is) = limited_longer v (with_message v.plan q (length q.message.fragments)) rest v.turn b h (λ i low. limit_before v q (length q.message.fragments) named i low)
limited_assigned _ v _ b named h (Begun s q lt on first) = limited_longer v (with_message v.plan q 1) _ _ b h (λ i low. limit_before v q 1 named i low)
limited_assigned _ v _ b named h (Continued s e lt on) =
    limited_longer v (record v.plan { entries = v.plan.entries ++ e ∷ [] }) v.queue _ b h (λ i low. ap (λ (o : Option Entry). limit_of v.plan o) (entry_kept v.plan.entries (e ∷ []) i low))

-- assigning sends nothing
same_sent : (f : Format) (v u : SenderView) → IsAssigned v f u → (i : ℕ) → u.sent i ≡ v.sent i
same_sent _ v _ (Whole q rest is) i = refl
same_sent _ v _ (Begun s q lt on first) i = refl
same_sent _ v _ (Continued s e lt on) i = refl

-- ---- a fragment goes out

-- one that is marked, or never went out
limited_sent : (v : SenderView) (i : ℕ) → ((v.sent i ≡ true → v.marked i ≡ true)) → IsLimited v → IsLimited (with_sent v i)
limited_sent v i first h = record {
  fresh = λ j off. fresh j (j == i) off;
  most = λ on j k is. most on j k is (j == i) refl;
  marked = λ on j k is mark. marked on j k is (j == i) mark;
}
  where
    fresh : (j : ℕ) (t : Bool) → (if t then true else v.sent j) ≡ false → (if t then repeats_then v i else v.repeats j) ≡ 0
    fresh j true off = absurd (cc)
    fresh j false off = h.fresh j off

    once_more : v.partial ≡ true → (k : ℕ) → limit_of v.plan (entry_at v.plan i) ≡ Some k → (s : Bool) → v.sent i ≡ s → (if s then suc (v.repeats i) else v.repeats i) ≤ k
    once_more on k is true went = let low = h.marked on i k is (first went) in omega (arith, low)
    once_more on k is false went = h.most on i k is

    most : v.partial ≡ true → (j k : ℕ) → limit_of v.plan (entry_at v.plan j) ≡ Some k → (t : Bool) → (j == i) ≡ t → (if t then repeats_then v i else v.repeats j) ≤ k
    most on j k is true same = let at : j ≡ i = grind (arith, nat_tests) in once_more on k (subst (λ (n : ℕ). limit_of v.plan (entry_at v.plan n) ≡ Some k) at is) (v.sent i) refl
    most on j k is false other = h.most on j k is

    marked : v.partial ≡ true → (j k : ℕ) → limit_of v.plan (entry_at v.plan j) ≡ Some k → (t : Bool) → (if t then false else v.marked j) ≡ true → (if t then repeats_then v i else v.repeats j) < k
    marked on j k is true mark = absurd (cc)
    marked on j k is false mark = h.marked on j k is mark

limited_wish : (f : Format) (v : SenderView) (w : Wish) → IsBounded v → HasMessages v → IsLimited v → next_wish f v ≡ Some w → IsLimited (gone w)
limited_wish f v w b named h next = by_way w (wished_ways f v w next)
  where
    lost : (x : Bool) → not x ≡ true → x ≡ true → ⊥
    lost true is on = absurd (cc)
    lost false is on = absurd (cc)

    by_way : (x : Wish) → IsWished f v x → IsLimited (gone x)
    by_way _ (Repeated i low) = limited_sent v i (λ went. low.passes) h
    by_way _ (Unsent i marks low) =
        let there = some_is (is_unsent v i) (entry_at v.plan i) low.passes in
        limited_sent v i (λ went. absurd (lost (v.sent i) (and_parts (not (v.sent i)) _ there.2).0 went)) h
    by_way _ (New u marks unsent new) =
        let a = assigned_cases f v u new in
        let off = b.unsent (suc (length v.plan.entries)) (omega arith) in
        limited_sent u (suc (length v.plan.entries)) (λ went. absurd (let same = same_sent f v u a (suc (length v.plan.entries)) in cc)) (limited_assigned f v u b named h a)

-- ---- the other calls

limited_given : (v : SenderView) (n : Name) → IsBounded v → IsLimited v → IsLimited (with_abandoned v n)
limited_given v n b h = after_end (λ (p : Plan). IsLimited (record (with_abandoned v n) { plan = p })) v n (λ off. fewer v h) (λ on. fewer (longer v) more)
  where
    longer : SenderView → SenderView
    longer v = record v { plan = record v.plan { entries = v.plan.entries ++ End n.lane n.number ∷ [] } }

    more : IsLimited (longer v)
    more = limited_longer v (record v.plan { entries = v.plan.entries ++ End n.lane n.number ∷ [] }) v.queue v.turn b h (λ i low. ap (λ (o : Option Entry). limit_of v.plan o) (entry_kept v.plan.entries (End n.lane n.number ∷ []) i low))

    fewer : (u : SenderView) → IsLimited u → IsLimited (record u { abandoned = (with_abandoned v n).abandoned; marked = λ i. u.marked i && not (passes_at v.plan (λ j e. is_of n.lane n.number e) i) })
    fewer u k = record { fresh = k.fresh; most = k.most; marked = λ on i m is mark. k.marked on i m is (and_parts (u.marked i) _ mark).0 }

-- what may not go again isn't marked
limited_timed : (v : SenderView) (test : ℕ → Bool) → IsLimited v → IsLimited (marking v test)
limited_timed v test h = record { fresh = h.fresh; most = h.most; marked = λ on i k is mark. by_mark on i k is (v.marked i) refl mark }
  where
    by_mark : v.partial ≡ true → (i k : ℕ) → limit_of v.plan (entry_at v.plan i) ≡ Some k → (b : Bool) → v.marked i ≡ b → (b || (test i && unsettled_at v i (entry_at v.plan i))) ≡ true → v.repeats i < k
    by_mark on i k is true marked mark = h.marked on i k is marked
    by_mark on i k is false marked mark =
        let there = some_is (is_to_repeat v i) (entry_at v.plan i) (and_parts (test i) (unsettled_at v i (entry_at v.plan i)) mark).1 in
        let fresh = (and_parts (is_unsettled v i there.0) (not (is_worn v i there.0)) there.2).1 in
        let limit = subst (λ (o : Option Entry). limit_of v.plan o ≡ Some k) there.1 is in
        by_message (entry_message v.plan there.0) limit (subst (λ (p : Bool). not (p && some_passes (is_used_up (v.repeats i)) (entry_message v.plan there.0)) ≡ true) on fresh)
      where
        by_limit : (o : Option ℕ) → o ≡ Some k → not (some_passes (λ limit. nat_le limit (v.repeats i)) o) ≡ true → v.repeats i < k
        by_limit None none off = absurd (cc)
        by_limit (Some l) some off = let same : l ≡ k = cc in grind (arith, nat_tests)

        by_message : (m : Option Message) → option_and_then (λ x. x.limit) m ≡ Some k → not (true && some_passes (is_used_up (v.repeats i)) m) ≡ true → v.repeats i < k
        by_message None none off = absurd (cc)
        by_message (Some m) some off = by_limit m.limit some off

pub is_limited : (f : Format) (v : SenderView) → IsReached f v → IsLimited v
is_limited f _ (Begins i s b r p most large) = record { fresh = λ j off. refl; most = λ on j k is. omega arith; marked = λ on j k is mark. absurd (cc) }
is_limited f _ (Queues v l p b u n h free) = let k = is_limited f v h in record { fresh = k.fresh; most = k.most; marked = k.marked }
is_limited f _ (Goes v room w h next may) = limited_wish f v w (is_bounded f v h) (is_named f v h) (is_limited f v h) next
is_limited f _ (Covers v x h none) = let k = is_limited f v h in record { fresh = k.fresh; most = k.most; marked = λ on i n is mark. k.marked on i n is (and_parts (v.marked i) _ mark).0 }
is_limited f _ (Closes v x h none) = let k = is_limited f v h in record { fresh = k.fresh; most = k.most; marked = λ on i n is mark. k.marked on i n is (and_parts (v.marked i) _ mark).0 }
is_limited f _ (Abandons v t h) =
    let k = is_limited f v h in
    after_abandon IsLimited v t k (λ on. record { fresh = k.fresh; most = k.most; marked = k.marked }) (λ n is kept. limited_given v n (is_bounded f v h) k)
is_limited f _ (Repeats v test h) = limited_timed v test (is_limited f v h)
is_limited f _ (Rebases v x h) = let k = is_limited f v h in record { fresh = k.fresh; most = k.most; marked = k.marked }
