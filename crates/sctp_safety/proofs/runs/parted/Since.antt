-- What a sender keeps while it goes on: its entries and its messages stay, and what takes a number waited before, or was sent later.
use Rattle.std.proofs.Common.{◌≡◌, ℕ, ◌<◌, ◌≤◌, ◌⊎◌, Bool, true, false, List, [], ◌∷◌, ◌++◌, length, slice_get, Option, Some, inl, inr, refl, sym, subst, ap, ◌∙◌, arith, append-nil}
use Rattle.std.specs.Prelude.{if◌then◌else◌, fold}
use Rattle.std.proofs.lemmas.List.{append_assoc}
use Rattle.sctp_model.specs.numbers.Lists.{Has}
use Rattle.sctp_model.specs.messages.Format.{Format, Lane}
use Rattle.sctp_model.specs.messages.Plan.{Message, Entry, End, Plan, message_at, parts_from}
use Rattle.sctp_model.specs.sender.SenderView.{Queued, SenderView}
use Rattle.sctp_model.specs.sender.Assigning.{with_message, with_entry, without_first}
use Rattle.sctp_model.specs.sender.Queueing.{new_message, queued}
use Rattle.sctp_model.specs.sender.Filling.{Wish, next_wish, gone, Follows}
use Rattle.sctp_model.specs.sender.Abandoning.{Name, without, with_abandoned, abandon_after, is_overdue, expire_one, expired, worn}
use Rattle.sctp_model.specs.sender.Words.{count_up}
use Rattle.sctp_model.specs.end.Moments.{given_up}
use Rattle.sctp_model.proofs.sender.WishCases.{IsAssigned, Whole, Begun, Continued, after_wish}
use Rattle.sctp_model.proofs.sender.AbandonCases.{after_abandon, after_end}
use Rattle.sctp_model.proofs.sender.FillLaws.{goes_parts}
use Rattle.sctp_model.proofs.sender.WordLaws.{found_is}
use Rattle.sctp_model.proofs.sender.WornLaws.{wears_each}
use Rattle.sctp_safety.proofs.lists.Basics.{at_lane_cases, slice_get-left, slice_get-push, Has-push}

-- a message that had no number: it waited on this lane, or had no ticket
abbrev pub IsNew : SenderView → Lane → Message → Type 0
IsNew v l m = ((q : Queued) × Has v.queue q × (q.lane ≡ l) × (q.message ≡ m)) ⊎ (v.tickets < m.ticket)

pub record Since (v u : SenderView) : Type 0 where
  pub entries : (es : List Entry) × (u.plan.entries ≡ v.plan.entries ++ es)
  pub stays : (l : Lane) (n : ℕ) (m : Message) → message_at v.plan l n ≡ Some m → message_at u.plan l n ≡ Some m
  pub numbered : (l : Lane) (n : ℕ) (m : Message) → message_at u.plan l n ≡ Some m → (message_at v.plan l n ≡ Some m) ⊎ IsNew v l m
  pub waits : (q : Queued) → Has u.queue q → Has v.queue q ⊎ (v.tickets < q.message.ticket)
  pub tickets : v.tickets ≤ u.tickets

-- the same plan, and no message more that waits
pub since_calm : (v u : SenderView) → u.plan ≡ v.plan → ((q : Queued) → Has u.queue q → Has v.queue q) → u.tickets ≡ v.tickets → Since v u
since_calm v u plan fewer tickets = record {
  entries = ([], ap (λ (p : Plan). p.entries) plan ∙ sym (append-nil v.plan.entries));
  stays = λ l n m h. subst (λ (p : Plan). message_at p l n ≡ Some m) (sym plan) h;
  numbered = λ l n m h. inl (subst (λ (p : Plan). message_at p l n ≡ Some m) plan h);
  waits = λ q has. inl (fewer q has);
  tickets = omega (arith, tickets);
}

pub since_same : (v u : SenderView) → u.plan ≡ v.plan → u.queue ≡ v.queue → u.tickets ≡ v.tickets → Since v u
since_same v u plan queue tickets = since_calm v u plan (λ q has. subst (λ (qs : List Queued). Has qs q) queue has) tickets

pub since_itself : (v : SenderView) → Since v v
since_itself v = since_same v v refl refl refl

pub since_on : (v u w : SenderView) → Since v u → Since u w → Since v w
since_on v u w a b = record {
  entries = (a.entries.0 ++ b.entries.0, b.entries.1 ∙ ap (λ (es : List Entry). es ++ b.entries.0) a.entries.1 ∙ append_assoc v.plan.entries a.entries.0 b.entries.0);
  stays = λ l n m h. b.stays l n m (a.stays l n m h);
  numbered = λ l n m h. by_last l n m (b.numbered l n m h);
  waits = λ q has. waiting q (b.waits q has);
  tickets = (let x = a.tickets in let y = b.tickets in omega (arith, x, y));
}
  where
    waiting : (q : Queued) → Has u.queue q ⊎ (u.tickets < q.message.ticket) → Has v.queue q ⊎ (v.tickets < q.message.ticket)
    waiting q (inl has) = a.waits q has
    waiting q (inr late) = inr (let x = a.tickets in omega (arith, x, late))

    from_queue : (l : Lane) (m : Message) (q : Queued) → q.lane ≡ l → q.message ≡ m → Has v.queue q ⊎ (v.tickets < q.message.ticket) → IsNew v l m
    from_queue l m q lane same (inl has) = inl (q, has, lane, same)
    from_queue l m q lane same (inr late) = inr (subst (λ (x : Message). v.tickets < x.ticket) same late)

    by_last : (l : Lane) (n : ℕ) (m : Message) → (message_at u.plan l n ≡ Some m) ⊎ IsNew u l m → (message_at v.plan l n ≡ Some m) ⊎ IsNew v l m
    by_last l n m (inl old) = a.numbered l n m old
    by_last l n m (inr (inl (q, has, lane, same))) = inr (from_queue l m q lane same (a.waits q has))
    by_last l n m (inr (inr late)) = inr (inr (let x = a.tickets in omega (arith, x, late)))

-- ---- a message is sent

pub since_queued : (v : SenderView) (l : Lane) (payload : ℕ) (bytes : List ℕ) (until limit : Option ℕ) → Since v (queued v l payload bytes until limit)
since_queued v l payload bytes until limit = record {
  entries = ([], sym (append-nil v.plan.entries));
  stays = λ k n m h. h;
  numbered = λ k n m h. inl h;
  waits = λ q has. which q (Has-push v.queue (record { lane = l; message = new_message v payload bytes until limit }) q has);
  tickets = omega arith;
}
  where
    which : (q : Queued) → Has v.queue q ⊎ (record { lane = l; message = new_message v payload bytes until limit } ≡ q) → Has v.queue q ⊎ (v.tickets < q.message.ticket)
    which q (inl has) = inl has
    which q (inr same) = inr (subst (λ (x : Queued). v.tickets < x.message.ticket) same (omega arith))

-- ---- it takes a number

without_some : (test : Queued → Bool) (qs : List Queued) (q : Queued) → Has (without_first test qs) q → Has qs q
without_some test [] q has = absurd has
without_some test (x ∷ xs) q has = go (test x) has (λ more. without_some test xs q more)
  where
    go : (b : Bool) → Has (if b then xs else x ∷ without_first test xs) q → (Has (without_first test xs) q → Has xs q) → Has (x ∷ xs) q
    go true here further = inr here
    go false (inl same) further = inl same
    go false (inr more) further = inr (further more)

since_numbered : (v : SenderView) (q : Queued) (count turn : ℕ) (queue : List Queued) → Has v.queue q → ((y : Queued) → Has queue y → Has v.queue y)
    → Since v (record v { plan = with_message v.plan q count; queue = queue; turn = turn })
since_numbered v q count turn queue waits fewer = record {
  entries = (parts_from q.lane (length (v.plan.messages q.lane)) 0 count, refl);
  stays = λ l n m h. at_lane_cases (λ (ms : List Message). slice_get ms n ≡ Some m) v.plan.messages q.lane (v.plan.messages q.lane ++ q.message ∷ []) l
      (λ e. slice_get-left (v.plan.messages q.lane) (q.message ∷ []) n m (subst (λ (k : Lane). message_at v.plan k n ≡ Some m) e h)) (λ ne. h);
  numbered = λ l n m h. at_lane_cases (λ (ms : List Message). slice_get ms n ≡ Some m → (message_at v.plan l n ≡ Some m) ⊎ IsNew v l m) v.plan.messages q.lane
      (v.plan.messages q.lane ++ q.message ∷ []) l (λ e there. pushed l n m e there) (λ ne there. inl there) h;
  waits = λ y has. inl (fewer y has);
  tickets = omega arith;
}
  where
    pushed : (l : Lane) (n : ℕ) (m : Message) → l ≡ q.lane → slice_get (v.plan.messages q.lane ++ q.message ∷ []) n ≡ Some m → (message_at v.plan l n ≡ Some m) ⊎ IsNew v l m
    pushed l n m e there = elim (slice_get-push (v.plan.messages q.lane) q.message n m there) [
      | inl old ↦ inl (subst (λ (k : Lane). message_at v.plan k n ≡ Some m) (sym e) old)
      | inr new ↦ inr (inl (q, waits, sym e, new.1))
    ]

-- a plan with an entry more
since_entry : (v u : SenderView) (x : Entry) → u.plan ≡ with_entry v.plan x → ((q : Queued) → Has u.queue q → Has v.queue q) → u.tickets ≡ v.tickets → Since v u
since_entry v u x plan fewer tickets = record {
  entries = (x ∷ [], ap (λ (p : Plan). p.entries) plan);
  stays = λ l n m h. subst (λ (p : Plan). message_at p l n ≡ Some m) (sym plan) h;
  numbered = λ l n m h. inl (subst (λ (p : Plan). message_at p l n ≡ Some m) plan h);
  waits = λ q has. inl (fewer q has);
  tickets = omega (arith, tickets);
}

since_assigned : (f : Format) (v u : SenderView) → IsAssigned v f u → Since v u
since_assigned _ v _ (Whole q rest is) =
    since_numbered v q (length q.message.fragments) v.turn rest (subst (λ (qs : List Queued). Has qs q) (sym is) (inl refl)) (λ y has. subst (λ (qs : List Queued). Has qs y) (sym is) (inr has))
since_assigned _ v _ (Begun s q lt idle first) = since_numbered v q 1 _ _ (found_is _ v.queue q first).0 (λ y has. without_some _ v.queue y has)
since_assigned _ v u (Continued s x lt on) = since_entry v _ x refl (λ q has. has) refl

pub since_gone : (f : Format) (v : SenderView) (w : Wish) → next_wish f v ≡ Some w → Since v (gone w)
since_gone f v w next =
    after_wish (Since v) f v w (since_itself v) (λ u is. since_assigned f v u is)
    (λ u i h. record { entries = h.entries; stays = h.stays; numbered = h.numbered; waits = h.waits; tickets = h.tickets }) next

pub since_filled : (f : Format) (v : SenderView) (room : ℕ) (ws : List Wish) (u : SenderView) → Follows f v room ws u → Since v u
since_filled f v room [] u same = subst (Since v) (sym same) (since_itself v)
since_filled f v room (w ∷ ws) u (first, rest) =
    since_on v (gone w) u (since_gone f v w (goes_parts f room v w first).0) (since_filled f (gone w) _ ws u rest)

-- ---- it is given up

since_given : (v : SenderView) (n : Name) → Since v (with_abandoned v n)
since_given v n =
    after_end (λ (p : Plan). Since v (record (with_abandoned v n) { plan = p })) v n
    (λ off. since_same v (record (with_abandoned v n) { plan = v.plan }) refl refl refl)
    (λ on. since_entry v (record (with_abandoned v n) { plan = with_entry v.plan (End n.lane n.number) }) (End n.lane n.number) refl (λ q has. has) refl)

pub since_abandoned : (v : SenderView) (t : ℕ) → Since v (abandon_after v t)
since_abandoned v t =
    after_abandon (Since v) v t (since_itself v) (λ on. since_calm v (record v { queue = without t v.queue }) refl (λ q has. without_some _ v.queue q has) refl) (λ n is kept. since_given v n)

expire_each : (v u : SenderView) (now : ℕ) (ts : List ℕ) → Since v u → Since v (fold (expire_one now) u ts)
expire_each v u now [] h = h
expire_each v u now (t ∷ ts) h = expire_each v (expire_one now u t) now ts (one (is_overdue u now t))
  where
    one : (b : Bool) → Since v (if b then abandon_after u t else u)
    one true = since_on v u (abandon_after u t) h (since_abandoned u t)
    one false = h

pub since_expired : (v : SenderView) (now : ℕ) → Since v (expired v now)
since_expired v now = expire_each v v now (count_up 1 v.tickets) (since_itself v)

pub since_worn : (test : ℕ → Bool) (v : SenderView) → Since v (worn test v)
since_worn test v = wears_each (Since v) (λ u t h. since_on v u (abandon_after u t) h (since_abandoned u t)) test v (count_up 1 (length v.plan.entries)) (since_itself v)

pub since_given_up : (b : Bool) (v : SenderView) (now : ℕ) → Since v (given_up b v now)
since_given_up true v now = since_on v (expired v now) (worn (λ i. true) (expired v now)) (since_expired v now) (since_worn (λ i. true) (expired v now))
since_given_up false v now = since_expired v now
