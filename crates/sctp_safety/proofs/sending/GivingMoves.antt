-- Abandoning is moves: a message that waits leaves the queue; one with a number is given up, and takes its end mark if it is in part.
use Rattle.std.proofs.Common.{◌≡◌, ℕ, suc, ◌+◌, ◌<◌, ◌≤◌, ◌⊎◌, ◌==◌, not, ◌&&◌, ◌||◌, true, false, Bool, List, [], ◌∷◌, ◌++◌, length, zero, slice_get, Option, Some, None, inl, inr, refl, sym, subst, arith, ◌∙◌, eqb-true, leb-true, le_refl, ap}
use Rattle.std.specs.Prelude.{if◌then◌else◌, fold, find, option_map, option_and_then, unwrap_or}
use Rattle.std.proofs.lemmas.Bool.{and_parts}
use Rattle.std.proofs.lemmas.Bool.Decides.{nat_tests}
use Rattle.sctp_model.specs.numbers.Lists.{at, Has}
use Rattle.sctp_model.specs.messages.Format.{Lane, at_lane}
use Rattle.sctp_model.specs.messages.Plan.{Message, Entry, Part, End, Plan, entry_at, message_at, IsOf}
use Rattle.sctp_model.specs.sender.SenderView.{Queued, SenderView}
use Rattle.sctp_model.specs.sender.Words.{first_there, some_passes, count_up}
use Rattle.sctp_model.specs.sender.Entries.{entry_lane, entry_number, entry_message, is_of, is_in_part, is_wanted, is_unsettled, passes_at}
use Rattle.sctp_model.specs.sender.Assigning.{with_entry}
use Rattle.sctp_model.specs.sender.Abandoning.{has_ticket, name_at, name_of, waits, without, with_abandoned, abandon_after, is_past, is_overdue, expire_one, is_used_up, is_worn, is_to_repeat, is_worn_at, ticket_at, wear_one, unsettled_at, marking}
use Rattle.sctp_model.specs.sender.Abandoning.{Name as Named}
use Rattle.sctp_model.proofs.sender.WordLaws.{some_is, found_is}
use Rattle.sctp_model.proofs.sender.AbandonCases.{after_abandon}
use Rattle.sctp_model.specs.world.Safe.{IsGivenUp}
use Rattle.sctp_safety.specs.Way.{Way, IsLetGo, Name, Withdraw, Abandon, Mark, with_sender}
use Rattle.sctp_safety.specs.Exact.{Leads}
use Rattle.sctp_safety.specs.SenderLaws.{HasPart, IsSenderOrderly, IsMoved, AbandonIsMoves, ExpireIsMoves, WearIsMoves, MarkingIsMoves}
use Rattle.sctp_safety.proofs.lists.Basics.{Has-right, at_same, at_lane_same, item_at-left, item_at-cases, item_at-within}
use Rattle.sctp_safety.proofs.moves.Facts.{IsQueue, Good}
use Rattle.sctp_safety.proofs.moves.Taken.{leads_on, leads_by}
use Rattle.sctp_safety.proofs.plan.Searches.{IsFirstMeant, some_meant}
use Rattle.sctp_safety.proofs.plan.InPart.{AreEndsLast, in_part_open}
use Rattle.sctp_safety.proofs.sending.FillMoves.{wanted_part}
use Rattle.sctp_safety.proofs.moves.UsualLemmas.{leads_good, good_usual, constants_same, moved_on, nothing_moved, retuned}

-- ---- a message that has a number

-- the entries of a plan with an end mark more are its own, and the mark
own_or_mark : (p : Plan) (l : Lane) (n i : ℕ) (e : Entry) → entry_at (with_entry p (End l n)) i ≡ Some e → (entry_at p i ≡ Some e) ⊎ ((i ≡ suc (length p.entries)) × (End l n ≡ e))
own_or_mark p l n i e here =
    elim (item_at-cases p.entries (End l n ∷ []) i e here) [
      | inl before ↦ inl before
      | inr new ↦ inr (by_place new.0 new.1 new.2)
    ]
  where
    by_place : (z : ℕ) → i ≡ suc (length p.entries) + z → slice_get (End l n ∷ []) z ≡ Some e → (i ≡ suc (length p.entries)) × (End l n ≡ e)
    by_place zero at is = (omega (arith, at), cc)
    by_place (suc z) at is = absurd (cc)

-- an end mark that is last is after all fragments
mark_last : (p : Plan) (l : Lane) (n : ℕ) → AreEndsLast p → AreEndsLast (with_entry p (End l n))
mark_last p l n ends i j b o c part mark = by_parts (own_or_mark p l n i (Part b o c) part) (own_or_mark p l n j (End b o) mark)
  where
    by_parts : (entry_at p i ≡ Some (Part b o c)) ⊎ ((i ≡ suc (length p.entries)) × (End l n ≡ Part b o c)) → (entry_at p j ≡ Some (End b o)) ⊎ ((j ≡ suc (length p.entries)) × (End l n ≡ End b o)) → i < j
    by_parts (inr new) second = absurd (let clash = new.1 in cc)
    by_parts (inl first) (inl second) = ends i j b o c first second
    by_parts (inl first) (inr new) = let low : i ≤ length p.entries = item_at-within p.entries i (Part b o c) first in let at = new.0 in omega (arith, low, at)

part_still : (p : Plan) (l : Lane) (n i : ℕ) → HasPart p i → HasPart (with_entry p (End l n)) i
part_still p l n i (b, o, c, here) = (b, o, c, item_at-left p.entries (End l n ∷ []) i (Part b o c) here)

-- A message that the user may give up: abandoned; its marks end; and its end mark takes an index if it is in part.
pub abandoned_moved : (w : Way) (n : Named) (m : Message) → Good w → IsSenderOrderly w → message_at w.sender.plan n.lane n.number ≡ Some m → IsGivenUp w.sender w.asked n.lane n.number m → IsMoved w (with_sender w (with_abandoned w.sender n))
abandoned_moved w n m g order named asked = by_part (is_in_part w.sender n.lane n.number) refl
  where
    lost : Lane → ℕ → Bool
    lost = at_lane w.sender.abandoned n.lane (at (w.sender.abandoned n.lane) n.number true)

    marks : ℕ → Bool
    marks i = w.sender.marked i && not (passes_at w.sender.plan (λ j e. is_of n.lane n.number e) i)

    abandoned : Way
    abandoned = with_sender w (record w.sender { abandoned = lost })

    unmarked : SenderView
    unmarked = record w.sender { abandoned = lost; marked = marks }

    is_lost : lost n.lane n.number ≡ true
    is_lost = subst (λ (f : ℕ → Bool). f n.number ≡ true) (sym (at_lane_same w.sender.abandoned n.lane (at (w.sender.abandoned n.lane) n.number true))) (at_same (w.sender.abandoned n.lane) n.number true)

    first : Leads w (with_sender w unmarked)
    first = leads_on w abandoned (with_sender w unmarked) (leads_by w abandoned (Abandon n.lane n.number) (m, named, asked, refl)) (retuned abandoned unmarked refl refl refl refl refl (λ i. le_refl (w.sender.repeats i)))

    fewer : (i : ℕ) → marks i ≡ true → HasPart w.sender.plan i
    fewer i on = order.marked i (and_parts (w.sender.marked i) (not (passes_at w.sender.plan (λ j e. is_of n.lane n.number e) i)) on).0

    with_mark : SenderView
    with_mark = record unmarked { plan = with_entry w.sender.plan (End n.lane n.number) }

    by_part : (b : Bool) → is_in_part w.sender n.lane n.number ≡ b → IsMoved w (with_sender w (record unmarked { plan = if b then with_entry w.sender.plan (End n.lane n.number) else w.sender.plan }))
    by_part false whole = record {
      leads = first;
      order = record { ends = order.ends; marked = fewer; tickets = order.tickets };
      constants = record { initial = refl; streams = refl; fragment = refl; partial = refl };
    }
    by_part true in_part = record {
      leads = leads_on w (with_sender w unmarked) (with_sender w with_mark) first
          (leads_by (with_sender w unmarked) (with_sender w with_mark) (Mark n.lane n.number)
          (m, named, is_lost, in_part_open w.format w.sender g.arranged order.ends n.lane n.number in_part, refl));
      order = record { ends = mark_last w.sender.plan n.lane n.number order.ends; marked = λ i on. part_still w.sender.plan n.lane n.number i (fewer i on); tickets = order.tickets };
      constants = record { initial = refl; streams = refl; fragment = refl; partial = refl };
    }

-- ---- by ticket

-- the user may give up whatever message waits with this ticket
abbrev MayWithdraw : Way → ℕ → Type 0
MayWithdraw w t = (q : Queued) → Has w.sender.queue q → q.message.ticket ≡ t → IsLetGo w.asked q.message

-- the message that waits leaves the queue by a move
pub withdrawn_moved : (w : Way) (t : ℕ) → IsSenderOrderly w → MayWithdraw w t → waits t w.sender.queue ≡ true → IsMoved w (with_sender w (record w.sender { queue = without t w.sender.queue }))
withdrawn_moved w t order may waiting = by_place (some_meant (λ q. q.message.ticket == t) w.sender.queue waiting)
  where
    by_place : (q : Queued) × IsFirstMeant (λ x. x.message.ticket == t) w.sender.queue q → IsMoved w (with_sender w (record w.sender { queue = without t w.sender.queue }))
    by_place (q, r) = subst (λ (qs : List Queued). IsMoved w (with_sender w (record w.sender { queue = qs }))) (sym r.others) (record {
      leads = leads_by w (with_sender w (record w.sender { queue = r.before ++ r.rest })) (Withdraw r.before q r.rest) (r.queue, may q (subst (λ (qs : List Queued). Has qs q) (sym r.queue) (Has-right r.before (q ∷ r.rest) q (inl refl))) (eqb-true q.message.ticket t r.is), refl);
      order = record { ends = order.ends; marked = order.marked; tickets = order.tickets };
      constants = record { initial = refl; streams = refl; fragment = refl; partial = refl };
    })

-- what a ticket names is a message of the plan with this ticket
pub record Bears (p : Plan) (t : ℕ) (n : Named) : Type 0 where
  pub message : Message
  pub named : message_at p n.lane n.number ≡ Some message
  pub ticket : message.ticket ≡ t

pub name_bears : (v : SenderView) (t : ℕ) (n : Named) → name_of v t ≡ Some n → Bears v.plan t n
name_bears v t n is = by_found (find (λ e. has_ticket t (entry_message v.plan e)) v.plan.entries) refl is
  where
    by_found : (o : Option Entry) → find (λ e. has_ticket t (entry_message v.plan e)) v.plan.entries ≡ o → option_map name_at o ≡ Some n → Bears v.plan t n
    by_found None none here = absurd (cc)
    by_found (Some e) found here =
        let same : name_at e ≡ n = cc in
        let has = some_is (λ m. m.ticket == t) (entry_message v.plan e) (found_is (λ d. has_ticket t (entry_message v.plan d)) v.plan.entries e found).1 in
        subst (Bears v.plan t) same (record { message = has.0; named = has.1; ticket = eqb-true has.0.ticket t has.2 })

-- the user may give up whatever message has this ticket
abbrev MayAbandon : Way → ℕ → Type 0
MayAbandon w t = (l : Lane) (n : ℕ) (m : Message) → message_at w.sender.plan l n ≡ Some m → m.ticket ≡ t → IsGivenUp w.sender w.asked l n m

abandon_moved : (w : Way) (t : ℕ) → Good w → IsSenderOrderly w → MayAbandon w t → MayWithdraw w t → IsMoved w (with_sender w (abandon_after w.sender t))
abandon_moved w t g order may let_go = after_abandon (λ (v : SenderView). IsMoved w (with_sender w v)) w.sender t (nothing_moved w order) (λ waiting. withdrawn_moved w t order let_go waiting)
    (λ n is kept. let b = name_bears w.sender t n is in abandoned_moved w n b.message g order b.named (may n.lane n.number b.message b.named b.ticket))

pub abandon_is_moves : AbandonIsMoves
abandon_is_moves w t usual =
    moved_on w asked (with_sender asked (abandon_after w.sender t)) names (abandon_moved asked t (leads_good w asked (good_usual w usual) names.leads) names.order may let_go)
  where
    asked : Way
    asked = record w { asked = record w.asked { named = at w.asked.named t true } }

    names : IsMoved w asked
    names = record {
      leads = leads_by w asked (Name t) refl;
      order = record { ends = usual.order.ends; marked = usual.order.marked; tickets = usual.order.tickets };
      constants = constants_same w.sender;
    }

    may : MayAbandon asked t
    may l n m named ticket = inl (subst (λ (k : ℕ). at w.asked.named t true k ≡ true) (sym ticket) (at_same w.asked.named t true))

    let_go : MayWithdraw asked t
    let_go q has ticket = inl (subst (λ (k : ℕ). at w.asked.named t true k ≡ true) (sym ticket) (at_same w.asked.named t true))

-- ---- what is past its time

-- a message is past its time if that is reached
past_is : (now : ℕ) (m : Message) → is_past now m ≡ true → (u : ℕ) × (m.until ≡ Some u) × (u ≤ now)
past_is now m past = let until = some_is _ m.until past in (until.0, until.1, leb-true until.0 now until.2)

-- A message with a number whose ticket is due is past its time: no message that waits has its ticket, and no other one in the plan.
due_may : (w : Way) (now t : ℕ) → Good w → now ≤ w.asked.clock → is_overdue w.sender now t ≡ true → MayAbandon w t
due_may w now t g clock due l n m named ticket = by_wait (find (λ q. q.message.ticket == t) w.sender.queue) refl (name_of w.sender t) refl due
  where
    by_message : (k : Named) (o : Option Message) → message_at w.sender.plan k.lane k.number ≡ o → Bears w.sender.plan t k → some_passes (is_past now) (first_there (o ∷ [])) ≡ true → IsGivenUp w.sender w.asked l n m
    by_message k None is b past = absurd (cc)
    by_message k (Some x) is b past =
        let own = b.named in
        let mine : b.message ≡ x = cc in
        let tickets : m.ticket ≡ b.message.ticket = ticket ∙ sym b.ticket in
        let one = g.arranged.different l k.lane n k.number m b.message named b.named tickets in
        let there : message_at w.sender.plan k.lane k.number ≡ Some m = subst (λ (y : Lane). message_at w.sender.plan y k.number ≡ Some m) one.0 (subst (λ (y : ℕ). message_at w.sender.plan l y ≡ Some m) one.1 named) in
        let same : x ≡ m = cc in
        let until = past_is now x past in
        let low = until.2 in
        inr (inl (until.0, subst (λ (y : Message). y.until ≡ Some until.0) same until.1, omega (arith, low, clock)))

    by_name : (o : Option Named) → name_of w.sender t ≡ o → some_passes (is_past now) (first_there (option_and_then (λ k. message_at w.sender.plan k.lane k.number) o ∷ [])) ≡ true → IsGivenUp w.sender w.asked l n m
    by_name None none past = absurd (cc)
    by_name (Some k) is past = by_message k (message_at w.sender.plan k.lane k.number) refl (name_bears w.sender t k is) past

    by_wait : (o : Option Queued) → find (λ q. q.message.ticket == t) w.sender.queue ≡ o → (x : Option Named) → name_of w.sender t ≡ x
        → some_passes (is_past now) (first_there (option_map (λ q. q.message) o ∷ option_and_then (λ k. message_at w.sender.plan k.lane k.number) x ∷ [])) ≡ true → IsGivenUp w.sender w.asked l n m
    by_wait None none x is past = by_name x is past
    by_wait (Some q) found x is past =
        let has = found_is (λ y. y.message.ticket == t) w.sender.queue q found in
        absurd (g.waits.different q l n m has.0 named (ticket ∙ sym (eqb-true q.message.ticket t has.1)))

-- a message of the queue with this ticket is the first such one
one_waiting : (qs : List Queued) (t : ℕ) (q x : Queued) → IsQueue qs → find (λ y. y.message.ticket == t) qs ≡ Some x → Has qs q → q.message.ticket ≡ t → x ≡ q
one_waiting [] t q x rising found has ticket = absurd has
one_waiting (y ∷ qs) t q x (first, rising) found has ticket = by_test (y.message.ticket == t) refl found has (λ here more. one_waiting qs t q x rising here more ticket)
  where
    by_test : (b : Bool) → (y.message.ticket == t) ≡ b → (if b then Some y else find (λ z. z.message.ticket == t) qs) ≡ Some x → (y ≡ q) ⊎ Has qs q
        → (find (λ z. z.message.ticket == t) qs ≡ Some x → Has qs q → x ≡ q) → x ≡ q
    by_test true on here (inl same) further = cc
    by_test true on here (inr more) further = absurd (let low = first q more in let own = eqb-true y.message.ticket t on in omega (arith, low, own, ticket))
    by_test false off here (inl same) further = absurd (let own : y.message.ticket ≡ t = subst (λ (z : Queued). z.message.ticket ≡ t) (sym same) ticket in let on : (y.message.ticket == t) ≡ true = grind (arith, nat_tests) in cc)
    by_test false off here (inr more) further = further here more

-- and so there is a first one
none_found : (qs : List Queued) (t : ℕ) (q : Queued) → Has qs q → q.message.ticket ≡ t → find (λ y. y.message.ticket == t) qs ≡ None → ⊥
none_found [] t q has ticket none = has
none_found (y ∷ qs) t q has ticket none = by_test (y.message.ticket == t) refl has none (λ more empty. none_found qs t q more ticket empty)
  where
    by_test : (b : Bool) → (y.message.ticket == t) ≡ b → (y ≡ q) ⊎ Has qs q → (if b then Some y else find (λ z. z.message.ticket == t) qs) ≡ None
        → (Has qs q → find (λ z. z.message.ticket == t) qs ≡ None → ⊥) → ⊥
    by_test true on there empty further = absurd (cc)
    by_test false off (inl same) empty further = absurd (let own : y.message.ticket ≡ t = subst (λ (z : Queued). z.message.ticket ≡ t) (sym same) ticket in let on : (y.message.ticket == t) ≡ true = grind (arith, nat_tests) in cc)
    by_test false off (inr more) empty further = further more empty

-- one that waits and is due is past its time
due_let_go : (w : Way) (now t : ℕ) → Good w → now ≤ w.asked.clock → is_overdue w.sender now t ≡ true → MayWithdraw w t
due_let_go w now t g clock due q has ticket = by_found (find (λ y. y.message.ticket == t) w.sender.queue) refl due
  where
    by_found : (o : Option Queued) → find (λ y. y.message.ticket == t) w.sender.queue ≡ o
        → some_passes (is_past now) (first_there (option_map (λ y. y.message) o ∷ option_and_then (λ k. message_at w.sender.plan k.lane k.number) (name_of w.sender t) ∷ [])) ≡ true → IsLetGo w.asked q.message
    by_found None none past = absurd (none_found w.sender.queue t q has ticket none)
    by_found (Some x) found past =
        let same = one_waiting w.sender.queue t q x g.waits.rising found has ticket in
        let until = past_is now x.message past in
        let low = until.2 in
        inr (until.0, subst (λ (y : Queued). y.message.until ≡ Some until.0) same until.1, omega (arith, low, clock))

-- one ticket after the other
expire_moved : (w : Way) (now : ℕ) (ts : List ℕ) → Good w → IsSenderOrderly w → now ≤ w.asked.clock → IsMoved w (with_sender w (fold (expire_one now) w.sender ts))
expire_moved w now [] g order clock = nothing_moved w order
expire_moved w now (t ∷ ts) g order clock =
    let first = one (is_overdue w.sender now t) refl in
    let next = with_sender w (expire_one now w.sender t) in
    moved_on w next (with_sender w (fold (expire_one now) w.sender (t ∷ ts))) first (expire_moved next now ts (leads_good w next g first.leads) first.order clock)
  where
    one : (b : Bool) → is_overdue w.sender now t ≡ b → IsMoved w (with_sender w (if b then abandon_after w.sender t else w.sender))
    one false idle = nothing_moved w order
    one true due = abandon_moved w t g order (due_may w now t g clock due) (due_let_go w now t g clock due)

pub expire_is_moves : ExpireIsMoves
expire_is_moves w now usual clock = expire_moved w now (count_up 1 w.sender.tickets) (good_usual w usual) usual.order clock

-- ---- what was repeated as often as it may be

-- A message that is worn has a limit, and a fragment that was repeated so often.
worn_may : (w : Way) (test : ℕ → Bool) (i : ℕ) → Good w → is_worn_at test w.sender i ≡ true → MayAbandon w (ticket_at w.sender i)
worn_may w test i g out l n m named ticket = by_entry here.0 here.1 here.2
  where
    here : (e : Entry) × (entry_at w.sender.plan i ≡ Some e) × ((is_unsettled w.sender i e && is_worn w.sender i e) ≡ true)
    here = some_is (λ e. is_unsettled w.sender i e && is_worn w.sender i e) (entry_at w.sender.plan i) (and_parts (test i) (passes_at w.sender.plan (λ j e. is_unsettled w.sender j e && is_worn w.sender j e) i) out).1

    of_names : (e : Entry) → l ≡ entry_lane e → n ≡ entry_number e → IsOf l n e
    of_names (Part b o k) lane number = (sym lane, sym number)
    of_names (End b o) lane number = (sym lane, sym number)

    by_entry : (e : Entry) → entry_at w.sender.plan i ≡ Some e → (is_unsettled w.sender i e && is_worn w.sender i e) ≡ true → IsGivenUp w.sender w.asked l n m
    by_entry e there on =
        let worn = (and_parts (is_unsettled w.sender i e) (is_worn w.sender i e) on).1 in
        let used = some_is (is_used_up (w.sender.repeats i)) (entry_message w.sender.plan e) (and_parts w.sender.partial (some_passes (is_used_up (w.sender.repeats i)) (entry_message w.sender.plan e)) worn).1 in
        let limit = some_is _ used.0.limit used.2 in
        let found = used.1 in
        let whose : option_and_then (entry_message w.sender.plan) (entry_at w.sender.plan i) ≡ Some used.0 = ap (option_and_then (entry_message w.sender.plan)) there ∙ found in
        let own : ticket_at w.sender i ≡ used.0.ticket = ap (λ (o : Option Message). unwrap_or (option_map (λ x. x.ticket) o) 0) whose in
        let one = g.arranged.different l (entry_lane e) n (entry_number e) m used.0 named found (ticket ∙ own) in
        let its : message_at w.sender.plan (entry_lane e) (entry_number e) ≡ Some m = subst (λ (y : Lane). message_at w.sender.plan y (entry_number e) ≡ Some m) one.0 (subst (λ (y : ℕ). message_at w.sender.plan l y ≡ Some m) one.1 named) in
        let same : used.0 ≡ m = cc in
        inr (inr (limit.0, subst (λ (y : Message). y.limit ≡ Some limit.0) same limit.1, (i, e, there, of_names e one.0 one.1, leb-true limit.0 (w.sender.repeats i) limit.2)))

-- its ticket is that of a message with a number, so none waits with it
worn_let_go : (w : Way) (test : ℕ → Bool) (i : ℕ) → Good w → is_worn_at test w.sender i ≡ true → MayWithdraw w (ticket_at w.sender i)
worn_let_go w test i g out q has ticket = by_entry here.0 here.1 here.2
  where
    here : (e : Entry) × (entry_at w.sender.plan i ≡ Some e) × ((is_unsettled w.sender i e && is_worn w.sender i e) ≡ true)
    here = some_is (λ e. is_unsettled w.sender i e && is_worn w.sender i e) (entry_at w.sender.plan i) (and_parts (test i) (passes_at w.sender.plan (λ j e. is_unsettled w.sender j e && is_worn w.sender j e) i) out).1

    by_entry : (e : Entry) → entry_at w.sender.plan i ≡ Some e → (is_unsettled w.sender i e && is_worn w.sender i e) ≡ true → IsLetGo w.asked q.message
    by_entry e there on =
        let worn = (and_parts (is_unsettled w.sender i e) (is_worn w.sender i e) on).1 in
        let used = some_is (is_used_up (w.sender.repeats i)) (entry_message w.sender.plan e) (and_parts w.sender.partial (some_passes (is_used_up (w.sender.repeats i)) (entry_message w.sender.plan e)) worn).1 in
        let whose : option_and_then (entry_message w.sender.plan) (entry_at w.sender.plan i) ≡ Some used.0 = ap (option_and_then (entry_message w.sender.plan)) there ∙ used.1 in
        let own : ticket_at w.sender i ≡ used.0.ticket = ap (λ (o : Option Message). unwrap_or (option_map (λ x. x.ticket) o) 0) whose in
        absurd (g.waits.different q (entry_lane e) (entry_number e) used.0 has used.1 (sym own ∙ sym ticket))

-- one index after the other
wear_moved : (w : Way) (test : ℕ → Bool) (is : List ℕ) → Good w → IsSenderOrderly w → IsMoved w (with_sender w (fold (wear_one test) w.sender is))
wear_moved w test [] g order = nothing_moved w order
wear_moved w test (i ∷ is) g order =
    let first = one (is_worn_at test w.sender i) refl in
    let next = with_sender w (wear_one test w.sender i) in
    moved_on w next (with_sender w (fold (wear_one test) w.sender (i ∷ is))) first (wear_moved next test is (leads_good w next g first.leads) first.order)
  where
    one : (b : Bool) → is_worn_at test w.sender i ≡ b → IsMoved w (with_sender w (if b then abandon_after w.sender (ticket_at w.sender i) else w.sender))
    one false idle = nothing_moved w order
    one true out = abandon_moved w (ticket_at w.sender i) g order (worn_may w test i g out) (worn_let_go w test i g out)

pub wear_is_moves : WearIsMoves
wear_is_moves w test usual = wear_moved w test (count_up 1 (length w.sender.plan.entries)) (good_usual w usual) usual.order

-- ---- what is marked

-- what it marks is wanted, and so a fragment
pub marking_is_moves : MarkingIsMoves
marking_is_moves w test usual = record {
  leads = retuned w (marking w.sender test) refl refl refl refl refl (λ i. le_refl (w.sender.repeats i));
  order = record {
    ends = usual.order.ends;
    marked = λ i on. by_mark i (w.sender.marked i) refl on;
    tickets = usual.order.tickets;
  };
  constants = record { initial = refl; streams = refl; fragment = refl; partial = refl };
}
  where
    by_mark : (i : ℕ) (b : Bool) → w.sender.marked i ≡ b → (b || (test i && unsettled_at w.sender i (entry_at w.sender.plan i))) ≡ true → HasPart w.sender.plan i
    by_mark i true before on = usual.order.marked i before
    by_mark i false before on =
        let there = some_is (is_to_repeat w.sender i) (entry_at w.sender.plan i) (and_parts (test i) (unsettled_at w.sender i (entry_at w.sender.plan i)) on).1 in
        let unsettled = (and_parts (is_unsettled w.sender i there.0) (not (is_worn w.sender i there.0)) there.2).0 in
        wanted_part w (good_usual w usual) i there.0 there.1 (and_parts (w.sender.sent i) (is_wanted w.sender i there.0) unsettled).1
