-- What is assigned next is assigned by moves: a message takes its number and its first indexes, or goes on with its next one.
use Rattle.std.proofs.Common.{◌≡◌, ℕ, zero, suc, ◌+◌, ◌<◌, ◌≤◌, ◌⊎◌, true, Bool, List, [], ◌∷◌, ◌++◌, length, slice_get, Some, None, inl, inr, refl, sym, subst, arith, ◌∙◌, eqb-true, le_refl}
use Rattle.std.proofs.lemmas.Bool.{eqb-false}
use Rattle.sctp_model.specs.numbers.Lists.{Has, item_at}
use Rattle.sctp_model.specs.messages.Format.{Format, Plain, Interleaved, Lane}
use Rattle.sctp_model.specs.messages.Plan.{Message, Entry, Part, End, Plan, entry_at, message_at, HasEnd, parts_from}
use Rattle.sctp_model.specs.sender.SenderView.{Queued, SenderView}
use Rattle.sctp_model.specs.sender.Entries.{continued}
use Rattle.sctp_model.specs.sender.Assigning.{with_message, with_entry, is_on, first_on, without_first, stream_after}
use Rattle.sctp_model.proofs.sender.WishCases.{IsAssigned, Whole, Begun, Continued}
use Rattle.sctp_safety.specs.Way.{Way, Number, Continue, IsAllClosed, HasNone, with_sender}
use Rattle.sctp_safety.specs.SenderLaws.{HasPart, IsSenderOrderly, IsMoved}
use Rattle.sctp_safety.proofs.lists.Basics.{at_lane_same, slice_get-end, slice_get-within, item_at-left, item_at-right, item_at-cases}
use Rattle.sctp_safety.proofs.moves.Facts.{Good}
use Rattle.sctp_safety.proofs.plan.PlanGrows.{grown}
use Rattle.sctp_safety.proofs.plan.PlanLemmas.{parts_get, renamed}
use Rattle.sctp_safety.proofs.moves.Taken.{leads_on, leads_by}
use Rattle.sctp_safety.proofs.plan.Searches.{IsFirstMeant, first_meant}
use Rattle.sctp_safety.proofs.plan.InPart.{AreEndsLast, idle_closed, GoesOnWith, goes_on_with}
use Rattle.sctp_safety.proofs.moves.UsualLemmas.{retuned}

-- ---- a plan that fragments of one message lengthen

-- an entry is in the plan as it was, or is new
new_or_old : (p : Plan) (ms : Lane → List Message) (l : Lane) (n k d i : ℕ) (e : Entry) → entry_at (grown p ms (parts_from l n k d)) i ≡ Some e → (entry_at p i ≡ Some e) ⊎ ((j : ℕ) × (Part l n (k + j) ≡ e))
new_or_old p ms l n k d i e here =
    elim (item_at-cases p.entries (parts_from l n k d) i e here) [
      | inl before ↦ inl before
      | inr new ↦ inr (new.0, (parts_get l n k d new.0 e new.2).1)
    ]

-- the message has no end mark so far, so end marks stay the last entries of theirs
ends_stay : (p : Plan) (ms : Lane → List Message) (l : Lane) (n k d : ℕ) → AreEndsLast p → (HasEnd p l n → ⊥) → AreEndsLast (grown p ms (parts_from l n k d))
ends_stay p ms l n k d ends unended i j b o c part mark = by_parts (new_or_old p ms l n k d i (Part b o c) part) (new_or_old p ms l n k d j (End b o) mark)
  where
    by_parts : (entry_at p i ≡ Some (Part b o c)) ⊎ ((x : ℕ) × (Part l n (k + x) ≡ Part b o c)) → (entry_at p j ≡ Some (End b o)) ⊎ ((x : ℕ) × (Part l n (k + x) ≡ End b o)) → i < j
    by_parts first (inr (x, same)) = absurd (cc)
    by_parts (inl first) (inl second) = ends i j b o c first second
    by_parts (inr (x, same)) (inl second) =
        let lane : b ≡ l = cc in
        let number : o ≡ n = cc in
        absurd (unended (j, renamed (λ (y : Lane) (z : ℕ). entry_at p j ≡ Some (End y z)) b l o n lane number second))

order_stays : (w : Way) (u : SenderView) (l : Lane) (n k d : ℕ) → IsSenderOrderly w → (HasEnd w.sender.plan l n → ⊥) → u.plan ≡ grown w.sender.plan u.plan.messages (parts_from l n k d)
    → u.marked ≡ w.sender.marked → u.tickets ≡ w.sender.tickets → IsSenderOrderly (with_sender w u)
order_stays w u l n k d order unended plan marks tickets = record {
  ends = subst AreEndsLast (sym plan) (ends_stay w.sender.plan u.plan.messages l n k d order.ends unended);
  marked = λ i on. fragment i (order.marked i (subst (λ (test : ℕ → Bool). test i ≡ true) marks on));
  tickets = tickets ∙ order.tickets;
}
  where
    fragment : (i : ℕ) → HasPart w.sender.plan i → HasPart u.plan i
    fragment i (b, o, c, here) = subst (λ (p : Plan). HasPart p i) (sym plan) (b, o, c, item_at-left w.sender.plan.entries (parts_from l n k d) i (Part b o c) here)

-- ---- what is assigned next

-- moves lead to the view, and there the next index is a fragment's, of this message
pub record Assigns (w : Way) (u : SenderView) : Type 0 where
  pub moved : IsMoved w (with_sender w u)
  pub lane : Lane
  pub number : ℕ
  pub fragment : ℕ
  pub message : Message
  pub named : message_at u.plan lane number ≡ Some message
  pub here : entry_at u.plan (suc (length w.sender.plan.entries)) ≡ Some (Part lane number fragment)

-- no entry has the number that a lane's next message takes
unmarked : (w : Way) → Good w → (l : Lane) → HasEnd w.sender.plan l (length (w.sender.plan.messages l)) → ⊥
unmarked w g l (i, mark) =
    let named = g.arranged.marked i l (length (w.sender.plan.messages l)) mark in
    let low : length (w.sender.plan.messages l) < length (w.sender.plan.messages l) = slice_get-within (w.sender.plan.messages l) (length (w.sender.plan.messages l)) named.0 named.1 in
    omega (arith, low)

-- why a message of the queue may begin: none of its stream is before it, or has an index to take; and how many fragments begin
record MayBegin (w : Way) (before : List Queued) (q : Queued) (rest : List Queued) (d : ℕ) : Type 0 where
  queue : w.sender.queue ≡ before ++ q ∷ rest
  none : HasNone before q.lane.stream
  closed : IsAllClosed w.sender.plan q.lane.stream
  within : suc d ≤ length q.message.fragments
  all : w.format ≡ Plain → suc d ≡ length q.message.fragments

begins : (w : Way) (before : List Queued) (q : Queued) (rest : List Queued) (d turn : ℕ) → Good w → IsSenderOrderly w → MayBegin w before q rest d
    → Assigns w (record w.sender { plan = with_message w.sender.plan q (suc d); queue = before ++ rest; turn = turn })
begins w before q rest d turn g order may = record {
  moved = record {
    leads = leads_on w numbered (with_sender w after)
        (leads_by w numbered (Number before q rest (suc d)) (may.queue, may.none, may.closed, omega arith, may.within, may.all, refl))
        (retuned numbered after refl refl refl refl refl (λ i. le_refl (w.sender.repeats i)));
    order = order_stays w after q.lane n 0 (suc d) order (unmarked w g q.lane) refl refl refl;
    constants = record { initial = refl; streams = refl; fragment = refl; partial = refl };
  };
  lane = q.lane;
  number = n;
  fragment = 0;
  message = q.message;
  named = subst (λ (ms : List Message). slice_get ms n ≡ Some q.message)
      (sym (at_lane_same w.sender.plan.messages q.lane (w.sender.plan.messages q.lane ++ q.message ∷ [])))
      (slice_get-end (w.sender.plan.messages q.lane) q.message);
  here = first;
}
  where
    n : ℕ
    n = length (w.sender.plan.messages q.lane)

    after : SenderView
    after = record w.sender { plan = with_message w.sender.plan q (suc d); queue = before ++ rest; turn = turn }

    numbered : Way
    numbered = with_sender w (record w.sender { plan = with_message w.sender.plan q (suc d); queue = before ++ rest })

    first : item_at (w.sender.plan.entries ++ parts_from q.lane n 0 (suc d)) (suc (length w.sender.plan.entries)) ≡ Some (Part q.lane n 0)
    first =
        let place : suc (length w.sender.plan.entries) + 0 ≡ suc (length w.sender.plan.entries) = omega arith in
        subst (λ (i : ℕ). item_at (w.sender.plan.entries ++ parts_from q.lane n 0 (suc d)) i ≡ Some (Part q.lane n 0)) place
        (item_at-right w.sender.plan.entries (parts_from q.lane n 0 (suc d)) 0 (Part q.lane n 0) refl)

-- a stream's partly sent message takes its next index
continues : (w : Way) (s turn : ℕ) (e : Entry) → IsSenderOrderly w → GoesOnWith w.sender.plan s e → Assigns w (record w.sender { plan = with_entry w.sender.plan e; turn = turn })
continues w s turn e order m = subst (λ (x : Entry). Assigns w (after x)) m.same (record {
  moved = record {
    leads = leads_on w longer (with_sender w (after part))
        (leads_by w longer (Continue m.lane m.number m.fragment 1) (m.message, m.named, omega arith, m.has, m.free, m.no_end, bound, refl))
        (retuned longer (after part) refl refl refl refl refl (λ i. le_refl (w.sender.repeats i)));
    order = order_stays w (after part) m.lane m.number (suc m.fragment) 1 order m.no_end refl refl refl;
    constants = record { initial = refl; streams = refl; fragment = refl; partial = refl };
  };
  lane = m.lane;
  number = m.number;
  fragment = suc m.fragment;
  message = m.message;
  named = m.named;
  here = slice_get-end w.sender.plan.entries part;
})
  where
    after : Entry → SenderView
    after x = record w.sender { plan = with_entry w.sender.plan x; turn = turn }

    part : Entry
    part = Part m.lane m.number (suc m.fragment)

    longer : Way
    longer = with_sender w (record w.sender { plan = with_entry w.sender.plan part })

    bound : suc m.fragment + 1 ≤ length m.message.fragments
    bound = let low = m.bound in omega (arith, low)

-- a message that waits has a fragment, so it begins with one or with as many as there are
some_fragments : (w : Way) → Good w → (before : List Queued) (q : Queued) (rest : List Queued) → w.sender.queue ≡ before ++ q ∷ rest → 0 < length q.message.fragments
some_fragments w g before q rest queue = (g.waits.filled q (subst (λ (qs : List Queued). Has qs q) (sym queue) (among before))).0
  where
    among : (bs : List Queued) → Has (bs ++ q ∷ rest) q
    among [] = inl refl
    among (b ∷ bs) = inr (among bs)

whole_begins : (w : Way) (q : Queued) (rest : List Queued) (d : ℕ) → Good w → IsSenderOrderly w → w.format ≡ Plain → w.sender.queue ≡ q ∷ rest → length q.message.fragments ≡ d → 0 < d
    → Assigns w (record w.sender { plan = with_message w.sender.plan q d; queue = rest })
whole_begins w q rest zero g order plain queue long some = absurd (omega arith)
whole_begins w q rest (suc d) g order plain queue long some = begins w [] q rest d w.sender.turn g order (record {
  queue = queue;
  none = λ x has. absurd has;
  closed = λ l n m on named. inr (m, g.arranged.complete plain l n m named);
  within = omega (arith, long);
  all = λ same. sym long;
})

-- the first message of an idle stream begins, with one fragment
turn_begins : (w : Way) (s : ℕ) (q : Queued) → Good w → IsSenderOrderly w → w.format ≡ Interleaved → continued w.sender.plan s ≡ None → first_on s w.sender.queue ≡ Some q
    → Assigns w (record w.sender { plan = with_message w.sender.plan q 1; queue = without_first (is_on s) w.sender.queue; turn = stream_after w.sender s })
turn_begins w s q g order turns idle first = by_place (first_meant (is_on s) w.sender.queue q first)
  where
    by_place : IsFirstMeant (is_on s) w.sender.queue q → Assigns w (record w.sender { plan = with_message w.sender.plan q 1; queue = without_first (is_on s) w.sender.queue; turn = stream_after w.sender s })
    by_place r =
        subst (λ (qs : List Queued). Assigns w (record w.sender { plan = with_message w.sender.plan q 1; queue = qs; turn = stream_after w.sender s })) (sym r.others)
        (begins w r.before q r.rest 0 (stream_after w.sender s) g order (record {
          queue = r.queue;
          none = λ x has on. eqb-false x.lane.stream s (r.none x has) (on ∙ stream);
          closed = subst (IsAllClosed w.sender.plan) (sym stream) (idle_closed w.format w.sender.plan g.arranged s idle);
          within = let some = some_fragments w g r.before q r.rest r.queue in omega (arith, some);
          all = λ plain. absurd (let both : Plain ≡ Interleaved = sym plain ∙ turns in cc);
        }))
      where
        stream : q.lane.stream ≡ s
        stream = eqb-true q.lane.stream s r.is

pub assigns : (w : Way) (f : Format) (u : SenderView) → Good w → IsSenderOrderly w → w.format ≡ f → IsAssigned w.sender f u → Assigns w u
assigns w _ _ g order plain (Whole q rest queue) = whole_begins w q rest (length q.message.fragments) g order plain queue refl (some_fragments w g [] q rest queue)
assigns w _ _ g order turns (Begun s q low idle first) = turn_begins w s q g order turns idle first
assigns w _ _ g order turns (Continued s e low on) = continues w s (stream_after w.sender s) e order (goes_on_with w.format w.sender.plan g.arranged order.ends s e on)
