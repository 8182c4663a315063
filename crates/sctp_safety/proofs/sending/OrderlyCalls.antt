-- Every view that a sender's calls reach has an orderly plan, whatever SACKs arrived: what is covered doesn't matter to the plan, so the calls are moves of
-- a direction in which nothing was ever acknowledged.
use Rattle.std.proofs.Common.{◌≡◌, ℕ, suc, ◌<◌, not, ◌&&◌, ◌||◌, true, false, Bool, List, [], ◌∷◌, ◌++◌, length, Option, Some, None, inl, refl, sym, subst, ◌∙◌, zero, ◌≤◌, le_refl}
use Rattle.std.proofs.lemmas.Bool.{and_parts}
use Rattle.sctp_model.specs.numbers.Lists.{at}
use Rattle.sctp_model.specs.messages.Format.{Format, Lane}
use Rattle.sctp_model.specs.messages.Plan.{Entry, entry_at}
use Rattle.sctp_model.specs.messages.Orderly.{Orderly}
use Rattle.sctp_model.specs.sender.SenderView.{SenderView, fresh_sender, SendLimits}
use Rattle.sctp_model.specs.receiver.ReceiverView.{fresh_receiver}
use Rattle.sctp_model.specs.world.Calls.{Call}
use Rattle.sctp_model.specs.sender.Entries.{is_of_abandoned, is_wanted, is_unsettled}
use Rattle.sctp_model.specs.sender.Queueing.{refusal, queued}
use Rattle.sctp_model.specs.sender.Filling.{Wish, next_wish, repeats_then, with_sent, gone}
use Rattle.sctp_model.specs.sender.SackTaken.{covered_by}
use Rattle.sctp_model.specs.sender.Abandoning.{name_of, waits, without, with_abandoned, is_worn, is_to_repeat, marking, unsettled_at}
use Rattle.sctp_model.specs.sender.Abandoning.{Name as Named}
use Rattle.sctp_model.specs.sender.Outgoing.{Outgoing}
use Rattle.sctp_model.specs.sender.Reached.{IsReached, Begins, Queues, Goes, Covers, Closes, Abandons, Repeats, Rebases}
use Rattle.sctp_model.proofs.sender.WordLaws.{some_is}
use Rattle.sctp_model.proofs.sender.WishCases.{IsAssigned, Whole, Begun, Continued, assigned_cases, IsWished, Repeated, Unsent, New, wished_ways}
use Rattle.sctp_model.proofs.sender.AbandonCases.{after_abandon}
use Rattle.sctp_model.proofs.sender.SetLaws.{is_set}
use Rattle.sctp_safety.specs.Way.{Way, Name, IsStart, with_sender}
use Rattle.sctp_safety.specs.SenderLaws.{HasPart, IsUsual, IsMoved}
use Rattle.sctp_safety.specs.SenderCalls.{PlanStaysOrderly}
use Rattle.sctp_safety.proofs.lists.Basics.{at_cases, at_same}
use Rattle.sctp_safety.proofs.moves.Taken.{leads_by}
use Rattle.sctp_safety.proofs.moves.GoodStart.{new_ends_start}
use Rattle.sctp_safety.proofs.plan.OrderlyPlan.{orderly_when_arranged}
use Rattle.sctp_safety.proofs.moves.UsualLemmas.{good_usual, usual_moved, constants_same, retuned}
use Rattle.sctp_safety.proofs.sending.AssignMoves.{assigns}
use Rattle.sctp_safety.proofs.sending.FillMoves.{wanted_part, sent_repeats}
use Rattle.sctp_safety.proofs.sending.GivingMoves.{abandoned_moved, withdrawn_moved, Bears, name_bears}
use Rattle.sctp_safety.proofs.sending.QueueMoves.{queue_is_moves}

-- the view, as if nothing were acknowledged
abbrev pub shadow : SenderView → SenderView
shadow v = record v { cum = 0; covered = λ i. false }

-- a direction in which moves lead to the view's shadow
pub record IsShadowed (f : Format) (v : SenderView) : Type 0 where
  pub base : Way
  pub usual : IsUsual (with_sender base (shadow v))
  pub format : base.format ≡ f
  pub streams : base.streams ≡ v.streams

-- moves that leave the base as it is
shadow_moved : (f : Format) (v u : SenderView) → (h : IsShadowed f v) → u.streams ≡ v.streams → IsMoved (with_sender h.base (shadow v)) (with_sender h.base (shadow u)) → IsShadowed f u
shadow_moved f v u h streams moved =
    record { base = h.base; usual = usual_moved (with_sender h.base (shadow v)) (with_sender h.base (shadow u)) h.usual moved; format = h.format; streams = h.streams ∙ sym streams }

-- a change of what goes out, of marks and of the peer's window
shadow_tuned : (f : Format) (v : SenderView) (sent marked : ℕ → Bool) (repeats : ℕ → ℕ) (c r : ℕ) (covered : ℕ → Bool) → (h : IsShadowed f v) → ((i : ℕ) → v.repeats i ≤ repeats i)
    → ((i : ℕ) → marked i ≡ true → HasPart v.plan i) → IsShadowed f (record v { sent = sent; marked = marked; repeats = repeats; rwnd = r; cum = c; covered = covered })
shadow_tuned f v sent marked repeats c r covered h more parts = shadow_moved f v (record v { sent = sent; marked = marked; repeats = repeats; rwnd = r; cum = c; covered = covered }) h refl (record {
  leads = retuned (with_sender h.base (shadow v)) (record (shadow v) { sent = sent; marked = marked; repeats = repeats; rwnd = r }) refl refl refl refl refl more;
  order = record { ends = h.usual.order.ends; marked = parts; tickets = h.usual.order.tickets };
  constants = record { initial = refl; streams = refl; fragment = refl; partial = refl };
})

-- ---- the beginning

begins : (f : Format) (initial streams fragment rwnd : ℕ) (partial : Bool) (limits : SendLimits) → IsShadowed f (fresh_sender initial streams fragment rwnd partial limits)
begins f initial streams fragment rwnd partial limits = record {
  base = start;
  usual = record { origin = start; started = started; led = ([], refl); order = record { ends = λ i j l n k part. absurd (nothing i part); marked = λ i on. absurd (cc); tickets = refl } };
  format = refl;
  streams = refl;
}
  where
    start : Way
    start = record {
      format = f;
      streams = streams;
      sender = fresh_sender initial streams fragment rwnd partial limits;
      receiver = fresh_receiver 0 streams 0 0;
      asked = record { calls = []; named = λ t. false; clock = 0 };
      pieces = [];
      forwards = [];
      sacks = [];
      shutdowns = [];
    }

    started : IsStart start
    started = new_ends_start start initial streams fragment rwnd partial limits 0 streams 0 0 refl refl refl refl refl refl refl

    nothing : {e : Entry} (i : ℕ) → entry_at (fresh_sender initial streams fragment rwnd partial limits).plan i ≡ Some e → ⊥
    nothing zero here = cc
    nothing (suc i) here = cc

-- ---- a wish

-- an assignment of the view is one of its shadow
shadow_assigned : (f : Format) (v u : SenderView) → IsAssigned v f u → IsAssigned (shadow v) f (shadow u)
shadow_assigned _ v _ (Whole q rest queue) = Whole q rest queue
shadow_assigned _ v _ (Begun s q low idle first) = Begun s q low idle first
shadow_assigned _ v _ (Continued s e low on) = Continued s e low on

same_streams : (f : Format) (v u : SenderView) → IsAssigned v f u → u.streams ≡ v.streams
same_streams _ v _ (Whole q rest queue) = refl
same_streams _ v _ (Begun s q low idle first) = refl
same_streams _ v _ (Continued s e low on) = refl

sends : (f : Format) (v : SenderView) (i : ℕ) → IsShadowed f v → IsShadowed f (with_sent v i)
sends f v i h = shadow_tuned f v (at v.sent i true) (at v.marked i false) (at v.repeats i (repeats_then v i)) v.cum v.rwnd v.covered h (sent_repeats v i)
    (λ j. at_cases (λ (b : Bool). b ≡ true → HasPart v.plan j) v.marked i false j (λ same on. absurd (cc)) (λ other on. h.usual.order.marked j on))

takes : (f : Format) (v u : SenderView) → (h : IsShadowed f v) → IsAssigned v f u → IsShadowed f u
takes f v u h a =
    let way : Way = with_sender h.base (shadow v) in
    let led = assigns way f (shadow u) (good_usual way h.usual) h.usual.order h.format (shadow_assigned f v u a) in
    shadow_moved f v u h (same_streams f v u a) led.moved

goes_on : (f : Format) (v : SenderView) (w : Wish) → IsShadowed f v → next_wish f v ≡ Some w → IsShadowed f (gone w)
goes_on f v w h next = by_way w (wished_ways f v w next)
  where
    by_way : (x : Wish) → IsWished f v x → IsShadowed f (gone x)
    by_way _ (Repeated i low) = sends f v i h
    by_way _ (Unsent i marks low) = sends f v i h
    by_way _ (New u marks unsent new) = sends f u (suc (length v.plan.entries)) (takes f v u h (assigned_cases f v u new))

-- ---- abandoning

becomes_abandoned : (f : Format) (v : SenderView) (t : ℕ) (n : Named) → (h : IsShadowed f v) → name_of v t ≡ Some n → IsShadowed f (with_abandoned v n)
becomes_abandoned f v t n h is = record { base = asked; usual = usual_moved way (with_sender asked (shadow (with_abandoned v n))) named led; format = h.format; streams = h.streams }
  where
    before : Way
    before = with_sender h.base (shadow v)

    asked : Way
    asked = record h.base { asked = record h.base.asked { named = at h.base.asked.named t true } }

    way : Way
    way = with_sender asked (shadow v)

    named : IsUsual way
    named = usual_moved before way h.usual (record {
      leads = leads_by before way (Name t) refl;
      order = record { ends = h.usual.order.ends; marked = h.usual.order.marked; tickets = h.usual.order.tickets };
      constants = constants_same (shadow v);
    })

    b : Bears v.plan t n
    b = name_bears (shadow v) t n is

    led : IsMoved way (with_sender way (with_abandoned (shadow v) n))
    led = abandoned_moved way n b.message (good_usual way named) named.order b.named (inl (subst (λ (k : ℕ). at h.base.asked.named t true k ≡ true) (sym b.ticket) (at_same h.base.asked.named t true)))

withdraws : (f : Format) (v : SenderView) (t : ℕ) → (h : IsShadowed f v) → waits t v.queue ≡ true → IsShadowed f (record v { queue = without t v.queue })
withdraws f v t h on = record { base = asked; usual = usual_moved way (with_sender asked (shadow (record v { queue = without t v.queue }))) named led; format = h.format; streams = h.streams }
  where
    before : Way
    before = with_sender h.base (shadow v)

    asked : Way
    asked = record h.base { asked = record h.base.asked { named = at h.base.asked.named t true } }

    way : Way
    way = with_sender asked (shadow v)

    named : IsUsual way
    named = usual_moved before way h.usual (record {
      leads = leads_by before way (Name t) refl;
      order = record { ends = h.usual.order.ends; marked = h.usual.order.marked; tickets = h.usual.order.tickets };
      constants = constants_same (shadow v);
    })

    led : IsMoved way (with_sender way (record (shadow v) { queue = without t v.queue }))
    led = withdrawn_moved way t named.order (λ q has ticket. inl (subst (λ (k : ℕ). at h.base.asked.named t true k ≡ true) (sym ticket) (at_same h.base.asked.named t true))) on

-- ---- the other calls

queues : (f : Format) (v : SenderView) (l : Lane) (payload : ℕ) (bytes : List ℕ) (until limit : Option ℕ) → 0 < v.fragment → (h : IsShadowed f v) → refusal v l.stream bytes ≡ None → IsShadowed f (queued v l payload bytes until limit)
queues f v l payload bytes until limit size h free = record {
  base = called;
  usual = usual_moved (with_sender h.base (shadow v)) (with_sender called (shadow (queued v l payload bytes until limit))) h.usual (queue_is_moves (with_sender h.base (shadow v)) call h.usual size (sym h.streams) free);
  format = h.format;
  streams = h.streams;
}
  where
    call : Call
    call = record { lane = l; payload = payload; bytes = bytes; until = until; limit = limit }

    called : Way
    called = record h.base { asked = record h.base.asked { calls = h.base.asked.calls ++ call ∷ [] } }

-- a mark is a fragment's: what is unsettled isn't given up
marks : (f : Format) (v : SenderView) (test : ℕ → Bool) → IsShadowed f v → IsShadowed f (marking v test)
marks f v test h = shadow_tuned f v v.sent (marking v test).marked v.repeats v.cum v.rwnd v.covered h (λ i. le_refl (v.repeats i)) (λ i on. by_mark i (v.marked i) refl on)
  where
    by_mark : (i : ℕ) (b : Bool) → v.marked i ≡ b → (b || (test i && unsettled_at v i (entry_at v.plan i))) ≡ true → HasPart v.plan i
    by_mark i true before on = h.usual.order.marked i before
    by_mark i false before on =
        let there = some_is (is_to_repeat v i) (entry_at v.plan i) (and_parts (test i) (unsettled_at v i (entry_at v.plan i)) on).1 in
        let unsettled = (and_parts (is_unsettled v i there.0) (not (is_worn v i there.0)) there.2).0 in
        let wanted = (and_parts (v.sent i) (is_wanted v i there.0) unsettled).1 in
        let kept = (and_parts (not (v.covered i)) (not (is_of_abandoned v there.0)) wanted).1 in
        wanted_part (with_sender h.base (shadow v)) (good_usual (with_sender h.base (shadow v)) h.usual) i there.0 there.1 kept

covers : (f : Format) (v : SenderView) (c r : ℕ) (covered : ℕ → Bool) → IsShadowed f v → IsShadowed f (record (covered_by v c covered) { rwnd = r })
covers f v c r covered h = shadow_tuned f v v.sent (λ i. v.marked i && not (covered i)) v.repeats c r covered h (λ i. le_refl (v.repeats i)) (λ i on. h.usual.order.marked i (and_parts (v.marked i) (not (covered i)) on).0)

-- what is known of resets
rebases : (f : Format) (v : SenderView) (x : Outgoing) → IsShadowed f v → IsShadowed f (record v { resets = x })
rebases f v x h = shadow_moved f v (record v { resets = x }) h refl (record {
  leads = retuned (with_sender h.base (shadow v)) (record (shadow v) { resets = x }) refl refl refl refl refl (λ i. le_refl (v.repeats i));
  order = record { ends = h.usual.order.ends; marked = h.usual.order.marked; tickets = h.usual.order.tickets };
  constants = record { initial = refl; streams = refl; fragment = refl; partial = refl };
})

pub is_shadowed : (f : Format) (v : SenderView) → IsReached f v → IsShadowed f v
is_shadowed f _ (Begins i s b r p most large) = begins f i s b r p most
is_shadowed f _ (Queues v l p b u n h free) = queues f v l p b u n (is_set f v h).fragment (is_shadowed f v h) free
is_shadowed f _ (Goes v room w h next may) = goes_on f v w (is_shadowed f v h) next
is_shadowed f _ (Covers v x h none) = covers f v _ _ _ (is_shadowed f v h)
is_shadowed f _ (Closes v x h none) = covers f v _ v.rwnd _ (is_shadowed f v h)
is_shadowed f _ (Abandons v t h) = let k = is_shadowed f v h in after_abandon (IsShadowed f) v t k (λ on. withdraws f v t k on) (λ n is kept. becomes_abandoned f v t n k is)
is_shadowed f _ (Repeats v test h) = marks f v test (is_shadowed f v h)
is_shadowed f _ (Rebases v x h) = rebases f v x (is_shadowed f v h)

pub plan_stays_orderly : PlanStaysOrderly
plan_stays_orderly f v h =
    let k = is_shadowed f v h in
    subst (λ (g : Format). Orderly g v.plan) k.format (orderly_when_arranged k.base.format v.plan (good_usual (with_sender k.base (shadow v)) k.usual).arranged)
