-- THE HEADLINE IN USERS' WORDS: from SAFE, CLOSING, what logs have, and where each accepted message is.
use Rattle.std.proofs.Common.{◌≡◌, ℕ, ◌<◌, ◌≤◌, ◌⊎◌, true, List, [], ◌++◌, Some, inl, inr, refl, sym, subst, ap, ◌∙◌, arith, Option}
use Rattle.std.proofs.lemmas.Bool.{cases_lt}
use Rattle.sctp_model.specs.numbers.Lists.{Has, item_at}
use Rattle.sctp_model.specs.messages.Format.{Ordered, Lane, ordered_lane}
use Rattle.sctp_model.specs.messages.Plan.{Message, Entry, Part, End, entry_at, message_at, bytes_of, IsOf}
use Rattle.sctp_model.specs.messages.Pieces.{IsNumberBelow, Piece}
use Rattle.sctp_model.specs.sender.SenderView.{Queued, IsDrained}
use Rattle.sctp_model.specs.sender.Readers.{drained}
use Rattle.sctp_model.specs.receiver.ReceiverView.{Handed, handed}
use Rattle.sctp_model.specs.world.Calls.{Call}
use Rattle.sctp_model.specs.world.Safe.{IsSent, WasHanded, IsHeldWhole, IsGivenUp as IsAskedUp}
use Rattle.sctp_model.specs.end.EndView.{Ended, Completed, Phase, Idle, Listening, Calling, Echoing, Open, Over, ended_of, format_of}
use Rattle.sctp_model.specs.world.World.{Side, A, B, other, World, end_of, log_of, Setup, start, configuration_of}
use Rattle.sctp_model.specs.world.Steps.{last_of, PassesThrough}
use Rattle.sctp_model.specs.world.Premises.{IsAllArrived, IsReachable, FreshAndUnforged}
use Rattle.sctp_safety.specs.Told.{WasAcknowledged}
use Rattle.sctp_safety.specs.Placed.{IsPlaced, IsQueued, IsNumbered, WasNamed, WasLate}
use Rattle.sctp_safety.proofs.runs.Courses.{passing_is_a_run}
use Rattle.sctp_safety.proofs.runs.Directions.{known}
use Rattle.sctp_safety.proofs.runs.Safety.{IsKept, kept_safe, kept_closed, kept_drained, kept_by_all}
use Rattle.sctp_safety.proofs.sending.SenderCalls.{drained_is_told}
use Rattle.sctp_safety.proofs.sending.ToldLemmas.{acknowledged_is_told}
use Rattle.sctp_outcomes.specs.Users.{Sent, sent, named, taken, time, Exchange, WasSent, Match, IsDelivered, WasGivenUp, ByName, ByTime, ByLimit, IsHeld, IsFaithful, UsersTakeWhatWasSent, exchange, ShortRunsAreFaithful}
use Rattle.sctp_outcomes.proofs.AgedDates.{start_sound}
use Rattle.sctp_outcomes.proofs.InOrder.{both_senders_are_in_order}
use Rattle.sctp_outcomes.proofs.users.Accepted.{calls_of, clocks_begin}
use Rattle.sctp_outcomes.proofs.users.Runs.{AreNumbered, Adds, run_adds, call_of_sent}
use Rattle.sctp_outcomes.proofs.users.Matched.{lane_for, handed_in, a, r, u, IsTold, Right, exchanged, sent_is, is_match, kind_is, built, delivered}
use Rattle.sctp_outcomes.proofs.users.Held.{held}
use Rattle.sctp_model.proofs.sender.AnswerLaws.{abandoned_is_agreed}
use Rattle.std.specs.Prelude.{unwrap_or, option_map, option_and_then, Option}
use Rattle.sctp_model.specs.sender.Entries.{entry_message}
use Rattle.sctp_safety.proofs.runs.Dating.{dates_of, AllKept, kept_in_time, kept_by_few}
use Rattle.sctp_safety.proofs.runs.DatedBags.{Dates}
use Rattle.sctp_model.specs.world.Events.{Event, Outcome}
use Rattle.sctp_model.specs.end.Configured.{IsConfiguration}

lane_is : (l : Lane) (n : ℕ) → l.stream ≡ n → l.kind ≡ Ordered → l ≡ ordered_lane n
lane_is l n stream kind = ap (λ (s : ℕ). record { stream = s; kind = l.kind }) stream ∙ ap (λ k. record { stream = n; kind = k }) kind

module _ (w : World) (x : Side) (n : ℕ) (ss : List Sent) (ts : List ℕ) (now : ℕ) (hs : List Handed) (told : IsTold w x n ss ts now) where
  abbrev e : Exchange
  e = exchanged w x n ss ts now told hs

  abbrev matches : List Match
  matches = (built w x n ss ts now told).matches

  -- the ticket of the message that a chunk belongs to
  abbrev chunk_ticket : Piece → ℕ
  chunk_ticket y = unwrap_or (option_and_then (λ d. option_map (λ (m : Message). m.ticket) (entry_message (a w x n).plan d)) (entry_at (a w x n).plan y.index)) 0

  -- what was given up was given up by the user
  given_up : (l : Lane) (k : ℕ) (m : Message) (s : Sent) → handed_in l m ≡ s → (a w x n).partial ≡ true → IsAskedUp (a w x n) (u w x n) l k m → WasGivenUp e s
  given_up l k m s is partial (inl name) = ByName (subst (λ (t : ℕ). Has ts t) (ap (λ (z : Sent). z.ticket) is) (told.named m.ticket name))
  given_up l k m s is partial (inr (inl (until, has, late))) = ByTime until (subst (λ (z : Sent). z.call.until ≡ Some until) is has) (let clock = told.clock in omega (arith, late, clock))
  given_up l k m s is partial (inr (inr (limit, has, often))) = ByLimit limit (subst (λ (z : Sent). z.call.limit ≡ Some limit) is has) partial

  -- one of the plan that was abandoned was given up
  abandoned_given : (l : Lane) (k : ℕ) (m : Message) (s : Sent) → message_at (a w x n).plan l k ≡ Some m → handed_in l m ≡ s → (a w x n).abandoned l k ≡ true → WasGivenUp e s
  abandoned_given l k m s there is gone =
      let g = told.safe.asked.abandoned l k gone in
      let same : g.0 ≡ m = let its = g.1 in cc in
      given_up l k m s is (abandoned_is_agreed (format_of (end_of w x)) (a w x n) told.reached l k gone) (subst (λ (y : Message). IsAskedUp (a w x n) (u w x n) l k y) same g.2)

  -- the call of a message that was sent
  called : (s : Sent) → WasSent e s → item_at (u w x n).calls s.ticket ≡ Some s.call
  called s was = subst (λ (cs : List Call). item_at cs s.ticket ≡ Some s.call) (sym told.calls) (call_of_sent ss s told.numbered was.accepted)

  -- a message of the plan that was delivered, or abandoned
  ended_so : (l : Lane) (k : ℕ) (m : Message) (s : Sent) → WasSent e s → message_at (a w x n).plan l k ≡ Some m → m.ticket ≡ s.ticket
      → ((a w x n).abandoned l k ≡ true) ⊎ WasHanded (a w x n).plan (r w x n) l k → IsDelivered matches s ⊎ WasGivenUp e s
  ended_so l k m s was there ticket (inl gone) = inr (abandoned_given l k m s there (sent_is w x n ss ts now told l k m s there was.accepted ticket) gone)
  ended_so l k m s was there ticket (inr (h, has, lane, first)) =
      let is = sent_is w x n ss ts now told l k m s there was.accepted ticket in
      let stream : l.stream ≡ n = ap (λ (z : Sent). z.call.lane.stream) is ∙ was.stream in
      inl (delivered w x n ss ts now told h (subst (λ (i : ℕ). Has (handed (r w x n) i) h) stream has) l k m there first s was.accepted ticket)

  -- ---- an ordered message that another one overtook

  module _ (s : Sent) (was : WasSent e s) (ordered : s.call.lane.kind ≡ Ordered) (m : Match) (has : Has matches m) (kind : m.message.lane.kind ≡ Ordered) (less : s.ticket < m.sent.ticket) where
    abbrev q : Right w x n m
    q = ((built w x n ss ts now told).each m has).0

    abbrev later : IsSent (a w x n).plan (lane_for q.kind n) m.message
    later = q.sent

    on_lane : lane_for q.kind n ≡ ordered_lane n
    on_lane = ap (λ k. lane_for k n) (kind_is w x n ss ts now told m q kind)

    below : later.number < (r w x n).next n
    below =
        let h = ((built w x n ss ts now told).each m has).1 in
        subst (λ (i : _). IsNumberBelow ((r w x n).next n) i) (q.number kind) (told.known.below n m.message h kind)

    less_ticket : s.ticket < later.message.ticket
    less_ticket = let same = ap (λ (z : Sent). z.ticket) q.is in omega (arith, less, same)

    -- it doesn't wait for its number: messages of a stream take them in turn
    not_queued : (y : Queued) → Has (a w x n).queue y → y.message.ticket ≡ s.ticket → ⊥
    not_queued y waits ticket =
        let own = told.known.called y waits in
        let its = called s was in
        let there : item_at (u w x n).calls s.ticket ≡ Some (record { lane = y.lane; payload = y.message.payload; bytes = bytes_of y.message; until = y.message.until; limit = y.message.limit }) =
        subst (λ (t : ℕ). item_at (u w x n).calls t ≡ Some (record { lane = y.lane; payload = y.message.payload; bytes = bytes_of y.message; until = y.message.until; limit = y.message.limit })) ticket own in
        let same : s.call ≡ record { lane = y.lane; payload = y.message.payload; bytes = bytes_of y.message; until = y.message.until; limit = y.message.limit } = cc in
        let stream : (lane_for q.kind n).stream ≡ y.lane.stream = ap (λ (l : Lane). l.stream) on_lane ∙ sym was.stream ∙ ap (λ (c : Call). c.lane.stream) same in
        let low = told.known.later y (lane_for q.kind n) later.number later.message waits later.complete.0 stream in
        absurd (let less = less_ticket in omega (arith, low, less, ticket))

    -- with a number it has a lower one, which was passed
    passed : (l : Lane) (k : ℕ) (y : Message) → message_at (a w x n).plan l k ≡ Some y → y.ticket ≡ s.ticket → IsDelivered matches s ⊎ WasGivenUp e s
    passed l k y there ticket =
        by_passing (told.safe.passed_rightly n k (let low = lower (cases_lt k later.number) in let high = below in omega (arith, low, high)))
      where
        is : handed_in l y ≡ s
        is = sent_is w x n ss ts now told l k y s there was.accepted ticket

        own : l ≡ ordered_lane n
        own = lane_is l n (ap (λ (z : Sent). z.call.lane.stream) is ∙ was.stream) (ap (λ (z : Sent). z.call.lane.kind) is ∙ ordered)

        its : message_at (a w x n).plan (ordered_lane n) k ≡ Some y
        its = subst (λ (j : Lane). message_at (a w x n).plan j k ≡ Some y) own there

        other : message_at (a w x n).plan (ordered_lane n) later.number ≡ Some later.message
        other = subst (λ (j : Lane). message_at (a w x n).plan j later.number ≡ Some later.message) on_lane later.complete.0

        lower : (k < later.number) ⊎ (later.number ≤ k) → k < later.number
        lower (inl lt) = lt
        lower (inr ge) = absurd (by_order (cases_lt later.number k))
          where
            first : entry_at (a w x n).plan m.message.first ≡ Some (Part (ordered_lane n) later.number 0)
            first = subst (λ (j : Lane). entry_at (a w x n).plan m.message.first ≡ Some (Part j later.number 0)) on_lane later.first

            by_order : (later.number < k) ⊎ (k ≤ later.number) → ⊥
            by_order (inl gt) =
                let begun = told.orderly.numbered.begun (ordered_lane n) k y its in
                let before = told.orderly.counted (ordered_lane n) later.number k gt m.message.first begun.0 _ _ first (refl, refl) begun.1 (refl, refl) in
                let tickets : y.ticket < later.message.ticket = (let low = less_ticket in omega (arith, low, ticket)) in
                let after = told.safe.asked.order begun.0 m.message.first _ _ (ordered_lane n) (ordered_lane n) k later.number y later.message begun.1 (refl, refl) its first (refl, refl) other refl tickets in
                absurd (omega (arith, before, after))
            by_order (inr le) =
                let equal : k ≡ later.number = omega (arith, ge, le) in
                let also : message_at (a w x n).plan (ordered_lane n) k ≡ Some later.message = subst (λ (i : ℕ). message_at (a w x n).plan (ordered_lane n) i ≡ Some later.message) (sym equal) other in
                let same : y ≡ later.message = cc (its, also) in
                let low = less_ticket in
                let tickets = ap (λ (z : Message). z.ticket) same in
                absurd (omega (arith, low, ticket, tickets))

        by_passing : ((h : Handed) × Has (handed (r w x n) n) h × (h.lane.kind ≡ Ordered) × (h.number ≡ Some k)) ⊎ ((a w x n).abandoned (ordered_lane n) k ≡ true) → IsDelivered matches s ⊎ WasGivenUp e s
        by_passing (inr gone) = inr (abandoned_given (ordered_lane n) k y s its (ap (λ (j : Lane). handed_in j y) (sym own) ∙ is) gone)
        by_passing (inl (h, there, sort, number)) =
            let z = told.safe.in_order.sent n h there sort in
            let counted = z.1 in
            let same : z.0.number ≡ k = cc in
            inl (delivered w x n ss ts now told h there (ordered_lane n) k y its (subst (λ (i : ℕ). entry_at (a w x n).plan h.first ≡ Some (Part (ordered_lane n) i 0)) same z.0.first) s was.accepted ticket)

    by_place : IsPlaced (a w x n) (u w x n) s.ticket s.call → IsDelivered matches s ⊎ WasGivenUp e s
    by_place (IsQueued y waits ticket) = absurd (not_queued y waits ticket)
    by_place (IsNumbered l k y there ticket) = passed l k y there ticket
    by_place (WasNamed name) = inr (ByName (told.named s.ticket name))
    by_place (WasLate until has late) = inr (ByTime until has (let clock = told.clock in omega (arith, late, clock)))

    pub overtaken : IsDelivered matches s ⊎ WasGivenUp e s
    overtaken = by_place (told.known.placed s.ticket s.call (called s was))

  -- ---- one that was acknowledged

  acknowledged_kept : (s : Sent) → WasSent e s → WasAcknowledged (a w x n) s.ticket → IsDelivered matches s ⊎ IsHeld e chunk_ticket s
  acknowledged_kept s was k = go (told.safe.kept k.has.lane k.has.number k.has.message k.complete covered k.kept)
    where
      is : handed_in k.has.lane k.has.message ≡ s
      is = sent_is w x n ss ts now told k.has.lane k.has.number k.has.message s k.has.named was.accepted k.has.ticket

      owned : (y : Piece) (c : ℕ) → entry_at (a w x n).plan y.index ≡ Some (Part k.has.lane k.has.number c) → chunk_ticket y ≡ s.ticket
      owned y c here =
          ap (λ (o : Option Entry). unwrap_or (option_and_then (λ d. option_map (λ (m : Message). m.ticket) (entry_message (a w x n).plan d)) o) 0) here
          ∙ ap (λ (o : Option Message). unwrap_or (option_map (λ (m : Message). m.ticket) o) 0) k.has.named ∙ k.has.ticket

      stream : k.has.lane.stream ≡ n
      stream = ap (λ (z : Sent). z.call.lane.stream) is ∙ was.stream

      covered : (i : ℕ) (y : Entry) → entry_at (a w x n).plan i ≡ Some y → IsOf k.has.lane k.has.number y → (a w x n).covered i ≡ true
      covered i (Part l j c) here (lane, number) =
          k.covered i c (subst (λ (z : Lane). entry_at (a w x n).plan i ≡ Some (Part z k.has.number c)) lane (subst (λ (z : ℕ). entry_at (a w x n).plan i ≡ Some (Part l z c)) number here))
      covered i (End l j) here (lane, number) =
          absurd (told.orderly.ended.apart k.has.lane k.has.number k.has.message k.complete i
          (subst (λ (z : Lane). entry_at (a w x n).plan i ≡ Some (End z k.has.number)) lane (subst (λ (z : ℕ). entry_at (a w x n).plan i ≡ Some (End l z)) number here)))

      go : WasHanded (a w x n).plan (r w x n) k.has.lane k.has.number ⊎ IsHeldWhole (format_of (end_of w x)) (a w x n).plan (r w x n) k.has.lane k.has.number k.has.message → IsDelivered matches s ⊎ IsHeld e chunk_ticket s
      go (inl (h, has, lane, first)) =
          inl (delivered w x n ss ts now told h (subst (λ (i : ℕ). Has (handed (r w x n) i) h) stream has) k.has.lane k.has.number k.has.message k.has.named first s was.accepted k.has.ticket)
      go (inr whole) =
          inr (held (format_of (end_of w x)) (a w x n).plan told.orderly k.has.lane k.has.number (r w x n) k.has.message whole e chunk_ticket s owned refl (sym (ap (λ (z : Sent). z.call.lane) is)) (ap (λ (z : Sent). z.call.bytes) is))

  -- ---- once the association has completed

  completed : (phase : Phase) → ended_of phase ≡ Some Completed → phase ≡ Over Completed
  completed Idle is = absurd (cc)
  completed Listening is = absurd (cc)
  completed (Calling d) is = absurd (cc)
  completed (Echoing t xs) is = absurd (cc)
  completed (Open t g) is = absurd (cc)
  completed (Over why) is = let same : why ≡ Completed = cc in ap (λ (z : Ended). Over z) same

  all_ended : IsAllArrived (a w x n) (r w x n) → IsDrained (a w x n) → (s : Sent) → WasSent e s → IsDelivered matches s ⊎ WasGivenUp e s
  all_ended arrived drained s was = by_place (told.known.placed s.ticket s.call (called s was))
    where
      by_place : IsPlaced (a w x n) (u w x n) s.ticket s.call → IsDelivered matches s ⊎ WasGivenUp e s
      by_place (IsQueued y waits ticket) = absurd (let none : Has [] y = subst (λ (qs : List Queued). Has qs y) drained.queue waits in none)
      by_place (IsNumbered l k y there ticket) =
          let begun = told.orderly.numbered.begun l k y there in
          ended_so l k y s was there ticket (arrived l k (begun.0, Part l k 0, begun.1, (refl, refl)))
      by_place (WasNamed name) = inr (ByName (told.named s.ticket name))
      by_place (WasLate until has late) = inr (ByTime until has (let clock = told.clock in omega (arith, late, clock)))

  -- ---- the promise

  pub faithful : (r w x n).taken n ≡ hs → IsFaithful e
  faithful taken =
      let b = built w x n ss ts now told in
      record {
        matches = b.matches;
        all = b.all ∙ ap (λ (ks : List Handed). ks ++ (r w x n).waiting n) taken;
        each = λ m has. is_match w x n ss ts now told hs m (b.each m has).0;
        once = b.once;
        in_order = b.in_order;
        overtaken = λ s was ordered m has kind less. overtaken s was ordered m has kind less;
        ticket_of = chunk_ticket;
        acknowledged = λ s was on. acknowledged_kept s was ((acknowledged_is_told (format_of (end_of w x)) (a w x n) s.ticket told.reached).0 on);
        completed = λ y is. let c = told.closed y (completed (end_of w y).phase is) in all_ended c.0 c.1;
      }

-- ---- over every run

never_named : (s : Setup) (x : Side) (t : ℕ) → (log_of (start s) x).named t ≡ true → ⊥
never_named s A t on = absurd (cc)
never_named s B t on = absurd (cc)

no_calls : (s : Setup) (x : Side) → (log_of (start s) x).calls ≡ []
no_calls s A = refl
no_calls s B = refl

no_tickets : (s : Setup) (x : Side) → (end_of (start s) x).sender.tickets ≡ 0
no_tickets s A = refl
no_tickets s B = refl

none_taken : (s : Setup) (x : Side) (n : ℕ) → (end_of (start s) x).receiver.taken n ≡ []
none_taken s A n = refl
none_taken s B n = refl

-- of a run whose packets come in time, by their dates
faithful_when : (s : Setup) (es : List Event) (os : List (Option Outcome)) (vs : List World) → ((x : Side) → IsConfiguration (configuration_of s x)) → PassesThrough (start s) es os vs →
    FreshAndUnforged s.sealing es → AllKept (dates_of (start s) vs) (start s) es vs → (x : Side) (n : ℕ) → IsFaithful (exchange x n es os (last_of (start s) vs))
faithful_when s es os vs configured passes premises all x n =
    faithful w x n (sent x es os) (named x es os) (time x es os) (taken (other x) n es os) told
    (there.noted.taken ∙ ap (λ (hs : List Handed). hs ++ taken (other x) n es os) (none_taken s (other x) n))
  where
    w : World
    w = last_of (start s) vs

    d : Dates
    d = dates_of (start s) vs

    kept : IsKept d w
    kept = kept_by_all s es os vs configured passes premises all

    reachable : IsReachable s es w
    reachable = record { configured = configured; answers = os; run = passing_is_a_run (start s) es os vs passes; premises = premises }

    adds : (y : Side) → Adds y n (start s) w (sent y es os) (named y es os) (taken y n es os) (time y es os)
    adds y = run_adds y n (start s) es os vs passes (λ q. (refl, refl)) (start_sound s)

    here : Adds x n (start s) w (sent x es os) (named x es os) (taken x n es os) (time x es os)
    here = adds x

    there : Adds (other x) n (start s) w (sent (other x) es os) (named (other x) es os) (taken (other x) n es os) (time (other x) es os)
    there = adds (other x)

    by_name : (t : ℕ) → ((log_of (start s) x).named t ≡ true) ⊎ Has (named x es os) t → Has (named x es os) t
    by_name t (inl on) = absurd (never_named s x t on)
    by_name t (inr has) = has

    arrives : (z y : Side) → (end_of w y).phase ≡ Over Completed → IsAllArrived (end_of w z).sender (end_of w (other z)).receiver
    arrives A y over = (kept_closed d w kept y over).0
    arrives B y over = (kept_closed d w kept y over).1

    drains : (z y : Side) → (end_of w y).phase ≡ Over Completed → IsDrained (end_of w z).sender
    drains z y over = (drained_is_told (format_of (end_of w z)) (end_of w z).sender (both_senders_are_in_order s es w reachable z).reached).0 (of_both z (kept_drained d w kept y over))
      where
        of_both : (z : Side) → (drained w.a.sender ≡ true) × (drained w.b.sender ≡ true) → drained (end_of w z).sender ≡ true
        of_both A both = both.0
        of_both B both = both.1

    told : IsTold w x n (sent x es os) (named x es os) (time x es os)
    told = record {
      safe = kept_safe d w kept x;
      orderly = (both_senders_are_in_order s es w reachable x).plan;
      reached = (both_senders_are_in_order s es w reachable x).reached;
      known = known w d x kept;
      numbered = subst (λ (k : ℕ). AreNumbered k (sent x es os)) (no_tickets s x) here.numbered;
      calls = here.logged.calls ∙ ap (λ (cs : List Call). cs ++ calls_of (sent x es os)) (no_calls s x);
      named = λ t on. by_name t (here.logged.named t on);
      clock = (let same = here.logged.clock in let none = clocks_begin s x in omega (arith, same, none));
      closed = λ y over. (arrives x y over, drains x y over);
    }

pub users_take_what_was_sent : UsersTakeWhatWasSent
users_take_what_was_sent s es os vs configured passes premises aged x n = faithful_when s es os vs configured passes premises (kept_in_time s es os vs passes aged) x n

pub short_runs_are_faithful : ShortRunsAreFaithful
short_runs_are_faithful s es os vs configured passes premises few x n = faithful_when s es os vs configured passes premises (kept_by_few s es os vs passes few) x n
