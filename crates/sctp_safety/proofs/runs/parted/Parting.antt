-- Once a request for a stream waits, what is delivered anew on that stream was accepted later.
use Rattle.std.proofs.Common.{◌≡◌, ℕ, zero, suc, ◌<◌, ◌≤◌, ◌⊎◌, true, false, List, [], ◌∷◌, ◌++◌, length, length-append, Option, Some, None, is_some, inl, inr, refl, sym, subst, ap, ◌∙◌, arith, nat_le, ◌==◌}
use Rattle.std.specs.List.{list_any}
use Rattle.std.proofs.lemmas.Bool.{or_parts, or_cases}
use Rattle.std.proofs.lemmas.Bool.Decides.{nat_tests}
use Rattle.sctp_model.specs.numbers.Lists.{Has, AreInOrder}
use Rattle.sctp_model.specs.messages.Format.{Format, Ordered, Lane, ordered_lane}
use Rattle.sctp_model.specs.messages.Plan.{Message, bytes_of, Entry, Part, End, Plan, entry_at, message_at, IsClosed, IsOf}
use Rattle.sctp_model.specs.sender.Outgoing.{Sending, Sends, Resets, Refuses, is_sending, is_resetting, lists}
use Rattle.sctp_model.specs.sender.SenderView.{Queued, SenderView}
use Rattle.sctp_model.specs.sender.Entries.{entry_lane}
use Rattle.sctp_model.specs.receiver.ReceiverView.{Handed, ReceiverView, handed, Reaches}
use Rattle.sctp_model.specs.world.Calls.{Asked, call_at}
use Rattle.sctp_model.specs.world.Safe.{WasHanded}
use Rattle.sctp_model.specs.end.Configured.{IsConfiguration}
use Rattle.sctp_model.specs.world.World.{Side, other, World, end_of, Setup, configuration_of, start}
use Rattle.sctp_model.specs.world.Events.{Event, Reset, WasReset, Outcome, Done, ResetThere}
use Rattle.sctp_model.specs.world.Steps.{Step, PassesThrough, last_of}
use Rattle.sctp_model.specs.world.Premises.{drawn_in, asked_at}
use Rattle.sctp_safety.specs.Agreement.{IsOpening}
use Rattle.sctp_safety.specs.Parted.{IsLater, HandsLaterOnes, Asks, RequestsPartMessages}
use Rattle.sctp_safety.proofs.lists.Basics.{Has-right, lane_is, item_at-within, item_at-above, slice_get-within}
use Rattle.sctp_safety.proofs.machine.EndsAgree.{fine_by, sound_start, opening_of}
use Rattle.sctp_safety.proofs.machine.Ground.{IsFine}
use Rattle.sctp_safety.proofs.moves.Facts.{Good, IsHonest}
use Rattle.sctp_safety.proofs.moves.Settled.{ordered_numbered}
use Rattle.sctp_safety.proofs.moves.UsualLemmas.{good_usual}
use Rattle.sctp_safety.proofs.receiving.CountReads.{all_counted}
use Rattle.sctp_safety.proofs.runs.Courses.{passing_goes_on}
use Rattle.sctp_safety.proofs.runs.Dates.{Dated}
use Rattle.sctp_safety.proofs.runs.DatedBags.{Dates, AreKept}
use Rattle.sctp_safety.proofs.runs.Dating.{dates_of, AllKept, kept_in_time}
use Rattle.sctp_safety.proofs.runs.Direction.{Direction, way_of, entry_there}
use Rattle.sctp_safety.proofs.runs.MetSteps.{met_step}
use Rattle.sctp_safety.proofs.runs.MetWorld.{IsMetWorld, at_side}
use Rattle.sctp_safety.proofs.runs.ResetFacts.{IsOpen, IsNoted}
use Rattle.sctp_safety.proofs.runs.Safety.{IsKept, IsSteady, set_up, steady_step, kept_start}
use Rattle.sctp_safety.proofs.runs.ApartWorld.{IsApartWorld}
use Rattle.sctp_safety.proofs.runs.parted.Beginning.{IsUnreset, blank_unreset, step_unreset}
use Rattle.sctp_safety.proofs.runs.parted.Onward.{onward_itself, IsHandedLater, IsPerformed}
use Rattle.sctp_safety.proofs.runs.parted.Ongoing.{Ongoing, IsHeard, ongoing_on, by_receiver, entries_last, StepGoes, step_goes}

-- an element of the first list is before each of the second
across : {A : Type 0} (R : A → A → Type 0) (xs ys : List A) (x y : A) → AreInOrder R (xs ++ ys) → Has xs x → Has ys y → R x y
across R [] ys x y order hx hy = absurd hx
across R (z ∷ xs) ys x y order (inl same) hy = subst (λ c. R c y) same (order.0 y (Has-right xs ys y hy))
across R (z ∷ xs) ys x y order (inr hx) hy = across R xs ys x y order.1 hx hy

standing : (p : Plan) (i : ℕ) → 0 < i → i ≤ length p.entries → (e : Entry) × (entry_at p i ≡ Some e)
standing p zero some le = absurd (omega (arith, some))
standing p (suc i) some le = entry_there p.entries i (omega (arith, le))

-- ---- one direction

module _ (f : Format) (n : ℕ) (a : SenderView) (u : Asked) (r : ReceiverView) (out back : List Dated) (d : Direction f n a u r out back)
    (g : Format) (m : ℕ) (b : SenderView) (v : Asked) (t : ReceiverView) (out_then back_then : List Dated) (c : Direction g m b v t out_then back_then)
    (o : Ongoing a r b t) (s : ℕ) (asks : Asks a s) where
  before : Good (way_of f n a u r d.bags)
  before = good_usual (way_of f n a u r d.bags) d.usual

  after : Good (way_of g m b v t c.bags)
  after = good_usual (way_of g m b v t c.bags) c.usual

  open_request : IsOpen a asks.request
  open_request = d.step.waiting asks.request asks.waits

  -- all that the stream has is reached
  reached : (i : ℕ) (e : Entry) → entry_at a.plan i ≡ Some e → (entry_lane e).stream ≡ s → Reaches r i
  reached i e here on = before.between.cum i (open_request.below s asks.named i e here on).0

  counted : (l : Lane) (k : ℕ) (x : Message) → l.stream ≡ s → l.kind ≡ Ordered → message_at a.plan l k ≡ Some x → k < r.next s
  counted l k x stream kind named =
      let all = all_counted (way_of f n a u r d.bags) before d.idle s (open_request.still s asks.named).closed
      (λ i e j o at own on. reached i e at (lane_of e j o own ∙ on)) Ordered (ordered_numbered f Ordered refl) in
      let same : l ≡ ordered_lane s = lane_is l (ordered_lane s) stream kind in
      let within = slice_get-within (a.plan.messages (ordered_lane s)) k x (subst (λ (y : Lane). message_at a.plan y k ≡ Some x) same named) in
      omega (arith, all, within)
    where
      lane_of : (e : Entry) (l : Lane) (k : ℕ) → IsOf l k e → (entry_lane e).stream ≡ l.stream
      lane_of (Part x y j) l k own = ap (λ (z : Lane). z.stream) own.0
      lane_of (End x y) l k own = ap (λ (z : Lane). z.stream) own.0

  -- no fragment of such a message was missing
  none_missing : (l : Lane) (k : ℕ) (x : Message) → l.stream ≡ s → message_at a.plan l k ≡ Some x → message_at b.plan l k ≡ Some x →
      (i j : ℕ) → entry_at b.plan i ≡ Some (Part l k j) → (Reaches r i → ⊥) → ⊥
  none_missing l k x stream named later i j here off = go ((open_request.still s asks.named).closed l k x stream named)
    where
      go : IsClosed a.plan l k → ⊥
      go (inr (y, (there, each))) =
          let part = after.arranged.within i l k j here in
          let own = part.1 in
          let one : part.0 ≡ x = cc (own, later) in
          let two : y ≡ x = cc (there, named) in
          let lt = part.2 in
          let old = each j (subst (λ (z : Message). j < length z.fragments) (one ∙ sym two) lt) in
          let same = after.arranged.once i old.0 l k j here (entries_last a b o.since old.0 _ old.1) in
          off (subst (Reaches r) (sym same) (reached old.0 _ old.1 stream))
      go (inl (i_end, mark)) =
          let low = c.usual.order.ends i i_end l k j here (entries_last a b o.since i_end _ mark) in
          let some = item_at-above b.plan.entries i _ here in
          let last = item_at-within a.plan.entries i_end _ mark in
          let old = standing a.plan i some (omega (arith, low, last)) in
          let there = entries_last a b o.since i old.0 old.1 in
          let is : old.0 ≡ Part l k j = cc (there, here) in
          off (reached i old.0 old.1 (ap (λ (e : Entry). (entry_lane e).stream) is ∙ stream))

  -- a message that had a number then isn't delivered any more
  none_old : (h : Handed) (hs : List Handed) → handed t s ≡ handed r s ++ hs → Has hs h → (k : ℕ) (x : Message) → h.lane.stream ≡ s → message_at b.plan h.lane k ≡ Some x →
      entry_at b.plan h.first ≡ Some (Part h.lane k 0) → message_at a.plan h.lane k ≡ Some x → ⊥
  none_old h hs all has k x stream named first old = go (o.anew h.lane k (h, subst (λ (i : ℕ). Has (handed t i) h) (sym stream) there, refl, first))
    where
      there : Has (handed t s) h
      there = subst (λ (ks : List Handed). Has ks h) (sym all) (Has-right (handed r s) hs h has)

      go : WasHanded a.plan r h.lane k ⊎ IsHandedLater b.plan r h.lane k → ⊥
      go (inl (y, before_then, lane, begins)) =
          let same = after.arranged.once y.first h.first h.lane k 0 (entries_last a b o.since y.first _ begins) first in
          let apart = subst (AreInOrder (λ (p q : Handed). p.first ≡ q.first → ⊥)) all (after.held.told.apart s) in
          across (λ (p q : Handed). p.first ≡ q.first → ⊥) (handed r s) hs y h apart (subst (λ (i : ℕ). Has (handed r i) y) stream before_then) has same
      go (inr (inl (kind, le))) =
          let low = counted h.lane k x stream kind old in
          let high : r.next s ≤ k = subst (λ (i : ℕ). r.next i ≤ k) stream le in
          omega (arith, low, high)
      go (inr (inr (i, j, here, off))) = none_missing h.lane k x stream old named i j here off

  pub hands_later_ones : HandsLaterOnes b a.tickets r t s
  hands_later_ones = record { more = (o.more s).0; behind = (o.more s).1; each = each }
    where
      each : (h : Handed) → Has (o.more s).0 h → IsLater b a.tickets h
      each h has = record {
        number = honest.sent.number;
        message = honest.sent.message;
        named = honest.sent.complete.0;
        first = honest.sent.first;
        later = which (o.since.numbered h.lane honest.sent.number honest.sent.message honest.sent.complete.0);
      }
        where
          honest : IsHonest g b.plan s h
          honest = after.held.told.honest s h (subst (λ (ks : List Handed). Has ks h) (sym (o.more s).1) (Has-right (handed r s) (o.more s).0 h has))

          which : (message_at a.plan h.lane honest.sent.number ≡ Some honest.sent.message) ⊎ (((q : Queued) × Has a.queue q × (q.lane ≡ h.lane) × (q.message ≡ honest.sent.message)) ⊎ (a.tickets < honest.sent.message.ticket)) →
              a.tickets < honest.sent.message.ticket
          which (inl old) = absurd (none_old h (o.more s).0 (o.more s).1 has honest.sent.number honest.sent.message honest.stream honest.sent.complete.0 honest.sent.first old)
          which (inr (inl (q, waits, lane, same))) = absurd ((open_request.still s asks.named).queue q waits (ap (λ (l : Lane). l.stream) lane ∙ honest.stream))
          which (inr (inr late)) = late

-- ---- worlds

abbrev pub Between : Side → World → World → Type 0
Between x w v = Ongoing (end_of w x).sender (end_of w (other x)).receiver (end_of v x).sender (end_of v (other x)).receiver

-- if a request waits the endpoints have met
pub asks_met : (d : Dates) (w : World) (x : Side) (n : ℕ) → IsKept d w → Asks (end_of w x).sender n → IsMetWorld d w
asks_met d w x n (inr met) asks = met
asks_met d w x n (inl apart) asks =
    absurd (let none : None ≡ Some asks.request = subst (λ (v : SenderView). v.resets.pending ≡ Some asks.request) (apart.ends x).blank.sender asks.waits in cc)

module _ (s : Setup) (drawn : List ℕ) (within : (x : Side) → IsConfiguration (configuration_of s x)) (d : Dates) where
  -- what a run leaves of a world whose ends have met
  pub run_goes : (w : World) (es : List Event) (os : List (Option Outcome)) (vs : List World) → ((e : Event) → Has es e → IsFine s drawn e) → PassesThrough w es os vs → AllKept d w es vs →
      IsSteady s drawn d w → IsMetWorld d w → (x : Side) → Between x w (last_of w vs) × IsMetWorld d (last_of w vs)
  run_goes w [] [] [] fine passes kept i met x = (by_receiver (end_of w x).sender (end_of w (other x)).receiver (end_of w (other x)).receiver (onward_itself (end_of w x).sender (end_of w (other x)).receiver), met)
  run_goes w (e ∷ es) (o ∷ os) (v ∷ vs) fine (step, passes) (now, kept) i met x =
      let opening = opening_of s drawn w i.sound in
      let this = fine e (inl refl) in
      let rest = run_goes v es os vs (λ y h. fine y (inr h)) passes kept (steady_step s drawn within d w v e o now this i step) (met_step s drawn d w opening met e o v now this step) x in (
        ongoing_on (end_of w x).sender (end_of w (other x)).receiver (end_of v x).sender (end_of v (other x)).receiver (end_of (last_of v vs) x).sender (end_of (last_of v vs) (other x)).receiver
            (step_goes s drawn d w opening met e o v now this step x).ongoing rest.0,
        rest.1,
      )
  run_goes w [] (o ∷ os) vs fine passes kept i met x = absurd passes
  run_goes w [] [] (v ∷ vs) fine passes kept i met x = absurd passes
  run_goes w (e ∷ es) [] vs fine passes kept i met x = absurd passes
  run_goes w (e ∷ es) (o ∷ os) [] fine passes kept i met x = absurd passes

  -- what holds at the end of its beginning
  pub beginning_steady : (w : World) (es more : List Event) (os : List (Option Outcome)) (vs beyond : List World) → ((e : Event) → Has (es ++ more) e → IsFine s drawn e) →
      PassesThrough w es os vs → AllKept d w (es ++ more) (vs ++ beyond) → IsSteady s drawn d w → IsSteady s drawn d (last_of w vs) × AllKept d (last_of w vs) more beyond
  beginning_steady w [] more [] [] beyond fine passes kept i = (i, kept)
  beginning_steady w (e ∷ es) more (o ∷ os) (v ∷ vs) beyond fine (step, passes) (now, kept) i =
      beginning_steady v es more os vs beyond (λ y h. fine y (inr h)) passes kept (steady_step s drawn within d w v e o now (fine e (inl refl)) i step)
  beginning_steady w [] more (o ∷ os) vs beyond fine passes kept i = absurd passes
  beginning_steady w [] more [] (v ∷ vs) beyond fine passes kept i = absurd passes
  beginning_steady w (e ∷ es) more [] vs beyond fine passes kept i = absurd passes
  beginning_steady w (e ∷ es) more (o ∷ os) [] beyond fine passes kept i = absurd passes

  pub parts_between : (w v : World) (x : Side) (n : ℕ) → Between x w v → IsMetWorld d w → IsMetWorld d v → Asks (end_of w x).sender n →
      HandsLaterOnes (end_of v x).sender (end_of w x).sender.tickets (end_of w (other x)).receiver (end_of v (other x)).receiver n
  parts_between w v x n o first last asks =
      hands_later_ones _ _ (end_of w x).sender _ (end_of w (other x)).receiver _ _ (at_side d w x first.met).met.going
      _ _ (end_of v x).sender _ (end_of v (other x)).receiver _ _ (at_side d v x last.met).met.going o n asks

-- ---- one step

-- a stream of a list whose streams are there
listed_below : (m : ℕ) (xs : List ℕ) {k : ℕ} → list_any (nat_le m) xs ≡ false → lists xs k ≡ true → k < m
listed_below m [] none on = absurd (cc)
listed_below m (x ∷ xs) {k} none on =
    let both = or_parts (nat_le m x) (list_any (nat_le m) xs) none in
    elim (or_cases (x == k) (lists xs k) on) [
      | inl own ↦ let low = both.0 in grind (arith, nat_tests, low, own)
      | inr behind ↦ listed_below m xs both.1 behind
    ]

-- what a step leaves of the resets of a stream, one way
pub record StepResets (d : Dates) (x : Side) (n : ℕ) (w : World) (e : Event) (o : Option Outcome) (v : World) : Type 0 where
  -- a stream that takes no message took none before, or is reset now
  pub shut : is_sending ((end_of v x).sender.resets.sending n) ≡ false → (is_sending ((end_of w x).sender.resets.sending n) ≡ false) ⊎ ((e ≡ Reset x n) × (o ≡ Some Done))
  -- what is to be reported was to be reported before, or a request that waited was performed now, and nothing was delivered
  pub told : (c : ℕ) → (end_of v (other x)).receiver.resets.told n ≡ Some c →
      ((end_of w (other x)).receiver.resets.told n ≡ Some c) ⊎ (IsMetWorld d w × (Asks (end_of w x).sender n × (c ≡ length (handed (end_of w (other x)).receiver n))))
  pub grown : length (handed (end_of w (other x)).receiver n) ≤ length (handed (end_of v (other x)).receiver n)
  -- a stream whose reset is asked for was so before, or that is asked for now
  pub resets : is_resetting ((end_of v x).sender.resets.sending n) ≡ true → (is_resetting ((end_of w x).sender.resets.sending n) ≡ true) ⊎ ((e ≡ Reset x n) × (o ≡ Some Done))
  -- what is noted stays so; and what is to be reported anew is noted now, wasn't before, and was asked for
  pub noted : IsNoted (end_of w x).sender (end_of w (other x)).receiver n → is_resetting ((end_of v x).sender.resets.sending n) ≡ true → IsNoted (end_of v x).sender (end_of v (other x)).receiver n
  pub anew : (c : ℕ) → (end_of v (other x)).receiver.resets.told n ≡ Some c → ((end_of w (other x)).receiver.resets.told n ≡ Some c) ⊎
      (IsNoted (end_of v x).sender (end_of v (other x)).receiver n × (IsNoted (end_of w x).sender (end_of w (other x)).receiver n → ⊥) × (is_resetting ((end_of w x).sender.resets.sending n) ≡ true))
  -- a stream that takes messages took them, or its reset was noted
  pub freed : is_sending ((end_of v x).sender.resets.sending n) ≡ true → (is_sending ((end_of w x).sender.resets.sending n) ≡ true) ⊎ IsNoted (end_of w x).sender (end_of w (other x)).receiver n
  -- what is to be reported stays so until it is reported; and what is noted anew is to be reported, by a packet, and of a stream that is there
  pub kept : is_some ((end_of w (other x)).receiver.resets.told n) ≡ true →
      (is_some ((end_of v (other x)).receiver.resets.told n) ≡ true) ⊎ ((k : ℕ) × (e ≡ WasReset (other x)) × (o ≡ Some (ResetThere n k)))
  pub performed : IsNoted (end_of v x).sender (end_of v (other x)).receiver n → IsNoted (end_of w x).sender (end_of w (other x)).receiver n ⊎
      (IsHeard x e × (IsMetWorld d w × (Asks (end_of w x).sender n × ((is_some ((end_of v (other x)).receiver.resets.told n) ≡ true) × (n < (end_of w (other x)).receiver.streams)))))

module _ (s : Setup) (drawn : List ℕ) (within : (x : Side) → IsConfiguration (configuration_of s x)) (d : Dates) where
  -- a request that waits has shut its streams
  pub asks_shut : (w : World) (x : Side) (n : ℕ) → IsMetWorld d w → Asks (end_of w x).sender n → is_sending ((end_of w x).sender.resets.sending n) ≡ false
  asks_shut w x n met asks = ((at_side d w x met.met).met.going.step.waiting asks.request asks.waits).shut n asks.named

  -- each message that has a number has a ticket that was given
  ticket_given : (w : World) (x : Side) (l : Lane) (k : ℕ) (m : Message) → IsMetWorld d w → message_at (end_of w x).sender.plan l k ≡ Some m → m.ticket ≤ (end_of w x).sender.tickets
  ticket_given w x l k m met named =
      let way = (at_side d w x met.met).met.going in
      let called = (good_usual _ way.usual).sound.called l k m named in
      let low = item_at-within (asked_at w x).calls m.ticket _ called in
      let all = way.usual.order.tickets in
      omega (arith, low, all)

  -- it is the message of its call
  pub message_called : (w : World) (x : Side) (l : Lane) (k : ℕ) (m : Message) → IsMetWorld d w → message_at (end_of w x).sender.plan l k ≡ Some m →
      call_at (asked_at w x) m.ticket ≡ Some (record { lane = l; payload = m.payload; bytes = bytes_of m; until = m.until; limit = m.limit })
  message_called w x l k m met named = (good_usual _ (at_side d w x met.met).met.going.usual).sound.called l k m named

  -- what was delivered is a message of the plan
  pub handed_named : (w : World) (x : Side) (n : ℕ) (h : Handed) → IsMetWorld d w → Has (handed (end_of w (other x)).receiver n) h →
      (k : ℕ) × (m : Message) × (message_at (end_of w x).sender.plan h.lane k ≡ Some m) × (entry_at (end_of w x).sender.plan h.first ≡ Some (Part h.lane k 0)) × (h.lane.stream ≡ n)
  handed_named w x n h met has =
      let honest = (good_usual _ (at_side d w x met.met).met.going.usual).held.told.honest n h has in
      (honest.sent.number, honest.sent.message, honest.sent.complete.0, honest.sent.first, honest.stream)

  pub step_resets : (w v : World) (e : Event) (o : Option Outcome) → AreKept d w e v → IsFine s drawn e → IsSteady s drawn d w → Step w e o v → (x : Side) (n : ℕ) → StepResets d x n w e o v
  step_resets w v e o dates fine i step x n = go i.kept
    where
      opening : IsOpening s drawn w
      opening = opening_of s drawn w i.sound

      on_met : IsMetWorld d w → StepResets d x n w e o v
      on_met met = record {
        shut = goes.shut n;
        told = λ c is. told c (goes.told n c is);
        grown = let k = length-append (handed (end_of w (other x)).receiver n) (goes.ongoing.more n).0 in let same = ap length (goes.ongoing.more n).1 in omega (arith, k, same);
        resets = goes.resets n;
        noted = goes.noted n;
        anew = λ c is. anew c (goes.told n c is);
        freed = goes.freed n;
        kept = goes.kept n;
        performed = λ h. elim (goes.performed n h) [ inl before ↦ inl before | inr new ↦ inr (new.0, (met, (new.1.1.0, (new.1.1.1, there h new.1.0)))) ];
      }
        where
          goes : StepGoes x w e o v
          goes = step_goes s drawn d w opening met e o v dates fine step x

          anew : (c : ℕ) → ((end_of w (other x)).receiver.resets.told n ≡ Some c) ⊎ (((end_of v x).sender ≡ (end_of w x).sender) × IsPerformed (end_of w x).sender (end_of w (other x)).receiver (end_of v (other x)).receiver n c) →
              ((end_of w (other x)).receiver.resets.told n ≡ Some c) ⊎
              (IsNoted (end_of v x).sender (end_of v (other x)).receiver n × (IsNoted (end_of w x).sender (end_of w (other x)).receiver n → ⊥) × (is_resetting ((end_of w x).sender.resets.sending n) ≡ true))
          anew c (inl before) = inl before
          anew c (inr (same, performed)) = inr (
            subst (λ (a : SenderView). IsNoted a (end_of v (other x)).receiver n) (sym same) performed.noted,
            performed.anew,
            ((at_side d w x met.met).met.going.step.waiting performed.asks.request performed.asks.waits).resets n performed.asks.named,
          )

          later : IsMetWorld d v
          later = met_step s drawn d w opening met e o v dates fine step

          -- the stream is one of those that both agreed on
          there : IsNoted (end_of v x).sender (end_of v (other x)).receiver n → (end_of v x).sender ≡ (end_of w x).sender → n < (end_of w (other x)).receiver.streams
          there h same =
              let before = (at_side d w x met.met).met.going in
              let after = (at_side d v x later.met).met.going in
              let a = before.outbound in
              let b = before.inbound in
              let c = after.outbound in
              let e = after.inbound in
              let k = ap (λ (y : SenderView). y.streams) same in
              let low = listed_below (end_of v (other x)).receiver.streams h.request.streams h.there h.named in
              omega (arith, a, b, c, e, k, low)

          told : (c : ℕ) → ((end_of w (other x)).receiver.resets.told n ≡ Some c) ⊎ (((end_of v x).sender ≡ (end_of w x).sender) × IsPerformed (end_of w x).sender (end_of w (other x)).receiver (end_of v (other x)).receiver n c) →
              ((end_of w (other x)).receiver.resets.told n ≡ Some c) ⊎ (IsMetWorld d w × (Asks (end_of w x).sender n × (c ≡ length (handed (end_of w (other x)).receiver n))))
          told c (inl before) = inl before
          told c (inr (same, performed)) = inr (met, (performed.asks, count (parts_between s drawn within d w v x n goes.ongoing met later performed.asks)))
            where
              none : (h : Handed) → IsLater (end_of v x).sender (end_of w x).sender.tickets h → ⊥
              none h k =
                  let low = ticket_given w x h.lane k.number k.message met (subst (λ (a : SenderView). message_at a.plan h.lane k.number ≡ Some k.message) same k.named) in
                  let high = k.later in
                  omega (arith, low, high)

              by_more : (hs : List Handed) → handed (end_of v (other x)).receiver n ≡ handed (end_of w (other x)).receiver n ++ hs →
                  ((h : Handed) → Has hs h → IsLater (end_of v x).sender (end_of w x).sender.tickets h) → c ≡ length (handed (end_of w (other x)).receiver n)
              by_more [] all each =
                  let k = length-append (handed (end_of w (other x)).receiver n) [] in
                  let len = ap length all in
                  let after = performed.after in
                  let before = performed.before in
                  omega (arith, k, len, after, before)
              by_more (h ∷ hs) all each = absurd (none h (each h (inl refl)))

              count : HandsLaterOnes (end_of v x).sender (end_of w x).sender.tickets (end_of w (other x)).receiver (end_of v (other x)).receiver n → c ≡ length (handed (end_of w (other x)).receiver n)
              count k = by_more k.more k.behind k.each

      on_apart : IsApartWorld w → StepResets d x n w e o v
      on_apart k = record {
        shut = λ off. absurd (let on = (new x).sends in cc);
        told = λ c is. absurd (let none = (new (other x)).untold in cc);
        grown = let none = ap (λ (r : ReceiverView). length (handed r n)) (k.ends (other x)).blank.receiver in omega (arith, none);
        resets = λ on. absurd (not_both ((end_of v x).sender.resets.sending n) (new x).sends on);
        noted = λ h on. absurd (not_both ((end_of v x).sender.resets.sending n) (new x).sends on);
        anew = λ c is. absurd (let none = (new (other x)).untold in cc);
        freed = λ on. inl (blank_unreset (end_of w x) n (k.ends x).blank).sends;
        kept = λ on. absurd (let none = (blank_unreset (end_of w (other x)) n (k.ends (other x)).blank).untold in cc (none, on));
        performed = λ h.
            let asks : Asks (end_of v x).sender n = record { request = h.request; waits = h.waits; named = h.named } in
            let steady = steady_step s drawn within d w v e o dates fine i step in
            let off = asks_shut v x n (asks_met d v x n steady.kept asks) asks in
            let on = (new x).sends in
            absurd (cc (off, on));
      }
        where
          not_both : (z : Sending) → is_sending z ≡ true → is_resetting z ≡ true → ⊥
          not_both Sends sends on = cc
          not_both Resets sends on = cc
          not_both Refuses sends on = cc

          new : (y : Side) → IsUnreset (end_of v y) n
          new = step_unreset s drawn d w opening (set_up s drawn within d w i) k n i.caller e o v dates fine step

      go : IsKept d w → StepResets d x n w e o v
      go (inl k) = on_apart k
      go (inr met) = on_met met

pub steady_start : (s : Setup) (es : List Event) (d : Dates) → IsSteady s (drawn_in es) d (start s)
steady_start s es d = record { sound = sound_start s (drawn_in es) (inl refl); caller = λ q. absurd (cc); kept = kept_start s d }

pub requests_part_messages : RequestsPartMessages
requests_part_messages s es more os others past beyond within run on premises aged x n asks =
    parts_between s drawn within d w v x n goes.0 met goes.1 asks
  where
    drawn : List ℕ
    drawn = drawn_in (es ++ more)

    d : Dates
    d = dates_of (start s) (past ++ beyond)

    w : World
    w = last_of (start s) past

    v : World
    v = last_of w beyond

    fine : (e : Event) → Has (es ++ more) e → IsFine s drawn e
    fine = fine_by s (es ++ more) premises

    kept : AllKept d (start s) (es ++ more) (past ++ beyond)
    kept = kept_in_time s (es ++ more) (os ++ others) (past ++ beyond) (passing_goes_on (start s) es more os others past beyond run on).0 aged

    here : IsSteady s drawn d w × AllKept d w more beyond
    here = beginning_steady s drawn within d (start s) es more os past beyond fine run kept (steady_start s (es ++ more) d)

    met : IsMetWorld d w
    met = asks_met d w x n here.0.kept asks

    goes : Between x w v × IsMetWorld d v
    goes = run_goes s drawn within d w more others beyond (λ e h. fine e (Has-right es more e h)) on here.1 here.0 met x
