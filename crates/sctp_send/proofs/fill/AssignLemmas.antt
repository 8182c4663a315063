-- What is kept when a message takes its number: items for its fragments, its stream's count and rest, and its ticket's fate.
use Rattle.std.proofs.Common.{◌≡◌, ℕ, suc, ◌+◌, ◌-◌, ◌<◌, ◌≤◌, ◌⊎◌, inl, inr, List, [], ◌∷◌, ◌++◌, length, get_or, set, Bool, true, false, Option, Some, None, refl, sym, ap, ◌∙◌, arith, length-append}
use Rattle.std.specs.Prelude.{◌==◌, ◌&&◌, nat_lt, if◌then◌else◌}
use Rattle.std.proofs.lemmas.Bool.Decides.{nat_tests}
use Rattle.sctp_model.specs.messages.Format.{Format, Kind, Ordered, Unordered, Lane, same_lane, ordered_lane, unordered_lane}
use Rattle.sctp_model.specs.messages.Plan.{Message, Entry, Part, Plan}
use Rattle.sctp_model.specs.sender.SenderView.{Queued, SenderView}
use Rattle.sctp_model.specs.sender.Words.{when}
use Rattle.sctp_model.specs.sender.Entries.{continued}
use Rattle.sctp_model.specs.sender.Queueing.{owed_by_queue, owed_by_parts}
use Rattle.sctp_model.specs.sender.Assigning.{with_message}
use Rattle.sctp_model.specs.sender.Abandoning.{waits}
use Rattle.sctp_model.specs.sender.Reached.{IsReached}
use Rattle.sctp_model.proofs.sender.AbandonCases.{same_lane-self}
use Rattle.sctp_model.proofs.sender.PlanLaws.{message_new, message_stays, continued_is, continued_new}
use Rattle.sctp_model.proofs.sender.CountLaws.{is_named}
use Rattle.sctp_model.proofs.sender.QueueLaws.{IsTaken}
use Rattle.sctp_model.proofs.sender.TicketLaws.{is_ticketed}
use Rattle.sctp_model.proofs.sender.AssignedLaws.{IsSameTicket, IsNumberedNow, numbered_ticket}
use Rattle.sctp_send.specs.SenderKept.{Rest, Track, Kept}
use Rattle.sctp_send.specs.SenderStands.{table, rest_here, track_here, fate_here, Holds, Keeps}
pub use Rattle.sctp_send.specs.inner.Newcomers.{number_in, counted_in, begun_track}
use Rattle.sctp_send.specs.declared.kept.message.Fate.TheVariants.{Numbered}
use Rattle.sctp_send.proofs.TableLemmas.{table-set, get_or-table}
use Rattle.sctp_send.proofs.fill.NewItems.{new_items, numbered, numbered_items}

-- ---- streams

lane_of_kind : (l : Lane) (k : Kind) → l.kind ≡ k → l ≡ record { stream = l.stream; kind = k }
lane_of_kind l k is = ap (λ (x : Kind). record { stream = l.stream; kind = x }) is

pub number_is : (v : SenderView) (l : Lane) → number_in l.kind (track_here v l.stream) ≡ length (v.plan.messages l)
number_is v l = by_kind l.kind refl
  where
    by_kind : (k : Kind) → l.kind ≡ k → number_in k (track_here v l.stream) ≡ length (v.plan.messages l)
    by_kind Ordered is = ap (λ (b : Lane). length (v.plan.messages b)) (sym (lane_of_kind l Ordered is))
    by_kind Unordered is = ap (λ (b : Lane). length (v.plan.messages b)) (sym (lane_of_kind l Unordered is))

rest_stays : (f : Format) (v : SenderView) (q : Queued) (d j : ℕ) → IsReached f v → rest_here (with_message v.plan q d) (continued v.plan j) ≡ rest_here v.plan (continued v.plan j)
rest_stays f v q d j h = by_next (continued v.plan j) refl
  where
    by_next : (o : Option Entry) → continued v.plan j ≡ o → rest_here (with_message v.plan q d) o ≡ rest_here v.plan o
    by_next None is = refl
    by_next (Some e) is = ap (λ (m : Option Message). Some (record { entry = e; message = m })) (message_stays v.streams v.plan q d e (continued_is v.streams v.plan j e (is_named f v h) is).named)

-- the messages of a stream's lane, once one of them took its number
lengths : (v : SenderView) (q : Queued) (d : ℕ) (l : Lane) → length ((with_message v.plan q d).messages l) ≡ (if same_lane l q.lane then suc (length (v.plan.messages q.lane)) else length (v.plan.messages l))
lengths v q d l = by_lane (same_lane l q.lane)
  where
    by_lane : (b : Bool) → length (if b then v.plan.messages q.lane ++ q.message ∷ [] else v.plan.messages l) ≡ (if b then suc (length (v.plan.messages q.lane)) else length (v.plan.messages l))
    by_lane true = omega (arith, length-append (v.plan.messages q.lane) (q.message ∷ []))
    by_lane false = refl

-- another stream stays
track_other : (f : Format) (v : SenderView) (q : Queued) (d : ℕ) (rest : List Queued) (turn j : ℕ) → IsReached f v → (j ≡ q.lane.stream → ⊥) → track_here (numbered v q (suc d) rest turn) j ≡ track_here v j
track_other f v q d rest turn j h apart =
    let off : (j == q.lane.stream) ≡ false = by_test (j == q.lane.stream) refl in
    let turned : (q.lane.stream == j) ≡ false = by_turned (q.lane.stream == j) refl in
    let ordered : length ((with_message v.plan q (suc d)).messages (ordered_lane j)) ≡ length (v.plan.messages (ordered_lane j)) = lengths v q (suc d) (ordered_lane j) ∙ rw off refl in
    let unordered : length ((with_message v.plan q (suc d)).messages (unordered_lane j)) ≡ length (v.plan.messages (unordered_lane j)) = lengths v q (suc d) (unordered_lane j) ∙ rw off refl in
    let next : continued (with_message v.plan q (suc d)) j ≡ continued v.plan j = continued_new v.streams v.plan q d j (is_named f v h) ∙ rw turned refl in
    let goes_on : rest_here (with_message v.plan q (suc d)) (continued (with_message v.plan q (suc d)) j) ≡ rest_here v.plan (continued v.plan j) = ap (rest_here (with_message v.plan q (suc d))) next ∙ rest_stays f v q (suc d) j h in
    ap (λ (n : ℕ). record { ordered = n; unordered = length ((with_message v.plan q (suc d)).messages (unordered_lane j)); rest = rest_here (with_message v.plan q (suc d)) (continued (with_message v.plan q (suc d)) j) }) ordered
    ∙ ap (λ (n : ℕ). record { ordered = length (v.plan.messages (ordered_lane j)); unordered = n; rest = rest_here (with_message v.plan q (suc d)) (continued (with_message v.plan q (suc d)) j) }) unordered
    ∙ ap (λ (r : Option Rest). record { ordered = length (v.plan.messages (ordered_lane j)); unordered = length (v.plan.messages (unordered_lane j)); rest = r }) goes_on
  where
    by_test : (b : Bool) → (j == q.lane.stream) ≡ b → b ≡ false
    by_test false is = refl
    by_test true is = absurd (apart (grind (arith, nat_tests)))

    by_turned : (b : Bool) → (q.lane.stream == j) ≡ b → b ≡ false
    by_turned false is = refl
    by_turned true is = absurd (apart (grind (arith, nat_tests)))

-- its own stream counts it, and goes on with it
track_own : (f : Format) (v : SenderView) (q : Queued) (d : ℕ) (rest : List Queued) (turn : ℕ) → IsReached f v
    → track_here (numbered v q (suc d) rest turn) q.lane.stream ≡ begun_track q (suc d) (track_here v q.lane.stream)
track_own f v q d rest turn h = by_kind q.lane.kind refl
  where
    p2 : Plan
    p2 = with_message v.plan q (suc d)

    s : ℕ
    s = q.lane.stream

    m : ℕ
    m = length (v.plan.messages q.lane)

    on : (s == s) ≡ true
    on = grind (arith, nat_tests)

    left : Option Rest
    left = when (nat_lt (suc d) (length q.message.fragments)) (record { entry = Part q.lane m (suc d); message = Some q.message })

    goes_on : rest_here p2 (continued p2 s) ≡ left
    goes_on = ap (rest_here p2) (continued_new v.streams v.plan q d s (is_named f v h) ∙ rw on refl) ∙ by_more (nat_lt (suc d) (length q.message.fragments))
      where
        by_more : (b : Bool) → rest_here p2 (when b (Part q.lane m (suc d))) ≡ when b (record { entry = Part q.lane m (suc d); message = Some q.message })
        by_more true = ap (λ (x : Option Message). Some (record { entry = Part q.lane m (suc d); message = x })) (message_new v.plan q (suc d))
        by_more false = refl

    track : ℕ → ℕ → Option Rest → Track
    track a b r = record { ordered = a; unordered = b; rest = r }

    alike : (a b c e : ℕ) (r t : Option Rest) → a ≡ c → b ≡ e → r ≡ t → track a b r ≡ track c e t
    alike a b c e r t x y z = ap (λ (n : ℕ). track n b r) x ∙ ap (λ (n : ℕ). track c n r) y ∙ ap (track c e) z

    by_kind : (k : Kind) → q.lane.kind ≡ k → track_here (numbered v q (suc d) rest turn) s ≡ record (counted_in k (track_here v s)) { rest = when (nat_lt (suc d) (length q.message.fragments)) (record { entry = Part q.lane (number_in k (track_here v s)) (suc d); message = Some q.message }) }
    by_kind Ordered is =
        let lane = lane_of_kind q.lane Ordered is in
        let same : same_lane (ordered_lane s) q.lane ≡ true = rw lane (same_lane-self (ordered_lane s)) in
        let other : same_lane (unordered_lane s) q.lane ≡ false = rw is (never (s == s)) in
        let number : m ≡ length (v.plan.messages (ordered_lane s)) = ap (λ (b : Lane). length (v.plan.messages b)) lane in
        alike _ _ _ _ _ _ (lengths v q (suc d) (ordered_lane s) ∙ rw same (ap suc number)) (lengths v q (suc d) (unordered_lane s) ∙ rw other refl)
        (goes_on ∙ ap (λ (n : ℕ). when (nat_lt (suc d) (length q.message.fragments)) (record { entry = Part q.lane n (suc d); message = Some q.message })) number)
      where
        never : (b : Bool) → (b && false) ≡ false
        never true = refl
        never false = refl
    by_kind Unordered is =
        let lane = lane_of_kind q.lane Unordered is in
        let same : same_lane (unordered_lane s) q.lane ≡ true = rw lane (same_lane-self (unordered_lane s)) in
        let other : same_lane (ordered_lane s) q.lane ≡ false = rw is (never (s == s)) in
        let number : m ≡ length (v.plan.messages (unordered_lane s)) = ap (λ (b : Lane). length (v.plan.messages b)) lane in
        alike _ _ _ _ _ _ (lengths v q (suc d) (ordered_lane s) ∙ rw other refl) (lengths v q (suc d) (unordered_lane s) ∙ rw same (ap suc number))
        (goes_on ∙ ap (λ (n : ℕ). when (nat_lt (suc d) (length q.message.fragments)) (record { entry = Part q.lane n (suc d); message = Some q.message })) number)
      where
        never : (b : Bool) → (b && false) ≡ false
        never true = refl
        never false = refl

-- ---- tickets

-- its ticket has a number now, and the others say what they said
fate_own : (f : Format) (v : SenderView) (q : Queued) (rest : List Queued) (d turn : ℕ) → IsReached f v → IsTaken q rest v.queue → fate_here (numbered v q (suc d) rest turn) q.message.ticket ≡ Numbered
fate_own f v q rest d turn h taken = by_case (numbered_ticket f v q rest d turn q.message.ticket h taken)
  where
    t : ℕ
    t = q.message.ticket

    gone : waits t rest ≡ false
    gone = (taken.alone (is_ticketed f v h).apart).0

    by_case : IsSameTicket v (numbered v q (suc d) rest turn) t ⊎ IsNumberedNow v (numbered v q (suc d) rest turn) t → fate_here (numbered v q (suc d) rest turn) t ≡ Numbered
    by_case (inl same) = absurd (let waiting : waits t rest ≡ waits t v.queue = same.waiting in let clash : false ≡ true = sym gone ∙ waiting ∙ taken.was in cc)
    by_case (inr new) = rw (gone, new.named, new.kept) refl

fate_other : (f : Format) (v : SenderView) (q : Queued) (rest : List Queued) (d turn t : ℕ) → IsReached f v → IsTaken q rest v.queue → (q.message.ticket ≡ t → ⊥) → fate_here (numbered v q (suc d) rest turn) t ≡ fate_here v t
fate_other f v q rest d turn t h taken apart = by_case (numbered_ticket f v q rest d turn t h taken)
  where
    u : SenderView
    u = numbered v q (suc d) rest turn

    by_case : IsSameTicket v u t ⊎ IsNumberedNow v u t → fate_here u t ≡ fate_here v t
    by_case (inr new) = absurd (let gone : waits t rest ≡ false = new.gone in let clash : false ≡ true = sym gone ∙ taken.others t apart ∙ new.was in cc)
    by_case (inl same) = rw (same.waiting, same.named) refl

numbered_fates : (f : Format) (s : Kept) (v : SenderView) (q : Queued) (rest : List Queued) (d turn : ℕ) → Keeps f s v → IsTaken q rest v.queue
    → set s.fates (q.message.ticket - 1) Numbered ≡ table (fate_here (numbered v q (suc d) rest turn)) 1 v.tickets
numbered_fates f s v q rest d turn k taken =
    let u = numbered v q (suc d) rest turn in
    let t = q.message.ticket in
    let given = (is_ticketed f v k.reached).waiting t taken.was in
    let low = given.0 in
    let high = given.1 in
    let back : 1 + (t - 1) ≡ t = omega arith in
    let self : fate_here u (1 + (t - 1)) ≡ Numbered = rw back (fate_own f v q rest d turn k.reached taken) in
    let others : (j : ℕ) → 1 ≤ j → j < 1 + v.tickets → (j ≡ 1 + (t - 1) → ⊥) → fate_here u j ≡ fate_here v j = λ j lo hi ne. fate_other f v q rest d turn j k.reached taken (λ same. ne (omega arith)) in
    rw (k.holds.fates, table-set (fate_here v) (fate_here u) 1 v.tickets (t - 1) (omega arith) others, self) refl

-- ---- what is kept

-- the track of a stream that is there
pub track_at : (f : Format) (s : Kept) (v : SenderView) (j : ℕ) (d : Track) → Keeps f s v → j < v.streams → get_or s.tracks j d ≡ track_here v j
track_at f s v j d k low = let zeroed : 0 + j ≡ j = omega arith in ap (λ (xs : List Track). get_or xs j d) k.holds.tracks ∙ get_or-table (track_here v) 0 v.streams j d low ∙ ap (track_here v) zeroed

numbered_tracks : (f : Format) (s : Kept) (v : SenderView) (q : Queued) (rest : List Queued) (d turn : ℕ) (x : Track) → Keeps f s v → q.lane.stream < v.streams
    → set s.tracks q.lane.stream (begun_track q (suc d) (get_or s.tracks q.lane.stream x)) ≡ table (track_here (numbered v q (suc d) rest turn)) 0 v.streams
numbered_tracks f s v q rest d turn x k low =
    let u = numbered v q (suc d) rest turn in
    let j = q.lane.stream in
    let zeroed : 0 + j ≡ j = omega arith in
    let self : track_here u (0 + j) ≡ begun_track q (suc d) (track_here v j) = rw zeroed (track_own f v q d rest turn k.reached) in
    rw (track_at f s v j x k low, k.holds.tracks, table-set (track_here v) (track_here u) 0 v.streams j low (λ i lo hi ne. track_other f v q d rest turn i k.reached (λ same. ne (omega arith))), self) refl

-- A message took its number, with d + 1 of its fragments: items behind the others, its stream's track, its ticket's fate, and room for what is owed then.
pub holds_begun : (f : Format) (s : Kept) (v : SenderView) (q : Queued) (rest : List Queued) (d turn capacity : ℕ) (x : Track) → Keeps f s v → IsTaken q rest v.queue → q.lane.stream < v.streams
    → length (s.items ++ new_items q.lane (number_in q.lane.kind (get_or s.tracks q.lane.stream x)) q.message 0 (suc d)) + (owed_by_queue rest + owed_by_parts (numbered v q (suc d) rest turn)) ≤ capacity
    → Holds (record s {
      items = s.items ++ new_items q.lane (number_in q.lane.kind (get_or s.tracks q.lane.stream x)) q.message 0 (suc d);
      queue = rest;
      tracks = set s.tracks q.lane.stream (begun_track q (suc d) (get_or s.tracks q.lane.stream x));
      fates = set s.fates (q.message.ticket - 1) Numbered;
      turn = turn;
      capacity = capacity;
    }) (numbered v q (suc d) rest turn)
holds_begun f s v q rest d turn capacity x k taken low room =
    let number : number_in q.lane.kind (get_or s.tracks q.lane.stream x) ≡ length (v.plan.messages q.lane) = ap (number_in q.lane.kind) (track_at f s v q.lane.stream x k low) ∙ number_is v q.lane in
    record {
      initial = k.holds.initial;
      streams = k.holds.streams;
      fragment = k.holds.fragment;
      partial = k.holds.partial;
      cum = k.holds.cum;
      rwnd = k.holds.rwnd;
      turn = refl;
      items = ap (λ (n : ℕ). s.items ++ new_items q.lane n q.message 0 (suc d)) number ∙ numbered_items f s v q (suc d) rest turn k;
      queue = refl;
      tracks = numbered_tracks f s v q rest d turn x k low;
      fates = numbered_fates f s v q rest d turn k taken;
      covered = k.holds.covered;
      room = room;
    }
