-- The message that has waited longest, of all or on a stream, and what the streams do in their turns, from what is kept.
use Rattle.std.proofs.Common.{◌≡◌, ℕ, zero, suc, ◌+◌, ◌-◌, ◌%◌, ◌<◌, ◌≤◌, inl, inr, List, [], ◌∷◌, ◌++◌, length, map, take, drop, get_or, max, Bool, true, false, Option, Some, None, refl, sym, ap, ◌∙◌, subst, arith}
use Rattle.std.specs.Prelude.{◌==◌, if◌then◌else◌, slice_get, option_map, option_and_then}
use Rattle.std.specs.Option.{option_or}
use Rattle.std.proofs.lemmas.Bool.Decides.{nat_tests}
use Rattle.std.proofs.lemmas.List.{append_assoc, length-map, take_more}
use Rattle.std.proofs.lemmas.Option.{slice_get-get_or}
use Rattle.sctp_model.specs.messages.Format.{Format, Plain, Interleaved}
use Rattle.sctp_model.specs.messages.Framing.{takes_turns}
use Rattle.sctp_model.specs.messages.Plan.{Entry}
use Rattle.sctp_model.specs.sender.Entries.{continued}
use Rattle.sctp_model.proofs.sender.OwedLaws.{first_stream}
use Rattle.sctp_model.specs.sender.SenderView.{Queued, SenderView}
use Rattle.sctp_model.specs.sender.Words.{first_there, count_up}
use Rattle.sctp_model.specs.sender.Assigning.{with_message, is_on, first_on, without_first, whole_next, going_on, beginning, turn_of, assigned}
use Rattle.sctp_model.specs.sender.Queueing.{cut}
use Rattle.sctp_model.specs.sender.Reached.{IsReached}
use Rattle.sctp_model.proofs.sender.SetLaws.{AllFilled, is_filled}
use Rattle.sctp_send.specs.inner.Newcomers.{rest_at, has_rest, fresh_track, without_place, IsFirstOn, IsBegun, IsContinued, IsTurnBegun, IsTurnContinued}
use Rattle.sctp_send.specs.inner.Stocking.{stocked, TurnAnswer, NewAnswer}
use Rattle.sctp_send.specs.SenderKept.{Track, Kept}
use Rattle.sctp_send.specs.SenderStands.{rest_here, track_here, Keeps}
use Rattle.sctp_send.specs.declared.fill.assigning.Next.{Next}
use Rattle.sctp_send.specs.declared.fill.assigning.Next.TheVariants.{Begins, Continues}
use Rattle.std.specs.declared.alloc.Global.{Global}
use Rattle.std.specs.declared.sync.Arc.{Arc}
use Rattle.sctp_send.specs.SenderFields.{queued_by}
use Rattle.sctp_send.specs.declared.kept.message.Message.{Message as MessageFields}
use Rattle.sctp_send.specs.declared.stock.Stock.{Stock}
use Rattle.sctp_send.proofs.TableLemmas.{length-table}
use Rattle.sctp_send.proofs.fill.AssignLemmas.{track_at}
use Rattle.sctp_send.proofs.WalkLemmas.{none_behind, queue_read}

-- ---- the first message of a stream

-- none of the first messages is of the stream
pub record IsPassedOn (s at : ℕ) (qs : List Queued) : Type 0 where
  pub first : first_on s qs ≡ first_on s (drop at qs)
  pub rest : without_first (is_on s) qs ≡ take at qs ++ without_first (is_on s) (drop at qs)

pub passed_none : (s : ℕ) (qs : List Queued) → IsPassedOn s 0 qs
passed_none s qs = record { first = refl; rest = refl }

first_step : (s at : ℕ) (qs : List Queued) (d : Queued) → at < length qs → first_on s (drop at qs) ≡ (if is_on s (get_or qs at d) then Some (get_or qs at d) else first_on s (drop (suc at) qs))
first_step s at [] d lt = absurd (omega arith)
first_step s zero (x ∷ qs) d lt = refl
first_step s (suc at) (x ∷ qs) d lt = first_step s at qs d (omega arith)

rest_step : (s at : ℕ) (qs : List Queued) (d : Queued) → at < length qs
    → without_first (is_on s) (drop at qs) ≡ (if is_on s (get_or qs at d) then drop (suc at) qs else get_or qs at d ∷ without_first (is_on s) (drop (suc at) qs))
rest_step s at [] d lt = absurd (omega arith)
rest_step s zero (x ∷ qs) d lt = refl
rest_step s (suc at) (x ∷ qs) d lt = rest_step s at qs d (omega arith)

-- one more is of another
pub passed_more : (s at : ℕ) (qs : List Queued) (q : Queued) → at < length qs → get_or qs at q ≡ q → (q.lane.stream ≡ s → ⊥) → IsPassedOn s at qs → IsPassedOn s (at + 1) qs
passed_more s at qs q lt read apart before =
    let off : is_on s (get_or qs at q) ≡ false = rw read (by_test (q.lane.stream == s) refl) in
    let one : at + 1 ≡ suc at = omega arith in
    let first : first_on s (drop at qs) ≡ first_on s (drop (suc at) qs) = first_step s at qs q lt ∙ rw off refl in
    let rest : without_first (is_on s) (drop at qs) ≡ get_or qs at q ∷ without_first (is_on s) (drop (suc at) qs) = rest_step s at qs q lt ∙ rw off refl in
    let all : without_first (is_on s) qs ≡ take (at + 1) qs ++ without_first (is_on s) (drop (suc at) qs) =
    before.rest ∙ ap (λ (xs : List Queued). take at qs ++ xs) rest ∙ sym (append_assoc (take at qs) (get_or qs at q ∷ []) (without_first (is_on s) (drop (suc at) qs)))
    ∙ ap (λ (xs : List Queued). xs ++ without_first (is_on s) (drop (suc at) qs)) (sym (take_more qs at q lt)) in
    record { first = before.first ∙ first ∙ rw one refl; rest = all ∙ rw one refl }
  where
    by_test : (b : Bool) → (q.lane.stream == s) ≡ b → b ≡ false
    by_test false is = refl
    by_test true is = absurd (apart (grind (arith, nat_tests)))

-- and this one is of it
pub passed_here : (s at : ℕ) (qs : List Queued) (q : Queued) → at < length qs → get_or qs at q ≡ q → q.lane.stream ≡ s → IsPassedOn s at qs → IsFirstOn s at qs
passed_here s at qs q lt read same before =
    let on : is_on s (get_or qs at q) ≡ true = rw read (grind (arith, nat_tests)) in
    let first : first_on s (drop at qs) ≡ Some q = first_step s at qs q lt ∙ rw on (ap (λ (x : Queued). Some x) read) in
    let rest : without_first (is_on s) (drop at qs) ≡ drop (suc at) qs = rest_step s at qs q lt ∙ rw on refl in
    record {
      message = q;
      first = before.first ∙ first;
      there = slice_get-get_or qs at q lt ∙ ap (λ (x : Queued). Some x) read;
      rest = before.rest ∙ ap (λ (xs : List Queued). take at qs ++ xs) rest;
    }

pub passed_all : (s at : ℕ) (qs : List Queued) → length qs ≤ at → IsPassedOn s at qs → first_on s qs ≡ None
passed_all s at qs le before = before.first ∙ ap (first_on s) (none_behind at qs le)

-- ---- under DATA

-- the format that takes turns
pub turning : (f : Format) → takes_turns f ≡ true → f ≡ Interleaved
turning Plain turns = absurd (cc)
turning Interleaved turns = refl

-- nothing waits
pub whole_none : (v : SenderView) → length v.queue ≡ 0 → whole_next v ≡ None
whole_none v none = by_queue v.queue none
  where
    by_queue : (qs : List Queued) → length qs ≡ 0 → option_map (λ q. record v { plan = with_message v.plan q (length q.message.fragments); queue = drop 1 qs }) (slice_get qs 0) ≡ None
    by_queue [] is = refl
    by_queue (q ∷ qs) is = absurd (omega arith)

whole_begun : (v : SenderView) (q : Queued) (count turn : ℕ) → get_or v.queue 0 q ≡ q → 0 < length v.queue → count ≡ length q.message.fragments → 0 < count → turn ≡ v.turn → IsBegun Plain v 0 count turn
whole_begun v q count turn read some all less same =
    let there : slice_get v.queue 0 ≡ Some q = slice_get-get_or v.queue 0 q some ∙ ap (λ (x : Queued). Some x) read in
    record {
      message = q;
      less = count - 1;
      there = there;
      some = omega arith;
      first = inl (split v.queue there);
      assigned = rw (there, all, same) refl;
    }
  where
    split : (qs : List Queued) → slice_get qs 0 ≡ Some q → qs ≡ q ∷ without_place 0 qs
    split [] is = absurd (cc)
    split (x ∷ qs) is = let one : x ≡ q = cc in ap (λ (y : Queued). y ∷ qs) one

-- what waits in front has fragments
first_filled : (f : Format) (v : SenderView) (q : Queued) → IsReached f v → get_or v.queue 0 q ≡ q → 0 < length v.queue → 0 < length q.message.fragments
first_filled f v q h read some = by_queue v.queue (is_filled f v h) read some
  where
    by_queue : (qs : List Queued) → AllFilled v.streams qs → get_or qs 0 q ≡ q → 0 < length qs → 0 < length q.message.fragments
    by_queue [] filled here more = absurd (omega arith)
    by_queue (x ∷ qs) filled here more = subst (λ (y : Queued). 0 < length y.message.fragments) here filled.0.0

-- as the code reads it: nothing waits
pub none_waits : (f : Format) (s : Kept) (v : SenderView) (d : Stock) → Keeps f (stocked s d) v → takes_turns f ≡ false → length d.queue.items ≡ 0 → assigned f v ≡ None
none_waits Interleaved s v d k turns none = absurd (cc)
none_waits Plain s v d k turns none =
    let long = length-map d.queue.items (queued_by s.fragment) in
    let same = ap (λ (qs : List Queued). length qs) k.holds.queue in
    whole_none v (omega (arith, long, same))

-- or this one waits in front
pub first_waits : (f : Format) (s : Kept) (v : SenderView) (d : Stock) (x : Arc MessageFields Global) (all count : ℕ) → Keeps f (stocked s d) v → takes_turns f ≡ false → 0 < length d.queue.items → x ≡ get_or d.queue.items 0 x
    → all ≡ length (cut s.fragment x.value.bytes.items) → count ≡ max all 1 → IsBegun f v 0 count d.turn
first_waits Interleaved s v d x all count k turns some read its most = absurd (cc)
first_waits Plain s v d x all count k turns some read its most =
    let q = queued_by s.fragment x in
    let long = length-map d.queue.items (queued_by s.fragment) in
    let same = ap (λ (qs : List Queued). length qs) k.holds.queue in
    let here : get_or v.queue 0 q ≡ q = ap (λ (qs : List Queued). get_or qs 0 q) (sym k.holds.queue) ∙ queue_read s.fragment d.queue.items 0 x read in
    let filled = first_filled Plain v q k.reached here (omega (arith, long, same)) in
    let is : count ≡ length q.message.fragments = omega (arith, most, its, filled) in
    whole_begun v q count d.turn here (omega (arith, long, same)) is (omega (arith, is, filled)) k.holds.turn

-- ---- under I-DATA

-- what is left of the message in part of a stream, as the view says it
pub rest_kept : (f : Format) (s : Kept) (v : SenderView) (j : ℕ) → Keeps f s v → j < v.streams → rest_at s.tracks j ≡ rest_here v.plan (continued v.plan j)
rest_kept f s v j k low =
    let long = ap (λ (ts : List Track). length ts) k.holds.tracks ∙ length-table (track_here v) 0 v.streams in
    ap (option_and_then (λ (t : Track). t.rest)) (slice_get-get_or s.tracks j fresh_track (omega (arith, long))) ∙ ap (λ (t : Track). t.rest) (track_at f s v j fresh_track k low)

pub turn_goes_on : (f : Format) (s : Kept) (v : SenderView) (j : ℕ) → Keeps f s v → j < v.streams → has_rest (rest_at s.tracks j) ≡ true → IsTurnContinued v j
turn_goes_on f s v j k low is = by_next (continued v.plan j) refl (ap has_rest (sym (rest_kept f s v j k low)) ∙ is)
  where
    by_next : (o : Option Entry) → continued v.plan j ≡ o → has_rest (rest_here v.plan o) ≡ true → IsTurnContinued v j
    by_next None on here = absurd (cc)
    by_next (Some e) on here = record { entry = e; on = on; does = rw on refl }

stream_idle : (f : Format) (s : Kept) (v : SenderView) (j : ℕ) → Keeps f s v → j < v.streams → has_rest (rest_at s.tracks j) ≡ false → continued v.plan j ≡ None
stream_idle f s v j k low is = by_next (continued v.plan j) refl (ap has_rest (sym (rest_kept f s v j k low)) ∙ is)
  where
    by_next : (o : Option Entry) → continued v.plan j ≡ o → has_rest (rest_here v.plan o) ≡ false → o ≡ None
    by_next None on here = refl
    by_next (Some e) on here = absurd (cc)

pub turn_begins : (f : Format) (s : Kept) (v : SenderView) (j place turn : ℕ) → Keeps f s v → j < v.streams → has_rest (rest_at s.tracks j) ≡ false → IsFirstOn j place s.queue → turn ≡ suc j % v.streams → IsTurnBegun v j place 1 turn
turn_begins f s v j place turn k low idle found is =
    let here = subst (λ (qs : List Queued). IsFirstOn j place qs) k.holds.queue found in
    let none = stream_idle f s v j k low idle in
    record { message = here.message; there = here.there; first = here.first; rest = here.rest; one = refl; next = is; does = rw (none, here.first) refl }

pub turn_idle : (f : Format) (s : Kept) (v : SenderView) (j : ℕ) → Keeps f s v → j < v.streams → has_rest (rest_at s.tracks j) ≡ false → first_on j s.queue ≡ None → turn_of v j ≡ None
turn_idle f s v j k low idle waits =
    let none = stream_idle f s v j k low idle in
    let empty : first_on j v.queue ≡ None = ap (first_on j) (sym k.holds.queue) ∙ waits in
    rw (none, empty) refl

-- ---- turn by turn

-- so many streams, in the order of their turns, from the one that is so far behind the turn
abbrev pub turns_from : SenderView → (step many : ℕ) → List ℕ
turns_from v step many = map (λ d. (v.turn + d) % v.streams) (count_up step many)

-- what these do
abbrev pub turns_do : SenderView → (step : ℕ) → Option SenderView
turns_do v step = first_there (map (turn_of v) (turns_from v step (v.streams - step)))

pub turns_all : (v : SenderView) → assigned Interleaved v ≡ turns_do v 0
turns_all v = let all : v.streams - 0 ≡ v.streams = omega arith in rw all refl

pub turns_none : (v : SenderView) (step : ℕ) → v.streams ≤ step → turns_do v step ≡ None
turns_none v step le = let none : v.streams - step ≡ 0 = omega arith in rw none refl

turns_step : (v : SenderView) (step : ℕ) → step < v.streams → turns_do v step ≡ option_or (turn_of v ((v.turn + step) % v.streams)) (turns_do v (step + 1))
turns_step v step lt =
    let more : v.streams - step ≡ suc (v.streams - (step + 1)) = omega arith in
    let one : suc step ≡ step + 1 = omega arith in
    rw more (rw one refl)

-- the next one has nothing to send
pub turns_more : (v : SenderView) (step stream : ℕ) → step < v.streams → stream ≡ (v.turn + step) % v.streams → turn_of v stream ≡ None → assigned Interleaved v ≡ turns_do v step → assigned Interleaved v ≡ turns_do v (step + 1)
turns_more v step stream lt is none before =
    let here : turn_of v ((v.turn + step) % v.streams) ≡ None = ap (turn_of v) (sym is) ∙ none in
    before ∙ turns_step v step lt ∙ ap (λ (o : Option SenderView). option_or o (turns_do v (step + 1))) here

-- or it has something
pub turns_found : (v : SenderView) (step stream : ℕ) (u : SenderView) → step < v.streams → stream ≡ (v.turn + step) % v.streams → turn_of v stream ≡ Some u → assigned Interleaved v ≡ turns_do v step → assigned Interleaved v ≡ Some u
turns_found v step stream u lt is some before =
    let here : turn_of v ((v.turn + step) % v.streams) ≡ Some u = ap (turn_of v) (sym is) ∙ some in
    before ∙ turns_step v step lt ∙ ap (λ (o : Option SenderView). option_or o (turns_do v (step + 1))) here

-- then that is what takes the next index
pub new_in_turn : (v : SenderView) (step stream : ℕ) (next : Next) → step < v.streams → stream ≡ (v.turn + step) % v.streams → stream < v.streams → TurnAnswer v stream (Some next) → assigned Interleaved v ≡ turns_do v step
    → NewAnswer Interleaved v (Some next)
new_in_turn v step stream (Begins next) lt is low t before =
    let own = first_stream stream t.message v.queue t.first in
    let some = turns_found v step stream (beginning v stream t.message) lt is t.does before in
    record {
      message = t.message;
      less = 0;
      there = t.there;
      some = t.one;
      first = inr (ap (λ (j : ℕ). first_on j v.queue) own ∙ t.first, ap (λ (j : ℕ). without_first (is_on j) v.queue) own ∙ t.rest);
      assigned = some ∙ rw (t.one, t.next, t.rest) refl;
    }
new_in_turn v step stream (Continues j) lt is low t before =
    let some = turns_found v step stream (going_on v stream t.1.entry) lt is t.1.does before in
    subst (λ (i : ℕ). IsContinued Interleaved v i) (sym t.0) (record { entry = t.1.entry; low = low; on = t.1.on; assigned = some })
