-- What is told on a stream between two closings is of one channel.
use Rattle.std.proofs.Common.{◌≡◌, ◌⊎◌, ℕ, zero, suc, ◌+◌, ◌-◌, ◌<◌, ◌≤◌, min, max, ◌==◌, ◌&&◌, not, Bool, true, false, List, [], ◌∷◌, ◌++◌, length, length-append, Option, Some, None, is_some, inl, inr, refl, sym, subst, ap, ◌∙◌, arith, if◌then◌else◌, slice_get, append-nil, map}
use Rattle.std.specs.Prelude.{unwrap_or}
use Rattle.std.proofs.lemmas.Bool.{and_parts, cases_lt}
use Rattle.std.proofs.lemmas.List.{append_assoc}
use Rattle.sctp_model.specs.numbers.Lists.{Has}
use Rattle.sctp_model.specs.receiver.ReceiverView.{Handed, ReceiverView, handed}
use Rattle.sctp_model.specs.end.Configured.{IsConfiguration}
use Rattle.sctp_model.specs.end.EndView.{EndView}
use Rattle.sctp_model.specs.world.World.{Side, A, B, other, World, end_of, Setup, configuration_of, start}
use Rattle.sctp_model.specs.world.Events.{Event, WasReset, Outcome, ResetThere}
use Rattle.sctp_model.specs.world.Steps.{Step, PassesThrough, last_of}
use Rattle.sctp_model.specs.world.Aged.{Aged}
use Rattle.sctp_model.specs.world.Premises.{drawn_in, FreshAndUnforged}
use Rattle.sctp_safety.proofs.machine.DiagramRuns.{IsFresh, step_onward}
use Rattle.sctp_safety.proofs.machine.EndsAgree.{fine_by}
use Rattle.sctp_safety.proofs.machine.Ground.{IsFine}
use Rattle.sctp_safety.proofs.runs.ApartWorld.{IsApartWorld}
use Rattle.sctp_safety.proofs.runs.DatedBags.{Dates}
use Rattle.sctp_safety.proofs.runs.Dating.{dates_of, AllKept, kept_in_time}
use Rattle.sctp_safety.proofs.runs.MetWorld.{IsMetWorld}
use Rattle.sctp_safety.proofs.runs.Safety.{IsKept, IsSteady, steady_step}
use Rattle.sctp_safety.proofs.runs.parted.Parting.{StepResets, step_resets, steady_start, run_goes}
use Rattle.sctp_outcomes.specs.Users.{taken_by, taken, Match, exchange}
use Rattle.sctp_outcomes.specs.Parted.{is_reset as resets_it, is_reported, one_if, ResetAfter, IsTold, place_of, AreMatched}
use Rattle.sctp_outcomes.specs.AllReported.{HearsToldOnly, IsReportedAt, WasReported, IsToBe, LiesBetween}
use Rattle.sctp_outcomes.proofs.AgedDates.{AreSound, start_sound, step_goes_on}
use Rattle.sctp_outcomes.proofs.users.AllReported.{reports_it}
use Rattle.sctp_outcomes.proofs.users.Noted.{step_noted}
use Rattle.sctp_outcomes.proofs.users.PartedRuns.{step_tells, some_told, start_untold, start_taken}
use Rattle.sctp_outcomes.proofs.users.Runs.{run_adds}
use Rattle.sctp_outcomes.proofs.users.Placed.{ReportedAfter, CoversPlaces, resets_have_places}
use Rattle.sctp_outcomes.proofs.users.ReportedOnce.{AllWithin, all_within, starts, reported_step}
use Rattle.sctp_dcep.specs.Content.{Content, content_of}
use Rattle.sctp_channels.specs.declared.stream.Resets.{Resets}
use Rattle.sctp_channels.specs.declared.stream.State.{State}
use Rattle.sctp_channels.specs.declared.stream.State.TheVariants as state
use Rattle.sctp_channels.specs.declared.stream.Stream.{Stream}
use Rattle.sctp_channels.specs.declared.table.DtlsRole.{DtlsRole}
use Rattle.sctp_channels.specs.Streams.{unused, is_reset, is_reset_again, is_drained, has_channel, Table, fresh_table, stream_at, first_from}
use Rattle.sctp_channels.specs.Told.{Told, Message, Closed, BufferedAmountLow, Report}
use Rattle.sctp_channels.specs.Coming.{After, comes, content_comes, other_comes, data_comes, Said, OfDcep, OfChannel, said_in, comes_saying, control_comes}
use Rattle.sctp_channels.specs.Calling.{outgoing}
use Rattle.sctp_channels.specs.Events.{Reported, quiet, reports_closed, reports_low, reports_taken, reports_waiting, reports_message, is_empty, is_readable, readable_from, or_else, turn, next_report}
use Rattle.sctp_channels.specs.Driven.{Driven}
use Rattle.sctp_channels.specs.Promise.{IsTaken}
use Rattle.sctp_channels.specs.OneChannel.{IsTelling, IsOneChannel, AreOfOne, ChannelsAreOne}
use Rattle.sctp_channels.proofs.SpanLemmas.{unused_there}
use Rattle.sctp_channels.proofs.Promised.{report_turns, turn_passes, one_report, beyond, contents_are_taken, tells_no, other_tells}
use Rattle.sctp_channels.proofs.Driven.{driven_takes, taken_both}
use Rattle.sctp_channels.proofs.MadeLemmas.{last_on}
use Rattle.sctp_channels.proofs.Marks.{again_is}
use Rattle.sctp_channels.proofs.Closings.{OwnAhead, own_ahead, start_tally}
use Rattle.sctp_channels.proofs.Places.{IsNotedAt, AtFirst, AtSecond}
use Rattle.sctp_channels.proofs.Keeping.{took, got, got_is, Holds}
use Rattle.sctp_channels.proofs.ToldPlaces.{driven_many, Unclosed, Bounded, Stands, run_stands}

-- ---- a content that is told

-- the stream is read, there is a channel, and so it is one of the table, and of those that there are
record IsRead (v : EndView) (x : Table) (n : ℕ) : Type 0 where
  readable : is_readable v x n ≡ true
  small : n < 65_536
  channel : has_channel (stream_at x n).state ≡ true
  wide : n < length x.streams

first_below : (test : ℕ → Bool) (i many j : ℕ) → first_from test i many ≡ Some j → j < i + many
first_below test i zero j is = absurd (cc)
first_below test i (suc m) j is = go (test i) is (λ further. first_below test (suc i) m j further)
  where
    go : (b : Bool) → (if b then Some i else first_from test (suc i) m) ≡ Some j → (first_from test (suc i) m ≡ Some j → j < suc i + m) → j < i + suc m
    go true here further = let e : i ≡ j = cc here in omega (arith, e)
    go false here further = let lt = further here in omega (arith, lt)

turn_small : (v : EndView) (x : Table) (j : ℕ) → turn v x ≡ Some j → j < 65_536
turn_small v x j is = go (readable_from v x x.next) refl is
  where
    within : (k : ℕ) → j < k + (65_536 - k) → j < 65_536 ⊎ (65_536 ≤ k)
    within k lt = elim (cases_lt k 65_536) [ inl low ↦ inl (omega (arith, lt, low)) | inr high ↦ inr high ]

    none_behind : (k : ℕ) → 65_536 ≤ k → first_from (is_readable v x) k (65_536 - k) ≡ Some j → ⊥
    none_behind k high here = let none : 65_536 - k ≡ 0 = omega (arith, high) in let f = ap (first_from (is_readable v x) k) none in cc (sym f ∙ here)

    go : (o : Option ℕ) → readable_from v x x.next ≡ o → or_else o (readable_from v x 0) ≡ Some j → j < 65_536
    go (Some i) first here = elim (within x.next (first_below (is_readable v x) x.next (65_536 - x.next) j (first ∙ here))) [ inl lt ↦ lt | inr high ↦ absurd (none_behind x.next high (first ∙ here)) ]
    go None first here = let lt = first_below (is_readable v x) 0 (65_536 - 0) j here in omega (arith, lt)

-- a content is told of a channel alone
content_there : (t : State) (d : Content) (z : Stream) (c : Content) → (content_comes t d z).told ≡ Message c → has_channel t ≡ true
content_there state.Unused d z c is = absurd (cc)
content_there state.Connecting d z c is = refl
content_there state.Unanswered d z c is = refl
content_there state.Open d z c is = refl
content_there state.Closing d z c is = refl
content_there state.Refused d z c is = absurd (cc)
content_there state.Silent d z c is = absurd (cc)

comes_there : (role : DtlsRole) (o s : ℕ) (h : Handed) (z : Stream) (c : Content) → (comes role o s h z).told ≡ Message c → has_channel z.state ≡ true
comes_there role o s h z c is = go (said_in h) is
  where
    go : (y : Said) → (comes_saying role o s y z).told ≡ Message c → has_channel z.state ≡ true
    go (OfDcep k) there = absurd (tells_no role o s z.state k z c there)
    go (OfChannel (Some d)) there = content_there z.state d z c there
    go (OfChannel None) there = absurd (other_tells z.state z c there)

closed_no : (c : Content) → Closed ≡ Message c → ⊥
closed_no c is = cc

low_no : (c : Content) → BufferedAmountLow ≡ Message c → ⊥
low_no c is = cc

module _ (v : EndView) (x : Table) (n : ℕ) (c : Content) where
  abbrev Reads : Reported → Type 0
  Reads q = q.report ≡ Some (record { stream = n; told = Message c }) → IsRead v x n

  by_channel : (i : ℕ) → turn v x ≡ Some i → i ≡ n → has_channel (stream_at x i).state ≡ true → IsRead v x n
  by_channel i is e on = record {
    readable = subst (λ (j : ℕ). is_readable v x j ≡ true) e (turn_passes v x i is);
    small = let lt = turn_small v x i is in omega (arith, lt, e);
    channel = here;
    wide = elim (cases_lt n (length x.streams)) [ inl lt ↦ lt | inr le ↦ absurd (let none = ap (λ (z : Stream). has_channel z.state) (beyond x.streams n unused le) in let there = here in cc (none, there)) ];
  }
    where
      here : has_channel (stream_at x n).state ≡ true
      here = subst (λ (j : ℕ). has_channel (stream_at x j).state ≡ true) e on

  by_waiting : (i : ℕ) → turn v x ≡ Some i → (hs : List Handed) → Reads (reports_message i hs v x)
  by_waiting i is [] = λ told. absurd (cc told)
  by_waiting i is (h ∷ rest) = go k.taken
    where
      k : After
      k = comes x.role (outgoing v x) i h (stream_at x i)

      said : ◌≡◌ {A = Option Report} (Some (record { stream = i; told = k.told })) (Some (record { stream = n; told = Message c })) → IsRead v x n
      said told = let both = one_report i n k.told (Message c) told in by_channel i is both.0 (comes_there x.role (outgoing v x) i h (stream_at x i) c both.1)

      go : (b : Bool) → Reads (if b then reports_taken i h rest k v x else reports_waiting i k v x)
      go true told = said told
      go false told = said told

  is_read : Reads (next_report v x)
  is_read = report_turns Reads v x (λ i on told. absurd (closed_no c (one_report i n Closed (Message c) told).1)) (λ i told. absurd (low_no c (one_report i n BufferedAmountLow (Message c) told).1))
      (λ i is. by_waiting i is (v.receiver.waiting i)) (λ told. absurd (cc told)) (λ i on idle told. absurd (closed_no c (one_report i n Closed (Message c) told).1))

-- a place that all messages before were taken isn't noted where a message is read
undrained_off : (v : EndView) (x : Table) (n : ℕ) → is_readable v x n ≡ true → is_drained (stream_at x n) ≡ true → ⊥
undrained_off v x n on all = let off = (and_parts (not (is_empty (v.receiver.waiting n))) (not (is_drained (stream_at x n))) on).1 in not_both (is_drained (stream_at x n)) all off
  where
    not_both : (b : Bool) → b ≡ true → not b ≡ true → ⊥
    not_both true on off = cc off
    not_both false on off = cc on

drained_by : (z : Stream) → is_reset z.resets ≡ true → z.left ≡ 0 → is_drained z ≡ true
drained_by z on none = rw (on, none) refl

never_read : (v : EndView) (x : Table) (n m p : ℕ) → is_readable v x n ≡ true → p ≤ m → (is_reset_again (stream_at x n).resets ≡ true → (stream_at x n).left ≤ (stream_at x n).again) → IsNotedAt m (stream_at x n) p → ⊥
never_read v x n m p on le order (AtFirst is e) = undrained_off v x n on (drained_by (stream_at x n) is (omega (arith, le, e)))
never_read v x n m p on le order (AtSecond is e) = undrained_off v x n on (drained_by (stream_at x n) (again_is (stream_at x n).resets is) (let low = order is in omega (arith, le, e, low)))

-- ---- what is reported in a run's parts

after_told : (x : Side) (n took_first : ℕ) (es : List Event) (os : List (Option Outcome)) (t : IsTold x n es os) → ReportedAfter (other x) n took_first es os (took_first + place_of x n es os t)
after_told x n k es os t =
    subst (λ (fs : List Event). ReportedAfter (other x) n k fs os (k + place_of x n es os t)) (sym t.events)
    (subst (λ (ps : List (Option Outcome)). ReportedAfter (other x) n k (t.past ++ WasReset (other x) ∷ t.later) ps (k + place_of x n es os t)) (sym t.outcomes) (go k t.past t.answers t.aligned))
  where
    go : (k : ℕ) (past : List Event) (answers : List (Option Outcome)) → length answers ≡ length past →
        ReportedAfter (other x) n k (past ++ WasReset (other x) ∷ t.later) (answers ++ Some (ResetThere n t.waiting) ∷ t.others) (k + (length (taken (other x) n past answers) + t.waiting))
    go k [] [] same = inl (t.waiting, refl, refl, omega arith)
    go k (e ∷ past) (o ∷ answers) same =
        let more = taken_by (other x) n e o in
        let l = length-append more (taken (other x) n past answers) in
        inr (subst (λ (p : ℕ). ReportedAfter (other x) n (k + length more) (past ++ WasReset (other x) ∷ t.later) (answers ++ Some (ResetThere n t.waiting) ∷ t.others) p)
        (let e : (k + length more) + (length (taken (other x) n past answers) + t.waiting) ≡ k + (length (more ++ taken (other x) n past answers) + t.waiting) = omega (arith, l) in e) (go (k + length more) past answers (omega (arith, same))))
    go k [] (o ∷ answers) same = absurd (omega (arith, same))
    go k (e ∷ past) [] same = absurd (omega (arith, same))

reported_parts : (y : Side) (n k p : ℕ) (es fs : List Event) (os ps : List (Option Outcome)) → length os ≡ length es → ReportedAfter y n k (es ++ fs) (os ++ ps) p →
    ReportedAfter y n k es os p ⊎ ReportedAfter y n (k + length (taken y n es os)) fs ps p
reported_parts y n k p [] fs [] ps same h = inr (subst (λ (i : ℕ). ReportedAfter y n i fs ps p) (let e : k ≡ k + 0 = omega arith in e) h)
reported_parts y n k p (e ∷ es) fs (o ∷ os) ps same (inl now) = inl (inl now)
reported_parts y n k p (e ∷ es) fs (o ∷ os) ps same (inr h) = elim (reported_parts y n (k + length (taken_by y n e o)) p es fs os ps (omega (arith, same)) h) [
  | inl first ↦ inl (inr first)
  | inr later ↦ inr (subst (λ (i : ℕ). ReportedAfter y n i fs ps p) (let l = length-append (taken_by y n e o) (taken y n es os) in let e : (k + length (taken_by y n e o)) + length (taken y n es os) ≡ k + length (taken_by y n e o ++ taken y n es os) = omega (arith, l) in e) later)
]
reported_parts y n k p [] fs (o ∷ os) ps same h = absurd (omega (arith, same))
reported_parts y n k p (e ∷ es) fs [] ps same h = absurd (omega (arith, same))

aligned_by : (w : World) (es : List Event) (os : List (Option Outcome)) (vs : List World) → PassesThrough w es os vs → (length os ≡ length es) × (length vs ≡ length es)
aligned_by w [] [] [] passes = (refl, refl)
aligned_by w (e ∷ es) (o ∷ os) (v ∷ vs) (step, passes) = let k = aligned_by v es os vs passes in let a = k.0 in let b = k.1 in (omega (arith, a), omega (arith, b))
aligned_by w [] (o ∷ os) vs passes = absurd passes
aligned_by w [] [] (v ∷ vs) passes = absurd passes
aligned_by w (e ∷ es) [] vs passes = absurd passes
aligned_by w (e ∷ es) (o ∷ os) [] passes = absurd passes

-- ---- behind a place at which no reset is to be told

module _ (s : Setup) (drawn : List ℕ) (within : (x : Side) → IsConfiguration (configuration_of s x)) (d : Dates) (x : Side) (n H : ℕ) where
  abbrev peer : Side
  peer = other x

  -- so many messages were delivered, and what is to be told isn't before them
  record Later (w : World) : Type 0 where
    enough : H ≤ got n (end_of w peer)
    pending : (c : ℕ) → (end_of w peer).receiver.resets.told n ≡ Some c → H ≤ c

  later_step : (w v : World) (e : Event) (o : Option Outcome) → StepResets d x n w e o v → Later w → Later v
  later_step w v e o k l = record {
    enough = let a = l.enough in let g = k.grown in omega (arith, a, g);
    pending = λ c is. elim (k.told c is) [ inl before ↦ l.pending c before | inr (_, (_, count)) ↦ let a = l.enough in omega (arith, a, count) ];
  }

  later_told : (w v : World) (e : Event) (o : Option Outcome) (m i p : ℕ) → Step w e o v → Later w → took n (end_of w peer) ≡ m → e ≡ WasReset peer → o ≡ Some (ResetThere n i) → m + i ≡ p → H ≤ p
  later_told w v e o m i p step l same is answer sum =
      let told = some_told ((end_of w peer).receiver.resets.told n) (reported_step w e o v step peer n (reports_it peer n i e o is answer)).0 in
      let count = (step_tells w e o v step peer n i is answer).1 ∙ ap (λ (q : Option ℕ). unwrap_or q 0 - took n (end_of w peer)) told.1 in
      let low = l.pending told.0 told.1 in
      omega (arith, count, low, same, sum)

  later_run : (m : ℕ) (w : World) (es : List Event) (os : List (Option Outcome)) (vs : List World) → PassesThrough w es os vs → AllKept d w es vs → ((e : Event) → Has es e → IsFine s drawn e) → IsSteady s drawn d w →
      IsFresh w → AreSound w → took n (end_of w peer) ≡ m → Later w → ((p : ℕ) → ReportedAfter peer n m es os p → H ≤ p) × Later (last_of w vs)
  later_run m w [] [] [] passes kept fine steady fresh sound same l = (λ p h. absurd h, l)
  later_run m w (e ∷ es) (o ∷ os) (v ∷ vs) (step, passes) (now, kept) fine steady fresh sound same l =
      let this = fine e (inl refl) in
      let more = (step_noted peer n w e o v fresh sound step).taken in
      let grown : took n (end_of v peer) ≡ m + length (taken_by peer n e o) = (let count = ap length more in let all = length-append ((end_of w peer).receiver.taken n) (taken_by peer n e o) in omega (arith, count, all, same)) in
      let rest = later_run (m + length (taken_by peer n e o)) v es os vs passes kept (λ f h. fine f (inr h)) (steady_step s drawn within d w v e o now this steady step) (step_onward w e o v fresh step).fresh
      (λ i. (step_goes_on w e o v fresh sound step i).sound) grown (later_step w v e o (step_resets s drawn within d w v e o now this steady step x n) l) in (
        λ p h. elim h [ inl (i, is, answer, sum) ↦ later_told w v e o m i p step l same is answer sum | inr later ↦ rest.0 p later ],
        rest.1,
      )
  later_run m w [] (o ∷ os) vs passes kept fine steady fresh sound same l = absurd passes
  later_run m w [] [] (v ∷ vs) passes kept fine steady fresh sound same l = absurd passes
  later_run m w (e ∷ es) [] vs passes kept fine steady fresh sound same l = absurd passes
  later_run m w (e ∷ es) (o ∷ os) [] passes kept fine steady fresh sound same l = absurd passes

-- ---- the counts of both sides

-- no more resets of x's were reported to y than x asked for, at each place
abbrev WithinOf : (x y : Side) (n reported accepted : ℕ) → List Event → List (Option Outcome) → Type 0
WithinOf x y n r a (e ∷ es) (o ∷ os) = (r + one_if (is_reported y n e o) ≤ a + one_if (resets_it x n e o)) × WithinOf x y n (r + one_if (is_reported y n e o)) (a + one_if (resets_it x n e o)) es os
WithinOf x y n r a es os = Unit {0}

other_twice : (x : Side) → other (other x) ≡ x
other_twice A = refl
other_twice B = refl

-- On the way no more are reported to the one side than it has accepted of its own, but one: since the other side has accepted no more than were reported to it, but one.
both_bounded : (x y : Side) (n ax rx ay ry : ℕ) (es : List Event) (os : List (Option Outcome)) → OwnAhead x n ax rx es os → WithinOf x y n ry ax es os → WithinOf y x n rx ay es os → Bounded y n ay ry es os
both_bounded x y n ax rx ay ry [] os own there back = tt
both_bounded x y n ax rx ay ry (e ∷ es) [] own there back = tt
both_bounded x y n ax rx ay ry (e ∷ es) (o ∷ os) (ahead, own) (le, there) (low, back) = (
  omega (arith, ahead, le, low),
  both_bounded x y n (ax + one_if (resets_it x n e o)) (rx + one_if (is_reported x n e o)) (ay + one_if (resets_it y n e o)) (ry + one_if (is_reported y n e o)) es os own there back,
)

-- ---- parts of a run

split_passes : (w : World) (es fs : List Event) (os ps : List (Option Outcome)) (vs us : List World) → length os ≡ length es → length vs ≡ length es → PassesThrough w (es ++ fs) (os ++ ps) (vs ++ us) →
    PassesThrough (last_of w vs) fs ps us
split_passes w [] fs [] ps [] us a b passes = passes
split_passes w (e ∷ es) fs (o ∷ os) ps (v ∷ vs) us a b (step, passes) = split_passes v es fs os ps vs us (omega (arith, a)) (omega (arith, b)) passes
split_passes w [] fs (o ∷ os) ps vs us a b passes = absurd (omega (arith, a))
split_passes w [] fs [] ps (v ∷ vs) us a b passes = absurd (omega (arith, b))
split_passes w (e ∷ es) fs [] ps vs us a b passes = absurd (omega (arith, a))
split_passes w (e ∷ es) fs (o ∷ os) ps [] us a b passes = absurd (omega (arith, b))

has_front : {T : Type 0} (xs ys : List T) (x : T) → Has xs x → Has (xs ++ ys) x
has_front (y ∷ xs) ys x (inl own) = inl own
has_front (y ∷ xs) ys x (inr has) = inr (has_front xs ys x has)
has_front [] ys x has = absurd has

has_back : {T : Type 0} (xs ys : List T) (x : T) → Has ys x → Has (xs ++ ys) x
has_back [] ys x has = has
has_back (y ∷ xs) ys x has = inr (has_back xs ys x has)

got_behind : {T : Type 0} (xs ys : List T) (y : T) → slice_get (xs ++ y ∷ ys) (length xs) ≡ Some y
got_behind [] ys y = refl
got_behind (x ∷ xs) ys y = got_behind xs ys y

match_at : (ms : List Match) (i : ℕ) (h : Handed) → slice_get (map (λ (m : Match). m.message) ms) i ≡ Some h → (m : Match) × (slice_get ms i ≡ Some m) × (m.message ≡ h)
match_at [] i h is = absurd (cc is)
match_at (m ∷ ms) zero h is = (m, refl, cc is)
match_at (m ∷ ms) (suc i) h is = match_at ms i h is

-- ---- the law

module _ (s : Setup) (es : List Event) (os : List (Option Outcome)) (vs : List World) (configured : (x : Side) → IsConfiguration (configuration_of s x)) (passes : PassesThrough (start s) es os vs)
    (premises : FreshAndUnforged s.sealing es) (aged : Aged (start s) es vs) (roles : Side → DtlsRole) (many : Side → ℕ) (told : Side → List Report) (left : Side → Table)
    (driven : (y : Side) → Driven y (start s) (fresh_table (roles y) (many y)) es os vs (told y) (left y)) (heard : (y : Side) (n : ℕ) → HearsToldOnly y n (start s) es vs) (x : Side) (n : ℕ) where
  abbrev y : Side
  y = other x

  abbrev d : Dates
  d = dates_of (start s) vs

  fine : (e : Event) → Has es e → IsFine s (drawn_in es) e
  fine = fine_by s es premises

  kept : AllKept d (start s) es vs
  kept = kept_in_time s es os vs passes aged

  abbrev end : World
  end = last_of (start s) vs

  -- no third reset is reported
  within_of : (z : Side) (r a : ℕ) (fs : List Event) (ps : List (Option Outcome)) → AllWithin z n s (drawn_in es) configured d r a fs ps → WithinOf z (other z) n r a fs ps
  within_of z r a [] ps h = tt
  within_of z r a (e ∷ fs) [] h = tt
  within_of z r a (e ∷ fs) (o ∷ ps) (le, h) = (le, within_of z (r + one_if (is_reported (other z) n e o)) (a + one_if (resets_it z n e o)) fs ps h)

  all_of : (z : Side) → WithinOf z (other z) n 0 0 es os
  all_of z = within_of z 0 0 es os (all_within z n s (drawn_in es) configured d 0 0 (start s) es os vs fine passes kept (steady_start s es d) (starts s z n))

  bounded : Bounded y n 0 0 es os
  bounded = both_bounded x y n 0 0 0 0 es os
      (own_ahead x n 0 0 (start s) (fresh_table (roles x) (many x)) es os vs (told x) (left x) (driven x) passes (λ q. (refl, refl)) (start_tally _ (many x) n)) (all_of x)
      (subst (λ (z : Side). WithinOf y z n 0 0 es os) (other_twice x) (all_of y))

  -- the messages, and where resets lie
  places : (ms : List Match) × AreMatched (exchange x n es os end) ms × ((i j count : ℕ) → LiesBetween x n es os ms i j count → (p : ℕ) × IsReportedAt x n es os end p × (i < p) × (p ≤ j))
  places = resets_have_places s es os vs configured passes premises aged x n (heard y n) (driven_takes y n (start s) (fresh_table (roles y) (many y)) es os vs (told y) (left y) (driven y))

  abbrev ms : List Match
  ms = places.0

  module _ (c : IsOneChannel s y (roles y) (many y) n es os vs) where
    abbrev w1 : World
    w1 = last_of (start s) c.worlds

    abbrev w2 : World
    w2 = last_of w1 c.beyond

    aligned : (length c.outcomes ≡ length c.events) × (length c.worlds ≡ length c.events)
    aligned = aligned_by (start s) c.events c.outcomes c.worlds c.first.passes

    whole : PassesThrough (start s) (c.events ++ (c.between ++ c.later)) (c.outcomes ++ (c.answers ++ c.others)) (c.worlds ++ (c.beyond ++ c.after))
    whole = subst (λ (ws : List World). PassesThrough (start s) (c.events ++ (c.between ++ c.later)) (c.outcomes ++ (c.answers ++ c.others)) ws) c.through
        (subst (λ (ps : List (Option Outcome)). PassesThrough (start s) (c.events ++ (c.between ++ c.later)) ps vs) c.answered (subst (λ (fs : List Event). PassesThrough (start s) fs os vs) c.all passes))

    passes_on : PassesThrough w1 c.between c.answers c.beyond
    passes_on = split_passes (start s) c.events c.between c.outcomes c.answers c.worlds c.beyond aligned.0 aligned.1 c.second.passes

    aligned_on : (length c.answers ≡ length c.between) × (length c.beyond ≡ length c.between)
    aligned_on = aligned_by w1 c.between c.answers c.beyond passes_on

    passes_later : PassesThrough w2 c.later c.others c.after
    passes_later = split_passes w1 c.between c.later c.answers c.others c.beyond c.after aligned_on.0 aligned_on.1
        (split_passes (start s) c.events (c.between ++ c.later) c.outcomes (c.answers ++ c.others) c.worlds (c.beyond ++ c.after) aligned.0 aligned.1 whole)

    kept_whole : AllKept d (start s) (c.events ++ (c.between ++ c.later)) (c.worlds ++ (c.beyond ++ c.after))
    kept_whole = subst (λ (ws : List World). AllKept d (start s) (c.events ++ (c.between ++ c.later)) ws) c.through (subst (λ (fs : List Event). AllKept d (start s) fs vs) c.all kept)

    fine_whole : (e : Event) → Has (c.events ++ (c.between ++ c.later)) e → IsFine s (drawn_in es) e
    fine_whole e has = fine e (subst (λ (fs : List Event). Has fs e) (sym c.all) has)

    bounded_whole : Bounded y n 0 0 (c.events ++ (c.between ++ c.later)) (c.outcomes ++ (c.answers ++ c.others))
    bounded_whole = subst (λ (ps : List (Option Outcome)). Bounded y n 0 0 (c.events ++ (c.between ++ c.later)) ps) c.answered (subst (λ (fs : List Event). Bounded y n 0 0 fs os) c.all bounded)

    abbrev v1 : EndView
    v1 = end_of w1 y

    abbrev v2 : EndView
    v2 = end_of w2 y

    second_world : last_of (start s) (c.worlds ++ c.beyond) ≡ w2
    second_world = last_on (start s) c.worlds c.beyond

    tells2 : (next_report v2 c.last).report ≡ Some (record { stream = n; told = Message c.another })
    tells2 = subst (λ (w : World). (next_report (end_of w y) c.last).report ≡ Some (record { stream = n; told = Message c.another })) second_world c.second.tells

    noted2 : v2.receiver.resets.told n ≡ None
    noted2 = subst (λ (w : World). (end_of w y).receiver.resets.told n ≡ None) second_world c.second.noted

    read1 : IsRead v1 c.table n
    read1 = is_read v1 c.table n c.one c.first.tells

    read2 : IsRead v2 c.last n
    read2 = is_read v2 c.last n c.another tells2

    -- how many were taken at each
    abbrev i1 : ℕ
    i1 = 0 + length (taken y n c.events c.outcomes)

    abbrev i2 : ℕ
    i2 = i1 + length (taken y n c.between c.answers)

    abbrev none : ℕ → Type 0
    none p = ⊥

    abbrev W1 : ℕ → Type 0
    W1 = CoversPlaces s (drawn_in es) configured d x n none 0 c.events c.outcomes

    abbrev W2 : ℕ → Type 0
    W2 = CoversPlaces s (drawn_in es) configured d x n W1 i1 c.between c.answers

    begins : Stands s (drawn_in es) configured d x n read1.small false 0 none 0 (start s) (fresh_table (roles y) (many y)) (c.events ++ (c.between ++ c.later)) (c.outcomes ++ (c.answers ++ c.others))
        (c.worlds ++ (c.beyond ++ c.after))
    begins = record {
      steady = steady_start s es d;
      fresh = λ q. (refl, refl);
      sound = start_sound s;
      kept = kept_whole;
      taken = ap length (start_taken s y n);
      wide = let all = driven_many y (start s) (fresh_table (roles y) (many y)) c.events c.outcomes c.worlds c.told c.table c.first.driven in let lt = read1.wide in omega (arith, all, lt);
      accepted = 0;
      reported = 0;
      tally = start_tally _ (many y) n;
      bounded = bounded_whole;
      holds = subst (λ (z : Stream). Holds n none 0 (end_of (start s) y) z) (sym (unused_there (many y) n)) (record {
        each = λ p none_told. absurd none_told;
        order = λ on. absurd (cc on);
        within = λ p noted. absurd (unnoted p noted);
        pending = λ k is. absurd (start_untold s y n k is);
        behind = λ k is. absurd (start_untold s y n k is);
      });
      channel = λ on. absurd (cc on);
    }
      where
        unnoted : (p : ℕ) → IsNotedAt (took n (end_of (start s) y)) unused p → ⊥
        unnoted p (AtFirst on e) = cc on
        unnoted p (AtSecond on e) = cc on

    at_first : Stands s (drawn_in es) configured d x n read1.small false 0 W1 i1 w1 c.table (c.between ++ c.later) (c.answers ++ c.others) (c.beyond ++ c.after)
    at_first = run_stands s (drawn_in es) configured d x n read1.small false 0 none 0 (start s) (fresh_table (roles y) (many y)) c.events c.outcomes c.worlds c.told c.table (c.between ++ c.later)
        (c.answers ++ c.others) (c.beyond ++ c.after) c.first.driven c.first.passes (λ e has. fine_whole e (has_front c.events (c.between ++ c.later) e has)) (λ on. absurd (cc on)) begins

    from_first : Stands s (drawn_in es) configured d x n read1.small true i1 W1 i1 w1 c.table (c.between ++ c.later) (c.answers ++ c.others) (c.beyond ++ c.after)
    from_first = record {
      steady = at_first.steady;
      fresh = at_first.fresh;
      sound = at_first.sound;
      kept = at_first.kept;
      taken = at_first.taken;
      wide = at_first.wide;
      accepted = at_first.accepted;
      reported = at_first.reported;
      tally = at_first.tally;
      bounded = at_first.bounded;
      holds = at_first.holds;
      channel = λ on. read1.channel;
    }

    at_second : Stands s (drawn_in es) configured d x n read1.small true i1 W2 i2 w2 c.last c.later c.others c.after
    at_second = run_stands s (drawn_in es) configured d x n read1.small true i1 W1 i1 w1 c.table c.between c.answers c.beyond c.behind c.last c.later c.others c.after c.goes_on passes_on
        (λ e has. fine_whole e (has_back c.events (c.between ++ c.later) e (has_front c.between c.later e has))) (λ on. c.unclosed) from_first

    -- ---- no place lies between

    waits2 : i2 < got n v2
    waits2 = go (v2.receiver.waiting n) refl (and_parts (not (is_empty (v2.receiver.waiting n))) (not (is_drained (stream_at c.last n))) read2.readable).0
      where
        go : (hs : List Handed) → v2.receiver.waiting n ≡ hs → not (is_empty hs) ≡ true → i2 < got n v2
        go [] is on = absurd (cc on)
        go (h ∷ hs) is on = let count = ap length is in let all = got_is n v2 in let t = at_second.taken in omega (arith, count, all, t)

    later : ((p : ℕ) → ReportedAfter y n i2 c.later c.others p → got n v2 ≤ p) × Later s (drawn_in es) configured d x n (got n v2) (last_of w2 c.after)
    later = later_run s (drawn_in es) configured d x n (got n v2) i2 w2 c.later c.others c.after passes_later at_second.kept
        (λ e has. fine_whole e (has_back c.events (c.between ++ c.later) e (has_back c.between c.later e has))) at_second.steady at_second.fresh at_second.sound at_second.taken
        (record { enough = omega arith; pending = λ k is. absurd (let off = noted2 in cc (off, is)) })

    end_is : last_of w2 c.after ≡ end
    end_is = sym (ap (last_of (start s)) c.through ∙ last_on (start s) c.worlds (c.beyond ++ c.after) ∙ last_on w1 c.beyond c.after)

    told_there : (p : ℕ) → W2 p → i1 < p → p ≤ i2 → ⊥
    told_there p t above below = elim (at_second.holds.each p t) [
      | inl le ↦ omega (arith, le, above)
      | inr noted ↦ never_read v2 c.last n (took n v2) p read2.readable (let e = at_second.taken in omega (arith, e, below)) at_second.holds.order noted
    ]

    no_place : (p : ℕ) → IsReportedAt x n es os end p → i1 < p → p ≤ i2 → ⊥
    no_place p (IsToBe is) above below =
        let low = later.1.pending p (subst (λ (w : World). (end_of w y).receiver.resets.told n ≡ Some p) (sym end_is) is) in
        let high = waits2 in
        omega (arith, low, high, below)
    no_place p (WasReported t place) above below = by_first (reported_parts y n 0 p c.events (c.between ++ c.later) c.outcomes (c.answers ++ c.others) aligned.0 reported)
      where
        reported : ReportedAfter y n 0 (c.events ++ (c.between ++ c.later)) (c.outcomes ++ (c.answers ++ c.others)) p
        reported = subst (λ (ps : List (Option Outcome)). ReportedAfter y n 0 (c.events ++ (c.between ++ c.later)) ps p) c.answered
            (subst (λ (fs : List Event). ReportedAfter y n 0 fs os p) c.all
            (subst (λ (k : ℕ). ReportedAfter y n 0 es os k) (let e : 0 + place_of x n es os t ≡ p = omega (arith, place) in e) (after_told x n 0 es os t)))

        by_second : ReportedAfter y n i1 c.between c.answers p ⊎ ReportedAfter y n i2 c.later c.others p → ⊥
        by_second (inl between) = told_there p (inr between) above below
        by_second (inr behind) = let low = later.0 p behind in let high = waits2 in omega (arith, low, high, below)

        by_first : ReportedAfter y n 0 c.events c.outcomes p ⊎ ReportedAfter y n i1 (c.between ++ c.later) (c.answers ++ c.others) p → ⊥
        by_first (inl first) = told_there p (inl (inr first)) above below
        by_first (inr more) = by_second (reported_parts y n i1 p c.between c.later c.answers c.others aligned_on.0 more)

    -- ---- which messages they are

    taken_all : (end_of end y).receiver.taken n ≡ taken y n es os
    taken_all = (run_adds y n (start s) es os vs passes (λ q. (refl, refl)) (start_sound s)).noted.taken ∙ ap (λ (hs : List Handed). hs ++ taken y n es os) (start_taken s y n)

    delivered : map (λ (m : Match). m.message) ms ≡ handed (end_of end y).receiver n
    delivered = places.1.all ∙ ap (λ (hs : List Handed). hs ++ (end_of end y).receiver.waiting n) (sym taken_all)

    -- what waits first at a place is the message of its number
    module _ (w : World) (fs : List Event) (ps : List (Option Outcome)) (us : List World) (i : ℕ) (on : PassesThrough w fs ps us) (kept_on : AllKept d w fs us) (steady : IsSteady s (drawn_in es) d w)
        (fine_on : (e : Event) → Has fs e → IsFine s (drawn_in es) e) (ends : last_of w us ≡ end) (counts : took n (end_of w y) ≡ i) (h : Handed) (rest : List Handed)
        (waits : (end_of w y).receiver.waiting n ≡ h ∷ rest) where
      met : IsMetWorld d w
      met = go steady.kept
        where
          go : IsKept d w → IsMetWorld d w
          go (inr m) = m
          go (inl apart) = absurd (let blank = ap (λ (r : ReceiverView). r.waiting n) (apart.ends y).blank.receiver in cc (blank, waits))

      more : (hs : List Handed) × (handed (end_of end y).receiver n ≡ handed (end_of w y).receiver n ++ hs)
      more = subst (λ (v : World). (hs : List Handed) × (handed (end_of v y).receiver n ≡ handed (end_of w y).receiver n ++ hs)) ends
          ((run_goes s (drawn_in es) configured d w fs ps us fine_on on kept_on steady met x).0.more n)

      message_at_place : (m : Match) × (slice_get ms i ≡ Some m) × (m.message ≡ h)
      message_at_place = match_at ms i h (ap (λ (hs : List Handed). slice_get hs i) (delivered ∙ more.1 ∙ all) ∙ ap (slice_get ((end_of w y).receiver.taken n ++ h ∷ (rest ++ more.0))) (sym counts)
          ∙ got_behind ((end_of w y).receiver.taken n) (rest ++ more.0) h)
        where
          all : handed (end_of w y).receiver n ++ more.0 ≡ (end_of w y).receiver.taken n ++ h ∷ (rest ++ more.0)
          all = ap (λ (hs : List Handed). ((end_of w y).receiver.taken n ++ hs) ++ more.0) waits ∙ append_assoc ((end_of w y).receiver.taken n) (h ∷ rest) more.0

    taken1 : IsTaken v1 c.table n c.one
    taken1 = contents_are_taken v1 c.table n c.one c.first.tells

    taken2 : IsTaken v2 c.last n c.another
    taken2 = contents_are_taken v2 c.last n c.another tells2

    first_match : (m : Match) × (slice_get ms i1 ≡ Some m) × (m.message ≡ taken1.message)
    first_match = message_at_place w1 (c.between ++ c.later) (c.answers ++ c.others) (c.beyond ++ c.after) i1
        (split_passes (start s) c.events (c.between ++ c.later) c.outcomes (c.answers ++ c.others) c.worlds (c.beyond ++ c.after) aligned.0 aligned.1 whole) at_first.kept at_first.steady
        (λ e has. fine_whole e (has_back c.events (c.between ++ c.later) e has)) (last_on w1 c.beyond c.after ∙ end_is) at_first.taken taken1.message taken1.rest taken1.waits

    second_match : (m : Match) × (slice_get ms i2 ≡ Some m) × (m.message ≡ taken2.message)
    second_match = message_at_place w2 c.later c.others c.after i2 passes_later at_second.kept at_second.steady
        (λ e has. fine_whole e (has_back c.events (c.between ++ c.later) e (has_back c.between c.later e has))) end_is at_second.taken taken2.message taken2.rest taken2.waits

    -- no reset of the stream was accepted between them
    unreset : (count : ℕ) → ResetAfter x n 0 es os count → min first_match.0.sent.ticket second_match.0.sent.ticket ≤ count → count < max first_match.0.sent.ticket second_match.0.sent.ticket → ⊥
    unreset count reset low high = elim (cases_lt first_match.0.sent.ticket second_match.0.sent.ticket) [
      | inl lt ↦
          let p = places.2 i1 i2 count (record { before = first_match.0; behind = second_match.0; one = first_match.1; other_one = second_match.1; reset = reset; old = omega (arith, low, lt); new = omega (arith, high, lt) }) in
          no_place p.0 p.1 p.2 p.3
      | inr le ↦
          let p = places.2 i2 i1 count (record { before = second_match.0; behind = first_match.0; one = second_match.1; other_one = first_match.1; reset = reset; old = omega (arith, low, le); new = omega (arith, high, le) }) in
          let a = p.2 in let b = p.3 in let order : i1 ≤ i2 = omega arith in omega (arith, a, b, order)
    ]

    are_one : (m : Match) × (k : Match) × (slice_get ms (length (taken y n c.events c.outcomes)) ≡ Some m) × (slice_get ms (length (taken y n (c.events ++ c.between) (c.outcomes ++ c.answers))) ≡ Some k)
        × AreOfOne x n es os c.one c.another m k
    are_one = (
      first_match.0,
      second_match.0,
      subst (λ (i : ℕ). slice_get ms i ≡ Some first_match.0) (let e : i1 ≡ length (taken y n c.events c.outcomes) = omega arith in e) first_match.1,
      subst (λ (i : ℕ). slice_get ms i ≡ Some second_match.0) (let k = length-append (taken y n c.events c.outcomes) (taken y n c.between c.answers) in
          let both = ap length (taken_both y n c.events c.outcomes c.between c.answers aligned.0) in let e : i2 ≡ length (taken y n (c.events ++ c.between) (c.outcomes ++ c.answers)) = omega (arith, k, both) in e) second_match.1,
      record {
        is_one = subst (λ (h : Handed). content_of h.payload h.bytes ≡ Some c.one) (sym first_match.2) taken1.content;
        is_other = subst (λ (h : Handed). content_of h.payload h.bytes ≡ Some c.another) (sym second_match.2) taken2.content;
        unreset = unreset;
      },
    )

pub channels_are_one : ChannelsAreOne
channels_are_one s es os vs configured passes premises aged roles many told left driven heard x n =
    let r = places s es os vs configured passes premises aged roles many told left driven heard x n in
    (r.0, r.1, λ c. are_one s es os vs configured passes premises aged roles many told left driven heard x n c)
