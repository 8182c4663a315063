-- Along a driven run: the place of each reset that was told is noted on the stream until it is passed.
use Rattle.std.proofs.Common.{◌≡◌, ◌⊎◌, ℕ, zero, suc, ◌+◌, ◌-◌, ◌<◌, ◌≤◌, ◌==◌, ◌&&◌, not, Bool, true, false, List, [], ◌∷◌, ◌++◌, length, length-append, Option, Some, None, is_some, inl, inr, refl, sym, subst, ap, ◌∙◌, arith, if◌then◌else◌, slice_set, append-nil}
use Rattle.std.specs.Prelude.{unwrap_or}
use Rattle.std.proofs.lemmas.Bool.{and_parts}
use Rattle.std.proofs.lemmas.Bool.Decides.{nat_tests}
use Rattle.std.proofs.lemmas.List.{append_assoc}
use Rattle.sctp_model.specs.numbers.Lists.{Has}
use Rattle.sctp_model.specs.receiver.ReceiverView.{Handed, handed}
use Rattle.sctp_model.specs.end.Configured.{IsConfiguration}
use Rattle.sctp_model.specs.end.EndView.{EndView}
use Rattle.sctp_model.specs.world.World.{Side, other, World, end_of, Setup, configuration_of}
use Rattle.sctp_model.specs.world.Events.{Event, Send, Take, Reset, WasReset, Outcome, Done, NoSuchReset, ResetThere, NoReset}
use Rattle.sctp_model.specs.world.Events as model
use Rattle.sctp_model.specs.world.Steps.{Step, PassesThrough, last_of}
use Rattle.sctp_safety.proofs.machine.DiagramRuns.{IsFresh, step_onward}
use Rattle.sctp_safety.proofs.machine.Ground.{IsFine}
use Rattle.sctp_safety.proofs.runs.DatedBags.{Dates}
use Rattle.sctp_safety.proofs.runs.Dating.{AllKept}
use Rattle.sctp_safety.proofs.runs.Safety.{IsSteady, steady_step}
use Rattle.sctp_safety.proofs.runs.parted.Parting.{StepResets, step_resets}
use Rattle.sctp_outcomes.specs.Users.{same_side, taken_by, taken}
use Rattle.sctp_outcomes.specs.Parted.{is_reset, is_reported, one_if}
use Rattle.sctp_outcomes.proofs.AgedDates.{AreSound, step_goes_on}
use Rattle.sctp_outcomes.proofs.users.AllReported.{reports_it}
use Rattle.sctp_outcomes.proofs.users.Noted.{quiet_none, step_noted}
use Rattle.sctp_outcomes.proofs.users.PartedRuns.{step_tells, some_told}
use Rattle.sctp_outcomes.proofs.users.Placed.{ReportedAfter, WithPlace, CoversPlaces}
use Rattle.sctp_outcomes.proofs.users.ReportedOnce.{reported_step}
use Rattle.sctp_channels.specs.declared.stream.Resets.TheVariants.{Two}
use Rattle.sctp_channels.specs.declared.stream.State.{State}
use Rattle.sctp_channels.specs.declared.stream.State.TheVariants as state
use Rattle.sctp_channels.specs.declared.stream.Stream.{Stream}
use Rattle.sctp_channels.specs.Streams.{unused, has_channel, is_silent, with_channel, Table, stream_at, with_stream}
use Rattle.sctp_channels.specs.Told.{Closed, Report}
use Rattle.sctp_channels.specs.Coming.{After, comes, heard, peer_resets, left_over}
use Rattle.sctp_channels.specs.Calling.{outgoing}
use Rattle.sctp_channels.specs.Settling.{without_due, is_gone}
use Rattle.sctp_channels.specs.Events.{Reported, quiet, reports_closed, reports_low, reports_taken, reports_waiting, reports_message, next_report, with_left_over, with_reset}
use Rattle.sctp_channels.specs.Driven.{is_call, closes, Moves, Elsewhere, Fails, Takes, Notes, NotesNone, Opens, Answers, Says, Refuses, IsNotOpen, Closes, Resets, ResetsNone, Driven, Rests, Goes, Tells, Agrees, Sets, Frees}
use Rattle.sctp_channels.proofs.Promised.{Keeps, report_cases, same_or_not}
use Rattle.sctp_channels.proofs.Driven.{quiet_taken}
use Rattle.sctp_channels.proofs.MadeLemmas.{own_side}
use Rattle.sctp_channels.proofs.Closings.{Follows, comes_follows, heard_follows, peer_follows, free_follows, undue_follows, sending_open, chosen_free, agreed_free, gone_reset, put_at, Tally, marks_of, Lives, lived, move_tally, report_tally, agreed_tally, freed_tally}
use Rattle.sctp_channels.proofs.Places.{IsNotedAt, keeps_places, NotesPlace, notes_place}
use Rattle.sctp_channels.proofs.Keeping.{took, got, Holds, holds_more, holds_keeps, holds_view, holds_left, report_holds, none_left}

-- ---- a table keeps its streams

set_length : (xs : List Stream) (i : ℕ) (z : Stream) → length (slice_set xs i z) ≡ length xs
set_length [] i z = refl
set_length (x ∷ xs) zero z = refl
set_length (x ∷ xs) (suc i) z = ap suc (set_length xs i z)

abbrev many : Table → ℕ
many x = length x.streams

with_many : (x : Table) (i : ℕ) (z : Stream) → many (with_stream x i z) ≡ many x
with_many x i z = set_length x.streams i z

report_many : (v : EndView) (x : Table) → many (next_report v x).table ≡ many x
report_many v x = report_cases (λ (q : Reported). many q.table ≡ many x) v x (λ i on. with_many x i (left_over (stream_at x i))) (λ i. refl) (λ i on. by_waiting i (v.receiver.waiting i)) refl
    (λ i on. with_many x i (left_over (stream_at x i)))
  where
    by_waiting : (i : ℕ) (hs : List Handed) → many (reports_message i hs v x).table ≡ many x
    by_waiting i [] = refl
    by_waiting i (h ∷ rest) = go k.taken
      where
        k : After
        k = comes x.role (outgoing v x) i h (stream_at x i)

        go : (b : Bool) → many (if b then reports_taken i h rest k v x else reports_waiting i k v x).table ≡ many x
        go true = with_many x i (heard k)
        go false = with_many x i (heard k)

module _ (y : Side) where
  moves_many : (v u : EndView) (x : Table) (e : Event) (o : Option Outcome) (rs : List Report) (z : Table) → Moves y v u x e o rs z → many z ≡ many x
  moves_many v u x e o rs z (Elsewhere _ _ off) = refl
  moves_many v u x e o rs z (Fails _) = refl
  moves_many v u x e o rs z (Takes s h r is leaves untold) = report_many v x
  moves_many v u x e o rs z (Notes s k) = with_many x s (peer_resets k (stream_at x s))
  moves_many v u x e o rs z NotesNone = refl
  moves_many v u x e o rs z (Opens s t p q choice) = with_many x s _
  moves_many v u x e o rs z (Answers s t is) = with_many x s _
  moves_many v u x e o rs z (Says s t now c may) = refl
  moves_many v u x e o rs z (Refuses c why) = refl
  moves_many v u x e o rs z (IsNotOpen c) = refl
  moves_many v u x e o rs z (Closes s may) = with_many x s _
  moves_many v u x e o rs z (Resets s _ is by) = with_many x s _
  moves_many v u x e o rs z (ResetsNone s _ by) = refl

  pub driven_many : (w : World) (x : Table) (es : List Event) (os : List (Option Outcome)) (vs : List World) (rs : List Report) (u : Table) → Driven y w x es os vs rs u → many u ≡ many x
  driven_many w x es os vs rs u (Rests _ _) = refl
  driven_many w x es os vs rs u (Goes _ v _ z _ e o more others worlds now next move on) = driven_many v z more others worlds next u on ∙ moves_many (end_of w y) (end_of v y) x e o now z move
  driven_many w x es os vs rs u (Tells _ _ _ _ _ _ r more is same on) = driven_many w (next_report (end_of w y) x).table es os vs more u on ∙ report_many (end_of w y) x
  driven_many w x es os vs rs u (Agrees _ _ _ _ _ _ more s k ordered l is on) = driven_many w _ es os vs more u on ∙ with_many x s _
  driven_many w x es os vs rs u (Sets _ _ _ _ _ _ more s k may on) = driven_many w _ es os vs more u on
  driven_many w x es os vs rs u (Frees _ _ _ _ _ _ more s gone on) = driven_many w _ es os vs more u on ∙ with_many x s _

-- ---- a channel stays until it is told closed

silent_none : (k : State) → is_silent k ≡ true → has_channel k ≡ true → ⊥
silent_none state.Unused on there = cc on
silent_none state.Connecting on there = cc on
silent_none state.Unanswered on there = cc on
silent_none state.Open on there = cc on
silent_none state.Closing on there = cc on
silent_none state.Refused on there = cc on
silent_none state.Silent on there = cc there

module _ (n : ℕ) where
  abbrev There : Table → Type 0
  There x = has_channel (stream_at x n).state ≡ true

  -- the user isn't told that it is closed
  abbrev pub Unclosed : List Report → Type 0
  Unclosed rs = (r : Report) → Has rs r → r ≡ record { stream = n; told = Closed } → ⊥

  follows_there : (x : Table) (i : ℕ) (z : Stream) → Follows (stream_at x i) z → There x → There (with_stream x i z)
  follows_there x i z f on = put_at (λ (q : Stream). has_channel q.state ≡ true) x i n z (λ e lt. f.channel (subst (λ (j : ℕ). has_channel (stream_at x j).state ≡ true) (sym e) on)) (λ beside. on)

  report_there : (v : EndView) (x : Table) → There x → ((next_report v x).report ≡ Some (record { stream = n; told = Closed }) → ⊥) → There (next_report v x).table
  report_there v x on = report_cases (λ (q : Reported). (q.report ≡ Some (record { stream = n; told = Closed }) → ⊥) → There q.table) v x (λ i _. leaves i) (λ i _. on) (λ i _. by_waiting i (v.receiver.waiting i)) (λ _. on) (λ i _. leaves i)
    where
      leaves : (i : ℕ) → ((reports_closed i v x).report ≡ Some (record { stream = n; told = Closed }) → ⊥) → There (with_left_over x i)
      leaves i unclosed = put_at (λ (q : Stream). has_channel q.state ≡ true) x i n (left_over (stream_at x i)) (λ e lt. absurd (unclosed (ap (λ (j : ℕ). Some (record { stream = j; told = Closed })) e))) (λ beside. on)

      by_waiting : (i : ℕ) (hs : List Handed) → ((reports_message i hs v x).report ≡ Some (record { stream = n; told = Closed }) → ⊥) → There (reports_message i hs v x).table
      by_waiting i [] unclosed = on
      by_waiting i (h ∷ rest) unclosed = go k.taken
        where
          k : After
          k = comes x.role (outgoing v x) i h (stream_at x i)

          there : There (with_stream x i (heard k))
          there = follows_there x i (heard k) (heard_follows (stream_at x i) k (comes_follows x.role (outgoing v x) i h (stream_at x i))) on

          go : (b : Bool) → There (if b then reports_taken i h rest k v x else reports_waiting i k v x).table
          go true = there
          go false = there

  told_first : (r : Report) (o : Option Report) → o ≡ Some r → ((q : Report) → Has (r ∷ []) q → q ≡ record { stream = n; told = Closed } → ⊥) → o ≡ Some (record { stream = n; told = Closed }) → ⊥
  told_first r o is unclosed closed = unclosed r (inl refl) (some_is r _ (sym is ∙ closed))
    where
      some_is : (p q : Report) → ◌≡◌ {A = Option Report} (Some p) (Some q) → p ≡ q
      some_is p q e = cc e

  move_there : (y : Side) (v u : EndView) (x : Table) (e : Event) (o : Option Outcome) (rs : List Report) (z : Table) → Moves y v u x e o rs z → Unclosed rs → There x → There z
  move_there y v u x e o rs z (Elsewhere _ _ off) unclosed on = on
  move_there y v u x e o rs z (Fails _) unclosed on = on
  move_there y v u x e o rs z (Takes s h r is leaves untold) unclosed on = report_there v x on (told_first r (next_report v x).report is unclosed)
  move_there y v u x e o rs z (Notes s k) unclosed on = follows_there x s _ (peer_follows k (stream_at x s)) on
  move_there y v u x e o rs z NotesNone unclosed on = on
  move_there y v u x e o rs z (Opens s t p q choice) unclosed on = follows_there x s _ (free_follows (stream_at x s) state.Connecting p.ordered p.reliability (chosen_free v x p q s choice)) on
  move_there y v u x e o rs z (Answers s t is) unclosed on = follows_there x s _ (undue_follows (stream_at x s)) on
  move_there y v u x e o rs z (Says s t now c may) unclosed on = on
  move_there y v u x e o rs z (Refuses c why) unclosed on = on
  move_there y v u x e o rs z (IsNotOpen c) unclosed on = on
  move_there y v u x e o rs z (Closes s may) unclosed on = put_at (λ (q : Stream). has_channel q.state ≡ true) x s n (closes (stream_at x s)) (λ _ lt. refl) (λ beside. on)
  move_there y v u x e o rs z (Resets s _ is by) unclosed on = follows_there x s _ (undue_follows (stream_at x s)) on
  move_there y v u x e o rs z (ResetsNone s _ by) unclosed on = on

-- ---- an event

-- at each place no more resets were reported to this side than it has accepted of its own, but one
abbrev pub Bounded : (y : Side) (n accepted reported : ℕ) → List Event → List (Option Outcome) → Type 0
Bounded y n a r (e ∷ es) (o ∷ os) =
    (r + one_if (is_reported y n e o) ≤ (a + one_if (is_reset y n e o)) + 1) × Bounded y n (a + one_if (is_reset y n e o)) (r + one_if (is_reported y n e o)) es os
Bounded y n a r es os = Unit {0}

call_of_report : (y : Side) (e : Event) → e ≡ WasReset y → is_call y e ≡ true
call_of_report y e is = subst (λ (f : Event). is_call y f ≡ true) (sym is) (own_side y)

module _ (s : Setup) (drawn : List ℕ) (within : (x : Side) → IsConfiguration (configuration_of s x)) (d : Dates) (x : Side) (n : ℕ) (small : n < 65_536) where
  abbrev y : Side
  y = other x

  module _ (T : ℕ → Type 0) (B : ℕ) (a r : ℕ) (w v : World) (q : Table) (wide : n < many q) (h : Holds n T B (end_of w y) (stream_at q n)) (t : Tally a r (Lives (end_of w y)) (stream_at q n))
      (e : Event) (o : Option Outcome) (step : Step w e o v) (k : StepResets d x n w e o v) (more : (end_of v y).receiver.taken n ≡ (end_of w y).receiver.taken n ++ taken_by y n e o)
      (bound : r + one_if (is_reported y n e o) ≤ (a + one_if (is_reset y n e o)) + 1) where
    abbrev U : ℕ → Type 0
    U = WithPlace s drawn within d x n T (took n (end_of w y)) e o

    -- nothing of the stream is taken, and no reset told
    still : taken_by y n e o ≡ [] → ((p : ℕ) → U p → T p) → (z : Stream) → Holds n T B (end_of w y) z → Holds n U B (end_of v y) z
    still none fewer z g = holds_more n T U B B (end_of v y) z fewer (omega arith) (holds_view n T B (end_of w y) (end_of v y) z same k.grown told g)
      where
        same : took n (end_of v y) ≡ took n (end_of w y)
        same = ap length (more ∙ ap (λ (hs : List Handed). (end_of w y).receiver.taken n ++ hs) none ∙ append-nil ((end_of w y).receiver.taken n))

        told : (c : ℕ) → (end_of v y).receiver.resets.told n ≡ Some c → ((end_of w y).receiver.resets.told n ≡ Some c) ⊎ (c ≡ got n (end_of w y))
        told c is = elim (k.told c is) [ inl before ↦ inl before | inr (_, (_, count)) ↦ inr count ]

    -- and a stream keeps its places
    still_at : taken_by y n e o ≡ [] → ((p : ℕ) → U p → T p) → (i : ℕ) (z : Stream) → Keeps (stream_at q i) z → Holds n U B (end_of v y) (stream_at (with_stream q i z) n)
    still_at none fewer i z keeps = put_at (Holds n U B (end_of v y)) q i n z
        (λ e lt. still none fewer z (holds_keeps n T B (end_of w y) (stream_at q i) z (keeps_places (took n (end_of w y)) (stream_at q i) z keeps) (subst (λ (j : ℕ). Holds n T B (end_of w y) (stream_at q j)) (sym e) h)))
        (λ beside. still none fewer (stream_at q n) h)

  -- which places are told then
  told_no : (T : ℕ → Type 0) (m : ℕ) (e : Event) (o : Option Outcome) → (e ≡ WasReset y → ⊥) → (p : ℕ) → WithPlace s drawn within d x n T m e o p → T p
  told_no T m e o off p (inl before) = before
  told_no T m e o off p (inr (i, is, answer, sum)) = absurd (off is)

  answered_no : (T : ℕ → Type 0) (m : ℕ) (e : Event) (o : Option Outcome) → ((i : ℕ) → o ≡ Some (ResetThere n i) → ⊥) → (p : ℕ) → WithPlace s drawn within d x n T m e o p → T p
  answered_no T m e o off p (inl before) = before
  answered_no T m e o off p (inr (i, is, answer, sum)) = absurd (off i answer)

  -- a reset of the stream is noted
  module _ (T : ℕ → Type 0) (B : ℕ) (a r : ℕ) (w v : World) (q : Table) (wide : n < many q) (h : Holds n T B (end_of w y) (stream_at q n)) (t : Tally a r (Lives (end_of w y)) (stream_at q n))
      (i : ℕ) (step : Step w (WasReset y) (Some (ResetThere n i)) v) (k : StepResets d x n w (WasReset y) (Some (ResetThere n i)) v)
      (more : (end_of v y).receiver.taken n ≡ (end_of w y).receiver.taken n ++ []) (bound : r + one_if (is_reported y n (WasReset y) (Some (ResetThere n i))) ≤ (a + 0) + 1) where
    reported : is_reported y n (WasReset y) (Some (ResetThere n i)) ≡ true
    reported = reports_it y n i (WasReset y) (Some (ResetThere n i)) refl refl

    abbrev m : ℕ
    m = took n (end_of w y)

    there : (c : ℕ) × ((end_of w y).receiver.resets.told n ≡ Some c)
    there = some_told ((end_of w y).receiver.resets.told n) (reported_step w (WasReset y) (Some (ResetThere n i)) v step y n reported).0

    none_then : (c : ℕ) → (end_of v y).receiver.resets.told n ≡ Some c → ⊥
    none_then c is = let off = (reported_step w (WasReset y) (Some (ResetThere n i)) v step y n reported).1 in let on = ap is_some is in cc (on, off)

    place : m + i ≡ there.0
    place =
        let count = (step_tells w (WasReset y) (Some (ResetThere n i)) v step y n i refl refl).1 ∙ ap (λ (o : Option ℕ). unwrap_or o 0 - m) there.1 in
        let low = (h.pending there.0 there.1).0 in
        omega (arith, count, low)

    -- it isn't the third
    no_third : (stream_at q n).resets ≡ Two → ⊥
    no_third is =
        let marks = t.marks in
        let two : marks_of (stream_at q n).resets ≡ 2 = ap marks_of is in
        let most = t.most in
        let one : one_if (is_reported y n (WasReset y) (Some (ResetThere n i))) ≡ 1 = ap one_if reported in
        let le = bound in
        omega (arith, marks, two, most, one, le)

    notes : NotesPlace m (stream_at q n) i (peer_resets i (stream_at q n))
    notes = notes_place m i (stream_at q n) no_third (λ p noted. let le = h.behind there.0 there.1 p noted in let e = place in omega (arith, le, e))

    same : took n (end_of v y) ≡ m
    same = ap length (more ∙ append-nil ((end_of w y).receiver.taken n))

    number_is : (j : ℕ) → ◌≡◌ {A = Option Outcome} (Some (ResetThere n i)) (Some (ResetThere n j)) → i ≡ j
    number_is j is = cc is

    noted_there : Holds n (WithPlace s drawn within d x n T m (WasReset y) (Some (ResetThere n i))) B (end_of v y) (peer_resets i (stream_at q n))
    noted_there = record {
      each = each;
      order = notes.order;
      within = λ p noted. elim (notes.back p (was p noted)) [
        | inl before ↦ let le = h.within p before in let g = k.grown in omega (arith, le, g)
        | inr new ↦ let e = place in let le = (h.pending there.0 there.1).1 in let g = k.grown in omega (arith, new, e, le, g)
      ];
      pending = λ c is. absurd (none_then c is);
      behind = λ c is. absurd (none_then c is);
    }
      where
        was : (p : ℕ) → IsNotedAt (took n (end_of v y)) (peer_resets i (stream_at q n)) p → IsNotedAt m (peer_resets i (stream_at q n)) p
        was p noted = subst (λ (j : ℕ). IsNotedAt j (peer_resets i (stream_at q n)) p) same noted

        now : (p : ℕ) → IsNotedAt m (peer_resets i (stream_at q n)) p → IsNotedAt (took n (end_of v y)) (peer_resets i (stream_at q n)) p
        now p noted = subst (λ (j : ℕ). IsNotedAt j (peer_resets i (stream_at q n)) p) (sym same) noted

        each : (p : ℕ) → WithPlace s drawn within d x n T m (WasReset y) (Some (ResetThere n i)) p → (p ≤ B) ⊎ IsNotedAt (took n (end_of v y)) (peer_resets i (stream_at q n)) p
        each p (inl before) = elim (h.each p before) [ inl le ↦ inl le | inr noted ↦ inr (now p (notes.on p noted)) ]
        each p (inr (j, is, answer, sum)) =
            let e = number_is j answer in
            inr (subst (IsNotedAt (took n (end_of v y)) (peer_resets i (stream_at q n))) (let f : m + i ≡ p = omega (arith, sum, e) in f) (now (m + i) notes.new))

    pub noted_holds : Holds n (WithPlace s drawn within d x n T m (WasReset y) (Some (ResetThere n i))) B (end_of v y) (stream_at (with_reset n i q) n)
    noted_holds = put_at (Holds n (WithPlace s drawn within d x n T m (WasReset y) (Some (ResetThere n i))) B (end_of v y)) q n n (peer_resets i (stream_at q n)) (λ e lt. noted_there)
        (λ beside. absurd (elim beside [ inl ne ↦ ne refl | inr le ↦ omega (arith, le, wide) ]))

  -- ---- any event

  module _ (T : ℕ → Type 0) (B : ℕ) (a r : ℕ) (w v : World) (q : Table) (wide : n < many q) (h : Holds n T B (end_of w y) (stream_at q n)) (t : Tally a r (Lives (end_of w y)) (stream_at q n)) where
    abbrev pub After_ : Event → Option Outcome → Table → Type 0
    After_ e o z = Holds n (WithPlace s drawn within d x n T (took n (end_of w y)) e o) B (end_of v y) (stream_at z n)

    pub move_holds : (e : Event) (o : Option Outcome) (rs : List Report) (z : Table) → Step w e o v → StepResets d x n w e o v →
        (end_of v y).receiver.taken n ≡ (end_of w y).receiver.taken n ++ taken_by y n e o → r + one_if (is_reported y n e o) ≤ (a + one_if (is_reset y n e o)) + 1 →
        (took n (end_of w y) ≤ B) ⊎ Unclosed n rs → Moves y (end_of w y) (end_of v y) q e o rs z → After_ e o z
    move_holds e o rs z step k more bound may (Elsewhere _ _ off) =
        still T B a r w v q wide h t e o step k more bound (quiet_taken y n e o off) (told_no T _ e o (λ is. let on = call_of_report y e is in cc (on, off))) (stream_at q n) h
    move_holds e o rs z step k more bound may (Fails _) =
        still T B a r w v q wide h t e None step k more bound (quiet_none e y n).taken (answered_no T _ e None (λ i is. cc is)) (stream_at q n) h
    move_holds e o rs z step k more bound may (Takes i g p is leaves untold) =
        subst (λ (u : EndView). Holds n (WithPlace s drawn within d x n T (took n (end_of w y)) (Take y i) (Some (model.Message g))) B u (stream_at (next_report (end_of w y) q).table n)) (sym leaves)
        (holds_more n T _ B B (next_report (end_of w y) q).view (stream_at (next_report (end_of w y) q).table n) (told_no T _ (Take y i) _ (λ is. cc is)) (omega arith)
        (report_holds n small T B (end_of w y) q h (own (n == i) refl, elim may [ inl low ↦ inl low | inr off ↦ inr (told_first n p (next_report (end_of w y) q).report is off) ])))
      where
        next : EndView
        next = (next_report (end_of w y) q).view

        none_taken : (b : Bool) → (n == i) ≡ b → b ≡ false → (c : Bool) → length (if c && (n == i) then g ∷ [] else []) ≡ 0
        none_taken b is off true = rw (is, off) refl
        none_taken b is off false = refl

        own : (b : Bool) → (n == i) ≡ b → (took n next ≡ took n (end_of w y)) ⊎ (next.receiver.resets.told n ≡ None)
        own true on = inr (subst (λ (u : EndView). u.receiver.resets.told n ≡ None) leaves (let same : i ≡ n = grind (arith, nat_tests, on) in subst (λ (j : ℕ). (end_of v y).receiver.resets.told j ≡ None) same untold))
        own false off = inl (
            let count = ap length more in
            let all = length-append ((end_of w y).receiver.taken n) (taken_by y n (Take y i) (Some (model.Message g))) in
            let none = none_taken false off refl (same_side y y) in
            let here = ap (took n) leaves in
            omega (arith, count, all, none, here)
            )
    move_holds e o rs z step k more bound may (Notes i j) = go (same_or_not i n)
      where
        other_stream : (c : ℕ) → (n ≡ i → ⊥) → ◌≡◌ {A = Option Outcome} (Some (ResetThere i j)) (Some (ResetThere n c)) → ⊥
        other_stream c ne is = ne (cc is)

        by_own : (i : ℕ) → i ≡ n → Step w (WasReset y) (Some (ResetThere i j)) v → StepResets d x n w (WasReset y) (Some (ResetThere i j)) v →
            r + one_if (is_reported y n (WasReset y) (Some (ResetThere i j))) ≤ (a + 0) + 1 → After_ (WasReset y) (Some (ResetThere i j)) (with_reset i j q)
        by_own i same step k bound = subst (λ (c : ℕ). After_ (WasReset y) (Some (ResetThere c j)) (with_reset c j q)) (sym same)
            (noted_holds T B a r w v q wide h t j (subst (λ (c : ℕ). Step w (WasReset y) (Some (ResetThere c j)) v) same step) (subst (λ (c : ℕ). StepResets d x n w (WasReset y) (Some (ResetThere c j)) v) same k) more
            (subst (λ (c : ℕ). r + one_if (is_reported y n (WasReset y) (Some (ResetThere c j))) ≤ (a + 0) + 1) same bound))

        go : (i ≡ n) ⊎ (n ≡ i → ⊥) → After_ (WasReset y) (Some (ResetThere i j)) (with_reset i j q)
        go (inl same) = by_own i same step k bound
        go (inr ne) = put_at (After_at) q i n (peer_resets j (stream_at q i)) (λ e lt. absurd (ne (sym e)))
            (λ beside. still T B a r w v q wide h t (WasReset y) (Some (ResetThere i j)) step k more bound refl (answered_no T _ (WasReset y) (Some (ResetThere i j)) (λ c is. other_stream c ne is)) (stream_at q n) h)
          where
            After_at : Stream → Type 0
            After_at u = Holds n (WithPlace s drawn within d x n T (took n (end_of w y)) (WasReset y) (Some (ResetThere i j))) B (end_of v y) u
    move_holds e o rs z step k more bound may NotesNone = still T B a r w v q wide h t e o step k more bound refl (answered_no T _ e (Some NoReset) (λ i is. cc is)) (stream_at q n) h
    move_holds e o rs z step k more bound may (Opens i t1 p c choice) = still_at T B a r w v q wide h t e o step k more bound refl (told_no T _ e o (λ is. cc is)) i _ (record { left = refl; again = refl; resets = refl })
    move_holds e o rs z step k more bound may (Answers i t1 is) = still_at T B a r w v q wide h t e o step k more bound refl (told_no T _ e o (λ is. cc is)) i _ (record { left = refl; again = refl; resets = refl })
    move_holds e o rs z step k more bound may (Says i t1 now c can) = still T B a r w v q wide h t e o step k more bound refl (told_no T _ e o (λ is. cc is)) (stream_at q n) h
    move_holds e o rs z step k more bound may (Refuses c why) = still T B a r w v q wide h t e o step k more bound refl (told_no T _ e o (λ is. cc is)) (stream_at q n) h
    move_holds e o rs z step k more bound may (IsNotOpen c) = still T B a r w v q wide h t e o step k more bound refl (told_no T _ e o (λ is. cc is)) (stream_at q n) h
    move_holds e o rs z step k more bound may (Closes i can) = still_at T B a r w v q wide h t e o step k more bound refl (told_no T _ e o (λ is. cc is)) i _ (record { left = refl; again = refl; resets = refl })
    move_holds e o rs z step k more bound may (Resets i out is by) = still_at T B a r w v q wide h t e o step k more bound refl (told_no T _ e o (λ is. cc is)) i _ (record { left = refl; again = refl; resets = refl })
    move_holds e o rs z step k more bound may (ResetsNone i out by) = still T B a r w v q wide h t e o step k more bound refl (told_no T _ e o (λ is. cc is)) (stream_at q n) h

  -- ---- a run

  -- Where the places are kept: those that were passed when all messages taken so far were, or those that were passed at some place behind which no channel was told closed.
  abbrev pub passed_by : (mode : Bool) → (B took : ℕ) → ℕ
  passed_by mode B m = if mode then B else m

  pub record Stands (mode : Bool) (B : ℕ) (T : ℕ → Type 0) (m : ℕ) (w : World) (q : Table) (fs : List Event) (ps : List (Option Outcome)) (us : List World) : Type 0 where
    pub steady : IsSteady s drawn d w
    pub fresh : IsFresh w
    pub sound : AreSound w
    pub kept : AllKept d w fs us
    pub taken : took n (end_of w y) ≡ m
    pub wide : n < many q
    pub accepted : ℕ
    pub reported : ℕ
    pub tally : Tally accepted reported (Lives (end_of w y)) (stream_at q n)
    pub bounded : Bounded y n accepted reported fs ps
    pub holds : Holds n T (passed_by mode B m) (end_of w y) (stream_at q n)
    pub channel : mode ≡ true → has_channel (stream_at q n).state ≡ true

  raised : (mode : Bool) (B m k : ℕ) → m ≤ k → passed_by mode B m ≤ passed_by mode B k
  raised true B m k le = omega arith
  raised false B m k le = le

  stands_more : (mode : Bool) (B : ℕ) (T U : ℕ → Type 0) (m k : ℕ) (w : World) (q : Table) (fs : List Event) (ps : List (Option Outcome)) (us : List World) → ((p : ℕ) → U p → T p) → m ≡ k →
      Stands mode B T m w q fs ps us → Stands mode B U k w q fs ps us
  stands_more mode B T U m k w q fs ps us fewer same a = record {
    steady = a.steady;
    fresh = a.fresh;
    sound = a.sound;
    kept = a.kept;
    taken = a.taken ∙ same;
    wide = a.wide;
    accepted = a.accepted;
    reported = a.reported;
    tally = a.tally;
    bounded = a.bounded;
    holds = holds_more n T U (passed_by mode B m) (passed_by mode B k) (end_of w y) (stream_at q n) fewer (raised mode B m k (omega (arith, same))) a.holds;
    channel = a.channel;
  }

  -- another table
  stands_at : (mode : Bool) (B : ℕ) (T : ℕ → Type 0) (m : ℕ) (w : World) (q z : Table) (fs : List Event) (ps : List (Option Outcome)) (us : List World) → (a : Stands mode B T m w q fs ps us) → many z ≡ many q →
      Tally a.accepted a.reported (Lives (end_of w y)) (stream_at z n) → Holds n T (passed_by mode B m) (end_of w y) (stream_at z n) → (mode ≡ true → has_channel (stream_at z n).state ≡ true) →
      Stands mode B T m w z fs ps us
  stands_at mode B T m w q z fs ps us a same tally holds channel = record {
    steady = a.steady;
    fresh = a.fresh;
    sound = a.sound;
    kept = a.kept;
    taken = a.taken;
    wide = let le = a.wide in omega (arith, le, same);
    accepted = a.accepted;
    reported = a.reported;
    tally = tally;
    bounded = a.bounded;
    holds = holds;
    channel = channel;
  }

  -- a stream is left only behind what was passed, or of no channel
  may_leave : (mode : Bool) (B m : ℕ) (rs : List Report) → (mode ≡ true → Unclosed n rs) → (m ≤ passed_by mode B m) ⊎ Unclosed n rs
  may_leave true B m rs unclosed = inr (unclosed refl)
  may_leave false B m rs unclosed = inl (omega arith)

  front : (rs more : List Report) → Unclosed n (rs ++ more) → Unclosed n rs
  front (r ∷ rs) more unclosed q (inl own) = unclosed q (inl own)
  front (r ∷ rs) more unclosed q (inr has) = front rs more (λ p h. unclosed p (inr h)) q has
  front [] more unclosed q none = absurd none

  rest : (rs more : List Report) → Unclosed n (rs ++ more) → Unclosed n more
  rest [] more unclosed = unclosed
  rest (r ∷ rs) more unclosed = rest rs more (λ p h. unclosed p (inr h))

  one_event : (mode : Bool) (B : ℕ) (T : ℕ → Type 0) (m : ℕ) (w v : World) (q z : Table) (e : Event) (o : Option Outcome) (rs : List Report) (fs : List Event) (ps : List (Option Outcome)) (us : List World) →
      Stands mode B T m w q (e ∷ fs) (o ∷ ps) (v ∷ us) → Moves y (end_of w y) (end_of v y) q e o rs z → Step w e o v → IsFine s drawn e → (mode ≡ true → Unclosed n rs) →
      Stands mode B (WithPlace s drawn within d x n T m e o) (m + length (taken_by y n e o)) v z fs ps us
  one_event mode B T m w v q z e o rs fs ps us a move step this unclosed = record {
    steady = steady_step s drawn within d w v e o a.kept.0 this a.steady step;
    fresh = (step_onward w e o v a.fresh step).fresh;
    sound = λ i. (step_goes_on w e o v a.fresh a.sound step i).sound;
    kept = a.kept.1;
    taken = grown;
    wide = let le = a.wide in let same = moves_many y (end_of w y) (end_of v y) q e o rs z move in omega (arith, le, same);
    accepted = a.accepted + one_if (is_reset y n e o);
    reported = a.reported + one_if (is_reported y n e o);
    tally = move_tally y n a.accepted a.reported w v q a.tally (lived y w e o v a.fresh step) e o rs z step move;
    bounded = a.bounded.1;
    holds = holds_more n _ _ (passed_by mode B m) (passed_by mode B (m + length (taken_by y n e o))) (end_of v y) (stream_at z n) (λ p told. subst (λ (j : ℕ). WithPlace s drawn within d x n T j e o p) (sym a.taken) told)
        (raised mode B m (m + length (taken_by y n e o)) (omega arith)) moved;
    channel = λ on. move_there n y (end_of w y) (end_of v y) q e o rs z move (unclosed on) (a.channel on);
  }
    where
      more : (end_of v y).receiver.taken n ≡ (end_of w y).receiver.taken n ++ taken_by y n e o
      more = (step_noted y n w e o v a.fresh a.sound step).taken

      grown : took n (end_of v y) ≡ m + length (taken_by y n e o)
      grown = let count = ap length more in let all = length-append ((end_of w y).receiver.taken n) (taken_by y n e o) in let same = a.taken in omega (arith, count, all, same)

      moved : Holds n (WithPlace s drawn within d x n T (took n (end_of w y)) e o) (passed_by mode B m) (end_of v y) (stream_at z n)
      moved = move_holds T (passed_by mode B m) a.accepted a.reported w v q a.wide a.holds a.tally e o rs z step (step_resets s drawn within d w v e o a.kept.0 this a.steady step x n) more a.bounded.0
          (subst (λ (j : ℕ). (j ≤ passed_by mode B m) ⊎ Unclosed n rs) (sym a.taken) (may_leave mode B m rs unclosed)) move

  pub run_stands : (mode : Bool) (B : ℕ) (T : ℕ → Type 0) (m : ℕ) (w : World) (q : Table) (es : List Event) (os : List (Option Outcome)) (vs : List World) (rs : List Report) (u : Table) (fs : List Event)
      (ps : List (Option Outcome)) (us : List World) → Driven y w q es os vs rs u → PassesThrough w es os vs → ((e : Event) → Has es e → IsFine s drawn e) → (mode ≡ true → Unclosed n rs) →
      Stands mode B T m w q (es ++ fs) (os ++ ps) (vs ++ us) → Stands mode B (CoversPlaces s drawn within d x n T m es os) (m + length (taken y n es os)) (last_of w vs) u fs ps us
  run_stands mode B T m w q es os vs rs u fs ps us (Rests _ _) passes fine unclosed a =
      stands_more mode B T _ m (m + 0) w q fs ps us (λ p told. elim told [ inl before ↦ before | inr none ↦ absurd none ]) (omega arith) a
  run_stands mode B T m w q es os vs rs u fs ps us (Goes _ v _ z _ e o more others worlds now next move on) (step, passes) fine unclosed a =
      let one = one_event mode B T m w v q z e o now (more ++ fs) (others ++ ps) (worlds ++ us) a move step (fine e (inl refl)) (λ is. front now next (unclosed is)) in
      let later = run_stands mode B (WithPlace s drawn within d x n T m e o) (m + length (taken_by y n e o)) v z more others worlds next u fs ps us on passes (λ f has. fine f (inr has)) (λ is. rest now next (unclosed is)) one in
      let k = length-append (taken_by y n e o) (taken y n more others) in
      stands_more mode B _ _ _ (m + length (taken_by y n e o ++ taken y n more others)) (last_of v worlds) u fs ps us (later_told e o more others) (omega (arith, k)) later
    where
      later_told : (e : Event) (o : Option Outcome) (more : List Event) (others : List (Option Outcome)) (p : ℕ) → CoversPlaces s drawn within d x n T m (e ∷ more) (o ∷ others) p →
          CoversPlaces s drawn within d x n (WithPlace s drawn within d x n T m e o) (m + length (taken_by y n e o)) more others p
      later_told e o more others p (inl before) = inl (inl before)
      later_told e o more others p (inr (inl now)) = inl (inr now)
      later_told e o more others p (inr (inr later)) = inr later
  run_stands mode B T m w q es os vs rs u fs ps us (Tells _ _ _ _ _ _ r more is same on) passes fine unclosed a =
      run_stands mode B T m w (next_report (end_of w y) q).table es os vs more u fs ps us on passes fine (λ yes. rest (r ∷ []) more (unclosed yes))
      (stands_at mode B T m w q (next_report (end_of w y) q).table (es ++ fs) (os ++ ps) (vs ++ us) a (report_many (end_of w y) q) (report_tally n a.accepted a.reported (end_of w y) q a.tally)
      (subst (λ (e : EndView). Holds n T (passed_by mode B m) e (stream_at (next_report (end_of w y) q).table n)) same
      (report_holds n small T (passed_by mode B m) (end_of w y) q a.holds (
        inl (ap (took n) same),
        elim (may_leave mode B m (r ∷ []) (λ yes. front (r ∷ []) more (unclosed yes))) [
          | inl low ↦ inl (let e = a.taken in omega (arith, low, e))
          | inr off ↦ inr (told_first n r (next_report (end_of w y) q).report is off)
        ],
      )))
      (λ yes. report_there n (end_of w y) q (a.channel yes) (told_first n r (next_report (end_of w y) q).report is (front (r ∷ []) more (unclosed yes)))))
  run_stands mode B T m w q es os vs rs u fs ps us (Agrees _ _ _ _ _ _ more i j ordered l is on) passes fine unclosed a =
      let z = with_channel state.Open ordered l (stream_at q i) in
      let free = agreed_free (end_of w y) q l j i is in
      run_stands mode B T m w (with_stream q i z) es os vs more u fs ps us on passes fine unclosed
      (stands_at mode B T m w q (with_stream q i z) (es ++ fs) (os ++ ps) (vs ++ us) a (with_many q i z) (agreed_tally y n a.accepted a.reported (end_of w y) q i ordered l free a.tally)
      (put_at (Holds n T (passed_by mode B m) (end_of w y)) q i n z (λ e lt. holds_keeps n T (passed_by mode B m) (end_of w y) (stream_at q i) z
      (keeps_places (took n (end_of w y)) (stream_at q i) z (record { left = refl; again = refl; resets = refl })) (subst (λ (k : ℕ). Holds n T (passed_by mode B m) (end_of w y) (stream_at q k)) (sym e) a.holds)) (λ beside. a.holds))
      (λ yes. follows_there n q i z (free_follows (stream_at q i) state.Open ordered l free) (a.channel yes)))
  run_stands mode B T m w q es os vs rs u fs ps us (Sets _ _ _ _ _ _ more i k may on) passes fine unclosed a =
      run_stands mode B T m w _ es os vs more u fs ps us on passes fine unclosed (stands_at mode B T m w q _ (es ++ fs) (os ++ ps) (vs ++ us) a refl a.tally a.holds a.channel)
  run_stands mode B T m w q es os vs rs u fs ps us (Frees _ _ _ _ _ _ more i gone on) passes fine unclosed a =
      run_stands mode B T m w (with_left_over q i) es os vs more u fs ps us on passes fine unclosed
      (stands_at mode B T m w q (with_left_over q i) (es ++ fs) (os ++ ps) (vs ++ us) a (with_many q i (left_over (stream_at q i))) (freed_tally y n a.accepted a.reported (end_of w y) q i gone a.tally)
      (put_at (Holds n T (passed_by mode B m) (end_of w y)) q i n (left_over (stream_at q i)) (λ e lt. freed mode refl e) (λ beside. a.holds))
      (λ yes. put_at (λ (k : Stream). has_channel k.state ≡ true) q i n (left_over (stream_at q i)) (λ e lt. absurd (silent e (a.channel yes))) (λ beside. a.channel yes)))
    where
      silent : i ≡ n → has_channel (stream_at q n).state ≡ true → ⊥
      silent e on = silent_none (stream_at q i).state (gone_reset (end_of w y) q i gone).0 (subst (λ (k : ℕ). has_channel (stream_at q k).state ≡ true) (sym e) on)

      freed : (b : Bool) → mode ≡ b → i ≡ n → Holds n T (passed_by mode B m) (end_of w y) (left_over (stream_at q i))
      freed true is e = absurd (silent e (a.channel is))
      freed false is e =
          let low : took n (end_of w y) ≤ passed_by mode B m = (let f = a.taken in let g : passed_by mode B m ≡ m = ap (λ (k : Bool). passed_by k B m) is in omega (arith, f, g)) in
          holds_left n T (passed_by mode B m) (end_of w y) (stream_at q i) low (λ on_it. none_left (stream_at q i) (gone_reset (end_of w y) q i gone).1)
          (subst (λ (k : ℕ). Holds n T (passed_by mode B m) (end_of w y) (stream_at q k)) (sym e) a.holds)
