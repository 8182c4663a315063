-- Each reset that lies between two messages of its stream was reported, or is to be, at a place between them.
use Rattle.std.proofs.Common.{◌≡◌, ℕ, zero, suc, ◌+◌, ◌-◌, ◌<◌, ◌≤◌, ◌⊎◌, is_some, Bool, true, false, List, [], ◌∷◌, ◌++◌, length, length-append, take, drop, Option, Some, None, inl, inr, refl, sym, subst, ap, ◌∙◌, arith, append-nil, slice_get}
use Rattle.std.specs.Prelude.{unwrap_or}
use Rattle.std.proofs.lemmas.Bool.{cases_lt}
use Rattle.std.proofs.lemmas.List.{append_assoc}
use Rattle.sctp_model.specs.numbers.Lists.{Has}
use Rattle.sctp_model.specs.sender.Outgoing.{is_sending}
use Rattle.sctp_model.specs.end.Configured.{IsConfiguration}
use Rattle.sctp_model.specs.world.World.{Side, other, World, end_of, Setup, configuration_of, start}
use Rattle.sctp_model.specs.world.Events.{Event, WasReset, Outcome, ResetThere}
use Rattle.sctp_model.specs.world.Steps.{Step, PassesThrough, last_of}
use Rattle.sctp_safety.specs.Parted.{Asks}
use Rattle.sctp_safety.proofs.machine.Ground.{IsFine}
use Rattle.sctp_safety.proofs.runs.DatedBags.{Dates, AreKept}
use Rattle.sctp_model.specs.world.Premises.{drawn_in}
use Rattle.sctp_safety.proofs.runs.Dating.{dates_of, AllKept}
use Rattle.sctp_safety.proofs.runs.MetWorld.{IsMetWorld}
use Rattle.sctp_safety.proofs.runs.ResetFacts.{IsNoted}
use Rattle.sctp_safety.proofs.runs.parted.Ongoing.{IsHeard}
use Rattle.sctp_safety.proofs.runs.parted.Parting.{StepResets, step_resets}
use Rattle.sctp_outcomes.specs.Users.{Sent, sent_by, sent, taken_by, taken, Match}
use Rattle.sctp_outcomes.specs.Parted.{is_reset, ResetAfter, IsTold, place_of, TakesToldOnly}
use Rattle.sctp_outcomes.specs.AllReported.{arrives_at, NoneIsLeft, HearsToldOnly, WasReported, IsToBe, IsReportedAt, LiesBetween, ResetsHavePlaces}
use Rattle.sctp_outcomes.proofs.users.AllReported.{heard_quiet, none_heard, reset_shuts, asked_for, asks_off}
use Rattle.sctp_outcomes.proofs.users.Noted.{step_noted}
use Rattle.sctp_outcomes.proofs.users.Runs.{AreNumbered}
use Rattle.sctp_outcomes.proofs.users.Parted.{numbered_upto, has_either, IsShut, IsMarked, Inv, With, Covers, marked_map, map_counts, new_numbered, none_new, marked_on, marked_now, inv_step, Under, under_step}
use Rattle.sctp_outcomes.proofs.users.PartedRuns.{step_tells, some_told, start_untold, start_taken, all, matched, fine, kept, marked_new, marked_old, inv_start}

-- ---- lists

got_drop : {A : Type 0} (p i : ℕ) (xs : List A) (x : A) → slice_get xs i ≡ Some x → p ≤ i → Has (drop p xs) x
got_drop p i [] x got le = absurd (cc)
got_drop zero zero (y ∷ xs) x got le = inl (cc got)
got_drop zero (suc i) (y ∷ xs) x got le = inr (got_drop zero i xs x got (omega arith))
got_drop (suc p) zero (y ∷ xs) x got le = absurd (omega (arith, le))
got_drop (suc p) (suc i) (y ∷ xs) x got le = got_drop p i xs x got (omega (arith, le))

got_take : {A : Type 0} (p i : ℕ) (xs : List A) (x : A) → slice_get xs i ≡ Some x → i < p → Has (take p xs) x
got_take p i [] x got lt = absurd (cc)
got_take zero i (y ∷ xs) x got lt = absurd (omega (arith, lt))
got_take (suc p) zero (y ∷ xs) x got lt = inl (cc got)
got_take (suc p) (suc i) (y ∷ xs) x got lt = inr (got_take p i xs x got (omega (arith, lt)))

got_has : {A : Type 0} (i : ℕ) (xs : List A) (x : A) → slice_get xs i ≡ Some x → Has xs x
got_has i [] x got = absurd (cc)
got_has zero (y ∷ xs) x got = inl (cc got)
got_has (suc i) (y ∷ xs) x got = inr (got_has i xs x got)

numbered_above : (k : ℕ) (xs : List Sent) (y : Sent) → AreNumbered k xs → Has xs y → k < y.ticket
numbered_above k [] y numbered has = absurd has
numbered_above k (x ∷ xs) y (here, more) (inl same) = let t = ap (λ (z : Sent). z.ticket) same in omega (arith, here, t)
numbered_above k (x ∷ xs) y (here, more) (inr has) = let low = numbered_above (suc k) xs y more has in omega (arith, low)

-- ---- what is reported in some events

-- in one of these events a reset of the stream was reported, at this place, if this number of messages had been taken before them
abbrev pub ReportedAfter : Side → (stream took : ℕ) → List Event → List (Option Outcome) → (place : ℕ) → Type 0
ReportedAfter y n took (e ∷ es) (o ∷ os) p =
    ((k : ℕ) × (e ≡ WasReset y) × (o ≡ Some (ResetThere n k)) × (took + k ≡ p)) ⊎ ReportedAfter y n (took + length (taken_by y n e o)) es os p
ReportedAfter y n took es os p = ⊥

told_after : (x : Side) (n took p : ℕ) (es : List Event) (os : List (Option Outcome)) → ReportedAfter (other x) n took es os p →
    (t : IsTold x n es os) × (took + place_of x n es os t ≡ p)
told_after x n took p [] [] h = absurd h
told_after x n took p [] (o ∷ os) h = absurd h
told_after x n took p (e ∷ es) [] h = absurd h
told_after x n took p (e ∷ es) (o ∷ os) (inl (k, is, answer, sum)) =
    (record { past = []; answers = []; later = es; others = os; waiting = k; events = ap (λ (f : Event). f ∷ es) is; outcomes = ap (λ (q : Option Outcome). q ∷ os) answer; aligned = refl }, omega (arith, sum))
told_after x n took p (e ∷ es) (o ∷ os) (inr h) =
    let rest = told_after x n (took + length (taken_by (other x) n e o)) p es os h in
    let t = rest.0 in (
      record {
        past = e ∷ t.past;
        answers = o ∷ t.answers;
        later = t.later;
        others = t.others;
        waiting = t.waiting;
        events = ap (λ (fs : List Event). e ∷ fs) t.events;
        outcomes = ap (λ (qs : List (Option Outcome)). o ∷ qs) t.outcomes;
        aligned = let a = t.aligned in omega (arith, a);
      },
      (let sum = rest.1 in let l = length-append (taken_by (other x) n e o) (taken (other x) n t.past t.answers) in omega (arith, sum, l)),
    )

-- ---- what is kept on the way

module _ (s : Setup) (drawn : List ℕ) (within : (x : Side) → IsConfiguration (configuration_of s x)) (d : Dates) (x : Side) (n : ℕ) where
  -- the same messages of the stream were accepted before these two counts
  pub record IsAlike (ss : List Sent) (c k : ℕ) : Type 0 where
    pub first : (y : Sent) → Has ss y → y.call.lane.stream ≡ n → y.ticket ≤ c → y.ticket ≤ k
    pub second : (y : Sent) → Has ss y → y.call.lane.stream ≡ n → y.ticket ≤ k → y.ticket ≤ c
    pub low : c ≤ length ss
    pub high : k ≤ length ss

  -- a reset that was accepted at this count was performed: it was reported, or is to be. T says at which places resets were.
  pub record IsPlaced (R T : ℕ → Type 0) (ss : List Sent) (c : ℕ) (w : World) : Type 0 where
    pub place : ℕ
    pub mark : IsMarked s drawn within d x n R place w
    pub told : ((end_of w (other x)).receiver.resets.told n ≡ Some place) ⊎ T place
    pub alike : IsAlike ss c mark.count

  -- all messages of the stream were accepted before
  abbrev pub IsLast : List Sent → ℕ → Type 0
  IsLast ss c = (y : Sent) → Has ss y → y.call.lane.stream ≡ n → y.ticket ≤ c

  -- Each reset is under way, or was performed; if it is noted that the last one was, all were.
  pub record Deals (R T : ℕ → Type 0) (ss : List Sent) (w : World) : Type 0 where
    pub each : (c : ℕ) → R c → ((is_sending ((end_of w x).sender.resets.sending n) ≡ false) × IsLast ss c) ⊎ IsPlaced R T ss c w
    pub noted : IsNoted (end_of w x).sender (end_of w (other x)).receiver n → (c : ℕ) → R c → IsPlaced R T ss c w
    pub given : (c : ℕ) → R c → c ≤ length ss
    pub under : Under s drawn within d x n w

  placed_map : (R Q T U : ℕ → Type 0) (ss : List Sent) (c : ℕ) (w : World) → ((k : ℕ) → R k → Q k) → ((p : ℕ) → T p → U p) → IsPlaced R T ss c w → IsPlaced Q U ss c w
  placed_map R Q T U ss c w up on k = record {
    place = k.place;
    mark = marked_map s drawn within d x n R Q k.place w up k.mark;
    told = elim k.told [ inl now ↦ inl now | inr before ↦ inr (on k.place before) ];
    alike = subst (IsAlike ss c) (sym (map_counts s drawn within d x n R Q k.place w up k.mark)) k.alike;
  }

  deals_map : (R Q T U : ℕ → Type 0) (ss : List Sent) (w : World) → ((k : ℕ) → R k → Q k) → ((k : ℕ) → Q k → R k) → ((p : ℕ) → T p → U p) → Deals R T ss w → Deals Q U ss w
  deals_map R Q T U ss w up down on k = record {
    each = λ c q. elim (k.each c (down c q)) [ inl open_still ↦ inl open_still | inr placed ↦ inr (placed_map R Q T U ss c w up on placed) ];
    noted = λ known c q. placed_map R Q T U ss c w up on (k.noted known c (down c q));
    given = λ c q. k.given c (down c q);
    under = k.under;
  }

  -- one event more
  abbrev pub WithPlace : (ℕ → Type 0) → (took : ℕ) → Event → Option Outcome → ℕ → Type 0
  WithPlace T took e o p = T p ⊎ ((k : ℕ) × (e ≡ WasReset (other x)) × (o ≡ Some (ResetThere n k)) × (took + k ≡ p))

  module _ (R T : ℕ → Type 0) (ss : List Sent) (w : World) (i : Inv s drawn within d x n R ss w) (k : Deals R T ss w) (took : ℕ) (is_took : length ((end_of w (other x)).receiver.taken n) ≡ took)
      (e : Event) (o : Option Outcome) (v : World) (dates : AreKept d w e v) (fine : IsFine s drawn e) (step : Step w e o v)
      (in_time : (arrives_at (other x) e ≡ false) ⊎ NoneIsLeft (end_of w (other x)) n)
      (takes : (taken_by (other x) n e o ≡ []) ⊎ ((end_of v (other x)).receiver.resets.told n ≡ None)) where
    abbrev pub Q : ℕ → Type 0
    Q = With s drawn within d x n R ss e o

    abbrev pub U : ℕ → Type 0
    U = WithPlace T took e o

    abbrev pub more : List Sent
    more = sent_by x e o

    resets : StepResets d x n w e o v
    resets = step_resets s drawn within d w v e o dates fine i.steady step x n

    longer : length (ss ++ more) ≡ length ss + length more
    longer = length-append ss more

    above : (y : Sent) → Has more y → length ss < y.ticket
    above y has = numbered_above (length ss) more y (new_numbered s drawn within d x n R ss w i e o v dates fine step) has

    none_more : is_sending ((end_of w x).sender.resets.sending n) ≡ false → (y : Sent) → Has more y → y.call.lane.stream ≡ n → ⊥
    none_more off y has on = none_new s drawn within d x n R ss w i e o v dates fine step off y has on

    alike_on : (c j : ℕ) → IsAlike ss c j → IsAlike (ss ++ more) c j
    alike_on c j a = record {
      first = λ y has on le. elim (has_either ss more y has) [ inl old ↦ a.first y old on le | inr late ↦ absurd (let h = above y late in let l = a.low in omega (arith, h, l, le)) ];
      second = λ y has on le. elim (has_either ss more y has) [ inl old ↦ a.second y old on le | inr late ↦ absurd (let h = above y late in let l = a.high in omega (arith, h, l, le)) ];
      low = let l = a.low in let g = longer in omega (arith, l, g);
      high = let l = a.high in let g = longer in omega (arith, l, g);
    }

    last_on : is_sending ((end_of w x).sender.resets.sending n) ≡ false → (c : ℕ) → IsLast ss c → IsLast (ss ++ more) c
    last_on off c last y has on = elim (has_either ss more y has) [ inl old ↦ last y old on | inr late ↦ absurd (none_more off y late on) ]

    -- of two counts after all messages of the stream
    both_last : (c j : ℕ) → c ≤ length ss → j ≤ length ss → IsLast ss c → IsLast ss j → IsAlike ss c j
    both_last c j low high one two = record { first = λ y has on le. two y has on; second = λ y has on le. one y has on; low = low; high = high }

    -- what was to be reported is so still, or is reported
    told_on : (p : ℕ) → (end_of w (other x)).receiver.resets.told n ≡ Some p → ((end_of v (other x)).receiver.resets.told n ≡ Some p) ⊎ U p
    told_on p was = elim (resets.kept (ap is_some was)) [
      | inl some ↦ inl (still (some_told ((end_of v (other x)).receiver.resets.told n) some))
      | inr (j, is, answer) ↦ inr (inr (j, is, answer, place j (step_tells w e o v step (other x) n j is answer).1))
    ]
      where
        place : (j : ℕ) → j ≡ unwrap_or ((end_of w (other x)).receiver.resets.told n) 0 - length ((end_of w (other x)).receiver.taken n) → took + j ≡ p
        place j is_old =
            let count : j ≡ p - length ((end_of w (other x)).receiver.taken n) = is_old ∙ ap (λ (q : Option ℕ). unwrap_or q 0 - length ((end_of w (other x)).receiver.taken n)) was in
            let low = k.under p was in
            let same = is_took in
            omega (arith, count, low, same)

        one_told : (a b : ℕ) (q : Option ℕ) → q ≡ Some a → q ≡ Some b → a ≡ b
        one_told a b q first second = cc (first, second)

        still : (c : ℕ) × ((end_of v (other x)).receiver.resets.told n ≡ Some c) → (end_of v (other x)).receiver.resets.told n ≡ Some p
        still (c, now) = elim (resets.anew c now) [
          | inl before ↦ now ∙ ap (λ (j : ℕ). Some j) (one_told c p ((end_of w (other x)).receiver.resets.told n) before was)
          | inr (known, unknown, on) ↦ elim (resets.performed known) [
            | inl before ↦ absurd (unknown before)
            | inr (heard, (_, (_, (_, there)))) ↦ absurd (let none = none_heard x n w e heard there in_time in cc (none, was))
          ]
        ]

    placed_on : (c : ℕ) → IsPlaced R T ss c w → IsPlaced Q U (ss ++ more) c v
    placed_on c p =
        let m = marked_on s drawn within d x n R ss w i e o v dates fine step p.place p.mark in
        record {
          place = p.place;
          mark = m.0;
          told = elim p.told [ inl now ↦ told_on p.place now | inr before ↦ inr (inl before) ];
          alike = subst (IsAlike (ss ++ more) c) (sym m.1) (alike_on c p.mark.count p.alike);
        }

    -- no message is accepted in the event of a reset
    no_more : is_reset x n e o ≡ true → (y : Sent) → Has more y → ⊥
    no_more on y has = absurd (subst (λ (ys : List Sent). Has ys y) (reset_shuts w e o v step x n on).silent has)

    each_now : (c : ℕ) → Q c → ((is_sending ((end_of v x).sender.resets.sending n) ≡ false) × IsLast (ss ++ more) c) ⊎ IsPlaced Q U (ss ++ more) c v
    each_now c (inl before) = by (k.each c before) (is_sending ((end_of v x).sender.resets.sending n)) refl
      where
        by : ((is_sending ((end_of w x).sender.resets.sending n) ≡ false) × IsLast ss c) ⊎ IsPlaced R T ss c w → (b : Bool) → is_sending ((end_of v x).sender.resets.sending n) ≡ b →
            ((is_sending ((end_of v x).sender.resets.sending n) ≡ false) × IsLast (ss ++ more) c) ⊎ IsPlaced Q U (ss ++ more) c v
        by (inr placed) b now = inr (placed_on c placed)
        by (inl (off, last)) false now = inl (now, last_on off c last)
        by (inl (off, last)) true now = elim (resets.freed now) [
          | inl on ↦ absurd (cc (on, off))
          | inr known ↦ inr (placed_on c (k.noted known c before))
        ]
    each_now c (inr (on, count)) = inl (
      (reset_shuts w e o v step x n on).shut,
      λ y has stream. elim (has_either ss more y has) [
        | inl old ↦ let low = numbered_upto 0 ss y i.numbered old in omega (arith, low, count)
        | inr late ↦ absurd (no_more on y late)
      ],
    )

    given_now : (c : ℕ) → Q c → c ≤ length (ss ++ more)
    given_now c (inl before) = let g = k.given c before in let l = longer in omega (arith, g, l)
    given_now c (inr (on, count)) = let l = longer in omega (arith, count, l)

    -- one is performed now
    placed_now : IsHeard x e → n < (end_of w (other x)).receiver.streams → IsMetWorld d w → Asks (end_of w x).sender n → is_some ((end_of v (other x)).receiver.resets.told n) ≡ true → (c : ℕ) → R c → IsLast ss c → IsPlaced Q U (ss ++ more) c v
    placed_now heard there met asks on c before last = by (some_told ((end_of v (other x)).receiver.resets.told n) on)
      where
        off : is_sending ((end_of w x).sender.resets.sending n) ≡ false
        off = asks_off x n s drawn within d w i.steady asks

        shut : IsShut s drawn within d x n R ss
        shut = i.shut off

        by : (p : ℕ) × ((end_of v (other x)).receiver.resets.told n ≡ Some p) → IsPlaced Q U (ss ++ more) c v
        by (p, now) = elim (resets.told p now) [
          | inl was ↦ absurd (let none = none_heard x n w e heard there in_time in cc (none, was))
          | inr (_, (_, count)) ↦
              let m = marked_now s drawn within d x n R ss w i e o v dates fine step p met asks count shut in
              record {
                place = p;
                mark = m.0;
                told = inl now;
                alike = subst (IsAlike (ss ++ more) c) (sym m.1) (alike_on c shut.count (both_last c shut.count (k.given c before) shut.given last shut.upto));
              }
        ]

    -- a further reset while one is noted is the same
    same_one : IsNoted (end_of w x).sender (end_of w (other x)).receiver n → (c : ℕ) → c ≡ length ss → IsPlaced Q U (ss ++ more) c v
    same_one known c count =
        let shut = i.shut (asks_off x n s drawn within d w i.steady (asked_for x n s drawn within d w known)) in
        let p = k.noted known shut.count shut.reset in
        let m = marked_on s drawn within d x n R ss w i e o v dates fine step p.place p.mark in
        record {
          place = p.place;
          mark = m.0;
          told = elim p.told [ inl now ↦ told_on p.place now | inr before ↦ inr (inl before) ];
          alike = subst (IsAlike (ss ++ more) c) (sym m.1) (alike_on c p.mark.count (record {
            first = λ y has on le. p.alike.first y has on (shut.upto y has on);
            second = λ y has on le. let low = numbered_upto 0 ss y i.numbered has in omega (arith, low, count);
            low = omega (arith, count);
            high = p.alike.high;
          }));
        }

    noted_now : IsNoted (end_of v x).sender (end_of v (other x)).receiver n → (c : ℕ) → Q c → IsPlaced Q U (ss ++ more) c v
    noted_now known c q = by (resets.performed known) q
      where
        by : IsNoted (end_of w x).sender (end_of w (other x)).receiver n ⊎
            (IsHeard x e × (IsMetWorld d w × (Asks (end_of w x).sender n × ((is_some ((end_of v (other x)).receiver.resets.told n) ≡ true) × (n < (end_of w (other x)).receiver.streams))))) → Q c →
            IsPlaced Q U (ss ++ more) c v
        by (inl was) (inl before) = placed_on c (k.noted was c before)
        by (inl was) (inr (on, count)) = same_one was c count
        by (inr (heard, (met, (asks, (told, there))))) (inl before) = elim (k.each c before) [
          | inl (off, last) ↦ placed_now heard there met asks told c before last
          | inr placed ↦ placed_on c placed
        ]
        by (inr (heard, rest)) (inr (on, count)) = absurd (let off = (heard_quiet x n e o heard).0 in cc (off, on))

    pub deals_step : Deals Q U (ss ++ more) v
    deals_step = record {
      each = each_now;
      noted = noted_now;
      given = given_now;
      under = under_step s drawn within d x n w v e o dates fine i.steady i.fresh i.sound step takes k.under;
    }

  -- ---- a run

  abbrev pub CoversPlaces : (ℕ → Type 0) → (took : ℕ) → List Event → List (Option Outcome) → ℕ → Type 0
  CoversPlaces T took es os p = T p ⊎ ReportedAfter (other x) n took es os p

  pub deals_run : (R T : ℕ → Type 0) (ss : List Sent) (took : ℕ) (w : World) (es : List Event) (os : List (Option Outcome)) (vs : List World) → Inv s drawn within d x n R ss w → Deals R T ss w →
      length ((end_of w (other x)).receiver.taken n) ≡ took → PassesThrough w es os vs → AllKept d w es vs → ((e : Event) → Has es e → IsFine s drawn e) →
      HearsToldOnly (other x) n w es vs → TakesToldOnly (other x) n es os vs →
      Deals (Covers s drawn within d x n R ss es os) (CoversPlaces T took es os) (ss ++ sent x es os) (last_of w vs)
  deals_run R T ss took w [] [] [] i k is_took passes kept fine hears takes =
      subst (λ (ys : List Sent). Deals (Covers s drawn within d x n R ss [] []) (CoversPlaces T took [] []) ys w) (sym (append-nil ss))
      (deals_map R (Covers s drawn within d x n R ss [] []) T (CoversPlaces T took [] []) ss w (λ c h. inl h) (λ c h. elim h [ inl before ↦ before | inr none ↦ absurd none ]) (λ p h. inl h) k)
  deals_run R T ss took w (e ∷ es) (o ∷ os) (v ∷ vs) i k is_took (step, passes) (dates, kept) fine (in_time, hears) (take_now, takes) =
      let this = fine e (inl refl) in
      let one = inv_step s drawn within d x n R ss w i e o v dates this step in
      let dealt = deals_step R T ss w i k took is_took e o v dates this step in_time take_now in
      let more = taken_by (other x) n e o in
      let taken_now : length ((end_of v (other x)).receiver.taken n) ≡ took + length more =
      (let t = ap length (step_noted (other x) n w e o v i.fresh i.sound step).taken in let l = length-append ((end_of w (other x)).receiver.taken n) more in omega (arith, t, l, is_took)) in
      let rest = deals_run (With s drawn within d x n R ss e o) (WithPlace T took e o) (ss ++ sent_by x e o) (took + length more) v es os vs one dealt taken_now passes kept (λ y h. fine y (inr h)) hears takes in
      subst (λ (ys : List Sent). Deals (Covers s drawn within d x n R ss (e ∷ es) (o ∷ os)) (CoversPlaces T took (e ∷ es) (o ∷ os)) ys (last_of v vs)) (append_assoc ss (sent_by x e o) (sent x es os))
      (deals_map (Covers s drawn within d x n (With s drawn within d x n R ss e o) (ss ++ sent_by x e o) es os) (Covers s drawn within d x n R ss (e ∷ es) (o ∷ os))
      (CoversPlaces (WithPlace T took e o) (took + length more) es os) (CoversPlaces T took (e ∷ es) (o ∷ os)) ((ss ++ sent_by x e o) ++ sent x es os) (last_of v vs) up down places rest)
    where
      up : (c : ℕ) → Covers s drawn within d x n (With s drawn within d x n R ss e o) (ss ++ sent_by x e o) es os c → Covers s drawn within d x n R ss (e ∷ es) (o ∷ os) c
      up c (inl (inl before)) = inl before
      up c (inl (inr now)) = inr (inl now)
      up c (inr later) = inr (inr (subst (λ (j : ℕ). ResetAfter x n j es os c) (length-append ss (sent_by x e o)) later))

      down : (c : ℕ) → Covers s drawn within d x n R ss (e ∷ es) (o ∷ os) c → Covers s drawn within d x n (With s drawn within d x n R ss e o) (ss ++ sent_by x e o) es os c
      down c (inl before) = inl (inl before)
      down c (inr (inl now)) = inl (inr now)
      down c (inr (inr later)) = inr (subst (λ (j : ℕ). ResetAfter x n j es os c) (sym (length-append ss (sent_by x e o))) later)

      places : (p : ℕ) → CoversPlaces (WithPlace T took e o) (took + length (taken_by (other x) n e o)) es os p → CoversPlaces T took (e ∷ es) (o ∷ os) p
      places p (inl (inl before)) = inl before
      places p (inl (inr now)) = inr (inl now)
      places p (inr later) = inr (inr later)
  deals_run R T ss took w [] (o ∷ os) vs i k is_took passes kept fine hears takes = absurd passes
  deals_run R T ss took w [] [] (v ∷ vs) i k is_took passes kept fine hears takes = absurd passes
  deals_run R T ss took w (e ∷ es) [] vs i k is_took passes kept fine hears takes = absurd passes
  deals_run R T ss took w (e ∷ es) (o ∷ os) [] i k is_took passes kept fine hears takes = absurd passes

-- ---- the law

pub resets_have_places : ResetsHavePlaces
resets_have_places s es os vs configured passes premises aged x n hears takes = (ms, matched s es os vs configured passes premises aged x n, between)
  where
    ms : List Match
    ms = (all s es os vs configured passes premises aged x n).matches

    end : World
    end = last_of (start s) vs

    none : ℕ → Type 0
    none c = ⊥

    R : ℕ → Type 0
    R = Covers s (drawn_in es) configured (dates_of (start s) vs) x n none [] es os

    T : ℕ → Type 0
    T = CoversPlaces s (drawn_in es) configured (dates_of (start s) vs) x n none 0 es os

    deals : Deals s (drawn_in es) configured (dates_of (start s) vs) x n R T (sent x es os) end
    deals =
        deals_run s (drawn_in es) configured (dates_of (start s) vs) x n none none [] 0 (start s) es os vs (inv_start s es os vs configured passes premises aged x n)
        (record { each = λ c h. absurd h; noted = λ known c h. absurd h; given = λ c h. absurd h; under = λ c is. absurd (start_untold s (other x) n c is) })
        (ap length (start_taken s (other x) n)) passes (kept s es os vs configured passes premises aged x n) (fine s es os vs configured passes premises aged x n) hears takes

    at_place : (p : ℕ) → ((end_of end (other x)).receiver.resets.told n ≡ Some p) ⊎ T p → IsReportedAt x n es os end p
    at_place p (inl now) = IsToBe now
    at_place p (inr (inl before)) = absurd before
    at_place p (inr (inr reported)) = let t = told_after x n 0 p es os reported in WasReported t.0 (let sum = t.1 in omega (arith, sum))

    -- a message of the stream was accepted
    was_sent : (m : Match) → Has ms m → Has (sent x es os) m.sent × (m.sent.call.lane.stream ≡ n)
    was_sent m has = let k = ((matched s es os vs configured passes premises aged x n).each m has).was_sent in (k.accepted, k.stream)

    placed : (i j count : ℕ) → LiesBetween x n es os ms i j count → IsPlaced s (drawn_in es) configured (dates_of (start s) vs) x n R T (sent x es os) count end →
        (place : ℕ) × IsReportedAt x n es os end place × (i < place) × (place ≤ j)
    placed i j count l p = (p.place, at_place p.place p.told, before, behind)
      where
        new : (m : Match) → Has (drop p.place ms) m → p.mark.count < m.sent.ticket
        new = marked_new s es os vs configured passes premises aged x n R p.place p.mark

        old : (m : Match) → Has (take p.place ms) m → m.sent.ticket ≤ p.mark.count
        old = marked_old s es os vs configured passes premises aged x n R p.place p.mark

        before : i < p.place
        before = elim (cases_lt i p.place) [
          | inl lt ↦ lt
          | inr le ↦ absurd (
              let late = new l.before (got_drop p.place i ms l.before l.one le) in
              let k = was_sent l.before (got_has i ms l.before l.one) in
              let low = p.alike.first l.before.sent k.0 k.1 l.old in
              omega (arith, late, low)
              )
        ]

        behind : p.place ≤ j
        behind = elim (cases_lt j p.place) [
          | inr le ↦ le
          | inl lt ↦ absurd (
              let low = old l.behind (got_take p.place j ms l.behind l.other_one lt) in
              let k = was_sent l.behind (got_has j ms l.behind l.other_one) in
              let le = p.alike.second l.behind.sent k.0 k.1 low in
              let late = l.new in
              omega (arith, le, late)
              )
        ]

    between : (i j count : ℕ) → LiesBetween x n es os ms i j count → (place : ℕ) × IsReportedAt x n es os end place × (i < place) × (place ≤ j)
    between i j count l = elim (deals.each count (inr l.reset)) [
      | inr p ↦ placed i j count l p
      | inl (off, last) ↦ absurd (
          let k = was_sent l.behind (got_has j ms l.behind l.other_one) in
          let low = last l.behind.sent k.0 k.1 in
          let late = l.new in
          omega (arith, low, late)
          )
    ]
