-- A request to reset streams that an endpoint makes, what its user asks for, and what the answer leaves (RFC 6525, 5.1).
use Rattle.std.proofs.Common.{◌≡◌, ℕ, zero, suc, ◌+◌, ◌-◌, ◌<◌, ◌≤◌, ◌==◌, ◌&&◌, ◌||◌, not, nat_lt, Bool, true, false, List, [], ◌∷◌, length, slice_get, Option, None, Some, inl, inr, refl, sym, subst, ap, arith, ◌∙◌, eqb-true, if◌then◌else◌, is_some, le_refl}
use Rattle.std.specs.Prelude.{drop, take, filter, min}
use Rattle.std.specs.List.{list_any}
use Rattle.std.proofs.lemmas.Bool.{cases_lt, and_parts, or_parts, or_cases}
use Rattle.std.proofs.lemmas.Bool.Decides.{nat_tests}
use Rattle.sctp_model.specs.numbers.Limits.{STREAM_LIMIT, REQUEST_LIMIT, RESETS_AT_ONCE}
use Rattle.sctp_model.specs.numbers.Lists.{Has, AreInOrder, at}
use Rattle.sctp_model.specs.numbers.Numbers.{u32_at}
use Rattle.sctp_model.specs.numbers.Serial.{tsn}
use Rattle.sctp_model.specs.wire.Typed.{Typed}
use Rattle.sctp_model.specs.wire.Reconfig.{ResetResult, Performed, Denied, WrongStream, BadNumber, InProgress, result_code, is_done_code, is_progress_code, is_number_code}
use Rattle.sctp_model.specs.messages.Format.{Format, Lane}
use Rattle.sctp_model.specs.messages.Plan.{Entry, Part, End, entry_at, IsOf}
use Rattle.sctp_model.specs.sender.Outgoing.{Sending, Sends, Resets, Refuses, is_sending, is_resetting, lists, are_listed, Numbering, FirstNumber, NextNumber, LaterNumber, takes_next, Request, Outgoing}
use Rattle.sctp_model.specs.sender.SenderView.{SenderView}
use Rattle.sctp_model.specs.sender.Words.{count_up}
use Rattle.sctp_model.specs.sender.Entries.{entry_lane, continued}
use Rattle.sctp_model.specs.sender.Assigning.{is_on}
use Rattle.sctp_model.specs.sender.Resetting.{with_resets, resetting, has_past, is_still_on, is_ready, ready, has_stream, may_ask, was_said, first_twice, named_next, next_request, asked, numbered_so, retried_in, retried, rebased, reset_done, reset_refused, kept_asking, is_past_first, number_back, answered_in, is_open_number, response_taken}
use Rattle.sctp_model.specs.sender.Reached.{Rebases}
use Rattle.sctp_model.specs.receiver.Incoming.{Waited}
use Rattle.sctp_model.specs.receiver.ReceiverView.{ReceiverView}
use Rattle.sctp_model.specs.world.Calls.{Asked}
use Rattle.sctp_model.proofs.sender.PointLaws.{get-drop}
use Rattle.sctp_safety.specs.Way.{Way, HasNone}
use Rattle.sctp_safety.proofs.lists.Basics.{at_cases, Has-filtered, filter_is, item_at-within}
use Rattle.sctp_safety.proofs.moves.UsualLemmas.{retuned, usual_on}
use Rattle.sctp_safety.proofs.plan.InPart.{idle_closed}
use Rattle.sctp_safety.proofs.receiving.CountReads.{get_there}
use Rattle.sctp_safety.proofs.runs.Dates.{Dated}
use Rattle.sctp_safety.proofs.runs.Direction.{way_of, Readably, Askedly, Direction, more_same, said_later}
use Rattle.sctp_safety.proofs.runs.Sending.{good_here}
use Rattle.sctp_safety.proofs.runs.StillStreams.{IsOld}
use Rattle.sctp_safety.proofs.runs.ResetFacts.{IsAnsweredBy, IsOpen, AreEven, IsKept, SaysSame, IsOfLast, last_sent, AreInStep, one_number, noted_done, IsNotedDone, IsNoted}

-- ---- a sender that knows something else of resets

pub sender_reset : (f : Format) (n : ℕ) (a : SenderView) (u : Asked) (r : ReceiverView) (out back : List Dated) (d : Direction f n a u r out back) (x : Outgoing) →
    AreInStep f (with_resets x a) r → Readably f a (with_resets x a) r r → Askedly a.initial a (with_resets x a) → Direction f n (with_resets x a) u r out back
sender_reset f n a u r out back d x step reads asks = record {
  bags = d.bags;
  usual = usual_on here (way_of f n (with_resets x a) u r d.bags) d.usual (retuned here (with_resets x a) refl refl refl refl refl (λ i. le_refl (a.repeats i)))
      (record { ends = d.usual.order.ends; marked = d.usual.order.marked; tickets = d.usual.order.tickets });
  reached = Rebases a x d.reached;
  idle = d.idle;
  initial = d.initial;
  outbound = d.outbound;
  inbound = d.inbound;
  step = step;
  said = λ y has. said_later f a.initial a (with_resets x a) r r d.bags d.bags y.date.own y.chunk (λ i e h. h) (more_same d.bags) reads asks (d.said y has);
  said_back = d.said_back;
}
  where
    here : Way
    here = way_of f n a u r d.bags

-- ---- lists

lists_has : (xs : List ℕ) (s : ℕ) → lists xs s ≡ true → Has xs s
lists_has [] s h = absurd (cc)
lists_has (x ∷ xs) s h = elim (or_cases (x == s) (lists xs s) h) [ inl same ↦ inl (eqb-true x s same) | inr more ↦ inr (lists_has xs s more) ]

has_lists : (xs : List ℕ) (s : ℕ) → Has xs s → lists xs s ≡ true
has_lists [] s h = absurd h
has_lists (x ∷ xs) s (inl e) = let on : (x == s) ≡ true = grind (arith, nat_tests, e) in rw on refl
has_lists (x ∷ xs) s (inr h) = go (x == s) (has_lists xs s h)
  where
    go : (b : Bool) → lists xs s ≡ true → (b || lists xs s) ≡ true
    go true on = refl
    go false on = on

has_take : {A : Type 0} (n : ℕ) (xs : List A) (x : A) → Has (take n xs) x → Has xs x
has_take zero xs x h = absurd h
has_take (suc n) [] x h = absurd h
has_take (suc n) (y ∷ ys) x (inl e) = inl e
has_take (suc n) (y ∷ ys) x (inr h) = inr (has_take n ys x h)

take_short : {A : Type 0} (n : ℕ) (xs : List A) → length (take n xs) ≤ n
take_short zero xs = omega arith
take_short (suc n) [] = omega arith
take_short (suc n) (y ∷ ys) = let h = take_short n ys in omega (arith, h)

counted_below : (i n s : ℕ) → Has (count_up i n) s → s < i + n
counted_below i zero s h = absurd h
counted_below i (suc n) s (inl e) = omega (arith, e)
counted_below i (suc n) s (inr h) = let k = counted_below (suc i) n s h in omega (arith, k)

none_any : {A : Type 0} (test : A → Bool) (xs : List A) (x : A) → list_any test xs ≡ false → Has xs x → test x ≡ false
none_any test [] x off has = absurd has
none_any test (y ∷ ys) x off (inl e) = subst (λ z. test z ≡ false) e (or_parts (test y) (list_any test ys) off).0
none_any test (y ∷ ys) x off (inr h) = none_any test ys x (or_parts (test y) (list_any test ys) off).1 h

got : {A : Type 0} (xs : List A) (n : ℕ) (x : A) → slice_get xs n ≡ Some x → Has xs x
got [] n x h = absurd (cc)
got (y ∷ xs) zero x h = inl (cc)
got (y ∷ xs) (suc n) x h = inr (got xs n x h)

off_of : (b : Bool) → not b ≡ true → b ≡ false
off_of true h = absurd (cc)
off_of false h = refl

none_of : {A : Type 0} (o : Option A) → is_some o ≡ false → o ≡ None
none_of None h = refl
none_of (Some x) h = absurd (cc)

-- ---- rising numbers

abbrev IsRising : List ℕ → Type 0
IsRising xs = AreInOrder (λ (x y : ℕ). x < y) xs

up_from : (i n y : ℕ) → Has (count_up i n) y → i ≤ y
up_from i zero y h = absurd h
up_from i (suc n) y (inl e) = omega (arith, e)
up_from i (suc n) y (inr h) = let k = up_from (suc i) n y h in omega (arith, k)

rising_up : (i n : ℕ) → IsRising (count_up i n)
rising_up i zero = tt
rising_up i (suc n) = (λ y h. let k = up_from (suc i) n y h in omega (arith, k), rising_up (suc i) n)

rising_filter : (test : ℕ → Bool) (xs : List ℕ) → IsRising xs → IsRising (filter test xs)
rising_filter test [] h = tt
rising_filter test (x ∷ xs) (first, more) = go (test x) (rising_filter test xs more)
  where
    go : (b : Bool) → IsRising (filter test xs) → IsRising (if b then x ∷ filter test xs else filter test xs)
    go true rest = (λ y has. first y (Has-filtered test xs y has), rest)
    go false rest = rest

rising_take : (k : ℕ) (xs : List ℕ) → IsRising xs → IsRising (take k xs)
rising_take zero xs h = tt
rising_take (suc k) [] h = tt
rising_take (suc k) (x ∷ xs) (first, more) = (λ y has. first y (has_take k xs y has), rising_take k xs more)

-- the first of them twice is another list
twice_is_other : (xs : List ℕ) → 0 < length xs → IsRising xs → first_twice xs ≡ xs → ⊥
twice_is_other [] some rises same = omega (arith, some)
twice_is_other (x ∷ xs) some (first, more) same = by_limit RESETS_AT_ONCE (omega arith) same
  where
    by_rest : (k : ℕ) (ys : List ℕ) → ((y : ℕ) → Has ys y → x < y) → x ∷ take k ys ≡ ys → ⊥
    by_rest k [] above e = cc e
    by_rest k (y ∷ ys) above e = let one : x ≡ y = cc e in let lt = above y (inl refl) in omega (arith, one, lt)

    tail_is : (ys zs : List ℕ) → x ∷ ys ≡ x ∷ zs → ys ≡ zs
    tail_is ys zs e = cc e

    by_one : (k : ℕ) → 0 < k → take k (x ∷ xs) ≡ xs → ⊥
    by_one zero none e = omega (arith, none)
    by_one (suc k) more_than e = by_rest k xs first e

    by_limit : (k : ℕ) → 1 < k → take k (x ∷ x ∷ xs) ≡ x ∷ xs → ⊥
    by_limit zero none e = omega (arith, none)
    by_limit (suc k) above e = by_one k (omega (arith, above)) (tail_is (take k (x ∷ xs)) xs e)

-- ---- the request

module _ (f : Format) (n : ℕ) (a : SenderView) (u : Asked) (r : ReceiverView) (out back : List Dated) (d : Direction f n a u r out back) (may : may_ask a ≡ true) where
  free : a.resets.pending ≡ None
  free = none_of a.resets.pending (off_of (is_some a.resets.pending) (and_parts (not (is_some a.resets.pending)) (has_stream (ready a) && nat_lt a.resets.made REQUEST_LIMIT) may).0)

  rest : ((has_stream (ready a)) ≡ true) × (nat_lt a.resets.made REQUEST_LIMIT ≡ true)
  rest = and_parts (has_stream (ready a)) (nat_lt a.resets.made REQUEST_LIMIT) (and_parts (not (is_some a.resets.pending)) (has_stream (ready a) && nat_lt a.resets.made REQUEST_LIMIT) may).1

  made : r.resets.taken ≡ a.resets.made
  made = d.step.answered free

  abbrev q : Request
  q = next_request a

  -- the first of them twice are of them
  twice_listed : (xs : List ℕ) (s : ℕ) → Has (first_twice xs) s → Has xs s
  twice_listed [] s h = absurd h
  twice_listed (x ∷ xs) s h = of (has_take RESETS_AT_ONCE (x ∷ x ∷ xs) s h)
    where
      of : Has (x ∷ x ∷ xs) s → Has (x ∷ xs) s
      of (inl e) = inl e
      of (inr k) = k

  -- what it names is ready
  named_has : (b : Bool) (s : ℕ) → Has (if b then first_twice (ready a) else ready a) s → Has (ready a) s
  named_has true s h = twice_listed (ready a) s h
  named_has false s h = h

  named_short : (b : Bool) → length (if b then first_twice (ready a) else ready a) ≤ RESETS_AT_ONCE
  named_short true = by (ready a)
    where
      by : (xs : List ℕ) → length (first_twice xs) ≤ RESETS_AT_ONCE
      by [] = omega arith
      by (x ∷ xs) = take_short RESETS_AT_ONCE (x ∷ x ∷ xs)
  named_short false = take_short RESETS_AT_ONCE (filter (is_ready a) (count_up 0 (min a.streams STREAM_LIMIT)))

  named_some : (b : Bool) → 0 < length (ready a) → 0 < length (if b then first_twice (ready a) else ready a)
  named_some true some = by (ready a) some
    where
      by : (xs : List ℕ) → 0 < length xs → 0 < length (first_twice xs)
      by [] h = absurd (omega (arith, h))
      by (x ∷ xs) h = by_limit RESETS_AT_ONCE (omega arith)
        where
          by_limit : (k : ℕ) → 0 < k → 0 < length (take k (x ∷ x ∷ xs))
          by_limit zero none = absurd (omega (arith, none))
          by_limit (suc k) more = omega arith
  named_some false some = some

  listed_ready : (s : ℕ) → lists (named_next a) s ≡ true → lists (ready a) s ≡ true
  listed_ready s h = has_lists (ready a) s (named_has (was_said a a.resets.last_made (ready a)) s (lists_has (named_next a) s h))

  is_one : (s : ℕ) → lists (ready a) s ≡ true → is_ready a s ≡ true
  is_one s h = filter_is (is_ready a) (count_up 0 (min a.streams STREAM_LIMIT)) s (has_take RESETS_AT_ONCE (filter (is_ready a) (count_up 0 (min a.streams STREAM_LIMIT))) s (lists_has (ready a) s h))

  parts : (s : ℕ) → lists (ready a) s ≡ true → (is_resetting (a.resets.sending s) ≡ true) × (is_still_on a s ≡ true)
  parts s h = and_parts (is_resetting (a.resets.sending s)) (is_still_on a s) (is_one s h)

  tests : (s : ℕ) → lists (ready a) s ≡ true → (list_any (is_on s) a.queue ≡ false) × (is_some (continued a.plan s) ≡ false) × (has_past a s ≡ false)
  tests s h =
      let one = and_parts (not (list_any (is_on s) a.queue)) (not (is_some (continued a.plan s)) && not (has_past a s)) (parts s h).1 in
      let two = and_parts (not (is_some (continued a.plan s))) (not (has_past a s)) one.1 in
      (off_of (list_any (is_on s) a.queue) one.0, off_of (is_some (continued a.plan s)) two.0, off_of (has_past a s) two.1)

  shut_of : (x : Sending) → is_resetting x ≡ true → is_sending x ≡ false
  shut_of Sends h = absurd (cc)
  shut_of Resets h = refl
  shut_of Refuses h = refl

  no_queued : (s : ℕ) → lists (ready a) s ≡ true → HasNone a.queue s
  no_queued s h x has on =
      let off : (x.lane.stream == s) ≡ false = none_any (is_on s) a.queue x (tests s h).0 has in
      absurd (grind (arith, nat_tests, off, on))

  upto_cum : (s : ℕ) → lists (ready a) s ≡ true → (i : ℕ) (e : Entry) → entry_at a.plan i ≡ Some e → (entry_lane e).stream ≡ s → i ≤ a.cum
  upto_cum s h zero e here on = omega arith
  upto_cum s h (suc i) e here on = elim (cases_lt i a.cum) [
    | inl low ↦ omega (arith, low)
    | inr past ↦
        let back_on : a.cum + (i - a.cum) ≡ i = omega (arith, past) in
        let there : slice_get (drop a.cum a.plan.entries) (i - a.cum) ≡ Some e = sym (get-drop a.cum a.plan.entries (i - a.cum)) ∙ ap (slice_get a.plan.entries) back_on ∙ here in
        let off : ((entry_lane e).stream == s) ≡ false = none_any (λ (y : Entry). (entry_lane y).stream == s) (drop a.cum a.plan.entries) e (tests s h).2 (got (drop a.cum a.plan.entries) (i - a.cum) e there) in
        absurd (grind (arith, nat_tests, off, on))
  ]

  is_open : IsOpen (asked a) q
  is_open = record {
    counted = omega arith;
    made = omega arith;
    some = named_some (was_said a a.resets.last_made (ready a)) (let h = rest.0 in grind (arith, nat_tests, h));
    few = named_short (was_said a a.resets.last_made (ready a));
    short = λ s named. let has = named_has (was_said a a.resets.last_made (ready a)) s named in let h = counted_below 0 (min a.streams STREAM_LIMIT) s (Has-filtered (is_ready a) (count_up 0 (min a.streams STREAM_LIMIT)) s (has_take RESETS_AT_ONCE (filter (is_ready a) (count_up 0 (min a.streams STREAM_LIMIT))) s has)) in omega (arith, h);
    within = omega arith;
    shut = λ s named. shut_of (a.resets.sending s) (parts s (listed_ready s named)).0;
    resets = λ s named. (parts s (listed_ready s named)).0;
    still = λ s named. let h = listed_ready s named in
        record { queue = no_queued s h; closed = idle_closed f a.plan (good_here f n a u r out back d).arranged s (none_of (continued a.plan s) (tests s h).1) };
    below = λ s named i e here on. (upto_cum s (listed_ready s named) i e here on, item_at-within a.plan.entries i e here);
  }

  even : AreEven f a r
  even = elim d.step.bases [ inl both ↦ both.0 | inr on ↦ let w = on.waits in let z = free in absurd (cc) ]

  first_is : (x : Request) → Some q ≡ Some x → suc a.resets.made ≡ x.first
  first_is x some = let same : q ≡ x = cc in ap (λ (y : Request). y.first) same

  -- It says something else than the last one, of which the receiver may know.
  listed_same : (xs : List ℕ) → are_listed xs xs ≡ true
  listed_same [] = refl
  listed_same (x ∷ xs) = let number : (x == x) ≡ true = grind (arith, nat_tests) in let more = listed_same xs in rw (number, more) refl

  listed_is : (xs ys : List ℕ) → are_listed xs ys ≡ true → xs ≡ ys
  listed_is [] [] on = refl
  listed_is (x ∷ xs) (y ∷ ys) on =
      let both = and_parts (x == y) (are_listed xs ys) on in
      ap (λ (z : ℕ). z ∷ xs) (eqb-true x y both.0) ∙ ap (λ (zs : List ℕ). y ∷ zs) (listed_is xs ys both.1)
  listed_is (x ∷ xs) [] on = absurd (cc)
  listed_is [] (y ∷ ys) on = absurd (cc)

  ready_rises : IsRising (ready a)
  ready_rises = rising_take RESETS_AT_ONCE (filter (is_ready a) (count_up 0 (min a.streams STREAM_LIMIT))) (rising_filter (is_ready a) (count_up 0 (min a.streams STREAM_LIMIT)) (rising_up 0 (min a.streams STREAM_LIMIT)))

  names_else : (l : Request) (b : Bool) → ((tsn a.initial l.last == tsn a.initial (length a.plan.entries)) && are_listed l.streams (ready a)) ≡ b →
      tsn a.initial l.last ≡ tsn a.initial (length a.plan.entries) → l.streams ≡ (if b then first_twice (ready a) else ready a) → ⊥
  names_else l true is last streams =
      let one = listed_is l.streams (ready a) (and_parts (tsn a.initial l.last == tsn a.initial (length a.plan.entries)) (are_listed l.streams (ready a)) is).1 in
      twice_is_other (ready a) (let h = rest.0 in grind (arith, nat_tests, h)) ready_rises (sym streams ∙ one)
  names_else l false is last streams =
      let number : (tsn a.initial l.last == tsn a.initial (length a.plan.entries)) ≡ true = grind (arith, nat_tests, last) in
      let listed : are_listed l.streams (ready a) ≡ true = subst (λ (xs : List ℕ). are_listed xs (ready a) ≡ true) (sym streams) (listed_same (ready a)) in
      let on : ((tsn a.initial l.last == tsn a.initial (length a.plan.entries)) && are_listed l.streams (ready a)) ≡ true = rw (number, listed) refl in
      cc (on, is)

  no_other : (w : Waited) → r.resets.waited ≡ Some w → SaysSame r.initial w q → ⊥
  no_other w is same = other (d.step.waited w is)
    where
      other : IsOfLast a r w → ⊥
      other k =
          let old = k.taken (let h = d.step.last k.request k.last in let e = made in omega (arith, h, e)) in
          names_else k.request (was_said a (Some k.request) (ready a)) refl
          (ap (λ (i : ℕ). tsn i k.request.last) (sym d.initial) ∙ sym old.0 ∙ same.0 ∙ ap (λ (i : ℕ). tsn i (length a.plan.entries)) d.initial)
          (sym old.1 ∙ same.1 ∙ ap (λ (o : Option Request). if was_said a o (ready a) then first_twice (ready a) else ready a) k.last)

  says_else : (w : Waited) → r.resets.waited ≡ Some w → IsOfLast (asked a) r w
  says_else w is = record {
    request = q;
    last = refl;
    taken = λ le. let h = made in absurd (omega (arith, h, le));
    new = λ lt same. no_other w is same;
  }

  -- So what is known of the last one isn't of it.
  pub asked_unnoted : (s : ℕ) → IsNoted (asked a) r s → ⊥
  asked_unnoted s k = elim k.done [
    | inl done ↦
        let same : q ≡ k.request = let w = k.waits in cc w in
        no_other (noted_done r.initial k.request) done (ap (λ (x : Request). tsn r.initial x.last) (sym same), ap (λ (x : Request). x.streams) (sym same))
    | inr never ↦ let h = made in let e = never.2 in omega (arith, h, e)
  ]

  step : AreInStep f (asked a) r
  step = record {
    few = let h = rest.1 in grind (arith, nat_tests, h);
    taken = let h = d.step.taken in omega (arith, h);
    next = let h = made in omega (arith, h);
    answered = λ none. absurd (cc);
    finished = λ none. absurd (cc);
    counted = d.step.counted;
    fresh = λ x some low. d.step.finished free;
    kept = λ x some next. let same : q ≡ x = cc in let is : FirstNumber ≡ NextNumber = ap (λ (y : Request). y.numbering) same ∙ next in absurd (cc);
    waiting = λ x some. let same : q ≡ x = cc in subst (IsOpen (asked a)) same is_open;
    bases = inl (even, λ x some le done. let h = made in let same : suc a.resets.made ≡ x.first = first_is x some in absurd (omega (arith, h, le, same)));
    last = λ x is. let e = first_is x is in omega (arith, e);
    said = λ x some. let same : q ≡ x = cc in subst (λ (y : Request). (asked a).resets.last_made ≡ Some (record y { numbering = FirstNumber })) same refl;
    waited = says_else;
    old = λ l k below. let o = d.step.old l k below in record { there = o.there; closed = o.closed; upto = o.upto };
    answers = d.step.answers;
    typed = d.step.typed;
  }

  pub after_asked : Direction f n (asked a) u r out back
  after_asked = sender_reset f n a u r out back d (asked a).resets step
      (λ base i l k h. record { based = h.based; before = λ x some listed. let same : q ≡ x = cc in subst (λ (y : Request). i ≤ y.last) same h.within; within = h.within })
      (λ m h. record { number = h.number; some = h.some; made = let k = h.made in omega (arith, k); wire = h.wire; same = λ x some le. let k = h.made in let e = first_is x some in absurd (omega (arith, k, le, e)) })

-- ---- the user's reset

module _ (f : Format) (n : ℕ) (a : SenderView) (u : Asked) (r : ReceiverView) (out back : List Dated) (d : Direction f n a u r out back) where
  still_shut : (t s : ℕ) → is_sending (a.resets.sending s) ≡ false → is_sending (at a.resets.sending t Resets s) ≡ false
  still_shut t s off = at_cases (λ (x : Sending). is_sending x ≡ false) a.resets.sending t Resets s (λ e. refl) (λ ne. off)

  still_resetting : (t s : ℕ) → is_resetting (a.resets.sending s) ≡ true → is_resetting (at a.resets.sending t Resets s) ≡ true
  still_resetting t s on = at_cases (λ (x : Sending). is_resetting x ≡ true) a.resets.sending t Resets s (λ e. refl) (λ ne. on)

  pub after_resetting : (t : ℕ) → Direction f n (resetting a t) u r out back
  after_resetting t = sender_reset f n a u r out back d (resetting a t).resets (record {
    few = d.step.few;
    taken = d.step.taken;
    next = d.step.next;
    answered = d.step.answered;
    finished = d.step.finished;
    counted = d.step.counted;
    fresh = d.step.fresh;
    kept = d.step.kept;
    waiting = λ q some. let o = d.step.waiting q some in record {
      counted = o.counted;
      made = o.made;
      some = o.some;
      few = o.few;
      short = o.short;
      within = o.within;
      shut = λ s h. still_shut t s (o.shut s h);
      resets = λ s h. still_resetting t s (o.resets s h);
      still = λ s h. let k = o.still s h in record { queue = k.queue; closed = k.closed };
      below = o.below;
    };
    bases = elim d.step.bases [
      | inl both ↦ inl (both.0, both.1)
      | inr on ↦ inr (record { request = on.request; waits = on.waits; taken = on.taken; done = on.done; streams = on.streams; reached = on.reached; bases = on.bases; noted = on.noted })
    ];
    last = d.step.last;
    said = d.step.said;
    waited = λ w is. last_sent a (resetting a t) r w refl (d.step.waited w is);
    old = d.step.old;
    answers = d.step.answers;
    typed = d.step.typed;
  })
      (λ base i l k h. record { based = h.based; before = h.before; within = h.within })
      (λ m h. record { number = h.number; some = h.some; made = h.made; wire = h.wire; same = h.same })

-- ---- the answer

-- a code that says done is of no other answer
done_is : (x : ResetResult) → is_done_code (result_code x) ≡ true → x ≡ Performed
done_is Performed h = refl
done_is Denied h = absurd (cc)
done_is WrongStream h = absurd (cc)
done_is BadNumber h = absurd (cc)
done_is InProgress h = absurd (cc)

progress_is : (x : ResetResult) → is_progress_code (result_code x) ≡ true → x ≡ InProgress
progress_is Performed h = absurd (cc)
progress_is Denied h = absurd (cc)
progress_is WrongStream h = absurd (cc)
progress_is BadNumber h = absurd (cc)
progress_is InProgress h = refl

bad_number_is : (x : ResetResult) → is_number_code (result_code x) ≡ true → x ≡ BadNumber
bad_number_is Performed h = absurd (cc)
bad_number_is Denied h = absurd (cc)
bad_number_is WrongStream h = absurd (cc)
bad_number_is BadNumber h = refl
bad_number_is InProgress h = absurd (cc)

progress_not_done : (c : ℕ) → is_progress_code c ≡ true → is_done_code c ≡ true → ⊥
progress_not_done c a b = elim (or_cases (c == 0) (c == 1) b) [
  | inl first ↦ elim (or_cases (c == 4) (c == 6) a) [ inl four ↦ grind (arith, nat_tests, four, first) | inr six ↦ grind (arith, nat_tests, six, first) ]
  | inr second ↦ elim (or_cases (c == 4) (c == 6) a) [ inl four ↦ grind (arith, nat_tests, four, second) | inr six ↦ grind (arith, nat_tests, six, second) ]
]

module _ (f : Format) (n : ℕ) (a : SenderView) (u : Asked) (r : ReceiverView) (out back : List Dated) (d : Direction f n a u r out back) (q : Request) (waits : a.resets.pending ≡ Some q)
    (last : r.resets.taken ≡ a.resets.made) where
  open_there : IsOpen a q
  open_there = d.step.waiting q waits

  lane_of_entry : (l : Lane) (k : ℕ) (e : Entry) → IsOf l k e → (entry_lane e).stream ≡ l.stream
  lane_of_entry l k (Part x m j) o = ap (λ (y : Lane). y.stream) o.0
  lane_of_entry l k (End x m) o = ap (λ (y : Lane). y.stream) o.0

  done_old : (l : Lane) (k : ℕ) → k < rebased a q l → IsOld a.plan a.cum l k
  done_old l k = go (lists q.streams l.stream) refl
    where
      go : (b : Bool) → lists q.streams l.stream ≡ b → k < (if b then length (a.plan.messages l) else a.resets.base l) → IsOld a.plan a.cum l k
      go false off below = d.step.old l k below
      go true on below =
          let m = get_there (a.plan.messages l) k below in
          record {
            there = below;
            closed = (open_there.still l.stream on).closed l k m.0 refl m.1;
            upto = λ i e here own. (open_there.below l.stream on i e here (lane_of_entry l k e own)).0;
          }

  -- it was done
  pub after_done : r.resets.result ≡ Performed → Direction f n (reset_done a q) u r out back
  after_done done = sender_reset f n a u r out back d (reset_done a q).resets (record {
    few = d.step.few;
    taken = d.step.taken;
    next = d.step.next;
    answered = λ none. last;
    finished = λ none is. absurd (cc (done, is));
    counted = d.step.counted;
    fresh = λ x some. absurd (cc);
    kept = λ x some. absurd (cc);
    waiting = λ x some. absurd (cc);
    bases = elim d.step.bases [
      | inl both ↦ absurd (both.1 q waits (let m = open_there.made in omega (arith, m, last)) done)
      | inr on ↦ inl (
        λ l numbered. let same : on.request ≡ q = let w = on.waits in cc (w, waits) in
            sym (on.bases l numbered ∙ ap (λ (x : Request). rebased a x l) same),
        λ x some. absurd (cc),
      )
    ];
    last = d.step.last;
    said = λ x some. absurd (cc);
    waited = λ w is. last_sent a (reset_done a q) r w refl (d.step.waited w is);
    old = λ l k below. let o = done_old l k below in record { there = o.there; closed = o.closed; upto = o.upto };
    answers = d.step.answers;
    typed = d.step.typed;
  })
      (λ base i l k h. record { based = h.based; before = λ x some. absurd (cc); within = h.within })
      (λ m h. record { number = h.number; some = h.some; made = h.made; wire = h.wire; same = λ x some. absurd (cc) })

  -- it won't be
  pub after_refused : (r.resets.result ≡ Performed → ⊥) → (r.resets.result ≡ InProgress → ⊥) → Direction f n (reset_refused a q) u r out back
  after_refused undone over = sender_reset f n a u r out back d (reset_refused a q).resets (record {
    few = d.step.few;
    taken = d.step.taken;
    next = d.step.next;
    answered = λ none. last;
    finished = λ none. over;
    counted = d.step.counted;
    fresh = λ x some. absurd (cc);
    kept = λ x some. absurd (cc);
    waiting = λ x some. absurd (cc);
    bases = elim d.step.bases [
      | inl both ↦ inl (both.0, λ x some. absurd (cc))
      | inr on ↦ absurd (elim on.done [ inl is ↦ undone is | inr is ↦ over is ])
    ];
    last = d.step.last;
    said = λ x some. absurd (cc);
    waited = λ w is. last_sent a (reset_refused a q) r w refl (d.step.waited w is);
    old = λ l k below. let o = d.step.old l k below in record { there = o.there; closed = o.closed; upto = o.upto };
    answers = d.step.answers;
    typed = d.step.typed;
  })
      (λ base i l k h. record { based = h.based; before = λ x some. absurd (cc); within = h.within })
      (λ m h. record { number = h.number; some = h.some; made = h.made; wire = h.wire; same = λ x some. absurd (cc) })

-- The request that waits has another numbering, and this many numbers are used.
module _ (f : Format) (n : ℕ) (a : SenderView) (u : Asked) (r : ReceiverView) (out back : List Dated) (d : Direction f n a u r out back) (q : Request) (waits : a.resets.pending ≡ Some q)
    (was : IsKept a r) (made : ℕ) (x : Numbering) (more : a.resets.made ≤ made) (one_more : made ≤ suc a.resets.made) (few : made ≤ REQUEST_LIMIT) (keeps : x ≡ NextNumber → made ≡ a.resets.made) where
  abbrev renamed : Request
  renamed = record q { numbering = x }

  is_it : (y : Request) → Some renamed ≡ Some y → renamed ≡ y
  is_it y some = cc

  -- what is done goes on to be noted so
  still_noted : (y : Request) → IsNotedDone a r y → IsNotedDone (numbered_so a made x q) r (record y { numbering = x })
  still_noted y (inl done) = inl done
  still_noted y (inr never) = absurd (elim was.1 [
    | inl w ↦ let h = never.0 in let k = w.1 in cc (h, k)
    | inr is ↦ let h = never.1 in cc (h, is)
  ])

  open_then : IsOpen (numbered_so a made x q) renamed
  open_then = let o = d.step.waiting q waits in record {
    counted = o.counted;
    made = let k = o.made in omega (arith, k, more);
    some = o.some;
    few = o.few;
    short = o.short;
    within = o.within;
    shut = o.shut;
    resets = o.resets;
    still = λ s h. let k = o.still s h in record { queue = k.queue; closed = k.closed };
    below = o.below;
  }

  pub after_numbered : Direction f n (numbered_so a made x q) u r out back
  after_numbered = sender_reset f n a u r out back d (numbered_so a made x q).resets (record {
    few = few;
    taken = let k = d.step.taken in omega (arith, more, k);
    next = let k = was.0 in omega (arith, one_more, k);
    answered = λ none. absurd (cc);
    finished = λ none. absurd (cc);
    counted = d.step.counted;
    fresh = λ y some low. let e = ap (λ (z : Request). z.first) (is_it y some) in d.step.fresh q waits (omega (arith, low, e));
    kept = λ y some next. (was.0 ∙ sym (keeps (ap (λ (z : Request). z.numbering) (is_it y some) ∙ next)), was.1);
    waiting = λ y some. subst (IsOpen (numbered_so a made x q)) (is_it y some) open_then;
    bases = elim d.step.bases [
      | inl both ↦ inl (both.0, λ y some le. let e = ap (λ (z : Request). z.first) (is_it y some) in both.1 q waits (omega (arith, le, e)))
      | inr on ↦ let same : on.request ≡ q = let w = on.waits in cc (w, waits) in inr (record {
        request = record on.request { numbering = x };
        waits = ap (λ (z : Request). Some (record z { numbering = x })) (sym same);
        taken = on.taken;
        done = on.done;
        streams = on.streams;
        reached = on.reached;
        bases = on.bases;
        noted = still_noted on.request on.noted;
      })
    ];
    last = λ y is. let k = d.step.last y is in omega (arith, k, more);
    said = λ y some. d.step.said q waits ∙ ap (λ (z : Request). Some (record z { numbering = FirstNumber })) (is_it y some);
    waited = λ w is. last_sent a (numbered_so a made x q) r w refl (d.step.waited w is);
    old = λ l k below. let o = d.step.old l k below in record { there = o.there; closed = o.closed; upto = o.upto };
    answers = d.step.answers;
    typed = d.step.typed;
  })
      (λ base i l k h. record {
        based = h.based;
        before = λ y some listed. let e = is_it y some in subst (λ (z : Request). i ≤ z.last) e (h.before q waits (subst (λ (z : Request). lists z.streams l.stream ≡ true) (sym e) listed));
        within = h.within;
      })
      (λ m h. record {
        number = h.number;
        some = h.some;
        made = let k = h.made in omega (arith, k, more);
        wire = h.wire;
        same = λ y some le. let e = is_it y some in
            subst (λ (z : Request). (m.last ≡ tsn a.initial z.last) × (m.streams ≡ z.streams)) e (h.same q waits (subst (λ (z : Request). z.first ≤ h.number) (sym e) le));
      })

-- Its timer retransmits it: one that was in progress takes the next number, which its peer expects.
pub after_retried : (f : Format) (n : ℕ) (a : SenderView) (u : Asked) (r : ReceiverView) (out back : List Dated) → Direction f n a u r out back → Direction f n (retried a) u r out back
after_retried f n a u r out back d = by a.resets.pending refl
  where
    next_is : (x : Numbering) → takes_next x ≡ true → x ≡ NextNumber
    next_is FirstNumber h = absurd (cc)
    next_is NextNumber h = refl
    next_is LaterNumber h = absurd (cc)

    by : (o : Option Request) → a.resets.pending ≡ o → Direction f n (retried_in a o) u r out back
    by None is = d
    by (Some q) is = go (takes_next q.numbering && nat_lt a.resets.made REQUEST_LIMIT) refl
      where
        go : (b : Bool) → (takes_next q.numbering && nat_lt a.resets.made REQUEST_LIMIT) ≡ b → Direction f n (if b then numbered_so a (suc a.resets.made) LaterNumber q else a) u r out back
        go false off = d
        go true on =
            let parts = and_parts (takes_next q.numbering) (nat_lt a.resets.made REQUEST_LIMIT) on in
            after_numbered f n a u r out back d q is (d.step.kept q is (next_is q.numbering parts.0)) (suc a.resets.made) LaterNumber (omega arith) (omega arith)
            (let h = parts.1 in grind (arith, nat_tests, h)) (λ e. absurd (cc))

-- ---- a response to the request that waits, which is the last one

module _ (f : Format) (n : ℕ) (a : SenderView) (u : Asked) (r : ReceiverView) (out back : List Dated) (d : Direction f n a u r out back) (x : Typed) (h : IsAnsweredBy r.initial r x) where
  abbrev pub response_number : ℕ
  response_number = u32_at x.value

  abbrev pub response_code : ℕ
  response_code = u32_at (drop 4 x.value)

  -- it answers the last request
  is_last : (response_number == tsn a.initial a.resets.made) ≡ true → (r.resets.taken ≡ a.resets.made) × (h.number ≡ r.resets.taken)
  is_last on =
      let same : tsn a.initial h.number ≡ tsn a.initial a.resets.made = ap (λ (i : ℕ). tsn i h.number) (sym d.initial) ∙ sym h.wire ∙ eqb-true response_number (tsn a.initial a.resets.made) on in
      let few = d.step.few in
      let taken = d.step.taken in
      let low = h.taken in
      let one = one_number a.initial h.number a.resets.made (omega (arith, low, taken, few)) (omega (arith, few)) same in
      (omega (arith, one, low, taken), omega (arith, one, low, taken))

  open_last : is_open_number a response_number ≡ true → (r.resets.taken ≡ a.resets.made) × (h.number ≡ r.resets.taken)
  open_last on = is_last (and_parts (is_some a.resets.pending) (response_number == tsn a.initial a.resets.made) on).1

  -- it is in progress: that is noted, or known
  pub progress_kept : is_open_number a response_number ≡ true → is_progress_code response_code ≡ true → IsKept a r
  progress_kept on progress = let last = open_last on in (
    last.0,
    elim (h.code last.1) [
      | inl was ↦ inl was.1
      | inr is ↦ inr (progress_is r.resets.result (subst (λ (c : ℕ). is_progress_code c ≡ true) is progress))
    ],
  )

  -- its number is the one that is expected
  pub never_bad_number : (q : Request) → a.resets.pending ≡ Some q → is_open_number a response_number ≡ true → is_progress_code response_code ≡ false → is_number_code response_code ≡ true → ⊥
  never_bad_number q waits on progress other = let last = open_last on in elim (h.code last.1) [
    | inl was ↦ let p = was.0 in cc (p, progress)
    | inr is ↦
        let bad = bad_number_is r.resets.result (subst (λ (c : ℕ). is_number_code c ≡ true) is other) in
        let none = d.step.counted bad in
        let o = d.step.waiting q waits in
        let some = o.counted in
        let made = o.made in
        let all = last.0 in
        omega (arith, none, some, made, all)
  ]

  -- it is done: that is noted
  pub done_noted : (q : Request) → a.resets.pending ≡ Some q → is_open_number a response_number ≡ true → is_done_code response_code ≡ true → (s : ℕ) → lists q.streams s ≡ true → IsNoted a r s
  done_noted q waits on done s listed = elim d.step.bases [
    | inl both ↦ absurd (both.1 q waits (let m = (d.step.waiting q waits).made in let l = last.0 in omega (arith, m, l)) (elim (h.code last.1) [
      | inl was ↦ absurd (progress_not_done response_code was.0 done)
      | inr is ↦ done_is r.resets.result (subst (λ (c : ℕ). is_done_code c ≡ true) is done)
    ]))
    | inr ahead ↦
        let same : ahead.request ≡ q = let w = ahead.waits in cc (w, waits) in
        record { request = ahead.request; waits = ahead.waits; named = subst (λ (y : Request). lists y.streams s ≡ true) (sym same) listed; there = ahead.streams; done = ahead.noted }
  ]
    where
      last : (r.resets.taken ≡ a.resets.made) × (h.number ≡ r.resets.taken)
      last = open_last on

  -- whatever it says (RFC 6525, 5.2.7)
  pub after_response : Direction f n (response_taken a (u32_at x.value) (u32_at (drop 4 x.value))) u r out back
  after_response = by_number (is_open_number a response_number) refl a.resets.pending refl
    where
      by_code : (q : Request) → a.resets.pending ≡ Some q → is_open_number a response_number ≡ true → (b p w : Bool) → is_done_code response_code ≡ b → is_progress_code response_code ≡ p →
          (is_number_code response_code && is_past_first a q) ≡ w →
          Direction f n (if b then reset_done a q else if p then kept_asking a q else if w then number_back a q else reset_refused a q) u r out back
      by_code q waits on true p w done progress other = let last = open_last on in after_done f n a u r out back d q waits last.0 (elim (h.code last.1) [
        | inl was ↦ absurd (progress_not_done response_code was.0 done)
        | inr is ↦ done_is r.resets.result (subst (λ (c : ℕ). is_done_code c ≡ true) is done)
      ])
      by_code q waits on false true w done progress other =
          after_numbered f n a u r out back d q waits (progress_kept on progress) a.resets.made NextNumber (omega arith) (omega arith) d.step.few (λ e. refl)
      by_code q waits on false false true done progress other =
          absurd (never_bad_number q waits on progress (and_parts (is_number_code response_code) (is_past_first a q) other).0)
      by_code q waits on false false false done progress other = let last = open_last on in elim (h.code last.1) [
        | inl was ↦ absurd (let p = was.0 in cc (p, progress))
        | inr is ↦ after_refused f n a u r out back d q waits last.0
            (λ same. let z : is_done_code (result_code Performed) ≡ false = subst (λ (c : ℕ). is_done_code c ≡ false) (is ∙ ap result_code same) done in absurd (cc))
            (λ same. let z : is_progress_code (result_code InProgress) ≡ false = subst (λ (c : ℕ). is_progress_code c ≡ false) (is ∙ ap result_code same) progress in absurd (cc))
      ]

      by_number : (b : Bool) → is_open_number a response_number ≡ b → (o : Option Request) → a.resets.pending ≡ o → Direction f n (if b then answered_in a response_code o else a) u r out back
      by_number false off o is = d
      by_number true on None is = d
      by_number true on (Some q) is = by_code q is on (is_done_code response_code) (is_progress_code response_code) (is_number_code response_code && is_past_first a q) refl refl refl
