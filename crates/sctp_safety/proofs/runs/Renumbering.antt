-- A request of the peer to number streams anew, whichever is answered, leaves the direction in step (RFC 6525, 5.2).
use Rattle.std.proofs.Common.{◌≡◌, ℕ, suc, ◌^◌, ◌<◌, ◌≤◌, ◌⊎◌, ◌==◌, ◌&&◌, not, nat_le, Bool, true, false, List, [], ◌∷◌, ◌++◌, length, Option, None, Some, is_some, inl, inr, refl, sym, subst, ap, arith, ◌∙◌, eqb-true, if◌then◌else◌, append-nil}
use Rattle.std.specs.Prelude.{drop}
use Rattle.std.specs.List.{list_any}
use Rattle.std.proofs.lemmas.Bool.{cases_lt, and_parts, or_parts, or_cases}
use Rattle.std.proofs.lemmas.Bool.Decides.{nat_tests}
use Rattle.sctp_model.specs.numbers.Lists.{Has}
use Rattle.sctp_model.specs.numbers.Numbers.{u32_at, u32_bytes}
use Rattle.sctp_model.specs.numbers.Serial.{tsn}
use Rattle.sctp_model.specs.wire.Typed.{Typed, IsTyped}
use Rattle.sctp_model.specs.wire.Reconfig.{RECONFIG_RESPONSE, ResetMeaning, ResetResult, Performed, Denied, WrongStream, BadNumber, InProgress, result_code, is_progress_code, response_item}
use Rattle.sctp_model.specs.messages.Format.{Format, Lane, is_numbered}
use Rattle.sctp_model.specs.messages.Plan.{Entry, Part, End, IsOf}
use Rattle.sctp_model.specs.sender.Outgoing.{lists, are_listed, Numbering, FirstNumber, NextNumber, LaterNumber, takes_next, Request}
use Rattle.sctp_model.specs.sender.SenderView.{SenderView}
use Rattle.sctp_model.specs.sender.Entries.{entry_lane}
use Rattle.sctp_model.specs.sender.Resetting.{rebased}
use Rattle.sctp_model.specs.receiver.Incoming.{Incoming, Waited}
use Rattle.sctp_model.specs.receiver.ReceiverView.{ReceiverView, IsCumulative}
use Rattle.sctp_model.specs.receiver.Reading.{is_behind}
use Rattle.sctp_model.specs.receiver.Rows.{first_of}
use Rattle.sctp_model.specs.receiver.ResetTaken.{count_on, names, reset_answer, is_next, is_again, is_in_progress, is_in_turn, answer_in_turn, with_answer, renumbered, renumbered_by, reset_taken, with_answers, told_of, names_anew, waited_on, was_performed, is_done, is_done_again}
use Rattle.sctp_model.specs.world.Calls.{Asked}
use Rattle.sctp_model.proofs.receiver.RowLemmas.{row_fails}
use Rattle.sctp_safety.specs.Way.{Way, Note_duplicates, with_receiver}
use Rattle.sctp_safety.specs.ReceiverLaws.{AreReached}
use Rattle.sctp_safety.proofs.lists.Basics.{Has-push, item_at-above}
use Rattle.sctp_safety.proofs.moves.Facts.{Good}
use Rattle.sctp_safety.proofs.moves.Taken.{leads_by}
use Rattle.sctp_safety.proofs.moves.UsualLemmas.{good_usual, usual_on}
use Rattle.sctp_safety.proofs.receiving.ReadBounds.{cum_within}
use Rattle.sctp_safety.proofs.receiving.CountReads.{all_counted}
use Rattle.sctp_safety.proofs.runs.Dates.{Dated}
use Rattle.sctp_safety.proofs.runs.Direction.{way_of, Readably, Answeredly, Direction, counted_in, more_same, said_later, said_back_later}
use Rattle.sctp_safety.proofs.runs.ResetFacts.{IsAskedBy, IsAnsweredBy, AreAnswers, IsOpen, AreEven, IsAhead, AreInStep, IsKept, SaysSame, IsOfLast, last_received, one_number, behind_is, u32_back, behind_u32, WasWaiting, IsNotedDone, IsNoted, noted_received, noted_done}

-- ---- a receiver that knows something else of resets

pub receiver_reset : (f : Format) (n : ℕ) (a : SenderView) (u : Asked) (r : ReceiverView) (out back : List Dated) (d : Direction f n a u r out back) (x : Incoming) →
    AreInStep f a (record r { resets = x }) → Readably f a a r (record r { resets = x }) → Answeredly r.initial r (record r { resets = x }) → Direction f n a u (record r { resets = x }) out back
receiver_reset f n a u r out back d x step reads answers = record {
  bags = d.bags;
  usual = usual_on here (way_of f n a u (record r { resets = x }) d.bags) d.usual
      (leads_by here (with_receiver here (record r { resets = x })) (Note_duplicates (record r { resets = x })) (refl, refl))
      (record { ends = d.usual.order.ends; marked = d.usual.order.marked; tickets = d.usual.order.tickets });
  reached = d.reached;
  idle = record { ordered = λ s. record { passed = (d.idle.ordered s).passed; none = (d.idle.ordered s).none }; unordered = d.idle.unordered };
  initial = d.initial;
  outbound = d.outbound;
  inbound = d.inbound;
  step = step;
  said = λ y has. said_later f a.initial a a r (record r { resets = x }) d.bags d.bags y.date.own y.chunk (λ i e h. h) (more_same d.bags) reads (λ m h. h) (d.said y has);
  said_back = λ y has. said_back_later r.initial r (record r { resets = x }) d.bags d.bags y.date.there y.chunk (more_same d.bags) answers (d.said_back y has);
}
  where
    here : Way
    here = way_of f n a u r d.bags

-- ---- the answer as a parameter

code_small : (x : ResetResult) → result_code x < 2 ^ 32
code_small Performed = omega arith
code_small Denied = omega arith
code_small WrongStream = omega arith
code_small BadNumber = omega arith
code_small InProgress = omega arith

item_typed : (number : ℕ) (x : ResetResult) → IsTyped (response_item number x)
unfolding u32_bytes
item_typed number x = record { kind = omega arith; length = omega arith }

item_number : (number : ℕ) (x : ResetResult) → number < 2 ^ 32 → u32_at (response_item number x).value ≡ number
item_number number x small = u32_back number (u32_bytes (result_code x)) small

item_code : (number : ℕ) (x : ResetResult) → u32_at (drop 4 (response_item number x).value) ≡ result_code x
item_code number x = ap u32_at (behind_u32 number (u32_bytes (result_code x)) ∙ sym (append-nil (u32_bytes (result_code x)))) ∙ u32_back (result_code x) [] (code_small x)

-- the table answers these three alone
never : (w b : Bool) (y : ResetResult) → first_of ((w, WrongStream) ∷ (b, InProgress) ∷ []) Performed ≡ y → (WrongStream ≡ y → ⊥) → (InProgress ≡ y → ⊥) → (Performed ≡ y → ⊥) → ⊥
never true b y e no_stream no_progress no_done = no_stream e
never false true y e no_stream no_progress no_done = no_progress e
never false false y e no_stream no_progress no_done = no_done e

-- ---- which request it is

-- a number that is the next one, or the last one again
of_number : (x y : ℕ) → (x == y) ≡ true → x ≡ y
of_number x y h = eqb-true x y h

-- nothing is noted
abbrev no_waited : Option Waited
no_waited = None

module _ (f : Format) (n : ℕ) (a : SenderView) (u : Asked) (r : ReceiverView) (out back : List Dated) (d : Direction f n a u r out back) (c : ℕ) (cumulative : IsCumulative r c)
    (m : ResetMeaning) (ask : IsAskedBy a.initial a m) where
  abbrev here : Way
  here = way_of f n a u r d.bags

  good : Good here
  good = good_usual here d.usual

  wire : m.number ≡ tsn r.initial ask.number
  wire = ask.wire ∙ ap (λ (i : ℕ). tsn i ask.number) (sym d.initial)

  small : ask.number ≤ 2 ^ 31
  small = let h = ask.made in let k = d.step.few in omega (arith, h, k)

  taken_small : suc r.resets.taken ≤ 2 ^ 31
  taken_small = let h = d.step.taken in let k = d.step.few in omega (arith, h, k)

  number_small : m.number < 2 ^ 32
  number_small = let h = wire in omega (arith, h)

  -- by its wire value, which one it is
  next_is : is_next r m.number ≡ true → ask.number ≡ suc r.resets.taken
  next_is on = one_number r.initial ask.number (suc r.resets.taken) small taken_small (sym wire ∙ of_number m.number (tsn r.initial (suc r.resets.taken)) on)

  again_is : is_again r m.number ≡ true → ask.number ≡ r.resets.taken
  again_is on = one_number r.initial ask.number r.resets.taken small (let h = taken_small in omega (arith, h)) (sym wire ∙ of_number m.number (tsn r.initial r.resets.taken) on)

  is_the_next : ask.number ≡ suc r.resets.taken → is_next r m.number ≡ true
  is_the_next e = let h : m.number ≡ tsn r.initial (suc r.resets.taken) = wire ∙ ap (tsn r.initial) e in grind (arith, nat_tests, h)

  is_the_last : ask.number ≡ r.resets.taken → is_again r m.number ≡ true
  is_the_last e = let h : m.number ≡ tsn r.initial r.resets.taken = wire ∙ ap (tsn r.initial) e in grind (arith, nat_tests, h)

  -- one in its turn is the request that waits
  pub record IsTurn : Type 0 where
    pub request : Request
    pub waits : a.resets.pending ≡ Some request
    pub first : request.first ≤ ask.number

  pub turn : is_in_turn r m.number ≡ true → IsTurn
  turn on = elim (or_cases (is_next r m.number) (is_again r m.number && is_in_progress r.resets.result) on) [
    | inl next ↦ by_next (next_is next) a.resets.pending refl
    | inr again ↦
        let parts = and_parts (is_again r m.number) (is_in_progress r.resets.result) again in
        by_again (again_is parts.0) (progress r.resets.result parts.1) a.resets.pending refl
  ]
    where
      progress : (x : ResetResult) → is_in_progress x ≡ true → x ≡ InProgress
      progress Performed h = absurd (cc)
      progress Denied h = absurd (cc)
      progress WrongStream h = absurd (cc)
      progress BadNumber h = absurd (cc)
      progress InProgress h = refl

      by_next : ask.number ≡ suc r.resets.taken → (o : Option Request) → a.resets.pending ≡ o → IsTurn
      by_next e None is = let h = d.step.answered is in let k = ask.made in absurd (omega (arith, e, h, k))
      by_next e (Some q) is = record {
        request = q;
        waits = is;
        first = let h = d.step.next in let k = (d.step.waiting q is).made in omega (arith, e, h, k);
      }

      by_again : ask.number ≡ r.resets.taken → r.resets.result ≡ InProgress → (o : Option Request) → a.resets.pending ≡ o → IsTurn
      by_again e is_progress None is = absurd (d.step.finished is is_progress)
      by_again e is_progress (Some q) is = record {
        request = q;
        waits = is;
        first = elim (cases_lt r.resets.taken q.first) [
          | inl less ↦ absurd (d.step.fresh q is less is_progress)
          | inr least ↦ omega (arith, e, least)
        ];
      }

  -- what is noted then: it is the last one taken
  module _ (on : is_in_turn r m.number ≡ true) where
    abbrev pub t : IsTurn
    t = turn on

    abbrev pub q : Request
    q = t.request

    asked : (m.last ≡ tsn a.initial q.last) × (m.streams ≡ q.streams)
    asked = ask.same q t.waits t.first

    open_there : IsOpen a q
    open_there = d.step.waiting q t.waits

    -- of another stream both count from the same
    unlisted_same : (l : Lane) → is_numbered f l.kind ≡ true → lists q.streams l.stream ≡ false → a.resets.base l ≡ r.resets.base l
    unlisted_same l numbered off = elim d.step.bases [
      | inl both ↦ both.0 l numbered
      | inr x ↦
          let same : x.request ≡ q = let w = x.waits in let v = t.waits in cc (w, v) in
          let plain : rebased a q l ≡ a.resets.base l = rw off refl in
          sym (x.bases l numbered ∙ ap (λ (y : Request). rebased a y l) same ∙ plain)
    ]

    now_taken : (if is_next r m.number then suc r.resets.taken else r.resets.taken) ≡ ask.number
    now_taken = go (is_next r m.number) refl
      where
        go : (b : Bool) → is_next r m.number ≡ b → (if b then suc r.resets.taken else r.resets.taken) ≡ ask.number
        go true next = sym (next_is next)
        go false off =
            let again : is_again r m.number ≡ true = elim (or_cases (is_next r m.number) (is_again r m.number && is_in_progress r.resets.result) on) [
              | inl next ↦ absurd (let z = next in cc)
              | inr both ↦ (and_parts (is_again r m.number) (is_in_progress r.resets.result) both).0
            ] in
            sym (again_is again)

    no_fewer : r.resets.taken ≤ ask.number
    no_fewer = go (is_next r m.number) now_taken
      where
        go : (b : Bool) → (if b then suc r.resets.taken else r.resets.taken) ≡ ask.number → r.resets.taken ≤ ask.number
        go true e = omega (arith, e)
        go false e = omega (arith, e)

    -- ---- what is done is reported once

    same_list : (xs : List ℕ) → are_listed xs xs ≡ true
    same_list [] = refl
    same_list (x ∷ xs) =
        let number : (x == x) ≡ true = grind (arith, nat_tests) in
        let others = same_list xs in
        rw (number, others) refl

    -- what is noted of it
    abbrev as_said : Bool → Waited
    as_said b = record { last = m.last; streams = m.streams; done = b }

    says : as_said true ≡ noted_done r.initial q
    says =
        ap (λ (i : ℕ). record (as_said true) { last = i }) (asked.0 ∙ ap (λ (i : ℕ). tsn i q.last) (sym d.initial))
        ∙ ap (λ (xs : List ℕ). record (noted_done r.initial q) { streams = xs }) asked.1

    its : (x : Request) → a.resets.pending ≡ Some x → x ≡ q
    its x w = let v = t.waits in cc (w, v)

    matches : is_done_again (Some (as_said true)) m ≡ true
    matches =
        let number : (m.last == m.last) ≡ true = grind (arith, nat_tests) in
        let others = same_list m.streams in
        rw (number, others) refl

    -- The request that waits was done: so it was performed before, and nothing more is to be reported of it.
    pub once : (x : Request) → a.resets.pending ≡ Some x → IsNotedDone a r x → was_performed r m ≡ true
    once x w noted = elim noted [
      | inl done ↦
          ap (λ (o : Option Waited). is_done_again o m) (done ∙ ap (λ (y : Request). Some (noted_done r.initial y)) (its x w) ∙ sym (ap (λ (v : Waited). Some v) says)) ∙ matches
      | inr never ↦ absurd (elim (or_cases (is_next r m.number) (is_again r m.number && is_in_progress r.resets.result) on) [
        | inl next ↦ let h = next_is next in let l = ask.made in let e = never.2 in omega (arith, h, l, e)
        | inr again ↦
            let h = (and_parts (is_again r m.number) (is_in_progress r.resets.result) again).1 in
            let z : is_in_progress Performed ≡ true = subst (λ (y : ResetResult). is_in_progress y ≡ true) never.1 h in
            cc
      ])
    ]

    -- it is noted so if it is in progress again,
    noted_again : (x : Request) → a.resets.pending ≡ Some x → IsNotedDone a r x → (y : ResetResult) → y ≡ InProgress → (xs : List Typed) → IsNotedDone a (with_answers (with_answer r m y) xs) x
    noted_again x w noted y is xs = inl (
        ap (waited_on r m) is ∙ ap (λ (b : Bool). Some (as_said b)) (once x w noted) ∙ ap (λ (v : Waited). Some v) says ∙ ap (λ (z : Request). Some (noted_done r.initial z)) (sym (its x w))
        )

    -- the next number is not of one that keeps its number
    not_kept : is_next r m.number ≡ true → takes_next q.numbering ≡ false
    not_kept next = by q.numbering refl
      where
        by : (x : Numbering) → q.numbering ≡ x → takes_next x ≡ false
        by FirstNumber is = refl
        by LaterNumber is = refl
        by NextNumber is = let k = (d.step.kept q t.waits is).0 in let h = next_is next in let l = ask.made in absurd (omega (arith, k, h, l))

    -- and where it is performed
    noted_now : (xs : List Typed) → IsNotedDone a (with_answers (with_answer (renumbered r (names r m.streams) (names_anew r m)) m Performed) xs) q
    noted_now xs = go (is_next r m.number) refl
      where
        go : (b : Bool) → is_next r m.number ≡ b → IsNotedDone a (with_answers (with_answer (renumbered r (names r m.streams) (names_anew r m)) m Performed) xs) q
        go true next = inr (
          ap (λ (c : Bool). if c then no_waited else Some (as_said true)) next,
          refl,
          (let e : (if is_next r m.number then suc r.resets.taken else r.resets.taken) ≡ suc r.resets.taken = ap (λ (c : Bool). if c then suc r.resets.taken else r.resets.taken) next in
              let h = next_is next in let l = ask.made in let k = d.step.next in omega (arith, e, h, l, k)),
          not_kept next,
        )
        go false again = inl (ap (λ (c : Bool). if c then no_waited else Some (as_said true)) again ∙ ap (λ (w : Waited). Some w) says)

    -- What is known of one that is in progress, or was, is what it says;
    waited_says : (x : ResetResult) (w : Waited) → waited_on r m x ≡ Some w → SaysSame r.initial w q
    waited_says x w is = by (is_in_progress x) (is_next r m.number) is
      where
        said : (b : Bool) → Some (as_said b) ≡ Some w → SaysSame r.initial w q
        said b e =
            let one : as_said b ≡ w = cc e in
            (sym (ap (λ (v : Waited). v.last) one) ∙ ap (λ (v : Waited). v.last) says, sym (ap (λ (v : Waited). v.streams) one) ∙ ap (λ (v : Waited). v.streams) says)

        by : (b c : Bool) → (if b then Some (as_said (was_performed r m)) else if c then no_waited else Some (as_said (is_done x))) ≡ Some w → SaysSame r.initial w q
        by true c e = said (was_performed r m) e
        by false false e = said (is_done x) e
        by false true e = absurd (cc)

    -- so it is of the last one made.
    waited_last : (s : Incoming) (x : ResetResult) → s.taken ≡ (if is_next r m.number then suc r.resets.taken else r.resets.taken) → s.waited ≡ waited_on r m x → (w : Waited) → s.waited ≡ Some w →
        IsOfLast a (record r { resets = s }) w
    waited_last s x taken waited w is = record {
      request = record q { numbering = FirstNumber };
      last = d.step.said q t.waits;
      taken = λ le. waited_says x w (sym waited ∙ is);
      new = λ lt. let k = t.first in let e = now_taken in absurd (omega (arith, lt, k, e, taken));
    }

    listed_is : (xs ys : List ℕ) → are_listed xs ys ≡ true → xs ≡ ys
    listed_is [] [] on_both = refl
    listed_is (x ∷ xs) (y ∷ ys) on_both =
        let both = and_parts (x == y) (are_listed xs ys) on_both in
        ap (λ (z : ℕ). z ∷ xs) (eqb-true x y both.0) ∙ ap (λ (zs : List ℕ). y ∷ zs) (listed_is xs ys both.1)
    listed_is (x ∷ xs) [] on_both = absurd (cc)
    listed_is [] (y ∷ ys) on_both = absurd (cc)

    -- The request was performed before: so that is noted.
    was_noted : was_performed r m ≡ true → IsNotedDone a r q
    was_noted again = by r.resets.waited refl again
      where
        is_said : (w : Waited) → w.done ≡ true → w.last ≡ m.last → w.streams ≡ m.streams → w ≡ as_said true
        is_said w done last streams =
            ap (λ (b : Bool). record w { done = b }) done ∙ ap (λ (i : ℕ). record w { done = true; last = i }) last
            ∙ ap (λ (xs : List ℕ). record { last = m.last; streams = xs; done = true }) streams

        by : (o : Option Waited) → r.resets.waited ≡ o → is_done_again o m ≡ true → IsNotedDone a r q
        by None is h = absurd (cc)
        by (Some w) is h =
            let first = and_parts w.done ((w.last == m.last) && are_listed w.streams m.streams) h in
            let second = and_parts (w.last == m.last) (are_listed w.streams m.streams) first.1 in
            inl (is ∙ ap (λ (v : Waited). Some v) (is_said w first.0 (eqb-true w.last m.last second.0) (listed_is w.streams m.streams second.1) ∙ says))

    -- the last one again is noted
    was_waiting : (x : ResetResult) (s : Incoming) → is_next r m.number ≡ false → s.waited ≡ waited_on r m x → WasWaiting (record r { resets = s })
    was_waiting x s off waited = by_waited (is_in_progress x) (is_next r m.number) off waited
      where
        by_waited : (b c : Bool) → c ≡ false → s.waited ≡ (if b then Some (as_said (was_performed r m)) else if c then no_waited else Some (as_said (is_done x))) → WasWaiting (record r { resets = s })
        by_waited true c e is = (as_said (was_performed r m), is)
        by_waited false false e is = (as_said (is_done x), is)
        by_waited false true e is = absurd (cc)

    -- what was answered before stays, as the last of it was in progress
    answered_before : (x : ResetResult) (s : Incoming) → s.taken ≡ (if is_next r m.number then suc r.resets.taken else r.resets.taken) → s.result ≡ x → s.waited ≡ waited_on r m x →
        Answeredly r.initial r (record r { resets = s })
    answered_before x s taken result waited y h = go (is_next r m.number) refl
      where
        go : (b : Bool) → is_next r m.number ≡ b → IsAnsweredBy r.initial (record r { resets = s }) y
        go true next = record {
          number = h.number;
          taken = let k = h.taken in let e = now_taken in let l = next_is next in omega (arith, k, e, l, taken);
          wire = h.wire;
          code = λ same. let k = h.taken in let e = now_taken in let l = next_is next in absurd (omega (arith, k, e, l, same, taken));
        }
        go false off = record {
          number = h.number;
          taken = let k = h.taken in let e : s.taken ≡ r.resets.taken = by_off in omega (arith, k, e);
          wire = h.wire;
          code = λ same. inl (
            elim (h.code (same ∙ by_off)) [
              | inl on ↦ on.0
              | inr is ↦ subst (λ (k : ℕ). is_progress_code k ≡ true) (sym (is ∙ ap result_code was_progress)) refl
            ],
            was_waiting x s off waited,
          );
        }
          where
            by_off : s.taken ≡ r.resets.taken
            by_off = taken ∙ (rw off refl)

            was_progress : r.resets.result ≡ InProgress
            was_progress = elim (or_cases (is_next r m.number) (is_again r m.number && is_in_progress r.resets.result) on) [
              | inl next ↦ absurd (let z = next in cc)
              | inr both ↦ progress r.resets.result (and_parts (is_again r m.number) (is_in_progress r.resets.result) both).1
            ]
              where
                progress : (z : ResetResult) → is_in_progress z ≡ true → z ≡ InProgress
                progress Performed k = absurd (cc)
                progress Denied k = absurd (cc)
                progress WrongStream k = absurd (cc)
                progress BadNumber k = absurd (cc)
                progress InProgress k = refl

    -- ---- it is done

    module _ (done : reset_answer r c m ≡ Performed) where
      -- its streams are there
      streams_there : list_any (nat_le r.streams) q.streams ≡ false
      streams_there =
          let first = row_fails (list_any (nat_le r.streams) m.streams) WrongStream _ Performed done (λ e. cc) in
          subst (λ (xs : List ℕ). list_any (nat_le r.streams) xs ≡ false) asked.1 first.0

      behind : is_behind r c m.last ≡ true
      behind =
          let first = row_fails (list_any (nat_le r.streams) m.streams) WrongStream _ Performed done (λ e. cc) in
          let second = row_fails (not (is_behind r c m.last)) InProgress Performed Performed first.1 (λ e. cc) in
          turned (is_behind r c m.last) second.0
        where
          turned : (b : Bool) → not b ≡ false → b ≡ true
          turned true e = refl
          turned false e = absurd (cc)

      last_reached : q.last ≤ c
      last_reached =
          behind_is r c q.last
          (let w = (counted_in f a d.reached).window in let l = open_there.within in let k = cum_within here good c cumulative in omega (arith, w, l, k))
          (subst (λ (y : ℕ). is_behind r c y ≡ true) (asked.0 ∙ ap (λ (i : ℕ). tsn i q.last) (sym d.initial)) behind)

      all_reached : AreReached r q.last
      all_reached j some le = cumulative.reached j some (let k = last_reached in omega (arith, le, k))

      pub named : (s : ℕ) → names r m.streams s ≡ lists q.streams s
      named s = ap (λ (xs : List ℕ). names r xs s) asked.1 ∙ by q.streams open_there.some
        where
          by : (xs : List ℕ) → 0 < length xs → names r xs s ≡ lists xs s
          by [] some = absurd (omega (arith, some))
          by (x ∷ xs) some = refl

      lane_of_entry : (l : Lane) (k : ℕ) (e : Entry) → IsOf l k e → (entry_lane e).stream ≡ l.stream
      lane_of_entry l k (Part x y j) o = ap (λ (z : Lane). z.stream) o.0
      lane_of_entry l k (End x y) o = ap (λ (z : Lane). z.stream) o.0

      counted : (l : Lane) → lists q.streams l.stream ≡ true → is_numbered f l.kind ≡ true → count_on r l.stream l.kind ≡ length (a.plan.messages l)
      counted l listed numbered = all_counted here good d.idle l.stream (open_there.still l.stream listed).closed
          (λ i e k o at own on. all_reached i (item_at-above a.plan.entries i e at) (open_there.below l.stream listed i e at (lane_of_entry k o e own ∙ on)).1) l.kind numbered

      new_base : (l : Lane) → is_numbered f l.kind ≡ true → (renumbered r (names r m.streams) (names_anew r m)).resets.base l ≡ rebased a q l
      new_base l numbered = ap (λ (b : Bool). if b then count_on r l.stream l.kind else r.resets.base l) (named l.stream) ∙ by (lists q.streams l.stream) refl
        where
          by : (b : Bool) → lists q.streams l.stream ≡ b → (if b then count_on r l.stream l.kind else r.resets.base l) ≡ (if b then length (a.plan.messages l) else a.resets.base l)
          by true on_list = counted l on_list numbered
          by false off = sym (unlisted_same l numbered off)

      -- a chunk of a renumbered lane lies before the request
      read_anew : (x : Incoming) → ((l : Lane) → x.base l ≡ (renumbered r (names r m.streams) (names_anew r m)).resets.base l) → Readably f a a r (record r { resets = x })
      read_anew x bases base i l k h = record {
        based = record { low = h.based.low; same = λ numbered. by (lists q.streams l.stream) refl numbered };
        before = h.before;
        within = h.within;
      }
        where
          by : (b : Bool) → lists q.streams l.stream ≡ b → is_numbered f l.kind ≡ true → AreReached r i ⊎ (base l ≡ x.base l)
          by true listed numbered = inl (λ j some le. all_reached j some (let w = h.before q t.waits listed in omega (arith, le, w)))
          by false off numbered = elim (h.based.same numbered) [
            | inl reached ↦ inl reached
            | inr same ↦ inr (same ∙ sym (bases l ∙ ap (λ (b : Bool). if b then count_on r l.stream l.kind else r.resets.base l) (named l.stream ∙ off)))
          ]

  -- ---- the answers that wait then

  answers_of : (s : Incoming) (z : Typed) (more : Bool) → Answeredly r.initial r (record r { resets = s }) → s.answers ≡ (if more then r.resets.answers ++ z ∷ [] else r.resets.answers) →
      IsAnsweredBy r.initial (record r { resets = s }) z → AreAnswers r.initial (record r { resets = s }) s.answers
  answers_of s z more up is one x has kind = go more (subst (λ (xs : List Typed). Has xs x) is has)
    where
      go : (b : Bool) → Has (if b then r.resets.answers ++ z ∷ [] else r.resets.answers) x → IsAnsweredBy r.initial (record r { resets = s }) x
      go false old = up x (d.step.answers x old kind)
      go true both = elim (Has-push r.resets.answers z x both) [
        | inl old ↦ up x (d.step.answers x old kind)
        | inr new ↦ subst (IsAnsweredBy r.initial (record r { resets = s })) new one
      ]

  typed_of : (z : Typed) (more : Bool) (xs : List Typed) → xs ≡ (if more then r.resets.answers ++ z ∷ [] else r.resets.answers) → IsTyped z × (z.kind ≡ RECONFIG_RESPONSE) →
      (x : Typed) → Has xs x → IsTyped x × (x.kind ≡ RECONFIG_RESPONSE)
  typed_of z more xs is one x has = go more (subst (λ (ys : List Typed). Has ys x) is has)
    where
      go : (b : Bool) → Has (if b then r.resets.answers ++ z ∷ [] else r.resets.answers) x → IsTyped x × (x.kind ≡ RECONFIG_RESPONSE)
      go false old = d.step.typed x old
      go true both = elim (Has-push r.resets.answers z x both) [ inl old ↦ d.step.typed x old | inr new ↦ subst (λ (y : Typed). IsTyped y × (y.kind ≡ RECONFIG_RESPONSE)) new one ]

  -- ---- what the request leaves

  abbrev answer : ResetResult
  answer = answer_in_turn r m.number (reset_answer r c m)

  abbrev z : Typed
  z = response_item m.number answer

  -- with these answers, `more` says whether the new one is among them
  pub after_request : (xs : List Typed) (more : Bool) → xs ≡ (if more then r.resets.answers ++ z ∷ [] else r.resets.answers) → Direction f n a u (with_answers (reset_taken r c m) xs) out back
  after_request xs more is = go (is_in_turn r m.number) refl (reset_answer r c m) refl
    where
      view : (b : Bool) (x : ResetResult) → ReceiverView
      view b x = with_answers (if b then with_answer (renumbered_by r (names r m.streams) (names_anew r m) x) m x else r) xs

      go : (b : Bool) → is_in_turn r m.number ≡ b → (x : ResetResult) → reset_answer r c m ≡ x → Direction f n a u (view b x) out back
      go false off x answers = out_of_turn
        where
          out_of_turn : Direction f n a u (with_answers r xs) out back
          out_of_turn = receiver_reset f n a u r out back d (with_answers r xs).resets (record {
            few = d.step.few;
            taken = d.step.taken;
            next = d.step.next;
            answered = d.step.answered;
            finished = d.step.finished;
            counted = d.step.counted;
            fresh = d.step.fresh;
            kept = d.step.kept;
            waiting = d.step.waiting;
            bases = elim d.step.bases [
              | inl both ↦ inl (both.0, both.1)
              | inr k ↦ inr (record { request = k.request; waits = k.waits; taken = k.taken; done = k.done; streams = k.streams; reached = k.reached; bases = k.bases; noted = k.noted })
            ];
            last = d.step.last;
            said = d.step.said;
            waited = λ w is_kept. last_received a r (with_answers r xs) w refl refl (d.step.waited w is_kept);
            old = d.step.old;
            answers = answers_of (with_answers r xs).resets z more same_answers is one;
            typed = typed_of z more xs is (item_typed m.number answer, refl);
          }) (λ base i l k h. record { based = record { low = h.based.low; same = h.based.same }; before = h.before; within = h.within }) same_answers
            where
              same_answers : Answeredly r.initial r (with_answers r xs)
              same_answers y h = record { number = h.number; taken = h.taken; wire = h.wire; code = h.code }

              parts : (is_next r m.number ≡ false) × ((is_again r m.number && is_in_progress r.resets.result) ≡ false)
              parts = or_parts (is_next r m.number) (is_again r m.number && is_in_progress r.resets.result) off

              not_next : ask.number ≡ suc r.resets.taken → ⊥
              not_next e = let h = is_the_next e in let k = parts.0 in absurd (cc)

              one : IsAnsweredBy r.initial (with_answers r xs) z
              one = record {
                number = ask.number;
                taken = elim (cases_lt r.resets.taken ask.number) [
                  | inl above ↦ absurd (not_next (let h = ask.made in let k = d.step.next in omega (arith, above, h, k)))
                  | inr low ↦ low
                ];
                wire = item_number m.number answer number_small ∙ wire;
                code = λ last. inr (item_code m.number answer ∙ ap result_code (let h = is_the_last last in rw (off, h) refl));
              }
      go true on x answers = by x answers
        where
          given : answer ≡ reset_answer r c m
          given = rw on refl

          one_in : (s : Incoming) → s.taken ≡ (if is_next r m.number then suc r.resets.taken else r.resets.taken) → s.result ≡ reset_answer r c m → IsAnsweredBy r.initial (record r { resets = s }) z
          one_in s taken result = record {
            number = ask.number;
            taken = let k = now_taken on in omega (arith, k, taken);
            wire = item_number m.number answer number_small ∙ wire;
            code = λ last. inr (item_code m.number answer ∙ ap result_code (given ∙ sym result));
          }

          -- no request is answered so in its turn
          never_bad : (y : ResetResult) → reset_answer r c m ≡ y → y ≡ BadNumber → ⊥
          never_bad y e bad = never (list_any (nat_le r.streams) m.streams) (not (is_behind r c m.last)) BadNumber (e ∙ bad) (λ k. cc) (λ k. cc) (λ k. cc)

          -- one that keeps its number is the last one again
          kept_on : (s : Incoming) → s.taken ≡ (if is_next r m.number then suc r.resets.taken else r.resets.taken) → s.waited ≡ waited_on r m (reset_answer r c m) → (x : Request) →
              a.resets.pending ≡ Some x → x.numbering ≡ NextNumber → IsKept a (record r { resets = s })
          kept_on s taken waited x some later = by_next (is_next r m.number) refl
            where
              k : IsKept a r
              k = d.step.kept x some later

              by_next : (b : Bool) → is_next r m.number ≡ b → IsKept a (record r { resets = s })
              by_next true next = let h = next_is next in let l = ask.made in let e = k.0 in absurd (omega (arith, h, l, e))
              by_next false off = (taken ∙ (rw off refl) ∙ k.0, inl (was_waiting on (reset_answer r c m) s off waited))

          -- in its turn, and done or not
          in_turn : (s : Incoming) → s.taken ≡ (if is_next r m.number then suc r.resets.taken else r.resets.taken) → s.result ≡ reset_answer r c m → s.waited ≡ waited_on r m (reset_answer r c m) → s.answers ≡ xs →
              (AreEven f a (record r { resets = s }) × (s.result ≡ Performed → ⊥)) ⊎ IsAhead f a (record r { resets = s }) → Readably f a a r (record r { resets = s }) → Direction f n a u (record r { resets = s }) out back
          in_turn s taken result waited same bases reads = receiver_reset f n a u r out back d s (record {
            few = d.step.few;
            taken = let h = now_taken on in let k = ask.made in omega (arith, h, taken, k);
            next = let h = now_taken on in let k = no_fewer on in let l = d.step.next in omega (arith, h, taken, k, l);
            answered = λ none. absurd (let h = (turn on).waits in cc);
            finished = λ none. absurd (let h = (turn on).waits in cc);
            fresh = λ x some low. let h = now_taken on in let w = (turn on).waits in let same : x ≡ q on = cc (some, w) in let k : x.first ≤ ask.number = subst (λ (y : Request). y.first ≤ ask.number) (sym same) (turn on).first in absurd (omega (arith, h, taken, low, k));
            counted = λ bad. absurd (never_bad (reset_answer r c m) refl (sym result ∙ bad));
            kept = λ x some later. kept_on s taken waited x some later;
            waiting = d.step.waiting;
            bases = elim bases [ inl both ↦ inl (both.0, λ k some last done. both.1 done) | inr k ↦ inr k ];
            last = d.step.last;
            said = d.step.said;
            waited = waited_last on s (reset_answer r c m) taken waited;
            old = d.step.old;
            answers = answers_of s z more (answered_before on (reset_answer r c m) s taken result waited) (same ∙ is) (one_in s taken result);
            typed = typed_of z more s.answers (same ∙ is) (item_typed m.number answer, refl);
          }) reads (answered_before on (reset_answer r c m) s taken result waited)

          -- one that isn't done leaves the numbers; what is done stays so
          undone : (y : ResetResult) → reset_answer r c m ≡ y → (y ≡ Performed → ⊥) → (IsAhead f a r → y ≡ InProgress) → Direction f n a u (with_answers (with_answer r m y) xs) out back
          undone y is_y other ahead = in_turn (with_answers (with_answer r m y) xs).resets refl (sym is_y) (ap (waited_on r m) (sym is_y)) refl
              (elim d.step.bases [
                | inl both ↦ inl ((λ l numbered. both.0 l numbered), other)
                | inr k ↦ inr (record {
                  request = k.request;
                  waits = k.waits;
                  taken = let e = now_taken on in let l = no_fewer on in let z = k.taken in omega (arith, e, l, z);
                  done = inr (ahead k);
                  streams = k.streams;
                  reached = k.reached;
                  bases = k.bases;
                  noted = noted_again on k.request k.waits k.noted y (ahead k) xs;
                })
              ])
              (λ base i l k h. record { based = record { low = h.based.low; same = h.based.same }; before = h.before; within = h.within })

          -- a request that was done names no stream that isn't there
          never_wrong : reset_answer r c m ≡ WrongStream → IsAhead f a r → ⊥
          never_wrong e k =
              let same : k.request ≡ q on = let w = k.waits in let v = (turn on).waits in cc (w, v) in
              let none : list_any (nat_le r.streams) m.streams ≡ false = ap (list_any (nat_le r.streams)) ((asked on).1 ∙ ap (λ (y : Request). y.streams) (sym same)) ∙ k.streams in
              by_behind (is_behind r c m.last) refl none
            where
              by_behind : (b : Bool) → is_behind r c m.last ≡ b → list_any (nat_le r.streams) m.streams ≡ false → ⊥
              by_behind true behind none = let h : Performed ≡ WrongStream = sym (rw (none, behind) refl) ∙ e in absurd (cc)
              by_behind false behind none = let h : InProgress ≡ WrongStream = sym (rw (none, behind) refl) ∙ e in absurd (cc)

          by : (y : ResetResult) → reset_answer r c m ≡ y → Direction f n a u (view true y) out back
          by Denied e = absurd (never (list_any (nat_le r.streams) m.streams) (not (is_behind r c m.last)) Denied e (λ k. cc) (λ k. cc) (λ k. cc))
          by WrongStream e = undone WrongStream e (λ k. cc) (λ k. absurd (never_wrong e k))
          by BadNumber e = absurd (never (list_any (nat_le r.streams) m.streams) (not (is_behind r c m.last)) BadNumber e (λ k. cc) (λ k. cc) (λ k. cc))
          by InProgress e = undone InProgress e (λ k. cc) (λ k. refl)
          by Performed e = in_turn (view true Performed).resets refl (sym e) (ap (waited_on r m) (sym e)) refl
              (inr (record {
                request = q on;
                waits = (turn on).waits;
                taken = let h = (turn on).first in let k = now_taken on in omega (arith, h, k);
                done = inl refl;
                streams = streams_there on e;
                reached = all_reached on e;
                bases = new_base on e;
                noted = noted_now on xs;
              }))
              (read_anew on e (view true Performed).resets (λ l. refl))

  -- ---- what is noted of it

  -- A request in its turn that is performed for streams anew wasn't noted before,
  pub not_noted : is_in_turn r m.number ≡ true → (s : ℕ) → names_anew r m s ≡ true → IsNoted a r s → ⊥
  not_noted on s anew k =
      let new = (and_parts (names r m.streams s) (not (was_performed r m)) anew).1 in
      let z : false ≡ true = subst (λ (b : Bool). not b ≡ true) (once on k.request k.waits k.done) new in
      cc

  abbrev performed_view : List Typed → ReceiverView
  performed_view xs = with_answers (with_answer (renumbered r (names r m.streams) (names_anew r m)) m Performed) xs

  -- and is then.
  pub noted_performed : (on : is_in_turn r m.number ≡ true) → reset_answer r c m ≡ Performed → (xs : List Typed) (s : ℕ) → lists (turn on).request.streams s ≡ true →
      IsNoted a (with_answers (reset_taken r c m) xs) s
  noted_performed on done xs s listed = subst (λ (x : ReceiverView). IsNoted a x s) (sym is) (record {
    request = (turn on).request;
    waits = (turn on).waits;
    named = listed;
    there = streams_there on done;
    done = noted_now on xs;
  })
    where
      is : with_answers (reset_taken r c m) xs ≡ performed_view xs
      is =
          let e : reset_taken r c m ≡ with_answer (renumbered r (names r m.streams) (names_anew r m)) m Performed = rw (on, done) refl in
          ap (λ (v : ReceiverView). with_answers v xs) e

  -- What is noted stays so, whatever is answered.
  pub stays_noted : (xs : List Typed) (s : ℕ) → IsNoted a r s → IsNoted a (with_answers (reset_taken r c m) xs) s
  stays_noted xs s k = go (is_in_turn r m.number) refl (reset_answer r c m) refl
    where
      view : (b : Bool) (x : ResetResult) → ReceiverView
      view b x = with_answers (if b then with_answer (renumbered_by r (names r m.streams) (names_anew r m) x) m x else r) xs

      noted : (on : is_in_turn r m.number ≡ true) (t : ReceiverView) → t.streams ≡ r.streams → IsNotedDone a t k.request → IsNoted a t s
      noted on t streams done = record {
        request = k.request;
        waits = k.waits;
        named = k.named;
        there = ap (λ (n : ℕ). list_any (nat_le n) k.request.streams) streams ∙ k.there;
        done = done;
      }

      -- its streams exist
      never_wrong : (on : is_in_turn r m.number ≡ true) → reset_answer r c m ≡ WrongStream → ⊥
      never_wrong on e =
          let none : list_any (nat_le r.streams) m.streams ≡ false =
          ap (list_any (nat_le r.streams)) ((asked on).1 ∙ ap (λ (y : Request). y.streams) (sym (its on k.request k.waits))) ∙ k.there in
          by_behind (is_behind r c m.last) refl none
        where
          by_behind : (b : Bool) → is_behind r c m.last ≡ b → list_any (nat_le r.streams) m.streams ≡ false → ⊥
          by_behind true behind none = let h : Performed ≡ WrongStream = sym (rw (none, behind) refl) ∙ e in absurd (cc)
          by_behind false behind none = let h : InProgress ≡ WrongStream = sym (rw (none, behind) refl) ∙ e in absurd (cc)

      go : (b : Bool) → is_in_turn r m.number ≡ b → (x : ResetResult) → reset_answer r c m ≡ x → IsNoted a (view b x) s
      go false off x e = noted_received a r (with_answers r xs) s refl refl refl refl refl k
      go true on Performed e = noted on (view true Performed) refl
          (subst (IsNotedDone a (view true Performed)) (sym (its on k.request k.waits)) (noted_now on xs))
      go true on InProgress e = noted on (view true InProgress) refl (noted_again on k.request k.waits k.done InProgress refl xs)
      go true on WrongStream e = absurd (never_wrong on e)
      go true on Denied e = absurd (never (list_any (nat_le r.streams) m.streams) (not (is_behind r c m.last)) Denied e (λ z. cc) (λ z. cc) (λ z. cc))
      go true on BadNumber e = absurd (never (list_any (nat_le r.streams) m.streams) (not (is_behind r c m.last)) BadNumber e (λ z. cc) (λ z. cc) (λ z. cc))

  -- What is noted anew is to be reported.
  pub noted_back : (xs : List Typed) (s : ℕ) → IsNoted a (with_answers (reset_taken r c m) xs) s → IsNoted a r s ⊎ (is_some ((with_answers (reset_taken r c m) xs).resets.told s) ≡ true)
  noted_back xs s = go (is_in_turn r m.number) refl (reset_answer r c m) refl
    where
      view : (b : Bool) (x : ResetResult) → ReceiverView
      view b x = with_answers (if b then with_answer (renumbered_by r (names r m.streams) (names_anew r m) x) m x else r) xs

      -- one that was performed before was noted
      before : (on : is_in_turn r m.number ≡ true) → was_performed r m ≡ true → (t : ReceiverView) → t.streams ≡ r.streams → IsNoted a t s → IsNoted a r s
      before on again t streams k = record {
        request = k.request;
        waits = k.waits;
        named = k.named;
        there = ap (λ (n : ℕ). list_any (nat_le n) k.request.streams) (sym streams) ∙ k.there;
        done = subst (IsNotedDone a r) (sym (its on k.request k.waits)) (was_noted on again);
      }

      -- what is known of it then, by its result
      known : (on : is_in_turn r m.number ≡ true) (x : ResetResult) (y : Request) → (is_done x ≡ false) → waited_on r m x ≡ Some (noted_done r.initial y) → was_performed r m ≡ true
      known on x y undone is = by (is_in_progress x) (is_next r m.number) is
        where
          done_is : (b : Bool) → Some (as_said on b) ≡ Some (noted_done r.initial y) → b ≡ true
          done_is b e = let same : as_said on b ≡ noted_done r.initial y = cc e in ap (λ (w : Waited). w.done) same

          by : (b k : Bool) → (if b then Some (as_said on (was_performed r m)) else if k then no_waited else Some (as_said on (is_done x))) ≡ Some (noted_done r.initial y) → was_performed r m ≡ true
          by true k e = done_is (was_performed r m) e
          by false true e = absurd (cc)
          by false false e = absurd (let on_it = done_is (is_done x) e in cc (on_it, undone))

      -- one that isn't performed now
      undone : (on : is_in_turn r m.number ≡ true) (x : ResetResult) → is_done x ≡ false → (x ≡ Performed → ⊥) → IsNoted a (with_answers (with_answer r m x) xs) s → IsNoted a r s
      undone on x off other k = before on (elim k.done [ inl done ↦ known on x k.request off done | inr never ↦ absurd (other never.1) ]) (with_answers (with_answer r m x) xs) refl k

      performed : (on : is_in_turn r m.number ≡ true) → reset_answer r c m ≡ Performed → (b : Bool) → was_performed r m ≡ b → IsNoted a (view true Performed) s →
          IsNoted a r s ⊎ (is_some ((view true Performed).resets.told s) ≡ true)
      performed on e true again k = inl (before on again (view true Performed) refl k)
      performed on e false off k =
          let listed : names r m.streams s ≡ true = named on e s ∙ subst (λ (x : Request). lists x.streams s ≡ true) (its on k.request k.waits) k.named in
          let anew : names_anew r m s ≡ true = rw (listed, off) refl in
          inr (rw anew refl)

      go : (b : Bool) → is_in_turn r m.number ≡ b → (x : ResetResult) → reset_answer r c m ≡ x → IsNoted a (view b x) s → IsNoted a r s ⊎ (is_some ((view b x).resets.told s) ≡ true)
      go false off x e k = inl (noted_received a (with_answers r xs) r s refl refl refl refl refl k)
      go true on Performed e k = performed on e (was_performed r m) refl k
      go true on InProgress e k = inl (undone on InProgress refl (λ z. cc) k)
      go true on WrongStream e k = inl (undone on WrongStream refl (λ z. cc) k)
      go true on Denied e k = inl (undone on Denied refl (λ z. cc) k)
      go true on BadNumber e k = inl (undone on BadNumber refl (λ z. cc) k)

-- ---- the user is notified

pub after_told : (f : Format) (n : ℕ) (a : SenderView) (u : Asked) (r : ReceiverView) (out back : List Dated) (d : Direction f n a u r out back) (s : ℕ) → Direction f n a u (told_of r s) out back
after_told f n a u r out back d s = receiver_reset f n a u r out back d (told_of r s).resets (record {
  few = d.step.few;
  taken = d.step.taken;
  next = d.step.next;
  answered = d.step.answered;
  finished = d.step.finished;
  counted = d.step.counted;
  fresh = d.step.fresh;
  kept = d.step.kept;
  waiting = d.step.waiting;
  bases = elim d.step.bases [
    | inl both ↦ inl (both.0, both.1)
    | inr x ↦ inr (record { request = x.request; waits = x.waits; taken = x.taken; done = x.done; streams = x.streams; reached = x.reached; bases = x.bases; noted = x.noted })
  ];
  last = d.step.last;
  said = d.step.said;
  waited = λ w is. last_received a r (told_of r s) w refl refl (d.step.waited w is);
  old = d.step.old;
  answers = λ x has kind. let h = d.step.answers x has kind in record { number = h.number; taken = h.taken; wire = h.wire; code = h.code };
  typed = d.step.typed;
}) (λ base i l j h. record { based = record { low = h.based.low; same = h.based.same }; before = h.before; within = h.within }) (λ y h. record { number = h.number; taken = h.taken; wire = h.wire; code = h.code })
