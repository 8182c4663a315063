-- A further reset of the peer's is kept until the channel is told closed.
use Rattle.std.proofs.Common.{◌≡◌, ◌⊎◌, ℕ, suc, ◌+◌, ◌-◌, ◌<◌, ◌≤◌, not, Bool, true, false, List, [], ◌∷◌, length, Option, Some, None, is_some, inl, inr, refl, sym, subst, ap, ◌∙◌, arith, if◌then◌else◌}
use Rattle.std.specs.Prelude.{max}
use Rattle.std.proofs.lemmas.Bool.{and_parts, cases_lt}
use Rattle.sctp_model.specs.receiver.ReceiverView.{Handed}
use Rattle.sctp_model.specs.end.EndView.{EndView, Ended, ended_of}
use Rattle.sctp_channels.specs.declared.stream.Resets.{Resets}
use Rattle.sctp_channels.specs.declared.stream.Resets.TheVariants.{One, Two}
use Rattle.sctp_channels.specs.declared.stream.Stream.{Stream}
use Rattle.sctp_channels.specs.Streams.{unused, is_reset, is_reset_again, is_drained, Table, stream_at, with_stream}
use Rattle.sctp_channels.specs.Told.{Closed, BufferedAmountLow}
use Rattle.sctp_channels.specs.Coming.{After, comes, leaving, one_taken, heard, peer_resets, left_over}
use Rattle.sctp_channels.specs.Calling.{outgoing}
use Rattle.sctp_channels.specs.Buffered.{with_low_told}
use Rattle.sctp_channels.specs.Events.{Reported, first_taken_at, reports_closed, reports_taken, reports_waiting, reports_after, reports_message, is_empty, is_readable, next_report, with_left_over, with_reset, one_on}
use Rattle.sctp_channels.specs.Promise.{HasPlace, HasNextPlace, SecondResetsAreKept}
use Rattle.sctp_channels.proofs.Promised.{Keeps, comes_keeps, comes_open, left_is, report_cases, one_report, low_is_open, beyond, at_same, at_other, same_or_not, within, again_noted}
use Rattle.sctp_channels.proofs.Marks.{again_is, left_some, own_taken, other_taken}

-- ---- it is noted

noted : (v : EndView) (x : Table) (s n count : ℕ) → HasPlace v x s n → n ≤ length (v.receiver.taken s) + count → HasNextPlace v (with_reset s count x) s (length (v.receiver.taken s) + count)
noted v x s n count p le =
    let y = stream_at x s in
    let is : stream_at (with_reset s count x) s ≡ record y { again = max y.left count; resets = Two } = at_same x s (peer_resets count y) (within v x s n p) ∙ again_noted y count (is_reset y.resets) p.is_reset in
    let sum = p.place in
    let again = ap (λ (z : Stream). z.again) is in
    let left = ap (λ (z : Stream). z.left) is in
    let most : max y.left count ≡ count = omega (arith, sum, le) in
    record {
      is_reset_again = ap (λ (z : Stream). is_reset_again z.resets) is;
      place = ap (λ (k : ℕ). length (v.receiver.taken s) + k) (again ∙ most);
      behind = omega (arith, again, left, most);
    }

-- ---- it stays

there_is : (v : EndView) (x : Table) (s n : ℕ) → HasNextPlace v x s n → s < length x.streams
there_is v x s n p = go (cases_lt s (length x.streams))
  where
    go : (s < length x.streams) ⊎ (length x.streams ≤ s) → s < length x.streams
    go (inl lt) = lt
    go (inr le) = absurd (let none = ap (λ (y : Stream). is_reset_again y.resets) (beyond x.streams s unused le) in let on = p.is_reset_again in cc)

module _ (v : EndView) (x : Table) (s n : ℕ) (p : HasNextPlace v x s n) where
  abbrev KeepsNext : Reported → Type 0
  KeepsNext r = (r.report ≡ Some (record { stream = s; told = Closed }) → ⊥) → HasNextPlace r.view r.table s n

  -- a stream that is like this one
  like : (view : EndView) (table : Table) (y : Stream) (k : ℕ) → stream_at table s ≡ y → length (view.receiver.taken s) ≡ k → is_reset_again y.resets ≡ true → k + y.again ≡ n → y.left ≤ y.again →
      HasNextPlace view table s n
  like view table y k is many again sum order = record {
    is_reset_again = ap (λ (z : Stream). is_reset_again z.resets) is ∙ again;
    place = ap (λ (z : Stream). length (view.receiver.taken s) + z.again) is ∙ ap (λ (i : ℕ). i + y.again) many ∙ sum;
    behind = subst (λ (z : Stream). z.left ≤ z.again) (sym is) order;
  }

  untouched : (view : EndView) (table : Table) → stream_at table s ≡ stream_at x s → length (view.receiver.taken s) ≡ length (v.receiver.taken s) → HasNextPlace view table s n
  untouched view table is many = like view table (stream_at x s) (length (v.receiver.taken s)) is many p.is_reset_again p.place p.behind

  elsewhere_closed : (i : ℕ) → KeepsNext (reports_closed i v x)
  elsewhere_closed i unclosed = go (same_or_not i s)
    where
      go : (i ≡ s) ⊎ (s ≡ i → ⊥) → HasNextPlace v (with_left_over x i) s n
      go (inl e) = absurd (unclosed (ap (λ (k : ℕ). Some (record { stream = k; told = Closed })) e))
      go (inr ne) = untouched v (with_left_over x i) (at_other x i s (left_over (stream_at x i)) ne) refl

  abbrev after : (i : ℕ) → Handed → After
  after i h = comes x.role (outgoing v x) i h (stream_at x i)

  here : is_readable v x s ≡ true → (h : Handed) (rest : List Handed) → KeepsNext (reports_after s h rest (after s h) v x)
  here on h rest = go (after s h).taken refl
    where
      keeps : Keeps (stream_at x s) (after s h).stream
      keeps = comes_keeps x.role (outgoing v x) s h (stream_at x s)

      off : is_drained (stream_at x s) ≡ false
      off = not_true (is_drained (stream_at x s)) (and_parts (not (is_empty (v.receiver.waiting s))) (not (is_drained (stream_at x s))) on).1
        where
          not_true : (b : Bool) → not b ≡ true → b ≡ false
          not_true true is = absurd (cc is)
          not_true false is = refl

      go : (b : Bool) → (after s h).taken ≡ b → KeepsNext (if b then reports_taken s h rest (after s h) v x else reports_waiting s (after s h) v x)
      go true taken unclosed =
          let y = (after s h).stream in
          let first = again_is (stream_at x s).resets p.is_reset_again in
          let reset : is_reset y.resets ≡ true = ap (λ (r : Resets). is_reset r) keeps.resets ∙ first in
          let z : Stream = record y { again = y.again - 1 } in
          let marked : heard (after s h) ≡ leaving (y.left - 1) z = rw (taken, reset) refl in
          let k = left_is (y.left - 1) z in
          let some = left_some (stream_at x s) first off in
          let l = keeps.left in let a = keeps.again in let sum = p.place in let order = p.behind in let kl = k.0 in let ka = k.2 in
          like (first_taken_at v s h rest) (record (with_stream x s (heard (after s h))) { next = one_on s }) (leaving (y.left - 1) z) (suc (length (v.receiver.taken s)))
          (at_same x s (heard (after s h)) (there_is v x s n p) ∙ marked) (own_taken v.receiver.taken s h)
          (ap (λ (r : Resets). is_reset_again r) k.1 ∙ ap (λ (r : Resets). is_reset_again r) keeps.resets ∙ p.is_reset_again)
          (omega (arith, ka, l, a, some, sum, order)) (omega (arith, kl, ka, l, a, some, order))
      go false waits unclosed =
          let y = (after s h).stream in
          let marked : heard (after s h) ≡ y = rw waits refl in
          let l = keeps.left in let a = keeps.again in let sum = p.place in let order = p.behind in
          like v (with_stream x s (heard (after s h))) y (length (v.receiver.taken s)) (at_same x s (heard (after s h)) (there_is v x s n p) ∙ marked) refl
          (ap (λ (r : Resets). is_reset_again r) keeps.resets ∙ p.is_reset_again) (omega (arith, a, sum)) (omega (arith, l, a, order))

  there : (i : ℕ) → (s ≡ i → ⊥) → (h : Handed) (rest : List Handed) → KeepsNext (reports_after i h rest (after i h) v x)
  there i ne h rest = go (after i h).taken
    where
      go : (b : Bool) → KeepsNext (if b then reports_taken i h rest (after i h) v x else reports_waiting i (after i h) v x)
      go true unclosed = untouched _ _ (at_other x i s (heard (after i h)) ne) (other_taken v.receiver.taken i s h ne)
      go false unclosed = untouched _ _ (at_other x i s (heard (after i h)) ne) refl

  stays : KeepsNext (next_report v x)
  stays = report_cases KeepsNext v x (λ i on. elsewhere_closed i) (λ i unclosed. untouched v (with_low_told i x) refl refl) (λ i on. by_stream i (same_or_not i s) on (v.receiver.waiting i)) (λ none. p) (λ i on. elsewhere_closed i)
    where
      by_stream : (i : ℕ) → (i ≡ s) ⊎ (s ≡ i → ⊥) → is_readable v x i ≡ true → (hs : List Handed) → KeepsNext (reports_message i hs v x)
      by_stream i which on [] = λ none. p
      by_stream i (inl e) on (h ∷ rest) =
          subst (λ (k : ℕ). KeepsNext (reports_message k (h ∷ rest) v x)) (sym e) (here (subst (λ (k : ℕ). is_readable v x k ≡ true) e on) h rest)
      by_stream i (inr ne) on (h ∷ rest) = there i ne h rest

  -- ---- it is the next channel's

  abbrev IsNext : Reported → Type 0
  IsNext r = r.report ≡ Some (record { stream = s; told = Closed }) → HasPlace r.view r.table s n

  own_next : HasPlace v (with_left_over x s) s n
  own_next =
      let y = stream_at x s in
      let z : Stream = record unused { resets = One } in
      let is : stream_at (with_left_over x s) s ≡ leaving y.again z = at_same x s (left_over y) (there_is v x s n p) ∙ ap (λ (b : Bool). if b then peer_resets y.again unused else unused) p.is_reset_again in
      let k = left_is y.again z in
      record {
        is_reset = ap (λ (q : Stream). is_reset q.resets) is ∙ ap (λ (r : Resets). is_reset r) k.1;
        place = ap (λ (q : Stream). length (v.receiver.taken s) + q.left) is ∙ ap (λ (i : ℕ). length (v.receiver.taken s) + i) k.0 ∙ p.place;
      }

  closed_next : (i : ℕ) → IsNext (reports_closed i v x)
  closed_next i is =
      let e : i ≡ s = (one_report i s Closed Closed is).0 in
      subst (λ (k : ℕ). HasPlace v (with_left_over x k) s n) (sym e) own_next

  by_taken : (i : ℕ) (h : Handed) (rest : List Handed) (a : After) → (a.told ≡ Closed → ⊥) → (b : Bool) → IsNext (if b then reports_taken i h rest a v x else reports_waiting i a v x)
  by_taken i h rest a unclosed true is = absurd (unclosed (one_report i s a.told Closed is).1)
  by_taken i h rest a unclosed false is = absurd (unclosed (one_report i s a.told Closed is).1)

  by_waiting : (i : ℕ) (hs : List Handed) → IsNext (reports_message i hs v x)
  by_waiting i [] is = absurd (cc)
  by_waiting i (h ∷ rest) is = by_taken i h rest (after i h) (comes_open x.role (outgoing v x) i h (stream_at x i)) (after i h).taken is

  becomes : IsNext (next_report v x)
  becomes =
      report_cases IsNext v x (λ i on. closed_next i) (λ i is. absurd (low_is_open (one_report i s BufferedAmountLow Closed is).1)) (λ i on. by_waiting i (v.receiver.waiting i)) (λ is. absurd (cc))
      (λ i on. closed_next i)

pub second_resets_are_kept : SecondResetsAreKept
second_resets_are_kept = record { noted = noted; kept = λ v x s n p unclosed. stays v x s n p unclosed; next = λ v x s n p is. becomes v x s n p is }
