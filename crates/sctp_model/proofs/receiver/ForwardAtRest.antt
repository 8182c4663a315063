-- A FORWARD, whatever it says, leaves a view at rest; and at rest nothing whole is among what it lets go.
use Rattle.std.proofs.Common.{◌≡◌, ℕ, suc, ◌<◌, ◌≤◌, ◌⊎◌, max, nat_le, Bool, true, false, List, [], ◌∷◌, filter, Option, Some, None, refl, ap, sym, ◌∙◌, subst, inl, inr, arith, leb-true}
use Rattle.std.specs.Prelude.{◌||◌, not, if◌then◌else◌}
use Rattle.std.proofs.lemmas.Bool.{cases_Bool, cases_lt, or_parts}
use Rattle.std.proofs.lemmas.Bool.Decides.{nat_tests}
use Rattle.sctp_model.specs.numbers.Lists.{Has, IsWithin}
use Rattle.sctp_model.specs.wire.Chunk.{SkipMeaning, ForwardMeaning}
use Rattle.sctp_model.specs.messages.Format.{Format, Plain, Interleaved, Kind, Ordered, Unordered, Lane, same_lane, ordered_lane, at_lane}
use Rattle.sctp_model.specs.messages.Framing.{is_skipped}
use Rattle.sctp_model.specs.messages.Pieces.{Piece, IsNumberBelow}
use Rattle.sctp_model.specs.messages.Forward.{Skip, skipped}
use Rattle.sctp_model.specs.receiver.ReceiverView.{ReceiverView}
use Rattle.sctp_model.specs.receiver.Receiving.{HasNoWholeWith, IsLeftBehind, LetsGo, GivesAll}
use Rattle.sctp_model.specs.receiver.Reading.{is_behind, is_ahead, is_late, lane_of, number_in}
use Rattle.sctp_model.specs.receiver.ForwardTaken.{ForwardAnswer, OutOfDate, Bad, Moved, forward_answer, names_other_stream, with_skip, skips_read, stays_by, jumped, let_go, forwarded, ForwardLeaves, ForwardTaken}
use Rattle.sctp_model.specs.receiver.Laws.{IsOrdinary, IsIdle, IsSettled, IsAtRest}
use Rattle.sctp_model.proofs.receiver.RowLemmas.{row_fails}
use Rattle.sctp_model.proofs.receiver.RowFacts.{lanes_same}
use Rattle.sctp_model.proofs.receiver.OneStep.{filter_has, fewer_apart}
use Rattle.sctp_model.proofs.receiver.Giving.{none_with_fewer, AreServed, all_served, still_waiting, still_clear}

-- ---- the streams that a FORWARD names

-- each entry that counts is of a stream below the bound if none names another one
pub skips_below : (f : Format) (r : ReceiverView) (n : ℕ) (xs : List SkipMeaning) → names_other_stream n xs ≡ false → (y : Skip) → Has (skips_read f r xs) y → y.lane.stream < n
skips_below f r n [] named y there = absurd there
skips_below f r n (x ∷ xs) named y there = by (number_in f r (lane_of x.stream x.unordered) x.number) there (skips_below f r n xs parts.1 y)
  where
    parts : (nat_le n x.stream ≡ false) × (names_other_stream n xs ≡ false)
    parts = or_parts (nat_le n x.stream) (names_other_stream n xs) named

    low : x.stream < n
    low = let p = parts.0 in grind (arith, p, nat_tests)

    or_late : (late : Bool) (m : ℕ) → Has (if late then skips_read f r xs else record { lane = lane_of x.stream x.unordered; number = m } ∷ skips_read f r xs) y →
        (Has (skips_read f r xs) y → y.lane.stream < n) → y.lane.stream < n
    or_late true m later more = more later
    or_late false m (inl is) more = subst (λ (z : Skip). z.lane.stream < n) is low
    or_late false m (inr later) more = more later

    by : (o : Option ℕ) → Has (with_skip r (lane_of x.stream x.unordered) o (skips_read f r xs)) y → (Has (skips_read f r xs) y → y.lane.stream < n) → y.lane.stream < n
    by None later more = more later
    by (Some m) there more = or_late (is_late r (lane_of x.stream x.unordered) (Some m)) m there more

-- a lane that isn't listed
pub skipped_other : (ys : List Skip) (l : Lane) → ((y : Skip) → Has ys y → l ≡ y.lane → ⊥) → (skip : Lane → ℕ) → skipped skip ys l ≡ skip l
skipped_other [] l other skip = refl
skipped_other (y ∷ ys) l other skip = skipped_other ys l (λ z there. other z (inr there)) (at_lane skip y.lane (max (skip y.lane) (suc y.number))) ∙ apart (cases_Bool (same_lane l y.lane))
  where
    apart : (same_lane l y.lane ≡ true) ⊎ (same_lane l y.lane ≡ false) → at_lane skip y.lane (max (skip y.lane) (suc y.number)) l ≡ skip l
    apart (inr differ) = rw differ refl
    apart (inl same) = absurd (other y (inl refl) (lanes_same l y.lane same))

-- ---- what it leaves

module _ (f : Format) (r t : ReceiverView) (c : ℕ) (x : ForwardMeaning) (named : names_other_stream r.streams x.skips ≡ false) (gives : GivesAll f r.streams (forwarded f r c x) t) where
  given : AreServed f r.streams (forwarded f r c x) t
  given = all_served f r.streams (forwarded f r c x) t gives

  pub moved_fewer : IsWithin t.kept r.kept
  moved_fewer y there = filter_has (λ (z : Piece). stays_by z.lane.kind f (jumped f r c x) z) r.kept y (given.giving.fewer y there)

  -- on a stream that isn't there nothing is skipped
  skip_there : (s : ℕ) → r.streams ≤ s → t.skip (ordered_lane s) ≡ r.skip (ordered_lane s)
  skip_there s past =
      ap (λ (k : Lane → ℕ). k (ordered_lane s)) given.giving.skip
      ∙ skipped_other (skips_read f r x.skips) (ordered_lane s)
      (λ y there same. let low = skips_below f r r.streams x.skips named y there in let stream : s ≡ y.lane.stream = ap (λ (l : Lane). l.stream) same in omega (arith, low, stream, past)) r.skip

  pub moved_idle : IsIdle f r → IsIdle f t
  moved_idle idle = record {
    ordered = λ s. elim (cases_lt s r.streams) [
      | inl there ↦ given.waits s there
      | inr past ↦ still_waiting f r t s moved_fewer (given.others s past) (skip_there s past) (idle.ordered s)
    ];
    unordered = λ y kind. none_with_fewer f r.kept t.kept y moved_fewer (idle.unordered y kind);
  }

  moved_settled : IsSettled r → IsSettled t
  moved_settled settled s = elim (cases_lt s r.streams) [
    | inl there ↦ given.clear s there
    | inr past ↦ still_clear r t s moved_fewer (given.others s past) (settled s)
  ]

  moved_ordinary : IsOrdinary f r → IsOrdinary f t
  moved_ordinary o = record {
    apart = fewer_apart f r.kept t.kept moved_fewer o.apart;
    recorded = λ y there. subst (λ (k : ℕ → Bool). k y.index ≡ true) (sym given.giving.seen) (o.recorded y (moved_fewer y there));
  }

-- one that moves names no stream that isn't there
pub moves_there : (r : ReceiverView) (c : ℕ) (x : ForwardMeaning) → forward_answer r c x ≡ Moved → names_other_stream r.streams x.skips ≡ false
moves_there r c x is =
    let new = row_fails (is_behind r c x.cumulative) OutOfDate _ Moved is (λ e. cc) in
    let good = row_fails (is_ahead r c x.cumulative || names_other_stream r.streams x.skips) Bad Moved Moved new.1 (λ e. cc) in
    (or_parts (is_ahead r c x.cumulative) (names_other_stream r.streams x.skips) good.0).1

module _ (f : Format) (r t : ReceiverView) (c : ℕ) (x : ForwardMeaning) where
  forward_leaves : (P : ReceiverView → Type 0) → ((u : ReceiverView) → names_other_stream r.streams x.skips ≡ false → GivesAll f r.streams (forwarded f r c x) u → P r → P u) →
      (a : ForwardAnswer) → forward_answer r c x ≡ a → ForwardLeaves f r c x a t → P r → P t
  forward_leaves P moved OutOfDate answer is holds = subst P (sym is) holds
  forward_leaves P moved Bad answer is holds = subst P (sym is) holds
  forward_leaves P moved Moved answer gives holds = moved t (moves_there r c x answer) gives holds

pub forward_idle : (f : Format) (r : ReceiverView) (x : ForwardMeaning) (a : ForwardAnswer) (t : ReceiverView) → IsIdle f r → ForwardTaken f r x a t → IsIdle f t
forward_idle f r x a t idle taken = forward_leaves f r t taken.c x (IsIdle f) (λ u named gives. moved_idle f r u taken.c x named gives) a (sym taken.answer) taken.leaves idle

pub forward_ordinary : (f : Format) (r : ReceiverView) (x : ForwardMeaning) (a : ForwardAnswer) (t : ReceiverView) → IsOrdinary f r → ForwardTaken f r x a t → IsOrdinary f t
forward_ordinary f r x a t o taken = forward_leaves f r t taken.c x (IsOrdinary f) (λ u named gives. moved_ordinary f r u taken.c x named gives) a (sym taken.answer) taken.leaves o

pub forward_at_rest : (f : Format) (r : ReceiverView) (x : ForwardMeaning) (a : ForwardAnswer) (t : ReceiverView) → IsAtRest f r → ForwardTaken f r x a t → IsAtRest f t
forward_at_rest f r x a t rest taken = record {
  ordinary = forward_ordinary f r x a t rest.ordinary taken;
  idle = forward_idle f r x a t rest.idle taken;
  settled = forward_leaves f r t taken.c x IsSettled (λ u named gives. moved_settled f r u taken.c x named gives) a (sym taken.answer) taken.leaves rest.settled;
}

-- ---- what is let go

-- At rest no unordered message is whole, so letting go of all that is passed lets go of what can't become whole alone.
pub let_go_is : (f : Format) (r : ReceiverView) → ((y : Piece) → y.lane.kind ≡ Unordered → HasNoWholeWith f r.kept y) → LetsGo f r (let_go f r)
let_go_is f r rest = record {
  stays = λ (x : Piece). stays_by x.lane.kind f r x;
  kept = refl;
  gone = λ y h e. let b = goes f y y.lane.kind refl e in (b.1, rest y b.0);
  left = λ y h e l. absurd (stays f y y.lane.kind refl e l);
}
  where
    not_false : (b : Bool) → not b ≡ false → b ≡ true
    not_false true e = refl
    not_false false e = absurd (cc)

    below : (o : Option ℕ) (n : ℕ) → is_skipped o n ≡ true → IsNumberBelow n o
    below None n q = absurd (cc)
    below (Some m) n q = grind (arith, q, nat_tests)

    skipped_too : (o : Option ℕ) (n : ℕ) → IsNumberBelow n o → is_skipped o n ≡ true
    skipped_too None n q = absurd q
    skipped_too (Some m) n q = grind (arith, q, nat_tests)

    goes : (g : Format) (y : Piece) (k : Kind) → y.lane.kind ≡ k → stays_by k g r y ≡ false → (y.lane.kind ≡ Unordered) × IsLeftBehind g r y
    goes g y Ordered e h = absurd (cc)
    goes Plain y Unordered e h = (e, (e, leb-true y.index r.jump (not_false _ h)))
    goes Interleaved y Unordered e h = (e, (e, below y.number (r.skip y.lane) (not_false _ h)))

    stays : (g : Format) (y : Piece) (k : Kind) → y.lane.kind ≡ k → stays_by k g r y ≡ true → IsLeftBehind g r y → ⊥
    stays Plain y Ordered e h (kind, l) = absurd (cc)
    stays Plain y Unordered e h (kind, l) = grind (arith, l, h, nat_tests)
    stays Interleaved y Ordered e h (kind, l) = absurd (cc)
    stays Interleaved y Unordered e h (kind, l) = let t = skipped_too y.number (r.skip y.lane) l in absurd (let u : not (is_skipped y.number (r.skip y.lane)) ≡ true = h in cc)

-- Words and filter leave one view, and the words leave no other.
filter_same : (one other : Piece → Bool) (kept : List Piece) → ((y : Piece) → Has kept y → one y ≡ other y) → filter one kept ≡ filter other kept
filter_same one other [] same = refl
filter_same one other (x ∷ xs) same = go (cases_Bool (other x)) (filter_same one other xs (λ y there. same y (inr there)))
  where
    here : one x ≡ other x
    here = same x (inl refl)

    go : (other x ≡ true) ⊎ (other x ≡ false) → filter one xs ≡ filter other xs → filter one (x ∷ xs) ≡ filter other (x ∷ xs)
    go (inl e) more = let first : one x ≡ true = here ∙ e in rw (first, e) (ap (λ (ys : List Piece). x ∷ ys) more)
    go (inr e) more = let first : one x ≡ false = here ∙ e in rw (first, e) more

pub lets_go_only : (f : Format) (r t u : ReceiverView) → LetsGo f r t → LetsGo f r u → t ≡ u
lets_go_only f r t u one other =
    one.kept ∙ ap (λ (kept : List Piece). record r { kept = kept }) (filter_same one.stays other.stays r.kept both) ∙ sym other.kept
  where
    both : (y : Piece) → Has r.kept y → one.stays y ≡ other.stays y
    both y there = go (cases_Bool (one.stays y)) (cases_Bool (other.stays y))
      where
        go : (one.stays y ≡ true) ⊎ (one.stays y ≡ false) → (other.stays y ≡ true) ⊎ (other.stays y ≡ false) → one.stays y ≡ other.stays y
        go (inl a) (inl b) = a ∙ sym b
        go (inr a) (inr b) = a ∙ sym b
        go (inl a) (inr b) = let gone = other.gone y there b in let whole = one.left y there a gone.0 in absurd (gone.1 whole.0 whole.1)
        go (inr a) (inl b) = let gone = one.gone y there a in let whole = other.left y there b gone.0 in absurd (gone.1 whole.0 whole.1)
