-- Views at rest: the unordered chunks that stay are those that a FORWARD finds.
use Rattle.std.proofs.Common.{◌≡◌, ℕ, ◌≤◌, ◌⊎◌, Bool, true, false, List, [], ◌∷◌, Option, None, Some, inl, inr, refl, sym, ◌∙◌, ap, subst, arith}
use Rattle.std.specs.Prelude.{◌&&◌, slice_get, unwrap_or, not, nat_lt, filter}
use Rattle.std.proofs.lemmas.Bool.{cases_Bool, or_parts}
use Rattle.sctp_model.specs.numbers.Lists.{Has}
use Rattle.sctp_model.specs.messages.Format.{Format, Kind, Plain, Interleaved, Ordered, Unordered, Lane, unordered_lane, is_numbered}
use Rattle.sctp_model.specs.messages.Framing.{is_skipped, lets_go}
use Rattle.sctp_model.specs.wire.Chunk.{ForwardMeaning}
use Rattle.sctp_model.specs.messages.Pieces.{Piece}
use Rattle.sctp_model.specs.messages.Whole.{IsFirst}
use Rattle.sctp_model.specs.receiver.ReceiverView.{ReceiverView}
use Rattle.sctp_model.specs.receiver.Receiving.{TakesPiece, GivesAll}
use Rattle.sctp_model.specs.receiver.Reading.{lane_of, is_late, lowest_in}
use Rattle.sctp_model.specs.receiver.PieceTaken.{is_passed, is_repeated}
use Rattle.sctp_model.specs.receiver.ForwardTaken.{stays_by, jumped, forwarded}
use Rattle.sctp_model.specs.receiver.Laws.{IsIdle}
use Rattle.sctp_model.proofs.receiver.OneKept.{with_chunk}
use Rattle.sctp_model.proofs.receiver.AtRest.{takes_giving}
use Rattle.sctp_model.proofs.receiver.Giving.{IsGiving, AreServed, all_served}
use Rattle.sctp_model.proofs.receiver.OneStep.{filter_has}
use Rattle.sctp_model.specs.receiver.KeptOfLane.{of_lane}
use Rattle.sctp_model.proofs.receiver.OfLane.{of_has}
use Rattle.sctp_chains.specs.Cells.{IsLowestIndex}
use Rattle.sctp_recv.specs.Fields.{inside}
use Rattle.sctp_recv.specs.Filed.{Keeps, AreFiled}
use Rattle.sctp_recv.specs.declared.stream.Stream.{Stream}
use Rattle.sctp_recv.specs.Lows.{IsMarked}
use Rattle.sctp_recv.specs.declared.places.Lows.{Lows}
use Rattle.sctp_recv.specs.StandsFor.{IsFindable, AreFindable}

-- ---- the chunks that stay

both : (a b : Bool) → (a && b) ≡ true → (a ≡ true) × (b ≡ true)
both true true e = (refl, refl)
both true false e = absurd (cc)
both false b e = absurd (cc)

-- an unordered lane is a flag
pub unordered_is : (stream : ℕ) (unordered : Bool) → (lane_of stream unordered).kind ≡ Unordered → unordered ≡ true
unordered_is stream true e = refl
unordered_is stream false e = absurd (cc)

-- lower numbers find as much
found_more : (f : Format) (old new : Lows) (skip : ℕ) (x : Piece) → ((s i : ℕ) → IsMarked old s i → IsMarked new s i) → IsFindable f old skip x → IsFindable f new skip x
found_more Plain old new skip x more is = more x.lane.stream x.index is
found_more Interleaved old new skip x more is = is

pub findable_more : (f : Format) (v : ReceiverView) (old new : Lows) → new.count ≡ old.count → ((s i : ℕ) → IsMarked old s i → IsMarked new s i) → AreFindable f v old → AreFindable f v new
findable_more f v old new count more findable =
    (λ plain. let all = findable.0 plain in omega (arith, all, count), λ x has kind. found_more f old new (v.skip x.lane) x more (findable.1 x has kind))

passes : (test : Piece → Bool) (kept : List Piece) (y : Piece) → Has (filter test kept) y → test y ≡ true
passes test [] y there = absurd there
passes test (x ∷ kept) y there = elim (cases_Bool (test x)) [
  | inl so ↦ elim (subst (λ (ps : List Piece). Has ps y) (let kept_first : filter test (x ∷ kept) ≡ x ∷ filter test kept = rw so refl in kept_first) there) [
    | inl is ↦ subst (λ (z : Piece). test z ≡ true) is so
    | inr later ↦ passes test kept y later
  ]
  | inr other ↦ passes test kept y (subst (λ (ps : List Piece). Has ps y) (let gone : filter test (x ∷ kept) ≡ filter test kept = rw other refl in gone) there)
]

stayed : (f : Format) (r : ReceiverView) (y : Piece) (k : Kind) → k ≡ Unordered → stays_by k f r y ≡ true → lets_go f y.index y.number r.jump (r.skip y.lane) ≡ false
stayed f r y Ordered kind stays = absurd (cc)
stayed f r y Unordered kind stays = turned (lets_go f y.index y.number r.jump (r.skip y.lane)) stays
  where
    turned : (b : Bool) → not b ≡ true → b ≡ false
    turned true e = absurd (cc)
    turned false e = refl

-- what a FORWARD leaves
pub findable_forward : (f : Format) (v t : ReceiverView) (c n : ℕ) (x : ForwardMeaning) (lows : Lows) → GivesAll f n (forwarded f v c x) t → AreFindable f v lows → AreFindable f t lows
findable_forward f v t c n x lows gives findable = (λ plain. let all = findable.0 plain in let same = served.giving.streams in omega (arith, all, same), each)
  where
    served : AreServed f n (forwarded f v c x) t
    served = all_served f n (forwarded f v c x) t gives

    test : Piece → Bool
    test z = stays_by z.lane.kind f (jumped f v c x) z

    skip : (y : Piece) → t.skip y.lane ≡ (jumped f v c x).skip y.lane
    skip y = ap (λ (g : Lane → ℕ). g y.lane) served.giving.skip

    step : (g : Format) (y : Piece) → lets_go g y.index y.number (jumped f v c x).jump ((jumped f v c x).skip y.lane) ≡ false → IsFindable g lows (v.skip y.lane) y →
        IsFindable g lows ((jumped f v c x).skip y.lane) y
    step Plain y left is = is
    step Interleaved y left is = left

    each : (y : Piece) → Has t.kept y → y.lane.kind ≡ Unordered → IsFindable f lows (t.skip y.lane) y
    each y has kind =
        let there : Has (filter (λ (z : Piece). stays_by z.lane.kind f (jumped f v c x) z) v.kept) y = served.giving.fewer y has in
        let out = stayed f (jumped f v c x) y y.lane.kind kind (passes (λ (z : Piece). stays_by z.lane.kind f (jumped f v c x) z) v.kept y there) in
        subst (λ (k : ℕ). IsFindable f lows k y) (sym (skip y)) (step f y out (findable.1 y (filter_has test v.kept y there) kind))

-- ---- a chunk taken

-- a number that isn't late isn't skipped
not_late : (v : ReceiverView) (x : Piece) → x.lane.kind ≡ Unordered → is_late v x.lane x.number ≡ false → is_skipped x.number (v.skip x.lane) ≡ false
not_late v x kind late = go x.number late
  where
    lowest : lowest_in v x.lane x.lane.kind ≡ v.skip x.lane
    lowest = ap (lowest_in v x.lane) kind

    go : (o : Option ℕ) → is_late v x.lane o ≡ false → is_skipped o (v.skip x.lane) ≡ false
    go None e = absurd (cc)
    go (Some n) e = subst (λ (k : ℕ). nat_lt n k ≡ false) lowest e

-- A chunk that is a whole message by itself doesn't stay.
pub findable_taken : (f : Format) (v t : ReceiverView) (x : Piece) (old new : Lows) → TakesPiece f v x t → IsIdle f t → is_passed f v x ≡ false → AreFindable f v old → new.count ≡ old.count →
    ((s i : ℕ) → IsMarked old s i → IsMarked new s i) → (is_numbered f Unordered ≡ false → x.lane.kind ≡ Unordered → (x.begin && x.end) ≡ false → IsMarked new x.lane.stream x.index) → AreFindable f t new
findable_taken f v t x old new takes idle wanted findable count more here = (λ plain. let all = findable.0 plain in let same = giving.streams in omega (arith, all, same, count), each)
  where
    giving : IsGiving (with_chunk v x) t
    giving = takes_giving f v t x takes

    first : (g : Format) (y : Piece) → y.begin ≡ true → IsFirst g y
    first Plain y begins = begins
    first Interleaved y begins = rw begins refl

    alone : (y : Piece) → Has t.kept y → y.lane.kind ≡ Unordered → y.begin ≡ true → y.end ≡ true → ⊥
    alone y has kind begins ends = idle.unordered y kind (y ∷ []) ((first f y begins, ends), within, inl refl)
      where
        within : (z : Piece) → Has (y ∷ []) z → Has t.kept z
        within z (inl is) = subst (Has t.kept) is has
        within z (inr none) = absurd none

    own : (g : Format) → g ≡ f → Has t.kept x → x.lane.kind ≡ Unordered → IsFindable g new (v.skip x.lane) x
    own Plain same has kind = elim (cases_Bool (x.begin && x.end)) [
      | inl whole ↦ let flags = both x.begin x.end whole in absurd (alone x has kind flags.0 flags.1)
      | inr part ↦ here (sym (ap (λ (h : Format). is_numbered h Unordered) same)) kind part
    ]
    own Interleaved same has kind =
        let parts = or_parts (is_numbered f x.lane.kind && is_late v x.lane x.number) (is_repeated f v.kept x) wanted in
        let numbered : is_numbered f x.lane.kind ≡ true = ap (is_numbered f) kind ∙ sym (ap (λ (h : Format). is_numbered h Unordered) same) in
        not_late v x kind (let late = parts.0 in rw numbered at late)

    go : (y : Piece) → Has t.kept y → y.lane.kind ≡ Unordered → (x ≡ y) ⊎ Has v.kept y → IsFindable f new (v.skip y.lane) y
    go y has kind (inr there) = found_more f old new (v.skip y.lane) y more (findable.1 y there kind)
    go y has kind (inl is) =
        subst (λ (z : Piece). IsFindable f new (v.skip z.lane) z) is (own f refl (subst (Has t.kept) (sym is) has) (ap (λ (z : Piece). z.lane.kind) is ∙ kind))

    each : (y : Piece) → Has t.kept y → y.lane.kind ≡ Unordered → IsFindable f new (t.skip y.lane) y
    each y has kind = subst (λ (k : ℕ). IsFindable f new k y) (sym (ap (λ (g : Lane → ℕ). g y.lane) giving.skip)) (go y has kind (giving.fewer y has))

-- ---- a stream's lowest index

-- a stream's number is that of its first unordered chunk
pub findable_noted : {F : Type 0} (f : Format) (v : ReceiverView) (streams : List (Stream F)) (s : ℕ) (x : Stream F) (lowest : Option ℕ) (most : ℕ) (old new : Lows) → is_numbered f Unordered ≡ false →
    AreFiled f v.kept streams → slice_get streams s ≡ Some x →
    ((l : Lane) (kept : List Piece) → Keeps f (inside x) true l kept → is_numbered f l.kind ≡ false → IsLowestIndex kept lowest) → new.count ≡ old.count →
    ((q i : ℕ) → IsMarked old q i → (q ≡ s → unwrap_or lowest most ≤ i) → IsMarked new q i) → AreFindable f v old → AreFindable f v new
findable_noted f v streams s x lowest most old new plain filed got first count more findable = (λ plain. let all = findable.0 plain in omega (arith, all, count), each)
  where
    least : (o : Option ℕ) (kept : List Piece) (y : Piece) → IsLowestIndex kept o → Has kept y → unwrap_or o most ≤ y.index
    least None kept y none has = absurd (subst (λ (ps : List Piece). Has ps y) none has)
    least (Some i) kept y is has = is.0 y has

    step : (g : Format) (y : Piece) → is_numbered g Unordered ≡ false → (y.lane.stream ≡ s → unwrap_or lowest most ≤ y.index) → IsFindable g old (v.skip y.lane) y → IsFindable g new (v.skip y.lane) y
    step Plain y e low is = more y.lane.stream y.index is low
    step Interleaved y e low is = absurd (cc)

    each : (y : Piece) → Has v.kept y → y.lane.kind ≡ Unordered → IsFindable f new (v.skip y.lane) y
    each y has kind = step f y plain low (findable.1 y has kind)
      where
        low : y.lane.stream ≡ s → unwrap_or lowest most ≤ y.index
        low same =
            let lane_is : y.lane ≡ unordered_lane s = λ i. record { stream = same i; kind = kind i } in
            let kept = of_lane (unordered_lane s) v.kept in
            least lowest kept y (first (unordered_lane s) kept (filed.each s x got).unordered plain) (of_has (unordered_lane s) v.kept y lane_is has)
