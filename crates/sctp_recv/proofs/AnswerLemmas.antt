-- The answer to a data chunk, row by row.
use Rattle.std.proofs.Common.{◌≡◌, ℕ, suc, ◌+◌, ◌-◌, ◌<◌, ◌≤◌, Bool, true, false, nat_lt, nat_le, [], ◌∷◌, length, Option, Some, None, inl, inr, refl, sym, ◌∙◌, ap, subst, arith}
use Rattle.std.specs.Prelude.{◌&&◌, ◌||◌, not, ◌==◌, if◌then◌else◌}
use Rattle.std.proofs.lemmas.Bool.{cases_Bool}
use Rattle.std.proofs.lemmas.Bool.Decides.{nat_tests}
use Rattle.std.proofs.lemmas.Grind.{common_steps}
use Rattle.sctp_model.specs.numbers.Limits.{WINDOW}
use Rattle.sctp_model.specs.numbers.Serial.{COUNTS, tsn, before, near}
use Rattle.sctp_model.specs.wire.Chunk.{PieceMeaning}
use Rattle.sctp_model.specs.messages.Format.{Format, Plain, Interleaved, Kind, Ordered, Unordered, is_numbered, unordered_lane}
use Rattle.sctp_model.specs.messages.Framing.{lane_kind, number_near, as_number}
use Rattle.sctp_model.specs.receiver.ReceiverView.{ReceiverView, held_bytes}
use Rattle.sctp_model.specs.receiver.Rows.{first_of}
use Rattle.sctp_model.specs.receiver.Top.{top}
use Rattle.sctp_model.specs.receiver.Reading.{index_at, is_behind, is_ahead, lane_of, is_late, lowest_in, number_in, piece_at}
use Rattle.sctp_model.specs.receiver.PieceTaken.{PieceAnswer, Duplicate, Ahead, NoSuchStream, Passed, NoRoom, Kept, is_repeated, is_passed, is_too_much, left_free}
use Rattle.sctp_recv.specs.Runs.{in_runs}
use Rattle.sctp_recv.specs.SeenKept.{is_reached, AreWithin}
use Rattle.sctp_chains.specs.Cells.{counted}
use Rattle.sctp_recv.specs.ReceiverKept.{ReceiverKept, stream_at, near_of, number_read, lowest_of, is_below_or_none}
use Rattle.sctp_recv.specs.StandsFor.{KeepsView}
use Rattle.sctp_recv.specs.inner.Rows.{offset_from, IsAbove, IsNewIndex, answer_at}
use Rattle.sctp_recv.specs.Resets.{base_of, restart_in}
use Rattle.sctp_recv.proofs.PastLaws.{top_is}

-- ---- the table, its tests told

table : (behind seen far other passed much : Bool) → PieceAnswer
table a b d e g h = first_of ((a || b, Duplicate) ∷ (d, Ahead) ∷ (e, NoSuchStream) ∷ (g, Passed) ∷ (h, NoRoom) ∷ []) Kept

table_ahead : (a b d e g h : Bool) → a ≡ false → b ≡ false → d ≡ true → table a b d e g h ≡ Ahead
unfolding table
table_ahead a b d e g h i j k = rw (i, j, k) refl

table_passed : (a b d e g h : Bool) → a ≡ false → b ≡ false → d ≡ false → e ≡ false → g ≡ true → table a b d e g h ≡ Passed
unfolding table
table_passed a b d e g h i j k l m = rw (i, j, k, l, m) refl

table_room : (a b d e g h : Bool) → a ≡ false → b ≡ false → d ≡ false → e ≡ false → g ≡ false → h ≡ true → table a b d e g h ≡ NoRoom
unfolding table
table_room a b d e g h i j k l m n = rw (i, j, k, l, m, n) refl

table_taken : (a b d e g h : Bool) → a ≡ false → b ≡ false → d ≡ false → e ≡ false → g ≡ false → h ≡ false → table a b d e g h ≡ Kept
unfolding table
table_taken a b d e g h i j k l m n = rw (i, j, k, l, m, n) refl

-- ---- what is read near one count or another

-- an unordered number counts under I-DATA alone
pub near_reads : (f : Format) (c d a b wire : ℕ) → (f ≡ Interleaved → c ≡ d) → (f ≡ Interleaved → a ≡ b) → number_read f Unordered c wire a ≡ number_read f Unordered d wire b
near_reads Plain c d a b wire base same = refl
near_reads Interleaved c d a b wire base same = (λ i. number_read Interleaved Unordered (base refl i) wire (same refl i))

-- ---- the space that a chunk has to leave

-- none, if nothing is reserved
nothing_left : (v : ReceiverView) (c i : ℕ) → v.reserve ≡ 0 → left_free v c i ≡ 0
nothing_left v c i none = by_case (i == suc c)
  where
    by_case : (b : Bool) → (if b then 0 else v.reserve) ≡ 0
    by_case true = refl
    by_case false = none

-- ---- a chunk that comes to a receiver

module _ (f : Format) (k : ReceiverKept) (v : ReceiverView) (p : PieceMeaning) (w : KeepsView f k v) (within : AreWithin (k.seen.cumulative + WINDOW) k.seen.runs) where
  reads : answer_at f k v p ≡ table (is_behind v k.seen.cumulative p.tsn) (v.seen (piece_at f v k.seen.cumulative p).index) (is_ahead v k.seen.cumulative p.tsn)
      (nat_le v.streams p.stream) (is_passed f v (piece_at f v k.seen.cumulative p)) (is_too_much f v k.seen.cumulative p)
  unfolding table
  reads = refl

  behind_is : (b : Bool) → before 32 (tsn k.initial k.seen.cumulative) p.tsn ≡ b → is_behind v k.seen.cumulative p.tsn ≡ not b
  behind_is b e = ap (λ (i : ℕ). not (before 32 (tsn i k.seen.cumulative) p.tsn)) w.initial ∙ ap not e

  offset_is : index_at v k.seen.cumulative p.tsn ≡ k.seen.cumulative + offset_from k.initial k.seen.cumulative p.tsn
  offset_is = ap (λ (i : ℕ). k.seen.cumulative + offset_from i k.seen.cumulative p.tsn) w.initial

  -- a TSN past the window, or whose index is no count below the largest, wasn't recorded
  far_unseen : (o : ℕ) → (nat_lt WINDOW o || nat_le (COUNTS - 1) (k.seen.cumulative + o)) ≡ true → v.seen (k.seen.cumulative + o) ≡ false
  far_unseen o far = elim (cases_Bool (v.seen (k.seen.cumulative + o))) [
    | inl came ↦
        let small = w.counts (k.seen.cumulative + o) came in
        let low : WINDOW < o = grind (arith, far, small, nat_tests, common_steps) in
        let run : in_runs k.seen.runs (k.seen.cumulative + o) ≡ true = sym (w.seen.above (k.seen.cumulative + o) (omega (arith, low))) ∙ came in
        let near = within (k.seen.cumulative + o) run in
        absurd (omega (arith, low, near))
    | inr unseen ↦ unseen
  ]

  pub row_ahead : before 32 (tsn k.initial k.seen.cumulative) p.tsn ≡ true →
      (nat_lt WINDOW (offset_from k.initial k.seen.cumulative p.tsn) || nat_le (COUNTS - 1) (k.seen.cumulative + offset_from k.initial k.seen.cumulative p.tsn)) ≡ true → answer_at f k v p ≡ Ahead
  row_ahead e far = reads ∙ table_ahead _ _ _ _ _ _ (behind_is true e) (ap v.seen offset_is ∙ far_unseen (offset_from k.initial k.seen.cumulative p.tsn) far)
      (ap (λ (j : ℕ). nat_lt WINDOW (offset_from j k.seen.cumulative p.tsn) || nat_le (COUNTS - 1) (k.seen.cumulative + offset_from j k.seen.cumulative p.tsn)) w.initial ∙ far)

  module _ (i : ℕ) (a : IsAbove k.initial k.seen.cumulative p.tsn i) where
    same_index : i ≡ (piece_at f v k.seen.cumulative p).index
    same_index = a.index ∙ sym offset_is

    behind_not : is_behind v k.seen.cumulative p.tsn ≡ false
    behind_not = behind_is true a.ahead

    near_o : (o : ℕ) → o ≤ WINDOW → suc (k.seen.cumulative + o) < COUNTS → (nat_lt WINDOW o || nat_le (COUNTS - 1) (k.seen.cumulative + o)) ≡ false
    near_o o low small = grind (arith, nat_tests, common_steps)

    ahead_not : is_ahead v k.seen.cumulative p.tsn ≡ false
    ahead_not =
        ap (λ (j : ℕ). nat_lt WINDOW (offset_from j k.seen.cumulative p.tsn) || nat_le (COUNTS - 1) (k.seen.cumulative + offset_from j k.seen.cumulative p.tsn)) w.initial
        ∙ near_o (offset_from k.initial k.seen.cumulative p.tsn) a.window (subst (λ (j : ℕ). suc j < COUNTS) a.index a.count)

    seen_is : (b : Bool) → is_reached k.seen i ≡ b → v.seen (piece_at f v k.seen.cumulative p).index ≡ b
    seen_is b e =
        let out : nat_le i k.seen.cumulative ≡ false = let high = a.above in grind (arith, nat_tests) in
        let run : in_runs k.seen.runs i ≡ b = let r : is_reached k.seen i ≡ in_runs k.seen.runs i = rw out refl in sym r ∙ e in
        ap v.seen (sym same_index) ∙ w.seen.above i a.above ∙ run

    module _ (new : is_reached k.seen i ≡ false) where
      pub new_index : IsNewIndex f k v p i
      new_index = record {
        index = same_index;
        new = new;
        unseen = ap v.seen same_index ∙ seen_is false new;
        near = omega (arith, a.index, a.window);
        count = a.count;
      }

      module _ (low : p.stream < length k.streams) where
        there : nat_le v.streams p.stream ≡ false
        there = let n = w.streams in grind (arith, nat_tests)

        pub row_passed : is_passed f v (piece_at f v k.seen.cumulative p) ≡ true → answer_at f k v p ≡ Passed
        row_passed e = reads ∙ table_passed _ _ _ _ _ _ behind_not (seen_is false new) ahead_not there e

        much_is : (b : Bool) → nat_lt k.buffer (k.held + length p.bytes) ≡ b → is_too_much f v k.seen.cumulative p ≡ b
        much_is b e =
            let free = nothing_left v k.seen.cumulative (piece_at f v k.seen.cumulative p).index w.reserve in
            let all : held_bytes v + length p.bytes + left_free v k.seen.cumulative (piece_at f v k.seen.cumulative p).index ≡ held_bytes v + length p.bytes = omega (arith, free) in
            ap (λ (n : ℕ). nat_lt v.buffer n) all
            ∙ ap (λ (n : ℕ). nat_lt n (held_bytes v + length p.bytes)) w.buffer ∙ ap (λ (n : ℕ). nat_lt k.buffer (n + length p.bytes)) (sym w.held) ∙ e

        pub row_room : is_passed f v (piece_at f v k.seen.cumulative p) ≡ false → k.buffer < k.held + length p.bytes → answer_at f k v p ≡ NoRoom
        row_room e large = reads ∙ table_room _ _ _ _ _ _ behind_not (seen_is false new) ahead_not there e (much_is true (grind (arith, nat_tests)))

        pub row_taken : is_passed f v (piece_at f v k.seen.cumulative p) ≡ false → k.held + length p.bytes ≤ k.buffer → answer_at f k v p ≡ Kept
        row_taken e fits = reads ∙ table_taken _ _ _ _ _ _ behind_not (seen_is false new) ahead_not there e (much_is false (grind (arith, nat_tests)))

  -- ---- whether it is passed

  lowest_same : (u : Bool) → lowest_in v (lane_of p.stream u) (lane_kind u) ≡ lowest_of (stream_at k.streams p.stream) (lane_kind u)
  lowest_same true = w.skip p.stream
  lowest_same false = let low = w.skipped p.stream in let next = w.next p.stream in omega arith

  late_same : (n : Option ℕ) (u : Bool) → is_late v (lane_of p.stream u) n ≡ is_below_or_none (lowest_of (stream_at k.streams p.stream) (lane_kind u)) n
  late_same None u = refl
  late_same (Some n) u = ap (λ (m : ℕ). nat_lt n m) (lowest_same u)

  near_same : (u : Bool) → number_read f (lane_kind u) (base_of (restart_in k.resets p.stream) (lane_kind u)) p.number (near_of (stream_at k.streams p.stream) (lane_kind u)) ≡ number_in f v (lane_of p.stream u) p.number
  near_same true = near_reads f (base_of (restart_in k.resets p.stream) Unordered) (v.resets.base (unordered_lane p.stream)) (near_of (stream_at k.streams p.stream) Unordered) (top v p.stream) p.number
      (λ e. sym (w.resets.unordered p.stream e)) (λ e. sym (top_is v p.stream ∙ ap (λ (n : ℕ). n - 1) (w.past p.stream e)))
  near_same false = (λ i. number_read f Ordered (sym (w.resets.ordered p.stream) i) p.number (sym (w.next p.stream) i))

  pub number_same : number_read f (lane_kind p.unordered) (base_of (restart_in k.resets p.stream) (lane_kind p.unordered)) p.number (near_of (stream_at k.streams p.stream) (lane_kind p.unordered)) ≡ (piece_at f v k.seen.cumulative p).number
  number_same = near_same p.unordered

  pub passed_late : (n : Option ℕ) → n ≡ (piece_at f v k.seen.cumulative p).number →
      (is_numbered f (lane_kind p.unordered) && is_below_or_none (lowest_of (stream_at k.streams p.stream) (lane_kind p.unordered)) n) ≡ true → is_passed f v (piece_at f v k.seen.cumulative p) ≡ true
  passed_late n number late =
      let one : (is_numbered f (lane_kind p.unordered) && is_late v (lane_of p.stream p.unordered) n) ≡ true = ap (λ (t : Bool). is_numbered f (lane_kind p.unordered) && t) (late_same n p.unordered) ∙ late in
      subst (λ (m : Option ℕ). ((is_numbered f (lane_kind p.unordered) && is_late v (lane_of p.stream p.unordered) m) || is_repeated f v.kept (counted (piece_at f v k.seen.cumulative p).index p m)) ≡ true) number
      (ap (λ (t : Bool). t || is_repeated f v.kept (counted (piece_at f v k.seen.cumulative p).index p n)) one)

  pub passed_is : (n : Option ℕ) (a b : Bool) → n ≡ (piece_at f v k.seen.cumulative p).number →
      a ≡ (is_numbered f (lane_kind p.unordered) && is_below_or_none (lowest_of (stream_at k.streams p.stream) (lane_kind p.unordered)) n) →
      b ≡ is_repeated f v.kept (counted (piece_at f v k.seen.cumulative p).index p n) → is_passed f v (piece_at f v k.seen.cumulative p) ≡ (a || b)
  passed_is n a b number late held =
      let one : (is_numbered f (lane_kind p.unordered) && is_late v (lane_of p.stream p.unordered) n) ≡ a = ap (λ (t : Bool). is_numbered f (lane_kind p.unordered) && t) (late_same n p.unordered) ∙ sym late in
      let two : is_repeated f v.kept (counted (piece_at f v k.seen.cumulative p).index p n) ≡ b = sym held in
      subst (λ (m : Option ℕ). ((is_numbered f (lane_kind p.unordered) && is_late v (lane_of p.stream p.unordered) m) || is_repeated f v.kept (counted (piece_at f v k.seen.cumulative p).index p m)) ≡ (a || b)) number
      (ap (λ (t : Bool). t || is_repeated f v.kept (counted (piece_at f v k.seen.cumulative p).index p n)) one ∙ ap (λ (t : Bool). a || t) two)

-- a number that is read is below the largest count
as_small : (o : Option ℕ) (m : ℕ) → as_number o ≡ Some m → suc m < COUNTS
as_small None m e = absurd (let no : None ≡ Some m = e in cc)
as_small (Some n) m e = elim (cases_Bool (nat_lt n (COUNTS - 1))) [
  | inl small ↦ let same : Some n ≡ Some m = rw small at e in let is : n ≡ m = cc in grind (arith, nat_tests)
  | inr large ↦ absurd (let no : None ≡ Some m = rw large at e in cc)
]

pub near_small : (f : Format) (k : Kind) (wire reference m : ℕ) → number_near f k wire reference ≡ Some m → suc m < COUNTS
near_small Plain Ordered wire reference m e = as_small (near 16 wire reference) m e
near_small Plain Unordered wire reference m e = absurd (let no : None ≡ Some m = e in cc)
near_small Interleaved k wire reference m e = as_small (near 32 wire reference) m e
