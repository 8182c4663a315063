-- The answer to a FORWARD, row by row.
use Rattle.std.proofs.Common.{◌≡◌, ℕ, suc, ◌+◌, ◌-◌, ◌<◌, ◌≤◌, Bool, true, false, nat_lt, nat_le, ◌∷◌, [], length, refl, ◌∙◌, ap, subst, arith}
use Rattle.std.specs.Prelude.{◌||◌, not}
use Rattle.std.proofs.lemmas.Bool.Decides.{nat_tests}
use Rattle.std.proofs.lemmas.Grind.{common_steps}
use Rattle.sctp_model.specs.numbers.Limits.{WINDOW}
use Rattle.sctp_model.specs.numbers.Serial.{COUNTS, tsn, before}
use Rattle.sctp_model.specs.wire.Chunk.{ForwardMeaning}
use Rattle.sctp_model.specs.messages.Format.{Format}
use Rattle.sctp_model.specs.receiver.ReceiverView.{ReceiverView}
use Rattle.sctp_model.specs.receiver.Rows.{first_of}
use Rattle.sctp_model.specs.receiver.Reading.{is_behind, is_ahead}
use Rattle.sctp_model.specs.receiver.ForwardTaken.{ForwardAnswer, OutOfDate, Bad, Moved, names_other_stream, forward_answer}
use Rattle.sctp_recv.specs.ReceiverKept.{ReceiverKept}
use Rattle.sctp_recv.specs.StandsFor.{KeepsView}
use Rattle.sctp_recv.specs.inner.Rows.{offset_from, IsAbove}

-- the table, its tests told
table : (behind far other : Bool) → ForwardAnswer
table a b d = first_of ((a, OutOfDate) ∷ (b || d, Bad) ∷ []) Moved

module _ (f : Format) (k : ReceiverKept) (v : ReceiverView) (x : ForwardMeaning) (w : KeepsView f k v) where
  reads : forward_answer v k.seen.cumulative x ≡ table (is_behind v k.seen.cumulative x.cumulative) (is_ahead v k.seen.cumulative x.cumulative) (names_other_stream v.streams x.skips)
  unfolding table
  reads = refl

  behind_is : (b : Bool) → before 32 (tsn k.initial k.seen.cumulative) x.cumulative ≡ b → is_behind v k.seen.cumulative x.cumulative ≡ not b
  behind_is b e = ap (λ (i : ℕ). not (before 32 (tsn i k.seen.cumulative) x.cumulative)) w.initial ∙ ap not e

  far_is : (b : Bool) → (nat_lt WINDOW (offset_from k.initial k.seen.cumulative x.cumulative) || nat_le (COUNTS - 1) (k.seen.cumulative + offset_from k.initial k.seen.cumulative x.cumulative)) ≡ b →
      is_ahead v k.seen.cumulative x.cumulative ≡ b
  far_is b e = ap (λ (i : ℕ). nat_lt WINDOW (offset_from i k.seen.cumulative x.cumulative) || nat_le (COUNTS - 1) (k.seen.cumulative + offset_from i k.seen.cumulative x.cumulative)) w.initial ∙ e

  named_is : (b : Bool) → names_other_stream (length k.streams) x.skips ≡ b → names_other_stream v.streams x.skips ≡ b
  named_is b e = ap (λ (n : ℕ). names_other_stream n x.skips) w.streams ∙ e

  pub row_out_of_date : before 32 (tsn k.initial k.seen.cumulative) x.cumulative ≡ false → forward_answer v k.seen.cumulative x ≡ OutOfDate
  unfolding table
  row_out_of_date e = let a = behind_is false e in rw a refl

  pub row_far : before 32 (tsn k.initial k.seen.cumulative) x.cumulative ≡ true →
      (nat_lt WINDOW (offset_from k.initial k.seen.cumulative x.cumulative) || nat_le (COUNTS - 1) (k.seen.cumulative + offset_from k.initial k.seen.cumulative x.cumulative)) ≡ true →
      forward_answer v k.seen.cumulative x ≡ Bad
  unfolding table
  row_far e far = reads ∙ go _ _ _ (behind_is true e) (far_is true far)
    where
      go : (a b d : Bool) → a ≡ false → b ≡ true → table a b d ≡ Bad
      go a b d p q = rw (p, q) refl

  near : (i : ℕ) → IsAbove k.initial k.seen.cumulative x.cumulative i → is_ahead v k.seen.cumulative x.cumulative ≡ false
  near i a = far_is false (small (offset_from k.initial k.seen.cumulative x.cumulative) a.window (subst (λ (j : ℕ). suc j < COUNTS) a.index a.count))
    where
      small : (o : ℕ) → o ≤ WINDOW → suc (k.seen.cumulative + o) < COUNTS → (nat_lt WINDOW o || nat_le (COUNTS - 1) (k.seen.cumulative + o)) ≡ false
      small o low count = grind (arith, nat_tests, common_steps)

  pub row_other : (i : ℕ) → IsAbove k.initial k.seen.cumulative x.cumulative i → names_other_stream (length k.streams) x.skips ≡ true → forward_answer v k.seen.cumulative x ≡ Bad
  unfolding table
  row_other i a named = reads ∙ go _ _ _ (behind_is true a.ahead) (near i a) (named_is true named)
    where
      go : (a b d : Bool) → a ≡ false → b ≡ false → d ≡ true → table a b d ≡ Bad
      go a b d p q r = rw (p, q, r) refl

  pub row_moved : (i : ℕ) → IsAbove k.initial k.seen.cumulative x.cumulative i → names_other_stream (length k.streams) x.skips ≡ false → forward_answer v k.seen.cumulative x ≡ Moved
  unfolding table
  row_moved i a named = reads ∙ go _ _ _ (behind_is true a.ahead) (near i a) (named_is false named)
    where
      go : (a b d : Bool) → a ≡ false → b ≡ false → d ≡ false → table a b d ≡ Moved
      go a b d p q r = rw (p, q, r) refl
