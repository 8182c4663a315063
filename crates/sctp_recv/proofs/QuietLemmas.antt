-- A FORWARD on all streams: those that it doesn't touch stay as they are.
use Rattle.std.proofs.Common.{◌≡◌, ℕ, zero, suc, ◌+◌, ◌-◌, ◌<◌, ◌≤◌, List, [], ◌∷◌, length, set, Some, refl, sym, ◌∙◌, ap, subst, arith}
use Rattle.std.specs.Prelude.{slice_get}
use Rattle.std.proofs.lemmas.Option.{slice_get_within}
use Rattle.sctp_model.specs.numbers.Lists.{Has}
use Rattle.sctp_model.specs.wire.Chunk.{SkipMeaning}
use Rattle.sctp_model.specs.messages.Format.{Format}
use Rattle.sctp_model.specs.messages.Pieces.{Piece}
use Rattle.sctp_model.specs.receiver.ReceiverView.{ReceiverView, size_of_pieces, size_of_waiting}
use Rattle.sctp_model.specs.receiver.Receiving.{handed_ordered}
use Rattle.sctp_recv.specs.declared.stream.Stream.{Stream}
use Rattle.sctp_recv.specs.declared.restart.Restart.{Restart}
use Rattle.sctp_recv.specs.inner.Forwarding.{IsQuiet, AreToPass, ArePassed}
use Rattle.sctp_recv.proofs.FiledLemmas.{got_below, one_got, all_sizes}
use Rattle.sctp_recv.proofs.PassLemmas.{IsUpTo, nothing, upto_next}

set_got : {A : Type 0} (xs : List A) (i : ℕ) (x : A) → slice_get xs i ≡ Some x → set xs i x ≡ xs
set_got [] i x got = refl
set_got (y ∷ xs) zero x got = let same : y ≡ x = one_got (Some y) y x refl got in ap (λ (z : _). z ∷ xs) (sym same)
set_got (y ∷ xs) (suc i) x got = ap (λ (zs : List _). y ∷ zs) (set_got xs i x got)

-- streams that are quiet stay as they are
module _ {F : Type 0} (f : Format) (b : ℕ → Restart) (jump : ℕ) (xs : List SkipMeaning) (v r : ReceiverView) (olds now : List (Stream F)) (held left : ℕ) (h : AreToPass f b jump xs v r olds held) (size : length now ≡ length olds) where
  upto_quiet : (k : ℕ) (t : ReceiverView) → IsUpTo f v r olds now held left k t → (x : Stream F) → k < length olds → slice_get olds k ≡ Some x → IsQuiet f (b k) jump xs v k x →
      (w : ReceiverView) × IsUpTo f v r olds now held left (suc k) w
  upto_quiet k t u x low got q =
      let p = nothing f b jump xs v r olds now held left k t h u x low size got q in (
        handed_ordered t k p.messages p.next,
        subst (λ (ys : List (Stream F)). IsUpTo f v r olds ys held left (suc k) (handed_ordered t k p.messages p.next)) (set_got now k x (u.later k (omega arith) ∙ got))
            (upto_next f b jump xs v r olds now held left k t h u x low size got x left p),
      )

  upto_gap : (d k : ℕ) (t : ReceiverView) → k + d ≤ length olds → ((q : ℕ) (x : Stream F) → k ≤ q → q < k + d → slice_get olds q ≡ Some x → IsQuiet f (b q) jump xs v q x) →
      IsUpTo f v r olds now held left k t → (w : ReceiverView) × IsUpTo f v r olds now held left (k + d) w
  upto_gap zero k t within quiet u = let none : k ≡ k + 0 = omega arith in (t, subst (λ (n : ℕ). IsUpTo f v r olds now held left n t) none u)
  upto_gap (suc d) k t within quiet u =
      let low : k < length olds = omega (arith, within) in
      let x = got_below olds k low in
      let one = upto_quiet k t u x.0 low x.1 (quiet k x.0 (omega arith) (omega arith) x.1) in
      let more = upto_gap d (suc k) one.0 (omega (arith, within)) (λ q z past less. quiet q z (omega (arith, past)) (omega (arith, less))) one.1 in
      let same : suc k + d ≡ k + suc d = omega arith in
      (more.0, subst (λ (n : ℕ). IsUpTo f v r olds now held left n more.0) same more.1)

  pub upto_to : (k m : ℕ) (t : ReceiverView) → k ≤ m → m ≤ length olds → ((q : ℕ) (x : Stream F) → k ≤ q → q < m → slice_get olds q ≡ Some x → IsQuiet f (b q) jump xs v q x) →
      IsUpTo f v r olds now held left k t → (w : ReceiverView) × IsUpTo f v r olds now held left m w
  upto_to k m t le within quiet u =
      let all : k + (m - k) ≡ m = omega (arith, le) in
      let more = upto_gap (m - k) k t (omega (arith, all, within)) (λ q x past less. quiet q x past (omega (arith, all, less))) u in
      (more.0, subst (λ (n : ℕ). IsUpTo f v r olds now held left n more.0) all more.1)

-- all streams
pub upto_all : {F : Type 0} (f : Format) (b : ℕ → Restart) (jump : ℕ) (xs : List SkipMeaning) (v r : ReceiverView) (olds now : List (Stream F)) (held left : ℕ) (t : ReceiverView) → AreToPass f b jump xs v r olds held →
    IsUpTo f v r olds now held left (length olds) t → length now ≡ length olds → ArePassed f t now left
upto_all {F} f b jump xs v r olds now held left t h u size = record {
  filed = record { each = λ q x got. (u.done q x (within q x got) got).0; there = λ y has. let low = there y has in omega (arith, low, size) };
  stream = λ q x got. let d = u.done q x (within q x got) got in d.1;
  held = subst (λ (n : ℕ). left ≡ size_of_pieces t.kept + size_of_waiting t.waiting n) (sym size) total;
}
  where
    within : (q : ℕ) (x : Stream F) → slice_get now q ≡ Some x → q < length olds
    within q x got = let low = slice_get_within now q x got in omega (arith, low, size)

    there : (y : Piece) → Has t.kept y → y.lane.stream < length olds
    there y has = h.filed.there y (h.within y (u.within y has))

    total : left ≡ size_of_pieces t.kept + size_of_waiting t.waiting (length olds)
    total =
        let a = all_sizes (length olds) v.kept h.filed.there in
        let b = all_sizes (length olds) t.kept there in
        let sum = u.held in
        let held_is = h.held in
        omega (arith, a, b, sum, held_is)
