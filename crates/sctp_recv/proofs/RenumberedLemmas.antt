-- What streams whose numbers begin anew stand for.
use Rattle.std.proofs.Common.{◌≡◌, ℕ, ◌+◌, ◌-◌, ◌<◌, ◌≤◌, Bool, true, false, List, ◌++◌, length, Some, inl, inr, refl, sym, ◌∙◌, ap, arith}
use Rattle.std.specs.Prelude.{if◌then◌else◌, is_some, unwrap_or, not, ◌&&◌}
use Rattle.std.proofs.lemmas.Bool.{cases_lt}
use Rattle.std.proofs.lemmas.List.{length-append}
use Rattle.sctp_model.specs.messages.Format.{Format, Interleaved, ordered_lane, unordered_lane}
use Rattle.sctp_model.specs.receiver.ReceiverView.{Handed, ReceiverView}
use Rattle.sctp_model.specs.receiver.ResetTaken.{past_top, renumbered}
use Rattle.sctp_recv.specs.declared.restart.Restart.{Restart}
use Rattle.sctp_recv.specs.ReceiverKept.{StreamKept, ReceiverKept, FRESH, stream_at}
use Rattle.sctp_recv.specs.ResetsKept.{ResetsKept}
use Rattle.sctp_recv.specs.Resets.{UNRESET, restart_at, KeepsResets}
use Rattle.sctp_recv.specs.StandsFor.{KeepsView}
use Rattle.sctp_recv.specs.inner.Bits.{bit_in}
use Rattle.sctp_recv.specs.inner.Restarting.{restart_from, restart_by, told_by, AreRestarted}
use Rattle.sctp_recv.proofs.StreamLemmas.{past_streams}
use Rattle.sctp_recv.proofs.ResetLemmas.{restart_past}

-- ---- what they stand for

-- a stream's numbers begin anew either way
by_ordered : (again : Bool) (x y : Restart) → (restart_by again x y).ordered ≡ x.ordered
by_ordered true x y = refl
by_ordered false x y = refl

by_unordered : (again : Bool) (x y : Restart) → (restart_by again x y).unordered ≡ x.unordered
by_unordered true x y = refl
by_unordered false x y = refl

by_old : (again : Bool) (x y : Restart) → (if again then y.old else x.old) ≡ (restart_by again x y).old
by_old true x y = refl
by_old false x y = refl

none_old : (again : Bool) → (restart_by again (restart_from FRESH) UNRESET).old ≡ 0
none_old true = refl
none_old false = refl

module _ (f : Format) (k : ReceiverKept) (v : ReceiverView) (again : Bool) (named : ℕ → Bool) (old new : ResetsKept) (w : KeepsView f k v)
    (was : KeepsResets f (Some old) v.initial v.streams v.taken v.resets) (h : AreRestarted again k.streams named old new) where
  size : length new.streams ≡ length k.streams
  size = h.streams ∙ was.all.streams ∙ w.streams

  -- a stream that isn't there
  unreset : (s : ℕ) → length k.streams ≤ s → restart_at new.streams s ≡ UNRESET
  unreset s high = let n = size in restart_past new.streams s (omega (arith, n, high))

  unreset_before : (s : ℕ) → length k.streams ≤ s → restart_at old.streams s ≡ UNRESET
  unreset_before s high = let n = size in let m = h.streams in restart_past old.streams s (omega (arith, n, m, high))

  fresh : (s : ℕ) → length k.streams ≤ s → stream_at k.streams s ≡ FRESH
  fresh s high = past_streams k.streams s high

  -- a number that is the stream's, if it is named, and else what it was
  module _ (now was_at : ℕ → ℕ) (field : Restart → ℕ) (here : (s : ℕ) → now s ≡ field (restart_by again (restart_from (stream_at k.streams s)) (restart_at old.streams s)))
      (before : (s : ℕ) → was_at s ≡ field (restart_at old.streams s)) (none : field (restart_by again (restart_from FRESH) UNRESET) ≡ field UNRESET) where
    chosen : (s : ℕ) → (if named s then now s else was_at s) ≡ field (restart_at new.streams s)
    chosen s = elim (cases_lt s (length k.streams)) [
      | inl low ↦ go (named s) (h.restart s low)
      | inr high ↦ off (named s) high
    ]
      where
        go : (b : Bool) → restart_at new.streams s ≡ (if b then restart_by again (restart_from (stream_at k.streams s)) (restart_at old.streams s) else restart_at old.streams s) →
            (if b then now s else was_at s) ≡ field (restart_at new.streams s)
        go true is = here s ∙ ap field (sym is)
        go false is = before s ∙ ap field (sym is)

        off : (b : Bool) → length k.streams ≤ s → (if b then now s else was_at s) ≡ field (restart_at new.streams s)
        off true high =
            here s
            ∙ ap (λ (a : StreamKept). field (restart_by again (restart_from a) (restart_at old.streams s))) (fresh s high)
            ∙ ap (λ (x : Restart). field (restart_by again (restart_from FRESH) x)) (unreset_before s high)
            ∙ none
            ∙ ap field (sym (unreset s high))
        off false high = before s ∙ ap field (unreset_before s high ∙ sym (unreset s high))

  ordered_now : (s : ℕ) → (if named s then v.next s else v.resets.base (ordered_lane s)) ≡ (restart_at new.streams s).ordered
  ordered_now s =
      chosen v.next (λ (q : ℕ). v.resets.base (ordered_lane q)) (λ (x : Restart). x.ordered) (λ q. w.next q ∙ sym (by_ordered again (restart_from (stream_at k.streams q)) (restart_at old.streams q))) was.ordered
      (by_ordered again (restart_from FRESH) UNRESET) s

  unordered_now : (s : ℕ) → f ≡ Interleaved → (if named s then past_top v s else v.resets.base (unordered_lane s)) ≡ (restart_at new.streams s).unordered
  unordered_now s idata =
      chosen (λ (q : ℕ). past_top v q) (λ (q : ℕ). v.resets.base (unordered_lane q)) (λ (x : Restart). x.unordered)
      (λ q. w.past q idata ∙ sym (by_unordered again (restart_from (stream_at k.streams q)) (restart_at old.streams q))) (λ q. was.unordered q idata) (by_unordered again (restart_from FRESH) UNRESET) s

  -- of the messages that wait, all are from before it, unless it came again
  old_waits : (s : ℕ) (b a : Bool) → unwrap_or (if b && not a then Some (length (v.taken s ++ v.waiting s)) else v.resets.told s) 0 - length (v.taken s)
      ≡ (if b then (if a then (restart_at old.streams s).old else length (stream_at k.streams s).waiting) else (restart_at old.streams s).old)
  old_waits s true true = was.old s
  old_waits s true false = let all = length-append (v.taken s) (v.waiting s) in let size = ap (λ (hs : List Handed). length hs) (w.waiting s) in omega (arith, all, size)
  old_waits s false a = was.old s

  old_now : (s : ℕ) → (if named s then (if again then (restart_at old.streams s).old else length (stream_at k.streams s).waiting) else (restart_at old.streams s).old) ≡ (restart_at new.streams s).old
  old_now s =
      chosen (λ (q : ℕ). if again then (restart_at old.streams q).old else (restart_from (stream_at k.streams q)).old) (λ (q : ℕ). (restart_at old.streams q).old) (λ (x : Restart). x.old) (λ q. by_old again (restart_from (stream_at k.streams q)) (restart_at old.streams q)) (λ q. refl)
      (none_old again) s

  told_now : (s : ℕ) (b a : Bool) → bit_in new.told s ≡ (if b then told_by a (bit_in old.told s) else bit_in old.told s) → bit_in old.told s ≡ (if is_some (v.resets.told s) then 1 else 0) →
      bit_in new.told s ≡ (if is_some (if b && not a then Some (length (v.taken s ++ v.waiting s)) else v.resets.told s) then 1 else 0)
  told_now s true true now before = now ∙ before
  told_now s true false now before = now
  told_now s false a now before = now ∙ before

  pub renumbered_kept : KeepsResets f (Some new) v.initial v.streams v.taken (renumbered v named (λ s. named s && not again)).resets
  renumbered_kept = record {
    last = h.last ∙ was.last;
    result = h.result ∙ was.result;
    waited = h.waited ∙ was.waited;
    begun = was.begun;
    answers = was.answers ∙ sym h.answers;
    ordered = ordered_now;
    unordered = unordered_now;
    old = λ s. old_waits s (named s) again ∙ old_now s;
    told = λ s low. told_now s (named s) again (h.told s (let n = w.streams in omega (arith, n, low))) (was.told s low);
    none = λ s high. h.beyond s (let n = w.streams in omega (arith, n, high)) ∙ was.none s high;
    all = record { streams = h.streams ∙ was.all.streams; bits = let n = h.bits in let m = was.all.bits in omega (arith, n, m) };
  }
