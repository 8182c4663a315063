-- What is kept of a request that was in progress.
use Rattle.std.proofs.Common.{◌≡◌, ℕ, zero, suc, ◌<◌, Bool, true, false, List, [], ◌∷◌, length, drop, Option, Some, None, refl, sym, subst, arith}
use Rattle.sctp_model.specs.wire.Reconfig.{ResetMeaning, ResetResult, Performed, Denied, WrongStream, BadNumber, InProgress}
use Rattle.sctp_model.specs.messages.Format.{Format}
use Rattle.sctp_model.specs.sender.Outgoing.{are_listed}
use Rattle.sctp_model.specs.receiver.Incoming.{Waited, Incoming}
use Rattle.sctp_model.specs.receiver.ReceiverView.{Handed, ReceiverView}
use Rattle.sctp_model.specs.receiver.ResetTaken.{is_in_progress, is_next, waited_on}
use Rattle.sctp_recv.specs.ResetsKept.{ResetsKept}
use Rattle.sctp_recv.specs.Resets.{KeepsResets}
use Rattle.sctp_recv.specs.inner.Restarting.{done_by}

-- only that changes
pub rewaited : (f : Format) (k l : ResetsKept) (initial streams : ℕ) (taken : ℕ → List Handed) (r : Incoming) (x y : Option Waited) → KeepsResets f (Some k) initial streams taken r →
    l ≡ record k { waited = x } → x ≡ y → KeepsResets f (Some l) initial streams taken (record r { waited = y })
rewaited f k l initial streams taken r x y h is same = subst (λ (m : ResetsKept). KeepsResets f (Some m) initial streams taken (record r { waited = y })) (sym is) (record {
  last = h.last;
  result = h.result;
  waited = same;
  begun = h.begun;
  answers = h.answers;
  ordered = h.ordered;
  unordered = h.unordered;
  old = h.old;
  told = h.told;
  none = h.none;
  all = record { streams = h.all.streams; bits = h.all.bits };
})

-- what a request says
abbrev pub said : (last : ℕ) (streams : List ℕ) (done : Bool) → Waited
said last streams done = record { last = last; streams = streams; done = done }

-- nothing is known of the next one, unless it is in progress
pub waits_not : (v : ReceiverView) (m : ResetMeaning) (a : ResetResult) → is_next v m.number ≡ true → is_in_progress a ≡ false → waited_on v m a ≡ None
waits_not v m Performed next other = rw next refl
waits_not v m Denied next other = rw next refl
waits_not v m WrongStream next other = rw next refl
waits_not v m BadNumber next other = rw next refl
waits_not v m InProgress next other = absurd (cc)

-- what a request says that is in progress
pub waits_now : (v : ReceiverView) (m : ResetMeaning) (a : ResetResult) → is_in_progress a ≡ true → waited_on v m a ≡ Some (said m.last m.streams (done_by v m a))
waits_now v m Performed on = absurd (cc)
waits_now v m Denied on = absurd (cc)
waits_now v m WrongStream on = absurd (cc)
waits_now v m BadNumber on = absurd (cc)
waits_now v m InProgress on = refl

-- and one that was, and arrived again
pub waits_again : (v : ReceiverView) (m : ResetMeaning) (a : ResetResult) → is_next v m.number ≡ false → waited_on v m a ≡ Some (said m.last m.streams (done_by v m a))
waits_again v m Performed again = rw again refl
waits_again v m Denied again = rw again refl
waits_again v m WrongStream again = rw again refl
waits_again v m BadNumber again = rw again refl
waits_again v m InProgress again = refl

-- ---- lists of streams

pub listed_none : (xs : List ℕ) (i : ℕ) → i < length xs → are_listed (drop i xs) [] ≡ false
listed_none [] i low = absurd (omega (arith, low))
listed_none (x ∷ xs) zero low = refl
listed_none (x ∷ xs) (suc i) low = listed_none xs i (omega (arith, low))
