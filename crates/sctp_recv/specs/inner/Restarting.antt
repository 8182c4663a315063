-- How the resets that are kept change.
use Rattle.std.specs.Prelude.{◌≡◌, ℕ, suc, ◌-◌, ◌*◌, ◌/◌, ◌<◌, ◌≤◌, Bool, true, false, if◌then◌else◌, List, [], length, Option, None, Some, vec_capacity}
use Rattle.sctp_model.specs.numbers.Serial.{tsn}
use Rattle.sctp_model.specs.wire.Reconfig.{ResetMeaning, ResetResult, BadNumber}
use Rattle.sctp_model.specs.receiver.ReceiverView.{ReceiverView}
use Rattle.sctp_model.specs.receiver.ResetTaken.{names, names_anew, was_performed, waited_on, is_in_progress, is_done, is_next, is_in_turn, renumbered_by}
use Rattle.sctp_recv.specs.declared.restart.Restart.{Restart}
use Rattle.sctp_recv.specs.declared.restart.Reset.{Reset}
use Rattle.sctp_recv.specs.declared.resets.Resets.{Resets}
use Rattle.sctp_recv.specs.ReceiverKept.{StreamKept, stream_at, past_of}
use Rattle.sctp_recv.specs.ResetsKept.{ResetsKept}
use Rattle.sctp_recv.specs.Resets.{UNRESET, restart_at, restart_in, told_in, last_in, result_in, waited_in, answers_in, AreAll, AreAllIn}
use Rattle.sctp_recv.specs.inner.Bits.{bit_in, NextBit}

-- ---- before the first request

-- Nothing is known of so many streams.
pub record IsFresh (initial streams : ℕ) (r : ResetsKept) : Type 0 where
  pub last : r.last ≡ tsn initial 0
  pub result : r.result ≡ BadNumber
  pub waited : r.waited ≡ None
  pub answers : r.answers ≡ []
  pub restart : (s : ℕ) → restart_at r.streams s ≡ UNRESET
  pub told : (s : ℕ) → bit_in r.told s ≡ 0
  pub all : AreAll streams r

-- ---- a message taken

-- One is taken on the stream: of its old ones, if there are some.
pub record HasTaken (s : ℕ) (old new : Option ResetsKept) : Type 0 where
  pub here : restart_in new s ≡ record (restart_in old s) { old = (restart_in old s).old - 1 }
  pub others : (q : ℕ) → (q ≡ s → ⊥) → restart_in new q ≡ restart_in old q
  pub told : (q : ℕ) → told_in new q ≡ told_in old q
  pub last : (initial : ℕ) → last_in new initial ≡ last_in old initial
  pub result : result_in new ≡ result_in old
  pub waited : waited_in new ≡ waited_in old
  pub answers : answers_in new ≡ answers_in old
  pub all : (n : ℕ) → AreAllIn n old → AreAllIn n new

-- ---- a reset reported

-- None of a stream's messages is old any more.
pub record IsForgotten (s : ℕ) (old new : List Restart) : Type 0 where
  pub here : restart_at new s ≡ record (restart_at old s) { old = 0 }
  pub others : (q : ℕ) → (q ≡ s → ⊥) → restart_at new q ≡ restart_at old q
  pub streams : length new ≡ length old

-- Its bit is cleared too, and all else is as it was.
pub record IsCleared (s : ℕ) (old new : ResetsKept) : Type 0 where
  pub here : s < length old.told * 64 → bit_in new.told s ≡ 0
  pub others : (q : ℕ) → (q ≡ s → ⊥) → bit_in new.told q ≡ bit_in old.told q
  pub bits : length new.told ≡ length old.told
  pub restarts : IsForgotten s old.streams new.streams
  pub last : new.last ≡ old.last
  pub result : new.result ≡ old.result
  pub waited : new.waited ≡ old.waited
  pub answers : new.answers ≡ old.answers

-- the first stream with a bit, and how many of its messages that wait are old; its bit is cleared
abbrev pub TakesTold : (old new : ResetsKept) → Option Reset → Type 0
TakesTold old new None = NextBit old.told 0 None × (new ≡ old)
TakesTold old new (Some r) = NextBit old.told 0 (Some r.stream) × (r.count ≡ (restart_at old.streams r.stream).old) × IsCleared r.stream old new

-- ---- a request

-- The view once the number and this result of a request were noted, if it is in its turn; no stream begins anew, and what it says isn't noted.
abbrev pub noted : ReceiverView → (number : ℕ) → ResetResult → ReceiverView
noted r number a = if is_in_turn r number
    then record r { resets = record r.resets { taken = if is_next r number then suc r.resets.taken else r.resets.taken; result = a } }
    else r

-- the view once what a request in its turn says was noted, with this result
abbrev pub postponed : ReceiverView → ResetMeaning → ResetResult → ReceiverView
postponed r m a = record r { resets = record r.resets { waited = waited_on r m a } }

-- whether a request with this result is performed, or was before
abbrev pub done_by : ReceiverView → ResetMeaning → ResetResult → Bool
done_by r m a = if is_in_progress a then was_performed r m else is_done a

-- The view once a request in its turn acted, with this result: its streams begin anew if it is performed, and what it says was noted.
abbrev pub acted : ReceiverView → ResetMeaning → ResetResult → ReceiverView
acted r m a = postponed (renumbered_by r (names r m.streams) (names_anew r m) a) m a

-- there is room for as many responses as fit a packet
abbrev pub HasSpace : (limit : ℕ) → Resets → Type 0
HasSpace limit r = (limit - 16) / 12 ≤ vec_capacity r.answers

-- a stream whose numbers begin anew
abbrev pub restart_from : StreamKept → Restart
restart_from a = record { ordered = a.next; unordered = past_of a; old = length a.waiting }

-- the same stream after it was reset: if it was by the same request before, nothing more is to be reported
abbrev pub restart_by : (again : Bool) → (anew old : Restart) → Restart
restart_by true anew old = record anew { old = old.old }
restart_by false anew old = anew

-- its bit
abbrev pub told_by : (again : Bool) → ℕ → ℕ
told_by true bit = bit
told_by false bit = 1

-- The streams that pass the test begin anew, and that is to be reported, unless they did by the same request before; the others are as they were.
pub record AreRestarted (again : Bool) (ss : List StreamKept) (named : ℕ → Bool) (old new : ResetsKept) : Type 0 where
  pub restart : (s : ℕ) → s < length ss → restart_at new.streams s ≡ (if named s then restart_by again (restart_from (stream_at ss s)) (restart_at old.streams s) else restart_at old.streams s)
  pub told : (s : ℕ) → s < length ss → bit_in new.told s ≡ (if named s then told_by again (bit_in old.told s) else bit_in old.told s)
  pub beyond : (s : ℕ) → length ss ≤ s → bit_in new.told s ≡ bit_in old.told s
  pub streams : length new.streams ≡ length old.streams
  pub bits : length new.told ≡ length old.told
  pub last : new.last ≡ old.last
  pub result : new.result ≡ old.result
  pub waited : new.waited ≡ old.waited
  pub answers : new.answers ≡ old.answers
