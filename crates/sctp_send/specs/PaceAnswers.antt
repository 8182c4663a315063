-- What congestion control asks of a sender (RFC 9260, 6.3.1 and 7.2), in terms of a view that the sender stands for.
use Rattle.std.specs.Prelude.{◌≡◌, ℕ, ◌<◌, ◌≤◌, Bool, nat_le, nat_lt, true, false, not, ◌&&◌, ◌==◌, List, length, Option, IfSome}
use Rattle.std.specs.List.{list_any, All}
use Rattle.sctp_model.specs.messages.Format.{Format}
use Rattle.sctp_model.specs.messages.Framing.{header_of}
use Rattle.sctp_model.specs.sender.SenderView.{SenderView}
use Rattle.sctp_model.specs.sender.Words.{lowest}
use Rattle.sctp_model.specs.sender.Entries.{is_in_flight, passes_at}
use Rattle.sctp_model.specs.end.Trips.{was_given_up}
use Rattle.sctp_model.specs.end.Misses.{moves, newest, is_taken_back}
use Rattle.sctp_model.specs.end.Control.{newly_acked}
use Rattle.sctp_send.specs.FillAnswers.{AreRising}
use Rattle.sctp_send.specs.declared.pace.weight.Weight.{Weight}

-- ---- what is missed (7.2.4)

-- Of the indexes in flight, those of a range that pass a test are the ones that `told` tells.
abbrev pub AgreeInFlight : SenderView → (from below : ℕ) → (says told : ℕ → Bool) → Type 0
AgreeInFlight v from below says told =
    (i : ℕ) → v.cum < i → passes_at v.plan (is_in_flight v) i ≡ true → told i ≡ (nat_le from i && (nat_lt i below && says i))

-- the same of all indexes above CUM
abbrev pub AgreeAbove : SenderView → (from below : ℕ) → (says told : ℕ → Bool) → Type 0
AgreeAbove v from below says told =
    (i : ℕ) → v.cum < i → i ≤ length v.plan.entries → told i ≡ (nat_le from i && (nat_lt i below && says i))

-- the lowest index in flight of those that `told` tells: of the missed ones `first_missed`
abbrev pub first_in_flight : SenderView → (told : ℕ → Bool) → Option ℕ
first_in_flight v told = lowest (passes_at v.plan (λ i e. told i && is_in_flight v i e)) (length v.plan.entries)

-- ---- an acknowledgement

-- The numbers of an acknowledgement, `v` the sender before it, `u` the sender after it, bytes counted in whole chunks; of the index that is timed, whether it is newly acknowledged and its message was not
-- abandoned (6.3.1, C4; 7.2.1 and 7.2.4).
pub record IsWeight (f : Format) (v u : SenderView) (timed : Option ℕ) (w : Weight) : Type 0 where
  pub moved : w.moved ≡ moves v u
  pub cum : w.cum ≡ u.cum
  pub outside : w.newest ≡ newest false v u
  pub inside : w.newest_in_recovery ≡ newest true v u
  pub bytes : w.bytes ≡ newly_acked (header_of f) v u
  pub acked : IfSome timed (λ i. w.acked ≡ (nat_lt v.cum i && (u.covered i && not (was_given_up v i))))

-- These are the indexes above CUM that it takes back, by rising index, all of them assigned (6.2.1, D iii).
pub record AreTakenBack (v u : SenderView) (is : List ℕ) : Type 0 where
  pub those : (i : ℕ) → v.cum < i → list_any (λ j. j == i) is ≡ is_taken_back v u i
  pub rising : AreRising v.cum is
  pub within : All (λ i. i ≤ length v.plan.entries) is
