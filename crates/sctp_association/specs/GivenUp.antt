-- What a moment may give up (RFC 3758, 3.5; RFC 7496, 3.1).
use Rattle.std.specs.Prelude.{◌≡◌, ℕ, ◌⊎◌, nat_lt, Bool, true, false, ◌&&◌, ◌||◌, Option}
use Rattle.sctp_model.specs.sender.Words.{lowest}
use Rattle.sctp_model.specs.sender.Abandoning.{is_to_expire}
use Rattle.sctp_model.specs.sender.Readers.{abandoned}
use Rattle.sctp_model.specs.end.EndView.{EndView}
use Rattle.sctp_model.specs.end.Moments.{given_up, is_data_due}
use Rattle.sctp_send.specs.SenderAnswers.{is_at_limit}

-- The message with this ticket is past its lifetime and may be abandoned; or the data timer is due, and a fragment of it was retransmitted as often as its limit allows.
abbrev pub is_to_give_up : EndView → (ticket : ℕ) → Bool
is_to_give_up e t = is_to_expire e.sender e.moment t || (is_data_due e && is_at_limit e.sender t)

-- the lowest ticket above this one of such a message
abbrev pub next_to_give_up : EndView → (last : ℕ) → Option ℕ
next_to_give_up e last = lowest (λ t. nat_lt last t && is_to_give_up e t) e.sender.tickets

-- What a moment gives up was abandoned before or is such a message, and no such message was abandoned before.
pub record GivesUpAlone (e : EndView) : Type 0 where
  pub alone : (t : ℕ) → abandoned (given_up (is_data_due e) e.sender e.moment) t ≡ true → (abandoned e.sender t ≡ true) ⊎ (is_to_give_up e t ≡ true)
  pub anew : (t : ℕ) → is_to_give_up e t ≡ true → abandoned e.sender t ≡ false
