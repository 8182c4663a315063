-- What a request to reset streams says, and how many streams wait for their reset, in terms of a view that the sender stands for.
use Rattle.std.specs.Prelude.{◌≡◌, ℕ, min, List, length, filter, Some}
use Rattle.sctp_model.specs.numbers.Limits.{STREAM_LIMIT}
use Rattle.sctp_model.specs.sender.Outgoing.{Request, is_resetting}
use Rattle.sctp_model.specs.sender.Words.{count_up}
use Rattle.sctp_model.specs.sender.SenderView.{SenderView}
use Rattle.sctp_model.specs.sender.Resetting.{request_said}
use Rattle.sctp_send.specs.ResetsKept.{IsLastMade}
use Rattle.sctp_send.specs.declared.resetting.EarlierRequest.{EarlierRequest}

-- how many streams that a request may name wait for their reset
abbrev pub resetting_streams : SenderView → ℕ
resetting_streams v = length (filter (λ s. is_resetting (v.resets.sending s)) (count_up 0 (min v.streams STREAM_LIMIT)))

-- The request that waits says this (RFC 6525, 4.1).
pub record IsRequest (v : SenderView) (number last : ℕ) (streams : List ℕ) : Type 0 where
  pub request : Request
  pub waits : v.resets.pending ≡ Some request
  pub says : request_said v request ≡ record { number = number; last = last; streams = streams }

-- This is the last request that was made, if there was one. Hidden from the crates above, which know it by the clauses alone.
unfoldable pub WasMade : EarlierRequest → SenderView → Type 0
WasMade r v = IsLastMade v.streams r.request v.resets
