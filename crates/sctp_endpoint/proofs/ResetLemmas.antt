-- No more streams wait for their reset than there may be.
use Rattle.std.proofs.Common.{◌≡◌, ℕ, ◌≤◌, Bool, refl, length, min, not, arith}
use Rattle.std.proofs.lemmas.List.Filters.{length-filter_both}
use Rattle.sctp_model.specs.numbers.Limits.{STREAM_LIMIT}
use Rattle.sctp_model.specs.sender.Outgoing.{is_resetting}
use Rattle.sctp_model.specs.sender.SenderView.{SenderView}
use Rattle.sctp_model.specs.sender.Words.{count_up}
use Rattle.sctp_model.proofs.sender.WordLaws.{length-count_up}
use Rattle.sctp_send.specs.ResetAnswers.{resetting_streams}

pub few_resetting : (v : SenderView) → resetting_streams v ≤ STREAM_LIMIT
few_resetting v =
    let both = length-filter_both (λ (s : ℕ). is_resetting (v.resets.sending s)) (λ (s : ℕ). not (is_resetting (v.resets.sending s))) (λ s. refl) (count_up 0 (min v.streams STREAM_LIMIT)) in
    omega (arith, both, length-count_up 0 (min v.streams STREAM_LIMIT))
