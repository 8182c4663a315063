use Rattle.sctp_send.proofs.resetting.StillLemmas.{not_still}
use Rattle.sctp_send.proofs.resetting.still.is_still.Goals as goal

pub returns-then-is_out_at : goal.returns-then-is_out_at
returns-then-is_out_at c = λ size low. not_still _ _ _ (c.is_out_at.ensures size c.if-is_out_at.true)
