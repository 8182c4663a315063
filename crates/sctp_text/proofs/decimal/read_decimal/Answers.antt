use Rattle.sctp_text.proofs.Decimals.{no_text, refused}
use Rattle.sctp_text.proofs.decimal.read_decimal.Goals as goal

pub returns-in_err-text : goal.returns-in_err-text
returns-in_err-text c = rw c.from_residual.ensures (λ n small is. no_text _ _ (refused _ _ _ _ c.from_utf8.ensures.cases c.in_err-text.ensures.value) is)
