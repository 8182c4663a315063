use Rattle.std.proofs.Common.{arith}
use Rattle.std.proofs.lemmas.Grind.{common_steps}
use Rattle.sctp_cookie.specs.Hmac.{block_key}
use Rattle.sctp_cookie.proofs.hmac.block_key.Goals as goal

pub returns-then-key-gt-BLOCK_LENGTH : goal.returns-then-key-gt-BLOCK_LENGTH
unfolding block_key
returns-then-key-gt-BLOCK_LENGTH c = grind (arith, common_steps)

pub returns-else-key-gt-BLOCK_LENGTH : goal.returns-else-key-gt-BLOCK_LENGTH
unfolding block_key
returns-else-key-gt-BLOCK_LENGTH c = grind (arith, common_steps)
