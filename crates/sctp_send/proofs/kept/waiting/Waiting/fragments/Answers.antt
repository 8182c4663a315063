use Rattle.std.proofs.Common.{arith}
use Rattle.sctp_send.proofs.kept.waiting.Waiting.fragments.Goals as goal

pub returns : goal.returns
returns c = λ size own. omega (arith, own.many, own.few)
