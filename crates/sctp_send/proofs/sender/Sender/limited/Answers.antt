use Rattle.sctp_send.specs.SenderStands.{StandsFor}
use Rattle.sctp_send.proofs.abandon.LimitLaws.{gone_is_not, worn_only}
use Rattle.sctp_send.proofs.sender.Sender.limited.Goals as goal

pub returns : goal.returns
unfolding StandsFor
returns g c = record {
  gone = λ v stands t on. gone_is_not g.F.Framing.format v t stands.reached on;
  only = λ v stands test t on off. worn_only g.F.Framing.format v test t stands.reached on off;
}
