use Rattle.std.proofs.Common.{refl}
use Rattle.sctp_send.proofs.kept.counts.Counts.lower.Goals as goal

pub returns : goal.returns
returns c = λ size. rw (c.lowest-self.ensures, c.lowest-self-2.ensures, c.is_repeat.ensures size, c.is_first_sending.ensures size) refl
