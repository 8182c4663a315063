use Rattle.std.proofs.Common.{map, ◌∙◌, arith}
use Rattle.sctp_send.specs.SenderFields.{queued_by}
use Rattle.sctp_send.proofs.resetting.StillLemmas.{next_waits}
use Rattle.sctp_send.proofs.resetting.still.waits_on.Goals as goal

pub returns : goal.returns
returns c = λ size low. c.is_some.ensures ∙ next_waits c.args.stream c.saturating_add.result (map (queued_by size) c.args.queue.now.items) c.next_on.result (omega (arith, c.saturating_add.ensures, low)) (c.next_on.ensures.next size)
