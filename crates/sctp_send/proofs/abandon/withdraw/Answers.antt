use Rattle.std.proofs.Common.{◌∙◌, ap, map}
use Rattle.sctp_send.specs.SenderFields.{queued_by}
use Rattle.sctp_send.specs.PartsKept.{QueueKept}
use Rattle.sctp_send.proofs.abandon.WithdrawLemmas.{withdrawn_is, withdrawn_place}
use Rattle.sctp_send.proofs.abandon.withdraw.Goals as goal

pub returns-clause-size : goal.returns-clause-size
returns-clause-size c =
    let taken = c.remove-withdrawn in
    ap (λ (w : QueueKept). w.size) (withdrawn_is c.place_of-place.result c.args.queue.now taken.new.self taken.result taken.ensures.some taken.ensures.message taken.ensures.none)

pub returns-clause-items : goal.returns-clause-items
returns-clause-items c = λ size.
    let taken = c.remove-withdrawn in
    ap (λ (w : QueueKept). map (queued_by size) w.items) (withdrawn_is c.place_of-place.result c.args.queue.now taken.new.self taken.result taken.ensures.some taken.ensures.message taken.ensures.none)
    ∙ withdrawn_place size c.args.ticket c.place_of-place.result c.args.queue.now.items (c.place_of-place.ensures size)
