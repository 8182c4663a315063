use Rattle.sctp_model.specs.end.Strays.{listens}
use Rattle.sctp_wire.specs.ChunkTree.{init_meaning}
use Rattle.sctp_opening.proofs.StrayLemmas.{none_in_init, none_in_shutdown_ack}
use Rattle.sctp_opening.proofs.outside.Outside.hear_first.Goals as goal

pub returns-in-Init-clause-answer : goal.returns-in-Init-clause-answer
returns-in-Init-clause-answer c = λ e outside.
    rw (c.in-Init.is, none_in_init (listens e) e c.args.tag (init_meaning c.in-Init.offer)) (c.hear_init.ensures.answer e c.args.tag outside)

pub returns-in-Init-clause-memory : goal.returns-in-Init-clause-memory
returns-in-Init-clause-memory c = λ e outside. rw c.in-Init.is (c.hear_init.ensures.memory e c.args.tag outside)

pub returns-in-ShutdownAck-clause-answer : goal.returns-in-ShutdownAck-clause-answer
returns-in-ShutdownAck-clause-answer c = λ e outside.
    rw (c.in-ShutdownAck.is, none_in_shutdown_ack (listens e) e c.args.tag) (c.complete.ensures.answer e c.args.self.now.draw outside)
