use Rattle.std.proofs.Common.{sym, refl, ◌∙◌}
use Rattle.sctp_channels.proofs.RefusingLemmas.{refused_settles}
use Rattle.sctp_channels.proofs.channels.Channels.settle_ack.Goals as goal

pub returns-in-Ok-clause-step : goal.returns-in-Ok-clause-step
returns-in-Ok-clause-step c = λ v x stands.
    let told = c.in-Ok.ensures.step v x stands in
    rw told.0 (c.without_due.ensures, told.1)

pub returns-then-wants_memory-clause-step : goal.returns-then-wants_memory-clause-step
returns-then-wants_memory-clause-step c = λ v x stands. (c.in-Err.ensures.step v x stands).1

pub returns-else-wants_memory-clause-step : goal.returns-else-wants_memory-clause-step
returns-else-wants_memory-clause-step c = λ v x stands.
    let told = c.in-Err.ensures.step v x stands in
    rw (refused_settles v c.args.stream c.args.kept c.in-Err.why (sym c.wants_memory.ensures ∙ c.if-wants_memory.false) told.0) (refl, told.1)
