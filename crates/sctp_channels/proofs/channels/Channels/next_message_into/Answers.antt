use Rattle.std.proofs.Common.{None, sym, subst, refl}
use Rattle.sctp_channels.specs.Events.{Reported, next_report, with_freed}
use Rattle.sctp_channels.specs.Telling.{Tells}
use Rattle.sctp_channels.specs.Writing.{Writes}
use Rattle.sctp_channels.proofs.FreedLemmas.{writes_freed}
use Rattle.sctp_channels.proofs.channels.Channels.next_message_into.Goals as goal

pub returns-in-First-clause-did : goal.returns-in-First-clause-did
returns-in-First-clause-did c = λ v x stands.
    let comes = c.in-First.ensures.comes v x stands in
    writes_freed (next_report v x) v x c.write_first.result c.write_first.new.self c.args.buffer.now c.write_first.new.buffer
    (subst (λ (r : Reported). Writes r v x c.write_first.result c.write_first.new.self c.args.buffer.now c.write_first.new.buffer) (sym comes.0)
    (c.write_first.ensures.did v x (c.upcoming.ensures.same v x stands) comes.1 comes.2))

pub returns-in-Left-clause-did : goal.returns-in-Left-clause-did
returns-in-Left-clause-did c = λ v x stands.
    let comes = c.in-Left.ensures.comes v x stands in
    writes_freed (next_report v x) v x c.write_left.result c.write_left.new.self c.args.buffer.now c.write_left.new.buffer
    (subst (λ (r : Reported). Writes r v x c.write_left.result c.write_left.new.self c.args.buffer.now c.write_left.new.buffer) (sym comes.0)
    (c.write_left.ensures.did v x (c.upcoming.ensures.same v x stands) comes.1 comes.2))

pub returns-in-Other-clause-did : goal.returns-in-Other-clause-did
returns-in-Other-clause-did c = λ v x stands. (λ s k is. absurd (c.in-Other.ensures.comes v x stands s k is), c.upcoming.ensures.same v x stands, refl)

pub returns-in-Nothing-clause-did : goal.returns-in-Nothing-clause-did
returns-in-Nothing-clause-did c = λ v x stands.
    (subst (λ (r : Reported). Tells (with_freed r) None c.upcoming.new.self) (sym (c.in-Nothing.ensures.comes v x stands)) (record { report = refl; stands = c.upcoming.ensures.same v x stands }), refl)
