use Rattle.sctp_association.proofs.FillLemmas.{chunks_ok, view_ok, tickets_ok}
use Rattle.sctp_association.proofs.build.filling.fill_from.Goals as goal

pub returns-clause-chunks : goal.returns-clause-chunks
returns-clause-chunks g c = λ s stands. chunks_ok c.fill.result g.F.Framing.format s c.args.packet.now c.fill.new.packet c.fill.new.self (c.fill.ensures.step s stands)

pub returns-clause-step : goal.returns-clause-step
returns-clause-step g c = λ s stands. view_ok c.fill.result g.F.Framing.format s c.args.packet.now c.fill.new.packet c.fill.new.self (c.fill.ensures.step s stands)

pub returns-clause-tickets : goal.returns-clause-tickets
returns-clause-tickets g c = λ s stands. tickets_ok c.fill.result g.F.Framing.format s c.args.packet.now c.fill.new.packet c.fill.new.self (c.fill.ensures.step s stands)
