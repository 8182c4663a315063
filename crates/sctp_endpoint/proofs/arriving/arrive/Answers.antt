use Rattle.std.proofs.Common.{refl, sym, ◌∙◌}
use Rattle.sctp_model.specs.end.Clock.{at_moment}
use Rattle.sctp_model.specs.end.PeerFaults.{PORTS, TAG}
use Rattle.sctp_model.specs.end.Strays as model
use Rattle.sctp_model.specs.end.Arriving.{Elsewhere, NotOurs, ReadAs}
use Rattle.sctp_endpoint.proofs.ArrivingLemmas.{arrived_heard}
use Rattle.sctp_endpoint.proofs.CountLemmas.{if_taken}
use Rattle.sctp_endpoint.proofs.arriving.arrive.Goals as goal

pub returns-then-not-has_ports-clause-step : goal.returns-then-not-has_ports-clause-step
returns-then-not-has_ports-clause-step c = λ e now stands.
    (at_moment e now, model.Dropped PORTS, ReadAs _ _ _ (Elsewhere (sym (c.has_ports.ensures _ stands) ∙ c.if-not-has_ports.true)), refl, tt, stands)

pub returns-then-not-passes-clause-step : goal.returns-then-not-passes-clause-step
returns-then-not-passes-clause-step c = λ e now stands. (
  at_moment e now,
  model.Dropped TAG,
  ReadAs _ _ _ (NotOurs (sym (c.has_ports.ensures _ stands) ∙ c.if-not-has_ports.false) (sym (c.passes.ensures _ stands) ∙ c.if-not-passes.true)),
  refl,
  tt,
  stands,
)

pub returns-then-has_association-clause-step : goal.returns-then-has_association-clause-step
returns-then-has_association-clause-step c = λ e now stands.
    arrived_heard e now _ _
    (record { ports = sym (c.has_ports.ensures _ stands) ∙ c.if-not-has_ports.false; tag = sym (c.passes.ensures _ stands) ∙ c.if-not-passes.false })
    (sym (c.has_association.ensures _ stands) ∙ c.if-has_association.true) _ _ _ _ c.none.ensures (c.missed_below-from.ensures _ stands) (c.hear.ensures.step _ stands)

pub returns-clause-step : goal.returns-clause-step
returns-clause-step c = λ e now stands.
    c.arrive_outside.ensures.step e now stands
    (record { ports = sym (c.has_ports.ensures _ stands) ∙ c.if-not-has_ports.false; tag = sym (c.passes.ensures _ stands) ∙ c.if-not-passes.false })
    (sym (c.has_association.ensures _ stands) ∙ c.if-has_association.false)

pub returns-then-has_association-clause-sacks : goal.returns-then-has_association-clause-sacks
returns-then-has_association-clause-sacks c = λ v stands. if_taken c.hear.result c.hear.new.told c.args.sacks.now c.hear.new.sacks c.args.packet.chunks c.args.packet.chunks refl c.hear.ensures.sacks
