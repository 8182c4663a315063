use Rattle.std.proofs.Common.{refl, ◌∙◌}
use Rattle.std.specs.Prelude.{Ok, Err}
use Rattle.std.proofs.lemmas.Result.{err_from_is_err_and}
use Rattle.sctp_model.specs.end.Clock.{at_moment}
use Rattle.sctp_model.specs.end.PeerFaults.{FAULT}
use Rattle.sctp_model.specs.end.Strays as model
use Rattle.sctp_model.specs.end.Arriving.{DroppedUnread}
use Rattle.sctp_endpoint.specs.EndpointStands.{EndpointStands}
use Rattle.sctp_endpoint.specs.Counted.{counted}
use Rattle.sctp_endpoint.specs.declared.endpoint.Endpoint.{Endpoint}
use Rattle.sctp_endpoint.proofs.HandlingLemmas.{reads_none, reads_one, handled, answered_within}
use Rattle.sctp_endpoint.proofs.CountLemmas.{heard_sacks}
use Rattle.sctp_endpoint.proofs.LogLemmas.{moment_logs, handled_logs}
use Rattle.sctp_endpoint.proofs.endpoint.Endpoint.handle_packet.Goals as goal

-- ---- bytes that are no packet

pub returns-in-Err-clause-step : goal.returns-in-Err-clause-step
unfolding EndpointStands
returns-in-Err-clause-step c = λ v o stands read.
    rw (reads_none _ o read c.in-Err.ensures.packet) (at_moment v c.args.now, model.Dropped FAULT, DroppedUnread, refl, c.advance_clock.ensures v stands)

pub returns-in-Err-clause-logs : goal.returns-in-Err-clause-logs
unfolding EndpointStands
returns-in-Err-clause-logs c = λ v stands.
    let e : Endpoint = record { machine = c.advance_clock.new.self; tally = c.hear.new.self } in
    moment_logs v c.args.now e (c.sound.ensures v stands) (c.advance_clock.ensures v stands)

-- ---- a packet

pub returns-in_ok-arrive-in-Ok-clause-step : goal.returns-in_ok-arrive-in-Ok-clause-step
unfolding EndpointStands
returns-in_ok-arrive-in-Ok-clause-step c = λ v o stands read.
    let e : Endpoint = record { machine = c.arrive.new.machine; tally = c.hear-in-Ok.new.self } in
    handled (Ok c.arrive.new.told) v c.args.now c.args.draw c.args.bytes.now o _ e c.in-Ok.ensures.exact
    (reads_one _ o _ read c.in-Ok.ensures.packet c.in-Ok.ensures.fault) (c.in_ok-arrive-in-Ok.ensures.step v c.args.now (c.advance_clock.ensures v stands))

pub returns-in_ok-arrive-in-Ok-clause-within : goal.returns-in_ok-arrive-in-Ok-clause-within
unfolding EndpointStands
returns-in_ok-arrive-in-Ok-clause-within c = λ v stands.
    answered_within (Ok c.arrive.new.told) v c.args.now c.args.draw _ _ (c.in_ok-arrive-in-Ok.ensures.step v c.args.now (c.advance_clock.ensures v stands))

pub returns-in_ok-arrive-in-Ok-clause-logs : goal.returns-in_ok-arrive-in-Ok-clause-logs
unfolding EndpointStands
returns-in_ok-arrive-in-Ok-clause-logs c = λ v stands.
    let e : Endpoint = record { machine = c.arrive.new.machine; tally = c.hear-in-Ok.new.self } in
    handled_logs (Ok c.arrive.new.told) v c.args.now c.args.draw _ e (c.sound.ensures v stands)
    (handled (Ok c.arrive.new.told) v c.args.now c.args.draw c.args.bytes.now _ _ e c.in-Ok.ensures.exact refl (c.in_ok-arrive-in-Ok.ensures.step v c.args.now (c.advance_clock.ensures v stands)))

pub returns-in_ok-arrive-in-Ok-clause-counts : goal.returns-in_ok-arrive-in-Ok-clause-counts
unfolding EndpointStands counted
returns-in_ok-arrive-in-Ok-clause-counts c = λ v o stands read.
    rw (reads_one _ o _ read c.in-Ok.ensures.packet c.in-Ok.ensures.fault)
    (c.hear-in-Ok.ensures
    ∙ heard_sacks (Ok c.arrive.new.told) _ c.arrive.new.sacks c.in-Ok.packet.chunks _ (c.in_ok-arrive-in-Ok.ensures.sacks (at_moment v c.args.now) (c.advance_clock.ensures v stands)))

-- ---- an allocation that failed

pub returns-in_err-arrive-in-Ok-clause-step : goal.returns-in_err-arrive-in-Ok-clause-step
unfolding EndpointStands
returns-in_err-arrive-in-Ok-clause-step c = λ v o stands read.
    let e : Endpoint = record c.args.self.now { machine = c.arrive.new.machine } in
    let p = err_from_is_err_and c.from_residual.result c.from_residual.ensures.1 in
    rw p.1 (handled (Err p.0) v c.args.now c.args.draw c.args.bytes.now o _ e c.in-Ok.ensures.exact
    (reads_one _ o _ read c.in-Ok.ensures.packet c.in-Ok.ensures.fault) (c.in_err-arrive-in-Ok.ensures.step v c.args.now (c.advance_clock.ensures v stands)))

pub returns-in_err-arrive-in-Ok-clause-logs : goal.returns-in_err-arrive-in-Ok-clause-logs
unfolding EndpointStands
returns-in_err-arrive-in-Ok-clause-logs c = λ v stands.
    let e : Endpoint = record c.args.self.now { machine = c.arrive.new.machine } in
    let p = err_from_is_err_and c.from_residual.result c.from_residual.ensures.1 in
    handled_logs (Err p.0) v c.args.now c.args.draw _ e (c.sound.ensures v stands)
    (handled (Err p.0) v c.args.now c.args.draw c.args.bytes.now _ _ e c.in-Ok.ensures.exact refl (c.in_err-arrive-in-Ok.ensures.step v c.args.now (c.advance_clock.ensures v stands)))
