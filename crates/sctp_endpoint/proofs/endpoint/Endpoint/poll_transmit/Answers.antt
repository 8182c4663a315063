use Rattle.std.proofs.Common.{ℕ, List, ◌++◌, sym, subst, ap, ◌∙◌}
use Rattle.sctp_model.specs.end.Clock.{at_moment}
use Rattle.sctp_outcomes.specs.Kept.{numbered}
use Rattle.sctp_outcomes.specs.ToldOnce.{NoTicketTwice}
use Rattle.sctp_outcomes.proofs.logs.Built.{builds_add_numbers}
use Rattle.sctp_endpoint.specs.EndpointStands.{EndpointStands}
use Rattle.sctp_endpoint.specs.declared.endpoint.Endpoint.{Endpoint}
use Rattle.sctp_endpoint.specs.Counted.{counted}
use Rattle.sctp_endpoint.proofs.CountLemmas.{counts_sent}
use Rattle.sctp_endpoint.proofs.LogLemmas.{no_packet_logs, few_told}
use Rattle.sctp_endpoint.proofs.endpoint.Endpoint.poll_transmit.Goals as goal

pub returns-in-Some-clause-step : goal.returns-in-Some-clause-step
unfolding EndpointStands
returns-in-Some-clause-step c = λ v stands.
    let b = rw c.in-Some.is at c.in_ok-built.ensures.built v stands in
    record { chunks = b.chunks; after = b.after; builds = b.builds; some = b.some; packet = b.packet; size = b.size; within = b.within; tickets = b.tickets; stands = b.stands }

pub returns-in-None-clause-step : goal.returns-in-None-clause-step
unfolding EndpointStands
returns-in-None-clause-step c = λ v stands. rw c.in-None.is at c.in_ok-built.ensures.built v stands

pub returns-in-Some-clause-logs : goal.returns-in-Some-clause-logs
unfolding EndpointStands
returns-in-Some-clause-logs c = λ v stands.
    let b = rw c.in-Some.is at c.in_ok-built.ensures.built v stands in
    let adds = builds_add_numbers v c.args.now b.chunks b.after (c.sound.ensures v stands) b.builds in
    (b.after, adds, adds.numbers ∙ ap (λ (ts : List ℕ). numbered v ++ ts) (sym b.tickets), b.stands)

pub returns-in-Some-clause-anew : goal.returns-in-Some-clause-anew
unfolding EndpointStands
returns-in-Some-clause-anew c = λ v stands.
    let b = rw c.in-Some.is at c.in_ok-built.ensures.built v stands in
    let adds = builds_add_numbers v c.args.now b.chunks b.after (c.sound.ensures v stands) b.builds in
    subst NoTicketTwice (adds.numbers ∙ ap (λ (ts : List ℕ). numbered v ++ ts) (sym b.tickets)) (c.tickets_are_apart.ensures b.after b.stands)

pub returns-in-None-clause-anew : goal.returns-in-None-clause-anew
returns-in-None-clause-anew c = λ v stands. tt

pub returns-in-None-clause-logs : goal.returns-in-None-clause-logs
unfolding EndpointStands
returns-in-None-clause-logs c = λ v stands.
    let e : Endpoint = record { machine = c.build.new.self; tally = c.args.self.now.tally } in
    no_packet_logs v c.args.now e (c.sound.ensures v stands) (rw c.in-None.is at c.in_ok-built.ensures.built v stands)

pub returns-in-Some-clause-few : goal.returns-in-Some-clause-few
unfolding EndpointStands
returns-in-Some-clause-few c = λ v stands.
    let b = rw c.in-Some.is at c.in_ok-built.ensures.built v stands in
    few_told _ _ v.configuration.limit b.tickets (c.packets_begin_few.ensures v stands c.args.now b.chunks b.after b.builds) (rw (c.config.ensures v stands) at c.limit.ensures.configured).limit.1

pub returns-in-None-clause-few : goal.returns-in-None-clause-few
returns-in-None-clause-few c = λ v stands. tt

pub returns-in-Some-clause-counts : goal.returns-in-Some-clause-counts
unfolding EndpointStands counted
returns-in-Some-clause-counts c = λ v stands.
    counts_sent (at_moment v c.args.now) c.in-Some.built c.build.new.self c.owes_sack-was_due.result c.owes_sack.result c.args.self.now.tally c.send.new.self
    c.acknowledge.new.self c.send_chunks.new.self (rw c.in-Some.is at c.in_ok-built.ensures.built v stands) (c.owes_sack-was_due.ensures v stands) c.owes_sack.ensures
    c.send.ensures c.acknowledge.ensures c.send_chunks.ensures
