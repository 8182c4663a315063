use Rattle.std.proofs.Common.{◌≡◌, refl}
use Rattle.sctp_model.specs.world.Events as meaning
use Rattle.sctp_send.specs.SenderAnswers.{lane_for}
use Rattle.sctp_association.specs.CallAnswers.{call_of, limited_call_of}
use Rattle.sctp_events.specs.Events.{side_meaning}
use Rattle.sctp_pair.specs.Happens.{Means}
use Rattle.sctp_pair.proofs.MemoryLemmas.{meant_takes, anyway}
use Rattle.sctp_pair.proofs.PromiseLemmas.{promised_step}
use Rattle.sctp_pair.proofs.pair.Pair.step.Goals as goal

pub returns-in-Open-clause-step : goal.returns-in-Open-clause-step
returns-in-Open-clause-step c = λ w stands.
    let s = c.open.ensures.step w stands in
    let e : meaning.Event = meaning.OpenBoth c.in-Open.a c.in-Open.b in
    let means : Means c.args.event.now e = rw c.in-Open.is refl in
    let step = s.1 in
    (e, s.0, means, step, promised_step c.a_run_passes_its_worlds.ensures.passes_on c.each_world_on_the_way_is_safe.ensures c.users_take_what_was_sent.ensures w s.0 e _ step, s.2)

pub returns-in-Later-clause-step : goal.returns-in-Later-clause-step
returns-in-Later-clause-step c = λ w stands.
    let s = c.go_on.ensures w stands in
    let e : meaning.Event = meaning.Later (side_meaning c.in-Later.side) c.in-Later.moment in
    let means : Means c.args.event.now e = rw c.in-Later.is refl in
    let step = s.1 in
    (e, s.0, means, step, promised_step c.a_run_passes_its_worlds.ensures.passes_on c.each_world_on_the_way_is_safe.ensures c.users_take_what_was_sent.ensures w s.0 e _ step, s.2)

pub returns-in-Moment-clause-step : goal.returns-in-Moment-clause-step
returns-in-Moment-clause-step c = λ w stands.
    let s = c.notify.ensures.step w stands in
    let e : meaning.Event = meaning.Moment (side_meaning c.in-Moment.side) in
    let means : Means c.args.event.now e = rw c.in-Moment.is refl in
    let step = s.1 in
    (e, s.0, means, step, promised_step c.a_run_passes_its_worlds.ensures.passes_on c.each_world_on_the_way_is_safe.ensures c.users_take_what_was_sent.ensures w s.0 e _ step, s.2)

pub returns-in-At-clause-step : goal.returns-in-At-clause-step
returns-in-At-clause-step c = λ w stands.
    let s = c.pass_time.ensures.step w stands in
    let e : meaning.Event = meaning.At c.in-At.moment in
    let means : Means c.args.event.now e = rw c.in-At.is refl in
    let step = s.1 in
    (e, s.0, means, step, promised_step c.a_run_passes_its_worlds.ensures.passes_on c.each_world_on_the_way_is_safe.ensures c.users_take_what_was_sent.ensures w s.0 e _ step, s.2)

pub returns-in-Drawing-clause-step : goal.returns-in-Drawing-clause-step
returns-in-Drawing-clause-step c = λ w stands.
    let s = c.set_draw.ensures w stands in
    let e : meaning.Event = meaning.Drawing c.in-Drawing.draw in
    let means : Means c.args.event.now e = rw c.in-Drawing.is refl in
    let step = s.1 in
    (e, s.0, means, step, promised_step c.a_run_passes_its_worlds.ensures.passes_on c.each_world_on_the_way_is_safe.ensures c.users_take_what_was_sent.ensures w s.0 e _ step, s.2)

pub returns-in-Connect-clause-step : goal.returns-in-Connect-clause-step
returns-in-Connect-clause-step c = λ w stands.
    let s = c.connect.ensures w stands in
    let e : meaning.Event = meaning.Connect c.in-Connect.draw in
    let means : Means c.args.event.now e = rw c.in-Connect.is refl in
    let step = s.1 in
    (e, s.0, means, step, promised_step c.a_run_passes_its_worlds.ensures.passes_on c.each_world_on_the_way_is_safe.ensures c.users_take_what_was_sent.ensures w s.0 e _ step, s.2)

pub returns-in-Build-clause-step : goal.returns-in-Build-clause-step
returns-in-Build-clause-step c = λ w stands.
    let s = c.build.ensures w stands in
    let e : meaning.Event = meaning.Build (side_meaning c.in-Build.side) in
    let means : Means c.args.event.now e = rw c.in-Build.is refl in
    let step = s.1 in
    (e, s.0, means, step, promised_step c.a_run_passes_its_worlds.ensures.passes_on c.each_world_on_the_way_is_safe.ensures c.users_take_what_was_sent.ensures w s.0 e _ step, s.2)

pub returns-in-Deliver-clause-step : goal.returns-in-Deliver-clause-step
returns-in-Deliver-clause-step c = λ w stands.
    let s = c.deliver.ensures.step w stands in
    let e : meaning.Event = meaning.Deliver (side_meaning c.in-Deliver.side) c.in-Deliver.number in
    let means : Means c.args.event.now e = rw c.in-Deliver.is refl in
    let step = s.1 in
    (e, s.0, means, step, promised_step c.a_run_passes_its_worlds.ensures.passes_on c.each_world_on_the_way_is_safe.ensures c.users_take_what_was_sent.ensures w s.0 e _ step, s.2)

pub returns-in-Send-clause-step : goal.returns-in-Send-clause-step
returns-in-Send-clause-step c = λ w stands.
    let s = c.send.ensures w stands in
    let e : meaning.Event = meaning.Send (side_meaning c.in-Send.side) (call_of (lane_for c.in-Send.stream c.in-Send.ordered) c.in-Send.payload_id c.in-Send.bytes.items c.in-Send.until) in
    let means : Means c.args.event.now e = rw c.in-Send.is refl in
    let step = rw c.deref-in-Send.ensures.value at s.1 in
    (e, s.0, means, step, promised_step c.a_run_passes_its_worlds.ensures.passes_on c.each_world_on_the_way_is_safe.ensures c.users_take_what_was_sent.ensures w s.0 e _ step, s.2)

pub returns-in-SendWithMaxRetransmits-clause-step : goal.returns-in-SendWithMaxRetransmits-clause-step
returns-in-SendWithMaxRetransmits-clause-step c = λ w stands.
    let x = c.in-SendWithMaxRetransmits in
    let s = c.send-in-SendWithMaxRetransmits.ensures w stands in
    let e : meaning.Event = meaning.Send (side_meaning x.side) (limited_call_of (lane_for x.stream x.ordered) x.payload_id x.bytes.items x.until x.max_retransmits) in
    let means : Means c.args.event.now e = rw x.is refl in
    let step = rw c.deref-in-SendWithMaxRetransmits.ensures.value at s.1 in
    (e, s.0, means, step, promised_step c.a_run_passes_its_worlds.ensures.passes_on c.each_world_on_the_way_is_safe.ensures c.users_take_what_was_sent.ensures w s.0 e _ step, s.2)

pub returns-in-Abandon-clause-step : goal.returns-in-Abandon-clause-step
returns-in-Abandon-clause-step c = λ w stands.
    let s = c.abandon.ensures.step w stands in
    let e : meaning.Event = meaning.Abandon (side_meaning c.in-Abandon.side) c.in-Abandon.ticket.0 in
    let means : Means c.args.event.now e = rw c.in-Abandon.is refl in
    let step = s.1 in
    (e, s.0, means, step, promised_step c.a_run_passes_its_worlds.ensures.passes_on c.each_world_on_the_way_is_safe.ensures c.users_take_what_was_sent.ensures w s.0 e _ step, s.2)

pub returns-in-Take-clause-step : goal.returns-in-Take-clause-step
returns-in-Take-clause-step c = λ w stands.
    let s = c.take.ensures.step w stands in
    let e : meaning.Event = meaning.Take (side_meaning c.in-Take.side) c.in-Take.stream in
    let means : Means c.args.event.now e = rw c.in-Take.is refl in
    let step = s.1 in
    (e, s.0, means, step, promised_step c.a_run_passes_its_worlds.ensures.passes_on c.each_world_on_the_way_is_safe.ensures c.users_take_what_was_sent.ensures w s.0 e _ step, s.2)

pub returns-in-Reset-clause-step : goal.returns-in-Reset-clause-step
returns-in-Reset-clause-step c = λ w stands.
    let s = c.reset.ensures.step w stands in
    let e : meaning.Event = meaning.Reset (side_meaning c.in-Reset.side) c.in-Reset.stream in
    let means : Means c.args.event.now e = rw c.in-Reset.is refl in
    let step = s.1 in
    (e, s.0, means, step, promised_step c.a_run_passes_its_worlds.ensures.passes_on c.each_world_on_the_way_is_safe.ensures c.users_take_what_was_sent.ensures w s.0 e _ step, s.2)

pub returns-in-WasReset-clause-step : goal.returns-in-WasReset-clause-step
returns-in-WasReset-clause-step c = λ w stands.
    let s = c.was_reset.ensures w stands in
    let e : meaning.Event = meaning.WasReset (side_meaning c.in-WasReset.side) in
    let means : Means c.args.event.now e = rw c.in-WasReset.is refl in
    let step = s.1 in
    (e, s.0, means, step, promised_step c.a_run_passes_its_worlds.ensures.passes_on c.each_world_on_the_way_is_safe.ensures c.users_take_what_was_sent.ensures w s.0 e _ step, s.2)

pub returns-in-Shutdown-clause-step : goal.returns-in-Shutdown-clause-step
returns-in-Shutdown-clause-step c = λ w stands.
    let s = c.shutdown.ensures w stands in
    let e : meaning.Event = meaning.Shutdown (side_meaning c.in-Shutdown.side) in
    let means : Means c.args.event.now e = rw c.in-Shutdown.is refl in
    let step = s.1 in
    (e, s.0, means, step, promised_step c.a_run_passes_its_worlds.ensures.passes_on c.each_world_on_the_way_is_safe.ensures c.users_take_what_was_sent.ensures w s.0 e _ step, s.2)

pub returns-in-Abort-clause-step : goal.returns-in-Abort-clause-step
returns-in-Abort-clause-step c = λ w stands.
    let s = c.abort.ensures w stands in
    let e : meaning.Event = meaning.Abort (side_meaning c.in-Abort.side) c.in-Abort.reason.items in
    let means : Means c.args.event.now e = rw c.in-Abort.is refl in
    let step = rw c.deref-in-Abort.ensures.value at s.1 in
    (e, s.0, means, step, promised_step c.a_run_passes_its_worlds.ensures.passes_on c.each_world_on_the_way_is_safe.ensures c.users_take_what_was_sent.ensures w s.0 e _ step, s.2)

pub returns-in-Foreign-clause-step : goal.returns-in-Foreign-clause-step
returns-in-Foreign-clause-step c = λ w stands.
    let s = c.foreign.ensures w stands in
    let e : meaning.Event = meaning.Foreign (side_meaning c.in-Foreign.side) s.0 in
    let reads = rw c.deref.ensures.value at s.2 in
    let means : Means c.args.event.now e = rw c.in-Foreign.is (s.0, reads, refl) in
    (e, s.1, means, s.3, promised_step c.a_run_passes_its_worlds.ensures.passes_on c.each_world_on_the_way_is_safe.ensures c.users_take_what_was_sent.ensures w s.1 e _ s.3, s.4)

-- ---- memory

pub returns-in-Open-clause-memory : goal.returns-in-Open-clause-memory
returns-in-Open-clause-memory c = λ w e stands means.
    let is : e ≡ meaning.OpenBoth c.in-Open.a c.in-Open.b = rw c.in-Open.is at means in
    meant_takes w _ e _ is (c.open.ensures.memory w stands)

pub returns-in-Moment-clause-memory : goal.returns-in-Moment-clause-memory
returns-in-Moment-clause-memory c = λ w e stands means.
    let is : e ≡ meaning.Moment (side_meaning c.in-Moment.side) = rw c.in-Moment.is at means in
    meant_takes w _ e _ is (c.notify.ensures.memory w stands)

pub returns-in-At-clause-memory : goal.returns-in-At-clause-memory
returns-in-At-clause-memory c = λ w e stands means.
    let is : e ≡ meaning.At c.in-At.moment = rw c.in-At.is at means in
    meant_takes w _ e _ is (c.pass_time.ensures.memory w stands)

pub returns-in-Deliver-clause-memory : goal.returns-in-Deliver-clause-memory
returns-in-Deliver-clause-memory c = λ w e stands means.
    let is : e ≡ meaning.Deliver (side_meaning c.in-Deliver.side) c.in-Deliver.number = rw c.in-Deliver.is at means in
    meant_takes w _ e _ is (c.deliver.ensures.memory w stands)

pub returns-in-Abandon-clause-memory : goal.returns-in-Abandon-clause-memory
returns-in-Abandon-clause-memory c = λ w e stands means.
    let is : e ≡ meaning.Abandon (side_meaning c.in-Abandon.side) c.in-Abandon.ticket.0 = rw c.in-Abandon.is at means in
    meant_takes w _ e _ is (c.abandon.ensures.memory w stands)

pub returns-in-Take-clause-memory : goal.returns-in-Take-clause-memory
returns-in-Take-clause-memory c = λ w e stands means.
    let is : e ≡ meaning.Take (side_meaning c.in-Take.side) c.in-Take.stream = rw c.in-Take.is at means in
    meant_takes w _ e _ is (c.take.ensures.memory w stands)

pub returns-in-Reset-clause-memory : goal.returns-in-Reset-clause-memory
returns-in-Reset-clause-memory c = λ w e stands means.
    let is : e ≡ meaning.Reset (side_meaning c.in-Reset.side) c.in-Reset.stream = rw c.in-Reset.is at means in
    meant_takes w _ e _ is (c.reset.ensures.memory w stands)

pub returns-in-Build-clause-memory : goal.returns-in-Build-clause-memory
returns-in-Build-clause-memory c = λ w e stands means.
    let is : e ≡ meaning.Build (side_meaning c.in-Build.side) = rw c.in-Build.is at means in
    meant_takes w _ e _ is (anyway c.build.result tt)

pub returns-in-Send-clause-memory : goal.returns-in-Send-clause-memory
returns-in-Send-clause-memory c = λ w e stands means.
    let is : e ≡ meaning.Send (side_meaning c.in-Send.side) (call_of (lane_for c.in-Send.stream c.in-Send.ordered) c.in-Send.payload_id c.in-Send.bytes.items c.in-Send.until) = rw c.in-Send.is at means in
    meant_takes w _ e _ is (anyway c.send.result tt)

pub returns-in-SendWithMaxRetransmits-clause-memory : goal.returns-in-SendWithMaxRetransmits-clause-memory
returns-in-SendWithMaxRetransmits-clause-memory c = λ w e stands means.
    let x = c.in-SendWithMaxRetransmits in
    let is : e ≡ meaning.Send (side_meaning x.side) (limited_call_of (lane_for x.stream x.ordered) x.payload_id x.bytes.items x.until x.max_retransmits) = rw x.is at means in
    meant_takes w _ e _ is (anyway c.send-in-SendWithMaxRetransmits.result tt)

pub returns-in-Abort-clause-memory : goal.returns-in-Abort-clause-memory
returns-in-Abort-clause-memory c = λ w e stands means.
    let is : e ≡ meaning.Abort (side_meaning c.in-Abort.side) c.in-Abort.reason.items = rw c.in-Abort.is at means in
    meant_takes w _ e _ is (anyway c.abort.result tt)

pub returns-in-Foreign-clause-memory : goal.returns-in-Foreign-clause-memory
returns-in-Foreign-clause-memory c = λ w e stands means.
    let brings = rw c.in-Foreign.is at means in
    let is : e ≡ meaning.Foreign (side_meaning c.in-Foreign.side) brings.0 = brings.2 in
    meant_takes w _ e _ is (anyway c.foreign.result tt)
