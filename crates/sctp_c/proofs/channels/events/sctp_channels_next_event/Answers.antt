use Rattle.std.proofs.Common.{sym, subst}
use Rattle.std.specs.Prelude.{Option, Some}
use Rattle.sctp_channels.specs.ChannelsStand.{ChannelsStand}
use Rattle.sctp_c.specs.channels.Events.{TellsNext}
use Rattle.sctp_c.specs.declared.channels.held.Held.{Held}
use Rattle.sctp_c.specs.declared.codes.TheConstants.{OK, NOTHING}
use Rattle.sctp_c.proofs.EventLemmas.{copied_next, none_next, left_next, taken_next}
use Rattle.sctp_c.proofs.channels.events.sctp_channels_next_event.Goals as goal

pub returns-in-Message-clause-did : goal.returns-in-Message-clause-did
returns-in-Message-clause-did c = λ v x holds.
    let stands : ChannelsStand c.lend-held.result.now.channels v x = rw c.lend-held.ensures.value at holds in
    subst (λ (o : Option Held). TellsNext v x o (Some c.write.new.self) OK c.args.event.now c.message_numbers.result c.args.buffer.now c.write.new.buffer) (sym c.lend-held.ensures.value)
    (copied_next v x c.lend-held.result.now c.write.new.self _ _ _ _ _ _ _ (c.in-Message.ensures.did v x stands) c.in-Message.ensures.waits c.message_numbers.ensures.numbers c.message_numbers.ensures.small)

pub returns-in-Nothing-clause-did : goal.returns-in-Nothing-clause-did
returns-in-Nothing-clause-did c = λ v x holds.
    let stands : ChannelsStand c.lend-held.result.now.channels v x = rw c.lend-held.ensures.value at holds in
    subst (λ (o : Option Held). TellsNext v x o (Some c.write.new.self) NOTHING c.args.event.now c.args.event.now c.args.buffer.now c.write.new.buffer) (sym c.lend-held.ensures.value)
    (none_next v x c.lend-held.result.now c.write.new.self _ _ _ (c.in-Nothing.ensures.did v x stands) c.in-Nothing.ensures.waits)

pub returns-in-Other-clause-did : goal.returns-in-Other-clause-did
returns-in-Other-clause-did c = λ v x holds.
    let h = c.lend-held.result.now in
    let stands : ChannelsStand h.channels v x = rw c.lend-held.ensures.value at holds in
    let left = left_next v x h.waiting c.write.new.self _ _ (c.in-Other.ensures.did v x stands) in
    subst (λ (o : Option Held). TellsNext v x o (Some c.tell_next.new.self) c.tell_next.result c.args.event.now c.tell_next.new.event c.args.buffer.now c.tell_next.new.buffer) (sym c.lend-held.ensures.value)
    (taken_next v x h c.write.new.self c.tell_next.new.self _ _ _ _ _ _ c.in-Other.ensures.waits c.in-Other.ensures.kept (c.tell_next.ensures.did v x left))
