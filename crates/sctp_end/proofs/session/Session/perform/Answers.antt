use Rattle.sctp_end.specs.Performing.{TellsNext, TellsState, TellsCounts, TellsHeld, TellsReassembly}
use Rattle.sctp_end.proofs.session.Session.perform.Goals as goal

pub returns-in-Connect : goal.returns-in-Connect
returns-in-Connect c = rw c.in-Connect.is c.connect.ensures

pub returns-in-NewDraw : goal.returns-in-NewDraw
returns-in-NewDraw c = rw c.in-NewDraw.is c.redraw.ensures

pub returns-in-At : goal.returns-in-At
returns-in-At c = rw c.in-At.is c.pass.ensures

pub returns-in-Packet : goal.returns-in-Packet
returns-in-Packet c = rw c.in-Packet.is c.hear.ensures

pub returns-in-Build : goal.returns-in-Build
returns-in-Build c = rw c.in-Build.is c.build.ensures

pub returns-in-Send : goal.returns-in-Send
returns-in-Send c = rw c.in-Send.is c.send.ensures

pub returns-in-SendWithMaxRetransmits : goal.returns-in-SendWithMaxRetransmits
returns-in-SendWithMaxRetransmits c = rw c.in-SendWithMaxRetransmits.is c.send_with_max_retransmits.ensures

pub returns-in-Abandon : goal.returns-in-Abandon
returns-in-Abandon c = rw c.in-Abandon.is c.abandon.ensures

pub returns-in-Acknowledged : goal.returns-in-Acknowledged
returns-in-Acknowledged c = rw c.in-Acknowledged.is c.acknowledged.ensures

pub returns-in-Abandoned : goal.returns-in-Abandoned
returns-in-Abandoned c = rw c.in-Abandoned.is c.abandoned.ensures

pub returns-in-Take : goal.returns-in-Take
returns-in-Take c = rw c.in-Take.is c.take.ensures

pub returns-in-Reset : goal.returns-in-Reset
returns-in-Reset c = rw c.in-Reset.is c.reset.ensures

pub returns-in-Resets : goal.returns-in-Resets
returns-in-Resets c = rw c.in-Resets.is c.resets.ensures

pub returns-in-Shutdown : goal.returns-in-Shutdown
returns-in-Shutdown c = rw c.in-Shutdown.is c.shutdown.ensures

pub returns-in-Abort : goal.returns-in-Abort
returns-in-Abort c = rw c.in-Abort.is c.abort.ensures

pub returns-in-Next : goal.returns-in-Next
returns-in-Next c = rw c.in-Next.is (λ v stands. (v, TellsNext _ (c.next_moment.ensures v stands), stands))

pub returns-in-State : goal.returns-in-State
returns-in-State c = rw c.in-State.is (λ v stands. (v, TellsState _ _ (c.state.ensures v stands) (c.ended.ensures v stands), stands))

pub returns-in-Held : goal.returns-in-Held
returns-in-Held c = rw c.in-Held.is (λ v stands. (v, TellsHeld _ (c.held_bytes.ensures.held v stands), stands))

pub returns-in-Reassembly : goal.returns-in-Reassembly
returns-in-Reassembly c = rw c.in-Reassembly.is (λ v stands. (v, TellsReassembly _ (c.reassembly_bytes.ensures v stands), stands))

pub returns-in-Status : goal.returns-in-Status
returns-in-Status c = rw c.in-Status.is c.status.ensures

pub returns-in-Counts : goal.returns-in-Counts
returns-in-Counts c = rw c.in-Counts.is (λ v stands. (v, TellsCounts _ c.counts.ensures.counts (c.counts.ensures.abandoned v stands), stands))

pub returns-in-Path : goal.returns-in-Path
returns-in-Path c = rw c.in-Path.is c.path.ensures
