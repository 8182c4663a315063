use Rattle.sctp_association.specs.MachineStands.{MachineStands}
use Rattle.sctp_association.proofs.MachineLemmas.{with_due}
use Rattle.sctp_association.proofs.machine.Machine.resend.Goals as goal

pub returns-in-Init : goal.returns-in-Init
unfolding MachineStands
returns-in-Init c = λ v stands. rw c.in-Init.is (with_due _ v _ _ stands (c.repeat_init.ensures v.due stands.due))

pub returns-in-Cookie : goal.returns-in-Cookie
unfolding MachineStands
returns-in-Cookie c = λ v stands. rw c.in-Cookie.is (with_due _ v _ _ stands (c.repeat_echo.ensures v.due stands.due))

pub returns-in-Fragments : goal.returns-in-Fragments
returns-in-Fragments c = λ v stands. rw c.in-Fragments.is (c.repeat_fragments.ensures v stands)

pub returns-in-Shutdown : goal.returns-in-Shutdown
unfolding MachineStands
returns-in-Shutdown c = λ v stands. rw c.in-Shutdown.is (with_due _ v _ _ stands (c.owe_shutdown.ensures v.due stands.due))

pub returns-in-ShutdownAck : goal.returns-in-ShutdownAck
unfolding MachineStands
returns-in-ShutdownAck c = λ v stands. rw c.in-ShutdownAck.is (with_due _ v _ _ stands (c.owe_shutdown_ack.ensures v.due stands.due))

pub returns-in-Reset : goal.returns-in-Reset
returns-in-Reset c = λ v stands. rw c.in-Reset.is (c.repeat_request.ensures v stands)
