use Rattle.std.proofs.Common.{◌<◌, sym, subst, arith}
use Rattle.sctp_model.specs.sender.SenderView.{SenderView}
use Rattle.sctp_model.specs.sender.Reached.{IsReached, Begins}
use Rattle.sctp_model.specs.end.EndView.{Configuration, format_of}
use Rattle.sctp_association.specs.MachineStands.{MachineStands}
use Rattle.sctp_association.proofs.MachineLemmas.{joined, unjoined}
use Rattle.sctp_association.proofs.machine.Machine.reached.Goals as goal

pub returns-in-Unjoined-clause-fragment : goal.returns-in-Unjoined-clause-fragment
unfolding MachineStands
returns-in-Unjoined-clause-fragment c = λ v stands.
    let least = c.fragment-fragment.ensures.least in
    let exact = c.fragment-fragment.ensures.exact in
    subst (λ (x : Configuration). 0 < x.fragment) stands.configuration (omega (arith, least, exact))

pub returns-in-Joined-clause-fragment : goal.returns-in-Joined-clause-fragment
unfolding MachineStands
returns-in-Joined-clause-fragment c = λ v stands.
    let least = c.fragment-fragment.ensures.least in
    let exact = c.fragment-fragment.ensures.exact in
    subst (λ (x : Configuration). 0 < x.fragment) stands.configuration (omega (arith, least, exact))

pub returns-in-Unjoined-clause-sender : goal.returns-in-Unjoined-clause-sender
unfolding MachineStands
returns-in-Unjoined-clause-sender c = λ v stands.
    let least = c.fragment-fragment.ensures.least in
    let exact = c.fragment-fragment.ensures.exact in
    let some = subst (λ (x : Configuration). 0 < x.fragment) stands.configuration (omega (arith, least, exact)) in
    subst (λ (x : SenderView). IsReached (format_of v) x) (sym (unjoined _ _ v c.in-Unjoined.is stands).sender) (Begins 0 0 v.configuration.fragment 0 _ _ some)

pub returns-in-Joined-clause-sender : goal.returns-in-Joined-clause-sender
unfolding MachineStands
returns-in-Joined-clause-sender c = λ v stands. c.reached.ensures _ v.sender v.receiver (joined _ _ v c.in-Joined.is stands).traffic
