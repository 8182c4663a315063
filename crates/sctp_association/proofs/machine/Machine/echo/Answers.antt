use Rattle.std.proofs.Common.{refl, sym, true}
use Rattle.sctp_model.specs.end.EndView as model
use Rattle.sctp_model.specs.end.Clock.{due_in}
use Rattle.sctp_model.specs.end.Opening.{ack_causes, terms_of_ack}
use Rattle.sctp_wire.specs.ChunkTree.{init_meaning}
use Rattle.sctp_association.specs.MachineStands.{MachineStands}
use Rattle.sctp_association.proofs.JoinLemmas.{joined_there}
use Rattle.sctp_association.proofs.machine.Machine.echo.Goals as goal

pub returns-clause-step : goal.returns-clause-step
unfolding MachineStands
returns-clause-step c = λ v stands.
    let m = init_meaning c.args.offer.now in
    let d = c.args.draw in
    let xs = c.args.cookie.now in
    let t : model.Tags = record { own = d.tag; peer = m.tag } in
    let reported = c.in_ok-reported.ensures v m (sym stands.configuration) refl stands.due.causes in
    rw c.replace.ensures.after (joined_there _ v _ _ _ _ (terms_of_ack v.configuration d m) m.rwnd (model.Echoing t xs) (record (due_in (model.Echoing t xs) v.due) { cookie_echo = true; causes = ack_causes v m }) stands c.pace_for.ensures
    (rw (← stands.configuration) c.of_init_ack-terms.ensures) (rw (c.in_ok-echoed.ensures, c.tag.ensures.exact) refl)
    (c.echo.ensures v.due t xs (ack_causes v m) stands.due reported) (c.echo_timers.ensures t xs) c.in_ok-traffic.ensures)
