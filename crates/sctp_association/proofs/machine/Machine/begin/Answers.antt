use Rattle.std.proofs.Common.{◌∙◌, ℕ, true, refl, ap, sym}
use Rattle.std.specs.Prelude.{◌-◌, min, Some}
use Rattle.sctp_model.specs.numbers.Limits.{FIRST_WAIT, LONGEST_WAIT}
use Rattle.sctp_model.specs.end.EndView.{EndView}
use Rattle.sctp_model.specs.end.EndView as model
use Rattle.sctp_model.specs.end.Clock.{due_in, turned, measured}
use Rattle.sctp_model.specs.end.Closing.{with_due}
use Rattle.sctp_model.proofs.PacedEnds.{unbeating}
use Rattle.sctp_model.specs.end.Opening.{joined, begun, cookie_trip, tags_of_body, terms_of_body}
use Rattle.sctp_cookie.specs.CookieTree.{content_meaning}
use Rattle.sctp_association.specs.MachineStands.{MachineStands}
use Rattle.sctp_association.proofs.MachineLemmas.{at_view}
use Rattle.sctp_association.proofs.JoinLemmas.{joined_there}
use Rattle.sctp_association.proofs.machine.Machine.begin.Goals as goal

pub returns-clause-step : goal.returns-clause-step
unfolding MachineStands
returns-clause-step c = λ v stands.
    let b = content_meaning c.args.content.now in
    let t = tags_of_body b in
    let d : model.Due = record (due_in (model.Open t model.Established) v.due) { cookie_ack = true } in
    let y : EndView = turned (model.Open t model.Established) (joined (terms_of_body b) b.rwnd v) in
    let x : EndView = record y { due = d } in
    let begins : EndView = measured (Some (cookie_trip v.moment b)) v.configuration.first_wait y in
    let trip = c.between.ensures ∙ ap (λ (n : ℕ). min (n - b.made) LONGEST_WAIT) stands.clock in
    at_view _ (begun b v) _ (ap (λ (z : EndView). with_due (record z.due { cookie_ack = true }) z) (unbeating begins stands.options.heartbeat)
    ∙ (ap (λ (n : ℕ). measured (Some (cookie_trip v.moment b)) n x) stands.options.first_wait ∙ ap (λ (n : ℕ). measured (Some n) FIRST_WAIT x) (sym trip))) (c.measure.ensures x (rw c.replace.ensures.after (joined_there _ v _ _ _ _ (terms_of_body b) b.rwnd (model.Open t model.Established) d stands c.pace_for.ensures
    c.of_cookie-terms.ensures refl (c.begin.ensures v.due t stands.due) (c.turn_timers.ensures t) c.in_ok-traffic.ensures)))
