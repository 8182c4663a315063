use Rattle.std.proofs.Common.{◌∙◌, refl, sym, subst}
use Rattle.sctp_model.specs.wire.Typed.{WritesTyped}
use Rattle.sctp_model.specs.end.Reports.{item}
use Rattle.sctp_association.proofs.ReportLemmas.{causes_by, reported}
use Rattle.sctp_association.proofs.state.carried.WaitingCauses.report.Goals as goal

pub returns-then-not-has_room-clause-step : goal.returns-then-not-has_room-clause-step
returns-then-not-has_room-clause-step c = λ e configured w.
    let x = item c.args.cause c.args.value.now in
    let past = sym c.if-not-has_room.true ∙ c.has_room.ensures.exact e x configured w refl in
    subst (WritesTyped c.args.self.now.bytes.items) (sym (causes_by e x _ past)) w

pub returns-clause-step : goal.returns-clause-step
returns-clause-step c = λ e configured w.
    let x = item c.args.cause c.args.value.now in
    let fits = sym c.if-not-has_room.false ∙ c.has_room.ensures.exact e x configured w refl in
    reported e x _ c.put_short.result fits (c.put_short.ensures.writes e.due.causes w)
