use Rattle.std.proofs.Common.{sym, ◌∙◌}
use Rattle.sctp_model.specs.end.EndView.{Completed}
use Rattle.sctp_model.specs.end.Clock.{closed}
use Rattle.sctp_model.specs.end.Closing.{awaits_complete}
use Rattle.sctp_model.specs.end.Acting.{CompleteNotAwaited, CompleteCompleted}
use Rattle.sctp_endpoint.proofs.closing.on_complete.Goals as goal

pub returns-in_default : goal.returns-in_default
returns-in_default c = λ v stands. (CompleteNotAwaited (c.in_default.ensures v stands awaits_complete), stands)

pub returns-then-not-awaits_shutdown_complete : goal.returns-then-not-awaits_shutdown_complete
returns-then-not-awaits_shutdown_complete c = λ v stands.
    (CompleteNotAwaited (rw (c.in-Some.ensures v stands) (sym c.awaits_shutdown_complete.ensures ∙ c.if-not-awaits_shutdown_complete.true)), stands)

pub returns : goal.returns
returns c = λ v stands. (
  closed Completed v,
  CompleteCompleted (rw (c.in-Some.ensures v stands) (sym c.awaits_shutdown_complete.ensures ∙ c.if-not-awaits_shutdown_complete.false)),
  c.close.ensures v stands,
)
