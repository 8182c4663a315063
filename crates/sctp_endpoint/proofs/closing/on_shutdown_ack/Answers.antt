use Rattle.std.proofs.Common.{false, sym, ◌∙◌}
use Rattle.sctp_model.specs.wire.Chunk.{ShutdownComplete}
use Rattle.sctp_model.specs.end.EndView.{Completed}
use Rattle.sctp_model.specs.end.Clock.{closed}
use Rattle.sctp_model.specs.end.Closing.{awaits_ack}
use Rattle.sctp_model.specs.end.PeerFaults.{packet_to}
use Rattle.sctp_model.specs.end.Acting.{AckNotAwaited, AckCompletes}
use Rattle.sctp_association.specs.StageMeans.{tags_meaning, stage_meaning}
use Rattle.sctp_endpoint.proofs.closing.on_shutdown_ack.Goals as goal

pub returns-in_default-clause-step : goal.returns-in_default-clause-step
returns-in_default-clause-step c = λ v stands. (AckNotAwaited (c.in_default.ensures v stands awaits_ack), stands)

pub returns-then-not-awaits_shutdown_ack-clause-step : goal.returns-then-not-awaits_shutdown_ack-clause-step
returns-then-not-awaits_shutdown_ack-clause-step c = λ v stands.
    (AckNotAwaited (rw (c.in-Some.ensures v stands) (sym c.awaits_shutdown_ack.ensures ∙ c.if-not-awaits_shutdown_ack.true)), stands)

pub returns-clause-step : goal.returns-clause-step
returns-clause-step c = λ v stands.
    let o = c.in-Some.opened in
    let made = c.in_ok-complete.ensures.step v stands in (
      closed Completed v,
      packet_to v.configuration o.tags.peer (ShutdownComplete false),
      AckCompletes (tags_meaning o.tags) (stage_meaning o.stage) (c.in-Some.ensures v stands)
          (sym c.awaits_shutdown_ack.ensures ∙ c.if-not-awaits_shutdown_ack.false),
      made.0,
      c.in_ok-complete.ensures.within v stands,
      made.1,
    )
