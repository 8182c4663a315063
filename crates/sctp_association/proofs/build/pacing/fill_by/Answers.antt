use Rattle.std.proofs.Common.{◌∙◌, sym, subst}
use Rattle.std.specs.Prelude.{Option}
use Rattle.sctp_model.specs.end.EndView.{format_of}
use Rattle.sctp_congestion.specs.PaceStands.{PaceKept, PacesStand}
use Rattle.sctp_association.proofs.CumLemmas.{no_pace}
use Rattle.sctp_association.proofs.BuildLemmas.{own_of, on_ok}
use Rattle.sctp_association.proofs.PaceLemmas.{room_free, filled_free, paced_none, drained_pace}
use Rattle.sctp_association.proofs.DrainedLemmas.{nothing_behind}
use Rattle.sctp_association.proofs.build.pacing.fill_by.Goals as goal

pub returns-in-None-clause-filled : goal.returns-in-None-clause-filled
returns-in-None-clause-filled c = λ e m n stands pace clock of.
    let none = no_pace (format_of e) e.sender.cum _ e.pace c.in-None.is pace in
    filled_free c.fill_rest.result e m n c.args.writer.now c.fill_rest.new.writer c.fill_rest.new.traffic none (c.fill_rest.ensures.filled e m n stands (room_free e m c.args.writer.now none of.limit) (own_of e _ of))

pub returns-in-None-clause-paced : goal.returns-in-None-clause-paced
returns-in-None-clause-paced c = λ e m stands pace clock of.
    on_ok _ c.fill_rest.result (paced_none e m c.args.writer.now.chunks e.sender.cum _ pace c.in-None.is)

pub returns-then-drained-clause-filled : goal.returns-then-drained-clause-filled
returns-then-drained-clause-filled c = λ e m n stands pace clock of starting.
    nothing_behind e m n c.args.writer.now c.args.traffic.now c.filled_none-filled.result (c.reached.ensures _ e.sender e.receiver stands)
    (sym (c.drained.ensures _ e.sender e.receiver stands) ∙ c.if-drained.true) stands of c.filled_none-filled.ensures starting

pub returns-then-drained-clause-paced : goal.returns-then-drained-clause-paced
returns-then-drained-clause-paced c = λ e m stands pace clock of.
    drained_pace e m c.args.writer.now.chunks _ (c.reached.ensures _ e.sender e.receiver stands) (sym (c.drained.ensures _ e.sender e.receiver stands) ∙ c.if-drained.true) pace

pub returns-in-Some-clause-filled : goal.returns-in-Some-clause-filled
returns-in-Some-clause-filled c = λ e m n stands pace clock of.
    c.fill_paced.ensures.filled e m n stands (subst (λ (k : Option PaceKept). PacesStand (format_of e) e.sender.cum k e.pace) c.in-Some.is pace) clock of

pub returns-in-Some-clause-paced : goal.returns-in-Some-clause-paced
returns-in-Some-clause-paced c = λ e m stands pace clock of.
    c.fill_paced.ensures.paced e m stands (subst (λ (k : Option PaceKept). PacesStand (format_of e) e.sender.cum k e.pace) c.in-Some.is pace) clock of
