use Rattle.std.proofs.Common.{◌≡◌, ℕ, true, false, List, ◌++◌, map, Some, refl, sym, ap, subst, ◌∙◌}
use Rattle.std.proofs.lemmas.Result.{err_from_is_err_and}
use Rattle.std.proofs.lemmas.List.{append-nil}
use Rattle.sctp_model.specs.sender.Abandoning.{AbandonAnswer}
use Rattle.sctp_model.specs.sender.Readers.{abandoned}
use Rattle.sctp_model.specs.end.UserCalls.{abandoned_at}
use Rattle.sctp_model.specs.world.World.{end_of, bag_of, log_of, if_newly_abandoned}
use Rattle.sctp_model.specs.world.Events as meaning
use Rattle.sctp_model.specs.world.Steps as steps
use Rattle.sctp_model.specs.world.Steps.{Step}
use Rattle.sctp_outcomes.proofs.logs.Called.{abandon_keeps_logs}
use Rattle.sctp_script.specs.ReportText.{ticket_number}
use Rattle.sctp_pair.specs.Sides.{side_of, with_side, SideStands}
use Rattle.sctp_pair.proofs.AbandonedLemmas.{one_noted, none_noted}
use Rattle.sctp_pair.proofs.MemoryLemmas.{anyway}
use Rattle.sctp_pair.proofs.NotesLemmas.{notes_abandoned}
use Rattle.sctp_pair.proofs.StepLemmas.{side, log_after, abandons_at, no_memory}
use Rattle.sctp_pair.proofs.moments.abandon_at.Goals as goal

pub returns-then-abandoned-clause-step : goal.returns-then-abandoned-clause-step
unfolding SideStands
returns-then-abandoned-clause-step c = λ w s stands.
    let v = end_of w s in
    let k = c.args.ticket.0 in
    let t = abandoned_at v k in
    let h = side t (bag_of w s) (log_after w s k) in
    let before : abandoned v.sender k ≡ true = sym (c.abandoned.ensures v stands.end) ∙ c.if-abandoned.true in
    let keeps = abandon_keeps_logs v k (c.sound.ensures _ stands.end) in
    let gone = if_newly_abandoned v.sender t.sender k in
    let same = c.args.side.now.abandoned.items in
    let noted : map ticket_number same ≡ map ticket_number same ++ gone =
    sym (append-nil (map ticket_number same)) ∙ ap (λ (ks : List ℕ). map ticket_number same ++ ks) (sym (none_noted v.sender t.sender k before)) in (
      h,
      subst (λ (a : AbandonAnswer). Step w (meaning.Abandon s k) (Some (meaning.Fate a)) (with_side w s h)) (sym (c.abandon.ensures.answer v stands.end)) (abandons_at w s k),
      record { end = c.abandon.ensures.step v stands.end; bag = stands.bag; notes = notes_abandoned _ _ _ v t (log_of w s) same (log_after w s k) gone noted refl stands.notes keeps },
    )

pub returns-in_err-map_err-clause-step : goal.returns-in_err-map_err-clause-step
unfolding SideStands
returns-in_err-map_err-clause-step c = λ w s stands.
    let e = meaning.Abandon s c.args.ticket.0 in
    let p = err_from_is_err_and c.from_residual.result c.from_residual.ensures.1 in (
      side_of w s,
      rw p.1 (no_memory w e s (steps.NoMemory e refl)),
      record { end = stands.end; bag = stands.bag; notes = rw c.reserve.ensures.items stands.notes },
    )

pub returns-clause-step : goal.returns-clause-step
unfolding SideStands
returns-clause-step c = λ w s stands.
    let v = end_of w s in
    let k = c.args.ticket.0 in
    let t = abandoned_at v k in
    let h = side t (bag_of w s) (log_after w s k) in
    let before : abandoned v.sender k ≡ false = sym (c.abandoned.ensures v stands.end) ∙ c.if-abandoned.false in
    let keeps = abandon_keeps_logs v k (c.sound.ensures _ stands.end) in
    let end = c.abandon-fate.ensures.step v stands.end in
    let gone = if_newly_abandoned v.sender t.sender k in
    let noted : map ticket_number c.note.new.log.items ≡ map ticket_number c.args.side.now.abandoned.items ++ gone =
    c.note.ensures t end ∙ rw c.reserve.ensures.items (ap (λ (ks : List ℕ). map ticket_number c.args.side.now.abandoned.items ++ ks) (one_noted v.sender t.sender k before)) in (
      h,
      subst (λ (a : AbandonAnswer). Step w (meaning.Abandon s k) (Some (meaning.Fate a)) (with_side w s h)) (sym (c.abandon-fate.ensures.answer v stands.end)) (abandons_at w s k),
      record { end = end; bag = stands.bag; notes = notes_abandoned _ _ _ v t (log_of w s) c.note.new.log.items (log_after w s k) gone noted refl stands.notes keeps },
    )

pub returns-in_err-map_err-clause-memory : goal.returns-in_err-map_err-clause-memory
unfolding SideStands
returns-in_err-map_err-clause-memory c = λ w s stands.
    let before : abandoned (end_of w s).sender c.args.ticket.0 ≡ false = sym (c.abandoned.ensures (end_of w s) stands.end) ∙ c.if-abandoned.false in
    anyway c.from_residual.result before
