use Rattle.std.proofs.Common.{ℕ, List, ◌++◌, map, refl, sym, ap, ◌∙◌}
use Rattle.sctp_model.specs.end.EndView.{EndView}
use Rattle.sctp_model.specs.end.Moments.{ticked}
use Rattle.sctp_model.specs.world.World.{newly_abandoned, with_order}
use Rattle.sctp_outcomes.proofs.logs.Passed.{moments_keep_logs}
use Rattle.sctp_script.specs.ReportText.{ticket_number}
use Rattle.sctp_pair.specs.Sides.{SideStands}
use Rattle.sctp_pair.proofs.AbandonedLemmas.{watched_is}
use Rattle.sctp_pair.proofs.NotesLemmas.{notes_abandoned}
use Rattle.sctp_pair.proofs.moments.tick.Goals as goal

pub returns : goal.returns
unfolding SideStands
returns c = λ v stands listed.
    let n = c.args.now in
    let t : EndView = ticked v.end n in
    let end = c.on_moment.ensures.step v.end stands.end in
    let keeps = moments_keep_logs v.end n (c.sound.ensures _ stands.end) in
    let watched = watched_is v.end n c.args.before.now (c.sound.ensures _ stands.end) (c.gives_up_alone.ensures v.end stands.end n) listed in
    let gone : List ℕ = newly_abandoned v.end.sender t.sender t.sender.tickets in
    let noted = c.note.ensures t end ∙ ap (λ (ks : List ℕ). map ticket_number c.args.side.now.abandoned.items ++ ks) (sym watched) in record {
      end = end;
      bag = stands.bag;
      notes = notes_abandoned _ _ _ v.end t v.log c.note.new.log.items (with_order v.log gone) gone noted refl stands.notes keeps;
    }
