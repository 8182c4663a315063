use Rattle.std.proofs.Common.{◌≡◌, ℕ, ◌∙◌, List, None, length, map, drop, subst, sym, refl, ap, arith, length-drop}
use Rattle.std.proofs.lemmas.Grind.{common_steps}
use Rattle.std.proofs.lemmas.List.{length-map, drop-map}
use Rattle.sctp_wire.specs.ChunkTree.{sack_meaning}
use Rattle.sctp_model.specs.messages.Acknowledgement.{in_blocks}
use Rattle.sctp_send.specs.OutstandingFields.{item_meaning}
use Rattle.sctp_send.specs.SenderKept.{Kept}
use Rattle.sctp_send.specs.SenderStands.{StandsFor, Keeps}
use Rattle.sctp_send.specs.CoveredRuns.{runs_behind}
use Rattle.sctp_send.specs.PartsKept.{OutstandingKept}
use Rattle.sctp_send.specs.inner.Acknowledging.{block_fault}
use Rattle.sctp_send.specs.declared.kept.entry.Entry.{Entry as EntryFields}
use Rattle.sctp_send.proofs.sack.CoverLemmas.{items_told, all_told_meaning}
use Rattle.sctp_model.specs.sender.Words.{when}
use Rattle.sctp_send.proofs.sack.RunLemmas.{when_remembered}
use Rattle.sctp_send.proofs.sack.RecoverLemmas.{exact_kept}
use Rattle.sctp_send.proofs.KeepLemmas.{keeps_sacked}
use Rattle.sctp_send.proofs.DueKept.{keeps_awake}
use Rattle.sctp_send.specs.inner.Dues.{LieIn}
use Rattle.sctp_send.specs.declared.kept.entry.CoveredRun.{CoveredRun}
use Rattle.sctp_send.proofs.sack.WakeLemmas.{covered_lies}
use Rattle.sctp_send.proofs.sender.Sender.on_sack.Goals as goal

pub returns-clause-answer : goal.returns-clause-answer
unfolding StandsFor
returns-clause-answer g c = λ v stands. sym (c.in_ok-passed.ensures.answer v stands).1

pub returns-clause-step : goal.returns-clause-step
unfolding StandsFor
returns-clause-step g c = λ v stands.
    let s = c.self.inside in
    let keeps = subst (λ (k : Kept). Keeps g.F.Framing.format k v) (sym c.self.view_is) stands in
    let n = c.in_ok-passed.passed in
    let p = c.in_ok-passed.ensures.answer v stands in
    let runs = when_remembered c.cover_blocks-self-inside.result c.cover_blocks-self-inside.new.covered.items c.args.sack.now.blocks c.cover_blocks-self-inside.ensures.runs in
    let awake = keeps_awake g.F.Framing.format _ v s.told.fragment s.parts.outstanding.items c.wake_for.new.dues.moments c.wake_for.new.dues.asleep keeps refl c.wake_for.ensures.long c.wake_for.ensures.each c.wake_for.ensures.here in
    let taken = keeps_sacked g.F.Framing.format _ v (sack_meaning c.args.sack.now) n c.last_sent_within-before.result (when c.cover_blocks-self-inside.result c.cover_blocks-self-inside.new.covered.items) awake (c.last_sent_within-before.ensures v stands) (λ on i some covered. covered_lies s.told.is_known s.told.covered.items v.covered v.cum n i c.args.sack.now.blocks (c.wake_for.ensures.known on) keeps.holds.covered (subst (λ (rs : List CoveredRun). LieIn n rs c.args.sack.now.blocks) c.deref.ensures.value (c.wake_for.ensures.asleep on)) some covered) p.0 p.1 runs in
    let gone = c.forget.ensures.items ∙ ap (λ (w : OutstandingKept). drop n w.items) c.lend_runs.ensures.same in
    let moved = c.move_on.ensures ∙ ap (runs_behind n) c.lend_runs.ensures.covered in
    let exact = exact_kept g.F.Framing.format _ v s.told.fragment n s.parts.outstanding.items c.forget.new.outstanding.items s.told.is_known s.told.covered.items c.move_on.new.runs.items keeps refl refl gone moved in
    let told = c.cover_blocks-self-inside.ensures.told exact in
    let items : map (item_meaning s.told.fragment) c.cover_blocks-self-inside.new.outstanding.items ≡ items_told (in_blocks 0 c.args.sack.now.blocks) 1 (drop n (map (item_meaning s.told.fragment) s.parts.outstanding.items)) =
    rw (told, all_told_meaning, gone, drop-map) refl in
    rw (c.from.ensures, c.wake_for.ensures.passed, items, c.cover_blocks-self-inside.ensures.kept.capacity, c.forget.ensures.kept.capacity, c.lend_runs.ensures.same) taken

pub forget-requires : goal.forget-requires
forget-requires g c = grind (arith, common_steps)

pub cover_blocks-self-inside-requires : goal.cover_blocks-self-inside-requires
cover_blocks-self-inside-requires g c =
    let s = c.self.inside in
    let n = c.in_ok-passed.passed in
    let all = ap (λ (k : Kept). length k.items) (sym c.self.view_is) ∙ length-map s.parts.outstanding.items (item_meaning s.told.fragment) in
    let left = length-drop n s.parts.outstanding.items in
    let gone = ap (λ (es : List EntryFields). length es) (c.forget.ensures.items ∙ ap (λ (w : OutstandingKept). drop n w.items) c.lend_runs.ensures.same) in
    subst (λ (j : ℕ). block_fault j c.args.sack.now.blocks ≡ None) (omega (arith, all, left, gone)) c.in_ok-passed.ensures.blocks
