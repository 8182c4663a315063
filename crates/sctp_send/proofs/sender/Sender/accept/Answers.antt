use Rattle.std.proofs.Common.{◌≡◌, ◌∙◌, suc, ◌+◌, ◌%◌, ◌^◌, ◌∷◌, ◌++◌, [], ℕ, List, length, ap, subst, sym, refl, arith}
use Rattle.std.specs.Prelude.{None}
use Rattle.std.proofs.lemmas.List.{length-map}
use Rattle.sctp_model.specs.sender.Queueing.{cut, owed_for, refusal}
use Rattle.sctp_send.specs.OutstandingFields.{item_meaning}
use Rattle.sctp_send.specs.SenderKept.{Kept}
use Rattle.sctp_send.specs.SenderStands.{StandsFor, Keeps}
use Rattle.sctp_send.specs.SenderAnswers.{lane_for, refused_with}
use Rattle.sctp_send.specs.inner.Dues.{IsPushed}
use Rattle.sctp_send.specs.declared.kept.entry.Entry.{Entry as EntryFields}
use Rattle.sctp_send.specs.declared.kept.message.Fate.TheVariants.{Queued as StillQueued}
use Rattle.sctp_send.proofs.RoomKept.{keeps_roomy}
use Rattle.sctp_send.proofs.QueueLemmas.{memory_told, none_queued, keeps_queued, room_queued, fates_given}
use Rattle.sctp_send.proofs.sender.Sender.accept.Goals as goal

pub returns-in-Some-clause-answer : goal.returns-in-Some-clause-answer
returns-in-Some-clause-answer g c = λ v stands. subst (λ (b : List ℕ). refused_with (refusal v c.args.stream b) c.in-Some.fault) c.deref.ensures.value (c.in-Some.ensures.some v stands)

pub returns-in-Err-clause-answer : goal.returns-in-Err-clause-answer
returns-in-Err-clause-answer g c = λ v stands. subst (λ (b : List ℕ). refusal v c.args.stream b ≡ None) c.deref.ensures.value (c.in_default.ensures.none v stands)

pub returns-in_err-enqueue-clause-answer : goal.returns-in_err-enqueue-clause-answer
returns-in_err-enqueue-clause-answer g c = λ v stands.
    let none = subst (λ (b : List ℕ). refusal v c.args.stream b ≡ None) c.deref.ensures.value (c.in_default.ensures.none v stands) in
    memory_told v c.args.stream c.args.bytes.items c.from_residual.result _ c.from_residual.ensures.1 (λ e is. is ∙ c.in_err-enqueue.ensures.memory) none

pub returns-in-Err-clause-step : goal.returns-in-Err-clause-step
unfolding StandsFor
returns-in-Err-clause-step g c = λ v stands.
    let keeps = subst (λ (k : Kept). Keeps g.F.Framing.format k v) (sym c.self.view_is) stands in
    let e = c.in-Err.ensures in
    rw (e.items, e.ended, e.abandoned, e.passed, e.moments, e.asleep, e.entries) (keeps_roomy g.F.Framing.format _ v _ keeps (omega (arith, keeps.holds.room, e.wider)))

pub returns-in_err-enqueue-clause-step : goal.returns-in_err-enqueue-clause-step
unfolding StandsFor
returns-in_err-enqueue-clause-step g c = λ v stands.
    let keeps = subst (λ (k : Kept). Keeps g.F.Framing.format k v) (sym c.self.view_is) stands in
    let e = c.in-Ok.ensures in
    rw (none_queued v (lane_for c.args.stream c.args.ordered) c.args.payload_id c.args.bytes.items c.args.until c.args.limit c.from_residual.result _ c.from_residual.ensures.1, c.in_err-enqueue.ensures.unchanged, e.items, e.ended, e.abandoned, e.passed, e.moments, e.asleep, e.entries) (keeps_roomy g.F.Framing.format _ v _ keeps (omega (arith, keeps.holds.room, e.wider)))

pub returns-clause-answer : goal.returns-clause-answer
unfolding StandsFor
returns-clause-answer g c = λ v stands.
    let keeps = subst (λ (k : Kept). Keeps g.F.Framing.format k v) (sym c.self.view_is) stands in
    let given = fates_given g.F.Framing.format _ v keeps in
    (subst (λ (b : List ℕ). refusal v c.args.stream b ≡ None) c.deref.ensures.value (c.in_default.ensures.none v stands), omega (arith, given))

pub returns-clause-step : goal.returns-clause-step
unfolding StandsFor
returns-clause-step g c = λ v stands.
    let s = c.self.inside in
    let keeps = subst (λ (k : Kept). Keeps g.F.Framing.format k v) (sym c.self.view_is) stands in
    let none = (returns-clause-answer g c v stands).0 in
    let given = fates_given g.F.Framing.format _ v keeps in
    let fates : c.push.new.self.items ≡ s.told.fates.items ++ StillQueued ∷ [] = rw (c.push.ensures.items, c.in-Ok.ensures.items) refl in
    let ended : c.push.new.self.ended ≡ s.told.fates.ended = rw (c.push.ensures.ended, c.in-Ok.ensures.ended) refl in
    let abandoned : c.push.new.self.abandoned ≡ s.told.fates.abandoned = rw (c.push.ensures.abandoned, c.in-Ok.ensures.abandoned) refl in
    let pushed : IsPushed s.told.dues.passed c.push-2.new.self.passed s.told.dues.moments c.push-2.new.self.moments c.args.until = rw (← c.in-Ok.ensures.passed, ← c.in-Ok.ensures.moments) c.push-2.ensures.pushed in
    let asleep : c.push-2.new.self.asleep ≡ s.told.dues.asleep = rw (c.push-2.ensures.asleep, c.in-Ok.ensures.asleep) refl in
    let ticket : c.len-given.result + 1 ≡ suc v.tickets = omega (arith, given) in
    let long = length-map s.parts.outstanding.items (item_meaning s.told.fragment) in
    let more = c.owed-more.ensures ∙ ap (λ (n : ℕ). owed_for n % 2 ^ 64) (c.fragments_in-fragments.ensures ∙ ap (λ (b : List ℕ). length (cut s.told.fragment b)) c.deref-2.ensures.value) in
    let room = room_queued g.F.Framing.format _ v c.args.stream c.args.bytes.items c.owed_by_accepted.result c.owed-more.result _ keeps none (c.owed_by_accepted.ensures v stands) more (omega (arith, c.in-Ok.ensures.fits, ap (λ (es : List EntryFields). length es) c.in-Ok.ensures.entries, long)) in
    let taken = keeps_queued g.F.Framing.format _ v (lane_for c.args.stream c.args.ordered) c.args.payload_id (c.len-given.result + 1) c.args.bytes.items c.args.until c.args.limit _ _ _ keeps none ticket pushed c.push-2.ensures.small room in
    rw (c.in-Ok.ensures.entries, c.in_ok-enqueue.ensures.waits s.told.fragment, fates, ended, abandoned, asleep, c.of_flag.ensures) taken
