use Rattle.std.proofs.Common.{◌∙◌, List, map, take, subst, sym, refl, ap, arith}
use Rattle.std.specs.List.{AllByRecursion}
use Rattle.sctp_model.specs.messages.Forward.{Skip}
use Rattle.sctp_model.specs.sender.SentChunks.{skip_said}
use Rattle.sctp_wire.specs.Skips.{IsSkip}
use Rattle.sctp_framing.specs.SkipForms.{skip_form}
use Rattle.sctp_send.specs.OutstandingFields.{item_meaning, entries_of}
use Rattle.sctp_send.specs.ResetsKept.{base_of}
use Rattle.sctp_send.specs.SenderKept.{Kept}
use Rattle.sctp_send.specs.SenderStands.{StandsFor, Keeps}
use Rattle.sctp_send.specs.inner.Lanes.{passed_meaning}
use Rattle.sctp_send.proofs.forward.ForwardLemmas.{all_fit}
use Rattle.sctp_send.proofs.forward.ReachLemmas.{reaches, sent_forward, goes_on}
use Rattle.sctp_send.proofs.forward.KeptForward.{IsThis, kept_end, kept_some, kept_chunk}
use Rattle.sctp_send.proofs.sender.Sender.put_forward.Goals as goal

pub returns-then-passed-eq0-clause-reaches : goal.returns-then-passed-eq0-clause-reaches
returns-then-passed-eq0-clause-reaches g c = λ v stands least. reaches g.F.Framing.format v c.args.limit least

pub put_lanes-requires-clause-fits : goal.put_lanes-requires-clause-fits
put_lanes-requires-clause-fits g c =
    let f = g.F.Framing.format in
    let lanes = ap (map passed_meaning) c.as_slice.ensures.value ∙ c.note_within-passed.ensures.lanes 1 in
    subst (λ (xs : List Skip). AllByRecursion (IsSkip (skip_form f)) (map (skip_said f (base_of c.self.inside.told.resets)) xs)) (sym lanes)
    (all_fit f (base_of c.self.inside.told.resets) (entries_of (map (item_meaning 1) (take c.note_within-passed.result c.self.inside.parts.outstanding.items))) c.self.inside.told.streams (omega arith))

pub returns-clause-answer : goal.returns-clause-answer
unfolding StandsFor
returns-clause-answer g c = λ v stands.
    let s = c.self.inside in
    let keeps = subst (λ (k : Kept). Keeps g.F.Framing.format k v) (sym c.self.view_is) stands in
    let end = c.note_within-passed.ensures.end _ v s.told.fragment keeps refl refl in
    let lanes = ap (map passed_meaning) c.as_slice.ensures.value ∙ c.note_within-passed.ensures.lanes s.told.fragment in
    let chunk = sent_forward g.F.Framing.format _ v s.told.fragment c.args.limit c.note_within-passed.result c.tsn_of-cumulative.result s.parts.outstanding.items c.as_slice.result.now keeps refl end lanes (rw c.from-2.ensures at c.tsn_of-cumulative.ensures) in
    rw (goes_on g.F.Framing.format c.args.limit c.note_within-passed.result v end c.if-passed-eq0.false) (rw chunk at c.put_lanes.ensures.answer)

pub returns-clause-after : goal.returns-clause-after
unfolding StandsFor
returns-clause-after g c = λ v stands.
    let s = c.self.inside in
    let keeps = subst (λ (k : Kept). Keeps g.F.Framing.format k v) (sym c.self.view_is) stands in
    let end = c.note_within-passed.ensures.end _ v s.told.fragment keeps refl refl in
    let lanes = ap (map passed_meaning) c.as_slice.ensures.value ∙ c.note_within-passed.ensures.lanes s.told.fragment in
    let chunk = sent_forward g.F.Framing.format _ v s.told.fragment c.args.limit c.note_within-passed.result c.tsn_of-cumulative.result s.parts.outstanding.items c.as_slice.result.now keeps refl end lanes (rw c.from-2.ensures at c.tsn_of-cumulative.ensures) in
    rw chunk at c.put_lanes.ensures.after

pub returns-clause-memory : goal.returns-clause-memory
unfolding StandsFor
returns-clause-memory g c = λ v stands.
    let s = c.self.inside in
    let keeps = subst (λ (k : Kept). Keeps g.F.Framing.format k v) (sym c.self.view_is) stands in
    let end = c.note_within-passed.ensures.end _ v s.told.fragment keeps refl refl in
    let lanes = ap (map passed_meaning) c.as_slice.ensures.value ∙ c.note_within-passed.ensures.lanes s.told.fragment in
    let chunk = sent_forward g.F.Framing.format _ v s.told.fragment c.args.limit c.note_within-passed.result c.tsn_of-cumulative.result s.parts.outstanding.items c.as_slice.result.now keeps refl end lanes (rw c.from-2.ensures at c.tsn_of-cumulative.ensures) in
    rw (goes_on g.F.Framing.format c.args.limit c.note_within-passed.result v end c.if-passed-eq0.false) (rw chunk at c.put_lanes.ensures.memory)

pub returns-in-Some-clause-reaches : goal.returns-in-Some-clause-reaches
returns-in-Some-clause-reaches g c = λ v stands least. reaches g.F.Framing.format v c.args.limit least

pub returns-in-Some-clause-answer : goal.returns-in-Some-clause-answer
unfolding StandsFor
returns-in-Some-clause-answer g c = λ v stands.
    let s = c.self.inside in
    let l = c.in-Some.last.now in
    let keeps = subst (λ (k : Kept). Keeps g.F.Framing.format k v) (sym c.self.view_is) stands in
    let this : IsThis g.F.Framing.format _ v c.args.limit c.abandoned_run-run.result l = record { kept = c.in-Some.ensures.kept; at = c.in-Some.ensures.cum; long = c.in-Some.ensures.run; packet = c.in-Some.ensures.limit; here = c.abandoned_run-run.ensures s.told.fragment } in
    let end = kept_end g.F.Framing.format _ v c.args.limit c.abandoned_run-run.result l keeps this in
    let some = goes_on g.F.Framing.format c.args.limit l.passed v end (kept_some g.F.Framing.format _ v c.args.limit c.abandoned_run-run.result l keeps this) in
    let chunk = kept_chunk g.F.Framing.format _ v c.args.limit c.abandoned_run-run.result l keeps this c.tsn_of-upto.result (rw c.from.ensures at c.tsn_of-upto.ensures) in
    rw some (rw (c.deref.ensures.value, chunk) at c.put_list.ensures.answer)

pub returns-in-Some-clause-after : goal.returns-in-Some-clause-after
unfolding StandsFor
returns-in-Some-clause-after g c = λ v stands.
    let s = c.self.inside in
    let l = c.in-Some.last.now in
    let keeps = subst (λ (k : Kept). Keeps g.F.Framing.format k v) (sym c.self.view_is) stands in
    let this : IsThis g.F.Framing.format _ v c.args.limit c.abandoned_run-run.result l = record { kept = c.in-Some.ensures.kept; at = c.in-Some.ensures.cum; long = c.in-Some.ensures.run; packet = c.in-Some.ensures.limit; here = c.abandoned_run-run.ensures s.told.fragment } in
    let chunk = kept_chunk g.F.Framing.format _ v c.args.limit c.abandoned_run-run.result l keeps this c.tsn_of-upto.result (rw c.from.ensures at c.tsn_of-upto.ensures) in
    rw (c.deref.ensures.value, chunk) at c.put_list.ensures.after

pub returns-in-Some-clause-memory : goal.returns-in-Some-clause-memory
unfolding StandsFor
returns-in-Some-clause-memory g c = λ v stands.
    let s = c.self.inside in
    let l = c.in-Some.last.now in
    let keeps = subst (λ (k : Kept). Keeps g.F.Framing.format k v) (sym c.self.view_is) stands in
    let this : IsThis g.F.Framing.format _ v c.args.limit c.abandoned_run-run.result l = record { kept = c.in-Some.ensures.kept; at = c.in-Some.ensures.cum; long = c.in-Some.ensures.run; packet = c.in-Some.ensures.limit; here = c.abandoned_run-run.ensures s.told.fragment } in
    let end = kept_end g.F.Framing.format _ v c.args.limit c.abandoned_run-run.result l keeps this in
    let some = goes_on g.F.Framing.format c.args.limit l.passed v end (kept_some g.F.Framing.format _ v c.args.limit c.abandoned_run-run.result l keeps this) in
    let chunk = kept_chunk g.F.Framing.format _ v c.args.limit c.abandoned_run-run.result l keeps this c.tsn_of-upto.result (rw c.from.ensures at c.tsn_of-upto.ensures) in
    rw some (rw (c.deref.ensures.value, chunk) at c.put_list.ensures.memory)
