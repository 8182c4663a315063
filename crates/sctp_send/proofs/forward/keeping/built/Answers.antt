use Rattle.std.proofs.Common.{◌≡◌, ◌∙◌, ◌-◌, ◌/◌, List, map, take, sym, refl, ap, subst, arith}
use Rattle.std.specs.List.{AllByRecursion}
use Rattle.sctp_model.specs.messages.Forward.{Skip}
use Rattle.sctp_model.specs.sender.SentChunks.{skip_said}
use Rattle.sctp_wire.specs.Skips.{skip_size, IsSkip}
use Rattle.sctp_framing.specs.SkipForms.{skip_form}
use Rattle.sctp_send.specs.OutstandingFields.{item_meaning, entries_of}
use Rattle.sctp_send.specs.ResetsKept.{base_of}
use Rattle.sctp_send.specs.inner.Lanes.{passed_meaning}
use Rattle.sctp_send.specs.declared.forward.lanes.Passed.{Passed}
use Rattle.sctp_send.proofs.forward.ForwardLemmas.{all_fit}
use Rattle.sctp_send.proofs.forward.KeptForward.{built_is}
use Rattle.sctp_send.proofs.forward.keeping.built.Goals as goal

pub list_of-requires : goal.list_of-requires
list_of-requires g c =
    let f = g.F.Framing.format in
    let lanes = ap (map passed_meaning) c.as_slice.ensures.value ∙ c.note_first-passed.ensures.lanes 1 in
    subst (λ (xs : List Skip). AllByRecursion (IsSkip (skip_form f)) (map (skip_said f (base_of c.args.resets.now)) xs)) (sym lanes)
    (all_fit f (base_of c.args.resets.now) (entries_of (map (item_meaning 1) (take c.note_first-passed.result c.args.outstanding.now.items))) c.args.streams (omega arith))

pub returns-in-Ok-clause-built : goal.returns-in-Ok-clause-built
returns-in-Ok-clause-built g c = λ size.
    let f = g.F.Framing.format in
    let bytes : c.size.result ≡ skip_size (skip_form f) = c.size.ensures ∙ ap skip_size c.skip_form.ensures in
    let most : c.from.result / c.size.result ≡ (c.args.limit - 20) / skip_size (skip_form f) = rw (c.from.ensures, bytes) refl in
    built_is f (base_of c.args.resets.now) c.args.streams size (c.from.result / c.size.result) c.args.outstanding.now.items c.note_first-passed.new.lanes.items _ (omega arith) most c.if-passed-eq0.false c.note_first-passed.ensures.within
    (c.note_first-passed.ensures.lanes size) c.note_first-passed.ensures.few (c.note_first-passed.ensures.last size)
    (c.in-Ok.ensures.skips ∙ ap (λ (xs : List Passed). map (skip_said f (base_of c.args.resets.now)) (map passed_meaning xs)) c.as_slice.ensures.value)
