use Rattle.std.proofs.Common.{◌≡◌, ◌∙◌, ℕ, ◌-◌, ◌++◌, ◌∷◌, [], length, subst, sym, ap}
use Rattle.std.specs.Prelude.{Result, Ok, Err, OnOk}
use Rattle.sctp_model.specs.sender.SentChunks.{skip_said}
use Rattle.sctp_model.specs.messages.Framing.{wire_number}
use Rattle.sctp_model.specs.wire.Chunk.{SkipMeaning}
use Rattle.sctp_values.specs.Meanings.{kind_meaning}
use Rattle.sctp_wire.specs.Skips.{skips_in, IsSkip}
use Rattle.sctp_wire.specs.declared.skips.SkipForm.{SkipForm}
use Rattle.sctp_framing.specs.SkipForms.{skip_form}
use Rattle.sctp_send.specs.ResetsKept.{base_of}
use Rattle.sctp_send.specs.inner.Lanes.{passed_meaning}
use Rattle.sctp_send.proofs.forward.LaneBytes.{said_is, whole_before, put_more}
use Rattle.sctp_send.proofs.forward.lanes.put_lane.Goals as goal

pub put_skip-requires : goal.put_skip-requires
put_skip-requires g c =
    let f = g.F.Framing.format in
    let number = c.wire_number.ensures ∙ ap (wire_number f (kind_meaning c.args.lane.kind)) (c.saturating_sub.ensures ∙ ap (λ (n : ℕ). c.args.lane.number - n) c.base-base.ensures) in
    let is = said_is f (base_of c.args.resets.now) c.args.lane c.flag.result c.wire_number.result c.flag.ensures number in
    subst (λ (m : SkipMeaning). IsSkip c.skip_form.result m) (sym is) (subst (λ (x : SkipForm). IsSkip x (skip_said f (base_of c.args.resets.now) (passed_meaning c.args.lane))) (sym c.skip_form.ensures) c.requires.fits)

ok_mapped : {A E : Type 0} (P Q : Type 0) (r : Result A E) → (P → Q) → OnOk r P → OnOk r Q
ok_mapped P Q (Ok x) f p = f p
ok_mapped P Q (Err e) f p = p

pub returns-clause-skips : goal.returns-clause-skips
returns-clause-skips g c =
    let f = g.F.Framing.format in
    let number = c.wire_number.ensures ∙ ap (wire_number f (kind_meaning c.args.lane.kind)) (c.saturating_sub.ensures ∙ ap (λ (n : ℕ). c.args.lane.number - n) c.base-base.ensures) in
    let is = said_is f (base_of c.args.resets.now) c.args.lane c.flag.result c.wire_number.result c.flag.ensures number in
    let before = c.args.list.now.items in
    let whole = whole_before f c.skip_form.result (length before) (length (skips_in (skip_form f) before)) c.skip_form.ensures c.requires.count in
    let m : SkipMeaning = record { stream = c.args.lane.stream; unordered = c.flag.result; number = c.wire_number.result } in
    let now = c.put_skip.new.list.items in
    let said = skip_said f (base_of c.args.resets.now) (passed_meaning c.args.lane) in
    ok_mapped (skips_in c.skip_form.result now ≡ skips_in c.skip_form.result before ++ m ∷ []) (skips_in (skip_form f) now ≡ skips_in (skip_form f) before ++ said ∷ []) c.put_skip.result
    (put_more f c.skip_form.result m said before now c.skip_form.ensures is) (c.put_skip.ensures.skips whole)
