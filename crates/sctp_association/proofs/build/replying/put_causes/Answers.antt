use Rattle.std.proofs.Common.{◌≡◌, ◌∙◌, ℕ, Bool, false, List, refl, ap, sym, subst}
use Rattle.sctp_model.specs.wire.Chunk.{Error}
use Rattle.sctp_model.specs.end.Reports.{written}
use Rattle.sctp_model.specs.end.Building.{ErrorSlot, has_causes, Wants, ReportCauses}
use Rattle.sctp_association.specs.Drafted.{causes_left, drafted}
use Rattle.sctp_association.proofs.PutLemmas.{not_due, stays_out, goes_in}
use Rattle.sctp_association.proofs.build.replying.put_causes.Goals as goal

pub returns-then-not-packing : goal.returns-then-not-packing
returns-then-not-packing c = λ e is some packet. not_due ErrorSlot e c.args.packing.now (ap (λ (b : Bool). has_causes (causes_left b e.due.causes)) c.if-not-packing.true) packet

pub returns-then-not-branch : goal.returns-then-not-branch
returns-then-not-branch c = λ e is some packet.
    let m = c.args.packing.now.marks in
    let there : written (causes_left m.causes e.due.causes) ≡ c.new.result =
    ap (λ (b : Bool). written (causes_left b e.due.causes)) c.if-not-packing.false ∙ sym (c.new.ensures ∙ (c.deref.ensures.value ∙ is)) in
    stays_out ErrorSlot e c.args.packing.now _ (Error c.new.result) _ (ap (λ (b : Bool). has_causes (causes_left b e.due.causes)) c.if-not-packing.false ∙ some)
    (subst (λ (xs : List ℕ). Wants (drafted m e) ErrorSlot (Error xs)) there ReportCauses)
    packet c.if-not-branch.true c.in_ok-try_chunk.ensures.answer c.in_ok-try_chunk.ensures.after

pub returns : goal.returns
returns c = λ e is some packet.
    let m = c.args.packing.now.marks in
    let there : written (causes_left m.causes e.due.causes) ≡ c.new.result =
    ap (λ (b : Bool). written (causes_left b e.due.causes)) c.if-not-packing.false ∙ sym (c.new.ensures ∙ (c.deref.ensures.value ∙ is)) in
    goes_in ErrorSlot e c.args.packing.now (record m { causes = false }) _ (Error c.new.result) _ (ap (λ (b : Bool). has_causes (causes_left b e.due.causes)) c.if-not-packing.false ∙ some)
    (subst (λ (xs : List ℕ). Wants (drafted m e) ErrorSlot (Error xs)) there ReportCauses)
    refl (λ still. still) packet c.if-not-branch.false c.in_ok-try_chunk.ensures.answer c.in_ok-try_chunk.ensures.after
