use Rattle.std.proofs.Common.{◌≡◌, ◌∙◌, ℕ, Bool, false, List, length, map, ◌<◌, ap, sym, subst, arith}
use Rattle.std.proofs.lemmas.Grind.{common_steps}
use Rattle.sctp_model.specs.wire.Chunk.{Unknown}
use Rattle.sctp_model.specs.wire.Typed.{written_typed}
use Rattle.sctp_model.specs.wire.Reconfig.{RECONFIG}
use Rattle.sctp_model.specs.end.EndView.{format_of}
use Rattle.sctp_model.specs.end.Building.{AnswerSlot, Wants, has_causes}
use Rattle.sctp_recv.specs.Resets.{response_of}
use Rattle.sctp_association.specs.Drafted.{receiver_left, answers_left, drafted}
use Rattle.sctp_association.proofs.PutLemmas.{not_due, stays_out, goes_in}
use Rattle.sctp_association.proofs.RequestLemmas.{some_answers, unanswered, answers_go, answers_due, answers_gone}
use Rattle.sctp_association.proofs.AskLemmas.{none_of}
use Rattle.sctp_association.proofs.build.reconfiguring.put_responses.Goals as goal

pub returns-then-not-packing : goal.returns-then-not-packing
returns-then-not-packing c = λ e stands packet.
    let m = c.args.packing.now.marks in
    not_due AnswerSlot e c.args.packing.now (ap (λ (b : Bool). has_causes (answers_left b (receiver_left e.due.sack m.sack e.receiver)).resets.answers) c.if-not-packing.true) packet

pub returns-then-is_empty : goal.returns-then-is_empty
returns-then-is_empty c = λ e stands packet.
    let xs = c.answers-answers.result.now in
    let none : length xs ≡ 0 = grind (arith, common_steps) in
    unanswered e c.args.packing.now (sym (c.answers-answers.ensures (format_of e) e.sender e.receiver stands) ∙ none_of xs none) packet

pub returns-then-not-branch : goal.returns-then-not-branch
returns-then-not-branch c = λ e stands packet.
    let m = c.args.packing.now.marks in
    let xs = c.answers-answers.result.now in
    let all = c.answers-answers.ensures (format_of e) e.sender e.receiver stands in
    let some : 0 < length xs = grind (arith, common_steps) in
    let bytes : c.deref.result.now ≡ written_typed (map response_of xs) = c.deref.ensures.value ∙ c.in_ok-value.ensures.bytes_are in
    stays_out AnswerSlot e c.args.packing.now _ (Unknown RECONFIG 0 c.deref.result.now) _ (answers_due e m (map response_of xs) c.if-not-packing.false all (some_answers xs some))
    (subst (λ (bs : List ℕ). Wants (drafted m e) AnswerSlot (Unknown RECONFIG 0 bs)) (sym bytes) (answers_go e m (map response_of xs) c.if-not-packing.false all))
    packet c.if-not-branch.true c.in_ok-put_reconfig.ensures.answer c.in_ok-put_reconfig.ensures.after

pub returns : goal.returns
returns c = λ e stands packet.
    let m = c.args.packing.now.marks in
    let xs = c.answers-answers.result.now in
    let all = c.answers-answers.ensures (format_of e) e.sender e.receiver stands in
    let some : 0 < length xs = grind (arith, common_steps) in
    let bytes : c.deref.result.now ≡ written_typed (map response_of xs) = c.deref.ensures.value ∙ c.in_ok-value.ensures.bytes_are in
    goes_in AnswerSlot e c.args.packing.now (record m { answers = false }) _ (Unknown RECONFIG 0 c.deref.result.now) _ (answers_due e m (map response_of xs) c.if-not-packing.false all (some_answers xs some))
    (subst (λ (bs : List ℕ). Wants (drafted m e) AnswerSlot (Unknown RECONFIG 0 bs)) (sym bytes) (answers_go e m (map response_of xs) c.if-not-packing.false all))
    (answers_gone e m c.if-not-packing.false) (λ still. still) packet c.if-not-branch.false c.in_ok-put_reconfig.ensures.answer c.in_ok-put_reconfig.ensures.after
