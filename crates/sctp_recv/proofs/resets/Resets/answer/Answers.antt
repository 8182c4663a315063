use Rattle.std.proofs.Common.{◌≡◌, ◌≤◌, ◌-◌, ◌/◌, map, sym, ◌∙◌, ap, subst}
use Rattle.std.specs.Prelude.{vec_capacity}
use Rattle.sctp_model.specs.wire.Reconfig.{response_item}
use Rattle.sctp_model.specs.receiver.ResetTaken.{answer_in_turn}
use Rattle.sctp_reconfig.specs.Meanings.{result_meaning}
use Rattle.sctp_recv.specs.Requests.{answers_within}
use Rattle.sctp_recv.specs.Resets.{response_of, resets_of}
use Rattle.sctp_recv.specs.inner.Restarting.{noted}
use Rattle.sctp_recv.proofs.ResponseLemmas.{rejoined}
use Rattle.sctp_recv.proofs.resets.Resets.answer.Goals as goal

pub returns-clause-answered : goal.returns-clause-answered
returns-clause-answered c = λ f v h space.
    let old = c.args.self.now in
    let n = c.args.number in
    let a = result_meaning c.args.answer in
    let mid = c.note-result.new.self in
    let still = subst (λ (xs : _). (c.args.limit - 16) / 12 ≤ vec_capacity xs) (sym c.note-result.ensures.answers) space in
    let same : map response_of mid.answers.items ≡ v.resets.answers = ap (λ (xs : _). map response_of xs.items) c.note-result.ensures.answers ∙ sym h.answers in
    let all = c.join.ensures.joined still
    ∙ (λ i. answers_within c.args.limit (same i) (response_item n (c.note-result.ensures.answer f v h i))) in
    rejoined f (resets_of mid) (resets_of c.join.new.self) v.initial v.streams v.taken (noted v n a).resets
    (answers_within c.args.limit v.resets.answers (response_item n (answer_in_turn v n a))) (map response_of c.join.new.self.answers.items) (c.note-result.ensures.noted f v h) c.join.ensures.others all
