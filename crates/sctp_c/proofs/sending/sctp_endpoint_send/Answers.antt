use Rattle.std.proofs.Common.{◌≡◌, ℕ, List, Option, inl, take, ◌∙◌, ap}
use Rattle.std.proofs.lemmas.List.{take_min}
use Rattle.sctp_send.specs.SenderAnswers.{lane_for}
use Rattle.sctp_association.specs.CallAnswers.{call_of}
use Rattle.sctp_endpoint.specs.EndpointStands.{EndpointStands}
use Rattle.sctp_c.proofs.SendLemmas.{sends_same}
use Rattle.sctp_c.proofs.sending.sctp_endpoint_send.Goals as goal

pub returns-clause-did : goal.returns-clause-did
returns-clause-did c = λ v holds.
    let held : EndpointStands c.lend-end.result.now v = rw c.lend-end.ensures.value at holds in
    let stands : EndpointStands c.copy_bytes.new.self v = rw c.in-Ok.ensures.kept held in
    let bytes : c.in-Ok.bytes.items ≡ take 65537 c.args.bytes.now =
    c.in-Ok.ensures.copied ∙ (ap (λ (n : ℕ). take n c.args.bytes.now) c.min-count.ensures ∙ take_min 65537 c.args.bytes.now) in
    let said = c.send-answer.ensures in
    let call = λ (items : List ℕ) (until : Option ℕ). call_of (lane_for c.args.stream c.args.ordered) c.args.payload_id items until in
    inl (sends_same call v _ _ _ _ c.send-answer.result _ _ _ bytes c.until_of.ensures
    (said.answer v stands) (said.step v stands) (said.logs v stands) c.tell_send.ensures.told)
