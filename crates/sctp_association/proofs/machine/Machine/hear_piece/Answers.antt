use Rattle.std.proofs.Common.{refl, ap, sym, List}
use Rattle.sctp_model.specs.wire.Typed.{Typed}
use Rattle.sctp_model.specs.end.EndView.{EndView}
use Rattle.sctp_model.specs.end.Reports.{with_causes}
use Rattle.sctp_wire.specs.ChunkTree.{piece_meaning}
use Rattle.sctp_recv.specs.AnswerOf.{answer_of}
use Rattle.sctp_association.specs.MachineStands.{MachineStands}
use Rattle.sctp_association.proofs.MachineLemmas.{at_view}
use Rattle.sctp_association.proofs.HearingLemmas.{causes_came}
use Rattle.sctp_association.proofs.OptionLemmas.{unrefused}
use Rattle.sctp_association.proofs.machine.Machine.hear_piece.Goals as goal

pub returns-clause-step : goal.returns-clause-step
unfolding MachineStands
returns-clause-step c = λ v t g stands phase.
    let p = piece_meaning c.args.piece.now in
    let a = answer_of c.in_ok-answer.answer in
    let took = c.in_ok-answer.ensures.step v t g stands phase in
    let came : EndView = record v { receiver = took.0 } in
    (took.0, took.1, at_view _ _ _ (ap (λ (xs : List Typed). with_causes xs came) (sym (causes_came v took.0 p a))) (c.report_answer.ensures came p refl took.2))

pub returns-clause-lenient : goal.returns-clause-lenient
unfolding MachineStands
returns-clause-lenient c = λ v n stands. unrefused v n (piece_meaning c.args.piece.now) stands.options

pub returns-in_err-answer-clause-lenient : goal.returns-in_err-answer-clause-lenient
unfolding MachineStands
returns-in_err-answer-clause-lenient c = λ v n stands. unrefused v n (piece_meaning c.args.piece.now) stands.options
