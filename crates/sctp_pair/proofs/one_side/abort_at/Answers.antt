use Rattle.std.proofs.Common.{◌≡◌, suc, ◌∷◌, ◌++◌, [], length, refl, sym, ap, subst, ◌∙◌, arith}
use Rattle.std.proofs.lemmas.Grind.{common_steps}
use Rattle.std.proofs.lemmas.Result.{err_from_is_err_and}
use Rattle.sctp_model.specs.wire.Packet.{size_of_packet}
use Rattle.sctp_model.specs.end.UserCalls.{AbortAnswer, Aborts, abort_leaves}
use Rattle.sctp_model.specs.world.World.{end_of, bag_of, log_of}
use Rattle.sctp_model.specs.world.Events as meaning
use Rattle.sctp_model.specs.world.Events.{next_number}
use Rattle.sctp_model.specs.world.Steps as steps
use Rattle.sctp_endpoint.specs.EndpointStands.{EndpointStands}
use Rattle.sctp_endpoint.specs.declared.endpoint.Endpoint.{Endpoint}
use Rattle.sctp_model.specs.end.EndView.{EndView}
use Rattle.sctp_outcomes.proofs.logs.Called.{abort_keeps_logs}
use Rattle.sctp_pair.proofs.NotesLemmas.{notes_kept}
use Rattle.sctp_pair.specs.Sides.{side_of, SideStands}
use Rattle.sctp_pair.proofs.BagLemmas.{bag_length}
use Rattle.sctp_pair.proofs.AnswerLemmas.{abort_plain, plain_is_placed, plain_size}
use Rattle.sctp_pair.proofs.StepLemmas.{side, aborts, has_no_peer, is_too_long, no_memory}
use Rattle.sctp_pair.proofs.one_side.abort_at.Goals as goal

-- what the answer leaves, by the answer's name
left_so : (x : Endpoint) (v : EndView) (a b : AbortAnswer) → a ≡ b → EndpointStands x (abort_leaves a v) → EndpointStands x (abort_leaves b v)
left_so x v a b same stands = subst (λ (y : AbortAnswer). EndpointStands x (abort_leaves y v)) same stands

pub returns-in_err-map_err : goal.returns-in_err-map_err
unfolding SideStands
returns-in_err-map_err c = λ w s stands.
    let e = meaning.Abort s c.args.reason.now in
    let p = err_from_is_err_and c.from_residual.result c.from_residual.ensures.1 in
    rw p.1 (side_of w s, no_memory w e s (steps.NoMemory e refl), record { end = stands.end; bag = rw c.reserve.ensures.items stands.bag; notes = stands.notes })

pub returns-in-Ok : goal.returns-in-Ok
unfolding SideStands
returns-in-Ok c = λ w s stands.
    let v = end_of w s in
    let r = c.args.reason.now in
    let told = c.in-Ok.ensures.answer v stands.end in
    let p = told.0 in
    let packet = c.in-Ok.packet in
    let old = c.args.side.now in
    let plain = abort_plain v r p told.1 in
    let number : c.len.result ≡ suc (length old.bag.items) = grind (arith, common_steps) in
    let size : c.len-length.result ≡ length packet.items = grind (arith, common_steps) in
    let there : next_number w s ≡ c.len.result = sym (number ∙ ap suc (bag_length _ _ stands.bag)) in
    let long : size_of_packet p.chunks ≡ c.len-length.result = plain_size packet.items p told.2 plain ∙ sym size in
    let reads = c.written_packet_reads.ensures packet.items p told.2 (plain_is_placed p plain) in
    let keeps = abort_keeps_logs v (Aborts p) (c.sound.ensures _ stands.end) in (
      side (abort_leaves (Aborts p) v) (bag_of w s ++ p ∷ []) (log_of w s),
      aborts w s r p c.len.result c.len-length.result told.1 there long,
      record {
        end = left_so _ v _ _ told.1 (c.in-Ok.ensures.step v stands.end);
        bag = c.put_packet.ensures.packets _ p (rw c.reserve.ensures.items stands.bag) (told.2, reads);
        notes = notes_kept _ _ _ v (abort_leaves (Aborts p) v) (log_of w s) stands.notes keeps;
      },
    )

pub returns-in-Err-State : goal.returns-in-Err-State
unfolding SideStands
returns-in-Err-State c = λ w s stands.
    let v = end_of w s in
    let told = rw c.in-Err-State.field-0-is at (c.in-Err-State.ensures.answer v stands.end) in
    rw c.refused.ensures (side_of w s, has_no_peer w s c.args.reason.now told, record { end = c.in-Err-State.ensures.step v stands.end; bag = rw c.reserve.ensures.items stands.bag; notes = stands.notes })

pub returns-in-Err-TooLong : goal.returns-in-Err-TooLong
unfolding SideStands
returns-in-Err-TooLong c = λ w s stands.
    let v = end_of w s in
    let told = rw c.in-Err-TooLong.field-0-is at (c.in-Err-TooLong.ensures.answer v stands.end) in
    rw c.refused-in-Err-TooLong.ensures (side_of w s, is_too_long w s c.args.reason.now told, record { end = c.in-Err-TooLong.ensures.step v stands.end; bag = rw c.reserve.ensures.items stands.bag; notes = stands.notes })

pub returns-in-Err-NoMemory : goal.returns-in-Err-NoMemory
unfolding SideStands
returns-in-Err-NoMemory c = λ w s stands.
    let v = end_of w s in
    let e = meaning.Abort s c.args.reason.now in
    (side_of w s, no_memory w e s (steps.NoMemory e refl), record { end = c.in-Err-NoMemory.ensures.step v stands.end; bag = rw c.reserve.ensures.items stands.bag; notes = stands.notes })
