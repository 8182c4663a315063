use Rattle.std.proofs.Common.{◌≡◌, refl, arith}
use Rattle.std.proofs.lemmas.Grind.{common_steps}
use Rattle.std.proofs.lemmas.Result.{err_from_is_err_and}
use Rattle.sctp_model.specs.sender.Queueing as refusals
use Rattle.sctp_model.specs.end.UserCalls as calls
use Rattle.sctp_model.specs.world.World.{bag_of, end_of, log_of}
use Rattle.sctp_model.specs.world.Events as meaning
use Rattle.sctp_model.specs.world.Steps as steps
use Rattle.sctp_model.specs.world.Steps.{accepted}
use Rattle.sctp_send.specs.SenderAnswers.{lane_for}
use Rattle.sctp_association.specs.CallAnswers.{call_with}
use Rattle.sctp_pair.proofs.NotesLemmas.{notes_same, gives_ticket}
use Rattle.sctp_pair.specs.Sides.{side_of, SideStands}
use Rattle.sctp_pair.proofs.StepLemmas.{side, sends, no_memory}
use Rattle.sctp_pair.proofs.SendLemmas.{is_refused, same_bytes}
use Rattle.sctp_pair.proofs.sending.send_at.Goals as goal

pub returns-in_err-copy : goal.returns-in_err-copy
unfolding SideStands
returns-in_err-copy c = λ w s stands.
    let a = c.args in
    let e = meaning.Send s (call_with (lane_for a.stream a.ordered) a.payload_id a.bytes.now a.until a.limit) in
    let p = err_from_is_err_and c.from_residual.result c.from_residual.ensures.1 in
    (side_of w s, rw p.1 (no_memory w e s (steps.NoMemory e refl)), stands)

pub returns-in-Ok : goal.returns-in-Ok
unfolding SideStands
returns-in-Ok c = λ w s stands.
    let a = c.args in
    let v = end_of w s in
    let lane = lane_for a.stream a.ordered in
    let call = call_with lane a.payload_id c.in_ok-copy.copy.items a.until a.limit in
    let same : c.in_ok-copy.copy.items ≡ a.bytes.now = grind (arith, common_steps) in
    let answer = calls.Ticket c.in-Ok.ticket.0 in
    let adds = gives_ticket v call c.in-Ok.ticket.0 (c.sound.ensures _ stands.end) (c.in-Ok.ensures.answer v stands.end) in (
      side (calls.send_leaves answer v call) (bag_of w s) (accepted w s answer call),
      same_bytes w s lane a.payload_id _ _ a.until a.limit _ _ same (sends w s call answer (c.in-Ok.ensures.answer v stands.end)),
      record {
        end = c.in-Ok.ensures.step v stands.end;
        bag = stands.bag;
        notes = notes_same _ _ _ v (calls.send_leaves answer v call) (log_of w s) (accepted w s answer call) stands.notes adds.numbers adds.taken refl;
      },
    )

pub returns-in-Err-NotOpen : goal.returns-in-Err-NotOpen
unfolding SideStands
returns-in-Err-NotOpen c = λ w s stands.
    let a = c.args in
    let v = end_of w s in
    let lane = lane_for a.stream a.ordered in
    let call = call_with lane a.payload_id c.in_ok-copy.copy.items a.until a.limit in
    let same : c.in_ok-copy.copy.items ≡ a.bytes.now = grind (arith, common_steps) in
    let told = rw c.in-Err-NotOpen.field-0-is at (c.in-Err-NotOpen.ensures.answer v stands.end) in (
      side_of w s,
      rw c.refused.ensures (same_bytes w s lane a.payload_id _ _ a.until a.limit _ _ same (sends w s call calls.NotOpen told)),
      record { end = c.in-Err-NotOpen.ensures.step v stands.end; bag = stands.bag; notes = stands.notes },
    )

pub returns-in-Err-Fault-NoSuchStream : goal.returns-in-Err-Fault-NoSuchStream
unfolding SideStands
returns-in-Err-Fault-NoSuchStream c = λ w s stands.
    let a = c.args in
    let v = end_of w s in
    let lane = lane_for a.stream a.ordered in
    let call = call_with lane a.payload_id c.in_ok-copy.copy.items a.until a.limit in
    let same : c.in_ok-copy.copy.items ≡ a.bytes.now = grind (arith, common_steps) in
    let told = rw c.in-Err-Fault-NoSuchStream.field-0-0-is at (rw c.in-Err-Fault-NoSuchStream.field-0-is at (c.in-Err-Fault-NoSuchStream.ensures.answer v stands.end)) in (
      side_of w s,
      rw c.refused-in-Err-Fault-NoSuchStream.ensures (same_bytes w s lane a.payload_id _ _ a.until a.limit _ _ same (sends w s call (calls.Refused refusals.NoSuchStream) (is_refused v call refusals.NoSuchStream told.0 told.1))),
      record { end = c.in-Err-Fault-NoSuchStream.ensures.step v stands.end; bag = stands.bag; notes = stands.notes },
    )

pub returns-in-Err-Fault-Resetting : goal.returns-in-Err-Fault-Resetting
unfolding SideStands
returns-in-Err-Fault-Resetting c = λ w s stands.
    let a = c.args in
    let v = end_of w s in
    let lane = lane_for a.stream a.ordered in
    let call = call_with lane a.payload_id c.in_ok-copy.copy.items a.until a.limit in
    let same : c.in_ok-copy.copy.items ≡ a.bytes.now = grind (arith, common_steps) in
    let told = rw c.in-Err-Fault-Resetting.field-0-0-is at (rw c.in-Err-Fault-Resetting.field-0-is at (c.in-Err-Fault-Resetting.ensures.answer v stands.end)) in (
      side_of w s,
      rw c.refused-in-Err-Fault-Resetting.ensures (same_bytes w s lane a.payload_id _ _ a.until a.limit _ _ same (sends w s call (calls.Refused refusals.Resetting) (is_refused v call refusals.Resetting told.0 told.1))),
      record { end = c.in-Err-Fault-Resetting.ensures.step v stands.end; bag = stands.bag; notes = stands.notes },
    )

pub returns-in-Err-Fault-Empty : goal.returns-in-Err-Fault-Empty
unfolding SideStands
returns-in-Err-Fault-Empty c = λ w s stands.
    let a = c.args in
    let v = end_of w s in
    let lane = lane_for a.stream a.ordered in
    let call = call_with lane a.payload_id c.in_ok-copy.copy.items a.until a.limit in
    let same : c.in_ok-copy.copy.items ≡ a.bytes.now = grind (arith, common_steps) in
    let told = rw c.in-Err-Fault-Empty.field-0-0-is at (rw c.in-Err-Fault-Empty.field-0-is at (c.in-Err-Fault-Empty.ensures.answer v stands.end)) in (
      side_of w s,
      rw c.refused-in-Err-Fault-Empty.ensures (same_bytes w s lane a.payload_id _ _ a.until a.limit _ _ same (sends w s call (calls.Refused refusals.Empty) (is_refused v call refusals.Empty told.0 told.1))),
      record { end = c.in-Err-Fault-Empty.ensures.step v stands.end; bag = stands.bag; notes = stands.notes },
    )

pub returns-in-Err-Fault-TooLong : goal.returns-in-Err-Fault-TooLong
unfolding SideStands
returns-in-Err-Fault-TooLong c = λ w s stands.
    let a = c.args in
    let v = end_of w s in
    let lane = lane_for a.stream a.ordered in
    let call = call_with lane a.payload_id c.in_ok-copy.copy.items a.until a.limit in
    let same : c.in_ok-copy.copy.items ≡ a.bytes.now = grind (arith, common_steps) in
    let told = rw c.in-Err-Fault-TooLong.field-0-0-is at (rw c.in-Err-Fault-TooLong.field-0-is at (c.in-Err-Fault-TooLong.ensures.answer v stands.end)) in (
      side_of w s,
      rw c.refused-in-Err-Fault-TooLong.ensures (same_bytes w s lane a.payload_id _ _ a.until a.limit _ _ same (sends w s call (calls.Refused refusals.TooLong) (is_refused v call refusals.TooLong told.0 told.1))),
      record { end = c.in-Err-Fault-TooLong.ensures.step v stands.end; bag = stands.bag; notes = stands.notes },
    )

pub returns-in-Err-Fault-QueueFull : goal.returns-in-Err-Fault-QueueFull
unfolding SideStands
returns-in-Err-Fault-QueueFull c = λ w s stands.
    let a = c.args in
    let v = end_of w s in
    let lane = lane_for a.stream a.ordered in
    let call = call_with lane a.payload_id c.in_ok-copy.copy.items a.until a.limit in
    let same : c.in_ok-copy.copy.items ≡ a.bytes.now = grind (arith, common_steps) in
    let told = rw c.in-Err-Fault-QueueFull.field-0-0-is at (rw c.in-Err-Fault-QueueFull.field-0-is at (c.in-Err-Fault-QueueFull.ensures.answer v stands.end)) in (
      side_of w s,
      rw c.refused-in-Err-Fault-QueueFull.ensures (same_bytes w s lane a.payload_id _ _ a.until a.limit _ _ same (sends w s call (calls.Refused refusals.QueueFull) (is_refused v call refusals.QueueFull told.0 told.1))),
      record { end = c.in-Err-Fault-QueueFull.ensures.step v stands.end; bag = stands.bag; notes = stands.notes },
    )

pub returns-in-Err-Fault-Spent : goal.returns-in-Err-Fault-Spent
unfolding SideStands
returns-in-Err-Fault-Spent c = λ w s stands.
    let a = c.args in
    let v = end_of w s in
    let lane = lane_for a.stream a.ordered in
    let call = call_with lane a.payload_id c.in_ok-copy.copy.items a.until a.limit in
    let same : c.in_ok-copy.copy.items ≡ a.bytes.now = grind (arith, common_steps) in
    let told = rw c.in-Err-Fault-Spent.field-0-0-is at (rw c.in-Err-Fault-Spent.field-0-is at (c.in-Err-Fault-Spent.ensures.answer v stands.end)) in (
      side_of w s,
      rw c.refused-in-Err-Fault-Spent.ensures (same_bytes w s lane a.payload_id _ _ a.until a.limit _ _ same (sends w s call (calls.Refused refusals.Spent) (is_refused v call refusals.Spent told.0 told.1))),
      record { end = c.in-Err-Fault-Spent.ensures.step v stands.end; bag = stands.bag; notes = stands.notes },
    )

pub returns-in-Err-Fault-NoMemory : goal.returns-in-Err-Fault-NoMemory
unfolding SideStands
returns-in-Err-Fault-NoMemory c = λ w s stands.
    let a = c.args in
    let e = meaning.Send s (call_with (lane_for a.stream a.ordered) a.payload_id a.bytes.now a.until a.limit) in
    (side_of w s, no_memory w e s (steps.NoMemory e refl), record { end = c.in-Err-Fault-NoMemory.ensures.step (end_of w s) stands.end; bag = stands.bag; notes = stands.notes })
