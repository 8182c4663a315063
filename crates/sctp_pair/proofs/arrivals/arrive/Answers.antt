use Rattle.std.proofs.Common.{◌≡◌, suc, ◌∷◌, ◌++◌, [], length, sym, ap, ◌∙◌, arith}
use Rattle.std.proofs.lemmas.Grind.{common_steps}
use Rattle.std.proofs.lemmas.Result.{err_from_is_err_and}
use Rattle.sctp_model.specs.wire.Packet.{size_of_packet}
use Rattle.sctp_model.specs.end.Clock.{at_moment}
use Rattle.sctp_model.specs.end.Arriving.{CutFirst}
use Rattle.sctp_model.specs.world.World.{end_of, bag_of, logged_packet}
use Rattle.sctp_model.specs.world.Events.{next_number}
use Rattle.sctp_terms.specs.Meanings.{reason_code}
use Rattle.sctp_outcomes.proofs.logs.Heard.{packets_keep_logs, cut_packets_keep_logs}
use Rattle.sctp_pair.specs.Sides.{side_of, SideStands}
use Rattle.sctp_pair.proofs.BagLemmas.{bag_length}
use Rattle.sctp_pair.proofs.AnswerLemmas.{answer_plain, plain_is_placed, plain_size}
use Rattle.sctp_pair.proofs.ReadLemmas.{the_answer}
use Rattle.sctp_pair.proofs.StepLemmas.{side, is_cut, acts, drops, answers}
use Rattle.sctp_pair.proofs.WatchedLemmas.{notes_heard, notes_passed}
use Rattle.sctp_pair.proofs.WornLemmas.{IsHeld, packet_alone, cut_alone}
use Rattle.sctp_pair.proofs.arrivals.arrive.Goals as goal

pub returns-in_default : goal.returns-in_default
unfolding SideStands
returns-in_default c = λ w s e p stands brings reads clock draw.
    let v = end_of w s in
    let t = at_moment v c.args.clock in
    let same = c.make_ready.ensures.same (side_of w s) stands in (
      side t (bag_of w s) (logged_packet w s t),
      is_cut w e s c.args.clock c.args.draw p t brings clock draw (CutFirst p),
      record { end = c.pass_time.ensures v same.end; bag = same.bag; notes = notes_passed _ _ _ w s c.args.clock same.notes },
    )

pub returns-in_err-hear : goal.returns-in_err-hear
unfolding SideStands
returns-in_err-hear c = λ w s e p stands brings reads clock draw.
    let none = err_from_is_err_and c.from_residual.result c.from_residual.ensures.1 in
    let v = end_of w s in
    let same = c.make_ready.ensures.same (side_of w s) stands in
    let held : IsHeld v = record { sound = c.sound.ensures v stands.end; fragment = c.reached.ensures.fragment v stands.end; reached = c.reached.ensures.sender v stands.end } in
    let did = c.in_err-hear.ensures.step v p same.end reads in
    let t = did.0 in
    let keeps = cut_packets_keep_logs v c.args.clock c.args.draw p t held.sound did.1 in
    let alone = cut_alone v c.args.clock c.args.draw p t held did.1 in
    rw none.1 (
      side t (bag_of w s) (logged_packet w s t),
      is_cut w e s c.args.clock c.args.draw p t brings clock draw did.1,
      record {
        end = did.2;
        bag = same.bag;
        notes = notes_heard _ _ _ w s t _ _ held alone (c.in_err-hear.ensures.unpaced t did.2) (rw c.deref.ensures.value (c.in-Ok.ensures.listed (side_of w s) stands)) (c.in_err-hear.ensures.noted t did.2) same.notes keeps;
      },
    )

pub returns-in-Taken : goal.returns-in-Taken
unfolding SideStands
returns-in-Taken c = λ w s e p stands brings reads clock draw.
    let v = end_of w s in
    let same = c.make_ready.ensures.same (side_of w s) stands in
    let held : IsHeld v = record { sound = c.sound.ensures v stands.end; fragment = c.reached.ensures.fragment v stands.end; reached = c.reached.ensures.sender v stands.end } in
    let did = c.in_ok-hear.ensures.step v p same.end reads in
    let t = did.0 in
    let told = rw c.in-Taken.is at did.3 in
    let keeps = packets_keep_logs v c.args.clock c.args.draw p t did.1 held.sound did.2 in
    let alone = packet_alone v c.args.clock c.args.draw p t did.1 held did.2 in (
      side t (bag_of w s) (logged_packet w s t),
      acts w e s c.args.clock c.args.draw p t did.1 brings clock draw did.2 told,
      record {
        end = did.4;
        bag = same.bag;
        notes = notes_heard _ _ _ w s t _ _ held alone (c.in_ok-hear.ensures.unpaced t did.4) (rw c.deref.ensures.value (c.in-Ok.ensures.listed (side_of w s) stands)) (c.in_ok-hear.ensures.noted t did.4) same.notes keeps;
      },
    )

pub returns-in-Dropped : goal.returns-in-Dropped
unfolding SideStands
returns-in-Dropped c = λ w s e p stands brings reads clock draw.
    let v = end_of w s in
    let same = c.make_ready.ensures.same (side_of w s) stands in
    let held : IsHeld v = record { sound = c.sound.ensures v stands.end; fragment = c.reached.ensures.fragment v stands.end; reached = c.reached.ensures.sender v stands.end } in
    let did = c.in_ok-hear.ensures.step v p same.end reads in
    let t = did.0 in
    let told = rw c.in-Dropped.is at did.3 in
    let keeps = packets_keep_logs v c.args.clock c.args.draw p t did.1 held.sound did.2 in
    let alone = packet_alone v c.args.clock c.args.draw p t did.1 held did.2 in (
      side t (bag_of w s) (logged_packet w s t),
      drops w e s c.args.clock c.args.draw p t did.1 (reason_code c.in-Dropped.reason) brings clock draw did.2 told,
      record {
        end = did.4;
        bag = same.bag;
        notes = notes_heard _ _ _ w s t _ _ held alone (c.in_ok-hear.ensures.unpaced t did.4) (rw c.deref.ensures.value (c.in-Ok.ensures.listed (side_of w s) stands)) (c.in_ok-hear.ensures.noted t did.4) same.notes keeps;
      },
    )

pub returns : goal.returns
unfolding SideStands
returns c = λ w s e p stands brings reads clock draw.
    let v = end_of w s in
    let same = c.make_ready.ensures.same (side_of w s) stands in
    let held : IsHeld v = record { sound = c.sound.ensures v stands.end; fragment = c.reached.ensures.fragment v stands.end; reached = c.reached.ensures.sender v stands.end } in
    let did = c.in_ok-hear.ensures.step v p same.end reads in
    let t = did.0 in
    let told = rw c.in-Answer.is at did.3 in
    let packet = c.in-Answer.packet in
    let is = the_answer packet.items did.1 told in
    let q = is.0 in
    let came = rw is.1 at did.2 in
    let plain = answer_plain v c.args.clock c.args.draw p t q came in
    let old = c.make_ready.new.side in
    let number : c.len.result ≡ suc (length old.bag.items) = grind (arith, common_steps) in
    let size : c.len-length.result ≡ length packet.items = grind (arith, common_steps) in
    let there : next_number w s ≡ c.len.result = sym (number ∙ ap suc (bag_length _ _ same.bag)) in
    let long : size_of_packet q.chunks ≡ c.len-length.result = plain_size packet.items q is.2 plain ∙ sym size in
    let kept = c.written_packet_reads.ensures packet.items q is.2 (plain_is_placed q plain) in
    let keeps = packets_keep_logs v c.args.clock c.args.draw p t did.1 held.sound did.2 in
    let alone = packet_alone v c.args.clock c.args.draw p t did.1 held did.2 in (
      side t (bag_of w s ++ q ∷ []) (logged_packet w s t),
      answers w e s c.args.clock c.args.draw p t q c.len.result c.len-length.result brings clock draw there long came,
      record {
        end = did.4;
        bag = c.put_packet.ensures.packets _ q same.bag (is.2, kept);
        notes = notes_heard _ _ _ w s t _ _ held alone (c.in_ok-hear.ensures.unpaced t did.4) (rw c.deref.ensures.value (c.in-Ok.ensures.listed (side_of w s) stands)) (c.in_ok-hear.ensures.noted t did.4) same.notes keeps;
      },
    )
