use Rattle.std.proofs.Common.{◌≡◌, suc, ◌∷◌, ◌++◌, [], length, refl, sym, ap, ◌∙◌, arith}
use Rattle.std.proofs.lemmas.Grind.{common_steps}
use Rattle.std.proofs.lemmas.Result.{err_from_is_err_and}
use Rattle.sctp_model.specs.wire.Packet.{size_of_packet}
use Rattle.sctp_model.specs.end.Building.{packet_of}
use Rattle.sctp_model.specs.world.World.{end_of, bag_of, log_of}
use Rattle.sctp_model.specs.world.Events as meaning
use Rattle.sctp_model.specs.world.Events.{next_number}
use Rattle.sctp_model.specs.world.Steps as steps
use Rattle.sctp_outcomes.proofs.logs.Built.{builds_add_numbers, empty_builds_keep_logs}
use Rattle.sctp_pair.proofs.NotesLemmas.{notes_kept, notes_numbered}
use Rattle.sctp_pair.specs.Sides.{side_of, SideStands}
use Rattle.sctp_pair.proofs.BagLemmas.{bag_length}
use Rattle.sctp_pair.proofs.BuiltLemmas.{built_is_placed}
use Rattle.sctp_pair.proofs.StepLemmas.{side, builds, builds_none, no_memory}
use Rattle.sctp_pair.proofs.one_side.build_at.Goals as goal

pub returns-in_err-map_err : goal.returns-in_err-map_err
unfolding SideStands
returns-in_err-map_err c = λ w s stands clock.
    let p = err_from_is_err_and c.from_residual.result c.from_residual.ensures.1 in
    rw p.1 (side_of w s, no_memory w (meaning.Build s) s (steps.NoMemory (meaning.Build s) refl), record { end = stands.end; bag = rw c.reserve.ensures.items stands.bag; notes = stands.notes })

pub returns-in_err-map_err-2 : goal.returns-in_err-map_err-2
unfolding SideStands
returns-in_err-map_err-2 c = λ w s stands clock.
    let p = err_from_is_err_and c.from_residual-in_err-map_err-2.result c.from_residual-in_err-map_err-2.ensures.1 in
    rw p.1 (side_of w s, no_memory w (meaning.Build s) s (steps.NoMemory (meaning.Build s) refl), record { end = stands.end; bag = rw c.reserve.ensures.items stands.bag; notes = rw c.reserve-2.ensures.items stands.notes })

pub returns-in_err-poll_transmit : goal.returns-in_err-poll_transmit
unfolding SideStands
returns-in_err-poll_transmit c = λ w s stands clock.
    let p = err_from_is_err_and c.from_residual-in_err-poll_transmit.result c.from_residual-in_err-poll_transmit.ensures.1 in
    let end = c.in_err-poll_transmit.ensures.refused (end_of w s) stands.end in
    rw p.1 (side_of w s, no_memory w (meaning.Build s) s (steps.NoMemory (meaning.Build s) refl), record { end = end; bag = rw c.reserve.ensures.items stands.bag; notes = rw c.reserve-2.ensures.items stands.notes })

pub returns-in-None : goal.returns-in-None
unfolding SideStands
returns-in-None c = λ w s stands clock.
    let v = end_of w s in
    let sent = rw c.in-None.is at (c.in_ok-poll_transmit.ensures.step v stands.end) in
    let keeps = empty_builds_keep_logs v c.args.clock sent.0 (c.sound.ensures _ stands.end) sent.1 in (
      side sent.0 (bag_of w s) (log_of w s),
      builds_none w s c.args.clock sent.0 clock sent.1,
      record { end = sent.2; bag = rw c.reserve.ensures.items stands.bag; notes = rw c.reserve-2.ensures.items (notes_kept _ _ _ v sent.0 (log_of w s) stands.notes keeps) },
    )

pub returns-in-Some : goal.returns-in-Some
unfolding SideStands
returns-in-Some c = λ w s stands clock.
    let v = end_of w s in
    let sent = rw c.in-Some.is at (c.in_ok-poll_transmit.ensures.step v stands.end) in
    let xs = sent.chunks in
    let packet = c.in-Some.sent.packet in
    let tickets = c.in-Some.sent.tickets in
    let old = c.args.side.now in
    let numbered : c.push_reserved.new.self.items ≡ old.numbered.items ++ tickets ∷ [] = grind (arith, common_steps) in
    let number : c.len.result ≡ suc (length old.bag.items) = grind (arith, common_steps) in
    let size : c.len-length.result ≡ length packet.items = grind (arith, common_steps) in
    let there : next_number w s ≡ c.len.result = sym (number ∙ ap suc (bag_length _ _ stands.bag)) in
    let long : size_of_packet xs ≡ c.len-length.result = sym (size ∙ sent.size) in
    let reads = c.written_packet_reads.ensures packet.items (packet_of v xs) sent.packet (built_is_placed _ xs sent.after sent.builds) in
    let adds = builds_add_numbers v c.args.clock xs sent.after (c.sound.ensures _ stands.end) sent.builds in (
      side sent.after (bag_of w s ++ packet_of v xs ∷ []) (log_of w s),
      builds w s c.args.clock xs sent.after c.len.result c.len-length.result clock sent.some there long sent.builds,
      record {
        end = sent.stands;
        bag = c.put_packet.ensures.packets _ (packet_of v xs) (rw c.reserve.ensures.items stands.bag) (sent.packet, reads);
        notes = notes_numbered _ _ _ v sent.after (log_of w s) c.push_reserved.new.self.items tickets numbered sent.tickets stands.notes adds;
      },
    )
