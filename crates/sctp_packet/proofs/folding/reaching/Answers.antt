use Rattle.std.proofs.Common.{◌+◌, ◌-◌, refl, ◌∙◌}
use Rattle.std.specs.Prelude.{slice_index}
use Rattle.std.specs.Int.Bits.{xor_zero_l}
use Rattle.sctp_packet.proofs.RoomLemmas.{empty_room}
use Rattle.sctp_packet.proofs.folding.reaching.Goals as goal

pub returns : goal.returns
returns c = λ k few.
    let none = xor_zero_l (slice_index c.args.room.now (c.args.at + k - 65)) in
    c.reached.ensures k few ∙ rw (c.reached-fourth.ensures k few, c.reached-third.ensures k few, c.reached-second.ensures k few, c.reached-first.ensures k few, empty_room 16 k, none) refl
