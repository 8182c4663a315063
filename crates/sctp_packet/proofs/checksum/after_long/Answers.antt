use Rattle.std.proofs.Common.{◌≡◌, ℕ, ◌+◌, ◌-◌, ◌<◌, length, take, drop, arith, ◌∙◌}
use Rattle.std.specs.Prelude.{slice_index}
use Rattle.std.proofs.lemmas.List.{get_or-take, length-take-le, length-drop}
use Rattle.sctp_packet.specs.Folding.{IsLeft}
use Rattle.sctp_packet.proofs.BlockLemmas.{part_small}
use Rattle.sctp_packet.proofs.RoomLemmas.{empty_room}
use Rattle.sctp_packet.proofs.LeftLemmas.{left_goes_on}
use Rattle.sctp_packet.proofs.checksum.after_long.Goals as goal

pub fold-requires-clause-empty : goal.fold-requires-clause-empty
fold-requires-clause-empty c = λ j. empty_room 1752 j

pub leave-requires-clause-empty : goal.leave-requires-clause-empty
leave-requires-clause-empty c = c.fold.ensures.folded.behind

pub returns : goal.returns
returns c =
    let bytes = c.args.bytes.now in
    let folded = c.fold.new.room in
    let ends = length bytes - 224 in
    let behind = drop (216 + ends) c.leave.new.room in
    let left = take (216 + ends + 224 - (216 + ends)) behind in
    let count : 216 + ends + 224 - (216 + ends) ≡ 224 = omega arith in
    let ranged : (j : ℕ) → slice_index bytes j < 256 = λ j. omega (arith, c.type_inv.bytes j) in
    let is_left : IsLeft bytes folded ends 224 left = λ i few. get_or-take (216 + ends + 224 - (216 + ends)) behind i 0 (omega (arith, few)) ∙ c.leave.ensures.left i few in
    let whole : length left ≡ 224 = length-take-le (216 + ends + 224 - (216 + ends)) behind (omega (arith, length-drop (216 + ends) c.leave.new.room, c.leave.ensures.length, c.fold.ensures.room, c.requires.few, c.requires.long)) ∙ count in
    c.after_short.ensures
    ∙ left_goes_on c.args.register bytes folded left ends 224 (omega arith) (omega (arith, c.requires.long)) c.fold.ensures.folded is_left (omega arith) (omega (arith, c.requires.long)) whole ranged c.fold.ensures.bytes (λ j. part_small c.leave.new.room (216 + ends) (216 + ends + 224 - (216 + ends)) j c.leave.ensures.bytes)
