use Rattle.std.proofs.Common.{◌≡◌, ◌∙◌, ◌+◌, ◌<◌, ◌≤◌, length, sym, arith}
use Rattle.sctp_model.specs.wire.Chunk.{padded}
use Rattle.sctp_association.proofs.ReportLemmas.{HasRoom, fits_by_size, none_fits, rest_fits}
use Rattle.sctp_association.proofs.state.carried.WaitingCauses.has_room.Goals as goal

pub returns-then-used-room-clause-exact : goal.returns-then-used-room-clause-exact
returns-then-used-room-clause-exact c = λ e x configured w long.
    let bytes = c.args.self.now.bytes.items in
    let room = c.room_behind-room.result in
    let limit : HasRoom e.configuration room = rw configured c.room_behind-room.ensures.exact in
    let past : room < padded (length bytes) + 4 = omega arith in
    none_fits (padded (length bytes) + 4) c.args.size room past ∙ sym (fits_by_size e x bytes c.args.size room limit w long)

pub returns-clause-exact : goal.returns-clause-exact
returns-clause-exact c = λ e x configured w long.
    let bytes = c.args.self.now.bytes.items in
    let room = c.room_behind-room.result in
    let limit : HasRoom e.configuration room = rw configured c.room_behind-room.ensures.exact in
    let within : padded (length bytes) + 4 ≤ room = omega arith in
    let used : c.padded-used.result ≡ padded (length bytes) = omega arith in
    rw used (rest_fits (padded (length bytes) + 4) c.args.size room within ∙ sym (fits_by_size e x bytes c.args.size room limit w long))
