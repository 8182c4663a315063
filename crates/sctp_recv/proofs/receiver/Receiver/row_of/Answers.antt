use Rattle.std.proofs.Common.{ℕ, ◌+◌, ◌<◌, ◌≤◌, length, subst, arith}
use Rattle.std.proofs.lemmas.Grind.{common_steps}
use Rattle.sctp_values.specs.Meanings.{kind_meaning}
use Rattle.sctp_wire.specs.ChunkTree.{piece_meaning}
use Rattle.sctp_recv.specs.StandsFor.{StandsFor}
use Rattle.sctp_recv.specs.KeptOf.{kept_of}
use Rattle.sctp_recv.specs.declared.answer.TsnPlace.TheVariants.{Ahead}
use Rattle.sctp_recv.specs.inner.Rows.{IsTsnPlace}
use Rattle.sctp_recv.proofs.AnswerLemmas.{row_ahead}
use Rattle.sctp_recv.proofs.ReadLemmas.{read_at, read_late, read_held, read_room, read_taken, read_beyond}
use Rattle.sctp_recv.proofs.receiver.Receiver.row_of.Goals as goal
use Rattle.sctp_recv.proofs.receiver.Receiver.row_of.Goals.{then-is_late-via-then-is_late, then-is_late-via-else-is_late+then-is_held}

pub returns-then-is_late : goal.returns-then-is_late
returns-then-is_late g c = λ v w.
    let f = g.F.Framing.format in
    let p = piece_meaning c.args.piece.now in
    let within : c.from-stream.result < length c.args.self.now.streams.items = omega (arith, c.len.ensures, c.if-stream-len.false, c.args.self.now.streams.ok) in
    let number = c.in-Ok.ensures.number in
    let read = read_at f c.args.self.now v p c.cumulative.result c.in-At.index c.from-stream.result c.index-known.result.now c.in-Ok.number c.is_reached.result c.is_late.result (kind_meaning c.of_flag-kind.result) c.of_flag-kind.ensures w
    c.cumulative.ensures.value c.cumulative.ensures.within c.in-At.ensures c.is_reached.ensures c.if-is_reached.false c.from-stream.ensures within c.index-known.ensures number.0 number.1 c.is_late.ensures in
    elim c.then-is_late.branch [
      | then-is_late-via-then-is_late u ↦ read_late read u.if-is_late.true
      | then-is_late-via-else-is_late+then-is_held u ↦
          read_held read (omega arith) u.if-is_late.false u.is_held.result u.is_held.ensures u.if-is_held.true
    ]

pub returns-then-piece-saturating_sub : goal.returns-then-piece-saturating_sub
unfolding StandsFor
returns-then-piece-saturating_sub g c = λ v w.
    let f = g.F.Framing.format in
    let p = piece_meaning c.args.piece.now in
    let within : c.from-stream.result < length c.args.self.now.streams.items = omega (arith, c.len.ensures, c.if-stream-len.false, c.args.self.now.streams.ok) in
    let number = c.in-Ok.ensures.number in
    let read = read_at f c.args.self.now v p c.cumulative.result c.in-At.index c.from-stream.result c.index-known.result.now c.in-Ok.number c.is_reached.result c.is_late.result (kind_meaning c.of_flag-kind.result) c.of_flag-kind.ensures w
    c.cumulative.ensures.value c.cumulative.ensures.within c.in-At.ensures c.is_reached.ensures c.if-is_reached.false c.from-stream.ensures within c.index-known.ensures number.0 number.1 c.is_late.ensures in
    let large : c.args.self.now.buffer < c.args.self.now.held + length p.bytes = let room = w.0.room in omega (arith, room, c.saturating_sub.ensures, c.if-piece-saturating_sub.true) in
    read_room read (omega arith) c.if-is_late.false c.is_held.result c.is_held.ensures c.if-is_held.false large

pub returns : goal.returns
unfolding StandsFor
returns g c = λ v w.
    let f = g.F.Framing.format in
    let p = piece_meaning c.args.piece.now in
    let within : c.from-stream.result < length c.args.self.now.streams.items = omega (arith, c.len.ensures, c.if-stream-len.false, c.args.self.now.streams.ok) in
    let number = c.in-Ok.ensures.number in
    let read = read_at f c.args.self.now v p c.cumulative.result c.in-At.index c.from-stream.result c.index-known.result.now c.in-Ok.number c.is_reached.result c.is_late.result (kind_meaning c.of_flag-kind.result) c.of_flag-kind.ensures w
    c.cumulative.ensures.value c.cumulative.ensures.within c.in-At.ensures c.is_reached.ensures c.if-is_reached.false c.from-stream.ensures within c.index-known.ensures number.0 number.1 c.is_late.ensures in
    let fits : c.args.self.now.held + length p.bytes ≤ c.args.self.now.buffer = let room = w.0.room in omega (arith, room, c.saturating_sub.ensures, c.if-piece-saturating_sub.false) in
    read_taken read (omega arith) c.if-is_late.false c.is_held.result c.is_held.ensures c.if-is_held.false fits

pub returns-then-is_reached : goal.returns-then-is_reached
unfolding StandsFor
returns-then-is_reached g c = grind (arith, common_steps)

pub returns-then-stream-len : goal.returns-then-stream-len
unfolding StandsFor
returns-then-stream-len g c = grind (arith, common_steps)

pub returns-in-Err : goal.returns-in-Err
unfolding StandsFor
returns-in-Err g c = λ v w.
    let f = g.F.Framing.format in
    let p = piece_meaning c.args.piece.now in
    let within : c.from-stream.result < length c.args.self.now.streams.items = omega (arith, c.len.ensures, c.if-stream-len.false, c.args.self.now.streams.ok) in
    read_beyond f c.args.self.now v p c.cumulative.result c.in-At.index c.from-stream.result c.index-known.result.now c.is_reached.result (kind_meaning c.of_flag-kind.result) c.row_by_room.result c.of_flag-kind.ensures w
    c.cumulative.ensures.value c.cumulative.ensures.within c.in-At.ensures c.is_reached.ensures c.if-is_reached.false c.from-stream.ensures within c.index-known.ensures c.in-Err.ensures.beyond
    c.in-Err.ensures.lowest (c.row_by_room.ensures w.0.room)

pub returns-in-Ahead : goal.returns-in-Ahead
unfolding StandsFor
returns-in-Ahead g c = λ v w.
    let p = piece_meaning c.args.piece.now in
    let place = subst (λ (n : ℕ). IsTsnPlace c.args.self.now.initial n p.tsn Ahead) c.cumulative.ensures.value c.in-Ahead.ensures in
    row_ahead g.F.Framing.format (kept_of c.args.self.now) v p w.0 c.cumulative.ensures.within place.0 place.1
