use Rattle.std.proofs.Common.{ℕ, suc, ◌<◌, List, length, refl, sym, subst, ◌∙◌, arith}
use Rattle.sctp_model.specs.numbers.Limits.{DUPLICATE_LIMIT}
use Rattle.sctp_recv.proofs.ResultLemmas.{if_err}
use Rattle.sctp_model.specs.receiver.Reading.{index_at, piece_at}
use Rattle.sctp_wire.specs.ChunkTree.{piece_meaning}
use Rattle.sctp_recv.specs.AnswerOf.{NeedsMemory}
use Rattle.sctp_recv.specs.KeptOf.{kept_of}
use Rattle.sctp_recv.specs.StandsFor.{AreFindable, StandsFor}
use Rattle.sctp_recv.specs.Lows.{IsMarked}
use Rattle.sctp_recv.specs.declared.places.Lows.{Lows}
use Rattle.sctp_model.specs.receiver.Receiving.{recorded}
use Rattle.sctp_model.specs.receiver.PieceTaken.{Duplicate, NoSuchStream, Passed, Kept, noted, PieceTaken}
use Rattle.sctp_model.proofs.receiver.AtRest.{piece_at_rest}
use Rattle.sctp_recv.proofs.RestLemmas.{unordered_is, findable_more, findable_taken}
use Rattle.sctp_recv.proofs.ReceiverSteps.{cumulative_is}
use Rattle.sctp_recv.proofs.RecordedLemmas.{keeps_new, keeps_same, keeps_duplicates, keeps_noted}
use Rattle.sctp_recv.proofs.receiver.Receiver.on_data.Goals as goal

pub returns-in_ok-note-in-Duplicate-clause-step : goal.returns-in_ok-note-in-Duplicate-clause-step
unfolding StandsFor
returns-in_ok-note-in-Duplicate-clause-step g c = λ v w.
    let f = g.F.Framing.format in
    let s = c.args.self.now.seen.kept in
    let p = piece_meaning c.args.piece.now in
    let t = noted v p.tsn in
    let taken : PieceTaken f v p Duplicate t = record { c = s.cumulative; cumulative = cumulative_is s v w.0.seen; answer = sym (c.in-Duplicate.ensures v w); leaves = refl } in
    (t, taken, (keeps_noted f (kept_of c.args.self.now) v c.args.piece.now.tsn _ w.0 c.in_ok-note-in-Duplicate.ensures.noted, (w.1.0, (piece_at_rest f v p Duplicate t w.1.1.0 taken, w.1.1.1))))

pub returns-in-Ahead-clause-step : goal.returns-in-Ahead-clause-step
unfolding StandsFor
returns-in-Ahead-clause-step g c = λ v w.
    let s = c.args.self.now.seen.kept in
    (v, record { c = s.cumulative; cumulative = cumulative_is s v w.0.seen; answer = sym (c.in-Ahead.ensures v w); leaves = refl }, w)

pub returns-in_ok-add-in-NoSuchStream-clause-step : goal.returns-in_ok-add-in-NoSuchStream-clause-step
unfolding StandsFor
returns-in_ok-add-in-NoSuchStream-clause-step g c = λ v w.
    let f = g.F.Framing.format in
    let s = c.args.self.now.seen.kept in
    let p = piece_meaning c.args.piece.now in
    let t = recorded v (piece_at f v s.cumulative p) in
    let row = c.in-NoSuchStream.ensures v w in
    let taken : PieceTaken f v p NoSuchStream t = record { c = s.cumulative; cumulative = cumulative_is s v w.0.seen; answer = sym row.0; leaves = refl } in
    (t, taken, (keeps_new f (kept_of c.args.self.now) v p c.in-NoSuchStream.index _ w.0 row.1 c.in_ok-add-in-NoSuchStream.ensures.recorded, (w.1.0, (piece_at_rest f v p NoSuchStream t w.1.1.0 taken, w.1.1.1))))

pub returns-in_ok-add-in-Passed-clause-step : goal.returns-in_ok-add-in-Passed-clause-step
unfolding StandsFor
returns-in_ok-add-in-Passed-clause-step g c = λ v w.
    let f = g.F.Framing.format in
    let s = c.args.self.now.seen.kept in
    let p = piece_meaning c.args.piece.now in
    let t = recorded v (piece_at f v s.cumulative p) in
    let row = c.in-Passed.ensures v w in
    let taken : PieceTaken f v p Passed t = record { c = s.cumulative; cumulative = cumulative_is s v w.0.seen; answer = sym row.0; leaves = refl } in
    (t, taken, (keeps_new f (kept_of c.args.self.now) v p c.in-Passed.index _ w.0 row.1 c.in_ok-add-in-Passed.ensures.recorded, (w.1.0, (piece_at_rest f v p Passed t w.1.1.0 taken, w.1.1.1))))

pub returns-in-NoRoom-clause-step : goal.returns-in-NoRoom-clause-step
unfolding StandsFor
returns-in-NoRoom-clause-step g c = λ v w.
    let s = c.args.self.now.seen.kept in
    (v, record { c = s.cumulative; cumulative = cumulative_is s v w.0.seen; answer = sym (c.in-NoRoom.ensures v w); leaves = refl }, w)

pub returns-in_ok-keep-in-Taken-clause-step : goal.returns-in_ok-keep-in-Taken-clause-step
unfolding StandsFor
returns-in_ok-keep-in-Taken-clause-step g c = λ v w.
    let f = g.F.Framing.format in
    let s = c.args.self.now.seen.kept in
    let p = piece_meaning c.args.piece.now in
    let x = piece_at f v s.cumulative p in
    let old = c.args.self.now.lows in
    let lows = c.note-in-Taken.new.lows in
    let row = c.in-Taken.ensures v w in
    let m = c.in_ok-keep-in-Taken.ensures.kept v (w.0, (w.1.0, (w.1.1.0, (findable_more f v old lows c.note-in-Taken.ensures.count c.note-in-Taken.ensures.more w.1.1.1.0, w.1.1.1.1)))) row.1 in
    let taken : PieceTaken f v p Kept m.0 = record { c = s.cumulative; cumulative = cumulative_is s v w.0.seen; answer = sym row.0; leaves = m.1 } in
    let rest = piece_at_rest f v p Kept m.0 w.1.1.0 taken in
    let findable = findable_taken f v m.0 x old lows m.1 rest.idle row.1.wanted w.1.1.1.0 c.note-in-Taken.ensures.count c.note-in-Taken.ensures.more
    (λ plain kind part. subst (IsMarked lows p.stream) row.1.new.index (c.note-in-Taken.ensures.marked plain (unordered_is p.stream p.unordered kind) part
    (let low = row.1.stream in let all = w.1.1.1.0.0 plain in let streams = w.0.streams in omega (arith, low, all, streams)))) in
    let still = subst (λ (l : Lows). AreFindable f m.0 l) (sym c.keep.ensures.lows) findable in
    (m.0, taken, (m.2.0, (m.2.1, (rest, (still, m.3)))))

pub returns-in_err-note-in-Duplicate-clause-memory : goal.returns-in_err-note-in-Duplicate-clause-memory
unfolding StandsFor
returns-in_err-note-in-Duplicate-clause-memory g c = λ v w.
    let s = c.args.self.now.seen.kept in
    if_err c.from_residual.result (s.cumulative, cumulative_is s v w.0.seen, subst (NeedsMemory v s.cumulative (index_at v s.cumulative c.args.piece.now.tsn)) (sym (c.in-Duplicate.ensures v w)) (subst (λ (ds : List ℕ). length ds < DUPLICATE_LIMIT) (sym w.0.duplicates) c.in_err-note-in-Duplicate.ensures.memory))

pub returns-in_err-add-in-NoSuchStream-clause-memory : goal.returns-in_err-add-in-NoSuchStream-clause-memory
unfolding StandsFor
returns-in_err-add-in-NoSuchStream-clause-memory g c = λ v w.
    let s = c.args.self.now.seen.kept in
    let row = c.in-NoSuchStream.ensures v w in
    if_err c.from_residual-in_err-add-in-NoSuchStream.result (s.cumulative, cumulative_is s v w.0.seen, subst (NeedsMemory v s.cumulative (index_at v s.cumulative c.args.piece.now.tsn)) (sym row.0) (subst (λ (i : ℕ). suc s.cumulative < i) row.1.index c.in_err-add-in-NoSuchStream.ensures.gap))

pub returns-in_err-add-in-Passed-clause-memory : goal.returns-in_err-add-in-Passed-clause-memory
unfolding StandsFor
returns-in_err-add-in-Passed-clause-memory g c = λ v w.
    let s = c.args.self.now.seen.kept in
    let row = c.in-Passed.ensures v w in
    if_err c.from_residual-in_err-add-in-Passed.result (s.cumulative, cumulative_is s v w.0.seen, subst (NeedsMemory v s.cumulative (index_at v s.cumulative c.args.piece.now.tsn)) (sym row.0) (subst (λ (i : ℕ). suc s.cumulative < i) row.1.index c.in_err-add-in-Passed.ensures.gap))

pub returns-in_err-keep-in-Taken-clause-memory : goal.returns-in_err-keep-in-Taken-clause-memory
unfolding StandsFor
returns-in_err-keep-in-Taken-clause-memory g c = λ v w.
    let s = c.args.self.now.seen.kept in
    if_err c.from_residual-in_err-keep-in-Taken.result (s.cumulative, cumulative_is s v w.0.seen, subst (NeedsMemory v s.cumulative (index_at v s.cumulative c.args.piece.now.tsn)) (sym (c.in-Taken.ensures v w).0) tt)

pub returns-in_err-note-in-Duplicate-clause-refused : goal.returns-in_err-note-in-Duplicate-clause-refused
unfolding StandsFor
returns-in_err-note-in-Duplicate-clause-refused g c = λ v w.
    if_err c.from_residual.result
    (keeps_duplicates g.F.Framing.format (kept_of c.args.self.now) v _ v.duplicates w.0 (w.0.duplicates ∙ sym c.in_err-note-in-Duplicate.ensures.refused), w.1)

pub returns-in_err-add-in-NoSuchStream-clause-refused : goal.returns-in_err-add-in-NoSuchStream-clause-refused
unfolding StandsFor
returns-in_err-add-in-NoSuchStream-clause-refused g c = λ v w.
    if_err c.from_residual-in_err-add-in-NoSuchStream.result
    (keeps_same g.F.Framing.format (kept_of c.args.self.now) v c.add.new.self.kept _ w.0 c.in_err-add-in-NoSuchStream.ensures.refused refl, w.1)

pub returns-in_err-add-in-Passed-clause-refused : goal.returns-in_err-add-in-Passed-clause-refused
unfolding StandsFor
returns-in_err-add-in-Passed-clause-refused g c = λ v w.
    if_err c.from_residual-in_err-add-in-Passed.result
    (keeps_same g.F.Framing.format (kept_of c.args.self.now) v c.add-in-Passed.new.self.kept _ w.0 c.in_err-add-in-Passed.ensures.refused refl, w.1)

pub returns-in_err-keep-in-Taken-clause-refused : goal.returns-in_err-keep-in-Taken-clause-refused
unfolding StandsFor
returns-in_err-keep-in-Taken-clause-refused g c = λ v w.
    let f = g.F.Framing.format in
    if_err c.from_residual-in_err-keep-in-Taken.result
    (c.in_err-keep-in-Taken.ensures.refused v
    (w.0, (w.1.0, (w.1.1.0, (findable_more f v c.args.self.now.lows c.note-in-Taken.new.lows c.note-in-Taken.ensures.count c.note-in-Taken.ensures.more w.1.1.1.0, w.1.1.1.1)))))

pub returns-in-Uncounted-clause-memory : goal.returns-in-Uncounted-clause-memory
unfolding StandsFor
returns-in-Uncounted-clause-memory g c = λ v w.
    let s = c.args.self.now.seen.kept in
    (s.cumulative, cumulative_is s v w.0.seen, subst (NeedsMemory v s.cumulative (index_at v s.cumulative c.args.piece.now.tsn)) (sym (c.in-Uncounted.ensures v w)) tt)
