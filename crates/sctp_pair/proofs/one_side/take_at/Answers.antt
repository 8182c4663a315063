use Rattle.std.proofs.Common.{None, Some, refl, subst}
use Rattle.std.proofs.lemmas.Result.{err_from_is_err_and}
use Rattle.sctp_model.specs.world.World.{end_of, bag_of, log_of}
use Rattle.sctp_model.specs.world.Events as meaning
use Rattle.sctp_model.specs.world.Steps as steps
use Rattle.sctp_terms.specs.PlainOptions.{HasPlainOptions}
use Rattle.sctp_recv.specs.HandedOf.{handed_of}
use Rattle.sctp_outcomes.proofs.logs.Called.{take_takes_one}
use Rattle.sctp_pair.specs.Noted.{AreNoted}
use Rattle.sctp_pair.specs.Sides.{side_of, SideStands}
use Rattle.sctp_pair.proofs.MemoryLemmas.{anyway}
use Rattle.sctp_pair.proofs.NotesLemmas.{notes_kept, notes_taken}
use Rattle.sctp_pair.proofs.StepLemmas.{side, takes, no_memory}
use Rattle.sctp_pair.proofs.TakeLemmas.{nothing_taken}
use Rattle.sctp_pair.proofs.one_side.take_at.Goals as goal

pub returns-in_default-clause-step : goal.returns-in_default-clause-step
unfolding SideStands
returns-in_default-clause-step c = λ w s stands.
    let v = end_of w s in
    let options : HasPlainOptions v.configuration = subst HasPlainOptions (c.config.ensures v stands.end) c.limit-limit.ensures.plain in
    let none = nothing_taken v c.args.stream options (c.in_default.ensures v stands.end) in
    (side v (bag_of w s) (log_of w s), takes w s c.args.stream None v none, stands)

pub returns-in_err-make_room_at-clause-step : goal.returns-in_err-make_room_at-clause-step
unfolding SideStands
returns-in_err-make_room_at-clause-step c = λ w s stands.
    let e = meaning.Take s c.args.stream in
    let p = err_from_is_err_and c.from_residual.result c.from_residual.ensures.1 in
    let taken = c.make_room_at.ensures.same (end_of w s).receiver.taken stands.notes.taken in (
      side_of w s,
      rw p.1 (no_memory w e s (steps.NoMemory e refl)),
      record { end = stands.end; bag = stands.bag; notes = record { numbers = stands.notes.numbers; order = stands.notes.order; taken = taken } },
    )

pub returns-in-None-clause-step : goal.returns-in-None-clause-step
unfolding SideStands
returns-in-None-clause-step c = λ w s stands.
    let v = end_of w s in
    let got = c.in-None.ensures.step v stands.end in
    let keeps = take_takes_one v c.args.stream None got.0 (c.sound.ensures _ stands.end) got.1 in
    let taken = c.make_room_at.ensures.same v.receiver.taken stands.notes.taken in
    let notes : AreNoted c.args.side.now.numbered.items c.args.side.now.abandoned.items c.make_room_at.new.logs.items v (log_of w s) =
    record { numbers = stands.notes.numbers; order = stands.notes.order; taken = taken } in (
      side got.0 (bag_of w s) (log_of w s),
      takes w s c.args.stream None got.0 got.1,
      record { end = got.2; bag = stands.bag; notes = notes_kept _ _ _ v got.0 (log_of w s) notes keeps },
    )

pub returns-in-Some-take-clause-step : goal.returns-in-Some-take-clause-step
unfolding SideStands
returns-in-Some-take-clause-step c = λ w s stands.
    let v = end_of w s in
    let h = handed_of c.in-Some-take.message in
    let got = c.in-Some-take.ensures.step v stands.end in
    let adds = take_takes_one v c.args.stream (Some h) got.0 (c.sound.ensures _ stands.end) got.1 in
    let taken = c.note_at.ensures v.receiver.taken (c.make_room_at.ensures.same v.receiver.taken stands.notes.taken) in (
      side got.0 (bag_of w s) (log_of w s),
      takes w s c.args.stream (Some h) got.0 got.1,
      record { end = got.2; bag = stands.bag; notes = notes_taken _ _ _ v got.0 (log_of w s) c.note_at.new.logs.items c.args.stream h taken stands.notes adds },
    )

pub returns-in_err-make_room_at-clause-memory : goal.returns-in_err-make_room_at-clause-memory
unfolding SideStands
returns-in_err-make_room_at-clause-memory c = λ w s stands.
    anyway c.from_residual.result (handed_of c.in-Some.field-0.now, c.in-Some.ensures (end_of w s) stands.end)
