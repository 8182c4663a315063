use Rattle.std.proofs.Common.{◌≡◌, ◌+◌, ◌-◌, ◌<◌, ◌≤◌, [], length, refl, subst, sym, ◌∙◌, arith, List}
use Rattle.std.proofs.lemmas.Grind.{common_steps}
use Rattle.sctp_model.specs.wire.Chunk.{padded}
use Rattle.sctp_model.specs.wire.Typed.{Typed, WritesTyped, typed_in}
use Rattle.sctp_model.specs.wire.Unknown.{parameters_reported}
use Rattle.sctp_model.proofs.TypedWriting.{as_written_listed, as_written_writes, writes_as_written}
use Rattle.sctp_opening.specs.inner.Fitting.{all_within}
use Rattle.sctp_opening.proofs.FittingLemmas.{all_stay_within}
use Rattle.sctp_opening.proofs.CauseLemmas.{IsWaiting, no_room, none_reported, some_reported}
use Rattle.sctp_opening.proofs.calling.put_ack_report.Goals as goal

pub returns-then-used-room-clause-step : goal.returns-then-used-room-clause-step
returns-then-used-room-clause-step c = λ e m configured same w.
    let bytes = c.args.causes.now.items in
    let room = c.room_behind-room.result in
    let waits : IsWaiting e room bytes = record { limit = record { exact = rw configured c.room_behind-room.ensures.exact }; written = w } in
    let past : room < padded (length bytes) + 4 = omega arith in
    subst (λ (xs : List Typed). WritesTyped bytes xs) (sym (no_room e m room bytes waits past)) w

pub returns-then-is_empty-clause-step : goal.returns-then-is_empty-clause-step
returns-then-is_empty-clause-step c = λ e m configured same w.
    let bytes = c.args.causes.now.items in
    let room = c.room_behind-room.result in
    let waits : IsWaiting e room bytes = record { limit = record { exact = rw configured c.room_behind-room.ensures.exact }; written = w } in
    let within : padded (length bytes) + 4 ≤ room = omega arith in
    let used : room - (c.padded-used.result + 4) ≡ room - (padded (length bytes) + 4) = omega arith in
    let are : c.put_unrecognized.new.list.items ≡ all_within (room - (padded (length bytes) + 4)) [] (parameters_reported (typed_in m.parameters))
    = c.in_ok-put_unrecognized.ensures.bytes ∙ rw (used, c.new-list.ensures.items, same) refl in
    let none : length c.put_unrecognized.new.list.items ≡ 0 = grind (arith, common_steps, c.is_empty.ensures) in
    subst (λ (xs : List Typed). WritesTyped bytes xs) (sym (none_reported e m room bytes c.put_unrecognized.new.list.items waits within are none)) w

pub put_cause-requires : goal.put_cause-requires
put_cause-requires c =
    let most = c.room_behind-room.result - (c.padded-used.result + 4) in
    let reported = parameters_reported (typed_in c.args.parameters.now) in
    let are : c.put_unrecognized.new.list.items ≡ all_within most [] reported = c.in_ok-put_unrecognized.ensures.bytes ∙ rw c.new-list.ensures.items refl in
    let few : length c.put_unrecognized.new.list.items ≤ most = rw are (all_stay_within most [] reported (omega arith)) in
    let short : length c.deref-2.result.now ≤ 1500 = rw c.deref-2.ensures.value (omega (arith, c.room_behind-room.ensures.greatest)) in
    record { kind = omega arith; length = omega arith }

pub returns-clause-step : goal.returns-clause-step
returns-clause-step c = λ e m configured same w.
    let bytes = c.args.causes.now.items in
    let room = c.room_behind-room.result in
    let waits : IsWaiting e room bytes = record { limit = record { exact = rw configured c.room_behind-room.ensures.exact }; written = w } in
    let within : padded (length bytes) + 4 ≤ room = omega arith in
    let used : room - (c.padded-used.result + 4) ≡ room - (padded (length bytes) + 4) = omega arith in
    let are : c.put_unrecognized.new.list.items ≡ all_within (room - (padded (length bytes) + 4)) [] (parameters_reported (typed_in m.parameters))
    = c.in_ok-put_unrecognized.ensures.bytes ∙ rw (used, c.new-list.ensures.items, same) refl in
    let some : 0 < length c.put_unrecognized.new.list.items = grind (arith, common_steps, c.is_empty.ensures) in
    let is = some_reported e m room bytes c.put_unrecognized.new.list.items waits within are some in
    rw (is, ← c.deref-2.ensures.value) (c.in_ok-put_cause.ensures.writes e.due.causes w)

pub returns-clause-listed : goal.returns-clause-listed
returns-clause-listed c = λ plain.
    let w = c.in_ok-put_cause.ensures.writes _ (as_written_writes c.args.causes.now.items (rw c.deref.ensures.value at c.are_bytes.ensures) plain) in
    as_written_listed _ (writes_as_written _ _ w)

pub returns-clause-plain : goal.returns-clause-plain
returns-clause-plain c = λ plain.
    let w = c.in_ok-put_cause.ensures.writes _ (as_written_writes c.args.causes.now.items (rw c.deref.ensures.value at c.are_bytes.ensures) plain) in
    writes_as_written _ _ w

pub returns-clause-short : goal.returns-clause-short
returns-clause-short c = λ before.
    let most = c.room_behind-room.result - (c.padded-used.result + 4) in
    let reported = parameters_reported (typed_in c.args.parameters.now) in
    let are : c.put_unrecognized.new.list.items ≡ all_within most [] reported = c.in_ok-put_unrecognized.ensures.bytes ∙ rw c.new-list.ensures.items refl in
    let few : length c.put_unrecognized.new.list.items ≤ most = rw are (all_stay_within most [] reported (omega arith)) in
    let size : length c.deref-2.result.now ≤ most = rw c.deref-2.ensures.value few in
    omega (arith, c.room_behind-room.ensures.greatest, c.in_ok-put_cause.ensures.len)

pub returns-then-is_empty-clause-listed : goal.returns-then-is_empty-clause-listed
returns-then-is_empty-clause-listed c = λ plain. as_written_listed _ plain

pub returns-then-used-room-clause-listed : goal.returns-then-used-room-clause-listed
returns-then-used-room-clause-listed c = λ plain. as_written_listed _ plain
