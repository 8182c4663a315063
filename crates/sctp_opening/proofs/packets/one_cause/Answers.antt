use Rattle.std.proofs.Common.{[]}
use Rattle.sctp_model.specs.end.Reports.{item}
use Rattle.sctp_model.proofs.TypedLemmas.{length-item}
use Rattle.sctp_opening.proofs.ListLemmas.{empty_list, written_list}
use Rattle.sctp_opening.proofs.packets.one_cause.Goals as goal

pub returns-clause-bytes : goal.returns-clause-bytes
returns-clause-bytes c = (c.in_ok-put_cause.ensures.writes [] (rw c.new-causes.ensures.items empty_list)).bytes_are

pub returns-clause-list : goal.returns-clause-list
returns-clause-list c =
    let w = c.in_ok-put_cause.ensures.writes [] (rw c.new-causes.ensures.items empty_list) in
    (written_list c.put_cause.new.list.items (_, w)).listed

pub returns-clause-plain : goal.returns-clause-plain
returns-clause-plain c =
    let w = c.in_ok-put_cause.ensures.writes [] (rw c.new-causes.ensures.items empty_list) in
    (written_list c.put_cause.new.list.items (_, w)).plain

pub returns-clause-length : goal.returns-clause-length
returns-clause-length c =
    let w = c.in_ok-put_cause.ensures.writes [] (rw c.new-causes.ensures.items empty_list) in
    rw w.bytes_are (length-item (item c.args.cause c.args.value.now))
