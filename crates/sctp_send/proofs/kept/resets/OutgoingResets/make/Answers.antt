use Rattle.sctp_send.proofs.resetting.ResetTables.{resets_made, none_there}
use Rattle.sctp_send.proofs.kept.resets.OutgoingResets.make.Goals as goal

pub returns-in_ok-fresh_table-clause-same : goal.returns-in_ok-fresh_table-clause-same
returns-in_ok-fresh_table-clause-same c = λ x are.
    resets_made c.args.streams c.args.self.now.table c.in_ok-fresh_table.field-0 x (none_there c.args.self.now.table c.is_none.result c.is_none.ensures c.if-is_none.true) c.in_ok-fresh_table.ensures are
