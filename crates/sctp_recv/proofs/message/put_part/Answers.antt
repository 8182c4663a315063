use Rattle.std.proofs.Common.{◌+◌, ◌-◌, length, ap, arith}
use Rattle.std.proofs.lemmas.Slice.{drop-put_mid}
use Rattle.sctp_recv.proofs.message.put_part.Goals as goal

pub returns-clause-behind : goal.returns-clause-behind
returns-clause-behind c =
    drop-put_mid c.args.at (c.args.at + length c.args.part.now - c.args.at) c.args.room.now c.copy_from_slice.new.self (c.args.at + length c.args.part.now) (omega arith) (omega (arith, c.requires))
    (let same = ap length c.copy_from_slice.ensures.after in omega (arith, same))
