use Rattle.std.proofs.Common.{ℕ, List, length, ap, arith}
use Rattle.sctp_reconfig.proofs.ReadingLemmas.{u16s_in-length}
use Rattle.sctp_reconfig.proofs.streams.Streams.len.Goals as goal

pub returns : goal.returns
returns c =
    let count = u16s_in-length c.self.inside.bytes.now in
    let same = ap (λ (xs : List ℕ). length xs) c.self.view_is in
    omega (arith, count, same)
