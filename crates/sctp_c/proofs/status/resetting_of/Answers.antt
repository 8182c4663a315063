use Rattle.std.proofs.Common.{◌≡◌, ◌≤◌, ◌-◌, ◌^◌, ◌∙◌, arith}
use Rattle.std.proofs.Math.Nat.{min-eq_left}
use Rattle.sctp_c.proofs.status.resetting_of.Goals as goal

pub returns : goal.returns
returns c = λ v stands.
    let few = c.resetting_streams.ensures.bound v stands in
    let small : c.resetting_streams.result ≤ 2 ^ 32 - 1 = omega (arith, few) in
    c.small_len.ensures ∙ (min-eq_left small ∙ c.resetting_streams.ensures.count v stands)
