use Rattle.std.proofs.Common.{◌≡◌, ◌<◌, ◌≤◌, length, arith}
use Rattle.sctp_send.proofs.pace.FlyingLemmas.{flying_read}
use Rattle.sctp_send.proofs.pace.tally.is_in_flight.Goals as goal

pub returns : goal.returns
returns c = λ there.
    let es = c.args.outstanding.now.items in
    let size = c.args.outstanding.now.size in
    let some : 0 < c.args.count = omega arith in
    let many : c.args.count ≡ length es = omega (arith, c.len.ensures) in
    let past : c.args.count ≤ c.first_repeat.result = omega arith in
    flying_read size es c.args.count c.first_repeat.result c.get.result.now c.is_news.result some many past c.first_repeat.ensures.none c.get.ensures (c.is_news.ensures size) there
