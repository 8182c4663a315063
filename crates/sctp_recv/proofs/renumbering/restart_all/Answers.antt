use Rattle.std.proofs.Common.{◌+◌, true, nat_lt, map, ◌∙◌, arith}
use Rattle.std.specs.Prelude.{◌||◌}
use Rattle.std.proofs.lemmas.List.{length-map}
use Rattle.sctp_recv.specs.Fields.{stream_of}
use Rattle.sctp_recv.specs.Resets.{resets_of}
use Rattle.sctp_recv.specs.inner.Requesting.{is_same}
use Rattle.sctp_recv.proofs.RestartLemmas.{restarted_more, restarted_as, one_further, all_below, all_of}
use Rattle.sctp_recv.proofs.renumbering.restart_all.Goals as goal

pub loop-stream-preserved : goal.loop-stream-preserved
loop-stream-preserved g c =
    let items = c.args.streams.now.items in
    let ss = map stream_of items in
    let n = length-map items stream_of in
    let i = c.loop-stream.stream in
    let old = resets_of c.args.resets.now in
    let now = resets_of c.loop-stream.resets in
    let new = resets_of c.restart_on.new.resets in
    let inv = c.loop-stream.invariant in
    record {
      restarts = λ all few.
          let so_far = inv.restarts all few in
          let still = all_of c.args.again items ss (λ s. nat_lt s i) old now so_far n all in
          let count = inv.count few in
          let one = c.restart_on.ensures.restarts still (omega (arith, c.loop-stream-test.true, count)) in
          restarted_as c.args.again ss (λ s. nat_lt s i || is_same i s) (λ s. nat_lt s (i + 1)) old new (restarted_more c.args.again ss (λ s. nat_lt s i) (is_same i) old now new so_far one) (λ s low. one_further i s);
      answers = c.restart_on.ensures.answers ∙ inv.answers;
      named = c.restart_on.ensures.named ∙ inv.named;
      count = inv.count;
    }

pub returns-clause-restarts : goal.returns-clause-restarts
returns-clause-restarts g c = λ all few.
    let items = c.args.streams.now.items in
    let ss = map stream_of items in
    let n = length-map items stream_of in
    let inv = c.loop-stream.invariant in
    let count = inv.count few in
    restarted_as c.args.again ss (λ s. nat_lt s c.loop-stream.stream) (λ s. true) (resets_of c.args.resets.now) (resets_of c.loop-stream.resets) (inv.restarts all few)
    (λ s low. all_below s c.loop-stream.stream (omega (arith, low, n, count, c.loop-stream-test.false)))
