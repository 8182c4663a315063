use Rattle.std.proofs.Common.{arith}
use Rattle.sctp_chains.proofs.SearchLemmas.{stopped_here, stopped_past, stopped_end}
use Rattle.sctp_chains.proofs.search.first_whole.Goals as goal
use Rattle.sctp_chains.proofs.search.first_whole.Goals.{then-at-len+then-first-last, else-at-len, else-at-len-via-then-at-len+else-first-last, else-at-len-via-else-at-len}

pub returns-then-begin-passed-clause-found : goal.returns-then-begin-passed-clause-found
returns-then-begin-passed-clause-found c = λ chains opens.
    let cs = c.args.chains.now.items in
    let m = c.max.ensures in
    let start = c.start-begin.ensures.place in
    elim c.if-at-len.branch [
      | then-at-len+then-first-last w ↦
          rw w.found-is (stopped_here cs c.args.from c.args.last c.start-begin.result c.args.passed c.max.result c.stop-at.result m start c.stop-at.ensures chains opens w.get.result.now
          w.whole_at-found.result (omega (arith, w.if-at-len.true, c.len.ensures)) w.get.ensures (omega (arith, w.if-first-last.true, w.first.ensures)) w.whole_at-found.ensures)
      | else-at-len w ↦ elim w.else-at-len.branch [
        | else-at-len-via-then-at-len+else-first-last u ↦
            rw w.found-is (stopped_past cs c.args.from c.args.last c.start-begin.result c.args.passed c.max.result c.stop-at.result m start c.stop-at.ensures chains opens u.get.result.now
            (omega (arith, u.if-at-len.true, c.len.ensures)) u.get.ensures (let high = u.if-first-last.false in omega (arith, high, u.first.ensures)))
        | else-at-len-via-else-at-len u ↦
            rw w.found-is (stopped_end cs c.args.from c.args.last c.start-begin.result c.args.passed c.max.result c.stop-at.result m start c.stop-at.ensures chains opens
            (let past = u.if-at-len.false in omega (arith, past, c.len.ensures)))
      ]
    ]

pub returns-else-begin-passed-clause-found : goal.returns-else-begin-passed-clause-found
returns-else-begin-passed-clause-found c = λ chains opens.
    let cs = c.args.chains.now.items in
    let m = c.max.ensures in
    let start = c.start-begin.ensures.place in
    elim c.if-at-len.branch [
      | then-at-len+then-first-last w ↦
          rw w.found-is (stopped_here cs c.args.from c.args.last c.start-begin.result c.args.passed c.max.result c.stop-at.result m start c.stop-at.ensures chains opens w.get.result.now
          w.whole_at-found.result (omega (arith, w.if-at-len.true, c.len.ensures)) w.get.ensures (omega (arith, w.if-first-last.true, w.first.ensures)) w.whole_at-found.ensures)
      | else-at-len w ↦ elim w.else-at-len.branch [
        | else-at-len-via-then-at-len+else-first-last u ↦
            rw w.found-is (stopped_past cs c.args.from c.args.last c.start-begin.result c.args.passed c.max.result c.stop-at.result m start c.stop-at.ensures chains opens u.get.result.now
            (omega (arith, u.if-at-len.true, c.len.ensures)) u.get.ensures (let high = u.if-first-last.false in omega (arith, high, u.first.ensures)))
        | else-at-len-via-else-at-len u ↦
            rw w.found-is (stopped_end cs c.args.from c.args.last c.start-begin.result c.args.passed c.max.result c.stop-at.result m start c.stop-at.ensures chains opens
            (let past = u.if-at-len.false in omega (arith, past, c.len.ensures)))
      ]
    ]
