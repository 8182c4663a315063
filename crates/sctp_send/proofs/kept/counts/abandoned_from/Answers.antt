use Rattle.std.proofs.Common.{◌≡◌, ◌<◌, length, ◌∙◌, arith}
use Rattle.sctp_send.proofs.kept.FrontLemmas.{front_more, front_stops, front_ended}
use Rattle.sctp_send.proofs.kept.counts.abandoned_from.Goals as goal

pub loop-at-preserved : goal.loop-at-preserved
loop-at-preserved c =
    let es = c.args.entries.now.items in
    let lt : c.loop-at.at < length es = omega (arith, c.loop-at-test.true, c.len-at-end.ensures, c.args.entries.now.ok.0) in
    λ size. front_more size es c.args.from c.loop-at.at c.index.result.now lt c.index.ensures c.if-not-abandoned.false (c.loop-at.invariant size)

pub returns-then-not-abandoned : goal.returns-then-not-abandoned
returns-then-not-abandoned c =
    let es = c.args.entries.now.items in
    let lt : c.loop-at.at < length es = omega (arith, c.loop-at-test.true, c.len-at-end.ensures, c.args.entries.now.ok.0) in
    λ size. front_stops size es c.args.from c.loop-at.at c.index.result.now lt c.index.ensures c.if-not-abandoned.true (c.loop-at.invariant size)

pub returns : goal.returns
returns c =
    let es = c.args.entries.now.items in
    let last : c.len-at-end.result ≡ length es = c.len-at-end.ensures ∙ c.args.entries.now.ok.0 in
    let end : c.loop-at.at ≡ length es = omega (arith, last, c.requires, c.loop-at.auto.at-end, c.loop-at-test.false) in
    let long : c.len.result ≡ c.loop-at.at = omega (arith, end, c.len.ensures, c.args.entries.now.ok.0) in
    λ size. long ∙ front_ended size es c.args.from c.loop-at.at end (c.loop-at.invariant size)
