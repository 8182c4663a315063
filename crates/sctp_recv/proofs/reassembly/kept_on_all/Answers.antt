use Rattle.std.proofs.Common.{◌≡◌, ◌<◌, ◌+◌, suc, length, refl, ap, ◌∙◌, arith}
use Rattle.std.proofs.lemmas.Option.{slice_get_read}
use Rattle.sctp_recv.specs.inner.Reassembly.{bytes_below}
use Rattle.sctp_recv.proofs.ReassemblyLemmas.{all_below, some_below}
use Rattle.sctp_recv.proofs.reassembly.kept_on_all.Goals as goal

pub loop-at-preserved : goal.loop-at-preserved
loop-at-preserved g c = λ kept filed small.
    let items = c.args.streams.now.items in
    let at = c.loop-at.at in
    let x = c.index.result.now in
    let low : at < length items = omega (arith, c.loop-at-test.true, c.len-at-end.ensures, c.args.streams.now.ok) in
    let got = slice_get_read items (length items) at x refl low c.index.ensures in
    let here = c.kept_on.ensures at kept (filed.each at x got) in
    let before = c.loop-at.invariant kept filed small in
    let all = some_below (suc at) (length items) kept filed.there (omega (arith, low)) in
    let next = ap (bytes_below kept) (let one : at + 1 ≡ suc at = omega arith in one) in
    omega (arith, c.saturating_add-total.ensures, here, before, all, small, next)

pub returns : goal.returns
returns g c = λ kept filed small.
    let items = c.args.streams.now.items in
    let over : c.loop-at.at ≡ length items = omega (arith, c.loop-at-test.false, c.len-at-end.ensures, c.args.streams.now.ok) in
    c.loop-at.invariant kept filed small ∙ ap (bytes_below kept) over ∙ all_below (length items) kept filed.there
