use Rattle.std.proofs.Common.{◌≡◌, ◌+◌, length, arith}
use Rattle.std.proofs.lemmas.Grind.{common_steps}
use Rattle.sctp_text.proofs.SkipLemmas.{with_front}
use Rattle.sctp_text.proofs.line_reader.LineReader.skip_line.Goals as goal

pub returns-clause-skips : goal.returns-clause-skips
returns-clause-skips g c =
    let b = c.pass_line.ensures.skips in
    let line = c.self.inside.line.items in
    let count : c.self.inside.given + c.len.result ≡ c.self.inside.given + length line = grind (arith, common_steps, c.emptied-held.ensures.given) in
    let whole = with_front line c.self.inside.block (c.self.inside.given + c.len.result) c.self.inside.given b.0 c.pass_line.result _ c.self.invariant.one_line count b.2 in
    (b.0, b.1, rw (c.emptied-held.ensures.empty, ← c.self.view_is) whole)
