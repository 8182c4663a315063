use Rattle.std.proofs.Common.{◌≡◌, ◌++◌, ap, arith}
use Rattle.std.proofs.lemmas.Grind.{common_steps}
use Rattle.sctp_text.specs.TextLines.{Reading, ended}
use Rattle.sctp_text.proofs.line_reader.LineReader.next_line.Goals as goal

pub returns-in-Some-LineFeed-clause-bytes : goal.returns-in-Some-LineFeed-clause-bytes
returns-in-Some-LineFeed-clause-bytes g c =
    let b = c.complete.ensures.bytes in
    let held = ap (λ (now : Reading). now.held) c.self.view_is in
    let given = ap (λ (now : Reading). now.given) c.self.view_is in
    let whole : c.args.self.now.held ++ b.0 ≡ ended c.emptied.result.items ++ (c.emptied.new.line.items ++ c.skip.new.self) =
    grind (arith, common_steps, b.3, held) in
    (b.0, b.1, rw (← held, ← given) b.2, whole)

pub returns-in-Some-LineFeed-clause-given : goal.returns-in-Some-LineFeed-clause-given
returns-in-Some-LineFeed-clause-given g c = grind (arith, common_steps)

pub returns-in-Some-TooLong-clause-room : goal.returns-in-Some-TooLong-clause-room
returns-in-Some-TooLong-clause-room g c = grind (arith, common_steps)

pub returns-in-Some-TooLong-clause-bytes : goal.returns-in-Some-TooLong-clause-bytes
returns-in-Some-TooLong-clause-bytes g c = rw (← c.self.view_is) c.complete.ensures.bytes

pub returns-in-None-clause-bytes : goal.returns-in-None-clause-bytes
returns-in-None-clause-bytes g c = rw (← c.self.view_is) c.complete.ensures.bytes
