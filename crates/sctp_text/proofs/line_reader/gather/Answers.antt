use Rattle.std.proofs.Common.{◌≡◌, ℕ, ◌+◌, ◌<◌, List, ◌++◌, length, take, drop, arith, ap, ◌∙◌}
use Rattle.std.proofs.lemmas.Grind.{common_steps}
use Rattle.sctp_text.specs.TextLines.{first_length}
use Rattle.sctp_text.proofs.SourceLineLemmas.{first_length-le, too_long_line, too_long_script, begins_further, from_first_feed, room_for_feed}
use Rattle.sctp_text.proofs.line_reader.gather.Goals as goal
use Rattle.sctp_text.proofs.line_reader.gather.Goals.{then-len-count-gt-LONGEST_LINE-via-then-len-count-gt-LONGEST_LINE, then-len-count-gt-LONGEST_LINE-via-else-len-count-gt-LONGEST_LINE+then-len-end}

pub returns-then-len-count-gt-LONGEST_LINE-clause-stop :
    goal.returns-then-len-count-gt-LONGEST_LINE-clause-stop
returns-then-len-count-gt-LONGEST_LINE-clause-stop c =
    let line = c.args.line.now.items in
    let rest = c.args.block.now in
    let count : c.line_length-count.result ≡ first_length rest = c.line_length-count.ensures.exact ∙ ap first_length c.bytes-bytes.ensures.bytes in
    let size = ap (λ (list : List ℕ). length list) c.bytes-bytes.ensures.bytes in
    elim c.then-len-count-gt-LONGEST_LINE.branch [
      | then-len-count-gt-LONGEST_LINE-via-then-len-count-gt-LONGEST_LINE w ↦
          too_long_line c.args.given line rest c.requires.one_line (omega (arith, count))
      | then-len-count-gt-LONGEST_LINE-via-else-len-count-gt-LONGEST_LINE+then-len-end w ↦
          too_long_script c.args.given line rest c.requires.one_line (omega (arith, count, size, c.requires.within))
    ]

pub returns-then-count-end-clause-begun : goal.returns-then-count-end-clause-begun
returns-then-count-end-clause-begun c =
    let line = c.args.line.now.items in
    let rest = c.args.block.now in
    let count : c.line_length-count.result ≡ first_length rest = c.line_length-count.ensures.exact ∙ ap first_length c.bytes-bytes.ensures.bytes in
    let size = ap (λ (list : List ℕ). length list) c.bytes-bytes.ensures.bytes in
    let items : c.extend_from_slice.new.self.items ≡ line ++ take (first_length rest) rest = grind (arith, common_steps, count) in
    rw items (begins_further c.args.given line rest c.requires (omega (arith, count)) (omega (arith, count, size, first_length-le rest, c.requires.within)))

pub returns-then-count-end-clause-stop : goal.returns-then-count-end-clause-stop
returns-then-count-end-clause-stop c =
    let line = c.args.line.now.items in
    let rest = c.args.block.now in
    let count : c.line_length-count.result ≡ first_length rest = c.line_length-count.ensures.exact ∙ ap first_length c.bytes-bytes.ensures.bytes in
    let size = ap (λ (list : List ℕ). length list) c.bytes-bytes.ensures.bytes in
    let left : c.skip.new.self ≡ drop (first_length rest) rest = c.skip.ensures ∙ ap (λ n. drop n rest) count in
    let there : first_length rest < length rest = omega (arith, count, size) in
    let items : c.extend_from_slice.new.self.items ≡ line ++ take (first_length rest) rest = grind (arith, common_steps, count) in (
      drop (first_length rest + 1) rest,
      left ∙ from_first_feed rest there,
      rw items (room_for_feed c.args.given line rest there (omega (arith, count, size, c.requires.within))),
    )

pub returns-else-count-end-clause-begun : goal.returns-else-count-end-clause-begun
returns-else-count-end-clause-begun c =
    let line = c.args.line.now.items in
    let rest = c.args.block.now in
    let count : c.line_length-count.result ≡ first_length rest = c.line_length-count.ensures.exact ∙ ap first_length c.bytes-bytes.ensures.bytes in
    let size = ap (λ (list : List ℕ). length list) c.bytes-bytes.ensures.bytes in
    let items : c.extend_from_slice.new.self.items ≡ line ++ take (first_length rest) rest = grind (arith, common_steps, count) in
    rw items (begins_further c.args.given line rest c.requires (omega (arith, count)) (omega (arith, count, size, first_length-le rest, c.requires.within)))
