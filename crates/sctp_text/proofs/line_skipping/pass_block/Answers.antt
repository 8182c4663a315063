use Rattle.std.proofs.Common.{◌≡◌, ℕ, ◌+◌, ◌<◌, List, length, take, drop, ap, ◌∙◌, arith}
use Rattle.std.proofs.lemmas.List.{drop_all}
use Rattle.sctp_text.specs.TextLines.{first_length}
use Rattle.sctp_text.proofs.SourceLineLemmas.{one_line-front, first_length-le}
use Rattle.sctp_text.proofs.SkipLemmas.{to_first_feed, ends_there, all_one_line}
use Rattle.sctp_text.proofs.line_skipping.pass_block.Goals as goal

pub returns-then-count-end-clause-passed : goal.returns-then-count-end-clause-passed
returns-then-count-end-clause-passed c =
    let block = c.args.block.now in
    let n = first_length block in
    let count : c.line_length-count.result ≡ n = c.line_length-count.ensures.exact ∙ ap first_length c.bytes-bytes.ensures.bytes in
    let size = ap (λ (list : List ℕ). length list) c.bytes-bytes.ensures.bytes in
    let there : n < length block = omega (arith, count, size) in
    let end : c.min-end.result ≡ n + 1 = omega (arith, count, size) in
    let left : c.skip.new.self ≡ drop (n + 1) block = c.skip.ensures ∙ ap (λ k. drop k block) end in
    (take n block, one_line-front block, rw left (to_first_feed block there), omega (arith, end, ends_there block there))

pub returns-else-count-end-clause-passed : goal.returns-else-count-end-clause-passed
returns-else-count-end-clause-passed c =
    let block = c.args.block.now in
    let n = first_length block in
    let count : c.line_length-count.result ≡ n = c.line_length-count.ensures.exact ∙ ap first_length c.bytes-bytes.ensures.bytes in
    let size = ap (λ (list : List ℕ). length list) c.bytes-bytes.ensures.bytes in
    let none : length block ≡ n = omega (arith, count, size, first_length-le block) in
    let end : c.min-end.result ≡ length block = omega (arith, count, size, none) in
    (all_one_line block (omega (arith, none)), c.skip.ensures ∙ ap (λ k. drop k block) end ∙ drop_all (length block) block (omega arith), omega (arith, end))
