use Rattle.std.proofs.Common.{◌/◌, ◌%◌, ◌<◌, ℕ, length, ap, arith}
use Rattle.sctp_recv.proofs.BitLemmas.{read_word, word_skipped, past_bits}
use Rattle.sctp_recv.proofs.ready.Ready.next.Goals as goal

pub returns-in-None : goal.returns-in-None
returns-in-None c =
    let ws = c.args.self.now.words.items in
    let at = c.from-number.result / 64 in
    let within : at < length ws = omega (arith, c.len.ensures, c.if-at-len.false, c.args.self.now.words.ok) in
    word_skipped ws c.args.from at c.index.result.now (c.from-number.result % 64) c.next_from.result (ap (λ (n : ℕ). n / 64) c.from-number.ensures) (read_word ws at c.index.result.now within c.index.ensures) (ap (λ (n : ℕ). n % 64) c.from-number.ensures)
    c.in-None.ensures c.next_from.ensures

pub returns-then-at-len : goal.returns-then-at-len
returns-then-at-len c = λ j le. past_bits c.args.self.now.words.items j (omega arith)
