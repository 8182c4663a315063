use Rattle.std.proofs.Common.{◌<◌, refl, arith, w64}
use Rattle.std.specs.Int.{trailing_zeros}
use Rattle.sctp_recv.proofs.BitLemmas.{read_word, tops_some, lowest_bit, top_found, past_bits}
use Rattle.sctp_recv.proofs.ready.Ready.next_from.Goals as goal

pub returns-then-at-len : goal.returns-then-at-len
returns-then-at-len c = λ j le. past_bits c.args.self.now.words.items j (omega arith)

pub overflow_cast-result-2 : goal.overflow_cast-result-2
overflow_cast-result-2 c =
    let ws = c.args.self.now.words.items in
    let further = c.in_ok-further.further in
    let word = c.index.result.now in
    let t = tops_some ws c.args.self.now.tops.items c.args.at further c.args.self.now.upper c.in_ok-further.ensures in
    let within = t.0 in
    let is = read_word ws further word within c.index.ensures in
    let there = t.2 in
    let some : 0 < word = omega (arith, there, is) in
    let bit = lowest_bit word (trailing_zeros w64 word) some (omega (arith, c.index.type_inv)) refl in
    let low = bit.within in
    let few = c.args.self.now.upper.few in
    omega (arith, within, low, few)

pub returns : goal.returns
returns c =
    let ws = c.args.self.now.words.items in
    let ts = c.args.self.now.tops.items in
    let further = c.in_ok-further.further in
    let word = c.index.result.now in
    let upper = c.args.self.now.upper in
    let t = tops_some ws ts c.args.at further upper c.in_ok-further.ensures in
    let is = read_word ws further word t.0 c.index.ensures in
    let there = t.2 in
    let some : 0 < word = omega (arith, there, is) in
    top_found ws ts c.args.at further word (trailing_zeros w64 word) upper c.in_ok-further.ensures is (lowest_bit word (trailing_zeros w64 word) some (omega (arith, c.index.type_inv)) refl)
