use Rattle.std.proofs.Common.{◌≡◌, ◌*◌, ◌-◌, ◌%◌, ◌^◌, ℕ, refl, ap, arith}
use Rattle.std.specs.Prelude.{bit_and}
use Rattle.std.proofs.lemmas.Nat.Bits.{ones_shl}
use Rattle.sctp_recv.proofs.BitLemmas.{none_from, first_from}
use Rattle.sctp_recv.proofs.bits.bit_from.Goals as goal

pub returns-then-left-eq0 : goal.returns-then-left-eq0
returns-then-left-eq0 c =
    let is : bit_and c.args.word (18446744073709551615 * 2 ^ c.args.from % 18446744073709551616) ≡ bit_and c.args.word (2 ^ 64 - 2 ^ c.args.from) = ap (λ (m : ℕ). bit_and c.args.word m) (ones_shl 64 c.args.from (omega (arith, c.requires))) in
    none_from c.args.word c.args.from _ is (omega (arith, c.if-left-eq0.true))

pub returns : goal.returns
returns c =
    let is : bit_and c.args.word (18446744073709551615 * 2 ^ c.args.from % 18446744073709551616) ≡ bit_and c.args.word (2 ^ 64 - 2 ^ c.args.from) = ap (λ (m : ℕ). bit_and c.args.word m) (ones_shl 64 c.args.from (omega (arith, c.requires))) in
    first_from c.args.word c.args.from _ _ (omega (arith, c.ranges.word.fits)) is (omega (arith, c.if-left-eq0.false)) refl
