use Rattle.std.proofs.Common.{◌≡◌, ◌/◌, ◌%◌, length, None, arith}
use Rattle.std.specs.Prelude.{slice_get}
use Rattle.std.proofs.lemmas.Bool.Decides.{nat_tests}
use Rattle.std.proofs.lemmas.Option.{slice_get_past}
use Rattle.sctp_send.proofs.kept.stretches.forget_stretch.Goals as goal

pub returns-then-is_empty-clause-here : goal.returns-then-is_empty-clause-here
returns-then-is_empty-clause-here c = λ s there.
    let items = c.args.stretches.now.items in
    let slot = c.args.index / 64 % 512 in
    let empty : length items ≡ 0 = grind (arith, nat_tests, c.is_empty.ensures, c.if-is_empty.true) in
    let none : slice_get items slot ≡ None = slice_get_past items slot (omega (arith, empty)) in
    absurd (cc)
