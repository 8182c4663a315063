use Rattle.std.proofs.Common.{◌≡◌, true, ◌∙◌, sym, ap}
use Rattle.sctp_wire.specs.Skips.{SkipList, are_reserved_zero}
use Rattle.sctp_wire.proofs.SkipLemmas.{zero-narrow}
use Rattle.sctp_wire.proofs.skips.Skips.is_plain.Goals as goal

pub returns-in-Narrow : goal.returns-in-Narrow
returns-in-Narrow c =
    let zero : are_reserved_zero c.self.inside.form c.self.inside.bytes.now ≡ true = rw c.in-Narrow.is (zero-narrow c.self.inside.bytes.now) in
    sym zero ∙ ap (λ (l : SkipList). l.plain) c.self.view_is
