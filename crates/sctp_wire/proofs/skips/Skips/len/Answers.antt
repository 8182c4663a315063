use Rattle.std.proofs.Common.{◌∙◌, sym, ap, length}
use Rattle.sctp_wire.specs.Skips.{SkipList}
use Rattle.sctp_wire.proofs.SkipLemmas.{length-skips_in}
use Rattle.sctp_wire.proofs.skips.Skips.len.Goals as goal

pub returns-clause-count : goal.returns-clause-count
returns-clause-count c =
    rw c.size.ensures (sym (length-skips_in c.self.inside.form c.self.inside.bytes.now) ∙ ap (λ (l : SkipList). length l.skips) c.self.view_is)
