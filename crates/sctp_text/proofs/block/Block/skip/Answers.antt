use Rattle.std.proofs.Common.{◌≤◌, length, drop, subst, sym, List, ℕ, ap, ◌∙◌}
use Rattle.sctp_text.proofs.SourceLineLemmas.{range_without_front}
use Rattle.sctp_text.proofs.block.Block.skip.Goals as goal

pub returns : goal.returns
returns c =
    let s = c.self.inside in
    let fits = subst (λ (held : List ℕ). c.args.count ≤ length held) (sym c.self.view_is) c.requires in
    range_without_front s.bytes s.start s.end c.args.count fits ∙ ap (λ held. drop c.args.count held) c.self.view_is
