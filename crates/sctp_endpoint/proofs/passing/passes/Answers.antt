use Rattle.std.proofs.Common.{◌∙◌, sym, arith}
use Rattle.std.proofs.lemmas.Grind.{common_steps}
use Rattle.sctp_endpoint.proofs.PassingLemmas.{passes_init, passes_other}
use Rattle.sctp_endpoint.proofs.passing.passes.Goals as goal

pub returns-then-starts_with_init : goal.returns-then-starts_with_init
returns-then-starts_with_init c = λ v stands. sym (passes_init v.phase c.args.tag c.args.chunks.now (grind (arith, common_steps)))

pub returns : goal.returns
returns c = λ v stands.
    rw c.starts_reflected.ensures at c.passes_tag.ensures v stands ∙ sym (passes_other v.phase c.args.tag c.args.chunks.now (grind (arith, common_steps)))
