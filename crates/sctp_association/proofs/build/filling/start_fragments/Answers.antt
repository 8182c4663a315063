use Rattle.std.proofs.Common.{◌∙◌, Bool, ap, sym}
use Rattle.sctp_association.specs.StartsMean.{starts_at, with_fragments}
use Rattle.sctp_association.proofs.build.filling.start_fragments.Goals as goal

pub returns-then-not-went_out : goal.returns-then-not-went_out
returns-then-not-went_out c = sym (ap (λ (b : Bool). with_fragments b (starts_at c.args.starts.now)) c.if-not-went_out.true)

pub returns : goal.returns
returns c = c.add.ensures ∙ sym (ap (λ (b : Bool). with_fragments b (starts_at c.args.starts.now)) c.if-not-went_out.false)
