use Rattle.std.proofs.Common.{ap, ap₂, ◌∙◌, ◌≡◌, true, false}
use Rattle.clap.specs.Words.{App, Rule, rule_of}
use Rattle.clap.specs.Simple.{with_rule}
use Rattle.sctp_trace.specs.Forms.{hex_rule}
use Rattle.sctp_trace.proofs.form.with_hex.Goals as goal

pub returns : goal.returns
returns c =
    let hex : rule_of c.required-hex.result ≡ hex_rule = rw c.required-hex.ensures (ap (λ (r : Rule). record r { required = true }) c.new.ensures.rule) in
    let local : c.required-hex.result.global ≡ false = rw c.required-hex.ensures c.new.ensures.optional.1 in
    ap (λ (a : App). a.top) (c.in_ok-command.ensures.shape local ∙ ap₂ with_rule c.new-2.ensures.app hex)
