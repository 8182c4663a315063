use Rattle.std.proofs.Common.{◌≡◌, true, false, refl, sym, ap, ◌∙◌, arith}
use Rattle.std.proofs.lemmas.Grind.{common_steps}
use Rattle.sctp_model.specs.end.EndView.{Configuration}
use Rattle.sctp_pair.proofs.hearing.to_watch.Goals as goal

pub returns-then-not-fast_retransmit : goal.returns-then-not-fast_retransmit
returns-then-not-fast_retransmit c = λ v stands.
    let off : c.fast_retransmit.result ≡ false = grind (arith, common_steps) in
    let is : v.configuration.fast_retransmit ≡ false = sym (ap (λ (x : Configuration). x.fast_retransmit) (c.config.ensures v stands)) ∙ (sym c.fast_retransmit.ensures ∙ off) in
    rw (is, c.new.ensures.items) refl

pub returns : goal.returns
returns c = λ v stands.
    let on : c.fast_retransmit.result ≡ true = grind (arith, common_steps) in
    let is : v.configuration.fast_retransmit ≡ true = sym (ap (λ (x : Configuration). x.fast_retransmit) (c.config.ensures v stands)) ∙ (sym c.fast_retransmit.ensures ∙ on) in
    rw is (c.at_limit.ensures v stands)
