use Rattle.std.proofs.Common.{subst}
use Rattle.sctp_model.specs.end.EndView.{Configuration}
use Rattle.sctp_script.specs.OptionLines.{Leave}
use Rattle.sctp_script.proofs.OptionsLeave.{checked_left}
use Rattle.sctp_script.proofs.options.left_by.Goals as goal

pub returns : goal.returns
returns c = λ gs are.
    let law = c.words_say_one_value.ensures in
    checked_left (record { numbers = law.numbers; bytes = law.bytes }) gs c.args.config c.in_ok-settings.settings c.checked.result
    (subst (λ (e : Configuration). Leave gs e c.in_ok-settings.settings) c.of.ensures (c.in_ok-settings.ensures gs are)) c.checked.ensures
