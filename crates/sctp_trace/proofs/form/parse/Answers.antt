use Rattle.std.proofs.Common.{ap, refl, subst, ◌∙◌, ◌≡◌, true, map, string_bytes}
use Rattle.std.specs.Prelude.{IfOk}
use Rattle.clap.specs.Words.{App, FailsBy, HasMatchesOf, fault_of, is_simple_and_free}
use Rattle.clap.proofs.OnLiterals.{clap_on_literals}
use Rattle.sctp_trace.specs.Forms.{commands}
use Rattle.sctp_trace.proofs.form.parse.Goals as goal

is_free : is_simple_and_free commands ≡ true
unfolding clap_on_literals
is_free = refl

pub returns : goal.returns
returns c =
    let all = c.in_ok-program.ensures in
    record {
      fails = subst (λ (a : App). FailsBy (fault_of a (map string_bytes c.args.words.now)) c.try_get_matches_from.result) all
          (c.try_get_matches_from.ensures.kinds (ap is_simple_and_free all ∙ is_free));
      matches = subst (λ (a : App). IfOk c.try_get_matches_from.result (HasMatchesOf a (map string_bytes c.args.words.now))) all
          c.try_get_matches_from.ensures.matches;
    }
