use Rattle.std.proofs.Common.{◌≡◌, ◌+◌, ◌≤◌, ◌∷◌, length, ap, ◌∙◌, arith}
use Rattle.std.proofs.lemmas.List.{length-append}
use Rattle.sctp_script.specs.Options.{words_taken}
use Rattle.sctp_script.proofs.OptionWords.{given, unknown_given, enough_given, put_front, take_front}
use Rattle.sctp_script.proofs.options.are_options.Goals as goal

pub returns-in_default : goal.returns-in_default
returns-in_default c =
    (λ e. absurd (cc), λ all. let are = c.loop-left.invariant.same.0 all in absurd (unknown_given _ _ _ are.0 c.next_word.ensures c.in_default.ensures are.1))

pub returns-then-left-taken : goal.returns-then-left-taken
returns-then-left-taken c = (
  λ e. absurd (cc),
  λ all.
      let are = c.loop-left.invariant.same.0 all in
      let enough : words_taken c.in-Some.option ≤ length c.next_word.new.self = enough_given _ _ _ _ are.0 c.next_word.ensures c.in-Some.ensures are.1 in
      absurd (omega (arith, enough, ap length c.next_word.ensures)),
)

pub loop-left-preserved : goal.loop-left-preserved
loop-left-preserved c =
    let (args, behind, count) = c.pass.ensures in
    let many : length args ≡ words_taken c.in-Some.option = count ∙ c.arguments-taken.ensures in
    let size : length c.next_word.new.self ≡ length args + length c.pass.new.words = ap length behind ∙ length-append args c.pass.new.words in
    record {
      count = omega (arith, size, count, ap length c.next_word.ensures);
      same = (
        λ all.
            let are = c.loop-left.invariant.same.0 all in
            let t = take_front _ _ _ args _ _ are.0 c.next_word.ensures c.in-Some.ensures behind many are.1 in
            (t.more, t.are),
        λ rest. c.loop-left.invariant.same.1 (given c.in-Some.option args ∷ rest.0, put_front _ _ _ args _ _ rest.0 c.next_word.ensures c.in-Some.ensures behind many rest.1),
      );
    }
