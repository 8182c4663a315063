use Rattle.std.proofs.Common.{◌≡◌, ◌+◌, ◌≤◌, List, [], length, refl, sym, ap, ◌∙◌, subst, arith}
use Rattle.std.proofs.lemmas.List.{length-append}
use Rattle.sctp_script.specs.Options.{words_taken}
use Rattle.sctp_script.specs.OptionLines.{GivenOption, Leave}
use Rattle.sctp_script.proofs.FieldLemmas.{no_words}
use Rattle.sctp_script.proofs.OptionWords.{unknown_given, enough_given, nothing_given, take_front}
use Rattle.sctp_script.proofs.OptionsLeave.{left_behind, left_in_front, unset_leaves}
use Rattle.sctp_script.proofs.options.all_set.Goals as goal

pub loop-left-init : goal.loop-left-init
loop-left-init c = record {
  count = c.count-left.ensures;
  options = c.requires;
  same = λ gs are. (gs, are, λ e. (λ leave. leave, λ leave. leave));
}

pub next_word-requires : goal.next_word-requires
next_word-requires c = let count = c.loop-left.invariant.count in omega (arith, count)

pub unreachable-requires : goal.unreachable-requires
unreachable-requires c =
    let given = c.loop-left.invariant.options in
    unknown_given _ _ _ given.0 c.next_word.ensures c.in_default.ensures given.1

pub overflow_sub-left : goal.overflow_sub-left
overflow_sub-left c =
    let given = c.loop-left.invariant.options in
    let enough : words_taken c.in-Some.option ≤ length c.next_word.new.self = enough_given _ _ _ _ given.0 c.next_word.ensures c.in-Some.ensures given.1 in
    omega (arith, enough, ap length c.next_word.ensures)

pub set-requires : goal.set-requires
set-requires c =
    let given = c.loop-left.invariant.options in
    enough_given _ _ _ _ given.0 c.next_word.ensures c.in-Some.ensures given.1

pub returns-in_err-left_so_far : goal.returns-in_err-left_so_far
returns-in_err-left_so_far c = λ gs are.
    let (args, behind, count, none) = c.in_err-left_so_far.ensures in
    let (rest, are_rest, same) = c.loop-left.invariant.same gs are in
    let t = take_front _ _ _ args _ _ rest c.next_word.ensures c.in-Some.ensures behind count are_rest in
    rw c.from_residual.ensures (λ e leave. unset_leaves _ args rest t.more _ t.all none e ((same e).0 leave))

pub loop-left-preserved : goal.loop-left-preserved
loop-left-preserved c =
    let (args, behind, count, sets) = c.in_ok-left_so_far.ensures in
    let given = c.loop-left.invariant.options in
    let first = take_front _ _ _ args _ _ given.0 c.next_word.ensures c.in-Some.ensures behind count given.1 in
    let size : length c.next_word.new.self ≡ length args + length c.set.new.words = ap length behind ∙ length-append args c.set.new.words in
    let law = c.words_say_one_value.ensures in
    record {
      count = omega (arith, size, count, ap length c.next_word.ensures);
      options = (first.more, first.are);
      same = λ gs are.
          let (rest, are_rest, same) = c.loop-left.invariant.same gs are in
          let t = take_front _ _ _ args _ _ rest c.next_word.ensures c.in-Some.ensures behind count are_rest in (
            t.more,
            t.are,
            λ e. (
              λ leave. left_behind (record { numbers = law.numbers; bytes = law.bytes }) _ args rest t.more _ _ e t.all sets ((same e).0 leave),
              λ leave. (same e).1 (left_in_front _ args rest t.more _ _ e t.all sets leave),
            ),
          );
    }

pub returns : goal.returns
returns c = λ gs are.
    let (rest, are_rest, same) = c.loop-left.invariant.same gs are in
    let count = c.loop-left.invariant.count in
    let none : c.loop-left.words ≡ [] = no_words c.loop-left.words (omega (arith, count)) in
    let all : rest ≡ [] = nothing_given c.loop-left.words rest none are_rest in
    (same c.loop-left.left_so_far).1 (subst (λ (hs : List GivenOption). Leave hs c.loop-left.left_so_far c.loop-left.left_so_far) (sym all) refl)
