use Rattle.std.proofs.Common.{◌≡◌, ◌==◌, true, false, ◌∙◌, sym, refl, length, arith}
use Rattle.std.proofs.lemmas.Grind.{common_steps}
use Rattle.sctp_model.specs.wire.Chunk.{padded}
use Rattle.sctp_model.specs.wire.Typed.{starts_typed, length_field}
use Rattle.sctp_model.proofs.NumberLemmas.{AreBytes-drop}
use Rattle.sctp_wire.specs.inner.FirstAsWritten.{IsFirstAsWritten}
use Rattle.sctp_wire.proofs.AsWrittenLemmas.{a_list, listed_at_end, behind_shorter, as_written_step, nothing_as_written}
use Rattle.sctp_wire.proofs.as_written.are_as_written.Goals as goal

pub loop-rest-smaller : goal.loop-rest-smaller
loop-rest-smaller c =
    let begins : starts_typed c.loop-rest.rest.now ≡ true = grind (arith, common_steps) in
    rw c.split_first.ensures.rest (behind_shorter c.loop-rest.rest.now begins)

pub loop-rest-preserved : goal.loop-rest-preserved
loop-rest-preserved c =
    let rest = c.loop-rest.rest.now in
    let before = c.loop-rest.invariant in
    let begins : starts_typed rest ≡ true = grind (arith, common_steps) in
    let first : IsFirstAsWritten rest = c.is_first_as_written.ensures.0 (grind (arith, common_steps)) in
    let step = as_written_step rest before.ranged begins before.listed in
    rw c.split_first.ensures.rest (record {
      ranged = AreBytes-drop (padded (length_field rest)) rest before.ranged;
      listed = (a_list rest begins before.listed).others;
      same = (λ whole. (step.0 (before.same.0 whole)).1, λ others. before.same.1 (step.1 (first, others)));
    })

pub returns-then-not-is_first_as_written : goal.returns-then-not-is_first_as_written
returns-then-not-is_first_as_written c =
    let rest = c.loop-rest.rest.now in
    let before = c.loop-rest.invariant in
    let begins : starts_typed rest ≡ true = grind (arith, common_steps) in
    let step = as_written_step rest before.ranged begins before.listed in
    let other : c.is_first_as_written.result ≡ false = grind (arith, common_steps) in
    (λ e. absurd (cc), λ whole. let told = c.is_first_as_written.ensures.1 (step.0 (before.same.0 whole)).0 in absurd (cc))

pub returns : goal.returns
returns c =
    let rest = c.loop-rest.rest.now in
    let none : starts_typed rest ≡ false = grind (arith, common_steps) in
    let nothing : (length rest == 0) ≡ true = sym (listed_at_end rest none) ∙ c.loop-rest.invariant.listed in
    (λ e. c.loop-rest.invariant.same.1 (nothing_as_written rest (grind (arith, common_steps))), λ whole. refl)
