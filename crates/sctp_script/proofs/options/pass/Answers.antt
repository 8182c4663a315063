use Rattle.std.proofs.Common.{◌+◌, ◌∷◌, [], ◌++◌, List, ℕ, ap, sym, ◌∙◌, append_assoc}
use Rattle.std.proofs.lemmas.List.{length-append}
use Rattle.sctp_script.proofs.options.pass.Goals as goal

pub loop-preserved : goal.loop-preserved
loop-preserved c =
    let (args, is, count) = c.loop.invariant.taken in
    let w = c.next_word-word.result.now in
    record {
      taken = (
        args ++ w ∷ [],
        is ∙ ap (λ (ws : List (List ℕ)). args ++ ws) c.next_word-word.ensures ∙ sym (append_assoc args (w ∷ []) c.next_word-word.new.self),
        length-append args (w ∷ []) ∙ ap (λ (n : ℕ). n + 1) count,
      );
    }
