use Rattle.std.specs.Prelude.{◌≡◌, ◌++◌, ℕ, List, length}
use Rattle.sctp_script.proofs.options.pass.Given as goal

abbrev pub invariant-loop : goal.invariant-loop
invariant-loop l = record {
  taken : (args : List (List ℕ)) × (l.initial.words ≡ args ++ l.words) × (length args ≡ l.counter);
}
