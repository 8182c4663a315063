use Rattle.std.proofs.Common.{inl, inr, List, ℕ, ◌++◌, ◌∙◌, ◌≡◌, ap, subst}
use Rattle.sctp_trace.specs.ExitStatus.{Begins}
use Rattle.sctp_trace.proofs.command_line.print_chunks_of.Goals as goal

-- the lines were written, or a beginning of them
pub returns-in-Ok-clause-prints : goal.returns-in-Ok-clause-prints
returns-in-Ok-clause-prints g c =
    let added = c.in-Ok.ensures in
    let lines : c.deref.result.now ≡ added.0 = c.deref.ensures.value ∙ (added.1 ∙ ap (λ (xs : List ℕ). xs ++ added.0) c.new-lines.ensures.items) in
    elim c.put.ensures [
      | inl done ↦ (c.deref.result.now, done.1, inl (added.0, c.in-Ok.was_read, added.2, inl (done.0 ∙ c.status_of.ensures, lines)))
      | inr failed ↦ (failed.1.0, failed.1.1, inl (added.0, c.in-Ok.was_read, added.2, inr (failed.0, subst (Begins failed.1.0) lines failed.1.2)))
    ]
