use Rattle.std.proofs.Common.{rules, refl, inl, inr, [], map, string_bytes, subst, sym, ◌∙◌}
use Rattle.clap.specs.Faults.{fault_of}
use Rattle.clap.specs.Kinds.{IsAmong}
use Rattle.sctp_trace.specs.ExitStatus.{Acts}
use Rattle.sctp_trace.specs.Forms.{commands}
use Rattle.sctp_trace.proofs.command_line.run_words.Goals as goal

-- the words are a form, and what it asks was done
pub returns-in-Ok-clause-ends : goal.returns-in-Ok-clause-ends
returns-in-Ok-clause-ends g c =
    let acts = c.act.ensures.acts in
    (acts.0, acts.1, acts.2, acts.3, acts.4, acts.5, inl (c.in-Ok.ensures.fails, subst (λ f. Acts (g.R.Source.IsAtEnd c.act.new.input) f c.act.result acts.0 acts.1 acts.2) c.in-Ok.ensures.form acts.6))

-- the words are no form: nothing is read or written
pub returns-in-Err-clause-ends : goal.returns-in-Err-clause-ends
returns-in-Err-clause-ends g c =
    let says = c.refuse.ensures.says in
    elim says.2 [
      | inl said ↦ (
        [],
        [],
        says.0,
        search rules,
        search rules,
        says.1,
        elim c.in-Err.ensures.fails [
          | inl memory ↦ absurd (said.0 (c.kind.ensures ∙ memory))
          | inr among ↦ inr (inl (refl, refl, (c.kind.result, subst (λ k. IsAmong k (fault_of commands (map string_bytes c.args.words.now))) (sym c.kind.ensures) among, said.1)))
        ],
      )
      | inr failed ↦ ([], [], says.0, search rules, search rules, says.1, inr (inr (failed.0, refl, refl, failed.1)))
    ]
