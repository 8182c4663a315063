use Rattle.std.proofs.Common.{◌+◌, ◌≤◌, List, ap, ◌∙◌, arith}
use Rattle.sctp_send.specs.PartsKept.{OutstandingKept}
use Rattle.sctp_send.specs.inner.Stretching.{told_run}
use Rattle.sctp_send.specs.declared.kept.entry.Entry.{Entry as EntryFields}
use Rattle.sctp_send.proofs.kept.StretchLemmas.{run_where}
use Rattle.sctp_send.proofs.kept.outstanding.Outstanding.tell_on.Goals as goal
use Rattle.sctp_send.proofs.kept.outstanding.Outstanding.tell_on.Goals.{then-tell_known-via-then-tell_known, then-tell_known-via-else-tell_known+then-tell_looked}

pub returns-then-tell_known-clause-told : goal.returns-then-tell_known-clause-told
returns-then-tell_known-clause-told c =
    let w = c.args.self.now in
    let by_index = λ (le : c.args.at + 64 ≤ c.args.to). ap (λ (es : List EntryFields). record w { items = es }) (run_where c.args.covered c.args.at 64 w.items (omega (arith, le, c.requires.within))) in
    elim c.then-tell_known.branch [
      | then-tell_known-via-then-tell_known b ↦ b.self-is ∙ c.tell_known.ensures.told b.if-tell_known.true ∙ by_index (c.tell_known.ensures.upto b.if-tell_known.true)
      | then-tell_known-via-else-tell_known+then-tell_looked b ↦
          let same = c.tell_known.ensures.same b.if-tell_known.false in
          b.self-is ∙ b.tell_looked.ensures.told b.if-tell_looked.true ∙ ap (λ (k : OutstandingKept). record k { items = told_run c.args.covered c.args.at 64 k.items }) same ∙ by_index (b.tell_looked.ensures.upto b.if-tell_looked.true)
    ]
