use Rattle.std.proofs.Common.{◌≡◌, false, sym, ◌∙◌, subst, arith}
use Rattle.sctp_chains.specs.Links.{ChainKept, one_of, is_linked}
use Rattle.sctp_chains.proofs.MemoryLemmas.{same_at, length_kept}
use Rattle.sctp_chains.proofs.filing.linked_before.Goals as goal
use Rattle.sctp_chains.proofs.filing.linked_before.Goals.{else-before-len-via-then-before-len+else-continues, else-before-len-via-else-before-len}

pub returns : goal.returns
returns c = λ le j is k less at.
    let place : c.in_ok-before.before ≡ j = omega (arith, c.in_ok-before.ensures, is) in
    elim c.else-before-len.branch [
      | else-before-len-via-then-before-len+else-continues w ↦
          let same = same_at c.args.chains.now.items c.in_ok-before.before j w.get.result.now k place (omega (arith, w.if-before-len.true, c.len.ensures)) w.get.ensures at in
          subst (λ (x : ChainKept). is_linked x (one_of c.args.part.now) ≡ false) same (sym w.continues.ensures ∙ w.if-continues.false)
      | else-before-len-via-else-before-len w ↦ absurd (omega (arith, w.if-before-len.false, less, place, length_kept c.args.chains.now.items, c.len.ensures))
    ]
