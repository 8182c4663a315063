use Rattle.std.proofs.Common.{Bool, MatchOption, sym, subst}
use Rattle.sctp_model.specs.end.EndView.{Configuration}
use Rattle.sctp_script.specs.OptionLines.{LeaveAt}
use Rattle.sctp_script.proofs.options.left_at.Goals as goal

pub left_by-requires : goal.left_by-requires
left_by-requires c = let (x, gs, line) = c.requires in (gs, c.option_words.ensures x gs line)

pub returns-then-named : goal.returns-then-named
returns-then-named c = λ x gs line.
    subst (λ (n : Bool). MatchOption c.left_by.result ((d : Configuration) → LeaveAt n gs c.args.config d → ⊥) (λ d. LeaveAt n gs c.args.config d))
    (sym c.if-named.true) (c.left_by.ensures gs (c.option_words.ensures x gs line))
