use Rattle.std.proofs.Common.{◌∙◌, subst, Bool}
use Rattle.sctp_model.specs.messages.Acknowledgement.{in_blocks}
use Rattle.sctp_send.specs.CoveredRuns.{in_runs, HoldsBlocks}
use Rattle.sctp_send.specs.inner.Changes.{IsExact}
use Rattle.sctp_send.proofs.sack.CoverLemmas.{told_same}
use Rattle.sctp_send.proofs.sack.RecoverLemmas.{recovered}
use Rattle.sctp_send.proofs.sack.covered.retell.Goals as goal

pub returns-then-are_known-clause-told : goal.returns-then-are_known-clause-told
returns-then-are_known-clause-told c = λ exact same.
    let es = c.args.outstanding.now.items in
    let known = subst (λ (b : Bool). IsExact b c.args.old.now es) c.if-are_known.true exact in
    let held : HoldsBlocks c.args.new.now c.args.blocks.now = same c.if-are_known.true in
    recovered c.args.old.now c.args.new.now es c.tell_alone.new.outstanding.items c.tell_alone-then-are_known.new.outstanding.items known.1 (c.tell_alone.ensures.items held.order known.0) (c.tell_alone-then-are_known.ensures.items known.0 held.order)
    ∙ told_same (in_runs c.args.new.now) (in_blocks 0 c.args.blocks.now) es 1 (λ j lo. held.same j lo)

pub returns-clause-told : goal.returns-clause-told
returns-clause-told c = λ exact same. c.cover.ensures.covered
