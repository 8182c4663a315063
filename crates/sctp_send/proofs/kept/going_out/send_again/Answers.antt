use Rattle.std.proofs.Common.{◌∙◌, ap, refl}
use Rattle.sctp_send.specs.PartsKept.{changed_at}
use Rattle.sctp_send.specs.inner.Changes.{stood}
use Rattle.sctp_send.specs.inner.Stocking.{went_out}
use Rattle.sctp_send.specs.declared.kept.entry.Standing.TheVariants.{Sent}
use Rattle.sctp_send.proofs.kept.ChangedLemmas.{changed_at_like}
use Rattle.sctp_send.proofs.kept.going_out.send_again.Goals as goal

pub returns-clause-items : goal.returns-clause-items
returns-clause-items c =
    let x = c.index-entry.result.now in
    let es = c.args.entries.now.items in
    c.stand_one.ensures.items ∙ ap (λ (n : _). changed_at (stood (record { standing = Sent; covered = x.covered; abandoned = x.abandoned; repeats = n })) c.args.at es) c.repeats_after.ensures
    ∙ changed_at_like _ went_out c.args.at es x c.index-entry.ensures refl
