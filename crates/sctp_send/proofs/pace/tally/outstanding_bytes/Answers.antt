use Rattle.std.proofs.Common.{◌≡◌, ◌∙◌, true, false, sym, refl, ap}
use Rattle.sctp_model.specs.end.Control.{whole}
use Rattle.sctp_send.specs.OutstandingFields.{item_meaning}
use Rattle.sctp_send.specs.inner.Walks.{is_item_unsettled}
use Rattle.sctp_send.proofs.pace.tally.outstanding_bytes.Goals as goal

pub returns-then-is_unsettled : goal.returns-then-is_unsettled
returns-then-is_unsettled c =
    let on : is_item_unsettled (item_meaning c.args.size c.args.entry.now) ≡ true = sym (c.is_unsettled.ensures c.args.size) ∙ c.if-is_unsettled.true in
    rw on (c.from.ensures ∙ c.whole.ensures.bytes ∙ ap (whole c.args.header) c.bytes_in.ensures.bytes)

pub returns-else-is_unsettled : goal.returns-else-is_unsettled
returns-else-is_unsettled c =
    let off : is_item_unsettled (item_meaning c.args.size c.args.entry.now) ≡ false = sym (c.is_unsettled.ensures c.args.size) ∙ c.if-is_unsettled.false in
    rw off refl
