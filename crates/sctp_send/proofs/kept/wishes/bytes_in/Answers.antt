use Rattle.std.proofs.Common.{◌≡◌, ◌≤◌, ℕ, List, length, Some, ap, ◌∙◌, arith}
use Rattle.sctp_model.specs.sender.Entries.{bytes_in}
use Rattle.sctp_send.specs.OutstandingFields.{lane_meaning, message_meaning, entry_meaning}
use Rattle.sctp_send.specs.inner.Stretching.{entry_bytes}
use Rattle.sctp_send.specs.declared.kept.message.Message.{Message as MessageFields}
use Rattle.sctp_send.proofs.kept.WeightLemmas.{bytes_short}
use Rattle.sctp_send.proofs.kept.wishes.bytes_in.Goals as goal

pub overflow_cast-result : goal.overflow_cast-result
overflow_cast-result c =
    let e = c.args.entry.now in
    let is : length c.bytes_of.result.now ≡ entry_bytes c.args.size e = ap (λ (xs : List ℕ). length xs) (c.bytes_of.ensures (lane_meaning e.message.value) e.number)
    ∙ ap (λ (m : MessageFields). length (bytes_in (entry_meaning (lane_meaning e.message.value) e.number e.content) (Some (message_meaning c.args.size m)))) c.deref.ensures in
    let short : entry_bytes c.args.size e ≤ c.args.size = bytes_short c.args.size e c.requires in
    omega (arith, is, short, c.ranges.size.fits)

pub returns-clause-short : goal.returns-clause-short
returns-clause-short c =
    let e = c.args.entry.now in
    let is : length c.bytes_of.result.now ≡ entry_bytes c.args.size e = ap (λ (xs : List ℕ). length xs) (c.bytes_of.ensures (lane_meaning e.message.value) e.number)
    ∙ ap (λ (m : MessageFields). length (bytes_in (entry_meaning (lane_meaning e.message.value) e.number e.content) (Some (message_meaning c.args.size m)))) c.deref.ensures in
    let short : entry_bytes c.args.size e ≤ c.args.size = bytes_short c.args.size e c.requires in
    omega (arith, is, short, c.ranges.size.fits)
