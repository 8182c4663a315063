use Rattle.std.proofs.Common.{◌∙◌, ◌%◌, List, ◌+◌, suc, refl, ap, sym, arith}
use Rattle.sctp_model.specs.sender.Assigning.{first_on}
use Rattle.sctp_model.specs.sender.SenderView.{Queued}
use Rattle.sctp_send.specs.inner.Stocking.{stocked}
use Rattle.sctp_send.proofs.fill.NextLemmas.{part_first, waiting_first}
use Rattle.sctp_send.proofs.fill.assigning.next_between.Goals as goal

pub returns-in_default-clause-does : goal.returns-in_default-clause-does
returns-in_default-clause-does c = λ s v streams keeps.
    c.part_between.ensures.does s v streams keeps (λ j lo hi. ap (λ (qs : List Queued). first_on j qs) (sym keeps.holds.queue) ∙ c.in_default.ensures.next s.fragment j lo hi)

pub returns-then-part-stream-clause-does : goal.returns-then-part-stream-clause-does
returns-then-part-stream-clause-does c = λ s v streams keeps.
    let found = c.in-Some.found in
    let on = c.in-Some.ensures.next s.fragment in
    part_first (stocked s c.args.stock.now) v c.args.from c.args.below c.next_part-part.result (found.stream + 1) keeps (omega (arith, on.low, c.requires, streams, keeps.holds.streams)) (omega (arith, c.requires, streams, keeps.holds.streams))
    (omega (arith, on.low, c.if-part-stream.true)) (omega (arith, c.if-part-stream.true)) (c.next_part-part.ensures s.fragment) (λ j lo hi. on.before j lo (omega (arith, hi, c.if-part-stream.true)))

pub returns-clause-does : goal.returns-clause-does
returns-clause-does c = λ s v streams keeps.
    let found = c.in-Some.found in
    let on = c.in-Some.ensures.next s.fragment in
    let turn = c.stream_after-behind.ensures ∙ ap (λ n. suc found.stream % n) (sym streams ∙ keeps.holds.streams) in
    waiting_first (stocked s c.args.stock.now) v c.args.from c.args.below c.next_part-part.result found (record { place = found.place; count = 1; turn = c.stream_after-behind.result }) keeps (omega (arith, c.requires, streams, keeps.holds.streams)) on (c.next_part-part.ensures s.fragment)
    (omega (arith, c.if-part-stream.false)) refl refl turn

pub stream_after-behind-requires : goal.stream_after-behind-requires
stream_after-behind-requires c = let on = c.in-Some.ensures.next 1 in omega (arith, on.low, c.requires)

pub overflow_add-stream : goal.overflow_add-stream
overflow_add-stream c = let on = c.in-Some.ensures.next 1 in omega (arith, on.low)

pub returns-then-part-stream-clause-within : goal.returns-then-part-stream-clause-within
returns-then-part-stream-clause-within c = let on = c.in-Some.ensures.next 1 in omega (arith, on.low, c.if-part-stream.true, c.requires)
