use Rattle.std.proofs.Common.{ap, ◌∙◌, drop, List}
use Rattle.std.proofs.lemmas.List.{drop-drop}
use Rattle.sctp_send.specs.declared.kept.entry.Entry.{Entry as EntryFields}
use Rattle.sctp_send.proofs.sack.entries.forget.Goals as goal

pub loop-preserved : goal.loop-preserved
loop-preserved c =
    let before = c.loop.invariant in
    rw c.pop_front.ensures (record {
      items = ap (λ (es : List EntryFields). drop 1 es) before.items ∙ drop-drop 1 c.loop.counter c.args.outstanding.now.items;
      room = record { size = before.room.size; header = before.room.header; capacity = before.room.capacity };
    })
