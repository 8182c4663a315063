use Rattle.std.proofs.Common.{ap, ◌∙◌, drop, List}
use Rattle.std.proofs.lemmas.List.{drop-drop}
use Rattle.sctp_send.specs.declared.kept.entry.Entry.{Entry as EntryFields}
use Rattle.sctp_send.proofs.sack.entries.keep_shells.Goals as goal

pub loop-preserved : goal.loop-preserved
loop-preserved c =
    let before = c.loop.invariant in
    record {
      items = c.pop_front.ensures.rest ∙ ap (λ (es : List EntryFields). drop 1 es) before.items ∙ drop-drop 1 c.loop.counter c.args.entries.now.items;
      room = c.pop_front.ensures.capacity ∙ before.room;
    }
