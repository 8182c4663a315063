use Rattle.std.proofs.Common.{◌≡◌, List, length, refl, ap, ◌∙◌, arith}
use Rattle.sctp_send.specs.PartsKept.{changed_at}
use Rattle.sctp_send.specs.inner.Changes.{told, told_at, is_between}
use Rattle.sctp_send.specs.declared.kept.entry.Entry.{Entry as EntryFields}
use Rattle.sctp_send.proofs.sack.EachLemmas.{length-each}
use Rattle.sctp_send.proofs.sack.TellLemmas.{run_starts, run_step}
use Rattle.sctp_send.proofs.sack.acknowledging.tell_entries.Goals as goal

pub loop-at-init : goal.loop-at-init
loop-at-init c = record { told = run_starts c.args.covered c.args.from c.args.entries.now.items; counted = c.requires.counted; header = refl; capacity = refl }

pub tell_one-requires : goal.tell_one-requires
tell_one-requires c =
    let es = c.args.entries.now.items in
    let h = c.loop-at.invariant in
    let long : length c.loop-at.entries.items ≡ length es = ap (λ (xs : List EntryFields). length xs) h.told ∙ length-each (told_at c.args.covered (is_between c.args.from c.loop-at.at)) 1 es in
    record { within = omega (arith, c.loop-at-test.true, long, c.requires.within); counted = h.counted }

pub loop-at-preserved : goal.loop-at-preserved
loop-at-preserved c =
    let h = c.loop-at.invariant in
    record {
      told = c.tell_one.ensures.items ∙ ap (changed_at (told c.args.covered) c.loop-at.at) h.told ∙ run_step c.args.covered c.args.from c.loop-at.at c.args.entries.now.items c.loop-at.auto.at;
      counted = c.tell_one.ensures.counted;
      header = c.tell_one.ensures.header ∙ h.header;
      capacity = c.tell_one.ensures.capacity ∙ h.capacity;
    }
