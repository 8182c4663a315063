use Rattle.std.proofs.Common.{◌≡◌, List, length, ap, ◌∙◌, arith}
use Rattle.sctp_send.specs.PartsKept.{OutstandingKept, changed}
use Rattle.sctp_send.specs.inner.Changes.{told, told_at, is_between}
use Rattle.sctp_send.specs.declared.kept.entry.Entry.{Entry as EntryFields}
use Rattle.sctp_send.proofs.sack.EachLemmas.{length-each}
use Rattle.sctp_send.proofs.sack.TellLemmas.{run_starts, run_step}
use Rattle.sctp_send.proofs.kept.outstanding.Outstanding.tell_each.Goals as goal

pub loop-at-init : goal.loop-at-init
loop-at-init c =
    let w = c.args.self.now in
    ap (λ (es : List EntryFields). record w { items = es }) (run_starts c.args.covered c.args.from w.items)

pub tell-requires : goal.tell-requires
tell-requires c =
    let w = c.args.self.now in
    let long : length c.loop-at.self.items ≡ length w.items = ap (λ (k : OutstandingKept). length k.items) c.loop-at.invariant ∙ length-each (told_at c.args.covered (is_between c.args.from c.loop-at.at)) 1 w.items in
    omega (arith, c.loop-at-test.true, long, c.requires.within)

pub loop-at-preserved : goal.loop-at-preserved
loop-at-preserved c =
    let w = c.args.self.now in
    c.tell.ensures ∙ ap (changed (told c.args.covered) c.loop-at.at) c.loop-at.invariant
    ∙ ap (λ (es : List EntryFields). record w { items = es }) (run_step c.args.covered c.args.from c.loop-at.at w.items c.loop-at.auto.at)
