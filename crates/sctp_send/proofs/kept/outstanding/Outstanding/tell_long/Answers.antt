use Rattle.std.proofs.Common.{◌≡◌, ◌≤◌, List, length, ap, ◌∙◌, arith}
use Rattle.sctp_send.specs.PartsKept.{OutstandingKept}
use Rattle.sctp_send.specs.inner.Changes.{told_at, told_where, is_between}
use Rattle.sctp_send.specs.declared.kept.entry.Entry.{Entry as EntryFields}
use Rattle.sctp_send.proofs.sack.EachLemmas.{length-each}
use Rattle.sctp_send.proofs.sack.TellLemmas.{run_starts, run_joined}
use Rattle.sctp_send.proofs.kept.outstanding.Outstanding.tell_long.Goals as goal

pub loop-at-init : goal.loop-at-init
loop-at-init c =
    let w = c.args.self.now in
    record {
      low = omega arith;
      high = c.requires.order;
      told = ap (λ (es : List EntryFields). record w { items = es }) (run_starts c.args.covered c.args.from w.items);
    }

pub tell_on-at-requires : goal.tell_on-at-requires
tell_on-at-requires c =
    let w = c.args.self.now in
    let long : length c.loop-at.self.items ≡ length w.items = ap (λ (k : OutstandingKept). length k.items) c.loop-at.invariant.told ∙ length-each (told_at c.args.covered (is_between c.args.from c.loop-at.at)) 1 w.items in
    record { order = omega (arith, c.loop-at-test.true); within = omega (arith, long, c.requires.within) }

pub loop-at-preserved : goal.loop-at-preserved
loop-at-preserved c =
    let w = c.args.self.now in
    let h = c.loop-at.invariant in
    let next = c.tell_on-at.result in
    let low : c.loop-at.at ≤ next = omega (arith, c.tell_on-at.ensures.further) in
    record {
      low = omega (arith, h.low, low);
      high = c.tell_on-at.ensures.upto;
      told =
          c.tell_on-at.ensures.told ∙ ap (λ (k : OutstandingKept). record k { items = told_where c.args.covered (is_between c.loop-at.at next) 1 k.items }) h.told
          ∙ ap (λ (es : List EntryFields). record w { items = es }) (run_joined c.args.covered c.args.from c.loop-at.at next w.items h.low low);
    }

pub returns : goal.returns
returns c =
    let w = c.args.self.now in
    let h = c.loop-at.invariant in
    let end : c.loop-at.at ≡ c.args.to = omega (arith, h.high, c.loop-at-test.false) in
    rw end at h.told
