use Rattle.std.proofs.Common.{◌≡◌, ℕ, ◌<◌, length, sym, subst, arith}
use Rattle.std.proofs.lemmas.List.{length-set}
use Rattle.sctp_channels.specs.inner.Spans.{IsWithin}
use Rattle.sctp_channels.proofs.SpanLemmas.{above_set}
use Rattle.sctp_channels.proofs.table.Table.set_threshold.Goals as goal

pub invariant_of-self : goal.invariant_of-self
invariant_of-self c =
    let old = c.args.self.now in
    let n = c.from-at.result in
    let at : n ≡ c.args.stream = c.from-at.ensures in
    let there : n < length old.thresholds.items = omega (arith, at, c.if-at-len.true, c.len.ensures, old.thresholds.ok.0) in
    let size = length-set old.thresholds.items n c.args.to in
    record {
      few = old.few;
      no_more = omega (arith, size, old.no_more);
      busy_fits = c.with-self.ensures.fits _ (omega (arith, at, there, old.no_more)) old.busy_fits;
      used_fits = old.used_fits;
      are_busy = above_set old.busy c.with-self.result old.streams.items old.thresholds.items n c.args.to there old.are_busy c.with-self.ensures.same (λ on. subst (λ (k : ℕ). IsWithin c.with-self.result k) (sym at) (c.with-self.ensures.more on));
      are_used = old.are_used;
    }
