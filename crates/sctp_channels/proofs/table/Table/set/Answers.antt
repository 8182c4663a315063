use Rattle.std.proofs.Common.{◌≡◌, ℕ, ◌<◌, length, sym, subst, ◌∙◌, arith}
use Rattle.std.proofs.lemmas.List.{length-set}
use Rattle.sctp_channels.specs.inner.Spans.{IsWithin, Fits}
use Rattle.sctp_channels.proofs.SpanLemmas.{busy_set, used_set}
use Rattle.sctp_channels.proofs.table.Table.set.Goals as goal

pub invariant_of-self : goal.invariant_of-self
invariant_of-self c =
    let old = c.args.self.now in
    let n = c.from-at.result in
    let at : n ≡ c.args.stream = c.from-at.ensures in
    let there : n < length old.streams.items = omega (arith, at, c.if-at-len.true, c.len.ensures, old.streams.ok.0) in
    let size = length-set old.streams.items n c.args.to in
    record {
      few = omega (arith, size, old.few);
      no_more = omega (arith, size, old.no_more);
      busy_fits = c.with-self.ensures.fits _ (omega (arith, at, size, there)) (subst (λ (many : _). Fits old.busy many) (sym size) old.busy_fits);
      used_fits = c.with-self-then-at-len.ensures.fits _ (omega (arith, at, size, there)) (subst (λ (many : _). Fits old.used many) (sym size) old.used_fits);
      are_busy = busy_set old.busy c.with-self.result old.streams.items old.thresholds.items n c.args.to there old.are_busy c.with-self.ensures.same (λ on. subst (λ (k : ℕ). IsWithin c.with-self.result k) (sym at) (c.with-self.ensures.more (c.is_restless.ensures ∙ on)));
      are_used = used_set old.used c.with-self-then-at-len.result old.streams.items n c.args.to there old.are_used c.with-self-then-at-len.ensures.same
          (λ on. subst (λ (k : ℕ). IsWithin c.with-self-then-at-len.result k) (sym at) (c.with-self-then-at-len.ensures.more (c.has_channel.ensures ∙ on)));
    }
