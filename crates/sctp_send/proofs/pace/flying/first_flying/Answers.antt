use Rattle.std.proofs.Common.{◌≡◌, ◌∙◌, Bool, map, inl, inr, sym, ap, arith}
use Rattle.std.specs.Prelude.{◌&&◌}
use Rattle.std.proofs.lemmas.Bool.{cases_lt}
use Rattle.sctp_send.specs.OutstandingFields.{item_meaning}
use Rattle.sctp_send.specs.inner.Testing.{index_of}
use Rattle.sctp_send.specs.inner.Weighing.{is_item_flying, flies_and_passes}
use Rattle.sctp_send.proofs.pace.HereLemmas.{here_past}
use Rattle.sctp_send.proofs.pace.flying.first_flying.Goals as goal

pub loop-at-init : goal.loop-at-init
loop-at-init g c = λ size k lo hi. absurd (omega (arith, lo, hi))

pub loop-at-preserved : goal.loop-at-preserved
loop-at-preserved g c = λ size k lo hi. elim (cases_lt k c.loop-at.at) [
  | inl before ↦ c.loop-at.invariant size k lo before
  | inr now ↦
      let same : k ≡ c.loop-at.at = omega (arith, now, hi) in
      ap (flies_and_passes (g.T.IndexTest.Says c.args.test.now) c.args.cum (map (item_meaning size) c.args.outstanding.now.items)) same
      ∙ sym (c.is_lost.ensures size) ∙ c.if-is_lost.false
]

pub returns-then-is_lost : goal.returns-then-is_lost
returns-then-is_lost g c = λ size.
    record {
      above = c.loop-at.auto.at;
      below = omega (arith, c.loop-at-test.true, c.min-at-end.ensures);
      passes = sym (c.is_lost.ensures size) ∙ c.if-is_lost.true;
      before = λ k lo hi. c.loop-at.invariant size k lo hi;
    }

pub returns : goal.returns
returns g c = λ size k lo hi. elim (cases_lt k c.loop-at.at) [
  | inl before ↦ c.loop-at.invariant size k lo before
  | inr past ↦ ap (λ (b : Bool). b && g.T.IndexTest.Says c.args.test.now (index_of c.args.cum k)) (here_past is_item_flying size c.args.outstanding.now.items k (omega (arith, past, hi, lo, c.loop-at-test.false, c.min-at-end.ensures, c.len.ensures)))
]
