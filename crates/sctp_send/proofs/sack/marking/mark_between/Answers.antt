use Rattle.std.proofs.Common.{◌≡◌, ◌∙◌, ℕ, Bool, ap, refl, length, arith}
use Rattle.std.specs.Prelude.{min}
use Rattle.sctp_send.specs.PartsKept.{OutstandingKept}
use Rattle.sctp_send.specs.inner.Marking.{all_timed}
use Rattle.sctp_send.specs.inner.Testing.{index_of, passes_between}
use Rattle.sctp_send.proofs.sack.MarkLemmas.{timed_none, timed_more, capped_next, timed_within}
use Rattle.sctp_send.proofs.sack.marking.mark_between.Goals as goal

pub loop-at-init : goal.loop-at-init
loop-at-init g c = record {
  items = λ rs capped. timed_none c.args.partial rs (λ k. g.T.IndexTest.Says c.args.test.now (index_of c.args.cum k)) c.min-first.result c.args.outstanding.now.items;
  long = refl;
  room = record { size = refl; header = refl; capacity = refl };
}

pub loop-at-preserved : goal.loop-at-preserved
loop-at-preserved g c =
    let before = c.loop-at.invariant in
    let one = c.mark_one.ensures in
    let says : ℕ → Bool = g.T.IndexTest.Says c.args.test.now in
    let within = passes_between says c.args.cum c.min-first.result c.loop-at.at in
    record {
      items = λ rs capped.
          let is = before.items rs capped in
          let next = capped_next c.args.partial rs within c.loop-at.at c.args.outstanding.now.items c.loop-at.outstanding.items capped is (omega arith) in
          timed_more c.args.partial rs (λ k. says (index_of c.args.cum k)) c.min-first.result c.loop-at.at c.args.outstanding.now.items c.loop-at.outstanding.items c.mark_one.new.outstanding.items (omega arith) is
          (ap (λ (w : OutstandingKept). w.items) (one.items (rs c.loop-at.at) next));
      long = one.long ∙ before.long;
      room = record { size = one.kept.size ∙ before.room.size; header = one.kept.header ∙ before.room.header; capacity = one.kept.capacity ∙ before.room.capacity };
    }

pub returns-clause-items : goal.returns-clause-items
returns-clause-items g c = λ rs capped.
    let says : ℕ → Bool = g.T.IndexTest.Says c.args.test.now in
    let ends : c.loop-at.at ≡ c.min-last.result = let low = c.loop-at.auto.at-end (omega arith) in omega (arith, low) in
    let last : c.min-last.result ≡ min c.args.to (length c.args.outstanding.now.items) = c.min-last.ensures ∙ ap (min c.args.to) c.len.ensures in
    c.loop-at.invariant.items rs capped ∙ ap (λ (n : ℕ). all_timed c.args.partial rs (passes_between says c.args.cum c.min-first.result n) c.args.outstanding.now.items) ends
    ∙ timed_within c.args.partial rs (λ k. says (index_of c.args.cum k)) c.args.from c.args.to c.min-last.result c.min-first.result c.args.outstanding.now.items last c.min-first.ensures
