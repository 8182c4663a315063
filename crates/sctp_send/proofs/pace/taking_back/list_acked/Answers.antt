use Rattle.std.proofs.Common.{◌≡◌, ◌∙◌, ◌++◌, ◌+◌, ◌-◌, [], ◌∷◌, List, ℕ, Bool, map, length, sym, ap, arith, append-nil}
use Rattle.std.specs.Prelude.{if◌then◌else◌}
use Rattle.sctp_send.specs.OutstandingFields.{item_meaning}
use Rattle.sctp_send.specs.inner.Testing.{index_of, offsets_that}
use Rattle.sctp_send.specs.inner.Weighing.{is_item_acked, passes_here}
use Rattle.sctp_send.proofs.pace.HereLemmas.{here_past}
use Rattle.sctp_send.proofs.pace.OffsetLemmas.{offsets_upto, listed_on, offsets_more}
use Rattle.sctp_send.proofs.pace.taking_back.list_acked.Goals as goal

pub loop-at-init : goal.loop-at-init
loop-at-init c =
    let none : c.args.from - c.args.from ≡ 0 = omega arith in
    record {
      upto = λ lt. absurd (omega (arith, lt));
      listed = λ size. sym (append-nil c.args.back.now.items) ∙ ap (λ (n : ℕ). c.args.back.now.items ++ map (index_of c.args.cum) (offsets_that (passes_here is_item_acked (map (item_meaning size) c.args.outstanding.now.items)) c.args.from n)) (sym none);
    }

pub loop-at-preserved : goal.loop-at-preserved
loop-at-preserved c = record {
  upto = λ lt. omega (arith, c.loop-at-test.true);
  listed = λ size.
      let t : ℕ → Bool = passes_here is_item_acked (map (item_meaning size) c.args.outstanding.now.items) in
      listed_on c.args.cum c.args.back.now.items _ _ (offsets_that t c.args.from (c.loop-at.at - c.args.from)) (if t c.loop-at.at then c.loop-at.at ∷ [] else []) _ (c.loop-at.invariant.listed size) (c.in_ok-note_acked.ensures size)
      (offsets_more t c.args.from c.loop-at.at c.loop-at.auto.at);
}

pub returns : goal.returns
returns c = λ size.
    let es = c.args.outstanding.now.items in
    let t : ℕ → Bool = passes_here is_item_acked (map (item_meaning size) es) in
    c.loop-at.invariant.listed size
    ∙ ap (λ (ks : List ℕ). c.args.back.now.items ++ map (index_of c.args.cum) ks) (offsets_upto t c.args.from c.loop-at.at c.args.to (length es) c.loop-at.auto.at (omega (arith, c.loop-at-test.false, c.min-at-end.ensures, c.len.ensures)) (λ lt. let upto = c.loop-at.invariant.upto lt in omega (arith, upto, c.min-at-end.ensures)) (λ k le. here_past is_item_acked size es k le))
