use Rattle.std.proofs.Common.{◌≡◌, ◌+◌, ◌-◌, ◌<◌, ℕ, suc, length, Bool, Some, refl, sym, ap, ◌∙◌, subst, arith}
use Rattle.std.specs.Prelude.{slice_get}
use Rattle.sctp_model.specs.end.Control.{whole}
use Rattle.sctp_send.specs.inner.Stretching.{IsQuiet, plain_bytes, plain_chunk, AreAlike}
use Rattle.std.proofs.lemmas.Option.{slice_get_read}
use Rattle.sctp_send.proofs.kept.StretchLemmas.{flags_not_differ, alike_none, alike_more}
use Rattle.sctp_send.proofs.kept.stretches.look_at_stretch.Goals as goal

pub loop-offset-init : goal.loop-offset-init
loop-offset-init c =
    let es = c.args.entries.now.items in
    let none : 0 ≡ c.args.at - c.args.at = omega arith in
    record {
      low = omega arith;
      alike = subst (λ (k : ℕ). AreAlike c.args.header c.args.size c.index.result.now.covered 0 0 0 c.args.at k es) none (alike_none c.args.header c.args.size c.index.result.now.covered c.args.at es (omega (arith, c.requires.within)));
      few = omega arith;
      light = omega arith;
      less = omega arith;
    }

pub loop-offset-preserved : goal.loop-offset-preserved
loop-offset-preserved c =
    let h = c.loop-offset.invariant in
    let es = c.args.entries.now.items in
    let e = c.index-entry.result.now in
    let b = c.index.result.now.covered in
    let n = c.loop-offset.bytes in
    let m = c.loop-offset.chunks in
    let q = c.loop-offset.plain in
    let at = c.args.at in
    let p = c.loop-offset.offset in
    let k = p - at in
    let here : p ≡ at + k = omega (arith, h.low) in
    let next : suc k ≡ p + 1 - at = omega (arith, h.low) in
    let lt : p < length es = omega (arith, c.requires.within, c.loop-offset-test.true) in
    let read = subst (λ (m : ℕ). slice_get es m ≡ Some e) here (slice_get_read es (length es) p e refl lt c.index-entry.ensures) in
    let quiet = subst (λ (d : Bool). IsQuiet d e) (flags_not_differ e.covered b c.if-entry-covered.false) (c.is_quiet.ensures c.if-not-is_quiet.false) in
    let more = alike_more c.args.header c.args.size b n m q at k es e h.alike read quiet in
    let bytes = ap (λ (i : ℕ). n + i) (sym c.bytes_if_plain-data.ensures.bytes) in
    let chunks = ap (λ (i : ℕ). m + i) (sym (c.whole-chunks.ensures.bytes ∙ ap (whole c.args.header) c.bytes_if_plain-data.ensures.bytes)) in
    let plain = ap (λ (i : ℕ). q + i) (sym c.one_if_plain-plain.ensures.one) in
    record {
      low = omega (arith, h.low);
      alike = subst (λ (j : ℕ). AreAlike c.args.header c.args.size b (n + c.bytes_if_plain-data.result) (m + c.whole-chunks.result) (q + c.one_if_plain-plain.result) at j es) next
          (subst (λ (i : ℕ). AreAlike c.args.header c.args.size b i (m + c.whole-chunks.result) (q + c.one_if_plain-plain.result) at (suc k) es) bytes
          (subst (λ (i : ℕ). AreAlike c.args.header c.args.size b (n + plain_bytes c.args.size e) i (q + c.one_if_plain-plain.result) at (suc k) es) chunks
          (subst (λ (i : ℕ). AreAlike c.args.header c.args.size b (n + plain_bytes c.args.size e) (m + plain_chunk c.args.header c.args.size e) i at (suc k) es) plain more)));
      few = let short = c.bytes_if_plain-data.ensures.short in let few = h.few in omega (arith, short, few, h.low);
      light = let short = c.whole-chunks.ensures.short in let light = h.light in omega (arith, short, light, h.low);
      less = let one = c.one_if_plain-plain.ensures.few in let less = h.less in omega (arith, one, less, h.low);
    }
