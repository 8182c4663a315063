use Rattle.std.proofs.Common.{◌≡◌, ◌+◌, ℕ, List, ◌++◌, length, take, drop, sym, ◌∙◌, ap, subst, arith}
use Rattle.sctp_recv.specs.Parts.{text_of_parts}
use Rattle.sctp_recv.proofs.PartLemmas.{text_more, length_more, text_within, drop_further}
use Rattle.sctp_recv.proofs.message.Message.copy_into.Goals as goal

pub put_part-requires : goal.put_part-requires
put_part-requires c =
    let parts = c.parts-parts.result.now in
    let i = c.loop-part.part-index in
    let at = c.part-item.is in
    let more = length_more parts i c.part-item.result (omega arith) at in
    let within = text_within parts (i + 1) in
    let part = ap length c.deref.ensures.value in
    let inv = c.loop-part.invariant in
    omega (arith, more, within, part, inv.at, inv.fits, inv.size)

pub loop-part-preserved : goal.loop-part-preserved
loop-part-preserved c =
    let parts = c.parts-parts.result.now in
    let i = c.loop-part.part-index in
    let there = c.part-item.is in
    let text = text_more parts i c.part-item.result (omega arith) there in
    let more = length_more parts i c.part-item.result (omega arith) there in
    let part = ap length c.deref.ensures.value in
    let inv = c.loop-part.invariant in
    let next : c.loop-part.at + length c.deref.result.now ≡ c.loop-part.at + c.len-at.result = omega (arith, part, c.len-at.ensures, c.part-item.result.ok) in
    let put : take (c.loop-part.at + length c.deref.result.now) c.put_part.new.room ≡ text_of_parts (take (i + 1) parts) =
    c.put_part.ensures.put ∙ ap (λ (bs : List ℕ). bs ++ c.deref.result.now) inv.put ∙ ap (λ (bs : List ℕ). text_of_parts (take i parts) ++ bs) c.deref.ensures.value ∙ sym text in
    let behind : drop (c.loop-part.at + length c.deref.result.now) c.put_part.new.room ≡ drop (c.loop-part.at + length c.deref.result.now) c.args.room.now =
    c.put_part.ensures.behind ∙ drop_further c.loop-part.at (length c.deref.result.now) c.loop-part.room c.args.room.now inv.behind in
    record {
      size = omega (arith, c.put_part.ensures.size, inv.size);
      fits = inv.fits;
      at = omega (arith, next, part, more, inv.at);
      put = subst (λ (n : ℕ). take n c.put_part.new.room ≡ text_of_parts (take (i + 1) parts)) next put;
      behind = subst (λ (n : ℕ). drop n c.put_part.new.room ≡ drop n c.args.room.now) next behind;
    }
