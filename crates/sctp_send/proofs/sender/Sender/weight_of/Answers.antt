use Rattle.std.proofs.Common.{◌*◌, ◌≤◌, List, length, map, refl, ap, subst, arith}
use Rattle.sctp_model.specs.messages.Framing.{header_of}
use Rattle.sctp_model.specs.sender.Words.{sum_below}
use Rattle.sctp_send.specs.OutstandingFields.{item_meaning}
use Rattle.sctp_send.specs.SenderKept.{Item, Kept}
use Rattle.sctp_send.specs.SenderStands.{StandsFor}
use Rattle.sctp_send.specs.inner.Weighing.{news_weight}
use Rattle.sctp_send.proofs.pace.ChunkLemmas.{header_small}
use Rattle.sctp_send.proofs.pace.WeighLemmas.{weights_few, weight_is}
use Rattle.sctp_send.proofs.sender.Sender.weight_of.Goals as goal

pub returns-then-passed-gt0 : goal.returns-then-passed-gt0
unfolding StandsFor
returns-then-passed-gt0 g c = λ v u on timed stands after tallied acked.
    let s = c.self.inside in
    let es = s.parts.outstanding.items in
    let items = ap (λ (k : Kept). k.items) c.self.view_is in
    let cum = ap (λ (k : Kept). k.cum) c.self.view_is in
    let few = subst (λ (xs : List Item). sum_below (news_weight (header_of g.F.Framing.format) xs on) (length xs) ≤ length xs * 131072) items (weights_few (header_of g.F.Framing.format) s.told.fragment es on (length (map (item_meaning s.told.fragment) es)) (header_small g.F.Framing.format) c.self.invariant.some (let short = c.self.invariant.short in omega (arith, short))) in
    weight_is g.F.Framing.format c.args.self.now v u on timed c.args.passed c.args.tally _ stands after tallied few refl (rw (c.from.ensures, cum) refl) c.above_cum-newest.ensures (λ some. c.above_cum.ensures) (λ none. absurd (let some = c.if-passed-gt0.true in omega (arith, some, none))) refl acked

pub returns-else-passed-gt0 : goal.returns-else-passed-gt0
unfolding StandsFor
returns-else-passed-gt0 g c = λ v u on timed stands after tallied acked.
    let s = c.self.inside in
    let es = s.parts.outstanding.items in
    let items = ap (λ (k : Kept). k.items) c.self.view_is in
    let cum = ap (λ (k : Kept). k.cum) c.self.view_is in
    let few = subst (λ (xs : List Item). sum_below (news_weight (header_of g.F.Framing.format) xs on) (length xs) ≤ length xs * 131072) items (weights_few (header_of g.F.Framing.format) s.told.fragment es on (length (map (item_meaning s.told.fragment) es)) (header_small g.F.Framing.format) c.self.invariant.some (let short = c.self.invariant.short in omega (arith, short))) in
    weight_is g.F.Framing.format c.args.self.now v u on timed c.args.passed c.args.tally _ stands after tallied few refl (rw (c.from.ensures, cum) refl) c.above_cum-newest.ensures (λ some. absurd (let none = c.if-passed-gt0.false in omega (arith, some, none))) (λ none. refl) refl acked
