use Rattle.std.proofs.Common.{◌≡◌, ◌∙◌, ◌+◌, ◌-◌, ◌%◌, ◌^◌, ◌<◌, ℕ, List, length, map, sym, ap, arith}
use Rattle.std.proofs.lemmas.List.{length-map}
use Rattle.sctp_send.specs.OutstandingFields.{item_meaning}
use Rattle.sctp_send.specs.SenderKept.{Item, Kept}
use Rattle.sctp_send.specs.SenderStands.{StandsFor}
use Rattle.sctp_send.specs.inner.Weighing.{is_item_sent, passes_here}
use Rattle.sctp_send.proofs.pace.HereLemmas.{here_read}
use Rattle.sctp_send.proofs.pace.SentLemmas.{last_here, some_sent}
use Rattle.sctp_send.proofs.sender.Sender.last_sent_within.Goals as goal

pub returns-then-is_out : goal.returns-then-is_out
unfolding StandsFor
returns-then-is_out g c = λ v stands.
    let size = c.self.inside.told.fragment in
    let es = c.self.inside.parts.outstanding.items in
    let n = c.args.beyond in
    let items = ap (λ (k : Kept). k.items) c.self.view_is in
    let cum = ap (λ (k : Kept). k.cum) c.self.view_is in
    let count : length es ≡ length c.args.self.now.items = sym (length-map es (item_meaning size)) ∙ ap (λ (xs : List Item). length xs) items in
    let some : 0 < n = omega (arith, c.if-beyond-eq0.false) in
    let lt : n - 1 < length es = omega (arith, some, count, c.requires) in
    let here = here_read is_item_sent size es (n - 1) c.get.result.now lt c.get.ensures ∙ sym (c.is_out.ensures size) ∙ c.if-is_out.true in
    let last = sym (last_here (λ j. passes_here is_item_sent (map (item_meaning size) es) (j - 1)) n some here) in
    ap (λ (k : ℕ). (k + n) % 2 ^ 64) cum
    ∙ some_sent g.F.Framing.format c.args.self.now v n n (map (item_meaning size) es) stands items last some c.requires
