use Rattle.std.proofs.Common.{◌≡◌, ◌∙◌, true, length, sym, ap, arith}
use Rattle.std.proofs.lemmas.List.{length-map}
use Rattle.sctp_send.specs.SenderKept.{Kept}
use Rattle.sctp_send.specs.SenderStands.{StandsFor}
use Rattle.sctp_send.specs.OutstandingFields.{item_meaning}
use Rattle.sctp_send.proofs.TimerLemmas.{offsets_all}
use Rattle.sctp_send.proofs.sender.Sender.wear.Goals as goal

pub returns : goal.returns
unfolding StandsFor
returns g c = λ v stands.
    let s = c.self.inside in
    let long : length c.args.self.now.items ≡ length s.parts.outstanding.items = ap (λ (k : Kept). length k.items) (sym c.self.view_is) ∙ length-map s.parts.outstanding.items (item_meaning s.told.fragment) in
    let last = c.len-last.ensures in
    c.wear_offsets.ensures v (λ i. true) stands (λ k lt. offsets_all c.len-last.result k (omega (arith, lt, long, last)))
