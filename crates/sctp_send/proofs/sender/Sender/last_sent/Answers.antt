use Rattle.std.proofs.Common.{◌≡◌, ◌∙◌, ◌+◌, List, length, sym, ap, arith}
use Rattle.std.proofs.lemmas.List.{length-map}
use Rattle.sctp_model.specs.sender.Words.{last_that}
use Rattle.sctp_send.specs.OutstandingFields.{item_meaning}
use Rattle.sctp_send.specs.SenderKept.{Item, Kept}
use Rattle.sctp_send.specs.SenderStands.{StandsFor}
use Rattle.sctp_send.proofs.KeepLemmas.{kept_length}
use Rattle.sctp_send.proofs.sender.Sender.last_sent.Goals as goal

pub returns : goal.returns
unfolding StandsFor
returns g c = λ v stands.
    let es = c.self.inside.parts.outstanding.items in
    let items = ap (λ (k : Kept). k.items) c.self.view_is in
    let count : length es ≡ length c.args.self.now.items = sym (length-map es (item_meaning c.self.inside.told.fragment)) ∙ ap (λ (xs : List Item). length xs) items in
    let long = kept_length g.F.Framing.format c.args.self.now v stands in
    let all : v.cum + c.len.result ≡ length v.plan.entries = omega (arith, c.len.ensures, count, long) in
    c.last_sent_within.ensures v stands ∙ ap (last_that v.sent) all
