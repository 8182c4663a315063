use Rattle.std.proofs.Common.{◌∙◌, ◌+◌, ◌%◌, ◌^◌, ◌<◌, ℕ, map, ap, inl, inr, arith}
use Rattle.std.proofs.lemmas.Bool.{cases_eq}
use Rattle.sctp_send.specs.OutstandingFields.{item_meaning}
use Rattle.sctp_send.specs.SenderKept.{Kept}
use Rattle.sctp_send.specs.SenderStands.{StandsFor}
use Rattle.sctp_send.proofs.pace.SentLemmas.{none_sent, some_sent}
use Rattle.sctp_send.proofs.sender.Sender.last_sent_before.Goals as goal

pub returns-then-offset-eq0 : goal.returns-then-offset-eq0
unfolding StandsFor
returns-then-offset-eq0 g c = λ v stands.
    let size = c.self.inside.told.fragment in
    let items = ap (λ (k : Kept). k.items) c.self.view_is in
    ap (λ (k : Kept). k.before) c.self.view_is
    ∙ none_sent g.F.Framing.format c.args.self.now v c.args.beyond c.last_out-offset.result (map (item_meaning size) c.self.inside.parts.outstanding.items) stands items (c.last_out-offset.ensures size) c.if-offset-eq0.true

pub returns : goal.returns
unfolding StandsFor
returns g c = λ v stands.
    let size = c.self.inside.told.fragment in
    let items = ap (λ (k : Kept). k.items) c.self.view_is in
    let cum = ap (λ (k : Kept). k.cum) c.self.view_is in
    let some : 0 < c.last_out-offset.result = elim (cases_eq c.last_out-offset.result 0) [ inl none ↦ absurd (c.if-offset-eq0.false none) | inr other ↦ omega (arith, other) ] in
    ap (λ (n : ℕ). (n + c.last_out-offset.result) % 2 ^ 64) cum
    ∙ some_sent g.F.Framing.format c.args.self.now v c.args.beyond c.last_out-offset.result (map (item_meaning size) c.self.inside.parts.outstanding.items) stands items (c.last_out-offset.ensures size) some c.requires
