use Rattle.std.proofs.Common.{◌≡◌, ◌∙◌, false, subst, sym, ap, arith}
use Rattle.std.proofs.lemmas.List.{length-map}
use Rattle.sctp_model.specs.numbers.Serial.{ahead}
use Rattle.sctp_model.specs.sender.SackTaken.{is_stale}
use Rattle.sctp_send.specs.OutstandingFields.{item_meaning}
use Rattle.sctp_send.specs.SenderKept.{Kept}
use Rattle.sctp_send.specs.SenderStands.{StandsFor, Keeps}
use Rattle.sctp_send.proofs.sack.SackLemmas.{stale_is, refused_beyond, passing}
use Rattle.sctp_send.proofs.sender.Sender.passed_by.Goals as goal

pub returns-then-before-clause-answer : goal.returns-then-before-clause-answer
unfolding StandsFor
returns-then-before-clause-answer g c = λ v stands.
    let keeps = subst (λ (k : Kept). Keeps g.F.Framing.format k v) (sym c.self.view_is) stands in
    stale_is g.F.Framing.format _ v c.args.wire c.tsn_of.result keeps c.tsn_of.ensures ∙ (sym c.before-2.ensures ∙ c.if-before.true)

pub returns-then-passed-len-clause-answer : goal.returns-then-passed-len-clause-answer
unfolding StandsFor
returns-then-passed-len-clause-answer g c = λ v stands.
    let s = c.self.inside in
    let keeps = subst (λ (k : Kept). Keeps g.F.Framing.format k v) (sym c.self.view_is) stands in
    let fresh : is_stale v c.args.wire ≡ false = stale_is g.F.Framing.format _ v c.args.wire c.tsn_of.result keeps c.tsn_of.ensures ∙ (sym c.before-2.ensures ∙ c.if-before.false) in
    let is = c.ahead-passed.ensures ∙ ap (λ x. ahead 32 x c.args.wire) c.tsn_of.ensures in
    let long = length-map s.parts.outstanding.items (item_meaning s.told.fragment) in
    refused_beyond g.F.Framing.format _ v c.args.wire c.ahead-passed.result keeps is fresh (omega (arith, long))

pub returns-clause-answer : goal.returns-clause-answer
unfolding StandsFor
returns-clause-answer g c = λ v stands.
    let s = c.self.inside in
    let keeps = subst (λ (k : Kept). Keeps g.F.Framing.format k v) (sym c.self.view_is) stands in
    let fresh : is_stale v c.args.wire ≡ false = stale_is g.F.Framing.format _ v c.args.wire c.tsn_of.result keeps c.tsn_of.ensures ∙ (sym c.before-2.ensures ∙ c.if-before.false) in
    let is = c.ahead-passed.ensures ∙ ap (λ x. ahead 32 x c.args.wire) c.tsn_of.ensures in
    let long = length-map s.parts.outstanding.items (item_meaning s.told.fragment) in
    passing g.F.Framing.format _ v c.args.wire c.ahead-passed.result keeps is fresh (omega (arith, long))
