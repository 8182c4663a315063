use Rattle.std.proofs.Common.{◌∙◌, ◌-◌, ℕ, Bool, Some, None, map, subst, ap}
use Rattle.sctp_send.specs.OutstandingFields.{item_meaning}
use Rattle.sctp_send.specs.SenderKept.{Kept}
use Rattle.sctp_send.specs.SenderStands.{StandsFor}
use Rattle.sctp_send.specs.inner.Testing.{index_of}
use Rattle.sctp_send.specs.inner.Weighing.{flies_and_passes, FirstAnswer}
use Rattle.sctp_send.proofs.pace.ToldLemmas.{first_told}
use Rattle.sctp_send.proofs.sender.Sender.first_missed.Goals as goal

pub returns-in-Some : goal.returns-in-Some
unfolding StandsFor
returns-in-Some g c = λ v missed stands agree.
    let size = c.self.inside.told.fragment in
    let items = ap (λ (k : Kept). k.items) c.self.view_is in
    let cum = ap (λ (k : Kept). k.cum) c.self.view_is in
    let first = c.offset_of-first.ensures ∙ ap (λ (n : ℕ). c.args.from - n - 1) cum in
    let last = c.offset_of-last.ensures ∙ ap (λ (n : ℕ). c.args.below - n - 1) cum in
    let says : ℕ → Bool = g.T.IndexTest.Says c.args.test.now in
    ap Some (c.index_at.ensures ∙ ap (λ (n : ℕ). index_of n c.in-Some.at) cum)
    ∙ first_told g.F.Framing.format _ v says missed c.args.from c.args.below _ _ (map (item_meaning size) c.self.inside.parts.outstanding.items) (Some c.in-Some.at) stands agree items first last (subst (λ (n : ℕ). FirstAnswer (flies_and_passes says n (map (item_meaning size) c.self.inside.parts.outstanding.items)) c.offset_of-first.result c.offset_of-last.result (Some c.in-Some.at)) cum (c.in-Some.ensures size))

pub returns-in-None : goal.returns-in-None
unfolding StandsFor
returns-in-None g c = λ v missed stands agree.
    let size = c.self.inside.told.fragment in
    let items = ap (λ (k : Kept). k.items) c.self.view_is in
    let cum = ap (λ (k : Kept). k.cum) c.self.view_is in
    let first = c.offset_of-first.ensures ∙ ap (λ (n : ℕ). c.args.from - n - 1) cum in
    let last = c.offset_of-last.ensures ∙ ap (λ (n : ℕ). c.args.below - n - 1) cum in
    let says : ℕ → Bool = g.T.IndexTest.Says c.args.test.now in
    first_told g.F.Framing.format _ v says missed c.args.from c.args.below _ _ (map (item_meaning size) c.self.inside.parts.outstanding.items) None stands agree items first last (subst (λ (n : ℕ). FirstAnswer (flies_and_passes says n (map (item_meaning size) c.self.inside.parts.outstanding.items)) c.offset_of-first.result c.offset_of-last.result None) cum (c.in-None.ensures size))
