use Rattle.std.proofs.Common.{◌≡◌, ◌∙◌, ◌-◌, ◌<◌, ℕ, Option, map, true, not, refl, sym, ap, subst, arith}
use Rattle.std.specs.Prelude.{◌&&◌, nat_lt, IfSome}
use Rattle.std.proofs.lemmas.Bool.Decides.{nat_tests}
use Rattle.sctp_model.specs.sender.SackTaken.{sack_covers}
use Rattle.sctp_model.specs.end.Trips.{was_given_up}
use Rattle.sctp_send.specs.OutstandingFields.{item_meaning}
use Rattle.sctp_send.specs.SenderKept.{Kept}
use Rattle.sctp_send.specs.SenderStands.{StandsFor}
use Rattle.sctp_send.proofs.pace.AfterLemmas.{given_up_told}
use Rattle.sctp_send.proofs.sender.Sender.is_acked_by_blocks.Goals as goal

pub returns-then-covers : goal.returns-then-covers
unfolding StandsFor
returns-then-covers g c = λ v stands.
    let i = c.in-Some.index in
    let size = c.self.inside.told.fragment in
    let items = ap (λ (k : Kept). k.items) c.self.view_is in
    let cum = ap (λ (k : Kept). k.cum) c.self.view_is in
    let view = cum ∙ stands.holds.cum in
    let past : v.cum < i = omega (arith, view, c.if-index-self.false) in
    let low : nat_lt v.cum i ≡ true = grind (arith, nat_tests) in
    let on : sack_covers c.args.passed c.args.blocks.now (i - v.cum) ≡ true = ap (λ (m : ℕ). sack_covers c.args.passed c.args.blocks.now (i - m)) (sym view) ∙ sym c.covers.ensures ∙ c.if-covers.true in
    let given = c.is_given_up.ensures size ∙ given_up_told g.F.Framing.format c.args.self.now v i (i - c.self.inside.told.cum - 1) (map (item_meaning size) c.self.inside.parts.outstanding.items) stands items (ap (λ (m : ℕ). i - m - 1) cum) (omega (arith, cum, c.if-index-self.false)) in
    subst (λ (o : Option ℕ). IfSome o (λ j. not c.is_given_up.result ≡ (nat_lt v.cum j && (sack_covers c.args.passed c.args.blocks.now (j - v.cum) && not (was_given_up v j))))) (sym c.in-Some.is) (rw (low, on, given) refl)
