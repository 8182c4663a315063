use Rattle.std.proofs.Common.{◌≡◌, ◌∙◌, ℕ, Bool, suc, ◌+◌, ◌-◌, ◌<◌, ◌≤◌, true, length, subst, sym, ap, refl, arith}
use Rattle.std.specs.Prelude.{◌&&◌, nat_le, nat_lt, min}
use Rattle.std.proofs.lemmas.Bool.Decides.{nat_tests}
use Rattle.std.proofs.lemmas.List.{length-map}
use Rattle.sctp_model.specs.sender.SenderView.{SenderView}
use Rattle.sctp_send.specs.SenderKept.{Kept}
use Rattle.sctp_send.specs.SenderStands.{StandsFor, Keeps}
use Rattle.sctp_send.specs.OutstandingFields.{item_meaning}
use Rattle.sctp_send.specs.inner.Testing.{index_of}
use Rattle.sctp_send.proofs.abandon.WearLemmas.{worn_to, cum_stays, worn_more, worn_all}
use Rattle.sctp_send.proofs.sender.Sender.wear_offsets.Goals as goal

inside : (from to at : ℕ) → from ≤ at → at < to → (nat_le from at && nat_lt at to) ≡ true
inside from to at lo hi = let one : nat_le from at ≡ true = grind (arith, nat_tests) in let two : nat_lt at to ≡ true = grind (arith, nat_tests) in rw (one, two) refl

pub loop-at-init : goal.loop-at-init
unfolding StandsFor
loop-at-init g c = λ v missed stands tells. let none : c.min-first.result - c.min-first.result ≡ 0 = omega arith in rw none stands

pub loop-at-preserved : goal.loop-at-preserved
unfolding StandsFor
loop-at-preserved g c = λ v missed stands tells.
    let s = c.self.inside in
    let says : ℕ → Bool = g.T.IndexTest.Says c.args.test.now in
    let first = c.min-first.result in
    let at = c.loop-at.at in
    let long : length c.args.self.now.items ≡ length s.parts.outstanding.items = ap (λ (k : Kept). length k.items) (sym c.self.view_is) ∙ length-map s.parts.outstanding.items (item_meaning s.told.fragment) in
    let u = worn_to missed v first (at - first) in
    let so_far = c.loop-at.invariant v missed stands tells in
    let order : first ≤ at = c.loop-at.auto.at in
    let within : at < c.min-last.result = c.loop-at-test.true in
    let begun : c.args.from ≤ at = omega (arith, c.min-first.ensures, c.min-last.ensures, order, within) in
    let before : at < c.args.to = omega (arith, c.min-last.ensures, within) in
    let there : at < length c.args.self.now.items = omega (arith, c.min-last.ensures, within, c.len.ensures, long) in
    let cum : u.cum ≡ v.cum = cum_stays missed v first (at - first) in
    let same_cum : c.loop-at.self.cum ≡ c.args.self.now.cum = so_far.holds.cum ∙ cum ∙ sym stands.holds.cum in
    let tested : says (index_of c.args.self.now.cum at) ≡ missed (suc (v.cum + at)) = ap (λ (b : Bool). b && says (index_of c.args.self.now.cum at)) (sym (inside c.args.from c.args.to at begun before)) ∙ tells at there in
    let still : says (index_of c.loop-at.self.cum at) ≡ missed (suc (u.cum + at)) = ap (λ (n : ℕ). says (index_of n at)) same_cum ∙ tested ∙ ap (λ (n : ℕ). missed (suc (n + at))) (sym cum) in
    subst (λ (w : SenderView). Keeps g.F.Framing.format c.wear_passing.new.self w) (sym (worn_more missed v first at order)) (c.wear_passing.ensures u missed so_far still)

pub returns : goal.returns
unfolding StandsFor
returns g c = λ v missed stands tells.
    let s = c.self.inside in
    let says : ℕ → Bool = g.T.IndexTest.Says c.args.test.now in
    let long : length c.args.self.now.items ≡ length s.parts.outstanding.items = ap (λ (k : Kept). length k.items) (sym c.self.view_is) ∙ length-map s.parts.outstanding.items (item_meaning s.told.fragment) in
    let first = c.min-first.result in
    let last = c.min-last.result in
    let same : c.loop-at.at ≡ last = let end = c.loop-at.auto.at-end (omega (arith, c.min-first.ensures)) in omega (arith, end, c.loop-at-test.false) in
    let ends : last ≡ min c.args.to (length c.args.self.now.items) = c.min-last.ensures ∙ ap (min c.args.to) (c.len.ensures ∙ sym long) in
    let all = worn_all g.F.Framing.format c.args.self.now v (λ k. says (index_of c.args.self.now.cum k)) missed c.args.from c.args.to first last stands tells ends c.min-first.ensures in
    subst (λ (w : SenderView). Keeps g.F.Framing.format c.loop-at.self w) (ap (λ (n : ℕ). worn_to missed v first (n - first)) same ∙ all) (c.loop-at.invariant v missed stands tells)
