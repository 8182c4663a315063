use Rattle.std.proofs.Common.{ℕ, ◌≤◌, List, length, ap, subst, sym, arith, length-drop}
use Rattle.sctp_send.specs.PartsKept.{DuesKept}
use Rattle.sctp_send.proofs.kept.dues.Dues.pass_page.Goals as goal

pub invariant_of-self : goal.invariant_of-self
invariant_of-self c =
    let ms = c.self.inside.moments.items in
    let most = subst (λ (w : DuesKept). 64 ≤ length w.moments) (sym c.self.view_is) c.requires in
    let is = ap (λ (ns : List ℕ). length ns) c.drop_page.ensures in
    let long = length-drop 64 ms in
    omega (arith, c.self.invariant, most, is, long)
