use Rattle.std.proofs.Common.{◌-◌, refl, sym, subst, arith}
use Rattle.sctp_congestion.specs.Went.{WentKept, WentStands}
use Rattle.sctp_congestion.proofs.WentLemmas.{set_kept}
use Rattle.sctp_congestion.proofs.last_sendings.LastSendings.set.Goals as goal

pub returns-then-number-index-clause-step : goal.returns-then-number-index-clause-step
returns-then-number-index-clause-step c = λ cum went stands within.
    let s = subst (λ (k : WentKept). WentStands cum k went) (sym c.self.view_is) stands in
    set_kept cum c.args.index c.args.number c.self.inside.base (c.args.index - c.self.inside.base - 1) _ _ c.self.inside.early_end c.max-self-inside.result c.self.inside.entries.items
    c.lengthen.new.entries.items went (omega arith) refl c.lengthen.ensures.items (omega arith) (λ less. omega arith) s

pub returns-else-number-index-clause-step : goal.returns-else-number-index-clause-step
returns-else-number-index-clause-step c = λ cum went stands within.
    let s = subst (λ (k : WentKept). WentStands cum k went) (sym c.self.view_is) stands in
    set_kept cum c.args.index c.args.number c.self.inside.base (c.args.index - c.self.inside.base - 1) _ _ c.self.inside.early_end c.self.inside.early_end c.self.inside.entries.items
    c.lengthen.new.entries.items went (omega arith) refl c.lengthen.ensures.items (omega arith) (λ less. omega (arith, less)) s
