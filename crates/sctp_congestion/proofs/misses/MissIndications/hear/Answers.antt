use Rattle.std.proofs.Common.{◌≡◌, ℕ, Bool, ap, ◌∙◌, subst, arith}
use Rattle.std.specs.Prelude.{if◌then◌else◌, is_some, Option}
use Rattle.sctp_model.specs.end.Misses.{Misses, newest, noticed, is_taken_back, taken_back, recovery_at}
use Rattle.sctp_congestion.specs.Went.{AreThose}
use Rattle.sctp_congestion.specs.PaceStands.{MissesStand}
use Rattle.sctp_congestion.proofs.WentLemmas.{within_more}
use Rattle.sctp_congestion.proofs.MissLemmas.{taken_back_by, newest_by}
use Rattle.sctp_congestion.proofs.misses.MissIndications.hear.Goals as goal

pub returns : goal.returns
returns c = λ cum v u m stands more highest back.
    let at = highest.cum in
    let m' : Misses = record m { exit = recovery_at u.cum m.exit } in
    let passed : MissesStand u.cum c.pass.new.self m' =
    subst (λ (n : ℕ). MissesStand n c.pass.new.self (record m { exit = recovery_at n m.exit })) at (c.pass.ensures.step cum m stands (omega (arith, at, more))) in
    let those : AreThose (is_taken_back v u) u.cum c.pass.new.self.went.room c.args.back.now =
    record { those = back.those.those; within = within_more c.args.self.now.went.room c.pass.new.self.went.room c.args.back.now c.pass.ensures.room back.those.within } in
    let taken = taken_back_by v u c.args.self.now.went.room c.args.last c.args.back.now c.set_all.new.self m' back (c.set_all.ensures u.cum m' (is_taken_back v u) passed those) in
    let recovers : c.is_recovering.result ≡ is_some (recovery_at u.cum m.exit) = c.is_recovering.ensures ∙ ap (λ (o : Option ℕ). is_some o) taken.exit in
    let which : c.newest_if.result ≡ newest (is_some (recovery_at u.cum m.exit)) v u =
    c.newest_if.ensures ∙ (ap (λ (b : Bool). if b then c.args.said.newest_in_recovery else c.args.said.newest) recovers ∙ newest_by v u c.args.said (is_some (recovery_at u.cum m.exit)) highest) in
    subst (λ (n : ℕ). MissesStand u.cum c.notice.new.self (noticed n (taken_back v u m'))) which (c.notice.ensures u.cum (taken_back v u m') taken)
