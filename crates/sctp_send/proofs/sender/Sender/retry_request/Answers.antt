use Rattle.std.proofs.Common.{◌≡◌, ◌+◌, ℕ, suc, true, false, subst, sym, ap, ◌∙◌, arith}
use Rattle.std.specs.Prelude.{nat_lt}
use Rattle.std.proofs.lemmas.Bool.Decides.{nat_tests}
use Rattle.sctp_model.specs.numbers.Limits.{REQUEST_LIMIT}
use Rattle.sctp_model.specs.sender.Outgoing.{LaterNumber}
use Rattle.sctp_model.specs.sender.Resetting.{numbered_so}
use Rattle.sctp_send.specs.SenderKept.{Kept}
use Rattle.sctp_send.specs.SenderStands.{StandsFor, Keeps}
use Rattle.sctp_send.specs.inner.Resetting.{takes_next_in}
use Rattle.sctp_send.proofs.resetting.ResetKept.{next_waits, retried_not, retried_spent, retried_next}
use Rattle.sctp_send.proofs.sender.Sender.retry_request.Goals as goal

pub returns-then-not-takes_next : goal.returns-then-not-takes_next
unfolding StandsFor
returns-then-not-takes_next g c = λ v stands.
    let keeps = subst (λ (k : Kept). Keeps g.F.Framing.format k v) (sym c.self.view_is) stands in
    let off = ap takes_next_in keeps.resets.pending ∙ sym c.takes_next.ensures ∙ c.if-not-takes_next.true in
    rw (retried_not v v.resets.pending off) stands

pub returns-then-made-ge-MOST_REQUESTS : goal.returns-then-made-ge-MOST_REQUESTS
unfolding StandsFor
returns-then-made-ge-MOST_REQUESTS g c = λ v stands.
    let keeps = subst (λ (k : Kept). Keeps g.F.Framing.format k v) (sym c.self.view_is) stands in
    let is : v.resets.made ≡ c.made-made.result = keeps.resets.made ∙ sym c.made-made.ensures in
    let high = c.if-made-ge-MOST_REQUESTS.true in
    let off : nat_lt v.resets.made REQUEST_LIMIT ≡ false = rw is (grind (arith, nat_tests)) in
    rw (retried_spent v v.resets.pending off) stands

pub returns : goal.returns
unfolding StandsFor
returns g c = λ v stands.
    let keeps = subst (λ (k : Kept). Keeps g.F.Framing.format k v) (sym c.self.view_is) stands in
    let is : v.resets.made ≡ c.made-made.result = keeps.resets.made ∙ sym c.made-made.ensures in
    let low = c.if-made-ge-MOST_REQUESTS.false in
    let few : nat_lt v.resets.made REQUEST_LIMIT ≡ true = rw is (grind (arith, nat_tests)) in
    let on = next_waits v.resets.pending (ap takes_next_in keeps.resets.pending ∙ sym c.takes_next.ensures ∙ c.if-not-takes_next.false) in
    let many : suc v.resets.made ≡ c.made-made.result + 1 = omega (arith, is) in
    let same = retried_next v v.resets.pending on.0 on.1 on.2 few ∙ ap (λ (n : ℕ). numbered_so v n LaterNumber on.0) many in
    rw same (c.renumber.ensures v on.0 stands on.1)
