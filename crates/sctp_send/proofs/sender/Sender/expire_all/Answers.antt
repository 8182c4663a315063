use Rattle.std.proofs.Common.{◌≡◌, ℕ, subst, sym, refl, arith}
use Rattle.sctp_model.proofs.sender.ExpiredLaws.{expired_to}
use Rattle.sctp_send.specs.SenderKept.{Kept}
use Rattle.sctp_send.specs.SenderStands.{StandsFor, Keeps}
use Rattle.sctp_send.proofs.abandon.ExpireKept.{next_done, late_none}
use Rattle.sctp_send.proofs.QueueLemmas.{fates_given}
use Rattle.sctp_send.proofs.sender.Sender.expire_all.Goals as goal

pub returns-in-None : goal.returns-in-None
unfolding StandsFor
returns-in-None g c = λ v stands.
    let so_far = c.loop.invariant.done v stands in
    let all = late_none g.F.Framing.format c.loop.self v (expired_to c.args.now v c.loop.last) c.args.now c.loop.last so_far.0 refl so_far.1 c.in-None.ensures.none in
    rw all so_far.0

pub loop-preserved : goal.loop-preserved
unfolding StandsFor
loop-preserved g c =
    let above = c.in-Some.ensures.above in
    record {
      low = omega (arith, c.loop.invariant.low, above);
      done = λ v stands.
          let so_far = c.loop.invariant.done v stands in
          let next = next_done g.F.Framing.format c.loop.self v (expired_to c.args.now v c.loop.last) c.args.now c.loop.last c.in-Some.ticket so_far.0 refl above c.in-Some.ensures.before in
          let many = so_far.0.due.many in
          let given = c.in-Some.ensures.given in
          (rw next.done (c.expire_one.ensures (expired_to c.args.now v c.loop.last) so_far.0), omega (arith, many, given, next.given));
    }

pub returns : goal.returns
unfolding StandsFor
returns g c = λ v stands.
    let s = c.self.inside in
    let keeps = subst (λ (k : Kept). Keeps g.F.Framing.format k v) (sym c.self.view_is) stands in
    let given = fates_given g.F.Framing.format _ v keeps in
    let so_far = c.loop.invariant.done v stands in
    let same : c.loop.last ≡ v.tickets = omega (arith, c.loop.invariant.low, so_far.1, given, c.len-end.ensures) in
    subst (λ (n : ℕ). Keeps g.F.Framing.format c.loop.self (expired_to c.args.now v n)) same so_far.0
