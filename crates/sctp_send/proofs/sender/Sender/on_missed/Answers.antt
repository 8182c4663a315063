use Rattle.std.proofs.Common.{ℕ, Bool, suc, ◌+◌, subst, sym, refl}
use Rattle.sctp_send.specs.SenderKept.{Kept}
use Rattle.sctp_send.specs.SenderStands.{StandsFor, Keeps}
use Rattle.sctp_send.specs.inner.Testing.{passes_between}
use Rattle.sctp_send.proofs.sack.MarkLemmas.{items-timed}
use Rattle.sctp_send.proofs.TimerLemmas.{kept_capped, keeps_marked}
use Rattle.sctp_send.proofs.pace.ToldLemmas.{flight_agrees}
use Rattle.sctp_send.proofs.sender.Sender.on_missed.Goals as goal

pub returns : goal.returns
unfolding StandsFor
returns g c = λ v missed stands agree.
    let s = c.self.inside in
    let keeps = subst (λ (k : Kept). Keeps g.F.Framing.format k v) (sym c.self.view_is) stands in
    let size = s.told.fragment in
    let es = s.parts.outstanding.items in
    let says : ℕ → Bool = g.T.IndexTest.Says c.args.test.now in
    let within = passes_between says s.told.cum c.offset_of.result c.offset_of-2.result in
    let rs : ℕ → ℕ = λ k. v.repeats (suc (v.cum + k)) in
    let marks = c.mark_between.ensures.items rs (kept_capped g.F.Framing.format _ v size es keeps refl) in
    rw (marks, items-timed size s.told.partial rs within 0 es, c.mark_between.ensures.kept.capacity)
    (keeps_marked g.F.Framing.format _ v missed within keeps (λ k lt flies. flight_agrees g.F.Framing.format _ v says missed c.args.from c.args.below _ _ k keeps agree c.offset_of.ensures c.offset_of-2.ensures lt flies))
