use Rattle.std.proofs.Common.{◌≡◌, ℕ, suc, ◌+◌, subst, sym, refl, true, length, arith}
use Rattle.std.proofs.lemmas.List.{length-map}
use Rattle.sctp_send.specs.SenderKept.{Kept}
use Rattle.sctp_send.specs.SenderStands.{StandsFor, Keeps}
use Rattle.sctp_send.specs.OutstandingFields.{item_meaning}
use Rattle.sctp_send.specs.inner.Testing.{passes_between}
use Rattle.sctp_send.proofs.sack.MarkLemmas.{items-timed}
use Rattle.sctp_send.proofs.TimerLemmas.{kept_capped, keeps_marked, offsets_all}
use Rattle.sctp_send.proofs.sender.Sender.on_timeout.Goals as goal

pub returns : goal.returns
unfolding StandsFor
returns g c = λ v stands.
    let s = c.self.inside in
    let keeps = subst (λ (k : Kept). Keeps g.F.Framing.format k v) (sym c.self.view_is) stands in
    let size = s.told.fragment in
    let es = s.parts.outstanding.items in
    let within = passes_between (λ i. true) s.told.cum 0 c.len-last.result in
    let rs : ℕ → ℕ = λ k. v.repeats (suc (v.cum + k)) in
    let marks = c.mark_between.ensures.items rs (kept_capped g.F.Framing.format _ v size es keeps refl) in
    let last : c.len-last.result ≡ length es = c.len-last.ensures in
    rw (marks, items-timed size s.told.partial rs within 0 es, c.mark_between.ensures.kept.capacity)
    (keeps_marked g.F.Framing.format _ v (λ i. true) within keeps (λ k lt flies. offsets_all c.len-last.result k (omega (arith, lt, last, length-map es (item_meaning size)))))
