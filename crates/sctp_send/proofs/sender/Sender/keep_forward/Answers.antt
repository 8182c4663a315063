use Rattle.std.proofs.Common.{◌≤◌, length, map, refl, subst, sym, arith}
use Rattle.std.proofs.lemmas.List.{length-map}
use Rattle.sctp_send.specs.OutstandingFields.{item_meaning}
use Rattle.sctp_send.specs.SenderKept.{Kept}
use Rattle.sctp_send.specs.SenderStands.{StandsFor, Keeps}
use Rattle.sctp_send.proofs.ReaderLemmas.{run_within}
use Rattle.sctp_send.proofs.forward.KeptForward.{keeps_forward, forward_made}
use Rattle.sctp_send.proofs.sender.Sender.keep_forward.Goals as goal

pub built-requires-clause-run : goal.built-requires-clause-run
built-requires-clause-run g c =
    let es = c.self.inside.parts.outstanding.items in
    omega (arith, run_within (map (item_meaning 1) es), length-map es (item_meaning 1), c.abandoned_run-run.ensures 1)

pub returns : goal.returns
unfolding StandsFor
returns g c = λ v stands.
    let f = g.F.Framing.format in
    let s = c.self.inside in
    let es = s.parts.outstanding.items in
    let keeps = subst (λ (k : Kept). Keeps f k v) (sym c.self.view_is) stands in
    let within = run_within (map (item_meaning s.told.fragment) es) in
    let run : c.abandoned_run-run.result ≤ length (map (item_meaning s.told.fragment) es) = omega (arith, within, c.abandoned_run-run.ensures s.told.fragment) in
    keeps_forward f _ v c.built.result keeps
    (forward_made f _ v s.told.fragment s.told.streams s.told.cum c.abandoned_run-run.result es c.built.result keeps refl refl refl run c.built.ensures.cum c.built.ensures.run (c.built.ensures.built s.told.fragment))
