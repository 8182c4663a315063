use Rattle.std.proofs.Common.{◌≡◌, map, drop, subst, sym, refl}
use Rattle.std.proofs.lemmas.List.{drop-map}
use Rattle.sctp_send.specs.OutstandingFields.{item_meaning}
use Rattle.sctp_send.specs.SenderKept.{Kept}
use Rattle.sctp_send.specs.SenderStands.{StandsFor, Keeps}
use Rattle.sctp_send.proofs.sack.RunLemmas.{when_behind}
use Rattle.sctp_send.proofs.KeepLemmas.{keeps_shut}
use Rattle.sctp_send.proofs.sack.SackLemmas.{shutdown_passes}
use Rattle.sctp_send.proofs.sender.Sender.on_shutdown.Goals as goal

pub returns-clause-step : goal.returns-clause-step
unfolding StandsFor
returns-clause-step g c = λ v stands.
    let s = c.self.inside in
    let keeps = subst (λ (k : Kept). Keeps g.F.Framing.format k v) (sym c.self.view_is) stands in
    let n = c.in_ok-passed.passed in
    let p = c.in_ok-passed.ensures.answer v stands in
    let taken = keeps_shut g.F.Framing.format _ v c.args.tsn n c.last_sent_within-before.result keeps (c.last_sent_within-before.ensures v stands) p (shutdown_passes v c.args.tsn n p) in
    let items : map (item_meaning s.told.fragment) c.forget.new.outstanding.items ≡ drop n (map (item_meaning s.told.fragment) s.parts.outstanding.items) = rw (c.forget.ensures.items, drop-map) refl in
    let runs = when_behind s.told.is_known n s.told.covered.items c.move_on.new.runs.items c.move_on.ensures in
    rw (c.from.ensures, items, c.forget.ensures.kept.capacity, runs) taken
