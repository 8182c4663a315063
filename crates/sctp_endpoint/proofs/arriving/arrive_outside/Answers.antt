use Rattle.std.proofs.Common.{List, ap, ◌∙◌}
use Rattle.std.proofs.lemmas.Result.{err_from_is_err_and}
use Rattle.sctp_model.specs.wire.Chunk.{ChunkMeaning}
use Rattle.sctp_model.specs.end.Clock.{at_moment}
use Rattle.sctp_model.specs.end.Opening.{begun}
use Rattle.sctp_model.specs.end.Strays.{stray_verdict}
use Rattle.sctp_model.specs.end.Arriving.{Stray, ReadAs}
use Rattle.sctp_packet.specs.PacketTree.{packet_meaning}
use Rattle.sctp_endpoint.specs.inner.SacksHeard.{after_chunks}
use Rattle.sctp_endpoint.proofs.ArrivingLemmas.{arrived_begun, stray_cut}
use Rattle.sctp_endpoint.proofs.CountLemmas.{if_taken, untaken, begun_first}
use Rattle.sctp_endpoint.proofs.arriving.arrive_outside.Goals as goal

pub returns-in-Told-clause-step : goal.returns-in-Told-clause-step
returns-in-Told-clause-step c = λ e now stands for has.
    let s = rw c.in-Told.is at c.in_ok-said.ensures.step _ stands in
    (at_moment e now, stray_verdict (at_moment e now) c.args.draw (packet_meaning c.args.packet), ReadAs _ _ _ (Stray for.ports for.tag has s.0), s.1, s.2, s.3)

pub returns-in-Begun-clause-step : goal.returns-in-Begun-clause-step
returns-in-Begun-clause-step c = λ e now stands for has.
    let s = rw c.in-Begun.is at c.in_ok-said.ensures.step _ stands in
    arrived_begun e now _ _ for has _ _ s.0 _ _ s.1 c.of_cookie.ensures c.behind_first.ensures (c.hear.ensures.step (begun s.0 (at_moment e now)) s.2)

pub returns-in_err-said-clause-step : goal.returns-in_err-said-clause-step
returns-in_err-said-clause-step c = λ e now stands for has.
    let p = err_from_is_err_and c.from_residual.result c.from_residual.ensures.1 in
    rw p.1 (stray_cut e now _ _ for has _ (c.in_err-said.ensures.memory _ stands) (c.in_err-said.ensures.refused _ stands))

-- ---- the SACKs that are counted

pub returns-in-Told-clause-sacks : goal.returns-in-Told-clause-sacks
returns-in-Told-clause-sacks c = λ v stands. untaken _ _ (rw c.in-Told.is at c.in_ok-said.ensures.untaken)

pub returns-in-Begun-clause-sacks : goal.returns-in-Begun-clause-sacks
returns-in-Begun-clause-sacks c = λ v stands.
    let s = rw c.in-Begun.is at c.in_ok-said.ensures.step v stands in
    if_taken c.hear.result c.hear.new.told c.args.sacks.now c.hear.new.sacks c.behind_first.result c.args.packet.chunks
    (ap (λ (ms : List ChunkMeaning). after_chunks ms c.args.sacks.now) c.behind_first.ensures ∙ begun_first v c.args.packet.tag c.args.packet.chunks s.0 c.args.sacks.now s.1)
    c.hear.ensures.sacks

pub returns-in_err-said-clause-sacks : goal.returns-in_err-said-clause-sacks
returns-in_err-said-clause-sacks c = λ v stands.
    let p = err_from_is_err_and c.from_residual.result c.from_residual.ensures.1 in
    rw p.1 tt
