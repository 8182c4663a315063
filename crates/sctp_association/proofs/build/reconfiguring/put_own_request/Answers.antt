use Rattle.std.proofs.Common.{◌≡◌, ◌∙◌, ℕ, List, [], IfOk, sym, subst, arith}
use Rattle.sctp_model.specs.wire.Chunk.{Unknown}
use Rattle.sctp_model.specs.wire.Reconfig.{RECONFIG}
use Rattle.sctp_packet.specs.Draft.{has_room, after_try}
use Rattle.sctp_association.specs.Asks.{said_by}
use Rattle.sctp_association.proofs.RequestLemmas.{request_too_long, no_items}
use Rattle.sctp_association.proofs.build.reconfiguring.put_own_request.Goals as goal

pub returns-then-most-request-clause-answer : goal.returns-then-most-request-clause-answer
returns-then-most-request-clause-answer c =
    sym (request_too_long c.args.writer.now c.args.answered (said_by c.args.request) (omega (arith, c.room.ensures.room, c.saturating_sub-most.ensures, c.if-most-request.true)))

pub returns-clause-answer : goal.returns-clause-answer
returns-clause-answer c =
    subst (λ (bs : List ℕ). IfOk c.put_reconfig.result (λ put. put ≡ has_room c.args.writer.now (Unknown RECONFIG 0 bs)))
    (c.deref.ensures.value ∙ (c.in_ok-put_reset.ensures.writes [] (no_items c.new-value.result.items c.new-value.ensures.items)).bytes_are) c.put_reconfig.ensures.answer

pub returns-clause-after : goal.returns-clause-after
returns-clause-after c =
    subst (λ (bs : List ℕ). IfOk c.put_reconfig.result (λ put. c.put_reconfig.new.writer ≡ after_try c.args.writer.now (Unknown RECONFIG 0 bs) put))
    (c.deref.ensures.value ∙ (c.in_ok-put_reset.ensures.writes [] (no_items c.new-value.result.items c.new-value.ensures.items)).bytes_are) c.put_reconfig.ensures.after

pub put_reset-requires : goal.put_reset-requires
put_reset-requires c = omega (arith, c.room.ensures.small, c.saturating_sub-most.ensures, c.if-most-request.false)
