use Rattle.std.proofs.Common.{false, refl}
use Rattle.sctp_model.specs.wire.Chunk.{CookieAck}
use Rattle.sctp_model.specs.end.Building.{CookieAckSlot, AckCookie}
use Rattle.sctp_association.proofs.PutLemmas.{not_due, stays_out, goes_in}
use Rattle.sctp_association.proofs.build.replying.put_cookie_ack.Goals as goal

pub returns-then-not-packing : goal.returns-then-not-packing
returns-then-not-packing c = λ e packet. not_due CookieAckSlot e c.args.packing.now c.if-not-packing.true packet

pub returns-then-not-branch : goal.returns-then-not-branch
returns-then-not-branch c = λ e packet.
    stays_out CookieAckSlot e c.args.packing.now _ CookieAck _ c.if-not-packing.false
    AckCookie packet c.if-not-branch.true c.in_ok-try_chunk.ensures.answer c.in_ok-try_chunk.ensures.after

pub returns : goal.returns
returns c = λ e packet.
    goes_in CookieAckSlot e c.args.packing.now (record c.args.packing.now.marks { cookie_ack = false }) _ CookieAck _ c.if-not-packing.false
    AckCookie refl (λ still. still) packet c.if-not-branch.false c.in_ok-try_chunk.ensures.answer c.in_ok-try_chunk.ensures.after
