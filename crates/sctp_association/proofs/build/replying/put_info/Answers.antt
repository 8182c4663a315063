use Rattle.std.proofs.Common.{◌≡◌, ◌∙◌, ℕ, Bool, false, Some, List, refl, ap, sym}
use Rattle.sctp_model.specs.wire.Chunk.{HeartbeatAck}
use Rattle.sctp_model.specs.end.Building.{HeartbeatSlot, has_some, AckHeartbeat}
use Rattle.sctp_association.specs.Drafted.{value_left}
use Rattle.sctp_association.proofs.PutLemmas.{not_due, stays_out, goes_in}
use Rattle.sctp_association.proofs.build.replying.put_info.Goals as goal

pub returns-then-not-packing : goal.returns-then-not-packing
returns-then-not-packing c = λ e is packet. not_due HeartbeatSlot e c.args.packing.now (ap (λ (b : Bool). has_some (value_left b e.due.heartbeat)) c.if-not-packing.true) packet

pub returns-then-not-branch : goal.returns-then-not-branch
returns-then-not-branch c = λ e is packet.
    let there : value_left c.args.packing.now.marks.heartbeat e.due.heartbeat ≡ Some c.deref.result.now =
    ap (λ (b : Bool). value_left b e.due.heartbeat) c.if-not-packing.false ∙ (is ∙ ap (λ (xs : List ℕ). Some xs) (sym c.deref.ensures.value)) in
    stays_out HeartbeatSlot e c.args.packing.now _ (HeartbeatAck c.deref.result.now) _ (ap has_some there)
    (AckHeartbeat c.deref.result.now there) packet c.if-not-branch.true c.in_ok-try_chunk.ensures.answer c.in_ok-try_chunk.ensures.after

pub returns : goal.returns
returns c = λ e is packet.
    let m = c.args.packing.now.marks in
    let there : value_left m.heartbeat e.due.heartbeat ≡ Some c.deref.result.now =
    ap (λ (b : Bool). value_left b e.due.heartbeat) c.if-not-packing.false ∙ (is ∙ ap (λ (xs : List ℕ). Some xs) (sym c.deref.ensures.value)) in
    goes_in HeartbeatSlot e c.args.packing.now (record m { heartbeat = false }) _ (HeartbeatAck c.deref.result.now) _ (ap has_some there)
    (AckHeartbeat c.deref.result.now there) refl (λ still. still) packet c.if-not-branch.false c.in_ok-try_chunk.ensures.answer c.in_ok-try_chunk.ensures.after
