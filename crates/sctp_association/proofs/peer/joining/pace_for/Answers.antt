use Rattle.std.proofs.Common.{◌≡◌, ◌∙◌, ◌-◌, sym, arith}
use Rattle.std.specs.Prelude.{[]}
use Rattle.sctp_model.specs.wire.Packet.{size_of_packet}
use Rattle.sctp_model.specs.end.EndView.{format_for}
use Rattle.sctp_association.proofs.JoinLemmas.{unpaced_so, paced_so}
use Rattle.sctp_association.proofs.peer.joining.pace_for.Goals as goal

pub returns-then-not-fast_retransmit : goal.returns-then-not-fast_retransmit
returns-then-not-fast_retransmit c = unpaced_so (format_for c.args.interleave) c.args.config.now _ c.args.peer_rwnd (sym c.fast_retransmit.ensures ∙ c.if-not-fast_retransmit.true)

pub returns : goal.returns
returns c =
    let f = format_for c.args.interleave in
    let size : c.limit-pmdcs.result - 12 ≡ c.args.config.now.limit - size_of_packet [] = let exact = c.limit-pmdcs.ensures.exact in omega (arith, exact) in
    paced_so f c.args.config.now c.fresh.result c.congestion_control.result c.header_of.result _ c.args.peer_rwnd c.limit-pmdcs.ensures.plain (sym c.fast_retransmit.ensures ∙ c.if-not-fast_retransmit.false)
    c.congestion_control.ensures c.header_of.ensures size (c.fresh.ensures f c.header_of.ensures)
