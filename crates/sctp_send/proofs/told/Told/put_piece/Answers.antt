use Rattle.std.proofs.Common.{◌≡◌, suc, ◌+◌, ◌-◌, [], ◌∷◌, ap, ◌∙◌, arith}
use Rattle.sctp_model.specs.numbers.Serial.{tsn}
use Rattle.sctp_model.specs.wire.Chunk.{ChunkMeaning}
use Rattle.sctp_packet.specs.Draft.{with_chunks}
use Rattle.sctp_send.specs.OutstandingFields.{lane_meaning}
use Rattle.sctp_send.specs.ResetsKept.{base_of}
use Rattle.sctp_send.proofs.ResetLemmas.{fragment_based}
use Rattle.sctp_send.proofs.told.Told.put_piece.Goals as goal

pub returns-clause-put : goal.returns-clause-put
returns-clause-put g c =
    let f = g.F.Framing.format in
    let h = c.args.self.now in
    let i = suc (h.cum + c.args.at) in
    let m = c.args.message.now in
    let since : c.since_reset-since.result ≡ c.args.number - base_of h.resets (lane_meaning m) = c.since_reset-since.ensures in
    let at_is : c.tsn_of-tsn.result ≡ tsn h.initial i = omega (arith, c.tsn_of-tsn.ensures) in
    c.put_fragment.ensures.after h.initial i at_is
    ∙ ap (λ (x : ChunkMeaning). with_chunks c.args.packet.now (x ∷ [])) (fragment_based f (base_of h.resets) h.fragment h.initial i m c.args.number c.since_reset-since.result c.args.content since)
