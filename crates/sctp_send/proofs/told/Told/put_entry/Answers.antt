use Rattle.std.proofs.Common.{suc, ◌+◌, [], ◌∷◌, refl, ap, ◌∙◌, subst, sym}
use Rattle.sctp_packet.specs.Draft.{with_chunks}
use Rattle.sctp_send.specs.ResetsKept.{base_of}
use Rattle.sctp_send.specs.declared.kept.message.Message.{Message as MessageFields}
use Rattle.sctp_send.specs.inner.Stocking.{bare, fragment_chunk, FitsInto}
use Rattle.sctp_send.proofs.fill.PutLemmas.{entry_goes, sent_stock}
use Rattle.sctp_send.proofs.told.Told.put_entry.Goals as goal

pub put_piece-requires-clause-fits : goal.put_piece-requires-clause-fits
put_piece-requires-clause-fits g c =
    let x = c.get-entry.result.now in
    subst (λ (m : MessageFields). FitsInto g.F.Framing.format c.args.packet.now c.args.self.now.fragment m x.content) (sym c.deref.ensures) (c.requires.fits x c.get-entry.ensures)

pub returns-clause-put : goal.returns-clause-put
returns-clause-put g c = λ v k again premise asked.
    let f = g.F.Framing.format in
    let s = bare c.args.self.now in
    let x = c.get-entry.result.now in
    let i = suc (s.cum + c.args.at) in
    let put = c.put_piece.ensures.put ∙ ap (λ (m : MessageFields). with_chunks c.args.packet.now (fragment_chunk f (base_of s.resets) s.fragment s.initial i m x.number x.content ∷ [])) c.deref.ensures in
    entry_goes f s v c.args.packet.now c.put_piece.new.packet c.args.stock.now _ c.args.at again x k premise asked c.requires.within c.get-entry.ensures put
    (sent_stock s c.args.stock.now c.send.new.self c.args.at x c.get-entry.ensures c.send.ensures) refl
