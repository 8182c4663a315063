use Rattle.std.proofs.Common.{◌≡◌, ◌∙◌, suc, ◌+◌, ◌%◌, [], ◌∷◌, map, set, Some, ap, refl, sym, subst}
use Rattle.std.proofs.lemmas.List.{map-append}
use Rattle.sctp_packet.specs.Draft.{with_chunks}
use Rattle.sctp_send.specs.PartsKept.{OutstandingKept}
use Rattle.sctp_send.specs.ResetsKept.{base_of}
use Rattle.sctp_send.specs.OutstandingFields.{item_meaning}
use Rattle.sctp_send.specs.SenderFields.{track_meaning}
use Rattle.sctp_send.specs.inner.Newcomers.{rest_after, rest_at, track_of}
use Rattle.sctp_send.specs.inner.Owning.{taken_meaning}
use Rattle.sctp_send.specs.inner.Stocking.{bare, fragment_chunk, FitsInto}
use Rattle.sctp_send.specs.inner.Entering.{fragment_entry}
use Rattle.sctp_send.specs.declared.kept.entry.Content.TheVariants.{Fragment}
use Rattle.sctp_send.specs.declared.kept.entry.Standing.TheVariants.{Sent}
use Rattle.sctp_send.specs.declared.kept.message.Message.{Message as MessageFields}
use Rattle.sctp_send.specs.declared.stock.Stock.{Stock}
use Rattle.sctp_send.proofs.fill.ContinuedPut.{continued_put}
use Rattle.sctp_send.proofs.fill.EnterLemmas.{gone_on_is, never_taken}
use Rattle.sctp_send.proofs.fill.RoomLemmas.{fits_any}
use Rattle.sctp_send.proofs.told.Told.go_on.Goals as goal

pub returns-in_default-clause-put : goal.returns-in_default-clause-put
returns-in_default-clause-put g c = absurd (never_taken c.args.self.now.fragment c.args.stock.now.streams.size c.from.result c.args.stream c.args.stock.now.streams.items c.requires.sized.tracks c.from.ensures c.in_default.ensures.none c.requires.can.part)

pub put_piece-requires-clause-fits : goal.put_piece-requires-clause-fits
put_piece-requires-clause-fits g c =
    let size = c.args.self.now.fragment in
    let t = c.in-Some.next in
    let taken = rw (c.requires.sized.tracks, c.from.ensures) at c.in-Some.ensures.taken in
    subst (λ (m : MessageFields). FitsInto g.F.Framing.format c.args.packet.now size m (Fragment t.fragment)) (sym c.deref.ensures)
    (fits_any g.F.Framing.format c.args.packet.now size t.number t.message.value t.fragment (λ base initial i. c.requires.can.fits (taken_meaning size t) base initial i (sym taken)))

pub returns-clause-put : goal.returns-clause-put
returns-clause-put g c = λ v keeps stands next asked.
    let f = g.F.Framing.format in
    let s = bare c.args.self.now in
    let size = s.fragment in
    let old = c.args.stock.now in
    let p = c.args.packet.now in
    let stream = c.args.stream in
    let t = c.in-Some.next in
    let ts = map (track_meaning size) old.streams.items in
    let new = map (track_meaning size) c.take_fragment.new.self.items in
    let taken : rest_at ts stream ≡ Some (taken_meaning size t) = rw (c.requires.sized.tracks, c.from.ensures) at c.in-Some.ensures.taken in
    let tracks : new ≡ set ts stream (record (track_of ts stream) { rest = rest_after (taken_meaning size t).entry (taken_meaning size t).message }) = rw (c.requires.sized.tracks, c.from.ensures) at c.in-Some.ensures.items in
    let y = fragment_entry t.message t.number t.fragment Sent in
    let items = ap (λ (w : OutstandingKept). map (item_meaning size) w.items) c.push_fragment.ensures ∙ map-append (item_meaning size) old.outstanding.items (y ∷ []) in
    let d : Stock = record { outstanding = c.push_fragment.new.outstanding; queue = old.queue; streams = c.take_fragment.new.self; turn = c.stream_after-stock.result; tickets = old.tickets } in
    let put = c.put_piece.ensures.put ∙ ap (λ (m : MessageFields). with_chunks p (fragment_chunk f (base_of s.resets) size s.initial (suc (s.cum + c.len-at.result)) m t.number (Fragment t.fragment) ∷ [])) c.deref.ensures in
    continued_put f s v old t.message.value t.number t.fragment stream keeps stands next (sym taken) p c.put_piece.new.packet d c.len-at.result asked c.len-at.ensures
    (gone_on_is s old d t stream (suc stream % s.streams) items refl tracks refl c.stream_after-stock.ensures (ap (λ (w : OutstandingKept). w.capacity) c.push_fragment.ensures)) refl put
