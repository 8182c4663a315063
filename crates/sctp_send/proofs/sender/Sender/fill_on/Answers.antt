use Rattle.std.proofs.Common.{◌≡◌, ℕ, Bool, true, false, List, map, refl, ap, sym, ◌∙◌, subst}
use Rattle.std.specs.Prelude.{Result, Ok, Err, is_err, OnOk}
use Rattle.sctp_values.specs.declared.ticket.Ticket.{Ticket}
use Rattle.sctp_model.specs.wire.Chunk.{ChunkMeaning}
use Rattle.sctp_model.specs.sender.Filling.{fill, chunk_of, IsFill}
use Rattle.sctp_model.proofs.sender.FillLaws.{one_fill, fill_is_fill}
use Rattle.sctp_packet.specs.Draft.{Draft as PacketDraft, room_in, with_chunks, with_space}
use Rattle.sctp_send.specs.FillAnswers.{sendings_of, AreSentAgain}
use Rattle.sctp_send.specs.SenderKept.{Kept}
use Rattle.sctp_send.specs.SenderStands.{StandsFor, Keeps}
use Rattle.sctp_send.specs.inner.Stocking.{bare, numbers_of, all_numbered, stocked, AreOpen}
use Rattle.sctp_send.proofs.OverKept.{open_newly}
use Rattle.sctp_send.proofs.sender.Sender.fill_on.Goals as goal

-- what went into a packet whose memory was reserved for that, once it counts as before
restored : (old reserved filled after : PacketDraft) (before : Bool) (ms : List ChunkMeaning) → reserved ≡ with_space old true → filled ≡ with_chunks reserved ms → after ≡ with_space filled before
    → before ≡ old.space → after ≡ with_chunks old ms
restored old reserved filled after before ms space put back was =
    back ∙ ap (λ (p : PacketDraft). with_space p before) (put ∙ ap (λ (p : PacketDraft). with_chunks p ms) space) ∙ ap (with_space (with_chunks old ms)) was

pub returns-clause-step : goal.returns-clause-step
unfolding StandsFor
returns-clause-step g c = λ v stands.
    let s = c.self.inside in
    let f = g.F.Framing.format in
    let keeps = subst (λ (k : Kept). Keeps f k v) (sym c.self.view_is) stands in
    let begun : Keeps f (stocked (bare s.told) c.reserve_all.new.stock) v = rw (c.in-Ok.ensures.same, c.in-Ok.ensures.fresh) keeps in
    let all = c.put_all-sendings.ensures.all v begun in
    let behind = subst (λ ts. AreOpen s.told.fates.ended ts) (sym all.told) (open_newly f _ _ v all.view keeps all.keeps refl) in
    let told : c.deref.result.now ≡ c.put_all-sendings.new.stock.tickets.items = rw (c.deref.ensures.value, c.take_tickets-tickets.ensures) refl in
    let numbered : c.number_all.new.fates.items ≡ all_numbered s.told.fates.items (numbers_of c.put_all-sendings.new.stock.tickets.items) =
    c.number_all.ensures.items (subst (λ (ts : List Ticket). AreOpen s.told.fates.ended (numbers_of ts)) (sym told) behind) ∙ ap (λ (ts : List Ticket). all_numbered s.told.fates.items (numbers_of ts)) told in
    record {
      wishes = all.wishes;
      view = all.view;
      fill = subst (λ (p : PacketDraft). IsFill f v (room_in p) all.wishes all.view) c.in-Ok.ensures.reserved all.fill;
      chunks = restored c.args.packet.now _ _ _ _ (map (chunk_of f) all.wishes) c.in-Ok.ensures.reserved all.chunks c.restore.ensures c.in-Ok.ensures.before;
      stands = rw (numbered, c.number_all.ensures.ended, c.number_all.ensures.abandoned) all.keeps;
      tickets = rw c.take_tickets-tickets.ensures all.told;
    }

pub returns-clause-sendings : goal.returns-clause-sendings
unfolding StandsFor
returns-clause-sendings g c = λ v stands.
    let s = c.self.inside in
    let f = g.F.Framing.format in
    let room = room_in c.args.packet.now in
    let keeps = subst (λ (k : Kept). Keeps f k v) (sym c.self.view_is) stands in
    let begun : Keeps f (stocked (bare s.told) c.reserve_all.new.stock) v = rw (c.in-Ok.ensures.same, c.in-Ok.ensures.fresh) keeps in
    let all = c.put_all-sendings.ensures.all v begun in
    let filled = subst (λ (p : PacketDraft). IsFill f v (room_in p) all.wishes all.view) c.in-Ok.ensures.reserved all.fill in
    all.counts ∙ ap sendings_of (one_fill f v all.view (fill f room v).view room all.wishes (fill f room v).wishes filled (fill_is_fill f room v)).0

-- what is so if a call succeeds is so
succeeded : {A E : Type 0} (P : Type 0) (r : Result A E) → is_err r ≡ false → OnOk r P → P
succeeded P (Ok x) off said = said
succeeded P (Err e) off said = absurd (cc)

pub returns-clause-again : goal.returns-clause-again
unfolding StandsFor
returns-clause-again g c = λ v stands.
    let f = g.F.Framing.format in
    let is = c.list_again.new.again.items in
    subst (λ (n : ℕ). AreSentAgain v (fill f n v).wishes is) c.room-room.ensures.room
    (succeeded (AreSentAgain v (fill f c.room-room.result v).wishes is) c.list_again.result (sym c.is_err.ensures.value ∙ c.if-is_err.false) (c.list_again.ensures v stands))

pub returns-in_default-clause-sendings : goal.returns-in_default-clause-sendings
returns-in_default-clause-sendings g c = λ v stands.
    let now = subst (λ (k : Kept). StandsFor g.F.Framing.format k v) (sym c.self.view_is) stands in
    rw (c.in_default.ensures.same, c.in_default.ensures.unchanged) at (c.fill_unreserved-in_default.ensures.sendings v) now
