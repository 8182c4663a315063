use Rattle.std.proofs.Common.{[], refl, sym, subst, ap, ◌∙◌}
use Rattle.sctp_model.specs.sender.Filling.{fill}
use Rattle.sctp_model.proofs.sender.FillLaws.{stopped_is_fill}
use Rattle.sctp_packet.specs.Draft.{room_in}
use Rattle.sctp_send.specs.FillAnswers.{sendings_of}
use Rattle.sctp_send.specs.SenderKept.{Kept}
use Rattle.sctp_send.specs.SenderStands.{StandsFor, Keeps}
use Rattle.sctp_send.specs.inner.Stocking.{bare, stocked}
use Rattle.sctp_send.proofs.fill.FilledLemmas.{no_chunks}
use Rattle.sctp_send.proofs.pace.AgainLemmas.{none_again, nothing_goes}
use Rattle.sctp_send.proofs.fill.NewlyLemmas.{newly_self}
use Rattle.sctp_send.proofs.sender.Sender.fill_unreserved.Goals as goal

pub returns-in-Some-clause-asked : goal.returns-in-Some-clause-asked
unfolding StandsFor
returns-in-Some-clause-asked g c = λ v stands.
    let f = g.F.Framing.format in
    let p = c.args.packet.now in
    let keeps = subst (λ (k : Kept). Keeps f k v) (sym c.self.view_is) stands in
    let begun : Keeps f (stocked (bare c.self.inside.told) (record c.self.inside.parts { tickets = c.clear-2.new.self })) v = rw c.clear-2.ensures.items keeps in
    let asked = (c.in-Some.ensures.goes v p begun c.room-room.ensures.room).1 in
    record { wish = asked.0; next = asked.1 }

pub returns-clause-step : goal.returns-clause-step
unfolding StandsFor
returns-clause-step g c = λ v stands.
    let f = g.F.Framing.format in
    let p = c.args.packet.now in
    let keeps = subst (λ (k : Kept). Keeps f k v) (sym c.self.view_is) stands in
    let begun : Keeps f (stocked (bare c.self.inside.told) (record c.self.inside.parts { tickets = c.clear-2.new.self })) v = rw c.clear-2.ensures.items keeps in
    let none = c.in_default.ensures.goes v p begun c.room-room.ensures.room in
    record {
      wishes = [];
      view = v;
      fill = stopped_is_fill f v v (room_in p) [] refl none;
      chunks = sym (no_chunks p);
      stands = rw c.in_default.ensures.same keeps;
      tickets = rw c.new-tickets.ensures.items (sym (newly_self v));
    }

pub returns-clause-sendings : goal.returns-clause-sendings
unfolding StandsFor
returns-clause-sendings g c = λ v stands.
    let f = g.F.Framing.format in
    let p = c.args.packet.now in
    let keeps = subst (λ (k : Kept). Keeps f k v) (sym c.self.view_is) stands in
    let begun : Keeps f (stocked (bare c.self.inside.told) (record c.self.inside.parts { tickets = c.clear-2.new.self })) v = rw c.clear-2.ensures.items keeps in
    let none = c.in_default.ensures.goes v p begun c.room-room.ensures.room in
    c.none-sendings.ensures ∙ ap sendings_of (nothing_goes f (room_in p) v none)

pub returns-clause-again : goal.returns-clause-again
unfolding StandsFor
returns-clause-again g c = λ v stands.
    let f = g.F.Framing.format in
    let p = c.args.packet.now in
    let keeps = subst (λ (k : Kept). Keeps f k v) (sym c.self.view_is) stands in
    let begun : Keeps f (stocked (bare c.self.inside.told) (record c.self.inside.parts { tickets = c.clear-2.new.self })) v = rw c.clear-2.ensures.items keeps in
    let none = c.in_default.ensures.goes v p begun c.room-room.ensures.room in
    none_again v (fill f (room_in p) v).wishes c.clear.new.self.items c.clear.ensures.items (nothing_goes f (room_in p) v none)
