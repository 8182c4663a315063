use Rattle.std.proofs.Common.{[], refl, sym, ap, ◌∙◌}
use Rattle.sctp_model.specs.sender.Filling.{fill}
use Rattle.sctp_model.proofs.sender.FillLaws.{goes_none, stopped_is_fill}
use Rattle.sctp_packet.specs.Draft.{room_in}
use Rattle.sctp_send.specs.FillAnswers.{sendings_of}
use Rattle.sctp_send.specs.SenderStands.{StandsFor}
use Rattle.sctp_send.proofs.fill.FilledLemmas.{no_chunks}
use Rattle.sctp_send.proofs.pace.AgainLemmas.{none_again, nothing_filled}
use Rattle.sctp_send.proofs.fill.NewlyLemmas.{newly_self}
use Rattle.sctp_send.proofs.sender.Sender.fill.Goals as goal

pub returns-then-is_at_rest-clause-step : goal.returns-then-is_at_rest-clause-step
unfolding StandsFor
returns-then-is_at_rest-clause-step g c = λ v stands.
    let f = g.F.Framing.format in
    let room = room_in c.args.packet.now in
    record {
      wishes = [];
      view = v;
      fill = stopped_is_fill f v v room [] refl (goes_none f room v (c.is_at_rest.ensures v stands c.if-is_at_rest.true));
      chunks = sym (no_chunks c.args.packet.now);
      stands = stands;
      tickets = rw c.new-tickets.ensures.items (sym (newly_self v));
    }

pub returns-then-is_at_rest-clause-sendings : goal.returns-then-is_at_rest-clause-sendings
unfolding StandsFor
returns-then-is_at_rest-clause-sendings g c = λ v stands.
    let f = g.F.Framing.format in
    let room = room_in c.args.packet.now in
    c.none-sendings.ensures ∙ ap sendings_of (nothing_filled f room v (c.is_at_rest.ensures v stands c.if-is_at_rest.true))

pub returns-then-is_at_rest-clause-again : goal.returns-then-is_at_rest-clause-again
unfolding StandsFor
returns-then-is_at_rest-clause-again g c = λ v stands.
    let f = g.F.Framing.format in
    let room = room_in c.args.packet.now in
    none_again v (fill f room v).wishes c.clear.new.self.items c.clear.ensures.items (nothing_filled f room v (c.is_at_rest.ensures v stands c.if-is_at_rest.true))
