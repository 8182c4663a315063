use Rattle.std.proofs.Common.{◌≡◌, ◌∙◌, ℕ, ◌++◌, nat_lt, Bool, map, None, refl, ap, subst, arith}
use Rattle.sctp_model.specs.sender.Filling.{Fill, fill, chunk_of, newly_numbered}
use Rattle.sctp_model.specs.end.EndView.{EndView, Alarm, format_of}
use Rattle.sctp_model.specs.end.Building.{filled_behind, room_behind}
use Rattle.sctp_model.proofs.sender.FillLaws.{fill_is_fill}
use Rattle.sctp_packet.specs.Draft.{Draft, room_in, with_chunks}
use Rattle.sctp_send.specs.FillAnswers.{AreSentAgain}
use Rattle.sctp_association.specs.StartsMean.{starts_at, with_fragments, started_from}
use Rattle.sctp_association.specs.TrafficStands.{TrafficStands, indexes_of}
use Rattle.sctp_association.specs.Sends.{sendings_by}
use Rattle.sctp_association.specs.Drafted.{drafted}
use Rattle.sctp_association.specs.declared.build.packing.Marks.{Marks}
use Rattle.sctp_association.proofs.CountLemmas.{unpaced}
use Rattle.sctp_association.proofs.RoomLemmas.{some_wish, some_count, less_room, fragments_after}
use Rattle.sctp_association.proofs.build.filling.fill_rest.Goals as goal

-- what went in is what fills the space
went_in : (e : EndView) (m : Marks) (w : Draft) → room_in w ≡ room_behind (drafted m e) w.chunks → fill (format_of e) (room_in w) e.sender ≡ filled_behind (drafted m e) w.chunks
went_in e m w fits = ap (λ (n : ℕ). fill (format_of e) n e.sender) fits

-- something did, exactly if less space is left
went_out : (c : goal.After-of) (e : EndView) (m : Marks) → TrafficStands c.args.traffic.now (format_of e) e.sender e.receiver → room_in c.args.writer.now ≡ room_behind (drafted m e) c.args.writer.now.chunks
    → nat_lt c.room.result c.room-before.result ≡ some_wish (filled_behind (drafted m e) c.args.writer.now.chunks).wishes
went_out c e m stands fits =
    let w = c.args.writer.now in
    let f = format_of e in
    let went = fill f (room_in w) e.sender in
    let after = c.in_ok-filled.ensures.chunks f e.sender e.receiver stands in
    let less = less_room f e.sender went.view w.limit w.chunks went.wishes (fill_is_fill f (room_in w) e.sender).follows in
    ap (λ (k : ℕ). nat_lt k c.room-before.result) (c.room.ensures.room ∙ ap room_in after)
    ∙ (ap (λ (k : ℕ). nat_lt (room_in (with_chunks w (map (chunk_of f) went.wishes))) k) c.room-before.ensures.room
    ∙ (less ∙ ap (λ (y : Fill). some_wish y.wishes) (went_in e m w fits)))

pub returns-clause-step : goal.returns-clause-step
returns-clause-step c = λ e m stands fits.
    subst (λ (y : Fill). TrafficStands c.fill.new.self (format_of e) y.view e.receiver) (went_in e m c.args.writer.now fits) (c.in_ok-filled.ensures.step (format_of e) e.sender e.receiver stands)

pub returns-clause-again : goal.returns-clause-again
returns-clause-again c = λ e m stands fits.
    subst (λ (y : Fill). AreSentAgain e.sender y.wishes (indexes_of c.fill.new.self)) (went_in e m c.args.writer.now fits) (c.in_ok-filled.ensures.again (format_of e) e.sender e.receiver stands)

pub returns-clause-some : goal.returns-clause-some
returns-clause-some c = λ e m stands fits. went_out c e m stands fits ∙ some_count (filled_behind (drafted m e) c.args.writer.now.chunks).wishes

pub returns-clause-filled : goal.returns-clause-filled
returns-clause-filled c = λ e m n stands fits packet starting.
    let w = c.args.writer.now in
    let f = format_of e in
    let v = e.sender in
    let x = drafted m e in
    let zs = w.chunks in
    let same = went_in e m w fits in
    let after = c.in_ok-filled.ensures.chunks f v e.receiver stands in
    record {
      chunks = ap (λ (d : Draft). d.chunks) after ∙ ap (λ (y : Fill). zs ++ map (chunk_of f) y.wishes) same;
      packet = record {
        limit = omega (arith, ap (λ (d : Draft). d.limit) after, packet.limit);
        source = ap (λ (d : Draft). d.source) after ∙ packet.source;
        destination = ap (λ (d : Draft). d.destination) after ∙ packet.destination;
        tag = ap (λ (d : Draft). d.tag) after ∙ packet.tag;
        sack = packet.sack;
      };
      marks = refl;
      timers = ap (λ (q : Alarm → Bool). started_from q e.moment e.timers) (starting ∙ ap (λ (b : Bool). with_fragments b (starts_at m.starts)) (went_out c e m stands fits))
          ∙ fragments_after e m (filled_behind x zs).wishes;
      traffic_stands = subst (λ (y : Fill). TrafficStands c.fill.new.self f y.view e.receiver) same (c.in_ok-filled.ensures.step f v e.receiver stands);
      sendings_are = c.of.ensures ∙ (unpaced (fill f (room_in w) v).wishes c.in_ok-filled.filled.sendings (c.in_ok-filled.ensures.sendings f v e.receiver stands) ∙ ap (λ (y : Fill). sendings_by None y.wishes) same);
      tickets_are = c.in_ok-filled.ensures.tickets f v e.receiver stands ∙ ap (λ (y : Fill). newly_numbered v y.view) same;
    }
