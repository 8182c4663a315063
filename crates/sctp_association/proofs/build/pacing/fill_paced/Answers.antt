use Rattle.std.proofs.Common.{◌∙◌, ℕ, Bool, refl, sym, ap, subst}
use Rattle.std.specs.Prelude.{Some}
use Rattle.sctp_model.specs.sender.Filling.{fill}
use Rattle.sctp_model.specs.end.EndView.{format_of}
use Rattle.sctp_model.specs.end.Building.{room_behind, filled_behind}
use Rattle.sctp_congestion.specs.PaceStands.{PaceStands}
use Rattle.sctp_packet.specs.Draft.{room_in}
use Rattle.sctp_send.specs.FillAnswers.{AreSentAgain}
use Rattle.sctp_association.specs.StartsMean.{starts_at, with_fragments}
use Rattle.sctp_association.specs.Drafted.{drafted}
use Rattle.sctp_association.proofs.CumLemmas.{pace_there}
use Rattle.sctp_association.proofs.CountLemmas.{paced, those_again}
use Rattle.sctp_association.proofs.ReportLemmas.{on_err}
use Rattle.sctp_association.proofs.PaceLemmas.{room_narrowed, own_narrowed, fills_narrowed, fills_counted, none_counted, paced_sent, unset, set, some_wishes, no_wishes, unsent_pace, kept_pace}
use Rattle.sctp_association.proofs.build.pacing.fill_paced.Goals as goal

pub returns-in_err-reserve_again-clause-kept : goal.returns-in_err-reserve_again-clause-kept
returns-in_err-reserve_again-clause-kept c = λ f cum o stands. on_err _ _ (kept_pace f cum _ c.reserve_again.new.pace (c.in_err-reserve_again.ensures.same f cum) o stands)

pub returns-in_err-fragments-clause-kept : goal.returns-in_err-fragments-clause-kept
returns-in_err-fragments-clause-kept c = λ f cum o stands. on_err _ _ (kept_pace f cum _ c.reserve_again.new.pace (c.in_ok-reserve_again.ensures.same f cum) o stands)

pub returns-then-not-fragments-clause-filled : goal.returns-then-not-fragments-clause-filled
returns-then-not-fragments-clause-filled c = λ e m n stands pace clock of starting.
    let w = c.args.writer.now in
    let x = c.narrow.new.writer in
    let there = pace_there (format_of e) e.sender.cum (Some c.args.pace.now) c.args.pace.now e.pace refl pace in
    let fits = room_narrowed e m w x there.0 there.1 of.limit (c.narrow.ensures.room _ e.sender e.receiver there.0 stands there.2) c.narrow.ensures.same in
    let fills = c.in_ok-fragments.ensures.filled e m n stands fits (own_narrowed e m w x c.narrow.ensures.within c.narrow.ensures.same of) starting in
    let none = no_wishes (filled_behind (drafted m e) x.chunks).wishes (sym (c.in_ok-fragments.ensures.some e m stands fits) ∙ unset _ c.if-not-fragments.true) in
    fills_narrowed e.pace e w x m _ _ _ c.narrow.ensures.same (fills_counted e _ _ _ _ _ fills refl (none_counted e.pace e _ _ _ _ none fills))

pub returns-then-not-fragments-clause-paced : goal.returns-then-not-fragments-clause-paced
returns-then-not-fragments-clause-paced c = λ e m stands pace clock of.
    let w = c.args.writer.now in
    let x = c.narrow.new.writer in
    let there = pace_there (format_of e) e.sender.cum (Some c.args.pace.now) c.args.pace.now e.pace refl pace in
    let fits = room_narrowed e m w x there.0 there.1 of.limit (c.narrow.ensures.room _ e.sender e.receiver there.0 stands there.2) c.narrow.ensures.same in
    let none = sym (c.in_ok-fragments.ensures.some e m stands fits) ∙ unset _ c.if-not-fragments.true in
    paced_sent e m w x c.reserve_again.new.pace there.0 c.args.moment c.narrow.ensures.same there.1 clock
    (subst (PaceStands (format_of e) e.sender.cum c.reserve_again.new.pace) (unsent_pace (format_of e) (room_behind (drafted m e) x.chunks) c.args.moment e.sender there.0 none)
    (c.in_ok-reserve_again.ensures.same (format_of e) e.sender.cum there.0 there.2))

pub returns-clause-filled : goal.returns-clause-filled
returns-clause-filled c = λ e m n stands pace clock of starting.
    let w = c.args.writer.now in
    let x = c.narrow.new.writer in
    let there = pace_there (format_of e) e.sender.cum (Some c.args.pace.now) c.args.pace.now e.pace refl pace in
    let fits = room_narrowed e m w x there.0 there.1 of.limit (c.narrow.ensures.room _ e.sender e.receiver there.0 stands there.2) c.narrow.ensures.same in
    let fills = c.in_ok-fragments.ensures.filled e m n stands fits (own_narrowed e m w x c.narrow.ensures.within c.narrow.ensures.same of) (starting ∙ ap (λ (b : Bool). with_fragments b (starts_at m.starts)) (sym (set _ c.if-not-fragments.false))) in
    let kept = c.in_ok-reserve_again.ensures.same (format_of e) e.sender.cum there.0 there.2 in
    let counted = paced (format_of e) e.sender c.reserve_again.new.pace there.0 e.pace (filled_behind (drafted m e) x.chunks).wishes _ c.missed_among-missed.result c.in_ok-fragments.fragments.filled.sendings kept there.1
    (subst (AreSentAgain e.sender (filled_behind (drafted m e) x.chunks).wishes) (sym c.indexes-again.ensures) (c.in_ok-fragments.ensures.again e m stands fits)) c.missed_among-missed.ensures fills.sendings_are in
    fills_narrowed e.pace e w x m _ _ _ c.narrow.ensures.same (fills_counted e _ _ _ _ _ fills c.with_missed.ensures.tickets (c.with_missed.ensures.sendings ∙ counted))

pub returns-clause-paced : goal.returns-clause-paced
returns-clause-paced c = λ e m stands pace clock of.
    let w = c.args.writer.now in
    let x = c.narrow.new.writer in
    let f = filled_behind (drafted m e) x.chunks in
    let there = pace_there (format_of e) e.sender.cum (Some c.args.pace.now) c.args.pace.now e.pace refl pace in
    let fits = room_narrowed e m w x there.0 there.1 of.limit (c.narrow.ensures.room _ e.sender e.receiver there.0 stands there.2) c.narrow.ensures.same in
    let kept = c.in_ok-reserve_again.ensures.same (format_of e) e.sender.cum there.0 there.2 in
    let before = c.last_sent-before.ensures _ e.sender e.receiver stands in
    let left = c.in_ok-fragments.ensures.step e m stands fits in
    let some = sym (c.in_ok-fragments.ensures.some e m stands fits) ∙ set _ c.if-not-fragments.false in
    let again = subst (AreSentAgain e.sender f.wishes) (sym c.indexes-again.ensures) (c.in_ok-fragments.ensures.again e m stands fits) in
    let here : AreSentAgain e.sender (fill (format_of e) (room_in x) e.sender).wishes c.indexes-again.result.now =
    subst (λ (n : ℕ). AreSentAgain e.sender (fill (format_of e) n e.sender).wishes c.indexes-again.result.now) (sym fits) again in
    paced_sent e m w x c.sent.new.self there.0 c.args.moment c.narrow.ensures.same there.1 clock
    (c.sent.ensures (format_of e) e.sender.cum e.sender f.view f.wishes there.0 kept before (c.last_sent.ensures _ f.view e.receiver left) (c.chunk_flight-flight.ensures _ f.view e.receiver left) (some_wishes _ some)
    (those_again e.sender f.wishes _ _ again (c.in_ok-reserve_again.ensures.room (format_of e) e.sender e.receiver stands before (room_in x) _ here)))
