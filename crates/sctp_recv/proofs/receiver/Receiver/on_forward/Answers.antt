use Rattle.std.proofs.Common.{◌≡◌, ℕ, true, false, length, refl, sym, ◌∙◌, ap, subst, arith}
use Rattle.std.proofs.lemmas.List.{length-map}
use Rattle.sctp_model.specs.receiver.ForwardTaken.{Moved, ForwardTaken, names_other_stream}
use Rattle.sctp_model.proofs.receiver.ForwardAtRest.{forward_at_rest}
use Rattle.sctp_wire.specs.ChunkTree.{forward_meaning}
use Rattle.sctp_recv.specs.Fields.{stream_of}
use Rattle.sctp_recv.specs.KeptOf.{kept_of}
use Rattle.sctp_recv.specs.StandsFor.{StandsFor}
use Rattle.sctp_recv.specs.declared.answer.TsnPlace.TheVariants.{Behind, Ahead, At}
use Rattle.sctp_recv.specs.inner.Rows.{IsTsnPlace}
use Rattle.sctp_recv.proofs.ReceiverSteps.{cumulative_is}
use Rattle.sctp_recv.proofs.ResultLemmas.{if_err}
use Rattle.sctp_recv.proofs.ForwardRows.{row_out_of_date, row_far, row_other, row_moved}
use Rattle.sctp_recv.proofs.receiver.Receiver.on_forward.Goals as goal

pub returns-in-Behind-clause-step : goal.returns-in-Behind-clause-step
unfolding StandsFor
returns-in-Behind-clause-step g c = λ v w.
    let s = c.args.self.now.seen.kept in
    let x = forward_meaning c.args.forward.now in
    let place = subst (λ (n : ℕ). IsTsnPlace c.args.self.now.initial n x.cumulative Behind) c.cumulative.ensures.value c.in-Behind.ensures in
    (v, record { c = s.cumulative; cumulative = cumulative_is s v w.0.seen; answer = sym (row_out_of_date g.F.Framing.format (kept_of c.args.self.now) v x w.0 place); leaves = refl }, w)

pub returns-in-Ahead-clause-step : goal.returns-in-Ahead-clause-step
unfolding StandsFor
returns-in-Ahead-clause-step g c = λ v w.
    let s = c.args.self.now.seen.kept in
    let x = forward_meaning c.args.forward.now in
    let place = subst (λ (n : ℕ). IsTsnPlace c.args.self.now.initial n x.cumulative Ahead) c.cumulative.ensures.value c.in-Ahead.ensures in
    (v, record { c = s.cumulative; cumulative = cumulative_is s v w.0.seen; answer = sym (row_far g.F.Framing.format (kept_of c.args.self.now) v x w.0 place.0 place.1); leaves = refl }, w)

pub returns-then-names_other_stream-clause-step : goal.returns-then-names_other_stream-clause-step
unfolding StandsFor
returns-then-names_other_stream-clause-step g c = λ v w.
    let s = c.args.self.now.seen.kept in
    let x = forward_meaning c.args.forward.now in
    let items = c.args.self.now.streams.items in
    let place = subst (λ (n : ℕ). IsTsnPlace c.args.self.now.initial n x.cumulative (At c.in-At.index)) c.cumulative.ensures.value c.in-At.ensures in
    let count : length (kept_of c.args.self.now).streams ≡ c.len.result = let m = length-map items stream_of in omega (arith, m, c.len.ensures, c.args.self.now.streams.ok) in
    let named : names_other_stream (length (kept_of c.args.self.now).streams) x.skips ≡ true = ap (λ (n : ℕ). names_other_stream n x.skips) count ∙ sym c.names_other_stream.ensures ∙ c.if-names_other_stream.true in
    (v, record { c = s.cumulative; cumulative = cumulative_is s v w.0.seen; answer = sym (row_other g.F.Framing.format (kept_of c.args.self.now) v x w.0 c.in-At.index place named); leaves = refl }, w)

pub returns-clause-step : goal.returns-clause-step
unfolding StandsFor
returns-clause-step g c = λ v w.
    let s = c.args.self.now.seen.kept in
    let x = forward_meaning c.args.forward.now in
    let items = c.args.self.now.streams.items in
    let place = subst (λ (n : ℕ). IsTsnPlace c.args.self.now.initial n x.cumulative (At c.in-At.index)) c.cumulative.ensures.value c.in-At.ensures in
    let m = length-map items stream_of in
    let count : length items ≡ c.len.result = omega (arith, c.len.ensures, c.args.self.now.streams.ok) in
    let named : names_other_stream (length items) x.skips ≡ false = ap (λ (n : ℕ). names_other_stream n x.skips) count ∙ sym c.names_other_stream.ensures ∙ c.if-names_other_stream.false in
    let kept_named : names_other_stream (length (kept_of c.args.self.now).streams) x.skips ≡ false = ap (λ (n : ℕ). names_other_stream n x.skips) m ∙ named in
    let f = g.F.Framing.format in
    let m = c.in_ok-pass_to.ensures.passed v w x refl place named in
    let answer = row_moved f (kept_of c.args.self.now) v x w.0 c.in-At.index place kept_named in
    let taken : ForwardTaken f v x Moved m.0 = record { c = s.cumulative; cumulative = cumulative_is s v w.0.seen; answer = sym answer; leaves = m.1 } in
    (m.0, taken, (m.2.0.0, (m.2.0.1, (forward_at_rest f v x Moved m.0 w.1.1.0 taken, (m.2.1, m.3)))))

pub returns-in_err-pass_to-clause-memory : goal.returns-in_err-pass_to-clause-memory
unfolding StandsFor
returns-in_err-pass_to-clause-memory g c = λ v w.
    let s = c.args.self.now.seen.kept in
    let x = forward_meaning c.args.forward.now in
    let items = c.args.self.now.streams.items in
    let place = subst (λ (n : ℕ). IsTsnPlace c.args.self.now.initial n x.cumulative (At c.in-At.index)) c.cumulative.ensures.value c.in-At.ensures in
    let count : length (kept_of c.args.self.now).streams ≡ c.len.result = let m = length-map items stream_of in omega (arith, m, c.len.ensures, c.args.self.now.streams.ok) in
    let named : names_other_stream (length (kept_of c.args.self.now).streams) x.skips ≡ false = ap (λ (n : ℕ). names_other_stream n x.skips) count ∙ sym c.names_other_stream.ensures ∙ c.if-names_other_stream.false in
    if_err c.from_residual.result (s.cumulative, cumulative_is s v w.0.seen, row_moved g.F.Framing.format (kept_of c.args.self.now) v x w.0 c.in-At.index place named)
