use Rattle.std.proofs.Common.{◌≡◌, ◌≤◌, ◌-◌, ◌/◌, List, Some, true, false, length, sym, ◌∙◌, ap, subst, arith}
use Rattle.std.specs.Prelude.{vec_capacity}
use Rattle.std.proofs.lemmas.List.{length-map}
use Rattle.sctp_model.specs.wire.Reconfig as model
use Rattle.sctp_model.specs.receiver.ReceiverView.{ReceiverView}
use Rattle.sctp_model.specs.receiver.ResetTaken.{names, names_anew, reset_answer, is_in_turn, answer_in_turn, request_taken}
use Rattle.sctp_reconfig.specs.Meanings.{request_meaning, result_meaning}
use Rattle.sctp_recv.specs.declared.resets.Resets.{Resets}
use Rattle.sctp_recv.specs.Fields.{stream_of}
use Rattle.sctp_recv.specs.ReceiverKept.{StreamKept}
use Rattle.sctp_recv.specs.Requests.{answered}
use Rattle.sctp_recv.specs.Resets.{resets_of, KeepsResets}
use Rattle.sctp_recv.specs.inner.Restarting.{noted, acted, HasSpace}
use Rattle.sctp_recv.proofs.RequestLemmas.{in_turn, not_in_turn, acted_else, performed_low, kept_before}
use Rattle.sctp_recv.proofs.requests.on_reset.Goals as goal
use Rattle.sctp_recv.proofs.requests.on_reset.Goals.{then-is_in_turn, else-is_in_turn}

pub returns-clause-stands : goal.returns-clause-stands
returns-clause-stands g c = λ k v t most before short fits.
    let f = g.F.Framing.format in
    let items = c.args.streams.now.items in
    let limit = c.args.limit in
    let m = request_meaning c.args.request.now in
    let n = m.number in
    let a = result_meaning c.result_of-result.result in
    let table = reset_answer v t m in
    let count : v.streams ≡ length items = before.keeps.streams ∙ ap (λ (ss : List StreamKept). length ss) before.streams ∙ length-map items stream_of in
    let is : a ≡ table = c.result_of-result.ensures v t (omega (arith, count, c.len.ensures, c.args.streams.now.ok)) before.cumulative in
    let start = c.args.resets.now in
    let kept = kept_before f c.args.streams.now c.args.cumulative limit start k v t before in
    let new = resets_of c.answer.new.self in
    let by_table : KeepsResets f (Some new) v.initial v.streams v.taken (answered limit v n (answer_in_turn v n a) (request_taken v m (names v m.streams) (names_anew v m) a)).resets =
    elim c.if-is_in_turn.branch [
      | then-is_in_turn w ↦
          let mid = w.act.new.resets in
          let turn : is_in_turn v n ≡ true = sym (c.is_in_turn.ensures f v kept) ∙ w.if-is_in_turn.true in
          let u : ReceiverView = record v { resets = (acted v m a).resets } in
          let began = w.act.ensures.acts k v (record {
            keeps = before.keeps;
            resets = before.resets;
            streams = before.streams;
            low = λ done. performed_low v t m (sym is ∙ done);
            room = omega (arith, short, fits);
          }) in
          let there = subst (λ (r : Resets). KeepsResets f (Some (resets_of r)) v.initial v.streams v.taken u.resets) (sym w.resets-is) began in
          let space_mid = subst (λ (xs : _). (limit - 16) / 12 ≤ vec_capacity xs) (sym w.act.ensures.answers) before.space in
          let space = subst (λ (r : Resets). HasSpace limit r) (sym w.resets-is) space_mid in
          let last = c.answer.ensures.answered f u there space in
          let here = subst (λ (x : ReceiverView). KeepsResets f (Some new) v.initial v.streams v.taken (answered limit x n (answer_in_turn x n a) (noted x n a)).resets) (sym (acted_else v m a)) last in
          subst (λ (x : ReceiverView). KeepsResets f (Some new) v.initial v.streams v.taken x.resets) (in_turn limit v m a turn) here
      | else-is_in_turn w ↦
          let other : is_in_turn v n ≡ false = sym (c.is_in_turn.ensures f v kept) ∙ w.if-is_in_turn.false in
          let there = subst (λ (r : Resets). KeepsResets f (Some (resets_of r)) v.initial v.streams v.taken v.resets) (sym w.resets-is) kept in
          let space = subst (λ (r : Resets). HasSpace limit r) (sym w.resets-is) before.space in
          let last = c.answer.ensures.answered f v there space in
          subst (λ (x : ReceiverView). KeepsResets f (Some new) v.initial v.streams v.taken (answered limit v n (answer_in_turn v n a) x).resets)
          (not_in_turn v m (names v m.streams) (names_anew v m) a other) last
    ] in
    subst (λ (o : model.ResetResult). KeepsResets f (Some new) v.initial v.streams v.taken (answered limit v n (answer_in_turn v n o) (request_taken v m (names v m.streams) (names_anew v m) o)).resets) is by_table
