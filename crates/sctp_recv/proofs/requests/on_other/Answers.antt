use Rattle.std.proofs.Common.{◌≡◌, ◌≤◌, ◌-◌, ◌/◌, Some, true, false, sym, ◌∙◌, subst}
use Rattle.std.specs.Prelude.{vec_capacity}
use Rattle.sctp_model.specs.wire.Reconfig.{Denied}
use Rattle.sctp_model.specs.receiver.ReceiverView.{ReceiverView}
use Rattle.sctp_model.specs.receiver.ResetTaken.{is_in_turn, answer_in_turn, other_meaning}
use Rattle.sctp_recv.specs.declared.resets.Resets.{Resets}
use Rattle.sctp_recv.specs.Requests.{answered}
use Rattle.sctp_recv.specs.Resets.{resets_of, KeepsResets}
use Rattle.sctp_recv.specs.inner.Restarting.{postponed, HasSpace}
use Rattle.sctp_recv.proofs.RequestLemmas.{other_in_turn, not_in_turn}
use Rattle.sctp_recv.proofs.requests.on_other.Goals as goal
use Rattle.sctp_recv.proofs.requests.on_other.Goals.{then-is_in_turn, else-is_in_turn}

pub returns-clause-denied : goal.returns-clause-denied
returns-clause-denied c = λ f v kept room.
    let limit = c.args.limit in
    let n = c.args.number in
    let new = resets_of c.answer.new.self in
    elim c.if-is_in_turn.branch [
      | then-is_in_turn w ↦
          let turn : is_in_turn v n ≡ true = sym (c.is_in_turn.ensures f v kept) ∙ w.if-is_in_turn.true in
          let u = postponed v (other_meaning n) Denied in
          let there = subst (λ (r : Resets). KeepsResets f (Some (resets_of r)) v.initial v.streams v.taken u.resets) (sym w.resets-is) (w.postpone_none.ensures.postponed f v kept) in
          let space_mid = subst (λ (xs : _). (limit - 16) / 12 ≤ vec_capacity xs) (sym w.postpone_none.ensures.answers) room in
          let space = subst (λ (r : Resets). HasSpace limit r) (sym w.resets-is) space_mid in
          subst (λ (x : ReceiverView). KeepsResets f (Some new) v.initial v.streams v.taken x.resets) (other_in_turn limit v n turn) (c.answer.ensures.answered f u there space)
      | else-is_in_turn w ↦
          let other : is_in_turn v n ≡ false = sym (c.is_in_turn.ensures f v kept) ∙ w.if-is_in_turn.false in
          let there = subst (λ (r : Resets). KeepsResets f (Some (resets_of r)) v.initial v.streams v.taken v.resets) (sym w.resets-is) kept in
          let space = subst (λ (r : Resets). HasSpace limit r) (sym w.resets-is) room in
          subst (λ (x : ReceiverView). KeepsResets f (Some new) v.initial v.streams v.taken (answered limit v n (answer_in_turn v n Denied) x).resets)
          (not_in_turn v (other_meaning n) (λ s. false) (λ s. false) Denied other) (c.answer.ensures.answered f v there space)
    ]
