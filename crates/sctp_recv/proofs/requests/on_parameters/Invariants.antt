use Rattle.std.proofs.Common.{◌≡◌, ◌≤◌, ℕ, ◌∷◌, Some}
use Rattle.std.specs.Prelude.{vec_capacity}
use Rattle.sctp_model.specs.receiver.Incoming.{Incoming}
use Rattle.sctp_model.specs.receiver.ReceiverView.{ReceiverView}
use Rattle.sctp_reconfig.specs.Reading.{ListAtMost}
use Rattle.sctp_reconfig.specs.Meanings.{parameter_meaning}
use Rattle.sctp_recv.specs.ReceiverKept.{ReceiverKept}
use Rattle.sctp_recv.specs.Requests.{all_requested}
use Rattle.sctp_recv.specs.Resets.{resets_of, KeepsResets}
use Rattle.sctp_recv.specs.inner.Restarting.{HasSpace}
use Rattle.sctp_recv.specs.inner.Requesting.{IsBefore}
use Rattle.sctp_recv.proofs.requests.on_parameters.Given as goal

-- the resets are those of a view from which those that are left lead to where all lead
abbrev pub invariant-loop-parameter : goal.invariant-loop-parameter
invariant-loop-parameter g l = record {
  space : HasSpace l.limit l.fn.resets → HasSpace l.limit l.resets;
  room : vec_capacity l.fn.resets.named ≤ vec_capacity l.resets.named;
  lists : (n : ℕ) → ListAtMost n (parameter_meaning l.fn.first ∷ l.fn.others) → ListAtMost n l.parameter-iterator;
  stands : (k : ReceiverKept) (v : ReceiverView) (c n : ℕ) → IsBefore g.F.Framing.format l.streams l.cumulative l.limit l.fn.resets k v c →
      ListAtMost n (parameter_meaning l.fn.first ∷ l.fn.others) → n ≤ vec_capacity l.fn.resets.named → (x : Incoming) × KeepsResets g.F.Framing.format (Some (resets_of l.resets)) v.initial v.streams v.taken x
      × (all_requested l.limit c (record v { resets = x }) l.parameter-iterator ≡ all_requested l.limit c v (parameter_meaning l.fn.first ∷ l.fn.others));
}
