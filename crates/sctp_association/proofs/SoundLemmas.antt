-- `sound`, `tickets_are_apart`, `packets_begin_few`: each view of an endpoint is bare before an association, has the configured buffer, and names its messages.
use Rattle.std.proofs.Common.{◌≡◌, ◌∙◌, ℕ, ◌<◌, List, [], ◌∷◌, length, inl, inr, true, false, refl, sym, ap, subst}
use Rattle.sctp_model.specs.numbers.Lists.{Has}
use Rattle.sctp_model.specs.messages.Format.{Format}
use Rattle.sctp_model.specs.messages.Plan.{Entry, Plan}
use Rattle.sctp_model.specs.sender.Entries.{entry_lane, entry_number}
use Rattle.sctp_model.specs.sender.Reached.{IsReached}
use Rattle.sctp_model.specs.receiver.ReceiverView.{ReceiverView}
use Rattle.sctp_model.specs.end.EndView.{EndView}
use Rattle.sctp_model.specs.end.EndView as model
use Rattle.sctp_model.proofs.sender.PlanLaws.{AllNamed}
use Rattle.sctp_model.proofs.sender.CountLaws.{is_named}
use Rattle.sctp_outcomes.specs.Few.{IsFilling}
use Rattle.sctp_outcomes.specs.Kept.{is_before, IsSound}
use Rattle.sctp_association.specs.PhaseMeans.{phase_in, phase_unjoined}
use Rattle.sctp_association.specs.MachineStands.{KeepsMachine}
use Rattle.sctp_association.specs.declared.state.stage.Tags.{Tags}
use Rattle.sctp_association.specs.declared.state.life.Unjoined.{Unjoined}
use Rattle.sctp_association.specs.declared.state.life.Unjoined.TheVariants.{Idle, Listening, Calling, Failed}
use Rattle.sctp_association.specs.declared.state.life.Progress.{Progress}
use Rattle.sctp_association.specs.declared.state.life.Progress.TheVariants.{Echoing, Open, Over}
use Rattle.sctp_association.specs.declared.state.life.Association.{Association}
use Rattle.sctp_association.specs.declared.state.life.Life.TheVariants as life
use Rattle.sctp_association.specs.declared.machine.Machine.{Machine}
use Rattle.sctp_association.proofs.MachineLemmas.{joined, unjoined, phase_joined, phase_unjoined_at}

-- without an association nothing stands in its sender and its receiver
pub sound_unjoined : (m : Machine) (x : Unjoined) (v : EndView) → m.life ≡ life.Unjoined x → KeepsMachine m v → IsSound v
sound_unjoined m x v is k =
    let u = unjoined m x v is k in record {
      bare = λ on. record { sender = u.sender; receiver = u.receiver };
      buffer = ap (λ (r : ReceiverView). r.buffer) u.receiver;
      named = subst (λ s. (e : Entry) → Has s.plan.entries e → entry_number e < length (s.plan.messages (entry_lane e))) (sym u.sender) (λ e none. absurd none);
    }

joined_after : (t : Tags) (p : Progress) → is_before (phase_in t p) ≡ false
joined_after t (Echoing cookie) = refl
joined_after t (Open g) = refl
joined_after t (Over why) = refl

has_number : (n : ℕ) (p : Plan) (es : List Entry) (e : Entry) → AllNamed n p es → Has es e → entry_number e < length (p.messages (entry_lane e))
has_number n p [] e h none = absurd none
has_number n p (d ∷ es) e h (inl same) = subst (λ (x : Entry). entry_number x < length (p.messages (entry_lane x))) same h.0.number
has_number n p (d ∷ es) e h (inr there) = has_number n p es e h.1 there

-- with one its sender's view is one that calls reach
pub sound_joined : (m : Machine) (a : Association) (v : EndView) (f : Format) → m.life ≡ life.Joined a → KeepsMachine m v → IsReached f v.sender → IsSound v
sound_joined m a v f is k reached = record {
  bare = λ on. let q : false ≡ true = sym (joined_after a.tags a.progress) ∙ ap is_before (phase_joined m a v is k) ∙ on in absurd (cc);
  buffer = (joined m a v is k).buffer;
  named = λ e there. has_number v.sender.streams v.sender.plan v.sender.plan.entries e (is_named f v.sender reached) there;
}

-- without an association nothing is filled
never_open : (x : Unjoined) (t : model.Tags) (g : model.Stage) → phase_unjoined x ≡ model.Open t g → ⊥
never_open Idle t g is = cc
never_open Listening t g is = cc
never_open (Calling d) t g is = cc
never_open (Failed why) t g is = cc

pub filling_unjoined : (m : Machine) (x : Unjoined) (v : EndView) → m.life ≡ life.Unjoined x → KeepsMachine m v → IsFilling v
filling_unjoined m x v is k = λ t g filled. absurd (never_open x t g (phase_unjoined_at m x v is k ∙ filled))
