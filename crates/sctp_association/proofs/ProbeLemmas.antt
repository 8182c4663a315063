-- The expiry of the data timer: what a pace that notes it stands for, and that an end without an association probes nothing.
use Rattle.std.proofs.Common.{◌≡◌, ◌∙◌, ℕ, false, sym, ap}
use Rattle.std.specs.Prelude.{Option, Some, None, option_map}
use Rattle.sctp_model.specs.messages.Format.{Format}
use Rattle.sctp_model.specs.sender.SenderView.{SendLimits, SenderView, fresh_sender}
use Rattle.sctp_model.specs.end.EndView.{EndView, format_for}
use Rattle.sctp_model.specs.end.Pacing.{Pace, is_probe, expired_pace}
use Rattle.sctp_congestion.specs.PaceStands.{PaceKept, PaceStands}
use Rattle.sctp_association.specs.MachineStands.{KeepsMachine}
use Rattle.sctp_association.specs.declared.machine.Machine.{Machine}
use Rattle.sctp_association.proofs.CumLemmas.{no_pace, pace_there}
use Rattle.sctp_association.proofs.MachineLemmas.{at_view, with_pace}
use Rattle.sctp_association.proofs.MeasureLemmas.{asked}

-- a sender that was never used has nothing in flight
pub fresh_probes : (s : SenderView) (f : ℕ) (l : SendLimits) → s ≡ fresh_sender 0 0 f 0 false l → false ≡ is_probe s
fresh_probes s f l is = sym (ap is_probe is)

pub expires_none : (m : Machine) (v : EndView) → m.pace ≡ None → KeepsMachine m v → KeepsMachine m (record v { pace = option_map (expired_pace v.sender) v.pace })
expires_none m v none k =
    let free : v.pace ≡ None = no_pace (format_for v.terms.interleave) v.sender.cum m.pace v.pace none k.pace in
    at_view m _ v (ap (λ (o : Option Pace). record v { pace = o }) (ap (option_map (expired_pace v.sender)) free ∙ sym free)) k

pub expires_some : (m : Machine) (v : EndView) (p q : PaceKept) → m.pace ≡ Some p → KeepsMachine m v
    → ((f : Format) (cum : ℕ) (x : Pace) → PaceStands f cum p x → PaceStands f cum q (expired_pace v.sender x))
    → KeepsMachine (record m { pace = Some q }) (record v { pace = option_map (expired_pace v.sender) v.pace })
expires_some m v p q some k expires =
    let (x, there, was) = pace_there (format_for v.terms.interleave) v.sender.cum m.pace p v.pace some k.pace in
    at_view _ _ _ (ap (λ (o : Option Pace). record v { pace = o }) (ap (option_map (expired_pace v.sender)) there))
    (with_pace m v (Some q) (Some (expired_pace v.sender x)) k (expires (format_for v.terms.interleave) v.sender.cum x was) (asked m v x (expired_pace v.sender x) k there))
