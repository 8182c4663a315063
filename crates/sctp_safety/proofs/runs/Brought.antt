-- A packet of the peer's that arrives at an endpoint that isn't open.
use Rattle.std.proofs.Common.{◌≡◌, ℕ, true, false, subst}
use Rattle.sctp_model.specs.wire.Packet.{Packet}
use Rattle.sctp_model.specs.end.EndView.{Draw, Phase, Listening, EndView}
use Rattle.sctp_model.specs.end.Strays.{Verdict}
use Rattle.sctp_model.specs.end.Wearing.{missed_below, wearing}
use Rattle.sctp_model.specs.end.Arriving.{Arrives, Elsewhere, NotOurs, Stray, CookieBegins, Heard, no_notes, urged}
use Rattle.sctp_safety.specs.States.{has_agreed}
use Rattle.sctp_safety.proofs.machine.EndWords.{all_act_keeps}
use Rattle.sctp_safety.proofs.machine.Strangers.{found_is}
use Rattle.sctp_safety.proofs.runs.Pair.{AreOpening}
use Rattle.sctp_safety.proofs.runs.Unmet.{IsUnmet, openings_keep, unmet_ended, unmet_worn}

-- an endpoint that has agreed on something doesn't listen
pub listens_not : (h : Phase) → h ≡ Listening → has_agreed h ≡ true → ⊥
listens_not h is agreed = let q : false ≡ true = subst (λ (k : Phase). has_agreed k ≡ true) is agreed in absurd (cc)

-- A packet of opening chunks leaves it so, unless it listens.
pub unmet_arrives : (clock : ℕ) (e : EndView) (d : Draw) (k : Packet) (t : EndView) (o : Verdict) → IsUnmet clock e → (e.phase ≡ Listening → ⊥) →
    AreOpening k.chunks → Arrives e d k t o → IsUnmet clock t
unmet_arrives clock e d k t o m calls opening (Elsewhere ports) = m
unmet_arrives clock e d k t o m calls opening (NotOurs ports passes) = m
unmet_arrives clock e d k t o m calls opening (Stray ports passes none closed) = m
unmet_arrives clock e d k t o m calls opening (CookieBegins b _ _ _ ports passes none opens acts gap _) = absurd (calls (found_is e k.tag k.chunks b opens).phase)
unmet_arrives clock e d k t o m calls opening (Heard u n _ ports passes has acts gap _) =
    unmet_ended clock (urged gap n) (wearing (missed_below e.pace) u)
    (unmet_worn clock (missed_below e.pace) u (all_act_keeps k.tag _ _ _ (openings_keep clock k.tag) e no_notes k.chunks u n o opening m acts).0)
