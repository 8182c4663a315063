use Rattle.std.proofs.Common.{◌≡◌, ◌∙◌, sym, subst}
use Rattle.std.specs.Prelude.{Option, Some, None, MatchOption}
use Rattle.sctp_model.specs.end.Sealing.{Sealing}
use Rattle.sctp_cookie.specs.Seals.{IsUnder}
use Rattle.sctp_association.proofs.OpeningLemmas.{seal_listening, seal_elsewhere}
use Rattle.sctp_association.proofs.machine.Machine.listening_key.Goals as goal

pub returns-then-not-is_listening : goal.returns-then-not-is_listening
returns-then-not-is_listening c = λ v stands. seal_elsewhere v.phase v.role (sym (c.is_listening.ensures v stands) ∙ c.if-not-is_listening.true)

pub returns : goal.returns
returns c = λ v stands.
    subst (λ (x : Option Sealing). MatchOption c.key.result (x ≡ None) (λ key. (s : Sealing) × (x ≡ Some s) × IsUnder key s))
    (sym (seal_listening v.phase v.role (sym (c.is_listening.ensures v stands) ∙ c.if-not-is_listening.false))) (c.key.ensures v stands)
