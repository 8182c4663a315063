use Rattle.sctp_end.proofs.SetUpLemmas.{settings_not, settings, asked_plain, plain_has_none}
use Rattle.std.proofs.Common.{refl}
use Rattle.sctp_end.proofs.set_up.config_of.Goals as goal

pub returns-in_err-limit-clause-exact : goal.returns-in_err-limit-clause-exact
returns-in_err-limit-clause-exact c =
    rw c.from_residual.ensures (settings_not _ _ _ _ _ _ _ _ refl (λ vs says fine. c.in_err-limit.ensures vs.0 says.limit))

pub returns-in_err-fragment-clause-exact : goal.returns-in_err-fragment-clause-exact
returns-in_err-fragment-clause-exact c =
    rw c.from_residual-in_err-fragment.ensures (settings_not _ _ _ _ _ _ _ _ refl (λ vs says fine. c.in_err-fragment.ensures vs.1.0 says.fragment))

pub returns-in_err-buffer-clause-exact : goal.returns-in_err-buffer-clause-exact
returns-in_err-buffer-clause-exact c =
    rw c.from_residual-in_err-buffer.ensures (settings_not _ _ _ _ _ _ _ _ refl (λ vs says fine. c.in_err-buffer.ensures vs.1.1.0 says.buffer))

pub returns-in_err-streams-clause-exact : goal.returns-in_err-streams-clause-exact
returns-in_err-streams-clause-exact c =
    rw c.from_residual-in_err-streams.ensures (settings_not _ _ _ _ _ _ _ _ refl (λ vs says fine. c.in_err-streams.ensures vs.1.1.1.0 says.streams))

pub returns-in_err-mode-clause-exact : goal.returns-in_err-mode-clause-exact
returns-in_err-mode-clause-exact c =
    rw c.from_residual-in_err-mode.ensures (settings_not _ _ _ _ _ _ _ _ refl (λ vs says fine. c.in_err-mode.ensures vs.1.1.1.1.0 says.mode))

pub returns-in_err-own_port-clause-exact : goal.returns-in_err-own_port-clause-exact
returns-in_err-own_port-clause-exact c =
    rw c.from_residual-in_err-own_port.ensures (settings_not _ _ _ _ _ _ _ _ refl (λ vs says fine. c.in_err-own_port.ensures vs.1.1.1.1.1.0 says.own_port))

pub returns-in_err-peer_port-clause-exact : goal.returns-in_err-peer_port-clause-exact
returns-in_err-peer_port-clause-exact c =
    rw c.from_residual-in_err-peer_port.ensures (settings_not _ _ _ _ _ _ _ _ refl (λ vs says fine. c.in_err-peer_port.ensures vs.1.1.1.1.1.1.0 says.peer_port))

pub returns-in-Ok-clause-exact : goal.returns-in-Ok-clause-exact
returns-in-Ok-clause-exact c =
    let config = settings _ _ _ _ _ _ _ _ c.in_ok-limit.limit c.in_ok-fragment.fragment c.in_ok-buffer.buffer c.in_ok-streams.streams c.in_ok-own_port.own_port c.in_ok-peer_port.peer_port c.in_ok-mode.mode c.in-Ok.config refl
    c.in_ok-limit.ensures c.in_ok-fragment.ensures c.in_ok-buffer.ensures c.in_ok-streams.ensures c.in_ok-mode.ensures c.in_ok-own_port.ensures c.in_ok-peer_port.ensures
    c.in-Ok.ensures.exact.0 c.in-Ok.ensures.exact.1 in
    rw c.asked.ensures config

pub returns-in-Ok-clause-plain : goal.returns-in-Ok-clause-plain
returns-in-Ok-clause-plain c = rw c.asked.ensures (asked_plain _ _ (plain_has_none _ _ _ _ _ _ _ _ c.in-Ok.ensures.exact.0))
