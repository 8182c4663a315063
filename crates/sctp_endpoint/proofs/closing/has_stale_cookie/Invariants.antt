use Rattle.std.proofs.Common.{◌≡◌}
use Rattle.sctp_model.specs.end.Reports.{STALE_COOKIE}
use Rattle.sctp_model.specs.end.Acting.{has_cause}
use Rattle.sctp_endpoint.proofs.closing.has_stale_cookie.Given as goal

-- it is among those to come exactly where it is among all
abbrev pub invariant-loop-cause : goal.invariant-loop-cause
invariant-loop-cause l = has_cause STALE_COOKIE l.cause-iterator ≡ has_cause STALE_COOKIE l.initial.cause-iterator
