-- Which ERROR closes an endpoint: only at a caller that has sent its COOKIE ECHO and waits for the COOKIE ACK.
use Rattle.std.proofs.Common.{◌≡◌, ℕ, true, false, List, refl}
use Rattle.sctp_model.specs.wire.Typed.{typed_in}
use Rattle.sctp_model.specs.end.EndView.{Phase, Echoing}
use Rattle.sctp_model.specs.end.Reports.{STALE_COOKIE}
use Rattle.sctp_model.specs.end.Opening.{is_echoing}
use Rattle.sctp_model.specs.end.Acting.{has_cause, is_stale_cookie}

pub never_stale : (h : Phase) (causes : List ℕ) → is_echoing h ≡ false → is_stale_cookie h causes ≡ false
never_stale (Echoing t xs) causes off = absurd (cc)
never_stale h causes off = refl

pub stale_by_cause : (h : Phase) (causes : List ℕ) → is_echoing h ≡ true → is_stale_cookie h causes ≡ has_cause STALE_COOKIE (typed_in causes)
stale_by_cause (Echoing t xs) causes on = refl
stale_by_cause h causes on = absurd (cc)
