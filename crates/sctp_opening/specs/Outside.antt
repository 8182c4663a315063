-- An endpoint without an association: what its replies are made from.
use Rattle.std.specs.Prelude.{◌≡◌, Some, None, MatchOption}
use Rattle.sctp_model.specs.end.Sealing.{Sealing}
use Rattle.sctp_model.specs.end.EndView.{EndView}
use Rattle.sctp_model.specs.end.Strays.{listens}
use Rattle.sctp_cookie.specs.Seals.{IsUnder}
use Rattle.sctp_opening.specs.Cookies.{IsAt}
use Rattle.sctp_opening.specs.declared.outside.Outside.{Outside}

-- The endpoint has this configuration and this time, and listens with a seal of this key, or doesn't listen.
pub record IsOutside (o : Outside) (e : EndView) : Type 0 where
  pub at : IsAt o.config o.moment e
  pub seal : MatchOption o.key (listens e ≡ None) (λ key. (s : Sealing) × (listens e ≡ Some s) × IsUnder key s)
