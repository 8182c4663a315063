-- What an end's user is told of what both ends agreed on.
use Rattle.std.specs.Prelude.{◌≡◌, ◌+◌, ◌<◌, Option, None, Some}
use Rattle.sctp_model.specs.end.EndView.{Terms}
use Rattle.sctp_association.specs.declared.user.agreed.Agreed.{Agreed}

-- It is what the terms say, and they have a stream.
pub record IsAgreed (t : Terms) (a : Agreed) : Type 0 where
  pub some : 0 < t.outbound + t.inbound
  pub outbound : a.outbound ≡ t.outbound
  pub inbound : a.inbound ≡ t.inbound
  pub interleave : a.interleave ≡ t.interleave
  pub partial : a.partial ≡ t.partial

-- that, or there is no stream either way, as before an association
abbrev pub AgreedAnswer : Terms → Option Agreed → Type 0
AgreedAnswer t None = (t.outbound ≡ 0) × (t.inbound ≡ 0)
AgreedAnswer t (Some a) = IsAgreed t a
