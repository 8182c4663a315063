-- What a listener reads in a cookie.
use Rattle.std.specs.Prelude.{◌≡◌, ℕ}
use Rattle.sctp_model.specs.end.Sealing.{Body}
use Rattle.sctp_model.specs.end.EndView.{Configuration, EndView}
use Rattle.sctp_model.specs.end.Opening.{CookieRead, CookieOpens, CookieLate, Strange, staleness}
use Rattle.sctp_cookie.specs.CookieTree.{content_meaning}
use Rattle.sctp_cookie.specs.declared.body.Ports.{Ports}
use Rattle.sctp_opening.specs.declared.cookies.CookieReading.{CookieReading}
use Rattle.sctp_opening.specs.declared.cookies.CookieReading.TheVariants as reading

-- The endpoint has this configuration, and this is its latest time.
pub record IsAt (c : Configuration) (moment : ℕ) (e : EndView) : Type 0 where
  pub configured : e.configuration ≡ c
  pub now : e.moment ≡ moment

-- the ports of packets to a listener
abbrev pub ports_in : Configuration → Ports
ports_in c = record { listener = c.own_port; caller = c.peer_port }

-- what was read
abbrev pub reading_meaning : CookieReading → CookieRead
reading_meaning (reading.Opens content) = CookieOpens (content_meaning content)
reading_meaning (reading.Late content microseconds) = CookieLate (content_meaning content)
reading_meaning reading.Strange = Strange

-- Of a stale cookie the Measure of Staleness at this time is returned (RFC 9260, 3.3.10.3).
abbrev pub TellsStaleness : (moment : ℕ) → CookieReading → Type 0
TellsStaleness moment (reading.Late content microseconds) = microseconds ≡ staleness moment (content_meaning content)
TellsStaleness moment (reading.Opens content) = Unit {0}
TellsStaleness moment reading.Strange = Unit {0}

-- It is past its life by so much, and holds this body.
abbrev pub IsLate : Body → (microseconds : ℕ) → CookieReading → Type 0
IsLate held microseconds (reading.Late content told) = (content_meaning content ≡ held) × (told ≡ microseconds)
IsLate held microseconds (reading.Opens content) = ⊥
IsLate held microseconds reading.Strange = ⊥
