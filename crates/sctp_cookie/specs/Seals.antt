-- A key's seal: the cookies that it makes of bodies, and the bodies that it finds in bytes (RFC 9260, 5.1.3).
use Rattle.std.specs.Prelude.{◌≡◌, ℕ, ◌&&◌, true, if◌then◌else◌, List, length, Option, Some, None, Result, Ok, Err}
use Rattle.sctp_model.specs.numbers.Numbers.{AreBytes}
use Rattle.sctp_model.specs.end.Sealing.{Body, IsInRange, COOKIE_SIZE, Sealing}
use Rattle.sctp_model.specs.end.EndView.{Configuration, EndView}
use Rattle.sctp_model.specs.end.Opening.{CookieRead, CookieOpens, CookieLate, Strange, cookie_read}
use Rattle.sctp_model.specs.world.Premises.{IsBody}
use Rattle.sctp_cookie.specs.CookieBody.{all_options, body_of, has_form}
use Rattle.sctp_cookie.specs.Opens.{IsCookie, has_mac, open_answer, sealed}
use Rattle.sctp_cookie.specs.declared.body.CookieOptions.{CookieOptions}
use Rattle.sctp_cookie.specs.declared.body.Ports.{Ports}
use Rattle.sctp_cookie.specs.declared.sealing.CookieFault.{CookieFault}
use Rattle.sctp_cookie.specs.declared.sealing.CookieFault.TheVariants as fault

-- the body in bytes that have a cookie's form and the right MAC
abbrev pub opened : List ℕ → List ℕ → Option Body
opened key bytes = if has_form all_options bytes && has_mac key bytes then Some (body_of bytes) else None

-- what a key seals has a cookie's size and form and the right MAC
pub record IsSealedWell (key : List ℕ) (body : Body) : Type 0 where
  pub size : length (sealed key body) ≡ COOKIE_SIZE
  pub form : has_form all_options (sealed key body) ≡ true
  pub mac : has_mac key (sealed key body) ≡ true
  -- .. and holds the body, where each number has room in its field
  pub holds : IsInRange body → body_of (sealed key body) ≡ body

-- The seal is the key's: it makes the key's cookies, and finds the bodies of these alone.
pub record IsUnder (key : List ℕ) (s : Sealing) : Type 0 where
  pub seals : (body : Body) → s.sealed body ≡ sealed key body
  pub opens : (bytes : List ℕ) → s.opened bytes ≡ opened key bytes

-- the bytes are the key's cookie of some body whose numbers have room in their fields
abbrev pub IsSealed : (key bytes : List ℕ) → Type 0
IsSealed key bytes = (body : Body) × IsCookie key bytes body

-- Under a seal those bytes open that the key seals, no others.
pub record OpensTheSealed (key : List ℕ) (s : Sealing) : Type 0 where
  pub only : (bytes : List ℕ) → AreBytes bytes → IsBody (s.opened bytes) → IsSealed key bytes
  pub all : (bytes : List ℕ) → IsSealed key bytes → IsBody (s.opened bytes)

-- ---- what a listener reads

-- the ports of an end that listens: its own and its peer's
abbrev pub ports_at : EndView → Ports
ports_at e = record { listener = e.configuration.own_port; caller = e.configuration.peer_port }

-- the options that it is set up with, of those that its cookies may say
abbrev pub options_of : Configuration → CookieOptions
options_of c = record { reset = c.reset; zero_checksum = c.zero_checksum }

-- what a listener makes of a cookie that holds this body, where opening it is answered so (RFC 9260, 5.1.5)
abbrev pub read_by : Body → Result Body CookieFault → CookieRead
read_by held (Ok body) = CookieOpens body
read_by held (Err (fault.Stale microseconds)) = CookieLate held
read_by held (Err fault.Form) = Strange
read_by held (Err fault.Mac) = Strange
read_by held (Err fault.Ports) = Strange
read_by held (Err fault.Tag) = Strange

-- A listener with this key reads in these bytes, under this tag, what opening them is answered: with the options that it is set up with, at its moment and
-- between its ports.
abbrev pub IsReadAsOpened : (key bytes : List ℕ) (tag : ℕ) → Sealing → EndView → Type 0
IsReadAsOpened key bytes tag s e = cookie_read s e tag bytes ≡ read_by (body_of bytes) (open_answer (options_of e.configuration) key bytes e.moment (ports_at e) tag)
