-- A state cookie: a body and the MAC of it (RFC 9260, 5.1.3), and when a listener takes it back (5.1.5).
use Rattle.std.specs.Prelude.{◌≡◌, ◌≢◌, ℕ, ◌<◌, ◌≤◌, List, ◌++◌, length, take, drop, Bool, true, not, ◌&&◌, ◌||◌, ◌==◌, nat_lt, if◌then◌else◌, Result, Ok, Err}
use Rattle.std.specs.Str.{bytes_eq}
use Rattle.sctp_model.specs.numbers.Limits.{COOKIE_LIFE}
use Rattle.sctp_model.specs.end.Sealing.{Body, IsInRange}
use Rattle.sctp_model.specs.end.Opening.{age, staleness}
use Rattle.sctp_cookie.specs.Hmac.{hmac}
use Rattle.sctp_cookie.specs.CookieBody.{body_bytes, body_of, has_form}
use Rattle.sctp_cookie.specs.declared.body.CookieOptions.{CookieOptions}
use Rattle.sctp_cookie.specs.declared.body.Ports.{Ports}
use Rattle.sctp_cookie.specs.declared.sealing.CookieFault.{CookieFault}
use Rattle.sctp_cookie.specs.declared.sealing.CookieFault.TheVariants as fault

-- the cookie of a body under a key: the body's bytes, then their MAC
unfoldable pub sealed : List ℕ → Body → List ℕ
sealed key body = body_bytes body ++ hmac key (body_bytes body)

-- the ports that a body names
abbrev pub ports_of : Body → Ports
ports_of body = record { listener = body.listener.port; caller = body.caller.port }

-- ---- the answer, computed

-- the last 32 bytes are the MAC of the first 40
unfoldable pub has_mac : List ℕ → List ℕ → Bool
has_mac key bytes = bytes_eq (hmac key (take 40 bytes)) (drop 40 bytes)

-- a body names these ports
unfoldable pub has_ports : Ports → Body → Bool
has_ports ports body = body.listener.port == ports.listener && body.caller.port == ports.caller

-- the first check that fails at a listener with these options, or the body
unfoldable pub open_answer : (taken : CookieOptions) → List ℕ → List ℕ → ℕ → Ports → ℕ → Result Body CookieFault
open_answer taken key bytes now ports tag =
    if not (has_form taken bytes) then Err fault.Form
    else if not (has_mac key bytes) then Err fault.Mac
    else if not (has_ports ports (body_of bytes)) then Err fault.Ports
    else if not ((body_of bytes).listener.tag == tag) then Err fault.Tag
    else if nat_lt COOKIE_LIFE (age now (body_of bytes)) then Err (fault.Stale (staleness now (body_of bytes)))
    else Ok (body_of bytes)

-- ---- the answer, in the words of the layout

-- A listener makes such a body: one that is set up without stream reset, or without zero checksums, makes none that says so, and takes none.
abbrev pub is_made : (taken : CookieOptions) → Body → Bool
is_made taken body = (taken.reset || not body.reset) && (taken.zero_checksum || not body.zero_checksum)

-- these bytes are a body of the layout, which such a listener makes, and 32 bytes more
pub record IsLaidOut (taken : CookieOptions) (bytes : List ℕ) (body : Body) : Type 0 where
  pub in_range : IsInRange body
  pub made : is_made taken body ≡ true
  pub mac : List ℕ
  pub mac_length : length mac ≡ 32
  pub layout : bytes ≡ body_bytes body ++ mac

-- these bytes are the cookie of a body under this key
pub record IsCookie (key bytes : List ℕ) (body : Body) : Type 0 where
  pub in_range : IsInRange body
  pub is_sealed : bytes ≡ sealed key body

-- .. which such a listener makes
pub record IsOwn (taken : CookieOptions) (key bytes : List ℕ) (body : Body) : Type 0 where
  pub cookie : IsCookie key bytes body
  pub made : is_made taken body ≡ true

-- .. and the body is of these ports and this tag
pub record Belongs (taken : CookieOptions) (key bytes : List ℕ) (ports : Ports) (tag : ℕ) (body : Body) : Type 0 where
  pub own : IsOwn taken key bytes body
  pub same_ports : ports_of body ≡ ports
  pub same_tag : body.listener.tag ≡ tag

-- what opening answers at such a listener, each fault if the checks before it hold
abbrev pub Opened : (taken : CookieOptions) → List ℕ → List ℕ → ℕ → Ports → ℕ → Result Body CookieFault → Type 0
Opened taken key bytes now ports tag (Ok body) = Belongs taken key bytes ports tag body × (age now body ≤ COOKIE_LIFE)
Opened taken key bytes now ports tag (Err fault.Form) = (body : Body) → ¬ IsLaidOut taken bytes body
Opened taken key bytes now ports tag (Err fault.Mac) = (body : Body) × IsLaidOut taken bytes body × (bytes ≢ sealed key body)
Opened taken key bytes now ports tag (Err fault.Ports) = (body : Body) × IsOwn taken key bytes body × (ports_of body ≢ ports)
Opened taken key bytes now ports tag (Err fault.Tag) =
    (body : Body) × IsOwn taken key bytes body × (ports_of body ≡ ports) × (body.listener.tag ≢ tag)
Opened taken key bytes now ports tag (Err (fault.Stale microseconds)) =
    (body : Body) × Belongs taken key bytes ports tag body × (COOKIE_LIFE < age now body) × (microseconds ≡ staleness now body)
