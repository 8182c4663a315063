-- COOKIE ECHO: the cookie's bytes (RFC 9260, 3.3.11).
use Rattle.std.specs.Prelude.{ℕ, List}

-- the value is the cookie, whatever it is
abbrev pub cookie_echo_value : (cookie : List ℕ) → List ℕ
cookie_echo_value cookie = cookie
