-- Whether a cookie is valid, stale or strange, by what opening it returned.
use Rattle.std.proofs.Common.{◌≡◌, ℕ, List, Result, Err, sym, ap, ◌∙◌}
use Rattle.sctp_model.specs.end.Sealing.{Body, Sealing}
use Rattle.sctp_model.specs.end.EndView.{Configuration, EndView}
use Rattle.sctp_model.specs.end.Opening.{CookieLate, cookie_read, staleness}
use Rattle.sctp_cookie.specs.CookieBody.{body_of}
use Rattle.sctp_cookie.specs.Opens.{Opened, open_answer}
use Rattle.sctp_cookie.specs.Seals.{IsReadAsOpened, IsSealedWell, options_of, read_by}
use Rattle.sctp_cookie.specs.declared.body.CookieOptions.{CookieOptions}
use Rattle.sctp_cookie.specs.declared.body.Ports.{Ports}
use Rattle.sctp_cookie.specs.declared.sealing.CookieFault.{CookieFault}
use Rattle.sctp_cookie.specs.declared.sealing.CookieFault.TheVariants as fault
use Rattle.sctp_opening.specs.Cookies.{IsAt, IsLate, TellsStaleness, ports_in, reading_meaning}
use Rattle.sctp_opening.specs.declared.cookies.CookieReading.{CookieReading}
use Rattle.sctp_opening.specs.declared.cookies.CookieReading.TheVariants as reading

-- at this moment and this configuration
pub read_is : (key bytes : List ℕ) (now : ℕ) (c : Configuration) (tag : ℕ) (s : Sealing) (e : EndView) → IsAt c now e → IsReadAsOpened key bytes tag s e
    → (ports : Ports) → ports ≡ ports_in c → (taken : CookieOptions) → taken ≡ options_of c → (r : Result Body CookieFault) → r ≡ open_answer taken key bytes now ports tag → read_by (body_of bytes) r ≡ cookie_read s e tag bytes
read_is key bytes now c tag s e at law ports between taken set r answer =
    let by : read_by (body_of bytes) (open_answer taken key bytes now ports tag) ≡ cookie_read s e tag bytes = rw (between, set, ← at.configured, ← at.now) (sym law) in
    ap (read_by (body_of bytes)) answer ∙ by

-- the measure of staleness is that of the body in the bytes
pub stale_by : (taken : CookieOptions) (key bytes : List ℕ) (now : ℕ) (ports : Ports) (tag n : ℕ) → ((b : Body) → IsSealedWell key b)
    → Opened taken key bytes now ports tag (Err (fault.Stale n)) → n ≡ staleness now (body_of bytes)
stale_by taken key bytes now ports tag n well (b, belongs, old, is) =
    is ∙ ap (staleness now) (sym ((well b).holds belongs.own.cookie.in_range) ∙ ap body_of (sym belongs.own.cookie.is_sealed))

pub late_reading : (held : Body) (n : ℕ) (r : CookieReading) → IsLate held n r → reading_meaning r ≡ CookieLate held
late_reading held n (reading.Late content told) (is, same) = ap CookieLate is
late_reading held n (reading.Opens content) is = absurd is
late_reading held n reading.Strange is = absurd is

pub late_told : (held : Body) (n now : ℕ) (r : CookieReading) → IsLate held n r → n ≡ staleness now held → TellsStaleness now r
late_told held n now (reading.Late content told) (is, same) by = same ∙ by ∙ ap (staleness now) (sym is)
late_told held n now (reading.Opens content) is by = absurd is
late_told held n now reading.Strange is by = absurd is
