-- What a listener reads in a cookie is what opening it is answered.
use Rattle.std.proofs.Common.{◌≡◌, ℕ, List, length, get_or, Bool, true, false, cond, Some, None, Ok, Err, refl, nat_eq, nat_le, nat_lt, arith}
use Rattle.std.specs.Prelude.{not, ◌&&◌, ◌||◌}
use Rattle.sctp_model.specs.numbers.Limits.{COOKIE_LIFE}
use Rattle.sctp_model.specs.end.Sealing.{Body, Sealing}
use Rattle.sctp_model.specs.end.EndView.{EndView}
use Rattle.sctp_model.specs.end.Opening.{CookieOpens, CookieLate, Strange, age, body_read, staleness}
use Rattle.sctp_cookie.specs.CookieBody.{all_options, body_of, has_form, says}
use Rattle.sctp_cookie.specs.Opens.{has_mac, has_ports, is_made, open_answer}
use Rattle.sctp_cookie.specs.Seals.{IsReadAsOpened, IsUnder, options_of, read_by}
use Rattle.sctp_cookie.specs.declared.body.CookieOptions.{CookieOptions}
use Rattle.sctp_cookie.specs.declared.sealing.CookieFault.TheVariants as fault

-- within its life, in two words
within_life : (n : ℕ) → nat_le n COOKIE_LIFE ≡ not (nat_lt COOKIE_LIFE n)
within_life n = grind arith

-- the checks one after the other, where each of them holds or doesn't
by_checks : (b : Body) (late : ℕ) (form made mac own peer same old : Bool)
    → cond form (cond mac (cond ((own && (peer && same)) && made) (cond (not old) (CookieOpens b) (CookieLate b)) Strange) Strange) Strange
    ≡ read_by b (cond (not (form && made)) (Err fault.Form) (cond (not mac) (Err fault.Mac) (cond (not (own && peer)) (Err fault.Ports)
    (cond (not same) (Err fault.Tag) (cond old (Err (fault.Stale late)) (Ok b))))))
by_checks b late false made mac own peer same old = refl
by_checks b late true made false own peer same old = none made
  where
    none : (m : Bool) → Strange ≡ read_by b (cond (not m) (Err fault.Form) (Err fault.Mac))
    none true = refl
    none false = refl
by_checks b late true false true own peer same old = strange (own && (peer && same))
  where
    strange : (a : Bool) → cond (a && false) (cond (not old) (CookieOpens b) (CookieLate b)) Strange ≡ Strange
    strange true = refl
    strange false = refl
by_checks b late true true true false peer same old = refl
by_checks b late true true true true false same old = refl
by_checks b late true true true true true false old = refl
by_checks b late true true true true true true true = refl
by_checks b late true true true true true true false = refl

-- bytes without the form or the MAC hold no body
read_of : (e : EndView) (tag : ℕ) (form mac : Bool) (b : Body)
    → body_read e tag (cond (form && mac) (Some b) None) ≡ cond form (cond mac (body_read e tag (Some b)) Strange) Strange
read_of e tag false mac b = refl
read_of e tag true false b = refl
read_of e tag true true b = refl

-- the form at a listener: a cookie's form, and no option that only others are set up with
last_first : (m x y z : Bool) → (((m && x) && y) && z) ≡ (((x && y) && z) && m)
last_first true x y z = itself ((x && y) && z)
  where
    itself : (b : Bool) → b ≡ (b && true)
    itself true = refl
    itself false = refl
last_first false x y z = none ((x && y) && z)
  where
    none : (b : Bool) → false ≡ (b && false)
    none true = refl
    none false = refl

by_size : (l n a b x y z : Bool) → ((((l && ((n && a) && b)) && x) && y) && z) ≡ (((((l && ((n && true) && true)) && x) && y) && z) && (a && b))
by_size false n a b x y z = refl
by_size true false a b x y z = refl
by_size true true a b x y z = last_first (a && b) x y z

form_at : (taken : CookieOptions) (bytes : List ℕ) → has_form taken bytes ≡ (has_form all_options bytes && is_made taken (body_of bytes))
unfolding has_form body_of
form_at taken bytes =
    let n = get_or bytes 36 0 in
    by_size (nat_eq (length bytes) 72) (nat_le n 15) (taken.reset || not (says 4 n)) (taken.zero_checksum || not (says 8 n)) (nat_eq (get_or bytes 37 0) 0)
    (nat_eq (get_or bytes 38 0) 0) (nat_eq (get_or bytes 39 0) 0)

pub is_read_as_opened : (key bytes : List ℕ) (tag : ℕ) (s : Sealing) (e : EndView) → IsUnder key s → IsReadAsOpened key bytes tag s e
unfolding open_answer has_ports
is_read_as_opened key bytes tag s e under =
    let b = body_of bytes in
    let c = e.configuration in
    rw (under.opens bytes, form_at (options_of c) bytes, read_of e tag (has_form all_options bytes) (has_mac key bytes) b, within_life (age e.moment b))
    (by_checks b (staleness e.moment b) (has_form all_options bytes) (is_made (options_of c) b) (has_mac key bytes) (nat_eq b.listener.port c.own_port) (nat_eq b.caller.port c.peer_port)
    (nat_eq b.listener.tag tag) (nat_lt COOKIE_LIFE (age e.moment b)))
