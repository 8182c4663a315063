-- A key's seal: what it makes has one size and opens to the same body, and nothing else opens.
use Rattle.std.proofs.Common.{◌≡◌, ℕ, List, ◌++◌, length-append, take, drop, refl, subst, arith, Bool, true, false, cond, Some, None}
use Rattle.std.specs.Prelude.{◌&&◌}
use Rattle.std.proofs.lemmas.List.{take_at, drop_at}
use Rattle.std.proofs.lemmas.Slice.Eq.{bytes_eq-Decides}
use Rattle.sctp_model.specs.numbers.Numbers.{AreBytes}
use Rattle.sctp_model.specs.end.Sealing.{Body, IsInRange, Sealing}
use Rattle.sctp_model.specs.world.Premises.{IsBody}
use Rattle.sctp_cookie.specs.Hmac.{hmac}
use Rattle.sctp_cookie.specs.CookieBody.{all_options, body_bytes, body_of, has_form}
use Rattle.sctp_cookie.specs.Opens.{has_mac, sealed}
use Rattle.sctp_cookie.specs.Seals.{opened, IsSealedWell, IsUnder, IsSealed, OpensTheSealed}
use Rattle.sctp_cookie.proofs.BodyRoundTrip.{body_of-body_bytes, has_form-body_bytes, length-body_bytes}
use Rattle.sctp_cookie.proofs.Opening.{length-hmac, laid_out-form, cookie-laid_out, cookie-mac, cookie_read}

-- the MAC of what is sealed, whatever the body's numbers
sealed-mac : (key : List ℕ) (body : Body) → has_mac key (sealed key body) ≡ true
unfolding sealed has_mac
sealed-mac key body =
    let mac = hmac key (body_bytes body) in
    let front : take 40 (body_bytes body ++ mac) ≡ body_bytes body = take_at (body_bytes body) mac 40 (length-body_bytes body) in
    let back : drop 40 (body_bytes body ++ mac) ≡ mac = drop_at (body_bytes body) mac 40 (length-body_bytes body) in
    rw (front, back) ((bytes_eq-Decides mac mac).1 refl)

pub is_sealed_well : (key : List ℕ) (body : Body) → IsSealedWell key body
unfolding sealed
is_sealed_well key body =
    let mac = hmac key (body_bytes body) in
    record {
      size = omega (arith, length-append (body_bytes body) mac, length-body_bytes body, length-hmac key (body_bytes body));
      form = has_form-body_bytes all_options body mac refl (length-hmac key (body_bytes body));
      mac = sealed-mac key body;
      holds = body_of-body_bytes body mac;
    }

-- what is sealed opens
opens_again : (key : List ℕ) (body : Body) → IsInRange body → opened key (sealed key body) ≡ Some body
opens_again key body in_range =
    let well = is_sealed_well key body in
    rw (well.form, well.mac, well.holds in_range) refl

-- the seal of a key
pub sealing_under : List ℕ → Sealing
sealing_under key = record {
  sealed = sealed key;
  opened = opened key;
  size = λ body. (is_sealed_well key body).size;
  opens = opens_again key;
}

pub sealing-is_under : (key : List ℕ) → IsUnder key (sealing_under key)
unfolding sealing_under
sealing-is_under key = record { seals = λ body. refl; opens = λ bytes. refl }

-- what opens was sealed
found : (key bytes : List ℕ) (form mac : Bool) → has_form all_options bytes ≡ form → has_mac key bytes ≡ mac → AreBytes bytes
    → IsBody (cond (form && mac) (Some (body_of bytes)) None) → IsSealed key bytes
found key bytes true true f m are opens = (body_of bytes, cookie_read key bytes are f m)
found key bytes true false f m are opens = absurd opens
found key bytes false mac f m are opens = absurd opens

pub opens_the_sealed : (key : List ℕ) (s : Sealing) → IsUnder key s → OpensTheSealed key s
opens_the_sealed key s under = record {
  only = λ bytes are opens. found key bytes _ _ refl refl are (subst IsBody (under.opens bytes) opens);
  all = λ bytes (body, cookie).
      rw (under.opens bytes, laid_out-form all_options bytes body (cookie-laid_out all_options key bytes body cookie refl), cookie-mac key bytes body cookie) tt;
}
