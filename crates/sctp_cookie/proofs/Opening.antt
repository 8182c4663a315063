-- What opening computes is the one answer that the words of the layout give.
use Rattle.std.proofs.Common.{◌≡◌, ℕ, ◌+◌, ◌≤◌, Bool, true, false, cond, List, length, take, drop, refl, ap, subst, sym, ◌∙◌, arith, nat_eq, nat_lt, Result, Ok, Err}
use Rattle.std.specs.Prelude.{not}
use Rattle.std.proofs.lemmas.Bool.{false≢true, false_from_ne_true, and_parts, and_from, eqb-true, eq-eqb, ltb-true, ltb-false, lt-ltb, le-ltb}
use Rattle.std.proofs.lemmas.List.{length-drop, take_at, drop_at, take-append-drop}
use Rattle.std.proofs.lemmas.Slice.Eq.{bytes_eq-Decides}
use Rattle.sha2.proofs.Facts256.{length-sha256}
use Rattle.sctp_cookie.specs.Hmac.{hmac}
use Rattle.sctp_model.specs.numbers.Limits.{COOKIE_LIFE}
use Rattle.sctp_model.specs.numbers.Numbers.{AreBytes}
use Rattle.sctp_model.specs.end.Sealing.{Body, IsInRange}
use Rattle.sctp_model.specs.end.Opening.{age, staleness}
use Rattle.sctp_cookie.specs.CookieBody.{all_options, body_bytes, body_of, has_form}
use Rattle.sctp_cookie.specs.Opens.{Belongs, IsCookie, IsLaidOut, IsOwn, Opened, has_mac, has_ports, is_made, open_answer, ports_of, sealed}
use Rattle.sctp_cookie.specs.declared.body.CookieOptions.{CookieOptions}
use Rattle.sctp_cookie.specs.declared.body.Ports.{Ports}
use Rattle.sctp_cookie.specs.declared.sealing.CookieFault.{CookieFault}
use Rattle.sctp_cookie.specs.declared.sealing.CookieFault.TheVariants as fault
use Rattle.sctp_cookie.proofs.BodyRoundTrip.{body_bytes-body_of, body_of-IsInRange, body_of-body_bytes, body_of-is_made, form_facts, has_form-body_bytes, length-body_bytes}

pub length-hmac : (key text : List ℕ) → length (hmac key text) ≡ 32
unfolding hmac
length-hmac key text = length-sha256 _

-- ---- a cookie that is laid out is read as its body

pub laid_out-form : (taken : CookieOptions) (bytes : List ℕ) (body : Body) → IsLaidOut taken bytes body → has_form taken bytes ≡ true
laid_out-form taken bytes body laid = rw laid.layout (has_form-body_bytes taken body laid.mac laid.made laid.mac_length)

pub laid_out-body : (taken : CookieOptions) (bytes : List ℕ) (body : Body) → IsLaidOut taken bytes body → body_of bytes ≡ body
laid_out-body taken bytes body laid = rw laid.layout (body_of-body_bytes body laid.mac laid.in_range)

laid_out-front : (taken : CookieOptions) (bytes : List ℕ) (body : Body) → IsLaidOut taken bytes body → take 40 bytes ≡ body_bytes body
laid_out-front taken bytes body laid = rw laid.layout (take_at (body_bytes body) laid.mac 40 (length-body_bytes body))

-- what reads as a body is laid out as it
form-laid_out : (taken : CookieOptions) (bytes : List ℕ) → AreBytes bytes → has_form taken bytes ≡ true → IsLaidOut taken bytes (body_of bytes)
form-laid_out taken bytes are form = record {
  in_range = body_of-IsInRange bytes are;
  made = body_of-is_made taken bytes (form_facts taken bytes form);
  mac = drop 40 bytes;
  mac_length = let size = (form_facts taken bytes form).size in omega (arith, length-drop 40 bytes);
  layout = rw (body_bytes-body_of taken bytes are form) (sym (take-append-drop 40 bytes));
}

-- ---- the MAC

pub cookie-laid_out : (taken : CookieOptions) (key bytes : List ℕ) (body : Body) → IsCookie key bytes body → is_made taken body ≡ true → IsLaidOut taken bytes body
unfolding sealed
cookie-laid_out taken key bytes body cookie made = record {
  in_range = cookie.in_range;
  made = made;
  mac = hmac key (body_bytes body);
  mac_length = length-hmac key (body_bytes body);
  layout = cookie.is_sealed;
}

pub cookie-mac : (key bytes : List ℕ) (body : Body) → IsCookie key bytes body → has_mac key bytes ≡ true
unfolding sealed has_mac
cookie-mac key bytes body cookie =
    let front = laid_out-front all_options bytes body (cookie-laid_out all_options key bytes body cookie refl) in
    let back : drop 40 bytes ≡ hmac key (body_bytes body) = rw cookie.is_sealed (drop_at (body_bytes body) (hmac key (body_bytes body)) 40 (length-body_bytes body)) in
    rw (front, back) ((bytes_eq-Decides (hmac key (body_bytes body)) (hmac key (body_bytes body))).1 refl)

mac-cookie : (taken : CookieOptions) (key bytes : List ℕ) (body : Body) → IsLaidOut taken bytes body → has_mac key bytes ≡ true → bytes ≡ sealed key body
unfolding sealed has_mac
mac-cookie taken key bytes body laid right =
    let front = laid_out-front taken bytes body laid in
    let back : hmac key (take 40 bytes) ≡ drop 40 bytes = (bytes_eq-Decides _ _).0 right in
    rw (← front, back) (sym (take-append-drop 40 bytes))

-- ---- the ports

ports-same : (ports : Ports) (body : Body) → has_ports ports body ≡ true → ports_of body ≡ ports
unfolding has_ports
ports-same ports body right =
    let parts = and_parts _ _ right in
    let listener = eqb-true body.listener.port ports.listener parts.0 in
    let caller = eqb-true body.caller.port ports.caller parts.1 in
    λ i. record { listener = listener i; caller = caller i }

same-ports : (ports : Ports) (body : Body) → ports_of body ≡ ports → has_ports ports body ≡ true
unfolding has_ports
same-ports ports body same =
    and_from _ _ (eq-eqb _ _ (ap (λ (p : Ports). p.listener) same)) (eq-eqb _ _ (ap (λ (p : Ports). p.caller) same))

-- ---- the answer that is computed is an answer

read_own : (taken : CookieOptions) (key bytes : List ℕ) → AreBytes bytes → has_form taken bytes ≡ true → has_mac key bytes ≡ true → IsOwn taken key bytes (body_of bytes)
read_own taken key bytes are form mac =
    let laid = form-laid_out taken bytes are form in
    record { cookie = record { in_range = laid.in_range; is_sealed = mac-cookie taken key bytes (body_of bytes) laid mac }; made = laid.made }

pub cookie_read : (key bytes : List ℕ) → AreBytes bytes → has_form all_options bytes ≡ true → has_mac key bytes ≡ true → IsCookie key bytes (body_of bytes)
cookie_read key bytes are form mac = (read_own all_options key bytes are form mac).cookie

belongs_read : (taken : CookieOptions) (key bytes : List ℕ) (ports : Ports) (tag : ℕ) → AreBytes bytes → has_form taken bytes ≡ true → has_mac key bytes ≡ true
    → has_ports ports (body_of bytes) ≡ true → nat_eq (body_of bytes).listener.tag tag ≡ true → Belongs taken key bytes ports tag (body_of bytes)
belongs_read taken key bytes ports tag are form mac same_ports same_tag = record {
  own = read_own taken key bytes are form mac;
  same_ports = ports-same ports (body_of bytes) same_ports;
  same_tag = eqb-true _ _ same_tag;
}

opened_by : (taken : CookieOptions) (key bytes : List ℕ) (now : ℕ) (ports : Ports) (tag : ℕ) → AreBytes bytes → (form mac same_ports same_tag late : Bool)
    → has_form taken bytes ≡ form → has_mac key bytes ≡ mac → has_ports ports (body_of bytes) ≡ same_ports
    → nat_eq (body_of bytes).listener.tag tag ≡ same_tag → nat_lt COOKIE_LIFE (age now (body_of bytes)) ≡ late
    → Opened taken key bytes now ports tag
    (cond (not form) (Err fault.Form) (cond (not mac) (Err fault.Mac) (cond (not same_ports) (Err fault.Ports)
    (cond (not same_tag) (Err fault.Tag) (cond late (Err (fault.Stale (staleness now (body_of bytes)))) (Ok (body_of bytes)))))))
opened_by taken key bytes now ports tag are false mac same_ports same_tag late f m p t l = λ body laid. false≢true (sym f ∙ laid_out-form taken bytes body laid)
opened_by taken key bytes now ports tag are true false same_ports same_tag late f m p t l =
    let laid = form-laid_out taken bytes are f in
    (body_of bytes, laid, λ is_sealed. false≢true (sym m ∙ cookie-mac key bytes (body_of bytes) (record { in_range = laid.in_range; is_sealed = is_sealed })))
opened_by taken key bytes now ports tag are true true false same_tag late f m p t l =
    (body_of bytes, read_own taken key bytes are f m, λ same. false≢true (sym p ∙ same-ports ports (body_of bytes) same))
opened_by taken key bytes now ports tag are true true true false late f m p t l =
    (body_of bytes, read_own taken key bytes are f m, ports-same ports (body_of bytes) p, λ same. false≢true (sym t ∙ eq-eqb _ _ same))
opened_by taken key bytes now ports tag are true true true true true f m p t l =
    (body_of bytes, belongs_read taken key bytes ports tag are f m p t, ltb-true _ _ l, refl)
opened_by taken key bytes now ports tag are true true true true false f m p t l =
    (belongs_read taken key bytes ports tag are f m p t, ltb-false _ _ l)

pub open_answer-Opened : (taken : CookieOptions) (key bytes : List ℕ) (now : ℕ) (ports : Ports) (tag : ℕ) → AreBytes bytes
    → Opened taken key bytes now ports tag (open_answer taken key bytes now ports tag)
unfolding open_answer
open_answer-Opened taken key bytes now ports tag are = opened_by taken key bytes now ports tag are _ _ _ _ _ refl refl refl refl refl

-- ---- and it is the only one

-- what opening computes of a cookie
cookie_answer : (taken : CookieOptions) (key bytes : List ℕ) (now : ℕ) (ports : Ports) (tag : ℕ) (body : Body) → IsOwn taken key bytes body
    → open_answer taken key bytes now ports tag ≡ cond (not (has_ports ports body)) (Err fault.Ports)
    (cond (not (nat_eq body.listener.tag tag)) (Err fault.Tag) (cond (nat_lt COOKIE_LIFE (age now body)) (Err (fault.Stale (staleness now body))) (Ok body)))
unfolding open_answer
cookie_answer taken key bytes now ports tag body own =
    let laid = cookie-laid_out taken key bytes body own.cookie own.made in
    rw (laid_out-form taken bytes body laid, cookie-mac key bytes body own.cookie, laid_out-body taken bytes body laid) refl

-- .. where it is for these ports and this tag
belongs_answer : (taken : CookieOptions) (key bytes : List ℕ) (now : ℕ) (ports : Ports) (tag : ℕ) (body : Body) → Belongs taken key bytes ports tag body
    → open_answer taken key bytes now ports tag ≡ cond (nat_lt COOKIE_LIFE (age now body)) (Err (fault.Stale (staleness now body))) (Ok body)
belongs_answer taken key bytes now ports tag body belongs =
    let tag_right : nat_eq body.listener.tag tag ≡ true = eq-eqb _ _ belongs.same_tag in
    cookie_answer taken key bytes now ports tag body belongs.own ∙ rw (same-ports ports body belongs.same_ports, tag_right) refl

pub Opened-open_answer : (taken : CookieOptions) (key bytes : List ℕ) (now : ℕ) (ports : Ports) (tag : ℕ) → AreBytes bytes → (outcome : Result Body CookieFault)
    → Opened taken key bytes now ports tag outcome → open_answer taken key bytes now ports tag ≡ outcome
unfolding open_answer
Opened-open_answer taken key bytes now ports tag are (Ok body) (belongs, fresh) =
    let young : nat_lt COOKIE_LIFE (age now body) ≡ false = false_from_ne_true _ (λ late. let past = ltb-true _ _ late in absurd (omega arith)) in
    belongs_answer taken key bytes now ports tag body belongs ∙ rw young refl
Opened-open_answer taken key bytes now ports tag are (Err fault.Form) none =
    let wrong : has_form taken bytes ≡ false = false_from_ne_true _ (λ form. none (body_of bytes) (form-laid_out taken bytes are form)) in
    rw wrong refl
Opened-open_answer taken key bytes now ports tag are (Err fault.Mac) (body, laid, other) =
    let wrong : has_mac key bytes ≡ false = false_from_ne_true _ (λ right. other (mac-cookie taken key bytes body laid right)) in
    rw (laid_out-form taken bytes body laid, wrong) refl
Opened-open_answer taken key bytes now ports tag are (Err fault.Ports) (body, own, other) =
    let wrong : has_ports ports body ≡ false = false_from_ne_true _ (λ right. other (ports-same ports body right)) in
    cookie_answer taken key bytes now ports tag body own ∙ rw wrong refl
Opened-open_answer taken key bytes now ports tag are (Err fault.Tag) (body, own, same, other) =
    let wrong : nat_eq body.listener.tag tag ≡ false = false_from_ne_true _ (λ right. other (eqb-true _ _ right)) in
    cookie_answer taken key bytes now ports tag body own ∙ rw (same-ports ports body same, wrong) refl
Opened-open_answer taken key bytes now ports tag are (Err (fault.Stale microseconds)) (body, belongs, past, counted) =
    let late : nat_lt COOKIE_LIFE (age now body) ≡ true = lt-ltb _ _ past in
    belongs_answer taken key bytes now ports tag body belongs ∙ rw (late, counted) refl

-- a stale cookie opens at the moment 0
pub stale-opens : (taken : CookieOptions) (key bytes : List ℕ) (now : ℕ) (ports : Ports) (tag : ℕ) → AreBytes bytes → (microseconds : ℕ)
    → open_answer taken key bytes now ports tag ≡ Err (fault.Stale microseconds) → open_answer taken key bytes 0 ports tag ≡ Ok (body_of bytes)
stale-opens taken key bytes now ports tag are microseconds stale =
    let opened = subst (λ (r : Result Body CookieFault). Opened taken key bytes now ports tag r) stale (open_answer-Opened taken key bytes now ports tag are) in
    let body : Body = opened.0 in
    let belongs : Belongs taken key bytes ports tag body = opened.1 in
    let fresh : nat_lt COOKIE_LIFE (age 0 body) ≡ false = le-ltb _ _ (omega arith) in
    let read : body_of bytes ≡ body = laid_out-body taken bytes body (cookie-laid_out taken key bytes body belongs.own.cookie belongs.own.made) in
    belongs_answer taken key bytes 0 ports tag body belongs ∙ rw (fresh, read) refl

-- ---- what was sealed

pub sealed-opens : (taken : CookieOptions) (key : List ℕ) (now : ℕ) (body : Body) → IsInRange body → is_made taken body ≡ true → now ≤ body.made + COOKIE_LIFE
    → open_answer taken key (sealed key body) now (ports_of body) body.listener.tag ≡ Ok body
sealed-opens taken key now body in_range made young =
    let belongs : Belongs taken key (sealed key body) (ports_of body) body.listener.tag body =
    record { own = record { cookie = record { in_range = in_range; is_sealed = refl }; made = made }; same_ports = refl; same_tag = refl } in
    let fresh : nat_lt COOKIE_LIFE (age now body) ≡ false = le-ltb _ _ (omega arith) in
    belongs_answer taken key (sealed key body) now (ports_of body) body.listener.tag body belongs ∙ rw fresh refl

pub sealed-one : (key : List ℕ) (body other : Body) → IsInRange body → IsInRange other → sealed key body ≡ sealed key other
    → other ≡ body
unfolding sealed
sealed-one key body other in_range other_in_range same =
    sym (body_of-body_bytes other (hmac key (body_bytes other)) other_in_range) ∙ ap body_of (sym same)
    ∙ body_of-body_bytes body (hmac key (body_bytes body)) in_range
