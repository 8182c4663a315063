-- A body's bytes read back as the body, and bytes of the layout are those of the body that they read as.
use Rattle.std.proofs.Common.{◌≡◌, ℕ, Bool, true, false, List, [], ◌∷◌, ◌++◌, length, take, drop, get_or, refl, ap, sym, ◌∙◌, arith}
use Rattle.std.specs.Prelude.{not}
use Rattle.std.proofs.lemmas.Bool.{and_parts, eqb-true}
use Rattle.std.proofs.lemmas.List.{length-drop, drop_more}
use Rattle.std.proofs.Math.Seq.{take-add}
use Rattle.byteorder.specs.Numbers.{big_from-lt, big_number-reads_back}
use Rattle.sctp_model.specs.numbers.Numbers.{AreBytes}
use Rattle.sctp_model.specs.end.Sealing.{Body, IsInRange, IsPartyInRange}
use Rattle.sctp_cookie.specs.CookieBody.{body_bytes, body_of, has_form, no_options, options_byte, says_only}
use Rattle.sctp_cookie.specs.CookieTree.{body_meaning, content_meaning}
use Rattle.sctp_cookie.specs.Opens.{is_made}
use Rattle.sctp_cookie.specs.declared.body.CookieContent.{CookieContent}
use Rattle.sctp_cookie.specs.declared.body.CookieOptions.{CookieOptions}
use Rattle.sctp_cookie.proofs.OptionLemmas.{byte_again, only_made, said, said_only}
use Rattle.sctp_cookie.proofs.Numbers.{AreBytes-drop, big_bytes-number_2, big_bytes-number_4, big_bytes-number_8}

pub length-body_bytes : (body : Body) → length (body_bytes body) ≡ 40
unfolding body_bytes
length-body_bytes body = refl

-- ---- what was written is read

pub body_of-body_bytes : (body : Body) (mac : List ℕ) → IsInRange body → body_of (body_bytes body ++ mac) ≡ body
unfolding body_bytes body_of
body_of-body_bytes body mac fits =
    let made = big_number-reads_back 8 body.made [] fits.moment in
    let listener_port = big_number-reads_back 2 body.listener.port [] fits.parties.0.port in
    let caller_port = big_number-reads_back 2 body.caller.port [] fits.parties.1.port in
    let listener_tag = big_number-reads_back 4 body.listener.tag [] fits.parties.0.tag in
    let caller_tag = big_number-reads_back 4 body.caller.tag [] fits.parties.1.tag in
    let listener_tsn = big_number-reads_back 4 body.listener.tsn [] fits.parties.0.tsn in
    let caller_tsn = big_number-reads_back 4 body.caller.tsn [] fits.parties.1.tsn in
    let rwnd = big_number-reads_back 4 body.rwnd [] fits.window in
    let to_caller = big_number-reads_back 2 body.to_caller [] fits.counts.0 in
    let from_caller = big_number-reads_back 2 body.from_caller [] fits.counts.1 in
    let options = said body in
    λ i. record {
      made = made i;
      listener = record { port = listener_port i; tag = listener_tag i; tsn = listener_tsn i };
      caller = record { port = caller_port i; tag = caller_tag i; tsn = caller_tsn i };
      rwnd = rwnd i;
      to_caller = to_caller i;
      from_caller = from_caller i;
      partial = options.partial i;
      interleave = options.interleave i;
      reset = options.reset i;
      zero_checksum = options.checksum i;
    }

pub has_form-body_bytes : (taken : CookieOptions) (body : Body) (mac : List ℕ) → is_made taken body ≡ true → length mac ≡ 32 → has_form taken (body_bytes body ++ mac) ≡ true
unfolding body_bytes has_form
has_form-body_bytes taken body mac made size = rw (size, said_only taken body made) refl

-- ---- what is read was written

-- what the form says
pub record FormFacts (taken : CookieOptions) (bytes : List ℕ) : Type 0 where
  pub size : length bytes ≡ 72
  pub options : says_only taken (get_or bytes 36 0) ≡ true
  pub first_zero : get_or bytes 37 0 ≡ 0
  pub second_zero : get_or bytes 38 0 ≡ 0
  pub third_zero : get_or bytes 39 0 ≡ 0

pub form_facts : (taken : CookieOptions) (bytes : List ℕ) → has_form taken bytes ≡ true → FormFacts taken bytes
unfolding has_form
form_facts taken bytes form =
    let e = and_parts _ _ form in
    let d = and_parts _ _ e.0 in
    let c = and_parts _ _ d.0 in
    let b = and_parts _ _ c.0 in
    record {
      size = eqb-true _ _ b.0;
      options = b.1;
      first_zero = eqb-true _ _ c.1;
      second_zero = eqb-true _ _ d.1;
      third_zero = eqb-true _ _ e.1;
    }

pub body_of-IsInRange : (bytes : List ℕ) → AreBytes bytes → IsInRange (body_of bytes)
unfolding body_of
body_of-IsInRange bytes are =
    let listener : IsPartyInRange (body_of bytes).listener = record {
      port = big_from-lt 0 2 (drop 8 bytes) (AreBytes-drop 8 bytes are);
      tag = big_from-lt 0 4 (drop 12 bytes) (AreBytes-drop 12 bytes are);
      tsn = big_from-lt 0 4 (drop 20 bytes) (AreBytes-drop 20 bytes are);
    } in
    let caller : IsPartyInRange (body_of bytes).caller = record {
      port = big_from-lt 0 2 (drop 10 bytes) (AreBytes-drop 10 bytes are);
      tag = big_from-lt 0 4 (drop 16 bytes) (AreBytes-drop 16 bytes are);
      tsn = big_from-lt 0 4 (drop 24 bytes) (AreBytes-drop 24 bytes are);
    } in
    record {
      moment = big_from-lt 0 8 bytes are;
      parties = (listener, caller);
      window = big_from-lt 0 4 (drop 28 bytes) (AreBytes-drop 28 bytes are);
      counts = (big_from-lt 0 2 (drop 32 bytes) (AreBytes-drop 32 bytes are), big_from-lt 0 2 (drop 34 bytes) (AreBytes-drop 34 bytes are));
    }

pub body_of-is_made : (taken : CookieOptions) (bytes : List ℕ) → FormFacts taken bytes → is_made taken (body_of bytes) ≡ true
unfolding body_of
body_of-is_made taken bytes facts = (only_made taken (get_or bytes 36 0) facts.options).1

-- a content without stream reset and zero checksums is its body
pub without_options : (c : CookieContent) → is_made no_options (content_meaning c) ≡ true → body_meaning c.body ≡ content_meaning c
without_options c made =
    let off = and_parts _ _ made in
    λ i. record (body_meaning c.body) { reset = no c.reset off.0 i; zero_checksum = no c.zero_checksum off.1 i }
  where
    no : (b : Bool) → not b ≡ true → false ≡ b
    no true on = absurd (cc)
    no false on = refl

-- the options and the three zeros
last_four : (taken : CookieOptions) (bytes : List ℕ) → FormFacts taken bytes → options_byte (body_of bytes) ∷ 0 ∷ 0 ∷ 0 ∷ [] ≡ take 4 (drop 36 bytes)
unfolding body_of
last_four taken bytes facts =
    let size = facts.size in
    let first : drop 36 bytes ≡ get_or bytes 36 0 ∷ drop 37 bytes = drop_more bytes 36 0 (omega arith) in
    let second : drop 37 bytes ≡ get_or bytes 37 0 ∷ drop 38 bytes = drop_more bytes 37 0 (omega arith) in
    let third : drop 38 bytes ≡ get_or bytes 38 0 ∷ drop 39 bytes = drop_more bytes 38 0 (omega arith) in
    let fourth : drop 39 bytes ≡ get_or bytes 39 0 ∷ drop 40 bytes = drop_more bytes 39 0 (omega arith) in
    let end : take 4 (drop 36 bytes) ≡ get_or bytes 36 0 ∷ 0 ∷ 0 ∷ 0 ∷ [] =
    rw (first, second, third, fourth, facts.first_zero, facts.second_zero, facts.third_zero) refl in
    ap (λ (n : ℕ). n ∷ 0 ∷ 0 ∷ 0 ∷ []) (byte_again (get_or bytes 36 0) (only_made taken (get_or bytes 36 0) facts.options).0) ∙ sym end

-- a list in the parts of the layout
parts_of : (bytes : List ℕ)
    → take 8 bytes ++ take 2 (drop 8 bytes) ++ take 2 (drop 10 bytes) ++ take 4 (drop 12 bytes) ++ take 4 (drop 16 bytes)
    ++ take 4 (drop 20 bytes) ++ take 4 (drop 24 bytes) ++ take 4 (drop 28 bytes) ++ take 2 (drop 32 bytes) ++ take 2 (drop 34 bytes)
    ++ take 4 (drop 36 bytes) ≡ take 40 bytes
parts_of bytes =
    rw (← take-add 8 2 bytes, ← take-add 10 2 bytes, ← take-add 12 4 bytes, ← take-add 16 4 bytes, ← take-add 20 4 bytes, ← take-add 24 4 bytes, ← take-add 28 4 bytes, ← take-add 32 2 bytes, ← take-add 34 2 bytes, ← take-add 36 4 bytes) refl

pub body_bytes-body_of : (taken : CookieOptions) (bytes : List ℕ) → AreBytes bytes → has_form taken bytes ≡ true → body_bytes (body_of bytes) ≡ take 40 bytes
unfolding body_bytes body_of
body_bytes-body_of taken bytes are form =
    let facts = form_facts taken bytes form in
    let size = facts.size in
    let made = big_bytes-number_8 bytes are (omega arith) in
    let listener_port = big_bytes-number_2 (drop 8 bytes) (AreBytes-drop 8 bytes are) (omega (arith, length-drop 8 bytes)) in
    let caller_port = big_bytes-number_2 (drop 10 bytes) (AreBytes-drop 10 bytes are) (omega (arith, length-drop 10 bytes)) in
    let listener_tag = big_bytes-number_4 (drop 12 bytes) (AreBytes-drop 12 bytes are) (omega (arith, length-drop 12 bytes)) in
    let caller_tag = big_bytes-number_4 (drop 16 bytes) (AreBytes-drop 16 bytes are) (omega (arith, length-drop 16 bytes)) in
    let listener_tsn = big_bytes-number_4 (drop 20 bytes) (AreBytes-drop 20 bytes are) (omega (arith, length-drop 20 bytes)) in
    let caller_tsn = big_bytes-number_4 (drop 24 bytes) (AreBytes-drop 24 bytes are) (omega (arith, length-drop 24 bytes)) in
    let rwnd = big_bytes-number_4 (drop 28 bytes) (AreBytes-drop 28 bytes are) (omega (arith, length-drop 28 bytes)) in
    let to_caller = big_bytes-number_2 (drop 32 bytes) (AreBytes-drop 32 bytes are) (omega (arith, length-drop 32 bytes)) in
    let from_caller = big_bytes-number_2 (drop 34 bytes) (AreBytes-drop 34 bytes are) (omega (arith, length-drop 34 bytes)) in
    let options = last_four taken bytes facts in
    let joined : body_bytes (body_of bytes) ≡ take 8 bytes ++ take 2 (drop 8 bytes) ++ take 2 (drop 10 bytes) ++ take 4 (drop 12 bytes) ++ take 4 (drop 16 bytes)
    ++ take 4 (drop 20 bytes) ++ take 4 (drop 24 bytes) ++ take 4 (drop 28 bytes) ++ take 2 (drop 32 bytes) ++ take 2 (drop 34 bytes)
    ++ take 4 (drop 36 bytes)
    = λ i. made i ++ listener_port i ++ caller_port i ++ listener_tag i ++ caller_tag i ++ listener_tsn i ++ caller_tsn i ++ rwnd i
    ++ to_caller i ++ from_caller i ++ options i in
    joined ∙ parts_of bytes
