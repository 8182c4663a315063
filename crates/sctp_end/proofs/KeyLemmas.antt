-- The word for a key is its digits: it decodes to the key, and what decodes and encodes to itself again is a key.
use Rattle.std.proofs.Common.{◌≡◌, ℕ, List, [], ◌∷◌, length, arith, sym, subst, ap, ◌∙◌}
use Rattle.std.specs.Prelude.{Result, Ok, Err, MatchResult}
use Rattle.hex.specs.Hex.{encode_lower, decode_sized, IsBytes}
use Rattle.hex.specs.declared.error.FromHexError.{FromHexError}
use Rattle.hex.proofs.HexLemmas.{decode_sized-encode_lower, decode_sized-ok, decode_sized-twice, decode_of-ok}
use Rattle.sctp_end.specs.SetUpWords.{IsKey}

-- what room for these bytes is filled with, where that goes well
abbrev pub Decodes : Result (List ℕ) FromHexError → Result Unit FromHexError → List ℕ → Type 0
Decodes d r out = MatchResult d (λ bytes. (r ≡ Ok tt) × (out ≡ bytes)) (λ e. r ≡ Err e)

-- the digits of the key
pub key_digits : (word key : List ℕ) → IsKey word key → word ≡ encode_lower key
key_digits word [] (is, size) = absurd (omega (arith, size))
key_digits word (b ∷ bs) (is, size) = is.1

-- they decode to it
pub key_decodes : (word key out : List ℕ) (r : Result Unit FromHexError) → Decodes (decode_sized word 32) r out → IsKey word key → (r ≡ Ok tt) × (out ≡ key)
key_decodes word key out r decodes k =
    subst (λ (d : Result (List ℕ) FromHexError). Decodes d r out)
    (ap (λ (w : List ℕ). decode_sized w 32) (key_digits word key k) ∙ decode_sized-encode_lower key 32 k.1 k.0.0) decodes

decoded : (d : Result (List ℕ) FromHexError) (r : Result Unit FromHexError) (out : List ℕ) → Decodes d r out → r ≡ Ok tt → d ≡ Ok out
decoded (Ok bytes) r out h ok = ap Ok (sym h.1)
decoded (Err e) r out h ok = absurd (cc)

-- what decodes and comes back is a key
pub comes_back : (word out : List ℕ) (r : Result Unit FromHexError) → Decodes (decode_sized word 32) r out → r ≡ Ok tt → length out ≡ 32 → word ≡ encode_lower out → IsKey word out
comes_back word out r decodes ok size back =
    let is = decoded (decode_sized word 32) r out decodes ok in
    let long = decode_sized-ok word 32 out is in
    let are = (decode_of-ok word out (sym (decode_sized-twice word 32 long) ∙ is)).3 in
    by_bytes out are size back
  where
    by_bytes : (bytes : List ℕ) → IsBytes bytes → length bytes ≡ 32 → word ≡ encode_lower bytes → IsKey word bytes
    by_bytes [] are none same = absurd (omega (arith, none))
    by_bytes (b ∷ bs) are long same = ((are, same), long)
