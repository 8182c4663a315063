-- What an endpoint writes of its options, its peer reads again: a listener's INIT ACK says the cookie, and what both endpoints are set up for.
use Rattle.std.proofs.Common.{◌≡◌, ℕ, ◌^◌, ◌<◌, not, ◌&&◌, ◌||◌, Bool, true, false, List, [], ◌∷◌, ◌++◌, length, Some, refl, ap, arith, ◌∙◌, append-nil}
use Rattle.sctp_model.specs.wire.Typed.{Typed, IsTyped, typed_in}
use Rattle.sctp_model.specs.wire.Unknown.{parameters_acted_on, parameters_reported, first_of}
use Rattle.sctp_model.specs.wire.Reconfig.{RECONFIG}
use Rattle.sctp_model.specs.end.EndView.{Configuration}
use Rattle.sctp_model.specs.end.Reports.{written, item}
use Rattle.sctp_model.specs.end.Options.{STATE_COOKIE, SUPPORTED_EXTENSIONS, FORWARD_TSN_SUPPORTED, value_of, agreed_interleave, agreed_partial, agreed_reset, own_options, lists_type, is_carried, ZERO_CHECKSUM, OVER_DTLS, is_value, agreed_zero_checksum}
use Rattle.sctp_safety.proofs.machine.Written.{AreTyped, written_read}

-- the options by what is configured
abbrev pub options_by : (interleave partial reset zero : Bool) → List Typed
options_by false false false false = []
options_by false false false true = item ZERO_CHECKSUM OVER_DTLS ∷ []
options_by false false true false = item SUPPORTED_EXTENSIONS (RECONFIG ∷ []) ∷ []
options_by false false true true = item SUPPORTED_EXTENSIONS (RECONFIG ∷ []) ∷ item ZERO_CHECKSUM OVER_DTLS ∷ []
options_by false true false false = item FORWARD_TSN_SUPPORTED [] ∷ item SUPPORTED_EXTENSIONS (192 ∷ []) ∷ []
options_by false true false true = item FORWARD_TSN_SUPPORTED [] ∷ item SUPPORTED_EXTENSIONS (192 ∷ []) ∷ item ZERO_CHECKSUM OVER_DTLS ∷ []
options_by false true true false = item FORWARD_TSN_SUPPORTED [] ∷ item SUPPORTED_EXTENSIONS (RECONFIG ∷ 192 ∷ []) ∷ []
options_by false true true true = item FORWARD_TSN_SUPPORTED [] ∷ item SUPPORTED_EXTENSIONS (RECONFIG ∷ 192 ∷ []) ∷ item ZERO_CHECKSUM OVER_DTLS ∷ []
options_by true false false false = item SUPPORTED_EXTENSIONS (64 ∷ []) ∷ []
options_by true false false true = item SUPPORTED_EXTENSIONS (64 ∷ []) ∷ item ZERO_CHECKSUM OVER_DTLS ∷ []
options_by true false true false = item SUPPORTED_EXTENSIONS (64 ∷ RECONFIG ∷ []) ∷ []
options_by true false true true = item SUPPORTED_EXTENSIONS (64 ∷ RECONFIG ∷ []) ∷ item ZERO_CHECKSUM OVER_DTLS ∷ []
options_by true true false false = item FORWARD_TSN_SUPPORTED [] ∷ item SUPPORTED_EXTENSIONS (64 ∷ 192 ∷ 194 ∷ []) ∷ []
options_by true true false true = item FORWARD_TSN_SUPPORTED [] ∷ item SUPPORTED_EXTENSIONS (64 ∷ 192 ∷ 194 ∷ []) ∷ item ZERO_CHECKSUM OVER_DTLS ∷ []
options_by true true true false = item FORWARD_TSN_SUPPORTED [] ∷ item SUPPORTED_EXTENSIONS (64 ∷ RECONFIG ∷ 192 ∷ 194 ∷ []) ∷ []
options_by true true true true = item FORWARD_TSN_SUPPORTED [] ∷ item SUPPORTED_EXTENSIONS (64 ∷ RECONFIG ∷ 192 ∷ 194 ∷ []) ∷ item ZERO_CHECKSUM OVER_DTLS ∷ []

options_are : (c : Configuration) (i p z o : Bool) → c.interleave ≡ i → c.partial ≡ p → c.reset ≡ z → c.zero_checksum ≡ o → own_options c ≡ options_by i p z o
options_are c false false false false a b d e = rw (a, b, d, e) refl
options_are c false false false true a b d e = rw (a, b, d, e) refl
options_are c false false true false a b d e = rw (a, b, d, e) refl
options_are c false false true true a b d e = rw (a, b, d, e) refl
options_are c false true false false a b d e = rw (a, b, d, e) refl
options_are c false true false true a b d e = rw (a, b, d, e) refl
options_are c false true true false a b d e = rw (a, b, d, e) refl
options_are c false true true true a b d e = rw (a, b, d, e) refl
options_are c true false false false a b d e = rw (a, b, d, e) refl
options_are c true false false true a b d e = rw (a, b, d, e) refl
options_are c true false true false a b d e = rw (a, b, d, e) refl
options_are c true false true true a b d e = rw (a, b, d, e) refl
options_are c true true false false a b d e = rw (a, b, d, e) refl
options_are c true true false true a b d e = rw (a, b, d, e) refl
options_are c true true true false a b d e = rw (a, b, d, e) refl
options_are c true true true true a b d e = rw (a, b, d, e) refl

typed_item : (k : ℕ) (v : List ℕ) → k < 2 ^ 16 → length v < 100 → IsTyped (item k v)
typed_item k v a b = record { kind = a; length = omega (arith, b) }

options_typed : (i p z o : Bool) → AreTyped (options_by i p z o)
options_typed false false false false = tt
options_typed false false false true = (typed_item ZERO_CHECKSUM OVER_DTLS (omega arith) (omega arith), tt)
options_typed false false true false = (typed_item SUPPORTED_EXTENSIONS (RECONFIG ∷ []) (omega arith) (omega arith), tt)
options_typed false false true true = (typed_item SUPPORTED_EXTENSIONS (RECONFIG ∷ []) (omega arith) (omega arith), (typed_item ZERO_CHECKSUM OVER_DTLS (omega arith) (omega arith), tt))
options_typed false true false false = (typed_item FORWARD_TSN_SUPPORTED [] (omega arith) (omega arith), (typed_item SUPPORTED_EXTENSIONS (192 ∷ []) (omega arith) (omega arith), tt))
options_typed false true false true = (typed_item FORWARD_TSN_SUPPORTED [] (omega arith) (omega arith), (typed_item SUPPORTED_EXTENSIONS (192 ∷ []) (omega arith) (omega arith), (typed_item ZERO_CHECKSUM OVER_DTLS (omega arith) (omega arith), tt)))
options_typed false true true false = (typed_item FORWARD_TSN_SUPPORTED [] (omega arith) (omega arith), (typed_item SUPPORTED_EXTENSIONS (RECONFIG ∷ 192 ∷ []) (omega arith) (omega arith), tt))
options_typed false true true true = (typed_item FORWARD_TSN_SUPPORTED [] (omega arith) (omega arith), (typed_item SUPPORTED_EXTENSIONS (RECONFIG ∷ 192 ∷ []) (omega arith) (omega arith), (typed_item ZERO_CHECKSUM OVER_DTLS (omega arith) (omega arith), tt)))
options_typed true false false false = (typed_item SUPPORTED_EXTENSIONS (64 ∷ []) (omega arith) (omega arith), tt)
options_typed true false false true = (typed_item SUPPORTED_EXTENSIONS (64 ∷ []) (omega arith) (omega arith), (typed_item ZERO_CHECKSUM OVER_DTLS (omega arith) (omega arith), tt))
options_typed true false true false = (typed_item SUPPORTED_EXTENSIONS (64 ∷ RECONFIG ∷ []) (omega arith) (omega arith), tt)
options_typed true false true true = (typed_item SUPPORTED_EXTENSIONS (64 ∷ RECONFIG ∷ []) (omega arith) (omega arith), (typed_item ZERO_CHECKSUM OVER_DTLS (omega arith) (omega arith), tt))
options_typed true true false false = (typed_item FORWARD_TSN_SUPPORTED [] (omega arith) (omega arith), (typed_item SUPPORTED_EXTENSIONS (64 ∷ 192 ∷ 194 ∷ []) (omega arith) (omega arith), tt))
options_typed true true false true = (typed_item FORWARD_TSN_SUPPORTED [] (omega arith) (omega arith), (typed_item SUPPORTED_EXTENSIONS (64 ∷ 192 ∷ 194 ∷ []) (omega arith) (omega arith), (typed_item ZERO_CHECKSUM OVER_DTLS (omega arith) (omega arith), tt)))
options_typed true true true false = (typed_item FORWARD_TSN_SUPPORTED [] (omega arith) (omega arith), (typed_item SUPPORTED_EXTENSIONS (64 ∷ RECONFIG ∷ 192 ∷ 194 ∷ []) (omega arith) (omega arith), tt))
options_typed true true true true = (typed_item FORWARD_TSN_SUPPORTED [] (omega arith) (omega arith), (typed_item SUPPORTED_EXTENSIONS (64 ∷ RECONFIG ∷ 192 ∷ 194 ∷ []) (omega arith) (omega arith), (typed_item ZERO_CHECKSUM OVER_DTLS (omega arith) (omega arith), tt)))

-- all that is written of one's own is known to the peer
none_reported : (i p z o : Bool) → parameters_reported (options_by i p z o) ≡ []
none_reported false false false false = refl
none_reported false false false true = refl
none_reported false false true false = refl
none_reported false false true true = refl
none_reported false true false false = refl
none_reported false true false true = refl
none_reported false true true false = refl
none_reported false true true true = refl
none_reported true false false false = refl
none_reported true false false true = refl
none_reported true false true false = refl
none_reported true false true true = refl
none_reported true true false false = refl
none_reported true true false true = refl
none_reported true true true false = refl
none_reported true true true true = refl

all_acted : (i p z o : Bool) (v : List ℕ) → parameters_acted_on (item STATE_COOKIE v ∷ options_by i p z o) ≡ item STATE_COOKIE v ∷ options_by i p z o
all_acted false false false false v = refl
all_acted false false false true v = refl
all_acted false false true false v = refl
all_acted false false true true v = refl
all_acted false true false false v = refl
all_acted false true false true v = refl
all_acted false true true false v = refl
all_acted false true true true v = refl
all_acted true false false false v = refl
all_acted true false false true v = refl
all_acted true false true false v = refl
all_acted true false true true v = refl
all_acted true true false false v = refl
all_acted true true false true v = refl
all_acted true true true false v = refl
all_acted true true true true v = refl

-- of a caller's INIT nothing is reported
pub nothing_to_report : (c : Configuration) → parameters_reported (typed_in (written (own_options c))) ≡ []
nothing_to_report c =
    let o = options_are c c.interleave c.partial c.reset c.zero_checksum refl refl refl refl in
    ap (λ (xs : List Typed). parameters_reported (typed_in (written xs))) o
    ∙ ap parameters_reported (written_read (options_by c.interleave c.partial c.reset c.zero_checksum) (options_typed c.interleave c.partial c.reset c.zero_checksum))
    ∙ none_reported c.interleave c.partial c.reset c.zero_checksum

-- what is read of options that `d` wrote, by `c`
lists_interleave : (i p z o : Bool) → lists_type 64 (first_of SUPPORTED_EXTENSIONS (options_by i p z o)) ≡ i
lists_interleave false false false false = refl
lists_interleave false false false true = refl
lists_interleave false false true false = refl
lists_interleave false false true true = refl
lists_interleave false true false false = refl
lists_interleave false true false true = refl
lists_interleave false true true false = refl
lists_interleave false true true true = refl
lists_interleave true false false false = refl
lists_interleave true false false true = refl
lists_interleave true false true false = refl
lists_interleave true false true true = refl
lists_interleave true true false false = refl
lists_interleave true true false true = refl
lists_interleave true true true false = refl
lists_interleave true true true true = refl

lists_interleave_behind : (v : List ℕ) (i p z o : Bool) → lists_type 64 (first_of SUPPORTED_EXTENSIONS (item STATE_COOKIE v ∷ options_by i p z o)) ≡ i
lists_interleave_behind v false false false false = refl
lists_interleave_behind v false false false true = refl
lists_interleave_behind v false false true false = refl
lists_interleave_behind v false false true true = refl
lists_interleave_behind v false true false false = refl
lists_interleave_behind v false true false true = refl
lists_interleave_behind v false true true false = refl
lists_interleave_behind v false true true true = refl
lists_interleave_behind v true false false false = refl
lists_interleave_behind v true false false true = refl
lists_interleave_behind v true false true false = refl
lists_interleave_behind v true false true true = refl
lists_interleave_behind v true true false false = refl
lists_interleave_behind v true true false true = refl
lists_interleave_behind v true true true false = refl
lists_interleave_behind v true true true true = refl

lists_reset : (i p z o : Bool) → lists_type RECONFIG (first_of SUPPORTED_EXTENSIONS (options_by i p z o)) ≡ z
lists_reset false false false false = refl
lists_reset false false false true = refl
lists_reset false false true false = refl
lists_reset false false true true = refl
lists_reset false true false false = refl
lists_reset false true false true = refl
lists_reset false true true false = refl
lists_reset false true true true = refl
lists_reset true false false false = refl
lists_reset true false false true = refl
lists_reset true false true false = refl
lists_reset true false true true = refl
lists_reset true true false false = refl
lists_reset true true false true = refl
lists_reset true true true false = refl
lists_reset true true true true = refl

lists_reset_behind : (v : List ℕ) (i p z o : Bool) → lists_type RECONFIG (first_of SUPPORTED_EXTENSIONS (item STATE_COOKIE v ∷ options_by i p z o)) ≡ z
lists_reset_behind v false false false false = refl
lists_reset_behind v false false false true = refl
lists_reset_behind v false false true false = refl
lists_reset_behind v false false true true = refl
lists_reset_behind v false true false false = refl
lists_reset_behind v false true false true = refl
lists_reset_behind v false true true false = refl
lists_reset_behind v false true true true = refl
lists_reset_behind v true false false false = refl
lists_reset_behind v true false false true = refl
lists_reset_behind v true false true false = refl
lists_reset_behind v true false true true = refl
lists_reset_behind v true true false false = refl
lists_reset_behind v true true false true = refl
lists_reset_behind v true true true false = refl
lists_reset_behind v true true true true = refl

lists_zero : (i p z o : Bool) → is_value OVER_DTLS (first_of ZERO_CHECKSUM (options_by i p z o)) ≡ o
lists_zero false false false false = refl
lists_zero false false false true = refl
lists_zero false false true false = refl
lists_zero false false true true = refl
lists_zero false true false false = refl
lists_zero false true false true = refl
lists_zero false true true false = refl
lists_zero false true true true = refl
lists_zero true false false false = refl
lists_zero true false false true = refl
lists_zero true false true false = refl
lists_zero true false true true = refl
lists_zero true true false false = refl
lists_zero true true false true = refl
lists_zero true true true false = refl
lists_zero true true true true = refl

lists_zero_behind : (v : List ℕ) (i p z o : Bool) → is_value OVER_DTLS (first_of ZERO_CHECKSUM (item STATE_COOKIE v ∷ options_by i p z o)) ≡ o
lists_zero_behind v false false false false = refl
lists_zero_behind v false false false true = refl
lists_zero_behind v false false true false = refl
lists_zero_behind v false false true true = refl
lists_zero_behind v false true false false = refl
lists_zero_behind v false true false true = refl
lists_zero_behind v false true true false = refl
lists_zero_behind v false true true true = refl
lists_zero_behind v true false false false = refl
lists_zero_behind v true false false true = refl
lists_zero_behind v true false true false = refl
lists_zero_behind v true false true true = refl
lists_zero_behind v true true false false = refl
lists_zero_behind v true true false true = refl
lists_zero_behind v true true true false = refl
lists_zero_behind v true true true true = refl

abbrev partial_by : Bool → List Typed → Bool
partial_by i xs = is_carried (first_of FORWARD_TSN_SUPPORTED xs) && (not (i && lists_type 64 (first_of SUPPORTED_EXTENSIONS xs)) || lists_type 194 (first_of SUPPORTED_EXTENSIONS xs))

says_partial : (k i p z o : Bool) → partial_by k (options_by i p z o) ≡ p
says_partial false false false false false = refl
says_partial false false false false true = refl
says_partial false false false true false = refl
says_partial false false false true true = refl
says_partial false false true false false = refl
says_partial false false true false true = refl
says_partial false false true true false = refl
says_partial false false true true true = refl
says_partial false true false false false = refl
says_partial false true false false true = refl
says_partial false true false true false = refl
says_partial false true false true true = refl
says_partial false true true false false = refl
says_partial false true true false true = refl
says_partial false true true true false = refl
says_partial false true true true true = refl
says_partial true false false false false = refl
says_partial true false false false true = refl
says_partial true false false true false = refl
says_partial true false false true true = refl
says_partial true false true false false = refl
says_partial true false true false true = refl
says_partial true false true true false = refl
says_partial true false true true true = refl
says_partial true true false false false = refl
says_partial true true false false true = refl
says_partial true true false true false = refl
says_partial true true false true true = refl
says_partial true true true false false = refl
says_partial true true true false true = refl
says_partial true true true true false = refl
says_partial true true true true true = refl

says_partial_behind : (v : List ℕ) (k i p z o : Bool) → partial_by k (item STATE_COOKIE v ∷ options_by i p z o) ≡ p
says_partial_behind v false false false false false = refl
says_partial_behind v false false false false true = refl
says_partial_behind v false false false true false = refl
says_partial_behind v false false false true true = refl
says_partial_behind v false false true false false = refl
says_partial_behind v false false true false true = refl
says_partial_behind v false false true true false = refl
says_partial_behind v false false true true true = refl
says_partial_behind v false true false false false = refl
says_partial_behind v false true false false true = refl
says_partial_behind v false true false true false = refl
says_partial_behind v false true false true true = refl
says_partial_behind v false true true false false = refl
says_partial_behind v false true true false true = refl
says_partial_behind v false true true true false = refl
says_partial_behind v false true true true true = refl
says_partial_behind v true false false false false = refl
says_partial_behind v true false false false true = refl
says_partial_behind v true false false true false = refl
says_partial_behind v true false false true true = refl
says_partial_behind v true false true false false = refl
says_partial_behind v true false true false true = refl
says_partial_behind v true false true true false = refl
says_partial_behind v true false true true true = refl
says_partial_behind v true true false false false = refl
says_partial_behind v true true false false true = refl
says_partial_behind v true true false true false = refl
says_partial_behind v true true false true true = refl
says_partial_behind v true true true false false = refl
says_partial_behind v true true true false true = refl
says_partial_behind v true true true true false = refl
says_partial_behind v true true true true true = refl

module _ (c d : Configuration) where
  -- by the listener: `d` wrote it, `c` reads it
  acted_own : parameters_acted_on (typed_in (written (own_options d))) ≡ options_by d.interleave d.partial d.reset d.zero_checksum
  acted_own =
      ap (λ (xs : List Typed). parameters_acted_on (typed_in (written xs))) (options_are d d.interleave d.partial d.reset d.zero_checksum refl refl refl refl)
      ∙ ap parameters_acted_on (written_read (options_by d.interleave d.partial d.reset d.zero_checksum) (options_typed d.interleave d.partial d.reset d.zero_checksum)) ∙ known d.interleave d.partial d.reset d.zero_checksum
    where
      known : (i p z o : Bool) → parameters_acted_on (options_by i p z o) ≡ options_by i p z o
      known false false false false = refl
      known false false false true = refl
      known false false true false = refl
      known false false true true = refl
      known false true false false = refl
      known false true false true = refl
      known false true true false = refl
      known false true true true = refl
      known true false false false = refl
      known true false false true = refl
      known true false true false = refl
      known true false true true = refl
      known true true false false = refl
      known true true false true = refl
      known true true true false = refl
      known true true true true = refl

  pub interleave_read : agreed_interleave c (written (own_options d)) ≡ (c.interleave && d.interleave)
  interleave_read = ap (λ (xs : List Typed). c.interleave && lists_type 64 (first_of SUPPORTED_EXTENSIONS xs)) acted_own
      ∙ ap (λ (b : Bool). c.interleave && b) (lists_interleave d.interleave d.partial d.reset d.zero_checksum)

  pub partial_read : agreed_partial c (written (own_options d)) ≡ (c.partial && d.partial)
  partial_read = ap (λ (xs : List Typed). c.partial && partial_by c.interleave xs) acted_own
      ∙ ap (λ (b : Bool). c.partial && b) (says_partial c.interleave d.interleave d.partial d.reset d.zero_checksum)

  pub reset_read : agreed_reset c (written (own_options d)) ≡ (c.reset && d.reset)
  reset_read = ap (λ (xs : List Typed). c.reset && lists_type RECONFIG (first_of SUPPORTED_EXTENSIONS xs)) acted_own
      ∙ ap (λ (b : Bool). c.reset && b) (lists_reset d.interleave d.partial d.reset d.zero_checksum)

  pub zero_read : agreed_zero_checksum c (written (own_options d)) ≡ (c.zero_checksum && d.zero_checksum)
  zero_read = ap (λ (xs : List Typed). c.zero_checksum && is_value OVER_DTLS (first_of ZERO_CHECKSUM xs)) acted_own
      ∙ ap (λ (b : Bool). c.zero_checksum && b) (lists_zero d.interleave d.partial d.reset d.zero_checksum)

  -- by the caller: after the cookie, in the INIT ACK
  acted_behind : (v : List ℕ) → length v < 100 → parameters_acted_on (typed_in (written (item STATE_COOKIE v ∷ (own_options d ++ [])))) ≡ item STATE_COOKIE v ∷ options_by d.interleave d.partial d.reset d.zero_checksum
  acted_behind v short =
      ap (λ (xs : List Typed). parameters_acted_on (typed_in (written (item STATE_COOKIE v ∷ xs)))) (append-nil (own_options d) ∙ options_are d d.interleave d.partial d.reset d.zero_checksum refl refl refl refl)
      ∙ ap parameters_acted_on (written_read (item STATE_COOKIE v ∷ options_by d.interleave d.partial d.reset d.zero_checksum) (typed_item STATE_COOKIE v (omega arith) short, options_typed d.interleave d.partial d.reset d.zero_checksum))
      ∙ all_acted d.interleave d.partial d.reset d.zero_checksum v

  pub cookie_read_back : (v : List ℕ) → length v < 100 → value_of STATE_COOKIE (written (item STATE_COOKIE v ∷ (own_options d ++ []))) ≡ Some v
  cookie_read_back v short = ap (first_of STATE_COOKIE) (acted_behind v short)

  pub interleave_behind : (v : List ℕ) → length v < 100 → agreed_interleave c (written (item STATE_COOKIE v ∷ (own_options d ++ []))) ≡ (c.interleave && d.interleave)
  interleave_behind v short = ap (λ (xs : List Typed). c.interleave && lists_type 64 (first_of SUPPORTED_EXTENSIONS xs)) (acted_behind v short)
      ∙ ap (λ (b : Bool). c.interleave && b) (lists_interleave_behind v d.interleave d.partial d.reset d.zero_checksum)

  pub partial_behind : (v : List ℕ) → length v < 100 → agreed_partial c (written (item STATE_COOKIE v ∷ (own_options d ++ []))) ≡ (c.partial && d.partial)
  partial_behind v short = ap (λ (xs : List Typed). c.partial && partial_by c.interleave xs) (acted_behind v short)
      ∙ ap (λ (b : Bool). c.partial && b) (says_partial_behind v c.interleave d.interleave d.partial d.reset d.zero_checksum)

  pub reset_behind : (v : List ℕ) → length v < 100 → agreed_reset c (written (item STATE_COOKIE v ∷ (own_options d ++ []))) ≡ (c.reset && d.reset)
  reset_behind v short = ap (λ (xs : List Typed). c.reset && lists_type RECONFIG (first_of SUPPORTED_EXTENSIONS xs)) (acted_behind v short)
      ∙ ap (λ (b : Bool). c.reset && b) (lists_reset_behind v d.interleave d.partial d.reset d.zero_checksum)

  pub zero_behind : (v : List ℕ) → length v < 100 → agreed_zero_checksum c (written (item STATE_COOKIE v ∷ (own_options d ++ []))) ≡ (c.zero_checksum && d.zero_checksum)
  zero_behind v short = ap (λ (xs : List Typed). c.zero_checksum && is_value OVER_DTLS (first_of ZERO_CHECKSUM xs)) (acted_behind v short)
      ∙ ap (λ (b : Bool). c.zero_checksum && b) (lists_zero_behind v d.interleave d.partial d.reset d.zero_checksum)

pub both_ways : (a b : Bool) → (a && b) ≡ (b && a)
both_ways false false = refl
both_ways false true = refl
both_ways true false = refl
both_ways true true = refl
