-- The options are told apart by their names.
use Rattle.std.proofs.Common.{◌≡◌, ℕ, if◌then◌else◌, ◌⊎◌, inl, inr, List, [], ◌∷◌, Option, None, Some, refl, sym, ap, ◌∙◌}
use Rattle.std.specs.Str.{bytes_eq}
use Rattle.std.proofs.lemmas.Bool.{cases_Bool}
use Rattle.std.proofs.lemmas.Slice.Eq.{bytes_eq-Decides}
use Rattle.sctp_script.specs.Options.{option_word}
use Rattle.sctp_script.specs.declared.option_name.OptionName.{OptionName}
use Rattle.sctp_script.specs.declared.option_name.OptionName.TheVariants.{Limit, Fragment, Buffer, Streams, Mode, Delay, StandardClosing, FastRetransmit, CongestionControl, RtoMin, Reset}

-- ---- one name, one option

abbrev all_options : List OptionName
all_options = Limit ∷ Fragment ∷ Buffer ∷ Streams ∷ Mode ∷ Delay ∷ StandardClosing ∷ FastRetransmit ∷ CongestionControl ∷ RtoMin ∷ Reset ∷ []

abbrev first_named : List ℕ → List OptionName → Option OptionName
first_named word [] = None
first_named word (o ∷ os) = if bytes_eq word (option_word o) then Some o else first_named word os

-- a row for each option: by its word it is found again
named_again : (o : OptionName) → first_named (option_word o) all_options ≡ Some o
named_again Limit = refl
named_again Fragment = refl
named_again Buffer = refl
named_again Streams = refl
named_again Mode = refl
named_again Delay = refl
named_again StandardClosing = refl
named_again FastRetransmit = refl
named_again CongestionControl = refl
named_again RtoMin = refl
named_again Reset = refl

pub one_option : (o p : OptionName) → option_word o ≡ option_word p → o ≡ p
one_option o p same =
    let found : Some o ≡ Some p = sym (named_again o) ∙ ap (λ (w : List ℕ). first_named w all_options) same ∙ named_again p in
    cc

found_named : (word : List ℕ) (os : List OptionName) (o : OptionName) → first_named word os ≡ Some o → word ≡ option_word o
found_named word [] o found = cc
found_named word (p ∷ ps) o found =
    elim (cases_Bool (bytes_eq word (option_word p))) [
      | inl good ↦ let same : p ≡ o = (let here : Some p ≡ Some o = rw good at found in cc) in (bytes_eq-Decides word (option_word p)).0 good ∙ ap option_word same
      | inr bad ↦ found_named word ps o (rw bad at found)
    ]

-- a word is an option's name or none's
pub option_or_none : (word : List ℕ) → ((o : OptionName) × (word ≡ option_word o)) ⊎ ((o : OptionName) → word ≡ option_word o → ⊥)
option_or_none word = at (first_named word all_options) refl where
  at : (found : Option OptionName) → first_named word all_options ≡ found → ((o : OptionName) × (word ≡ option_word o)) ⊎ ((o : OptionName) → word ≡ option_word o → ⊥)
  at (Some o) is = inl (o, found_named word all_options o is)
  at None is = inr (λ o same. let found : None ≡ Some o = sym is ∙ ap (λ (w : List ℕ). first_named w all_options) same ∙ named_again o in cc)
