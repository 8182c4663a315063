-- The second word, words that may be left out, and a listener's words.
use Rattle.std.specs.Prelude.{◌≡◌, ℕ, Bool, true, false, List, [], ◌∷◌, ◌++◌, Option, None, Some, codes}
use Rattle.sctp_model.specs.end.EndView.{Configuration}
use Rattle.sctp_end.specs.SetUpWords.{Configures, IsKey}
use Rattle.sctp_end.specs.declared.options.Options.{Options}
use Rattle.sctp_end.specs.declared.set_up.Role.{Role}
use Rattle.sctp_end.specs.declared.set_up.Role.TheVariants.{Caller, Listener}
use Rattle.sctp_words.specs.Fields.{delay_word, standard_closing_word, fast_retransmit_word, congestion_control_word, reset_word, rto_min_word}

-- the word for a role
abbrev pub role_word : Role → List ℕ
role_word Caller = codes "caller"
role_word Listener = codes "listener"

-- whether these words begin with this one, and the words after it; else all of them
abbrev pub IsSplit : List ℕ → List (List ℕ) → Bool → List (List ℕ) → Type 0
IsSplit word words true rest = words ≡ word ∷ rest
IsSplit word words false rest = (words ≡ rest) × ((others : List (List ℕ)) → words ≡ word ∷ others → ⊥)

-- whether these words begin with each of five in turn, and the words after them
pub record AreSplit (words : List (List ℕ)) (o : Options) (rest : List (List ℕ)) : Type 0 where
  pub behind_delay : List (List ℕ)
  pub behind_standard : List (List ℕ)
  pub behind_fast : List (List ℕ)
  pub behind_control : List (List ℕ)
  pub delay : IsSplit delay_word words o.delay behind_delay
  pub standard : IsSplit standard_closing_word behind_delay o.standard_closing behind_standard
  pub fast : IsSplit fast_retransmit_word behind_standard o.fast_retransmit behind_fast
  pub control : IsSplit congestion_control_word behind_fast o.congestion_control behind_control
  pub reset : IsSplit reset_word behind_control o.reset rest

-- the word after `rto-min` if these words begin with both, and the words after them; else all of them
abbrev pub IsLeastSplit : List (List ℕ) → Option (List ℕ) → List (List ℕ) → Type 0
IsLeastSplit words (Some number) rest = words ≡ rto_min_word ∷ number ∷ rest
IsLeastSplit words None rest = (words ≡ rest) × ((number : List ℕ) (others : List (List ℕ)) → words ≡ rto_min_word ∷ number ∷ others → ⊥)

-- none of the options is set
abbrev pub HasNoOptions : Configuration → Type 0
HasNoOptions c = (c.delay ≡ false) × (c.standard_closing ≡ false) × (c.fast_retransmit ≡ false) × (c.congestion_control ≡ false) × (c.reset ≡ false)

-- the words say this configuration, and the last of them this key
abbrev pub SetsListener : List (List ℕ) → Configuration → List ℕ → Type 0
SetsListener words c key =
    (settings : List (List ℕ)) × (last : List ℕ) × (words ≡ settings ++ last ∷ []) × Configures settings c × IsKey last key
