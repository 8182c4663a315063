-- A line of options: which lines are one, and the configurations that it leaves.
use Rattle.std.specs.Prelude.{◌≡◌, ℕ, ◌<◌, ◌≤◌, Bool, true, false, List, [], ◌∷◌, ◌++◌, length, None, codes}
use Rattle.sctp_model.specs.end.EndView.{Configuration}
use Rattle.sctp_model.specs.end.Configured.{configuration_fault}
use Rattle.sctp_words.specs.Fields.{AreValues}
use Rattle.sctp_script.specs.Fields.{Value, IsValue}
use Rattle.sctp_script.specs.Options.{option_word, option_fields, words_taken, OptionValues, set_option}
use Rattle.sctp_script.specs.Ends.{ends_word, has_a, has_b}
use Rattle.sctp_script.specs.declared.option_name.OptionName.{OptionName}
use Rattle.sctp_script.specs.declared.option_name.Ends.{Ends}
use Rattle.sctp_text.specs.SpacedWords.{words_of}
use Rattle.sctp_text.specs.declared.limits.TheConstants.{LONGEST_LINE}

-- ---- options

-- an option as it is given: its name, and the words after it
pub record GivenOption : Type 0 where
  pub option : OptionName
  pub words : List (List ℕ)

-- these words are these options, one after another, each with as many words as it has fields
abbrev pub AreOptions : List (List ℕ) → List GivenOption → Type 0
AreOptions words [] = words ≡ []
AreOptions words (g ∷ gs) =
    (others : List (List ℕ)) × (words ≡ option_word g.option ∷ (g.words ++ others)) × (length g.words ≡ words_taken g.option) × AreOptions others gs

-- an option with these words leaves this configuration of that one
abbrev pub Sets : OptionName → List (List ℕ) → (before after : Configuration) → Type 0
Sets o words before after = (vs : OptionValues o) × AreValues Value IsValue (option_fields o) words vs × (after ≡ set_option o vs before)

-- and options leave this one, each acting on what those before it left
abbrev pub Leave : List GivenOption → (before after : Configuration) → Type 0
Leave [] before after = after ≡ before
Leave (g ∷ gs) before after = (mid : Configuration) × Sets g.option g.words before mid × Leave gs mid after

-- ---- lines

-- the word with which a line of options begins
abbrev pub options_word : List ℕ
options_word = codes "options"

-- the line is one of options: which endpoints it is for, and at least one option
abbrev pub IsOptionsLine : List ℕ → Ends → List GivenOption → Type 0
IsOptionsLine line ends gs =
    (length line ≤ LONGEST_LINE) × (0 < length gs)
    × (words : List (List ℕ)) × (words_of line ≡ options_word ∷ ends_word ends ∷ words) × AreOptions words gs

-- what options leave of an endpoint's configuration: where they are for it, one without a fault; else the same
abbrev pub LeaveAt : Bool → List GivenOption → (before after : Configuration) → Type 0
LeaveAt true gs before after = Leave gs before after × (configuration_fault after ≡ None)
LeaveAt false gs before after = after ≡ before

-- A's and B's configurations before the line, and after it
abbrev pub LeaveBoth : Ends → List GivenOption → (a b after_a after_b : Configuration) → Type 0
LeaveBoth ends gs a b c d = LeaveAt (has_a ends) gs a c × LeaveAt (has_b ends) gs b d
