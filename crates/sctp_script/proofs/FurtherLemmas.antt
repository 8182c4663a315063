-- Whether a line is one of a further command is decided, and such a line says one thing.
use Rattle.std.proofs.Common.{◌≡◌, ℕ, ◌≤◌, if◌then◌else◌, ◌⊎◌, inl, inr, List, [], ◌∷◌, length, Option, None, Some, refl, sym, ap, ◌∙◌, subst, arith}
use Rattle.std.specs.Str.{bytes_eq}
use Rattle.std.proofs.lemmas.Bool.{cases_Bool, cases_lt, cases_eq}
use Rattle.std.proofs.lemmas.Slice.Eq.{bytes_eq-Decides}
use Rattle.sctp_words.specs.declared.line_fault.LineFault.TheVariants.{TooLong, UnknownCommand, WordCount, BadValue, PairOrder}
use Rattle.sctp_script.specs.Grammar.{LineMeaning, Silent, Pairs, Acts, Fault}
use Rattle.sctp_script.specs.FurtherLines.{further_name, further_fields, further_arguments, further_wanted, FurtherSpells, IsFurtherLine, IsNotFurther, SaysFurther}
use Rattle.sctp_script.specs.declared.further_line.FurtherCommand.{FurtherCommand}
use Rattle.sctp_script.specs.declared.further_line.FurtherCommand.TheVariants.{Reset, Resets, Later, Moment}
use Rattle.sctp_script.proofs.FieldLemmas.{WordsSay, one_values, values_or_none, given_count}
use Rattle.sctp_script.proofs.LineLemmas.{first_and_others, first_of, others_of}
use Rattle.sctp_text.specs.SpacedWords.{words_of}
use Rattle.sctp_text.specs.declared.limits.TheConstants.{LONGEST_LINE}

-- ---- one name, one command

abbrev further_commands : List FurtherCommand
further_commands = Reset ∷ Resets ∷ Later ∷ Moment ∷ []

abbrev first_named : List ℕ → List FurtherCommand → Option FurtherCommand
first_named word [] = None
first_named word (c ∷ cs) = if bytes_eq word (further_name c) then Some c else first_named word cs

-- a row for each command: by its name it is found again
named_again : (c : FurtherCommand) → first_named (further_name c) further_commands ≡ Some c
named_again Reset = refl
named_again Resets = refl
named_again Later = refl
named_again Moment = refl

one_command : (c d : FurtherCommand) → further_name c ≡ further_name d → c ≡ d
one_command c d same =
    let found : Some c ≡ Some d = sym (named_again c) ∙ ap (λ (w : List ℕ). first_named w further_commands) same ∙ named_again d in
    cc

found_named : (word : List ℕ) (cs : List FurtherCommand) (c : FurtherCommand) → first_named word cs ≡ Some c → word ≡ further_name c
found_named word [] c found = cc
found_named word (d ∷ ds) c found =
    elim (cases_Bool (bytes_eq word (further_name d))) [
      | inl good ↦ let same : d ≡ c = (let here : Some d ≡ Some c = rw good at found in cc) in (bytes_eq-Decides word (further_name d)).0 good ∙ ap further_name same
      | inr bad ↦ found_named word ds c (rw bad at found)
    ]

-- a word is a further command's name or none's
command_or_none : (word : List ℕ) → ((c : FurtherCommand) × (word ≡ further_name c)) ⊎ ((c : FurtherCommand) → word ≡ further_name c → ⊥)
command_or_none word = at (first_named word further_commands) refl where
  at : (found : Option FurtherCommand) → first_named word further_commands ≡ found
      → ((c : FurtherCommand) × (word ≡ further_name c)) ⊎ ((c : FurtherCommand) → word ≡ further_name c → ⊥)
  at (Some c) is = inl (c, found_named word further_commands c is)
  at None is = inr (λ c same. let found : None ≡ Some c = sym is ∙ ap (λ (w : List ℕ). first_named w further_commands) same ∙ named_again c in cc)

-- ---- its words say one thing

spelled : (say : WordsSay) (c : FurtherCommand) (args : List (List ℕ)) → (m : LineMeaning) × FurtherSpells c args m
spelled say c args =
    elim (cases_eq (length args) (further_arguments c)) [
      | inr other ↦ (Fault WordCount, other)
      | inl count ↦ elim (values_or_none say (further_fields c) args) [
        | inl values ↦ (Acts (further_wanted c values.0), (values.0, values.1, refl))
        | inr none ↦ (Fault BadValue, (count, none))
      ]
    ]

-- whatever it is, it's this one
one_spelled : (say : WordsSay) (c : FurtherCommand) (args : List (List ℕ)) (m n : LineMeaning) → FurtherSpells c args m → FurtherSpells c args n → m ≡ n
one_spelled say c args (Acts v) (Acts w) (us, are, is) (vs, are_vs, is_w) =
    ap Acts (is ∙ ap (further_wanted c) (one_values say (further_fields c) args us vs are are_vs) ∙ sym is_w)
one_spelled say c args (Acts v) (Fault WordCount) (us, are, is) other = absurd (other (given_count (further_fields c) args us are))
one_spelled say c args (Acts v) (Fault BadValue) (us, are, is) (count, none) = absurd (none us are)
one_spelled say c args (Fault WordCount) (Acts w) other (vs, are, is) = absurd (other (given_count (further_fields c) args vs are))
one_spelled say c args (Fault WordCount) (Fault WordCount) other again = refl
one_spelled say c args (Fault WordCount) (Fault BadValue) other (count, none) = absurd (other count)
one_spelled say c args (Fault BadValue) (Acts w) (count, none) (vs, are, is) = absurd (none vs are)
one_spelled say c args (Fault BadValue) (Fault WordCount) (count, none) other = absurd (other count)
one_spelled say c args (Fault BadValue) (Fault BadValue) said again = refl
one_spelled say c args m (Fault TooLong) said never = absurd never
one_spelled say c args m (Fault UnknownCommand) said never = absurd never
one_spelled say c args m (Fault PairOrder) said never = absurd never
one_spelled say c args m Silent said never = absurd never
one_spelled say c args m (Pairs d) said never = absurd never
one_spelled say c args (Fault TooLong) n never said = absurd never
one_spelled say c args (Fault UnknownCommand) n never said = absurd never
one_spelled say c args (Fault PairOrder) n never said = absurd never
one_spelled say c args Silent n never said = absurd never
one_spelled say c args (Pairs d) n never said = absurd never

-- ---- lines

-- whether a line is one of a further command is decided
pub further_or_not : (say : WordsSay) (line : List ℕ) → ((m : LineMeaning) × SaysFurther line m) ⊎ IsNotFurther line
further_or_not say line =
    elim (cases_lt LONGEST_LINE (length line)) [
      | inl long ↦ inr (λ c args is. omega (arith, long, is.0))
      | inr short ↦
          let first = first_and_others line in
          elim (command_or_none first.0) [
            | inr none ↦ inr (λ c args is. none c (ap first_of (sym first.2 ∙ is.1)))
            | inl named ↦
                let says = spelled say named.0 first.1 in
                inl (says.0, (named.0, first.1, (omega (arith, short), first.2 ∙ ap (λ (w : List ℕ). w ∷ first.1) named.1), says.1))
          ]
    ]

pub one_further : (say : WordsSay) (line : List ℕ) (m n : LineMeaning) → SaysFurther line m → SaysFurther line n → m ≡ n
one_further say line m n (c, args, is, says) (d, others, also, says_too) =
    let same : c ≡ d = one_command c d (ap first_of (sym is.1 ∙ also.1)) in
    let words : args ≡ others = ap others_of (sym is.1 ∙ also.1) in
    one_spelled say d others m n (subst (λ (ws : List (List ℕ)). FurtherSpells d ws m) words (subst (λ (e : FurtherCommand). FurtherSpells e args m) same says)) says_too

-- ---- what is read

-- a line whose first word is no such command
pub is_none : (line w : List ℕ) (ws : List (List ℕ)) → words_of line ≡ w ∷ ws → ((c : FurtherCommand) → w ≡ further_name c → ⊥) → IsNotFurther line
is_none line w ws shape none c args is = none c (ap first_of (sym shape ∙ is.1))

-- one whose first word is
pub is_line : (line w : List ℕ) (ws : List (List ℕ)) (c : FurtherCommand) → length line ≤ LONGEST_LINE → words_of line ≡ w ∷ ws → w ≡ further_name c
    → IsFurtherLine line c ws
is_line line w ws c short shape named = (short, shape ∙ ap (λ (v : List ℕ). v ∷ ws) named)
