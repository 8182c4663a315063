-- The commands are told apart by name and number of words: what holds of all of them, by their list, and which command a word names.
use Rattle.std.proofs.Common.{◌≡◌, ℕ, ◌==◌, ◌&&◌, if◌then◌else◌, Bool, true, false, not, ◌⊎◌, inl, inr, List, [], ◌∷◌, Option, None, Some, length, slice_index, nat_lt, refl, sym, ap, ◌∙◌}
use Rattle.std.specs.List.{list_all}
use Rattle.std.specs.Str.{bytes_eq}
use Rattle.std.proofs.lemmas.Bool.{cases_Bool, cases_eq, and_parts}
use Rattle.std.proofs.lemmas.Slice.Eq.{bytes_eq-Decides}
use Rattle.sctp_script.specs.Commands.{commands, name_of, arguments_of, first_named, command_named, form_of, is_pair}
use Rattle.sctp_script.specs.declared.command.Command.{Command}
use Rattle.sctp_script.specs.declared.command.Command.TheVariants.{Pair, DelayedPair, Open, At, Draw, Connect, Build, Deliver, Foreign, Send, Abandon, Take, Shutdown, Abort}

-- the first of the commands that have its name
abbrev first_form : Command → Command
first_form DelayedPair = Pair
first_form c = c

-- a row for each command: by its name it is found again, or the first that has the name
named_again : (c : Command) → command_named (name_of c) ≡ Some (first_form c)
named_again Pair = refl
named_again DelayedPair = refl
named_again Open = refl
named_again At = refl
named_again Draw = refl
named_again Connect = refl
named_again Build = refl
named_again Deliver = refl
named_again Foreign = refl
named_again Send = refl
named_again Abandon = refl
named_again Take = refl
named_again Shutdown = refl
named_again Abort = refl

-- ---- one name and one number of words, one command

same_first : (c d : Command) → name_of c ≡ name_of d → first_form c ≡ first_form d
same_first c d names =
    let found : Some (first_form c) ≡ Some (first_form d) = sym (named_again c) ∙ ap command_named names ∙ named_again d in
    cc

-- a command by the first that has its name, and the number of words
formed_again : (c : Command) → form_of (first_form c) (arguments_of c) ≡ c
formed_again Pair = refl
formed_again DelayedPair = refl
formed_again _ = refl

pub same_command : (c d : Command) → name_of c ≡ name_of d → arguments_of c ≡ arguments_of d → c ≡ d
same_command c d names counts =
    sym (formed_again c) ∙ ap (λ (e : Command). form_of e (arguments_of c)) (same_first c d names) ∙ ap (form_of (first_form d)) counts ∙ formed_again d

-- a form has the command's name
named_pair : (b : Bool) → name_of (if b then DelayedPair else Pair) ≡ name_of Pair
named_pair true = refl
named_pair false = refl

pub form_named : (c : Command) (n : ℕ) → name_of (form_of c n) ≡ name_of c
form_named Pair n = named_pair (n == 6)
form_named DelayedPair n = named_pair (n == 6)
form_named _ n = refl

-- both forms of a command are one for each number of words
form_first : (c : Command) (n : ℕ) → form_of (first_form c) n ≡ form_of c n
form_first Pair n = refl
form_first DelayedPair n = refl
form_first _ n = refl

-- what is of this name with so many words is the form for so many words
pub is_form : (c d : Command) (n : ℕ) → name_of d ≡ name_of c → n ≡ arguments_of d → d ≡ form_of c n
is_form c d n names count =
    sym (formed_again d) ∙ ap (form_of (first_form d)) (sym count) ∙ ap (λ (e : Command). form_of e n) (same_first d c names) ∙ form_first c n

-- a command of this name has so many words, or none has
pub form_or_none : (c : Command) (n : ℕ) → ((d : Command) × (name_of d ≡ name_of c) × (n ≡ arguments_of d)) ⊎ ((d : Command) → name_of d ≡ name_of c → n ≡ arguments_of d → ⊥)
form_or_none c n =
    elim (cases_eq n (arguments_of (form_of c n))) [
      | inl count ↦ inl (form_of c n, form_named c n, count)
      | inr other ↦ inr (λ d names count. other (count ∙ ap arguments_of (is_form c d n names count)))
    ]

-- `pair` is known by its name
first_pair : (c : Command) → is_pair (first_form c) ≡ is_pair c
first_pair Pair = refl
first_pair DelayedPair = refl
first_pair _ = refl

pub same_pair : (c d : Command) → name_of c ≡ name_of d → is_pair c ≡ is_pair d
same_pair c d names = sym (first_pair c) ∙ ap is_pair (same_first c d names) ∙ first_pair d

-- what is found has the name
found_named : (word : List ℕ) (cs : List Command) (c : Command) → first_named word cs ≡ Some c → word ≡ name_of c
found_named word [] c found = cc
found_named word (d ∷ cs) c found =
    elim (cases_Bool (bytes_eq word (name_of d))) [
      | inl good ↦ let same : d ≡ c = (let here : Some d ≡ Some c = rw good at found in cc) in (bytes_eq-Decides word (name_of d)).0 good ∙ ap name_of same
      | inr bad ↦ found_named word cs c (rw bad at found)
    ]

pub is_named : (word : List ℕ) (c : Command) → command_named word ≡ Some c → word ≡ name_of c
is_named word c found = found_named word commands c found

pub is_unnamed : (word : List ℕ) → command_named word ≡ None → (c : Command) → word ≡ name_of c → ⊥
is_unnamed word none c is =
    let found : None ≡ Some (first_form c) = sym none ∙ ap command_named is ∙ named_again c in
    cc

-- a word names a command or none
pub command_or_none : (word : List ℕ) → ((c : Command) × (word ≡ name_of c)) ⊎ ((c : Command) → word ≡ name_of c → ⊥)
command_or_none word = at (command_named word) refl where
  at : (found : Option Command) → command_named word ≡ found → ((c : Command) × (word ≡ name_of c)) ⊎ ((c : Command) → word ≡ name_of c → ⊥)
  at (Some c) is = inl (c, is_named word c is)
  at None is = inr (is_unnamed word is)

-- ---- what holds of all

found_passes : (p : Command → Bool) (word : List ℕ) (cs : List Command) (c : Command) → list_all p cs ≡ true → first_named word cs ≡ Some c → p c ≡ true
found_passes p word [] c all found = cc
found_passes p word (d ∷ cs) c all found =
    let parts = and_parts (p d) (list_all p cs) all in
    elim (cases_Bool (bytes_eq word (name_of d))) [
      | inl good ↦ let same : d ≡ c = (let here : Some d ≡ Some c = rw good at found in cc) in ap p (sym same) ∙ parts.0
      | inr bad ↦ found_passes p word cs c parts.1 (rw bad at found)
    ]

-- a test of names that all of the list pass is passed by each command
pub each_passes : (p : List ℕ → Bool) → list_all (λ c. p (name_of c)) commands ≡ true → (c : Command) → p (name_of c) ≡ true
each_passes p all c =
    ap p (is_named (name_of c) (first_form c) (named_again c))
    ∙ found_passes (λ d. p (name_of d)) (name_of c) commands (first_form c) all (named_again c)

-- no name begins as a comment does
abbrev is_plain : List ℕ → Bool
is_plain name = not (slice_index name 0 == 35) && nat_lt 0 (length name)

pub plain_name : (c : Command) → is_plain (name_of c) ≡ true
plain_name c = each_passes is_plain refl c
