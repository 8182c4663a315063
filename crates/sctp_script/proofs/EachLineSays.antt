-- Each line says something: its first fault, or what its words say.
use Rattle.std.proofs.Common.{◌≡◌, ℕ, ◌<◌, ◌≤◌, Bool, true, false, ◌⊎◌, inl, inr, List, [], ◌∷◌, length, Option, None, Some, refl, sym, ap, ◌∙◌, subst, arith}
use Rattle.std.proofs.lemmas.Bool.{cases_eq, cases_lt}
use Rattle.sctp_script.specs.declared.command.Command.{Command}
use Rattle.sctp_script.specs.declared.command.Command.TheVariants as command
use Rattle.sctp_words.specs.declared.line_fault.TheConstants.{COMMENT}
use Rattle.sctp_words.specs.declared.line_fault.LineFault.{LineFault}
use Rattle.sctp_words.specs.declared.line_fault.LineFault.TheVariants.{TooLong, UnknownCommand, WordCount, BadValue, PairOrder}
use Rattle.sctp_script.specs.Commands.{fields_of, arguments_of, is_pair}
use Rattle.sctp_model.specs.end.Configured.{configuration_fault}
use Rattle.sctp_script.specs.Configuration.{sizes}
use Rattle.sctp_script.specs.Grammar.{LineMeaning, Silent, Pairs, Acts, Fault, CommandValues, AreGood, Spells, IsLineOf, Means, HasFault, HasNoFault, Says, SaysOneThing, meaning_of}
use Rattle.sctp_words.specs.Lines.{IsSilent, kind_of}
use Rattle.sctp_script.proofs.CommandLemmas.{command_or_none, form_or_none}
use Rattle.sctp_script.proofs.FieldLemmas.{WordsSay, one_values, values_or_none}
use Rattle.sctp_script.proofs.LineLemmas.{first_and_others, first_of, one_name, one_list, Reads, out_of_order, faultless}
use Rattle.sctp_script.proofs.OneMeaning.{silent_is_no_command, one_said}
use Rattle.sctp_text.specs.declared.limits.TheConstants.{LONGEST_LINE}

-- ---- whether sizes are a configuration is decided

none_or_not : {A : Type 0} (o : Option A) → (o ≡ None) ⊎ (o ≡ None → ⊥)
none_or_not None = inl refl
none_or_not (Some x) = inr (λ h. cc (h))

-- ---- what a command with its words says is decided

good_or_not : (c : Command) (vs : CommandValues c) → AreGood c vs ⊎ (AreGood c vs → ⊥)
good_or_not command.Pair (limit, (fragment, (buffer, (streams, (mode, rest))))) = none_or_not (configuration_fault (sizes limit fragment buffer streams))
good_or_not command.DelayedPair (limit, (fragment, (buffer, (streams, (mode, rest))))) = none_or_not (configuration_fault (sizes limit fragment buffer streams))
good_or_not _ vs = inl tt

decided : (say : WordsSay) (c : Command) (args : List (List ℕ)) → ((m : LineMeaning) × Spells c args m) ⊎ ((m : LineMeaning) → Spells c args m → ⊥)
decided say c args =
    elim (values_or_none say (fields_of c) args) [
      | inr none ↦ inr (λ m s. none s.0 s.1)
      | inl found ↦ elim (good_or_not c found.0) [
        | inl good ↦ inl (meaning_of c found.0, (found.0, found.1, good, refl))
        | inr bad ↦ inr (λ m s. bad (subst (λ (vs : CommandValues c). AreGood c vs) (one_values say (fields_of c) args s.0 found.0 s.1 found.1) s.2))
      ]
    ]

-- ---- the first fault

-- a short line has no fault of kind 1
above_length : (p : Bool) (line : List ℕ) → length line ≤ LONGEST_LINE → (f : LineFault) → kind_of f < 2 → HasFault p line f → ⊥
above_length p line short TooLong less h = omega (arith, short, h)
above_length p line short UnknownCommand less h = omega (arith, less)
above_length p line short WordCount less h = omega (arith, less)
above_length p line short BadValue less h = omega (arith, less)
above_length p line short PairOrder less h = omega (arith, less)

-- one of a command has none of kind 2
above_command : (p : Bool) (line : List ℕ) (c : Command) (args : List (List ℕ)) → length line ≤ LONGEST_LINE → IsLineOf line c args
    → (f : LineFault) → kind_of f < 3 → HasFault p line f → ⊥
above_command p line c args short is TooLong less h = omega (arith, short, h)
above_command p line c args short is UnknownCommand less h = h.1 c args is
above_command p line c args short is WordCount less h = omega (arith, less)
above_command p line c args short is BadValue less h = omega (arith, less)
above_command p line c args short is PairOrder less h = omega (arith, less)

-- one with the number of words of its command none of kind 3
above_count : (p : Bool) (line : List ℕ) (c : Command) (args : List (List ℕ)) → length line ≤ LONGEST_LINE → IsLineOf line c args
    → length args ≡ arguments_of c → (f : LineFault) → kind_of f < 4 → HasFault p line f → ⊥
above_count p line c args short is count TooLong less h = omega (arith, short, h)
above_count p line c args short is count UnknownCommand less h = h.1 c args is
above_count p line c args short is count WordCount less (d, ys, g, other) =
    other c (one_name line c d args ys is g) (sym (ap length (one_list line c d args ys is g)) ∙ count)
above_count p line c args short is count BadValue less h = omega (arith, less)
above_count p line c args short is count PairOrder less h = omega (arith, less)

none_before : (p : Bool) (line : List ℕ) (f : LineFault) → kind_of f < 1 → HasFault p line f → ⊥
none_before p line TooLong less h = omega (arith, less)
none_before p line UnknownCommand less h = omega (arith, less)
none_before p line WordCount less h = omega (arith, less)
none_before p line BadValue less h = omega (arith, less)
none_before p line PairOrder less h = omega (arith, less)

-- a short line that does nothing has no fault
silent_faultless : (p : Bool) (line : List ℕ) → length line ≤ LONGEST_LINE → IsSilent line → HasNoFault p line
silent_faultless p line short silent TooLong h = omega (arith, short, h)
silent_faultless p line short silent UnknownCommand h = h.0 silent
silent_faultless p line short silent WordCount (c, xs, is, other) = silent_is_no_command line c xs silent is
silent_faultless p line short silent BadValue (c, xs, is, count, none) = silent_is_no_command line c xs silent is
silent_faultless p line short silent PairOrder (c, xs, is, order) = silent_is_no_command line c xs silent is

-- ---- each line says something

abbrev Something : Bool → List ℕ → Type 0
Something p line = (m : LineMeaning) × Says p line m

-- a command says a configuration or an event
abbrev IsSpoken : LineMeaning → Type 0
IsSpoken Silent = ⊥
IsSpoken (Pairs c) = Unit {0}
IsSpoken (Acts e) = Unit {0}
IsSpoken (Fault f) = ⊥

meant : (c : Command) (vs : CommandValues c) → IsSpoken (meaning_of c vs)
meant command.Pair vs = tt
meant command.DelayedPair vs = tt
meant _ vs = tt

spoken : (c : Command) (args : List (List ℕ)) (m : LineMeaning) → Spells c args m → IsSpoken m
spoken c args m s = subst IsSpoken (sym s.3) (meant c s.0)

said : (p : Bool) (line : List ℕ) (m : LineMeaning) → IsSpoken m → HasNoFault p line → Means line m → Says p line m
said p line Silent spoke right means = absurd spoke
said p line (Pairs c) spoke right means = (right, means)
said p line (Acts e) spoke right means = (right, means)
said p line (Fault f) spoke right means = absurd spoke

bools : (b c : Bool) → (b ≡ c) ⊎ (b ≡ c → ⊥)
bools true true = inl refl
bools true false = inr (λ e. cc)
bools false true = inr (λ e. cc)
bools false false = inl refl

read_says : (p : Bool) (line : List ℕ) (c : Command) (args : List (List ℕ)) (m : LineMeaning) → Reads line c args m → Something p line
read_says p line c args m r =
    elim (bools (is_pair c) p) [
      | inl order ↦ (Fault PairOrder, out_of_order p line c args m r order)
      | inr right ↦ (m, said p line m (spoken c args m r.says) (faultless p line c args m r right) (c, args, r.line_is, r.says))
    ]

form_says : (say : WordsSay) (p : Bool) (line : List ℕ) (c : Command) (args : List (List ℕ)) → length line ≤ LONGEST_LINE → IsLineOf line c args
    → length args ≡ arguments_of c → Something p line
form_says say p line c args short is count =
    elim (decided say c args) [
      | inr none ↦ (Fault BadValue, ((c, args, is, count, none), above_count p line c args short is count))
      | inl found ↦ read_says p line c args found.0 (record { short = short; line_is = is; count = count; says = found.1 })
    ]

command_says : (say : WordsSay) (p : Bool) (line : List ℕ) (c : Command) (args : List (List ℕ)) → length line ≤ LONGEST_LINE → IsLineOf line c args → Something p line
command_says say p line c args short is =
    elim (form_or_none c (length args)) [
      | inr other ↦ (Fault WordCount, ((c, args, is, other), above_command p line c args short is))
      | inl form ↦ form_says say p line form.0 args short (is ∙ ap (λ (name : List ℕ). name ∷ args) (sym form.1)) form.2
    ]

silent_or_not : (line : List ℕ) → IsSilent line ⊎ (IsSilent line → ⊥)
silent_or_not [] = inl tt
silent_or_not (x ∷ xs) = cases_eq x COMMENT

short_says : (say : WordsSay) (p : Bool) (line : List ℕ) → length line ≤ LONGEST_LINE → Something p line
short_says say p line short =
    elim (silent_or_not line) [
      | inl silent ↦ (Silent, (silent_faultless p line short silent, silent))
      | inr acts ↦
          let (w, ws, shape) = first_and_others line in
          elim (command_or_none w) [
            | inl c ↦ command_says say p line c.0 ws short (shape ∙ ap (λ (v : List ℕ). v ∷ ws) c.1)
            | inr none ↦ (Fault UnknownCommand, ((acts, λ c args is. none c (ap first_of (sym shape ∙ is))), above_length p line short))
          ]
    ]

line_says : (say : WordsSay) (p : Bool) (line : List ℕ) → Something p line
line_says say p line =
    elim (cases_lt LONGEST_LINE (length line)) [
      | inl long ↦ (Fault TooLong, (long, none_before p line))
      | inr short ↦ short_says say p line short
    ]

pub says_one_thing : (say : WordsSay) (p : Bool) (line : List ℕ) → SaysOneThing p line
says_one_thing say p line =
    let (m, says) = line_says say p line in
    record { meaning = m; says = says; only = λ n other. one_said say p line n m other says }
