-- A line is of one command, and has no fault or a first one.
use Rattle.std.proofs.Common.{◌≡◌, ◌==◌, inl, inr, refl, ℕ, ◌<◌, ◌≤◌, Bool, true, List, [], ◌∷◌, ◌++◌, length, None, Some, sym, ap, ◌∙◌, subst, arith}
use Rattle.sctp_script.specs.declared.command.Command.{Command}
use Rattle.sctp_script.specs.declared.command.Command.TheVariants as command
use Rattle.sctp_terms.specs.declared.config_fault.ConfigFault.{ConfigFault}
use Rattle.sctp_terms.specs.Meanings.{config_fault_meaning}
use Rattle.sctp_terms.specs.declared.mode.Mode.{Mode}
use Rattle.sctp_terms.specs.Modes.{asked}
use Rattle.sctp_words.specs.declared.line_fault.LineFault.{LineFault}
use Rattle.sctp_words.specs.declared.line_fault.LineFault.TheVariants.{TooLong, UnknownCommand, WordCount, BadValue, PairOrder}
use Rattle.sctp_script.specs.declared.line.Acting.{Acting}
use Rattle.sctp_script.specs.declared.line.Acting.TheVariants as acting
use Rattle.sctp_script.specs.Commands.{name_of, pair_fields, fields_of, arguments_of, is_pair}
use Rattle.sctp_model.specs.end.EndView.{Configuration}
use Rattle.sctp_model.specs.end.Configured.{configuration_fault}
use Rattle.sctp_script.specs.Configuration.{sizes}
use Rattle.sctp_script.specs.Fields.{Field, ANumber, AMode, ADelay, IsValue}
use Rattle.sctp_words.specs.Fields.{IsNumber, delay_word}
use Rattle.sctp_script.specs.Grammar.{LineMeaning, Pairs, CommandValues, AreGood, Spells, IsLineOf, HasFault, IsFirstFaultOf, HasNoFault, Says}
use Rattle.sctp_words.specs.Lines.{kind_of}
use Rattle.sctp_script.specs.ReadLineAnswer.{acting_meaning}
use Rattle.sctp_script.proofs.CommandLemmas.{same_command, same_pair}
use Rattle.sctp_script.proofs.FieldLemmas.{WordsSay, Given, AreGiven, first_value, other_values, one_values, given_count, no_words}
use Rattle.sctp_text.specs.SpacedWords.{words_of}
use Rattle.sctp_text.specs.declared.limits.TheConstants.{LONGEST_LINE, SPACE}
use Rattle.std.proofs.lemmas.Bool.{cases_Bool}

-- ---- the words of a line

-- there is a first one
pub first_and_others : (xs : List ℕ) → (w : List ℕ) × (ws : List (List ℕ)) × (words_of xs ≡ w ∷ ws)
first_and_others [] = ([], [], refl)
first_and_others (x ∷ xs) =
    let (w, ws, is) = first_and_others xs in
    elim (cases_Bool (x == SPACE)) [
      | inl space ↦ ([], w ∷ ws, rw (space, is) refl)
      | inr other ↦ (x ∷ w, ws, rw (other, is) refl)
    ]

-- ---- one command

abbrev pub first_of : List (List ℕ) → List ℕ
first_of [] = []
first_of (w ∷ ws) = w

abbrev pub others_of : List (List ℕ) → List (List ℕ)
others_of [] = []
others_of (w ∷ ws) = ws

-- a line begins with one name, with one list of words behind it
pub one_name : (line : List ℕ) (c d : Command) (xs ys : List (List ℕ)) → IsLineOf line c xs → IsLineOf line d ys → name_of c ≡ name_of d
one_name line c d xs ys f g = ap first_of (sym f ∙ g)

pub one_list : (line : List ℕ) (c d : Command) (xs ys : List (List ℕ)) → IsLineOf line c xs → IsLineOf line d ys → xs ≡ ys
one_list line c d xs ys f g = ap others_of (sym f ∙ g)

-- and is of one command with so many words
pub one_command : (line : List ℕ) (c d : Command) (xs ys : List (List ℕ)) → IsLineOf line c xs → IsLineOf line d ys
    → length xs ≡ arguments_of c → length ys ≡ arguments_of d → c ≡ d
one_command line c d xs ys f g many count =
    same_command c d (one_name line c d xs ys f g) (sym many ∙ ap length (one_list line c d xs ys f g) ∙ count)

-- what is said with some words is said with as many as the command has
pub spelled_count : (c : Command) (args : List (List ℕ)) (m : LineMeaning) → Spells c args m → length args ≡ arguments_of c
spelled_count c args m says = given_count (fields_of c) args says.0 says.1

-- ---- a line that says something

-- a line of a command that says something with these words
pub record Reads (line : List ℕ) (c : Command) (args : List (List ℕ)) (m : LineMeaning) : Type 0 where
  pub short : length line ≤ LONGEST_LINE
  pub line_is : IsLineOf line c args
  pub count : length args ≡ arguments_of c
  pub says : Spells c args m

-- it has no fault but one of order
only_order : (paired : Bool) (line : List ℕ) (c : Command) (args : List (List ℕ)) (m : LineMeaning) → Reads line c args m
    → (fault : LineFault) → kind_of fault < 5 → HasFault paired line fault → ⊥
only_order paired line c args m r TooLong small f = omega (arith, r.short)
only_order paired line c args m r UnknownCommand small f = f.1 c args r.line_is
only_order paired line c args m r WordCount small (d, bs, is, other) =
    other c (one_name line c d args bs r.line_is is) (sym (ap length (one_list line c d args bs r.line_is is)) ∙ r.count)
only_order paired line c args m r BadValue small (d, bs, is, count, none) =
    let same = one_command line c d args bs r.line_is is r.count count in
    let list = one_list line c d args bs r.line_is is in
    none m (subst (λ (x : Command). Spells x bs m) same (subst (λ (xs : List (List ℕ)). Spells c xs m) list r.says))
only_order paired line c args m r PairOrder small f = omega arith

pub out_of_order : (paired : Bool) (line : List ℕ) (c : Command) (args : List (List ℕ)) (m : LineMeaning) → Reads line c args m
    → is_pair c ≡ paired → IsFirstFaultOf paired line PairOrder
out_of_order paired line c args m r order = ((c, args, r.line_is, order), only_order paired line c args m r)

pub faultless : (paired : Bool) (line : List ℕ) (c : Command) (args : List (List ℕ)) (m : LineMeaning) → Reads line c args m
    → (is_pair c ≡ paired → ⊥) → HasNoFault paired line
faultless paired line c args m r order TooLong f = only_order paired line c args m r TooLong (omega arith) f
faultless paired line c args m r order UnknownCommand f = only_order paired line c args m r UnknownCommand (omega arith) f
faultless paired line c args m r order WordCount f = only_order paired line c args m r WordCount (omega arith) f
faultless paired line c args m r order BadValue f = only_order paired line c args m r BadValue (omega arith) f
faultless paired line c args m r order PairOrder (d, bs, is, here) =
    order (same_pair c d (one_name line c d args bs r.line_is is) ∙ here)

pub in_order : (paired : Bool) (line : List ℕ) (c : Command) (args : List (List ℕ)) (a : Acting) → Reads line c args (acting_meaning a)
    → (is_pair c ≡ paired → ⊥) → Says paired line (acting_meaning a)
in_order paired line c args (acting.Pair config) r order = (faultless paired line c args _ r order, (c, args, r.line_is, r.says))
in_order paired line c args (acting.Event event) r order = (faultless paired line c args _ r order, (c, args, r.line_is, r.says))

-- ---- a `pair` line

-- five words, and six, one by one
pub five_words : (args a b c d rest : List (List ℕ)) (t u v w x : List ℕ) → length args ≡ 5
    → args ≡ t ∷ a → a ≡ u ∷ b → b ≡ v ∷ c → c ≡ w ∷ d → d ≡ x ∷ rest → t ∷ u ∷ v ∷ w ∷ x ∷ [] ≡ args
five_words args a b c d rest t u v w x five first second third fourth fifth =
    let none : rest ≡ [] = no_words rest (omega (arith, five, ap length first, ap length second, ap length third, ap length fourth, ap length fifth)) in
    sym (first ∙ ap (λ (ws : List (List ℕ)). t ∷ ws) second ∙ ap (λ (ws : List (List ℕ)). t ∷ u ∷ ws) third ∙ ap (λ (ws : List (List ℕ)). t ∷ u ∷ v ∷ ws) fourth
    ∙ ap (λ (ws : List (List ℕ)). t ∷ u ∷ v ∷ w ∷ ws) fifth ∙ ap (λ (ws : List (List ℕ)). t ∷ u ∷ v ∷ w ∷ x ∷ ws) none)

pub six_words : (args a b c d e rest : List (List ℕ)) (t u v w x y : List ℕ) → length args ≡ 6
    → args ≡ t ∷ a → a ≡ u ∷ b → b ≡ v ∷ c → c ≡ w ∷ d → d ≡ x ∷ e → e ≡ y ∷ rest → t ∷ u ∷ v ∷ w ∷ x ∷ y ∷ [] ≡ args
six_words args a b c d e rest t u v w x y six first second third fourth fifth sixth =
    let none : rest ≡ [] = no_words rest (omega (arith, six, ap length first, ap length second, ap length third, ap length fourth, ap length fifth, ap length sixth)) in
    sym (first ∙ ap (λ (ws : List (List ℕ)). t ∷ ws) second ∙ ap (λ (ws : List (List ℕ)). t ∷ u ∷ ws) third ∙ ap (λ (ws : List (List ℕ)). t ∷ u ∷ v ∷ ws) fourth
    ∙ ap (λ (ws : List (List ℕ)). t ∷ u ∷ v ∷ w ∷ ws) fifth ∙ ap (λ (ws : List (List ℕ)). t ∷ u ∷ v ∷ w ∷ x ∷ ws) sixth
    ∙ ap (λ (ws : List (List ℕ)). t ∷ u ∷ v ∷ w ∷ x ∷ y ∷ ws) none)

-- what the five words behind `pair` say, one by one
pub pair_words : (t u v w x : List ℕ) (limit fragment buffer streams : ℕ) (mode : Mode)
    → IsNumber 16 t limit → IsNumber 16 u fragment → IsNumber 32 v buffer → IsNumber 16 w streams → IsValue AMode x mode
    → AreGiven pair_fields (t ∷ u ∷ v ∷ w ∷ x ∷ []) (limit, (fragment, (buffer, (streams, (mode, tt)))))
pair_words t u v w x limit fragment buffer streams mode is_limit is_fragment is_buffer are_streams is_mode =
    (_, _, refl, is_limit, (_, _, refl, is_fragment, (_, _, refl, is_buffer, (_, _, refl, are_streams, (_, _, refl, is_mode, refl)))))

-- what is said with more fields behind these five, word by word
pub each_of_five : (fs : List Field) (t u v w x : List ℕ) (more : List (List ℕ)) (vs : Given (pair_fields ++ fs))
    → AreGiven (pair_fields ++ fs) (t ∷ u ∷ v ∷ w ∷ x ∷ more) vs
    → IsNumber 16 t vs.0 × IsNumber 16 u vs.1.0 × IsNumber 32 v vs.1.1.0 × IsNumber 16 w vs.1.1.1.0 × IsValue AMode x vs.1.1.1.1.0
    × AreGiven fs more vs.1.1.1.1.1
each_of_five fs t u v w x more vs are =
    let behind_first = other_values (ANumber 16) (ANumber 16 ∷ ANumber 32 ∷ ANumber 16 ∷ AMode ∷ fs) _ t _ vs refl are in
    let behind_second = other_values (ANumber 16) (ANumber 32 ∷ ANumber 16 ∷ AMode ∷ fs) _ u _ vs.1 refl behind_first in
    let behind_third = other_values (ANumber 32) (ANumber 16 ∷ AMode ∷ fs) _ v _ vs.1.1 refl behind_second in
    let behind_fourth = other_values (ANumber 16) (AMode ∷ fs) _ w _ vs.1.1.1 refl behind_third in (
      first_value (ANumber 16) (ANumber 16 ∷ ANumber 32 ∷ ANumber 16 ∷ AMode ∷ fs) _ t _ vs refl are,
      first_value (ANumber 16) (ANumber 32 ∷ ANumber 16 ∷ AMode ∷ fs) _ u _ vs.1 refl behind_first,
      first_value (ANumber 32) (ANumber 16 ∷ AMode ∷ fs) _ v _ vs.1.1 refl behind_second,
      first_value (ANumber 16) (AMode ∷ fs) _ w _ vs.1.1.1 refl behind_third,
      first_value AMode fs _ x _ vs.1.1.1.1 refl behind_fourth,
      other_values AMode fs _ x _ vs.1.1.1.1 refl behind_fourth,
    )

-- five words that say a configuration say it with SACKs that may wait, where `delay` is behind them
pub delayed : (args : List (List ℕ)) (t u v w x y : List ℕ) (c d : Configuration) → t ∷ u ∷ v ∷ w ∷ x ∷ y ∷ [] ≡ args
    → Spells command.Pair (t ∷ u ∷ v ∷ w ∷ x ∷ []) (Pairs c) → y ≡ delay_word → d ≡ record c { delay = true } → Spells command.DelayedPair args (Pairs d)
delayed args t u v w x y c d six ((l, (f, (b, (s, (mode, rest))))), are, good, is) last waits =
    let each = each_of_five [] t u v w x [] (l, (f, (b, (s, (mode, rest))))) are in
    let same : c ≡ asked mode (sizes l f b s) = cc in (
      (l, (f, (b, (s, (mode, (tt, tt)))))),
      (_, _, sym six, each.0, (_, _, refl, each.1, (_, _, refl, each.2, (_, _, refl, each.3, (_, _, refl, each.4, (_, _, refl, last, refl)))))),
      good,
      ap Pairs waits ∙ ap (λ (e : Configuration). Pairs (record e { delay = true })) same,
    )

-- six words that say something end with `delay`, and the five before it say something
pub undelayed : (t u v w x y : List ℕ) (m : LineMeaning) → Spells command.DelayedPair (t ∷ u ∷ v ∷ w ∷ x ∷ y ∷ []) m
    → (y ≡ delay_word) × (n : LineMeaning) × Spells command.Pair (t ∷ u ∷ v ∷ w ∷ x ∷ []) n
undelayed t u v w x y m ((l, (f, (b, (s, (mode, rest))))), are, good, is) =
    let each = each_of_five (ADelay ∷ []) t u v w x (y ∷ []) (l, (f, (b, (s, (mode, rest))))) are in (
      first_value ADelay [] (y ∷ []) y [] rest refl each.5,
      Pairs (asked mode (sizes l f b s)),
      ((l, (f, (b, (s, (mode, tt))))), pair_words t u v w x l f b s mode each.0 each.1 each.2 each.3 each.4, good, refl),
    )

-- sizes with a fault say no configuration
pub says_nothing : (say : WordsSay) (args : List (List ℕ)) (l f b s : ℕ) (mode : Mode) (fault : ConfigFault)
    → AreGiven (fields_of command.Pair) args (l, (f, (b, (s, (mode, tt))))) → configuration_fault (sizes l f b s) ≡ Some (config_fault_meaning fault)
    → (m : LineMeaning) → Spells command.Pair args m → ⊥
says_nothing say args l f b s mode fault are wrong m spells =
    let vs : CommandValues command.Pair = (l, (f, (b, (s, (mode, tt))))) in
    let same = one_values say (fields_of command.Pair) args spells.0 vs spells.1 are in
    let good : configuration_fault (sizes l f b s) ≡ None = subst (λ (us : CommandValues command.Pair). AreGood command.Pair us) same spells.2 in
    absurd (cc (good, wrong))
