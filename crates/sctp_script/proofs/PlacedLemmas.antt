-- At its place a line says one thing: what options leave is decided.
use Rattle.std.proofs.Common.{◌≡◌, ℕ, ◌⊎◌, inl, inr, Bool, true, false, List, [], ◌∷◌, length, Option, None, Some, refl, sym, ap, ◌∙◌, subst, arith}
use Rattle.std.proofs.lemmas.Bool.{cases_lt}
use Rattle.sctp_model.specs.end.EndView.{Configuration}
use Rattle.sctp_model.specs.end.Configured.{configuration_fault}
use Rattle.sctp_words.specs.declared.line_fault.LineFault.{LineFault}
use Rattle.sctp_words.specs.declared.line_fault.LineFault.TheVariants.{BadValue}
use Rattle.sctp_script.specs.declared.option_name.Ends.{Ends}
use Rattle.sctp_script.specs.Ends.{has_a, has_b}
use Rattle.sctp_script.specs.Grammar.{LineMeaning, Silent, Pairs, Acts, Fault, SaysOneThing}
use Rattle.sctp_script.specs.declared.command.Command.TheVariants as command
use Rattle.sctp_script.specs.Commands.{name_of}
use Rattle.sctp_script.specs.LimitedSends.{LimitedValues, limited_fields, limited_send, AreLimited, IsLimitedSend, HasNoLimit}
use Rattle.sctp_script.specs.FurtherLines.{IsNotFurther, SaysFurther}
use Rattle.sctp_script.specs.Options.{option_fields, set_option}
use Rattle.sctp_script.specs.OptionLines.{GivenOption, Leave, IsOptionsLine, LeaveAt, LeaveBoth}
use Rattle.sctp_script.specs.Places.{Place, Unpaired, Behind, Acted, PlacedMeaning, Plain, Configures, IsPlain, SaysPlain, SaysUnlimited, SaysPaired, OptionsSay, SaysAt, SaysOneThingAt}
use Rattle.sctp_script.proofs.FieldLemmas.{WordsSay, one_values, values_or_none}
use Rattle.sctp_script.proofs.LineLemmas.{first_and_others, first_of, others_of}
use Rattle.sctp_text.proofs.WordValues.{same_or_not}
use Rattle.sctp_text.specs.declared.limits.TheConstants.{LONGEST_LINE}
use Rattle.sctp_script.proofs.EachLineSays.{says_one_thing}
use Rattle.sctp_script.proofs.FurtherLemmas.{further_or_not, one_further}
use Rattle.sctp_script.proofs.OptionsLeave.{one_set, one_left}
use Rattle.sctp_script.proofs.OptionsDecided.{is_or_not, one_ends_line, one_options_line}

-- ---- what options leave

abbrev LeavesOrNot : List GivenOption → Configuration → Type 0
LeavesOrNot gs c = ((d : Configuration) × Leave gs c d) ⊎ ((d : Configuration) → Leave gs c d → ⊥)

leave_or_not : (say : WordsSay) (gs : List GivenOption) (c : Configuration) → LeavesOrNot gs c
leave_or_not say [] c = inl (c, refl)
leave_or_not say (g ∷ gs) c =
    elim (values_or_none say (option_fields g.option) g.words) [
      | inr none ↦ inr (λ d leave. none leave.1.0 leave.1.1)
      | inl values ↦ elim (leave_or_not say gs (set_option g.option values.0 c)) [
        | inl left ↦ inl (left.0, (set_option g.option values.0 c, (values.0, values.1, refl), left.1))
        | inr none ↦ inr (λ d leave.
            let same : leave.0 ≡ set_option g.option values.0 c = one_set say g.option g.words c leave.0 (set_option g.option values.0 c) leave.1 (values.0, values.1, refl) in
            none d (subst (λ (e : Configuration). Leave gs e d) same leave.2))
      ]
    ]

none_or_not : {A : Type 0} (o : Option A) → (o ≡ None) ⊎ (o ≡ None → ⊥)
none_or_not None = inl refl
none_or_not (Some x) = inr (λ h. cc (h))

leave_at_or_not : (say : WordsSay) (named : Bool) (gs : List GivenOption) (c : Configuration)
    → ((d : Configuration) × LeaveAt named gs c d) ⊎ ((d : Configuration) → LeaveAt named gs c d → ⊥)
leave_at_or_not say false gs c = inl (c, refl)
leave_at_or_not say true gs c =
    elim (leave_or_not say gs c) [
      | inr none ↦ inr (λ d left. none d left.0)
      | inl left ↦ elim (none_or_not (configuration_fault left.0)) [
        | inl fine ↦ inl (left.0, (left.1, fine))
        | inr wrong ↦ inr (λ d other. wrong (subst (λ (e : Configuration). configuration_fault e ≡ None) (one_left say gs c d left.0 other.0 left.1) other.1))
      ]
    ]

one_left_at : (say : WordsSay) (named : Bool) (gs : List GivenOption) (c d e : Configuration) → LeaveAt named gs c d → LeaveAt named gs c e → d ≡ e
one_left_at say true gs c d e a b = one_left say gs c d e a.0 b.0
one_left_at say false gs c d e a b = a ∙ sym b

-- ---- what a line says at its place

plain_says_one : (say : WordsSay) (paired : Bool) (line : List ℕ) → (m : PlacedMeaning) × SaysPlain paired line m × ((n : PlacedMeaning) → SaysPlain paired line n → n ≡ m)
plain_says_one say paired line = (Plain one.meaning, one.says, only)
  where
    one : SaysOneThing paired line
    one = says_one_thing say paired line

    only : (n : PlacedMeaning) → SaysPlain paired line n → n ≡ Plain one.meaning
    only (Plain n) says = ap Plain (one.only n says)
    only (Configures c d) says = absurd says

-- whether a line gives a limit is decided, and in one way
limited_or_not : (say : WordsSay) (line : List ℕ) → ((vs : LimitedValues) × IsLimitedSend line vs) ⊎ HasNoLimit line
limited_or_not say line =
    elim (cases_lt LONGEST_LINE (length line)) [
      | inl long ↦ inr (λ vs is. omega (arith, long, is.short))
      | inr short ↦
          let first = first_and_others line in
          elim (same_or_not first.0 (name_of command.Send)) [
            | inr other ↦ inr (λ vs is. other (ap first_of (sym first.2 ∙ is.line_is)))
            | inl named ↦ elim (values_or_none say limited_fields first.1) [
              | inr none ↦ inr (λ vs is. none vs (subst (λ (ws : List (List ℕ)). AreLimited ws vs) (ap others_of (sym is.line_is ∙ first.2)) is.values))
              | inl values ↦ inl (values.0, record { short = omega (arith, short); args = first.1; line_is = first.2 ∙ ap (λ (w : List ℕ). w ∷ first.1) named; values = values.1 })
            ]
          ]
    ]

one_limited : (say : WordsSay) (line : List ℕ) (us vs : LimitedValues) → IsLimitedSend line us → IsLimitedSend line vs → us ≡ vs
one_limited say line us vs a b =
    one_values say limited_fields b.args us vs (subst (λ (ws : List (List ℕ)). AreLimited ws us) (ap others_of (sym a.line_is ∙ b.line_is)) a.values) b.values

-- a line of a further command says what its words say, and it says nothing else
unlimited_says_one : (say : WordsSay) (line : List ℕ) → (m : PlacedMeaning) × SaysUnlimited line m × ((n : PlacedMeaning) → SaysUnlimited line n → n ≡ m)
unlimited_says_one say line =
    elim (further_or_not say line) [
      | inl is ↦ (Plain is.0, inl is.1, further_alone is.0 is.1)
      | inr none ↦ (Plain plain.meaning, inr (none, plain.says), plain_alone_here none)
    ]
  where
    plain : SaysOneThing true line
    plain = says_one_thing say true line

    further_alone : (m : LineMeaning) → SaysFurther line m → (n : PlacedMeaning) → SaysUnlimited line n → n ≡ Plain m
    further_alone m is (Plain n) (inl says) = ap Plain (one_further say line n m says is)
    further_alone m is (Plain n) (inr other) = absurd (other.0 is.0 is.1 is.2)
    further_alone m is (Configures c d) says = absurd says

    plain_alone_here : IsNotFurther line → (n : PlacedMeaning) → SaysUnlimited line n → n ≡ Plain plain.meaning
    plain_alone_here none (Plain n) (inl says) = absurd (none says.0 says.1 says.2)
    plain_alone_here none (Plain n) (inr other) = ap Plain (plain.only n other.1)
    plain_alone_here none (Configures c d) says = absurd says

limited_alone : (say : WordsSay) (line : List ℕ) (vs : LimitedValues) → IsLimitedSend line vs → (m : PlacedMeaning) → SaysPaired true line m → m ≡ Plain (Acts (limited_send vs))
limited_alone say line vs is m (inl (us, other, says)) = says ∙ ap (λ (ws : LimitedValues). Plain (Acts (limited_send ws))) (one_limited say line us vs other is)
limited_alone say line vs is m (inr (none, says)) = absurd (none vs is)

unlimited_alone : (line : List ℕ) (l : PlacedMeaning) → HasNoLimit line → ((m : PlacedMeaning) → SaysUnlimited line m → m ≡ l)
    → (m : PlacedMeaning) → SaysPaired true line m → m ≡ l
unlimited_alone line l none only m (inl (us, other, says)) = absurd (none us other)
unlimited_alone line l none only m (inr (_, says)) = only m says

paired_says_one : (say : WordsSay) (o : Bool) (line : List ℕ) → (m : PlacedMeaning) × SaysPaired o line m × ((n : PlacedMeaning) → SaysPaired o line n → n ≡ m)
paired_says_one say false line = plain_says_one say true line
paired_says_one say true line =
    elim (limited_or_not say line) [
      | inl is ↦ (Plain (Acts (limited_send is.0)), inl (is.0, is.1, refl), limited_alone say line is.0 is.1)
      | inr none ↦ let one = unlimited_says_one say line in (one.0, inr (none, one.1), unlimited_alone line one.0 none one.2)
    ]

-- options that leave configurations say so, and nothing else
only_configures : (say : WordsSay) (a b c d : Configuration) (x : Ends) (gs : List GivenOption) → LeaveBoth x gs a b c d
    → (m : PlacedMeaning) → OptionsSay a b x gs m → m ≡ Configures c d
only_configures say a b c d x gs both (Configures e f) other =
    ap (λ (g : Configuration). Configures g f) (one_left_at say (has_a x) gs a e c other.0 both.0)
    ∙ ap (λ (g : Configuration). Configures c g) (one_left_at say (has_b x) gs b f d other.1 both.1)
only_configures say a b c d x gs both (Plain (Fault f)) other = absurd (other.1 c d both)
only_configures say a b c d x gs both (Plain Silent) other = absurd other
only_configures say a b c d x gs both (Plain (Pairs e)) other = absurd other
only_configures say a b c d x gs both (Plain (Acts w)) other = absurd other

only_bad : (a b : Configuration) (x : Ends) (gs : List GivenOption) → ((c d : Configuration) → LeaveBoth x gs a b c d → ⊥)
    → (m : PlacedMeaning) → OptionsSay a b x gs m → m ≡ Plain (Fault BadValue)
only_bad a b x gs none (Configures e f) other = absurd (none e f other)
only_bad a b x gs none (Plain (Fault f)) other = ap (λ (g : LineFault). Plain (Fault g)) other.0
only_bad a b x gs none (Plain Silent) other = absurd other
only_bad a b x gs none (Plain (Pairs e)) other = absurd other
only_bad a b x gs none (Plain (Acts w)) other = absurd other

-- a line of options says what these options say
options_alone : (o : Bool) (a b : Configuration) (line : List ℕ) (x : Ends) (gs : List GivenOption) (l : PlacedMeaning) → IsOptionsLine line x gs
    → ((m : PlacedMeaning) → OptionsSay a b x gs m → m ≡ l) → (m : PlacedMeaning) → SaysAt (Behind o a b) line m → m ≡ l
options_alone o a b line x gs l is only m (inr (plain, says)) = absurd (plain x gs is)
options_alone o a b line x gs l is only m (inl (y, hs, other, says)) =
    let ends : y ≡ x = one_ends_line line y x hs gs other is in
    let options : hs ≡ gs = one_options_line line y x hs gs other is in
    only m (subst (λ (z : Ends). OptionsSay a b z gs m) ends (subst (λ (os : List GivenOption). OptionsSay a b y os m) options says))

plain_alone : (o : Bool) (a b : Configuration) (line : List ℕ) (l : PlacedMeaning) → IsPlain line
    → ((m : PlacedMeaning) → SaysPaired o line m → m ≡ l) → (m : PlacedMeaning) → SaysAt (Behind o a b) line m → m ≡ l
plain_alone o a b line l plain only m (inl (x, gs, is, says)) = absurd (plain x gs is)
plain_alone o a b line l plain only m (inr (_, says)) = only m says

behind_says_one : (say : WordsSay) (o : Bool) (a b : Configuration) (line : List ℕ) → SaysOneThingAt (Behind o a b) line
behind_says_one say o a b line =
    elim (is_or_not line) [
      | inr plain ↦
          let one = paired_says_one say o line in
          record { meaning = one.0; says = inr (plain, one.1); only = plain_alone o a b line one.0 plain one.2 }
      | inl is ↦ elim (leave_at_or_not say (has_a is.0) is.1 a) [
        | inr none ↦ record {
          meaning = Plain (Fault BadValue);
          says = inl (is.0, is.1, is.2, (refl, λ c d both. none c both.0));
          only = options_alone o a b line is.0 is.1 (Plain (Fault BadValue)) is.2 (only_bad a b is.0 is.1 (λ c d both. none c both.0));
        }
        | inl of_a ↦ elim (leave_at_or_not say (has_b is.0) is.1 b) [
          | inr none ↦ record {
            meaning = Plain (Fault BadValue);
            says = inl (is.0, is.1, is.2, (refl, λ c d both. none d both.1));
            only = options_alone o a b line is.0 is.1 (Plain (Fault BadValue)) is.2 (only_bad a b is.0 is.1 (λ c d both. none d both.1));
          }
          | inl of_b ↦ record {
            meaning = Configures of_a.0 of_b.0;
            says = inl (is.0, is.1, is.2, (of_a.1, of_b.1));
            only = options_alone o a b line is.0 is.1 (Configures of_a.0 of_b.0) is.2 (only_configures say a b of_a.0 of_b.0 is.0 is.1 (of_a.1, of_b.1));
          }
        ]
      ]
    ]

pub says_one_at : (say : WordsSay) (place : Place) (line : List ℕ) → SaysOneThingAt place line
says_one_at say Unpaired line = let one = plain_says_one say false line in record { meaning = one.0; says = one.1; only = one.2 }
says_one_at say (Behind o a b) line = behind_says_one say o a b line
says_one_at say (Acted o) line = let one = paired_says_one say o line in record { meaning = one.0; says = one.1; only = one.2 }
