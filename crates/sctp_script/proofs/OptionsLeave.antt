-- Options leave one configuration, whose ports are those of the one before.
use Rattle.std.proofs.Common.{◌≡◌, ℕ, Bool, true, false, List, [], ◌∷◌, ◌++◌, length, Option, None, Some, MatchOption, refl, sym, ap, ◌∙◌, subst}
use Rattle.sctp_model.specs.end.EndView.{Configuration}
use Rattle.sctp_model.specs.end.Configured.{configuration_fault}
use Rattle.sctp_terms.specs.declared.mode.Mode as mode
use Rattle.sctp_terms.specs.declared.mode.Mode.TheVariants as modes
use Rattle.sctp_terms.specs.Modes.{asked}
use Rattle.sctp_words.specs.Fields.{Values, AreValues}
use Rattle.sctp_events.specs.Alike.{AreAcross}
use Rattle.sctp_events.specs.declared.two_configs.TwoConfigs.{TwoConfigs}
use Rattle.sctp_script.specs.Ends.{has_a, has_b}
use Rattle.sctp_script.specs.Fields.{Field, Value, IsValue}
use Rattle.sctp_script.specs.Options.{option_fields, words_taken, OptionValues, set_option}
use Rattle.sctp_script.specs.OptionLines.{GivenOption, Sets, Leave, IsOptionsLine, LeaveAt}
use Rattle.sctp_script.specs.OptionsAnswer.{FindsOptions}
use Rattle.sctp_script.specs.declared.option_name.Ends.{Ends}
use Rattle.sctp_script.specs.declared.option_name.OptionName.{OptionName}
use Rattle.sctp_script.specs.declared.option_name.OptionName.TheVariants.{Limit, Fragment, Buffer, Streams, Mode, Delay, StandardClosing, FastRetransmit, CongestionControl, RtoMin, Reset}
use Rattle.sctp_script.proofs.FieldLemmas.{WordsSay, first_value, other_values, one_values}
use Rattle.sctp_script.proofs.OptionWords.{given}

-- ---- what options leave

pub one_set : (say : WordsSay) (o : OptionName) (args : List (List ℕ)) (c d e : Configuration) → Sets o args c d → Sets o args c e → d ≡ e
one_set say o args c d e (us, are_us, is_d) (vs, are_vs, is_e) =
    is_d ∙ ap (λ (ws : OptionValues o). set_option o ws c) (one_values say (option_fields o) args us vs are_us are_vs) ∙ sym is_e

-- the first option acts, and the others act on what it leaves
pub left_behind : (say : WordsSay) (o : OptionName) (args : List (List ℕ)) (gs more : List GivenOption) (c d e : Configuration) → gs ≡ given o args ∷ more
    → Sets o args c d → Leave gs c e → Leave more d e
left_behind say o args gs more c d e all sets leave =
    let leaves : Leave (given o args ∷ more) c e = subst (λ (hs : List GivenOption). Leave hs c e) all leave in
    subst (λ (f : Configuration). Leave more f e) (one_set say o args c leaves.0 d leaves.1 sets) leaves.2

pub left_in_front : (o : OptionName) (args : List (List ℕ)) (gs more : List GivenOption) (c d e : Configuration) → gs ≡ given o args ∷ more
    → Sets o args c d → Leave more d e → Leave gs c e
left_in_front o args gs more c d e all sets leave = subst (λ (hs : List GivenOption). Leave hs c e) (sym all) (d, sets, leave)

-- an option whose words say no value leaves nothing
pub unset_leaves : (o : OptionName) (args : List (List ℕ)) (gs more : List GivenOption) (c : Configuration) → gs ≡ given o args ∷ more
    → ((d : Configuration) → Sets o args c d → ⊥) → (e : Configuration) → Leave gs c e → ⊥
unset_leaves o args gs more c all none e leave =
    let leaves : Leave (given o args ∷ more) c e = subst (λ (hs : List GivenOption). Leave hs c e) all leave in
    none leaves.0 leaves.1

-- they leave one
pub one_left : (say : WordsSay) (gs : List GivenOption) (c d e : Configuration) → Leave gs c d → Leave gs c e → d ≡ e
one_left say [] c d e is_d is_e = is_d ∙ sym is_e
one_left say (g ∷ gs) c d e (mid, sets, leave) (other, sets_other, leave_other) =
    let same : other ≡ mid = one_set say g.option g.words c other mid sets_other sets in
    one_left say gs mid d e leave (subst (λ (f : Configuration). Leave gs f e) same leave_other)

-- which has a fault or none
pub checked_left : (say : WordsSay) (gs : List GivenOption) (c s : Configuration) (r : Option Configuration) → Leave gs c s
    → MatchOption r (configuration_fault s ≡ None → ⊥) (λ d. (d ≡ s) × (configuration_fault s ≡ None))
    → MatchOption r ((d : Configuration) → LeaveAt true gs c d → ⊥) (λ d. LeaveAt true gs c d)
checked_left say gs c s None leave wrong =
    λ d left. wrong (subst (λ (e : Configuration). configuration_fault e ≡ None) (one_left say gs c d s left.0 leave) left.1)
checked_left say gs c s (Some d) leave (is, fine) = subst (λ (e : Configuration). LeaveAt true gs c e) (sym is) (leave, fine)

-- options change no port
pub record SamePorts (c d : Configuration) : Type 0 where
  pub own : d.own_port ≡ c.own_port
  pub peer : d.peer_port ≡ c.peer_port

mode_ports : (m : mode.Mode) (c : Configuration) → SamePorts c (asked m (record c { interleave = false; partial = false }))
mode_ports modes.Data c = record { own = refl; peer = refl }
mode_ports modes.PartialData c = record { own = refl; peer = refl }
mode_ports modes.IData c = record { own = refl; peer = refl }
mode_ports modes.PartialIData c = record { own = refl; peer = refl }

set_ports : (o : OptionName) (vs : OptionValues o) (c : Configuration) → SamePorts c (set_option o vs c)
set_ports Limit vs c = record { own = refl; peer = refl }
set_ports Fragment vs c = record { own = refl; peer = refl }
set_ports Buffer vs c = record { own = refl; peer = refl }
set_ports Streams vs c = record { own = refl; peer = refl }
set_ports Mode (mode, rest) c = mode_ports mode c
set_ports Delay vs c = record { own = refl; peer = refl }
set_ports StandardClosing vs c = record { own = refl; peer = refl }
set_ports FastRetransmit vs c = record { own = refl; peer = refl }
set_ports CongestionControl vs c = record { own = refl; peer = refl }
set_ports RtoMin vs c = record { own = refl; peer = refl }
set_ports Reset vs c = record { own = refl; peer = refl }

pub left_ports : (gs : List GivenOption) (c d : Configuration) → Leave gs c d → SamePorts c d
left_ports [] c d is = subst (λ (e : Configuration). SamePorts c e) (sym is) (record { own = refl; peer = refl })
left_ports (g ∷ gs) c d (mid, (vs, are, is), leave) =
    let first : SamePorts c mid = subst (λ (e : Configuration). SamePorts c e) (sym is) (set_ports g.option vs c) in
    let others = left_ports gs mid d leave in
    record { own = others.own ∙ first.own; peer = others.peer ∙ first.peer }

pub left_at_ports : (named : Bool) (gs : List GivenOption) (c d : Configuration) → LeaveAt named gs c d → SamePorts c d
left_at_ports true gs c d (leave, fine) = left_ports gs c d leave
left_at_ports false gs c d is = subst (λ (e : Configuration). SamePorts c e) (sym is) (record { own = refl; peer = refl })

-- ---- what is read of one option's words

-- an option took words from the front, and set what they say
abbrev pub IsTaken : OptionName → (before after : List (List ℕ)) → Configuration → Option Configuration → Type 0
IsTaken o before after c r =
    (args : List (List ℕ)) × (before ≡ args ++ after) × (length args ≡ words_taken o)
    × MatchOption r ((d : Configuration) → Sets o args c d → ⊥) (λ d. Sets o args c d)

pub none_of_one : (f : Field) (w : List ℕ) → ((v : Value f) → IsValue f w v → ⊥) → (vs : Values Value (f ∷ [])) → AreValues Value IsValue (f ∷ []) (w ∷ []) vs → ⊥
none_of_one f w none vs are = none vs.0 (first_value f [] (w ∷ []) w [] vs refl are)

pub first_of_two : (f h : Field) (w v : List ℕ) → ((x : Value f) → IsValue f w x → ⊥)
    → (vs : Values Value (f ∷ h ∷ [])) → AreValues Value IsValue (f ∷ h ∷ []) (w ∷ v ∷ []) vs → ⊥
first_of_two f h w v none vs are = none vs.0 (first_value f (h ∷ []) (w ∷ v ∷ []) w (v ∷ []) vs refl are)

pub second_of_two : (f h : Field) (w v : List ℕ) → ((x : Value h) → IsValue h v x → ⊥)
    → (vs : Values Value (f ∷ h ∷ [])) → AreValues Value IsValue (f ∷ h ∷ []) (w ∷ v ∷ []) vs → ⊥
second_of_two f h w v none vs are = none_of_one h v none vs.1 (other_values f (h ∷ []) (w ∷ v ∷ []) w (v ∷ []) vs refl are)

-- what is left of an endpoint's configuration, said of equal ones
pub left_here : (n m : Bool) (gs : List GivenOption) (c d e : Configuration) → n ≡ m → c ≡ d → LeaveAt n gs c e → LeaveAt m gs d e
left_here n m gs c d e same_end same left =
    subst (λ (k : Bool). LeaveAt k gs d e) same_end (subst (λ (f : Configuration). LeaveAt n gs f e) same left)

-- the ports stay those of the other's peer
across_behind : (a b c d : Configuration) → AreAcross a b → SamePorts a c → SamePorts b d → AreAcross c d
across_behind a b c d across of_a of_b = record {
  to_b = of_b.own ∙ across.to_b ∙ sym of_a.peer;
  to_a = of_b.peer ∙ across.to_a ∙ sym of_a.own;
}

-- a line of options leaves both configurations
pub both_left : (line : List ℕ) (x : Ends) (gs : List GivenOption) (a b c d : Configuration) (r : Option TwoConfigs) → AreAcross a b → IsOptionsLine line x gs
    → LeaveAt (has_a x) gs a c → LeaveAt (has_b x) gs b d
    → MatchOption r (AreAcross c d → ⊥) (λ two. (two.a ≡ c) × (two.b ≡ d)) → FindsOptions line a b r
both_left line x gs a b c d None across is of_a of_b none =
    absurd (none (across_behind a b c d across (left_at_ports (has_a x) gs a c of_a) (left_at_ports (has_b x) gs b d of_b)))
both_left line x gs a b c d (Some two) across is of_a of_b (is_c, is_d) = (
  x,
  gs,
  is,
  (subst (λ (e : Configuration). LeaveAt (has_a x) gs a e) (sym is_c) of_a, subst (λ (e : Configuration). LeaveAt (has_b x) gs b e) (sym is_d) of_b),
)
