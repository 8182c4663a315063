-- What a line says at its place in a script: behind the `pair` line lines of options may stand, which say what the endpoints' configurations are.
use Rattle.std.specs.Prelude.{◌≡◌, ℕ, ◌⊎◌, Bool, true, false, List}
use Rattle.sctp_model.specs.end.EndView.{Configuration}
use Rattle.sctp_words.specs.declared.line_fault.LineFault.TheVariants.{BadValue}
use Rattle.sctp_script.specs.declared.option_name.Ends.{Ends}
use Rattle.sctp_script.specs.Grammar.{LineMeaning, Silent, Pairs, Acts, Fault, Says}
use Rattle.sctp_script.specs.LimitedSends.{LimitedValues, limited_send, IsLimitedSend, HasNoLimit}
use Rattle.sctp_script.specs.FurtherLines.{IsNotFurther, SaysFurther}
use Rattle.sctp_script.specs.OptionLines.{GivenOption, IsOptionsLine, LeaveBoth}

-- The place of a line: before the `pair` line; directly after the pair, whose endpoints have these configurations, and of which no line has asked
-- anything; or after a line that has. After the `pair` line it says whether there was a line of options.
pub data Place : Type 0 where
  Unpaired : Place
  Behind : (with_options : Bool) → (a b : Configuration) → Place
  Acted : (with_options : Bool) → Place

-- there was a `pair` line
abbrev pub is_paired : Place → Bool
is_paired Unpaired = false
is_paired (Behind with_options a b) = true
is_paired (Acted with_options) = true

-- there was a line of options
abbrev pub has_options : Place → Bool
has_options Unpaired = false
has_options (Behind with_options a b) = with_options
has_options (Acted with_options) = with_options

-- What a line may say at its place: what it says whatever its place is, or that the endpoints have these configurations from now on.
pub data PlacedMeaning : Type 0 where
  Plain : (meaning : LineMeaning) → PlacedMeaning
  Configures : (a b : Configuration) → PlacedMeaning

-- the line isn't one of options
abbrev pub IsPlain : List ℕ → Type 0
IsPlain line = (x : Ends) (gs : List GivenOption) → IsOptionsLine line x gs → ⊥

-- What a line that isn't one of options says.
abbrev pub SaysPlain : Bool → List ℕ → PlacedMeaning → Type 0
SaysPlain paired line (Plain m) = Says paired line m
SaysPlain paired line (Configures a b) = ⊥

-- What a line says that is neither one of options nor a `send` with a limit of retransmissions, in a script with a line of options.
abbrev pub SaysUnlimited : List ℕ → PlacedMeaning → Type 0
SaysUnlimited line (Plain m) = SaysFurther line m ⊎ (IsNotFurther line × Says true line m)
SaysUnlimited line (Configures a b) = ⊥

-- What a line says that isn't one of options, after the `pair` line. Only a script with a line of options has limits of retransmissions and the further
-- commands.
abbrev pub SaysPaired : (with_options : Bool) → List ℕ → PlacedMeaning → Type 0
SaysPaired false line m = SaysPlain true line m
SaysPaired true line m =
    ((vs : LimitedValues) × IsLimitedSend line vs × (m ≡ Plain (Acts (limited_send vs)))) ⊎ (HasNoLimit line × SaysUnlimited line m)

-- What options for these endpoints say, if the endpoints have these configurations: what these are from now on, or that they can't be so.
abbrev pub OptionsSay : (a b : Configuration) → Ends → List GivenOption → PlacedMeaning → Type 0
OptionsSay a b x gs (Configures c d) = LeaveBoth x gs a b c d
OptionsSay a b x gs (Plain (Fault fault)) = (fault ≡ BadValue) × ((c d : Configuration) → LeaveBoth x gs a b c d → ⊥)
OptionsSay a b x gs (Plain Silent) = ⊥
OptionsSay a b x gs (Plain (Pairs c)) = ⊥
OptionsSay a b x gs (Plain (Acts w)) = ⊥

-- What a line says at its place. Only behind the pair a line of options says something of its own.
abbrev pub SaysAt : Place → List ℕ → PlacedMeaning → Type 0
SaysAt Unpaired line m = SaysPlain false line m
SaysAt (Behind with_options a b) line m =
    ((x : Ends) × (gs : List GivenOption) × IsOptionsLine line x gs × OptionsSay a b x gs m) ⊎ (IsPlain line × SaysPaired with_options line m)
SaysAt (Acted with_options) line m = SaysPaired with_options line m

-- a law: at its place a line says one thing, and nothing else
pub record SaysOneThingAt (place : Place) (line : List ℕ) : Type 0 where
  pub meaning : PlacedMeaning
  pub says : SaysAt place line meaning
  pub only : (m : PlacedMeaning) → SaysAt place line m → m ≡ meaning
