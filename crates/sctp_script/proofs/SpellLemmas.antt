-- What the words of each command say is right.
use Rattle.std.proofs.Common.{◌≡◌, ℕ, Bool, true, false, not, inl, inr, List, [], ◌∷◌, Option, None, Some, MatchOption, refl, sym, ap, ◌∙◌, subst, arith}
use Rattle.sctp_model.specs.messages.Format.{Kind}
use Rattle.sctp_model.specs.messages.Framing.{lane_kind}
use Rattle.sctp_model.specs.end.EndView.{Configuration, Draw, IsDraw}
use Rattle.sctp_model.specs.end.Configured.{configuration_fault}
use Rattle.sctp_model.specs.world.World.{Side}
use Rattle.sctp_model.specs.world.Events.{Send}
use Rattle.sctp_send.specs.SenderAnswers.{lane_for}
use Rattle.sctp_events.specs.Events.{Wanted, Happens}
use Rattle.sctp_terms.specs.declared.mode.Mode.{Mode}
use Rattle.sctp_terms.specs.declared.mode.Mode.TheVariants.{Data, PartialData, IData, PartialIData}
use Rattle.sctp_terms.specs.Modes.{asked}
use Rattle.sctp_words.specs.Fields.{IsNumber, IsTag}
use Rattle.sctp_words.specs.declared.line_fault.LineFault.TheVariants.{PairOrder}
use Rattle.sctp_script.specs.declared.command.Command.{Command}
use Rattle.sctp_script.specs.declared.command.Command.TheVariants as command
use Rattle.sctp_script.specs.CanBe.{CanBe}
use Rattle.sctp_script.specs.Commands.{fields_of, draw_fields, is_pair}
use Rattle.sctp_script.specs.Configuration.{sizes, IsOfPair}
use Rattle.sctp_script.specs.Grammar.{LineMeaning, Silent, Pairs, Acts, Fault, CommandValues, AreGood, Spells, Says, meaning_of, draw_of}
use Rattle.sctp_script.proofs.FieldLemmas.{Given, AreGiven, first_value, other_values}
use Rattle.sctp_script.specs.Fields.{ATag, ANumber}
use Rattle.sctp_script.specs.LimitedSends.{limited_send}
use Rattle.sctp_script.specs.Places.{Place, Unpaired, Behind, Acted, Plain, SaysUnlimited, SaysPaired, SaysAt, is_paired}
use Rattle.sctp_script.specs.FurtherLines.{FurtherValues, further_wanted, AreOfFurther}
use Rattle.sctp_script.specs.declared.further_line.FurtherCommand.{FurtherCommand}
use Rattle.sctp_script.specs.declared.further_line.FurtherCommand.TheVariants as further_command

-- ---- what is wanted may be

abbrev IsRight : LineMeaning → Type 0
IsRight Silent = Unit {0}
IsRight (Pairs c) = IsOfPair c
IsRight (Acts w) = CanBe w
IsRight (Fault fault) = Unit {0}

drawn : (t u : List ℕ) (tag tsn : ℕ) → IsTag t tag → IsNumber 32 u tsn → IsDraw (draw_of tag tsn)
drawn t u tag tsn is_tag is_tsn = record { some = is_tag.1; tag = is_tag.0.1; tsn = is_tsn.1 }

same_fault : (m : Mode) (c : Configuration) → configuration_fault (asked m c) ≡ configuration_fault c
same_fault Data c = refl
same_fault PartialData c = refl
same_fault IData c = refl
same_fault PartialIData c = refl

of_pair : (m : Mode) (l f b s : ℕ) → configuration_fault (sizes l f b s) ≡ None → IsOfPair (asked m (sizes l f b s))
of_pair Data l f b s good = record { own_port = refl; peer_port = refl; faultless = good }
of_pair PartialData l f b s good = record { own_port = refl; peer_port = refl; faultless = same_fault PartialData (sizes l f b s) ∙ good }
of_pair IData l f b s good = record { own_port = refl; peer_port = refl; faultless = same_fault IData (sizes l f b s) ∙ good }
of_pair PartialIData l f b s good = record { own_port = refl; peer_port = refl; faultless = same_fault PartialIData (sizes l f b s) ∙ good }

-- SACKs that may wait change neither
of_delayed : (c : Configuration) → IsOfPair c → IsOfPair (record c { delay = true })
of_delayed c right = record { own_port = right.own_port; peer_port = right.peer_port; faultless = right.faultless }

said_right : (c : Command) (args : List (List ℕ)) (vs : CommandValues c) → AreGiven (fields_of c) args vs → AreGood c vs → IsRight (meaning_of c vs)
said_right command.Pair args (limit, (fragment, (buffer, (streams, (mode, rest))))) are good = of_pair mode limit fragment buffer streams good
said_right command.DelayedPair args (limit, (fragment, (buffer, (streams, (mode, rest))))) are good =
    of_delayed (asked mode (sizes limit fragment buffer streams)) (of_pair mode limit fragment buffer streams good)
said_right command.Open args vs are good =
    (record { some = omega arith; tag = omega arith; tsn = omega arith }, record { some = omega arith; tag = omega arith; tsn = omega arith })
said_right command.At args (moment, rest) (w, ws, is, number, others) good = number.1
said_right command.Draw args (tag, (tsn, rest)) (w, ws, is, is_tag, (v, vs, at, is_tsn, others)) good = drawn w v tag tsn is_tag is_tsn
said_right command.Connect args (tag, (tsn, rest)) (w, ws, is, is_tag, (v, vs, at, is_tsn, others)) good = drawn w v tag tsn is_tag is_tsn
said_right command.Build args vs are good = tt
said_right command.Deliver args vs are good = tt
said_right command.Foreign args (x, (bytes, rest)) (w, ws, is, side, (v, vs, at, hex, others)) good = hex.0
said_right command.Send args vs are good = tt
said_right command.Abandon args vs are good = tt
said_right command.Take args vs are good = tt
said_right command.Shutdown args vs are good = tt
said_right command.Abort args vs are good = tt

spelled_right : (c : Command) (args : List (List ℕ)) (m : LineMeaning) → Spells c args m → IsRight m
spelled_right c args m (vs, are, good, is) = subst IsRight (sym is) (said_right c args vs are good)

pub can_be : (paired : Bool) (line : List ℕ) (w : Wanted) → Says paired line (Acts w) → CanBe w
can_be paired line w (right, (c, args, is, spells)) = spelled_right c args (Acts w) spells

pub of_the_pair : (paired : Bool) (line : List ℕ) (d : Configuration) → Says paired line (Pairs d) → IsOfPair d
of_the_pair paired line d (right, (c, args, is, spells)) = spelled_right c args (Pairs d) spells

-- ---- order

not_pair : (c : Command) (args : List (List ℕ)) (w : Wanted) → Spells c args (Acts w) → is_pair c ≡ false
not_pair command.Pair args w spells = let is = spells.3 in cc
not_pair command.DelayedPair args w spells = let is = spells.3 in cc
not_pair _ args w spells = refl

pub follows : (paired : Bool) (line : List ℕ) (w : Wanted) → Says paired line (Acts w) → paired ≡ true
follows true line w says = refl
follows false line w says = absurd (says.0 PairOrder (says.1.0, says.1.1, says.1.2, not_pair says.1.0 says.1.1 w says.1.3))

further_can_be : (c : FurtherCommand) (args : List (List ℕ)) (vs : FurtherValues c) → AreOfFurther c args vs → CanBe (further_wanted c vs)
further_can_be further_command.Reset args vs are = tt
further_can_be further_command.Resets args vs are = tt
further_can_be further_command.Later args (x, (moment, rest)) (w, ws, is, side, (v, vs, at, number, others)) = number.1
further_can_be further_command.Moment args vs are = tt

unlimited_can_be : (line : List ℕ) (w : Wanted) → SaysUnlimited line (Plain (Acts w)) → CanBe w
unlimited_can_be line w (inl (c, args, is, asks)) = subst CanBe (sym asks.2) (further_can_be c args asks.0 asks.1)
unlimited_can_be line w (inr (none, says)) = can_be true line w says

paired_can_be : (o : Bool) (line : List ℕ) (w : Wanted) → SaysPaired o line (Plain (Acts w)) → CanBe w
paired_can_be false line w says = can_be true line w says
paired_can_be true line w (inl (vs, is, same)) =
    let wanted : w ≡ limited_send vs = cc in
    subst CanBe (sym wanted) tt
paired_can_be true line w (inr (none, says)) = unlimited_can_be line w says

pub follows_at : (place : Place) (line : List ℕ) (w : Wanted) → SaysAt place line (Plain (Acts w)) → is_paired place ≡ true
follows_at Unpaired line w says = follows false line w says
follows_at (Behind o a b) line w says = refl
follows_at (Acted o) line w says = refl

pub can_be_at : (place : Place) (line : List ℕ) (w : Wanted) → SaysAt place line (Plain (Acts w)) → CanBe w
can_be_at Unpaired line w says = can_be false line w says
can_be_at (Behind o a b) line w (inl options) = absurd options.3
can_be_at (Behind o a b) line w (inr plain) = paired_can_be o line w plain.1
can_be_at (Acted o) line w says = paired_can_be o line w says

abbrev IsNoPair : LineMeaning → Type 0
IsNoPair Silent = Unit {0}
IsNoPair (Pairs c) = ⊥
IsNoPair (Acts w) = Unit {0}
IsNoPair (Fault fault) = Unit {0}

is_the_pair : (c : Command) (args : List (List ℕ)) (d : Configuration) → Spells c args (Pairs d) → is_pair c ≡ true
is_the_pair command.Pair args d spells = refl
is_the_pair command.DelayedPair args d spells = refl
is_the_pair _ args d spells = absurd (subst IsNoPair (sym spells.3) tt)

pub leads : (paired : Bool) (line : List ℕ) (d : Configuration) → Says paired line (Pairs d) → paired ≡ false
leads false line d says = refl
leads true line d says = absurd (says.0 PairOrder (says.1.0, says.1.1, says.1.2, is_the_pair says.1.0 says.1.1 d says.1.3))

-- ---- what is read

-- two words that are no draw
no_draw : (words a b : List (List ℕ)) (t u : List ℕ) → words ≡ t ∷ a → a ≡ u ∷ b → ((x y : ℕ) → IsTag t x → IsNumber 32 u y → ⊥)
    → (vs : Given draw_fields) → AreGiven draw_fields words vs → ⊥
no_draw words a b t u is at none vs are =
    none vs.0 vs.1.0 (first_value ATag (ANumber 32 ∷ []) words t a vs is are)
    (first_value (ANumber 32) [] a u b vs.1 at (other_values ATag (ANumber 32 ∷ []) words t a vs is are))

-- two words and what was read of them
pub draw_said : (draw : Option Draw) (words a b : List (List ℕ)) (t u : List ℕ) → words ≡ t ∷ a → a ≡ u ∷ b → b ≡ []
    → MatchOption draw ((x y : ℕ) → IsTag t x → IsNumber 32 u y → ⊥) (λ d. IsTag t d.tag × IsNumber 32 u d.tsn)
    → MatchOption draw ((vs : Given draw_fields) → AreGiven draw_fields words vs → ⊥) (λ d. AreGiven draw_fields words (d.tag, (d.tsn, tt)))
draw_said None words a b t u is at left none = no_draw words a b t u is at none
draw_said (Some d) words a b t u is at left read = (t, a, is, read.0, (u, b, at, read.1, left))

-- a flag that is turned twice
kind_again : (b : Bool) (k : Kind) → lane_kind b ≡ k → lane_kind (not (not b)) ≡ k
kind_again true k is = is
kind_again false k is = is

-- a message of this kind and these bytes is the one that is sent
pub sends : (x : Side) (stream payload : ℕ) (until limit : Option ℕ) (b : Bool) (k : Kind) (bs cs : List ℕ) → lane_kind b ≡ k → bs ≡ cs
    → Happens (Send x (record { lane = lane_for stream (not b); payload = payload; bytes = bs; until = until; limit = limit }))
    ≡ Happens (Send x (record { lane = record { stream = stream; kind = k }; payload = payload; bytes = cs; until = until; limit = limit }))
sends x stream payload until limit b k bs cs kind bytes =
    let call = λ (l : Kind) (ds : List ℕ). Happens (Send x (record { lane = record { stream = stream; kind = l }; payload = payload; bytes = ds; until = until; limit = limit })) in
    ap (λ (l : Kind). call l bs) (kind_again b k kind) ∙ ap (λ (ds : List ℕ). call k ds) bytes
