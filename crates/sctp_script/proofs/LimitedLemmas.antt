-- What is read of a line `send` with a limit of retransmissions.
use Rattle.std.proofs.Common.{◌≡◌, ℕ, ◌≤◌, true, List, [], ◌∷◌, length, Option, Some, None, Result, Ok, Err, IfOk, OnErr, MatchOption, refl, sym, ap, ◌∙◌, subst}
use Rattle.sctp_events.specs.declared.event.Event.{Event}
use Rattle.sctp_events.specs.Events.{event_meaning}
use Rattle.sctp_values.specs.declared.no_memory.NoMemory.{NoMemory}
use Rattle.sctp_script.specs.declared.command.Command.TheVariants as command
use Rattle.sctp_words.specs.declared.line_fault.LineError.TheVariants as error
use Rattle.sctp_script.specs.Commands.{arguments_of}
use Rattle.sctp_script.specs.ReadLineAnswer.{Refuses}
use Rattle.sctp_script.specs.Fields.{ASide, ANumber, AKind, ALimit, SomeBytes, IsValue}
use Rattle.sctp_script.specs.Grammar.{IsLineOf}
use Rattle.sctp_script.specs.LimitedSends.{LimitedValues, limited_send, AreLimited, IsLimitedSend, HasNoLimit}
use Rattle.sctp_script.proofs.FieldLemmas.{first_value, other_values}
use Rattle.sctp_script.proofs.LineLemmas.{others_of}
use Rattle.sctp_text.specs.declared.limits.TheConstants.{LONGEST_LINE}

-- the fifth of the words says no limit
pub fifth_says_none : (words a b c d e : List (List ℕ)) (t u v w x : List ℕ) → words ≡ t ∷ a → a ≡ u ∷ b → b ≡ v ∷ c → c ≡ w ∷ d → d ≡ x ∷ e
    → ((until : Option ℕ) (n : ℕ) → IsValue ALimit x (until, n) → ⊥) → (vs : LimitedValues) → AreLimited words vs → ⊥
fifth_says_none words a b c d e t u v w x first second third fourth fifth none vs are =
    let more = other_values ASide (ANumber 16 ∷ AKind ∷ ANumber 32 ∷ ALimit ∷ SomeBytes ∷ []) words t a vs first are in
    let behind = other_values (ANumber 16) (AKind ∷ ANumber 32 ∷ ALimit ∷ SomeBytes ∷ []) a u b vs.1 second more in
    let rest = other_values AKind (ANumber 32 ∷ ALimit ∷ SomeBytes ∷ []) b v c vs.1.1 third behind in
    let last = other_values (ANumber 32) (ALimit ∷ SomeBytes ∷ []) c w d vs.1.1.1 fourth rest in
    none vs.1.1.1.1.0.0 vs.1.1.1.1.0.1 (first_value ALimit (SomeBytes ∷ []) d x e vs.1.1.1.1 fifth last)

-- what the words after `send` say is what the line says
pub line_says : (line : List ℕ) (ws : List (List ℕ)) (r : Result (Option Event) NoMemory) → length line ≤ LONGEST_LINE → IsLineOf line command.Send ws
    → IfOk r (λ found. MatchOption found ((vs : LimitedValues) → AreLimited ws vs → ⊥) (λ e. (vs : LimitedValues) × AreLimited ws vs × (event_meaning e ≡ limited_send vs)))
    → IfOk r (λ found. MatchOption found (HasNoLimit line) (λ e. (vs : LimitedValues) × IsLimitedSend line vs × (event_meaning e ≡ limited_send vs)))
line_says line ws (Ok None) short is says =
    λ vs send. says vs (subst (λ (us : List (List ℕ)). AreLimited us vs) (ap others_of (sym send.line_is ∙ is)) send.values)
line_says line ws (Ok (Some e)) short is (vs, are, means) = (vs, record { short = short; args = ws; line_is = is; values = are }, means)
line_says line ws (Err _) short is says = says

-- and memory is wanted for its bytes alone
pub may_want : (line : List ℕ) (ws : List (List ℕ)) (r : Result (Option Event) NoMemory) → IsLineOf line command.Send ws → length ws ≡ arguments_of command.Send
    → OnErr r (Refuses true line error.NoMemory)
may_want line ws (Ok found) is count = tt
may_want line ws (Err _) is count = (command.Send, ws, is, count, refl)
