-- A line is of one command, and one that asks for something has no fault.
use Rattle.std.proofs.Common.{◌≡◌, ℕ, ◌≤◌, List, [], ◌∷◌, length, sym, ap, ◌∙◌, subst, arith}
use Rattle.sctp_end.specs.declared.command.Command.{Command}
use Rattle.sctp_end.specs.declared.call.Call.{Call}
use Rattle.sctp_words.specs.declared.line_fault.LineFault.TheVariants.{TooLong, UnknownCommand, WordCount, BadValue, PairOrder}
use Rattle.sctp_end.specs.Commands.{arguments_of}
use Rattle.sctp_end.specs.Grammar.{Spells, IsLineOf, HasNoFault}
use Rattle.sctp_end.proofs.CommandLemmas.{same_command}
use Rattle.sctp_text.specs.declared.limits.TheConstants.{LONGEST_LINE}

abbrev first_of : List (List ℕ) → List ℕ
first_of [] = []
first_of (w ∷ ws) = w

abbrev others_of : List (List ℕ) → List (List ℕ)
others_of [] = []
others_of (w ∷ ws) = ws

-- a line is of one command with one list of words behind it
one_command : (line : List ℕ) (c d : Command) (xs ys : List (List ℕ)) → IsLineOf line c xs → IsLineOf line d ys → c ≡ d
one_command line c d xs ys f g = same_command c d (ap first_of (sym f ∙ g))

one_list : (line : List ℕ) (c d : Command) (xs ys : List (List ℕ)) → IsLineOf line c xs → IsLineOf line d ys → xs ≡ ys
one_list line c d xs ys f g = ap others_of (sym f ∙ g)

-- a short line of a command that asks for something with its words has no fault
pub faultless : (line : List ℕ) (c : Command) (args : List (List ℕ)) (call : Call) → length line ≤ LONGEST_LINE → IsLineOf line c args
    → length args ≡ arguments_of c → Spells c args call → HasNoFault line
faultless line c args call short is count says TooLong f = omega (arith, short, f)
faultless line c args call short is count says UnknownCommand f = f.1 c args is
faultless line c args call short is count says WordCount (d, bs, at, other) =
    other (sym (ap length (one_list line c d args bs is at)) ∙ count ∙ ap arguments_of (one_command line c d args bs is at))
faultless line c args call short is count says BadValue (d, bs, at, other, none) =
    let same = one_command line c d args bs is at in
    let list = one_list line c d args bs is at in
    none call (subst (λ (x : Command). Spells x bs call) same (subst (λ (xs : List (List ℕ)). Spells c xs call) list says))
faultless line c args call short is count says PairOrder f = f
