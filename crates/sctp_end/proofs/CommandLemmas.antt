-- The commands have names of their own, and a command with as many words as it has fields leaves none.
use Rattle.std.proofs.Common.{◌≡◌, List, [], ◌∷◌, ℕ, length, Some, refl, sym, ap, ◌∙◌, arith}
use Rattle.sctp_end.specs.Commands.{name_of, command_named}
use Rattle.sctp_end.specs.declared.command.Command.{Command}
use Rattle.sctp_end.specs.declared.command.Command.TheVariants.{Connect, Draw, At, Packet, Build, Send, Abandon, Acknowledged, Abandoned, Take, Reset, Resets, Shutdown, Abort, Next, State, Held, Reassembly, Status, Path, Counts}

-- a row for each command: by its name it is found again
named_again : (c : Command) → command_named (name_of c) ≡ Some c
named_again Connect = refl
named_again Draw = refl
named_again At = refl
named_again Packet = refl
named_again Build = refl
named_again Send = refl
named_again Abandon = refl
named_again Acknowledged = refl
named_again Abandoned = refl
named_again Take = refl
named_again Reset = refl
named_again Resets = refl
named_again Shutdown = refl
named_again Abort = refl
named_again Next = refl
named_again State = refl
named_again Held = refl
named_again Reassembly = refl
named_again Status = refl
named_again Path = refl
named_again Counts = refl

-- one name, one command
pub same_command : (c d : Command) → name_of c ≡ name_of d → c ≡ d
same_command c d names =
    let found : Some c ≡ Some d = sym (named_again c) ∙ ap command_named names ∙ named_again d in
    cc

-- no word is left
pub no_words : (words : List (List ℕ)) → length words ≡ 0 → words ≡ []
no_words [] none = refl
no_words (w ∷ ws) none = absurd (omega (arith, none))
