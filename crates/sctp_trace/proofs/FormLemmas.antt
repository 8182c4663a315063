-- What clap's matches of the program's words ask for.
use Rattle.std.proofs.Common.{◌≡◌, ℕ, true, false, List, [], codes, Option, Some, None, refl, sym, ap, ◌∙◌, inl, inr, ◌⊎◌}
use Rattle.std.specs.Prelude.{option_map, unwrap_or, Box}
use Rattle.std.specs.Str.{bytes_eq}
use Rattle.std.specs.Box.{box_value}
use Rattle.std.proofs.lemmas.Bool.{cases_Bool}
use Rattle.std.proofs.lemmas.Slice.Eq.{bytes_eq-Decides}
use Rattle.std.specs.Borrow.{Bor}
use Rattle.clap.specs.Matches.{subcommand_name_of, found_of, first_value}
use Rattle.clap.specs.Simple.{is_simple, subcommand_of, subcommand_rows, subcommand_rows_of}
use Rattle.clap.specs.Walk.{Row, rows_of}
use Rattle.clap.proofs.OnLiterals.{clap_on_literals}
use Rattle.clap.proofs.WalkLemmas.{first_value-rows}
use Rattle.clap.specs.declared.parser.matches.ArgMatches.{ArgMatches}
use Rattle.clap.specs.declared.parser.matches.ArgMatches.TheViews.{out-ArgMatches, out-SubCommand}
use Rattle.clap.specs.declared.parser.matches.SubCommand.{SubCommand}
use Rattle.sctp_trace.specs.Forms.{commands, Run, Packet, Chunks, hex_of, asked_by}

-- another name than this one
other_name : (xs ys : List ℕ) → (xs ≡ ys → ⊥) → bytes_eq xs ys ≡ false
other_name xs ys ne = go (cases_Bool (bytes_eq xs ys))
  where
    go : (bytes_eq xs ys ≡ true) ⊎ (bytes_eq xs ys ≡ false) → bytes_eq xs ys ≡ false
    go (inl same) = absurd (ne ((bytes_eq-Decides xs ys).0 same))
    go (inr other) = other

abbrev Found : Type 0
Found = List ℕ × List Row

-- a subcommand of this name, with what it found
pub named : (found : Option Found) (name : List ℕ) (rows : List Row) → option_map (λ (p : Found). p.0) found ≡ Some name
    → option_map (λ (p : Found). p.1) found ≡ Some rows → found ≡ Some (name, rows)
named None name rows is has = cc
named (Some (n, rs)) name rows is has =
    let n_is : n ≡ name = cc in
    let rs_is : rs ≡ rows = cc in
    rw (n_is, rs_is) refl

pub asks_packet : (rows : List Row) → asked_by (Some (codes "packet", rows)) ≡ Packet (hex_of rows)
asks_packet rows = refl

pub asks_chunks : (rows : List Row) → asked_by (Some (codes "chunks", rows)) ≡ Chunks (hex_of rows)
asks_chunks rows = refl

-- a subcommand that is neither
pub asks_run : (found : Option Found) → (option_map (λ (p : Found). p.0) found ≡ Some (codes "packet") → ⊥)
    → (option_map (λ (p : Found). p.0) found ≡ Some (codes "chunks") → ⊥) → asked_by found ≡ Run
asks_run None packet chunks = refl
asks_run (Some (name, rows)) packet chunks =
    let not_packet = other_name name (codes "packet") (λ e. packet (ap (λ (n : List ℕ). Some n) e)) in
    let not_chunks = other_name name (codes "chunks") (λ e. chunks (ap (λ (n : List ℕ). Some n) e)) in
    rw (not_packet, not_chunks) refl

module _ {Z : Type 0} where
  name_found : (o : Option (Box SubCommand Z)) → option_map (λ b. (out-SubCommand (box_value b)).name.now) o ≡ option_map (λ (p : Found). p.0) (subcommand_rows o)
  name_found None = refl
  name_found (Some b) = refl

-- the name of the subcommand that a parse met is that of what it found
pub name_met : (m : ArgMatches) → subcommand_name_of m ≡ option_map (λ (p : Found). p.0) (subcommand_rows_of m)
name_met m = name_found (out-ArgMatches m).subcommand

-- the subcommand that the words name, where a parse met one of this name with these rows
pub met : (m : ArgMatches) (words : List (List ℕ)) (name : List ℕ) (rows : List Row) → subcommand_rows_of m ≡ subcommand_of commands words
    → subcommand_name_of m ≡ Some name → option_map (λ (p : Found). p.1) (subcommand_rows_of m) ≡ Some rows
    → subcommand_of commands words ≡ Some (name, rows)
met m words name rows same is has = sym same ∙ named (subcommand_rows_of m) name rows (sym (name_met m) ∙ is) has

-- the word for HEX, as the getter of the matches has it
pub word_of : (m : ArgMatches) (word : Option (Bor (List ℕ))) → option_map (λ s. s.now) word ≡ first_value (found_of m) (codes "HEX")
    → hex_of (rows_of (found_of m)) ≡ unwrap_or (option_map (λ s. s.now) word) []
word_of m word is = ap (λ (o : Option (List ℕ)). unwrap_or o []) (sym (first_value-rows (found_of m) (codes "HEX")) ∙ sym is)

-- the text of a word that is there, or of the one in its place
pub text_or : (word : Option (Bor (List ℕ))) (other : Bor (List ℕ)) → (unwrap_or word other).now ≡ unwrap_or (option_map (λ s. s.now) word) other.now
text_or None other = refl
text_or (Some s) other = refl

pub commands_are_simple : is_simple commands ≡ true
unfolding clap_on_literals
commands_are_simple = refl
