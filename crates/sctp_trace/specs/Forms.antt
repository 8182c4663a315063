-- Which words are a form of the program's, and what a form asks for: both as clap reads words.
use Rattle.std.specs.Prelude.{◌≡◌, ℕ, true, if◌then◌else◌, List, [], Option, Some, None, codes, unwrap_or}
use Rattle.std.specs.Str.{bytes_eq}
use Rattle.clap.specs.Simple.{App, Shape, new_shape, new_app, new_rule, with_rule, with_subcommand, subcommand_of}
use Rattle.clap.specs.Walk.{Rule, Row, first_of}
use Rattle.clap.specs.Faults.{fault_of}

-- the one word that `packet` and `chunks` take
abbrev pub hex_rule : Rule
hex_rule = record (new_rule (codes "HEX")) { required = true }

-- a subcommand with that word
abbrev pub with_hex : List ℕ → Shape
with_hex name = (with_rule (new_app name) hex_rule).top

-- the program as clap sees it: a subcommand is required, `run`, `packet` or `chunks`
abbrev pub commands : App
commands = with_subcommand (with_subcommand (with_subcommand (record {
  top = record (new_shape (codes "sctp-trace")) { subcommand_required = true };
  subs = [];
}) (new_shape (codes "run"))) (with_hex (codes "packet"))) (with_hex (codes "chunks"))

-- the words, the program's own name first, are a form: clap finds no fault in them
abbrev pub IsForm : List (List ℕ) → Type 0
IsForm words = fault_of commands words ≡ []

-- What a form asks for: the script on the input is run; or the packet, or the chunks, that a word says in hexadecimal are printed.
pub data Form : Type 0 where
  Run : Form
  Packet Chunks : (hex : List ℕ) → Form

-- the word for HEX among what clap found after a subcommand; in a form it is there
abbrev pub hex_of : List Row → List ℕ
hex_of rows = unwrap_or (first_of (codes "HEX") rows) []

-- what a subcommand asks for, by its name
abbrev pub asked_by : Option (List ℕ × List Row) → Form
asked_by None = Run
asked_by (Some (name, rows)) =
    if bytes_eq name (codes "packet") then Packet (hex_of rows)
    else if bytes_eq name (codes "chunks") then Chunks (hex_of rows)
    else Run

-- what words that are a form ask for
abbrev pub form_of : List (List ℕ) → Form
form_of words = asked_by (subcommand_of commands words)
