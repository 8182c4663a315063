use Rattle.std.proofs.Common.{rules, ℕ, List, codes, sym, ap, ◌∙◌, map, string_bytes}
use Rattle.clap.specs.Matches.{found_of}
use Rattle.clap.specs.Walk.{rows_of}
use Rattle.sctp_trace.specs.Forms.{Packet, Chunks, asked_by}
use Rattle.sctp_trace.proofs.FormLemmas.{commands_are_simple, met, word_of, text_or}
use Rattle.sctp_trace.proofs.form.form_of.Goals as goal

-- the subcommand that was met has this name and these rows, and its word is the value of HEX
pub returns-in-Some-clause-form : goal.returns-in-Some-clause-form
returns-in-Some-clause-form c =
    let words = map string_bytes c.args.words.now in
    let packet = c.in-Some.packet.now in
    let is = met c.in-Ok.matches words (codes "packet") (rows_of (found_of packet)) (c.in-Ok.ensures.matches commands_are_simple).1
    (c.in-Some.ensures.found.0 (search rules)) c.in-Some.ensures.rows in
    let word = word_of packet c.get_str.result c.get_str.ensures in
    ap (λ (hex : List ℕ). Packet hex) (ap (λ w. w.now) c.unwrap_or.ensures ∙ (text_or c.get_str.result _ ∙ sym word)) ∙ sym (ap asked_by is)

pub returns-in-Some-subcommand_matches-clause-form : goal.returns-in-Some-subcommand_matches-clause-form
returns-in-Some-subcommand_matches-clause-form c =
    let words = map string_bytes c.args.words.now in
    let some = c.in-Some-subcommand_matches in
    let chunks = some.chunks.now in
    let is = met c.in-Ok.matches words (codes "chunks") (rows_of (found_of chunks)) (c.in-Ok.ensures.matches commands_are_simple).1
    (some.ensures.found.0 (search rules)) some.ensures.rows in
    let hex = c.get_str-in-Some-subcommand_matches in
    let word = word_of chunks hex.result hex.ensures in
    ap (λ (text : List ℕ). Chunks text) (ap (λ w. w.now) c.unwrap_or-in-Some-subcommand_matches.ensures ∙ (text_or hex.result _ ∙ sym word))
    ∙ sym (ap asked_by is)
