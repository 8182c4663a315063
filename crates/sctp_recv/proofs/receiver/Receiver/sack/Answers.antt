use Rattle.std.proofs.Common.{◌≡◌, ◌-◌, ℕ, map, sym, ◌∙◌, ap, arith}
use Rattle.std.proofs.lemmas.List.{take-map}
use Rattle.sctp_model.specs.numbers.Limits.{BLOCK_LIMIT}
use Rattle.sctp_model.specs.numbers.Serial.{tsn}
use Rattle.sctp_model.specs.receiver.ReceiverView.{held_bytes, room_left}
use Rattle.sctp_recv.specs.Blocks.{block_of_run}
use Rattle.sctp_recv.specs.StandsFor.{StandsFor}
use Rattle.sctp_recv.proofs.BlockLemmas.{all_runs}
use Rattle.sctp_recv.proofs.ReceiverSteps.{cumulative_is}
use Rattle.sctp_recv.proofs.receiver.Receiver.sack.Goals as goal

pub returns-clause-sack : goal.returns-clause-sack
unfolding StandsFor
returns-clause-sack g c = λ v w.
    let s = c.args.self.now.seen.kept in
    let first = c.sack_words-words.ensures.cumulative ∙ ap (λ (i : ℕ). tsn i s.cumulative) (sym w.0.initial) in
    let room : c.sack_words-words.result.rwnd ≡ room_left v = let held = w.0.held in let all = w.0.buffer in let none = w.0.reserve in let left = c.sack_words-words.ensures.rwnd in omega arith in
    let lowest = c.in_ok-put_blocks.ensures.blocks ∙ sym (take-map (block_of_run s.cumulative) BLOCK_LIMIT s.runs) in
    let again = c.in_ok-put.ensures.words ∙ sym w.0.duplicates in
    record {
      c = s.cumulative;
      runs = map (block_of_run s.cumulative) s.runs;
      cumulative = cumulative_is s v w.0.seen;
      all = all_runs v s.cumulative s.runs w.0.seen.runs w.0.seen.above;
      is = λ i. record { cumulative = first i; rwnd = room i; blocks = lowest i; duplicates = again i };
    }

pub returns-clause-fits : goal.returns-clause-fits
returns-clause-fits g c = record {
  fields = record { cumulative = c.sack_words-words.ensures.fits.0; rwnd = c.sack_words-words.ensures.fits.1; blocks = c.in_ok-put_blocks.ensures.in_range; duplicates = c.in_ok-put.ensures.in_range };
  length = omega (arith, c.in_ok-put_blocks.ensures.few, c.in_ok-put.ensures.few);
  plain = tt;
}
