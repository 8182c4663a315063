use Rattle.std.proofs.Common.{◌≡◌, ◌-◌, ℕ, [], length, sym, ◌∙◌, ap, arith}
use Rattle.std.proofs.lemmas.Bool.Decides.{nat_tests}
use Rattle.std.proofs.lemmas.List.{nil_from_length}
use Rattle.sctp_model.specs.numbers.Serial.{tsn}
use Rattle.sctp_model.specs.receiver.ReceiverView.{held_bytes, room_left}
use Rattle.sctp_recv.specs.StandsFor.{StandsFor}
use Rattle.sctp_recv.proofs.GapLemmas.{told_run, none_told}
use Rattle.sctp_recv.proofs.ReceiverSteps.{cumulative_is}
use Rattle.sctp_recv.proofs.receiver.Receiver.plain_sack.Goals as goal
use Rattle.sctp_recv.proofs.receiver.Receiver.plain_sack.Goals.{then-has_runs-via-then-has_runs, then-has_runs-via-else-has_runs+then-has_some}

pub returns-then-has_runs : goal.returns-then-has_runs
unfolding StandsFor
returns-then-has_runs g c = λ v w t told no_block no_duplicate.
    elim c.then-has_runs.branch [
      | then-has_runs-via-then-has_runs b ↦ told_run c.args.self.now.seen.kept v t w.0.seen (grind (arith, b.if-has_runs.true, c.has_runs.ensures, nat_tests)) told no_block
      | then-has_runs-via-else-has_runs+then-has_some b ↦
          let none = ap length (sym w.0.duplicates ∙ sym (ap (λ x. x.duplicates) told.is) ∙ no_duplicate) in
          grind (arith, none, b.if-has_some.true, b.has_some.ensures, nat_tests)
    ]

pub returns : goal.returns
unfolding StandsFor
returns g c = λ v w.
    let s = c.args.self.now.seen.kept in
    let first = c.sack_words.ensures.cumulative ∙ ap (λ (i : ℕ). tsn i s.cumulative) (sym w.0.initial) in
    let room : c.sack_words.result.rwnd ≡ room_left v = let held = w.0.held in let all = w.0.buffer in let none = w.0.reserve in let left = c.sack_words.ensures.rwnd in omega arith in
    let none : s.runs ≡ [] = nil_from_length _ (grind (arith, c.if-has_runs.false, c.has_runs.ensures, nat_tests)) in
    let empty : [] ≡ v.duplicates = sym (w.0.duplicates ∙ nil_from_length _ (grind (arith, c.if-has_some.false, c.has_some.ensures, nat_tests))) in
    record {
      c = s.cumulative;
      runs = [];
      cumulative = cumulative_is s v w.0.seen;
      all = none_told s v w.0.seen none;
      is = λ i. record { cumulative = first i; rwnd = room i; blocks = []; duplicates = empty i };
    }
