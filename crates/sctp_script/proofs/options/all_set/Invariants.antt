use Rattle.std.specs.Prelude.{◌≡◌, ◌↔◌, List, length}
use Rattle.sctp_model.specs.end.EndView.{Configuration}
use Rattle.sctp_script.specs.OptionLines.{GivenOption, AreOptions, Leave}
use Rattle.sctp_script.proofs.options.all_set.Given as goal

-- the words left are options, which leave of what is set now what all of them leave
abbrev pub invariant-loop-left : goal.invariant-loop-left
invariant-loop-left l = record {
  count : l.left ≡ length l.words;
  options : (gs : List GivenOption) × AreOptions l.words gs;
  same : (gs : List GivenOption) → AreOptions l.fn.words gs
      → (rest : List GivenOption) × AreOptions l.words rest × ((c : Configuration) → Leave gs l.fn.settings c ↔ Leave rest l.left_so_far c);
}

abbrev pub decreases-loop-left : goal.decreases-loop-left
decreases-loop-left l = l.left
