use Rattle.std.specs.Prelude.{◌≡◌, ◌↔◌, List, length}
use Rattle.sctp_script.specs.OptionLines.{GivenOption, AreOptions}
use Rattle.sctp_script.proofs.options.are_options.Given as goal

-- the words left are options if and only if all of them are
abbrev pub invariant-loop-left : goal.invariant-loop-left
invariant-loop-left l = record {
  count : l.left ≡ length l.words;
  same : ((gs : List GivenOption) × AreOptions l.fn.words gs) ↔ ((gs : List GivenOption) × AreOptions l.words gs);
}

abbrev pub decreases-loop-left : goal.decreases-loop-left
decreases-loop-left l = l.left
