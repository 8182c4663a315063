use Rattle.std.proofs.Common.{ℕ, ◌<◌, ◌≤◌, get_or}
use Rattle.sctp_sequence.specs.Pages.{AreLeast}
use Rattle.sctp_sequence.proofs.pages.look_at.Given as goal

-- the pages are looked at up to here
abbrev pub invariant-loop-page : goal.invariant-loop-page
invariant-loop-page l = record {
  pages : AreLeast l.numbers.items l.leasts;
  first : (k d : ℕ) → k < l.page → l.lowest ≤ get_or l.leasts k d;
}
