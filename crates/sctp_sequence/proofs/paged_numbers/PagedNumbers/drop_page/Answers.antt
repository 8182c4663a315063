use Rattle.std.proofs.Common.{◌≤◌, length, subst, sym}
use Rattle.sctp_sequence.specs.Pages.{NumbersKept}
use Rattle.sctp_sequence.proofs.PageLemmas.{pages_dropped}
use Rattle.sctp_sequence.proofs.paged_numbers.PagedNumbers.drop_page.Goals as goal

pub invariant_of-self : goal.invariant_of-self
invariant_of-self c =
    let s = c.self.inside in
    rw (c.drop_first.ensures.items, c.drop_page.ensures.items) (pages_dropped s.numbers.items s.leasts.items s.lowest c.self.invariant (subst (λ (w : NumbersKept). 64 ≤ length w.items) (sym c.self.view_is) c.requires))
