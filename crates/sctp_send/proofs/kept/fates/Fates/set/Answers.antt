use Rattle.std.proofs.Common.{◌++◌, sym, arith, length-append}
use Rattle.std.proofs.lemmas.List.{set-append_right, set_past}
use Rattle.sctp_send.specs.inner.FateBlocks.{fates_of}
use Rattle.sctp_send.proofs.kept.FateLemmas.{long_ended}
use Rattle.sctp_send.proofs.kept.fates.Fates.set.Goals as goal

pub returns-then-place-len-clause-items : goal.returns-then-place-len-clause-items
returns-then-place-len-clause-items c = λ behind.
    let s = c.self.inside in
    let olds = long_ended s.ended s.blocks.items s.mixed.items s.recent.items c.self.invariant in
    rw (← c.self.view_is) (sym (set-append_right (fates_of s.mixed.items s.blocks.items) s.recent.items s.ended c.args.at c.args.fate olds (omega (arith, c.if-at-self.false))))

pub returns-else-place-len-clause-items : goal.returns-else-place-len-clause-items
returns-else-place-len-clause-items c = λ behind.
    let s = c.self.inside in
    let ends = fates_of s.mixed.items s.blocks.items in
    let olds = long_ended s.ended s.blocks.items s.mixed.items s.recent.items c.self.invariant in
    let long = length-append ends s.recent.items in
    rw (← c.self.view_is) (sym (set_past (ends ++ s.recent.items) c.args.at c.args.fate (omega (arith, olds, long, c.if-at-self.false, c.if-place-len.false, c.len.ensures, s.recent.ok.0))))
