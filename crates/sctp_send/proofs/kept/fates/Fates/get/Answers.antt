use Rattle.std.proofs.Common.{sym, ◌∙◌, arith}
use Rattle.std.proofs.lemmas.List.{get_or_append_left, get_or-append_right}
use Rattle.sctp_send.specs.inner.FateBlocks.{fates_of}
use Rattle.sctp_send.proofs.kept.FateLemmas.{long_all, long_ended}
use Rattle.sctp_send.proofs.kept.fates.Fates.get.Goals as goal

pub index-requires : goal.index-requires
index-requires c =
    let s = c.self.inside in
    let long = long_all s.ended s.blocks.items s.mixed.items s.recent.items c.self.invariant in
    let low = rw (← c.self.view_is) at c.requires in
    omega (arith, long, low, s.recent.ok)

pub returns-then-at-self : goal.returns-then-at-self
returns-then-at-self c =
    let s = c.self.inside in
    let olds = long_ended s.ended s.blocks.items s.mixed.items s.recent.items c.self.invariant in
    rw (← c.self.view_is) (rw (c.deref.ensures.value, c.deref-then-at-self.ensures.value) at c.fate_in.ensures ∙ sym (get_or_append_left (fates_of s.mixed.items s.blocks.items) s.recent.items c.fate_in.result c.args.at (omega (arith, olds))))

pub returns-else-at-self : goal.returns-else-at-self
returns-else-at-self c =
    let s = c.self.inside in
    let olds = long_ended s.ended s.blocks.items s.mixed.items s.recent.items c.self.invariant in
    rw (← c.self.view_is) (c.index.ensures ∙ sym (get_or-append_right (fates_of s.mixed.items s.blocks.items) s.recent.items s.ended c.args.at c.index.result.now olds (omega arith)))
