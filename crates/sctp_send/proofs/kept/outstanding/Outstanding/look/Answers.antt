use Rattle.std.proofs.Common.{◌≡◌, ◌+◌, ◌≤◌, ◌%◌, ℕ, length, ap, ◌∙◌, subst, arith}
use Rattle.std.specs.Prelude.{slice_get}
use Rattle.sctp_send.specs.PartsKept.{OutstandingKept}
use Rattle.sctp_send.specs.inner.Stretching.{index_at, slot_at}
use Rattle.sctp_send.proofs.kept.KnownLemmas.{SayTheSame, known_looked}
use Rattle.sctp_send.proofs.kept.outstanding.Outstanding.look.Goals as goal

pub invariant_of-self : goal.invariant_of-self
invariant_of-self c =
    let s = c.self.inside in
    let h = c.self.invariant in
    let es = s.entries.items in
    let at = c.args.at in
    let first = s.by_ticket.first in
    let now = c.put_stretch.new.stretches.items in
    let long : length es ≡ length c.args.self.now.items = ap (λ (k : OutstandingKept). length k.items) c.self.view_is in
    let within : at + 64 ≤ length es = omega (arith, long, c.requires) in
    let few : length es ≤ 32768 = omega (arith, c.len.ensures, s.entries.ok.0, c.if-len-gt-MOST_KNOWN.false) in
    let begins : index_at first at % 64 ≡ 0 = omega (arith, c.index-index.ensures, c.if-index-ne0.false) in
    record {
      counted = h.counted;
      order = h.order;
      within = h.within;
      here = h.here;
      there = h.there;
      known = known_looked s.counts.header s.size first at s.stretches.items now c.look_at_stretch-known.result es few within begins
          (subst (λ (i : ℕ). SayTheSame i now s.stretches.items) c.index-index.ensures c.put_stretch.ensures.others)
          (λ r there. c.put_stretch.ensures.here r (ap (λ (i : ℕ). slice_get now (slot_at i)) c.index-index.ensures ∙ there)) c.look_at_stretch-known.ensures h.known;
    }
