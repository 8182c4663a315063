use Rattle.sctp_send.proofs.kept.KnownLemmas.{known_less}
use Rattle.sctp_send.proofs.kept.outstanding.Outstanding.keep_stretches.Goals as goal

pub invariant_of-self : goal.invariant_of-self
invariant_of-self c =
    let s = c.self.inside in
    let h = c.self.invariant in
    record {
      counted = h.counted;
      order = h.order;
      within = h.within;
      here = h.here;
      there = h.there;
      known = known_less s.counts.header s.size s.by_ticket.first s.stretches.items c.keep_stretches.new.stretches.items s.entries.items c.keep_stretches.ensures h.known;
    }
