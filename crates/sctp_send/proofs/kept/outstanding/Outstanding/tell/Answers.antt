use Rattle.std.proofs.Common.{◌<◌, length, refl, sym, ap, subst}
use Rattle.sctp_send.specs.PartsKept.{OutstandingKept}
use Rattle.sctp_send.specs.inner.Changes.{told}
use Rattle.sctp_send.specs.declared.kept.stretches.Stretch.{Stretch}
use Rattle.sctp_send.proofs.kept.TicketWalks.{entry_changed}
use Rattle.sctp_send.proofs.kept.TurnedLemmas.{same_ticket}
use Rattle.sctp_send.proofs.kept.outstanding.Outstanding.tell.Goals as goal

pub tell_one-requires : goal.tell_one-requires
tell_one-requires c = record {
  within = subst (λ (w : OutstandingKept). c.args.at < length w.items) (sym c.self.view_is) c.requires;
  counted = c.self.invariant.counted;
}

pub invariant_of-self : goal.invariant_of-self
invariant_of-self c =
    entry_changed c.args.at (told c.args.covered) (same_ticket c.args.covered) c.tell_one.ensures.items c.tell_one.ensures.counted c.tell_one.ensures.header c.tell_one.ensures.capacity c.index.ensures c.put_stretch.ensures.others
    (λ s there. ap (λ (x : Stretch). x.is_known) (c.put_stretch.ensures.here s there)) c.self.invariant

pub returns : goal.returns
returns c = rw (← c.self.view_is, c.tell_one.ensures.items, c.tell_one.ensures.header) refl
