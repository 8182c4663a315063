use Rattle.std.proofs.Common.{◌<◌, length, refl, sym, subst}
use Rattle.sctp_send.specs.PartsKept.{OutstandingKept}
use Rattle.sctp_send.specs.inner.Changes.{stood}
use Rattle.sctp_send.proofs.kept.TicketWalks.{entry_changed}
use Rattle.sctp_send.proofs.kept.outstanding.Outstanding.stand.Goals as goal

pub stand_one-requires : goal.stand_one-requires
stand_one-requires c = record {
  within = subst (λ (w : OutstandingKept). c.args.at < length w.items) (sym c.self.view_is) c.requires;
  counted = c.self.invariant.counted;
}

pub invariant_of-self : goal.invariant_of-self
invariant_of-self c =
    entry_changed c.args.at (stood c.args.state) (λ e. refl) c.stand_one.ensures.items c.stand_one.ensures.counted c.stand_one.ensures.header c.stand_one.ensures.capacity c.index.ensures c.forget_stretch.ensures.others c.forget_stretch.ensures.here c.self.invariant

pub returns : goal.returns
returns c = rw (← c.self.view_is, c.stand_one.ensures.items, c.stand_one.ensures.header) refl
