use Rattle.std.proofs.Common.{◌∙◌, ap, map}
use Rattle.sctp_send.specs.OutstandingFields.{item_meaning}
use Rattle.sctp_send.specs.PartsKept.{OutstandingKept}
use Rattle.sctp_send.specs.inner.Walks.{abandoned_items}
use Rattle.sctp_send.proofs.kept.FrontLemmas.{front_any}
use Rattle.sctp_send.proofs.kept.outstanding.Outstanding.front.Goals as goal

pub returns : goal.returns
returns c = λ size.
    let s = c.self.inside in
    c.self.invariant.counted.front ∙ front_any s.size size s.entries.items ∙ ap (λ (w : OutstandingKept). abandoned_items (map (item_meaning size) w.items)) c.self.view_is
