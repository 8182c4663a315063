use Rattle.std.proofs.Common.{refl}
use Rattle.sctp_model.specs.end.Closing.{rested}
use Rattle.sctp_model.specs.end.PeerFaults.{Unnoted, ToAcknowledge}
use Rattle.sctp_model.specs.end.Strays as model
use Rattle.sctp_model.specs.end.Arriving.{Last, EndsAnswered, Stopped}
use Rattle.sctp_terms.specs.Meanings.{reason_code}
use Rattle.sctp_endpoint.specs.inner.Acted.{notes_meaning}
use Rattle.sctp_endpoint.proofs.ChunksInTurn.{goes_on, passes_over}
use Rattle.sctp_endpoint.proofs.noting.note.Goals as goal

pub returns-in-GoesOn : goal.returns-in-GoesOn
returns-in-GoesOn c = λ tag v m left.
    let a = rw c.in-GoesOn.is at left in
    (rested a.0, c.advance_closing.ensures a.0 a.2, goes_on tag v a.0 (notes_meaning c.args.notes.now) Unnoted _ a.1)

pub returns-in-Acknowledges : goal.returns-in-Acknowledges
returns-in-Acknowledges c = λ tag v m left.
    let a = rw c.in-Acknowledges.is at left in
    let note = ToAcknowledge c.in-Acknowledges.is_data c.in-Acknowledges.at_once in (
      rested a.0,
      c.advance_closing-in-Acknowledges.ensures a.0 a.2,
      rw c.acknowledge.ensures (goes_on tag v a.0 (notes_meaning c.args.notes.now) note _ a.1),
    )

pub returns-in-PassedOver : goal.returns-in-PassedOver
returns-in-PassedOver c = λ tag v m left.
    let a = rw c.in-PassedOver.is at left in
    (v, a.1, passes_over tag v (notes_meaning c.args.notes.now) _ a.0)

pub returns-in-Ends : goal.returns-in-Ends
returns-in-Ends c = λ tag v m left.
    let a = rw c.in-Ends.is at left in
    (a.0, model.Taken, refl, λ rest. Last v a.0 (notes_meaning c.args.notes.now) _ rest a.1, refl, tt, a.2)

pub returns-in-Replies : goal.returns-in-Replies
returns-in-Replies c = λ tag v m left.
    let a = rw c.in-Replies.is at left in
    (a.0, model.Answer a.1, refl, λ rest. EndsAnswered v a.0 (notes_meaning c.args.notes.now) _ rest a.1 a.2, a.3, a.4, a.5)

pub returns-in-Drops : goal.returns-in-Drops
returns-in-Drops c = λ tag v m left.
    let a = rw c.in-Drops.is at left in
    (v, model.Dropped (reason_code c.in-Drops.reason), refl, λ rest. Stopped v (notes_meaning c.args.notes.now) _ rest _ a.0, refl, tt, a.1)
