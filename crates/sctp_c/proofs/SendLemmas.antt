-- What is said of a message that an end was handed is said of the one that C handed in: its bytes and its moment are the same.
use Rattle.std.proofs.Common.{◌≡◌, ℕ, List, subst}
use Rattle.std.specs.Prelude.{Option, Result}
use Rattle.sctp_model.specs.world.Calls.{Call}
use Rattle.sctp_model.specs.end.EndView.{EndView}
use Rattle.sctp_values.specs.declared.ticket.Ticket.{Ticket}
use Rattle.sctp_association.specs.CallAnswers.{SendAnswers, sent_view}
use Rattle.sctp_association.specs.declared.user.calls.Refused.{Refused}
use Rattle.sctp_endpoint.specs.declared.endpoint.Endpoint.{Endpoint}
use Rattle.sctp_c.specs.Holds.{Holds, GivesNotes}
use Rattle.sctp_c.specs.Told.{SendTold, Sends}

pub sends_same : (call : List ℕ → Option ℕ → Call) (v : EndView) (bytes given : List ℕ) (until moment : Option ℕ) (r : Result Ticket Refused) (e : Option Endpoint) (code ticket : ℕ)
    → bytes ≡ given → until ≡ moment → SendAnswers v (call bytes until) r → Holds e (sent_view v (call bytes until) r) → GivesNotes v r e
    → SendTold r code ticket → Sends v (call given moment) e code ticket
sends_same call v bytes given until moment r e code ticket same_bytes same_until answers step notes told =
    subst (λ (m : Option ℕ). Sends v (call given m) e code ticket) same_until
    (subst (λ (xs : List ℕ). Sends v (call xs until) e code ticket) same_bytes (record { answer = r; answers = answers; step = step; notes = notes; told = told }))
