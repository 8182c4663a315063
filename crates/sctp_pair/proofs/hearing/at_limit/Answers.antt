use Rattle.std.proofs.Common.{◌≡◌, ℕ, List, [], ◌∷◌, ◌++◌, map, option_map, refl, sym, ap, ◌∙◌, arith}
use Rattle.std.proofs.lemmas.Grind.{common_steps}
use Rattle.std.proofs.lemmas.List.{map-append}
use Rattle.sctp_send.specs.SenderAnswers.{is_at_limit}
use Rattle.sctp_script.specs.ReportText.{ticket_number}
use Rattle.sctp_values.specs.declared.ticket.Ticket.{Ticket}
use Rattle.sctp_pair.proofs.ListedLemmas.{listed_to, listed_more, listed_all}
use Rattle.sctp_pair.proofs.hearing.at_limit.Goals as goal

pub loop-init : goal.loop-init
loop-init c = λ v stands. (omega arith, omega arith, rw c.new-tickets.ensures.items refl)

pub loop-preserved : goal.loop-preserved
loop-preserved c = λ v stands.
    let before = c.loop.invariant v stands in
    let low = before.0 in
    let next = listed_more (is_at_limit v.sender) v.sender.tickets c.loop.last.0 c.in-Some.ticket.0 (sym (c.next_at_limit.ensures v stands) ∙ ap (option_map (λ (t : Ticket). t.0)) c.in-Some.is) in
    let above = next.above in
    let pushed : map ticket_number c.push.new.self.items ≡ map ticket_number c.loop.tickets.items ++ c.in-Some.ticket.0 ∷ [] = grind (arith, common_steps, map-append) in
    (omega (arith, low, above), next.given, pushed ∙ ap (λ (ks : List ℕ). ks ++ c.in-Some.ticket.0 ∷ []) before.2 ∙ sym next.more)

pub returns-in-None : goal.returns-in-None
returns-in-None c = λ v stands.
    let before = c.loop.invariant v stands in
    before.2 ∙ listed_all (is_at_limit v.sender) v.sender.tickets c.loop.last.0 before.1 (sym (c.next_at_limit.ensures v stands) ∙ ap (option_map (λ (t : Ticket). t.0)) c.in-None.is)

pub returns : goal.returns
returns c = λ v stands.
    let before = c.loop.invariant v stands in
    let low = before.0 in
    let high = before.1 in
    let given = c.tickets-end.ensures v stands in
    let all : c.loop.last.0 ≡ v.sender.tickets = omega (arith, low, high, given) in
    before.2 ∙ ap (listed_to (is_at_limit v.sender)) all
