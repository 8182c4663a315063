-- Tickets that rise from the front of what waits: where one is.
use Rattle.std.proofs.Common.{◌≡◌, ℕ, ◌<◌, ◌≤◌, List, [], ◌∷◌, length, get_or, true, false, inl, inr, ap, ◌∙◌, arith, subst}
use Rattle.std.specs.Prelude.{nat_lt}
use Rattle.std.specs.List.Sorted.{IsPartitionedBy, IsPartitionPoint}
use Rattle.std.proofs.lemmas.Bool.{cases_lt}
use Rattle.std.proofs.lemmas.Bool.Decides.{nat_tests}
use Rattle.std.proofs.lemmas.List.{get_or_default, get_or-map}
use Rattle.std.specs.declared.sync.Arc.{Arc}
use Rattle.std.specs.declared.alloc.Global.{Global}
use Rattle.sctp_send.specs.inner.Owning.{messages_of}
use Rattle.sctp_send.specs.inner.Seating.{ticket_in, DoTicketsRise, IsPlaceOf}
use Rattle.sctp_send.specs.declared.kept.message.Message.{Message as MessageFields}
use Rattle.sctp_send.specs.declared.kept.waiting.Waiting.{Waiting}
use Rattle.sctp_send.proofs.kept.OwnedLemmas.{message_at, messages_long}

-- where the first one isn't lower none is
pub first_place : (t : ℕ) (ms : List (Arc MessageFields Global)) (x : Arc MessageFields Global) → DoTicketsRise ms → 0 < length ms → x ≡ get_or ms 0 x → t ≤ ticket_in x → IsPlaceOf t 0 ms
first_place t ms x h some read le = record {
  within = omega arith;
  lower = λ k d lt. absurd (omega (arith, lt));
  others = λ k d low lt.
      let own : ticket_in x ≡ ticket_in (get_or ms 0 d) = ap ticket_in (read ∙ get_or_default ms 0 x d some) in
      elim (cases_lt 0 k) [
        | inl behind ↦ let more = h 0 k d behind lt in omega (arith, more, own, le)
        | inr here ↦ let is : 0 ≡ k = omega (arith, here) in subst (λ (n : ℕ). t ≤ ticket_in (get_or ms n d)) is (omega (arith, own, le))
      ];
}

-- a search by halves finds the place of a ticket
pub can_search : (t : ℕ) (ws : List Waiting) → DoTicketsRise (messages_of ws) → IsPartitionedBy (λ w. nat_lt (ticket_in w.message) t) ws
can_search t ws h i j d le lt low = elim (cases_lt i j) [
  | inl less ↦
      let long = messages_long ws in
      let more = h i j d.message less (omega (arith, long, lt)) in
      let here = ap ticket_in (message_at ws i d) in
      let there = ap ticket_in (message_at ws j d) in
      grind (arith, nat_tests)
  | inr ge ↦ let same : j ≡ i = omega (arith, le, ge) in subst (λ (k : ℕ). nat_lt (ticket_in (get_or ws k d).message) t ≡ true) same low
]

pub searched : (t i : ℕ) (ws : List Waiting) → i ≤ length ws → IsPartitionPoint (λ w. nat_lt (ticket_in w.message) t ≡ true) (λ w. nat_lt (ticket_in w.message) t ≡ false) ws i → IsPlaceOf t i (messages_of ws)
searched t i [] le point = record { within = le; lower = λ k d lt. absurd (omega (arith, lt, le)); others = λ k d low lt. absurd (omega (arith, lt)) }
searched t i (w ∷ ws) le point =
    let long = messages_long (w ∷ ws) in
    record {
      within = omega (arith, long, le);
      lower = λ k d lt.
          let here = ap ticket_in (get_or-map (λ (x : Waiting). x.message) (w ∷ ws) k w d (omega (arith, lt, le))) in
          let low = point.0 k w (omega (arith, lt, le)) lt in
          grind (arith, nat_tests);
      others = λ k d low lt.
          let here = ap ticket_in (get_or-map (λ (x : Waiting). x.message) (w ∷ ws) k w d (omega (arith, long, lt))) in
          let high = point.1 k w low (omega (arith, long, lt)) in
          grind (arith, nat_tests);
    }

-- a ticket that is there is at its place
pub ticket_place : (t j place : ℕ) (ms : List (Arc MessageFields Global)) (x : Arc MessageFields Global) → DoTicketsRise ms → IsPlaceOf t place ms → j < length ms → ticket_in (get_or ms j x) ≡ t → place ≡ j
ticket_place t j place ms x h at lt is =
    let low : place ≤ j = elim (cases_lt j place) [ inl less ↦ absurd (let lower = at.lower j x less in omega (arith, lower, is)) | inr ge ↦ ge ] in
    elim (cases_lt place j) [
      | inl less ↦
          let lower = h place j x less lt in
          let no = at.others place x (omega arith) (omega (arith, less, lt)) in
          absurd (omega (arith, lower, no, is))
      | inr ge ↦ omega (arith, low, ge)
    ]
