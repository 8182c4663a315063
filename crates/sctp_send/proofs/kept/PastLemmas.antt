-- Tickets up to one of which no entry and no message in part is kept.
use Rattle.std.proofs.Common.{◌≡◌, ℕ, suc, ◌+◌, ◌<◌, ◌≤◌, List, [], ◌∷◌, map, false, Some, inl, inr, refl, arith}
use Rattle.std.specs.Prelude.{◌==◌, slice_get}
use Rattle.std.proofs.lemmas.Bool.Decides.{nat_tests}
use Rattle.sctp_sequence.specs.declared.pairs.Pair.{Pair}
use Rattle.sctp_model.specs.sender.Abandoning.{has_ticket}
use Rattle.sctp_send.specs.OutstandingFields.{item_meaning}
use Rattle.sctp_send.specs.inner.Walks.{any_item}
use Rattle.sctp_send.specs.inner.TicketOrder.{ticket_of, tickets_of}
use Rattle.sctp_send.specs.inner.TicketHeads.{AreAbove}
use Rattle.sctp_send.specs.declared.kept.heads.Heads.{Heads}
use Rattle.sctp_send.specs.declared.kept.entry.Entry.{Entry as EntryFields}
use Rattle.sctp_send.proofs.kept.TicketWalks.{ticket_read}

none_item : (t size : ℕ) (es : List EntryFields) → ((n : ℕ) (e : EntryFields) → slice_get es n ≡ Some e → has_ticket t (item_meaning size e).message ≡ false) → any_item t (map (item_meaning size) es) ≡ false
none_item t size [] each = refl
none_item t size (e ∷ es) each = rw (each 0 e refl) (none_item t size es (λ n d there. each (suc n) d there))

-- the entry is of another message
abbrev pub IsOfAnother : (ticket size : ℕ) → EntryFields → Type 0
IsOfAnother t size e = has_ticket t (item_meaning size e).message ≡ false

-- if the walk above a ticket has passed none
pub past_item : (es : List EntryFields) (first : ℕ) (ps : List Pair) (d : Heads) (last t size : ℕ) → d.front + d.rank ≡ 0 → AreAbove last (tickets_of es) first ps d → t ≤ last → any_item t (map (item_meaning size) es) ≡ false
past_item es first ps d last t size none above le = none_item t size es each
  where
    other : (e : EntryFields) → last < ticket_of e → IsOfAnother t size e
    other e lt = let off : (ticket_of e == t) ≡ false = grind (arith, nat_tests) in off

    each : (n : ℕ) (e : EntryFields) → slice_get es n ≡ Some e → IsOfAnother t size e
    each n e read = elim (above.higher n (ticket_of e) (ticket_read es n e read)) [
      | inl passed ↦ absurd (elim passed [ inl lt ↦ omega (arith, lt, none) | inr pair ↦ let lt = pair.1 in omega (arith, lt, none) ])
      | inr lt ↦ other e lt
    ]
