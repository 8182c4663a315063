-- What was retransmitted as often as the limit of its message allows (RFC 7496, 3.1).
use Rattle.std.specs.Prelude.{◌≡◌, ℕ, ◌<◌, Bool, true, false, not, ◌&&◌, List, slice_get, Option, None, Some}
use Rattle.sctp_model.specs.sender.SenderView.{SenderView}
use Rattle.sctp_model.specs.sender.Abandoning.{is_worn_at, ticket_at}
use Rattle.sctp_send.specs.inner.Marking.{IsCapped, is_spent}
use Rattle.sctp_send.specs.inner.TicketOrder.{ticket_of}
use Rattle.sctp_send.specs.declared.kept.entry.Entry.{Entry as EntryFields}

-- what stands at an index is given up, and it is of the message with this ticket; or it isn't
abbrev pub WornAnswer : (ℕ → Bool) → SenderView → (index : ℕ) → Option ℕ → Type 0
WornAnswer test v i None = is_worn_at test v i ≡ false
WornAnswer test v i (Some t) = (is_worn_at test v i ≡ true) × (t ≡ ticket_at v i)

-- an entry of a message that isn't abandoned was retransmitted as often as that allows, or not, whatever number its count says
abbrev pub SaysSpent : (partial : Bool) → EntryFields → Bool → Type 0
SaysSpent p e b = (r : ℕ) → IsCapped r e → (not e.abandoned && is_spent p r e) ≡ b

-- no entry with a ticket above one is
abbrev pub NoneSpent : (partial : Bool) → (last : ℕ) → List EntryFields → Type 0
NoneSpent p last es = (n : ℕ) (e : EntryFields) → slice_get es n ≡ Some e → last < ticket_of e → SaysSpent p e false

-- an entry of this ticket is, and none between it and a lower one
pub record IsNextSpent (p : Bool) (last t : ℕ) (es : List EntryFields) : Type 0 where
  pub above : last < t
  pub at : ℕ
  pub entry : EntryFields
  pub there : slice_get es at ≡ Some entry
  pub mine : ticket_of entry ≡ t
  pub spent : SaysSpent p entry true
  pub before : (n : ℕ) (e : EntryFields) → slice_get es n ≡ Some e → last < ticket_of e → ticket_of e < t → SaysSpent p e false

-- the lowest ticket above one of which an entry is, or there is none
abbrev pub NextSpentAnswer : (partial : Bool) → (last : ℕ) → List EntryFields → Option ℕ → Type 0
NextSpentAnswer p last es None = NoneSpent p last es
NextSpentAnswer p last es (Some t) = IsNextSpent p last t es
