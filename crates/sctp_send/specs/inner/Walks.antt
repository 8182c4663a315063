-- What the private functions find out of what is kept, stream by stream and item by item.
use Rattle.std.specs.Prelude.{◌≡◌, ℕ, suc, ◌+◌, ◌-◌, Bool, true, false, not, ◌&&◌, ◌||◌, if◌then◌else◌, List, [], ◌∷◌, length, slice_get, slice_set, Option, None, Some}
use Rattle.sctp_model.specs.messages.Plan.{End}
use Rattle.sctp_model.specs.sender.Entries.{entry_lane, entry_number, entry_fragment, fragments_in}
use Rattle.sctp_model.specs.sender.Queueing.{owed_for}
use Rattle.sctp_model.specs.sender.Abandoning.{has_ticket}
use Rattle.sctp_send.specs.SenderKept.{Item, Rest, Track}
use Rattle.sctp_send.specs.declared.kept.message.Fate.{Fate}
use Rattle.sctp_send.specs.declared.kept.message.Fate.TheVariants.{Queued as StillQueued, Numbered, Withdrawn, Abandoned as WasAbandoned}

-- ---- sums over the streams

-- a sum over streams
abbrev pub total : (Track → ℕ) → List Track → ℕ
total f [] = 0
total f (t ∷ ts) = f t + total f ts

-- a stream whose message is in part counts for one
abbrev pub one_if_rest : Option Rest → ℕ
one_if_rest None = 0
one_if_rest (Some r) = 1

-- what a message in part owes
abbrev pub rest_owes : Option Rest → ℕ
rest_owes None = 0
rest_owes (Some r) = owed_for (length (fragments_in r.message) - entry_fragment r.entry)

-- ---- walks over the items

-- how many of the first items are of abandoned messages
abbrev pub abandoned_items : List Item → ℕ
abandoned_items [] = 0
abandoned_items (x ∷ xs) = if x.abandoned then suc (abandoned_items xs) else 0

-- it went out, and the peer may still need it
abbrev pub is_item_unsettled : Item → Bool
is_item_unsettled x = x.sent && (not x.covered && not x.abandoned)

-- some item went out, and is neither covered nor of an abandoned message
abbrev pub any_unsettled : List Item → Bool
any_unsettled [] = false
any_unsettled (x ∷ xs) = is_item_unsettled x || any_unsettled xs

-- the message was abandoned
abbrev pub is_abandoned_fate : Fate → Bool
is_abandoned_fate StillQueued = false
is_abandoned_fate Numbered = false
is_abandoned_fate Withdrawn = false
is_abandoned_fate WasAbandoned = true

-- how many messages were abandoned
abbrev pub how_many_abandoned : List Fate → ℕ
how_many_abandoned [] = 0
how_many_abandoned (x ∷ xs) = if is_abandoned_fate x then suc (how_many_abandoned xs) else how_many_abandoned xs

-- the message has a number, and was not abandoned
abbrev pub is_numbered_fate : Fate → Bool
is_numbered_fate StillQueued = false
is_numbered_fate Numbered = true
is_numbered_fate Withdrawn = false
is_numbered_fate WasAbandoned = false

-- ---- a message by its ticket

-- an item of the message with this ticket is not covered
abbrev pub is_item_uncovered : ℕ → Item → Bool
is_item_uncovered t x = has_ticket t x.message && not x.covered

-- some item of the message with this ticket is not covered
abbrev pub any_uncovered : ℕ → List Item → Bool
any_uncovered t [] = false
any_uncovered t (x ∷ xs) = is_item_uncovered t x || any_uncovered t xs

-- some item is of the message with this ticket
abbrev pub any_item : ℕ → List Item → Bool
any_item t [] = false
any_item t (x ∷ xs) = has_ticket t x.message || any_item t xs

-- what is left is of the message with this ticket
abbrev pub rest_has : ℕ → Option Rest → Bool
rest_has t None = false
rest_has t (Some r) = has_ticket t r.message

-- some stream goes on with the message with this ticket
abbrev pub any_rest : ℕ → List Track → Bool
any_rest t [] = false
any_rest t (x ∷ xs) = rest_has t x.rest || any_rest t xs

-- the stream with this number goes on with the message with this ticket
pub record GoesOnAt (t at : ℕ) (tracks : List Track) : Type 0 where
  pub track : Track
  pub there : slice_get tracks at ≡ Some track
  pub mine : rest_has t track.rest ≡ true

-- the stream that went on with this rest of the message goes on with nothing
pub record EndsAt (t : ℕ) (r : Rest) (before after : List Track) : Type 0 where
  pub at : ℕ
  pub track : Track
  pub there : slice_get before at ≡ Some track
  pub rest : track.rest ≡ Some r
  pub mine : has_ticket t r.message ≡ true
  pub now : after ≡ slice_set before at (record track { rest = None })

-- the end mark of a message with this rest (RFC 3758, 3.5: what is abandoned is not sent)
abbrev pub end_item : Rest → Item
end_item r = record {
  entry = End (entry_lane r.entry) (entry_number r.entry);
  message = r.message;
  sent = false;
  marked = false;
  covered = false;
  abandoned = true;
  repeats = 0;
}
