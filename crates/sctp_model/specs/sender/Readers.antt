-- What a sender reports of itself, and of a message by its ticket.
use Rattle.std.specs.Prelude.{ℕ, suc, ◌+◌, ◌-◌, ◌==◌, if◌then◌else◌, Bool, not, ◌&&◌, ◌||◌, List, [], ◌∷◌, length, drop, is_some}
use Rattle.sctp_model.specs.messages.Plan.{Entry}
use Rattle.sctp_model.specs.sender.SenderView.{SenderView}
use Rattle.sctp_model.specs.sender.Words.{some_passes, lowest}
use Rattle.sctp_model.specs.sender.Entries.{is_of_abandoned, is_unsettled, some_entry, in_part, is_unsent}
use Rattle.sctp_model.specs.sender.Abandoning.{Name, name_of, is_covered, is_abandoned}

-- ---- of all

-- how many entries, from the first on, are of abandoned messages
abbrev pub abandoned_run : SenderView → List Entry → ℕ
abandoned_run v [] = 0
abandoned_run v (e ∷ es) = if is_of_abandoned v e then suc (abandoned_run v es) else 0

-- The point: CUM, and as many indexes after it as are all of abandoned messages (RFC 3758, 3.5).
abbrev pub point : SenderView → ℕ
point v = v.cum + abandoned_run v (drop v.cum v.plan.entries)

-- The data timer is wanted: something is unsettled, or a FORWARD is due as long as CUM hasn't reached the point (RFC 3758, 3.5).
abbrev pub unsettled : SenderView → Bool
unsettled v = some_entry v (is_unsettled v) || not (point v == v.cum)

-- how many indexes are assigned above CUM, and how many messages are in part
abbrev pub outstanding : SenderView → ℕ
outstanding v = length v.plan.entries - v.cum + in_part v

-- Something waits to be sent: a fragment that is marked or was never sent, a message without TSNs, or the rest of one.
abbrev pub has_more : SenderView → Bool
has_more v = is_some (lowest v.marked (length v.plan.entries)) || (some_entry v (is_unsent v) || not ((length v.queue == 0) && (in_part v == 0)))

-- no message waits, none is in part, and CUM is the last index assigned (RFC 9260, 9.2)
abbrev pub drained : SenderView → Bool
drained v = (length v.queue == 0) && ((in_part v == 0) && (v.cum == length v.plan.entries))

-- ---- of one message

-- the message with this name was acknowledged whole, and wasn't abandoned
abbrev pub is_acknowledged : SenderView → Name → Bool
is_acknowledged v n = is_covered v n && not (is_abandoned v n)

-- the message with this ticket has a number, and was acknowledged
abbrev pub acknowledged : SenderView → (ticket : ℕ) → Bool
acknowledged v t = some_passes (is_acknowledged v) (name_of v t)

-- the message with this ticket has a number, and was abandoned
abbrev pub abandoned : SenderView → (ticket : ℕ) → Bool
abandoned v t = some_passes (is_abandoned v) (name_of v t)
