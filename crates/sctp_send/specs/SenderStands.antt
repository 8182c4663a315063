-- When a sender stands for a view: what it keeps is what the view says, and the view is one that calls reach.
use Rattle.std.specs.Prelude.{◌≡◌, ℕ, zero, suc, ◌+◌, ◌≤◌, min, false, if◌then◌else◌, List, [], ◌∷◌, length, drop, Option, None, Some}
use Rattle.sctp_model.specs.messages.Format.{Format, ordered_lane, unordered_lane}
use Rattle.sctp_model.specs.messages.Plan.{Entry, Plan}
use Rattle.sctp_model.specs.numbers.Limits.{LONGEST_MESSAGE}
use Rattle.sctp_model.specs.sender.SenderView.{SendLimits, SenderView}
use Rattle.sctp_model.specs.sender.Entries.{entry_message, is_of_abandoned, continued}
use Rattle.sctp_model.specs.sender.Queueing.{owed_by_queue, owed_by_parts}
use Rattle.sctp_model.specs.sender.Abandoning.{Name, name_of, waits, is_abandoned}
use Rattle.sctp_model.specs.sender.Words.{last_that}
use Rattle.sctp_model.specs.sender.Reached.{IsReached}
use Rattle.sctp_send.specs.SenderKept.{Item, Rest, Track, Kept}
use Rattle.sctp_send.specs.ResetsKept.{AreResets}
use Rattle.sctp_send.specs.CoveredRuns.{AreCovered}
use Rattle.sctp_send.specs.ForwardKept.{IsForwardKept}
use Rattle.sctp_send.specs.inner.Walks.{any_item, any_rest, how_many_abandoned}
use Rattle.sctp_send.specs.inner.Dues.{AreDue}
use Rattle.sctp_send.specs.declared.kept.message.Fate.{Fate}
use Rattle.sctp_send.specs.declared.kept.message.Fate.TheVariants.{Queued as StillQueued, Numbered, Withdrawn, Abandoned as WasAbandoned}

-- the limits of every sender: a message has the bytes of the longest at most, and messages that wait are limited by their number alone
abbrev pub plain_limits : SendLimits
plain_limits = record { message = LONGEST_MESSAGE; queue = None }

-- what a function answers at n numbers from i on
abbrev pub table : {A : Type 0} → (ℕ → A) → ℕ → ℕ → List A
table f i zero = []
table f i (suc n) = f i ∷ table f (suc i) n

-- what the view says of an entry at an index
abbrev pub item_here : SenderView → ℕ → Entry → Item
item_here v i e = record {
  entry = e;
  message = entry_message v.plan e;
  sent = v.sent i;
  marked = v.marked i;
  covered = v.covered i;
  abandoned = is_of_abandoned v e;
  repeats = min (v.repeats i) 65535;
}

-- the same of entries one behind the other, the first of them at this index
abbrev pub items_from : SenderView → ℕ → List Entry → List Item
items_from v i [] = []
items_from v i (e ∷ es) = item_here v i e ∷ items_from v (suc i) es

-- what is left of a message in part, by the fragment that its stream takes next
abbrev pub rest_here : Plan → Option Entry → Option Rest
rest_here p None = None
rest_here p (Some e) = Some (record { entry = e; message = entry_message p e })

-- what the view says of a stream: its numbers so far (RFC 9260, 6.5; RFC 8260, 2.1), and its message in part
abbrev pub track_here : SenderView → ℕ → Track
track_here v s = record {
  ordered = length (v.plan.messages (ordered_lane s));
  unordered = length (v.plan.messages (unordered_lane s));
  rest = rest_here v.plan (continued v.plan s);
}

-- what became of a message without a number that waits no more, or of one with a number
abbrev pub fate_named : SenderView → Option Name → Fate
fate_named v None = Withdrawn
fate_named v (Some n) = if is_abandoned v n then WasAbandoned else Numbered

-- what became of the message with a ticket
abbrev pub fate_here : SenderView → ℕ → Fate
fate_here v t = if waits t v.queue then StillQueued else fate_named v (name_of v t)

-- What is kept is a function of the view: of the entries above CUM, of streams and of tickets, what they say now.
pub record Holds (s : Kept) (v : SenderView) : Type 0 where
  pub initial : s.initial ≡ v.initial
  pub streams : s.streams ≡ v.streams
  pub fragment : s.fragment ≡ v.fragment
  pub partial : s.partial ≡ v.partial
  pub cum : s.cum ≡ v.cum
  pub rwnd : s.rwnd ≡ v.rwnd
  pub turn : s.turn ≡ v.turn
  pub items : s.items ≡ items_from v (suc v.cum) (drop v.cum v.plan.entries)
  pub queue : s.queue ≡ v.queue
  pub tracks : s.tracks ≡ table (track_here v) 0 v.streams
  pub fates : s.fates ≡ table (fate_here v) 1 v.tickets
  pub covered : AreCovered s.runs v.covered v.cum
  -- there is room for the entry of each fragment without an index, and for an end mark of each message
  pub room : length s.items + (owed_by_queue v.queue + owed_by_parts v) ≤ s.capacity

-- Nothing is kept of the message with a ticket but its fate: it doesn't wait, it isn't in part, and it has no entry above CUM.
pub record IsOver (s : Kept) (t : ℕ) : Type 0 where
  pub queue : waits t s.queue ≡ false
  pub tracks : any_rest t s.tracks ≡ false
  pub items : any_item t s.items ≡ false

-- So it is with the first of the tickets that were given: those whose fates stand for good.
pub record AreOver (s : Kept) (given : ℕ) : Type 0 where
  pub within : s.ended ≤ given
  pub each : (t : ℕ) → t ≤ s.ended → IsOver s t

-- It is a view that calls reach, with these limits; tickets that count as ended are over, no ticket is late before its moment, the FORWARD that was built last is still true
-- of the entries that it was built from, resets are those that are kept, and the messages that were abandoned are counted.
pub record Keeps (f : Format) (s : Kept) (v : SenderView) : Type 0 where
  pub holds : Holds s v
  pub over : AreOver s v.tickets
  pub due : AreDue s v.tickets
  pub forward : IsForwardKept f v.resets.base v.streams v.plan.entries s.forward
  pub resets : AreResets v.streams s.resets v.resets
  pub before : s.before ≡ last_that v.sent v.cum
  pub counted : s.abandoned ≡ how_many_abandoned s.fates
  pub limits : v.limits ≡ plain_limits
  pub reached : IsReached f v

-- Stands for: hidden from the crates above, which know it by the clauses alone.
unfoldable pub StandsFor : Format → Kept → SenderView → Type 0
StandsFor f s v = Keeps f s v
