-- What goes into a packet: one wish after the other, as long as space, flow and window allow (RFC 9260, 6.1 and 6.3.3).
use Rattle.std.specs.Prelude.{◌≡◌, ℕ, zero, suc, ◌+◌, ◌-◌, ◌==◌, ◌≤◌, nat_le, Bool, true, false, ◌&&◌, ◌||◌, if◌then◌else◌, List, [], ◌∷◌, length, drop}
use Rattle.std.specs.Prelude.{filter_map, Option, Some, unwrap_or, option_map, option_and_then}
use Rattle.std.specs.Option.{option_map_or}
use Rattle.sctp_model.specs.numbers.Limits.{WINDOW}
use Rattle.sctp_model.specs.numbers.Lists.{at}
use Rattle.sctp_model.specs.messages.Format.{Format, ordered_lane}
use Rattle.sctp_model.specs.wire.Chunk.{ChunkMeaning, size_of_chunk}
use Rattle.sctp_model.specs.messages.Plan.{Entry, Part, End, Plan, entry_at}
use Rattle.sctp_model.specs.sender.SenderView.{SenderView}
use Rattle.sctp_model.specs.messages.Framing.{data_chunk}
use Rattle.sctp_model.specs.sender.Words.{when, first_there, lowest}
use Rattle.sctp_model.specs.sender.Entries.{entry_message, entry_bytes, is_unsent, passes_at, in_flight}
use Rattle.sctp_model.specs.sender.Assigning.{assigned}
use Rattle.sctp_model.specs.sender.Readers.{outstanding}
use Rattle.sctp_model.specs.sender.PieceSaid.{piece_said}

-- ---- the next wish

-- A fragment that is to go out: its index, and the view in which it has it.
pub record Wish : Type 0 where
  pub index : ℕ
  pub view : SenderView

-- what has this index already
abbrev pub standing : SenderView → (index : ℕ) → Wish
standing v i = record { index = i; view = v }

-- what takes the next index, in the view that it leaves
abbrev pub newcomer : SenderView → (after : SenderView) → Wish
newcomer v u = record { index = suc (length v.plan.entries); view = u }

-- The first that there is: the lowest index to be repeated; the lowest that never went out; what is assigned next.
abbrev pub next_wish : Format → SenderView → Option Wish
next_wish f v = first_there (
    option_map (standing v) (lowest v.marked (length v.plan.entries))
    ∷ option_map (standing v) (lowest (passes_at v.plan (is_unsent v)) (length v.plan.entries))
    ∷ option_map (newcomer v) (assigned f v)
    ∷ [])

-- ---- its chunk

-- the entry that goes out; no wish is for an index without one
abbrev pub wished : Wish → Entry
wished w = unwrap_or (entry_at w.view.plan w.index) (End (ordered_lane 0) 0)

-- its data
abbrev pub bytes_of_wish : Wish → List ℕ
bytes_of_wish w = entry_bytes w.view.plan (wished w)

-- its chunk, a DATA or an I-DATA
abbrev pub chunk_of : Format → Wish → ChunkMeaning
chunk_of f w = data_chunk f (piece_said f w.view.initial w.view.resets.base w.index (wished w) (entry_message w.view.plan (wished w)))

-- how much space its chunk takes in a packet, padded (RFC 9260, 3.2)
abbrev pub room_of : Format → Wish → ℕ
room_of f w = size_of_chunk (chunk_of f w)

-- ---- whether it may go

-- a first sending needs that nothing is in flight, or that the peer's window has space for its data, too (RFC 9260, 6.1, rule A); a repeat doesn't
abbrev pub is_let_flow : Wish → Bool
is_let_flow w =
    w.view.sent w.index
    || ((in_flight w.view == 0) || nat_le (in_flight w.view + length (bytes_of_wish w)) w.view.rwnd)

-- It fits into the space that is left, may flow, and leaves no more outstanding than the window holds.
abbrev pub may_go : Format → (room : ℕ) → Wish → Bool
may_go f room w = nat_le (room_of f w) room && (is_let_flow w && nat_le (outstanding w.view) WINDOW)

-- the next wish, if it may go; else the packet ends
abbrev pub goes : Format → (room : ℕ) → SenderView → Option Wish
goes f room v = option_and_then (λ w. when (may_go f room w) w) (next_wish f v)

-- how often it was retransmitted, once it is sent now
abbrev pub repeats_then : SenderView → (index : ℕ) → ℕ
repeats_then v i = if v.sent i then suc (v.repeats i) else v.repeats i

-- the fragment at an index went out, and needs no repeating now
abbrev pub with_sent : SenderView → (index : ℕ) → SenderView
with_sent v i = record v { sent = at v.sent i true; marked = at v.marked i false; repeats = at v.repeats i (repeats_then v i) }

-- the view that a wish leaves when it went
abbrev pub gone : Wish → SenderView
gone w = with_sent w.view w.index

-- ---- FILL

-- Each goes after those before it, into the space that they leave; u is the view after the last of them.
abbrev pub Follows : Format → SenderView → (room : ℕ) → List Wish → (u : SenderView) → Type 0
Follows f v room [] u = u ≡ v
Follows f v room (w ∷ ws) u = (goes f room v ≡ Some w) × Follows f (gone w) (room - room_of f w) ws u

-- FILL: of these lists the longest.
pub record IsFill (f : Format) (v : SenderView) (room : ℕ) (ws : List Wish) (u : SenderView) : Type 0 where
  pub follows : Follows f v room ws u
  pub longest : (xs : List Wish) (x : SenderView) → Follows f v room xs x → length xs ≤ length ws

-- ---- FILL, computed

-- wishes, and the view that they leave
pub record Fill : Type 0 where
  pub wishes : List Wish
  pub view : SenderView

-- no wish goes
abbrev pub no_more : SenderView → Fill
no_more v = record { wishes = []; view = v }

-- a wish goes before these
abbrev pub before_these : Wish → Fill → Fill
before_these w x = record { wishes = w ∷ x.wishes; view = x.view }

-- at most this many go
abbrev pub fill_at_most : (many : ℕ) → Format → (room : ℕ) → SenderView → Fill
fill_at_most zero f room v = no_more v
fill_at_most (suc many) f room v = option_map_or (λ w. before_these w (fill_at_most many f (room - room_of f w) (gone w))) (goes f room v) (no_more v)

-- Each chunk takes space, so no more go than there are bytes of space.
abbrev pub fill : Format → (room : ℕ) → SenderView → Fill
fill f room v = fill_at_most room f room v

-- ---- the tickets newly numbered

-- the entry is a message's first fragment
abbrev pub is_first : Entry → Bool
is_first (Part l n k) = k == 0
is_first (End l n) = false

-- the ticket of a message, reported with its first fragment
abbrev pub begun_ticket : Plan → Entry → Option ℕ
begun_ticket p e = option_and_then (λ m. when (is_first e) m.ticket) (entry_message p e)

-- the tickets of the messages that begin among these entries, by index
abbrev pub begun_tickets : Plan → List Entry → List ℕ
begun_tickets p es = filter_map (begun_ticket p) es

-- those that took their numbers from one view to a later one
abbrev pub newly_numbered : (before after : SenderView) → List ℕ
newly_numbered v u = begun_tickets u.plan (drop (length v.plan.entries) u.plan.entries)
