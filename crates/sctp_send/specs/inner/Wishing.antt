-- What is to go out next, among what is kept, and whether it may flow (RFC 9260, 6.1 and 6.3.3).
use Rattle.std.specs.Prelude.{ℕ, suc, ◌+◌, ◌==◌, nat_le, not, ◌&&◌, ◌||◌, Bool, if◌then◌else◌, List, [], ◌∷◌, length, Option, None, Some, option_map, is_some}
use Rattle.sctp_model.specs.sender.Entries.{bytes_in}
use Rattle.sctp_model.specs.end.Control.{whole}
use Rattle.sctp_send.specs.SenderKept.{Item}

-- ---- searches

-- the first offset at which an item passes
abbrev pub first_offset : (Item → Bool) → List Item → Option ℕ
first_offset test [] = None
first_offset test (x ∷ xs) = if test x then Some 0 else option_map suc (first_offset test xs)

-- it is marked for repeating
abbrev pub is_item_marked : Item → Bool
is_item_marked x = x.marked

-- it never went out, and is wanted
abbrev pub is_item_unsent : Item → Bool
is_item_unsent x = not x.sent && (not x.covered && not x.abandoned)

-- one of the two
abbrev pub is_item_wanted : (again : Bool) → Item → Bool
is_item_wanted again x = if again then is_item_marked x else is_item_unsent x

-- one is found of the one kind, or of the other
abbrev pub some_pending : List Item → Bool
some_pending xs = is_some (first_offset is_item_marked xs) || is_some (first_offset is_item_unsent xs)

-- ---- bytes in flight

-- an item's data
abbrev pub item_bytes : Item → List ℕ
item_bytes x = bytes_in x.entry x.message

-- how many bytes of it are in flight
abbrev pub item_weight : Item → ℕ
item_weight x = if not x.marked && (x.sent && (not x.covered && not x.abandoned)) then length (item_bytes x) else 0

-- the bytes of all items that are in flight
abbrev pub item_flight : List Item → ℕ
item_flight [] = 0
item_flight (x ∷ xs) = item_weight x + item_flight xs

-- how many bytes of its chunk are in flight
abbrev pub item_chunk : (header : ℕ) → Item → ℕ
item_chunk header x = whole header (item_weight x)

-- the bytes of the chunks of all items that are in flight
abbrev pub item_chunks : (header : ℕ) → List Item → ℕ
item_chunks header [] = 0
item_chunks header (x ∷ xs) = item_chunk header x + item_chunks header xs

-- a first sending of so many bytes: nothing is in flight, or the window has room
abbrev pub lets_flow : (flight bytes rwnd : ℕ) → Bool
lets_flow flight bytes rwnd = (flight == 0) || nat_le (flight + bytes) rwnd
