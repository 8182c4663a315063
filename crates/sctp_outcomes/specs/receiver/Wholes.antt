-- All whole messages among kept chunks, computed by trying every chunk and all that may follow it.
use Rattle.std.specs.Prelude.{ℕ, zero, suc, ◌==◌, nat_lt, max, not, ◌&&◌, ◌||◌, if◌then◌else◌, Bool, true, false, List, [], ◌∷◌, map, filter, Option, Some}
use Rattle.std.specs.Prelude.{None}
use Rattle.std.specs.List.{flat_map}
use Rattle.sctp_model.specs.messages.Format.{Format, Plain, Interleaved, Lane, same_lane}
use Rattle.sctp_model.specs.messages.Pieces.{Piece, fragment_of, same_number}

-- a message begins with this chunk
abbrev pub is_first_chunk : Format → Piece → Bool
is_first_chunk Plain x = x.begin
is_first_chunk Interleaved x = fragment_of x == 0

-- what rises by one from a fragment to the next
abbrev pub place_on_wire : Format → Piece → ℕ
place_on_wire Plain x = x.index
place_on_wire Interleaved x = fragment_of x

-- the second may go on where the first stops: under DATA a chunk that begins a message doesn't
abbrev pub may_follow : Format → Piece → Bool
may_follow Plain y = not y.begin
may_follow Interleaved y = true

-- the second is the fragment after the first
abbrev pub follows : Format → Piece → Piece → Bool
follows f x y =
    same_lane y.lane x.lane && (same_number y.number x.number && ((place_on_wire f y == suc (place_on_wire f x)) && may_follow f y))

-- one past the largest place
abbrev pub places : Format → List Piece → ℕ
places f [] = 0
places f (x ∷ xs) = max (suc (place_on_wire f x)) (places f xs)

-- the lists that begin with this chunk, if it is wanted
abbrev pub first_chunks : Bool → Piece → (Bool → Piece → List (List Piece)) → List (List Piece)
first_chunks false y more = []
first_chunks true y more = map (λ (ys : List Piece). y ∷ ys) (more y.end y)

-- all lists of kept chunks that go on after this one to the end of its message; no more than `depth` of them. The truth value is its flag E.
abbrev pub rows : Format → List Piece → (depth : ℕ) → Bool → Piece → List (List Piece)
rows f kept depth true x = [] ∷ []
rows f kept zero false x = []
rows f kept (suc depth) false x = flat_map (λ (y : Piece). first_chunks (follows f x y) y (rows f kept depth)) kept

-- all lists of kept chunks that are a whole message
abbrev pub wholes : Format → List Piece → List (List Piece)
wholes f kept = flat_map (λ (x : Piece). first_chunks (is_first_chunk f x) x (rows f kept (places f kept))) kept

-- ---- among them

-- those of a lane and number
abbrev pub is_number_of : Lane → ℕ → List Piece → Bool
is_number_of l n [] = false
is_number_of l n (x ∷ xs) = same_lane x.lane l && same_number x.number (Some n)

-- the index of the first chunk of a list
abbrev pub first_index : List Piece → ℕ
first_index [] = 0
first_index (x ∷ xs) = x.index

-- of two, the one whose first index is lower
abbrev pub lower : List Piece → Option (List Piece) → List Piece
lower w None = w
lower w (Some v) = if nat_lt (first_index v) (first_index w) then v else w

-- of several lists the one whose first index is lowest
abbrev pub lowest_first : List (List Piece) → Option (List Piece)
lowest_first [] = None
lowest_first (w ∷ ws) = Some (lower w (lowest_first ws))

-- the whole message of a lane and number, of several the one with the lowest index
abbrev pub whole_number : Format → List Piece → Lane → ℕ → Option (List Piece)
whole_number f kept l n = lowest_first (filter (is_number_of l n) (wholes f kept))

-- two lists of bytes, and two chunks, are the same
abbrev pub same_bytes : List ℕ → List ℕ → Bool
same_bytes [] [] = true
same_bytes [] (y ∷ ys) = false
same_bytes (x ∷ xs) [] = false
same_bytes (x ∷ xs) (y ∷ ys) = (x == y) && same_bytes xs ys

-- both are set, or neither
abbrev pub same_flag : Bool → Bool → Bool
same_flag true b = b
same_flag false b = not b

-- all fields are the same
abbrev pub same_piece : Piece → Piece → Bool
same_piece x y =
    (x.index == y.index) && (same_lane x.lane y.lane && (same_number x.number y.number
    && (same_flag x.begin y.begin && (same_flag x.end y.end && ((x.word == y.word) && same_bytes x.bytes y.bytes)))))

-- the chunk is among these
abbrev pub has_piece : List Piece → Piece → Bool
has_piece [] y = false
has_piece (x ∷ xs) y = same_piece x y || has_piece xs y

-- the first of the lists that has this chunk
abbrev pub first_with : Piece → List (List Piece) → Option (List Piece)
first_with y [] = None
first_with y (w ∷ ws) = if has_piece w y then Some w else first_with y ws

-- a whole message with this chunk
abbrev pub whole_with : Format → List Piece → Piece → Option (List Piece)
whole_with f kept y = first_with y (wholes f kept)
