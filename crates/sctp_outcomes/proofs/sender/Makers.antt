-- How the examples write a sender's calls and what it says.
use Rattle.std.proofs.Common.{ℕ, Bool, false, List, [], ◌∷◌, map, None}
use Rattle.sctp_model.specs.messages.Format.{Format, ordered_lane, unordered_lane}
use Rattle.sctp_model.specs.wire.Chunk.{PieceMeaning, BlockMeaning, SackMeaning, ForwardMeaning, ChunkMeaning}
use Rattle.sctp_model.specs.sender.SenderView.{SenderView, SendLimits}
use Rattle.sctp_model.specs.sender.Queueing.{queued}
use Rattle.sctp_model.specs.sender.Filling.{Wish, chunk_of}

-- messages of 65,536 bytes at most, and no limit of the bytes that wait
abbrev pub plain_limits : SendLimits
plain_limits = record { message = 65536; queue = None }

-- an ordered message is queued on a stream
abbrev pub asks : SenderView → (stream payload : ℕ) → (bytes : List ℕ) → SenderView
asks v s payload bytes = queued v (ordered_lane s) payload bytes None None

-- an unordered one
abbrev pub asks_unordered : SenderView → (stream payload : ℕ) → (bytes : List ℕ) → SenderView
asks_unordered v s payload bytes = queued v (unordered_lane s) payload bytes None None

-- a data chunk by its flags U, B and E; the flag I is 0
abbrev pub piece : (unordered begin end : Bool) → (tsn stream number word : ℕ) → (bytes : List ℕ) → PieceMeaning
piece u b e tsn stream number word bytes = record {
  immediate = false;
  unordered = u;
  begin = b;
  end = e;
  tsn = tsn;
  stream = stream;
  number = number;
  word = word;
  bytes = bytes;
}

-- the chunks that wishes are
abbrev pub chunks : Format → List Wish → List ChunkMeaning
chunks f ws = map (chunk_of f) ws

-- their indexes
abbrev pub indexes : List Wish → List ℕ
indexes ws = map (λ w. w.index) ws

-- a SACK without duplicates
abbrev pub sack : (cumulative rwnd : ℕ) → List BlockMeaning → SackMeaning
sack c rwnd blocks = record { cumulative = c; rwnd = rwnd; blocks = blocks; duplicates = [] }

-- a block of a SACK
abbrev pub block : (start end : ℕ) → BlockMeaning
block s e = record { start = s; end = e }

-- a FORWARD that names one ordered number
abbrev pub names_one : (cumulative stream number : ℕ) → ForwardMeaning
names_one c s n = record { cumulative = c; skips = record { stream = s; unordered = false; number = n } ∷ [] }
