-- The two laws of a format that safety rests on: which chunks are a whole message, and what a FORWARD may make go.
use Rattle.std.specs.Prelude.{◌≡◌, ℕ, suc, ◌<◌, ◌≤◌, ◌⊎◌, false, List, ◌∷◌, length, slice_get, Some}
use Rattle.sctp_model.specs.numbers.Lists.{Has}
use Rattle.sctp_model.specs.messages.Format.{Format, Lane, is_numbered}
use Rattle.sctp_model.specs.messages.Plan.{Message, bytes_of, Part, Plan, entry_at, message_at}
use Rattle.sctp_model.specs.messages.Orderly.{Orderly}
use Rattle.sctp_model.specs.messages.Pieces.{Piece, piece_of, payload_of, IsNumberBelow, IsFragment}
use Rattle.sctp_model.specs.messages.Whole.{IsWhole, text_of}
use Rattle.sctp_model.specs.sender.SenderView.{SenderView, IsOfAbandoned, IsAllAbandoned}
use Rattle.sctp_model.specs.messages.Forward.{Skip, Forward, IsForward}
use Rattle.sctp_model.specs.receiver.Receiving.{IsWholeWith}

-- The chunks are, in order, all fragments of this message, each at an index of its own (RFC 9260, 6.9).
pub record IsMessage (f : Format) (p : Plan) (l : Lane) (n : ℕ) (m : Message) (xs : List Piece) : Type 0 where
  pub named : message_at p l n ≡ Some m
  pub count : length xs ≡ length m.fragments
  pub each : (k : ℕ) → k < length m.fragments →
      (i : ℕ) × (entry_at p i ≡ Some (Part l n k)) × (slice_get xs k ≡ Some (piece_of f i l n k m))

-- Chunks of the plan are whole exactly if they are one message, and then they carry its bytes and its payload id
-- (RFC 9260, 6.9; RFC 8260, 2.2.3).
pub record IsWholeJust (f : Format) (p : Plan) : Type 0 where
  pub one : (xs : List Piece) → ((x : Piece) → Has xs x → IsFragment f p x) → IsWhole f xs →
      (l : Lane) × (n : ℕ) × (m : Message) × IsMessage f p l n m xs
  pub whole : (l : Lane) (n : ℕ) (m : Message) (xs : List Piece) → IsMessage f p l n m xs → IsWhole f xs
  pub bytes : (l : Lane) (n : ℕ) (m : Message) (xs : List Piece) → IsMessage f p l n m xs → text_of xs ≡ bytes_of m
  pub payload : (l : Lane) (n : ℕ) (m : Message) (x : Piece) (xs : List Piece) → IsMessage f p l n m (x ∷ xs) → payload_of f x ≡ m.payload

-- the law of whole messages
abbrev pub WholeLaw : Format → Type 0
WholeLaw f = (p : Plan) → Orderly f p → IsWholeJust f p

-- The chunk at this index was taken: it is kept, or its message was delivered and no chunk of it is kept any more.
pub record IsTaken (f : Format) (p : Plan) (kept : List Piece) (i : ℕ) : Type 0 where
  pub chunk : Piece
  pub index : chunk.index ≡ i
  pub fragment : IsFragment f p chunk
  pub state : Has kept chunk ⊎ ((x : Piece) (k : ℕ) → Has kept x → entry_at p x.index ≡ Some (Part chunk.lane fragment.number k) → ⊥)

-- A receiver holds chunks of the plan, and each index up to c was taken or belongs to an abandoned message.
pub record IsUpTo (f : Format) (v : SenderView) (kept : List Piece) (c : ℕ) : Type 0 where
  pub chunks : (x : Piece) → Has kept x → IsFragment f v.plan x
  pub taken : (i : ℕ) → 0 < i → i ≤ c → IsTaken f v.plan kept i ⊎ IsOfAbandoned v i

-- A FORWARD makes a chunk go: by its number, if the format numbers its lane, and else by its index (RFC 3758, 3.6; RFC 8260, 2.3.1).
abbrev pub MakesGo : Format → Forward → Piece → Type 0
MakesGo f x y =
    ((s : Skip) × Has x.skips s × (s.lane ≡ y.lane) × IsNumberBelow (suc s.number) y.number)
    ⊎ ((is_numbered f y.lane.kind ≡ false) × (y.index ≤ x.point))

-- The law of skipping: what a FORWARD makes go, of what is kept, is of an abandoned message or is among all chunks of a whole one. So nothing else is lost
-- if whole messages are delivered first (RFC 3758, 3.6).
abbrev pub SkipLaw : Format → Type 0
SkipLaw f =
    (v : SenderView) (c p : ℕ) (x : Forward) (kept : List Piece) →
    Orderly f v.plan → c < p → IsAllAbandoned v c p → IsForward f v.plan c p x → IsUpTo f v kept c →
    (y : Piece) → Has kept y → MakesGo f x y → ((xs : List Piece) × IsWholeWith f kept y xs) ⊎ IsOfAbandoned v y.index
