-- Which fragment a sender sends next, as a relation (RFC 9260, 6.1, 6.3.3 and 6.9; RFC 8260, 2.2.2 and 3.2).
use Rattle.std.specs.Prelude.{◌≡◌, ℕ, suc, ◌+◌, ◌%◌, ◌<◌, ◌≤◌, true, false, List, ◌∷◌, ◌++◌, length, Some}
use Rattle.sctp_model.specs.numbers.Lists.{Has}
use Rattle.sctp_model.specs.messages.Format.{Format, Plain, Interleaved, Lane}
use Rattle.sctp_model.specs.messages.Plan.{Message, Entry, Part, Plan, entry_at, message_at}
use Rattle.sctp_model.specs.sender.SenderView.{Queued, SenderView}
use Rattle.sctp_model.specs.sender.Entries.{entry_lane, entry_number}
use Rattle.sctp_model.specs.sender.Assigning.{with_message, with_entry}
use Rattle.sctp_model.specs.sender.Filling.{Wish}

-- ---- among the indexes assigned

-- the lowest of them that is so
pub record IsLowestSo (v : SenderView) (IsSo : ℕ → Type 0) (i : ℕ) : Type 0 where
  pub some : 0 < i
  pub assigned : i ≤ length v.plan.entries
  pub so : IsSo i
  pub lowest : (j : ℕ) → 0 < j → j < i → IsSo j → ⊥

-- none of them is so
abbrev pub IsNoneSo : SenderView → (ℕ → Type 0) → Type 0
IsNoneSo v IsSo = (i : ℕ) → 0 < i → i ≤ length v.plan.entries → IsSo i → ⊥

-- it is marked for retransmission
abbrev pub IsToRepeat : SenderView → (index : ℕ) → Type 0
IsToRepeat v i = v.marked i ≡ true

-- its fragment never went out, it isn't covered, and its message isn't abandoned
pub record IsToGo (v : SenderView) (i : ℕ) : Type 0 where
  pub entry : Entry
  pub stands : entry_at v.plan i ≡ Some entry
  pub unsent : v.sent i ≡ false
  pub uncovered : v.covered i ≡ false
  pub kept : v.abandoned (entry_lane entry) (entry_number entry) ≡ false

-- ---- what a stream sends in its turn

-- The last entry of a stream is fragment k of a message that has more.
pub record HasMore (p : Plan) (s : ℕ) (l : Lane) (n k : ℕ) : Type 0 where
  pub index : ℕ
  pub stands : entry_at p index ≡ Some (Part l n k)
  pub stream : l.stream ≡ s
  pub last : (j : ℕ) (e : Entry) → index < j → entry_at p j ≡ Some e → (entry_lane e).stream ≡ s → ⊥
  pub message : Message
  pub named : message_at p l n ≡ Some message
  pub more : suc k < length message.fragments

-- of the messages that wait, this one has waited longest on the stream; the others are left
pub record IsFirstOn (s : ℕ) (q : Queued) (waiting left : List Queued) : Type 0 where
  pub ahead : List Queued
  pub behind : List Queued
  pub queue : waiting ≡ ahead ++ q ∷ behind
  pub others : left ≡ ahead ++ behind
  pub stream : q.lane.stream ≡ s
  pub first : (x : Queued) → Has ahead x → x.lane.stream ≡ s → ⊥

-- The stream goes on with its message in part; if it has none, it begins the message that has waited longest. The turn is then the next stream's.
pub data SendsInTurn (v : SenderView) (s : ℕ) : SenderView → Type 0 where
  Goes_on : (l : Lane) (n k : ℕ) → HasMore v.plan s l n k
      → SendsInTurn v s (record v { plan = with_entry v.plan (Part l n (suc k)); turn = suc s % v.streams })
  Begins_one : (q : Queued) (others : List Queued) → ((l : Lane) (n k : ℕ) → HasMore v.plan s l n k → ⊥) → IsFirstOn s q v.queue others
      → SendsInTurn v s (record v { plan = with_message v.plan q 1; queue = others; turn = suc s % v.streams })

-- ---- what takes its index next

-- Under DATA all fragments of the message that has waited longest; under I-DATA the fragment of the first stream in turn that sends one: upward and
-- cyclic from the stream whose turn it is.
pub data TakesIndex (v : SenderView) : Format → SenderView → Type 0 where
  Whole_message : (q : Queued) (others : List Queued) → v.queue ≡ q ∷ others
      → TakesIndex v Plain (record v { plan = with_message v.plan q (length q.message.fragments); queue = others })
  In_turn : (d : ℕ) (u : SenderView) → d < v.streams → ((e : ℕ) (x : SenderView) → e < d → SendsInTurn v ((v.turn + e) % v.streams) x → ⊥)
      → SendsInTurn v ((v.turn + d) % v.streams) u → TakesIndex v Interleaved u

-- ---- the next wish

-- The lowest index to be repeated; if there is none, the lowest that is to go; if there is none either, what takes the next index.
pub data IsNextWish (f : Format) (v : SenderView) : Wish → Type 0 where
  Repeats_one : (i : ℕ) → IsLowestSo v (IsToRepeat v) i → IsNextWish f v (record { index = i; view = v })
  Sends_one : (i : ℕ) → IsNoneSo v (IsToRepeat v) → IsLowestSo v (IsToGo v) i → IsNextWish f v (record { index = i; view = v })
  Assigns_one : (u : SenderView) → IsNoneSo v (IsToRepeat v) → IsNoneSo v (IsToGo v) → TakesIndex v f u
      → IsNextWish f v (record { index = suc (length v.plan.entries); view = u })
