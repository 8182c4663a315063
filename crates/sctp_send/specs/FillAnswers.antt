-- What `fill` answers, in terms of a view that the sender stands for.
use Rattle.std.specs.Prelude.{◌≡◌, ℕ, ◌<◌, ◌≤◌, ◌==◌, Bool, not, if◌then◌else◌, List, [], ◌∷◌, map, count_by, Some}
use Rattle.std.specs.List.{list_any, All}
use Rattle.sctp_model.specs.messages.Format.{Format}
use Rattle.sctp_model.specs.sender.SenderView.{SenderView}
use Rattle.sctp_model.specs.sender.Filling.{Wish, goes, IsFill, newly_numbered}
use Rattle.sctp_model.specs.sender.SentChunks.{chunk_of}
use Rattle.sctp_model.specs.end.Misses.{last_sent, goes_again}
use Rattle.sctp_packet.specs.Draft.{Draft, room_in, with_chunks}
use Rattle.sctp_send.specs.SenderKept.{Kept}
use Rattle.sctp_send.specs.SenderStands.{StandsFor}
use Rattle.sctp_send.specs.declared.fill.Filled.{Filled}
use Rattle.sctp_send.specs.declared.fill.sendings.Sendings.{Sendings}

-- The packet takes the chunks of FILL, the longest list of wishes that may go; the sender stands for the view that they leave; the tickets
-- told are those of the messages that took their numbers, by first TSN.
pub record FillAnswer (f : Format) (v : SenderView) (before after : Draft) (s : Kept) (filled : Filled) : Type 0 where
  pub wishes : List Wish
  pub view : SenderView
  pub fill : IsFill f v (room_in before) wishes view
  pub chunks : after ≡ with_chunks before (map (chunk_of f) wishes)
  pub stands : StandsFor f s view
  pub tickets : map (λ t. t.0) filled.tickets.items ≡ newly_numbered v view

-- A chunk could go into a packet with so much space.
pub record HasNext (f : Format) (v : SenderView) (room : ℕ) : Type 0 where
  pub wish : Wish
  pub next : goes f room v ≡ Some wish

-- ---- what was sent for the first time, and what again

-- a chunk that is sent for the first time
abbrev pub is_sent_first : Wish → Bool
is_sent_first w = not (w.view.sent w.index)

-- one that is retransmitted (RFC 9260, 6.3.3 and 7.2.4)
abbrev pub is_sent_again : Wish → Bool
is_sent_again w = w.view.sent w.index

-- how many chunks there are of each kind
abbrev pub sendings_of : List Wish → Sendings
sendings_of ws = record { first = count_by is_sent_first ws; again = count_by is_sent_again ws }

-- the indexes of those that are retransmitted
abbrev pub sent_again : List Wish → List ℕ
sent_again [] = []
sent_again (w ∷ ws) = if is_sent_again w then w.index ∷ sent_again ws else sent_again ws

-- numbers that rise, from above one on
abbrev pub AreRising : (above : ℕ) → List ℕ → Type 0
AreRising n [] = Unit {0}
AreRising n (i ∷ is) = (n < i) × AreRising i is

-- These are the indexes of what wishes retransmit, by rising index from above CUM, all of them sent before.
pub record AreSentAgain (v : SenderView) (ws : List Wish) (is : List ℕ) : Type 0 where
  pub exact : is ≡ sent_again ws
  pub those : (i : ℕ) → list_any (λ j. j == i) is ≡ goes_again ws i
  pub rising : AreRising v.cum is
  pub within : All (λ i. i ≤ last_sent v) is
