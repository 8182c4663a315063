-- Whether the next wish may go, by what is kept: room in the packet, bytes in flight, and the window.
use Rattle.std.proofs.Common.{◌≡◌, ℕ, suc, ◌+◌, ◌-◌, ◌<◌, ◌≤◌, List, [], ◌∷◌, ◌++◌, length, drop, Bool, true, false, Option, Some, refl, sym, ap, ◌∙◌, arith}
use Rattle.std.specs.Prelude.{nat_le, ◌&&◌}
use Rattle.std.proofs.lemmas.Bool.Decides.{nat_tests}
use Rattle.sctp_model.specs.numbers.Limits.{WINDOW}
use Rattle.sctp_model.specs.messages.Format.{Format, Plain, Interleaved, Lane}
use Rattle.sctp_model.specs.wire.Chunk.{ChunkMeaning, padded, size_of_chunk}
use Rattle.sctp_model.specs.wire.Packet.{size_of_chunks, size_of_packet}
use Rattle.sctp_model.specs.messages.Framing.{header_of}
use Rattle.sctp_model.specs.messages.Plan.{Message, Entry, Part}
use Rattle.sctp_model.specs.sender.SenderView.{SenderView}
use Rattle.sctp_model.specs.sender.Entries.{bytes_in, sum_from, flight_of, in_flight, in_part}
use Rattle.sctp_model.specs.sender.Assigning.{assigned}
use Rattle.sctp_model.specs.sender.Readers.{outstanding}
use Rattle.sctp_model.specs.sender.Filling.{Wish, newcomer, bytes_of_wish, chunk_of, room_of, may_go}
use Rattle.sctp_model.specs.sender.Reached.{IsReached}
use Rattle.sctp_model.proofs.sender.WishCases.{IsAssigned, Whole, Begun, Continued, assigned_cases}
use Rattle.sctp_model.proofs.sender.FillLaws.{room_some}
use Rattle.sctp_model.proofs.sender.Bounds.{is_bounded}
use Rattle.sctp_model.proofs.sender.FlightLaws.{flight_above, flight_assigned}
use Rattle.sctp_model.proofs.sender.OwedLaws.{is_windowed}
use Rattle.sctp_packet.specs.Draft.{Draft, room_in, has_room, with_chunks}
use Rattle.sctp_send.specs.SenderKept.{Kept}
use Rattle.sctp_send.specs.SenderStands.{items_from, Keeps}
use Rattle.sctp_send.specs.inner.Stocking.{said_chunk, FitsInto}
use Rattle.sctp_send.specs.OutstandingFields.{lane_meaning, message_meaning}
use Rattle.sctp_send.specs.declared.kept.entry.Content.TheVariants.{Fragment}
use Rattle.sctp_send.specs.declared.kept.message.Message.{Message as MessageFields}
pub use Rattle.sctp_send.specs.inner.Wishing.{item_bytes, item_weight, item_flight, lets_flow}

-- ---- room in the packet

size_joined : (ms : List ChunkMeaning) (m : ChunkMeaning) → size_of_chunks (ms ++ m ∷ []) ≡ size_of_chunks ms + size_of_chunk m
size_joined [] m = omega arith
size_joined (x ∷ ms) m = let rest = size_joined ms m in omega arith

-- a chunk that takes some room fits where there is so much room
fits_room : (d : Draft) (m : ChunkMeaning) → 0 < size_of_chunk m → has_room d m ≡ nat_le (size_of_chunk m) (room_in d)
fits_room d m some = let more = size_joined d.chunks m in same d.limit (size_of_chunks d.chunks) (size_of_chunk m) (size_of_packet (d.chunks ++ m ∷ [])) some (omega arith)
  where
    same : (limit old new all : ℕ) → 0 < new → all ≡ 12 + (old + new) → nat_le all limit ≡ nat_le new (limit - (12 + old))
    same limit old new all p is = rw is (grind (arith, nat_tests))

pub has_room_is : (f : Format) (d : Draft) (w : Wish) → has_room d (chunk_of f w) ≡ nat_le (room_of f w) (room_in d)
has_room_is f d w = fits_room d (chunk_of f w) (room_some f w)

-- the chunk of a message's entry fits by the bytes of its data alone
pub fits_by_length : (f : Format) (d : Draft) (base : Lane → ℕ) (initial i : ℕ) (e : Entry) (m : Option Message) → has_room d (said_chunk f base initial i e m) ≡ nat_le (padded (header_of f + length (bytes_in e m))) (room_in d)
fits_by_length Plain d base initial i e m = fits_room d (said_chunk Plain base initial i e m) (omega arith)
fits_by_length Interleaved d base initial i e m = fits_room d (said_chunk Interleaved base initial i e m) (omega arith)

-- so it fits whatever number and index it has
pub fits_any : (f : Format) (d : Draft) (size n : ℕ) (m : MessageFields) (k : ℕ) → ((base : Lane → ℕ) (initial i : ℕ) → has_room d (said_chunk f base initial i (Part (lane_meaning m) n k) (Some (message_meaning size m))) ≡ true) → FitsInto f d size m (Fragment k)
fits_any f d size n m k fits = λ base initial i j.
    let said = Some (message_meaning size m) in
    fits_by_length f d base initial i (Part (lane_meaning m) j k) said ∙ sym (fits_by_length f d base initial i (Part (lane_meaning m) n k) said) ∙ fits base initial i

-- what is left behind a chunk
pub room_more : (d : Draft) (m : ChunkMeaning) → room_in (with_chunks d (m ∷ [])) ≡ room_in d - size_of_chunk m
room_more d m = let more = size_joined d.chunks m in omega arith

-- ---- bytes in flight

items_fly : (v : SenderView) (i : ℕ) (es : List Entry) → item_flight (items_from v i es) ≡ sum_from (flight_of v) i es
items_fly v i [] = refl
items_fly v i (e ∷ es) = ap (λ (n : ℕ). flight_of v i e + n) (items_fly v (suc i) es)

pub flight_kept : (f : Format) (s : Kept) (v : SenderView) → Keeps f s v → in_flight v ≡ item_flight s.items
flight_kept f s v k = flight_above f v k.reached ∙ sym (items_fly v (suc v.cum) (drop v.cum v.plan.entries)) ∙ ap item_flight (sym k.holds.items)

-- ---- the tests in the order of the code

-- a view that calls reach has no more outstanding than the window holds
pub within_window : (f : Format) (v : SenderView) → IsReached f v → nat_le (outstanding v) WINDOW ≡ true
within_window f v h = let most = is_windowed f v h in let low = (is_bounded f v h).within in test (length v.plan.entries - v.cum + in_part v) WINDOW (omega arith)
  where
    test : (a b : ℕ) → a ≤ b → nat_le a b ≡ true
    test a b le = grind (arith, nat_tests)

-- an assignment sends nothing, and says nothing of the peer
record IsQuiet (v u : SenderView) : Type 0 where
  sent : u.sent ≡ v.sent
  rwnd : u.rwnd ≡ v.rwnd

is_quiet : (f : Format) (v u : SenderView) → IsAssigned v f u → IsQuiet v u
is_quiet _ v _ (Whole q rest is) = record { sent = refl; rwnd = refl }
is_quiet _ v _ (Begun j q lt idle first) = record { sent = refl; rwnd = refl }
is_quiet _ v _ (Continued j e lt on) = record { sent = refl; rwnd = refl }

-- what is assigned next was never sent
pub unsent_new : (f : Format) (v u : SenderView) → IsReached f v → assigned f v ≡ Some u → u.sent (suc (length v.plan.entries)) ≡ false
unsent_new f v u h is = ap (λ (g : ℕ → Bool). g (suc (length v.plan.entries))) (is_quiet f v u (assigned_cases f v u is)).sent ∙ (is_bounded f v h).unsent (suc (length v.plan.entries)) (omega arith)

-- what is assigned next must leave no more outstanding than the window holds
pub go_new : (f : Format) (s : Kept) (v u : SenderView) (room : ℕ) → Keeps f s v → assigned f v ≡ Some u
    → may_go f room (newcomer v u) ≡ (nat_le (room_of f (newcomer v u)) room && (lets_flow (item_flight s.items) (length (bytes_of_wish (newcomer v u))) s.rwnd && nat_le (outstanding u) WINDOW))
go_new f s v u room k is =
    let quiet = is_quiet f v u (assigned_cases f v u is) in
    let off = unsent_new f v u k.reached is in
    let flight : in_flight u ≡ item_flight s.items = flight_assigned f v u k.reached is ∙ flight_kept f s v k in
    let rwnd : u.rwnd ≡ s.rwnd = quiet.rwnd ∙ sym k.holds.rwnd in
    rw (off, flight, rwnd) refl
