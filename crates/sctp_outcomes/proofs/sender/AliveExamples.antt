-- Window updates, the reserve of a receiver, the growth of the window, and long messages, computed.
use Rattle.std.proofs.Common.{◌≡◌, ℕ, true, false, Bool, List, [], ◌∷◌, length, Option, Some, None, refl, ◌==◌, ◌-◌, map}
use Rattle.std.specs.Prelude.{replicate, unwrap_or, option_map}
use Rattle.sctp_model.specs.wire.Chunk.{PieceMeaning}
use Rattle.sctp_model.specs.messages.Format.{Plain, Interleaved, ordered_lane}
use Rattle.sctp_model.specs.sender.SenderView.{SenderView, fresh_sender}
use Rattle.sctp_model.specs.sender.Queueing.{Refusal, TooLong, refusal}
use Rattle.sctp_model.specs.receiver.ReceiverView.{ReceiverView, fresh_receiver, room_left}
use Rattle.sctp_model.specs.receiver.PieceTaken.{PieceAnswer, NoRoom, Kept, answer_to}
use Rattle.sctp_model.specs.end.EndView.{Configuration, Established, ShutdownReceived, Phase, Open, EndView}
use Rattle.sctp_model.specs.end.Control.{Control, grown, recovering, control_expired}
use Rattle.sctp_model.specs.end.Opening.{opened}
use Rattle.sctp_model.specs.end.UserCalls.{updating}
use Rattle.sctp_model.specs.end.Building.{SackSlot, once_built, most_blocks}
use Rattle.sctp_model.specs.end.Configured.{ConfigurationFault, WrongWait, WrongReserve, WrongMessage, configuration_fault, plain_configuration, WrongQueue, WrongGrowth}
use Rattle.sctp_outcomes.proofs.sender.Makers.{piece}
use Rattle.sctp_model.proofs.sender.CutLaws.{length-cut}
use Rattle.sctp_model.specs.end.Cubic.{Cubic, Epoch, cube_root, cubic_at, epoch_begun, acked_cubic}

abbrev plain : Configuration
plain = plain_configuration 5000 5001 1500 1400 65536 3 7

-- ---- window updates (RFC 9260, 6.2)

-- an endpoint with an empty buffer of 65,536 that advertised this window last
abbrev advertised : (updates : Bool) → (offered : ℕ) → EndView
advertised updates offered = record (opened (record plain { updates = updates }) (record { tag = 7; tsn = 1 }) (record { tag = 9; tsn = 1 })) { offered = offered }

-- a quarter of the buffer more is advertised, a byte less isn't; nor without the option, nor if the peer sends no more; a SACK advertises the window
updates : ((updating (advertised true 49152)).due.sack ≡ true) × ((updating (advertised true 49153)).due.sack ≡ false) × ((updating (advertised false 0)).due.sack ≡ false)
    × ((updating (record (advertised true 0) { phase = Open (record { own = 7; peer = 9 }) ShutdownReceived })).due.sack ≡ false) × ((once_built SackSlot (advertised true 0)).offered ≡ 65536)
updates = (refl, refl, refl, refl, refl)

-- ---- the reserve (RFC 9260, 6.2)

-- a receiver with a buffer of 100 bytes, of which a gap leaves 40 free; a chunk of this many bytes at this TSN
abbrev answers : (reserve tsn many : ℕ) → PieceAnswer
answers reserve tsn many = answer_to Plain (fresh_receiver 1 1 100 reserve) 0 (piece false true true tsn 0 0 0 (replicate many 1))

-- the next one may fill the buffer; one after a gap leaves the reserve
reserves : answers 40 1 100 ∷ answers 40 1 101 ∷ answers 40 2 60 ∷ answers 40 2 61 ∷ answers 0 2 100 ∷ [] ≡ Kept ∷ NoRoom ∷ Kept ∷ NoRoom ∷ Kept ∷ []
reserves = refl

-- a full buffer: what is after a gap has filled it but for the reserve, and the next chunk is taken; without a reserve it isn't, and the gap stays
abbrev filled_behind : (reserve many : ℕ) → ReceiverView
filled_behind reserve many = record (fresh_receiver 1 1 100 reserve) {
  seen = λ i. i == 2;
  kept = record { index = 2; lane = ordered_lane 0; number = Some 1; begin = true; end = true; word = 0; bytes = replicate many 1 } ∷ [];
}

abbrev answered : (reserve many tsn bytes : ℕ) → PieceAnswer
answered reserve many tsn bytes = answer_to Plain (filled_behind reserve many) 0 (piece false true true tsn 0 (tsn - 1) 0 (replicate bytes 1))

full_buffer : answered 40 60 1 40 ∷ answered 40 60 1 41 ∷ answered 40 60 3 1 ∷ answered 0 100 1 1 ∷ [] ≡ Kept ∷ NoRoom ∷ NoRoom ∷ NoRoom ∷ []
full_buffer = refl

-- it isn't advertised
tells : room_left (fresh_receiver 1 1 100 40) ∷ room_left (fresh_receiver 1 1 100 0) ∷ [] ≡ 60 ∷ 100 ∷ []
tells = refl

-- ---- gap blocks (RFC 9260, 3.3.4)

-- 64, or as many as a packet of 576 or 1,500 bytes holds beside 16 duplicates
blocks : most_blocks plain ∷ most_blocks (record plain { all_blocks = true }) ∷ most_blocks (record plain { all_blocks = true; limit = 576 }) ∷ [] ≡ 64 ∷ 352 ∷ 121 ∷ []
blocks = refl

-- ---- growth (RFC 9260, 7.2.1)

abbrev window : (growth : ℕ) → (cwnd ssthresh acked : ℕ) → Control
window growth cwnd ssthresh acked = record { header = 16; size = 1000; growth = growth; cubic = None; cwnd = cwnd; ssthresh = ssthresh; acked = acked; burst = 9000; rescue = false; sent = true; full = false }

-- slow start by two packets, and no more than was acknowledged; congestion avoidance as before
doubles : ((grown true 2400 0 0 (window 2 4000 9000 0)).cwnd ≡ 6000) × ((grown true 1500 0 0 (window 2 4000 9000 0)).cwnd ≡ 5500) × ((grown true 3001 0 0 (window 2 5000 4000 2000)).cwnd ≡ 6000)
doubles = (refl, refl, refl)

-- ---- CUBIC (RFC 9438)

-- the largest number whose cube is not more
roots : map cube_root (0 ∷ 7 ∷ 8 ∷ 26 ∷ 27 ∷ []) ≡ 0 ∷ 1 ∷ 2 ∷ 2 ∷ 3 ∷ []
roots = refl

-- after a loss at 20 packets, a window that is reached again after 2,466 ms: 14 packets at first, then more, and past 20
along : map (cubic_at 1000 20000 2466) (0 ∷ 1000 ∷ 2466 ∷ 3000 ∷ 5000 ∷ []) ≡ 14002 ∷ 18740 ∷ 20000 ∷ 20060 ∷ 26508 ∷ []
along = refl

abbrev remembers : Epoch → Cubic
remembers e = record { peak = 20000; epoch = Some e }

-- the window of such an endpoint, in congestion avoidance, with this epoch
abbrev by_cubic : (cwnd : ℕ) → Epoch → Control
by_cubic cwnd e = record (window 1 cwnd 10000 0) { cubic = Some (remembers e) }

abbrev since : (additive : ℕ) → Epoch
since additive = record { start = 0; rise = 2466; origin = 20000; additive = additive }

-- two packets are acknowledged: toward the target; not if the window wasn't in use; to that of additive increase, if that is more; by half at most
opens : (grown true 2000 1000 100 (by_cubic 14000 (since 14000))).cwnd ∷ (grown false 2000 1000 100 (by_cubic 14000 (since 14000))).cwnd ∷ (grown true 2000 10 0 (by_cubic 14000 (since 15000))).cwnd
    ∷ (grown true 2000 20000 100 (by_cubic 14001 (since 14000))).cwnd ∷ [] ≡ 14711 ∷ 14000 ∷ 15075 ∷ 15000 ∷ []
opens = refl

-- without an epoch one begins: at the window of the loss or above it with no rise, below it with one
begins : (epoch_begun 7 1000 20000 20000).rise ∷ (epoch_begun 7 1000 20000 20000).origin ∷ (epoch_begun 7 1000 30000 20000).origin ∷ (acked_cubic 7 1000 20000 2000 (record (remembers (since 14000)) { epoch = None })).additive ∷ []
    ≡ 0 ∷ 20000 ∷ 30000 ∷ 20100 ∷ []
begins = refl

-- a loss leaves 0.7 of it, four packets at least, and forgets the epoch; a second one below the first remembers less; an expiry leaves one packet, and nothing remembered
abbrev after_loss : Control → List ℕ
after_loss k = k.cwnd ∷ k.ssthresh ∷ unwrap_or (option_map (λ (c : Cubic). c.peak) k.cubic) 0 ∷ []

loses : after_loss (recovering (by_cubic 20000 (since 14000))) ∷ after_loss (recovering (by_cubic 10000 (since 14000))) ∷ after_loss (recovering (by_cubic 5000 (since 14000))) ∷ after_loss (control_expired (by_cubic 20000 (since 14000))) ∷ []
    ≡ (14000 ∷ 14000 ∷ 20000 ∷ []) ∷ (7000 ∷ 7000 ∷ 8500 ∷ []) ∷ (4000 ∷ 4000 ∷ 4250 ∷ []) ∷ (1000 ∷ 14000 ∷ 0 ∷ []) ∷ []
loses = refl

-- ---- long messages

abbrev sends : (longest : ℕ) → SenderView
sends longest = fresh_sender 1 1 1400 100 true (record { message = longest; queue = None })

long : (bytes : List ℕ) → length bytes ≡ 262144 → (refusal (sends 262144) 0 bytes ≡ None) × (refusal (sends 262143) 0 bytes ≡ Some TooLong)
long bytes is = (rw (length-cut 1400 bytes) (rw is refl), rw is refl)

-- ---- faults of a configuration

faults : configuration_fault (record plain { first_wait = 0 }) ∷ configuration_fault (record plain { longest_wait = 999 }) ∷ configuration_fault (record plain { longest_wait = 60001 }) ∷ configuration_fault (record plain { reserve = 32769 })
    ∷ configuration_fault (record plain { longest_message = 45873801 }) ∷ configuration_fault (record plain { longest_message = 45873800; reserve = 32768; first_wait = 1; longest_wait = 1 })
    ∷ configuration_fault (record plain { queue_bytes = Some 65535 }) ∷ configuration_fault (record plain { queue_bytes = Some 65536 })
    ∷ configuration_fault (record plain { growth = 0 }) ∷ configuration_fault (record plain { growth = 16 }) ∷ []
    ≡ Some WrongWait ∷ Some WrongWait ∷ Some WrongWait ∷ Some WrongReserve ∷ Some WrongMessage ∷ None ∷ Some WrongQueue ∷ None ∷ Some WrongGrowth ∷ None ∷ []
faults = refl
