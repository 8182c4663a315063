-- SACKs and SHUTDOWNs taken, computed: faults and their order, over the wrap of the TSN; marks, covers and uncovers.
use Rattle.std.proofs.Common.{◌≡◌, ℕ, true, false, List, [], ◌∷◌, map, Option, Some, None, refl}
use Rattle.sctp_model.specs.messages.Format.{Plain}
use Rattle.sctp_model.specs.wire.Chunk.{BlockMeaning}
use Rattle.sctp_model.specs.sender.SenderView.{SenderView, fresh_sender}
use Rattle.sctp_model.specs.sender.Entries.{in_flight}
use Rattle.sctp_model.specs.sender.Filling.{fill}
use Rattle.sctp_model.specs.sender.SackTaken.{SackFault, sack_fault, sack_after, shutdown_fault, shutdown_after, Stale, Beyond, BadBlock}
use Rattle.sctp_model.specs.sender.Abandoning.{timed_out}
use Rattle.sctp_outcomes.proofs.sender.Makers.{asks, indexes, sack, block, plain_limits}

-- five fragments of 4 bytes went out, with the TSNs 4294967294, 4294967295, 0, 1 and 2
abbrev out : SenderView
out = (fill Plain 200 (asks (fresh_sender 4294967294 1 4 100 true plain_limits) 0 0 (1 ∷ 2 ∷ 3 ∷ 4 ∷ 5 ∷ 6 ∷ 7 ∷ 8 ∷ 9 ∷ 10 ∷ 11 ∷ 12 ∷ 13 ∷ 14 ∷ 15 ∷ 16 ∷ 17 ∷ 18 ∷ 19 ∷ 20 ∷ []))).view

-- ---- faults

abbrev fault_of : (cumulative : ℕ) → List BlockMeaning → Option SackFault
fault_of c blocks = sack_fault out (sack c 100 blocks)

-- the one before the first TSN is CUM; older is stale, whatever the blocks are; past TSN 2, or a block's end past it, is beyond
faults : fault_of 4294967293 [] ∷ fault_of 4294967292 (block 0 9 ∷ []) ∷ fault_of 2 [] ∷ fault_of 3 [] ∷ fault_of 4294967295 (block 2 3 ∷ []) ∷ fault_of 4294967295 (block 2 4 ∷ []) ∷ []
    ≡ None ∷ Some Stale ∷ None ∷ Some Beyond ∷ None ∷ Some Beyond ∷ []
faults = refl

-- a block begins after the cumulative index and after the block before it, and doesn't end before it begins; blocks may touch
bad_blocks : fault_of 4294967293 (block 0 1 ∷ []) ∷ fault_of 4294967293 (block 3 2 ∷ []) ∷ fault_of 4294967293 (block 2 3 ∷ block 3 4 ∷ []) ∷ fault_of 4294967293 (block 2 3 ∷ block 4 4 ∷ []) ∷ []
    ≡ Some BadBlock ∷ Some BadBlock ∷ Some BadBlock ∷ None ∷ []
bad_blocks = refl

-- beyond counts before a bad block
beyond_first : fault_of 4294967293 (block 3 2 ∷ block 4 6 ∷ []) ≡ Some Beyond
beyond_first = refl

-- one with a fault changes nothing
stays : sack_after out (sack 4294967292 7 []) ≡ out
stays = refl

-- ---- a mark, a cover, an uncover

-- the timer marks all five; a SACK covers the first, and the third and fourth by a block
abbrev marked : SenderView
marked = timed_out out

abbrev covered : SenderView
covered = sack_after marked (sack 4294967294 60 (block 2 3 ∷ []))

marks_end : (map covered.covered (1 ∷ 2 ∷ 3 ∷ 4 ∷ 5 ∷ []) ≡ true ∷ false ∷ true ∷ true ∷ false ∷ []) × (map covered.marked (1 ∷ 2 ∷ 3 ∷ 4 ∷ 5 ∷ []) ≡ false ∷ true ∷ false ∷ false ∷ true ∷ [])
    × (covered.cum ≡ 1) × (covered.rwnd ≡ 60) × (in_flight covered ≡ 0)
marks_end = (refl, refl, refl, refl, refl)

-- the two marked ones go again
abbrev again : SenderView
again = (fill Plain 200 covered).view

again_goes : (indexes (fill Plain 200 covered).wishes ≡ 2 ∷ 5 ∷ []) × (in_flight again ≡ 8)
again_goes = (refl, refl)

-- the peer has dropped the fourth: the same cumulative TSN, a shorter block; it is in flight again and has no mark until the timer expires
abbrev uncovered : SenderView
uncovered = sack_after again (sack 4294967294 64 (block 2 2 ∷ []))

uncovers : (map uncovered.covered (3 ∷ 4 ∷ []) ≡ true ∷ false ∷ []) × (uncovered.marked 4 ≡ false) × (in_flight uncovered ≡ 12)
    × (indexes (fill Plain 200 uncovered).wishes ≡ []) × (indexes (fill Plain 200 (timed_out uncovered)).wishes ≡ 2 ∷ 4 ∷ 5 ∷ [])
uncovers = (refl, refl, refl, refl, refl)

-- ---- a SHUTDOWN

-- it moves CUM to TSN 4294967295, and what lay covered beyond stays so; the window stays
abbrev shut : SenderView
shut = shutdown_after covered 4294967295

shutdown_covers : (shut.cum ≡ 2) × (map shut.covered (1 ∷ 2 ∷ 3 ∷ 4 ∷ 5 ∷ []) ≡ true ∷ true ∷ true ∷ true ∷ false ∷ []) × (map shut.marked (2 ∷ 5 ∷ []) ≡ false ∷ true ∷ []) × (shut.rwnd ≡ 60)
shutdown_covers = (refl, refl, refl, refl)

-- an older one, and one past what was assigned, change nothing
shutdown_faults : (shutdown_fault covered 4294967293 ∷ shutdown_fault covered 4294967294 ∷ shutdown_fault covered 2 ∷ shutdown_fault covered 3 ∷ [] ≡ Some Stale ∷ None ∷ None ∷ Some Beyond ∷ [])
    × (shutdown_after covered 4294967293 ≡ covered) × (shutdown_after covered 3 ≡ covered)
shutdown_faults = (refl, refl, refl)
