-- Why a SACK or a SHUTDOWN is refused, from what a sender keeps.
use Rattle.std.proofs.Common.{◌≡◌, ℕ, ◌+◌, ◌<◌, ◌≤◌, List, [], ◌∷◌, length, false, Option, Some, None, refl, sym, ap, arith}
use Rattle.std.specs.Prelude.{nat_lt, if◌then◌else◌, is_some}
use Rattle.std.proofs.lemmas.Bool.Decides.{nat_tests}
use Rattle.sctp_model.specs.messages.Format.{Format}
use Rattle.sctp_model.specs.wire.Chunk.{BlockMeaning, SackMeaning}
use Rattle.sctp_model.specs.numbers.Serial.{tsn, ahead, before}
use Rattle.sctp_model.specs.sender.SenderView.{SenderView}
use Rattle.sctp_model.specs.sender.SackTaken as taken
use Rattle.sctp_model.specs.sender.SackTaken.{is_stale, index_of, some_ends_past, some_is_bad, sack_fault, sack_taken, sack_after, shutdown_fault}
use Rattle.sctp_send.specs.SenderKept.{Kept}
use Rattle.sctp_send.specs.SenderStands.{Keeps}
use Rattle.sctp_send.specs.inner.Acknowledging.{IsPassing, Refuses, block_fault}
use Rattle.sctp_send.specs.declared.sack.SackFault.TheVariants.{Beyond}
use Rattle.sctp_send.proofs.KeepLemmas.{kept_length}

-- ---- a cumulative TSN

-- it lies before that of CUM
pub stale_is : (f : Format) (s : Kept) (v : SenderView) (wire known : ℕ) → Keeps f s v → known ≡ tsn s.initial s.cum → is_stale v wire ≡ before 32 wire known
stale_is f s v wire known k is = rw (is, k.holds.initial, k.holds.cum) refl

index_here : (f : Format) (s : Kept) (v : SenderView) (wire n : ℕ) → Keeps f s v → n ≡ ahead 32 (tsn s.initial s.cum) wire → index_of v wire ≡ v.cum + n
index_here f s v wire n k is = rw (is, k.holds.initial, k.holds.cum) refl

pub refused_beyond : (f : Format) (s : Kept) (v : SenderView) (wire n : ℕ) → Keeps f s v → n ≡ ahead 32 (tsn s.initial s.cum) wire → is_stale v wire ≡ false → length s.items < n → Refuses v wire Beyond
refused_beyond f s v wire n k is fresh past =
    let long = kept_length f s v k in
    let over : length v.plan.entries < v.cum + n = omega (arith, long, past) in
    (fresh, rw (index_here f s v wire n k is) (grind (arith, nat_tests)))

pub passing : (f : Format) (s : Kept) (v : SenderView) (wire n : ℕ) → Keeps f s v → n ≡ ahead 32 (tsn s.initial s.cum) wire → is_stale v wire ≡ false → n ≤ length s.items → IsPassing v wire n
passing f s v wire n k is fresh le =
    let long = kept_length f s v k in
    record { fresh = fresh; index = index_here f s v wire n k is; within = omega (arith, long, le) }

-- ---- the answers

inside_plan : (v : SenderView) (wire n : ℕ) → IsPassing v wire n → nat_lt (length v.plan.entries) (index_of v wire) ≡ false
inside_plan v wire n p = let le = p.within in rw p.index (grind (arith, nat_tests))

pub shutdown_passes : (v : SenderView) (wire n : ℕ) → IsPassing v wire n → shutdown_fault v wire ≡ None
shutdown_passes v wire n p = rw (p.fresh, inside_plan v wire n p) refl

-- blocks counted from another index
counted_from : (c last : ℕ) (bs : List BlockMeaning) → some_ends_past last 0 bs ≡ some_ends_past (c + last) c bs
counted_from c last [] = refl
counted_from c last (b ∷ bs) =
    let here : nat_lt last (0 + b.end) ≡ nat_lt (c + last) (c + b.end) = grind (arith, nat_tests) in
    rw (here, counted_from c last bs) refl

-- what is left to be wrong with a SACK is in its blocks
pub sack_by_blocks : (f : Format) (s : Kept) (v : SenderView) (x : SackMeaning) (n left : ℕ) → Keeps f s v → IsPassing v x.cumulative n → left + n ≡ length s.items → sack_fault v x ≡ block_fault left x.blocks
sack_by_blocks f s v x n left k p is =
    let long = kept_length f s v k in
    let all : length v.plan.entries ≡ (v.cum + n) + left = omega (arith, long, is) in
    let ends : some_ends_past (length v.plan.entries) (index_of v x.cumulative) x.blocks ≡ some_ends_past left 0 x.blocks =
    rw (p.index, all) (sym (counted_from (v.cum + n) left x.blocks)) in
    rw (p.fresh, inside_plan v x.cumulative n p, ends) refl

pub blocks_good : (left : ℕ) (bs : List BlockMeaning) → some_ends_past left 0 bs ≡ false → some_is_bad 0 bs ≡ false → block_fault left bs ≡ None
blocks_good left bs inside good = rw (inside, good) refl

-- what has a fault changes nothing
pub sack_faulty : (v : SenderView) (x : SackMeaning) (fault : taken.SackFault) → sack_fault v x ≡ Some fault → sack_after v x ≡ v
sack_faulty v x fault is = ap (λ (o : Option taken.SackFault). if is_some o then v else sack_taken v x) is
