-- Bags of packets.
use Rattle.std.proofs.Common.{◌≡◌, ◌⊎◌, inl, inr, ℕ, zero, suc, ◌<◌, List, [], ◌∷◌, ◌++◌, length, get_or, None, refl, ap, arith}
use Rattle.std.specs.declared.vec.Vec.{Vec}
use Rattle.std.specs.declared.alloc.Global.{Global}
use Rattle.std.proofs.lemmas.Option.{slice_get_past}
use Rattle.sctp_model.specs.numbers.Lists.{item_at}
use Rattle.sctp_model.specs.wire.Packet.{Packet}
use Rattle.sctp_pair.specs.Sides.{Carries, ArePackets, IsItem}

-- a packet more
pub bag_push : (bag : List (Vec ℕ Global)) (ps : List Packet) (b : Vec ℕ Global) (p : Packet) → ArePackets bag ps → Carries b.items p →
    ArePackets (bag ++ b ∷ []) (ps ++ p ∷ [])
bag_push [] [] b p h is = (is, tt)
bag_push (x ∷ bag) (y ∷ ps) b p (first, rest) is = (first, bag_push bag ps b p rest is)
bag_push [] (y ∷ ps) b p h is = absurd h
bag_push (x ∷ bag) [] b p h is = absurd h

-- as many packets as bytes of one
pub bag_length : (bag : List (Vec ℕ Global)) (ps : List Packet) → ArePackets bag ps → length bag ≡ length ps
bag_length [] [] h = refl
bag_length (x ∷ bag) (y ∷ ps) (first, rest) = ap suc (bag_length bag ps rest)
bag_length [] (y ∷ ps) h = absurd h
bag_length (x ∷ bag) [] h = absurd h

-- the packet at a place
pub bag_there : (bag : List (Vec ℕ Global)) (ps : List Packet) (i : ℕ) (b : Vec ℕ Global) → ArePackets bag ps → i < length bag → b ≡ get_or bag i b →
    IsItem ps (suc i) b.items
bag_there [] [] i b h l e = absurd (omega arith)
bag_there (x ∷ bag) (y ∷ ps) zero b (first, rest) l e =
    let both : Carries b.items y = rw e first in
    record { packet = y; here = refl; writes = both.0; reads = both.1 }
bag_there (x ∷ bag) (y ∷ ps) (suc i) b (first, rest) l e =
    let there = bag_there bag ps i b rest (omega arith) e in
    record { packet = there.packet; here = there.here; writes = there.writes; reads = there.reads }
bag_there [] (y ∷ ps) i b h l e = absurd h
bag_there (x ∷ bag) [] i b h l e = absurd h

-- numbers that no packet has
pub item_outside : (ps : List Packet) (n : ℕ) → (n ≡ 0) ⊎ (length ps < n) → item_at ps n ≡ None
item_outside ps zero h = refl
item_outside ps (suc n) (inl e) = absurd (omega arith)
item_outside ps (suc n) (inr l) = slice_get_past ps n (omega arith)
