-- The chunks of a bag, each with the date of its packet. The date goes by the packet's place, since two packets of one content may be 2^32 TSNs apart.
use Rattle.std.proofs.Common.{◌≡◌, ℕ, zero, suc, ◌+◌, ◌<◌, ◌≤◌, List, [], ◌∷◌, ◌++◌, length, slice_get, Some, append-nil, append_assoc, refl, sym, subst, ap, arith, ◌∙◌}
use Rattle.sctp_model.specs.numbers.Lists.{Has, item_at}
use Rattle.sctp_model.specs.wire.Chunk.{ChunkMeaning}
use Rattle.sctp_model.specs.wire.Packet.{Packet}
use Rattle.sctp_model.specs.world.World.{Side, other, World, bag_of}
use Rattle.sctp_model.specs.world.Events.{Event, Deliver}
use Rattle.sctp_model.specs.world.Aged.{assigned_tsns}
use Rattle.sctp_safety.proofs.lists.Basics.{Has-left, Has-right}
use Rattle.sctp_safety.proofs.runs.Bags.{chunks_in}
use Rattle.sctp_safety.proofs.runs.Dates.{Date, IsYoung, Dated, dated, all_dated, undated, undated_joined, undated_packet, has_dated}

-- the date of each side's n-th packet
abbrev pub Dates : Type 0
Dates = Side → ℕ → Date

-- the chunks of packets that are after this many others
abbrev pub dated_behind : (ℕ → Date) → (before : ℕ) → List Packet → List Dated
dated_behind d n [] = []
dated_behind d n (p ∷ ps) = all_dated (d (suc n)) p.chunks ++ dated_behind d (suc n) ps

-- those of the packets that an endpoint ever built
abbrev pub dated_bag : Dates → World → Side → List Dated
dated_bag d w s = dated_behind (d s) 0 (bag_of w s)

-- ---- a packet more

behind_push : (d : ℕ → Date) (n : ℕ) (ps : List Packet) (p : Packet) → dated_behind d n (ps ++ p ∷ []) ≡ dated_behind d n ps ++ all_dated (d (suc (n + length ps))) p.chunks
behind_push d n [] p =
    let none : n + 0 ≡ n = omega arith in
    append-nil (all_dated (d (suc n)) p.chunks) ∙ ap (λ (i : ℕ). all_dated (d (suc i)) p.chunks) (sym none)
behind_push d n (q ∷ ps) p =
    let one : suc n + length ps ≡ n + suc (length ps) = omega arith in
    ap (λ (xs : List Dated). all_dated (d (suc n)) q.chunks ++ xs) (behind_push d (suc n) ps p ∙ ap (λ (i : ℕ). dated_behind d (suc n) ps ++ all_dated (d (suc i)) p.chunks) one)
    ∙ sym (append_assoc (all_dated (d (suc n)) q.chunks) (dated_behind d (suc n) ps) (all_dated (d (suc (n + suc (length ps)))) p.chunks))

-- a new packet is after all others
pub bag_push : (d : ℕ → Date) (ps : List Packet) (p : Packet) → dated_behind d 0 (ps ++ p ∷ []) ≡ dated_behind d 0 ps ++ all_dated (d (suc (length ps))) p.chunks
bag_push d ps p =
    let all : 0 + length ps ≡ length ps = omega arith in
    behind_push d 0 ps p ∙ ap (λ (i : ℕ). dated_behind d 0 ps ++ all_dated (d (suc i)) p.chunks) all

-- ---- a chunk of a packet has the packet's date

behind_has : (d : ℕ → Date) (n : ℕ) (ps : List Packet) (j : ℕ) (p : Packet) (x : ChunkMeaning) → slice_get ps j ≡ Some p → Has p.chunks x →
    Has (dated_behind d n ps) (dated (d (suc (n + j))) x)
behind_has d n [] j p x there has = absurd (cc)
behind_has d n (q ∷ ps) zero p x there has =
    let same : q ≡ p = cc in
    let none : n ≡ n + 0 = omega arith in
    Has-left (all_dated (d (suc n)) q.chunks) (dated_behind d (suc n) ps) _
    (subst (λ (i : ℕ). Has (all_dated (d (suc n)) q.chunks) (dated (d (suc i)) x)) none
    (has_dated (d (suc n)) q.chunks x (subst (λ (r : Packet). Has r.chunks x) (sym same) has)))
behind_has d n (q ∷ ps) (suc j) p x there has =
    let one : suc n + j ≡ n + suc j = omega arith in
    Has-right (all_dated (d (suc n)) q.chunks) (dated_behind d (suc n) ps) _
    (subst (λ (i : ℕ). Has (dated_behind d (suc n) ps) (dated (d (suc i)) x)) one (behind_has d (suc n) ps j p x there has))

pub bag_has : (d : ℕ → Date) (ps : List Packet) (n : ℕ) (p : Packet) (x : ChunkMeaning) → item_at ps n ≡ Some p → Has p.chunks x → Has (dated_behind d 0 ps) (dated (d n) x)
bag_has d ps zero p x there has = absurd (cc)
bag_has d ps (suc j) p x there has =
    let all : 0 + j ≡ j = omega arith in
    subst (λ (i : ℕ). Has (dated_behind d 0 ps) (dated (d (suc i)) x)) all (behind_has d 0 ps j p x there has)

-- without its dates a bag is its chunks
pub undated_bag : (d : ℕ → Date) (n : ℕ) (ps : List Packet) → undated (dated_behind d n ps) ≡ chunks_in ps
undated_bag d n [] = refl
undated_bag d n (p ∷ ps) =
    undated_joined (all_dated (d (suc n)) p.chunks) (dated_behind d (suc n) ps) ∙ ap (λ (ys : List ChunkMeaning). ys ++ undated (dated_behind d (suc n) ps)) (undated_packet (d (suc n)) p.chunks)
    ∙ ap (λ (ys : List ChunkMeaning). p.chunks ++ ys) (undated_bag d (suc n) ps)

-- ---- the dates in a step

-- what both endpoints have assigned in a world, for a packet that the endpoint of this side built
abbrev pub date_in : World → Side → Date
date_in w s = record { own = assigned_tsns w s; there = assigned_tsns w (other s) }

-- A packet of this side that is in the bag arrives while it is young, at both endpoints.
pub record IsYoungIn (w : World) (s : Side) (k : Date) : Type 0 where
  pub own : IsYoung k.own (assigned_tsns w s)
  pub there : IsYoung k.there (assigned_tsns w (other s))

-- What the dates are to a step: what arrives is young, and what is built has the date of the world that the step leaves.
pub record AreKept (d : Dates) (w : World) (e : Event) (v : World) : Type 0 where
  pub young : (s : Side) (n : ℕ) (p : Packet) → e ≡ Deliver s n → item_at (bag_of w s) n ≡ Some p → IsYoungIn w s (d s n)
  pub fresh : (s : Side) (n : ℕ) → length (bag_of w s) < n → n ≤ length (bag_of v s) → d s n ≡ date_in v s
