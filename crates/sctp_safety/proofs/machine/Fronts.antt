-- What arrives at an endpoint in a step, whole or cut: a packet of the bag across, or a third party's.
use Rattle.std.proofs.Common.{◌≡◌, ℕ, zero, suc, List, [], ◌∷◌, ◌++◌, Some, inl, inr, refl, sym, subst, ap, ◌∙◌}
use Rattle.std.specs.Prelude.{slice_get}
use Rattle.sctp_model.specs.numbers.Lists.{Has, item_at}
use Rattle.sctp_model.specs.wire.Chunk.{ChunkMeaning, Init}
use Rattle.sctp_model.specs.wire.Packet.{Packet}
use Rattle.sctp_model.specs.end.Arriving.{cut_to}
use Rattle.sctp_model.specs.world.World.{Side, A, B, other, World, bag_of, Setup}
use Rattle.sctp_model.specs.world.Events.{Event, Deliver}
use Rattle.sctp_model.specs.world.Steps.{Brings, FromBag, FromStranger}
use Rattle.sctp_model.specs.world.Premises.{IsStranger}
use Rattle.sctp_safety.proofs.machine.Strangers.{IsInitAlone, placed_alone}
use Rattle.sctp_safety.proofs.machine.Ground.{IsFine}

-- ---- lists

pub item_has : {X : Type 0} (xs : List X) (n : ℕ) (x : X) → item_at xs n ≡ Some x → Has xs x
item_has xs zero x e = absurd (cc)
item_has {X} xs (suc n) x e = go xs n e
  where
    go : (ys : List X) (i : ℕ) → slice_get ys i ≡ Some x → Has ys x
    go [] i q = absurd (cc)
    go (y ∷ ys) zero q = let s : y ≡ x = cc in inl s
    go (y ∷ ys) (suc i) q = inr (go ys i q)

has_front : {X : Type 0} (xs ys : List X) (x : X) → Has xs x → Has (xs ++ ys) x
has_front [] ys x none = elim none [ ]
has_front (y ∷ xs) ys x (inl e) = inl e
has_front (y ∷ xs) ys x (inr h) = inr (has_front xs ys x h)

never_empty : {X : Type 0} (xs : List X) (y : X) (ys : List X) → xs ++ y ∷ ys ≡ [] → ⊥
never_empty [] y ys e = absurd (cc)
never_empty (x ∷ xs) y ys e = absurd (cc)

-- ---- packets

-- the second packet is the first, or a beginning of it
pub record IsFront (p q : Packet) : Type 0 where
  pub tag : q.tag ≡ p.tag
  pub chunks : (x : ChunkMeaning) → Has q.chunks x → Has p.chunks x

-- where a packet that arrives at an endpoint of this side is from
pub data From (s : Setup) (drawn : List ℕ) (w : World) (x : Side) (q : Packet) : Type 0 where
  FromPeer : (p : Packet) → Has (bag_of w (other x)) p → IsFront p q → From s drawn w x q
  FromOutside : IsStranger s.sealing drawn q → IsInitAlone q.chunks → From s drawn w x q

pub back_again : (x : Side) → other (other x) ≡ x
back_again A = refl
back_again B = refl

front_stranger : (s : Setup) (drawn : List ℕ) (p q : Packet) → IsFront p q → IsStranger s.sealing drawn p → IsStranger s.sealing drawn q
front_stranger s drawn p q f strange = record {
  untagged = λ h. strange.untagged (subst (λ (n : ℕ). Has drawn n) f.tag h);
  chunks = λ x h. strange.chunks x (f.chunks x h);
}

-- what the event brings, and for a packet of the endpoint across its place in the bag
pub data Brought (s : Setup) (drawn : List ℕ) (w : World) (e : Event) (x : Side) (q : Packet) : Type 0 where
  ByPeer : (p : Packet) (n : ℕ) → e ≡ Deliver (other x) n → item_at (bag_of w (other x)) n ≡ Some p → IsFront p q → Brought s drawn w e x q
  ByStranger : IsStranger s.sealing drawn q → IsInitAlone q.chunks → Brought s drawn w e x q

from_either : (s : Setup) (drawn : List ℕ) (w : World) (e : Event) (x : Side) (q : Packet) → Brought s drawn w e x q → From s drawn w x q
from_either s drawn w e x q (ByPeer p n is found f) = FromPeer p (item_has (bag_of w (other x)) n p found) f
from_either s drawn w e x q (ByStranger strange alone) = FromOutside strange alone

-- of whichever event
brought_any : (s : Setup) (drawn : List ℕ) (w : World) (e : Event) (x : Side) (p q : Packet) → IsFine s drawn e → Brings w e x (Some p) → IsFront p q →
    (IsInitAlone p.chunks → IsInitAlone q.chunks) → Brought s drawn w e x q
brought_any s drawn w e x p q fine (FromBag y n _ found) f alone =
    ByPeer p n (ap (λ (z : Side). Deliver z n) (sym (back_again y))) (subst (λ (z : Side). item_at (bag_of w z) n ≡ Some p) (sym (back_again y)) found) f
brought_any s drawn w e x p q fine (FromStranger _ _ placed) f alone =
    ByStranger (front_stranger s drawn p q f (fine.strangers x p refl)) (alone (placed_alone p.chunks placed))

pub brought_whole : (s : Setup) (drawn : List ℕ) (w : World) (e : Event) (x : Side) (p : Packet) → IsFine s drawn e → Brings w e x (Some p) → Brought s drawn w e x p
brought_whole s drawn w e x p fine brings = brought_any s drawn w e x p p fine brings (record { tag = refl; chunks = λ c h. h }) (λ a. a)

pub from_whole : (s : Setup) (drawn : List ℕ) (w : World) (e : Event) (x : Side) (p : Packet) → IsFine s drawn e → Brings w e x (Some p) → From s drawn w x p
from_whole s drawn w e x p fine brings = from_either s drawn w e x p (brought_whole s drawn w e x p fine brings)

-- a packet that was cut holds more than an INIT
cut_alone : (y : ChunkMeaning) (front back : List ChunkMeaning) (z : ChunkMeaning) (ys : List ChunkMeaning) → ys ≡ (y ∷ front) ++ z ∷ back → IsInitAlone ys → IsInitAlone (y ∷ front)
cut_alone y front back z ys part alone m xs is =
    let first : y ≡ Init m = cc in
    let none = alone m (front ++ z ∷ back) (part ∙ ap (λ (u : ChunkMeaning). u ∷ (front ++ z ∷ back)) first) in
    absurd (never_empty front z back none)

pub brought_cut : (s : Setup) (drawn : List ℕ) (w : World) (e : Event) (x : Side) (p : Packet) (y : ChunkMeaning) (front back : List ChunkMeaning) (z : ChunkMeaning) →
    IsFine s drawn e → Brings w e x (Some p) → p.chunks ≡ (y ∷ front) ++ z ∷ back → Brought s drawn w e x (cut_to p (y ∷ front))
brought_cut s drawn w e x p y front back z fine brings part =
    brought_any s drawn w e x p (cut_to p (y ∷ front)) fine brings
    (record { tag = refl; chunks = λ c h. subst (λ (ys : List ChunkMeaning). Has ys c) (sym part) (has_front (y ∷ front) (z ∷ back) c h) })
    (cut_alone y front back z p.chunks part)

pub from_cut : (s : Setup) (drawn : List ℕ) (w : World) (e : Event) (x : Side) (p : Packet) (y : ChunkMeaning) (front back : List ChunkMeaning) (z : ChunkMeaning) →
    IsFine s drawn e → Brings w e x (Some p) → p.chunks ≡ (y ∷ front) ++ z ∷ back → From s drawn w x (cut_to p (y ∷ front))
from_cut s drawn w e x p y front back z fine brings part = from_either s drawn w e x (cut_to p (y ∷ front)) (brought_cut s drawn w e x p y front back z fine brings part)
