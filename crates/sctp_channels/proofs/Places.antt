-- Each reset that was told has its place noted on the stream until it is passed: all messages before it were taken, and the stream was left.
use Rattle.std.proofs.Common.{◌≡◌, ◌⊎◌, ℕ, zero, suc, ◌+◌, ◌-◌, ◌<◌, ◌≤◌, ◌==◌, ◌&&◌, not, Bool, true, false, List, [], ◌∷◌, ◌++◌, length, length-append, Option, Some, None, is_some, inl, inr, refl, sym, subst, ap, ◌∙◌, arith, if◌then◌else◌}
use Rattle.std.specs.Prelude.{max}
use Rattle.std.proofs.lemmas.Bool.{and_parts, cases_lt}
use Rattle.std.proofs.lemmas.Bool.Decides.{nat_tests}
use Rattle.sctp_channels.specs.declared.stream.Resets.{Resets}
use Rattle.sctp_channels.specs.declared.stream.Resets.TheVariants.{Zero, One, Two}
use Rattle.sctp_channels.specs.declared.stream.Stream.{Stream}
use Rattle.sctp_channels.specs.Streams.{unused, is_reset, is_reset_again, is_drained}
use Rattle.sctp_channels.specs.Coming.{leaving, one_taken, peer_resets, left_over}
use Rattle.sctp_channels.proofs.Promised.{Keeps, left_is}
use Rattle.sctp_channels.proofs.Marks.{again_is, left_some}

-- ---- one stream

-- this place is noted on the stream, of which so many messages were taken
pub data IsNotedAt (m : ℕ) (z : Stream) (p : ℕ) : Type 0 where
  AtFirst : is_reset z.resets ≡ true → m + z.left ≡ p → IsNotedAt m z p
  AtSecond : is_reset_again z.resets ≡ true → m + z.again ≡ p → IsNotedAt m z p

-- the first place isn't behind the second
abbrev pub AreInOrder : Stream → Type 0
AreInOrder z = is_reset_again z.resets ≡ true → z.left ≤ z.again

-- the same places are noted
pub record KeepsPlaces (m : ℕ) (x : Stream) (k : ℕ) (z : Stream) : Type 0 where
  pub on : (p : ℕ) → IsNotedAt m x p → IsNotedAt k z p
  pub back : (p : ℕ) → IsNotedAt k z p → IsNotedAt m x p
  pub order : AreInOrder x → AreInOrder z

-- ---- nothing is taken

pub keeps_places : (m : ℕ) (x z : Stream) → Keeps x z → KeepsPlaces m x m z
keeps_places m x z k = record { on = on; back = back; order = order }
  where
    on : (p : ℕ) → IsNotedAt m x p → IsNotedAt m z p
    on p (AtFirst is e) = AtFirst (ap (λ (r : Resets). is_reset r) k.resets ∙ is) (ap (λ (i : ℕ). m + i) k.left ∙ e)
    on p (AtSecond is e) = AtSecond (ap (λ (r : Resets). is_reset_again r) k.resets ∙ is) (ap (λ (i : ℕ). m + i) k.again ∙ e)

    back : (p : ℕ) → IsNotedAt m z p → IsNotedAt m x p
    back p (AtFirst is e) = AtFirst (sym (ap (λ (r : Resets). is_reset r) k.resets) ∙ is) (ap (λ (i : ℕ). m + i) (sym k.left) ∙ e)
    back p (AtSecond is e) = AtSecond (sym (ap (λ (r : Resets). is_reset_again r) k.resets) ∙ is) (ap (λ (i : ℕ). m + i) (sym k.again) ∙ e)

    order : AreInOrder x → AreInOrder z
    order low is = let le = low (sym (ap (λ (r : Resets). is_reset_again r) k.resets) ∙ is) in let l = k.left in let a = k.again in omega (arith, le, l, a)

-- ---- a message is taken, before the first place

pub taken_places : (m : ℕ) (x : Stream) → is_drained x ≡ false → AreInOrder x → KeepsPlaces m x (suc m) (one_taken x)
taken_places m x off low = go (is_reset x.resets) refl
  where
    go : (b : Bool) → is_reset x.resets ≡ b → KeepsPlaces m x (suc m) (if b then leaving (x.left - 1) (record x { again = x.again - 1 }) else x)
    go true on_it = record { on = on; back = back; order = order }
      where
        z : Stream
        z = leaving (x.left - 1) (record x { again = x.again - 1 })

        left : z.left ≡ x.left - 1
        left = (left_is (x.left - 1) (record x { again = x.again - 1 })).0

        resets : z.resets ≡ x.resets
        resets = (left_is (x.left - 1) (record x { again = x.again - 1 })).1

        again : z.again ≡ x.again - 1
        again = (left_is (x.left - 1) (record x { again = x.again - 1 })).2

        some : 0 < x.left
        some = left_some x on_it off

        on : (p : ℕ) → IsNotedAt m x p → IsNotedAt (suc m) z p
        on p (AtFirst is e) = AtFirst (ap (λ (r : Resets). is_reset r) resets ∙ is) (omega (arith, left, some, e))
        on p (AtSecond is e) = AtSecond (ap (λ (r : Resets). is_reset_again r) resets ∙ is) (let le = low is in omega (arith, again, some, le, e))

        back : (p : ℕ) → IsNotedAt (suc m) z p → IsNotedAt m x p
        back p (AtFirst is e) = AtFirst (sym (ap (λ (r : Resets). is_reset r) resets) ∙ is) (omega (arith, left, some, e))
        back p (AtSecond is e) =
            let was = sym (ap (λ (r : Resets). is_reset_again r) resets) ∙ is in
            AtSecond was (let le = low was in omega (arith, again, some, le, e))

        order : AreInOrder x → AreInOrder z
        order any is = let le = low (sym (ap (λ (r : Resets). is_reset_again r) resets) ∙ is) in omega (arith, left, again, le)
    go false none = record {
      on = λ p at_it. absurd (unreset p at_it);
      back = λ p at_it. absurd (unreset_still p at_it);
      order = λ any. any;
    }
      where
        unreset : (p : ℕ) → IsNotedAt m x p → ⊥
        unreset p (AtFirst is e) = cc (is, none)
        unreset p (AtSecond is e) = let first = again_is x.resets is in cc (first, none)

        unreset_still : (p : ℕ) → IsNotedAt (suc m) x p → ⊥
        unreset_still p (AtFirst is e) = cc (is, none)
        unreset_still p (AtSecond is e) = let first = again_is x.resets is in cc (first, none)

-- ---- a reset is noted

-- so is its place, behind which nothing was noted
pub record NotesPlace (m : ℕ) (x : Stream) (k : ℕ) (z : Stream) : Type 0 where
  pub on : (p : ℕ) → IsNotedAt m x p → IsNotedAt m z p
  pub new : IsNotedAt m z (m + k)
  pub back : (p : ℕ) → IsNotedAt m z p → IsNotedAt m x p ⊎ (p ≡ m + k)
  pub order : AreInOrder z

pub notes_place : (m k : ℕ) (x : Stream) → (x.resets ≡ Two → ⊥) → ((p : ℕ) → IsNotedAt m x p → p ≤ m + k) → NotesPlace m x k (peer_resets k x)
notes_place m k x no_third behind = go (is_reset x.resets) refl
  where
    -- the first one
    z : Stream
    z = leaving k (record x { resets = One })

    is_one : z.resets ≡ One
    is_one = (left_is k (record x { resets = One })).1

    left : z.left ≡ k
    left = (left_is k (record x { resets = One })).0

    twice : (r : Resets) → r ≡ One → is_reset_again r ≡ true → ⊥
    twice Zero is on = cc is
    twice One is on = cc on
    twice Two is on = cc is

    once : (r : Resets) → x.resets ≡ r → is_reset r ≡ true → x.resets ≡ One
    once Zero is on = absurd (cc on)
    once One is on = is
    once Two is on = absurd (no_third is)

    go : (b : Bool) → is_reset x.resets ≡ b → NotesPlace m x k (if b then record x { again = max x.left k; resets = Two } else z)
    go false off = record { on = λ p at_it. absurd (none p at_it); new = AtFirst (ap (λ (r : Resets). is_reset r) is_one) (ap (λ (i : ℕ). m + i) left); back = back; order = λ on. absurd (twice z.resets is_one on) }
      where
        none : (p : ℕ) → IsNotedAt m x p → ⊥
        none p (AtFirst on e) = cc (on, off)
        none p (AtSecond on e) = let first = again_is x.resets on in cc (first, off)

        back : (p : ℕ) → IsNotedAt m z p → IsNotedAt m x p ⊎ (p ≡ m + k)
        back p (AtFirst on e) = inr (omega (arith, e, left))
        back p (AtSecond on e) = absurd (twice z.resets is_one on)
    go true on_it = record { on = on; new = AtSecond refl (omega (arith, low)); back = back; order = λ here. omega arith }
      where
        is : x.resets ≡ One
        is = once x.resets refl on_it

        low : m + x.left ≤ m + k
        low = behind (m + x.left) (AtFirst on_it refl)

        on : (p : ℕ) → IsNotedAt m x p → IsNotedAt m (record x { again = max x.left k; resets = Two }) p
        on p (AtFirst here e) = AtFirst refl e
        on p (AtSecond here e) = absurd (twice x.resets is here)

        back : (p : ℕ) → IsNotedAt m (record x { again = max x.left k; resets = Two }) p → IsNotedAt m x p ⊎ (p ≡ m + k)
        back p (AtFirst here e) = inl (AtFirst on_it e)
        back p (AtSecond here e) = inr (omega (arith, e, low))

-- ---- the stream is left, all before the first place being taken

pub record LeavesPlaces (m : ℕ) (x z : Stream) : Type 0 where
  pub on : (p : ℕ) → IsNotedAt m x p → (p ≤ m) ⊎ IsNotedAt m z p
  pub back : (p : ℕ) → IsNotedAt m z p → IsNotedAt m x p
  pub order : AreInOrder z

pub leaves_places : (m : ℕ) (x : Stream) → (is_reset x.resets ≡ true → x.left ≡ 0) → LeavesPlaces m x (left_over x)
leaves_places m x passed = go (is_reset_again x.resets) refl
  where
    z : Stream
    z = leaving x.again (record unused { resets = One })

    is_one : z.resets ≡ One
    is_one = (left_is x.again (record unused { resets = One })).1

    left : z.left ≡ x.again
    left = (left_is x.again (record unused { resets = One })).0

    twice : (r : Resets) → r ≡ One → is_reset_again r ≡ true → ⊥
    twice Zero is on = cc is
    twice One is on = cc on
    twice Two is on = cc is

    go : (b : Bool) → is_reset_again x.resets ≡ b → LeavesPlaces m x (if b then peer_resets x.again unused else unused)
    go true again = record { on = on; back = back; order = λ here. absurd (twice z.resets is_one here) }
      where
        on : (p : ℕ) → IsNotedAt m x p → (p ≤ m) ⊎ IsNotedAt m z p
        on p (AtFirst here e) = inl (let none = passed here in omega (arith, e, none))
        on p (AtSecond here e) = inr (AtFirst (ap (λ (r : Resets). is_reset r) is_one) (omega (arith, e, left)))

        back : (p : ℕ) → IsNotedAt m z p → IsNotedAt m x p
        back p (AtFirst here e) = AtSecond again (omega (arith, e, left))
        back p (AtSecond here e) = absurd (twice z.resets is_one here)
    go false off = record { on = on; back = λ p at_it. absurd (none p at_it); order = λ here. absurd (cc here) }
      where
        on : (p : ℕ) → IsNotedAt m x p → (p ≤ m) ⊎ IsNotedAt m unused p
        on p (AtFirst here e) = inl (let none = passed here in omega (arith, e, none))
        on p (AtSecond here e) = absurd (cc (here, off))

        none : (p : ℕ) → IsNotedAt m unused p → ⊥
        none p (AtFirst here e) = cc here
        none p (AtSecond here e) = cc here
