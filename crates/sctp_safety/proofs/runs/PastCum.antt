-- A packet's fragments lie past CUM, and filling a packet leaves CUM where it is.
use Rattle.std.proofs.Common.{◌≡◌, ℕ, ◌<◌, ◌≤◌, ◌⊎◌, not, Bool, true, false, List, [], ◌∷◌, Some, inl, inr, refl, subst, ap, arith, ◌∙◌}
use Rattle.std.proofs.lemmas.Bool.{and_parts, cases_lt}
use Rattle.sctp_model.specs.numbers.Lists.{Has}
use Rattle.sctp_model.specs.messages.Format.{Format}
use Rattle.sctp_model.specs.messages.Plan.{entry_at}
use Rattle.sctp_model.specs.sender.SenderView.{SenderView}
use Rattle.sctp_model.specs.sender.Entries.{is_of_abandoned, is_wanted, is_unsent, passes_at}
use Rattle.sctp_model.specs.sender.Filling.{Wish, next_wish, gone, Follows}
use Rattle.sctp_model.specs.sender.Reached.{IsReached, Goes}
use Rattle.sctp_model.proofs.sender.WordLaws.{some_is}
use Rattle.sctp_model.proofs.sender.Bounds.{IsBounded, is_bounded}
use Rattle.sctp_model.proofs.sender.FillLaws.{goes_parts}
use Rattle.sctp_model.proofs.sender.WishCases.{IsAssigned, Whole, Begun, Continued, IsWished, Repeated, Unsent, New, wished_ways, after_wish}

-- ---- a wish

off_by : (b : Bool) → not b ≡ true → b ≡ false
off_by false h = refl
off_by true h = absurd (cc)

-- up to CUM all is covered, and what is covered isn't wished for
uncovered_past : (v : SenderView) (i : ℕ) → IsBounded v → 0 < i → v.covered i ≡ false → v.cum < i
uncovered_past v i h some off = go (cases_lt v.cum i)
  where
    go : (v.cum < i) ⊎ (i ≤ v.cum) → v.cum < i
    go (inl lt) = lt
    go (inr le) = let on = h.covered i some le in absurd (cc)

marked_uncovered : (v : SenderView) (i : ℕ) → IsBounded v → v.marked i ≡ true → v.covered i ≡ false
marked_uncovered v i h on = go (v.covered i) refl
  where
    go : (b : Bool) → v.covered i ≡ b → b ≡ false
    go false is = refl
    go true is = let off = h.apart i is in absurd (cc)

unsent_uncovered : (v : SenderView) (i : ℕ) → passes_at v.plan (is_unsent v) i ≡ true → v.covered i ≡ false
unsent_uncovered v i passes =
    let there = some_is (is_unsent v i) (entry_at v.plan i) passes in
    let wanted = (and_parts (not (v.sent i)) (is_wanted v i there.0) there.2).1 in
    off_by (v.covered i) (and_parts (not (v.covered i)) (not (is_of_abandoned v there.0)) wanted).0

wish_past : (f : Format) (v : SenderView) (w : Wish) → IsReached f v → next_wish f v ≡ Some w → v.cum < w.index
wish_past f v w reached next = by_way w (wished_ways f v w next)
  where
    bounded : IsBounded v
    bounded = is_bounded f v reached

    by_way : (x : Wish) → IsWished f v x → v.cum < x.index
    by_way _ (Repeated i low) = uncovered_past v i bounded low.some (marked_uncovered v i bounded low.passes)
    by_way _ (Unsent i marks low) = uncovered_past v i bounded low.some (unsent_uncovered v i low.passes)
    by_way _ (New u marks unsent new) = let within = bounded.within in omega (arith, within)

-- what is assigned leaves CUM
assigned_cum : (f : Format) (v u : SenderView) → IsAssigned v f u → u.cum ≡ v.cum
assigned_cum _ v _ (Whole q rest is) = refl
assigned_cum _ v _ (Begun s q lt on first) = refl
assigned_cum _ v _ (Continued s e lt on) = refl

wish_cum : (f : Format) (v : SenderView) (w : Wish) → next_wish f v ≡ Some w → (gone w).cum ≡ v.cum
wish_cum f v w next = after_wish (λ u. u.cum ≡ v.cum) f v w refl (λ u a. assigned_cum f v u a) (λ u i same. same) next

-- ---- all that go

pub record ArePast (a : SenderView) (ws : List Wish) (b : SenderView) : Type 0 where
  pub past : (w : Wish) → Has ws w → a.cum < w.index
  pub same : b.cum ≡ a.cum

-- one that goes before these
past_before : (a : SenderView) (x : Wish) (ws : List Wish) (b : SenderView) → a.cum < x.index → (gone x).cum ≡ a.cum → ArePast (gone x) ws b → ArePast a (x ∷ ws) b
past_before a x ws b low kept later = record { past = past; same = later.same ∙ kept }
  where
    past : (w : Wish) → Has (x ∷ ws) w → a.cum < w.index
    past w (inl e) = subst (λ (y : Wish). a.cum < y.index) e low
    past w (inr h) = let l = later.past w h in omega (arith, l, kept)

pub follows_past : (f : Format) (a : SenderView) (room : ℕ) (ws : List Wish) (b : SenderView) → IsReached f a → Follows f a room ws b → ArePast a ws b
follows_past f a room [] b reached same = record { past = λ w h. absurd h; same = ap (λ (v : SenderView). v.cum) same }
follows_past f a room (x ∷ ws) b reached (first, rest) =
    let parts = goes_parts f room a x first in
    past_before a x ws b (wish_past f a x reached parts.0) (wish_cum f a x parts.0)
    (follows_past f (gone x) _ ws b (Goes a room x reached parts.0 parts.1) rest)
