-- Of a receiver that records up to a bound it is computed, in one way, whether an index above the cumulative one was seen.
use Rattle.std.proofs.Common.{◌≡◌, ℕ, zero, suc, ◌<◌, ◌≤◌, ◌⊎◌, Bool, true, false, inl, inr, refl, ap, subst, arith}
use Rattle.std.specs.Prelude.{◌||◌, not}
use Rattle.std.proofs.lemmas.Bool.{cases_lt}
use Rattle.sctp_model.specs.messages.Format.{Format}
use Rattle.sctp_model.specs.receiver.ReceiverView.{ReceiverView, IsCumulative}
use Rattle.sctp_model.proofs.receiver.OneStep.{cumulative_only}
use Rattle.sctp_model.specs.end.EndView.{Stage, Idle, Listening, Calling, Echoing, Open, Over, Phase, EndView}
use Rattle.sctp_model.specs.end.Closing.{is_shutdown_sent}
use Rattle.sctp_model.specs.end.Arriving.{Notes, TellsGap, LeavesGap, urged, owes_sack, is_at_once, answered_in, acknowledges_in, packet_ended}
use Rattle.sctp_outcomes.specs.receiver.Steps.{cumulative}
use Rattle.sctp_outcomes.proofs.receiver.StepsLemmas.{cumulative_is}
use Rattle.sctp_outcomes.proofs.Bounded.{IsBounded}

-- ---- there is an answer

-- among the indexes up to n one above c was seen, or none was
pub data SeenAbove (seen : ℕ → Bool) (c n : ℕ) : Type 0 where
  Some : (i : ℕ) → c < i → seen i ≡ true → SeenAbove seen c n
  None : ((i : ℕ) → c < i → i ≤ n → seen i ≡ true → ⊥) → SeenAbove seen c n

seen_above : (seen : ℕ → Bool) (c n : ℕ) → SeenAbove seen c n
seen_above seen c zero = None (λ i lo hi on. omega (arith, lo, hi))
seen_above seen c (suc n) = by_last (cases_lt c (suc n)) (seen (suc n)) refl (seen_above seen c n)
  where
    none_more : ((i : ℕ) → c < i → i ≤ n → seen i ≡ true → ⊥) → (c < suc n → seen (suc n) ≡ true → ⊥) → SeenAbove seen c (suc n)
    none_more below last = None (λ i lo hi on.
        elim (cases_lt i (suc n)) [
          | inl lt ↦ below i lo (omega (arith, lt)) on
          | inr ge ↦ let same : i ≡ suc n = omega (arith, ge, hi) in last (omega (arith, lo, same)) (subst (λ (k : ℕ). seen k ≡ true) same on)
        ])

    by_last : (c < suc n) ⊎ (suc n ≤ c) → (b : Bool) → seen (suc n) ≡ b → SeenAbove seen c n → SeenAbove seen c (suc n)
    by_last order b is (Some i lo on) = Some i lo on
    by_last (inl above) true is (None below) = Some (suc n) above is
    by_last (inl above) false is (None below) = none_more below (λ lt on. absurd (cc))
    by_last (inr le) b is (None below) = none_more below (λ lt on. omega (arith, le, lt))

pub gap_is_told : (f : Format) (r : ReceiverView) → IsBounded f r → (gap : Bool) × TellsGap gap r
gap_is_told f r b = go (seen_above r.seen (cumulative r b.bound) b.bound)
  where
    is : IsCumulative r (cumulative r b.bound)
    is = cumulative_is r b.bound b.within

    go : SeenAbove r.seen (cumulative r b.bound) b.bound → (gap : Bool) × TellsGap gap r
    go (Some i above on) = (true, (cumulative r b.bound, i, is, above, on))
    go (None none) = (
      false,
      λ h.
          let c = cumulative_only r h.0 (cumulative r b.bound) h.2 is in
          none h.1 (subst (λ (k : ℕ). k < h.1) c h.3) (b.within h.1 h.4) h.4,
    )

-- ---- and one alone

one_gap : (r : ReceiverView) (a b : Bool) → TellsGap a r → TellsGap b r → a ≡ b
one_gap r true true x y = refl
one_gap r true false x y = absurd (y x)
one_gap r false true x y = absurd (x y)
one_gap r false false x y = refl

-- an endpoint that doesn't delay its SACKs asks for none
gap_is_idle : (t : EndView) (n : Notes) (a b : Bool) → t.configuration.delay ≡ false → packet_ended (urged a n) t ≡ packet_ended (urged b n) t
gap_is_idle t n a b off = go n.acknowledges t.phase
  where
    at_once : (gap : Bool) (g : Stage) → is_at_once (urged gap n) g t ≡ true
    at_once gap g = ap (λ (d : Bool). not d || ((n.at_once || gap) || (owes_sack t || is_shutdown_sent g))) off

    answers : (g : Stage) → answered_in (urged a n) g t ≡ answered_in (urged b n) g t
    answers g = rw (at_once a g, at_once b g) refl

    go : (k : Bool) (h : Phase) → acknowledges_in (urged a n) k h t ≡ acknowledges_in (urged b n) k h t
    go false h = refl
    go true (Open u g) = answers g
    go true Idle = refl
    go true Listening = refl
    go true (Calling d) = refl
    go true (Echoing u xs) = refl
    go true (Over why) = refl

pub gaps_are_one : (t : EndView) (n : Notes) (a b : Bool) → LeavesGap t a → LeavesGap t b → packet_ended (urged a n) t ≡ packet_ended (urged b n) t
gaps_are_one t n a b x y = go t.configuration.delay refl
  where
    go : (d : Bool) → t.configuration.delay ≡ d → packet_ended (urged a n) t ≡ packet_ended (urged b n) t
    go true on = ap (λ (k : Bool). packet_ended (urged k n) t) (one_gap t.receiver a b (x on) (y on))
    go false off = gap_is_idle t n a b off
