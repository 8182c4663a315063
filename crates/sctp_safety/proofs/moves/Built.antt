-- What the endpoints really build, the moves allow.
use Rattle.std.proofs.Common.{◌≡◌, ℕ, zero, suc, ◌+◌, ◌≤◌, ◌⊎◌, ◌&&◌, true, nat_le, List, [], ◌∷◌, inl, inr, refl, sym, subst, arith, leb-true}
use Rattle.std.proofs.lemmas.Bool.{or_cases, and_parts}
use Rattle.sctp_model.specs.numbers.Lists.{Has}
use Rattle.sctp_model.specs.messages.Forward.{StandsIn}
use Rattle.sctp_model.specs.receiver.ReceiverView.{ReceiverView, Reaches, IsCumulative}
use Rattle.sctp_model.specs.wire.Chunk.{BlockMeaning}
use Rattle.sctp_model.specs.messages.Acknowledgement.{in_blocks, covers}
use Rattle.sctp_safety.specs.Way.{Drop_piece}
use Rattle.sctp_safety.specs.Exact.{ForwardIsAllowed, SackIsAllowed, ShutdownIsAllowed, PassingIsMoves}

pub forward_is_allowed : ForwardIsAllowed
forward_is_allowed w p q x point from to f = (
  λ i above below. point.abandoned i above (let e = f.point in omega arith),
  λ y has. (f.numbered y has, subst (λ (u : ℕ). StandsIn w.sender.plan w.sender.cum u y.lane y.number) (sym f.point) (f.stands y has)),
  λ l n counted stands. f.largest l n counted (subst (λ (u : ℕ). StandsIn w.sender.plan w.sender.cum u l n) f.point stands),
  refl,
)

-- an index that blocks cover lies in one of them
in_a_block : (c : ℕ) (bs : List BlockMeaning) (i : ℕ) → in_blocks c bs i ≡ true → (b : BlockMeaning) × Has bs b × (c + b.start ≤ i) × (i ≤ c + b.end)
in_a_block c [] i h = absurd (cc)
in_a_block c (b ∷ bs) i h = go (λ k. in_a_block c bs i k) (or_cases (nat_le (c + b.start) i && nat_le i (c + b.end)) (in_blocks c bs i) h)
  where
    Found : List BlockMeaning → Type 0
    Found xs = (d : BlockMeaning) × Has xs d × (c + d.start ≤ i) × (i ≤ c + d.end)

    go : (in_blocks c bs i ≡ true → Found bs) → ((nat_le (c + b.start) i && nat_le i (c + b.end)) ≡ true) ⊎ (in_blocks c bs i ≡ true) → Found (b ∷ bs)
    go more (inl k) =
        let both = and_parts (nat_le (c + b.start) i) (nat_le i (c + b.end)) k in
        (b, inl refl, leb-true (c + b.start) i both.0, leb-true i (c + b.end) both.1)
    go more (inr k) = let (d, has, low, high) = more k in (d, inr has, low, high)

reached_upto : (r : ReceiverView) (c : ℕ) → IsCumulative r c → (i : ℕ) → i ≤ c → Reaches r i
reached_upto r c cumulative zero l = inr (omega arith)
reached_upto r c cumulative (suc i) l = cumulative.reached (suc i) (omega arith) l

pub sack_is_allowed : SackIsAllowed
sack_is_allowed w x ack = (reached, refl)
  where
    reached : (i : ℕ) → covers x i ≡ true → Reaches w.receiver i
    reached i h = go (or_cases (nat_le i x.cum) (in_blocks x.cum x.blocks i) h)
      where
        go : (nat_le i x.cum ≡ true) ⊎ (in_blocks x.cum x.blocks i ≡ true) → Reaches w.receiver i
        go (inl k) = reached_upto w.receiver x.cum ack.cumulative i (leb-true i x.cum k)
        go (inr k) = let (b, has, low, high) = in_a_block x.cum x.blocks i k in inl ((ack.runs b has).seen i low high)

pub shutdown_is_allowed : ShutdownIsAllowed
shutdown_is_allowed w c cumulative = (reached_upto w.receiver c cumulative, refl)

pub passing_is_moves : PassingIsMoves
passing_is_moves w x has unseen why = (Drop_piece x ∷ [], (_, (has, unseen, why, refl), refl))
