-- What holds between two endpoints while their association is closed (RFC 9260, 9.2): who is done is drained for good, who said so is done, and whoever was
-- notified was so by the peer.
use Rattle.std.proofs.Common.{◌≡◌, ℕ, ◌⊎◌, Bool, true, false, List, ◌++◌, inl, inr, refl, sym, subst, ◌∙◌}
use Rattle.sctp_model.specs.numbers.Lists.{Has}
use Rattle.sctp_model.specs.wire.Chunk.{ChunkMeaning, Shutdown, ShutdownAck}
use Rattle.sctp_model.specs.sender.Readers.{drained}
use Rattle.sctp_model.specs.end.EndView.{Tags, Stage, ShutdownPending, ShutdownSent, ShutdownReceived, ShutdownAckSent, Ended, Completed, Phase, Idle, Listening, Calling, Echoing, Open, Over, EndView}
use Rattle.sctp_model.specs.end.Clock.{closed}
use Rattle.sctp_model.specs.end.Closing.{hears, awaits_ack, rested}
use Rattle.sctp_safety.proofs.lists.Basics.{Has-cases, Has-left}
use Rattle.sctp_safety.proofs.machine.EndWords.{rested_cases}
use Rattle.sctp_safety.proofs.runs.Homes.{IsHome, home_closed, home_says, home_answers}

-- ---- words

-- the peer has shut its direction
abbrev pub was_told : Stage → Bool
was_told ShutdownReceived = true
was_told ShutdownAckSent = true
was_told g = false

-- past the point from which nothing is sent any more
abbrev pub is_last : Phase → Bool
is_last (Open t g) = awaits_ack g
is_last (Over why) = true
is_last h = false

-- Done: its sender is drained, and nobody can give it more.
pub record IsDone (e : EndView) : Type 0 where
  pub empty : drained e.sender ≡ true
  pub last : is_last e.phase ≡ true

-- what only an endpoint that is done says
abbrev pub is_shutting : ChunkMeaning → Bool
is_shutting (Shutdown n) = true
is_shutting ShutdownAck = true
is_shutting x = false

-- ---- one endpoint, seen with its peer

pub record IsEnding (e p : EndView) (out back : List ChunkMeaning) : Type 0 where
  pub home : IsHome e
  pub empty : hears awaits_ack e.phase ≡ true → drained e.sender ≡ true
  pub said : (x : ChunkMeaning) → Has out x → is_shutting x ≡ true → IsDone e
  pub told : hears was_told e.phase ≡ true → (n : ℕ) × Has back (Shutdown n)
  pub completed : e.phase ≡ Over Completed → IsDone e × IsDone p

-- both endpoints
pub record AreEnding (e p : EndView) (out back : List ChunkMeaning) : Type 0 where
  pub this : IsEnding e p out back
  pub there : IsEnding p e back out

pub ending_round : (e p : EndView) (out back : List ChunkMeaning) → AreEnding e p out back → AreEnding p e back out
ending_round e p out back c = record { this = c.there; there = c.this }

-- an endpoint that waits for a SHUTDOWN ACK is past that point
pub last_by_ack : (h : Phase) → hears awaits_ack h ≡ true → is_last h ≡ true
last_by_ack (Open t g) on = on
last_by_ack Idle on = absurd (cc)
last_by_ack Listening on = absurd (cc)
last_by_ack (Calling d) on = absurd (cc)
last_by_ack (Echoing t xs) on = absurd (cc)
last_by_ack (Over why) on = absurd (cc)

-- ---- an endpoint changes

-- What a step says of the endpoint that it leaves, beside the chunks that it built: `more` of them.
pub record IsOnward (e p t : EndView) (back : List ChunkMeaning) : Type 0 where
  pub home : IsHome t
  pub empty : hears awaits_ack t.phase ≡ true → drained t.sender ≡ true
  pub told : hears was_told t.phase ≡ true → (n : ℕ) × Has back (Shutdown n)
  pub completed : t.phase ≡ Over Completed → IsDone t × IsDone p
  pub lasts : IsDone e → IsDone t

pub ending_on : (e p t : EndView) (out back more : List ChunkMeaning) → AreEnding e p out back → IsOnward e p t back →
    ((x : ChunkMeaning) → Has more x → is_shutting x ≡ true → IsDone t) → AreEnding t p (out ++ more) back
ending_on e p t out back more c o says = record {
  this = record { home = o.home; empty = o.empty; said = said; told = o.told; completed = o.completed };
  there = record {
    home = c.there.home;
    empty = c.there.empty;
    said = c.there.said;
    told = λ on. let h = c.there.told on in (h.0, Has-left out more (Shutdown h.0) h.1);
    completed = λ is. let d = c.there.completed is in (d.0, o.lasts d.1);
  };
}
  where
    said : (x : ChunkMeaning) → Has (out ++ more) x → is_shutting x ≡ true → IsDone t
    said x has on = go (Has-cases out more x has)
      where
        go : Has out x ⊎ Has more x → IsDone t
        go (inl h) = o.lasts (c.this.said x h on)
        go (inr h) = says x h on

-- nothing was built
pub ending_still : (e p t : EndView) (out back : List ChunkMeaning) → AreEnding e p out back → IsOnward e p t back → AreEnding t p out back
ending_still e p t out back c o = record {
  this = record { home = o.home; empty = o.empty; said = λ x has on. o.lasts (c.this.said x has on); told = o.told; completed = o.completed };
  there = record {
    home = c.there.home;
    empty = c.there.empty;
    said = c.there.said;
    told = c.there.told;
    completed = λ is. let d = c.there.completed is in (d.0, o.lasts d.1);
  };
}

-- ---- the ways in which it changes

module _ (p : EndView) (out back : List ChunkMeaning) where
  abbrev Ending : EndView → Type 0
  Ending e = AreEnding e p out back

  -- in the same state, with a sender that is drained if it was
  pub onward_same : (e t : EndView) → Ending e → IsHome t → t.phase ≡ e.phase → (drained e.sender ≡ true → drained t.sender ≡ true) → IsOnward e p t back
  onward_same e t c home same keeps = record {
    home = home;
    empty = λ on. keeps (c.this.empty (subst (λ (h : Phase). hears awaits_ack h ≡ true) same on));
    told = λ on. c.this.told (subst (λ (h : Phase). hears was_told h ≡ true) same on);
    completed = λ is. let d = c.this.completed (sym same ∙ is) in (lasts d.0, d.1);
    lasts = lasts;
  }
    where
      lasts : IsDone e → IsDone t
      lasts d = record { empty = keeps d.empty; last = subst (λ (h : Phase). is_last h ≡ true) (sym same) d.last }

  -- closed for another reason than that both are done
  pub onward_over : (e : EndView) (why : Ended) → (why ≡ Completed → ⊥) → IsOnward e p (closed why e) back
  onward_over e why other = record {
    home = home_closed why e;
    empty = λ on. absurd (cc);
    told = λ on. absurd (cc);
    completed = λ is. absurd (other (the is));
    lasts = λ d. record { empty = d.empty; last = refl };
  }
    where
      the : Over why ≡ Over Completed → why ≡ Completed
      the q = cc

  -- both are done
  pub onward_complete : (e : EndView) → IsDone e → IsDone p → IsOnward e p (closed Completed e) back
  onward_complete e d dp = record {
    home = home_closed Completed e;
    empty = λ on. absurd (cc);
    told = λ on. absurd (cc);
    completed = λ is. (record { empty = d.empty; last = refl }, dp);
    lasts = λ k. record { empty = k.empty; last = refl };
  }

  -- from a state in which an endpoint may not be done yet
  pub onward_open : (e t : EndView) (k : Tags) (g : Stage) → (is_last e.phase ≡ true → ⊥) → IsHome t → t.phase ≡ Open k g → (awaits_ack g ≡ true → drained t.sender ≡ true) →
      (was_told g ≡ true → (n : ℕ) × Has back (Shutdown n)) → IsOnward e p t back
  onward_open e t k g unlike home is empty told = record {
    home = home;
    empty = λ on. empty (subst (λ (h : Phase). hears awaits_ack h ≡ true) is on);
    told = λ on. told (subst (λ (h : Phase). hears was_told h ≡ true) is on);
    completed = λ q. absurd (let z : Open k g ≡ Over Completed = sym is ∙ q in cc);
    lasts = λ d. absurd (unlike d.last);
  }

  -- an endpoint at rest goes on with closing
  pub ending_rested : (e : EndView) → Ending e → Ending (rested e)
  ending_rested e c = rested_cases Ending e c
      (λ t is empty. ending_still e p _ out back c
      (onward_open e _ t ShutdownSent (unlike t ShutdownPending is refl) (home_says t e) refl (λ on. empty) (λ on. absurd (cc))))
      (λ t is empty. ending_still e p _ out back c
      (onward_open e _ t ShutdownAckSent (unlike t ShutdownReceived is refl) (home_answers t e) refl (λ on. empty)
      (λ on. c.this.told (subst (λ (h : Phase). hears was_told h ≡ true) (sym is) refl))))
    where
      unlike : (t : Tags) (g : Stage) → e.phase ≡ Open t g → awaits_ack g ≡ false → is_last e.phase ≡ true → ⊥
      unlike t g is off on = let q : awaits_ack g ≡ true = subst (λ (h : Phase). is_last h ≡ true) is on in absurd (cc)
