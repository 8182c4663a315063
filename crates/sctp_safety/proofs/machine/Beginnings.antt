-- How two endpoints begin: both are opened without packets, or the caller calls.
use Rattle.std.proofs.Common.{◌≡◌, ℕ, true, false, List, [], ◌∷◌, inl, inr, refl, sym, subst, ap, ◌∙◌}
use Rattle.std.specs.Prelude.{◌<◌, min}
use Rattle.sctp_model.specs.numbers.Lists.{Has}
use Rattle.sctp_model.specs.end.Sealing.{Body}
use Rattle.sctp_model.specs.end.EndView.{Configuration, Draw, Phase, Idle, IsDraw}
use Rattle.sctp_model.specs.end.Configured.{IsConfiguration}
use Rattle.sctp_model.specs.end.Opening.{opened, terms_alike}
use Rattle.sctp_model.specs.end.UserCalls.{called}
use Rattle.sctp_model.specs.world.World.{Side, A, B, World, end_of, end_now, Setup, configuration_of}
use Rattle.sctp_safety.specs.States.{has_agreed}
use Rattle.sctp_safety.specs.Strangers.{IsDrawn}
use Rattle.sctp_safety.specs.Agreement.{AreAgreed}
use Rattle.sctp_safety.proofs.machine.Alike.{AreAlike}
use Rattle.sctp_safety.proofs.machine.AnswerToInit.{both_some}
use Rattle.sctp_safety.proofs.machine.CallerFacts.{InitFits, AckFits, IsFit, IsCaller}
use Rattle.sctp_safety.proofs.machine.Ground.{IsGrounded}
use Rattle.sctp_safety.proofs.machine.Met.{IsMet}

module _ (s : Setup) (drawn : List ℕ) (w : World) where
  -- the endpoints are opened without packets
  pub opens : (ground : IsGrounded s drawn w) → ((x : Side) → IsConfiguration (configuration_of s x)) → AreAlike w.a.configuration w.b.configuration → (x y : Draw) → Has drawn x.tag → Has drawn y.tag → IsMet drawn (record w { a = opened w.a.configuration x y; b = opened w.b.configuration y x; openable = false })
  opens ground configured like x y hx hy = record {
    met = record {
      caller = refl;
      listener = refl;
      terms = alike;
      tags = (refl, refl);
      closed_to_opening = refl;
    };
    tags = tags;
  }
    where
      some : 0 < min w.a.configuration.outbound w.a.configuration.inbound
      some = subst (λ (k : Configuration). 0 < min k.outbound k.inbound) (sym (ground.ends A).configuration)
          (let c = configured A in both_some (configuration_of s A).outbound (configuration_of s A).inbound (c.outbound.0) (c.inbound.0))

      alike : AreAgreed (terms_alike w.a.configuration x y) (terms_alike w.b.configuration y x)
      alike = record { first_tsn = refl; first_tsn_back = refl; streams = like.streams; streams_back = like.streams; interleave = like.interleave; partial = like.partial; reset = like.reset; zero_checksum = like.zero_checksum; some_streams = (some, some) }

      either : (n : ℕ) → Has (x.tag ∷ y.tag ∷ []) n → Has drawn n
      either n (inl e) = subst (Has drawn) e hx
      either n (inr (inl e)) = subst (Has drawn) e hy
      either n (inr (inr none)) = elim none [ ]

      other_way : (n : ℕ) → Has (y.tag ∷ x.tag ∷ []) n → Has drawn n
      other_way n (inl e) = subst (Has drawn) e hy
      other_way n (inr (inl e)) = subst (Has drawn) e hx
      other_way n (inr (inr none)) = elim none [ ]

      tags : (z : Side) → IsDrawn drawn (end_of (record w { a = opened w.a.configuration x y; b = opened w.b.configuration y x; openable = false }) z).phase
      tags A = either
      tags B = other_way

  -- the caller calls
  pub calls : IsCaller s drawn w.from_a w.from_b w.a → (d : Draw) → IsDraw d → Has drawn d.tag → w.a.phase ≡ Idle → IsCaller s drawn w.from_a w.from_b (called (end_now w A) d)
  calls caller d dd tag is = record {
    configuration = caller.configuration;
    unopened = refl;
    calls = λ q. absurd (cc);
    draws = λ x q. let r : d ≡ x = cc in subst IsDraw r dd;
    drawn_tags = λ n h. own n h;
    inits = λ p m h k. let none = subst (λ (j : Phase). InitFits s j m) is (caller.inits p m h k) in elim none [ ];
    acks = λ p m h t k. let none = subst (λ (j : Phase). AckFits s drawn j m) is (caller.acks p m h t k) in elim none [ ];
    echoed = λ p xs b h k o. absurd (never b (caller.echoed p xs b h k o));
    echoes = λ u xs b q o. absurd (cc);
  }
    where
      own : (n : ℕ) → Has (d.tag ∷ []) n → Has drawn n
      own n (inl e) = subst (Has drawn) e tag
      own n (inr none) = elim none [ ]

      never : (b : Body) → IsFit drawn w.a b → ⊥
      never b f = let q : false ≡ true = sym (ap has_agreed is) ∙ f.agreed in absurd (cc)
