-- If no message has a limit, nothing is abandoned for its retransmissions.
use Rattle.std.proofs.Common.{◌≡◌, ℕ, Some, None, inl, inr, sym, ◌∙◌}
use Rattle.sctp_model.specs.messages.Format.{Format, Lane}
use Rattle.sctp_model.specs.messages.Plan.{Message, message_at}
use Rattle.sctp_model.specs.sender.SenderView.{SenderView}
use Rattle.sctp_model.specs.receiver.ReceiverView.{ReceiverView}
use Rattle.sctp_model.specs.world.Calls.{Asked}
use Rattle.sctp_model.specs.world.Safe.{Safe, IsGivenUp}
use Rattle.sctp_safety.specs.Unlimited.{NoneIsLimited, IsNamedOrPast, SafeUnlimited, SafeWithoutLimits}

module _ (f : Format) (a : SenderView) (r : ReceiverView) (u : Asked) (none : NoneIsLimited u) where
  unlimited : Safe f a r u → SafeUnlimited f a r u
  unlimited safe = record {
    in_order = safe.in_order;
    passed_rightly = safe.passed_rightly;
    once = safe.once;
    kept = safe.kept;
    asked = record {
      called = safe.asked.called;
      once = safe.asked.once;
      order = safe.asked.order;
      abandoned = λ l n on. let x = safe.asked.abandoned l n on in (x.0, x.1, by l n x.0 x.1 x.2);
    };
  }
    where
      by : (l : Lane) (n : ℕ) (m : Message) → message_at a.plan l n ≡ Some m → IsGivenUp a u l n m → IsNamedOrPast u m
      by l n m is (inl named) = inl named
      by l n m is (inr (inl past)) = inr past
      by l n m is (inr (inr (k, limit, again))) = absurd (let q : Some k ≡ None = sym limit ∙ none m.ticket _ (safe.asked.called l n m is) in cc)

  limited : SafeUnlimited f a r u → Safe f a r u
  limited safe = record {
    in_order = safe.in_order;
    passed_rightly = safe.passed_rightly;
    once = safe.once;
    kept = safe.kept;
    asked = record {
      called = safe.asked.called;
      once = safe.asked.once;
      order = safe.asked.order;
      abandoned = λ l n on. let x = safe.asked.abandoned l n on in (x.0, x.1, by l n x.0 x.2);
    };
  }
    where
      by : (l : Lane) (n : ℕ) (m : Message) → IsNamedOrPast u m → IsGivenUp a u l n m
      by l n m (inl named) = inl named
      by l n m (inr past) = inr (inl past)

pub safe_without_limits : SafeWithoutLimits
safe_without_limits f a r u none = (unlimited f a r u none, limited f a r u none)
