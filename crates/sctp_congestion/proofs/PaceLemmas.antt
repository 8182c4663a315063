-- What each call leaves stands for the step of what it stood for.
use Rattle.std.proofs.Common.{◌≡◌, ℕ, Bool, true, false, refl, sym, ap, ◌∙◌}
use Rattle.std.specs.Prelude.{Option, Some, None, option_map, IfSome}
use Rattle.sctp_model.specs.messages.Format.{Format}
use Rattle.sctp_model.specs.messages.Framing.{header_of}
use Rattle.sctp_model.specs.sender.Words.{when}
use Rattle.sctp_model.specs.end.Control.{Control}

-- of congestion control, whose header is the format's
pub header_kept : (f : Format) (o : Option Control) (step : Control → Control) → ((k : Control) → (step k).header ≡ k.header) → IfSome o (λ k. k.header ≡ header_of f)
    → IfSome (option_map step o) (λ k. k.header ≡ header_of f)
header_kept f None step kept header = tt
header_kept f (Some k) step kept header = kept k ∙ header

-- two steps that agree at that header
pub step_by : (f : Format) (o : Option Control) (step : Control → Control) (by_header : ℕ → Control → Control) → ((k : Control) → step k ≡ by_header (header_of f) k)
    → IfSome o (λ k. k.header ≡ header_of f) → option_map step o ≡ option_map (λ k. by_header k.header k) o
step_by f None step by_header same header = refl
step_by f (Some k) step by_header same header = ap (λ (x : Control). Some x) (same k ∙ sym (ap (λ (n : ℕ). by_header n k) header))

pub header_fresh : (h : ℕ) (controls : Bool) (k : Control) → k.header ≡ h → IfSome (when controls k) (λ x. x.header ≡ h)
header_fresh h true k is = is
header_fresh h false k is = tt
