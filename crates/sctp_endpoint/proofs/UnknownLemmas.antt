-- What a chunk of an unrecognized type leaves, by the two highest bits of its type.
use Rattle.std.proofs.Common.{◌≡◌, ℕ, Bool, true, false, List, sym, ap, ◌∙◌}
use Rattle.std.specs.Prelude.{◌&&◌, if◌then◌else◌}
use Rattle.sctp_model.specs.wire.Unknown.{RuleMeaning, chunk_rule}
use Rattle.sctp_model.specs.end.EndView.{EndView}
use Rattle.sctp_model.specs.end.Reports.{causes_with, with_causes}
use Rattle.sctp_model.specs.end.PeerFaults.{Unnoted, After, GoesOn, Ends}
use Rattle.sctp_model.specs.end.Acting.{may_report, unknown_item, unknown_leaves, unknown_acts}

-- the end, told of the chunk where the rule asks for it
abbrev pub reported : RuleMeaning → EndView → (kind flags : ℕ) → (value : List ℕ) → EndView
reported r v kind flags value = with_causes (if r.report && may_report v.phase then causes_with v (unknown_item kind flags value) else v.due.causes) v

-- what the rule leaves
abbrev leaves : RuleMeaning → EndView → (kind flags : ℕ) → (value : List ℕ) → After
leaves r v kind flags value = unknown_leaves r.stop (reported r v kind flags value)

pub unknown_ends : (r : RuleMeaning) (v : EndView) (kind flags : ℕ) (value : List ℕ) → r ≡ chunk_rule kind → r.stop ≡ true
    → Ends (reported r v kind flags value) ≡ unknown_acts v kind flags value
unknown_ends r v kind flags value is stops =
    ap (λ (b : Bool). unknown_leaves b (reported r v kind flags value)) (sym stops) ∙ ap (λ (s : RuleMeaning). leaves s v kind flags value) is

pub unknown_goes_on : (r : RuleMeaning) (v : EndView) (kind flags : ℕ) (value : List ℕ) → r ≡ chunk_rule kind → r.stop ≡ false
    → GoesOn Unnoted (reported r v kind flags value) ≡ unknown_acts v kind flags value
unknown_goes_on r v kind flags value is stops =
    ap (λ (b : Bool). unknown_leaves b (reported r v kind flags value)) (sym stops) ∙ ap (λ (s : RuleMeaning). leaves s v kind flags value) is
