-- `advance_closing`: closing doesn't go on unless the association is open, in SHUTDOWN-PENDING or SHUTDOWN-RECEIVED, and nothing is left to be acknowledged.
use Rattle.std.proofs.Common.{◌≡◌, ◌∙◌, Bool, true, false, refl, sym, ap}
use Rattle.std.proofs.lemmas.Bool.{false≢true}
use Rattle.sctp_model.specs.sender.Readers.{drained}
use Rattle.sctp_model.specs.end.EndView.{EndView}
use Rattle.sctp_model.specs.end.EndView as model
use Rattle.sctp_model.specs.end.Closing.{hears, rested_in, rested}
use Rattle.sctp_model.specs.end.UserCalls.{is_established}
use Rattle.sctp_association.specs.StageMeans.{stage_meaning}
use Rattle.sctp_association.specs.declared.state.stage.Stage.{Stage}
use Rattle.sctp_association.specs.declared.state.stage.Stage.TheVariants as stage

pub rested_shut : (h : model.Phase) (b : Bool) (v : EndView) → hears (λ g. true) h ≡ false → rested_in h b v ≡ v
rested_shut model.Idle b v shut = refl
rested_shut model.Listening b v shut = refl
rested_shut (model.Calling d) b v shut = refl
rested_shut (model.Echoing t xs) b v shut = refl
rested_shut (model.Open t g) b v shut = absurd (false≢true (sym shut))
rested_shut (model.Over why) b v shut = refl

undrained_at : (t : model.Tags) (g : model.Stage) (v : EndView) → rested_in (model.Open t g) false v ≡ v
undrained_at t model.Established v = refl
undrained_at t model.ShutdownPending v = refl
undrained_at t model.ShutdownSent v = refl
undrained_at t model.ShutdownReceived v = refl
undrained_at t model.ShutdownAckSent v = refl

pub rested_undrained : (v : EndView) (t : model.Tags) (g : model.Stage) → v.phase ≡ model.Open t g → false ≡ drained v.sender → rested v ≡ v
rested_undrained v t g phase more =
    ap (λ (h : model.Phase). rested_in h (drained v.sender) v) phase ∙ ap (λ (b : Bool). rested_in (model.Open t g) b v) (sym more) ∙ undrained_at t g v

pub rested_as : (v : EndView) (t : model.Tags) (g : model.Stage) → v.phase ≡ model.Open t g → true ≡ drained v.sender → rested v ≡ rested_in (model.Open t g) true v
rested_as v t g phase all = ap (λ (h : model.Phase). rested_in h (drained v.sender) v) phase ∙ ap (λ (b : Bool). rested_in (model.Open t g) b v) (sym all)

pub rested_established : (v : EndView) (t : model.Tags) (g : Stage) → v.phase ≡ model.Open t (stage_meaning g) → is_established (stage_meaning g) ≡ true → rested v ≡ v
rested_established v t stage.Established phase is = ap (λ (h : model.Phase). rested_in h (drained v.sender) v) phase
rested_established v t stage.ShutdownPending phase is = absurd (false≢true is)
rested_established v t stage.ShutdownSent phase is = absurd (false≢true is)
rested_established v t stage.ShutdownReceived phase is = absurd (false≢true is)
rested_established v t stage.ShutdownAckSent phase is = absurd (false≢true is)

-- every other stage
pub rests_else : (t : model.Tags) (g : Stage) (v : EndView) → (g ≡ stage.ShutdownPending → ⊥) → (g ≡ stage.ShutdownReceived → ⊥) → rested_in (model.Open t (stage_meaning g)) true v ≡ v
rests_else t stage.Established v one two = refl
rests_else t stage.ShutdownPending v one two = absurd (one refl)
rests_else t stage.ShutdownSent v one two = refl
rests_else t stage.ShutdownReceived v one two = absurd (two refl)
rests_else t stage.ShutdownAckSent v one two = refl
