-- `acknowledge`: whether the SACK of a packet is due at once or delayed, and that this is the specification's step.
use Rattle.std.proofs.Common.{◌≡◌, ◌∙◌, ℕ, Bool, true, false, refl, sym, ap}
use Rattle.std.proofs.lemmas.Bool.{false≢true}
use Rattle.std.specs.Prelude.{Option, if◌then◌else◌, ◌&&◌}
use Rattle.sctp_model.specs.receiver.ReceiverView.{ReceiverView, fresh_receiver}
use Rattle.sctp_model.specs.end.EndView.{Configuration, Stage, EndView}
use Rattle.sctp_model.specs.end.EndView as model
use Rattle.sctp_model.specs.end.Clock.{is_over_at}
use Rattle.sctp_model.specs.end.Closing.{hears, is_shutdown_sent}
use Rattle.sctp_model.specs.end.Moments.{waited_in, waited}
use Rattle.sctp_model.specs.end.Arriving.{Notes, HasGap, is_at_once, acknowledges, delays, kept_going, answered_in, acknowledges_in}

-- nothing came to a fresh receiver
no_gap_fresh : (b n : ℕ) → HasGap (fresh_receiver 0 0 b n) → ⊥
no_gap_fresh b n (c, i, reached, above, seen) = cc

pub no_gap : (r : ReceiverView) (b n : ℕ) → r ≡ fresh_receiver 0 0 b n → HasGap r → ⊥
no_gap r b n is gap = no_gap_fresh b n (rw is at gap)

-- where the association isn't open nothing is acknowledged
pub acknowledges_none : (n : Notes) (h : model.Phase) (v : EndView) → hears (λ g. true) h ≡ false → acknowledges_in n true h v ≡ v
acknowledges_none n model.Idle v shut = refl
acknowledges_none n model.Listening v shut = refl
acknowledges_none n (model.Calling d) v shut = refl
acknowledges_none n (model.Echoing t xs) v shut = refl
acknowledges_none n (model.Open t g) v shut = absurd (false≢true (sym shut))
acknowledges_none n (model.Over why) v shut = refl

-- it is set up as before
same_setting : (b : Bool) (g : Stage) (v : EndView) → (if b then acknowledges g v else delays v).configuration ≡ v.configuration
same_setting true g v = refl
same_setting false g v = refl

-- a SACK is owed first, and then what user data keeps going
pub answered_as : (n : Notes) (g : Stage) (v : EndView) (brings : Bool) → n.brings_data ≡ brings
    → answered_in n g v ≡ (let x = if is_at_once n g v then acknowledges g v else delays v in kept_going (x.configuration.standard_closing && (brings && is_shutdown_sent g)) x)
answered_as n g v brings is =
    let x = if is_at_once n g v then acknowledges g v else delays v in
    ap (λ (b : Bool). kept_going (v.configuration.standard_closing && (b && is_shutdown_sent g)) x) is
    ∙ sym (ap (λ (c : Configuration). kept_going (c.standard_closing && (brings && is_shutdown_sent g)) x) (same_setting (is_at_once n g v) g v))

-- a SACK that waits, by the moment and the wait of the code
pub waited_as : (v : EndView) (m : ℕ) (d : Option ℕ) (b : Bool) → m ≡ v.moment → d ≡ v.delayed → is_over_at m d ≡ b → waited v ≡ waited_in b v
waited_as v m d b clock at is =
    ap (λ (c : Bool). waited_in c v) (sym (ap (λ (n : ℕ). is_over_at n d) clock ∙ ap (λ (o : Option ℕ). is_over_at v.moment o) at) ∙ is)
