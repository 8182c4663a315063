-- Opening: what an endpoint knows by its phase and role, that a cookie it echoes fits a chunk, and what COOKIE ACK and COOKIE ECHO leave of it.
use Rattle.std.proofs.Common.{◌≡◌, ◌∙◌, ℕ, ◌+◌, ◌≤◌, ◌<◌, ◌^◌, Bool, true, false, List, length, refl, ap, sym, subst, arith}
use Rattle.std.proofs.lemmas.Bool.{false≢true, leb-true}
use Rattle.std.specs.Prelude.{if◌then◌else◌, Some, None, Result, Ok, Err, MatchResult, IfOk}
use Rattle.sctp_model.specs.wire.Typed.{Typed}
use Rattle.sctp_model.specs.wire.Chunk.{InitMeaning, CookieEcho, padded}
use Rattle.sctp_model.specs.end.EndView.{EndView}
use Rattle.sctp_model.specs.end.EndView as model
use Rattle.sctp_model.specs.end.Clock.{timers_in, turned}
use Rattle.sctp_model.specs.end.Reports.{fits_alone}
use Rattle.sctp_model.specs.end.Opening.{is_calling, ack_fault, seal_in}
use Rattle.sctp_model.specs.end.Strays.{seal_at}
use Rattle.sctp_association.specs.TimersMean.{timers_meaning}
use Rattle.sctp_association.specs.StageMeans.{tags_meaning}
use Rattle.sctp_association.specs.PhaseMeans.{phase_in, phase_unjoined, phase_of, is_listening}
use Rattle.sctp_association.specs.DueStands.{DueStands}
use Rattle.sctp_association.specs.MachineStands.{KeepsMachine}
use Rattle.sctp_association.specs.declared.state.stage.Tags.{Tags}
use Rattle.sctp_association.specs.declared.state.stage.Stage.TheVariants as stage
use Rattle.sctp_association.specs.declared.state.life.Unjoined.{Unjoined}
use Rattle.sctp_association.specs.declared.state.life.Progress.{Progress}
use Rattle.sctp_association.specs.declared.state.life.Progress.TheVariants.{Echoing, Open, Over}
use Rattle.sctp_association.specs.declared.state.life.Association.{Association}
use Rattle.sctp_association.specs.declared.state.life.Life.TheVariants as life
use Rattle.sctp_association.specs.declared.time.timers.Timers.{Timers}
use Rattle.sctp_association.specs.declared.state.due.Due.{Due}
use Rattle.sctp_association.specs.declared.machine.Machine.{Machine}
use Rattle.sctp_association.proofs.MachineLemmas.{joined, phase_joined}

-- ---- the phase

pub phase_outside : (m : Machine) (x : Unjoined) (v : EndView) → m.life ≡ life.Unjoined x → KeepsMachine m v → phase_unjoined x ≡ v.phase
phase_outside m x v is k = subst (λ h. phase_of h ≡ v.phase) is k.phase

pub joined_calls_not : (t : Tags) (p : Progress) → is_calling (phase_in t p) ≡ false
joined_calls_not t (Echoing cookie) = refl
joined_calls_not t (Open g) = refl
joined_calls_not t (Over why) = refl

echo_tags : (tags : Tags) (p : Progress) (t : model.Tags) (xs : List ℕ) → phase_in tags p ≡ model.Echoing t xs → tags_meaning tags ≡ t
echo_tags tags (Echoing cookie) t xs e = cc
echo_tags tags (Open h) t xs e = cc
echo_tags tags (Over why) t xs e = cc

-- the cookie was taken
pub established_there : (m : Machine) (a : Association) (v : EndView) (t : model.Tags) (xs : List ℕ) (d : Due) (s : Timers) → m.life ≡ life.Joined a
    → KeepsMachine m v → v.phase ≡ model.Echoing t xs → DueStands d (turned (model.Open t model.Established) v).due
    → timers_meaning s ≡ timers_in (model.Open t model.Established) (timers_meaning m.timers)
    → KeepsMachine (record m { due = d; timers = s; life = life.Joined (record a { progress = Open stage.Established }) }) (turned (model.Open t model.Established) v)
established_there m a v t xs d s is k phase due timers =
    let same = echo_tags a.tags a.progress t xs (phase_joined m a v is k ∙ phase) in record {
      configuration = k.configuration;
      role = k.role;
      clock = k.clock;
      due = due;
      timers = timers ∙ ap (timers_in (model.Open t model.Established)) k.timers;
      delayed = k.delayed;
      phase = ap (λ (x : model.Tags). model.Open x model.Established) same;
      life = record { terms = (joined m a v is k).terms; traffic = (joined m a v is k).traffic; buffer = (joined m a v is k).buffer; answers = (joined m a v is k).answers };
      room = k.room;
      pace = k.pace;
      unpaced = k.unpaced;
      options = k.options;
      beats = k.beats;
    }

-- ---- the seal of an end that listens

pub seal_listening : (h : model.Phase) (r : model.Role) → is_listening h ≡ true → seal_at h r ≡ seal_in r
seal_listening model.Idle r w = absurd (false≢true w)
seal_listening model.Listening r w = refl
seal_listening (model.Calling d) r w = absurd (false≢true w)
seal_listening (model.Echoing t xs) r w = absurd (false≢true w)
seal_listening (model.Open t g) r w = absurd (false≢true w)
seal_listening (model.Over why) r w = absurd (false≢true w)

pub seal_elsewhere : (h : model.Phase) (r : model.Role) → is_listening h ≡ false → seal_at h r ≡ None
seal_elsewhere model.Idle r w = refl
seal_elsewhere model.Listening r w = absurd (false≢true (sym w))
seal_elsewhere (model.Calling d) r w = refl
seal_elsewhere (model.Echoing t xs) r w = refl
seal_elsewhere (model.Open t g) r w = refl
seal_elsewhere (model.Over why) r w = refl

-- ---- a cookie that goes back

goes_in : (a b : Bool) (x y : Typed) → (if a then Some x else if b then None else Some y) ≡ None → b ≡ true
goes_in true b x y is = cc
goes_in false true x y is = refl
goes_in false false x y is = cc

-- a cookie that has room in a packet has a length of 16 bits
pub small_echo : (e : EndView) (m : InitMeaning) (xs : List ℕ) → e.configuration.limit ≤ 1500 → ack_fault e m (Some xs) ≡ None → 4 + length xs < 2 ^ 16
small_echo e m xs limit taken =
    let fits : fits_alone e (CookieEcho xs) ≡ true = goes_in _ _ _ _ taken in
    let within : 12 + (padded (4 + length xs) + 0) ≤ e.configuration.limit = leb-true _ _ fits in
    omega arith

-- what is known where there is a value
pub on_value : {A B : Type 0} (P Q : A → Type 0) (R : B → Type 0) (r : Result A B) → ((x : A) → P x → Q x) → MatchResult r P R → IfOk r Q
on_value P Q R (Ok x) step is = step x is
on_value P Q R (Err y) step is = tt
