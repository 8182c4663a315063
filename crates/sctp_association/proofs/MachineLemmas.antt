-- An endpoint and a view that it stands for, with the same part of both changed, stand for each other again: clock, due chunks, timers, buffer, traffic, phase.
use Rattle.std.proofs.Common.{◌≡◌, ◌≤◌, ◌∙◌, ℕ, Bool, true, false, refl, sym, ap, subst}
use Rattle.std.specs.Prelude.{max, zero, suc, [], Option, None, vec_capacity, if◌then◌else◌}
use Rattle.std.specs.declared.vec.Vec.{Vec}
use Rattle.std.specs.declared.alloc.Global.{Global}
use Rattle.sctp_model.specs.sender.SenderView.{SendLimits, SenderView, fresh_sender}
use Rattle.sctp_model.specs.receiver.Incoming.{Incoming}
use Rattle.sctp_model.specs.receiver.ReceiverView.{ReceiverView}
use Rattle.sctp_model.specs.sender.Abandoning.{expired, worn, timed_out}
use Rattle.sctp_model.specs.end.Pacing.{Pace}
use Rattle.sctp_model.specs.end.EndView.{EndView, Configuration, Alarm, format_for, nothing_due}
use Rattle.sctp_model.specs.end.EndView as model
use Rattle.sctp_model.specs.numbers.Limits.{FIRST_WAIT}
use Rattle.sctp_model.specs.end.Clock.{at_moment, is_home, stopped, timers_in, turned, closed}
use Rattle.sctp_terms.specs.Meanings.{end_meaning}
use Rattle.sctp_terms.specs.declared.life.End.{End}
use Rattle.sctp_congestion.specs.PaceStands.{PacesStand}
use Rattle.sctp_congestion.specs.declared.pacing.Pacing.{Pacing}
use Rattle.sctp_association.specs.TimersMean.{timers_meaning, resting, open_timers}
use Rattle.sctp_association.specs.StageMeans.{tags_meaning, stage_meaning}
use Rattle.sctp_association.specs.PhaseMeans.{phase_in, phase_of, phase_unjoined}
use Rattle.sctp_association.specs.DueStands.{DueStands}
use Rattle.sctp_association.specs.TrafficStands.{TrafficStands}
use Rattle.sctp_association.specs.MachineStands.{IsUnjoined, IsJoined, LifeStands, KeepsMachine}
use Rattle.sctp_association.specs.declared.state.stage.Tags.{Tags}
use Rattle.sctp_association.specs.declared.state.stage.Stage.{Stage}
use Rattle.sctp_association.specs.declared.state.life.Unjoined.{Unjoined}
use Rattle.sctp_association.specs.declared.state.life.Unjoined.TheVariants.{Failed}
use Rattle.sctp_association.specs.declared.state.life.Progress.{Progress}
use Rattle.sctp_association.specs.declared.state.life.Progress.TheVariants.{Echoing, Open, Over}
use Rattle.sctp_association.specs.declared.state.life.Association.{Association}
use Rattle.sctp_association.specs.declared.state.life.Life.TheVariants as life
use Rattle.sctp_association.specs.declared.traffic.Traffic.{Traffic}
use Rattle.sctp_association.specs.declared.time.timers.Timers.{Timers}
use Rattle.sctp_association.specs.declared.state.due.Due.{Due}
use Rattle.sctp_association.specs.declared.machine.Machine.{Machine}
use Rattle.sctp_association.proofs.CumLemmas.{later_pace, expiry_stays}

-- the view is another, which is equal
pub at_view : (m : Machine) (v w : EndView) → v ≡ w → KeepsMachine m w → KeepsMachine m v
at_view m v w same keeps = subst (λ x. KeepsMachine m x) (sym same) keeps

-- ---- the clock, what is due, the timers

pub with_clock : (m : Machine) (v : EndView) (n now : ℕ) → KeepsMachine m v → n ≡ max m.moment now → KeepsMachine (record m { moment = n }) (at_moment v now)
with_clock m v n now k is = record { configuration = k.configuration; role = k.role; clock = is ∙ ap (λ (x : ℕ). max x now) k.clock; due = k.due; timers = k.timers; delayed = k.delayed; phase = k.phase; life = k.life; room = k.room; pace = k.pace; unpaced = k.unpaced; options = k.options; beats = k.beats }

pub with_due : (m : Machine) (v : EndView) (d : Due) (x : model.Due) → KeepsMachine m v → DueStands d x → KeepsMachine (record m { due = d }) (record v { due = x })
with_due m v d x k due = record { configuration = k.configuration; role = k.role; clock = k.clock; due = due; timers = k.timers; delayed = k.delayed; phase = k.phase; life = k.life; room = k.room; pace = k.pace; unpaced = k.unpaced; options = k.options; beats = k.beats }

pub with_timers : (m : Machine) (v : EndView) (s : Timers) (f : Alarm → model.Timer) → KeepsMachine m v → timers_meaning s ≡ f → KeepsMachine (record m { timers = s }) (record v { timers = f })
with_timers m v s f k timers = record { configuration = k.configuration; role = k.role; clock = k.clock; due = k.due; timers = timers; delayed = k.delayed; phase = k.phase; life = k.life; room = k.room; pace = k.pace; unpaced = k.unpaced; options = k.options; beats = k.beats }

pub with_both : (m : Machine) (v : EndView) (d : Due) (x : model.Due) (s : Timers) (f : Alarm → model.Timer) → KeepsMachine m v → DueStands d x → timers_meaning s ≡ f
    → KeepsMachine (record m { due = d; timers = s }) (record v { due = x; timers = f })
with_both m v d x s f k due timers = record { configuration = k.configuration; role = k.role; clock = k.clock; due = due; timers = timers; delayed = k.delayed; phase = k.phase; life = k.life; room = k.room; pace = k.pace; unpaced = k.unpaced; options = k.options; beats = k.beats }

pub with_delayed : (m : Machine) (v : EndView) (n o : Option ℕ) → KeepsMachine m v → n ≡ o → KeepsMachine (record m { delayed = n }) (record v { delayed = o })
with_delayed m v n o k is = record { configuration = k.configuration; role = k.role; clock = k.clock; due = k.due; timers = k.timers; delayed = is; phase = k.phase; life = k.life; room = k.room; pace = k.pace; unpaced = k.unpaced; options = k.options; beats = k.beats }

-- what window was advertised last isn't kept
pub with_offered : (m : Machine) (v : EndView) (n : ℕ) → KeepsMachine m v → KeepsMachine m (record v { offered = n })
with_offered m v n k = record { configuration = k.configuration; role = k.role; clock = k.clock; due = k.due; timers = k.timers; delayed = k.delayed; phase = k.phase; life = k.life; room = k.room; pace = k.pace; unpaced = k.unpaced; options = k.options; beats = k.beats }

-- the buffer for the next packet is no part of any view
pub with_room : (m : Machine) (v : EndView) (room : Vec ℕ Global) → KeepsMachine m v → vec_capacity room ≤ v.configuration.limit → KeepsMachine (record m { room = room }) v
with_room m v room k within = record { configuration = k.configuration; role = k.role; clock = k.clock; due = k.due; timers = k.timers; delayed = k.delayed; phase = k.phase; life = k.life; room = within; pace = k.pace; unpaced = k.unpaced; options = k.options; beats = k.beats }

-- the pace
pub with_pace : (m : Machine) (v : EndView) (q : Option Pacing) (p : Option Pace) → KeepsMachine m v → PacesStand (format_for v.terms.interleave) v.sender.cum q p
    → (v.configuration.fast_retransmit ≡ false → p ≡ None) → KeepsMachine (record m { pace = q }) (record v { pace = p })
with_pace m v q p k paces unasked = record { configuration = k.configuration; role = k.role; clock = k.clock; due = k.due; timers = k.timers; delayed = k.delayed; phase = k.phase; life = k.life; room = k.room; pace = paces; unpaced = unasked; options = k.options; beats = k.beats }

-- ---- terms, sender and receiver

-- those of an association
pub joined : (m : Machine) (a : Association) (v : EndView) → m.life ≡ life.Joined a → KeepsMachine m v → IsJoined a v.configuration v.terms v.sender v.receiver
joined m a v is k = subst (λ h. LifeStands h v.configuration v.terms v.sender v.receiver) is k.life

-- before one
pub unjoined : (m : Machine) (x : Unjoined) (v : EndView) → m.life ≡ life.Unjoined x → KeepsMachine m v → IsUnjoined v.configuration v.terms v.sender v.receiver
unjoined m x v is k = subst (λ h. LifeStands h v.configuration v.terms v.sender v.receiver) is k.life

pub phase_unjoined_at : (m : Machine) (x : Unjoined) (v : EndView) → m.life ≡ life.Unjoined x → KeepsMachine m v → phase_unjoined x ≡ v.phase
phase_unjoined_at m x v is k = subst (λ h. phase_of h ≡ v.phase) is k.phase

pub phase_joined : (m : Machine) (a : Association) (v : EndView) → m.life ≡ life.Joined a → KeepsMachine m v → phase_in a.tags a.progress ≡ v.phase
phase_joined m a v is k = subst (λ h. phase_of h ≡ v.phase) is k.phase

-- other traffic, in which responses wait only where streams may be reset; CUM doesn't fall
pub with_resets : (m : Machine) (a : Association) (s : Traffic) (v : EndView) (x : SenderView) (y : ReceiverView) → m.life ≡ life.Joined a → KeepsMachine m v
    → TrafficStands s (format_for v.terms.interleave) x y → v.sender.cum ≤ x.cum → y.buffer ≡ v.receiver.buffer → (v.terms.reset ≡ false → y.resets.answers ≡ [])
    → KeepsMachine (record m { life = life.Joined (record a { traffic = s }) }) (record v { sender = x; receiver = y })
with_resets m a s v x y is k stands up same unasked = record {
  configuration = k.configuration;
  role = k.role;
  clock = k.clock;
  due = k.due;
  timers = k.timers;
  delayed = k.delayed;
  phase = phase_joined m a v is k;
  life = record { terms = (joined m a v is k).terms; traffic = stands; buffer = same ∙ (joined m a v is k).buffer; answers = unasked };
  room = k.room;
  pace = later_pace (format_for v.terms.interleave) v.sender.cum x.cum m.pace v.pace up k.pace;
  unpaced = k.unpaced;
  options = k.options;
  beats = k.beats;
}

pub with_traffic : (m : Machine) (a : Association) (s : Traffic) (v : EndView) (x : SenderView) (y : ReceiverView) → m.life ≡ life.Joined a → KeepsMachine m v
    → TrafficStands s (format_for v.terms.interleave) x y → v.sender.cum ≤ x.cum → y.buffer ≡ v.receiver.buffer → y.resets ≡ v.receiver.resets
    → KeepsMachine (record m { life = life.Joined (record a { traffic = s }) }) (record v { sender = x; receiver = y })
with_traffic m a s v x y is k stands up same unreset = with_resets m a s v x y is k stands up same (λ off. ap (λ (z : Incoming). z.answers) unreset ∙ (joined m a v is k).answers off)

pub with_expired : (m : Machine) (a : Association) (s : Traffic) (v : EndView) (now : ℕ) → m.life ≡ life.Joined a → KeepsMachine m v → now ≡ v.moment
    → TrafficStands s (format_for v.terms.interleave) (expired v.sender now) v.receiver
    → KeepsMachine (record m { life = life.Joined (record a { traffic = s }) }) (record v { sender = expired v.sender v.moment })
with_expired m a s v now is k clock stands =
    with_traffic m a s v (expired v.sender v.moment) v.receiver is k (subst (λ (n : ℕ). TrafficStands s (format_for v.terms.interleave) (expired v.sender n) v.receiver) clock stands) (expiry_stays v.sender v.moment) refl refl

-- a sender that was never used stays so
pub expired_fresh : (s : SenderView) (f : ℕ) (l : SendLimits) (now : ℕ) → s ≡ fresh_sender 0 0 f 0 false l → expired s now ≡ s
expired_fresh s f l now is = ap (λ (x : SenderView). expired x now) is ∙ sym is

pub worn_fresh : (s : SenderView) (f : ℕ) (l : SendLimits) → s ≡ fresh_sender 0 0 f 0 false l → worn (λ i. true) s ≡ s
worn_fresh s f l is = ap (λ (x : SenderView). worn (λ i. true) x) is ∙ sym is

pub worn_fresh_by : (test : ℕ → Bool) (s : SenderView) (f : ℕ) (l : SendLimits) → s ≡ fresh_sender 0 0 f 0 false l → worn test s ≡ s
worn_fresh_by test s f l is = ap (λ (x : SenderView). worn test x) is ∙ sym is

none_marked : (f : ℕ) (l : SendLimits) (i : ℕ) → (timed_out (fresh_sender 0 0 f 0 false l)).marked i ≡ false
none_marked f l zero = refl
none_marked f l (suc i) = refl

pub timed_out_fresh : (s : SenderView) (f : ℕ) (l : SendLimits) → s ≡ fresh_sender 0 0 f 0 false l → timed_out s ≡ s
timed_out_fresh s f l is = ap (λ (x : SenderView). timed_out x) is ∙ ap (λ (m : ℕ → Bool). record (fresh_sender 0 0 f 0 false l) { marked = m }) (λ j i. none_marked f l i j) ∙ sym is

-- ---- the phase

open_tags : (tags : Tags) (p : Progress) (t : model.Tags) (g : model.Stage) → phase_in tags p ≡ model.Open t g → tags_meaning tags ≡ t
open_tags tags (Echoing xs) t g e = cc
open_tags tags (Open h) t g e = cc
open_tags tags (Over why) t g e = cc

pub turned_open : (m : Machine) (a : Association) (v : EndView) (t : model.Tags) (g : model.Stage) (stage : Stage) (d : Due) (s : Timers) → m.life ≡ life.Joined a
    → KeepsMachine m v → v.phase ≡ model.Open t g → DueStands d (turned (model.Open t (stage_meaning stage)) v).due
    → timers_meaning s ≡ timers_in (model.Open t (stage_meaning stage)) (timers_meaning m.timers)
    → KeepsMachine (record m { due = d; timers = s; life = life.Joined (record a { progress = Open stage }) }) (turned (model.Open t (stage_meaning stage)) v)
turned_open m a v t g stage d s is k phase due timers =
    let same = open_tags a.tags a.progress t g (phase_joined m a v is k ∙ phase) in record {
      configuration = k.configuration;
      role = k.role;
      clock = k.clock;
      due = due;
      timers = timers ∙ ap (timers_in (model.Open t (stage_meaning stage))) k.timers;
      delayed = k.delayed;
      phase = ap (λ (x : model.Tags). model.Open x (stage_meaning stage)) same;
      life = record { terms = (joined m a v is k).terms; traffic = (joined m a v is k).traffic; buffer = (joined m a v is k).buffer; answers = (joined m a v is k).answers };
      room = k.room;
      pace = k.pace;
      unpaced = k.unpaced;
      options = k.options;
      beats = k.beats;
    }

-- no timer is at home where all is over
rests_at : (why : model.Ended) (f : Alarm → model.Timer) (a : Alarm) → resting f a ≡ timers_in (model.Over why) f a
rests_at why f model.InitAlarm = refl
rests_at why f model.CookieAlarm = refl
rests_at why f model.DataAlarm = refl
rests_at why f model.ShutdownAlarm = refl
rests_at why f model.AckAlarm = refl
rests_at why f model.ResetAlarm = refl
rests_at why f model.BeatAlarm = refl
rests_at why f model.GuardAlarm = refl

all_rest : (why : model.Ended) (f : Alarm → model.Timer) → resting f ≡ timers_in (model.Over why) f
all_rest why f = λ i a. rests_at why f a i

-- a timer that never runs rests everywhere
unused_rests : (b : Bool) → stopped (model.unused_timer FIRST_WAIT) ≡ (if b then model.unused_timer FIRST_WAIT else stopped (model.unused_timer FIRST_WAIT))
unused_rests true = refl
unused_rests false = refl

open_at : (t : model.Tags) (g : model.Stage) (s : Timers) (a : Alarm)
    → open_timers (is_home model.ShutdownAlarm (model.Open t g)) (is_home model.AckAlarm (model.Open t g)) (is_home model.ResetAlarm (model.Open t g)) (timers_meaning s) a
    ≡ timers_in (model.Open t g) (timers_meaning s) a
open_at t g s model.InitAlarm = refl
open_at t g s model.CookieAlarm = refl
open_at t g s model.DataAlarm = refl
open_at t g s model.ShutdownAlarm = refl
open_at t g s model.AckAlarm = refl
open_at t g s model.ResetAlarm = refl
open_at t g s model.BeatAlarm = unused_rests (is_home model.BeatAlarm (model.Open t g))
open_at t g s model.GuardAlarm = unused_rests (is_home model.GuardAlarm (model.Open t g))

pub open_in : (t : model.Tags) (g : model.Stage) (n : Alarm → model.Timer) (s : Timers) (b c d : Bool) → n ≡ open_timers b c d (timers_meaning s)
    → b ≡ is_home model.ShutdownAlarm (model.Open t g) → c ≡ is_home model.AckAlarm (model.Open t g) → d ≡ is_home model.ResetAlarm (model.Open t g)
    → n ≡ timers_in (model.Open t g) (timers_meaning s)
open_in t g n s b c d is sent acked asked =
    let f = timers_meaning s in
    let first = is_home model.ShutdownAlarm (model.Open t g) in
    let second = is_home model.AckAlarm (model.Open t g) in
    is ∙ ap (λ (x : Bool). open_timers x c d f) sent ∙ ap (λ (x : Bool). open_timers first x d f) acked ∙ ap (λ (x : Bool). open_timers first second x f) asked ∙ (λ i a. open_at t g s a i)

pub closed_joined : (m : Machine) (a : Association) (v : EndView) (why : End) (d : Due) (s : Timers) → m.life ≡ life.Joined a → KeepsMachine m v → DueStands d nothing_due
    → timers_meaning s ≡ resting (timers_meaning m.timers)
    → KeepsMachine (record m { due = d; timers = s; delayed = None; life = life.Joined (record a { progress = Over why }) }) (closed (end_meaning why) v)
closed_joined m a v why d s is k due timers = record {
  configuration = k.configuration;
  role = k.role;
  clock = k.clock;
  due = due;
  timers = timers ∙ ap resting k.timers ∙ all_rest (end_meaning why) v.timers;
  delayed = refl;
  phase = refl;
  life = record { terms = (joined m a v is k).terms; traffic = (joined m a v is k).traffic; buffer = (joined m a v is k).buffer; answers = (joined m a v is k).answers };
  room = k.room;
  pace = k.pace;
  unpaced = k.unpaced;
  options = k.options;
  beats = k.beats;
}

pub closed_unjoined : (m : Machine) (x : Unjoined) (v : EndView) (why : End) (d : Due) (s : Timers) → m.life ≡ life.Unjoined x → KeepsMachine m v → DueStands d nothing_due
    → timers_meaning s ≡ resting (timers_meaning m.timers) → KeepsMachine (record m { due = d; timers = s; delayed = None; life = life.Unjoined (Failed why) }) (closed (end_meaning why) v)
closed_unjoined m x v why d s is k due timers = record {
  configuration = k.configuration;
  role = k.role;
  clock = k.clock;
  due = due;
  timers = timers ∙ ap resting k.timers ∙ all_rest (end_meaning why) v.timers;
  delayed = refl;
  phase = refl;
  life = unjoined m x v is k;
  room = k.room;
  pace = k.pace;
  unpaced = k.unpaced;
  options = k.options;
  beats = k.beats;
}
