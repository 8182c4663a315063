-- `connect`, `send`, `abandon` and `shutdown`: each answer is the specification's for the phase, and each step leaves its view.
use Rattle.std.proofs.Common.{◌≡◌, ◌∙◌, ℕ, ◌+◌, nat_lt, nat_le, Bool, true, false, List, [], ◌∷◌, length, refl, ap, sym, arith}
use Rattle.std.proofs.lemmas.Bool.{false≢true}
use Rattle.std.proofs.lemmas.Bool.Decides.{nat_tests}
use Rattle.std.specs.Prelude.{if◌then◌else◌, not, ◌&&◌, ◌||◌, ◌==◌, zero, suc, Some, None, unwrap_or}
use Rattle.sctp_model.specs.numbers.Limits.{QUEUE_LIMIT, TICKET_LIMIT, TSN_LIMIT}
use Rattle.sctp_model.specs.sender.Words.{when, first_there}
use Rattle.sctp_model.specs.sender.SenderView.{SendLimits, SenderView, fresh_sender}
use Rattle.sctp_model.specs.sender.Queueing.{NoSuchStream, Resetting, Empty, TooLong, QueueFull, Spent, is_over, refusal, promised, owed_for, cut}
use Rattle.sctp_model.specs.sender.Outgoing.{is_sending}
use Rattle.sctp_model.specs.sender.Abandoning.{abandon_answer, abandon_after, Unknown, Withdrawn}
use Rattle.sctp_model.specs.receiver.ReceiverView.{ReceiverView, fresh_receiver}
use Rattle.sctp_model.specs.world.Calls.{Call}
use Rattle.sctp_model.specs.end.EndView as model
use Rattle.sctp_model.specs.end.EndView.{EndView, Alarm, Timer}
use Rattle.sctp_model.specs.end.Clock.{turned, stopped, replaced, timers_in}
use Rattle.sctp_model.specs.end.Closing.{hears, rested}
use Rattle.sctp_model.specs.end.Moments.{after_abandoning}
use Rattle.sctp_model.specs.end.UserCalls.{is_established, is_open, ConnectAnswer, Called, NotIdle, connect_answer, called, Ticket, NotOpen, send_answer, answer_for, UserTakes, shutdown_answer, NotShut, shut_in, shut, abandoned_at}
use Rattle.sctp_terms.specs.PlainOptions.{HasPlainOptions}
use Rattle.sctp_association.specs.TimersMean.{timers_meaning}
use Rattle.sctp_association.specs.PhaseMeans.{phase_of, phase_in, is_idle}
use Rattle.sctp_association.specs.DueStands.{DueStands}
use Rattle.sctp_association.specs.MachineStands.{IsUnjoined, LifeStands, KeepsMachine}
use Rattle.sctp_association.specs.declared.state.stage.Tags.{Tags}
use Rattle.sctp_association.specs.declared.state.life.Unjoined.TheVariants.{Idle, Listening, Calling, Failed}
use Rattle.sctp_association.specs.declared.state.life.Progress.{Progress}
use Rattle.sctp_association.specs.declared.state.life.Progress.TheVariants.{Echoing, Open, Over}
use Rattle.sctp_association.specs.declared.state.life.Life.{Life}
use Rattle.sctp_association.specs.declared.state.life.Life.TheVariants as life
use Rattle.sctp_association.specs.declared.state.due.Due.{Due}
use Rattle.sctp_association.specs.declared.time.timers.Timers.{Timers}
use Rattle.sctp_association.specs.declared.machine.Machine.{Machine}
use Rattle.sctp_association.proofs.OptionLemmas.{unupdating}

-- ---- abandon

-- of a sender that was never used no message is known
pub abandon_fresh : (s : SenderView) (f : ℕ) (l : SendLimits) (t : ℕ) → s ≡ fresh_sender 0 0 f 0 false l → abandon_after s t ≡ s
abandon_fresh s f l t is = ap (λ (x : SenderView). abandon_after x t) is ∙ sym is

no_ticket : (t : ℕ) → (nat_lt 0 t && nat_le t 0) ≡ false
no_ticket zero = refl
no_ticket (suc t) = grind (arith, nat_tests)

abandon_none : (t f : ℕ) (l : SendLimits) → abandon_answer (fresh_sender 0 0 f 0 false l) t ≡ Unknown
abandon_none t f l = ap (λ (b : Bool). unwrap_or (first_there (None ∷ when b Withdrawn ∷ [])) Unknown) (no_ticket t)

pub unknown_fresh : (s : SenderView) (f : ℕ) (l : SendLimits) (t : ℕ) → s ≡ fresh_sender 0 0 f 0 false l → Unknown ≡ abandon_answer s t
unknown_fresh s f l t is = sym (ap (λ (x : SenderView). abandon_answer x t) is ∙ abandon_none t f l)

pub abandoned_by : (v : EndView) (t : ℕ) (b : Bool) → is_open v.phase ≡ b
    → abandoned_at v t ≡ (if b then after_abandoning v (abandon_after v.sender t) else record v { sender = abandon_after v.sender t })
abandoned_by v t b is = ap (λ (x : Bool). if x then after_abandoning v (abandon_after v.sender t) else record v { sender = abandon_after v.sender t }) is

-- ---- shutdown

pub shuts_not : (h : model.Phase) → hears (λ g. true) h ≡ false → NotShut ≡ shutdown_answer h
shuts_not model.Idle w = refl
shuts_not model.Listening w = refl
shuts_not (model.Calling d) w = refl
shuts_not (model.Echoing t xs) w = refl
shuts_not (model.Open t g) w = absurd (false≢true (sym w))
shuts_not (model.Over why) w = refl

pub shut_not : (h : model.Phase) (v : EndView) → hears (λ g. true) h ≡ false → shut_in h v ≡ v
shut_not model.Idle v w = refl
shut_not model.Listening v w = refl
shut_not (model.Calling d) v w = refl
shut_not (model.Echoing t xs) v w = refl
shut_not (model.Open t g) v w = absurd (false≢true (sym w))
shut_not (model.Over why) v w = refl

-- once it is begun
shut_begun_in : (t : model.Tags) (g : model.Stage) (v : EndView) → is_established g ≡ false → shut_in (model.Open t g) v ≡ v
shut_begun_in t model.Established v w = absurd (false≢true (sym w))
shut_begun_in t model.ShutdownPending v w = refl
shut_begun_in t model.ShutdownSent v w = refl
shut_begun_in t model.ShutdownReceived v w = refl
shut_begun_in t model.ShutdownAckSent v w = refl

shut_first_in : (t : model.Tags) (g : model.Stage) (v : EndView) → is_established g ≡ true → shut_in (model.Open t g) v ≡ rested (turned (model.Open t model.ShutdownPending) v)
shut_first_in t model.Established v w = refl
shut_first_in t model.ShutdownPending v w = absurd (false≢true w)
shut_first_in t model.ShutdownSent v w = absurd (false≢true w)
shut_first_in t model.ShutdownReceived v w = absurd (false≢true w)
shut_first_in t model.ShutdownAckSent v w = absurd (false≢true w)

pub shut_begun : (v : EndView) (t : model.Tags) (g : model.Stage) → v.phase ≡ model.Open t g → is_established g ≡ false → shut v ≡ v
shut_begun v t g phase w = ap (λ (h : model.Phase). shut_in h v) phase ∙ shut_begun_in t g v w

pub shut_first : (v : EndView) (t : model.Tags) (g : model.Stage) → v.phase ≡ model.Open t g → is_established g ≡ true → shut v ≡ rested (turned (model.Open t model.ShutdownPending) v)
shut_first v t g phase w = ap (λ (h : model.Phase). shut_in h v) phase ∙ shut_first_in t g v w

-- ---- connect

abbrev pub calls : Bool → ConnectAnswer
calls true = Called
calls false = NotIdle

joined_answer : (t : Tags) (p : Progress) → NotIdle ≡ connect_answer (phase_in t p)
joined_answer t (Echoing xs) = refl
joined_answer t (Open g) = refl
joined_answer t (Over why) = refl

idle_answer_at : (h : Life) → calls (is_idle h) ≡ connect_answer (phase_of h)
idle_answer_at (life.Unjoined Idle) = refl
idle_answer_at (life.Unjoined Listening) = refl
idle_answer_at (life.Unjoined (Calling d)) = refl
idle_answer_at (life.Unjoined (Failed why)) = refl
idle_answer_at (life.Joined a) = joined_answer a.tags a.progress

pub idle_answer : (m : Machine) (v : EndView) (b r : Bool) → KeepsMachine m v → r ≡ is_idle m.life → r ≡ b → calls b ≡ connect_answer v.phase
idle_answer m v b r k is same = ap calls (sym same ∙ is) ∙ idle_answer_at m.life ∙ ap connect_answer k.phase

idle_unjoined : (h : Life) (c : model.Configuration) (t : model.Terms) (s : SenderView) (r : ReceiverView) → is_idle h ≡ true → LifeStands h c t s r → IsUnjoined c t s r
idle_unjoined (life.Unjoined x) c t s r w stands = stands
idle_unjoined (life.Joined a) c t s r w stands = absurd (false≢true w)

pub called_stands : (m : Machine) (v : EndView) (draw : model.Draw) (d : Due) (s : Timers) → KeepsMachine m v → is_idle m.life ≡ true → DueStands d (called v draw).due
    → timers_meaning s ≡ timers_in (model.Calling draw) (timers_meaning m.timers)
    → KeepsMachine (record m { life = life.Unjoined (Calling draw); due = d; timers = s }) (called v draw)
called_stands m v draw d s k idle due timers = record {
  configuration = k.configuration;
  role = k.role;
  clock = k.clock;
  due = due;
  timers = timers ∙ ap (timers_in (model.Calling draw)) k.timers;
  delayed = k.delayed;
  phase = refl;
  life = idle_unjoined m.life v.configuration v.terms v.sender v.receiver idle k.life;
  room = k.room;
  pace = k.pace;
  unpaced = k.unpaced;
  options = k.options;
  beats = k.beats;
}

abbrev pub stop_at : Alarm → (Alarm → Timer) → Alarm → Timer
stop_at a f = replaced a (stopped (f a)) f

called_at : (d : model.Draw) (s : Timers) (a : Alarm)
    → stop_at model.ResetAlarm (stop_at model.AckAlarm (stop_at model.ShutdownAlarm (stop_at model.DataAlarm (stop_at model.CookieAlarm (timers_meaning s))))) a
    ≡ timers_in (model.Calling d) (timers_meaning s) a
called_at d s model.InitAlarm = refl
called_at d s model.CookieAlarm = refl
called_at d s model.DataAlarm = refl
called_at d s model.ShutdownAlarm = refl
called_at d s model.AckAlarm = refl
called_at d s model.ResetAlarm = refl
called_at d s model.BeatAlarm = refl
called_at d s model.GuardAlarm = refl

pub called_timers : (d : model.Draw) (s : Timers) (g h k l n : Alarm → Timer) → g ≡ stop_at model.CookieAlarm (timers_meaning s) → h ≡ stop_at model.DataAlarm g
    → k ≡ stop_at model.ShutdownAlarm h → l ≡ stop_at model.AckAlarm k → n ≡ stop_at model.ResetAlarm l → n ≡ timers_in (model.Calling d) (timers_meaning s)
called_timers d s g h k l n one two three four five =
    five ∙ ap (stop_at model.ResetAlarm) (four ∙ ap (stop_at model.AckAlarm) (three ∙ ap (stop_at model.ShutdownAlarm) (two ∙ ap (stop_at model.DataAlarm) one))) ∙ (λ i a. called_at d s a i)

-- ---- send

zero_le : (n : ℕ) → nat_le 0 n ≡ true
zero_le n = grind (arith, nat_tests)

refuses_at : (s : SenderView) (stream : ℕ) (bytes : List ℕ) → nat_le s.streams stream ≡ true → refusal s stream bytes ≡ Some NoSuchStream
refuses_at s stream bytes w =
    ap (λ (b : Bool). first_there (when b NoSuchStream ∷ when (not (is_sending (s.resets.sending stream))) Resetting ∷ when (length bytes == 0) Empty ∷ when (nat_lt s.limits.message (length bytes)) TooLong
    ∷ when (nat_le QUEUE_LIMIT (length s.queue) || is_over s bytes) QueueFull
    ∷ when (nat_le TICKET_LIMIT s.tickets || nat_lt TSN_LIMIT (promised s + owed_for (length (cut s.fragment bytes)))) Spent ∷ [])) w

pub refuses_fresh : (s : SenderView) (f : ℕ) (l : SendLimits) (stream : ℕ) (bytes : List ℕ) → s ≡ fresh_sender 0 0 f 0 false l → refusal s stream bytes ≡ Some NoSuchStream
refuses_fresh s f l stream bytes is = refuses_at s stream bytes (ap (λ (x : SenderView). nat_le x.streams stream) is ∙ zero_le stream)

pub hears_not : (h : model.Phase) → hears (λ g. true) h ≡ false → hears is_established h ≡ false
hears_not model.Idle w = refl
hears_not model.Listening w = refl
hears_not (model.Calling d) w = refl
hears_not (model.Echoing t xs) w = refl
hears_not (model.Open t g) w = absurd (false≢true (sym w))
hears_not (model.Over why) w = refl

pub send_by : (v : EndView) (c : Call) (b : Bool) → hears is_established v.phase ≡ b → send_answer v c ≡ (if b then answer_for v (refusal v.sender c.lane.stream c.bytes) else NotOpen)
send_by v c b is = ap (λ (x : Bool). if x then answer_for v (refusal v.sender c.lane.stream c.bytes) else NotOpen) is

pub heard : (h : model.Phase) (t : model.Tags) (g : model.Stage) (b r : Bool) → h ≡ model.Open t g → r ≡ is_established g → r ≡ b → hears is_established h ≡ b
heard h t g b r phase is same = ap (hears is_established) phase ∙ sym is ∙ same

pub ticket_for : (v : EndView) (c : Call) (n : ℕ) → hears is_established v.phase ≡ true → refusal v.sender c.lane.stream c.bytes ≡ None → n ≡ suc v.sender.tickets → send_answer v c ≡ Ticket n
ticket_for v c n w none is = send_by v c true w ∙ ap (answer_for v) none ∙ ap (λ (m : ℕ). Ticket m) (sym is)

-- ---- take

pub takes_unjoined : (v : EndView) (f n s : ℕ) → v.receiver ≡ fresh_receiver 0 0 f n → HasPlainOptions v.configuration → UserTakes v s None v
takes_unjoined v f n s is options = record { receiver = v.receiver; takes = (ap (λ (r : ReceiverView). r.waiting s) is, refl); leaves = sym (unupdating v options) }
