-- `begin`, `echo`, `paired`: an endpoint with the terms, sender and receiver of an association stands for the view that the specification begins with.
use Rattle.std.proofs.Common.{◌≡◌, ◌∙◌, ℕ, true, false, List, refl, sym, ap, subst}
use Rattle.std.specs.Prelude.{Bool, Option, None, Some, ◌-◌, [], Result, IfOk}
use Rattle.sctp_model.specs.messages.Format.{Format}
use Rattle.sctp_model.specs.messages.Framing.{header_of}
use Rattle.sctp_model.specs.sender.SenderView.{SendLimits, fresh_sender}
use Rattle.sctp_model.specs.receiver.ReceiverView.{fresh_receiver}
use Rattle.sctp_model.specs.end.EndView.{Alarm, Configuration, EndView, format_for, send_limits}
use Rattle.sctp_model.specs.end.EndView as model
use Rattle.sctp_model.specs.end.Clock.{timers_in, turned}
use Rattle.sctp_model.specs.wire.Packet.{size_of_packet}
use Rattle.sctp_model.specs.sender.Words.{when}
use Rattle.sctp_model.specs.end.Pacing.{Pace, fresh_pace}
use Rattle.sctp_model.specs.end.Opening.{joined, pace_for}
use Rattle.sctp_opening.specs.Terms.{terms_meaning}
use Rattle.sctp_terms.specs.PlainOptions.{HasPlainOptions}
use Rattle.sctp_congestion.specs.PaceStands.{PaceKept, PaceStands, PacesStand}
use Rattle.sctp_congestion.specs.declared.pacing.Pacing.{Pacing}
use Rattle.sctp_send.specs.SenderStands.{plain_limits}
use Rattle.sctp_association.specs.TimersMean.{timers_meaning}
use Rattle.sctp_association.specs.PhaseMeans.{phase_in}
use Rattle.sctp_association.specs.DueStands.{DueStands}
use Rattle.sctp_association.specs.TrafficStands.{TrafficStands}
use Rattle.sctp_association.specs.MachineStands.{KeepsMachine}
use Rattle.sctp_association.specs.declared.state.life.Association.{Association}
use Rattle.sctp_association.specs.declared.state.life.Life.TheVariants as life
use Rattle.sctp_association.specs.declared.traffic.Traffic.{Traffic}
use Rattle.sctp_association.specs.declared.time.timers.Timers.{Timers}
use Rattle.sctp_association.specs.declared.state.due.Due.{Due}
use Rattle.sctp_association.specs.declared.machine.Machine.{Machine}
use Rattle.sctp_association.proofs.CallLemmas.{stop_at}
use Rattle.sctp_association.proofs.OptionLemmas.{limits_are}

-- the traffic of an association that begins, at an end that is set up so
abbrev pub Begins : Association → Configuration → (rwnd : ℕ) → Type 0
Begins a c rwnd = TrafficStands a.traffic (format_for a.terms.interleave) (fresh_sender a.terms.own_tsn a.terms.outbound c.fragment rwnd a.terms.partial (send_limits c))
    (fresh_receiver a.terms.peer_tsn a.terms.inbound c.buffer c.reserve)

-- of which the code knows the sizes
pub begins_so : {E : Type 0} (r : Result Traffic E) (f : Format) (own outbound peer inbound n b rwnd : ℕ) (partial : Bool) (c : Configuration) → HasPlainOptions c → n ≡ c.fragment → b ≡ c.buffer
    → IfOk r (λ t. TrafficStands t f (fresh_sender own outbound n rwnd partial plain_limits) (fresh_receiver peer inbound b 0))
    → IfOk r (λ t. TrafficStands t f (fresh_sender own outbound c.fragment rwnd partial (send_limits c)) (fresh_receiver peer inbound c.buffer c.reserve))
begins_so r f own outbound peer inbound n b rwnd partial c options fragment buffer begins =
    let Begun : ℕ → SendLimits → ℕ → ℕ → Type 0 =
    λ m l k j. IfOk r (λ t. TrafficStands t f (fresh_sender own outbound m rwnd partial l) (fresh_receiver peer inbound k j)) in
    subst (λ (j : ℕ). Begun c.fragment (send_limits c) c.buffer j) (sym options.reserve)
    (subst (λ (l : SendLimits). Begun c.fragment l c.buffer 0) (sym (limits_are c options))
    (subst (λ (k : ℕ). Begun c.fragment plain_limits k 0) buffer (subst (λ (m : ℕ). Begun m plain_limits b 0) fragment begins)))

-- without fast retransmit it has no pace
pub unpaced : (c : Configuration) (header rwnd : ℕ) → c.fast_retransmit ≡ false → pace_for c header rwnd ≡ None
unpaced c header rwnd off = ap (λ (b : Bool). when b (fresh_pace c.congestion_control c.growth c.cubic header (c.limit - size_of_packet []) rwnd)) off

pub unpaced_so : (f : Format) (c : Configuration) (header rwnd : ℕ) → c.fast_retransmit ≡ false → PacesStand f 0 None (pace_for c header rwnd)
unpaced_so f c header rwnd off = subst (λ (o : Option Pace). PacesStand f 0 None o) (sym (unpaced c header rwnd off)) tt

-- with it it has a new one
pub paced_so : (f : Format) (c : Configuration) (q : PaceKept) (controls : Bool) (header size rwnd : ℕ) → HasPlainOptions c → c.fast_retransmit ≡ true → controls ≡ c.congestion_control
    → header ≡ header_of f → size ≡ c.limit - size_of_packet [] → PaceStands f 0 q (fresh_pace controls 1 false header size rwnd) → PacesStand f 0 (Some q) (pace_for c (header_of f) rwnd)
paced_so f c q controls header size rwnd options on controlled headed sized stands =
    let is : Some (fresh_pace controls 1 false header size rwnd) ≡ pace_for c (header_of f) rwnd =
    (λ i. Some (fresh_pace (controlled i) (sym options.growth i) (sym options.cubic i) (headed i) (sized i) rwnd))
    ∙ sym (ap (λ (b : Bool). when b (fresh_pace c.congestion_control c.growth c.cubic (header_of f) (c.limit - size_of_packet []) rwnd)) on) in
    subst (λ (o : Option Pace). PacesStand f 0 (Some q) o) is stands

-- the end joins, in this phase and with this due
pub joined_there : (m : Machine) (v : EndView) (a : Association) (d : Due) (s : Timers) (p : Option Pacing) (x : model.Terms) (rwnd : ℕ) (h : model.Phase) (y : model.Due) → KeepsMachine m v
    → PacesStand (format_for a.terms.interleave) 0 p (pace_for m.config (header_of (format_for a.terms.interleave)) rwnd) → terms_meaning a.terms ≡ x → phase_in a.tags a.progress ≡ h → DueStands d y → timers_meaning s ≡ timers_in h (timers_meaning m.timers) → Begins a m.config rwnd
    → KeepsMachine (record m { due = d; timers = s; life = life.Joined a; pace = p }) (record (turned h (joined x rwnd v)) { due = y })
joined_there m v a d s p x rwnd h y k paced terms phase due timers begins =
    rw (← terms) (record {
      configuration = k.configuration;
      role = k.role;
      clock = k.clock;
      due = due;
      timers = timers ∙ ap (timers_in h) k.timers;
      delayed = k.delayed;
      phase = phase;
      life = record { terms = refl; traffic = subst (λ (c : Configuration). Begins a c rwnd) k.configuration begins; buffer = refl; answers = λ off. refl };
      room = k.room;
      pace = subst (λ (c : Configuration). PacesStand (format_for a.terms.interleave) 0 p (pace_for c (header_of (format_for a.terms.interleave)) rwnd)) k.configuration paced;
      unpaced = unpaced v.configuration (header_of (format_for a.terms.interleave)) rwnd;
      options = k.options;
      beats = k.beats;
    })

echoed_at : (t : model.Tags) (xs : List ℕ) (s : Timers) (a : Alarm)
    → stop_at model.ResetAlarm (stop_at model.AckAlarm (stop_at model.ShutdownAlarm (stop_at model.DataAlarm (stop_at model.InitAlarm (timers_meaning s))))) a
    ≡ timers_in (model.Echoing t xs) (timers_meaning s) a
echoed_at t xs s model.InitAlarm = refl
echoed_at t xs s model.CookieAlarm = refl
echoed_at t xs s model.DataAlarm = refl
echoed_at t xs s model.ShutdownAlarm = refl
echoed_at t xs s model.AckAlarm = refl
echoed_at t xs s model.ResetAlarm = refl
echoed_at t xs s model.BeatAlarm = refl
echoed_at t xs s model.GuardAlarm = refl

pub echoed_timers : (t : model.Tags) (xs : List ℕ) (s : Timers) (g h k l n : Alarm → model.Timer) → g ≡ stop_at model.InitAlarm (timers_meaning s) → h ≡ stop_at model.DataAlarm g
    → k ≡ stop_at model.ShutdownAlarm h → l ≡ stop_at model.AckAlarm k → n ≡ stop_at model.ResetAlarm l → n ≡ timers_in (model.Echoing t xs) (timers_meaning s)
echoed_timers t xs s g h k l n one two three four five =
    five ∙ ap (stop_at model.ResetAlarm) (four ∙ ap (stop_at model.AckAlarm) (three ∙ ap (stop_at model.ShutdownAlarm) (two ∙ ap (stop_at model.DataAlarm) one))) ∙ (λ i a. echoed_at t xs s a i)
