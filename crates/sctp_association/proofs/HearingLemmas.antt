-- `hear_piece`, `hear_forward`, `hear_sack`, `hear_shutdown`: what sender and receiver do with a chunk is the step of the open association's view.
use Rattle.std.proofs.Common.{◌≡◌, ◌∙◌, ℕ, nat_le, nat_lt, Bool, true, false, List, length, refl, sym, ap, subst}
use Rattle.std.specs.Prelude.{Option, Some, None, is_some, if◌then◌else◌, ◌&&◌, Result, Ok, Err, IfOk, OnOk, OnErr}
use Rattle.sctp_model.specs.numbers.Limits.{FIRST_WAIT}
use Rattle.sctp_model.specs.wire.Chunk.{PieceMeaning, ForwardMeaning, SackMeaning}
use Rattle.sctp_model.specs.receiver.ReceiverView.{ReceiverView}
use Rattle.sctp_model.specs.receiver.PieceTaken as taken
use Rattle.sctp_model.specs.receiver.PieceTaken.{PieceTaken}
use Rattle.sctp_model.specs.receiver.ForwardTaken.{ForwardTaken}
use Rattle.sctp_model.specs.sender.SenderView.{SenderView}
use Rattle.sctp_model.specs.sender.SackTaken.{SackFault, sack_fault, sack_taken, sack_after, shutdown_fault, shutdown_taken, shutdown_after}
use Rattle.sctp_model.specs.end.EndView.{EndView, Alarm, DataAlarm, Timer, format_of}
use Rattle.sctp_model.specs.end.EndView as model
use Rattle.sctp_model.specs.end.Clock.{replaced, renewed, restarted, with_timer, is_point_past, paced, paced_expiry}
use Rattle.sctp_model.specs.end.Closing.{with_due}
use Rattle.sctp_model.specs.end.Reports.{with_causes}
use Rattle.sctp_model.specs.end.Acting.{piece_causes, heartbeat_heard, shut_timer, sack_heard}
use Rattle.sctp_model.specs.sender.Entries.{in_flight}
use Rattle.sctp_model.specs.sender.Readers.{unsettled}
use Rattle.sctp_model.proofs.sender.HeardLaws.{unpaced}
use Rattle.sctp_values.specs.declared.no_memory.NoMemory.{NoMemory}
use Rattle.sctp_send.specs.SenderAnswers.{reason_meaning}
use Rattle.sctp_send.specs.declared.sack.SackFault as code
use Rattle.sctp_recv.specs.AnswerOf.{answer_of, forward_answer_of}
use Rattle.sctp_recv.specs.Laws.{ResetsStay}
use Rattle.sctp_recv.specs.declared.answer.Answer.{Answer}
use Rattle.sctp_recv.specs.declared.answer.Answer.TheVariants as answer
use Rattle.sctp_recv.specs.declared.forward.ForwardAnswer.{ForwardAnswer}
use Rattle.sctp_outcomes.proofs.Buffers.{piece_keeps_buffer, forward_keeps_buffer}
use Rattle.sctp_terms.specs.PlainOptions.{HasPlainOptions}
use Rattle.sctp_association.specs.TimersMean.{kept_if}
use Rattle.sctp_association.specs.StartsMean.{started_if}
use Rattle.sctp_association.specs.SackLeaves.{left_with, sack_counted}
use Rattle.sctp_association.specs.Acknowledges.{rests_after, timer_after, shut_rests}
use Rattle.sctp_association.specs.PhaseMeans.{phase_unjoined, phase_of}
use Rattle.sctp_association.specs.TrafficStands.{TrafficStands}
use Rattle.sctp_association.specs.MachineStands.{KeepsMachine}
use Rattle.sctp_association.specs.declared.state.life.Unjoined.{Unjoined}
use Rattle.sctp_association.specs.declared.state.life.Unjoined.TheVariants.{Idle, Listening, Calling, Failed}
use Rattle.sctp_association.specs.declared.state.life.Association.{Association}
use Rattle.sctp_association.specs.declared.state.life.Life.TheVariants as life
use Rattle.sctp_association.specs.declared.traffic.Traffic.{Traffic}
use Rattle.sctp_association.specs.declared.machine.Machine.{Machine}
use Rattle.sctp_association.proofs.CumLemmas.{no_lower}
use Rattle.sctp_association.proofs.MachineLemmas.{at_view, with_traffic}
use Rattle.sctp_association.proofs.ReportLemmas.{HasRoom}
use Rattle.sctp_association.proofs.OptionLemmas.{counts_always}

-- ---- an end that never had an association isn't open

not_open : (x : Unjoined) (t : model.Tags) (g : model.Stage) → phase_unjoined x ≡ model.Open t g → ⊥
not_open Idle t g e = cc
not_open Listening t g e = cc
not_open (Calling d) t g e = cc
not_open (Failed why) t g e = cc

pub never_open : (m : Machine) (x : Unjoined) (v : EndView) (t : model.Tags) (g : model.Stage) → m.life ≡ life.Unjoined x → KeepsMachine m v → v.phase ≡ model.Open t g → ⊥
never_open m x v t g is k phase = not_open x t g (subst (λ h. phase_of h ≡ v.phase) is k.phase ∙ phase)

-- ---- the receiver

pub piece_taken : (m : Machine) (a : Association) (s : Traffic) (v : EndView) (p : PieceMeaning) (r : Result Answer NoMemory) → m.life ≡ life.Joined a → KeepsMachine m v → ResetsStay
    → IfOk r (λ b. (t : ReceiverView) × PieceTaken (format_of v) v.receiver p (answer_of b) t × TrafficStands s (format_of v) v.sender t)
    → IfOk r (λ b. (t : ReceiverView) × PieceTaken (format_of v) v.receiver p (answer_of b) t
    × KeepsMachine (record m { life = life.Joined (record a { traffic = s }) }) (record v { receiver = t }))
piece_taken m a s v p (Ok b) is k stay (t, took, stands) =
    (t, took, with_traffic m a s v v.sender t is k stands (no_lower v.sender.cum) (piece_keeps_buffer _ v.receiver p _ t took) (stay.piece _ v.receiver p _ t took))
piece_taken m a s v p (Err why) is k stay took = tt

pub forward_taken : (m : Machine) (a : Association) (s : Traffic) (v : EndView) (p : ForwardMeaning) (r : Result ForwardAnswer NoMemory) → m.life ≡ life.Joined a → KeepsMachine m v → ResetsStay
    → IfOk r (λ b. (t : ReceiverView) × ForwardTaken (format_of v) v.receiver p (forward_answer_of b) t × TrafficStands s (format_of v) v.sender t)
    → IfOk r (λ b. (t : ReceiverView) × ForwardTaken (format_of v) v.receiver p (forward_answer_of b) t
    × KeepsMachine (record m { life = life.Joined (record a { traffic = s }) }) (record v { receiver = t }))
forward_taken m a s v p (Ok b) is k stay (t, took, stands) =
    (t, took, with_traffic m a s v v.sender t is k stands (no_lower v.sender.cum) (forward_keeps_buffer _ v.receiver p _ t took) (stay.forward _ v.receiver p _ t took))
forward_taken m a s v p (Err why) is k stay took = tt

pub untaken : {A : Type 0} (m : Machine) (a : Association) (s : Traffic) (v : EndView) (r : Result A NoMemory) → m.life ≡ life.Joined a → KeepsMachine m v
    → OnErr r (TrafficStands s (format_of v) v.sender v.receiver) → OnErr r (KeepsMachine (record m { life = life.Joined (record a { traffic = s }) }) v)
untaken m a s v (Ok b) is k stands = tt
untaken m a s v (Err why) is k stands = with_traffic m a s v v.sender v.receiver is k stands (no_lower v.sender.cum) refl refl

-- the causes that wait are those from before the chunk came
pub causes_came : (v : EndView) (r : ReceiverView) (p : PieceMeaning) (a : taken.PieceAnswer) → piece_causes (record v { receiver = r }) p a ≡ piece_causes v p a
causes_came v r p taken.Duplicate = refl
causes_came v r p taken.Ahead = refl
causes_came v r p taken.NoSuchStream = refl
causes_came v r p taken.Passed = refl
causes_came v r p taken.NoRoom = refl
causes_came v r p taken.Kept = refl

-- every other answer reports nothing
pub reports_none : (v : EndView) (p : PieceMeaning) (a : Answer) → (a ≡ answer.NoSuchStream → ⊥) → with_causes (piece_causes v p (answer_of a)) v ≡ v
reports_none v p answer.Duplicate other = refl
reports_none v p answer.Ahead other = refl
reports_none v p answer.NoSuchStream other = absurd (other refl)
reports_none v p answer.Passed other = refl
reports_none v p answer.NoRoom other = refl
reports_none v p answer.Taken other = refl

-- ---- the sender

pub sack_counts : (v : EndView) (x : SackMeaning) → None ≡ sack_fault v.sender x → record v { sender = sack_taken v.sender x } ≡ record v { sender = sack_after v.sender x }
sack_counts v x none = ap (λ (o : Option SackFault). record v { sender = if is_some o then v.sender else sack_taken v.sender x }) none

pub sack_left : (v : EndView) (x : SackMeaning) (f : SackFault) → Some f ≡ sack_fault v.sender x → v ≡ record v { sender = sack_after v.sender x }
sack_left v x f some = ap (λ (o : Option SackFault). record v { sender = if is_some o then v.sender else sack_taken v.sender x }) some

pub shutdown_counts : (v : EndView) (tsn : ℕ) → None ≡ shutdown_fault v.sender tsn → record v { sender = shutdown_taken v.sender tsn } ≡ record v { sender = shutdown_after v.sender tsn }
shutdown_counts v tsn none = ap (λ (o : Option SackFault). record v { sender = if is_some o then v.sender else shutdown_taken v.sender tsn }) none

pub shutdown_left : (v : EndView) (tsn : ℕ) (f : SackFault) → Some f ≡ shutdown_fault v.sender tsn → v ≡ record v { sender = shutdown_after v.sender tsn }
shutdown_left v tsn f some = ap (λ (o : Option SackFault). record v { sender = if is_some o then v.sender else shutdown_taken v.sender tsn }) some

-- CUM moved, by what was read before and after
pub moved_as : (v : EndView) (x : SenderView) (m n : ℕ) → m ≡ v.sender.cum → n ≡ x.cum → nat_lt m n ≡ nat_lt v.sender.cum x.cum
moved_as v x m n before after = ap (λ (k : ℕ). nat_lt k n) before ∙ ap (λ (k : ℕ). nat_lt v.sender.cum k) after

pub renewed_in : (a : Alarm) (n f g : Alarm → Timer) (t x : Timer) (first m k : ℕ) (b : Bool) → n ≡ replaced a t f → t ≡ renewed FIRST_WAIT m b x → x ≡ f a → first ≡ FIRST_WAIT → f ≡ g → m ≡ k
    → n ≡ replaced a (renewed first k b (g a)) g
renewed_in a n f g t x first m k b is made at wait same clock =
    is ∙ ap (λ (z : Timer). replaced a z f) (made ∙ ap (λ (z : Timer). renewed FIRST_WAIT m b z) at ∙ ap (λ (j : ℕ). renewed FIRST_WAIT j b (f a)) clock ∙ ap (λ (j : ℕ). renewed j k b (f a)) (sym wait))
    ∙ ap (λ (h : Alarm → Timer). replaced a (renewed first k b (h a)) h) same

pub restarted_in : (a : Alarm) (n f g : Alarm → Timer) (t x : Timer) (m k w u : ℕ) → n ≡ replaced a t f → t ≡ restarted m w x → x ≡ f a → f ≡ g → m ≡ k → w ≡ u
    → n ≡ replaced a (restarted k u (g a)) g
restarted_in a n f g t x m k w u is made at same clock waits =
    is
    ∙ ap (λ (z : Timer). replaced a z f)
    (made ∙ ap (λ (z : Timer). restarted m w z) at ∙ ap (λ (j : ℕ). restarted j w (f a)) clock ∙ ap (λ (j : ℕ). restarted k j (f a)) waits)
    ∙ ap (λ (h : Alarm → Timer). replaced a (restarted k u (h a)) h) same

-- the data timer in its own place
own_at : (f : Alarm → Timer) (a : Alarm) → replaced DataAlarm (f DataAlarm) f a ≡ f a
own_at f model.InitAlarm = refl
own_at f model.CookieAlarm = refl
own_at f DataAlarm = refl
own_at f model.ShutdownAlarm = refl
own_at f model.AckAlarm = refl
own_at f model.ResetAlarm = refl
own_at f model.BeatAlarm = refl
own_at f model.GuardAlarm = refl

-- the data timer put in its place twice
twice_at : (t u : Timer) (f : Alarm → Timer) (a : Alarm) → replaced DataAlarm t (replaced DataAlarm u f) a ≡ replaced DataAlarm t f a
twice_at t u f model.InitAlarm = refl
twice_at t u f model.CookieAlarm = refl
twice_at t u f DataAlarm = refl
twice_at t u f model.ShutdownAlarm = refl
twice_at t u f model.AckAlarm = refl
twice_at t u f model.ResetAlarm = refl
twice_at t u f model.BeatAlarm = refl
twice_at t u f model.GuardAlarm = refl

-- without a pace a data timer that rests starts if data is in flight, another stays
starts_as : (now : ℕ) (flies : Bool) (wait repeats : ℕ) (o : Option ℕ)
    → record { wait = wait; repeats = repeats; expiry = paced_expiry now wait false flies o } ≡ started_if flies now (record { wait = wait; repeats = repeats; expiry = o })
starts_as now true wait repeats None = refl
starts_as now false wait repeats None = refl
starts_as now true wait repeats (Some m) = refl
starts_as now false wait repeats (Some m) = refl

-- an acknowledgement at an end without a pace
unpaced_at : (s : SenderView) (wait : ℕ) (t : Timer) (v : EndView) → v.pace ≡ None → paced s wait t v ≡ with_timer DataAlarm (started_if (nat_lt 0 (in_flight v.sender)) v.moment t) v
unpaced_at s wait t v free =
    unpaced s wait t v free ∙ ap (λ (x : Timer). with_timer DataAlarm x v) (starts_as v.moment (nat_lt 0 (in_flight v.sender)) t.wait t.repeats t.expiry)

-- what a SACK leaves without a pace, in the order of the definition: settled first, and then its data timer
counts_as : (v : EndView) (x : SackMeaning) → None ≡ sack_fault v.sender x
    → with_timer DataAlarm (started_if (nat_lt 0 (in_flight (sack_taken v.sender x))) v.moment (timer_after v x)) (rests_after v x) ≡ sack_counted v x
counts_as v x none =
    let u = sack_taken v.sender x in
    (λ i. record v {
      sender = u;
      due = record v.due { forward = is_point_past u };
      timers = λ a. twice_at (started_if (nat_lt 0 (in_flight u)) v.moment (timer_after v x)) (kept_if (unsettled u) (v.timers DataAlarm)) v.timers a i;
    }) ∙ ap (λ (y : EndView). left_with v y.sender) (sack_counts v x none)

-- what a SHUTDOWN leaves beside the pace: the sender that has taken it
pub sender_shut : (v : EndView) (tsn : ℕ) → None ≡ shutdown_fault v.sender tsn → shutdown_after v.sender tsn ≡ (shut_rests v tsn).sender
sender_shut v tsn none = sym (ap (λ (y : EndView). y.sender) (shutdown_counts v tsn none))

-- the data timer put in its place, and then started
pub starts_in : (v : EndView) (t : Timer)
    → with_timer DataAlarm (started_if (nat_lt 0 (in_flight v.sender)) v.moment t) (with_timer DataAlarm t v) ≡ with_timer DataAlarm (started_if (nat_lt 0 (in_flight v.sender)) v.moment t) v
starts_in v t = λ i. record v { timers = λ a. twice_at (started_if (nat_lt 0 (in_flight v.sender)) v.moment t) t v.timers a i }

-- so what follows from an acknowledgement at an end without a pace
pub follows_unpaced : (s : SenderView) (wait : ℕ) (t : Timer) (v : EndView) → v.pace ≡ None
    → paced s wait t v ≡ with_timer DataAlarm (started_if (nat_lt 0 (in_flight v.sender)) v.moment t) (with_timer DataAlarm t v)
follows_unpaced s wait t v free = unpaced_at s wait t v free ∙ sym (starts_in v t)

sack_unpaced : (v : EndView) (x : SackMeaning) → HasPlainOptions v.configuration → v.pace ≡ None → None ≡ sack_fault v.sender x → sack_heard v x ≡ sack_counted v x
sack_unpaced v x options free none =
    counts_always v x options ∙ (unpaced_at v.sender (v.timers DataAlarm).wait (timer_after v x) (rests_after v x) free ∙ counts_as v x none)

-- a SACK at an end without a pace
pub heard_unpaced : (r : Result (Unit {0}) code.SackFault) (m : Machine) (v : EndView) (x : SackMeaning) → HasPlainOptions v.configuration → v.pace ≡ None → reason_meaning r ≡ sack_fault v.sender x
    → OnOk r (KeepsMachine m (sack_counted v x)) → OnOk r (KeepsMachine m (sack_heard v x))
heard_unpaced (Ok u) m v x options free none keeps = at_view m (sack_heard v x) (sack_counted v x) (sack_unpaced v x options free none) keeps
heard_unpaced (Err fault) m v x options free some keeps = tt

pub less_as : (m n i j : ℕ) → m ≡ i → n ≡ j → nat_lt m n ≡ nat_lt i j
less_as m n i j left right = ap (λ (k : ℕ). nat_lt k n) left ∙ ap (λ (k : ℕ). nat_lt i k) right

-- the data timer of a SACK in its place, by what the code knows of it
counted_as : (t : Timer) (wanted want moved move : Bool) (m k first : ℕ) → wanted ≡ want → moved ≡ move → m ≡ k → first ≡ FIRST_WAIT
    → renewed FIRST_WAIT m moved (kept_if wanted t) ≡ renewed first k move (kept_if want t)
counted_as t wanted want moved move m k first one two clock wait =
    ap (λ (b : Bool). renewed FIRST_WAIT m moved (kept_if b t)) one ∙ (ap (λ (b : Bool). renewed FIRST_WAIT m b (kept_if want t)) two
    ∙ (ap (λ (j : ℕ). renewed FIRST_WAIT j move (kept_if want t)) clock ∙ ap (λ (j : ℕ). renewed j k move (kept_if want t)) (sym wait)))

pub counted_in : (n f g : Alarm → Timer) (wanted want moved move : Bool) (m k first : ℕ) → n ≡ replaced DataAlarm (renewed FIRST_WAIT m moved (kept_if wanted (f DataAlarm))) f → wanted ≡ want → moved ≡ move
    → m ≡ k → first ≡ FIRST_WAIT → f ≡ g → n ≡ replaced DataAlarm (renewed first k move (kept_if want (g DataAlarm))) g
counted_in n f g wanted want moved move m k first is one two clock wait same =
    is ∙ (ap (λ (t : Timer). replaced DataAlarm t f) (counted_as (f DataAlarm) wanted want moved move m k first one two clock wait)
    ∙ ap (λ (h : Alarm → Timer). replaced DataAlarm (renewed first k move (kept_if want (h DataAlarm))) h) same)

-- and at an end without a pace, where it starts if data is in flight
pub started_in : (n f g : Alarm → Timer) (wanted want moved move flies fly : Bool) (m k first : ℕ)
    → n ≡ replaced DataAlarm (started_if flies m (renewed FIRST_WAIT m moved (kept_if wanted (f DataAlarm)))) f → wanted ≡ want → moved ≡ move → flies ≡ fly → m ≡ k → first ≡ FIRST_WAIT → f ≡ g
    → n ≡ replaced DataAlarm (started_if fly k (renewed first k move (kept_if want (g DataAlarm)))) g
started_in n f g wanted want moved move flies fly m k first is one two three clock wait same =
    is ∙ (ap (λ (t : Timer). replaced DataAlarm (started_if flies m t) f) (counted_as (f DataAlarm) wanted want moved move m k first one two clock wait)
    ∙ (ap (λ (b : Bool). replaced DataAlarm (started_if b m (renewed first k move (kept_if want (f DataAlarm)))) f) three
    ∙ (ap (λ (j : ℕ). replaced DataAlarm (started_if fly j (renewed first k move (kept_if want (f DataAlarm)))) f) clock
    ∙ ap (λ (h : Alarm → Timer). replaced DataAlarm (started_if fly k (renewed first k move (kept_if want (h DataAlarm)))) h) same)))

-- a SHUTDOWN that renews the data timer
pub shut_renews : (v : EndView) (moved : Bool) → (v.configuration.standard_closing && moved) ≡ true
    → with_timer DataAlarm (shut_timer v.configuration.standard_closing moved v.configuration.first_wait v.moment (v.timers DataAlarm)) v
    ≡ with_timer DataAlarm (renewed v.configuration.first_wait v.moment true (v.timers DataAlarm)) v
shut_renews v moved is = ap (λ (b : Bool). with_timer DataAlarm (if b then renewed v.configuration.first_wait v.moment true (v.timers DataAlarm) else v.timers DataAlarm) v) is

-- one that leaves it
pub shut_leaves : (v : EndView) (moved : Bool) → (v.configuration.standard_closing && moved) ≡ false
    → with_timer DataAlarm (shut_timer v.configuration.standard_closing moved v.configuration.first_wait v.moment (v.timers DataAlarm)) v ≡ v
shut_leaves v moved is =
    ap (λ (b : Bool). with_timer DataAlarm (if b then renewed v.configuration.first_wait v.moment true (v.timers DataAlarm) else v.timers DataAlarm) v) is
    ∙ ap (λ (f : Alarm → Timer). record v { timers = f }) (λ i a. own_at v.timers a i)

-- ---- what is answered

pub heartbeat_by : (v : EndView) (info : List ℕ) (room : ℕ) (b : Bool) → HasRoom v.configuration room → nat_le (length info) room ≡ b
    → heartbeat_heard v info ≡ with_due (record v.due { heartbeat = if b then Some info else v.due.heartbeat }) v
heartbeat_by v info room b limit is = ap (λ (c : Bool). with_due (record v.due { heartbeat = if c then Some info else v.due.heartbeat }) v) (limit (length info) ∙ is)
