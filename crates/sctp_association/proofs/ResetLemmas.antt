-- `reset`, `take_reset` and what they read: the answers of the specification, before an association and in it.
use Rattle.std.proofs.Common.{◌≡◌, ◌∙◌, ◌<◌, ◌≤◌, ℕ, nat_lt, Bool, true, false, List, refl, sym, ap, arith}
use Rattle.std.proofs.lemmas.Bool.{le-leb}
use Rattle.std.proofs.lemmas.Bool.Decides.{nat_tests}
use Rattle.std.specs.Prelude.{◌&&◌, ◌==◌, not, if◌then◌else◌, nat_le, is_some, Option, None, Some, MatchOption, Result, Ok, Err, OnOk}
use Rattle.sctp_model.specs.numbers.Serial.{tsn}
use Rattle.sctp_model.specs.wire.Reconfig.{ResetMeaning}
use Rattle.sctp_model.specs.messages.Format.{Format}
use Rattle.sctp_model.specs.sender.Outgoing.{is_resetting, Request}
use Rattle.sctp_model.specs.sender.Resetting.{resetting, retried, response_taken, is_open_number}
use Rattle.sctp_model.specs.sender.SenderView.{SendLimits, SenderView, fresh_sender}
use Rattle.sctp_model.specs.receiver.ReceiverView.{fresh_receiver}
use Rattle.sctp_model.specs.receiver.ResetTaken.{old_waiting, told_of}
use Rattle.sctp_model.specs.end.EndView.{EndView, format_for}
use Rattle.sctp_model.specs.end.EndView as model
use Rattle.sctp_model.specs.end.Closing.{hears}
use Rattle.sctp_model.specs.end.UserCalls.{ResetCall, Begun, NotAgreed, NoStream, reset_call, is_established}
use Rattle.sctp_model.specs.end.UserCalls as model_calls
use Rattle.sctp_values.specs.declared.no_memory.NoMemory.{NoMemory}
use Rattle.sctp_recv.specs.Requests.{reset_there}
use Rattle.sctp_recv.specs.declared.restart.Reset.{Reset}
use Rattle.sctp_send.specs.ResetAnswers.{resetting_streams, IsRequest}
use Rattle.sctp_send.specs.declared.resetting.ResetRequest.{ResetRequest}
use Rattle.sctp_association.specs.TrafficStands.{TrafficStands}
use Rattle.sctp_association.specs.MachineStands.{KeepsMachine}
use Rattle.sctp_association.specs.ResetAnswers.{ToldAnswers, told_view}
use Rattle.sctp_association.specs.declared.machine.Machine.{Machine}
use Rattle.sctp_association.specs.declared.traffic.Traffic.{Traffic}
use Rattle.sctp_association.specs.declared.state.life.Unjoined.{Unjoined}
use Rattle.sctp_association.specs.declared.state.life.Association.{Association}
use Rattle.sctp_association.specs.declared.state.life.Life.TheVariants as life
use Rattle.sctp_association.proofs.CumLemmas.{no_lower}
use Rattle.sctp_association.proofs.MachineLemmas.{joined, unjoined, with_traffic, with_resets}

-- ---- before an association

pub unreset : (m : Machine) (x : Unjoined) (v : EndView) → m.life ≡ life.Unjoined x → KeepsMachine m v → v.terms.reset ≡ false
unreset m x v is k = ap (λ (t : model.Terms). t.reset) (unjoined m x v is k).terms

none_below : (n : ℕ) → nat_lt n 0 ≡ false
none_below n = grind (arith, nat_tests)

pub resetting_fresh : (s : SenderView) (f : ℕ) (l : SendLimits) (stream : ℕ) → s ≡ fresh_sender 0 0 f 0 false l → false ≡ (nat_lt stream s.streams && is_resetting (s.resets.sending stream))
resetting_fresh s f l stream is =
    sym (ap (λ (x : SenderView). nat_lt stream x.streams && is_resetting (x.resets.sending stream)) is ∙ ap (λ (b : Bool). b && false) (none_below stream))

pub none_resetting : (s : SenderView) (f : ℕ) (l : SendLimits) → s ≡ fresh_sender 0 0 f 0 false l → 0 ≡ resetting_streams s
none_resetting s f l is = sym (ap resetting_streams is)

pub responded_fresh : (s : SenderView) (f : ℕ) (l : SendLimits) (n k : ℕ) → s ≡ fresh_sender 0 0 f 0 false l → response_taken s n k ≡ s
responded_fresh s f l n k is = ap (λ (x : SenderView). response_taken x n k) is ∙ sym is

pub retried_fresh : (s : SenderView) (f : ℕ) (l : SendLimits) → s ≡ fresh_sender 0 0 f 0 false l → retried s ≡ s
retried_fresh s f l is = ap (λ (x : SenderView). retried x) is ∙ sym is

pub unasked_fresh : (s : SenderView) (f : ℕ) (l : SendLimits) (n : ℕ) → s ≡ fresh_sender 0 0 f 0 false l → false ≡ is_open_number s n
unasked_fresh s f l n is = sym (ap (λ (x : SenderView). is_open_number x n) is)

pub none_pending : (s : SenderView) (f : ℕ) (l : SendLimits) → s ≡ fresh_sender 0 0 f 0 false l → false ≡ is_some s.resets.pending
none_pending s f l is = sym (ap (λ (x : SenderView). is_some x.resets.pending) is)

pub none_told : (v : EndView) (b n : ℕ) → v.receiver ≡ fresh_receiver 0 0 b n → model_calls.reset_there v ≡ None
none_told v b n is = ap reset_there is

-- ---- reset

abbrev call_by : (agreed missing : Bool) → ResetCall
call_by agreed missing = if not agreed then NotAgreed else if missing then NoStream else Begun

pub reset_refused : (v : EndView) (stream : ℕ) (b : Bool) → b ≡ (v.terms.reset && hears is_established v.phase) → b ≡ false → reset_call v stream ≡ NotAgreed
reset_refused v stream b is off = ap (λ (x : Bool). call_by x (nat_le v.sender.streams stream)) (sym is ∙ off)

reset_by : (v : EndView) (stream count : ℕ) (b missing : Bool) → b ≡ (v.terms.reset && hears is_established v.phase) → b ≡ true → count ≡ v.sender.streams → nat_le count stream ≡ missing
    → reset_call v stream ≡ call_by true missing
reset_by v stream count b missing is on same has =
    ap (λ (x : Bool). call_by x (nat_le v.sender.streams stream)) (sym is ∙ on) ∙ ap (λ (n : ℕ). call_by true (nat_le n stream)) (sym same) ∙ ap (call_by true) has

above : (count stream : ℕ) → stream < count → nat_le count stream ≡ false
above count stream below = grind (arith, nat_tests)

pub reset_missing : (v : EndView) (stream count : ℕ) (b : Bool) → b ≡ (v.terms.reset && hears is_established v.phase) → b ≡ true → count ≡ v.sender.streams → count ≤ stream → reset_call v stream ≡ NoStream
reset_missing v stream count b is on same past = reset_by v stream count b true is on same (le-leb count stream past)

pub reset_begins : (v : EndView) (stream count : ℕ) (b : Bool) → b ≡ (v.terms.reset && hears is_established v.phase) → b ≡ true → count ≡ v.sender.streams → stream < count → reset_call v stream ≡ Begun
reset_begins v stream count b is on same below = reset_by v stream count b false is on same (above count stream below)

pub agreed_then : (r e b : Bool) → b ≡ (r && e) → b ≡ true → r ≡ true
agreed_then true e b is on = refl
agreed_then false e b is on = sym is ∙ on

-- ---- take_reset

pub told_answer : (v : EndView) (s : Traffic) (f : Format) (o : Option Reset) → MatchOption o
    ((reset_there v.receiver ≡ None) × TrafficStands s f v.sender v.receiver)
    (λ t. (reset_there v.receiver ≡ Some t.stream) × (t.count ≡ old_waiting v.receiver t.stream) × TrafficStands s f v.sender (told_of v.receiver t.stream))
    → ToldAnswers v o
told_answer v s f None h = h.0
told_answer v s f (Some t) h = (h.0, h.1)

pub told_stands : (m : Machine) (a : Association) (s : Traffic) (v : EndView) (o : Option Reset) → m.life ≡ life.Joined a → KeepsMachine m v → MatchOption o
    ((reset_there v.receiver ≡ None) × TrafficStands s (format_for v.terms.interleave) v.sender v.receiver)
    (λ t. (reset_there v.receiver ≡ Some t.stream) × (t.count ≡ old_waiting v.receiver t.stream) × TrafficStands s (format_for v.terms.interleave) v.sender (told_of v.receiver t.stream))
    → KeepsMachine (record m { life = life.Joined (record a { traffic = s }) }) (told_view v o)
told_stands m a s v None is k h = with_traffic m a s v v.sender v.receiver is k h.1 (no_lower v.sender.cum) refl refl
told_stands m a s v (Some t) is k h = with_resets m a s v v.sender (told_of v.receiver t.stream) is k h.2 (no_lower v.sender.cum) refl (joined m a v is k).answers

-- ---- the request that waits

pub asked_number : (s : SenderView) (n k last : ℕ) (streams : List ℕ) → IsRequest s k last streams → (n == k) ≡ is_open_number s n
asked_number s n k last streams q =
    sym (ap (λ (o : Option Request). is_some o && (n == tsn s.initial s.resets.made)) q.waits ∙ ap (λ (m : ResetMeaning). n == m.number) q.says)

pub asked_none : (s : SenderView) (n : ℕ) → s.resets.pending ≡ None → false ≡ is_open_number s n
asked_none s n none = sym (ap (λ (o : Option Request). is_some o && (n == tsn s.initial s.resets.made)) none)

pub asked_some : (s : SenderView) (o : Option ResetRequest) → MatchOption o (s.resets.pending ≡ None) (λ q. IsRequest s q.number q.last q.streams.now) → is_some o ≡ is_some s.resets.pending
asked_some s None h = sym (ap is_some h)
asked_some s (Some q) h = sym (ap is_some h.waits)

-- ---- a reset begins

pub begun_stands : (m : Machine) (a : Association) (s : Traffic) (v : EndView) (stream : ℕ) (r : Result (Unit {0}) NoMemory) → m.life ≡ life.Joined a → KeepsMachine m v
    → OnOk r (TrafficStands s (format_for v.terms.interleave) (resetting v.sender stream) v.receiver)
    → OnOk r (KeepsMachine (record m { life = life.Joined (record a { traffic = s }) }) (record v { sender = resetting v.sender stream }))
begun_stands m a s v stream (Ok u) is k stands = with_traffic m a s v (resetting v.sender stream) v.receiver is k stands (no_lower v.sender.cum) refl refl
begun_stands m a s v stream (Err why) is k stands = tt
