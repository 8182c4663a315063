-- A RE-CONFIG at an endpoint: all of its requests at the receiver, and then all of its responses at the sender, do what its parameters do one after another.
use Rattle.std.proofs.Common.{◌≡◌, ◌∙◌, ℕ, Bool, true, false, List, [], ◌∷◌, refl, sym, ap, subst}
use Rattle.std.proofs.lemmas.Bool.{false≢true}
use Rattle.std.specs.Prelude.{◌&&◌, if◌then◌else◌, is_some, unwrap_or, Option, None, Some, Result, Ok, Err, OnOk, MatchOption}
use Rattle.std.specs.List.{list_any}
use Rattle.sctp_model.specs.wire.Typed.{typed_in}
use Rattle.sctp_model.specs.wire.Reconfig.{ResetMeaning, ResetResult, Performed, Denied, WrongStream, BadNumber, InProgress}
use Rattle.sctp_model.specs.sender.Resetting.{is_open_number, response_taken}
use Rattle.sctp_model.specs.receiver.ReceiverView.{ReceiverView, IsCumulative}
use Rattle.sctp_model.specs.receiver.ResetTaken.{names, names_anew, reset_answer, is_in_turn, other_meaning, with_answer, renumbered_by}
use Rattle.sctp_model.specs.end.EndView.{EndView, Configuration, ResetAlarm, unused_timer, format_for}
use Rattle.sctp_model.specs.end.Clock.{with_timer}
use Rattle.sctp_model.specs.end.Closing.{with_due}
use Rattle.sctp_model.specs.end.Reconfiguring.{in_progress, asking_on, response_heard, request_heard, other_heard, parameters_heard}
use Rattle.sctp_reconfig.specs.Reading.{ParameterMeaning, ResetRequested, Responded, OtherRequested, Ignored, parameters_of}
use Rattle.sctp_reconfig.specs.Laws.{all_heard}
use Rattle.sctp_recv.specs.Requests.{requested, all_requested}
use Rattle.sctp_values.specs.declared.no_memory.NoMemory.{NoMemory}
use Rattle.sctp_association.specs.Reconfigured.{is_request, parameters_in, requests_heard, responses_heard}
use Rattle.sctp_association.specs.TrafficStands.{TrafficStands}
use Rattle.sctp_association.specs.MachineStands.{KeepsMachine}
use Rattle.sctp_association.specs.declared.machine.Machine.{Machine}
use Rattle.sctp_association.specs.declared.traffic.Traffic.{Traffic}
use Rattle.sctp_association.specs.declared.state.life.Association.{Association}
use Rattle.sctp_association.specs.declared.state.life.Life.TheVariants as life
use Rattle.sctp_association.proofs.CumLemmas.{no_lower}
use Rattle.sctp_association.proofs.MachineLemmas.{with_resets}

-- ---- a response acts beside the receiver

-- no request is outstanding
abbrev pub rests : EndView → EndView
rests e = with_timer ResetAlarm (unused_timer e.configuration.first_wait) (with_due (record e.due { request = false }) e)

progress_beside : (b : Bool) (e : EndView) (r : ReceiverView) → in_progress b (record e { receiver = r }) ≡ record (in_progress b e) { receiver = r }
progress_beside true e r = refl
progress_beside false e r = refl

rests_beside : (b : Bool) (e : EndView) (r : ReceiverView) → (if b then record e { receiver = r } else rests (record e { receiver = r })) ≡ record (if b then e else rests e) { receiver = r }
rests_beside true e r = refl
rests_beside false e r = refl

asking_beside : (e : EndView) (r : ReceiverView) → asking_on (record e { receiver = r }) ≡ record (asking_on e) { receiver = r }
asking_beside e r = rests_beside (is_some e.sender.resets.pending) e r

response_beside : (e : EndView) (r : ReceiverView) (n k : ℕ) → response_heard (record e { receiver = r }) n k ≡ record (response_heard e n k) { receiver = r }
response_beside e r n k =
    let u : EndView = record e { sender = response_taken e.sender n k } in
    let b = is_open_number e.sender n in
    ap asking_on (progress_beside b u r) ∙ asking_beside (in_progress b u) r

-- ---- it leaves the receiver and the configuration

progress_receiver : (b : Bool) (e : EndView) → (in_progress b e).receiver ≡ e.receiver
progress_receiver true e = refl
progress_receiver false e = refl

progress_configuration : (b : Bool) (e : EndView) → (in_progress b e).configuration ≡ e.configuration
progress_configuration true e = refl
progress_configuration false e = refl

rests_receiver : (b : Bool) (e : EndView) → (if b then e else rests e).receiver ≡ e.receiver
rests_receiver true e = refl
rests_receiver false e = refl

rests_configuration : (b : Bool) (e : EndView) → (if b then e else rests e).configuration ≡ e.configuration
rests_configuration true e = refl
rests_configuration false e = refl

response_receiver : (e : EndView) (n k : ℕ) → (response_heard e n k).receiver ≡ e.receiver
response_receiver e n k =
    let u : EndView = record e { sender = response_taken e.sender n k } in
    let b = is_open_number e.sender n in
    rests_receiver (is_some (in_progress b u).sender.resets.pending) (in_progress b u) ∙ progress_receiver b u

response_configuration : (e : EndView) (n k : ℕ) → (response_heard e n k).configuration ≡ e.configuration
response_configuration e n k =
    let u : EndView = record e { sender = response_taken e.sender n k } in
    let b = is_open_number e.sender n in
    rests_configuration (is_some (in_progress b u).sender.resets.pending) (in_progress b u) ∙ progress_configuration b u

-- requests that come behind it may as well come before it
response_later : (c : ℕ) (e : EndView) (n k : ℕ) (ps : List ParameterMeaning) → requests_heard c (response_heard e n k) ps ≡ response_heard (requests_heard c e ps) n k
response_later c e n k ps =
    let t = response_heard e n k in
    ap (λ (x : Configuration). record t { receiver = all_requested x.limit c t.receiver ps }) (response_configuration e n k)
    ∙ ap (λ (r : ReceiverView). record t { receiver = all_requested e.configuration.limit c r ps }) (response_receiver e n k)
    ∙ sym (response_beside e (all_requested e.configuration.limit c e.receiver ps) n k)

-- ---- all parameters

heard_apart : (c : ℕ) (e : EndView) (ps : List ParameterMeaning) → all_heard c e ps ≡ responses_heard (requests_heard c e ps) ps
heard_apart c e [] = refl
heard_apart c e (ResetRequested m ∷ ps) = heard_apart c (request_heard c e m) ps
heard_apart c e (OtherRequested n ∷ ps) = heard_apart c (other_heard e n) ps
heard_apart c e (Responded n k ∷ ps) = heard_apart c (response_heard e n k) ps ∙ ap (λ (x : EndView). responses_heard x ps) (response_later c e n k ps)
heard_apart c e (Ignored ∷ ps) = heard_apart c e ps

-- those of a RE-CONFIG with this value
pub value_apart : (c : ℕ) (e : EndView) (value : List ℕ) (ps : List ParameterMeaning) → parameters_heard c e (typed_in value) ≡ all_heard c e (parameters_in value) → parameters_in value ≡ ps
    → parameters_heard c e (typed_in value) ≡ responses_heard (requests_heard c e (parameters_in value)) ps
value_apart c e value ps acts is =
    acts ∙ heard_apart c e (parameters_in value) ∙ ap (responses_heard (requests_heard c e (parameters_in value))) is

-- ---- where it is taken

pub takes_agreed : (b r d : Bool) → (b && (r && d)) ≡ true → r ≡ true
takes_agreed true true d is = refl
takes_agreed true false d is = is
takes_agreed false r d is = absurd (false≢true is)

-- ---- a response, in its steps

pub asked_on : (v : EndView) (b : Bool) → is_some v.sender.resets.pending ≡ b → asking_on v ≡ (if b then v else rests v)
asked_on v b is = ap (λ (x : Bool). if x then v else rests v) is

-- ---- requests: the receive buffer stays

noted_buffer : (a : ResetResult) (r : ReceiverView) (m : ResetMeaning) (named anew : ℕ → Bool) → (with_answer (renumbered_by r named anew a) m a).buffer ≡ r.buffer
noted_buffer Performed r m named anew = refl
noted_buffer Denied r m named anew = refl
noted_buffer WrongStream r m named anew = refl
noted_buffer BadNumber r m named anew = refl
noted_buffer InProgress r m named anew = refl

taken_buffer : (b : Bool) (r : ReceiverView) (m : ResetMeaning) (named anew : ℕ → Bool) (a : ResetResult) → (if b then with_answer (renumbered_by r named anew a) m a else r).buffer ≡ r.buffer
taken_buffer true r m named anew a = noted_buffer a r m named anew
taken_buffer false r m named anew a = refl

requested_buffer : (limit c : ℕ) (r : ReceiverView) (p : ParameterMeaning) → (requested limit c r p).buffer ≡ r.buffer
requested_buffer limit c r (ResetRequested m) = taken_buffer (is_in_turn r m.number) r m (names r m.streams) (names_anew r m) (reset_answer r c m)
requested_buffer limit c r (OtherRequested n) = taken_buffer (is_in_turn r n) r (other_meaning n) (λ s. false) (λ s. false) Denied
requested_buffer limit c r (Responded n k) = refl
requested_buffer limit c r Ignored = refl

all_buffer : (limit c : ℕ) (r : ReceiverView) (ps : List ParameterMeaning) → (all_requested limit c r ps).buffer ≡ r.buffer
all_buffer limit c r [] = refl
all_buffer limit c r (p ∷ ps) = all_buffer limit c (requested limit c r p) ps ∙ requested_buffer limit c r p

pub requests_stand : (m : Machine) (a : Association) (s : Traffic) (v : EndView) (n : ℕ) (ps : List ParameterMeaning) (r : Result (Unit {0}) NoMemory) → m.life ≡ life.Joined a → KeepsMachine m v
    → v.terms.reset ≡ true → n ≡ v.configuration.limit
    → OnOk r ((c : ℕ) × IsCumulative v.receiver c × TrafficStands s (format_for v.terms.interleave) v.sender (all_requested n c v.receiver ps))
    → OnOk r ((c : ℕ) × IsCumulative v.receiver c × KeepsMachine (record m { life = life.Joined (record a { traffic = s }) }) (requests_heard c v ps))
requests_stand m a s v n ps (Ok u) is k on same (c, up, stands) =
    let t = all_requested v.configuration.limit c v.receiver ps in (
      c,
      up,
      with_resets m a s v v.sender t is k (subst (λ (l : ℕ). TrafficStands s (format_for v.terms.interleave) v.sender (all_requested l c v.receiver ps)) same stands)
          (no_lower v.sender.cum) (all_buffer v.configuration.limit c v.receiver ps) (λ off. absurd (false≢true (sym off ∙ on))),
    )
requests_stand m a s v n ps (Err why) is k on same stands = tt

-- ---- requests: which there are

pub unrequested : (limit c : ℕ) (r : ReceiverView) (ps : List ParameterMeaning) → list_any is_request ps ≡ false → all_requested limit c r ps ≡ r
unrequested limit c r [] none = refl
unrequested limit c r (ResetRequested m ∷ ps) none = absurd (false≢true (sym none))
unrequested limit c r (OtherRequested n ∷ ps) none = absurd (false≢true (sym none))
unrequested limit c r (Responded n k ∷ ps) none = unrequested limit c r ps none
unrequested limit c r (Ignored ∷ ps) none = unrequested limit c r ps none

pub read_none : (value : List ℕ) → parameters_of value ≡ None → parameters_in value ≡ []
read_none value is = ap (λ (o : Option (List ParameterMeaning)). unwrap_or o []) is

pub read_some : (value : List ℕ) (ps : List ParameterMeaning) → parameters_of value ≡ Some ps → parameters_in value ≡ ps
read_some value ps is = ap (λ (o : Option (List ParameterMeaning)). unwrap_or o []) is

pub none_requested : (value : List ℕ) → parameters_of value ≡ None → list_any is_request (parameters_in value) ≡ false
none_requested value is = ap (list_any is_request) (read_none value is)

pub again_read : (value : List ℕ) (o : Option (List ParameterMeaning)) → MatchOption o (parameters_of value ≡ None) (λ ps. parameters_of value ≡ Some ps)
    → MatchOption o (list_any is_request (parameters_in value) ≡ false) (λ ps. parameters_in value ≡ ps)
again_read value None h = none_requested value h
again_read value (Some ps) h = read_some value ps h
