-- Whatever happens at an endpoint, a request of its own that waits for its answer is due, or its timer runs, while the endpoint is established.
use Rattle.std.proofs.Common.{ℕ, suc, ◌≡◌, length, is_some, not, ◌||◌, ◌==◌, Bool, true, false, List, [], ◌∷◌, ◌++◌, Option, None, Some, refl, sym, subst, ap, ◌∙◌}
use Rattle.std.specs.Prelude.{if◌then◌else◌, nat_lt, ◌&&◌, drop}
use Rattle.sctp_model.specs.numbers.Limits.{REQUEST_LIMIT}
use Rattle.sctp_model.specs.wire.Packet.{Packet}
use Rattle.sctp_model.specs.wire.Chunk.{ChunkMeaning, Data, IData, Init, InitAck, Sack, Heartbeat, HeartbeatAck, Abort, Shutdown, ShutdownAck, Error, CookieEcho, CookieAck, ShutdownComplete, ForwardTsn, IForwardTsn, Unknown}
use Rattle.sctp_model.specs.world.Calls.{Call}
use Rattle.sctp_model.specs.sender.SenderView.{SenderView}
use Rattle.sctp_model.specs.sender.Queueing.{Refusal, refusal}
use Rattle.sctp_model.specs.sender.Readers.{point}
use Rattle.sctp_model.specs.sender.Abandoning.{abandon_after, expired, worn}
use Rattle.sctp_model.specs.end.EndView.{Draw, Aborted, Established, ShutdownPending, ShutdownSent, ShutdownReceived, ShutdownAckSent, Phase, Idle, Listening, Calling, Echoing, Open, Over, Alarm, InitAlarm, CookieAlarm, DataAlarm, ShutdownAlarm, AckAlarm, EndView, has_association, ResetAlarm, Timer, format_of, unused_timer}
use Rattle.sctp_model.specs.end.EndView.{BeatAlarm, GuardAlarm}
use Rattle.sctp_model.specs.end.Clock.{is_over_at, is_home, running, restarted_expiry, sender_heard, with_timer, closed, at_moment, settled, turned, may_go_on}
use Rattle.sctp_model.specs.end.Pacing.{Pace}
use Rattle.sctp_model.specs.end.Closing.{rested, hears, with_due}
use Rattle.sctp_model.specs.end.PeerFaults.{GoesOn, Ends, Replies, Note, Unnoted}
use Rattle.sctp_model.specs.end.Opening.{AcceptedAck, RefusedAck, EchoedAgain, CookieAcked, begun}
use Rattle.sctp_model.specs.end.Beating.{beat_heard}
use Rattle.sctp_model.specs.end.Acting.{Acts, ForwardComes, PieceComes, IsOld, SackStale, ShutdownStale, HeartbeatCounts, SackCounts, ShutdownCounts, Closes, SaysNothing, Crosses, Again, AckCompletes, CompleteCompleted, PieceEmpty, WrongFormat, SackWrong, ShutdownWrong, WrongKind, IsBad, ReconfigComes, IsUnknown, Misnumbered}
use Rattle.sctp_model.specs.end.Wearing.{missed_below, wearing}
use Rattle.sctp_model.proofs.PacedEnds.{worn_cases}
use Rattle.sctp_model.specs.end.Arriving.{AllAct, NoneLeft, Next, Passes, Last, EndsAnswered, Stopped, Arrives, Elsewhere, NotOurs, Stray, CookieBegins, Heard, Notes, no_notes, noted, urged, packet_ended}
use Rattle.sctp_model.specs.end.Strays.{Verdict}
use Rattle.sctp_model.specs.end.Building.{Slot, Puts, NoMore, NotDue, Put, IsFull, Builds, Sleeps, Waits, Calls, Echoes, EndsFull, Fills, room_behind, EchoSlot, CookieAckSlot, HeartbeatSlot, ErrorSlot, SackSlot, ForwardSlot, ShutdownSlot, ShutdownAckSlot, once_built, AnswerSlot, RequestSlot}
use Rattle.sctp_model.specs.end.Building.{BeatSlot}
use Rattle.sctp_model.specs.end.Moments.{after_abandoning, is_data_due, given_up, rung, ring, rung_all, all_alarms, waited_in, passed, ticked}
use Rattle.sctp_model.specs.end.UserCalls.{is_established, answer_for, send_answer, send_leaves, NotOpen, is_open, abandoned_at, shut_in, shut, AbortAnswer, Aborts, NoPeer, TooLong, abort_leaves, ResetCall, Begun, NotAgreed, NoStream, reset_leaves, told_leaves}
use Rattle.sctp_safety.proofs.machine.EndWords.{rested_cases, ended_cases}
use Rattle.sctp_safety.proofs.machine.Sides.{unknown_goes, unknown_ends, unknown_never_replies}
use Rattle.sctp_model.specs.end.Reconfiguring.{asking_wait, request_heard, other_heard, response_heard, asking_on, in_progress, parameter_heard, parameters_heard, asking_now, asking}
use Rattle.sctp_model.specs.wire.Typed.{Typed, typed_in}
use Rattle.sctp_model.specs.numbers.Numbers.{u32_at}
use Rattle.sctp_model.specs.messages.Format.{Format}
use Rattle.sctp_model.specs.sender.Outgoing.{LaterNumber, takes_next, Outgoing, Request}
use Rattle.sctp_model.specs.sender.SackTaken.{sack_taken}
use Rattle.sctp_model.specs.sender.Words.{count_up}
use Rattle.sctp_model.specs.sender.Filling.{fill}
use Rattle.sctp_model.specs.sender.Resetting.{numbered_so, retried_in, retried, reset_answered, answered_in, is_open_number, may_ask, response_taken}
use Rattle.sctp_model.proofs.sender.HeardLaws.{heard_cases}
use Rattle.sctp_model.proofs.sender.WornLaws.{wears_each}
use Rattle.sctp_model.proofs.sender.FillLaws.{fill_is_fill}
use Rattle.sctp_safety.proofs.runs.Sending.{abandon_resets, expire_resets, follows_resets}
use Rattle.sctp_model.specs.wire.Reconfig.{OUTGOING_RESET, RECONFIG_RESPONSE, reset_read, is_parameter, is_other_request}

-- ---- an endpoint

-- Before an association none waits; in an established end one that does is due, or its timer runs.
abbrev pub Goes : Phase → (waits due runs : Bool) → Type 0
Goes (Open t Established) w d r = w ≡ true → (d || r) ≡ true
Goes (Open t ShutdownPending) w d r = Unit {0}
Goes (Open t ShutdownSent) w d r = Unit {0}
Goes (Open t ShutdownReceived) w d r = Unit {0}
Goes (Open t ShutdownAckSent) w d r = Unit {0}
Goes (Over why) w d r = Unit {0}
Goes Idle w d r = w ≡ false
Goes Listening w d r = w ≡ false
Goes (Calling x) w d r = w ≡ false
Goes (Echoing t xs) w d r = w ≡ false

-- a timer runs
abbrev pub runs : Timer → Bool
runs t = is_some t.expiry

abbrev pub IsAskingAt : EndView → Type 0
IsAskingAt e = Goes e.phase (is_some e.sender.resets.pending) e.due.request (runs (e.timers ResetAlarm))

-- with the same known of resets
same_resets : (e : EndView) (a : SenderView) → a.resets ≡ e.sender.resets → IsAskingAt e → IsAskingAt (record e { sender = a })
same_resets e a same r = subst (λ (x : Outgoing). Goes e.phase (is_some x.pending) e.due.request (runs (e.timers ResetAlarm))) (sym same) r

-- if one waits still, it did, and is due or not as before
fewer : (h : Phase) (w d r x y z : Bool) → (x ≡ true → (w ≡ true) × (y ≡ d) × (z ≡ r)) → Goes h w d r → Goes h x y z
fewer (Open t Established) w d r x y z less h = λ on. (let l = less on in let was = h l.0 in rw (l.1, l.2) was)
fewer (Open t ShutdownPending) w d r x y z less h = tt
fewer (Open t ShutdownSent) w d r x y z less h = tt
fewer (Open t ShutdownReceived) w d r x y z less h = tt
fewer (Open t ShutdownAckSent) w d r x y z less h = tt
fewer (Over why) w d r x y z less h = tt
fewer Idle w d r x y z less h = before x (λ on. (less on).0)
  where
    before : (b : Bool) → (b ≡ true → w ≡ true) → b ≡ false
    before true up = absurd (let on = up refl in cc)
    before false up = refl
fewer Listening w d r x y z less h = before x (λ on. (less on).0)
  where
    before : (b : Bool) → (b ≡ true → w ≡ true) → b ≡ false
    before true up = absurd (let on = up refl in cc)
    before false up = refl
fewer (Calling u) w d r x y z less h = before x (λ on. (less on).0)
  where
    before : (b : Bool) → (b ≡ true → w ≡ true) → b ≡ false
    before true up = absurd (let on = up refl in cc)
    before false up = refl
fewer (Echoing t xs) w d r x y z less h = before x (λ on. (less on).0)
  where
    before : (b : Bool) → (b ≡ true → w ≡ true) → b ≡ false
    before true up = absurd (let on = up refl in cc)
    before false up = refl

-- what it leaves is due, or its timer runs, if it waits at all
due_or_runs : (h : Phase) (w d r y z : Bool) → (y || z) ≡ true → Goes h w d r → Goes h w y z
due_or_runs (Open t Established) w d r y z on h = λ waits. on
due_or_runs (Open t ShutdownPending) w d r y z on h = tt
due_or_runs (Open t ShutdownSent) w d r y z on h = tt
due_or_runs (Open t ShutdownReceived) w d r y z on h = tt
due_or_runs (Open t ShutdownAckSent) w d r y z on h = tt
due_or_runs (Over why) w d r y z on h = tt
due_or_runs Idle w d r y z on h = h
due_or_runs Listening w d r y z on h = h
due_or_runs (Calling u) w d r y z on h = h
due_or_runs (Echoing t xs) w d r y z on h = h

asking_rested : (e : EndView) → IsAskingAt e → IsAskingAt (rested e)
asking_rested e r = rested_cases IsAskingAt e r (λ t is d. tt) (λ t is d. tt)

-- ---- a RE-CONFIG

restarts : (now wait : ℕ) (o : Option ℕ) → is_some (restarted_expiry now wait o) ≡ is_some o
restarts now wait None = refl
restarts now wait (Some m) = refl

progress_goes : (b : Bool) (e : EndView) → IsAskingAt e → IsAskingAt (in_progress b e)
progress_goes false e r = r
progress_goes true e r = subst (λ (b : Bool). Goes e.phase (is_some e.sender.resets.pending) e.due.request b) (sym (restarts e.moment (asking_wait e) (e.timers ResetAlarm).expiry)) r

resting_goes : (e : EndView) → IsAskingAt e → IsAskingAt (asking_on e)
resting_goes e r = go (is_some e.sender.resets.pending) refl
  where
    go : (b : Bool) → is_some e.sender.resets.pending ≡ b → IsAskingAt (if b then e else with_timer ResetAlarm (unused_timer e.configuration.first_wait) (with_due (record e.due { request = false }) e))
    go true is = r
    go false is = fewer e.phase (is_some e.sender.resets.pending) e.due.request (runs (e.timers ResetAlarm)) (is_some e.sender.resets.pending) false false (λ on. absurd (let no : false ≡ true = sym is ∙ on in cc)) r

answered_fewer : (v : SenderView) (code : ℕ) (q : Request) → v.resets.pending ≡ Some q → is_some (reset_answered v code q).resets.pending ≡ true → is_some v.resets.pending ≡ true
answered_fewer v code q waits on = ap (λ (o : Option Request). is_some o) waits

response_fewer : (v : SenderView) (number code : ℕ) → is_some (response_taken v number code).resets.pending ≡ true → is_some v.resets.pending ≡ true
response_fewer v number code on = go (is_open_number v number) v.resets.pending refl on
  where
    go : (b : Bool) (o : Option Request) → v.resets.pending ≡ o → is_some (if b then answered_in v code o else v).resets.pending ≡ true → is_some v.resets.pending ≡ true
    go false o is here = here
    go true None is here = here
    go true (Some q) is here = answered_fewer v code q is here

response_goes : (e : EndView) (number code : ℕ) → IsAskingAt e → IsAskingAt (response_heard e number code)
response_goes e number code r =
    let t = record e { sender = response_taken e.sender number code } in
    let u = in_progress (is_open_number e.sender number) t in
    resting_goes u (progress_goes (is_open_number e.sender number) t
    (fewer e.phase (is_some e.sender.resets.pending) e.due.request (runs (e.timers ResetAlarm)) (is_some (response_taken e.sender number code).resets.pending) e.due.request (runs (e.timers ResetAlarm))
    (λ on. (response_fewer e.sender number code on, refl, refl)) r))

parameter_goes : (c : ℕ) (e : EndView) (x : Typed) → IsAskingAt e → IsAskingAt (parameter_heard c e x)
parameter_goes c e x r = go (is_parameter OUTGOING_RESET 12 x) (is_parameter RECONFIG_RESPONSE 8 x) (is_other_request x)
  where
    go : (a b d : Bool) → IsAskingAt (if a then request_heard c e (reset_read x) else if b then response_heard e (u32_at x.value) (u32_at (drop 4 x.value)) else if d then other_heard e (u32_at x.value) else e)
    go true b d = r
    go false true d = response_goes e (u32_at x.value) (u32_at (drop 4 x.value)) r
    go false false true = r
    go false false false = r

parameters_go : (c : ℕ) (e : EndView) (xs : List Typed) → IsAskingAt e → IsAskingAt (parameters_heard c e xs)
parameters_go c e [] r = r
parameters_go c e (x ∷ xs) r = parameters_go c (parameter_heard c e x) xs (parameter_goes c e x r)

-- a request is made
asking_asks : (e : EndView) → IsAskingAt e → IsAskingAt (asking e)
asking_asks e r = go e.terms.reset (is_home ResetAlarm e.phase) (may_ask e.sender) refl
  where
    at_home : (h : Phase) (b : Bool) → is_home ResetAlarm h ≡ true → Goes h true true b
    at_home (Open t Established) b on = λ waits. refl
    at_home (Open t ShutdownPending) b on = tt
    at_home (Open t ShutdownSent) b on = tt
    at_home (Open t ShutdownReceived) b on = tt
    at_home (Open t ShutdownAckSent) b on = tt
    at_home (Over why) b on = tt
    at_home Idle b on = absurd (cc)
    at_home Listening b on = absurd (cc)
    at_home (Calling d) b on = absurd (cc)
    at_home (Echoing t xs) b on = absurd (cc)

    go : (a b c : Bool) → is_home ResetAlarm e.phase ≡ b → IsAskingAt (asking_now (a && (b && c)) e)
    go false b c is = r
    go true false c is = r
    go true true false is = r
    go true true true is = at_home e.phase false is

-- ---- what a sender's calls leave of resets

heard_resets : (o : Option Pace) (now : ℕ) (v u : SenderView) → (sender_heard o now v u).resets ≡ u.resets
heard_resets o now v u = heard_cases (λ (x : SenderView). x.resets ≡ u.resets) o now v u refl (λ test. refl)

worn_resets : (test : ℕ → Bool) (v : SenderView) → (worn test v).resets ≡ v.resets
worn_resets test v = wears_each (λ (u : SenderView). u.resets ≡ v.resets) (λ u t same. abandon_resets u t ∙ same) test v (count_up 1 (length v.plan.entries)) refl

given_up_resets : (b : Bool) (v : SenderView) (now : ℕ) → (given_up b v now).resets ≡ v.resets
given_up_resets true v now = worn_resets (λ i. true) (expired v now) ∙ expire_resets now (count_up 1 v.tickets) v
given_up_resets false v now = expire_resets now (count_up 1 v.tickets) v

pub filled_resets : (f : Format) (room : ℕ) (v : SenderView) → (fill f room v).view.resets ≡ v.resets
filled_resets f room v = (follows_resets f v room (fill f room v).wishes (fill f room v).view (fill_is_fill f room v).follows).last

-- either of two endpoints
either : (b : Bool) (t u : EndView) → IsAskingAt t → IsAskingAt u → IsAskingAt (if b then t else u)
either true t u first second = first
either false t u first second = second

-- a request that goes out has its timer running
runs_now : (now : ℕ) (t : Timer) (o : Option ℕ) → t.expiry ≡ o → runs (running now t o) ≡ true
runs_now now t (Some m) is = ap (λ (x : Option ℕ). is_some x) is
runs_now now t None is = refl

-- ---- a chunk

-- a chunk after which the packet goes on
asking_goes : (e : EndView) (tag : ℕ) (x : ChunkMeaning) (y : Note) (t : EndView) → IsAskingAt e → Acts e tag x (GoesOn y t) → IsAskingAt t
asking_goes e tag (Data p) y t r (PieceComes _ _ _ _ _ _ _ _ _ _) = r
asking_goes e tag (IData p) y t r (PieceComes _ _ _ _ _ _ _ _ _ _) = r
asking_goes e tag (Init m) y t r h = absurd (cc)
asking_goes e tag (InitAck m) y t r (AcceptedAck _ _ _ _ _ _) = refl
asking_goes e tag (Sack s) y t r (SackStale _ _) = r
asking_goes e tag (Sack s) y t r (SackCounts hears none) =
    subst (λ (x : Outgoing). Goes e.phase (is_some x.pending) e.due.request (runs (e.timers ResetAlarm))) (sym (heard_resets e.pace e.moment e.sender (sack_taken e.sender s))) r
asking_goes e tag (Heartbeat i) y t r (HeartbeatCounts _) = r
asking_goes e tag (HeartbeatAck i) y t r h = let q : t ≡ beat_heard e i = cc in subst IsAskingAt (sym q) r
asking_goes e tag (Abort b xs) y t r h = absurd (cc)
asking_goes e tag (Shutdown n) y t r (ShutdownStale _ _ _ _ _) = tt
asking_goes e tag (Shutdown n) y t r (ShutdownCounts _ _ _ _ none) = tt
asking_goes e tag (Shutdown n) y t r (Crosses _ _) = tt
asking_goes e tag (Shutdown n) y t r (Again _ _) = r
asking_goes e tag ShutdownAck y t r h = elim h [ ]
asking_goes e tag (Error xs) y t r (SaysNothing _) = r
asking_goes e tag (CookieEcho xs) y t r (EchoedAgain _ _ _ _ _ _ _) = r
asking_goes e tag CookieAck y t r (CookieAcked u xs is) =
    let off : is_some e.sender.resets.pending ≡ false = subst (λ (h : Phase). Goes h (is_some e.sender.resets.pending) e.due.request (runs (e.timers ResetAlarm))) is r in
    λ on. absurd (let no : false ≡ true = sym off ∙ on in cc)
asking_goes e tag (ShutdownComplete b) y t r h = elim h [ ]
asking_goes e tag (ForwardTsn m) y t r (IsOld _ _ _ _ _ _ _) = r
asking_goes e tag (ForwardTsn m) y t r (ForwardComes _ _ _ _ _ _ _) = r
asking_goes e tag (IForwardTsn m) y t r (IsOld _ _ _ _ _ _ _) = r
asking_goes e tag (IForwardTsn m) y t r (ForwardComes _ _ _ _ _ _ _) = r
asking_goes e tag (Unknown n f v) y t r (ReconfigComes c _ _) = parameters_go c e (typed_in v) r
asking_goes e tag (Unknown n f v) y t r (IsUnknown _ _ h) = let u = unknown_goes e y t n f v h in subst IsAskingAt (sym u.same) r

-- one that ends it
asking_ends : (e : EndView) (tag : ℕ) (x : ChunkMeaning) (t : EndView) → IsAskingAt e → Acts e tag x (Ends t) → IsAskingAt t
asking_ends e tag (Data p) t r h = elim h [ ]
asking_ends e tag (IData p) t r h = elim h [ ]
asking_ends e tag (Init m) t r h = absurd (cc)
asking_ends e tag (InitAck m) t r h = elim h [ ]
asking_ends e tag (Sack s) t r h = elim h [ ]
asking_ends e tag (Heartbeat i) t r h = elim h [ ]
asking_ends e tag (HeartbeatAck i) t r h = absurd (cc)
asking_ends e tag (Abort b xs) t r h = let q : t ≡ closed Aborted e = cc in subst IsAskingAt (sym q) tt
asking_ends e tag (Shutdown n) t r h = elim h [ ]
asking_ends e tag ShutdownAck t r h = elim h [ ]
asking_ends e tag (Error xs) t r (Closes _) = tt
asking_ends e tag (CookieEcho xs) t r h = elim h [ ]
asking_ends e tag CookieAck t r h = elim h [ ]
asking_ends e tag (ShutdownComplete b) t r (CompleteCompleted _) = tt
asking_ends e tag (ForwardTsn m) t r h = elim h [ ]
asking_ends e tag (IForwardTsn m) t r h = elim h [ ]
asking_ends e tag (Unknown n f v) t r (IsUnknown _ _ h) = let u = unknown_ends e t n f v h in subst IsAskingAt (sym u.same) r

-- one that is answered
asking_replies : (e : EndView) (tag : ℕ) (x : ChunkMeaning) (t : EndView) (p : Packet) → IsAskingAt e → Acts e tag x (Replies t p) → IsAskingAt t
asking_replies e tag (Data q) t p r (PieceEmpty _ _ _ _ _) = tt
asking_replies e tag (Data q) t p r (WrongFormat _ _ _ _ _ _) = tt
asking_replies e tag (Data q) t p r (Misnumbered _ _ _ _ _ _ _ _ _) = tt
asking_replies e tag (IData q) t p r (PieceEmpty _ _ _ _ _) = tt
asking_replies e tag (IData q) t p r (WrongFormat _ _ _ _ _ _) = tt
asking_replies e tag (IData q) t p r (Misnumbered _ _ _ _ _ _ _ _ _) = tt
asking_replies e tag (Init m) t p r h = absurd (cc)
asking_replies e tag (InitAck m) t p r (RefusedAck _ _ _ _ _) = tt
asking_replies e tag (Sack s) t p r (SackWrong _ _ _ _ _) = tt
asking_replies e tag (Heartbeat i) t p r h = elim h [ ]
asking_replies e tag (HeartbeatAck i) t p r h = absurd (cc)
asking_replies e tag (Abort b xs) t p r h = absurd (cc)
asking_replies e tag (Shutdown n) t p r (ShutdownWrong _ _ _ _ _) = tt
asking_replies e tag ShutdownAck t p r (AckCompletes _ _ _ _) = tt
asking_replies e tag (Error xs) t p r h = elim h [ ]
asking_replies e tag (CookieEcho xs) t p r h = elim h [ ]
asking_replies e tag CookieAck t p r h = elim h [ ]
asking_replies e tag (ShutdownComplete b) t p r h = elim h [ ]
asking_replies e tag (ForwardTsn m) t p r (WrongKind _ _ _ _ _) = tt
asking_replies e tag (ForwardTsn m) t p r (IsBad _ _ _ _ _ _ _) = tt
asking_replies e tag (IForwardTsn m) t p r (WrongKind _ _ _ _ _) = tt
asking_replies e tag (IForwardTsn m) t p r (IsBad _ _ _ _ _ _ _) = tt
asking_replies e tag (Unknown n f v) t p r (IsUnknown _ _ h) = absurd (unknown_never_replies e t p n f v h)

-- ---- a packet that arrives

asking_acts : (tag : ℕ) (e : EndView) (b : Notes) (xs : List ChunkMeaning) (t : EndView) (m : Notes) (v : Verdict) → IsAskingAt e → AllAct tag e b xs t m v → IsAskingAt t
asking_acts tag e b xs t m v r (NoneLeft _ _) = r
asking_acts tag e b xs t m v r (Next _ mid _ y _ _ x ys _ act rest) = asking_acts tag (rested mid) (noted y b) ys t m v (asking_rested mid (asking_goes e tag x y mid r act)) rest
asking_acts tag e b xs t m v r (Passes _ _ _ _ x ys _ act rest) = asking_acts tag e b ys t m v r rest
asking_acts tag e b xs t m v r (Last _ _ _ x ys act) = asking_ends e tag x t r act
asking_acts tag e b xs t m v r (EndsAnswered _ _ _ x ys p act) = asking_replies e tag x t p r act
asking_acts tag e b xs t m v r (Stopped _ _ x ys n act) = r

asking_ended : (n : Notes) (e : EndView) → IsAskingAt e → IsAskingAt (packet_ended n e)
asking_ended n e r = ended_cases IsAskingAt n e r (λ t g is. r) (λ t g is. r) (λ x h. h)

asking_abandoning : (e : EndView) (a : SenderView) → a.resets ≡ e.sender.resets → IsAskingAt e → IsAskingAt (after_abandoning e a)
asking_abandoning e a same r =
    asking_rested (settled (record e { sender = a; due = record e.due { forward = e.due.forward || not (point a == point e.sender) } })) (same_resets e a same r)

asking_worn : (from : ℕ) (e : EndView) → IsAskingAt e → IsAskingAt (wearing from e)
asking_worn from e r = worn_cases IsAskingAt from e r (λ test on. asking_abandoning e (worn test e.sender) (worn_resets test e.sender) r)

pub asking_arrives : (e : EndView) (d : Draw) (p : Packet) (t : EndView) (v : Verdict) → IsAskingAt e → Arrives e d p t v → IsAskingAt t
asking_arrives e d p t v r (Elsewhere _) = r
asking_arrives e d p t v r (NotOurs _ _) = r
asking_arrives e d p t v r (Stray _ _ _ _) = r
asking_arrives e d p t v r (CookieBegins b u n _ _ _ _ opens acts gap _) =
    asking_ended (urged gap n) u (asking_acts p.tag (begun b e) (noted Unnoted no_notes) _ u n v (λ on. absurd (cc)) acts)
asking_arrives e d p t v r (Heard u n _ _ _ _ acts gap _) =
    asking_ended (urged gap n) (wearing (missed_below e.pace) u) (asking_worn (missed_below e.pace) u (asking_acts p.tag e no_notes p.chunks u n v r acts))

-- ---- a packet that is built

asking_built : (s : Slot) (e : EndView) → IsAskingAt e → IsAskingAt (once_built s e)
asking_built EchoSlot e r = r
asking_built CookieAckSlot e r = r
asking_built HeartbeatSlot e r = r
asking_built BeatSlot e r = r
asking_built ErrorSlot e r = r
asking_built SackSlot e r = r
asking_built ForwardSlot e r = r
asking_built AnswerSlot e r = r
asking_built RequestSlot e r =
    due_or_runs e.phase (is_some e.sender.resets.pending) e.due.request (runs (e.timers ResetAlarm)) false (runs (running e.moment (e.timers ResetAlarm) (e.timers ResetAlarm).expiry)) (runs_now e.moment (e.timers ResetAlarm) (e.timers ResetAlarm).expiry refl) r
asking_built ShutdownSlot e r = r
asking_built ShutdownAckSlot e r = r

asking_puts : (ss : List Slot) (e : EndView) (xs zs : List ChunkMeaning) (full : Bool) (t : EndView) → IsAskingAt e → Puts ss e xs zs full t → IsAskingAt t
asking_puts ss e xs zs full t r (NoMore _ _) = r
asking_puts ss e xs zs full t r (NotDue _ more _ _ _ _ _ off rest) = asking_puts more e xs zs full t r rest
asking_puts ss e xs zs full t r (Put s more _ x _ _ _ _ due wants room rest) = asking_puts more (once_built s e) (xs ++ x ∷ []) zs full t (asking_built s e r) rest
asking_puts ss e xs zs full t r (IsFull _ _ _ _ _ due wants room) = r

pub asking_builds : (e : EndView) (zs : List ChunkMeaning) (t : EndView) → IsAskingAt e → Builds e zs t → IsAskingAt t
asking_builds e zs t r (Sleeps _) = r
asking_builds e zs t r (Waits _ _ _) = r
asking_builds e zs t r (Calls _ _ _) = r
asking_builds e zs t r (Echoes _ _ _ full _ is puts) = asking_puts _ e [] zs full t r puts
asking_builds e zs t r (EndsFull _ _ _ _ is puts) = asking_puts _ (asking e) [] zs true t (asking_asks e r) puts
asking_builds e zs t r (Fills _ _ ys x is puts) =
    subst (λ (o : Outgoing). Goes x.phase (is_some o.pending) x.due.request (runs (x.timers ResetAlarm))) (sym (filled_resets (format_of x) (room_behind x ys) x.sender))
    (asking_puts _ (asking e) [] ys false x (asking_asks e r) puts)

-- ---- time

-- a request that is retransmitted goes on to wait
retried_waits : (v : SenderView) → is_some (retried v).resets.pending ≡ is_some v.resets.pending
retried_waits v = go v.resets.pending refl
  where
    by : (q : Request) → v.resets.pending ≡ Some q → (b : Bool) → is_some (if b then numbered_so v (suc v.resets.made) LaterNumber q else v).resets.pending ≡ is_some v.resets.pending
    by q is true = ap (λ (o : Option Request). is_some o) (sym is)
    by q is false = refl

    go : (o : Option Request) → v.resets.pending ≡ o → is_some (retried_in v o).resets.pending ≡ is_some v.resets.pending
    go None is = refl
    go (Some q) is = by q is (takes_next q.numbering && nat_lt v.resets.made REQUEST_LIMIT)

asking_rung : (b : Bool) (a : Alarm) (e : EndView) → IsAskingAt e → IsAskingAt (rung b a e)
asking_rung false a e r = r
asking_rung true InitAlarm e r = either (may_go_on InitAlarm e) _ _ r tt
asking_rung true CookieAlarm e r = either (may_go_on CookieAlarm e) _ _ r tt
asking_rung true DataAlarm e r = either (may_go_on DataAlarm e) _ _ r tt
asking_rung true ShutdownAlarm e r = either (may_go_on ShutdownAlarm e) _ _ r tt
asking_rung true AckAlarm e r = either (may_go_on AckAlarm e) _ _ r tt
asking_rung true BeatAlarm e r = either (may_go_on BeatAlarm e) _ _ r tt
asking_rung true GuardAlarm e r = tt
asking_rung true ResetAlarm e r =
    either (may_go_on ResetAlarm e) _ _ (subst (λ (w : Bool). Goes e.phase w true false) (sym (retried_waits e.sender))
    (due_or_runs e.phase (is_some e.sender.resets.pending) e.due.request (runs (e.timers ResetAlarm)) true false refl r)) tt

asking_rung_all : (alarms : List Alarm) (e : EndView) → IsAskingAt e → IsAskingAt (rung_all alarms e)
asking_rung_all [] e r = r
asking_rung_all (a ∷ more) e r = asking_rung_all more (ring a e) (asking_rung (is_over_at e.moment (e.timers a).expiry) a e r)

asking_waited : (b : Bool) (e : EndView) → IsAskingAt e → IsAskingAt (waited_in b e)
asking_waited false e r = r
asking_waited true e r = r

pub asking_ticked : (e : EndView) (now : ℕ) → IsAskingAt e → IsAskingAt (ticked e now)
asking_ticked e now r = go (has_association e.phase)
  where
    go : (b : Bool) → IsAskingAt (if b then passed (at_moment e now) else at_moment e now)
    go false = r
    go true =
        let m = at_moment e now in
        let u = after_abandoning m (given_up (is_data_due m) m.sender m.moment) in
        let rang = rung_all all_alarms u in
        let abandoned = asking_abandoning m (given_up (is_data_due m) m.sender m.moment) (given_up_resets (is_data_due m) m.sender m.moment) r in
        asking_waited (is_over_at rang.moment rang.delayed) rang (asking_rung_all all_alarms u abandoned)

-- ---- calls

pub asking_sent : (e : EndView) (c : Call) → IsAskingAt e → IsAskingAt (send_leaves (send_answer e c) e c)
asking_sent e c r = go (hears is_established e.phase)
  where
    by : (o : Option Refusal) → refusal e.sender c.lane.stream c.bytes ≡ o → IsAskingAt (send_leaves (answer_for e o) e c)
    by None none = r
    by (Some x) why = r

    go : (b : Bool) → IsAskingAt (send_leaves (if b then answer_for e (refusal e.sender c.lane.stream c.bytes) else NotOpen) e c)
    go true = by (refusal e.sender c.lane.stream c.bytes) refl
    go false = r

pub asking_abandoned : (e : EndView) (n : ℕ) → IsAskingAt e → IsAskingAt (abandoned_at e n)
asking_abandoned e n r = go (is_open e.phase)
  where
    go : (b : Bool) → IsAskingAt (if b then after_abandoning e (abandon_after e.sender n) else record e { sender = abandon_after e.sender n })
    go true = asking_abandoning e (abandon_after e.sender n) (abandon_resets e.sender n) r
    go false = same_resets e (abandon_after e.sender n) (abandon_resets e.sender n) r

pub asking_reset : (e : EndView) (a : ResetCall) (n : ℕ) → IsAskingAt e → IsAskingAt (reset_leaves a e n)
asking_reset e Begun n r = r
asking_reset e NotAgreed n r = r
asking_reset e NoStream n r = r

pub asking_told : (e : EndView) (o : Option ℕ) → IsAskingAt e → IsAskingAt (told_leaves o e)
asking_told e None r = r
asking_told e (Some n) r = r

pub asking_shut : (e : EndView) → IsAskingAt e → IsAskingAt (shut e)
asking_shut e r = go e.phase
  where
    go : (h : Phase) → IsAskingAt (shut_in h e)
    go (Open t Established) = asking_rested (turned (Open t ShutdownPending) e) tt
    go (Open t ShutdownPending) = r
    go (Open t ShutdownSent) = r
    go (Open t ShutdownReceived) = r
    go (Open t ShutdownAckSent) = r
    go Idle = r
    go Listening = r
    go (Calling d) = r
    go (Echoing t xs) = r
    go (Over why) = r

pub asking_aborted : (e : EndView) (a : AbortAnswer) → IsAskingAt e → IsAskingAt (abort_leaves a e)
asking_aborted e (Aborts x) r = tt
asking_aborted e NoPeer r = r
asking_aborted e TooLong r = r
