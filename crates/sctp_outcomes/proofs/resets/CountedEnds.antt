-- What each event leaves of an endpoint's receiver: what is noted of its resets is of requests performed.
use Rattle.std.proofs.Common.{◌≡◌, ℕ, Bool, true, false, List, [], ◌∷◌, is_some, refl, sym, subst, ap, ◌∙◌, if◌then◌else◌}
use Rattle.std.specs.Prelude.{drop}
use Rattle.sctp_model.specs.numbers.Numbers.{u32_at}
use Rattle.sctp_model.specs.wire.Packet.{Packet}
use Rattle.sctp_model.specs.wire.Typed.{Typed, typed_in}
use Rattle.sctp_model.specs.wire.Reconfig.{ResetMeaning, OUTGOING_RESET, RECONFIG_RESPONSE, reset_read, is_parameter, is_other_request}
use Rattle.sctp_model.specs.wire.Chunk.{ChunkMeaning, Data, IData, Init, InitAck, Sack, Heartbeat, HeartbeatAck, Abort, Shutdown, ShutdownAck, Error, CookieEcho, CookieAck, ShutdownComplete, ForwardTsn, IForwardTsn, Unknown}
use Rattle.sctp_model.specs.sender.Resetting.{is_open_number, response_taken}
use Rattle.sctp_model.specs.receiver.ReceiverView.{ReceiverView, handed}
use Rattle.sctp_model.specs.end.EndView.{Draw, Aborted, ResetAlarm, EndView, unused_timer}
use Rattle.sctp_model.specs.end.Clock.{closed, with_timer}
use Rattle.sctp_model.specs.end.Closing.{rested, with_due}
use Rattle.sctp_model.specs.end.PeerFaults.{GoesOn, Ends, Replies, Note}
use Rattle.sctp_model.specs.end.Opening.{AcceptedAck, RefusedAck, EchoedAgain, CookieAcked, begun}
use Rattle.sctp_model.specs.end.Beating.{beat_heard}
use Rattle.sctp_model.specs.end.Acting.{Acts, ForwardComes, PieceComes, IsOld, SackStale, ShutdownStale, HeartbeatCounts, SackCounts, ShutdownCounts, Closes, SaysNothing, Crosses, Again, AckCompletes, CompleteCompleted, PieceEmpty, WrongFormat, SackWrong, ShutdownWrong, WrongKind, IsBad, ReconfigComes, IsUnknown, Misnumbered}
use Rattle.sctp_model.specs.end.Reconfiguring.{request_heard, other_heard, response_heard, asking_on, in_progress, parameter_heard, parameters_heard}
use Rattle.sctp_model.specs.end.Wearing.{missed_below, wearing}
use Rattle.sctp_model.specs.end.Strays.{Verdict}
use Rattle.sctp_model.specs.end.Arriving.{AllAct, NoneLeft, Next, Passes, Last, EndsAnswered, Stopped, noted, Arrives, Elsewhere, NotOurs, Stray, CookieBegins, Heard, Notes, no_notes, urged, packet_ended}
use Rattle.sctp_safety.proofs.machine.EndWords.{ended_cases}
use Rattle.sctp_safety.proofs.machine.Sides.{unknown_goes, unknown_ends, unknown_never_replies}
use Rattle.sctp_outcomes.specs.Kept.{is_before, IsSound}
use Rattle.sctp_outcomes.specs.Resets.{IsAmongParameters, FirstAsks, LaterAsks, IsAmongChunks, InFirst, BehindActing, BehindPassed, IsInArriving, AtOpen, BehindCookie}
use Rattle.sctp_outcomes.proofs.Unheard.{unheard_rested, unheard_worn}
use Rattle.sctp_outcomes.proofs.logs.Ends.{begins_keeps, rested_keeps}
use Rattle.sctp_outcomes.proofs.logs.Heard.{goes_keeps, opens_before}
use Rattle.sctp_outcomes.proofs.resets.Counted.{Counts, counts_same, counts_on, counts_among, piece_counts, forward_counts, request_counts, denied_counts, fresh_counts}

abbrev pub Counted : (ReceiverView → ℕ → ResetMeaning → Type 0) → EndView → EndView → Type 0
Counted P e t = Counts P e.receiver t.receiver

still : {P : ReceiverView → ℕ → ResetMeaning → Type 0} (e t : EndView) → t.receiver ≡ e.receiver → Counted P e t
still e t is = counts_same e.receiver t.receiver is

-- an endpoint before an association has delivered nothing
nothing_handed : (e : EndView) → IsSound e → is_before e.phase ≡ true → (s : ℕ) → handed e.receiver s ≡ []
nothing_handed e sound before s = ap (λ (r : ReceiverView). handed r s) (sound.bare before).receiver

-- ---- a RE-CONFIG

asking_on_receiver : (e : EndView) → (asking_on e).receiver ≡ e.receiver
asking_on_receiver e = go (is_some e.sender.resets.pending)
  where
    go : (b : Bool) → (if b then e else with_timer ResetAlarm (unused_timer e.configuration.first_wait) (with_due (record e.due { request = false }) e)).receiver ≡ e.receiver
    go true = refl
    go false = refl

progress_receiver : (b : Bool) (e : EndView) → (in_progress b e).receiver ≡ e.receiver
progress_receiver true e = refl
progress_receiver false e = refl

response_receiver : (e : EndView) (number code : ℕ) → (response_heard e number code).receiver ≡ e.receiver
response_receiver e number code =
    let t = record e { sender = response_taken e.sender number code } in
    let b = is_open_number e.sender number in
    asking_on_receiver (in_progress b t) ∙ progress_receiver b t

-- the requests of these parameters, all at one cumulative index
abbrev OfParameters : ℕ → EndView → List Typed → ReceiverView → ℕ → ResetMeaning → Type 0
OfParameters c e xs r d m = (d ≡ c) × IsAmongParameters c e xs r m

parameter_counts : (c : ℕ) (e : EndView) (x : Typed) (xs : List Typed) → Counted (OfParameters c e (x ∷ xs)) e (parameter_heard c e x)
parameter_counts c e x xs = go (is_parameter OUTGOING_RESET 12 x) (is_parameter RECONFIG_RESPONSE 8 x) (is_other_request x) refl
  where
    go : (a b d : Bool) → is_parameter OUTGOING_RESET 12 x ≡ a → Counted (OfParameters c e (x ∷ xs)) e
        (if a then request_heard c e (reset_read x) else if b then response_heard e (u32_at x.value) (u32_at (drop 4 x.value)) else if d then other_heard e (u32_at x.value) else e)
    go true b d is = request_counts e.receiver c (reset_read x) _ (refl, FirstAsks e x xs is)
    go false true d is = still e (response_heard e (u32_at x.value) (u32_at (drop 4 x.value))) (response_receiver e (u32_at x.value) (u32_at (drop 4 x.value)))
    go false false true is = denied_counts e.receiver (u32_at x.value) _
    go false false false is = still e e refl

parameters_count : (c : ℕ) (e : EndView) (xs : List Typed) → Counted (OfParameters c e xs) e (parameters_heard c e xs)
parameters_count c e [] = still e e refl
parameters_count c e (x ∷ xs) =
    let mid = parameter_heard c e x in
    counts_on e.receiver mid.receiver (parameters_heard c mid xs).receiver (parameter_counts c e x xs)
    (counts_among mid.receiver (parameters_heard c mid xs).receiver (λ r d m k. (k.0, LaterAsks e x xs r m k.1)) (parameters_count c mid xs))

-- ---- a chunk

goes_count : (e : EndView) (tag : ℕ) (x : ChunkMeaning) (xs : List ChunkMeaning) (y : Note) (t : EndView) → IsSound e → Acts e tag x (GoesOn y t) → Counted (IsAmongChunks tag e (x ∷ xs)) e t
goes_count e tag (Data p) cs y t s (PieceComes u g a r _ _ _ _ came _) = piece_counts _ e.receiver p a r came
goes_count e tag (IData p) cs y t s (PieceComes u g a r _ _ _ _ came _) = piece_counts _ e.receiver p a r came
goes_count e tag (Init m) cs y t s h = absurd (cc)
goes_count e tag (InitAck m) cs y t s (AcceptedAck d xs is _ _ _) = fresh_counts e.receiver _ _ _ _ (nothing_handed e s (ap is_before is))
goes_count e tag (Sack k) cs y t s (SackStale _ _) = still e t refl
goes_count e tag (Sack k) cs y t s (SackCounts on _) = still e t refl
goes_count e tag (Heartbeat i) cs y t s (HeartbeatCounts _) = still e t refl
goes_count e tag (HeartbeatAck i) cs y t s h = let q : t ≡ beat_heard e i = cc in still e t (ap (λ (z : EndView). z.receiver) q)
goes_count e tag (Abort b xs) cs y t s h = absurd (cc)
goes_count e tag (Shutdown n) cs y t s (ShutdownStale _ _ _ _ _) = still e t refl
goes_count e tag (Shutdown n) cs y t s (ShutdownCounts _ _ _ _ _) = still e t refl
goes_count e tag (Shutdown n) cs y t s (Crosses _ _) = still e t refl
goes_count e tag (Shutdown n) cs y t s (Again _ _) = still e t refl
goes_count e tag ShutdownAck cs y t s h = elim h [ ]
goes_count e tag (Error xs) cs y t s (SaysNothing _) = still e t refl
goes_count e tag (CookieEcho xs) cs y t s (EchoedAgain _ _ _ _ _ _ _) = still e t refl
goes_count e tag CookieAck cs y t s (CookieAcked _ _ _) = still e t refl
goes_count e tag (ShutdownComplete b) cs y t s h = elim h [ ]
goes_count e tag (ForwardTsn m) cs y t s (IsOld u g r _ _ _ came) = forward_counts _ e.receiver m _ r came
goes_count e tag (ForwardTsn m) cs y t s (ForwardComes u g r _ _ _ came) = forward_counts _ e.receiver m _ r came
goes_count e tag (IForwardTsn m) cs y t s (IsOld u g r _ _ _ came) = forward_counts _ e.receiver m _ r came
goes_count e tag (IForwardTsn m) cs y t s (ForwardComes u g r _ _ _ came) = forward_counts _ e.receiver m _ r came
goes_count e tag (Unknown n f v) cs y t s (ReconfigComes c takes cumulative) =
    counts_among e.receiver t.receiver (λ r d m k. reads r d m k.0 k.1) (parameters_count c e (typed_in v))
  where
    reads : (r : ReceiverView) (d : ℕ) (m : ResetMeaning) → d ≡ c → IsAmongParameters c e (typed_in v) r m → IsAmongChunks tag e (Unknown n f v ∷ cs) r d m
    reads r d m same asks = subst (λ (k : ℕ). IsAmongChunks tag e (Unknown n f v ∷ cs) r k m) (sym same) (InFirst e n f v cs r c m takes cumulative asks)
goes_count e tag (Unknown n f v) cs y t s (IsUnknown _ _ h) = let u = unknown_goes e y t n f v h in still e t (ap (λ (z : EndView). z.receiver) u.same)

ends_count : {P : ReceiverView → ℕ → ResetMeaning → Type 0} (e : EndView) (tag : ℕ) (x : ChunkMeaning) (t : EndView) → Acts e tag x (Ends t) → Counted P e t
ends_count e tag (Data p) t h = elim h [ ]
ends_count e tag (IData p) t h = elim h [ ]
ends_count e tag (Init m) t h = absurd (cc)
ends_count e tag (InitAck m) t h = elim h [ ]
ends_count e tag (Sack k) t h = elim h [ ]
ends_count e tag (Heartbeat i) t h = elim h [ ]
ends_count e tag (HeartbeatAck i) t h = absurd (cc)
ends_count e tag (Abort b xs) t h = let q : t ≡ closed Aborted e = cc in still e t (ap (λ (z : EndView). z.receiver) q)
ends_count e tag (Shutdown n) t h = elim h [ ]
ends_count e tag ShutdownAck t h = elim h [ ]
ends_count e tag (Error xs) t (Closes _) = still e t refl
ends_count e tag (CookieEcho xs) t h = elim h [ ]
ends_count e tag CookieAck t h = elim h [ ]
ends_count e tag (ShutdownComplete b) t (CompleteCompleted _) = still e t refl
ends_count e tag (ForwardTsn m) t h = elim h [ ]
ends_count e tag (IForwardTsn m) t h = elim h [ ]
ends_count e tag (Unknown n f v) t (IsUnknown _ _ h) = let u = unknown_ends e t n f v h in still e t (ap (λ (z : EndView). z.receiver) u.same)

replies_count : {P : ReceiverView → ℕ → ResetMeaning → Type 0} (e : EndView) (tag : ℕ) (x : ChunkMeaning) (t : EndView) (p : Packet) → Acts e tag x (Replies t p) → Counted P e t
replies_count e tag (Data q) t p (PieceEmpty _ _ _ _ _) = still e t refl
replies_count e tag (Data q) t p (WrongFormat _ _ _ _ _ _) = still e t refl
replies_count e tag (Data q) t p (Misnumbered _ _ _ _ _ _ _ _ _) = still e t refl
replies_count e tag (IData q) t p (PieceEmpty _ _ _ _ _) = still e t refl
replies_count e tag (IData q) t p (WrongFormat _ _ _ _ _ _) = still e t refl
replies_count e tag (IData q) t p (Misnumbered _ _ _ _ _ _ _ _ _) = still e t refl
replies_count e tag (Init m) t p h = absurd (cc)
replies_count e tag (InitAck m) t p (RefusedAck _ _ _ _ _) = still e t refl
replies_count e tag (Sack k) t p (SackWrong _ _ _ _ _) = still e t refl
replies_count e tag (Heartbeat i) t p h = elim h [ ]
replies_count e tag (HeartbeatAck i) t p h = absurd (cc)
replies_count e tag (Abort b xs) t p h = absurd (cc)
replies_count e tag (Shutdown n) t p (ShutdownWrong _ _ _ _ _) = still e t refl
replies_count e tag ShutdownAck t p (AckCompletes _ _ _ _) = still e t refl
replies_count e tag (Error xs) t p h = elim h [ ]
replies_count e tag (CookieEcho xs) t p h = elim h [ ]
replies_count e tag CookieAck t p h = elim h [ ]
replies_count e tag (ShutdownComplete b) t p h = elim h [ ]
replies_count e tag (ForwardTsn m) t p (WrongKind _ _ _ _ _) = still e t refl
replies_count e tag (ForwardTsn m) t p (IsBad _ _ _ _ _ _ _) = still e t refl
replies_count e tag (IForwardTsn m) t p (WrongKind _ _ _ _ _) = still e t refl
replies_count e tag (IForwardTsn m) t p (IsBad _ _ _ _ _ _ _) = still e t refl
replies_count e tag (Unknown n f v) t p (IsUnknown _ _ h) = absurd (unknown_never_replies e t p n f v h)

-- ---- a packet

acts_count : (tag : ℕ) (e : EndView) (b : Notes) (xs : List ChunkMeaning) (t : EndView) (m : Notes) (v : Verdict) → IsSound e → AllAct tag e b xs t m v → Counted (IsAmongChunks tag e xs) e t
acts_count tag e b xs t m v s (NoneLeft _ _) = still e e refl
acts_count tag e b xs t m v s (Next _ mid _ y _ _ x ys _ act rest) =
    let sound = (rested_keeps mid (goes_keeps e tag x y mid s act).sound).sound in
    let later = counts_among (rested mid).receiver t.receiver (λ r c q k. BehindActing e mid y x ys r c q act k) (acts_count tag (rested mid) (noted y b) ys t m v sound rest) in
    counts_on e.receiver mid.receiver t.receiver (goes_count e tag x ys y mid s act) (counts_on mid.receiver (rested mid).receiver t.receiver (still mid (rested mid) (unheard_rested mid).receiver) later)
acts_count tag e b xs t m v s (Passes _ _ _ _ x ys _ act rest) = counts_among e.receiver t.receiver (λ r c q k. BehindPassed e x ys r c q act k) (acts_count tag e b ys t m v s rest)
acts_count tag e b xs t m v s (Last _ _ _ x ys act) = ends_count e tag x t act
acts_count tag e b xs t m v s (EndsAnswered _ _ _ x ys p act) = replies_count e tag x t p act
acts_count tag e b xs t m v s (Stopped _ _ x ys n act) = still e e refl

ended_receiver : (n : Notes) (e : EndView) → (packet_ended n e).receiver ≡ e.receiver
ended_receiver n e = ended_cases (λ (t : EndView). t.receiver ≡ e.receiver) n e refl (λ t g is. refl) (λ t g is. refl) (λ x same. same)

pub arrives_count : (e : EndView) (d : Draw) (p : Packet) (t : EndView) (v : Verdict) → IsSound e → Arrives e d p t v → Counted (IsInArriving e p) e t
arrives_count e d p t v s (Elsewhere _) = still e t refl
arrives_count e d p t v s (NotOurs _ _) = still e t refl
arrives_count e d p t v s (Stray _ _ _ _) = still e t refl
arrives_count e d p t v s (CookieBegins b u n _ ports tag none opens acts gap _) =
    let before = opens_before e p.tag p.chunks b opens in
    let new = begins_keeps e (begun b e) refl refl refl refl refl before s in
    let first : Counted (IsInArriving e p) e (begun b e) = fresh_counts e.receiver _ _ _ _ (nothing_handed e s before) in
    let acted = counts_among (begun b e).receiver u.receiver (λ r c m k. BehindCookie b ports tag none opens k) (acts_count p.tag (begun b e) _ _ u n v new.sound acts) in
    let all = counts_on e.receiver (begun b e).receiver u.receiver first acted in
    counts_on e.receiver u.receiver (packet_ended (urged gap n) u).receiver all (still u (packet_ended (urged gap n) u) (ended_receiver (urged gap n) u))
arrives_count e d p t v s (Heard u n _ ports tag some acts gap _) =
    let all = counts_among e.receiver u.receiver (λ r c m k. AtOpen ports tag some k) (acts_count p.tag e no_notes p.chunks u n v s acts) in
    let worn = wearing (missed_below e.pace) u in
    counts_on e.receiver u.receiver (packet_ended (urged gap n) worn).receiver all
    (still u (packet_ended (urged gap n) worn) (ended_receiver (urged gap n) worn ∙ (unheard_worn (missed_below e.pace) u).receiver))
