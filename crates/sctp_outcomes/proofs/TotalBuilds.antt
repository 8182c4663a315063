-- Every end whose receiver is bounded can be asked for its next packet.
use Rattle.std.proofs.Common.{◌≡◌, ℕ, Bool, true, false, List, [], ◌∷◌, ◌++◌, Option, Some, None, inl, inr, refl, subst}
use Rattle.sctp_model.specs.numbers.Lists.{Has}
use Rattle.sctp_model.specs.wire.Chunk.{SackMeaning, ChunkMeaning}
use Rattle.sctp_model.specs.receiver.ReceiverView.{ReceiverView}
use Rattle.sctp_model.specs.receiver.SackMade.{IsSack, sack_of}
use Rattle.sctp_model.specs.end.EndView.{Tags, Draw, Stage, Phase, Idle, Listening, Calling, Echoing, Open, Over, EndView, format_of}
use Rattle.sctp_model.specs.end.Building.{Slot, EchoSlot, CookieAckSlot, HeartbeatSlot, BeatSlot, ErrorSlot, SackSlot, ForwardSlot, ShutdownSlot, ShutdownAckSlot, echoing_slots, open_slots, has_some, is_due, Wants, EchoCookie, AckCookie, AckHeartbeat, Beat, ReportCauses, Acknowledge, PassOn, SayShutdown, AnswerShutdown, has_room, Puts, NoMore, NotDue, Put, IsFull, Builds, Sleeps, Waits, Calls, Echoes, Fills, sent, fragments, once_built, AnswerSlot, RequestSlot, AnswerReset, AskReset, most_blocks}
use Rattle.sctp_model.specs.end.Building.{EndsFull}
use Rattle.sctp_outcomes.specs.receiver.Steps.{cumulative}
use Rattle.sctp_outcomes.specs.receiver.Runs.{all_runs}
use Rattle.sctp_outcomes.proofs.receiver.StepsLemmas.{cumulative_is}
use Rattle.sctp_outcomes.proofs.receiver.RunsLemmas.{runs_are}
use Rattle.sctp_outcomes.proofs.Receivers.{Whatever, holds_built, holds_asking}
use Rattle.sctp_outcomes.proofs.Bounded.{IsBounded, bounded_law}
use Rattle.sctp_model.specs.end.Reconfiguring.{asking}
use Rattle.sctp_model.specs.sender.Outgoing.{Request}
use Rattle.std.specs.Prelude.{is_some}
use Rattle.std.proofs.lemmas.Bool.{and_parts}

-- a view has a SACK
sack_there : (f : _) (most : ℕ) (r : ReceiverView) → IsBounded f r → (s : SackMeaning) × IsSack most r s
sack_there f most r b =
    let c = cumulative r b.bound in
    let is = cumulative_is r b.bound b.within in
    let runs = all_runs r c b.bound in
    (sack_of most r c runs, record { c = c; runs = runs; cumulative = is; all = runs_are r c b.bound b.within is; is = refl })

-- the chunk of a place that is due
record Wanted (e : EndView) (s : Slot) : Type 0 where
  chunk : ChunkMeaning
  wants : Wants e s chunk

abbrev is_echo : Slot → Bool
is_echo EchoSlot = true
is_echo s = false

wanted : (e : EndView) (s : Slot) → IsBounded (format_of e) e.receiver → is_echo s ≡ false → is_due s e ≡ true → Wanted e s
wanted e EchoSlot b quiet due = absurd (cc)
wanted e CookieAckSlot b quiet due = record { chunk = _; wants = AckCookie }
wanted e HeartbeatSlot b quiet due = by e.due.heartbeat refl due
  where
    by : (o : Option (List ℕ)) → e.due.heartbeat ≡ o → has_some o ≡ true → Wanted e HeartbeatSlot
    by None q h = absurd (cc)
    by (Some info) q h = record { chunk = _; wants = AckHeartbeat info q }
wanted e BeatSlot b quiet due = record { chunk = _; wants = Beat }
wanted e ErrorSlot b quiet due = record { chunk = _; wants = ReportCauses }
wanted e SackSlot b quiet due = let s = sack_there (format_of e) (most_blocks e.configuration) e.receiver b in record { chunk = _; wants = Acknowledge s.0 s.1 }
wanted e ForwardSlot b quiet due = record { chunk = _; wants = PassOn }
wanted e AnswerSlot b quiet due = record { chunk = _; wants = AnswerReset }
wanted e RequestSlot b quiet due = by e.sender.resets.pending refl (and_parts e.due.request (is_some e.sender.resets.pending) due).1
  where
    by : (o : Option Request) → e.sender.resets.pending ≡ o → is_some o ≡ true → Wanted e RequestSlot
    by None q h = absurd (cc)
    by (Some r) q h = record { chunk = _; wants = AskReset r q }
wanted e ShutdownSlot b quiet due = record { chunk = _; wants = SayShutdown (cumulative e.receiver b.bound) (cumulative_is e.receiver b.bound b.within) }
wanted e ShutdownAckSlot b quiet due = record { chunk = _; wants = AnswerShutdown }

-- ---- places

record HasPut (ss : List Slot) (e : EndView) (xs : List ChunkMeaning) : Type 0 where
  chunks : List ChunkMeaning
  full : Bool
  left : EndView
  puts : Puts ss e xs chunks full left

put_one : (s : Slot) (ss : List Slot) (e : EndView) (xs : List ChunkMeaning) → is_due s e ≡ true → (w : Wanted e s) → HasPut ss (once_built s e) (xs ++ w.chunk ∷ []) → HasPut (s ∷ ss) e xs
put_one s ss e xs due w more = go (has_room e xs w.chunk) refl
  where
    go : (r : Bool) → has_room e xs w.chunk ≡ r → HasPut (s ∷ ss) e xs
    go true room = record { chunks = more.chunks; full = more.full; left = more.left; puts = Put s ss e w.chunk xs more.chunks more.full more.left due w.wants room more.puts }
    go false room = record { chunks = xs; full = true; left = e; puts = IsFull s ss e w.chunk xs due w.wants room }

has_put : (ss : List Slot) (e : EndView) (xs : List ChunkMeaning) → ((s : Slot) → Has ss s → is_echo s ≡ false) → IsBounded (format_of e) e.receiver → HasPut ss e xs
has_put [] e xs quiet b = record { chunks = xs; full = false; left = e; puts = NoMore e xs }
has_put (s ∷ ss) e xs quiet b =
    by (is_due s e) refl (has_put ss e xs (λ r h. quiet r (inr h)) b) (λ w. has_put ss (once_built s e) (xs ++ w.chunk ∷ []) (λ r h. quiet r (inr h)) (holds_built (Whatever IsBounded) bounded_law s e b))
  where
    by : (d : Bool) → is_due s e ≡ d → HasPut ss e xs → ((w : Wanted e s) → HasPut ss (once_built s e) (xs ++ w.chunk ∷ [])) → HasPut (s ∷ ss) e xs
    by false off more on = record { chunks = more.chunks; full = more.full; left = more.left; puts = NotDue s ss e xs more.chunks more.full more.left off more.puts }
    by true due more on = let w = wanted e s b (quiet s (inl refl)) due in put_one s ss e xs due w (on w)

no_echo_open : (s : Slot) → Has open_slots s → is_echo s ≡ false
no_echo_open s (inl e) = subst (λ (r : Slot). is_echo r ≡ false) e refl
no_echo_open s (inr (inl e)) = subst (λ (r : Slot). is_echo r ≡ false) e refl
no_echo_open s (inr (inr (inl e))) = subst (λ (r : Slot). is_echo r ≡ false) e refl
no_echo_open s (inr (inr (inr (inl e)))) = subst (λ (r : Slot). is_echo r ≡ false) e refl
no_echo_open s (inr (inr (inr (inr (inl e))))) = subst (λ (r : Slot). is_echo r ≡ false) e refl
no_echo_open s (inr (inr (inr (inr (inr (inl e)))))) = subst (λ (r : Slot). is_echo r ≡ false) e refl
no_echo_open s (inr (inr (inr (inr (inr (inr (inl e))))))) = subst (λ (r : Slot). is_echo r ≡ false) e refl
no_echo_open s (inr (inr (inr (inr (inr (inr (inr (inl e)))))))) = subst (λ (r : Slot). is_echo r ≡ false) e refl
no_echo_open s (inr (inr (inr (inr (inr (inr (inr (inr (inl e))))))))) = subst (λ (r : Slot). is_echo r ≡ false) e refl
no_echo_open s (inr (inr (inr (inr (inr (inr (inr (inr (inr (inl e)))))))))) = subst (λ (r : Slot). is_echo r ≡ false) e refl
no_echo_open s (inr (inr (inr (inr (inr (inr (inr (inr (inr (inr none)))))))))) = elim none [ ]

no_echo_error : (s : Slot) → Has (ErrorSlot ∷ []) s → is_echo s ≡ false
no_echo_error s (inl e) = subst (λ (r : Slot). is_echo r ≡ false) e refl
no_echo_error s (inr none) = elim none [ ]

-- ---- the next packet

pub record Built (e : EndView) : Type 0 where
  pub chunks : List ChunkMeaning
  pub left : EndView
  pub builds : Builds e chunks left

pub built : (e : EndView) → IsBounded (format_of e) e.receiver → Built e
built e b = by e.phase refl
  where
    calling : (d : Draw) → e.phase ≡ Calling d → (i : Bool) → e.due.init ≡ i → Built e
    calling d is true due = record { chunks = _; left = _; builds = Calls d is due }
    calling d is false due = record { chunks = _; left = _; builds = Waits d is due }

    echoing : (t : Tags) (xs : List ℕ) → e.phase ≡ Echoing t xs → (i : Bool) → is_due EchoSlot e ≡ i → HasPut echoing_slots e []
    echoing t xs is false off = let m = has_put (ErrorSlot ∷ []) e [] no_echo_error b in
        record { chunks = m.chunks; full = m.full; left = m.left; puts = NotDue EchoSlot (ErrorSlot ∷ []) e [] m.chunks m.full m.left off m.puts }
    echoing t xs is true due =
        let w : Wanted e EchoSlot = record { chunk = _; wants = EchoCookie t xs is } in
        put_one EchoSlot (ErrorSlot ∷ []) e [] due w (has_put (ErrorSlot ∷ []) (once_built EchoSlot e) ([] ++ w.chunk ∷ []) no_echo_error b)

    open_end : (t : Tags) (g : Stage) → e.phase ≡ Open t g → (zs : List ChunkMeaning) (full : Bool) (x : EndView) → Puts open_slots (asking e) [] zs full x → Built e
    open_end t g is zs true x puts = record { chunks = zs; left = x; builds = EndsFull t g zs x is puts }
    open_end t g is zs false x puts = record { chunks = zs ++ fragments x zs; left = sent x zs; builds = Fills t g zs x is puts }

    by : (h : Phase) → e.phase ≡ h → Built e
    by Idle is = record { chunks = []; left = e; builds = Sleeps (rw is refl) }
    by Listening is = record { chunks = []; left = e; builds = Sleeps (rw is refl) }
    by (Over why) is = record { chunks = []; left = e; builds = Sleeps (rw is refl) }
    by (Calling d) is = calling d is e.due.init refl
    by (Echoing t xs) is = let m = echoing t xs is (is_due EchoSlot e) refl in record { chunks = m.chunks; left = m.left; builds = Echoes t xs m.chunks m.full m.left is m.puts }
    by (Open t g) is = let m = has_put open_slots (asking e) [] no_echo_open (holds_asking (Whatever IsBounded) bounded_law e b) in open_end t g is m.chunks m.full m.left m.puts
