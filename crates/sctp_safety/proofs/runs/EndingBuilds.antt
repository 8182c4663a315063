-- A packet that is built says that its endpoint is done only if it is.
use Rattle.std.proofs.Common.{◌≡◌, Bool, true, false, List, [], ◌∷◌, ◌++◌, append_assoc, append-nil, inl, inr, refl, sym, subst, ℕ}
use Rattle.sctp_model.specs.numbers.Lists.{Has}
use Rattle.sctp_model.specs.wire.Chunk.{ChunkMeaning}
use Rattle.sctp_model.specs.messages.Format.{Format, Plain, Interleaved}
use Rattle.sctp_model.specs.sender.SenderView.{SenderView}
use Rattle.sctp_model.specs.sender.Filling.{Wish}
use Rattle.sctp_model.specs.sender.SentChunks.{chunk_of, forward_chunk_to, forward_end}
use Rattle.sctp_model.specs.sender.Readers.{drained}
use Rattle.sctp_model.specs.sender.Reached.{IsReached, Rebases}
use Rattle.sctp_model.specs.end.EndView.{Terms, Established, ShutdownPending, ShutdownReceived, ShutdownSent, ShutdownAckSent, Phase, Idle, Listening, Calling, Echoing, Open, Over, ShutdownAlarm, AckAlarm, EndView, format_for, format_of}
use Rattle.sctp_model.specs.end.Clock.{is_home}
use Rattle.sctp_model.specs.end.Closing.{hears, awaits_ack}
use Rattle.sctp_model.specs.end.Building.{Slot, is_due, Wants, EchoCookie, AckCookie, AckHeartbeat, Beat, ReportCauses, Acknowledge, PassOn, SayShutdown, AnswerShutdown, Puts, NoMore, NotDue, Put, IsFull, echoing_slots, open_slots, filled_behind, sent, fragments, Builds, Sleeps, Waits, Calls, Echoes, EndsFull, Fills, EchoSlot, CookieAckSlot, HeartbeatSlot, BeatSlot, ErrorSlot, SackSlot, ForwardSlot, AnswerSlot, RequestSlot, AnswerReset, AskReset, ShutdownSlot, ShutdownAckSlot, once_built, room_behind}
use Rattle.sctp_model.specs.end.Reconfiguring.{asking}
use Rattle.sctp_safety.specs.States.{has_agreed}
use Rattle.sctp_safety.proofs.runs.Sending.{Has-map}
use Rattle.sctp_safety.proofs.runs.Acted.{not_calling}
use Rattle.sctp_safety.proofs.runs.Drained.{drained_fill}
use Rattle.sctp_safety.proofs.runs.Homes.{home_like, IsHome}
use Rattle.sctp_safety.proofs.runs.Ending.{IsDone, is_shutting, last_by_ack, AreEnding, ending_on, ending_still, onward_same}
use Rattle.sctp_safety.proofs.machine.Reconfigured.{asking_same}

-- the states that send SHUTDOWN and SHUTDOWN ACK wait for the answer
home_awaits : (h : Phase) → is_home ShutdownAlarm h ≡ true → hears awaits_ack h ≡ true
home_awaits (Open t ShutdownSent) on = refl
home_awaits (Open t Established) on = absurd (cc)
home_awaits (Open t ShutdownPending) on = absurd (cc)
home_awaits (Open t ShutdownReceived) on = absurd (cc)
home_awaits (Open t ShutdownAckSent) on = absurd (cc)
home_awaits Idle on = absurd (cc)
home_awaits Listening on = absurd (cc)
home_awaits (Calling d) on = absurd (cc)
home_awaits (Echoing t xs) on = absurd (cc)
home_awaits (Over why) on = absurd (cc)

ack_home_awaits : (h : Phase) → is_home AckAlarm h ≡ true → hears awaits_ack h ≡ true
ack_home_awaits (Open t ShutdownAckSent) on = refl
ack_home_awaits (Open t Established) on = absurd (cc)
ack_home_awaits (Open t ShutdownPending) on = absurd (cc)
ack_home_awaits (Open t ShutdownSent) on = absurd (cc)
ack_home_awaits (Open t ShutdownReceived) on = absurd (cc)
ack_home_awaits Idle on = absurd (cc)
ack_home_awaits Listening on = absurd (cc)
ack_home_awaits (Calling d) on = absurd (cc)
ack_home_awaits (Echoing t xs) on = absurd (cc)
ack_home_awaits (Over why) on = absurd (cc)

forward_is_other : (f : Format) (a : SenderView) (p : ℕ) → is_shutting (forward_chunk_to f a p) ≡ false
forward_is_other Plain a p = refl
forward_is_other Interleaved a p = refl

fragment_is_other : (f : Format) (w : Wish) → is_shutting (chunk_of f w) ≡ false
fragment_is_other Plain w = refl
fragment_is_other Interleaved w = refl

module _ (p : EndView) (back : List ChunkMeaning) where
  abbrev Ending : List ChunkMeaning → EndView → Type 0
  Ending out e = AreEnding e p out back

  -- one chunk, which says that the endpoint is done only if it is
  put : (out : List ChunkMeaning) (e t : EndView) (x : ChunkMeaning) → Ending out e → IsHome t → t.phase ≡ e.phase → t.sender ≡ e.sender →
      (is_shutting x ≡ true → IsDone t) → Ending (out ++ x ∷ []) t
  put out e t x c home same sender says =
      ending_on e p t out back (x ∷ []) c (onward_same p out back e t c home same (λ on. subst (λ (a : SenderView). drained a ≡ true) (sym sender) on)) one
    where
      one : (y : ChunkMeaning) → Has (x ∷ []) y → is_shutting y ≡ true → IsDone t
      one y (inl q) on = says (subst (λ (z : ChunkMeaning). is_shutting z ≡ true) (sym q) on)
      one y (inr h) on = absurd h

  put_one : (s : Slot) (out : List ChunkMeaning) (e : EndView) (x : ChunkMeaning) → Ending out e → is_due s e ≡ true → Wants e s x → Ending (out ++ x ∷ []) (once_built s e)
  put_one s out e x c due (EchoCookie _ _ _) = put out e (once_built EchoSlot e) x c (home_like e _ c.this.home refl refl refl refl refl) refl refl (λ on. absurd (cc))
  put_one s out e x c due AckCookie = put out e (once_built CookieAckSlot e) x c (home_like e _ c.this.home refl refl refl refl refl) refl refl (λ on. absurd (cc))
  put_one s out e x c due (AckHeartbeat _ _) = put out e (once_built HeartbeatSlot e) x c (home_like e _ c.this.home refl refl refl refl refl) refl refl (λ on. absurd (cc))
  put_one s out e x c due Beat = put out e (once_built BeatSlot e) x c (home_like e _ c.this.home refl refl refl refl refl) refl refl (λ on. absurd (cc))
  put_one s out e x c due ReportCauses = put out e (once_built ErrorSlot e) x c (home_like e _ c.this.home refl refl refl refl refl) refl refl (λ on. absurd (cc))
  put_one s out e x c due (Acknowledge made is) = put out e (once_built SackSlot e) x c (home_like e _ c.this.home refl refl refl refl refl) refl refl (λ on. absurd (cc))
  put_one s out e x c due PassOn = put out e (once_built ForwardSlot e) x c (home_like e _ c.this.home refl refl refl refl refl) refl refl (λ on. absurd (let off = forward_is_other (format_of e) e.sender (forward_end (format_of e) e.configuration.limit e.sender) in cc))
  put_one s out e x c due AnswerReset = put out e (once_built AnswerSlot e) x c (home_like e _ c.this.home refl refl refl refl refl) refl refl (λ on. absurd (cc))
  put_one s out e x c due (AskReset _ _) = put out e (once_built RequestSlot e) x c (home_like e _ c.this.home refl refl refl refl refl) refl refl (λ on. absurd (cc))
  put_one s out e x c due (SayShutdown k is) = put out e (once_built ShutdownSlot e) x c (record {
    shutdown = λ on. absurd (cc);
    ack = c.this.home.ack;
    shutdown_runs = λ n on. c.this.home.shutdown due;
    ack_runs = c.this.home.ack_runs;
  }) refl refl (λ on. let now = home_awaits e.phase (c.this.home.shutdown due) in record { empty = c.this.empty now; last = last_by_ack e.phase now })
  put_one s out e x c due AnswerShutdown = put out e (once_built ShutdownAckSlot e) x c (record {
    shutdown = c.this.home.shutdown;
    ack = λ on. absurd (cc);
    shutdown_runs = c.this.home.shutdown_runs;
    ack_runs = λ n on. c.this.home.ack due;
  }) refl refl (λ on. let now = ack_home_awaits e.phase (c.this.home.ack due) in record { empty = c.this.empty now; last = last_by_ack e.phase now })

  puts_keep : (out : List ChunkMeaning) (ss : List Slot) (e : EndView) (xs zs : List ChunkMeaning) (full : Bool) (t : EndView) → Ending (out ++ xs) e → Puts ss e xs zs full t → Ending (out ++ zs) t
  puts_keep out ss e xs zs full t c (NoMore _ _) = c
  puts_keep out ss e xs zs full t c (NotDue _ more _ _ _ _ _ off rest) = puts_keep out more e xs zs full t c rest
  puts_keep out ss e xs zs full t c (Put s more _ x _ _ _ _ due wants room rest) =
      puts_keep out more (once_built s e) (xs ++ x ∷ []) zs full t
      (subst (λ (ys : List ChunkMeaning). Ending ys (once_built s e)) (append_assoc out xs (x ∷ [])) (put_one s (out ++ xs) e x c due wants)) rest
  puts_keep out ss e xs zs full t c (IsFull _ _ _ _ _ due wants room) = c

  fill_keeps : (out : List ChunkMeaning) (e : EndView) (zs : List ChunkMeaning) → IsReached (format_of e) e.sender → Ending (out ++ zs) e → Ending (out ++ (zs ++ fragments e zs)) (sent e zs)
  fill_keeps out e zs reached c = subst (λ (ys : List ChunkMeaning). Ending ys (sent e zs)) (append_assoc out zs (fragments e zs))
      (ending_on e p (sent e zs) (out ++ zs) back (fragments e zs) c
      (onward_same p (out ++ zs) back e (sent e zs) c (home_like e _ c.this.home refl refl refl refl refl) refl (drained_fill (format_of e) (room_behind e zs) e.sender reached)) others)
    where
      others : (x : ChunkMeaning) → Has (fragments e zs) x → is_shutting x ≡ true → IsDone (sent e zs)
      others x has on =
          let k = Has-map (chunk_of (format_of e)) (filled_behind e zs).wishes x has in
          let off = subst (λ (y : ChunkMeaning). is_shutting y ≡ false) k.2 (fragment_is_other (format_of e) k.0) in
          absurd (cc)

  -- What is due goes in without a change of the sender, so a view that calls reach stays one.
  built_sender : (s : Slot) (e : EndView) → ((once_built s e).sender ≡ e.sender) × ((once_built s e).terms ≡ e.terms)
  built_sender EchoSlot e = (refl, refl)
  built_sender CookieAckSlot e = (refl, refl)
  built_sender HeartbeatSlot e = (refl, refl)
  built_sender BeatSlot e = (refl, refl)
  built_sender ErrorSlot e = (refl, refl)
  built_sender SackSlot e = (refl, refl)
  built_sender ForwardSlot e = (refl, refl)
  built_sender AnswerSlot e = (refl, refl)
  built_sender RequestSlot e = (refl, refl)
  built_sender ShutdownSlot e = (refl, refl)
  built_sender ShutdownAckSlot e = (refl, refl)

  abbrev Reached : EndView → Type 0
  Reached e = IsReached (format_of e) e.sender

  built_reached : (e t : EndView) → (t.sender ≡ e.sender) × (t.terms ≡ e.terms) → Reached e → Reached t
  built_reached e t (sender, terms) h =
      subst (λ (x : Terms). IsReached (format_for x.interleave) t.sender) (sym terms) (subst (λ (a : SenderView). IsReached (format_of e) a) (sym sender) h)

  puts_reached : (ss : List Slot) (e : EndView) (xs zs : List ChunkMeaning) (full : Bool) (t : EndView) → Reached e → Puts ss e xs zs full t → Reached t
  puts_reached ss e xs zs full t h (NoMore _ _) = h
  puts_reached ss e xs zs full t h (NotDue _ more _ _ _ _ _ off rest) = puts_reached more e xs zs full t h rest
  puts_reached ss e xs zs full t h (Put s more _ x _ _ _ _ due wants room rest) =
      puts_reached more (once_built s e) (xs ++ x ∷ []) zs full t (built_reached e (once_built s e) (built_sender s e) h) rest
  puts_reached ss e xs zs full t h (IsFull _ _ _ _ _ due wants room) = h

  -- a request is made first, and that alone changes
  asking_reached : (e : EndView) → Reached e → Reached (asking e)
  asking_reached e h =
      let u = asking_same e in
      subst (λ (x : Terms). IsReached (format_for x.interleave) (asking e).sender) (sym u.terms)
      (subst (λ (a : SenderView). IsReached (format_of e) a) (sym u.sender.1) (Rebases e.sender u.sender.0 h))

  ending_asking : (out : List ChunkMeaning) (e : EndView) → Ending out e → Ending out (asking e)
  ending_asking out e c =
      let u = asking_same e in
      ending_still e p (asking e) out back c (onward_same p out back e (asking e) c (home_like e (asking e) c.this.home u.phase u.shutdown u.ack u.shutdown_timer u.ack_timer) u.phase
      (λ on. subst (λ (a : SenderView). drained a ≡ true) (sym u.sender.1) on))

  pub ending_built : (out : List ChunkMeaning) (e : EndView) (zs : List ChunkMeaning) (t : EndView) → has_agreed e.phase ≡ true → Reached e → Ending out e → Builds e zs t → Ending (out ++ zs) t
  ending_built out e zs t agreed h c (Sleeps none) = subst (λ (ys : List ChunkMeaning). Ending ys e) (sym (append-nil out)) c
  ending_built out e zs t agreed h c (Waits d is off) = absurd (not_calling e.phase d is agreed)
  ending_built out e zs t agreed h c (Calls d is on) = absurd (not_calling e.phase d is agreed)
  ending_built out e zs t agreed h c (Echoes k cookie _ full _ is puts) =
      puts_keep out echoing_slots e [] zs full t (subst (λ (ys : List ChunkMeaning). Ending ys e) (sym (append-nil out)) c) puts
  ending_built out e zs t agreed h c (EndsFull k g _ _ is puts) =
      puts_keep out open_slots (asking e) [] zs true t (subst (λ (ys : List ChunkMeaning). Ending ys (asking e)) (sym (append-nil out)) (ending_asking out e c)) puts
  ending_built out e zs t agreed h c (Fills k g xs x is puts) =
      fill_keeps out x xs (puts_reached open_slots (asking e) [] xs false x (asking_reached e h) puts)
      (puts_keep out open_slots (asking e) [] xs false x (subst (λ (ys : List ChunkMeaning). Ending ys (asking e)) (sym (append-nil out)) (ending_asking out e c)) puts)
