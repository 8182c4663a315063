-- A packet that an endpoint builds keeps both directions: what is in it is said.
use Rattle.sctp_model.proofs.sender.ForwardEnd.{end_from, end_upto}
use Rattle.std.proofs.Common.{◌≡◌, ℕ, ◌+◌, ◌≤◌, ◌&&◌, Bool, true, false, List, [], ◌∷◌, ◌++◌, length, append_assoc, append-nil, inl, inr, refl, sym, subst, ap, arith, ◌∙◌}
use Rattle.sctp_model.specs.numbers.Limits.{WINDOW}
use Rattle.sctp_model.specs.numbers.Lists.{Has}
use Rattle.sctp_model.specs.wire.Chunk.{ChunkMeaning, Sack}
use Rattle.sctp_model.specs.messages.Format.{Format, Plain, Interleaved}
use Rattle.sctp_model.specs.sender.SenderView.{SenderView}
use Rattle.sctp_model.specs.receiver.ReceiverView.{ReceiverView}
use Rattle.sctp_model.specs.receiver.SackMade.{sack_sent}
use Rattle.sctp_safety.proofs.runs.Dates.{Date, Dated, dated, all_dated, dated_on, each_dated}
use Rattle.sctp_safety.proofs.runs.Direction.{Direction}
use Rattle.sctp_model.specs.world.Calls.{Asked}
use Rattle.sctp_model.specs.sender.Filling.{Wish, fill}
use Rattle.sctp_model.specs.sender.Reached.{IsReached, Rebases}
use Rattle.sctp_model.specs.sender.SentChunks.{chunk_of, forward_chunk_to, forward_end}
use Rattle.sctp_model.proofs.sender.FillLaws.{fill_is_fill}
use Rattle.sctp_model.proofs.sender.OwedLaws.{is_windowed}
use Rattle.sctp_model.specs.end.EndView.{Terms, Phase, ResetAlarm, EndView, format_for, format_of}
use Rattle.sctp_model.specs.end.Building.{Slot, Wants, EchoCookie, AckCookie, AckHeartbeat, Beat, ReportCauses, Acknowledge, PassOn, SayShutdown, AnswerShutdown, Puts, NoMore, NotDue, Put, IsFull, echoing_slots, open_slots, filled_behind, sent, fragments, Builds, Sleeps, Waits, Calls, Echoes, EndsFull, Fills, EchoSlot, CookieAckSlot, HeartbeatSlot, BeatSlot, ErrorSlot, SackSlot, ForwardSlot, AnswerSlot, RequestSlot, AnswerReset, AskReset, ShutdownSlot, ShutdownAckSlot, once_built, room_behind}
use Rattle.std.proofs.lemmas.Bool.{and_parts}
use Rattle.sctp_model.specs.sender.Resetting.{may_ask, asked, request_said}
use Rattle.sctp_model.specs.receiver.ResetTaken.{last_finished, with_answers}
use Rattle.sctp_model.specs.end.Clock.{is_home}
use Rattle.sctp_model.specs.end.Reconfiguring.{asking_now, asking}
use Rattle.sctp_safety.proofs.machine.Reconfigured.{asking_same}
use Rattle.sctp_safety.proofs.runs.Asking.{after_asked}
use Rattle.sctp_safety.proofs.runs.ResetsBuilt.{after_answers, answers_ask_nothing, after_request_built, request_answers_nothing}
use Rattle.sctp_safety.specs.States.{has_agreed}
use Rattle.sctp_safety.proofs.runs.Sending.{after_fill, follows_reached, Has-map}
use Rattle.sctp_safety.proofs.runs.PastCum.{follows_past}
use Rattle.sctp_safety.proofs.runs.Passing.{after_forward}
use Rattle.sctp_safety.proofs.runs.Hearing.{after_note, after_sack_made, after_shutdown_made}
use Rattle.sctp_safety.proofs.runs.Pair.{met_views, is_quiet, is_quiet_back, quiet_more, quiet_back_more, IsMet, AreViews, met_same}
use Rattle.sctp_safety.proofs.runs.Acted.{not_calling}

-- a chunk of this one says nothing
one_quiet : (t : ChunkMeaning → Bool) (x : Dated) → t x.chunk ≡ true → (y : Dated) → Has (x ∷ []) y → t y.chunk ≡ true
one_quiet t x h y (inl e) = subst (λ (z : Dated). t z.chunk ≡ true) e h
one_quiet t x h y (inr k) = absurd k

-- ---- what is due leaves the sender as it was

-- an endpoint that sends as another does
record IsSendingAs (e t : EndView) : Type 0 where
  terms : t.terms ≡ e.terms
  sender : t.sender ≡ e.sender

once_sends : (s : Slot) (e : EndView) → IsSendingAs e (once_built s e)
once_sends EchoSlot e = record { terms = refl; sender = refl }
once_sends CookieAckSlot e = record { terms = refl; sender = refl }
once_sends HeartbeatSlot e = record { terms = refl; sender = refl }
once_sends BeatSlot e = record { terms = refl; sender = refl }
once_sends ErrorSlot e = record { terms = refl; sender = refl }
once_sends SackSlot e = record { terms = refl; sender = refl }
once_sends ForwardSlot e = record { terms = refl; sender = refl }
once_sends AnswerSlot e = record { terms = refl; sender = refl }
once_sends RequestSlot e = record { terms = refl; sender = refl }
once_sends ShutdownSlot e = record { terms = refl; sender = refl }
once_sends ShutdownAckSlot e = record { terms = refl; sender = refl }

puts_send : (ss : List Slot) (e : EndView) (xs zs : List ChunkMeaning) (full : Bool) (t : EndView) → Puts ss e xs zs full t → IsSendingAs e t
puts_send ss e xs zs full t (NoMore _ _) = record { terms = refl; sender = refl }
puts_send ss e xs zs full t (NotDue _ more _ _ _ _ _ off rest) = puts_send more e xs zs full t rest
puts_send ss e xs zs full t (Put s more _ x _ _ _ _ due wants room rest) =
    let first = once_sends s e in
    let later = puts_send more (once_built s e) (xs ++ x ∷ []) zs full t rest in
    record { terms = later.terms ∙ first.terms; sender = later.sender ∙ first.sender }
puts_send ss e xs zs full t (IsFull _ _ _ _ _ due wants room) = record { terms = refl; sender = refl }

-- ---- a packet of this date, by which the peer has assigned no fewer

module _ (p : EndView) (u v : Asked) (back : List Dated) (k : Date) (by_then : k.there ≤ length p.sender.plan.entries) where
  -- both directions after this was built so far, by an endpoint that assigns no more for it than the window holds past CUM
  record IsBuilding (out : List Dated) (e : EndView) : Type 0 where
    met : IsMet e p u v out back
    window : k.own ≤ e.sender.cum + WINDOW

  -- ---- one chunk

  -- the endpoint with these views, and else as it was but for what is due and for timers
  put : (out : List Dated) (e t : EndView) (x : ChunkMeaning) → IsBuilding out e → (r : ReceiverView) →
      Direction (format_of e) e.terms.outbound e.sender u p.receiver (out ++ dated k x ∷ []) back →
      Direction (format_of p) p.terms.outbound p.sender v r back (out ++ dated k x ∷ []) →
      AreViews (record e { receiver = r }) t → t.phase ≡ e.phase → IsBuilding (out ++ dated k x ∷ []) t
  put out e t x m r going coming same phase = record {
    met = met_same (record e { receiver = r }) t p u v (out ++ dated k x ∷ []) back (met_views e p u v out back (out ++ dated k x ∷ []) m.met e.sender r going coming) same
        (subst (λ (h : Phase). has_agreed h ≡ true) (sym phase) m.met.phase);
    window = subst (λ (a : SenderView). k.own ≤ a.cum + WINDOW) (sym same.sender) m.window;
  }

  -- what says nothing one way, or the other
  going_quiet : (out : List Dated) (e : EndView) (x : ChunkMeaning) → IsBuilding out e → is_quiet x ≡ true →
      Direction (format_of e) e.terms.outbound e.sender u p.receiver (out ++ dated k x ∷ []) back
  going_quiet out e x m quiet = quiet_more (format_of e) e.terms.outbound e.sender u p.receiver out back m.met.going (dated k x ∷ []) (one_quiet is_quiet (dated k x) quiet)

  coming_quiet : (out : List Dated) (e : EndView) (x : ChunkMeaning) → IsBuilding out e → is_quiet_back x ≡ true →
      Direction (format_of p) p.terms.outbound p.sender v e.receiver back (out ++ dated k x ∷ [])
  coming_quiet out e x m quiet =
      quiet_back_more (format_of p) p.terms.outbound p.sender v e.receiver back out m.met.coming (dated k x ∷ []) (one_quiet is_quiet_back (dated k x) quiet)

  -- what says nothing either way
  put_quiet : (out : List Dated) (e t : EndView) (x : ChunkMeaning) → IsBuilding out e → is_quiet x ≡ true → is_quiet_back x ≡ true → AreViews e t → t.phase ≡ e.phase →
      IsBuilding (out ++ dated k x ∷ []) t
  put_quiet out e t x m quiet quiet_back same phase =
      put out e t x m e.receiver (going_quiet out e x m quiet) (coming_quiet out e x m quiet_back)
      (record { terms = same.terms; sender = same.sender; receiver = same.receiver; moment = same.moment }) phase

  forward_is_quiet_back : (f : Format) (a : SenderView) (q : ℕ) → is_quiet_back (forward_chunk_to f a q) ≡ true
  forward_is_quiet_back Plain a q = refl
  forward_is_quiet_back Interleaved a q = refl

  put_one : (s : Slot) (out : List Dated) (e : EndView) (x : ChunkMeaning) → IsBuilding out e → Wants e s x → IsBuilding (out ++ dated k x ∷ []) (once_built s e)
  put_one s out e x m (EchoCookie _ _ _) = put_quiet out e (once_built EchoSlot e) x m refl refl (record { terms = refl; sender = refl; receiver = refl; moment = refl }) refl
  put_one s out e x m AckCookie = put_quiet out e (once_built CookieAckSlot e) x m refl refl (record { terms = refl; sender = refl; receiver = refl; moment = refl }) refl
  put_one s out e x m (AckHeartbeat _ _) = put_quiet out e (once_built HeartbeatSlot e) x m refl refl (record { terms = refl; sender = refl; receiver = refl; moment = refl }) refl
  put_one s out e x m Beat = put_quiet out e (once_built BeatSlot e) x m refl refl (record { terms = refl; sender = refl; receiver = refl; moment = refl }) refl
  put_one s out e x m ReportCauses = put_quiet out e (once_built ErrorSlot e) x m refl refl (record { terms = refl; sender = refl; receiver = refl; moment = refl }) refl
  put_one s out e x m (Acknowledge made is) = put out e (once_built SackSlot e) x m (sack_sent e.receiver) (going_quiet out e x m refl)
      (after_note (format_of p) p.terms.outbound p.sender v e.receiver back (out ++ dated k (Sack made) ∷ [])
      (after_sack_made (format_of p) p.terms.outbound p.sender v e.receiver back out m.met.coming _ made k by_then is) []) (record { terms = refl; sender = refl; receiver = refl; moment = refl }) refl
  put_one s out e x m PassOn =
      let q = forward_end (format_of e) e.configuration.limit e.sender in
      let going = after_forward (format_of e) e.terms.outbound e.sender u p.receiver out back q (end_from (format_of e) e.configuration.limit e.sender) (end_upto (format_of e) e.configuration.limit e.sender)
      m.met.going k m.window in
      put out e (once_built ForwardSlot e) x m e.receiver going (coming_quiet out e x m (forward_is_quiet_back (format_of e) e.sender q)) (record { terms = refl; sender = refl; receiver = refl; moment = refl }) refl
  put_one s out e x m AnswerReset = put out e (once_built AnswerSlot e) x m (with_answers e.receiver [])
      (answers_ask_nothing (format_of e) e.terms.outbound e.sender u p.receiver out back m.met.going k e.receiver.resets.answers m.met.coming.step.typed)
      (after_answers (format_of p) p.terms.outbound p.sender v e.receiver back out m.met.coming k) (record { terms = refl; sender = refl; receiver = refl; moment = refl }) refl
  put_one s out e x m (AskReset q is) =
      let answered = last_finished e.receiver in
      put out e (once_built RequestSlot e) x m e.receiver
      (after_request_built (format_of e) e.terms.outbound e.sender u p.receiver out back m.met.going k q is answered)
      (request_answers_nothing (format_of p) p.terms.outbound p.sender v e.receiver back out m.met.coming k answered (request_said e.sender q) (m.met.going.step.waiting q is).few)
      (record { terms = refl; sender = refl; receiver = refl; moment = refl }) refl
  put_one s out e x m (SayShutdown c is) = put out e (once_built ShutdownSlot e) x m e.receiver (going_quiet out e x m refl)
      (after_shutdown_made (format_of p) p.terms.outbound p.sender v e.receiver back out m.met.coming c k by_then is) (record { terms = refl; sender = refl; receiver = refl; moment = refl }) refl
  put_one s out e x m AnswerShutdown = put_quiet out e (once_built ShutdownAckSlot e) x m refl refl (record { terms = refl; sender = refl; receiver = refl; moment = refl }) refl

  -- ---- one after the other

  -- chunks after those of the packet so far
  behind : (out : List Dated) (xs ys : List ChunkMeaning) → (out ++ all_dated k xs) ++ all_dated k ys ≡ out ++ all_dated k (xs ++ ys)
  behind out xs ys = append_assoc out (all_dated k xs) (all_dated k ys) ∙ ap (λ (zs : List Dated). out ++ zs) (sym (dated_on k xs ys))

  puts_keep : (out : List Dated) (ss : List Slot) (e : EndView) (xs zs : List ChunkMeaning) (full : Bool) (t : EndView) → IsBuilding (out ++ all_dated k xs) e →
      Puts ss e xs zs full t → IsBuilding (out ++ all_dated k zs) t
  puts_keep out ss e xs zs full t m (NoMore _ _) = m
  puts_keep out ss e xs zs full t m (NotDue _ more _ _ _ _ _ off rest) = puts_keep out more e xs zs full t m rest
  puts_keep out ss e xs zs full t m (Put s more _ x _ _ _ _ due wants room rest) =
      puts_keep out more (once_built s e) (xs ++ x ∷ []) zs full t
      (subst (λ (ys : List Dated). IsBuilding ys (once_built s e)) (behind out xs (x ∷ [])) (put_one s (out ++ all_dated k xs) e x m wants)) rest
  puts_keep out ss e xs zs full t m (IsFull _ _ _ _ _ due wants room) = m

  -- fragments after what is due
  fill_keeps : (out : List Dated) (e : EndView) (zs : List ChunkMeaning) → IsBuilding (out ++ all_dated k zs) e → IsMet (sent e zs) p u v (out ++ all_dated k (zs ++ fragments e zs)) back
  fill_keeps out e zs m = subst (λ (ys : List Dated). IsMet (sent e zs) p u v ys back) (behind out zs (fragments e zs))
      (met_same (record e { sender = (filled_behind e zs).view }) (sent e zs) p u v ((out ++ all_dated k zs) ++ all_dated k (fragments e zs)) back
      (met_views e p u v (out ++ all_dated k zs) back ((out ++ all_dated k zs) ++ all_dated k (fragments e zs)) m.met (filled_behind e zs).view e.receiver
      (after_fill (format_of e) e.terms.outbound e.sender u p.receiver (out ++ all_dated k zs) back m.met.going (room_behind e zs)
      (filled_behind e zs).wishes (filled_behind e zs).view k m.window (fill_is_fill (format_of e) (room_behind e zs) e.sender))
      (quiet_back_more (format_of p) p.terms.outbound p.sender v e.receiver back (out ++ all_dated k zs) m.met.coming (all_dated k (fragments e zs))
      (each_dated (λ y. is_quiet_back y.chunk ≡ true) k (fragments e zs) quiet)))
      (record { terms = refl; sender = refl; receiver = refl; moment = refl }) m.met.phase)
    where
      by_format : (f : Format) (w : Wish) → is_quiet_back (chunk_of f w) ≡ true
      by_format Plain w = refl
      by_format Interleaved w = refl

      quiet : (x : ChunkMeaning) → Has (fragments e zs) x → is_quiet_back x ≡ true
      quiet x has =
          let y = Has-map (chunk_of (format_of e)) (filled_behind e zs).wishes x has in
          subst (λ (z : ChunkMeaning). is_quiet_back z ≡ true) y.2 (by_format (format_of e) y.0)

  -- nothing is built yet
  first : (out : List Dated) (e : EndView) → IsMet e p u v out back → k.own ≤ e.sender.cum + WINDOW → IsBuilding (out ++ all_dated k []) e
  first out e m window = record { met = subst (λ (ys : List Dated). IsMet e p u v ys back) (sym (append-nil out)) m; window = window }

  -- but that a request may be made
  first_asks : (out : List Dated) (e : EndView) → IsMet e p u v out back → k.own ≤ e.sender.cum + WINDOW → IsBuilding (out ++ all_dated k []) (asking e)
  first_asks out e m window = go (e.terms.reset && (is_home ResetAlarm e.phase && may_ask e.sender)) refl
    where
      go : (b : Bool) → (e.terms.reset && (is_home ResetAlarm e.phase && may_ask e.sender)) ≡ b → IsBuilding (out ++ all_dated k []) (asking_now b e)
      go false off = first out e m window
      go true on =
          let may = (and_parts (is_home ResetAlarm e.phase) (may_ask e.sender) (and_parts e.terms.reset (is_home ResetAlarm e.phase && may_ask e.sender) on).1).1 in
          first out (asking_now true e) (met_same (record e { sender = asked e.sender }) (asking_now true e) p u v out back
          (met_views e p u v out back out m (asked e.sender) e.receiver (after_asked (format_of e) e.terms.outbound e.sender u p.receiver out back m.going may) m.coming)
          (record { terms = refl; sender = refl; receiver = refl; moment = refl }) m.phase) window

  -- A packet that is built keeps both directions, and its chunks say what lies between the endpoints.
  pub builds_keep : (out : List Dated) (e : EndView) (zs : List ChunkMeaning) (t : EndView) → IsMet e p u v out back → k.own ≤ e.sender.cum + WINDOW → Builds e zs t →
      IsMet t p u v (out ++ all_dated k zs) back
  builds_keep out e zs t m window (Sleeps none) = (first out e m window).met
  builds_keep out e zs t m window (Waits d is off) = absurd (not_calling e.phase d is m.phase)
  builds_keep out e zs t m window (Calls d is on) = absurd (not_calling e.phase d is m.phase)
  builds_keep out e zs t m window (Echoes g cookie _ full _ is puts) = (puts_keep out echoing_slots e [] zs full t (first out e m window) puts).met
  builds_keep out e zs t m window (EndsFull h g _ _ is puts) = (puts_keep out open_slots (asking e) [] zs true t (first_asks out e m window) puts).met
  builds_keep out e zs t m window (Fills h g xs x is puts) = fill_keeps out x xs (puts_keep out open_slots (asking e) [] xs false x (first_asks out e m window) puts)

-- ---- how much is assigned by then

reached_window : (f : Format) (a : SenderView) → IsReached f a → length a.plan.entries ≤ a.cum + WINDOW
reached_window f a reached = let w = is_windowed f a reached in omega (arith, w)

-- filling a packet leaves all that is assigned in the window past the same CUM
fill_window : (f : Format) (room : ℕ) (a : SenderView) → IsReached f a → length (fill f room a).view.plan.entries ≤ a.cum + WINDOW
fill_window f room a reached =
    let follows = (fill_is_fill f room a).follows in
    let w = reached_window f (fill f room a).view (follows_reached f a room (fill f room a).wishes (fill f room a).view reached follows) in
    let c = (follows_past f a room (fill f room a).wishes (fill f room a).view reached follows).same in
    omega (arith, w, c)

unfilled_window : (e t : EndView) → IsReached (format_of e) e.sender → IsSendingAs e t → length t.sender.plan.entries ≤ e.sender.cum + WINDOW
unfilled_window e t reached same = subst (λ (a : SenderView). length a.plan.entries ≤ e.sender.cum + WINDOW) (sym same.sender) (reached_window (format_of e) e.sender reached)

-- a request that is made first changes neither
asking_reached : (e : EndView) → IsReached (format_of e) e.sender → IsReached (format_of (asking e)) (asking e).sender
asking_reached e h =
    let r = asking_same e in
    subst (λ (x : Terms). IsReached (format_for x.interleave) (asking e).sender) (sym r.terms) (subst (λ (a : SenderView). IsReached (format_of e) a) (sym r.sender.1) (Rebases e.sender r.sender.0 h))

asked_window : (e : EndView) (many : ℕ) → many ≤ (asking e).sender.cum + WINDOW → many ≤ e.sender.cum + WINDOW
asked_window e many h = let same = ap (λ (a : SenderView). a.cum) (asking_same e).sender.1 in omega (arith, h, same)

-- Once a packet is built, its endpoint has assigned no more than the window holds past the CUM from before.
pub built_window : (e : EndView) (zs : List ChunkMeaning) (t : EndView) → IsReached (format_of e) e.sender → has_agreed e.phase ≡ true → Builds e zs t →
    length t.sender.plan.entries ≤ e.sender.cum + WINDOW
built_window e zs t reached agreed (Sleeps none) = reached_window (format_of e) e.sender reached
built_window e zs t reached agreed (Waits d is off) = absurd (not_calling e.phase d is agreed)
built_window e zs t reached agreed (Calls d is on) = absurd (not_calling e.phase d is agreed)
built_window e zs t reached agreed (Echoes g cookie _ full _ is puts) = unfilled_window e t reached (puts_send echoing_slots e [] zs full t puts)
built_window e zs t reached agreed (EndsFull h g _ _ is puts) = asked_window e (length t.sender.plan.entries) (unfilled_window (asking e) t (asking_reached e reached) (puts_send open_slots (asking e) [] zs true t puts))
built_window e zs t reached agreed (Fills h g xs x is puts) =
    let same = puts_send open_slots (asking e) [] xs false x puts in
    let there : IsReached (format_of x) x.sender =
    subst (λ (y : Terms). IsReached (format_for y.interleave) x.sender) (sym same.terms) (subst (λ (a : SenderView). IsReached (format_of (asking e)) a) (sym same.sender) (asking_reached e reached)) in
    let w = fill_window (format_of x) (room_behind x xs) x.sender there in
    asked_window e (length (filled_behind x xs).view.plan.entries) (subst (λ (a : SenderView). length (filled_behind x xs).view.plan.entries ≤ a.cum + WINDOW) same.sender w)
