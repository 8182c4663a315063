-- What a chunk of the peer does to an endpoint that has met it.
use Rattle.std.proofs.Common.{◌≡◌, ℕ, Bool, true, false, ◌==◌, ◌&&◌, List, [], ◌∷◌, ◌++◌, length, inl, inr, refl, sym, subst, ap, ◌∙◌, eqb-true, is_some, if◌then◌else◌}
use Rattle.std.specs.Prelude.{drop}
use Rattle.std.proofs.lemmas.Bool.{and_parts}
use Rattle.sctp_model.specs.numbers.Numbers.{u32_at}
use Rattle.sctp_model.specs.wire.Typed.{Typed, typed_in}
use Rattle.sctp_model.specs.wire.Reconfig.{RECONFIG, OUTGOING_RESET, RECONFIG_RESPONSE, ResetMeaning, reset_read, is_parameter, is_other_request, response_item, reconfig_chunk}
use Rattle.sctp_model.specs.sender.Resetting.{is_open_number, response_taken}
use Rattle.sctp_model.specs.receiver.ResetTaken.{reset_answer, answer_in_turn, reset_taken, with_answers}
use Rattle.sctp_model.specs.end.Reports.{fits_alone}
use Rattle.sctp_model.specs.end.Closing.{with_due, hears, takes_data}
use Rattle.sctp_model.specs.end.Reconfiguring.{answers_with, request_heard, response_heard, other_heard, asking_on, in_progress, parameter_heard, parameters_heard}
use Rattle.sctp_model.specs.numbers.Lists.{Has}
use Rattle.sctp_model.specs.wire.Chunk.{PieceMeaning, ForwardMeaning, ChunkMeaning, Data, IData, Init, InitAck, Sack, Heartbeat, HeartbeatAck, Abort, Shutdown, ShutdownAck, Error, CookieEcho, CookieAck, ShutdownComplete, ForwardTsn, IForwardTsn, Unknown}
use Rattle.sctp_model.specs.messages.Format.{Format}
use Rattle.sctp_model.specs.messages.Plan.{Plan}
use Rattle.sctp_model.specs.sender.SenderView.{SenderView}
use Rattle.sctp_model.specs.receiver.ReceiverView.{ReceiverView, IsCumulative}
use Rattle.sctp_model.specs.wire.Packet.{Packet}
use Rattle.sctp_model.specs.world.Calls.{Asked}
use Rattle.sctp_model.specs.receiver.PieceTaken.{PieceAnswer, PieceTaken}
use Rattle.sctp_model.specs.receiver.ForwardTaken.{ForwardAnswer, ForwardTaken}
use Rattle.sctp_model.specs.end.EndView.{Draw, Ended, Aborted, AbortedHere, Completed, StaleCookie, Phase, Calling, ResetAlarm, EndView, format_of, unused_timer}
use Rattle.sctp_model.specs.end.Clock.{closed, with_timer}
use Rattle.sctp_model.specs.end.PeerFaults.{GoesOn, Ends, Replies, Note}
use Rattle.sctp_model.specs.end.Opening.{AcceptedAck, RefusedAck, EchoedAgain, CookieAcked}
use Rattle.sctp_model.specs.end.Beating.{beat_heard}
use Rattle.sctp_model.specs.end.Acting.{ReconfigComes, IsUnknown, Acts, PieceEmpty, WrongFormat, ForwardComes, PieceComes, WrongKind, IsBad, IsOld, SackStale, ShutdownStale, SackWrong, ShutdownWrong, HeartbeatCounts, SackCounts, ShutdownCounts, Closes, SaysNothing, Crosses, Again, AckCompletes, CompleteCompleted, Misnumbered}
use Rattle.sctp_model.specs.end.Arriving.{Notes, acknowledges, packet_ended, delays, kept_going}
use Rattle.sctp_safety.specs.States.{has_agreed}
use Rattle.sctp_safety.proofs.machine.EndWords.{ended_cases}
use Rattle.sctp_safety.proofs.machine.Sides.{unknown_goes, unknown_ends, unknown_never_replies}
use Rattle.sctp_safety.proofs.runs.Dates.{IsYoung, Dated}
use Rattle.sctp_safety.proofs.runs.Direction.{IsSaid, IsSaidBack, Direction}
use Rattle.sctp_safety.proofs.runs.Sending.{after_sack, after_shutdown, after_heard}
use Rattle.sctp_safety.proofs.machine.Reconfigured.{response_of, parameter_same}
use Rattle.sctp_safety.proofs.runs.ResetFacts.{IsAskedBy, IsAnsweredBy, AreAsked, AreAnswers}
use Rattle.sctp_safety.proofs.runs.Asking.{after_response}
use Rattle.sctp_safety.proofs.runs.Renumbering.{after_request}
use Rattle.sctp_safety.proofs.runs.Hearing.{after_piece, after_skip}
use Rattle.sctp_safety.proofs.runs.Pair.{met_views, IsMet, AreViews, met_same}
use Rattle.sctp_model.proofs.sender.HeardLaws.{heard_plan}
use Rattle.sctp_model.specs.sender.SackTaken.{sack_taken, shutdown_taken}

-- an endpoint that waits for an INIT ACK has agreed on nothing
pub not_calling : (h : Phase) (d : Draw) → h ≡ Calling d → has_agreed h ≡ true → ⊥
not_calling h d is agreed = let q : false ≡ true = subst (λ (k : Phase). has_agreed k ≡ true) is agreed in absurd (cc)

-- a chunk of the peer's that arrives while it is young, at an endpoint that has assigned this many TSNs
pub record Comes (p : EndView) (many : ℕ) (back : List Dated) (x : ChunkMeaning) : Type 0 where
  pub said : Dated
  pub has : Has back said
  pub same : said.chunk ≡ x
  pub own : IsYoung said.date.own (length p.sender.plan.entries)
  pub there : IsYoung said.date.there many

-- both directions, at an endpoint that has assigned this many TSNs: what arrives assigns none
pub record IsMetWith (many : ℕ) (e p : EndView) (u v : Asked) (out back : List Dated) : Type 0 where
  pub met : IsMet e p u v out back
  pub assigned : length e.sender.plan.entries ≡ many

module _ (p : EndView) (u v : Asked) (out back : List Dated) (many : ℕ) where
  abbrev Met : EndView → Type 0
  Met e = IsMetWith many e p u v out back

  -- ---- views that changed

  with_receiver : (e : EndView) (r : ReceiverView) → Met e → Direction (format_of p) p.terms.outbound p.sender v r back out → Met (record e { receiver = r })
  with_receiver e r m d = record { met = met_views e p u v out back out m.met e.sender r m.met.going d; assigned = m.assigned }

  with_sender : (e : EndView) (a : SenderView) → Met e → a.plan ≡ e.sender.plan → Direction (format_of e) e.terms.outbound a u p.receiver out back → Met (record e { sender = a })
  with_sender e a m same d = record {
    met = met_views e p u v out back out m.met a e.receiver d m.met.coming;
    assigned = ap (λ (q : Plan). length q.entries) same ∙ m.assigned;
  }

  -- what a chunk says that arrives
  says : (e : EndView) (x : ChunkMeaning) → (m : Met e) (c : Comes p many back x) → IsSaid (format_of p) p.sender.initial p.sender e.receiver m.met.coming.bags c.said.date.own c.said.chunk →
      IsSaid (format_of p) p.sender.initial p.sender e.receiver m.met.coming.bags c.said.date.own x
  says e x m c h = subst (λ (y : ChunkMeaning). IsSaid (format_of p) p.sender.initial p.sender e.receiver m.met.coming.bags c.said.date.own y) c.same h

  by_data : (e : EndView) (x : PieceMeaning) (o : PieceAnswer) (r : ReceiverView) → Met e → Comes p many back (Data x) → PieceTaken (format_of e) e.receiver x o r → Met (record e { receiver = r })
  by_data e x o r m c taken =
      with_receiver e r m (after_piece (format_of p) p.terms.outbound p.sender v e.receiver back out m.met.coming c.said x o r c.has c.own (says e (Data x) m c)
      (subst (λ (f : Format). PieceTaken f e.receiver x o r) m.met.format taken))

  by_i_data : (e : EndView) (x : PieceMeaning) (o : PieceAnswer) (r : ReceiverView) → Met e → Comes p many back (IData x) → PieceTaken (format_of e) e.receiver x o r → Met (record e { receiver = r })
  by_i_data e x o r m c taken =
      with_receiver e r m (after_piece (format_of p) p.terms.outbound p.sender v e.receiver back out m.met.coming c.said x o r c.has c.own (says e (IData x) m c)
      (subst (λ (f : Format). PieceTaken f e.receiver x o r) m.met.format taken))

  by_forward : (e : EndView) (x : ForwardMeaning) (o : ForwardAnswer) (r : ReceiverView) → Met e → Comes p many back (ForwardTsn x) → ForwardTaken (format_of e) e.receiver x o r →
      Met (record e { receiver = r })
  by_forward e x o r m c taken =
      with_receiver e r m (after_skip (format_of p) p.terms.outbound p.sender v e.receiver back out m.met.coming c.said x o r c.has c.own (says e (ForwardTsn x) m c)
      (subst (λ (f : Format). ForwardTaken f e.receiver x o r) m.met.format taken))

  by_i_forward : (e : EndView) (x : ForwardMeaning) (o : ForwardAnswer) (r : ReceiverView) → Met e → Comes p many back (IForwardTsn x) → ForwardTaken (format_of e) e.receiver x o r →
      Met (record e { receiver = r })
  by_i_forward e x o r m c taken =
      with_receiver e r m (after_skip (format_of p) p.terms.outbound p.sender v e.receiver back out m.met.coming c.said x o r c.has c.own (says e (IForwardTsn x) m c)
      (subst (λ (f : Format). ForwardTaken f e.receiver x o r) m.met.format taken))

  -- young as long as the endpoint has assigned no more
  young_here : (e : EndView) (x : ChunkMeaning) → Met e → (c : Comes p many back x) → IsYoung c.said.date.there (length e.sender.plan.entries)
  young_here e x m c = subst (IsYoung c.said.date.there) (sym m.assigned) c.there

  -- the same views in another state
  still : (e t : EndView) → Met e → AreViews e t → has_agreed t.phase ≡ true → Met t
  still e t m same phase = record {
    met = met_same e t p u v out back m.met same phase;
    assigned = ap (λ (a : SenderView). length a.plan.entries) same.sender ∙ m.assigned;
  }

  -- ---- a RE-CONFIG

  by_request : (c : ℕ) (e : EndView) (x : ResetMeaning) → Met e → IsCumulative e.receiver c → IsAskedBy p.sender.initial p.sender x → Met (request_heard c e x)
  by_request c e x m cumulative ask =
      let item = response_item x.number (answer_in_turn e.receiver x.number (reset_answer e.receiver c x)) in
      with_receiver e (with_answers (reset_taken e.receiver c x) (answers_with e item)) m
      (after_request (format_of p) p.terms.outbound p.sender v e.receiver back out m.met.coming c cumulative x ask (answers_with e item) (fits_alone e (reconfig_chunk (e.receiver.resets.answers ++ item ∷ []))) refl)

  in_progress_still : (b : Bool) (e : EndView) → Met e → Met (in_progress b e)
  in_progress_still false e m = m
  in_progress_still true e m = still e (in_progress true e) m (record { terms = refl; sender = refl; receiver = refl; moment = refl }) m.met.phase

  asking_on_still : (e : EndView) → Met e → Met (asking_on e)
  asking_on_still e m = go (is_some e.sender.resets.pending)
    where
      go : (b : Bool) → Met (if b then e else with_timer ResetAlarm (unused_timer e.configuration.first_wait) (with_due (record e.due { request = false }) e))
      go true = m
      go false = still e (with_timer ResetAlarm (unused_timer e.configuration.first_wait) (with_due (record e.due { request = false }) e)) m (record { terms = refl; sender = refl; receiver = refl; moment = refl }) m.met.phase

  by_response : (e : EndView) (x : Typed) → Met e → IsAnsweredBy p.receiver.initial p.receiver x → Met (response_heard e (u32_at x.value) (u32_at (drop 4 x.value)))
  by_response e x m answer =
      let n = u32_at x.value in
      let code = u32_at (drop 4 x.value) in
      let t = record e { sender = response_taken e.sender n code } in
      let same = response_of e.sender n code in
      asking_on_still (in_progress (is_open_number e.sender n) t)
      (in_progress_still (is_open_number e.sender n) t
      (with_sender e (response_taken e.sender n code) m (ap (λ (a : SenderView). a.plan) same.1)
      (after_response (format_of e) e.terms.outbound e.sender u p.receiver out back m.met.going x answer)))

  pub by_parameter : (c : ℕ) (e : EndView) (x : Typed) → (is_parameter OUTGOING_RESET 12 x ≡ true → IsAskedBy p.sender.initial p.sender (reset_read x)) → is_other_request x ≡ false →
      (is_parameter RECONFIG_RESPONSE 8 x ≡ true → IsAnsweredBy p.receiver.initial p.receiver x) → Met e → IsCumulative e.receiver c → Met (parameter_heard c e x)
  by_parameter c e x ask other answer m cumulative = go (is_parameter OUTGOING_RESET 12 x) refl (is_parameter RECONFIG_RESPONSE 8 x) refl (is_other_request x) other
    where
      go : (b : Bool) → is_parameter OUTGOING_RESET 12 x ≡ b → (d : Bool) → is_parameter RECONFIG_RESPONSE 8 x ≡ d → (o : Bool) → o ≡ false →
          Met (if b then request_heard c e (reset_read x) else if d then response_heard e (u32_at x.value) (u32_at (drop 4 x.value)) else if o then other_heard e (u32_at x.value) else e)
      go true on d is o unasked = by_request c e (reset_read x) m cumulative (ask on)
      go false off true on o unasked = by_response e x m (answer on)
      go false off false less true unasked = absurd (cc)
      go false off false less false unasked = m

  by_parameters : (c : ℕ) (xs : List Typed) → AreAsked p.sender.initial p.sender xs → AreAnswers p.receiver.initial p.receiver xs → (e : EndView) → Met e → IsCumulative e.receiver c → Met (parameters_heard c e xs)
  by_parameters c [] asks answers e m cumulative = m
  by_parameters c (x ∷ xs) asks answers e m cumulative =
      let one = asks x (inl refl) in
      by_parameters c xs (λ y has. asks y (inr has)) (λ y has. answers y (inr has)) (parameter_heard c e x)
      (by_parameter c e x one.0 one.1 (answers x (inl refl)) m cumulative)
      (let same = (parameter_same c e x).receiver in subst (λ (r : ReceiverView). IsCumulative r c) (sym same.1) (record { reached = cumulative.reached; open_end = cumulative.open_end }))

  over : (e : EndView) (why : Ended) → Met e → Met (closed why e)
  over e why m = still e (closed why e) m (record { terms = refl; sender = refl; receiver = refl; moment = refl }) refl

  -- ---- a chunk after which the packet goes on

  pub goes : (e : EndView) (tag : ℕ) (x : ChunkMeaning) (y : Note) (t : EndView) → Comes p many back x → Met e → Acts e tag x (GoesOn y t) → Met t
  goes e tag (Data d) y t has m (PieceComes k g o r is hears some same taken right) =
      still (record e { receiver = r }) t (by_data e d o r m has taken) (record { terms = refl; sender = refl; receiver = refl; moment = refl }) m.met.phase
  goes e tag (IData d) y t has m (PieceComes k g o r is hears some same taken right) =
      still (record e { receiver = r }) t (by_i_data e d o r m has taken) (record { terms = refl; sender = refl; receiver = refl; moment = refl }) m.met.phase
  goes e tag (Init i) y t has m h = absurd (cc)
  goes e tag (InitAck i) y t has m (AcceptedAck d cookie is tagged value fault) = absurd (not_calling e.phase d is m.met.phase)
  goes e tag (Sack s) y t has m (SackStale hears fault) = m
  goes e tag (Sack s) y t has m (SackCounts hears none) =
      still (record e { sender = _ }) t (with_sender e _ m (heard_plan e.pace e.moment e.sender (sack_taken e.sender s))
      (after_heard (format_of e) e.terms.outbound (sack_taken e.sender s) u p.receiver out back
      (after_sack (format_of e) e.terms.outbound e.sender u p.receiver out back m.met.going has.said s has.has has.same (young_here e (Sack s) m has) none)
      e.pace e.moment e.sender))
      (record { terms = refl; sender = refl; receiver = refl; moment = refl }) m.met.phase
  goes e tag (Heartbeat i) y t has m (HeartbeatCounts hears) = still e t m (record { terms = refl; sender = refl; receiver = refl; moment = refl }) m.met.phase
  goes e tag (HeartbeatAck i) y t has m h = let q : t ≡ beat_heard e i = cc in subst Met (sym q) (still e (beat_heard e i) m (record { terms = refl; sender = refl; receiver = refl; moment = refl }) m.met.phase)
  goes e tag (Abort b xs) y t has m h = absurd (cc)
  goes e tag (Shutdown n) y t has m (ShutdownStale k g is hears fault) = still e t m (record { terms = refl; sender = refl; receiver = refl; moment = refl }) refl
  goes e tag (Shutdown n) y t has m (ShutdownCounts k g is hears none) =
      still (record e { sender = _ }) t (with_sender e _ m (heard_plan e.pace e.moment e.sender (shutdown_taken e.sender n))
      (after_heard (format_of e) e.terms.outbound (shutdown_taken e.sender n) u p.receiver out back
      (after_shutdown (format_of e) e.terms.outbound e.sender u p.receiver out back m.met.going has.said n has.has has.same (young_here e (Shutdown n) m has) none)
      e.pace e.moment e.sender))
      (record { terms = refl; sender = refl; receiver = refl; moment = refl }) refl
  goes e tag (Shutdown n) y t has m (Crosses k is) = still e t m (record { terms = refl; sender = refl; receiver = refl; moment = refl }) refl
  goes e tag (Shutdown n) y t has m (Again k is) = still e t m (record { terms = refl; sender = refl; receiver = refl; moment = refl }) m.met.phase
  goes e tag ShutdownAck y t has m h = elim h [ ]
  goes e tag (Error xs) y t has m (SaysNothing off) = m
  goes e tag (CookieEcho xs) y t has m (EchoedAgain _ _ _ _ _ _ _) = still e t m (record { terms = refl; sender = refl; receiver = refl; moment = refl }) m.met.phase
  goes e tag CookieAck y t has m (CookieAcked k xs is) = still e t m (record { terms = refl; sender = refl; receiver = refl; moment = refl }) refl
  goes e tag (ShutdownComplete b) y t has m h = elim h [ ]
  goes e tag (ForwardTsn d) y t has m (IsOld k g r is hears may taken) =
      still (record e { receiver = r }) t (by_forward e d _ r m has taken) (record { terms = refl; sender = refl; receiver = refl; moment = refl }) m.met.phase
  goes e tag (ForwardTsn d) y t has m (ForwardComes k g r is hears may taken) =
      still (record e { receiver = r }) t (by_forward e d _ r m has taken) (record { terms = refl; sender = refl; receiver = refl; moment = refl }) m.met.phase
  goes e tag (IForwardTsn d) y t has m (IsOld k g r is hears may taken) =
      still (record e { receiver = r }) t (by_i_forward e d _ r m has taken) (record { terms = refl; sender = refl; receiver = refl; moment = refl }) m.met.phase
  goes e tag (IForwardTsn d) y t has m (ForwardComes k g r is hears may taken) =
      still (record e { receiver = r }) t (by_i_forward e d _ r m has taken) (record { terms = refl; sender = refl; receiver = refl; moment = refl }) m.met.phase
  goes e tag (Unknown k f w) y t has m (ReconfigComes c takes cumulative) =
      let is = eqb-true k RECONFIG (and_parts (k == RECONFIG) (e.terms.reset && hears takes_data e.phase) takes).0 in
      let ask = says e (Unknown k f w) m has (m.met.coming.said has.said has.has) in
      let answer = subst (λ (z : ChunkMeaning). IsSaidBack p.receiver.initial p.receiver m.met.going.bags has.said.date.there z) has.same (m.met.going.said_back has.said has.has) in
      by_parameters c (typed_in w) (ask is) (answer is) e m cumulative
  goes e tag (Unknown k f w) y t has m (IsUnknown _ off h) =
      subst Met (sym (unknown_goes e y t k f w h).same) (still e _ m (record { terms = refl; sender = refl; receiver = refl; moment = refl }) m.met.phase)

  -- ---- a chunk that ends its packet, and one that is answered

  pub ends : (e : EndView) (tag : ℕ) (x : ChunkMeaning) (t : EndView) → Met e → Acts e tag x (Ends t) → Met t
  ends e tag (Data d) t m h = elim h [ ]
  ends e tag (IData d) t m h = elim h [ ]
  ends e tag (Init i) t m h = absurd (cc)
  ends e tag (InitAck i) t m h = elim h [ ]
  ends e tag (Sack s) t m h = elim h [ ]
  ends e tag (Heartbeat i) t m h = elim h [ ]
  ends e tag (HeartbeatAck i) t m h = absurd (cc)
  ends e tag (Abort b xs) t m h = let q : t ≡ closed Aborted e = cc in subst Met (sym q) (over e Aborted m)
  ends e tag (Shutdown n) t m h = elim h [ ]
  ends e tag ShutdownAck t m h = elim h [ ]
  ends e tag (Error xs) t m (Closes on) = over e StaleCookie m
  ends e tag (CookieEcho xs) t m h = elim h [ ]
  ends e tag CookieAck t m h = elim h [ ]
  ends e tag (ShutdownComplete b) t m (CompleteCompleted on) = over e Completed m
  ends e tag (ForwardTsn d) t m h = elim h [ ]
  ends e tag (IForwardTsn d) t m h = elim h [ ]
  ends e tag (Unknown k f w) t m (IsUnknown _ off h) =
      subst Met (sym (unknown_ends e t k f w h).same) (still e _ m (record { terms = refl; sender = refl; receiver = refl; moment = refl }) m.met.phase)

  pub replies : (e : EndView) (tag : ℕ) (x : ChunkMeaning) (t : EndView) (r : Packet) → Met e → Acts e tag x (Replies t r) → Met t
  replies e tag (Data d) t r m (PieceEmpty _ _ _ _ _) = over e AbortedHere m
  replies e tag (Data d) t r m (WrongFormat _ _ _ _ _ _) = over e AbortedHere m
  replies e tag (Data d) t r m (Misnumbered _ _ _ _ _ _ _ _ _) = over e AbortedHere m
  replies e tag (IData d) t r m (PieceEmpty _ _ _ _ _) = over e AbortedHere m
  replies e tag (IData d) t r m (WrongFormat _ _ _ _ _ _) = over e AbortedHere m
  replies e tag (IData d) t r m (Misnumbered _ _ _ _ _ _ _ _ _) = over e AbortedHere m
  replies e tag (Init i) t r m h = absurd (cc)
  replies e tag (InitAck i) t r m (RefusedAck _ _ _ _ _) = over e AbortedHere m
  replies e tag (Sack s) t r m (SackWrong _ _ _ _ _) = over e AbortedHere m
  replies e tag (Heartbeat i) t r m h = elim h [ ]
  replies e tag (HeartbeatAck i) t r m h = absurd (cc)
  replies e tag (Abort b xs) t r m h = absurd (cc)
  replies e tag (Shutdown n) t r m (ShutdownWrong _ _ _ _ _) = over e AbortedHere m
  replies e tag ShutdownAck t r m (AckCompletes _ _ _ _) = over e Completed m
  replies e tag (Error xs) t r m h = elim h [ ]
  replies e tag (CookieEcho xs) t r m h = elim h [ ]
  replies e tag CookieAck t r m h = elim h [ ]
  replies e tag (ShutdownComplete b) t r m h = elim h [ ]
  replies e tag (ForwardTsn d) t r m (WrongKind _ _ _ _ _) = over e AbortedHere m
  replies e tag (ForwardTsn d) t r m (IsBad _ _ _ _ _ _ _) = over e AbortedHere m
  replies e tag (IForwardTsn d) t r m (WrongKind _ _ _ _ _) = over e AbortedHere m
  replies e tag (IForwardTsn d) t r m (IsBad _ _ _ _ _ _ _) = over e AbortedHere m
  replies e tag (Unknown k f w) t r m (IsUnknown _ off h) = absurd (unknown_never_replies e t r k f w h)

  -- ---- the end of a packet

  pub met_ended : (n : Notes) (e : EndView) → Met e → Met (packet_ended n e)
  met_ended n e m = ended_cases Met n e m (λ k g is. still e (acknowledges g e) m (record { terms = refl; sender = refl; receiver = refl; moment = refl }) m.met.phase)
      (λ k g is. still e (delays e) m (record { terms = refl; sender = refl; receiver = refl; moment = refl }) m.met.phase)
      (λ x k. still x (kept_going true x) k (record { terms = refl; sender = refl; receiver = refl; moment = refl }) k.met.phase)
