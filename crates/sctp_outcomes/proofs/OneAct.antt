-- What a chunk leaves is one: no two rows of the state table hold at once, and each leaves one endpoint.
use Rattle.std.proofs.Common.{◌≡◌, ℕ, Bool, true, false, List, Some, None, inl, inr, refl, sym, subst, ap, arith, ◌∙◌}
use Rattle.sctp_model.specs.wire.Typed.{Typed, typed_in}
use Rattle.sctp_model.specs.messages.Format.{Format, Plain, Interleaved}
use Rattle.sctp_model.specs.wire.Chunk.{PieceMeaning, SackMeaning, ForwardMeaning, InitMeaning, ChunkMeaning, Data, IData, Init, InitAck, Sack, Heartbeat, HeartbeatAck, Abort, Shutdown, ShutdownAck, Error, CookieEcho, CookieAck, ShutdownComplete, ForwardTsn, IForwardTsn, Unknown}
use Rattle.sctp_model.specs.receiver.ReceiverView.{ReceiverView}
use Rattle.sctp_model.specs.receiver.PieceTaken.{PieceAnswer}
use Rattle.sctp_model.specs.receiver.Laws.{IsOrdinary}
use Rattle.sctp_model.proofs.receiver.OneStep.{piece_only, forward_only, cumulative_only}
use Rattle.sctp_model.specs.end.Sealing.{Sealing}
use Rattle.sctp_model.specs.end.EndView.{Tags, Draw, Stage, ShutdownSent, ShutdownReceived, ShutdownAckSent, AbortedHere, Completed, Phase, Calling, Echoing, Open, EndView, format_of}
use Rattle.sctp_model.specs.end.Clock.{turned, closed}
use Rattle.sctp_model.specs.end.Closing.{answers_shutdown, hears, takes_data, takes_acknowledgements, takes_cookies, awaits_ack}
use Rattle.sctp_model.specs.end.Reports.{with_causes}
use Rattle.sctp_model.specs.end.PeerFaults.{Unnoted, ToAcknowledge, After, GoesOn, Replies, packet_to, abort_for, at_fault, no_user_data, violation}
use Rattle.sctp_model.specs.end.Opening.{ack_fault, is_calling, echoing, InitAckActs, NotCalling, NoTag, RefusedAck, AcceptedAck, seal_in, is_ours, cookie_read, EchoActs, NotHere, EchoedAgain, IsStrange, is_echoing, acknowledged_echo, CookieAckActs, NotEchoing, CookieAcked}
use Rattle.sctp_model.specs.end.Acting.{asks_at_once, piece_causes, PieceActs, ForwardNotHeard, HeartbeatNotHeard, PieceNotHeard, SackNotHeard, PieceEmpty, WrongFormat, ForwardComes, PieceComes, ForwardActs, WrongKind, IsBad, IsOld, SackActs, SackStale, ShutdownStale, SackWrong, ShutdownWrong, HeartbeatCounts, SackCounts, ShutdownCounts, HeartbeatActs, ErrorActs, Closes, SaysNothing, shutdown_heard, ShutdownActs, ShutdownNotOpen, Crosses, Again, ShutdownAckActs, AckNotAwaited, CompleteNotAwaited, AckCompletes, CompleteCompleted, CompleteActs, Acts, ReconfigComes, IsUnknown, Misnumbered, is_refused}
use Rattle.sctp_model.specs.end.Reconfiguring.{parameters_heard}

-- ---- what can't hold at once

pub clash : {b : Bool} → b ≡ true → b ≡ false → ⊥
clash {b} on off = let q : true ≡ false = sym on ∙ off in absurd (cc)

pub deaf : (f : Stage → Bool) (h : Phase) (t : Tags) (g : Stage) → hears f h ≡ false → h ≡ Open t g → f g ≡ true → ⊥
deaf f h t g off is takes = let q : true ≡ false = sym takes ∙ sym (ap (hears f) is) ∙ off in absurd (cc)

not_there : (f : Stage → Bool) (g h : Stage) → f g ≡ true → g ≡ h → f h ≡ false → ⊥
not_there f g h on same off = let q : true ≡ false = sym on ∙ ap f same ∙ off in absurd (cc)

pub same_open : (h : Phase) (t u : Tags) (g i : Stage) → h ≡ Open t g → h ≡ Open u i → (t ≡ u) × (g ≡ i)
same_open h t u g i a b = let q : Open t g ≡ Open u i = sym a ∙ b in (cc, cc)

-- ---- every chunk

module _ (e : EndView) (o : IsOrdinary (format_of e) e.receiver) where
  one_piece : (f : Format) (p : PieceMeaning) (x y : After) → PieceActs f e p x → PieceActs f e p y → x ≡ y
  one_piece f p x y (PieceNotHeard o1) (PieceNotHeard o2) = refl
  one_piece f p x y (PieceNotHeard o1) (PieceEmpty t2 g2 i2 k2 z2) = absurd (deaf takes_data e.phase t2 g2 o1 i2 k2)
  one_piece f p x y (PieceNotHeard o1) (WrongFormat t2 g2 i2 k2 s2 m2) = absurd (deaf takes_data e.phase t2 g2 o1 i2 k2)
  one_piece f p x y (PieceNotHeard o1) (Misnumbered t2 g2 n2 i2 k2 s2 m2 c2 w2) = absurd (deaf takes_data e.phase t2 g2 o1 i2 k2)
  one_piece f p x y (PieceNotHeard o1) (PieceComes t2 g2 a2 r2 i2 k2 s2 m2 c2 w2) = absurd (deaf takes_data e.phase t2 g2 o1 i2 k2)
  one_piece f p x y (PieceEmpty t1 g1 i1 k1 z1) (PieceNotHeard o2) = absurd (deaf takes_data e.phase t1 g1 o2 i1 k1)
  one_piece f p x y (PieceEmpty t1 g1 i1 k1 z1) (PieceEmpty t2 g2 i2 k2 z2) = let q = same_open e.phase t1 t2 g1 g2 i1 i2 in ap (λ (t : Tags). at_fault t (no_user_data p.tsn) e) q.0
  one_piece f p x y (PieceEmpty t1 g1 i1 k1 z1) (WrongFormat t2 g2 i2 k2 s2 m2) = absurd (let z = z1 in let s = s2 in omega (arith, z, s))
  one_piece f p x y (PieceEmpty t1 g1 i1 k1 z1) (Misnumbered t2 g2 n2 i2 k2 s2 m2 c2 w2) = absurd (let z = z1 in let s = s2 in omega (arith, z, s))
  one_piece f p x y (PieceEmpty t1 g1 i1 k1 z1) (PieceComes t2 g2 a2 r2 i2 k2 s2 m2 c2 w2) = absurd (let z = z1 in let s = s2 in omega (arith, z, s))
  one_piece f p x y (WrongFormat t1 g1 i1 k1 s1 m1) (PieceNotHeard o2) = absurd (deaf takes_data e.phase t1 g1 o2 i1 k1)
  one_piece f p x y (WrongFormat t1 g1 i1 k1 s1 m1) (PieceEmpty t2 g2 i2 k2 z2) = absurd (let z = z2 in let s = s1 in omega (arith, z, s))
  one_piece f p x y (WrongFormat t1 g1 i1 k1 s1 m1) (WrongFormat t2 g2 i2 k2 s2 m2) = let q = same_open e.phase t1 t2 g1 g2 i1 i2 in ap (λ (t : Tags). at_fault t violation e) q.0
  one_piece f p x y (WrongFormat t1 g1 i1 k1 s1 m1) (Misnumbered t2 g2 n2 i2 k2 s2 m2 c2 w2) = absurd (clash m2 m1)
  one_piece f p x y (WrongFormat t1 g1 i1 k1 s1 m1) (PieceComes t2 g2 a2 r2 i2 k2 s2 m2 c2 w2) = absurd (clash m2 m1)
  one_piece f p x y (Misnumbered t1 g1 n1 i1 k1 s1 m1 c1 w1) (PieceNotHeard o2) = absurd (deaf takes_data e.phase t1 g1 o2 i1 k1)
  one_piece f p x y (Misnumbered t1 g1 n1 i1 k1 s1 m1 c1 w1) (PieceEmpty t2 g2 i2 k2 z2) = absurd (let z = z2 in let s = s1 in omega (arith, z, s))
  one_piece f p x y (Misnumbered t1 g1 n1 i1 k1 s1 m1 c1 w1) (WrongFormat t2 g2 i2 k2 s2 m2) = absurd (clash m1 m2)
  one_piece f p x y (Misnumbered t1 g1 n1 i1 k1 s1 m1 c1 w1) (Misnumbered t2 g2 n2 i2 k2 s2 m2 c2 w2) = let q = same_open e.phase t1 t2 g1 g2 i1 i2 in ap (λ (t : Tags). at_fault t violation e) q.0
  one_piece f p x y (Misnumbered t1 g1 n1 i1 k1 s1 m1 c1 w1) (PieceComes t2 g2 a2 r2 i2 k2 s2 m2 c2 w2) =
      absurd (clash w1 (subst (λ (c : ℕ). is_refused e c p ≡ false) (cumulative_only e.receiver c2.c n1 c2.cumulative c1) w2))
  one_piece f p x y (PieceComes t1 g1 a1 r1 i1 k1 s1 m1 c1 w1) (PieceNotHeard o2) = absurd (deaf takes_data e.phase t1 g1 o2 i1 k1)
  one_piece f p x y (PieceComes t1 g1 a1 r1 i1 k1 s1 m1 c1 w1) (PieceEmpty t2 g2 i2 k2 z2) = absurd (let z = z2 in let s = s1 in omega (arith, z, s))
  one_piece f p x y (PieceComes t1 g1 a1 r1 i1 k1 s1 m1 c1 w1) (WrongFormat t2 g2 i2 k2 s2 m2) = absurd (clash m1 m2)
  one_piece f p x y (PieceComes t1 g1 a1 r1 i1 k1 s1 m1 c1 w1) (Misnumbered t2 g2 n2 i2 k2 s2 m2 c2 w2) =
      absurd (clash w2 (subst (λ (c : ℕ). is_refused e c p ≡ false) (cumulative_only e.receiver c1.c n2 c1.cumulative c2) w1))
  one_piece f p x y (PieceComes t1 g1 a1 r1 i1 k1 s1 m1 c1 w1) (PieceComes t2 g2 a2 r2 i2 k2 s2 m2 c2 w2) = let r = piece_only (format_of e) e.receiver p a1 a2 r1 r2 o c1 c2 in ap (λ (a : PieceAnswer). GoesOn (ToAcknowledge true (asks_at_once p a)) (with_causes (piece_causes e p a) (record e { receiver = r1 }))) r.0 ∙ ap (λ (v : ReceiverView). GoesOn (ToAcknowledge true (asks_at_once p a2)) (with_causes (piece_causes e p a2) (record e { receiver = v }))) r.1

  one_forward : (f : Format) (m : ForwardMeaning) (x y : After) → ForwardActs f e m x → ForwardActs f e m y → x ≡ y
  one_forward f m x y (ForwardNotHeard o1) (ForwardNotHeard o2) = refl
  one_forward f m x y (ForwardNotHeard o1) (WrongKind t2 g2 i2 k2 y2) = absurd (deaf takes_data e.phase t2 g2 o1 i2 k2)
  one_forward f m x y (ForwardNotHeard o1) (IsBad t2 g2 r2 i2 k2 y2 c2) = absurd (deaf takes_data e.phase t2 g2 o1 i2 k2)
  one_forward f m x y (ForwardNotHeard o1) (IsOld t2 g2 r2 i2 k2 y2 c2) = absurd (deaf takes_data e.phase t2 g2 o1 i2 k2)
  one_forward f m x y (ForwardNotHeard o1) (ForwardComes t2 g2 r2 i2 k2 y2 c2) = absurd (deaf takes_data e.phase t2 g2 o1 i2 k2)
  one_forward f m x y (WrongKind t1 g1 i1 k1 y1) (ForwardNotHeard o2) = absurd (deaf takes_data e.phase t1 g1 o2 i1 k1)
  one_forward f m x y (WrongKind t1 g1 i1 k1 y1) (WrongKind t2 g2 i2 k2 y2) = let q = same_open e.phase t1 t2 g1 g2 i1 i2 in ap (λ (t : Tags). at_fault t violation e) q.0
  one_forward f m x y (WrongKind t1 g1 i1 k1 y1) (IsBad t2 g2 r2 i2 k2 y2 c2) = absurd (clash y2 y1)
  one_forward f m x y (WrongKind t1 g1 i1 k1 y1) (IsOld t2 g2 r2 i2 k2 y2 c2) = absurd (clash y2 y1)
  one_forward f m x y (WrongKind t1 g1 i1 k1 y1) (ForwardComes t2 g2 r2 i2 k2 y2 c2) = absurd (clash y2 y1)
  one_forward f m x y (IsBad t1 g1 r1 i1 k1 y1 c1) (ForwardNotHeard o2) = absurd (deaf takes_data e.phase t1 g1 o2 i1 k1)
  one_forward f m x y (IsBad t1 g1 r1 i1 k1 y1 c1) (WrongKind t2 g2 i2 k2 y2) = absurd (clash y1 y2)
  one_forward f m x y (IsBad t1 g1 r1 i1 k1 y1 c1) (IsBad t2 g2 r2 i2 k2 y2 c2) = let q = same_open e.phase t1 t2 g1 g2 i1 i2 in ap (λ (t : Tags). at_fault t violation e) q.0
  one_forward f m x y (IsBad t1 g1 r1 i1 k1 y1 c1) (IsOld t2 g2 r2 i2 k2 y2 c2) = absurd (let q = (forward_only (format_of e) e.receiver m _ _ r1 r2 o.apart c1 c2).0 in cc)
  one_forward f m x y (IsBad t1 g1 r1 i1 k1 y1 c1) (ForwardComes t2 g2 r2 i2 k2 y2 c2) = absurd (let q = (forward_only (format_of e) e.receiver m _ _ r1 r2 o.apart c1 c2).0 in cc)
  one_forward f m x y (IsOld t1 g1 r1 i1 k1 y1 c1) (ForwardNotHeard o2) = absurd (deaf takes_data e.phase t1 g1 o2 i1 k1)
  one_forward f m x y (IsOld t1 g1 r1 i1 k1 y1 c1) (WrongKind t2 g2 i2 k2 y2) = absurd (clash y1 y2)
  one_forward f m x y (IsOld t1 g1 r1 i1 k1 y1 c1) (IsBad t2 g2 r2 i2 k2 y2 c2) = absurd (let q = (forward_only (format_of e) e.receiver m _ _ r2 r1 o.apart c2 c1).0 in cc)
  one_forward f m x y (IsOld t1 g1 r1 i1 k1 y1 c1) (IsOld t2 g2 r2 i2 k2 y2 c2) = let r = forward_only (format_of e) e.receiver m _ _ r1 r2 o.apart c1 c2 in ap (λ (v : ReceiverView). GoesOn (ToAcknowledge false true) (record e { receiver = v })) r.1
  one_forward f m x y (IsOld t1 g1 r1 i1 k1 y1 c1) (ForwardComes t2 g2 r2 i2 k2 y2 c2) = absurd (let q = (forward_only (format_of e) e.receiver m _ _ r1 r2 o.apart c1 c2).0 in cc)
  one_forward f m x y (ForwardComes t1 g1 r1 i1 k1 y1 c1) (ForwardNotHeard o2) = absurd (deaf takes_data e.phase t1 g1 o2 i1 k1)
  one_forward f m x y (ForwardComes t1 g1 r1 i1 k1 y1 c1) (WrongKind t2 g2 i2 k2 y2) = absurd (clash y1 y2)
  one_forward f m x y (ForwardComes t1 g1 r1 i1 k1 y1 c1) (IsBad t2 g2 r2 i2 k2 y2 c2) = absurd (let q = (forward_only (format_of e) e.receiver m _ _ r2 r1 o.apart c2 c1).0 in cc)
  one_forward f m x y (ForwardComes t1 g1 r1 i1 k1 y1 c1) (IsOld t2 g2 r2 i2 k2 y2 c2) = absurd (let q = (forward_only (format_of e) e.receiver m _ _ r2 r1 o.apart c2 c1).0 in cc)
  one_forward f m x y (ForwardComes t1 g1 r1 i1 k1 y1 c1) (ForwardComes t2 g2 r2 i2 k2 y2 c2) = let r = forward_only (format_of e) e.receiver m _ _ r1 r2 o.apart c1 c2 in ap (λ (v : ReceiverView). GoesOn (ToAcknowledge false true) (record e { receiver = v })) r.1

  one_sack : (s : SackMeaning) (x y : After) → SackActs e s x → SackActs e s y → x ≡ y
  one_sack s x y (SackNotHeard _) (SackNotHeard _) = refl
  one_sack s x y (SackNotHeard a) (SackStale h _) = absurd (clash h a)
  one_sack s x y (SackNotHeard a) (SackWrong t g i k _) = absurd (deaf takes_acknowledgements e.phase t g a i k)
  one_sack s x y (SackNotHeard a) (SackCounts h _) = absurd (clash h a)
  one_sack s x y (SackStale h _) (SackNotHeard a) = absurd (clash h a)
  one_sack s x y (SackStale _ _) (SackStale _ _) = refl
  one_sack s x y (SackStale _ q) (SackWrong t g i k (inl w)) = absurd (cc)
  one_sack s x y (SackStale _ q) (SackWrong t g i k (inr w)) = absurd (cc)
  one_sack s x y (SackStale _ q) (SackCounts _ w) = absurd (cc)
  one_sack s x y (SackWrong t g i k _) (SackNotHeard a) = absurd (deaf takes_acknowledgements e.phase t g a i k)
  one_sack s x y (SackWrong t g i k (inl w)) (SackStale _ q) = absurd (cc)
  one_sack s x y (SackWrong t g i k (inr w)) (SackStale _ q) = absurd (cc)
  one_sack s x y (SackWrong t g i k w) (SackWrong u h j l z) = ap (λ (v : Tags). at_fault v violation e) (same_open e.phase t u g h i j).0
  one_sack s x y (SackWrong t g i k (inl w)) (SackCounts _ q) = absurd (cc)
  one_sack s x y (SackWrong t g i k (inr w)) (SackCounts _ q) = absurd (cc)
  one_sack s x y (SackCounts h _) (SackNotHeard a) = absurd (clash h a)
  one_sack s x y (SackCounts _ q) (SackStale _ w) = absurd (cc)
  one_sack s x y (SackCounts _ q) (SackWrong t g i k (inl w)) = absurd (cc)
  one_sack s x y (SackCounts _ q) (SackWrong t g i k (inr w)) = absurd (cc)
  one_sack s x y (SackCounts _ _) (SackCounts _ _) = refl

  one_heartbeat : (n : List ℕ) (x y : After) → HeartbeatActs e n x → HeartbeatActs e n y → x ≡ y
  one_heartbeat n x y (HeartbeatNotHeard _) (HeartbeatNotHeard _) = refl
  one_heartbeat n x y (HeartbeatNotHeard a) (HeartbeatCounts h) = absurd (clash h a)
  one_heartbeat n x y (HeartbeatCounts h) (HeartbeatNotHeard a) = absurd (clash h a)
  one_heartbeat n x y (HeartbeatCounts _) (HeartbeatCounts _) = refl

  one_error : (n : List ℕ) (x y : After) → ErrorActs e n x → ErrorActs e n y → x ≡ y
  one_error n x y (Closes _) (Closes _) = refl
  one_error n x y (Closes h) (SaysNothing a) = absurd (clash h a)
  one_error n x y (SaysNothing a) (Closes h) = absurd (clash h a)
  one_error n x y (SaysNothing _) (SaysNothing _) = refl

  one_shutdown : (n : ℕ) (x y : After) → ShutdownActs e n x → ShutdownActs e n y → x ≡ y
  one_shutdown n x y (ShutdownNotOpen o1) (ShutdownNotOpen o2) = refl
  one_shutdown n x y (ShutdownNotOpen o1) (ShutdownWrong t2 g2 i2 k2 q2) = absurd (deaf (λ g. true) e.phase t2 g2 o1 i2 refl)
  one_shutdown n x y (ShutdownNotOpen o1) (ShutdownStale t2 g2 i2 k2 q2) = absurd (deaf (λ g. true) e.phase t2 g2 o1 i2 refl)
  one_shutdown n x y (ShutdownNotOpen o1) (ShutdownCounts t2 g2 i2 k2 q2) = absurd (deaf (λ g. true) e.phase t2 g2 o1 i2 refl)
  one_shutdown n x y (ShutdownNotOpen o1) (Crosses t2 i2) = absurd (deaf (λ g. true) e.phase t2 _ o1 i2 refl)
  one_shutdown n x y (ShutdownNotOpen o1) (Again t2 i2) = absurd (deaf (λ g. true) e.phase t2 _ o1 i2 refl)
  one_shutdown n x y (ShutdownWrong t1 g1 i1 k1 q1) (ShutdownNotOpen o2) = absurd (deaf (λ g. true) e.phase t1 g1 o2 i1 refl)
  one_shutdown n x y (ShutdownWrong t1 g1 i1 k1 q1) (ShutdownWrong t2 g2 i2 k2 q2) = let q = same_open e.phase t1 t2 g1 g2 i1 i2 in ap (λ (t : Tags). at_fault t violation e) q.0
  one_shutdown n x y (ShutdownWrong t1 g1 i1 k1 q1) (ShutdownStale t2 g2 i2 k2 q2) = absurd (cc (q1, q2))
  one_shutdown n x y (ShutdownWrong t1 g1 i1 k1 q1) (ShutdownCounts t2 g2 i2 k2 q2) = absurd (cc (q1, q2))
  one_shutdown n x y (ShutdownWrong t1 g1 i1 k1 q1) (Crosses t2 i2) = absurd (not_there takes_acknowledgements g1 ShutdownSent k1 (same_open e.phase t1 t2 g1 ShutdownSent i1 i2).1 refl)
  one_shutdown n x y (ShutdownWrong t1 g1 i1 k1 q1) (Again t2 i2) = absurd (not_there takes_acknowledgements g1 ShutdownAckSent k1 (same_open e.phase t1 t2 g1 ShutdownAckSent i1 i2).1 refl)
  one_shutdown n x y (ShutdownStale t1 g1 i1 k1 q1) (ShutdownNotOpen o2) = absurd (deaf (λ g. true) e.phase t1 g1 o2 i1 refl)
  one_shutdown n x y (ShutdownStale t1 g1 i1 k1 q1) (ShutdownWrong t2 g2 i2 k2 q2) = absurd (cc (q2, q1))
  one_shutdown n x y (ShutdownStale t1 g1 i1 k1 q1) (ShutdownStale t2 g2 i2 k2 q2) = let q = same_open e.phase t1 t2 g1 g2 i1 i2 in ap (λ (t : Tags). GoesOn Unnoted (turned (Open t ShutdownReceived) e)) q.0
  one_shutdown n x y (ShutdownStale t1 g1 i1 k1 q1) (ShutdownCounts t2 g2 i2 k2 q2) = absurd (cc (q1, q2))
  one_shutdown n x y (ShutdownStale t1 g1 i1 k1 q1) (Crosses t2 i2) = absurd (not_there takes_acknowledgements g1 ShutdownSent k1 (same_open e.phase t1 t2 g1 ShutdownSent i1 i2).1 refl)
  one_shutdown n x y (ShutdownStale t1 g1 i1 k1 q1) (Again t2 i2) = absurd (not_there takes_acknowledgements g1 ShutdownAckSent k1 (same_open e.phase t1 t2 g1 ShutdownAckSent i1 i2).1 refl)
  one_shutdown n x y (ShutdownCounts t1 g1 i1 k1 q1) (ShutdownNotOpen o2) = absurd (deaf (λ g. true) e.phase t1 g1 o2 i1 refl)
  one_shutdown n x y (ShutdownCounts t1 g1 i1 k1 q1) (ShutdownWrong t2 g2 i2 k2 q2) = absurd (cc (q2, q1))
  one_shutdown n x y (ShutdownCounts t1 g1 i1 k1 q1) (ShutdownStale t2 g2 i2 k2 q2) = absurd (cc (q2, q1))
  one_shutdown n x y (ShutdownCounts t1 g1 i1 k1 q1) (ShutdownCounts t2 g2 i2 k2 q2) = let q = same_open e.phase t1 t2 g1 g2 i1 i2 in ap (λ (t : Tags). GoesOn Unnoted (shutdown_heard t e n)) q.0
  one_shutdown n x y (ShutdownCounts t1 g1 i1 k1 q1) (Crosses t2 i2) = absurd (not_there takes_acknowledgements g1 ShutdownSent k1 (same_open e.phase t1 t2 g1 ShutdownSent i1 i2).1 refl)
  one_shutdown n x y (ShutdownCounts t1 g1 i1 k1 q1) (Again t2 i2) = absurd (not_there takes_acknowledgements g1 ShutdownAckSent k1 (same_open e.phase t1 t2 g1 ShutdownAckSent i1 i2).1 refl)
  one_shutdown n x y (Crosses t1 i1) (ShutdownNotOpen o2) = absurd (deaf (λ g. true) e.phase t1 _ o2 i1 refl)
  one_shutdown n x y (Crosses t1 i1) (ShutdownWrong t2 g2 i2 k2 q2) = absurd (not_there takes_acknowledgements g2 ShutdownSent k2 (same_open e.phase t2 t1 g2 ShutdownSent i2 i1).1 refl)
  one_shutdown n x y (Crosses t1 i1) (ShutdownStale t2 g2 i2 k2 q2) = absurd (not_there takes_acknowledgements g2 ShutdownSent k2 (same_open e.phase t2 t1 g2 ShutdownSent i2 i1).1 refl)
  one_shutdown n x y (Crosses t1 i1) (ShutdownCounts t2 g2 i2 k2 q2) = absurd (not_there takes_acknowledgements g2 ShutdownSent k2 (same_open e.phase t2 t1 g2 ShutdownSent i2 i1).1 refl)
  one_shutdown n x y (Crosses t1 i1) (Crosses t2 i2) = let q = same_open e.phase t1 t2 ShutdownSent ShutdownSent i1 i2 in ap (λ (t : Tags). GoesOn Unnoted (answers_shutdown t e)) q.0
  one_shutdown n x y (Crosses t1 i1) (Again t2 i2) = absurd (let q = (same_open e.phase t1 t2 ShutdownSent ShutdownAckSent i1 i2).1 in cc)
  one_shutdown n x y (Again t1 i1) (ShutdownNotOpen o2) = absurd (deaf (λ g. true) e.phase t1 _ o2 i1 refl)
  one_shutdown n x y (Again t1 i1) (ShutdownWrong t2 g2 i2 k2 q2) = absurd (not_there takes_acknowledgements g2 ShutdownAckSent k2 (same_open e.phase t2 t1 g2 ShutdownAckSent i2 i1).1 refl)
  one_shutdown n x y (Again t1 i1) (ShutdownStale t2 g2 i2 k2 q2) = absurd (not_there takes_acknowledgements g2 ShutdownAckSent k2 (same_open e.phase t2 t1 g2 ShutdownAckSent i2 i1).1 refl)
  one_shutdown n x y (Again t1 i1) (ShutdownCounts t2 g2 i2 k2 q2) = absurd (not_there takes_acknowledgements g2 ShutdownAckSent k2 (same_open e.phase t2 t1 g2 ShutdownAckSent i2 i1).1 refl)
  one_shutdown n x y (Again t1 i1) (Crosses t2 i2) = absurd (let q = (same_open e.phase t2 t1 ShutdownSent ShutdownAckSent i2 i1).1 in cc)
  one_shutdown n x y (Again t1 i1) (Again t2 i2) = refl

  one_shutdown_ack : (x y : After) → ShutdownAckActs e x → ShutdownAckActs e y → x ≡ y
  one_shutdown_ack x y (AckNotAwaited _) (AckNotAwaited _) = refl
  one_shutdown_ack x y (AckNotAwaited a) (AckCompletes t g i k) = absurd (deaf awaits_ack e.phase t g a i k)
  one_shutdown_ack x y (AckCompletes t g i k) (AckNotAwaited a) = absurd (deaf awaits_ack e.phase t g a i k)
  one_shutdown_ack x y (AckCompletes t g i k) (AckCompletes u h j l) =
      ap (λ (v : Tags). Replies (closed Completed e) (packet_to e.configuration v.peer (ShutdownComplete false))) (same_open e.phase t u g h i j).0

  one_complete : (x y : After) → CompleteActs e x → CompleteActs e y → x ≡ y
  one_complete x y (CompleteNotAwaited _) (CompleteNotAwaited _) = refl
  one_complete x y (CompleteNotAwaited a) (CompleteCompleted h) = absurd (clash h a)
  one_complete x y (CompleteCompleted h) (CompleteNotAwaited a) = absurd (clash h a)
  one_complete x y (CompleteCompleted _) (CompleteCompleted _) = refl

  calls_not : (d : Draw) → e.phase ≡ Calling d → is_calling e.phase ≡ false → ⊥
  calls_not d i a = let q : true ≡ false = sym (ap is_calling i) ∙ a in absurd (cc)

  one_init_ack : (m : InitMeaning) (x y : After) → InitAckActs e m x → InitAckActs e m y → x ≡ y
  one_init_ack m x y (NotCalling _) (NotCalling _) = refl
  one_init_ack m x y (NotCalling a) (NoTag d i _) = absurd (calls_not d i a)
  one_init_ack m x y (NotCalling a) (RefusedAck d _ i _ _) = absurd (calls_not d i a)
  one_init_ack m x y (NotCalling a) (AcceptedAck d _ i _ _ _) = absurd (calls_not d i a)
  one_init_ack m x y (NoTag d i _) (NotCalling a) = absurd (calls_not d i a)
  one_init_ack m x y (NoTag _ _ _) (NoTag _ _ _) = refl
  one_init_ack m x y (NoTag _ _ z) (RefusedAck _ _ _ s _) = absurd (omega (arith, z, s))
  one_init_ack m x y (NoTag _ _ z) (AcceptedAck _ _ _ s _ _) = absurd (omega (arith, z, s))
  one_init_ack m x y (RefusedAck d _ i _ _) (NotCalling a) = absurd (calls_not d i a)
  one_init_ack m x y (RefusedAck _ _ _ s _) (NoTag _ _ z) = absurd (omega (arith, z, s))
  one_init_ack m x y (RefusedAck _ u _ _ q) (RefusedAck _ w _ _ r) =
      let same : Some u ≡ Some w = sym q ∙ r in
      let it : u ≡ w = cc in
      ap (λ (z : Typed). Replies (closed AbortedHere e) (packet_to e.configuration m.tag (abort_for z))) it
  one_init_ack m x y (RefusedAck _ u _ _ q) (AcceptedAck _ xs _ _ v r) = absurd (let same : Some u ≡ None = sym q ∙ ap (ack_fault e m) v ∙ r in cc)
  one_init_ack m x y (AcceptedAck d _ i _ _ _) (NotCalling a) = absurd (calls_not d i a)
  one_init_ack m x y (AcceptedAck _ _ _ s _ _) (NoTag _ _ z) = absurd (omega (arith, z, s))
  one_init_ack m x y (AcceptedAck _ xs _ _ v r) (RefusedAck _ u _ _ q) = absurd (let same : Some u ≡ None = sym q ∙ ap (ack_fault e m) v ∙ r in cc)
  one_init_ack m x y (AcceptedAck d xs i _ v _) (AcceptedAck c ys j _ w _) =
      let calls : Calling d ≡ Calling c = sym i ∙ j in
      let draw : d ≡ c = cc in
      let both : Some xs ≡ Some ys = sym v ∙ w in
      let cookie : xs ≡ ys = cc in
      ap (λ (z : Draw). GoesOn Unnoted (echoing e z m xs)) draw ∙ ap (λ (z : List ℕ). GoesOn Unnoted (echoing e c m z)) cookie

  ours_or_not : (tag : ℕ) (xs : List ℕ) (s z : Sealing) (t u : Tags) (g h : Stage) → seal_in e.role ≡ Some s → seal_in e.role ≡ Some z → e.phase ≡ Open t g → e.phase ≡ Open u h →
      is_ours t (cookie_read s e tag xs) ≡ true → is_ours u (cookie_read z e tag xs) ≡ false → ⊥
  ours_or_not tag xs s z t u g h r l i j q w =
      let both : Some s ≡ Some z = sym r ∙ l in
      let seal : s ≡ z = cc in
      let tags = (same_open e.phase t u g h i j).0 in
      let moved : is_ours u (cookie_read z e tag xs) ≡ true =
      subst (λ (v : Tags). is_ours v (cookie_read z e tag xs) ≡ true) tags (subst (λ (v : Sealing). is_ours t (cookie_read v e tag xs) ≡ true) seal q) in
      absurd (clash moved w)

  one_echo : (tag : ℕ) (xs : List ℕ) (x y : After) → EchoActs e tag xs x → EchoActs e tag xs y → x ≡ y
  one_echo tag xs x y (NotHere _) (NotHere _) = refl
  one_echo tag xs x y (NotHere (inl n)) (EchoedAgain _ _ _ r _ _ _) = absurd (cc)
  one_echo tag xs x y (NotHere (inr a)) (EchoedAgain _ t g _ i k _) = absurd (deaf takes_cookies e.phase t g a i k)
  one_echo tag xs x y (NotHere (inl n)) (IsStrange _ _ _ r _ _ _) = absurd (cc)
  one_echo tag xs x y (NotHere (inr a)) (IsStrange _ t g _ i k _) = absurd (deaf takes_cookies e.phase t g a i k)
  one_echo tag xs x y (EchoedAgain _ _ _ r _ _ _) (NotHere (inl n)) = absurd (cc)
  one_echo tag xs x y (EchoedAgain _ t g _ i k _) (NotHere (inr a)) = absurd (deaf takes_cookies e.phase t g a i k)
  one_echo tag xs x y (EchoedAgain _ _ _ _ _ _ _) (EchoedAgain _ _ _ _ _ _ _) = refl
  one_echo tag xs x y (EchoedAgain s t g r i _ q) (IsStrange z u h l j _ w) = absurd (ours_or_not tag xs s z t u g h r l i j q w)
  one_echo tag xs x y (IsStrange _ _ _ r _ _ _) (NotHere (inl n)) = absurd (cc)
  one_echo tag xs x y (IsStrange _ t g _ i k _) (NotHere (inr a)) = absurd (deaf takes_cookies e.phase t g a i k)
  one_echo tag xs x y (IsStrange z u h l j _ w) (EchoedAgain s t g r i _ q) = absurd (ours_or_not tag xs s z t u g h r l i j q w)
  one_echo tag xs x y (IsStrange _ _ _ _ _ _ _) (IsStrange _ _ _ _ _ _ _) = refl

  one_cookie_ack : (x y : After) → CookieAckActs e x → CookieAckActs e y → x ≡ y
  one_cookie_ack x y (NotEchoing _) (NotEchoing _) = refl
  one_cookie_ack x y (NotEchoing a) (CookieAcked t xs i) = absurd (let q : true ≡ false = sym (ap is_echoing i) ∙ a in cc)
  one_cookie_ack x y (CookieAcked t xs i) (NotEchoing a) = absurd (let q : true ≡ false = sym (ap is_echoing i) ∙ a in cc)
  one_cookie_ack x y (CookieAcked t xs i) (CookieAcked u ys j) =
      let both : Echoing t xs ≡ Echoing u ys = sym i ∙ j in
      let tags : t ≡ u = cc in
      ap (λ (v : Tags). GoesOn Unnoted (acknowledged_echo v e)) tags

  pub one_after : (tag : ℕ) (c : ChunkMeaning) (x y : After) → Acts e tag c x → Acts e tag c y → x ≡ y
  one_after tag (Data p) x y a b = one_piece Plain p x y a b
  one_after tag (IData p) x y a b = one_piece Interleaved p x y a b
  one_after tag (Init m) x y a b = a ∙ sym b
  one_after tag (InitAck m) x y a b = one_init_ack m x y a b
  one_after tag (Sack s) x y a b = one_sack s x y a b
  one_after tag (Heartbeat n) x y a b = one_heartbeat n x y a b
  one_after tag (HeartbeatAck n) x y a b = a ∙ sym b
  one_after tag (Abort t n) x y a b = a ∙ sym b
  one_after tag (Shutdown n) x y a b = one_shutdown n x y a b
  one_after tag ShutdownAck x y a b = one_shutdown_ack x y a b
  one_after tag (Error n) x y a b = one_error n x y a b
  one_after tag (CookieEcho xs) x y a b = one_echo tag xs x y a b
  one_after tag CookieAck x y a b = one_cookie_ack x y a b
  one_after tag (ShutdownComplete t) x y a b = one_complete x y a b
  one_after tag (ForwardTsn m) x y a b = one_forward Plain m x y a b
  one_after tag (IForwardTsn m) x y a b = one_forward Interleaved m x y a b
  one_after tag (Unknown k f v) x y (ReconfigComes c _ p) (ReconfigComes d _ q) = ap (λ (n : ℕ). GoesOn Unnoted (parameters_heard n e (typed_in v))) (cumulative_only e.receiver c d p q)
  one_after tag (Unknown k f v) x y (ReconfigComes _ on _) (IsUnknown _ off _) = absurd (clash on off)
  one_after tag (Unknown k f v) x y (IsUnknown _ off _) (ReconfigComes _ on _) = absurd (clash on off)
  one_after tag (Unknown k f v) x y (IsUnknown _ _ a) (IsUnknown _ _ b) = a ∙ sym b
