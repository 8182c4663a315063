-- What each of a receiver's calls keeps holds of both receivers in every world of every run: nothing else in the world changes a receiver.
use Rattle.std.proofs.Common.{◌≡◌, ℕ, max, Bool, true, false, List, [], ◌∷◌, ◌++◌, Option, None, sym, subst, Some}
use Rattle.sctp_model.specs.wire.Packet.{Packet}
use Rattle.sctp_model.specs.wire.Chunk.{PieceMeaning, ForwardMeaning, ChunkMeaning, Data, IData, Init, InitAck, Sack, Heartbeat, HeartbeatAck, Abort, Shutdown, ShutdownAck, Error, CookieEcho, CookieAck, ShutdownComplete, ForwardTsn, IForwardTsn, Unknown}
use Rattle.sctp_model.specs.messages.Format.{Format}
use Rattle.sctp_model.specs.receiver.ReceiverView.{Handed, ReceiverView, fresh_receiver}
use Rattle.sctp_model.specs.receiver.PieceTaken.{PieceAnswer, PieceTaken}
use Rattle.sctp_model.specs.receiver.ForwardTaken.{ForwardAnswer, ForwardTaken}
use Rattle.sctp_model.specs.receiver.SackMade.{sack_sent, TakeLeaves}
use Rattle.sctp_model.specs.end.EndView.{Terms, Configuration, Draw, Aborted, EndView, format_of, format_for}
use Rattle.sctp_model.specs.end.Clock.{closed}
use Rattle.sctp_model.specs.end.Closing.{rested}
use Rattle.sctp_model.specs.end.PeerFaults.{GoesOn, Ends, Replies, Note, Unnoted}
use Rattle.sctp_model.specs.end.Opening.{AcceptedAck, RefusedAck, EchoedAgain, CookieAcked, begun}
use Rattle.sctp_model.specs.end.Beating.{beat_heard}
use Rattle.sctp_model.specs.end.Acting.{Acts, ForwardComes, PieceComes, IsOld, SackStale, ShutdownStale, HeartbeatCounts, SackCounts, ShutdownCounts, Closes, SaysNothing, Crosses, Again, AckCompletes, CompleteCompleted, PieceEmpty, WrongFormat, SackWrong, ShutdownWrong, WrongKind, IsBad, ReconfigComes, IsUnknown, Misnumbered}
use Rattle.sctp_model.specs.end.Wearing.{missed_below, wearing}
use Rattle.sctp_model.specs.end.Arriving.{AllAct, NoneLeft, Next, Last, EndsAnswered, Stopped, Arrives, Elsewhere, NotOurs, Stray, CookieBegins, Heard, DroppedUnread, ReadAs, CutFirst, CutLater, Notes, no_notes, noted, urged, packet_ended}
use Rattle.sctp_model.specs.end.Arriving.{Passes}
use Rattle.sctp_model.specs.end.Strays.{Verdict}
use Rattle.sctp_model.specs.end.Building.{Slot, Puts, NoMore, NotDue, Put, IsFull, Builds, Sleeps, Waits, Calls, Echoes, Fills, EchoSlot, CookieAckSlot, HeartbeatSlot, BeatSlot, ErrorSlot, SackSlot, ForwardSlot, ShutdownSlot, ShutdownAckSlot, once_built, AnswerSlot, RequestSlot}
use Rattle.sctp_model.specs.end.Building.{EndsFull}
use Rattle.sctp_model.specs.end.Moments.{ticked}
use Rattle.sctp_model.specs.end.UserCalls.{send_answer, shut, abort_answer, abort_leaves, ResetCall, Begun, NotAgreed, NoStream, reset_call, reset_leaves, reset_there, told_leaves}
use Rattle.sctp_model.specs.world.World.{Side, A, B, World, end_of, end_now, start, Setup, clock_of}
use Rattle.sctp_model.specs.world.Events.{Event, Outcome}
use Rattle.sctp_model.specs.world.Steps.{Step, OpensBoth, OpenRefused, TimePasses, Draws, Connects, ConnectRefused, BuildsOne, BuildsNone, PacketComes, IsAbsent, Sends, AbandonsOne, TakesOne, ShutsDown, AbortsIt, NoMemory, Run, Rest, Then, PacketCut, ResetsOne, TellsReset, TimeGoesOn, MomentComes}
use Rattle.sctp_safety.proofs.machine.EndWords.{ended_cases}
use Rattle.sctp_safety.proofs.machine.Sides.{unknown_goes, unknown_ends, unknown_never_replies}
use Rattle.sctp_outcomes.proofs.Unheard.{IsUnheard, unheard_rested, unheard_worn, unheard_ticked, unheard_sent, unheard_abandoned, unheard_shut, unheard_aborted}
use Rattle.sctp_safety.proofs.machine.OneEnd.{IsAt, at_end, at_log, at_packet, at_came, answer_of, at_verdict, abort_of, at_abort, both_ends}
use Rattle.sctp_model.specs.receiver.ResetTaken.{told_of}
use Rattle.sctp_model.specs.receiver.Incoming.{Incoming}
use Rattle.sctp_model.specs.end.Reconfiguring.{asking}
use Rattle.sctp_model.specs.wire.Typed.{typed_in}
use Rattle.sctp_safety.proofs.machine.Reconfigured.{IsReconfigured, parameters_same, asking_same}

-- What holds of a new receiver with so large a buffer, and is kept by each of its calls.
pub record IsReceiverLaw (P : Format → (buffer : ℕ) → ReceiverView → Type 0) : Type 0 where
  pub fresh : (f : Format) (i n b v : ℕ) → P f b (fresh_receiver i n b v)
  pub piece : (f : Format) (b : ℕ) (r : ReceiverView) (p : PieceMeaning) (a : PieceAnswer) (t : ReceiverView) → P f b r → PieceTaken f r p a t → P f b t
  pub forward : (f : Format) (b : ℕ) (r : ReceiverView) (m : ForwardMeaning) (a : ForwardAnswer) (t : ReceiverView) → P f b r → ForwardTaken f r m a t → P f b t
  pub sent : (f : Format) (b : ℕ) (r : ReceiverView) → P f b r → P f b (sack_sent r)
  pub taken : (f : Format) (b : ℕ) (r : ReceiverView) (s : ℕ) (h : Option Handed) (t : ReceiverView) → P f b r → TakeLeaves r s h t → P f b t
  pub reset : (f : Format) (b : ℕ) (r : ReceiverView) (x : Incoming) → P f b r → P f b (record r { resets = x })

-- it holds whatever the buffer
abbrev pub Whatever : (Format → ReceiverView → Type 0) → Format → (buffer : ℕ) → ReceiverView → Type 0
Whatever P f b r = P f r

-- ---- an endpoint

module _ (P : Format → ℕ → ReceiverView → Type 0) (law : IsReceiverLaw P) where
  abbrev pub Holds : EndView → Type 0
  Holds e = P (format_of e) e.configuration.buffer e.receiver

  holds_same : (e t : EndView) → IsUnheard e t → Holds e → Holds t
  holds_same e t u h =
      subst (λ (x : Terms). P (format_for x.interleave) t.configuration.buffer t.receiver) (sym u.terms)
      (subst (λ (c : Configuration). P (format_of e) c.buffer t.receiver) (sym u.configuration)
      (subst (λ (r : ReceiverView). P (format_of e) e.configuration.buffer r) (sym u.receiver) h))

  holds_reconfigured : (e t : EndView) → IsReconfigured e t → Holds e → Holds t
  holds_reconfigured e t u h =
      subst (λ (x : Terms). P (format_for x.interleave) t.configuration.buffer t.receiver) (sym u.terms)
      (subst (λ (c : Configuration). P (format_of e) c.buffer t.receiver) (sym u.configuration)
      (subst (λ (r : ReceiverView). P (format_of e) e.configuration.buffer r) (sym u.receiver.1) (law.reset (format_of e) e.configuration.buffer e.receiver u.receiver.0 h)))

  pub holds_asking : (e : EndView) → Holds e → Holds (asking e)
  holds_asking e h = holds_reconfigured e (asking e) (asking_same e) h

  -- a chunk after which the packet goes on
  pub holds_goes : (e : EndView) (tag : ℕ) (x : ChunkMeaning) (y : Note) (t : EndView) → Holds e → Acts e tag x (GoesOn y t) → Holds t
  holds_goes e tag (Data p) y t k (PieceComes u g a r _ _ _ _ came _) = law.piece (format_of e) e.configuration.buffer e.receiver p a r k came
  holds_goes e tag (IData p) y t k (PieceComes u g a r _ _ _ _ came _) = law.piece (format_of e) e.configuration.buffer e.receiver p a r k came
  holds_goes e tag (Init m) y t k h = absurd (cc)
  holds_goes e tag (InitAck m) y t k (AcceptedAck _ _ _ _ _ _) = law.fresh _ _ _ _ _
  holds_goes e tag (Sack s) y t k (SackStale _ _) = k
  holds_goes e tag (Sack s) y t k (SackCounts _ _) = k
  holds_goes e tag (Heartbeat i) y t k (HeartbeatCounts _) = k
  holds_goes e tag (HeartbeatAck i) y t k h = let q : t ≡ beat_heard e i = cc in subst Holds (sym q) k
  holds_goes e tag (Abort b xs) y t k h = absurd (cc)
  holds_goes e tag (Shutdown n) y t k (ShutdownStale _ _ _ _ _) = k
  holds_goes e tag (Shutdown n) y t k (ShutdownCounts _ _ _ _ _) = k
  holds_goes e tag (Shutdown n) y t k (Crosses _ _) = k
  holds_goes e tag (Shutdown n) y t k (Again _ _) = k
  holds_goes e tag ShutdownAck y t k h = elim h [ ]
  holds_goes e tag (Error xs) y t k (SaysNothing _) = k
  holds_goes e tag (CookieEcho xs) y t k (EchoedAgain _ _ _ _ _ _ _) = k
  holds_goes e tag CookieAck y t k (CookieAcked _ _ _) = k
  holds_goes e tag (ShutdownComplete b) y t k h = elim h [ ]
  holds_goes e tag (ForwardTsn m) y t k (IsOld _ _ r _ _ _ came) = law.forward (format_of e) e.configuration.buffer e.receiver m _ r k came
  holds_goes e tag (ForwardTsn m) y t k (ForwardComes _ _ r _ _ _ came) = law.forward (format_of e) e.configuration.buffer e.receiver m _ r k came
  holds_goes e tag (IForwardTsn m) y t k (IsOld _ _ r _ _ _ came) = law.forward (format_of e) e.configuration.buffer e.receiver m _ r k came
  holds_goes e tag (IForwardTsn m) y t k (ForwardComes _ _ r _ _ _ came) = law.forward (format_of e) e.configuration.buffer e.receiver m _ r k came
  holds_goes e tag (Unknown n f v) y t k (ReconfigComes c _ _) = holds_reconfigured e t (parameters_same c e (typed_in v)) k
  holds_goes e tag (Unknown n f v) y t k (IsUnknown _ _ h) = let u = unknown_goes e y t n f v h in subst Holds (sym u.same) k

  -- one that ends it
  holds_ends : (e : EndView) (tag : ℕ) (x : ChunkMeaning) (t : EndView) → Holds e → Acts e tag x (Ends t) → Holds t
  holds_ends e tag (Data p) t k h = elim h [ ]
  holds_ends e tag (IData p) t k h = elim h [ ]
  holds_ends e tag (Init m) t k h = absurd (cc)
  holds_ends e tag (InitAck m) t k h = elim h [ ]
  holds_ends e tag (Sack s) t k h = elim h [ ]
  holds_ends e tag (Heartbeat i) t k h = elim h [ ]
  holds_ends e tag (HeartbeatAck i) t k h = absurd (cc)
  holds_ends e tag (Abort b xs) t k h = let q : t ≡ closed Aborted e = cc in subst Holds (sym q) k
  holds_ends e tag (Shutdown n) t k h = elim h [ ]
  holds_ends e tag ShutdownAck t k h = elim h [ ]
  holds_ends e tag (Error xs) t k (Closes _) = k
  holds_ends e tag (CookieEcho xs) t k h = elim h [ ]
  holds_ends e tag CookieAck t k h = elim h [ ]
  holds_ends e tag (ShutdownComplete b) t k (CompleteCompleted _) = k
  holds_ends e tag (ForwardTsn m) t k h = elim h [ ]
  holds_ends e tag (IForwardTsn m) t k h = elim h [ ]
  holds_ends e tag (Unknown n f v) t k (IsUnknown _ _ h) = let u = unknown_ends e t n f v h in subst Holds (sym u.same) k

  -- one that is answered
  holds_replies : (e : EndView) (tag : ℕ) (x : ChunkMeaning) (t : EndView) (p : Packet) → Holds e → Acts e tag x (Replies t p) → Holds t
  holds_replies e tag (Data q) t p k (PieceEmpty _ _ _ _ _) = k
  holds_replies e tag (Data q) t p k (WrongFormat _ _ _ _ _ _) = k
  holds_replies e tag (Data q) t p k (Misnumbered _ _ _ _ _ _ _ _ _) = k
  holds_replies e tag (IData q) t p k (PieceEmpty _ _ _ _ _) = k
  holds_replies e tag (IData q) t p k (WrongFormat _ _ _ _ _ _) = k
  holds_replies e tag (IData q) t p k (Misnumbered _ _ _ _ _ _ _ _ _) = k
  holds_replies e tag (Init m) t p k h = absurd (cc)
  holds_replies e tag (InitAck m) t p k (RefusedAck _ _ _ _ _) = k
  holds_replies e tag (Sack s) t p k (SackWrong _ _ _ _ _) = k
  holds_replies e tag (Heartbeat i) t p k h = elim h [ ]
  holds_replies e tag (HeartbeatAck i) t p k h = absurd (cc)
  holds_replies e tag (Abort b xs) t p k h = absurd (cc)
  holds_replies e tag (Shutdown n) t p k (ShutdownWrong _ _ _ _ _) = k
  holds_replies e tag ShutdownAck t p k (AckCompletes _ _ _ _) = k
  holds_replies e tag (Error xs) t p k h = elim h [ ]
  holds_replies e tag (CookieEcho xs) t p k h = elim h [ ]
  holds_replies e tag CookieAck t p k h = elim h [ ]
  holds_replies e tag (ShutdownComplete b) t p k h = elim h [ ]
  holds_replies e tag (ForwardTsn m) t p k (WrongKind _ _ _ _ _) = k
  holds_replies e tag (ForwardTsn m) t p k (IsBad _ _ _ _ _ _ _) = k
  holds_replies e tag (IForwardTsn m) t p k (WrongKind _ _ _ _ _) = k
  holds_replies e tag (IForwardTsn m) t p k (IsBad _ _ _ _ _ _ _) = k
  holds_replies e tag (Unknown n f v) t p k (IsUnknown _ _ h) = absurd (unknown_never_replies e t p n f v h)

  pub holds_rested : (e : EndView) → Holds e → Holds (rested e)
  holds_rested e k = holds_same e (rested e) (unheard_rested e) k

  pub holds_acts : (tag : ℕ) (e : EndView) (b : Notes) (xs : List ChunkMeaning) (t : EndView) (m : Notes) (v : Verdict) → Holds e → AllAct tag e b xs t m v → Holds t
  holds_acts tag e b xs t m v k (NoneLeft _ _) = k
  holds_acts tag e b xs t m v k (Next _ mid _ y _ _ x ys _ act rest) = holds_acts tag (rested mid) (noted y b) ys t m v (holds_rested mid (holds_goes e tag x y mid k act)) rest
  holds_acts tag e b xs t m v k (Passes _ _ _ _ x ys _ act rest) = holds_acts tag e b ys t m v k rest
  holds_acts tag e b xs t m v k (Last _ _ _ x ys act) = holds_ends e tag x t k act
  holds_acts tag e b xs t m v k (EndsAnswered _ _ _ x ys p act) = holds_replies e tag x t p k act
  holds_acts tag e b xs t m v k (Stopped _ _ x ys n act) = k

  holds_ended : (n : Notes) (e : EndView) → Holds e → Holds (packet_ended n e)
  holds_ended n e k = ended_cases Holds n e k (λ t g is. k) (λ t g is. k) (λ x h. h)

  holds_worn : (from : ℕ) (e : EndView) → Holds e → Holds (wearing from e)
  holds_worn from e k = holds_same e (wearing from e) (unheard_worn from e) k

  pub holds_arrives : (e : EndView) (d : Draw) (p : Packet) (t : EndView) (v : Verdict) → Holds e → Arrives e d p t v → Holds t
  holds_arrives e d p t v k (Elsewhere _) = k
  holds_arrives e d p t v k (NotOurs _ _) = k
  holds_arrives e d p t v k (Stray _ _ _ _) = k
  holds_arrives e d p t v k (CookieBegins b u n _ _ _ _ _ acts gap _) = holds_ended (urged gap n) u (holds_acts p.tag (begun b e) (noted Unnoted no_notes) _ u n v (law.fresh _ _ _ _ _) acts)
  holds_arrives e d p t v k (Heard u n _ _ _ _ acts gap _) =
      holds_ended (urged gap n) (wearing (missed_below e.pace) u) (holds_worn (missed_below e.pace) u (holds_acts p.tag e no_notes p.chunks u n v k acts))

  -- ---- a packet that is built

  pub holds_built : (s : Slot) (e : EndView) → Holds e → Holds (once_built s e)
  holds_built EchoSlot e k = k
  holds_built CookieAckSlot e k = k
  holds_built HeartbeatSlot e k = k
  holds_built BeatSlot e k = k
  holds_built ErrorSlot e k = k
  holds_built SackSlot e k = law.sent (format_of e) e.configuration.buffer e.receiver k
  holds_built ForwardSlot e k = k
  holds_built AnswerSlot e k = law.reset (format_of e) e.configuration.buffer e.receiver (record e.receiver.resets { answers = [] }) k
  holds_built RequestSlot e k = k
  holds_built ShutdownSlot e k = k
  holds_built ShutdownAckSlot e k = k

  pub holds_puts : (ss : List Slot) (e : EndView) (xs zs : List ChunkMeaning) (full : Bool) (t : EndView) → Holds e → Puts ss e xs zs full t → Holds t
  holds_puts ss e xs zs full t k (NoMore _ _) = k
  holds_puts ss e xs zs full t k (NotDue _ more _ _ _ _ _ off rest) = holds_puts more e xs zs full t k rest
  holds_puts ss e xs zs full t k (Put s more _ x _ _ _ _ due wants room rest) = holds_puts more (once_built s e) (xs ++ x ∷ []) zs full t (holds_built s e k) rest
  holds_puts ss e xs zs full t k (IsFull _ _ _ _ _ due wants room) = k

  pub holds_builds : (e : EndView) (zs : List ChunkMeaning) (t : EndView) → Holds e → Builds e zs t → Holds t
  holds_builds e zs t k (Sleeps _) = k
  holds_builds e zs t k (Waits _ _ _) = k
  holds_builds e zs t k (Calls _ _ _) = k
  holds_builds e zs t k (Echoes _ _ _ full _ is puts) = holds_puts _ e [] zs full t k puts
  holds_builds e zs t k (EndsFull _ _ _ _ is puts) = holds_puts _ (asking e) [] zs true t (holds_asking e k) puts
  holds_builds e zs t k (Fills _ _ ys x is puts) = holds_puts _ (asking e) [] ys false x (holds_asking e k) puts

  holds_reset : (e : EndView) (a : ResetCall) (n : ℕ) → Holds e → Holds (reset_leaves a e n)
  holds_reset e Begun n k = k
  holds_reset e NotAgreed n k = k
  holds_reset e NoStream n k = k

  holds_told : (e : EndView) (o : Option ℕ) → Holds e → Holds (told_leaves o e)
  holds_told e None k = k
  holds_told e (Some n) k = law.reset (format_of e) e.configuration.buffer e.receiver (told_of e.receiver n).resets k

  -- ---- a world

  abbrev pub HoldsIn : World → Type 0
  HoldsIn w = (x : Side) → Holds (end_of w x)

  holds_at : (w v : World) (x : Side) (t : EndView) (given : Option Packet) → IsAt w v x t given → HoldsIn w → Holds t → HoldsIn v
  holds_at w v x t given at all new = both_ends (λ (y : Side) (e : EndView). Holds e) w v x t given at all new

  pub holds_step : (w : World) (e : Event) (o : Option Outcome) (v : World) → HoldsIn w → Step w e o v → HoldsIn v
  holds_step w e o v k (OpensBoth x y like may dx dy) = both
    where
      both : HoldsIn v
      both A = law.fresh _ _ _ _ _
      both B = law.fresh _ _ _ _ _
  holds_step w e o v k (OpenRefused x y closed) = k
  holds_step w e o v k (TimeGoesOn A m small) = both
    where
      both : HoldsIn v
      both A = k A
      both B = k B
  holds_step w e o v k (TimeGoesOn B m small) = both
    where
      both : HoldsIn v
      both A = k A
      both B = k B
  holds_step w e o v k (MomentComes x) =
      holds_at w v x _ None (at_log w x _ _) k (holds_same (end_of w x) (ticked (end_of w x) (clock_of w x)) (unheard_ticked (end_of w x) (clock_of w x)) (k x))
  holds_step w e o v k (TimePasses m small) = both
    where
      both : HoldsIn v
      both A = holds_same w.a (ticked w.a (max w.clock_a m)) (unheard_ticked w.a (max w.clock_a m)) (k A)
      both B = holds_same w.b (ticked w.b (max w.clock_b m)) (unheard_ticked w.b (max w.clock_b m)) (k B)
  holds_step w e o v k (Draws d dd) = both
    where
      both : HoldsIn v
      both A = k A
      both B = k B
  holds_step w e o v k (Connects d dd answer) = both
    where
      both : HoldsIn v
      both A = k A
      both B = k B
  holds_step w e o v k (ConnectRefused d answer) = k
  holds_step w e o v k (BuildsOne x y ys t b) = holds_at w v x t _ (at_packet w x t _) k (holds_builds (end_now w x) (y ∷ ys) t (k x) b)
  holds_step w e o v k (BuildsNone x t b) = holds_at w v x t None (at_end w x t) k (holds_builds (end_now w x) [] t (k x) b)
  holds_step w e o v k (PacketComes _ x _ t d brings (ReadAs p _ _ arrives)) = holds_at w v x t (answer_of d) (at_verdict w x t d) k (holds_arrives (end_now w x) w.draw p t d (k x) arrives)
  holds_step w e o v k (IsAbsent x n none) = k
  holds_step w e o v k (PacketComes _ x _ _ _ brings DroppedUnread) = holds_at w v x (end_now w x) None (at_came w x (end_now w x)) k (k x)
  holds_step w e o v k (Sends x c) = holds_at w v x _ None (at_log w x _ _) k (holds_same (end_of w x) _ (unheard_sent (end_of w x) c (send_answer (end_of w x) c)) (k x))
  holds_step w e o v k (AbandonsOne x n) = holds_at w v x _ None (at_log w x _ _) k (holds_same (end_of w x) _ (unheard_abandoned (end_of w x) n) (k x))
  holds_step w e o v k (TakesOne x n h t takes) =
      holds_at w v x t None (at_end w x t) k (subst Holds (sym takes.leaves) (law.taken (format_of (end_of w x)) (end_of w x).configuration.buffer (end_of w x).receiver n h takes.receiver (k x) takes.takes))
  holds_step w e o v k (ResetsOne x n) = holds_at w v x (reset_leaves (reset_call (end_of w x) n) (end_of w x) n) None (at_end w x _) k (holds_reset (end_of w x) (reset_call (end_of w x) n) n (k x))
  holds_step w e o v k (TellsReset x) = holds_at w v x (told_leaves (reset_there (end_of w x)) (end_of w x)) None (at_end w x _) k (holds_told (end_of w x) (reset_there (end_of w x)) (k x))
  holds_step w e o v k (ShutsDown x) = holds_at w v x (shut (end_of w x)) None (at_end w x _) k (holds_same (end_of w x) _ (unheard_shut (end_of w x)) (k x))
  holds_step w e o v k (AbortsIt x r) =
      holds_at w v x (abort_leaves (abort_answer (end_of w x) r) (end_of w x)) (abort_of (abort_answer (end_of w x) r)) (at_abort w x _ _) k
      (holds_same (end_of w x) _ (unheard_aborted (end_of w x) (abort_answer (end_of w x) r)) (k x))
  holds_step w e o v k (PacketCut _ x _ _ brings (CutFirst _)) = holds_at w v x (end_now w x) None (at_came w x (end_now w x)) k (k x)
  holds_step w e o v k (PacketCut _ x _ t brings (CutLater p y front back c _ d part arrives untold)) = holds_at w v x t None (at_came w x t) k (holds_arrives (end_now w x) w.draw _ t d (k x) arrives)
  holds_step w e o v k (NoMemory _ other_event) = k

  holds_run : (w : World) (es : List Event) (os : List (Option Outcome)) (v : World) → HoldsIn w → Run w es os v → HoldsIn v
  holds_run w es os v k (Rest _) = k
  holds_run w es os v k (Then _ mid _ e rest o others step run) = holds_run mid rest others v (holds_step w e o mid k step) run

  pub holds_always : (s : Setup) (es : List Event) (os : List (Option Outcome)) (w : World) → Run (start s) es os w → HoldsIn w
  holds_always s es os w run = holds_run (start s) es os w both run
    where
      both : HoldsIn (start s)
      both A = law.fresh _ _ _ _ _
      both B = law.fresh _ _ _ _ _
