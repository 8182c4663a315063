-- How an endpoint turns: nearly everything leaves its terms, and its state but for closing; only an INIT ACK and a COOKIE ACK do more.
use Rattle.std.proofs.Common.{◌≡◌, ℕ, Bool, true, false, List, [], ◌∷◌, ◌++◌, Some, refl, sym, subst, ◌∙◌}
use Rattle.sctp_model.specs.wire.Chunk.{InitMeaning, ChunkMeaning, Data, IData, Init, InitAck, Sack, Heartbeat, HeartbeatAck, Abort, Shutdown, ShutdownAck, Error, CookieEcho, CookieAck, ShutdownComplete, ForwardTsn, IForwardTsn, Unknown}
use Rattle.sctp_model.specs.end.EndView.{AbortedHere, Draw, Tags, Stage, Established, ShutdownPending, ShutdownSent, ShutdownReceived, ShutdownAckSent, Ended, Aborted, Completed, StaleCookie, Phase, Idle, Listening, Calling, Echoing, Open, Over, EndView, has_association}
use Rattle.sctp_model.specs.end.Clock.{closed}
use Rattle.sctp_model.specs.end.Closing.{rested}
use Rattle.sctp_model.specs.end.PeerFaults.{GoesOn, Ends, Note}
use Rattle.sctp_model.specs.end.Options.{STATE_COOKIE, value_of}
use Rattle.sctp_model.specs.end.Opening.{AcceptedAck, EchoedAgain, CookieAcked, echoing}
use Rattle.sctp_model.specs.end.Beating.{beat_heard}
use Rattle.sctp_model.specs.end.Acting.{ReconfigComes, IsUnknown, IsBad, WrongKind, SackWrong, ShutdownWrong, WrongFormat, PieceEmpty, Acts, ForwardComes, PieceComes, IsOld, SackStale, ShutdownStale, HeartbeatCounts, SackCounts, ShutdownCounts, Closes, SaysNothing, Crosses, Again, AckCompletes, CompleteCompleted, Misnumbered}
use Rattle.sctp_model.specs.end.Building.{once_built, Slot, Puts, NoMore, NotDue, Put, IsFull, Builds, Sleeps, Waits, Calls, Echoes, Fills, EchoSlot, CookieAckSlot, HeartbeatSlot, BeatSlot, ErrorSlot, SackSlot, ForwardSlot, AnswerSlot, RequestSlot, ShutdownSlot, ShutdownAckSlot}
use Rattle.sctp_model.specs.end.Building.{EndsFull}
use Rattle.sctp_model.specs.end.Closing.{takes_acknowledgements}
use Rattle.sctp_model.specs.wire.Packet.{Packet}
use Rattle.sctp_model.specs.wire.Typed.{typed_in}
use Rattle.sctp_model.specs.end.Reconfiguring.{asking}
use Rattle.sctp_safety.proofs.machine.Reconfigured.{parameters_same, asking_same}
use Rattle.sctp_model.specs.end.PeerFaults.{Replies}
use Rattle.sctp_model.specs.end.Opening.{RefusedAck}
use Rattle.sctp_model.specs.end.Arriving.{Notes, packet_ended}
use Rattle.sctp_safety.specs.States.{IsStageTurn, Says, PeerShuts, BothShut, Cross, Answers, IsTurn, ByStage, IsPath, Here, On, has_begun}
use Rattle.sctp_safety.proofs.machine.EndWords.{rested_cases, ended_cases}
use Rattle.sctp_safety.proofs.machine.Sides.{unknown_never_replies, unknown_goes, unknown_ends}

-- ---- plain turns

pub begun_by_association : (h : Phase) → has_association h ≡ true → has_begun h ≡ true
begun_by_association Idle e = absurd (cc)
begun_by_association Listening e = absurd (cc)
begun_by_association (Calling d) e = refl
begun_by_association (Echoing t xs) e = refl
begun_by_association (Open t g) e = refl
begun_by_association (Over why) e = absurd (cc)

-- an endpoint stays where it is, closes, or goes on with closing
pub data IsPlainTurn : Phase → Phase → Type 0 where
  Stays : (h : Phase) → IsPlainTurn h h
  Leaves : (h : Phase) (why : Ended) → has_association h ≡ true → IsPlainTurn h (Over why)
  Goes : (t : Tags) (g i : Stage) → IsPath (Open t g) (Open t i) → IsPlainTurn (Open t g) (Open t i)

pub path_on : (h k l : Phase) → IsPath h k → IsPath k l → IsPath h l
path_on h k l (Here _) b = b
path_on h k l (On _ m _ t rest) b = On h m l t (path_on m k l rest b)

pub one_turn : (h k : Phase) → IsTurn h k → IsPath h k
one_turn h k t = On h k k t (Here k)

pub turn_on : (h k l : Phase) → IsPlainTurn h k → IsPlainTurn k l → IsPlainTurn h l
turn_on h k l (Stays _) b = b
turn_on h k l a (Stays _) = a
turn_on h k l (Goes t g i p) (Leaves _ why has) = Leaves (Open t g) why refl
turn_on h k l (Goes t g i p) (Goes _ _ j q) = Goes t g j (path_on (Open t g) (Open t i) (Open t j) p q)
turn_on h k l (Leaves _ why has) (Leaves _ other has') = absurd (cc)

-- the same terms, set up alike, and a plain turn
pub record IsPlain (e t : EndView) : Type 0 where
  pub configuration : t.configuration ≡ e.configuration
  pub role : t.role ≡ e.role
  pub moment : t.moment ≡ e.moment
  pub terms : t.terms ≡ e.terms
  pub turn : IsPlainTurn e.phase t.phase

pub plain_same : (e : EndView) → IsPlain e e
plain_same e = record { configuration = refl; role = refl; moment = refl; terms = refl; turn = Stays e.phase }

pub plain_on : (e t u : EndView) → IsPlain e t → IsPlain t u → IsPlain e u
plain_on e t u a b = record {
  configuration = b.configuration ∙ a.configuration;
  role = b.role ∙ a.role;
  moment = b.moment ∙ a.moment;
  terms = b.terms ∙ a.terms;
  turn = turn_on e.phase t.phase u.phase a.turn b.turn;
}

-- from an open endpoint to another stage
pub goes_from : (e : EndView) (t : Tags) (g i : Stage) → e.phase ≡ Open t g → IsPath (Open t g) (Open t i) → IsPlainTurn e.phase (Open t i)
goes_from e t g i is p = subst (λ (h : Phase). IsPlainTurn h (Open t i)) (sym is) (Goes t g i p)

pub by_stage : (t : Tags) (g i : Stage) → IsStageTurn g i → IsPath (Open t g) (Open t i)
by_stage t g i s = one_turn (Open t g) (Open t i) (ByStage t g i s)

-- the peer's SHUTDOWN
hears_shutdown : (t : Tags) (g : Stage) → takes_acknowledgements g ≡ true → IsPath (Open t g) (Open t ShutdownReceived)
hears_shutdown t Established h = by_stage t Established ShutdownReceived PeerShuts
hears_shutdown t ShutdownPending h = by_stage t ShutdownPending ShutdownReceived BothShut
hears_shutdown t ShutdownSent h = absurd (cc)
hears_shutdown t ShutdownReceived h = Here (Open t ShutdownReceived)
hears_shutdown t ShutdownAckSent h = absurd (cc)

pub plain_rested : (e : EndView) → IsPlain e (rested e)
plain_rested e = rested_cases (IsPlain e) e (plain_same e)
    (λ t is d. record { configuration = refl; role = refl; moment = refl; terms = refl; turn = goes_from e t ShutdownPending ShutdownSent is (by_stage t ShutdownPending ShutdownSent Says) })
    (λ t is d. record { configuration = refl; role = refl; moment = refl; terms = refl; turn = goes_from e t ShutdownReceived ShutdownAckSent is (by_stage t ShutdownReceived ShutdownAckSent Answers) })

-- an endpoint at rest has its association still
pub rested_has : (e : EndView) → has_association e.phase ≡ true → has_association (rested e).phase ≡ true
rested_has e has = rested_cases (λ (t : EndView). has_association t.phase ≡ true) e has (λ t is d. refl) (λ t is d. refl)

-- ---- chunks

-- What a chunk leaves that goes on: a plain turn, or an INIT ACK was accepted, or a COOKIE ACK arrived.
pub data IsLeft (e : EndView) (x : ChunkMeaning) : EndView → Type 0 where
  Plainly : (t : EndView) → IsPlain e t → (has_association e.phase ≡ true → has_association t.phase ≡ true) → IsLeft e x t
  Accepts : (m : InitMeaning) (d : Draw) (cookie : List ℕ) → x ≡ InitAck m → e.phase ≡ Calling d → value_of STATE_COOKIE m.parameters ≡ Some cookie →
      IsLeft e x (echoing e d m cookie)
  Acked : (t : Tags) (cookie : List ℕ) (u : EndView) → x ≡ CookieAck → e.phase ≡ Echoing t cookie → u.configuration ≡ e.configuration → u.role ≡ e.role → u.moment ≡ e.moment →
      u.terms ≡ e.terms → u.phase ≡ Open t Established → IsLeft e x u

-- the same state
still : (e : EndView) (x : ChunkMeaning) (t : EndView) → t.configuration ≡ e.configuration → t.role ≡ e.role → t.moment ≡ e.moment → t.terms ≡ e.terms → e.phase ≡ t.phase → IsLeft e x t
still e x t a b n c p = Plainly t (record { configuration = a; role = b; moment = n; terms = c; turn = subst (IsPlainTurn e.phase) p (Stays e.phase) }) (λ h. subst (λ (k : Phase). has_association k ≡ true) p h)

pub goes_left : (e : EndView) (tag : ℕ) (x : ChunkMeaning) (y : Note) (t : EndView) → Acts e tag x (GoesOn y t) → IsLeft e x t
goes_left e tag (Data p) y t (PieceComes _ _ _ _ _ _ _ _ _ _) = still e _ t refl refl refl refl refl
goes_left e tag (IData p) y t (PieceComes _ _ _ _ _ _ _ _ _ _) = still e _ t refl refl refl refl refl
goes_left e tag (Init m) y t h = absurd (cc)
goes_left e tag (InitAck m) y t (AcceptedAck d cookie is tagged value fault) = Accepts m d cookie refl is value
goes_left e tag (Sack s) y t (SackStale _ _) = still e _ t refl refl refl refl refl
goes_left e tag (Sack s) y t (SackCounts _ _) = still e _ t refl refl refl refl refl
goes_left e tag (Heartbeat i) y t (HeartbeatCounts _) = still e _ t refl refl refl refl refl
goes_left e tag (HeartbeatAck i) y t h = let q : t ≡ beat_heard e i = cc in Plainly t (subst (IsPlain e) (sym q) (record { configuration = refl; role = refl; moment = refl; terms = refl; turn = Stays e.phase })) (λ has. subst (λ (y : EndView). has_association y.phase ≡ true) (sym q) has)
goes_left e tag (Abort b xs) y t h = absurd (cc)
goes_left e tag (Shutdown n) y t (ShutdownStale u g is takes _) = Plainly t (record { configuration = refl; role = refl; moment = refl; terms = refl; turn = goes_from e u g ShutdownReceived is (hears_shutdown u g takes) }) (λ has. refl)
goes_left e tag (Shutdown n) y t (ShutdownCounts u g is takes _) = Plainly t (record { configuration = refl; role = refl; moment = refl; terms = refl; turn = goes_from e u g ShutdownReceived is (hears_shutdown u g takes) }) (λ has. refl)
goes_left e tag (Shutdown n) y t (Crosses u is) = Plainly t (record { configuration = refl; role = refl; moment = refl; terms = refl; turn = goes_from e u ShutdownSent ShutdownAckSent is (by_stage u ShutdownSent ShutdownAckSent Cross) }) (λ has. refl)
goes_left e tag (Shutdown n) y t (Again u is) = still e _ t refl refl refl refl refl
goes_left e tag ShutdownAck y t h = elim h [ ]
goes_left e tag (Error xs) y t (SaysNothing _) = still e _ t refl refl refl refl refl
goes_left e tag (CookieEcho xs) y t (EchoedAgain _ _ _ _ _ _ _) = still e _ t refl refl refl refl refl
goes_left e tag CookieAck y t (CookieAcked u xs is) = Acked u xs t refl is refl refl refl refl refl
goes_left e tag (ShutdownComplete b) y t h = elim h [ ]
goes_left e tag (ForwardTsn m) y t (IsOld _ _ _ _ _ _ _) = still e _ t refl refl refl refl refl
goes_left e tag (ForwardTsn m) y t (ForwardComes _ _ _ _ _ _ _) = still e _ t refl refl refl refl refl
goes_left e tag (IForwardTsn m) y t (IsOld _ _ _ _ _ _ _) = still e _ t refl refl refl refl refl
goes_left e tag (IForwardTsn m) y t (ForwardComes _ _ _ _ _ _ _) = still e _ t refl refl refl refl refl
goes_left e tag (Unknown k f v) y t (ReconfigComes c takes cumulative) = let r = parameters_same c e (typed_in v) in
    Plainly t (record { configuration = r.configuration; role = r.role; moment = r.moment; terms = r.terms; turn = subst (λ (h : Phase). IsPlainTurn e.phase h) (sym r.phase) (Stays e.phase) })
    (λ has. subst (λ (h : Phase). has_association h ≡ true) (sym r.phase) has)
goes_left e tag (Unknown k f v) y t (IsUnknown _ off h) = let u = unknown_goes e y t k f v h in
    Plainly t (subst (IsPlain e) (sym u.same) (record { configuration = refl; role = refl; moment = refl; terms = refl; turn = Stays e.phase }))
    (λ has. subst (λ (y : EndView). has_association y.phase ≡ true) (sym u.same) has)

-- closed, from a state of an association
pub left_closed : (e : EndView) (why : Ended) → has_association e.phase ≡ true → IsPlain e (closed why e)
left_closed e why has = record { configuration = refl; role = refl; moment = refl; terms = refl; turn = Leaves e.phase why has }

pub ends_plain : (e : EndView) (tag : ℕ) (x : ChunkMeaning) (t : EndView) → has_association e.phase ≡ true → Acts e tag x (Ends t) → IsPlain e t
ends_plain e tag (Data p) t has h = elim h [ ]
ends_plain e tag (IData p) t has h = elim h [ ]
ends_plain e tag (Init m) t has h = absurd (cc)
ends_plain e tag (InitAck m) t has h = elim h [ ]
ends_plain e tag (Sack s) t has h = elim h [ ]
ends_plain e tag (Heartbeat i) t has h = elim h [ ]
ends_plain e tag (HeartbeatAck i) t has h = absurd (cc)
ends_plain e tag (Abort b xs) t has h = let q : t ≡ closed Aborted e = cc in subst (IsPlain e) (sym q) (left_closed e Aborted has)
ends_plain e tag (Shutdown n) t has h = elim h [ ]
ends_plain e tag ShutdownAck t has h = elim h [ ]
ends_plain e tag (Error xs) t has (Closes _) = left_closed e StaleCookie has
ends_plain e tag (CookieEcho xs) t has h = elim h [ ]
ends_plain e tag CookieAck t has h = elim h [ ]
ends_plain e tag (ShutdownComplete b) t has (CompleteCompleted _) = left_closed e Completed has
ends_plain e tag (ForwardTsn m) t has h = elim h [ ]
ends_plain e tag (IForwardTsn m) t has h = elim h [ ]
ends_plain e tag (Unknown k f v) t has (IsUnknown _ off h) = let u = unknown_ends e t k f v h in subst (IsPlain e) (sym u.same) (record { configuration = refl; role = refl; moment = refl; terms = refl; turn = Stays e.phase })

pub replies_plain : (e : EndView) (tag : ℕ) (x : ChunkMeaning) (t : EndView) (p : Packet) → has_association e.phase ≡ true → Acts e tag x (Replies t p) → IsPlain e t
replies_plain e tag (Data q) t p has (PieceEmpty _ _ _ _ _) = left_closed e AbortedHere has
replies_plain e tag (Data q) t p has (WrongFormat _ _ _ _ _ _) = left_closed e AbortedHere has
replies_plain e tag (Data q) t p has (Misnumbered _ _ _ _ _ _ _ _ _) = left_closed e AbortedHere has
replies_plain e tag (IData q) t p has (PieceEmpty _ _ _ _ _) = left_closed e AbortedHere has
replies_plain e tag (IData q) t p has (WrongFormat _ _ _ _ _ _) = left_closed e AbortedHere has
replies_plain e tag (IData q) t p has (Misnumbered _ _ _ _ _ _ _ _ _) = left_closed e AbortedHere has
replies_plain e tag (Init m) t p has h = absurd (cc)
replies_plain e tag (InitAck m) t p has (RefusedAck _ _ _ _ _) = left_closed e AbortedHere has
replies_plain e tag (Sack s) t p has (SackWrong _ _ _ _ _) = left_closed e AbortedHere has
replies_plain e tag (Heartbeat i) t p has h = elim h [ ]
replies_plain e tag (HeartbeatAck i) t p has h = absurd (cc)
replies_plain e tag (Abort b xs) t p has h = absurd (cc)
replies_plain e tag (Shutdown n) t p has (ShutdownWrong _ _ _ _ _) = left_closed e AbortedHere has
replies_plain e tag ShutdownAck t p has (AckCompletes _ _ _ _) = left_closed e Completed has
replies_plain e tag (Error xs) t p has h = elim h [ ]
replies_plain e tag (CookieEcho xs) t p has h = elim h [ ]
replies_plain e tag CookieAck t p has h = elim h [ ]
replies_plain e tag (ShutdownComplete b) t p has h = elim h [ ]
replies_plain e tag (ForwardTsn m) t p has (WrongKind _ _ _ _ _) = left_closed e AbortedHere has
replies_plain e tag (ForwardTsn m) t p has (IsBad _ _ _ _ _ _ _) = left_closed e AbortedHere has
replies_plain e tag (IForwardTsn m) t p has (WrongKind _ _ _ _ _) = left_closed e AbortedHere has
replies_plain e tag (IForwardTsn m) t p has (IsBad _ _ _ _ _ _ _) = left_closed e AbortedHere has
replies_plain e tag (Unknown k f v) t p has (IsUnknown _ off h) = absurd (unknown_never_replies e t p k f v h)

pub plain_ended : (n : Notes) (e : EndView) → IsPlain e (packet_ended n e)
plain_ended n e = ended_cases (IsPlain e) n e (plain_same e) (λ t g is. record { configuration = refl; role = refl; moment = refl; terms = refl; turn = Stays e.phase })
    (λ t g is. record { configuration = refl; role = refl; moment = refl; terms = refl; turn = Stays e.phase })
    (λ x k. record { configuration = k.configuration; role = k.role; moment = k.moment; terms = k.terms; turn = k.turn })

-- ---- a packet that is built

built_plain : (s : Slot) (e : EndView) → IsPlain e (once_built s e)
built_plain EchoSlot e = record { configuration = refl; role = refl; moment = refl; terms = refl; turn = Stays e.phase }
built_plain CookieAckSlot e = record { configuration = refl; role = refl; moment = refl; terms = refl; turn = Stays e.phase }
built_plain HeartbeatSlot e = record { configuration = refl; role = refl; moment = refl; terms = refl; turn = Stays e.phase }
built_plain BeatSlot e = record { configuration = refl; role = refl; moment = refl; terms = refl; turn = Stays e.phase }
built_plain ErrorSlot e = record { configuration = refl; role = refl; moment = refl; terms = refl; turn = Stays e.phase }
built_plain SackSlot e = record { configuration = refl; role = refl; moment = refl; terms = refl; turn = Stays e.phase }
built_plain ForwardSlot e = record { configuration = refl; role = refl; moment = refl; terms = refl; turn = Stays e.phase }
built_plain AnswerSlot e = record { configuration = refl; role = refl; moment = refl; terms = refl; turn = Stays e.phase }
built_plain RequestSlot e = record { configuration = refl; role = refl; moment = refl; terms = refl; turn = Stays e.phase }
built_plain ShutdownSlot e = record { configuration = refl; role = refl; moment = refl; terms = refl; turn = Stays e.phase }
built_plain ShutdownAckSlot e = record { configuration = refl; role = refl; moment = refl; terms = refl; turn = Stays e.phase }

-- a request is made first
asking_plain : (e : EndView) → IsPlain e (asking e)
asking_plain e =
    let r = asking_same e in
    record { configuration = r.configuration; role = r.role; moment = r.moment; terms = r.terms; turn = subst (λ (h : Phase). IsPlainTurn e.phase h) (sym r.phase) (Stays e.phase) }

pub puts_plain : (ss : List Slot) (e : EndView) (xs zs : List ChunkMeaning) (full : Bool) (t : EndView) → Puts ss e xs zs full t → IsPlain e t
puts_plain ss e xs zs full t (NoMore _ _) = plain_same e
puts_plain ss e xs zs full t (NotDue _ more _ _ _ _ _ off rest) = puts_plain more e xs zs full t rest
puts_plain ss e xs zs full t (Put s more _ x _ _ _ _ due wants room rest) =
    plain_on e (once_built s e) t (built_plain s e) (puts_plain more (once_built s e) (xs ++ x ∷ []) zs full t rest)
puts_plain ss e xs zs full t (IsFull _ _ _ _ _ due wants room) = plain_same e

pub builds_plain : (e : EndView) (xs : List ChunkMeaning) (t : EndView) → Builds e xs t → IsPlain e t
builds_plain e xs t (Sleeps _) = plain_same e
builds_plain e xs t (Waits _ _ _) = plain_same e
builds_plain e xs t (Calls _ _ _) = record { configuration = refl; role = refl; moment = refl; terms = refl; turn = Stays e.phase }
builds_plain e xs t (Echoes _ _ _ full _ is puts) = puts_plain _ e [] xs full t puts
builds_plain e xs t (EndsFull _ _ _ _ is puts) = plain_on e (asking e) t (asking_plain e) (puts_plain _ (asking e) [] xs true t puts)
builds_plain e xs t (Fills _ _ zs x is puts) =
    plain_on e x _ (plain_on e (asking e) x (asking_plain e) (puts_plain _ (asking e) [] zs false x puts)) (record { configuration = refl; role = refl; moment = refl; terms = refl; turn = Stays x.phase })
