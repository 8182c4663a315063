-- A packet that arrives notes nothing.
use Rattle.std.proofs.Common.{◌≡◌, ℕ, zero, suc, Bool, true, false, List, [], ◌∷◌, Some, None, inl, inr, refl, sym, subst, ap, ◌∙◌}
use Rattle.std.specs.Prelude.{if◌then◌else◌, ◌==◌, ◌&&◌}
use Rattle.sctp_model.specs.wire.Packet.{Packet}
use Rattle.sctp_model.specs.wire.Chunk.{PieceMeaning, ForwardMeaning, ChunkMeaning, Data, IData, Init, InitAck, Sack, Heartbeat, HeartbeatAck, Abort, Shutdown, ShutdownAck, Error, CookieEcho, CookieAck, ShutdownComplete, ForwardTsn, IForwardTsn, Unknown}
use Rattle.sctp_model.specs.messages.Format.{Format, Kind, Ordered, Unordered}
use Rattle.sctp_model.specs.messages.Pieces.{Piece}
use Rattle.sctp_model.specs.receiver.ReceiverView.{ReceiverView}
use Rattle.sctp_model.specs.receiver.Receiving.{Gives, GivesOrdered, GivesAll}
use Rattle.sctp_model.specs.receiver.Reading.{piece_at}
use Rattle.sctp_model.specs.receiver.PieceTaken.{PieceAnswer, Duplicate, Ahead, NoSuchStream, Passed, NoRoom, Kept, Leaves, PieceTaken}
use Rattle.sctp_model.specs.receiver.ForwardTaken.{ForwardAnswer, OutOfDate, Bad, Moved, ForwardLeaves, ForwardTaken}
use Rattle.sctp_model.specs.end.Sealing.{Body}
use Rattle.sctp_model.specs.end.EndView.{Draw, Aborted, Phase, Idle, Listening, Calling, Echoing, Open, Over, EndView}
use Rattle.sctp_model.specs.end.Clock.{at_moment, closed}
use Rattle.sctp_model.specs.end.Closing.{takes_acknowledgements, rested, takes_data, hears}
use Rattle.sctp_model.specs.end.PeerFaults.{GoesOn, Ends, Replies, Note}
use Rattle.sctp_model.specs.end.Opening.{AcceptedAck, RefusedAck, EchoedAgain, CookieAcked, begun}
use Rattle.sctp_model.specs.end.Beating.{beat_heard}
use Rattle.sctp_model.specs.end.Acting.{Acts, ForwardComes, PieceComes, IsOld, SackStale, ShutdownStale, HeartbeatCounts, SackCounts, ShutdownCounts, Closes, SaysNothing, Crosses, Again, AckCompletes, CompleteCompleted, PieceEmpty, WrongFormat, SackWrong, ShutdownWrong, WrongKind, IsBad, ReconfigComes, IsUnknown, Misnumbered}
use Rattle.sctp_model.specs.end.Strays.{Verdict, seal_at, listens, holds_abort, body_in, body_among}
use Rattle.sctp_model.specs.sender.Abandoning.{worn}
use Rattle.sctp_model.specs.end.Wearing.{missed_below, wearing}
use Rattle.sctp_model.proofs.PacedEnds.{worn_cases}
use Rattle.sctp_outcomes.proofs.logs.Senders.{worn_keeps}
use Rattle.sctp_model.specs.end.Arriving.{Notes, no_notes, urged, kept_going, packet_ended, AllAct, Arrives, Elsewhere, NotOurs, Stray, CookieBegins, Heard, DroppedUnread, ReadAs, CutFirst, CutLater, cut_to}
use Rattle.sctp_safety.proofs.machine.EndWords.{Keeps, all_act_keeps, ended_cases}
use Rattle.sctp_safety.proofs.machine.Sides.{unknown_goes, unknown_ends, unknown_never_replies}
use Rattle.sctp_outcomes.specs.Kept.{is_before, IsSound, KeepsLogs, PacketsKeepLogs, CutPacketsKeepLogs}
use Rattle.sctp_outcomes.proofs.logs.Ends.{abandoning_keeps, heard_after, IsSameToUser, keeps_itself, keeps_on, same_keeps, joined_keeps, begins_keeps, rested_keeps}
use Rattle.sctp_model.proofs.sender.HeardLaws.{heard_plan, heard_tickets}
use Rattle.sctp_model.specs.sender.SackTaken.{sack_taken, shutdown_taken}
use Rattle.sctp_model.specs.wire.Typed.{typed_in}
use Rattle.sctp_model.specs.wire.Reconfig.{RECONFIG}
use Rattle.sctp_model.specs.sender.SenderView.{SenderView}
use Rattle.sctp_safety.proofs.machine.Reconfigured.{parameters_same}
use Rattle.std.proofs.lemmas.Bool.{and_parts}

-- ---- what arrives at a receiver is taken by nobody yet

same : (r : ReceiverView) → IsSameToUser r r
same r = record { taken = refl; buffer = refl }

given : (f : Format) (s : ℕ) (r t : ReceiverView) → GivesOrdered f s r t → IsSameToUser r t
given f s r t (ms, n, due, is) = subst (IsSameToUser r) (sym is) (record { taken = refl; buffer = refl })

gives : (f : Format) (k : Kind) (y : Piece) (r t : ReceiverView) → Gives f k y r t → IsSameToUser r t
gives f Ordered y r t g = given f y.lane.stream r t g
gives f Unordered y r t (inl (x, xs, whole, is)) = subst (IsSameToUser r) (sym is) (record { taken = refl; buffer = refl })
gives f Unordered y r t (inr (none, is)) = subst (IsSameToUser r) (sym is) (same r)

gives_all : (f : Format) (n : ℕ) (r t : ReceiverView) → GivesAll f n r t → IsSameToUser r t
gives_all f zero r t is = subst (IsSameToUser r) (sym is) (same r)
gives_all f (suc n) r t (mid, before, g) =
    let first = gives_all f n r mid before in
    let second = given f n mid t g in
    record { taken = second.taken ∙ first.taken; buffer = second.buffer ∙ first.buffer }

by_answer : (f : Format) (r : ReceiverView) (x : Piece) (wire : ℕ) (a : PieceAnswer) (t : ReceiverView) → Leaves f r x wire a t → IsSameToUser r t
by_answer f r x wire Duplicate t is = subst (IsSameToUser r) (sym is) (record { taken = refl; buffer = refl })
by_answer f r x wire Ahead t is = subst (IsSameToUser r) (sym is) (record { taken = refl; buffer = refl })
by_answer f r x wire NoSuchStream t is = subst (IsSameToUser r) (sym is) (record { taken = refl; buffer = refl })
by_answer f r x wire Passed t is = subst (IsSameToUser r) (sym is) (record { taken = refl; buffer = refl })
by_answer f r x wire NoRoom t is = subst (IsSameToUser r) (sym is) (record { taken = refl; buffer = refl })
by_answer f r x wire Kept t g = let k = gives f x.lane.kind x _ t g in record { taken = k.taken; buffer = k.buffer }

piece_same : (f : Format) (r : ReceiverView) (p : PieceMeaning) (a : PieceAnswer) (t : ReceiverView) → PieceTaken f r p a t → IsSameToUser r t
piece_same f r p a t came = by_answer f r (piece_at f r came.c p) p.tsn a t came.leaves

by_forward : (f : Format) (r : ReceiverView) (c : ℕ) (m : ForwardMeaning) (a : ForwardAnswer) (t : ReceiverView) → ForwardLeaves f r c m a t → IsSameToUser r t
by_forward f r c m OutOfDate t is = subst (IsSameToUser r) (sym is) (record { taken = refl; buffer = refl })
by_forward f r c m Bad t is = subst (IsSameToUser r) (sym is) (record { taken = refl; buffer = refl })
by_forward f r c m Moved t g = let k = gives_all f r.streams _ t g in record { taken = k.taken; buffer = k.buffer }

forward_same : (f : Format) (r : ReceiverView) (m : ForwardMeaning) (a : ForwardAnswer) (t : ReceiverView) → ForwardTaken f r m a t → IsSameToUser r t
forward_same f r m a t came = by_forward f r came.c m a t came.leaves

-- ---- chunks

-- an endpoint that is open has an association
open_after : (e : EndView) (h : Phase) → is_before h ≡ false → e.phase ≡ h → is_before e.phase ≡ false
open_after e h after is = ap is_before is ∙ after

-- one after which the packet goes on
pub goes_keeps : (e : EndView) (tag : ℕ) (x : ChunkMeaning) (y : Note) (t : EndView) → IsSound e → Acts e tag x (GoesOn y t) → KeepsLogs e t
goes_keeps e tag (Data p) y t s (PieceComes u g a r is _ _ _ came _) = joined_keeps e t refl refl (piece_same _ e.receiver p a r came) refl (open_after e (Open u g) refl is) s
goes_keeps e tag (IData p) y t s (PieceComes u g a r is _ _ _ came _) = joined_keeps e t refl refl (piece_same _ e.receiver p a r came) refl (open_after e (Open u g) refl is) s
goes_keeps e tag (Init m) y t s h = absurd (cc)
goes_keeps e tag (InitAck m) y t s (AcceptedAck d xs is _ _ _) = begins_keeps e t refl refl refl refl refl (ap is_before is) s
goes_keeps e tag (Sack k) y t s (SackStale _ _) = keeps_itself e s
goes_keeps e tag (Sack k) y t s (SackCounts on _) = joined_keeps e t (heard_plan e.pace e.moment e.sender (sack_taken e.sender k)) (heard_tickets e.pace e.moment e.sender (sack_taken e.sender k)) (same e.receiver) refl (heard_after takes_acknowledgements e.phase on) s
goes_keeps e tag (Heartbeat i) y t s (HeartbeatCounts _) = same_keeps e t refl refl refl (λ on. on) s
goes_keeps e tag (HeartbeatAck i) y t s h = let q : t ≡ beat_heard e i = cc in subst (KeepsLogs e) (sym q) (same_keeps e (beat_heard e i) refl refl refl (λ on. on) s)
goes_keeps e tag (Abort b xs) y t s h = absurd (cc)
goes_keeps e tag (Shutdown n) y t s (ShutdownStale _ _ _ _ _) = same_keeps e t refl refl refl (λ on. absurd (cc)) s
goes_keeps e tag (Shutdown n) y t s (ShutdownCounts _ _ _ _ _) = joined_keeps e t (heard_plan e.pace e.moment e.sender (shutdown_taken e.sender n)) (heard_tickets e.pace e.moment e.sender (shutdown_taken e.sender n)) (same e.receiver) refl refl s
goes_keeps e tag (Shutdown n) y t s (Crosses _ _) = same_keeps e t refl refl refl (λ on. absurd (cc)) s
goes_keeps e tag (Shutdown n) y t s (Again _ _) = same_keeps e t refl refl refl (λ on. on) s
goes_keeps e tag ShutdownAck y t s h = elim h [ ]
goes_keeps e tag (Error xs) y t s (SaysNothing _) = keeps_itself e s
goes_keeps e tag (CookieEcho xs) y t s (EchoedAgain _ _ _ _ _ _ _) = same_keeps e t refl refl refl (λ on. on) s
goes_keeps e tag CookieAck y t s (CookieAcked _ _ _) = same_keeps e t refl refl refl (λ on. absurd (cc)) s
goes_keeps e tag (ShutdownComplete b) y t s h = elim h [ ]
goes_keeps e tag (ForwardTsn m) y t s (IsOld u g r is _ _ came) = joined_keeps e t refl refl (forward_same _ e.receiver m _ r came) refl (open_after e (Open u g) refl is) s
goes_keeps e tag (ForwardTsn m) y t s (ForwardComes u g r is _ _ came) = joined_keeps e t refl refl (forward_same _ e.receiver m _ r came) refl (open_after e (Open u g) refl is) s
goes_keeps e tag (IForwardTsn m) y t s (IsOld u g r is _ _ came) = joined_keeps e t refl refl (forward_same _ e.receiver m _ r came) refl (open_after e (Open u g) refl is) s
goes_keeps e tag (IForwardTsn m) y t s (ForwardComes u g r is _ _ came) = joined_keeps e t refl refl (forward_same _ e.receiver m _ r came) refl (open_after e (Open u g) refl is) s
goes_keeps e tag (Unknown n f v) y t s (ReconfigComes c takes _) =
    let u = parameters_same c e (typed_in v) in
    joined_keeps e t (ap (λ (x : SenderView). x.plan) u.sender.1) (ap (λ (x : SenderView). x.tickets) u.sender.1)
    (record { taken = ap (λ (r : ReceiverView). r.taken) u.receiver.1; buffer = ap (λ (r : ReceiverView). r.buffer) u.receiver.1 }) u.configuration
    (ap is_before u.phase ∙ heard_after takes_data e.phase (and_parts e.terms.reset (hears takes_data e.phase) (and_parts (n == RECONFIG) (e.terms.reset && hears takes_data e.phase) takes).1).1) s
goes_keeps e tag (Unknown n f v) y t s (IsUnknown _ _ h) = let u = unknown_goes e y t n f v h in subst (KeepsLogs e) (sym u.same) (same_keeps e _ refl refl refl (λ on. on) s)

-- one that ends it
pub ends_keeps : (e : EndView) (tag : ℕ) (x : ChunkMeaning) (t : EndView) → IsSound e → Acts e tag x (Ends t) → KeepsLogs e t
ends_keeps e tag (Data p) t s h = elim h [ ]
ends_keeps e tag (IData p) t s h = elim h [ ]
ends_keeps e tag (Init m) t s h = absurd (cc)
ends_keeps e tag (InitAck m) t s h = elim h [ ]
ends_keeps e tag (Sack k) t s h = elim h [ ]
ends_keeps e tag (Heartbeat i) t s h = elim h [ ]
ends_keeps e tag (HeartbeatAck i) t s h = absurd (cc)
ends_keeps e tag (Abort b xs) t s h = let q : t ≡ closed Aborted e = cc in subst (KeepsLogs e) (sym q) (same_keeps e (closed Aborted e) refl refl refl (λ on. absurd (cc)) s)
ends_keeps e tag (Shutdown n) t s h = elim h [ ]
ends_keeps e tag ShutdownAck t s h = elim h [ ]
ends_keeps e tag (Error xs) t s (Closes _) = same_keeps e t refl refl refl (λ on. absurd (cc)) s
ends_keeps e tag (CookieEcho xs) t s h = elim h [ ]
ends_keeps e tag CookieAck t s h = elim h [ ]
ends_keeps e tag (ShutdownComplete b) t s (CompleteCompleted _) = same_keeps e t refl refl refl (λ on. absurd (cc)) s
ends_keeps e tag (ForwardTsn m) t s h = elim h [ ]
ends_keeps e tag (IForwardTsn m) t s h = elim h [ ]
ends_keeps e tag (Unknown n f v) t s (IsUnknown _ _ h) = let u = unknown_ends e t n f v h in subst (KeepsLogs e) (sym u.same) (same_keeps e _ refl refl refl (λ on. on) s)

-- one that is answered: the endpoint is closed
pub replies_keeps : (e : EndView) (tag : ℕ) (x : ChunkMeaning) (t : EndView) (p : Packet) → IsSound e → Acts e tag x (Replies t p) → KeepsLogs e t
replies_keeps e tag (Data q) t p s (PieceEmpty _ _ _ _ _) = same_keeps e t refl refl refl (λ on. absurd (cc)) s
replies_keeps e tag (Data q) t p s (WrongFormat _ _ _ _ _ _) = same_keeps e t refl refl refl (λ on. absurd (cc)) s
replies_keeps e tag (Data q) t p s (Misnumbered _ _ _ _ _ _ _ _ _) = same_keeps e t refl refl refl (λ on. absurd (cc)) s
replies_keeps e tag (IData q) t p s (PieceEmpty _ _ _ _ _) = same_keeps e t refl refl refl (λ on. absurd (cc)) s
replies_keeps e tag (IData q) t p s (WrongFormat _ _ _ _ _ _) = same_keeps e t refl refl refl (λ on. absurd (cc)) s
replies_keeps e tag (IData q) t p s (Misnumbered _ _ _ _ _ _ _ _ _) = same_keeps e t refl refl refl (λ on. absurd (cc)) s
replies_keeps e tag (Init m) t p s h = absurd (cc)
replies_keeps e tag (InitAck m) t p s (RefusedAck _ _ _ _ _) = same_keeps e t refl refl refl (λ on. absurd (cc)) s
replies_keeps e tag (Sack k) t p s (SackWrong _ _ _ _ _) = same_keeps e t refl refl refl (λ on. absurd (cc)) s
replies_keeps e tag (Heartbeat i) t p s h = elim h [ ]
replies_keeps e tag (HeartbeatAck i) t p s h = absurd (cc)
replies_keeps e tag (Abort b xs) t p s h = absurd (cc)
replies_keeps e tag (Shutdown n) t p s (ShutdownWrong _ _ _ _ _) = same_keeps e t refl refl refl (λ on. absurd (cc)) s
replies_keeps e tag ShutdownAck t p s (AckCompletes _ _ _ _) = same_keeps e t refl refl refl (λ on. absurd (cc)) s
replies_keeps e tag (Error xs) t p s h = elim h [ ]
replies_keeps e tag (CookieEcho xs) t p s h = elim h [ ]
replies_keeps e tag CookieAck t p s h = elim h [ ]
replies_keeps e tag (ShutdownComplete b) t p s h = elim h [ ]
replies_keeps e tag (ForwardTsn m) t p s (WrongKind _ _ _ _ _) = same_keeps e t refl refl refl (λ on. absurd (cc)) s
replies_keeps e tag (ForwardTsn m) t p s (IsBad _ _ _ _ _ _ _) = same_keeps e t refl refl refl (λ on. absurd (cc)) s
replies_keeps e tag (IForwardTsn m) t p s (WrongKind _ _ _ _ _) = same_keeps e t refl refl refl (λ on. absurd (cc)) s
replies_keeps e tag (IForwardTsn m) t p s (IsBad _ _ _ _ _ _ _) = same_keeps e t refl refl refl (λ on. absurd (cc)) s
replies_keeps e tag (Unknown n f v) t p s (IsUnknown _ _ h) = absurd (unknown_never_replies e t p n f v h)

-- ---- a packet

each_keeps : (tag : ℕ) (o : EndView) → Keeps tag (KeepsLogs o) (λ (x : ChunkMeaning). Unit {0}) (λ (p : Packet). Unit {0})
each_keeps tag o = record {
  goes = λ e x y t any k act. let mid = goes_keeps e tag x y t k.sound act in keeps_on o e (rested t) k (keeps_on e t (rested t) mid (rested_keeps t mid.sound));
  ends = λ e x t any k act. keeps_on o e t k (ends_keeps e tag x t k.sound act);
  replies = λ e x t p any k act. (keeps_on o e t k (replies_keeps e tag x t p k.sound act), tt);
}

pub acts_keep : (tag : ℕ) (e : EndView) (b : Notes) (xs : List ChunkMeaning) (t : EndView) (m : Notes) (v : Verdict) → IsSound e → AllAct tag e b xs t m v → KeepsLogs e t
acts_keep tag e b xs t m v s acts =
    (all_act_keeps tag (KeepsLogs e) (λ (x : ChunkMeaning). Unit {0}) (λ (p : Packet). Unit {0}) (each_keeps tag e) e b xs t m v (λ x h. tt) (keeps_itself e s) acts).0

ended_keeps : (n : Notes) (e : EndView) → IsSound e → KeepsLogs e (packet_ended n e)
ended_keeps n e s = ended_cases (KeepsLogs e) n e (keeps_itself e s) (λ t g is. same_keeps e _ refl refl refl (λ on. on) s)
    (λ t g is. same_keeps e _ refl refl refl (λ on. on) s) (λ x k. keeps_on e x (kept_going true x) k (same_keeps x _ refl refl refl (λ on. on) k.sound))

-- a cookie opens at a listener alone
pub opens_before : (e : EndView) (tag : ℕ) (xs : List ChunkMeaning) (b : Body) → body_among e tag xs ≡ Some b → is_before e.phase ≡ true
opens_before e tag [] b is = absurd (cc)
opens_before e tag (x ∷ xs) b is = by_abort (holds_abort (x ∷ xs)) is
  where
    by_phase : (h : Phase) → body_in (seal_at h e.role) e tag x ≡ Some b → is_before h ≡ true
    by_phase Idle here = refl
    by_phase Listening here = refl
    by_phase (Calling d) here = refl
    by_phase (Echoing t ys) here = absurd (cc)
    by_phase (Open t g) here = absurd (cc)
    by_phase (Over why) here = absurd (cc)

    by_abort : (a : Bool) → (if a then None else body_in (listens e) e tag x) ≡ Some b → is_before e.phase ≡ true
    by_abort true here = absurd (cc)
    by_abort false here = by_phase e.phase here

-- at the end of a packet
worn_keeps_logs : (from : ℕ) (e : EndView) → IsSound e → KeepsLogs e (wearing from e)
worn_keeps_logs from e s = worn_cases (KeepsLogs e) from e (keeps_itself e s) (λ test on. abandoning_keeps e (worn test e.sender) (worn_keeps test e.sender) s)

arrives_keeps : (e : EndView) (d : Draw) (p : Packet) (t : EndView) (v : Verdict) → IsSound e → Arrives e d p t v → KeepsLogs e t
arrives_keeps e d p t v s (Elsewhere _) = keeps_itself e s
arrives_keeps e d p t v s (NotOurs _ _) = keeps_itself e s
arrives_keeps e d p t v s (Stray _ _ _ _) = keeps_itself e s
arrives_keeps e d p t v s (CookieBegins b u n _ _ _ _ opens acts gap _) =
    let new = begins_keeps e (begun b e) refl refl refl refl refl (opens_before e p.tag p.chunks b opens) s in
    let all = keeps_on e (begun b e) u new (acts_keep p.tag (begun b e) _ _ u n v new.sound acts) in
    keeps_on e u (packet_ended (urged gap n) u) all (ended_keeps (urged gap n) u all.sound)
arrives_keeps e d p t v s (Heard u n _ _ _ _ acts gap _) =
    let x = wearing (missed_below e.pace) u in
    let acted = acts_keep p.tag e no_notes p.chunks u n v s acts in
    let all = keeps_on e u x acted (worn_keeps_logs (missed_below e.pace) u acted.sound) in
    keeps_on e x (packet_ended (urged gap n) x) all (ended_keeps (urged gap n) x all.sound)

-- ---- at a time

pub moment_keeps : (e : EndView) (now : ℕ) → IsSound e → KeepsLogs e (at_moment e now)
moment_keeps e now s = same_keeps e (at_moment e now) refl refl refl (λ on. on) s

pub packets_keep_logs : PacketsKeepLogs
packets_keep_logs e now d p t v s DroppedUnread = moment_keeps e now s
packets_keep_logs e now d p t v s (ReadAs q _ _ arrives) =
    let mid = moment_keeps e now s in keeps_on e (at_moment e now) t mid (arrives_keeps (at_moment e now) d q t v mid.sound arrives)

pub cut_packets_keep_logs : CutPacketsKeepLogs
cut_packets_keep_logs e now d p t s (CutFirst _) = moment_keeps e now s
cut_packets_keep_logs e now d p t s (CutLater q y front back x _ v _ arrives _) =
    let mid = moment_keeps e now s in keeps_on e (at_moment e now) t mid (arrives_keeps (at_moment e now) d (cut_to q (y ∷ front)) t v mid.sound arrives)
