-- The chunks of a packet abandon nothing, and bring no message to its limit of retransmissions.
use Rattle.std.proofs.Common.{◌≡◌, ℕ, ◌+◌, ◌<◌, ◌≤◌, Bool, true, false, List, [], ◌∷◌, length, Option, refl, sym, ap, subst, ◌∙◌, arith}
use Rattle.std.specs.Prelude.{not, ◌&&◌, ◌||◌, ◌==◌, nat_lt}
use Rattle.std.specs.List.{list_any}
use Rattle.std.proofs.lemmas.Bool.{and_parts, and_from, or_left, or_right}
use Rattle.std.proofs.lemmas.Bool.Decides.{nat_tests}
use Rattle.sctp_model.specs.wire.Chunk.{ChunkMeaning, Data, IData, Init, InitAck, Sack, Heartbeat, HeartbeatAck, Abort, Shutdown, ShutdownAck, Error, CookieEcho, CookieAck, ShutdownComplete, ForwardTsn, IForwardTsn, Unknown}
use Rattle.sctp_model.specs.wire.Packet.{Packet}
use Rattle.sctp_model.specs.wire.Typed.{typed_in}
use Rattle.sctp_model.specs.sender.SenderView.{SendLimits, SenderView, fresh_sender}
use Rattle.sctp_model.specs.sender.Words.{count_up}
use Rattle.sctp_model.specs.sender.Entries.{is_of_abandoned, passes_at}
use Rattle.sctp_model.specs.sender.Abandoning.{is_worn, ticket_at, marking}
use Rattle.sctp_model.specs.sender.Readers.{abandoned}
use Rattle.sctp_model.specs.sender.Reached.{IsReached, Covers}
use Rattle.sctp_model.specs.sender.Reached.{Closes as Shuts}
use Rattle.sctp_model.specs.sender.SackTaken.{sack_taken, shutdown_taken}
use Rattle.sctp_model.specs.end.EndView.{Aborted, Configuration, Terms, EndView, format_for, format_of}
use Rattle.sctp_model.specs.end.Pacing.{Pace}
use Rattle.sctp_model.specs.end.Clock.{closed, sender_heard}
use Rattle.sctp_model.specs.end.Closing.{rested}
use Rattle.sctp_model.specs.end.Beating.{beat_heard}
use Rattle.sctp_model.specs.end.PeerFaults.{GoesOn, Ends, Replies, Note}
use Rattle.sctp_model.specs.end.Opening.{AcceptedAck, RefusedAck, EchoedAgain, CookieAcked}
use Rattle.sctp_model.specs.end.Acting.{Acts, ForwardComes, PieceComes, IsOld, SackStale, ShutdownStale, HeartbeatCounts, SackCounts, ShutdownCounts, Closes, SaysNothing, Crosses, Again, AckCompletes, CompleteCompleted, PieceEmpty, WrongFormat, Misnumbered, SackWrong, ShutdownWrong, WrongKind, IsBad, ReconfigComes, IsUnknown}
use Rattle.sctp_model.specs.end.Strays.{Verdict}
use Rattle.sctp_model.specs.end.Arriving.{Notes, AllAct}
use Rattle.sctp_model.proofs.sender.HeardLaws.{heard_cases, heard_reached}
use Rattle.sctp_safety.proofs.machine.EndWords.{Keeps, all_act_keeps, rested_cases}
use Rattle.sctp_safety.proofs.machine.Sides.{unknown_goes, unknown_ends, unknown_never_replies}
use Rattle.sctp_safety.proofs.machine.Reconfigured.{parameters_same}
use Rattle.sctp_outcomes.specs.Kept.{is_before, IsSound, KeepsLogs}
use Rattle.sctp_outcomes.proofs.logs.Ends.{keeps_itself, keeps_on, rested_keeps}
use Rattle.sctp_outcomes.proofs.logs.Heard.{goes_keeps, ends_keeps, replies_keeps}
use Rattle.sctp_outcomes.proofs.ReachedEnds.{IsReachedAt, reached_anew, reached_reconfigured}
use Rattle.sctp_send.specs.SenderAnswers.{is_limit_at, is_at_limit}

-- ---- a sender

-- of numbers that one test lets through, another one lets through all
any_too : (P Q : ℕ → Bool) (ks : List ℕ) → ((k : ℕ) → P k ≡ true → Q k ≡ true) → list_any P ks ≡ true → list_any Q ks ≡ true
any_too P Q [] all on = absurd (cc)
any_too P Q (k ∷ ks) all on = by_here (P k) refl on (λ later. any_too P Q ks all later)
  where
    by_here : (b : Bool) → P k ≡ b → (b || list_any P ks) ≡ true → (list_any P ks ≡ true → list_any Q ks ≡ true) → (Q k || list_any Q ks) ≡ true
    by_here true is here further = or_left (Q k) (list_any Q ks) (all k is)
    by_here false is here further = or_right (Q k) (list_any Q ks) (further here)

-- The same messages are abandoned, and those at their limit were at it.
pub record SparesIn (v u : SenderView) : Type 0 where
  pub limit : (k : ℕ) → is_at_limit u k ≡ true → is_at_limit v k ≡ true
  pub same : (k : ℕ) → abandoned u k ≡ abandoned v k

spares_itself : (v : SenderView) → SparesIn v v
spares_itself v = record { limit = λ k on. on; same = λ k. refl }

spares_next : (v u w : SenderView) → SparesIn v u → SparesIn u w → SparesIn v w
spares_next v u w a b = record { limit = λ k on. a.limit k (b.limit k on); same = λ k. b.same k ∙ a.same k }

-- if CUM goes on
acknowledged_spares : (v : SenderView) (c rwnd : ℕ) (covered marked : ℕ → Bool) → v.cum ≤ c → SparesIn v (record v { cum = c; rwnd = rwnd; covered = covered; marked = marked })
acknowledged_spares v c rwnd covered marked low = record {
  limit = λ k on. any_too (λ i. is_limit_at u i && (ticket_at u i == k)) (λ i. is_limit_at v i && (ticket_at v i == k)) (count_up 1 (length v.plan.entries)) (λ i. each k i) on;
  same = λ k. refl;
}
  where
    u : SenderView
    u = record v { cum = c; rwnd = rwnd; covered = covered; marked = marked }

    each : (k i : ℕ) → (is_limit_at u i && (ticket_at u i == k)) ≡ true → (is_limit_at v i && (ticket_at v i == k)) ≡ true
    each k i here =
        let both = and_parts (is_limit_at u i) (ticket_at u i == k) here in
        let parts = and_parts (nat_lt c i) (passes_at v.plan (λ j e. not (is_of_abandoned v e) && is_worn v j e) i) both.0 in
        let past = parts.0 in
        let above : nat_lt v.cum i ≡ true = grind (arith, nat_tests) in
        and_from (is_limit_at v i) (ticket_at v i == k) (and_from (nat_lt v.cum i) (passes_at v.plan (λ j e. not (is_of_abandoned v e) && is_worn v j e) i) above parts.1) both.1

forward : (a b : ℕ) → a ≤ a + b
forward a b = omega arith

-- what an acknowledgement leaves, with marks or without
heard_spares : (o : Option Pace) (now : ℕ) (v u : SenderView) → SparesIn v u → ((test : ℕ → Bool) → SparesIn v (marking u test)) → SparesIn v (sender_heard o now v u)
heard_spares o now v u taken marked = heard_cases (SparesIn v) o now v u taken marked

-- a sender that was asked for nothing, after another one
pub fresh_spares : (v u : SenderView) (fragment initial streams size rwnd : ℕ) (partial : Bool) (unused limits : SendLimits) → v ≡ fresh_sender 0 0 fragment 0 false unused
    → u ≡ fresh_sender initial streams size rwnd partial limits → SparesIn v u
fresh_spares v u fragment initial streams size rwnd partial unused limits before after =
    subst (λ (x : SenderView). SparesIn x u) (sym before)
    (subst (λ (x : SenderView). SparesIn (fresh_sender 0 0 fragment 0 false unused) x) (sym after) (record { limit = λ k on. absurd (cc); same = λ k. refl }))

-- ---- an end

-- its sender spares, and stays one that calls reach
pub record Spares (e t : EndView) : Type 0 where
  pub sender : SparesIn e.sender t.sender
  pub reached : IsReachedAt e → IsReachedAt t
  pub configuration : t.configuration ≡ e.configuration

pub spares_on : (e t u : EndView) → Spares e t → Spares t u → Spares e u
spares_on e t u a b = record { sender = spares_next e.sender t.sender u.sender a.sender b.sender; reached = λ r. b.reached (a.reached r); configuration = b.configuration ∙ a.configuration }

pub same_spares : (e t : EndView) → t.sender ≡ e.sender → t.configuration ≡ e.configuration → t.terms ≡ e.terms → Spares e t
same_spares e t sender configuration terms = record {
  sender = subst (λ (x : SenderView). SparesIn e.sender x) (sym sender) (spares_itself e.sender);
  reached = λ r some.
      subst (λ (x : Terms). IsReached (format_for x.interleave) t.sender) (sym terms)
      (subst (λ (x : SenderView). IsReached (format_of e) x) (sym sender) (r (subst (λ (x : Configuration). 0 < x.fragment) configuration some)));
  configuration = configuration;
}

rested_spares : (e : EndView) → Spares e (rested e)
rested_spares e = rested_cases (Spares e) e (same_spares e e refl refl refl) (λ t is d. same_spares e _ refl refl refl) (λ t is d. same_spares e _ refl refl refl)

-- ---- a chunk

-- one after which the packet goes on
goes_spares : (e : EndView) (tag : ℕ) (x : ChunkMeaning) (y : Note) (t : EndView) → IsSound e → Acts e tag x (GoesOn y t) → Spares e t
goes_spares e tag (Data p) y t s (PieceComes _ _ _ _ _ _ _ _ _ _) = same_spares e t refl refl refl
goes_spares e tag (IData p) y t s (PieceComes _ _ _ _ _ _ _ _ _ _) = same_spares e t refl refl refl
goes_spares e tag (Init m) y t s h = absurd (cc)
goes_spares e tag (InitAck m) y t s (AcceptedAck d xs is _ _ _) =
    record { sender = fresh_spares e.sender t.sender _ _ _ _ _ _ _ _ (s.bare (ap is_before is)).sender refl; reached = λ r. reached_anew t _ _ _ _ _ refl; configuration = refl }
goes_spares e tag (Sack k) y t s (SackStale _ _) = same_spares e t refl refl refl
goes_spares e tag (Sack k) y t s (SackCounts _ none) = record {
  sender = heard_spares e.pace e.moment e.sender (sack_taken e.sender k) (acknowledged_spares e.sender _ _ _ _ (forward e.sender.cum _)) (λ test. acknowledged_spares e.sender _ _ _ _ (forward e.sender.cum _));
  reached = λ r some. heard_reached (format_of e) e.pace e.moment e.sender (sack_taken e.sender k) (Covers e.sender k (r some) none);
  configuration = refl;
}
goes_spares e tag (Heartbeat i) y t s (HeartbeatCounts _) = same_spares e t refl refl refl
goes_spares e tag (HeartbeatAck i) y t s h = let q : t ≡ beat_heard e i = cc in subst (Spares e) (sym q) (same_spares e (beat_heard e i) refl refl refl)
goes_spares e tag (Abort b xs) y t s h = absurd (cc)
goes_spares e tag (Shutdown n) y t s (ShutdownStale _ _ _ _ _) = same_spares e t refl refl refl
goes_spares e tag (Shutdown n) y t s (ShutdownCounts _ _ _ _ none) = record {
  sender = heard_spares e.pace e.moment e.sender (shutdown_taken e.sender n) (acknowledged_spares e.sender _ _ _ _ (forward e.sender.cum _)) (λ test. acknowledged_spares e.sender _ _ _ _ (forward e.sender.cum _));
  reached = λ r some. heard_reached (format_of e) e.pace e.moment e.sender (shutdown_taken e.sender n) (Shuts e.sender n (r some) none);
  configuration = refl;
}
goes_spares e tag (Shutdown n) y t s (Crosses _ _) = same_spares e t refl refl refl
goes_spares e tag (Shutdown n) y t s (Again _ _) = same_spares e t refl refl refl
goes_spares e tag ShutdownAck y t s h = elim h [ ]
goes_spares e tag (Error xs) y t s (SaysNothing _) = same_spares e t refl refl refl
goes_spares e tag (CookieEcho xs) y t s (EchoedAgain _ _ _ _ _ _ _) = same_spares e t refl refl refl
goes_spares e tag CookieAck y t s (CookieAcked _ _ _) = same_spares e t refl refl refl
goes_spares e tag (ShutdownComplete b) y t s h = elim h [ ]
goes_spares e tag (ForwardTsn m) y t s (IsOld _ _ _ _ _ _ _) = same_spares e t refl refl refl
goes_spares e tag (ForwardTsn m) y t s (ForwardComes _ _ _ _ _ _ _) = same_spares e t refl refl refl
goes_spares e tag (IForwardTsn m) y t s (IsOld _ _ _ _ _ _ _) = same_spares e t refl refl refl
goes_spares e tag (IForwardTsn m) y t s (ForwardComes _ _ _ _ _ _ _) = same_spares e t refl refl refl
goes_spares e tag (Unknown n f v) y t s (ReconfigComes c _ _) =
    let u = parameters_same c e (typed_in v) in
    record {
      sender = subst (λ (x : SenderView). SparesIn e.sender x) (sym u.sender.1) (record { limit = λ k on. on; same = λ k. refl });
      reached = λ r. reached_reconfigured e t u r;
      configuration = u.configuration;
    }
goes_spares e tag (Unknown n f v) y t s (IsUnknown _ _ h) = let u = unknown_goes e y t n f v h in subst (Spares e) (sym u.same) (same_spares e _ refl refl refl)

-- one that ends it
ends_spares : (e : EndView) (tag : ℕ) (x : ChunkMeaning) (t : EndView) → Acts e tag x (Ends t) → Spares e t
ends_spares e tag (Data p) t h = elim h [ ]
ends_spares e tag (IData p) t h = elim h [ ]
ends_spares e tag (Init m) t h = absurd (cc)
ends_spares e tag (InitAck m) t h = elim h [ ]
ends_spares e tag (Sack k) t h = elim h [ ]
ends_spares e tag (Heartbeat i) t h = elim h [ ]
ends_spares e tag (HeartbeatAck i) t h = absurd (cc)
ends_spares e tag (Abort b xs) t h = let q : t ≡ closed Aborted e = cc in subst (Spares e) (sym q) (same_spares e (closed Aborted e) refl refl refl)
ends_spares e tag (Shutdown n) t h = elim h [ ]
ends_spares e tag ShutdownAck t h = elim h [ ]
ends_spares e tag (Error xs) t (Closes _) = same_spares e t refl refl refl
ends_spares e tag (CookieEcho xs) t h = elim h [ ]
ends_spares e tag CookieAck t h = elim h [ ]
ends_spares e tag (ShutdownComplete b) t (CompleteCompleted _) = same_spares e t refl refl refl
ends_spares e tag (ForwardTsn m) t h = elim h [ ]
ends_spares e tag (IForwardTsn m) t h = elim h [ ]
ends_spares e tag (Unknown n f v) t (IsUnknown _ _ h) = let u = unknown_ends e t n f v h in subst (Spares e) (sym u.same) (same_spares e _ refl refl refl)

-- one that is answered
replies_spares : (e : EndView) (tag : ℕ) (x : ChunkMeaning) (t : EndView) (p : Packet) → Acts e tag x (Replies t p) → Spares e t
replies_spares e tag (Data q) t p (PieceEmpty _ _ _ _ _) = same_spares e t refl refl refl
replies_spares e tag (Data q) t p (WrongFormat _ _ _ _ _ _) = same_spares e t refl refl refl
replies_spares e tag (Data q) t p (Misnumbered _ _ _ _ _ _ _ _ _) = same_spares e t refl refl refl
replies_spares e tag (IData q) t p (PieceEmpty _ _ _ _ _) = same_spares e t refl refl refl
replies_spares e tag (IData q) t p (WrongFormat _ _ _ _ _ _) = same_spares e t refl refl refl
replies_spares e tag (IData q) t p (Misnumbered _ _ _ _ _ _ _ _ _) = same_spares e t refl refl refl
replies_spares e tag (Init m) t p h = absurd (cc)
replies_spares e tag (InitAck m) t p (RefusedAck _ _ _ _ _) = same_spares e t refl refl refl
replies_spares e tag (Sack k) t p (SackWrong _ _ _ _ _) = same_spares e t refl refl refl
replies_spares e tag (Heartbeat i) t p h = elim h [ ]
replies_spares e tag (HeartbeatAck i) t p h = absurd (cc)
replies_spares e tag (Abort b xs) t p h = absurd (cc)
replies_spares e tag (Shutdown n) t p (ShutdownWrong _ _ _ _ _) = same_spares e t refl refl refl
replies_spares e tag ShutdownAck t p (AckCompletes _ _ _ _) = same_spares e t refl refl refl
replies_spares e tag (Error xs) t p h = elim h [ ]
replies_spares e tag (CookieEcho xs) t p h = elim h [ ]
replies_spares e tag CookieAck t p h = elim h [ ]
replies_spares e tag (ShutdownComplete b) t p h = elim h [ ]
replies_spares e tag (ForwardTsn m) t p (WrongKind _ _ _ _ _) = same_spares e t refl refl refl
replies_spares e tag (ForwardTsn m) t p (IsBad _ _ _ _ _ _ _) = same_spares e t refl refl refl
replies_spares e tag (IForwardTsn m) t p (WrongKind _ _ _ _ _) = same_spares e t refl refl refl
replies_spares e tag (IForwardTsn m) t p (IsBad _ _ _ _ _ _ _) = same_spares e t refl refl refl
replies_spares e tag (Unknown n f v) t p (IsUnknown _ _ h) = absurd (unknown_never_replies e t p n f v h)

-- ---- a packet

-- what is known after some chunks
abbrev IsLeftBy : EndView → EndView → Type 0
IsLeftBy o e = KeepsLogs o e × Spares o e

each_spares : (tag : ℕ) (o : EndView) → Keeps tag (IsLeftBy o) (λ (x : ChunkMeaning). Unit {0}) (λ (p : Packet). Unit {0})
each_spares tag o = record {
  goes = λ e x y t any k act.
      let mid = goes_keeps e tag x y t k.0.sound act in
      let on = spares_on e t (rested t) (goes_spares e tag x y t k.0.sound act) (rested_spares t) in
      (keeps_on o e (rested t) k.0 (keeps_on e t (rested t) mid (rested_keeps t mid.sound)), spares_on o e (rested t) k.1 on);
  ends = λ e x t any k act. (keeps_on o e t k.0 (ends_keeps e tag x t k.0.sound act), spares_on o e t k.1 (ends_spares e tag x t act));
  replies = λ e x t p any k act. ((keeps_on o e t k.0 (replies_keeps e tag x t p k.0.sound act), spares_on o e t k.1 (replies_spares e tag x t p act)), tt);
}

pub acts_spare : (tag : ℕ) (e : EndView) (b : Notes) (xs : List ChunkMeaning) (t : EndView) (m : Notes) (v : Verdict) → IsSound e → AllAct tag e b xs t m v → Spares e t
acts_spare tag e b xs t m v s acts =
    (all_act_keeps tag (IsLeftBy e) (λ (x : ChunkMeaning). Unit {0}) (λ (p : Packet). Unit {0}) (each_spares tag e) e b xs t m v (λ x h. tt) (keeps_itself e s, same_spares e e refl refl refl) acts).0.1
