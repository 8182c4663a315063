-- An endpoint that isn't open: its sender and its receiver are new, and only its opening's chunks go out.
use Rattle.std.proofs.Common.{◌≡◌, ℕ, zero, suc, ◌≤◌, Bool, true, false, refl, sym, subst, ap, ◌∙◌}
use Rattle.sctp_model.specs.wire.Chunk.{ChunkMeaning, Data, IData, Init, InitAck, Sack, Heartbeat, HeartbeatAck, Abort, Shutdown, ShutdownAck, Error, CookieEcho, CookieAck, ShutdownComplete, ForwardTsn, IForwardTsn, Unknown}
use Rattle.sctp_model.specs.sender.SenderView.{fresh_sender, SendLimits}
use Rattle.sctp_model.specs.receiver.ReceiverView.{fresh_receiver}
use Rattle.sctp_model.specs.wire.Packet.{Packet}
use Rattle.sctp_model.specs.sender.Abandoning.{timed_out}
use Rattle.sctp_model.specs.end.EndView.{Idle, Listening, Echoing, Calling, Over, Terms, Configuration, Tags, Stage, Ended, Aborted, AbortedHere, Completed, StaleCookie, Phase, Open, EndView, send_limits}
use Rattle.sctp_model.specs.end.Clock.{turned, closed}
use Rattle.sctp_model.specs.end.Closing.{awaits_complete, hears, rested}
use Rattle.sctp_model.specs.end.PeerFaults.{GoesOn, Ends, Replies, Note}
use Rattle.sctp_model.specs.end.Opening.{echoing, terms_of_ack, joined, AcceptedAck, RefusedAck, EchoedAgain}
use Rattle.sctp_model.specs.end.Acting.{Acts, Closes, SaysNothing, CompleteCompleted}
use Rattle.sctp_model.specs.end.Wearing.{wearing}
use Rattle.sctp_model.proofs.PacedEnds.{worn_cases}
use Rattle.sctp_model.specs.end.Arriving.{Notes, packet_ended, kept_going}
use Rattle.sctp_safety.proofs.machine.EndWords.{rested_cases, Keeps, ended_cases}
use Rattle.sctp_safety.proofs.runs.Homes.{IsHome, home_turned, home_closed, home_renewed}
use Rattle.sctp_safety.proofs.runs.Pair.{opens_or_ends, AreOpening, AreViews}
use Rattle.sctp_safety.proofs.runs.Answers.{reply_opens}

-- ---- new views

-- a sender and a receiver by the endpoint's terms that nothing happened to
pub record IsBlank (e : EndView) : Type 0 where
  pub rwnd : ℕ
  pub sender : e.sender ≡ fresh_sender e.terms.own_tsn e.terms.outbound e.configuration.fragment rwnd e.terms.partial (send_limits e.configuration)
  pub receiver : e.receiver ≡ fresh_receiver e.terms.peer_tsn e.terms.inbound e.configuration.buffer e.configuration.reserve

-- not open yet, or closed before it ever was
abbrev pub never_opened : Phase → Bool
never_opened (Open t g) = false
never_opened (Over Completed) = false
never_opened h = true

-- Not open yet, or never to be, with new views, at a time that the clock has reached.
pub record IsUnmet (clock : ℕ) (e : EndView) : Type 0 where
  pub blank : IsBlank e
  pub unopened : never_opened e.phase ≡ true
  pub home : IsHome e
  pub moment : e.moment ≤ clock

-- the data timer marks nothing if nothing went out
pub timed_fresh : (initial streams fragment rwnd : ℕ) (partial : Bool) (limits : SendLimits) → timed_out (fresh_sender initial streams fragment rwnd partial limits) ≡ fresh_sender initial streams fragment rwnd partial limits
timed_fresh initial streams fragment rwnd partial limits =
    ap (λ (m : ℕ → Bool). record (fresh_sender initial streams fragment rwnd partial limits) { marked = m }) (λ i n. unmarked n i)
  where
    unmarked : (n : ℕ) → (timed_out (fresh_sender initial streams fragment rwnd partial limits)).marked n ≡ false
    unmarked zero = refl
    unmarked (suc n) = refl

-- ---- the same end, and others with its views

-- as before, with this configuration
pub record IsAlike (e t : EndView) : Type 0 where
  pub configuration : t.configuration ≡ e.configuration
  pub views : AreViews e t

abbrev pub alike : (e t : EndView) → t.configuration ≡ e.configuration → t.terms ≡ e.terms → t.sender ≡ e.sender → t.receiver ≡ e.receiver → t.moment ≡ e.moment → IsAlike e t
alike e t c x a r m = record { configuration = c; views = record { terms = x; sender = a; receiver = r; moment = m } }

pub blank_alike : (e t : EndView) → IsBlank e → IsAlike e t → IsBlank t
blank_alike e t b l = record {
  rwnd = b.rwnd;
  sender = l.views.sender ∙ b.sender
      ∙ ap (λ (x : Terms). fresh_sender x.own_tsn x.outbound e.configuration.fragment b.rwnd x.partial (send_limits e.configuration)) (sym l.views.terms)
      ∙ ap (λ (c : Configuration). fresh_sender t.terms.own_tsn t.terms.outbound c.fragment b.rwnd t.terms.partial (send_limits c)) (sym l.configuration);
  receiver = l.views.receiver ∙ b.receiver
      ∙ ap (λ (x : Terms). fresh_receiver x.peer_tsn x.inbound e.configuration.buffer e.configuration.reserve) (sym l.views.terms)
      ∙ ap (λ (c : Configuration). fresh_receiver t.terms.peer_tsn t.terms.inbound c.buffer c.reserve) (sym l.configuration);
}

-- no SHUTDOWN COMPLETE is awaited there
no_completion : (h : Phase) → hears awaits_complete h ≡ true → never_opened h ≡ true → ⊥
no_completion (Open t g) on off = absurd (cc)
no_completion Idle on off = absurd (cc)
no_completion Listening on off = absurd (cc)
no_completion (Calling d) on off = absurd (cc)
no_completion (Echoing t xs) on off = absurd (cc)
no_completion (Over why) on off = absurd (cc)

-- an open endpoint was opened
pub open_now : (h : Phase) (k : Tags) (g : Stage) → h ≡ Open k g → never_opened h ≡ true → ⊥
open_now h k g is off = let q : false ≡ true = subst (λ (l : Phase). never_opened l ≡ true) is off in absurd (cc)

module _ (clock : ℕ) where
  abbrev Unmet : EndView → Type 0
  Unmet e = IsUnmet clock e

  pub still : (e t : EndView) → Unmet e → IsAlike e t → never_opened t.phase ≡ true → IsHome t → Unmet t
  still e t m l unopened home = record {
    blank = blank_alike e t m.blank l;
    unopened = unopened;
    home = home;
    moment = subst (λ (n : ℕ). n ≤ clock) (sym l.views.moment) m.moment;
  }

  pub over : (e : EndView) (why : Ended) → never_opened (Over why) ≡ true → Unmet e → Unmet (closed why e)
  over e why before m = still e (closed why e) m (alike e (closed why e) refl refl refl refl refl) before (home_closed why e)

  -- an endpoint that isn't open doesn't go on with closing
  pub rests : (e : EndView) → Unmet e → Unmet (rested e)
  rests e m = rested_cases Unmet e m (λ t is d. absurd (open_now e.phase t _ is m.unopened)) (λ t is d. absurd (open_now e.phase t _ is m.unopened))

  -- ---- chunks of an opening

  goes : (e : EndView) (tag : ℕ) (x : ChunkMeaning) (y : Note) (t : EndView) → opens_or_ends x ≡ true → Unmet e → Acts e tag x (GoesOn y t) → Unmet t
  goes e tag (Data d) y t on m h = absurd (cc)
  goes e tag (IData d) y t on m h = absurd (cc)
  goes e tag (Init i) y t on m h = absurd (cc)
  goes e tag (InitAck i) y t on m (AcceptedAck d cookie is tagged value fault) = record { blank = record { rwnd = i.rwnd; sender = refl; receiver = refl }; unopened = refl; home = home_echoing; moment = m.moment }
    where
      h : IsHome (turned (Echoing (record { own = d.tag; peer = i.tag }) cookie) (joined (terms_of_ack e.configuration d i) i.rwnd e))
      h = home_turned (Echoing (record { own = d.tag; peer = i.tag }) cookie) (joined (terms_of_ack e.configuration d i) i.rwnd e)

      home_echoing : IsHome (echoing e d i cookie)
      home_echoing = record { shutdown = h.shutdown; ack = h.ack; shutdown_runs = h.shutdown_runs; ack_runs = h.ack_runs }
  goes e tag (Sack s) y t on m h = absurd (cc)
  goes e tag (Heartbeat i) y t on m h = absurd (cc)
  goes e tag (HeartbeatAck i) y t on m h = absurd (cc)
  goes e tag (Abort b xs) y t on m h = absurd (cc)
  goes e tag (Shutdown n) y t on m h = absurd (cc)
  goes e tag ShutdownAck y t on m h = absurd (cc)
  goes e tag (Error xs) y t on m (SaysNothing off) = m
  goes e tag (CookieEcho xs) y t on m (EchoedAgain _ k g _ is _ _) = absurd (open_now e.phase k g is m.unopened)
  goes e tag CookieAck y t on m h = absurd (cc)
  goes e tag (ShutdownComplete b) y t on m h = elim h [ ]
  goes e tag (ForwardTsn d) y t on m h = absurd (cc)
  goes e tag (IForwardTsn d) y t on m h = absurd (cc)
  goes e tag (Unknown k f w) y t on m h = absurd (cc)

  ends : (e : EndView) (tag : ℕ) (x : ChunkMeaning) (t : EndView) → opens_or_ends x ≡ true → Unmet e → Acts e tag x (Ends t) → Unmet t
  ends e tag (Data d) t on m h = absurd (cc)
  ends e tag (IData d) t on m h = absurd (cc)
  ends e tag (Init i) t on m h = absurd (cc)
  ends e tag (InitAck i) t on m h = elim h [ ]
  ends e tag (Sack s) t on m h = absurd (cc)
  ends e tag (Heartbeat i) t on m h = absurd (cc)
  ends e tag (HeartbeatAck i) t on m h = absurd (cc)
  ends e tag (Abort b xs) t on m h = let q : t ≡ closed Aborted e = cc h in subst Unmet (sym q) (over e Aborted refl m)
  ends e tag (Shutdown n) t on m h = absurd (cc)
  ends e tag ShutdownAck t on m h = absurd (cc)
  ends e tag (Error xs) t on m (Closes late) = over e StaleCookie refl m
  ends e tag (CookieEcho xs) t on m h = elim h [ ]
  ends e tag CookieAck t on m h = absurd (cc)
  ends e tag (ShutdownComplete b) t on m (CompleteCompleted awaited) = absurd (no_completion e.phase awaited m.unopened)
  ends e tag (ForwardTsn d) t on m h = absurd (cc)
  ends e tag (IForwardTsn d) t on m h = absurd (cc)
  ends e tag (Unknown k f w) t on m h = absurd (cc)

  replies : (e : EndView) (tag : ℕ) (x : ChunkMeaning) (t : EndView) (r : Packet) → opens_or_ends x ≡ true → Unmet e → Acts e tag x (Replies t r) → Unmet t
  replies e tag (Data d) t r on m h = absurd (cc)
  replies e tag (IData d) t r on m h = absurd (cc)
  replies e tag (Init i) t r on m h = absurd (cc)
  replies e tag (InitAck i) t r on m (RefusedAck _ _ _ _ _) = over e AbortedHere refl m
  replies e tag (Sack s) t r on m h = absurd (cc)
  replies e tag (Heartbeat i) t r on m h = absurd (cc)
  replies e tag (HeartbeatAck i) t r on m h = absurd (cc)
  replies e tag (Abort b xs) t r on m h = absurd (cc)
  replies e tag (Shutdown n) t r on m h = absurd (cc)
  replies e tag ShutdownAck t r on m h = absurd (cc)
  replies e tag (Error xs) t r on m h = elim h [ ]
  replies e tag (CookieEcho xs) t r on m h = elim h [ ]
  replies e tag CookieAck t r on m h = absurd (cc)
  replies e tag (ShutdownComplete b) t r on m h = elim h [ ]
  replies e tag (ForwardTsn d) t r on m h = absurd (cc)
  replies e tag (IForwardTsn d) t r on m h = absurd (cc)
  replies e tag (Unknown k f w) t r on m h = absurd (cc)

  pub openings_keep : (tag : ℕ) → Keeps tag Unmet (λ x. opens_or_ends x ≡ true) (λ r. AreOpening r.chunks)
  openings_keep tag = record {
    goes = λ e x y t on m act. rests t (goes e tag x y t on m act);
    ends = λ e x t on m act. ends e tag x t on m act;
    replies = λ e x t r on m act. (replies e tag x t r on m act, reply_opens e tag x t r act);
  }

  pub unmet_ended : (n : Notes) (e : EndView) → Unmet e → Unmet (packet_ended n e)
  unmet_ended n e m =
      ended_cases Unmet n e m (λ t g is. absurd (open_now e.phase t g is m.unopened)) (λ t g is. absurd (open_now e.phase t g is m.unopened))
      (λ x k. still x (kept_going true x) k (alike x (kept_going true x) refl refl refl refl refl) k.unopened (home_renewed x k.home))

  -- no open endpoint was never opened
  pub unmet_worn : (from : ℕ) (e : EndView) → Unmet e → Unmet (wearing from e)
  unmet_worn from e m = worn_cases Unmet from e m (λ test on. absurd (by e.phase on m.unopened))
    where
      by : (h : Phase) → hears (λ g. true) h ≡ true → never_opened h ≡ true → ⊥
      by (Open t g) on off = absurd (cc)
      by Idle on off = absurd (cc)
      by Listening on off = absurd (cc)
      by (Calling d) on off = absurd (cc)
      by (Echoing t xs) on off = absurd (cc)
      by (Over why) on off = absurd (cc)
