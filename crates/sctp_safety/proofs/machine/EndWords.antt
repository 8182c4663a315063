-- What a step does to an endpoint, in words that facts are proved over: the turn of the phase, and what every chunk leaves as it was.
use Rattle.std.specs.Prelude.{◌&&◌, if◌then◌else◌}
use Rattle.std.proofs.Common.{◌≡◌, ℕ, Bool, true, false, List, inl, inr, refl}
use Rattle.sctp_model.specs.numbers.Lists.{Has}
use Rattle.sctp_model.specs.wire.Chunk.{ChunkMeaning}
use Rattle.sctp_model.specs.wire.Packet.{Packet}
use Rattle.sctp_model.specs.sender.Readers.{drained}
use Rattle.sctp_model.specs.end.EndView.{Tags, Established, ShutdownPending, ShutdownSent, ShutdownReceived, ShutdownAckSent, Phase, Idle, Listening, Calling, Echoing, Open, Over, EndView, Stage}
use Rattle.sctp_model.specs.end.Closing.{says_shutdown, answers_shutdown, rested_in, rested, is_shutdown_sent}
use Rattle.sctp_model.specs.end.PeerFaults.{GoesOn, Ends, Replies, Note}
use Rattle.sctp_model.specs.end.Acting.{Acts}
use Rattle.sctp_model.specs.end.Strays.{Verdict, Taken, Dropped, Answer}
use Rattle.sctp_model.specs.end.Arriving.{AllAct, NoneLeft, Next, Passes, Last, EndsAnswered, Stopped, verdict_of, Notes, noted, acknowledges, delays, kept_going, is_at_once, acknowledges_in, packet_ended}

-- ---- an endpoint at rest

pub rested_cases : (P : EndView → Type 0) (e : EndView) → P e →
    ((t : Tags) → e.phase ≡ Open t ShutdownPending → drained e.sender ≡ true → P (says_shutdown t e)) →
    ((t : Tags) → e.phase ≡ Open t ShutdownReceived → drained e.sender ≡ true → P (answers_shutdown t e)) → P (rested e)
rested_cases P e same says answers = go e.phase refl (drained e.sender) refl
  where
    go : (h : Phase) → e.phase ≡ h → (b : Bool) → drained e.sender ≡ b → P (rested_in h b e)
    go Idle is b d = same
    go Listening is b d = same
    go (Calling x) is b d = same
    go (Echoing t xs) is b d = same
    go (Open t Established) is b d = same
    go (Open t ShutdownPending) is true d = says t is d
    go (Open t ShutdownPending) is false d = same
    go (Open t ShutdownSent) is b d = same
    go (Open t ShutdownReceived) is true d = answers t is d
    go (Open t ShutdownReceived) is false d = same
    go (Open t ShutdownAckSent) is b d = same
    go (Over why) is b d = same

-- ---- chunks in their order: what each keeps, all keep

-- what is known of an answer
abbrev pub OfAnswer : (Packet → Type 0) → Verdict → Type 0
OfAnswer R Taken = Unit {0}
OfAnswer R (Dropped n) = Unit {0}
OfAnswer R (Answer p) = R p

-- a packet whose chunks all acted isn't answered
by_listed : (R : Packet → Type 0) (b : Bool) → OfAnswer R (verdict_of b)
by_listed R true = tt
by_listed R false = tt

-- What each chunk of these keeps of an endpoint: whether the packet goes on, ends, or is answered.
pub record Keeps (tag : ℕ) (P : EndView → Type 0) (Q : ChunkMeaning → Type 0) (R : Packet → Type 0) : Type 0 where
  pub goes : (e : EndView) (x : ChunkMeaning) (y : Note) (t : EndView) → Q x → P e → Acts e tag x (GoesOn y t) → P (rested t)
  pub ends : (e : EndView) (x : ChunkMeaning) (t : EndView) → Q x → P e → Acts e tag x (Ends t) → P t
  pub replies : (e : EndView) (x : ChunkMeaning) (t : EndView) (p : Packet) → Q x → P e → Acts e tag x (Replies t p) → P t × R p

pub all_act_keeps : (tag : ℕ) (P : EndView → Type 0) (Q : ChunkMeaning → Type 0) (R : Packet → Type 0) → Keeps tag P Q R →
    (e : EndView) (b : Notes) (xs : List ChunkMeaning) (t : EndView) (m : Notes) (v : Verdict) → ((x : ChunkMeaning) → Has xs x → Q x) → P e → AllAct tag e b xs t m v → P t × OfAnswer R v
all_act_keeps tag P Q R k e b xs t m v q p (NoneLeft _ _) = (p, by_listed R b.listed)
all_act_keeps tag P Q R k e b xs t m v q p (Next _ mid _ y _ _ x ys _ act rest) =
    all_act_keeps tag P Q R k (rested mid) (noted y b) ys t m v (λ z h. q z (inr h)) (k.goes e x y mid (q x (inl refl)) p act) rest
all_act_keeps tag P Q R k e b xs t m v q p (Passes _ _ _ _ x ys _ act rest) =
    all_act_keeps tag P Q R k e b ys t m v (λ z h. q z (inr h)) p rest
all_act_keeps tag P Q R k e b xs t m v q p (Last _ _ _ x ys act) = (k.ends e x t (q x (inl refl)) p act, tt)
all_act_keeps tag P Q R k e b xs t m v q p (EndsAnswered _ _ _ x ys r act) = k.replies e x t r (q x (inl refl)) p act
all_act_keeps tag P Q R k e b xs t m v q p (Stopped _ _ x ys n act) = (p, tt)

-- ---- the end of a packet

-- Nothing changes; or a SACK is due, or waits, and then the SHUTDOWN's timer may begin anew.
pub ended_cases : (P : EndView → Type 0) (n : Notes) (e : EndView) → P e → ((t : Tags) (g : Stage) → e.phase ≡ Open t g → P (acknowledges g e)) →
    ((t : Tags) (g : Stage) → e.phase ≡ Open t g → P (delays e)) → ((x : EndView) → P x → P (kept_going true x)) → P (packet_ended n e)
ended_cases P n e same due waits renewed = go n.acknowledges e.phase refl
  where
    by : (b : Bool) (t : Tags) (g : Stage) → e.phase ≡ Open t g → P (if b then acknowledges g e else delays e)
    by true t g is = due t g is
    by false t g is = waits t g is

    goes_on : (b : Bool) (x : EndView) → P x → P (kept_going b x)
    goes_on false x p = p
    goes_on true x p = renewed x p

    go : (b : Bool) (h : Phase) → e.phase ≡ h → P (acknowledges_in n b h e)
    go false h is = same
    go true Idle is = same
    go true Listening is = same
    go true (Calling d) is = same
    go true (Echoing t xs) is = same
    go true (Open t g) is = goes_on (e.configuration.standard_closing && (n.brings_data && is_shutdown_sent g)) _ (by (is_at_once n g e) t g is)
    go true (Over why) is = same
