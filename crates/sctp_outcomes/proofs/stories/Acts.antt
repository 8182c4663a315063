-- What data, a FORWARD, a SACK and the chunks of closing do to an open endpoint, computed.
use Rattle.std.proofs.Common.{◌≡◌, ℕ, ◌<◌, ◌≤◌, ◌==◌, Bool, true, false, length, arith, subst, ap, ◌&&◌}
use Rattle.std.proofs.lemmas.Bool.{cond_both, eqb-true}
use Rattle.sctp_model.specs.numbers.Lists.{at}
use Rattle.sctp_model.specs.wire.Chunk.{PieceMeaning, ForwardMeaning}
use Rattle.sctp_model.specs.messages.Format.{Format}
use Rattle.sctp_model.specs.receiver.ReceiverView.{ReceiverView}
use Rattle.sctp_model.specs.receiver.PieceTaken.{answer_to, is_misnumbered}
use Rattle.sctp_model.specs.receiver.ForwardTaken.{ForwardAnswer, Moved, ForwardTaken, forward_answer}
use Rattle.sctp_model.specs.end.EndView.{Tags, Stage, Open, EndView, format_of}
use Rattle.sctp_model.specs.end.Closing.{takes_data}
use Rattle.sctp_model.specs.end.Reports.{with_causes}
use Rattle.sctp_model.specs.end.PeerFaults.{GoesOn, Note, ToAcknowledge}
use Rattle.sctp_model.specs.end.Acting.{same_format, asks_at_once, piece_causes, may_forward, PieceActs, ForwardActs}
use Rattle.sctp_model.specs.end.Acting.{PieceComes}
use Rattle.sctp_model.specs.end.Acting.{ForwardComes}
use Rattle.sctp_outcomes.specs.receiver.Steps.{IsBound, cumulative, piece_step, forward_step}
use Rattle.sctp_outcomes.proofs.receiver.StepsLemmas.{cumulative_is, piece_steps, forward_steps}

-- ---- bounds of what was recorded

pub bound_none : (r : ReceiverView) → r.seen ≡ (λ i. false) → IsBound r 0
bound_none r none i on = absurd (let q : r.seen i ≡ false = λ j. none j i in cc)

-- one index more
pub bound_more : (seen : ℕ → Bool) (n bound : ℕ) → n ≤ bound → ((i : ℕ) → seen i ≡ true → i ≤ bound) → (i : ℕ) → at seen n true i ≡ true → i ≤ bound
bound_more seen n bound le within i = cond_both (i == n) true (seen i) (λ (b : Bool). b ≡ true → i ≤ bound)
    (λ same on. let e = eqb-true i n same in omega (arith, e, le)) (λ other on. within i on)

-- ---- chunks

-- the endpoint after a data chunk, and what is noted of that
abbrev pub after_data : EndView → (bound : ℕ) → PieceMeaning → EndView
after_data e bound p =
    let c = cumulative e.receiver bound in
    with_causes (piece_causes e p (answer_to (format_of e) e.receiver c p)) (record e { receiver = piece_step (format_of e) e.receiver c p })

abbrev pub data_note : EndView → (bound : ℕ) → PieceMeaning → Note
data_note e bound p = ToAcknowledge true (asks_at_once p (answer_to (format_of e) e.receiver (cumulative e.receiver bound) p))

pub data_acts : (f : Format) (e : EndView) (t : Tags) (g : Stage) (bound : ℕ) (p : PieceMeaning) → IsBound e.receiver bound → e.phase ≡ Open t g → takes_data g ≡ true →
    0 < length p.bytes → same_format f (format_of e) ≡ true → e.configuration.strict ≡ false → PieceActs f e p (GoesOn (data_note e bound p) (after_data e bound p))
data_acts f e t g bound p within is hears some same lenient =
    let c = cumulative e.receiver bound in
    let k = piece_steps (format_of e) e.receiver c p (cumulative_is e.receiver bound within) in
    PieceComes t g (answer_to (format_of e) e.receiver c p) (piece_step (format_of e) e.receiver c p) is hears some same k
    (ap (λ (b : Bool). b && is_misnumbered (format_of e) e.receiver k.c p) lenient)

-- the endpoint after a FORWARD that moves it
abbrev pub after_skip : EndView → (bound : ℕ) → ForwardMeaning → EndView
after_skip e bound m = record e { receiver = forward_step (format_of e) e.receiver (cumulative e.receiver bound) m }

moves : (e : EndView) (bound : ℕ) (m : ForwardMeaning) → IsBound e.receiver bound → forward_answer e.receiver (cumulative e.receiver bound) m ≡ Moved →
    ForwardTaken (format_of e) e.receiver m Moved (forward_step (format_of e) e.receiver (cumulative e.receiver bound) m)
moves e bound m within is =
    subst (λ (a : ForwardAnswer). ForwardTaken (format_of e) e.receiver m a (forward_step (format_of e) e.receiver (cumulative e.receiver bound) m)) is
    (forward_steps (format_of e) e.receiver (cumulative e.receiver bound) m (cumulative_is e.receiver bound within))

pub forward_acts : (f : Format) (e : EndView) (t : Tags) (g : Stage) (bound : ℕ) (m : ForwardMeaning) → IsBound e.receiver bound → e.phase ≡ Open t g → takes_data g ≡ true →
    may_forward f e ≡ true → forward_answer e.receiver (cumulative e.receiver bound) m ≡ Moved → ForwardActs f e m (GoesOn (ToAcknowledge false true) (after_skip e bound m))
forward_acts f e t g bound m within is hears may moved =
    ForwardComes t g (forward_step (format_of e) e.receiver (cumulative e.receiver bound) m) is hears may (moves e bound m within moved)
