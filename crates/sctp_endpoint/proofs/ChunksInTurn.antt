-- Chunks act one after the other: what the ones so far left, and what the rest leaves after them.
use Rattle.std.proofs.Common.{◌≡◌, ℕ, ◌<◌, Bool, true, false, List, [], ◌∷◌, ◌++◌, length, refl, sym, subst, append_assoc, arith}
use Rattle.std.specs.Prelude.{◌==◌}
use Rattle.std.proofs.lemmas.Grind.{common_steps}
use Rattle.std.proofs.lemmas.List.{append-nil}
use Rattle.sctp_model.specs.wire.Chunk.{PieceMeaning, ChunkMeaning}
use Rattle.sctp_model.specs.messages.Framing.{data_chunk}
use Rattle.sctp_model.specs.end.EndView.{EndView, format_for}
use Rattle.sctp_model.specs.end.Closing.{rested}
use Rattle.sctp_model.specs.end.PeerFaults.{Note, GoesOn, PassedOver}
use Rattle.sctp_model.specs.end.Acting.{PieceActs, Acts}
use Rattle.sctp_model.specs.end.Strays.{Verdict}
use Rattle.sctp_model.specs.end.Arriving.{AllAct, NoneLeft, Next, Passes, Notes, noted, verdict_of}
use Rattle.sctp_outcomes.proofs.SetUp.{chunks_leave_the_configuration}
use Rattle.sctp_endpoint.specs.inner.Acted.{notes_meaning, HasTag, GoesOnBehind, EndsWith}
use Rattle.sctp_association.specs.declared.machine.Machine.{Machine}
use Rattle.sctp_endpoint.specs.Left.{Left}
use Rattle.sctp_endpoint.specs.declared.after.After.{After}
use Rattle.sctp_endpoint.specs.declared.after.Notes as declared

-- What these chunks left: whatever acts from there on, acts behind them.
abbrev pub ActsBehind : ℕ → EndView → Notes → List ChunkMeaning → EndView → Notes → Type 0
ActsBehind tag v k done t l =
    (rest : List ChunkMeaning) (u : EndView) (n : Notes) (x : Verdict) → AllAct tag t l rest u n x → AllAct tag v k (done ++ rest) u n x

pub behind_more : (tag : ℕ) (v t w : EndView) (k l n : Notes) (done : List ChunkMeaning) (m : ChunkMeaning)
    → ActsBehind tag v k done t l → GoesOnBehind tag t l m w n → ActsBehind tag v k (done ++ m ∷ []) w n
behind_more tag v t w k l n done m before more =
    λ rest u i y all. rw (append_assoc done (m ∷ []) rest) (before (m ∷ rest) u i y (more rest u i y all))

-- where a chunk goes on, and where it is passed over
pub goes_on : (tag : ℕ) (t w : EndView) (k : Notes) (note : Note) (m : ChunkMeaning)
    → Acts t tag m (GoesOn note w) → GoesOnBehind tag t k m (rested w) (noted note k)
goes_on tag t w k note m acts = λ rest u n y all. Next t w u note k n m rest y acts all

pub passes_over : (tag : ℕ) (t : EndView) (k : Notes) (m : ChunkMeaning) → Acts t tag m PassedOver → GoesOnBehind tag t k m t k
passes_over tag t k m acts = λ rest u n y all. Passes t u k n m rest y acts all

-- those that acted, alone
pub behind_none : (tag : ℕ) (v t : EndView) (k l : Notes) (done : List ChunkMeaning) → ActsBehind tag v k done t l
    → AllAct tag v k done t l (verdict_of l.listed)
behind_none tag v t k l done before =
    subst (λ (ms : List ChunkMeaning). AllAct tag v k ms t l (verdict_of l.listed)) (append-nil done) (before [] t l (verdict_of l.listed) (NoneLeft t l))

-- they left the end as it is set up
pub set_up_behind : (tag : ℕ) (v t : EndView) (k l : Notes) (done : List ChunkMeaning) → ActsBehind tag v k done t l → t.configuration ≡ v.configuration
set_up_behind tag v t k l done before = chunks_leave_the_configuration tag v t k l done (verdict_of l.listed) (behind_none tag v t k l done before)

-- those that acted, where none is left
pub behind_all : (tag : ℕ) (v t : EndView) (k l : Notes) (b : Bool) (ms done rest : List ChunkMeaning) → l.listed ≡ b → ms ≡ done ++ rest → rest ≡ []
    → ActsBehind tag v k done t l → AllAct tag v k ms t l (verdict_of b)
behind_all tag v t k l b ms done rest listed split none before =
    subst (λ (c : Bool). AllAct tag v k ms t l (verdict_of c)) listed
    (rw split (before rest t l (verdict_of l.listed) (subst (λ (xs : List ChunkMeaning). AllAct tag t l xs t l (verdict_of l.listed)) (sym none) (NoneLeft t l))))

-- those that acted, and one that ended the packet
pub behind_end : (tag : ℕ) (v t u : EndView) (k : Notes) (n l : declared.Notes) (ms done rest : List ChunkMeaning) (m : ChunkMeaning) (x : Verdict)
    → l ≡ n → ms ≡ done ++ m ∷ rest → ActsBehind tag v k done t (notes_meaning n) → EndsWith tag t (notes_meaning n) m u x
    → AllAct tag v k ms u (notes_meaning l) x
behind_end tag v t u k n l ms done rest m x same split before ends =
    subst (λ (i : declared.Notes). AllAct tag v k ms u (notes_meaning i) x) (sym same) (rw split (before (m ∷ rest) u (notes_meaning n) x (ends rest)))

-- a list that begins with a chunk in two ways
pub same_first : (xs : List ChunkMeaning) (a m : ChunkMeaning) (bs ms : List ChunkMeaning) → xs ≡ a ∷ bs → xs ≡ m ∷ ms → a ≡ m
same_first xs a m bs ms p q = cc

pub same_others : (xs : List ChunkMeaning) (a m : ChunkMeaning) (bs ms : List ChunkMeaning) → xs ≡ a ∷ bs → xs ≡ m ∷ ms → bs ≡ ms
same_others xs a m bs ms p q = cc

-- a list that isn't empty begins with a chunk
pub begins : (xs : List ChunkMeaning) → (length xs == 0) ≡ false → (m : ChunkMeaning) × (ms : List ChunkMeaning) × (xs ≡ m ∷ ms)
begins [] e = absurd (cc)
begins (m ∷ ms) e = (m, ms, refl)

pub ends : (xs : List ChunkMeaning) → (length xs == 0) ≡ true → xs ≡ []
ends [] e = refl
ends (m ∷ ms) e = absurd (let some : 0 < length (m ∷ ms) = omega arith in grind (arith, common_steps))

-- what a piece leaves is what its chunk leaves
pub piece_left : (interleaved : Bool) (a : After) (v : EndView) (tag : ℕ) (p : PieceMeaning) (m : Machine)
    → Left a v (PieceActs (format_for interleaved) v p) m → Left a v (Acts v tag (data_chunk (format_for interleaved) p)) m
piece_left true a v tag p m left = left
piece_left false a v tag p m left = left

pub piece_goes_on : (interleaved : Bool) (tag : ℕ) (t w : EndView) (k : Notes) (note : Note) (p : PieceMeaning)
    → PieceActs (format_for interleaved) t p (GoesOn note w) → GoesOnBehind tag t k (data_chunk (format_for interleaved) p) (rested w) (noted note k)
piece_goes_on true tag t w k note p acts = goes_on tag t w k note (data_chunk (format_for true) p) acts
piece_goes_on false tag t w k note p acts = goes_on tag t w k note (data_chunk (format_for false) p) acts

pub piece_tagged : (interleaved : Bool) (p : PieceMeaning) → HasTag (data_chunk (format_for interleaved) p)
piece_tagged true p = tt
piece_tagged false p = tt
