-- Messages wait on streams that are there alone; and building a packet leaves resets noted.
use Rattle.std.proofs.Common.{◌≡◌, ℕ, zero, suc, ◌<◌, ◌≤◌, nat_le, ◌==◌, if◌then◌else◌, Bool, true, false, List, [], ◌∷◌, ◌++◌, Option, Some, None, inl, inr, refl, sym, subst, ap, ◌∙◌, arith}
use Rattle.std.proofs.lemmas.Bool.Decides.{nat_tests}
use Rattle.sctp_model.specs.numbers.Lists.{Has, at}
use Rattle.sctp_model.specs.wire.Chunk.{ChunkMeaning, PieceMeaning, ForwardMeaning}
use Rattle.sctp_model.specs.messages.Format.{Format, Kind, Ordered, Unordered}
use Rattle.sctp_model.specs.messages.Pieces.{Piece}
use Rattle.sctp_model.specs.receiver.ReceiverView.{Handed, ReceiverView}
use Rattle.sctp_model.specs.receiver.Receiving.{recorded, Gives, GivesOrdered, GivesAll}
use Rattle.sctp_model.specs.receiver.Reading.{lane_of, is_ahead, piece_at}
use Rattle.sctp_model.specs.receiver.PieceTaken.{PieceAnswer, Duplicate, Ahead, NoSuchStream, Passed, NoRoom, Kept, is_duplicate, answer_to, Leaves, PieceTaken}
use Rattle.sctp_model.specs.receiver.ForwardTaken.{ForwardAnswer, OutOfDate, Bad, Moved, stays_by, jumped, forwarded, ForwardLeaves, ForwardTaken}
use Rattle.sctp_model.specs.receiver.SackMade.{TakeLeaves}
use Rattle.sctp_model.proofs.receiver.OneStep.{filter_has}
use Rattle.sctp_model.proofs.receiver.RowLemmas.{row_fails}
use Rattle.sctp_model.specs.end.EndView.{EndView}
use Rattle.sctp_model.specs.end.Building.{Slot, Puts, NoMore, NotDue, Put, IsFull, Builds, Sleeps, Waits, Calls, Echoes, EndsFull, Fills, EchoSlot, CookieAckSlot, HeartbeatSlot, BeatSlot, ErrorSlot, SackSlot, ForwardSlot, AnswerSlot, RequestSlot, ShutdownSlot, ShutdownAckSlot, once_built}
use Rattle.sctp_model.specs.end.Reconfiguring.{asking_now, asking}
use Rattle.sctp_model.specs.world.World.{Side, A, B, World, end_of, Setup, start}
use Rattle.sctp_model.specs.world.Events.{Event, Outcome}
use Rattle.sctp_model.specs.world.Steps.{PassesThrough, last_of}
use Rattle.sctp_outcomes.proofs.Receivers.{IsReceiverLaw, Whatever, HoldsIn, holds_step}
use Rattle.sctp_channels.specs.Making.{IsReached, IsAllNoted}

-- ---- a receiver

-- chunks are kept, and messages wait, of streams that are there
pub record IsThere (f : Format) (r : ReceiverView) : Type 0 where
  pub kept : (y : Piece) → Has r.kept y → y.lane.stream < r.streams
  pub waits : (s : ℕ) → (r.waiting s ≡ [] → ⊥) → s < r.streams

-- more waits on one of them
waits_at : (w : ℕ → List Handed) (s : ℕ) (hs : List Handed) (n : ℕ) → s < n → ((i : ℕ) → (w i ≡ [] → ⊥) → i < n) → (i : ℕ) → (at w s hs i ≡ [] → ⊥) → i < n
waits_at w s hs n lt all i = go (i == s) refl
  where
    go : (b : Bool) → (i == s) ≡ b → ((if b then hs else w i) ≡ [] → ⊥) → i < n
    go true is some = let e : i ≡ s = grind (arith, nat_tests, is) in omega (arith, e, lt)
    go false is some = all i some

ordered_there : (f : Format) (s : ℕ) (r t : ReceiverView) → s < r.streams → IsThere f r → GivesOrdered f s r t → IsThere f t × (t.streams ≡ r.streams)
ordered_there f s r t lt k (ms, n, due, is) = subst (λ (u : ReceiverView). IsThere f u × (u.streams ≡ r.streams)) (sym is) (
  record { kept = λ y has. k.kept y (filter_has _ r.kept y has); waits = waits_at r.waiting s (r.waiting s ++ ms) r.streams lt k.waits },
  refl,
)

gives_there : (f : Format) (kind : Kind) (y : Piece) (r t : ReceiverView) → y.lane.stream < r.streams → IsThere f r → Gives f kind y r t → IsThere f t
gives_there f Ordered y r t lt k gives = (ordered_there f y.lane.stream r t lt k gives).0
gives_there f Unordered y r t lt k (inr (none, is)) = subst (IsThere f) (sym is) k
gives_there f Unordered y r t lt k (inl (x, xs, whole, is)) =
    subst (IsThere f) (sym is) (record { kept = λ z has. k.kept z (filter_has _ r.kept z has); waits = waits_at r.waiting x.lane.stream _ r.streams (k.kept x (whole.1 x (inl refl))) k.waits })

all_there : (f : Format) (n : ℕ) (r t : ReceiverView) → n ≤ r.streams → IsThere f r → GivesAll f n r t → IsThere f t × (t.streams ≡ r.streams)
all_there f zero r t le k is = subst (λ (u : ReceiverView). IsThere f u × (u.streams ≡ r.streams)) (sym is) (k, refl)
all_there f (suc n) r t le k (mid, before, now) =
    let first = all_there f n r mid (omega (arith, le)) k before in
    let later = ordered_there f n mid t (let same = first.1 in omega (arith, le, same)) first.0 now in
    (later.0, later.1 ∙ first.1)

lane_is : (s : ℕ) (unordered : Bool) → (lane_of s unordered).stream ≡ s
lane_is s true = refl
lane_is s false = refl

-- a chunk that is kept is of a stream that is there
kept_there : (f : Format) (r : ReceiverView) (c : ℕ) (p : PieceMeaning) → answer_to f r c p ≡ Kept → (piece_at f r c p).lane.stream < r.streams
kept_there f r c p is =
    let first = row_fails (is_duplicate f r c p) Duplicate _ Kept is (λ e. cc) in
    let second = row_fails (is_ahead r c p.tsn) Ahead _ Kept first.1 (λ e. cc) in
    let third = row_fails (nat_le r.streams p.stream) NoSuchStream _ Kept second.1 (λ e. cc) in
    let low = third.0 in
    let lt : p.stream < r.streams = grind (arith, low, nat_tests) in
    let same = lane_is p.stream p.unordered in
    subst (λ (n : ℕ). n < r.streams) (sym same) lt

piece_there : (f : Format) (r : ReceiverView) (p : PieceMeaning) (a : PieceAnswer) (t : ReceiverView) → IsThere f r → PieceTaken f r p a t → IsThere f t
piece_there f r p a t k came = go a (sym came.answer) came.leaves
  where
    go : (b : PieceAnswer) → answer_to f r came.c p ≡ b → Leaves f r (piece_at f r came.c p) p.tsn b t → IsThere f t
    go Duplicate answer is = subst (IsThere f) (sym is) (record { kept = k.kept; waits = k.waits })
    go Ahead answer is = subst (IsThere f) (sym is) k
    go NoSuchStream answer is = subst (IsThere f) (sym is) (record { kept = k.kept; waits = k.waits })
    go Passed answer is = subst (IsThere f) (sym is) (record { kept = k.kept; waits = k.waits })
    go NoRoom answer is = subst (IsThere f) (sym is) k
    go Kept answer takes =
        let x = piece_at f r came.c p in
        let lt = kept_there f r came.c p answer in
        gives_there f x.lane.kind x (record (recorded r x) { kept = x ∷ r.kept }) t lt
        (record { kept = λ y has. elim has [ inl own ↦ subst (λ (z : Piece). z.lane.stream < r.streams) own lt | inr behind ↦ k.kept y behind ]; waits = k.waits }) takes

forward_there : (f : Format) (r : ReceiverView) (m : ForwardMeaning) (a : ForwardAnswer) (t : ReceiverView) → IsThere f r → ForwardTaken f r m a t → IsThere f t
forward_there f r m a t k came = go a came.leaves
  where
    go : (b : ForwardAnswer) → ForwardLeaves f r came.c m b t → IsThere f t
    go OutOfDate is = subst (IsThere f) (sym is) k
    go Bad is = subst (IsThere f) (sym is) k
    go Moved gives =
        (all_there f r.streams (forwarded f r came.c m) t (omega arith)
        (record { kept = λ y has. k.kept y (filter_has (λ (x : Piece). stays_by x.lane.kind f (jumped f r came.c m) x) r.kept y has); waits = k.waits }) gives).0

take_there : (f : Format) (r : ReceiverView) (s : ℕ) (h : Option Handed) (t : ReceiverView) → IsThere f r → TakeLeaves r s h t → IsThere f t
take_there f r s None t k (none, is) = subst (IsThere f) (sym is) k
take_there f r s (Some h) t k (rest, waits, is) =
    subst (IsThere f) (sym is) (record { kept = k.kept; waits = waits_at r.waiting s rest r.streams (k.waits s (λ none. absurd (cc (none, waits)))) k.waits })

there_law : IsReceiverLaw (Whatever IsThere)
there_law = record {
  fresh = λ f i n b v. record { kept = λ y has. absurd has; waits = λ s some. absurd (some refl) };
  piece = λ f n r p a t k came. piece_there f r p a t k came;
  forward = λ f n r m a t k came. forward_there f r m a t k came;
  sent = λ f n r k. record { kept = k.kept; waits = k.waits };
  taken = λ f n r s h t k takes. take_there f r s h t k takes;
  reset = λ f n r x k. record { kept = k.kept; waits = k.waits };
}

-- ---- a world that a run leads to

abbrev AreThere : World → Type 0
AreThere w = HoldsIn (Whatever IsThere) there_law w

along : (w : World) (es : List Event) (os : List (Option Outcome)) (vs : List World) → PassesThrough w es os vs → AreThere w → AreThere (last_of w vs)
along w [] [] [] passes all = all
along w (e ∷ es) (o ∷ os) (v ∷ vs) (step, passes) all = along v es os vs passes (holds_step (Whatever IsThere) there_law w e o v all step)
along w [] (o ∷ os) vs passes all = absurd passes
along w [] [] (v ∷ vs) passes all = absurd passes
along w (e ∷ es) [] vs passes all = absurd passes
along w (e ∷ es) (o ∷ os) [] passes all = absurd passes

start_there : (s : Setup) → AreThere (start s)
start_there s A = there_law.fresh _ _ _ _ _
start_there s B = there_law.fresh _ _ _ _ _

-- a message waits on a stream that is there
pub waits_there : (w : World) → IsReached w → (y : Side) (s : ℕ) → ((end_of w y).receiver.waiting s ≡ [] → ⊥) → s < (end_of w y).receiver.streams
waits_there w r y s some =
    let all = along (start r.setup) r.events r.outcomes r.worlds r.passes (start_there r.setup) y in
    (subst (λ (v : World). IsThere (Rattle.sctp_model.specs.end.EndView.format_of (end_of v y)) (end_of v y).receiver) r.ends all).waits s some

-- ---- a packet that is built

-- the same messages wait, and the same resets are to be told
record TellsSame (e t : EndView) : Type 0 where
  waiting : t.receiver.waiting ≡ e.receiver.waiting
  streams : t.receiver.streams ≡ e.receiver.streams
  told : t.receiver.resets.told ≡ e.receiver.resets.told

same_on : (e t u : EndView) → TellsSame e t → TellsSame t u → TellsSame e u
same_on e t u a b = record { waiting = b.waiting ∙ a.waiting; streams = b.streams ∙ a.streams; told = b.told ∙ a.told }

same_built : (s : Slot) (e : EndView) → TellsSame e (once_built s e)
same_built EchoSlot e = record { waiting = refl; streams = refl; told = refl }
same_built CookieAckSlot e = record { waiting = refl; streams = refl; told = refl }
same_built HeartbeatSlot e = record { waiting = refl; streams = refl; told = refl }
same_built BeatSlot e = record { waiting = refl; streams = refl; told = refl }
same_built ErrorSlot e = record { waiting = refl; streams = refl; told = refl }
same_built SackSlot e = record { waiting = refl; streams = refl; told = refl }
same_built ForwardSlot e = record { waiting = refl; streams = refl; told = refl }
same_built AnswerSlot e = record { waiting = refl; streams = refl; told = refl }
same_built RequestSlot e = record { waiting = refl; streams = refl; told = refl }
same_built ShutdownSlot e = record { waiting = refl; streams = refl; told = refl }
same_built ShutdownAckSlot e = record { waiting = refl; streams = refl; told = refl }

same_puts : (ss : List Slot) (e : EndView) (xs zs : List ChunkMeaning) (full : Bool) (t : EndView) → Puts ss e xs zs full t → TellsSame e t
same_puts ss e xs zs full t (NoMore _ _) = record { waiting = refl; streams = refl; told = refl }
same_puts ss e xs zs full t (NotDue _ more _ _ _ _ _ off rest) = same_puts more e xs zs full t rest
same_puts ss e xs zs full t (Put s more _ x _ _ _ _ due wants room rest) = same_on e (once_built s e) t (same_built s e) (same_puts more (once_built s e) (xs ++ x ∷ []) zs full t rest)
same_puts ss e xs zs full t (IsFull _ _ _ _ _ due wants room) = record { waiting = refl; streams = refl; told = refl }

same_asking : (b : Bool) (e : EndView) → TellsSame e (asking_now b e)
same_asking true e = record { waiting = refl; streams = refl; told = refl }
same_asking false e = record { waiting = refl; streams = refl; told = refl }

same_builds : (e : EndView) (zs : List ChunkMeaning) (t : EndView) → Builds e zs t → TellsSame e t
same_builds e zs t (Sleeps _) = record { waiting = refl; streams = refl; told = refl }
same_builds e zs t (Waits _ _ _) = record { waiting = refl; streams = refl; told = refl }
same_builds e zs t (Calls _ _ _) = record { waiting = refl; streams = refl; told = refl }
same_builds e zs t (Echoes _ _ _ full _ is puts) = same_puts _ e [] zs full t puts
same_builds e zs t (EndsFull _ _ _ _ is puts) = same_on e (asking e) t (same_asking _ e) (same_puts _ (asking e) [] zs true t puts)
same_builds e zs t (Fills _ _ ys x is puts) =
    let s = same_on e (asking e) x (same_asking _ e) (same_puts _ (asking e) [] ys false x puts) in record { waiting = s.waiting; streams = s.streams; told = s.told }

pub builds_noted : (e : EndView) (zs : List ChunkMeaning) (t : EndView) → Builds e zs t → IsAllNoted e → IsAllNoted t
builds_noted e zs t b all =
    let same = same_builds e zs t b in
    record {
      there = λ s lt. subst (λ (f : ℕ → Option ℕ). f s ≡ None) (sym same.told) (all.there s (subst (λ (n : ℕ). s < n) same.streams lt));
      waiting = λ s some. subst (λ (f : ℕ → Option ℕ). f s ≡ None) (sym same.told) (all.waiting s (λ none. some (ap (λ (f : ℕ → List Handed). f s) same.waiting ∙ none)));
    }
