-- What is held never passes the buffer: a chunk is taken only if it fits, and delivering, letting go and taking need no space.
use Rattle.std.proofs.Common.{◌≡◌, ℕ, zero, suc, ◌+◌, ◌<◌, ◌≤◌, ◌⊎◌, nat_le, Bool, true, false, List, [], ◌∷◌, ◌++◌, length, filter, Option, Some, None, refl, ap, sym, ◌∙◌, subst, inl, inr, arith}
use Rattle.std.proofs.lemmas.Bool.{cases_eq, cases_lt}
use Rattle.std.proofs.lemmas.Bool.Decides.{nat_tests}
use Rattle.sctp_model.specs.numbers.Lists.{at}
use Rattle.sctp_model.specs.messages.Format.{Format, Kind, Ordered, Unordered}
use Rattle.sctp_model.specs.wire.Chunk.{PieceMeaning, ForwardMeaning}
use Rattle.sctp_model.specs.messages.Pieces.{Piece}
use Rattle.sctp_model.specs.receiver.ReceiverView.{Handed, ReceiverView, fresh_receiver, size_of_pieces, size_of_messages, size_of_waiting, held_bytes}
use Rattle.sctp_model.specs.receiver.Receiving.{message_of, recorded, GivesOrdered, GivesUnordered, Gives, GivesAll}
use Rattle.sctp_model.specs.receiver.PieceTaken.{PieceAnswer, Duplicate, Ahead, NoSuchStream, Passed, NoRoom, Kept, answer_to, is_duplicate, is_passed, is_too_much, Leaves, PieceTaken}
use Rattle.sctp_model.specs.receiver.Reading.{is_ahead, piece_at}
use Rattle.sctp_model.specs.receiver.ForwardTaken.{ForwardAnswer, OutOfDate, Bad, Moved, jumped, forwarded, stays_by, ForwardLeaves, ForwardTaken}
use Rattle.sctp_model.specs.receiver.SackMade.{sack_sent, TakeLeaves}
use Rattle.sctp_model.specs.receiver.Laws.{FitsBuffer}
use Rattle.sctp_model.proofs.receiver.Giving.{at_here, at_elsewhere}
use Rattle.sctp_model.proofs.receiver.RowLemmas.{row_fails}
use Rattle.sctp_model.proofs.receiver.Sizes.{due_size, message_size}

-- ---- what waits

messages_both : (xs ys : List Handed) → size_of_messages (xs ++ ys) ≡ size_of_messages xs + size_of_messages ys
messages_both [] ys = omega arith
messages_both (x ∷ xs) ys = let more = messages_both xs ys in omega (arith, more)

-- another list on a stream changes the sum by its size alone, and on a stream that isn't there not at all
elsewhere : (w : ℕ → List Handed) (s : ℕ) (v : List Handed) (n : ℕ) → n ≤ s → size_of_waiting (at w s v) n ≡ size_of_waiting w n
elsewhere w s v zero past = refl
elsewhere w s v (suc n) past =
    let rest = elsewhere w s v n (omega (arith, past)) in
    let here : size_of_messages (at w s v n) ≡ size_of_messages (w n) = ap size_of_messages (at_elsewhere w s v n (λ e. omega (arith, past, e))) in
    omega (arith, rest, here)

pub waiting_at : (w : ℕ → List Handed) (s : ℕ) (v : List Handed) (n : ℕ) → s < n → size_of_waiting (at w s v) n + size_of_messages (w s) ≡ size_of_waiting w n + size_of_messages v
waiting_at w s v zero there = absurd (omega (arith, there))
waiting_at w s v (suc n) there = go (cases_eq n s) (waiting_at w s v n)
  where
    go : (n ≡ s) ⊎ (n ≡ s → ⊥) → (s < n → size_of_waiting (at w s v) n + size_of_messages (w s) ≡ size_of_waiting w n + size_of_messages v) →
        size_of_waiting (at w s v) (suc n) + size_of_messages (w s) ≡ size_of_waiting w (suc n) + size_of_messages v
    go (inl e) more =
        let rest = elsewhere w s v n (omega (arith, e)) in
        let here : size_of_messages (at w s v n) ≡ size_of_messages v = ap (λ (k : ℕ). size_of_messages (at w s v k)) e ∙ ap size_of_messages (at_here w s v) in
        let own : size_of_messages (w n) ≡ size_of_messages (w s) = ap (λ (k : ℕ). size_of_messages (w k)) e in
        omega (arith, rest, here, own)
    go (inr ne) more =
        let rest = more (omega (arith, there, ne)) in
        let here : size_of_messages (at w s v n) ≡ size_of_messages (w n) = ap size_of_messages (at_elsewhere w s v n ne) in
        omega (arith, rest, here)

-- messages put after those that wait add no more than their size
waiting_more : (w : ℕ → List Handed) (s : ℕ) (ms : List Handed) (n : ℕ) → size_of_waiting (at w s (w s ++ ms)) n ≤ size_of_waiting w n + size_of_messages ms
waiting_more w s ms n = elim (cases_lt s n) [
  | inl there ↦ let sum = waiting_at w s (w s ++ ms) n there in let both = messages_both (w s) ms in omega (arith, sum, both)
  | inr past ↦ let same = elsewhere w s (w s ++ ms) n past in omega (arith, same)
]

-- ---- delivering

-- nothing more is held, of as many streams and the same buffer
pub record HoldsNoMore (r t : ReceiverView) : Type 0 where
  pub held : held_bytes t ≤ held_bytes r
  pub buffer : t.buffer ≡ r.buffer

holds_same : (r : ReceiverView) → HoldsNoMore r r
holds_same r = record { held = omega arith; buffer = refl }

holds_both : (r s t : ReceiverView) → HoldsNoMore r s → HoldsNoMore s t → HoldsNoMore r t
holds_both r s t a b = record { held = omega (arith, a.held, b.held); buffer = b.buffer ∙ a.buffer }

pub ordered_holds : (f : Format) (s : ℕ) (r t : ReceiverView) → GivesOrdered f s r t → HoldsNoMore r t
ordered_holds f s r t (ms, n, due, is) = subst (HoldsNoMore r) (sym is) (record {
  held = let kept = due_size f r s (r.next s) ms n due in let waits = waiting_more r.waiting s ms r.streams in omega (arith, kept, waits);
  buffer = refl;
})

pub unordered_holds : (f : Format) (y : Piece) (r t : ReceiverView) → GivesUnordered f y r t → HoldsNoMore r t
unordered_holds f y r t (inr (none, is)) = subst (HoldsNoMore r) (sym is) (holds_same r)
unordered_holds f y r t (inl (x, xs, whole, is)) = subst (HoldsNoMore r) (sym is) (record {
  held =
      let kept = message_size f r.kept y x xs whole in
      let waits = waiting_more r.waiting x.lane.stream (message_of f x xs ∷ []) r.streams in
      omega (arith, kept, waits);
  buffer = refl;
})

pub gives_holds : (f : Format) (k : Kind) (y : Piece) (r t : ReceiverView) → Gives f k y r t → HoldsNoMore r t
gives_holds f Ordered y r t gives = ordered_holds f y.lane.stream r t gives
gives_holds f Unordered y r t gives = unordered_holds f y r t gives

pub all_holds : (f : Format) (n : ℕ) (r t : ReceiverView) → GivesAll f n r t → HoldsNoMore r t
all_holds f zero r t is = subst (HoldsNoMore r) (sym is) (holds_same r)
all_holds f (suc n) r t (between, before, now) = holds_both r between t (all_holds f n r between before) (ordered_holds f n between t now)

-- ---- the calls

pub filter_size : (test : Piece → Bool) (kept : List Piece) → size_of_pieces (filter test kept) ≤ size_of_pieces kept
filter_size test [] = omega arith
filter_size test (x ∷ xs) = go (test x) refl (filter_size test xs)
  where
    go : (b : Bool) → test x ≡ b → size_of_pieces (filter test xs) ≤ size_of_pieces xs → size_of_pieces (filter test (x ∷ xs)) ≤ size_of_pieces (x ∷ xs)
    go true e less = rw e (omega (arith, less))
    go false e less = rw e (omega (arith, less))

fits_after : (r t : ReceiverView) → HoldsNoMore r t → FitsBuffer r → FitsBuffer t
fits_after r t h fits = let b = h.buffer in let l = h.held in omega (arith, b, l, fits)

pub forward_fits : (f : Format) (r : ReceiverView) (x : ForwardMeaning) (a : ForwardAnswer) (t : ReceiverView) → FitsBuffer r → ForwardTaken f r x a t → FitsBuffer t
forward_fits f r x a t fits taken = go a taken.leaves
  where
    go : (b : ForwardAnswer) → ForwardLeaves f r taken.c x b t → FitsBuffer t
    go OutOfDate is = subst FitsBuffer (sym is) fits
    go Bad is = subst FitsBuffer (sym is) fits
    go Moved gives = fits_after (forwarded f r taken.c x) t (all_holds f r.streams (forwarded f r taken.c x) t gives)
        (let less = filter_size (λ (y : Piece). stays_by y.lane.kind f (jumped f r taken.c x) y) r.kept in omega (arith, less, fits))

-- a chunk that is taken fits
taken_fits : (f : Format) (r : ReceiverView) (c : ℕ) (p : PieceMeaning) → answer_to f r c p ≡ Kept → held_bytes r + length p.bytes ≤ r.buffer
taken_fits f r c p is =
    let first = row_fails (is_duplicate f r c p) Duplicate _ Kept is (λ e. cc) in
    let second = row_fails (is_ahead r c p.tsn) Ahead _ Kept first.1 (λ e. cc) in
    let third = row_fails (nat_le r.streams p.stream) NoSuchStream _ Kept second.1 (λ e. cc) in
    let fourth = row_fails (is_passed f r (piece_at f r c p)) Passed _ Kept third.1 (λ e. cc) in
    let fifth = row_fails (is_too_much f r c p) NoRoom Kept Kept fourth.1 (λ e. cc) in
    let room = fifth.0 in
    grind (arith, room, nat_tests)

pub piece_fits : (f : Format) (r : ReceiverView) (p : PieceMeaning) (a : PieceAnswer) (t : ReceiverView) → FitsBuffer r → PieceTaken f r p a t → FitsBuffer t
piece_fits f r p a t fits taken = go a (sym taken.answer) taken.leaves
  where
    x : Piece
    x = piece_at f r taken.c p

    go : (b : PieceAnswer) → answer_to f r taken.c p ≡ b → Leaves f r (piece_at f r taken.c p) p.tsn b t → FitsBuffer t
    go Duplicate answer is = subst FitsBuffer (sym is) fits
    go Ahead answer is = subst FitsBuffer (sym is) fits
    go NoSuchStream answer is = subst FitsBuffer (sym is) fits
    go Passed answer is = subst FitsBuffer (sym is) fits
    go NoRoom answer is = subst FitsBuffer (sym is) fits
    go Kept answer takes =
        let room = taken_fits f r taken.c p answer in
        fits_after (record (recorded r (piece_at f r taken.c p)) { kept = piece_at f r taken.c p ∷ r.kept }) t
        (gives_holds f (piece_at f r taken.c p).lane.kind (piece_at f r taken.c p) (record (recorded r (piece_at f r taken.c p)) { kept = piece_at f r taken.c p ∷ r.kept }) t takes)
        (omega (arith, room))

pub take_fits : (r : ReceiverView) (s : ℕ) (h : Option Handed) (t : ReceiverView) → FitsBuffer r → TakeLeaves r s h t → FitsBuffer t
take_fits r s None t fits (none, is) = subst FitsBuffer (sym is) fits
take_fits r s (Some h) t fits (rest, waits, is) = subst FitsBuffer (sym is) (less (cases_lt s r.streams))
  where
    less : (s < r.streams) ⊎ (r.streams ≤ s) → size_of_pieces r.kept + size_of_waiting (at r.waiting s rest) r.streams ≤ r.buffer
    less (inl there) =
        let sum = waiting_at r.waiting s rest r.streams there in
        let own : size_of_messages (r.waiting s) ≡ length h.bytes + size_of_messages rest = ap size_of_messages waits in
        omega (arith, sum, own, fits)
    less (inr past) = let same = elsewhere r.waiting s rest r.streams past in omega (arith, same, fits)

pub fresh_fits : (initial streams buffer reserve : ℕ) → FitsBuffer (fresh_receiver initial streams buffer reserve)
fresh_fits initial streams buffer reserve = let none = nothing streams in omega (arith, none)
  where
    nothing : (n : ℕ) → size_of_waiting (λ s. []) n ≡ 0
    nothing zero = refl
    nothing (suc n) = let rest = nothing n in omega (arith, rest)

pub sent_fits : (r : ReceiverView) → FitsBuffer r → FitsBuffer (sack_sent r)
sent_fits r fits = fits
