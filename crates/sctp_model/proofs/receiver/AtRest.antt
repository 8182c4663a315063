-- Every call of a receiver but a FORWARD leaves its view at rest: new, a chunk taken whatever is answered, a SACK sent, a message taken by the user.
use Rattle.std.proofs.Common.{◌≡◌, ℕ, ◌⊎◌, ◌==◌, nat_lt, Bool, true, false, List, [], ◌∷◌, Option, Some, None, refl, ap, sym, ◌∙◌, subst, inl, inr, arith}
use Rattle.std.specs.Prelude.{◌&&◌}
use Rattle.std.proofs.lemmas.Bool.{cases_Bool, cases_eq, or_parts}
use Rattle.std.proofs.lemmas.Bool.Decides.{nat_tests}
use Rattle.std.proofs.lemmas.Grind.{common_steps}
use Rattle.sctp_model.specs.numbers.Lists.{IsWithin, at}
use Rattle.sctp_model.specs.messages.Format.{Format, Plain, Interleaved, Kind, Ordered, Unordered, Lane, is_numbered, same_lane, ordered_lane}
use Rattle.sctp_model.specs.wire.Chunk.{PieceMeaning}
use Rattle.sctp_model.specs.messages.Pieces.{Piece, is_number_below}
use Rattle.sctp_model.specs.receiver.ReceiverView.{Handed, ReceiverView, fresh_receiver}
use Rattle.sctp_model.specs.receiver.Receiving.{IsWholeNumber, is_below, Gives, TakesPiece}
use Rattle.sctp_model.specs.receiver.Reading.{lowest_in, is_late, piece_at}
use Rattle.sctp_model.specs.receiver.PieceTaken.{PieceAnswer, Duplicate, Ahead, NoSuchStream, Passed, NoRoom, Kept, answer_to, is_passed, is_repeated, Leaves, PieceTaken}
use Rattle.sctp_model.specs.receiver.SackMade.{sack_sent, first_taken, TakeLeaves}
use Rattle.sctp_model.specs.receiver.Laws.{IsFilledOnce, IsOrdinary, IsIdle, IsSettled, IsAtRest}
use Rattle.sctp_model.proofs.receiver.OneStep.{fewer_apart, kept_apart, taken_is_new}
use Rattle.sctp_model.proofs.receiver.Idle.{still_idle}
use Rattle.sctp_model.proofs.receiver.Giving.{at_here, at_elsewhere, IsGiving, giving, giving_ordered, giving_unordered, IsClear, served, still_clear}
use Rattle.sctp_model.proofs.receiver.OneKept.{with_chunk, takes_idle}
use Rattle.sctp_model.specs.receiver.Incoming.{Incoming}

-- ---- a new receiver

pub fresh_at_rest : (f : Format) (initial streams buffer reserve : ℕ) → IsAtRest f (fresh_receiver initial streams buffer reserve)
fresh_at_rest f initial streams buffer reserve = record {
  ordinary = record { apart = λ x y here there place. absurd here; recorded = λ y there. absurd there };
  idle = record {
    ordered = λ s. record { passed = omega arith; none = λ xs whole. nothing (ordered_lane s) 0 xs whole };
    unordered = λ y kind xs whole. whole.1 y whole.2;
  };
  settled = λ s x there. absurd there;
}
  where
    nothing : (l : Lane) (n : ℕ) (xs : List Piece) → IsWholeNumber f [] l n xs → ⊥
    nothing l n [] whole = whole.0
    nothing l n (x ∷ xs) whole = whole.1 x (inl refl)

-- ---- a chunk that isn't passed isn't below its stream's next number

below_of_stream : (r : ReceiverView) (l : Lane) (o : Option ℕ) → l.kind ≡ Ordered → is_late r l o ≡ false → (s : ℕ) → (same_lane l (ordered_lane s) && is_number_below (r.next s) o) ≡ false
below_of_stream r l None kind wanted s = absurd (cc)
below_of_stream r l (Some n) kind wanted s = go (cases_Bool (l.stream == s))
  where
    low : nat_lt n (r.next l.stream) ≡ false
    low = let w : nat_lt n (lowest_in r l Ordered) ≡ false = subst (λ (k : Kind). nat_lt n (lowest_in r l k) ≡ false) kind wanted in grind (arith, w, nat_tests)

    go : (l.stream == s ≡ true) ⊎ (l.stream == s ≡ false) → (same_lane l (ordered_lane s) && is_number_below (r.next s) (Some n)) ≡ false
    go (inr other) = grind (arith, other, common_steps)
    go (inl here) =
        let same : l.stream ≡ s = grind (arith, here, nat_tests) in
        let at_next : nat_lt n (r.next s) ≡ false = subst (λ (i : ℕ). nat_lt n (r.next i) ≡ false) same low in
        grind (arith, here, at_next, common_steps)

ordered_numbered : (f : Format) (k : Kind) → k ≡ Ordered → is_numbered f k ≡ true
ordered_numbered Plain Ordered e = refl
ordered_numbered Interleaved Ordered e = refl
ordered_numbered f Unordered e = absurd (cc)

pub wanted_clear : (f : Format) (r : ReceiverView) (x : Piece) → is_passed f r x ≡ false → (s : ℕ) → is_below s (r.next s) x ≡ false
wanted_clear f r x wanted s = go x.lane.kind refl
  where
    late : (is_numbered f x.lane.kind && is_late r x.lane x.number) ≡ false
    late = (or_parts (is_numbered f x.lane.kind && is_late r x.lane x.number) (is_repeated f r.kept x) wanted).0

    go : (k : Kind) → x.lane.kind ≡ k → is_below s (r.next s) x ≡ false
    go Unordered kind = rw kind (grind (arith, common_steps))
    go Ordered kind = let numbered = ordered_numbered f x.lane.kind kind in below_of_stream r x.lane x.number kind (rw numbered at late) s

-- ---- a chunk taken

pub takes_giving : (f : Format) (r t : ReceiverView) (x : Piece) → TakesPiece f r x t → IsGiving (with_chunk r x) t
takes_giving f r t x takes = giving f x.lane.kind x (with_chunk r x) t takes

-- what is kept then lies at or past the next numbers
takes_settled : (f : Format) (r t : ReceiverView) (x : Piece) → IsSettled r → is_passed f r x ≡ false → TakesPiece f r x t → IsSettled t
takes_settled f r t x settled wanted takes s = go x.lane.kind takes
  where
    before : IsClear (with_chunk r x) s
    before y (inl is) = subst (λ (z : Piece). is_below s (r.next s) z ≡ false) is (wanted_clear f r x wanted s)
    before y (inr there) = settled s y there

    same_next : (v : ReceiverView) → v.next ≡ r.next → IsWithin v.kept (x ∷ r.kept) → IsClear v s
    same_next v next fewer = still_clear (with_chunk r x) v s fewer (ap (λ (k : ℕ → ℕ). k s) next) before

    go : (k : Kind) → Gives f k x (with_chunk r x) t → IsClear t s
    go Ordered gives = elim (cases_eq s x.lane.stream) [
      | inl here ↦ subst (IsClear t) (sym here) (served f x.lane.stream (with_chunk r x) t gives).clear
      | inr other ↦ still_clear (with_chunk r x) t s (giving_ordered f x.lane.stream (with_chunk r x) t gives).fewer ((served f x.lane.stream (with_chunk r x) t gives).others s other) before
    ]
    go Unordered (inl (h, hs, whole, is)) = same_next t (ap (λ (v : ReceiverView). v.next) is) (giving_unordered f x (with_chunk r x) t (inl (h, hs, whole, is))).fewer
    go Unordered (inr (none, is)) = same_next t (ap (λ (v : ReceiverView). v.next) is) (giving_unordered f x (with_chunk r x) t (inr (none, is))).fewer

recorded_more : (r : ReceiverView) (x : Piece) (i : ℕ) → r.seen i ≡ true → at r.seen x.index true i ≡ true
recorded_more r x i seen = elim (cases_eq i x.index) [
  | inl here ↦ subst (λ (j : ℕ). at r.seen x.index true j ≡ true) (sym here) (at_here r.seen x.index true)
  | inr other ↦ at_elsewhere r.seen x.index true i other ∙ seen
]

takes_ordinary : (f : Format) (r t : ReceiverView) (x : Piece) → IsFilledOnce f (x ∷ r.kept) → IsOrdinary f r → TakesPiece f r x t → IsOrdinary f t
takes_ordinary f r t x apart o takes = record {
  apart = fewer_apart f (x ∷ r.kept) t.kept g.fewer apart;
  recorded = λ y there. subst (λ (k : ℕ → Bool). k y.index ≡ true) (sym g.seen) (elim (g.fewer y there) [
    | inl is ↦ subst (λ (z : Piece). at r.seen x.index true z.index ≡ true) is (at_here r.seen x.index true)
    | inr old ↦ recorded_more r x y.index (o.recorded y old)
  ]);
}
  where
    g : IsGiving (with_chunk r x) t
    g = takes_giving f r t x takes

-- each answer leaves the view at rest
module _ (f : Format) (r t : ReceiverView) (c : ℕ) (p : PieceMeaning) where
  leaves_idle : (a : PieceAnswer) → IsIdle f r → Leaves f r (piece_at f r c p) p.tsn a t → IsIdle f t
  leaves_idle Duplicate idle is = still_idle f r t (sym (ap (λ (v : ReceiverView). v.kept) is)) (sym (ap (λ (v : ReceiverView). v.next) is)) (sym (ap (λ (v : ReceiverView). v.skip) is)) idle
  leaves_idle Ahead idle is = subst (IsIdle f) (sym is) idle
  leaves_idle NoSuchStream idle is = still_idle f r t (sym (ap (λ (v : ReceiverView). v.kept) is)) (sym (ap (λ (v : ReceiverView). v.next) is)) (sym (ap (λ (v : ReceiverView). v.skip) is)) idle
  leaves_idle Passed idle is = still_idle f r t (sym (ap (λ (v : ReceiverView). v.kept) is)) (sym (ap (λ (v : ReceiverView). v.next) is)) (sym (ap (λ (v : ReceiverView). v.skip) is)) idle
  leaves_idle NoRoom idle is = subst (IsIdle f) (sym is) idle
  leaves_idle Kept idle takes = takes_idle f r t (piece_at f r c p) idle takes

  leaves_settled : (a : PieceAnswer) → answer_to f r c p ≡ a → IsSettled r → Leaves f r (piece_at f r c p) p.tsn a t → IsSettled t
  leaves_settled Duplicate answer settled is = subst IsSettled (sym is) settled
  leaves_settled Ahead answer settled is = subst IsSettled (sym is) settled
  leaves_settled NoSuchStream answer settled is = subst IsSettled (sym is) settled
  leaves_settled Passed answer settled is = subst IsSettled (sym is) settled
  leaves_settled NoRoom answer settled is = subst IsSettled (sym is) settled
  leaves_settled Kept answer settled takes = takes_settled f r t (piece_at f r c p) settled (taken_is_new f r c p answer).1 takes

  leaves_ordinary : (a : PieceAnswer) → answer_to f r c p ≡ a → IsOrdinary f r → Leaves f r (piece_at f r c p) p.tsn a t → IsOrdinary f t
  leaves_ordinary Duplicate answer o is = subst (IsOrdinary f) (sym is) (record { apart = o.apart; recorded = o.recorded })
  leaves_ordinary Ahead answer o is = subst (IsOrdinary f) (sym is) o
  leaves_ordinary NoSuchStream answer o is = subst (IsOrdinary f) (sym is) (record { apart = o.apart; recorded = λ y there. recorded_more r (piece_at f r c p) y.index (o.recorded y there) })
  leaves_ordinary Passed answer o is = subst (IsOrdinary f) (sym is) (record { apart = o.apart; recorded = λ y there. recorded_more r (piece_at f r c p) y.index (o.recorded y there) })
  leaves_ordinary NoRoom answer o is = subst (IsOrdinary f) (sym is) o
  leaves_ordinary Kept answer o takes =
      let new = taken_is_new f r c p answer in
      takes_ordinary f r t (piece_at f r c p) (kept_apart f r (piece_at f r c p) o new.0 new.1) o takes

pub piece_idle : (f : Format) (r : ReceiverView) (p : PieceMeaning) (a : PieceAnswer) (t : ReceiverView) → IsIdle f r → PieceTaken f r p a t → IsIdle f t
piece_idle f r p a t idle taken = leaves_idle f r t taken.c p a idle taken.leaves

pub piece_ordinary : (f : Format) (r : ReceiverView) (p : PieceMeaning) (a : PieceAnswer) (t : ReceiverView) → IsOrdinary f r → PieceTaken f r p a t → IsOrdinary f t
piece_ordinary f r p a t o taken = leaves_ordinary f r t taken.c p a (sym taken.answer) o taken.leaves

pub piece_at_rest : (f : Format) (r : ReceiverView) (p : PieceMeaning) (a : PieceAnswer) (t : ReceiverView) → IsAtRest f r → PieceTaken f r p a t → IsAtRest f t
piece_at_rest f r p a t rest taken = record {
  ordinary = piece_ordinary f r p a t rest.ordinary taken;
  idle = piece_idle f r p a t rest.idle taken;
  settled = leaves_settled f r t taken.c p a (sym taken.answer) rest.settled taken.leaves;
}

-- ---- a SACK sent, and a message taken by the user

pub sent_at_rest : (f : Format) (r : ReceiverView) → IsAtRest f r → IsAtRest f (sack_sent r)
sent_at_rest f r rest = record {
  ordinary = record { apart = rest.ordinary.apart; recorded = rest.ordinary.recorded };
  idle = still_idle f r (sack_sent r) refl refl refl rest.idle;
  settled = rest.settled;
}

pub reset_at_rest : (f : Format) (r : ReceiverView) (x : Incoming) → IsAtRest f r → IsAtRest f (record r { resets = x })
reset_at_rest f r x rest = record {
  ordinary = record { apart = rest.ordinary.apart; recorded = rest.ordinary.recorded };
  idle = still_idle f r (record r { resets = x }) refl refl refl rest.idle;
  settled = rest.settled;
}

pub take_at_rest : (f : Format) (r : ReceiverView) (s : ℕ) (h : Option Handed) (t : ReceiverView) → IsAtRest f r → TakeLeaves r s h t → IsAtRest f t
take_at_rest f r s None t rest (none, is) = subst (IsAtRest f) (sym is) rest
take_at_rest f r s (Some h) t rest (others, waits, is) = subst (IsAtRest f) (sym is) (record {
  ordinary = record { apart = rest.ordinary.apart; recorded = rest.ordinary.recorded };
  idle = still_idle f r (first_taken r s h others) refl refl refl rest.idle;
  settled = rest.settled;
})
