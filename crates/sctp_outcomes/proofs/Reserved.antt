-- What a receiver keeps after a gap leaves the reserve free.
use Rattle.std.proofs.Common.{◌≡◌, ℕ, zero, suc, ◌+◌, ◌<◌, ◌≤◌, ◌⊎◌, nat_lt, nat_le, max, Bool, true, false, ◌==◌, List, [], ◌∷◌, length, filter, Option, Some, None, inl, inr, refl, sym, subst, ap, ◌∙◌, arith, if◌then◌else◌}
use Rattle.std.proofs.lemmas.Bool.{cases_eq, cases_lt}
use Rattle.std.proofs.lemmas.Bool.Decides.{nat_tests}
use Rattle.sctp_model.specs.numbers.Lists.{at}
use Rattle.sctp_model.specs.wire.Chunk.{PieceMeaning, ForwardMeaning}
use Rattle.sctp_model.specs.messages.Format.{Format, Kind, Ordered, Unordered}
use Rattle.sctp_model.specs.messages.Pieces.{Piece}
use Rattle.sctp_model.specs.receiver.ReceiverView.{Handed, ReceiverView, Reaches, IsCumulative, size_of_pieces, size_of_waiting, held_bytes}
use Rattle.sctp_model.specs.receiver.Receiving.{Gives, GivesOrdered, GivesAll, recorded}
use Rattle.sctp_model.specs.receiver.Reading.{is_ahead, piece_at}
use Rattle.sctp_model.specs.receiver.PieceTaken.{PieceAnswer, Duplicate, Ahead, NoSuchStream, Passed, NoRoom, Kept, Leaves, PieceTaken, answer_to, is_duplicate, is_passed, is_too_much, left_free, noted}
use Rattle.sctp_model.specs.receiver.ForwardTaken.{ForwardAnswer, OutOfDate, Bad, Moved, jumped, forwarded, stays_by, ForwardLeaves, ForwardTaken}
use Rattle.sctp_model.specs.receiver.SackMade.{TakeLeaves, first_taken}
use Rattle.sctp_model.proofs.receiver.Giving.{at_here, at_elsewhere}
use Rattle.sctp_model.proofs.receiver.RowLemmas.{row_fails, row_holds, row_lacks}
use Rattle.sctp_model.specs.end.EndView.{format_of, EndView}
use Rattle.sctp_model.specs.world.World.{Side, World, end_of}
use Rattle.sctp_outcomes.proofs.Bounded.{given_seen, gives_seen, all_seen}
use Rattle.sctp_outcomes.proofs.Receivers.{IsReceiverLaw, Whatever, holds_always}
use Rattle.sctp_outcomes.specs.Reserves.{bytes_above, bytes_up_to, NextIsTaken}

-- ---- tests

lt_is : (m n : ℕ) → nat_lt m n ≡ true → m < n
lt_is m n is = grind (arith, nat_tests)

off_lt : (m n : ℕ) → nat_lt m n ≡ false → n ≤ m
off_lt m n is = grind (arith, nat_tests)

lt_off : (m n : ℕ) → n ≤ m → nat_lt m n ≡ false
lt_off m n le = grind (arith, nat_tests)

eq_is : (m n : ℕ) → (m == n) ≡ true → m ≡ n
eq_is m n is = grind (arith, nat_tests)

eq_off : (m n : ℕ) → (m == n) ≡ false → m ≡ n → ⊥
eq_off m n off same = grind (arith, nat_tests)

-- ---- bytes above an index

above_fewer : (c d : ℕ) (xs : List Piece) → c ≤ d → bytes_above d xs ≤ bytes_above c xs
above_fewer c d [] le = omega arith
above_fewer c d (x ∷ xs) le = go (nat_lt d x.index) refl (nat_lt c x.index) refl (above_fewer c d xs le)
  where
    go : (a : Bool) → nat_lt d x.index ≡ a → (b : Bool) → nat_lt c x.index ≡ b → bytes_above d xs ≤ bytes_above c xs →
        (if a then length x.bytes else 0) + bytes_above d xs ≤ (if b then length x.bytes else 0) + bytes_above c xs
    go false off b is more = omega (arith, more)
    go true on true is more = omega (arith, more)
    go true on false off more = absurd (let low = lt_is d x.index on in let high = off_lt c x.index off in omega (arith, le, low, high))

above_filtered : (c : ℕ) (test : Piece → Bool) (xs : List Piece) → bytes_above c (filter test xs) ≤ bytes_above c xs
above_filtered c test [] = omega arith
above_filtered c test (x ∷ xs) = go (test x) refl (above_filtered c test xs)
  where
    go : (b : Bool) → test x ≡ b → bytes_above c (filter test xs) ≤ bytes_above c xs → bytes_above c (filter test (x ∷ xs)) ≤ bytes_above c (x ∷ xs)
    go true on less = rw on (omega (arith, less))
    go false off less = rw off (omega (arith, less))

both_parts : (c : ℕ) (xs : List Piece) → size_of_pieces xs ≡ bytes_up_to c xs + bytes_above c xs
both_parts c [] = refl
both_parts c (x ∷ xs) = go (nat_lt c x.index) (both_parts c xs)
  where
    go : (b : Bool) → size_of_pieces xs ≡ bytes_up_to c xs + bytes_above c xs → length x.bytes + size_of_pieces xs ≡ (if b then 0 else length x.bytes) + bytes_up_to c xs + ((if b then length x.bytes else 0) + bytes_above c xs)
    go true more = omega (arith, more)
    go false more = omega (arith, more)

-- ---- what is delivered is kept no longer

-- no more is kept above any index
pub record KeepsFewer (r t : ReceiverView) : Type 0 where
  pub above : (c : ℕ) → bytes_above c t.kept ≤ bytes_above c r.kept
  pub seen : t.seen ≡ r.seen
  pub jump : t.jump ≡ r.jump
  pub buffer : t.buffer ≡ r.buffer
  pub reserve : t.reserve ≡ r.reserve

fewer_same : (r : ReceiverView) → KeepsFewer r r
fewer_same r = record { above = λ c. omega arith; seen = refl; jump = refl; buffer = refl; reserve = refl }

fewer_on : (r s t : ReceiverView) → KeepsFewer r s → KeepsFewer s t → KeepsFewer r t
fewer_on r s t a b = record {
  above = λ c. (let x = a.above c in let y = b.above c in omega (arith, x, y));
  seen = b.seen ∙ a.seen;
  jump = b.jump ∙ a.jump;
  buffer = b.buffer ∙ a.buffer;
  reserve = b.reserve ∙ a.reserve;
}

given : (f : Format) (s : ℕ) (r t : ReceiverView) → GivesOrdered f s r t → KeepsFewer r t
given f s r t (ms, n, due, is) = subst (KeepsFewer r) (sym is) (record { above = λ c. above_filtered c _ r.kept; seen = refl; jump = refl; buffer = refl; reserve = refl })

gives : (f : Format) (k : Kind) (y : Piece) (r t : ReceiverView) → Gives f k y r t → KeepsFewer r t
gives f Ordered y r t g = given f y.lane.stream r t g
gives f Unordered y r t (inl (x, xs, whole, is)) = subst (KeepsFewer r) (sym is) (record { above = λ c. above_filtered c _ r.kept; seen = refl; jump = refl; buffer = refl; reserve = refl })
gives f Unordered y r t (inr (none, is)) = subst (KeepsFewer r) (sym is) (fewer_same r)

gives_all : (f : Format) (n : ℕ) (r t : ReceiverView) → GivesAll f n r t → KeepsFewer r t
gives_all f zero r t is = subst (KeepsFewer r) (sym is) (fewer_same r)
gives_all f (suc n) r t (mid, before, g) = fewer_on r mid t (gives_all f n r mid before) (given f n mid t g)

-- ---- the cumulative index only grows

grows : (r t : ReceiverView) (c d : ℕ) → ((i : ℕ) → Reaches r i → Reaches t i) → IsCumulative r c → IsCumulative t d → c ≤ d
grows r t c d more from to = go (cases_lt d c)
  where
    go : (d < c) ⊎ (c ≤ d) → c ≤ d
    go (inl less) = absurd (to.open_end (more (suc d) (from.reached (suc d) (omega arith) (omega (arith, less)))))
    go (inr le) = le

reaches_by : (r t : ReceiverView) → t.seen ≡ r.seen → t.jump ≡ r.jump → (i : ℕ) → Reaches r i → Reaches t i
reaches_by r t seen jump i (inl on) = inl (ap (λ (g : ℕ → Bool). g i) seen ∙ on)
reaches_by r t seen jump i (inr le) = inr (subst (λ (n : ℕ). i ≤ n) (sym jump) le)

-- an index more is recorded
records_more : (r : ReceiverView) (x : Piece) (i : ℕ) → Reaches r i → Reaches (recorded r x) i
records_more r x i (inr le) = inr le
records_more r x i (inl on) = inl (go (cases_eq i x.index))
  where
    go : (i ≡ x.index) ⊎ (i ≡ x.index → ⊥) → at r.seen x.index true i ≡ true
    go (inl same) = subst (λ (n : ℕ). at r.seen x.index true n ≡ true) (sym same) (at_here r.seen x.index true)
    go (inr other) = at_elsewhere r.seen x.index true i other ∙ on

-- ---- the reserve

-- nothing is kept above the cumulative index, or it leaves the reserve
abbrev pub IsReserved : ReceiverView → Type 0
IsReserved r = (c : ℕ) → IsCumulative r c → (bytes_above c r.kept ≡ 0) ⊎ (bytes_above c r.kept + r.reserve ≤ r.buffer)

-- a view that keeps no more above its cumulative index, which is no lower
stays : (r t : ReceiverView) (c : ℕ) → IsCumulative r c → ((i : ℕ) → Reaches r i → Reaches t i) → ((d : ℕ) → bytes_above d t.kept ≤ bytes_above d r.kept) → t.buffer ≡ r.buffer → t.reserve ≡ r.reserve →
    IsReserved r → IsReserved t
stays r t c from more fewer buffer reserve k d to = go (k c from)
  where
    le : c ≤ d
    le = grows r t c d more from to

    low : bytes_above d t.kept ≤ bytes_above c r.kept
    low = let a = fewer d in let b = above_fewer c d r.kept le in omega (arith, a, b)

    go : (bytes_above c r.kept ≡ 0) ⊎ (bytes_above c r.kept + r.reserve ≤ r.buffer) → (bytes_above d t.kept ≡ 0) ⊎ (bytes_above d t.kept + t.reserve ≤ t.buffer)
    go (inl none) = inl (omega (arith, low, none))
    go (inr room) = inr (omega (arith, low, room, buffer, reserve))

-- a chunk that is taken fits, and leaves the reserve if it is after a gap
taken_leaves : (f : Format) (r : ReceiverView) (c : ℕ) (p : PieceMeaning) → answer_to f r c p ≡ Kept → held_bytes r + length p.bytes + left_free r c (piece_at f r c p).index ≤ r.buffer
taken_leaves f r c p is =
    let first = row_fails (is_duplicate f r c p) Duplicate _ Kept is (λ e. cc) in
    let second = row_fails (is_ahead r c p.tsn) Ahead _ Kept first.1 (λ e. cc) in
    let third = row_fails (nat_le r.streams p.stream) NoSuchStream _ Kept second.1 (λ e. cc) in
    let fourth = row_fails (is_passed f r (piece_at f r c p)) Passed _ Kept third.1 (λ e. cc) in
    let fifth = row_fails (is_too_much f r c p) NoRoom Kept Kept fourth.1 (λ e. cc) in
    off_lt r.buffer (held_bytes r + length p.bytes + left_free r c (piece_at f r c p).index) fifth.0

-- a duplicate that is noted changes none of it
noted_too : (r : ReceiverView) (wire : ℕ) → IsReserved r → IsReserved (noted r wire)
noted_too r wire k c to = k c (record { reached = to.reached; open_end = to.open_end })

-- the view in which a chunk is recorded and kept
abbrev put_in : Format → ReceiverView → (c : ℕ) → PieceMeaning → ReceiverView
put_in f r c p = record (recorded r (piece_at f r c p)) { kept = piece_at f r c p ∷ r.kept }

piece_reserved : (f : Format) (r : ReceiverView) (p : PieceMeaning) (a : PieceAnswer) (t : ReceiverView) → IsReserved r → PieceTaken f r p a t → IsReserved t
piece_reserved f r p a t k taken = go a (sym taken.answer) taken.leaves
  where
    more : KeepsFewer (put_in f r taken.c p) t → (i : ℕ) → Reaches r i → Reaches t i
    more less i there = reaches_by (put_in f r taken.c p) t less.seen less.jump i (records_more r (piece_at f r taken.c p) i there)

    behind : KeepsFewer (put_in f r taken.c p) t → ((piece_at f r taken.c p).index ≡ suc taken.c) ⊎ ((piece_at f r taken.c p).index ≡ suc taken.c → ⊥) →
        held_bytes r + length p.bytes + left_free r taken.c (piece_at f r taken.c p).index ≤ r.buffer → IsReserved t
    behind less (inl next) room d to =
        let le = grows r t taken.c d (more less) taken.cumulative to in
        let past : suc taken.c ≤ d = go_past d le to in
        let low = less.above d in
        let fewer = above_fewer taken.c d r.kept le in
        by d low fewer past (k taken.c taken.cumulative)
      where
        there : Reaches t (suc taken.c)
        there = reaches_by (put_in f r taken.c p) t less.seen less.jump (suc taken.c) (inl (subst (λ (n : ℕ). at r.seen (piece_at f r taken.c p).index true n ≡ true) next (at_here r.seen (piece_at f r taken.c p).index true)))

        go_past : (d : ℕ) → taken.c ≤ d → IsCumulative t d → suc taken.c ≤ d
        go_past d le to = which (cases_eq d taken.c)
          where
            which : (d ≡ taken.c) ⊎ (d ≡ taken.c → ⊥) → suc taken.c ≤ d
            which (inl same) = absurd (to.open_end (subst (λ (n : ℕ). Reaches t (suc n)) (sym same) there))
            which (inr other) = omega (arith, le, other)

        by : (d : ℕ) → bytes_above d t.kept ≤ bytes_above d ((piece_at f r taken.c p) ∷ r.kept) → bytes_above d r.kept ≤ bytes_above taken.c r.kept → suc taken.c ≤ d →
            (bytes_above taken.c r.kept ≡ 0) ⊎ (bytes_above taken.c r.kept + r.reserve ≤ r.buffer) → (bytes_above d t.kept ≡ 0) ⊎ (bytes_above d t.kept + t.reserve ≤ t.buffer)
        by d low fewer past was = final was
          where
            own : nat_lt d (piece_at f r taken.c p).index ≡ false
            own = lt_off d (piece_at f r taken.c p).index (omega (arith, next, past))

            least : bytes_above d t.kept ≤ bytes_above taken.c r.kept
            least = let l : bytes_above d t.kept ≤ (if nat_lt d (piece_at f r taken.c p).index then length p.bytes else 0) + bytes_above d r.kept = low in
                let m : bytes_above d t.kept ≤ 0 + bytes_above d r.kept = subst (λ (b : Bool). bytes_above d t.kept ≤ (if b then length p.bytes else 0) + bytes_above d r.kept) own l in
                omega (arith, m, fewer)

            final : (bytes_above taken.c r.kept ≡ 0) ⊎ (bytes_above taken.c r.kept + r.reserve ≤ r.buffer) → (bytes_above d t.kept ≡ 0) ⊎ (bytes_above d t.kept + t.reserve ≤ t.buffer)
            final (inl none) = inl (omega (arith, least, none))
            final (inr room) = let b = less.buffer in let v = less.reserve in inr (omega (arith, least, room, b, v))
    behind less (inr gap) room d to =
        let low : bytes_above d t.kept ≤ (if nat_lt d (piece_at f r taken.c p).index then length p.bytes else 0) + bytes_above d r.kept = less.above d in
        let parts = both_parts d r.kept in
        let b = less.buffer in
        let v = less.reserve in
        let free : left_free r taken.c (piece_at f r taken.c p).index ≡ r.reserve = not_next (piece_at f r taken.c p).index gap in
        inr (by (nat_lt d (piece_at f r taken.c p).index) low parts b v free)
      where
        not_next : (i : ℕ) → (i ≡ suc taken.c → ⊥) → left_free r taken.c i ≡ r.reserve
        not_next i other = which (i == suc taken.c) refl
          where
            which : (b : Bool) → (i == suc taken.c) ≡ b → (if b then 0 else r.reserve) ≡ r.reserve
            which true is = absurd (other (eq_is i (suc taken.c) is))
            which false is = refl

        by : (b : Bool) → bytes_above d t.kept ≤ (if b then length p.bytes else 0) + bytes_above d r.kept → size_of_pieces r.kept ≡ bytes_up_to d r.kept + bytes_above d r.kept → t.buffer ≡ r.buffer → t.reserve ≡ r.reserve →
            left_free r taken.c (piece_at f r taken.c p).index ≡ r.reserve → bytes_above d t.kept + t.reserve ≤ t.buffer
        by true low parts same_buffer same_reserve free = omega (arith, low, parts, same_buffer, same_reserve, free, room)
        by false low parts same_buffer same_reserve free = omega (arith, low, parts, same_buffer, same_reserve, free, room)

    go : (b : PieceAnswer) → answer_to f r taken.c p ≡ b → Leaves f r (piece_at f r taken.c p) p.tsn b t → IsReserved t
    go Duplicate answer is = subst IsReserved (sym is) (noted_too r p.tsn k)
    go Ahead answer is = subst IsReserved (sym is) k
    go NoRoom answer is = subst IsReserved (sym is) k
    go NoSuchStream answer is = subst IsReserved (sym is) (stays r (recorded r (piece_at f r taken.c p)) taken.c taken.cumulative (records_more r (piece_at f r taken.c p)) (λ d. omega arith) refl refl k)
    go Passed answer is = subst IsReserved (sym is) (stays r (recorded r (piece_at f r taken.c p)) taken.c taken.cumulative (records_more r (piece_at f r taken.c p)) (λ d. omega arith) refl refl k)
    go Kept answer g = behind (gives f (piece_at f r taken.c p).lane.kind (piece_at f r taken.c p) (put_in f r taken.c p) t g) (cases_eq (piece_at f r taken.c p).index (suc taken.c)) (taken_leaves f r taken.c p answer)

forward_reserved : (f : Format) (r : ReceiverView) (m : ForwardMeaning) (a : ForwardAnswer) (t : ReceiverView) → IsReserved r → ForwardTaken f r m a t → IsReserved t
forward_reserved f r m a t k taken = go a taken.leaves
  where
    go : (b : ForwardAnswer) → ForwardLeaves f r taken.c m b t → IsReserved t
    go OutOfDate is = subst IsReserved (sym is) k
    go Bad is = subst IsReserved (sym is) k
    go Moved g =
        let less = gives_all f r.streams (forwarded f r taken.c m) t g in
        stays r t taken.c taken.cumulative (λ i there. reaches_by (forwarded f r taken.c m) t less.seen less.jump i (further i there))
        (λ d. (let a = less.above d in let b = above_filtered d (λ (y : Piece). stays_by y.lane.kind f (jumped f r taken.c m) y) r.kept in omega (arith, a, b))) less.buffer less.reserve k
      where
        further : (i : ℕ) → Reaches r i → Reaches (forwarded f r taken.c m) i
        further i (inl on) = inl on
        further i (inr le) = inr (omega (arith, le))

take_reserved : (r : ReceiverView) (s : ℕ) (h : Option Handed) (t : ReceiverView) → IsReserved r → TakeLeaves r s h t → IsReserved t
take_reserved r s None t k (none, is) = subst IsReserved (sym is) k
take_reserved r s (Some h) t k (rest, waits, is) = subst IsReserved (sym is) (same k)
  where
    same : IsReserved r → IsReserved (first_taken r s h rest)
    same k = λ c to. k c (record { reached = to.reached; open_end = to.open_end })

reserved_law : IsReceiverLaw (Whatever (λ f. IsReserved))
reserved_law = record {
  fresh = λ f i n b v c to. inl refl;
  piece = λ f n r p a t k came. piece_reserved f r p a t k came;
  forward = λ f n r m a t k came. forward_reserved f r m a t k came;
  sent = λ f n r k c to. k c (record { reached = to.reached; open_end = to.open_end });
  taken = λ f n r s h t k takes. take_reserved r s h t k takes;
  reset = λ f n r x k c to. k c (record { reached = to.reached; open_end = to.open_end });
}

-- ---- the law

-- an answer for want of space says so
too_much_is : (f : Format) (r : ReceiverView) (c : ℕ) (p : PieceMeaning) → answer_to f r c p ≡ NoRoom → is_too_much f r c p ≡ true
too_much_is f r c p is =
    let first = row_fails (is_duplicate f r c p) Duplicate _ NoRoom is (λ e. cc) in
    let second = row_fails (is_ahead r c p.tsn) Ahead _ NoRoom first.1 (λ e. cc) in
    let third = row_fails (nat_le r.streams p.stream) NoSuchStream _ NoRoom second.1 (λ e. cc) in
    let fourth = row_fails (is_passed f r (piece_at f r c p)) Passed _ NoRoom third.1 (λ e. cc) in
    row_holds (is_too_much f r c p) NoRoom _ fourth.1 (λ e. cc)

pub next_is_taken : NextIsTaken
next_is_taken s events answers w run x c p from next room small refused = go (k c from)
  where
    k : IsReserved (end_of w x).receiver
    k = holds_always (Whatever (λ f. IsReserved)) reserved_law s events answers w run x

    free : (i : ℕ) → i ≡ suc c → left_free (end_of w x).receiver c i ≡ 0
    free i is = which (i == suc c) refl
      where
        which : (b : Bool) → (i == suc c) ≡ b → (if b then 0 else (end_of w x).receiver.reserve) ≡ 0
        which true on = refl
        which false off = absurd (eq_off i (suc c) off is)

    over : (end_of w x).receiver.buffer < held_bytes (end_of w x).receiver + length p.bytes
    over =
        let nothing = free (piece_at (format_of (end_of w x)) (end_of w x).receiver c p).index next in
        let much = lt_is (end_of w x).receiver.buffer (held_bytes (end_of w x).receiver + length p.bytes + left_free (end_of w x).receiver c (piece_at (format_of (end_of w x)) (end_of w x).receiver c p).index)
        (too_much_is (format_of (end_of w x)) (end_of w x).receiver c p refused) in
        omega (arith, much, nothing)

    go : (bytes_above c (end_of w x).receiver.kept ≡ 0) ⊎ (bytes_above c (end_of w x).receiver.kept + (end_of w x).receiver.reserve ≤ (end_of w x).receiver.buffer) → ⊥
    go (inl nothing) = let parts = both_parts c (end_of w x).receiver.kept in absurd (omega (arith, parts, nothing, over, room, small))
    go (inr leaves) = let parts = both_parts c (end_of w x).receiver.kept in absurd (omega (arith, parts, leaves, over, room))
