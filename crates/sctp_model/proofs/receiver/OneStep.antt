-- From a view as calls leave it each step leads to one view: what is delivered, a chunk taken, a FORWARD taken.
use Rattle.std.proofs.Common.{◌≡◌, ℕ, zero, suc, ◌⊎◌, Bool, true, false, ◌==◌, nat_le, List, [], ◌∷◌, filter, Option, Some, None, refl, ap, sym, ◌∙◌, subst, inl, inr, arith}
use Rattle.std.specs.Prelude.{◌&&◌}
use Rattle.std.proofs.lemmas.Bool.{cases_Bool, cases_order, or_parts, eq-eqb}
use Rattle.sctp_model.specs.numbers.Lists.{Has, IsWithin}
use Rattle.sctp_model.specs.messages.Format.{Format, Plain, Interleaved, Kind, Ordered, Unordered, Lane, same_kind, same_lane}
use Rattle.sctp_model.specs.wire.Chunk.{PieceMeaning, ForwardMeaning}
use Rattle.sctp_model.specs.messages.Pieces.{Piece, same_number, fragment_of}
use Rattle.sctp_model.specs.receiver.ReceiverView.{ReceiverView, IsCumulative}
use Rattle.sctp_model.specs.receiver.Reading.{is_behind, is_ahead, piece_at}
use Rattle.sctp_model.specs.receiver.Receiving.{recorded, handed_ordered, handed_unordered, GivesOrdered, GivesUnordered, Gives, GivesAll}
use Rattle.sctp_model.specs.receiver.PieceTaken.{PieceAnswer, Duplicate, Ahead, NoSuchStream, Passed, NoRoom, Kept, answer_to, is_duplicate, is_held, is_passed, Leaves, PieceTaken}
use Rattle.sctp_model.specs.receiver.ForwardTaken.{ForwardAnswer, OutOfDate, Bad, Moved, forward_answer, jumped, let_go, ForwardLeaves, ForwardTaken}
use Rattle.sctp_model.specs.receiver.Laws.{IsOnePlace, IsFilledOnce, IsOrdinary}
use Rattle.sctp_model.proofs.receiver.OneWhole.{due_only, with_only}
use Rattle.sctp_model.proofs.receiver.RowLemmas.{row_fails}

pub cumulative_only : (r : ReceiverView) (c d : ℕ) → IsCumulative r c → IsCumulative r d → c ≡ d
cumulative_only r c d h k = elim (cases_order c d) [
  | inl same ↦ same
  | inr other ↦ elim other [
    | inl below ↦ absurd (h.open_end (k.reached (suc c) (omega arith) (omega arith)))
    | inr above ↦ absurd (k.open_end (h.reached (suc d) (omega arith) (omega arith)))
  ]
]

-- a step leads to at most one view
abbrev pub HasOne : (ReceiverView → Type 0) → Type 0
HasOne step = (t u : ReceiverView) → step t → step u → t ≡ u

-- ---- what is due is delivered

module _ (f : Format) (r : ReceiverView) (apart : IsFilledOnce f r.kept) where
  pub ordered_only : (s : ℕ) → HasOne (GivesOrdered f s r)
  ordered_only s t u (ms, n, due, at_t) (os, o, other, at_u) =
      let one = due_only f r s apart (r.next s) ms n os o due other in
      at_t ∙ (λ i. handed_ordered r s (one.0 i) (one.1 i)) ∙ sym at_u

  pub unordered_only : (y : Piece) → HasOne (GivesUnordered f y r)
  unordered_only y t u (inr (none, at_t)) (inr (nothing, at_u)) = at_t ∙ sym at_u
  unordered_only y t u (inr (none, at_t)) (inl (z, zs, whole, at_u)) = absurd (none (z ∷ zs) whole)
  unordered_only y t u (inl (x, xs, whole, at_t)) (inr (nothing, at_u)) = absurd (nothing (x ∷ xs) whole)
  unordered_only y t u (inl (x, xs, whole, at_t)) (inl (z, zs, other, at_u)) = at_t ∙ (λ i. handed_unordered f r (first i) (rest i)) ∙ sym at_u
    where
      one : x ∷ xs ≡ z ∷ zs
      one = with_only f r.kept y apart (x ∷ xs) (z ∷ zs) whole other

      first : x ≡ z
      first = let e = one in cc

      rest : xs ≡ zs
      rest = let e = one in cc

  pub gives_only : (k : Kind) (y : Piece) → HasOne (Gives f k y r)
  gives_only Ordered y = ordered_only y.lane.stream
  gives_only Unordered y = unordered_only y

-- ---- fewer chunks are kept, and they are apart still

pub filter_has : {A : Type 0} (test : A → Bool) (xs : List A) (x : A) → Has (filter test xs) x → Has xs x
filter_has test [] x there = there
filter_has test (y ∷ xs) x there = go (cases_Bool (test y)) (filter_has test xs x)
  where
    go : (test y ≡ true) ⊎ (test y ≡ false) → (Has (filter test xs) x → Has xs x) → Has (y ∷ xs) x
    go (inl p) more = elim (rw p at there) [ inl e ↦ inl e | inr later ↦ inr (more later) ]
    go (inr p) more = inr (more (rw p at there))

pub fewer_apart : (f : Format) (kept fewer : List Piece) → IsWithin fewer kept → IsFilledOnce f kept → IsFilledOnce f fewer
fewer_apart f kept fewer within apart x y here there = apart x y (within x here) (within y there)

pub filter_apart : (f : Format) (test : Piece → Bool) (kept : List Piece) → IsFilledOnce f kept → IsFilledOnce f (filter test kept)
filter_apart f test kept apart = fewer_apart f kept (filter test kept) (filter_has test kept) apart

pub given_within : (f : Format) (s : ℕ) (r t : ReceiverView) → GivesOrdered f s r t → IsWithin t.kept r.kept
given_within f s r t (ms, n, due, is) = subst (λ (v : ReceiverView). IsWithin v.kept r.kept) (sym is) (filter_has _ r.kept)

pub all_within : (f : Format) (n : ℕ) (r t : ReceiverView) → GivesAll f n r t → IsWithin t.kept r.kept
all_within f zero r t is x there = subst (λ (v : ReceiverView). Has v.kept x) is there
all_within f (suc n) r t (between, before, now) x there = all_within f n r between before x (given_within f n between t now x there)

pub all_only : (f : Format) (n : ℕ) (r t u : ReceiverView) → IsFilledOnce f r.kept → GivesAll f n r t → GivesAll f n r u → t ≡ u
all_only f zero r t u apart at_t at_u = at_t ∙ sym at_u
all_only f (suc n) r t u apart (one, before, now) (other, earlier, later) =
    let same = all_only f n r one other apart before earlier in
    let still = fewer_apart f r.kept other.kept (all_within f n r other earlier) apart in
    ordered_only f other still n t u (subst (λ (v : ReceiverView). GivesOrdered f n v t) same now) later

-- ---- one chunk more

pub one_more_apart : (f : Format) (kept : List Piece) (x : Piece) → IsFilledOnce f kept → ((y : Piece) → Has kept y → IsOnePlace f x y → ⊥) → IsFilledOnce f (x ∷ kept)
one_more_apart f kept x apart alone y z (inr here) (inr there) place = apart y z here there place
one_more_apart f kept x apart alone y z (inl is) (inl also) place = sym is ∙ also
one_more_apart f kept x apart alone y z (inl is) (inr there) place = absurd (alone z there (subst (λ (w : Piece). IsOnePlace f w z) (sym is) place))
one_more_apart f kept x apart alone y z (inr here) (inl is) place = absurd (alone y here (turned f y x (subst (IsOnePlace f y) (sym is) place)))
  where
    turned : (g : Format) (v w : Piece) → IsOnePlace g v w → IsOnePlace g w v
    turned Plain v w e = sym e
    turned Interleaved v w (lane, number, fragment) = (sym lane, sym number, sym fragment)

kind_same : (k : Kind) → same_kind k k ≡ true
kind_same Ordered = refl
kind_same Unordered = refl

lane_same : (l k : Lane) → l ≡ k → same_lane l k ≡ true
lane_same l k e = rw e (let a = eq-eqb k.stream k.stream refl in let b = kind_same k.kind in rw (a, b) refl)

number_same : (n : Option ℕ) → same_number n n ≡ true
number_same None = refl
number_same (Some n) = eq-eqb n n refl

-- a fragment that isn't held is for a place of its own
not_held : (kept : List Piece) (x y : Piece) → is_held kept x ≡ false → Has kept y → (y.lane ≡ x.lane) × (y.number ≡ x.number) × (fragment_of y ≡ fragment_of x) → ⊥
not_held [] x y none there place = there
not_held (z ∷ zs) x y none (inl e) place =
    let p : (same_lane z.lane x.lane && (same_number z.number x.number && (fragment_of z == fragment_of x))) ≡ false = (or_parts _ _ none).0 in
    let lane = lane_same z.lane x.lane (ap (λ (v : Piece). v.lane) e ∙ place.0) in
    let number : same_number z.number x.number ≡ true = ap (λ (n : Option ℕ). same_number n x.number) (ap (λ (v : Piece). v.number) e ∙ place.1) ∙ number_same x.number in
    let fragment = eq-eqb (fragment_of z) (fragment_of x) (ap fragment_of e ∙ place.2) in
    absurd (let no : true ≡ false = rw (lane, number, fragment) at p in cc)
not_held (z ∷ zs) x y none (inr there) place = not_held zs x y (or_parts _ _ none).1 there place

-- A chunk that is neither recorded nor passed fills a place of its own.
pub new_place : (f : Format) (r : ReceiverView) (x : Piece) → IsOrdinary f r → r.seen x.index ≡ false → is_passed f r x ≡ false →
    (y : Piece) → Has r.kept y → IsOnePlace f x y → ⊥
new_place Plain r x o new wanted y there place =
    let came : r.seen y.index ≡ true = o.recorded y there in
    let same : r.seen x.index ≡ r.seen y.index = ap r.seen place in
    absurd (cc)
new_place Interleaved r x o new wanted y there (lane, number, fragment) = not_held r.kept x y (or_parts _ _ wanted).1 there (sym lane, sym number, sym fragment)

pub kept_apart : (f : Format) (r : ReceiverView) (x : Piece) → IsOrdinary f r → r.seen x.index ≡ false → is_passed f r x ≡ false → IsFilledOnce f (x ∷ r.kept)
kept_apart f r x o new wanted = one_more_apart f r.kept x o.apart (new_place f r x o new wanted)

-- ---- a chunk taken

-- one that is taken wasn't recorded, and isn't passed
pub taken_is_new : (f : Format) (r : ReceiverView) (c : ℕ) (p : PieceMeaning) → answer_to f r c p ≡ Kept → (r.seen (piece_at f r c p).index ≡ false) × (is_passed f r (piece_at f r c p) ≡ false)
taken_is_new f r c p is =
    let first = row_fails (is_duplicate f r c p) Duplicate _ Kept is (λ e. cc) in
    let second = row_fails (is_ahead r c p.tsn) Ahead _ Kept first.1 (λ e. cc) in
    let third = row_fails (nat_le r.streams p.stream) NoSuchStream _ Kept second.1 (λ e. cc) in
    let fourth = row_fails (is_passed f r (piece_at f r c p)) Passed _ Kept third.1 (λ e. cc) in
    ((or_parts (is_behind r c p.tsn) (r.seen (piece_at f r c p).index) first.0).1, fourth.0)

taken_apart : (f : Format) (r : ReceiverView) (c : ℕ) (p : PieceMeaning) → IsOrdinary f r → answer_to f r c p ≡ Kept → IsFilledOnce f (piece_at f r c p ∷ r.kept)
taken_apart f r c p o is = let new = taken_is_new f r c p is in kept_apart f r (piece_at f r c p) o new.0 new.1

leaves_only : (f : Format) (r : ReceiverView) (c : ℕ) (p : PieceMeaning) → IsOrdinary f r → (a : PieceAnswer) → answer_to f r c p ≡ a → HasOne (Leaves f r (piece_at f r c p) p.tsn a)
leaves_only f r c p o Duplicate is t u at_t at_u = at_t ∙ sym at_u
leaves_only f r c p o Ahead is t u at_t at_u = at_t ∙ sym at_u
leaves_only f r c p o NoSuchStream is t u at_t at_u = at_t ∙ sym at_u
leaves_only f r c p o Passed is t u at_t at_u = at_t ∙ sym at_u
leaves_only f r c p o NoRoom is t u at_t at_u = at_t ∙ sym at_u
leaves_only f r c p o Kept is t u at_t at_u =
    gives_only f (record (recorded r (piece_at f r c p)) { kept = piece_at f r c p ∷ r.kept }) (taken_apart f r c p o is) (piece_at f r c p).lane.kind (piece_at f r c p) t u at_t at_u

-- at the one cumulative index: the answer is the table's, and the view is as it leaves it
pub piece_read : (f : Format) (r : ReceiverView) (c : ℕ) (p : PieceMeaning) (a : PieceAnswer) (t : ReceiverView) → IsCumulative r c → PieceTaken f r p a t →
    (a ≡ answer_to f r c p) × Leaves f r (piece_at f r c p) p.tsn (answer_to f r c p) t
piece_read f r c p a t is taken =
    subst (λ (d : ℕ). (a ≡ answer_to f r d p) × Leaves f r (piece_at f r d p) p.tsn (answer_to f r d p) t) (cumulative_only r taken.c c taken.cumulative is)
    (taken.answer, subst (λ (b : PieceAnswer). Leaves f r (piece_at f r taken.c p) p.tsn b t) taken.answer taken.leaves)

pub piece_only : (f : Format) (r : ReceiverView) (p : PieceMeaning) (a b : PieceAnswer) (t u : ReceiverView) → IsOrdinary f r → PieceTaken f r p a t → PieceTaken f r p b u →
    (a ≡ b) × (t ≡ u)
piece_only f r p a b t u o one other =
    let mine = piece_read f r one.c p a t one.cumulative one in
    let its = piece_read f r one.c p b u one.cumulative other in
    (mine.0 ∙ sym its.0, leaves_only f r one.c p o (answer_to f r one.c p) refl t u mine.1 its.1)

-- ---- a FORWARD taken

moves_only : (f : Format) (r : ReceiverView) (c : ℕ) (x : ForwardMeaning) → IsFilledOnce f r.kept → (a : ForwardAnswer) → HasOne (ForwardLeaves f r c x a)
moves_only f r c x apart OutOfDate t u at_t at_u = at_t ∙ sym at_u
moves_only f r c x apart Bad t u at_t at_u = at_t ∙ sym at_u
moves_only f r c x apart Moved t u at_t at_u =
    all_only f r.streams (let_go f (jumped f r c x)) t u (filter_apart f _ r.kept apart) at_t at_u

pub forward_read : (f : Format) (r : ReceiverView) (c : ℕ) (x : ForwardMeaning) (a : ForwardAnswer) (t : ReceiverView) → IsCumulative r c → ForwardTaken f r x a t →
    (a ≡ forward_answer r c x) × ForwardLeaves f r c x (forward_answer r c x) t
forward_read f r c x a t is taken =
    subst (λ (d : ℕ). (a ≡ forward_answer r d x) × ForwardLeaves f r d x (forward_answer r d x) t) (cumulative_only r taken.c c taken.cumulative is)
    (taken.answer, subst (λ (b : ForwardAnswer). ForwardLeaves f r taken.c x b t) taken.answer taken.leaves)

pub forward_only : (f : Format) (r : ReceiverView) (x : ForwardMeaning) (a b : ForwardAnswer) (t u : ReceiverView) → IsFilledOnce f r.kept → ForwardTaken f r x a t → ForwardTaken f r x b u →
    (a ≡ b) × (t ≡ u)
forward_only f r x a b t u apart one other =
    let mine = forward_read f r one.c x a t one.cumulative one in
    let its = forward_read f r one.c x b u one.cumulative other in
    (mine.0 ∙ sym its.0, moves_only f r one.c x apart (forward_answer r one.c x) t u mine.1 its.1)
