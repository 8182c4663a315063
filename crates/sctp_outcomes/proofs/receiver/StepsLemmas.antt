-- What is computed is the step: from every view, for every chunk and every FORWARD.
use Rattle.std.proofs.Common.{◌≡◌, ℕ, zero, suc, ◌+◌, ◌<◌, ◌≤◌, ◌⊎◌, nat_lt, max, Bool, true, false, List, [], ◌∷◌, Option, None, Some, inl, inr, refl, ap, sym, subst, arith}
use Rattle.std.proofs.lemmas.Bool.{cases_eq}
use Rattle.sctp_model.specs.numbers.Lists.{Has}
use Rattle.sctp_model.specs.wire.Chunk.{PieceMeaning, ForwardMeaning}
use Rattle.sctp_model.specs.messages.Format.{Format, Kind, Ordered, Unordered, Lane, ordered_lane}
use Rattle.sctp_model.specs.messages.Pieces.{Piece}
use Rattle.sctp_model.specs.receiver.ReceiverView.{ReceiverView, Reaches, IsCumulative}
use Rattle.sctp_model.specs.receiver.Receiving.{HasNoWhole, IsDue, Stop, GivesWhole, Past, GivesOrdered, GivesAll, GivesUnordered, Gives, recorded}
use Rattle.sctp_model.specs.receiver.Reading.{piece_at}
use Rattle.sctp_model.specs.receiver.PieceTaken.{PieceAnswer, Duplicate, Ahead, NoSuchStream, Passed, NoRoom, Kept, PieceTaken, Leaves, answer_to}
use Rattle.sctp_model.specs.receiver.ForwardTaken.{ForwardAnswer, OutOfDate, Bad, Moved, ForwardTaken, ForwardLeaves, forward_answer, jumped, let_go}
use Rattle.sctp_outcomes.specs.receiver.Wholes.{whole_number, whole_with}
use Rattle.sctp_outcomes.specs.receiver.Steps.{next_if, cumulative_from, IsBound, cumulative, DueOnStream, due_at, due_from, past_number, numbers, due, gives_ordered, gives_all, handed_if, gives_unordered, gives, after_piece, piece_step, after_forward, forward_step}
use Rattle.sctp_outcomes.proofs.receiver.NumberLemmas.{below_true, below_false, whole_is, none_whole, with_is, none_with}

-- ---- the cumulative index

module _ (r : ReceiverView) (bound : ℕ) (within : IsBound r bound) where
  walks : (depth c : ℕ) → r.jump ≤ c → ((i : ℕ) → 0 < i → i ≤ c → Reaches r i) → bound ≤ c + depth → IsCumulative r (cumulative_from r.seen depth c)
  walks zero c jumped reached enough = record { reached = reached; open_end = open_end }
    where
      open_end : Reaches r (suc c) → ⊥
      open_end (inl h) = let l = within (suc c) h in omega arith
      open_end (inr h) = omega arith
  walks (suc depth) c jumped reached enough = go (r.seen (suc c)) refl (walks depth (suc c) (omega arith))
    where
      more_reached : r.seen (suc c) ≡ true → (i : ℕ) → 0 < i → i ≤ suc c → (i ≡ suc c) ⊎ (i ≡ suc c → ⊥) → Reaches r i
      more_reached h i above l (inl e) = subst (Reaches r) (sym e) (inl h)
      more_reached h i above l (inr ne) = reached i above (omega arith)

      open_end : r.seen (suc c) ≡ false → Reaches r (suc c) → ⊥
      open_end h (inl k) = cc (h, k)
      open_end h (inr k) = omega arith

      go : (b : Bool) → r.seen (suc c) ≡ b → (((i : ℕ) → 0 < i → i ≤ suc c → Reaches r i) → bound ≤ suc c + depth → IsCumulative r (cumulative_from r.seen depth (suc c))) →
          IsCumulative r (next_if b c (cumulative_from r.seen depth))
      go true h more = more (λ i above l. more_reached h i above l (cases_eq i (suc c))) (omega arith)
      go false h more = record { reached = reached; open_end = open_end h }

  pub cumulative_is : IsCumulative r (cumulative r bound)
  cumulative_is = walks bound r.jump (omega arith) (λ i above l. inr l) (omega arith)

-- ---- what is due

below_numbers : (kept : List Piece) (x : Piece) → Has kept x → past_number x.number ≤ numbers kept
below_numbers [] x h = absurd h
below_numbers (y ∷ kept) x (inl e) = let same : past_number y.number ≡ past_number x.number = ap (λ (z : Piece). past_number z.number) e in omega arith
below_numbers (y ∷ kept) x (inr h) = let l = below_numbers kept x h in omega arith

none_above : (f : Format) (kept : List Piece) (l : Lane) (n : ℕ) → numbers kept ≤ n → HasNoWhole f kept l n
none_above f kept l n high [] (whole, within, number) = number
none_above f kept l n high (x ∷ xs) (whole, within, number) =
    let a = below_numbers kept x (within x (inl refl)) in
    let b : past_number x.number ≡ suc n = ap past_number number.1 in
    omega arith

module _ (f : Format) (r : ReceiverView) (s : ℕ) where
  one_number : (n : ℕ) (o : Option (List Piece)) (b : Bool) (more : ℕ → DueOnStream) → whole_number f r.kept (ordered_lane s) n ≡ o → nat_lt n (r.skip (ordered_lane s)) ≡ b →
      IsDue f r s (suc n) (more (suc n)).messages (more (suc n)).next → IsDue f r s n (due_at f o b n more).messages (due_at f o b n more).next
  one_number n (Some (x ∷ xs)) b more e skipped rest =
      let w = whole_is f r.kept (ordered_lane s) n (x ∷ xs) e in
      GivesWhole n (more (suc n)).next x xs (more (suc n)).messages w.0 w.1 rest
  one_number n (Some []) b more e skipped rest = let w = whole_is f r.kept (ordered_lane s) n [] e in absurd w.1
  one_number n None true more e skipped rest =
      Past n (more (suc n)).next (more (suc n)).messages (below_true n (r.skip (ordered_lane s)) skipped) (none_whole f r.kept (ordered_lane s) n e) rest
  one_number n None false more e skipped rest = Stop n (below_false n (r.skip (ordered_lane s)) skipped) (none_whole f r.kept (ordered_lane s) n e)

  pub due_is : (depth n : ℕ) → max (r.skip (ordered_lane s)) (numbers r.kept) ≤ n + depth →
      IsDue f r s n (due_from f r.kept s (r.skip (ordered_lane s)) depth n).messages (due_from f r.kept s (r.skip (ordered_lane s)) depth n).next
  due_is zero n enough = Stop n (omega arith) (none_above f r.kept (ordered_lane s) n (omega arith))
  due_is (suc depth) n enough =
      one_number n (whole_number f r.kept (ordered_lane s) n) (nat_lt n (r.skip (ordered_lane s))) (due_from f r.kept s (r.skip (ordered_lane s)) depth) refl refl
      (due_is depth (suc n) (omega arith))

-- ---- delivering

pub ordered_is : (f : Format) (s : ℕ) (r : ReceiverView) → GivesOrdered f s r (gives_ordered f s r)
ordered_is f s r =
    ((due f r s).messages, (due f r s).next, due_is f r s (max (r.skip (ordered_lane s)) (numbers r.kept)) (r.next s) (omega arith), refl)

pub all_is : (f : Format) (n : ℕ) (r : ReceiverView) → GivesAll f n r (gives_all f n r)
all_is f zero r = refl
all_is f (suc n) r = (gives_all f n r, all_is f n r, ordered_is f n (gives_all f n r))

unordered_with : (f : Format) (y : Piece) (r : ReceiverView) (o : Option (List Piece)) → whole_with f r.kept y ≡ o → GivesUnordered f y r (handed_if f r o)
unordered_with f y r (Some (x ∷ xs)) e = inl (x, xs, with_is f r.kept y (x ∷ xs) e, refl)
unordered_with f y r (Some []) e = let w = with_is f r.kept y [] e in absurd w.0
unordered_with f y r None e = inr (none_with f r.kept y e, refl)

pub unordered_is : (f : Format) (y : Piece) (r : ReceiverView) → GivesUnordered f y r (gives_unordered f y r)
unordered_is f y r = unordered_with f y r (whole_with f r.kept y) refl

pub gives_is : (f : Format) (k : Kind) (y : Piece) (r : ReceiverView) → Gives f k y r (gives f k y r)
gives_is f Ordered y r = ordered_is f y.lane.stream r
gives_is f Unordered y r = unordered_is f y r

-- ---- steps

leaves_are : (f : Format) (r : ReceiverView) (x : Piece) (wire : ℕ) (a : PieceAnswer) → Leaves f r x wire a (after_piece f r x wire a)
leaves_are f r x wire Duplicate = refl
leaves_are f r x wire Ahead = refl
leaves_are f r x wire NoSuchStream = refl
leaves_are f r x wire Passed = refl
leaves_are f r x wire NoRoom = refl
leaves_are f r x wire Kept = gives_is f x.lane.kind x (record (recorded r x) { kept = x ∷ r.kept })

pub piece_steps : (f : Format) (r : ReceiverView) (c : ℕ) (p : PieceMeaning) → IsCumulative r c → PieceTaken f r p (answer_to f r c p) (piece_step f r c p)
piece_steps f r c p h = record { c = c; cumulative = h; answer = refl; leaves = leaves_are f r (piece_at f r c p) p.tsn (answer_to f r c p) }

forward_leaves_are : (f : Format) (r : ReceiverView) (c : ℕ) (x : ForwardMeaning) (a : ForwardAnswer) → ForwardLeaves f r c x a (after_forward f r c x a)
forward_leaves_are f r c x OutOfDate = refl
forward_leaves_are f r c x Bad = refl
forward_leaves_are f r c x Moved = all_is f r.streams (let_go f (jumped f r c x))

pub forward_steps : (f : Format) (r : ReceiverView) (c : ℕ) (x : ForwardMeaning) → IsCumulative r c → ForwardTaken f r x (forward_answer r c x) (forward_step f r c x)
forward_steps f r c x h = record { c = c; cumulative = h; answer = refl; leaves = forward_leaves_are f r c x (forward_answer r c x) }
