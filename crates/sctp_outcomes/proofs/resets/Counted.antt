-- What is noted of a reset at a receiver, to be reported, is how many messages had been delivered when a request was performed; and no fewer are delivered
-- later.
use Rattle.std.proofs.Common.{◌≡◌, ◌⊎◌, ℕ, zero, suc, ◌≤◌, Bool, true, false, List, [], ◌++◌, length, length-append, Some, inl, inr, refl, sym, subst, ap, ◌∙◌, arith, if◌then◌else◌, not}
use Rattle.sctp_model.specs.numbers.Lists.{at}
use Rattle.sctp_model.specs.wire.Typed.{Typed}
use Rattle.sctp_model.specs.wire.Chunk.{PieceMeaning, ForwardMeaning}
use Rattle.sctp_model.specs.wire.Reconfig.{ResetMeaning, ResetResult, Performed, Denied, WrongStream, BadNumber, InProgress}
use Rattle.sctp_model.specs.messages.Format.{Format, Kind, Ordered, Unordered}
use Rattle.sctp_model.specs.messages.Pieces.{Piece}
use Rattle.sctp_model.specs.receiver.ReceiverView.{Handed, ReceiverView, handed, fresh_receiver}
use Rattle.sctp_model.specs.receiver.Incoming.{Incoming}
use Rattle.sctp_model.specs.receiver.Receiving.{Gives, GivesOrdered, GivesAll}
use Rattle.sctp_model.specs.receiver.Reading.{piece_at}
use Rattle.sctp_model.specs.receiver.PieceTaken.{PieceAnswer, Duplicate, Ahead, NoSuchStream, Passed, NoRoom, Kept, Leaves, PieceTaken}
use Rattle.sctp_model.specs.receiver.ForwardTaken.{ForwardAnswer, OutOfDate, Bad, Moved, ForwardLeaves, ForwardTaken}
use Rattle.sctp_model.specs.receiver.ResetTaken.{names, reset_answer, is_in_turn, with_answer, renumbered_by, request_taken, reset_taken, denied, with_answers, names_anew, was_performed, other_meaning}
use Rattle.std.specs.Prelude.{◌==◌}
use Rattle.std.proofs.lemmas.Bool.Decides.{nat_tests}
use Rattle.std.proofs.lemmas.Bool.{and_parts}

-- One of these requests was performed that names this stream, when this many messages of it had been delivered: no fewer than at first, and no more than at
-- last.
pub record IsPerformed (P : ReceiverView → ℕ → ResetMeaning → Type 0) (r t : ReceiverView) (s n : ℕ) : Type 0 where
  pub receiver : ReceiverView
  pub cumulative : ℕ
  pub request : ResetMeaning
  pub arrives : P receiver cumulative request
  pub in_turn : is_in_turn receiver request.number ≡ true
  pub performed : reset_answer receiver cumulative request ≡ Performed
  pub named : names receiver request.streams s ≡ true
  pub anew : was_performed receiver request ≡ false
  pub count : n ≡ length (handed receiver s)
  pub after : length (handed r s) ≤ n
  pub before : n ≤ length (handed t s)

-- From the one to the other messages were delivered, and these requests performed.
pub record Counts (P : ReceiverView → ℕ → ResetMeaning → Type 0) (r t : ReceiverView) : Type 0 where
  pub grown : (s : ℕ) → length (handed r s) ≤ length (handed t s)
  pub told : (s n : ℕ) → t.resets.told s ≡ Some n → (r.resets.told s ≡ Some n) ⊎ IsPerformed P r t s n

-- as many messages, and what is reported was reported before
pub counts_calm : {P : ReceiverView → ℕ → ResetMeaning → Type 0} (r t : ReceiverView) → ((s : ℕ) → length (handed r s) ≤ length (handed t s)) → t.resets ≡ r.resets → Counts P r t
counts_calm r t grown resets = record { grown = grown; told = λ s n is. inl (subst (λ (x : Incoming). x.told s ≡ Some n) resets is) }

pub counts_same : {P : ReceiverView → ℕ → ResetMeaning → Type 0} (r t : ReceiverView) → t ≡ r → Counts P r t
counts_same r t is = counts_calm r t (λ s. (let same = ap (λ (x : ReceiverView). length (handed x s)) is in omega (arith, same))) (ap (λ (x : ReceiverView). x.resets) is)

pub counts_on : {P : ReceiverView → ℕ → ResetMeaning → Type 0} (r t u : ReceiverView) → Counts P r t → Counts P t u → Counts P r u
counts_on {P} r t u a b = record {
  grown = λ s. (let x = a.grown s in let y = b.grown s in omega (arith, x, y));
  told = λ s n is. by_last s n (b.told s n is);
}
  where
    first : (s n : ℕ) → IsPerformed P r t s n → IsPerformed P r u s n
    first s n p = record {
      receiver = p.receiver;
      cumulative = p.cumulative;
      request = p.request;
      arrives = p.arrives;
      in_turn = p.in_turn;
      performed = p.performed;
      named = p.named;
      anew = p.anew;
      count = p.count;
      after = p.after;
      before = (let x = p.before in let y = b.grown s in omega (arith, x, y));
    }

    last : (s n : ℕ) → IsPerformed P t u s n → IsPerformed P r u s n
    last s n p = record {
      receiver = p.receiver;
      cumulative = p.cumulative;
      request = p.request;
      arrives = p.arrives;
      in_turn = p.in_turn;
      performed = p.performed;
      named = p.named;
      anew = p.anew;
      count = p.count;
      before = p.before;
      after = (let x = p.after in let y = a.grown s in omega (arith, x, y));
    }

    by_first : (s n : ℕ) → (r.resets.told s ≡ Some n) ⊎ IsPerformed P r t s n → (r.resets.told s ≡ Some n) ⊎ IsPerformed P r u s n
    by_first s n (inl before) = inl before
    by_first s n (inr p) = inr (first s n p)

    by_last : (s n : ℕ) → (t.resets.told s ≡ Some n) ⊎ IsPerformed P t u s n → (r.resets.told s ≡ Some n) ⊎ IsPerformed P r u s n
    by_last s n (inl before) = by_first s n (a.told s n before)
    by_last s n (inr p) = inr (last s n p)

-- other requests, of which these are some
pub counts_among : {P Q : ReceiverView → ℕ → ResetMeaning → Type 0} (r t : ReceiverView) → ((x : ReceiverView) (c : ℕ) (m : ResetMeaning) → P x c m → Q x c m) → Counts P r t → Counts Q r t
counts_among {P} {Q} r t among k = record { grown = k.grown; told = λ s n is. go s n (k.told s n is) }
  where
    go : (s n : ℕ) → (r.resets.told s ≡ Some n) ⊎ IsPerformed P r t s n → (r.resets.told s ≡ Some n) ⊎ IsPerformed Q r t s n
    go s n (inl before) = inl before
    go s n (inr p) = inr (record {
      receiver = p.receiver;
      cumulative = p.cumulative;
      request = p.request;
      arrives = among p.receiver p.cumulative p.request p.arrives;
      in_turn = p.in_turn;
      performed = p.performed;
      named = p.named;
      anew = p.anew;
      count = p.count;
      after = p.after;
      before = p.before;
    })

-- ---- messages are delivered

-- nothing is taken, more waits, and no request arrives
record More (r t : ReceiverView) : Type 0 where
  taken : t.taken ≡ r.taken
  waiting : (s : ℕ) → length (r.waiting s) ≤ length (t.waiting s)
  resets : t.resets ≡ r.resets

more_counts : {P : ReceiverView → ℕ → ResetMeaning → Type 0} (r t : ReceiverView) → More r t → Counts P r t
more_counts r t m = counts_calm r t grown m.resets
  where
    grown : (s : ℕ) → length (handed r s) ≤ length (handed t s)
    grown s =
        let x = length-append (r.taken s) (r.waiting s) in
        let y = length-append (t.taken s) (t.waiting s) in
        let same = ap (λ (f : ℕ → List Handed). length (f s)) m.taken in
        let low = m.waiting s in
        omega (arith, x, y, same, low)

same : (r t : ReceiverView) → t.taken ≡ r.taken → t.waiting ≡ r.waiting → t.resets ≡ r.resets → More r t
same r t taken waiting resets = record { taken = taken; waiting = λ s. (let q = ap (λ (f : ℕ → List Handed). length (f s)) waiting in omega (arith, q)); resets = resets }

more_on : (r t u : ReceiverView) → More r t → More t u → More r u
more_on r t u a b = record { taken = b.taken ∙ a.taken; waiting = λ s. (let x = a.waiting s in let y = b.waiting s in omega (arith, x, y)); resets = b.resets ∙ a.resets }

appended : (f : ℕ → List Handed) (k : ℕ) (ms : List Handed) (s : ℕ) → length (f s) ≤ length (at f k (f k ++ ms) s)
appended f k ms s = go (s == k) refl
  where
    go : (b : Bool) → (s == k) ≡ b → length (f s) ≤ length (if b then f k ++ ms else f s)
    go true is =
        let own : s ≡ k = grind (arith, nat_tests) in
        let q = length-append (f k) ms in
        let n = ap (λ (j : ℕ). length (f j)) own in
        omega (arith, q, n)
    go false is = omega arith

given : (f : Format) (s : ℕ) (r t : ReceiverView) → GivesOrdered f s r t → More r t
given f s r t (ms, n, due, is) = subst (More r) (sym is) (record { taken = refl; waiting = appended r.waiting s ms; resets = refl })

gives : (f : Format) (k : Kind) (y : Piece) (r t : ReceiverView) → Gives f k y r t → More r t
gives f Ordered y r t g = given f y.lane.stream r t g
gives f Unordered y r t (inl (x, xs, whole, is)) = subst (More r) (sym is) (record { taken = refl; waiting = appended r.waiting x.lane.stream _; resets = refl })
gives f Unordered y r t (inr (none, is)) = subst (More r) (sym is) (same r r refl refl refl)

gives_all : (f : Format) (n : ℕ) (r t : ReceiverView) → GivesAll f n r t → More r t
gives_all f zero r t is = subst (More r) (sym is) (same r r refl refl refl)
gives_all f (suc n) r t (mid, before, g) = more_on r mid t (gives_all f n r mid before) (given f n mid t g)

by_answer : (f : Format) (r : ReceiverView) (x : Piece) (wire : ℕ) (a : PieceAnswer) (t : ReceiverView) → Leaves f r x wire a t → More r t
by_answer f r x wire Duplicate t is = subst (More r) (sym is) (same r _ refl refl refl)
by_answer f r x wire Ahead t is = subst (More r) (sym is) (same r _ refl refl refl)
by_answer f r x wire NoSuchStream t is = subst (More r) (sym is) (same r _ refl refl refl)
by_answer f r x wire Passed t is = subst (More r) (sym is) (same r _ refl refl refl)
by_answer f r x wire NoRoom t is = subst (More r) (sym is) (same r _ refl refl refl)
by_answer f r x wire Kept t g = let k = gives f x.lane.kind x _ t g in record { taken = k.taken; waiting = k.waiting; resets = k.resets }

pub piece_counts : {P : ReceiverView → ℕ → ResetMeaning → Type 0} (f : Format) (r : ReceiverView) (p : PieceMeaning) (a : PieceAnswer) (t : ReceiverView) → PieceTaken f r p a t → Counts P r t
piece_counts f r p a t came = more_counts r t (by_answer f r (piece_at f r came.c p) p.tsn a t came.leaves)

by_forward : (f : Format) (r : ReceiverView) (c : ℕ) (m : ForwardMeaning) (a : ForwardAnswer) (t : ReceiverView) → ForwardLeaves f r c m a t → More r t
by_forward f r c m OutOfDate t is = subst (More r) (sym is) (same r _ refl refl refl)
by_forward f r c m Bad t is = subst (More r) (sym is) (same r _ refl refl refl)
by_forward f r c m Moved t g = let k = gives_all f r.streams _ t g in record { taken = k.taken; waiting = k.waiting; resets = k.resets }

pub forward_counts : {P : ReceiverView → ℕ → ResetMeaning → Type 0} (f : Format) (r : ReceiverView) (m : ForwardMeaning) (a : ForwardAnswer) (t : ReceiverView) → ForwardTaken f r m a t → Counts P r t
forward_counts f r m a t came = more_counts r t (by_forward f r came.c m a t came.leaves)

-- ---- a request is answered

off_of : (b : Bool) → not b ≡ true → b ≡ false
off_of true h = absurd (cc)
off_of false h = refl

-- what a request leaves to be reported
told_then : (r : ReceiverView) (m : ResetMeaning) (named anew : ℕ → Bool) (b : Bool) (a : ResetResult) (s n : ℕ) → (if b then with_answer (renumbered_by r named anew a) m a else r).resets.told s ≡ Some n
    → (r.resets.told s ≡ Some n) ⊎ ((b ≡ true) × ((a ≡ Performed) × ((anew s ≡ true) × (n ≡ length (handed r s)))))
told_then r m named anew false a s n is = inl is
told_then r m named anew true Performed s n is = by_name (anew s) refl is
  where
    by_name : (c : Bool) → anew s ≡ c → (if c then Some (length (handed r s)) else r.resets.told s) ≡ Some n
        → (r.resets.told s ≡ Some n) ⊎ ((true ≡ true) × ((Performed ≡ Performed) × ((anew s ≡ true) × (n ≡ length (handed r s)))))
    by_name true on here = inr (refl, (refl, (on, sym (cc))))
    by_name false off here = inl here
told_then r m named anew true Denied s n is = inl is
told_then r m named anew true WrongStream s n is = inl is
told_then r m named anew true BadNumber s n is = inl is
told_then r m named anew true InProgress s n is = inl is

-- nothing is delivered by it
handed_then : (r : ReceiverView) (m : ResetMeaning) (named anew : ℕ → Bool) (a : ResetResult) (xs : List Typed) (s : ℕ) → handed (with_answers (request_taken r m named anew a) xs) s ≡ handed r s
handed_then r m named anew a xs s = go (is_in_turn r m.number) a
  where
    go : (b : Bool) (o : ResetResult) → handed (if b then with_answer (renumbered_by r named anew o) m o else r) s ≡ handed r s
    go false o = refl
    go true Performed = refl
    go true Denied = refl
    go true WrongStream = refl
    go true BadNumber = refl
    go true InProgress = refl

pub request_counts : {P : ReceiverView → ℕ → ResetMeaning → Type 0} (r : ReceiverView) (c : ℕ) (m : ResetMeaning) (xs : List Typed) → P r c m → Counts P r (with_answers (reset_taken r c m) xs)
request_counts {P} r c m xs arrives = record {
  grown = λ s. (let q = ap length (handed_then r m (names r m.streams) (names_anew r m) (reset_answer r c m) xs s) in omega (arith, q));
  told = λ s n is. by_told s n (told_then r m (names r m.streams) (names_anew r m) (is_in_turn r m.number) (reset_answer r c m) s n is);
}
  where
    by_told : (s n : ℕ) → (r.resets.told s ≡ Some n) ⊎ ((is_in_turn r m.number ≡ true) × ((reset_answer r c m ≡ Performed) × ((names_anew r m s ≡ true) × (n ≡ length (handed r s)))))
        → (r.resets.told s ≡ Some n) ⊎ IsPerformed P r (with_answers (reset_taken r c m) xs) s n
    by_told s n (inl before) = inl before
    by_told s n (inr (turn, (done, (named, count)))) = inr (record {
      receiver = r;
      cumulative = c;
      request = m;
      arrives = arrives;
      in_turn = turn;
      performed = done;
      named = (and_parts (names r m.streams s) (not (was_performed r m)) named).0;
      anew = off_of (was_performed r m) (and_parts (names r m.streams s) (not (was_performed r m)) named).1;
      count = count;
      after = omega (arith, count);
      before = (let q = ap length (handed_then r m (names r m.streams) (names_anew r m) (reset_answer r c m) xs s) in omega (arith, q, count));
    })

pub denied_counts : {P : ReceiverView → ℕ → ResetMeaning → Type 0} (r : ReceiverView) (number : ℕ) (xs : List Typed) → Counts P r (with_answers (denied r number) xs)
denied_counts {P} r number xs = record {
  grown = λ s. (let q = ap length (handed_then r (other_meaning number) (λ k. false) (λ k. false) Denied xs s) in omega (arith, q));
  told = λ s n is. by_told s n (told_then r (other_meaning number) (λ k. false) (λ k. false) (is_in_turn r number) Denied s n is);
}
  where
    by_told : (s n : ℕ) → (r.resets.told s ≡ Some n) ⊎ ((is_in_turn r number ≡ true) × ((Denied ≡ Performed) × ((false ≡ true) × (n ≡ length (handed r s)))))
        → (r.resets.told s ≡ Some n) ⊎ IsPerformed P r (with_answers (denied r number) xs) s n
    by_told s n (inl before) = inl before
    by_told s n (inr (turn, (done, (named, count)))) = absurd (cc)

-- a new receiver, if nothing was delivered before
pub fresh_counts : {P : ReceiverView → ℕ → ResetMeaning → Type 0} (r : ReceiverView) (i n b v : ℕ) → ((s : ℕ) → handed r s ≡ []) → Counts P r (fresh_receiver i n b v)
fresh_counts r i n b v none = record { grown = λ s. (let q = ap length (none s) in omega (arith, q)); told = λ s k is. absurd (cc) }
