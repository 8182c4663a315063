-- What is noted of the peer's resets on a stream: each is one that was told, with its place.
use Rattle.std.proofs.Common.{◌≡◌, ◌⊎◌, ℕ, zero, suc, ◌+◌, ◌-◌, ◌<◌, ◌≤◌, ◌==◌, ◌&&◌, not, Bool, true, false, List, [], ◌∷◌, ◌++◌, length, length-append, inl, inr, refl, sym, subst, ap, ◌∙◌, arith, if◌then◌else◌}
use Rattle.std.specs.Prelude.{max, slice_index_or, slice_set, is_some}
use Rattle.std.proofs.lemmas.Bool.{and_parts, cases_lt}
use Rattle.std.proofs.lemmas.Bool.Decides.{nat_tests}
use Rattle.sctp_model.specs.numbers.Lists.{at}
use Rattle.sctp_model.specs.receiver.ReceiverView.{Handed}
use Rattle.sctp_model.specs.end.EndView.{EndView, ended_of}
use Rattle.sctp_channels.specs.declared.stream.Resets.{Resets}
use Rattle.sctp_channels.specs.declared.stream.Resets.TheVariants.{Zero, One, Two}
use Rattle.sctp_channels.specs.declared.stream.Stream.{Stream}
use Rattle.sctp_channels.specs.Streams.{unused, is_reset, is_reset_again, is_drained, Table, stream_at, with_stream}
use Rattle.sctp_channels.specs.Coming.{After, comes, leaving, one_taken, heard, peer_resets, left_over}
use Rattle.sctp_channels.specs.Calling.{outgoing}
use Rattle.sctp_channels.specs.Events.{Reported, quiet, reports_closed, reports_low, reports_taken, reports_waiting, reports_message, is_empty, is_readable, next_report, with_left_over, one_on}
use Rattle.sctp_channels.proofs.Promised.{Keeps, comes_keeps, left_is, report_cases, beyond, at_same, at_other, same_or_not}

-- ---- one stream

-- T says at which places a reset was told; so many messages of the stream were taken.
pub record Marked (T : ℕ → Type 0) (m : ℕ) (x : Stream) : Type 0 where
  pub first : is_reset x.resets ≡ true → T (m + x.left)
  pub second : is_reset_again x.resets ≡ true → T (m + x.again)
  pub order : is_reset_again x.resets ≡ true → x.left ≤ x.again

pub again_is : (r : Resets) → is_reset_again r ≡ true → is_reset r ≡ true
again_is Zero is = absurd (cc is)
again_is One is = absurd (cc is)
again_is Two is = refl

pub marked_more : (T U : ℕ → Type 0) (m : ℕ) (x : Stream) → ((k : ℕ) → T k → U k) → Marked T m x → Marked U m x
marked_more T U m x more p = record { first = λ on. more (m + x.left) (p.first on); second = λ on. more (m + x.again) (p.second on); order = p.order }

module _ (T : ℕ → Type 0) (m : ℕ) where
  -- nothing is noted
  pub none_marked : Marked T m unused
  none_marked = record { first = λ on. absurd (cc on); second = λ on. absurd (cc on); order = λ on. absurd (cc on) }

  -- the same is
  pub kept_marked : (x z : Stream) → Keeps x z → Marked T m x → Marked T m z
  kept_marked x z k p = record {
    first = λ on. subst (λ (i : ℕ). T (m + i)) (sym k.left) (p.first (sym (ap (λ (r : Resets). is_reset r) k.resets) ∙ on));
    second = λ on. subst (λ (i : ℕ). T (m + i)) (sym k.again) (p.second (sym (ap (λ (r : Resets). is_reset_again r) k.resets) ∙ on));
    order = λ on. (let le = p.order (sym (ap (λ (r : Resets). is_reset_again r) k.resets) ∙ on) in let l = k.left in let a = k.again in omega (arith, le, l, a));
  }

  -- one more is
  pub noted_marked : (x : Stream) (k : ℕ) → T (m + k) → Marked T m x → Marked T m (peer_resets k x)
  noted_marked x k told p = go (is_reset x.resets) refl
    where
      later : (x.left < k) ⊎ (k ≤ x.left) → is_reset x.resets ≡ true → T (m + max x.left k)
      later (inl lt) on = let e : m + k ≡ m + max x.left k = omega (arith, lt) in subst T e told
      later (inr le) on = let e : m + x.left ≡ m + max x.left k = omega (arith, le) in subst T e (p.first on)

      go : (b : Bool) → is_reset x.resets ≡ b → Marked T m (if b then record x { again = max x.left k; resets = Two } else leaving k (record x { resets = One }))
      go true on = record { first = λ _. p.first on; second = λ _. later (cases_lt x.left k) on; order = λ _. omega arith }
      go false off =
          let j = left_is k (record x { resets = One }) in
          record {
            first = λ _. subst (λ (i : ℕ). T (m + i)) (sym j.0) told;
            second = λ on. absurd (let no = sym (ap (λ (r : Resets). is_reset_again r) j.1) ∙ on in cc no);
            order = λ on. absurd (let no = sym (ap (λ (r : Resets). is_reset_again r) j.1) ∙ on in cc no);
          }

  -- what is left of one that is closed
  pub over_marked : (x : Stream) → Marked T m x → Marked T m (left_over x)
  over_marked x p = go (is_reset_again x.resets) refl
    where
      go : (b : Bool) → is_reset_again x.resets ≡ b → Marked T m (if b then peer_resets x.again unused else unused)
      go true on = noted_marked unused x.again (p.second on) none_marked
      go false off = none_marked

-- some are left
pub left_some : (x : Stream) → is_reset x.resets ≡ true → is_drained x ≡ false → 0 < x.left
left_some x on off = go x.left refl
  where
    go : (k : ℕ) → x.left ≡ k → 0 < x.left
    go zero is = absurd (let drained : is_drained x ≡ true = rw (on, is) refl in cc (drained, off))
    go (suc k) is = omega (arith, is)

-- a message was taken, before the place
one_marked : (T : ℕ → Type 0) (m : ℕ) (x : Stream) → is_drained x ≡ false → Marked T m x → Marked T (suc m) (one_taken x)
one_marked T m x off p = go (is_reset x.resets) refl
  where
    go : (b : Bool) → is_reset x.resets ≡ b → Marked T (suc m) (if b then leaving (x.left - 1) (record x { again = x.again - 1 }) else x)
    go true on =
        let z : Stream = leaving (x.left - 1) (record x { again = x.again - 1 }) in
        let j = left_is (x.left - 1) (record x { again = x.again - 1 }) in
        let some = left_some x on off in
        record {
          first = λ _. (let l = j.0 in let e : m + x.left ≡ suc m + z.left = omega (arith, l, some) in subst T e (p.first on));
          second = λ yes.
              (let again : is_reset_again x.resets ≡ true = sym (ap (λ (r : Resets). is_reset_again r) j.1) ∙ yes in
              let low = p.order again in let a = j.2 in
              let e : m + x.again ≡ suc m + z.again = omega (arith, a, low, some) in subst T e (p.second again));
          order = λ yes.
              (let again : is_reset_again x.resets ≡ true = sym (ap (λ (r : Resets). is_reset_again r) j.1) ∙ yes in
              let low = p.order again in let l = j.0 in let a = j.2 in omega (arith, l, a, low));
        }
    go false none = record {
      first = λ on. absurd (cc (none, on));
      second = λ on. absurd (let reset = again_is x.resets on in cc (none, reset));
      order = p.order;
    }

-- ---- a table

pub beyond_set : (xs : List Stream) (i : ℕ) (z d : Stream) → length xs ≤ i → slice_index_or (slice_set xs i z) i d ≡ d
beyond_set [] i z d le = beyond [] i d le
beyond_set (x ∷ xs) zero z d le = absurd (omega (arith, le))
beyond_set (x ∷ xs) (suc i) z d le = beyond_set xs i z d (omega (arith, le))

-- one stream of it is changed: it is this one, if it is there
pub put_own : (P : Stream → Type 0) (x : Table) (n : ℕ) (z : Stream) → P z → P unused → P (stream_at (with_stream x n z) n)
put_own P x n z here none = elim (cases_lt n (length x.streams)) [
  | inl lt ↦ subst P (sym (at_same x n z lt)) here
  | inr le ↦ subst P (sym (beyond_set x.streams n z unused le)) none
]

-- the others stay
pub put : (P : Stream → Type 0) (x : Table) (i n : ℕ) (z : Stream) → (i ≡ n → P z) → P unused → P (stream_at x n) → P (stream_at (with_stream x i z) n)
put P x i n z here none there = go (same_or_not i n)
  where
    go : (i ≡ n) ⊎ (n ≡ i → ⊥) → P (stream_at (with_stream x i z) n)
    go (inl e) = subst (λ (j : ℕ). P (stream_at (with_stream x j z) n)) (sym e) (put_own P x n z (here e) none)
    go (inr ne) = subst P (sym (at_other x i n z ne)) there

module _ (n : ℕ) (T : ℕ → Type 0) (m : ℕ) (x : Table) (p : Marked T m (stream_at x n)) where
  -- a stream whose mark stays
  pub same_marked : (s : ℕ) (z : Stream) → Keeps (stream_at x s) z → Marked T m (stream_at (with_stream x s z) n)
  same_marked s z k = put (Marked T m) x s n z (λ e. kept_marked T m (stream_at x s) z k (subst (λ (j : ℕ). Marked T m (stream_at x j)) (sym e) p)) (none_marked T m) p

  -- one that is closed
  pub next_marked : (i : ℕ) → Marked T m (stream_at (with_left_over x i) n)
  next_marked i = put (Marked T m) x i n (left_over (stream_at x i)) (λ e. over_marked T m (stream_at x i) (subst (λ (j : ℕ). Marked T m (stream_at x j)) (sym e) p)) (none_marked T m) p

-- ---- what is told next

pub own_taken : (f : ℕ → List Handed) (n : ℕ) (h : Handed) → length (at f n (f n ++ h ∷ []) n) ≡ suc (length (f n))
own_taken f n h = go (n == n) refl
  where
    go : (b : Bool) → (n == n) ≡ b → length (if b then f n ++ h ∷ [] else f n) ≡ suc (length (f n))
    go true is = let k = length-append (f n) (h ∷ []) in omega (arith, k)
    go false is = absurd (grind (arith, nat_tests, is))

pub other_taken : (f : ℕ → List Handed) (i n : ℕ) (h : Handed) → (n ≡ i → ⊥) → length (at f i (f i ++ h ∷ []) n) ≡ length (f n)
other_taken f i n h ne = go (n == i) refl
  where
    go : (b : Bool) → (n == i) ≡ b → length (if b then f i ++ h ∷ [] else f n) ≡ length (f n)
    go true is = absurd (ne (grind (arith, nat_tests, is)))
    go false is = refl

module _ (n : ℕ) (T : ℕ → Type 0) (v : EndView) (x : Table) (p : Marked T (length (v.receiver.taken n)) (stream_at x n)) where
  abbrev P : Reported → Type 0
  P r = Marked T (length (r.view.receiver.taken n)) (stream_at r.table n)

  abbrev after : (i : ℕ) → Handed → After
  after i h = comes x.role (outgoing v x) i h (stream_at x i)

  keeps : (i : ℕ) (h : Handed) → Keeps (stream_at x i) (after i h).stream
  keeps i h = comes_keeps x.role (outgoing v x) i h (stream_at x i)

  -- what waits first is taken from the stream
  here : is_drained (stream_at x n) ≡ false → (h : Handed) (rest : List Handed) → (after n h).taken ≡ true → P (reports_taken n h rest (after n h) v x)
  here off h rest taken =
      let y = (after n h).stream in
      let k = keeps n h in
      let still : is_drained y ≡ false = rw (k.resets, k.left) off in
      let one : Marked T (suc (length (v.receiver.taken n))) (one_taken y) = one_marked T (length (v.receiver.taken n)) y still (kept_marked T (length (v.receiver.taken n)) (stream_at x n) y k p) in
      let is : heard (after n h) ≡ one_taken y = rw taken refl in
      subst (λ (i : ℕ). Marked T i (stream_at (with_stream x n (heard (after n h))) n)) (sym (own_taken v.receiver.taken n h))
      (put_own (λ (z : Stream). Marked T (suc (length (v.receiver.taken n))) z) x n (heard (after n h))
      (subst (λ (z : Stream). Marked T (suc (length (v.receiver.taken n))) z) (sym is) one) (none_marked T (suc (length (v.receiver.taken n)))))

  by_taken : (i : ℕ) → is_drained (stream_at x i) ≡ false → (h : Handed) (rest : List Handed) → (b : Bool) → (after i h).taken ≡ b → P (if b then reports_taken i h rest (after i h) v x else reports_waiting i (after i h) v x)
  by_taken i off h rest true is = go (same_or_not i n)
    where
      go : (i ≡ n) ⊎ (n ≡ i → ⊥) → P (reports_taken i h rest (after i h) v x)
      go (inl e) = subst (λ (j : ℕ). P (reports_taken j h rest (after j h) v x)) (sym e)
          (here (subst (λ (j : ℕ). is_drained (stream_at x j) ≡ false) e off) h rest (subst (λ (j : ℕ). (after j h).taken ≡ true) e is))
      go (inr ne) = subst (λ (k : ℕ). Marked T k (stream_at (with_stream x i (heard (after i h))) n)) (sym (other_taken v.receiver.taken i n h ne))
          (subst (λ (z : Stream). Marked T (length (v.receiver.taken n)) z) (sym (at_other x i n (heard (after i h)) ne)) p)
  by_taken i off h rest false is =
      subst (λ (z : Stream). Marked T (length (v.receiver.taken n)) (stream_at (with_stream x i z) n)) (let same : heard (after i h) ≡ (after i h).stream = rw is refl in sym same)
      (same_marked n T (length (v.receiver.taken n)) x p i (after i h).stream (keeps i h))

  by_waiting : (i : ℕ) → is_readable v x i ≡ true → (hs : List Handed) → P (reports_message i hs v x)
  by_waiting i on [] = p
  by_waiting i on (h ∷ rest) =
      by_taken i (not_true (is_drained (stream_at x i)) (and_parts (not (is_empty (v.receiver.waiting i))) (not (is_drained (stream_at x i))) on).1) h rest (after i h).taken refl
    where
      not_true : (b : Bool) → not b ≡ true → b ≡ false
      not_true true is = absurd (cc is)
      not_true false is = refl

  pub report_marked : P (next_report v x)
  report_marked =
      report_cases P v x (λ i on. next_marked n T (length (v.receiver.taken n)) x p i) (λ i. p) (λ i on. by_waiting i on (v.receiver.waiting i)) p
      (λ i on. next_marked n T (length (v.receiver.taken n)) x p i)
