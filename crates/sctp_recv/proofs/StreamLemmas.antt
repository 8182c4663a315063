-- Streams: one of them changed, and the bytes that wait on all.
use Rattle.std.proofs.Common.{◌≡◌, ℕ, zero, suc, ◌+◌, ◌<◌, ◌≤◌, ◌⊎◌, true, false, ◌==◌, List, [], ◌∷◌, ◌++◌, length, get_or, set, map, replicate, None, Some, inl, inr, refl, sym, ◌∙◌, ap, arith}
use Rattle.std.specs.Prelude.{slice_get}
use Rattle.std.proofs.lemmas.Bool.{cases_Bool}
use Rattle.std.proofs.lemmas.Bool.Decides.{nat_tests}
use Rattle.sctp_model.specs.numbers.Lists.{at}
use Rattle.sctp_model.specs.receiver.ReceiverView.{Handed, size_of_messages, size_of_waiting}
use Rattle.sctp_recv.specs.ReceiverKept.{StreamKept, FRESH, stream_at}
use Rattle.sctp_recv.specs.Fields.{stream_of}
use Rattle.sctp_recv.specs.declared.stream.Stream.{Stream}

pub fresh_at : (n s : ℕ) → stream_at (replicate n FRESH) s ≡ FRESH
fresh_at zero s = refl
fresh_at (suc n) zero = refl
fresh_at (suc n) (suc s) = fresh_at n s

pub length_fresh : (n : ℕ) → length (replicate n FRESH) ≡ n
length_fresh zero = refl
length_fresh (suc n) = ap suc (length_fresh n)

-- a stream that isn't there is as a fresh one
pub past_streams : (ss : List StreamKept) (s : ℕ) → length ss ≤ s → stream_at ss s ≡ FRESH
past_streams [] s le = refl
past_streams (x ∷ ss) zero le = absurd (omega arith)
past_streams (x ∷ ss) (suc s) le = past_streams ss s (omega arith)

pub stream_set_same : (ss : List StreamKept) (s : ℕ) (x : StreamKept) → s < length ss → stream_at (set ss s x) s ≡ x
stream_set_same [] s x l = absurd (omega arith)
stream_set_same (y ∷ ss) zero x l = refl
stream_set_same (y ∷ ss) (suc s) x l = stream_set_same ss s x (omega arith)

pub stream_set_other : (ss : List StreamKept) (s q : ℕ) (x : StreamKept) → (q ≡ s → ⊥) → stream_at (set ss s x) q ≡ stream_at ss q
stream_set_other [] s q x apart = refl
stream_set_other (y ∷ ss) zero zero x apart = absurd (apart refl)
stream_set_other (y ∷ ss) zero (suc q) x apart = refl
stream_set_other (y ∷ ss) (suc s) zero x apart = refl
stream_set_other (y ∷ ss) (suc s) (suc q) x apart = stream_set_other ss s q x (λ e. apart (ap suc e))

pub set_unchanged : {F : Type 0} (xs : List (Stream F)) (i : ℕ) (x y : Stream F) → i < length xs → y ≡ get_or xs i y → stream_of x ≡ stream_of y → map stream_of (set xs i x) ≡ map stream_of xs
set_unchanged [] i x y l e same = refl
set_unchanged (z ∷ xs) zero x y l e same = ap (λ (k : StreamKept). k ∷ map stream_of xs) (same ∙ ap stream_of e)
set_unchanged (z ∷ xs) (suc i) x y l e same = ap (λ (ks : List StreamKept). stream_of z ∷ ks) (set_unchanged xs i x y (omega arith) e same)

-- one stream is another, and all others are as before
pub one_stream : {A : Type 0} (g : ℕ → A) (field : StreamKept → A) (ss : List StreamKept) (s : ℕ) (b : StreamKept) (y : A) → s < length ss → ((q : ℕ) → g q ≡ field (stream_at ss q)) → y ≡ field b →
    (q : ℕ) → at g s y q ≡ field (stream_at (set ss s b) q)
one_stream g field ss s b y l each here q = elim (cases_Bool (q == s)) [
  | inl e ↦
      let same : q ≡ s = grind (arith, nat_tests) in
      let now : field (stream_at (set ss s b) q) ≡ field b = ap (λ (i : ℕ). field (stream_at (set ss s b) i)) same ∙ ap field (stream_set_same ss s b l) in
      rw e (here ∙ sym now)
  | inr e ↦
      let now = ap field (stream_set_other ss s q b (λ same. grind (arith, nat_tests))) in
      rw e (each q ∙ sym now)
]

-- a field of the stream stays
pub same_field : {A : Type 0} (field : StreamKept → A) (ss : List StreamKept) (s : ℕ) (b : StreamKept) → s < length ss → field b ≡ field (stream_at ss s) →
    (q : ℕ) → field (stream_at (set ss s b) q) ≡ field (stream_at ss q)
same_field field ss s b l same q = elim (cases_Bool (q == s)) [
  | inl e ↦
      let here : q ≡ s = grind (arith, nat_tests) in
      ap (λ (i : ℕ). field (stream_at (set ss s b) i)) here ∙ ap field (stream_set_same ss s b l) ∙ same ∙ ap (λ (i : ℕ). field (stream_at ss i)) (sym here)
  | inr e ↦ ap field (stream_set_other ss s q b (λ here. grind (arith, nat_tests)))
]

pub length_set : (ss : List StreamKept) (s : ℕ) (x : StreamKept) → length (set ss s x) ≡ length ss
length_set [] s x = refl
length_set (y ∷ ss) zero x = refl
length_set (y ∷ ss) (suc s) x = ap suc (length_set ss s x)

pub set_mapped : {F : Type 0} (xs : List (Stream F)) (i : ℕ) (x : Stream F) → map stream_of (set xs i x) ≡ set (map stream_of xs) i (stream_of x)
set_mapped [] i x = refl
set_mapped (y ∷ xs) zero x = refl
set_mapped (y ∷ xs) (suc i) x = ap (λ (zs : List StreamKept). stream_of y ∷ zs) (set_mapped xs i x)

pub stream_mapped : {F : Type 0} (xs : List (Stream F)) (i : ℕ) (x : Stream F) → i < length xs → x ≡ get_or xs i x → stream_at (map stream_of xs) i ≡ stream_of x
stream_mapped [] i x l e = absurd (omega arith)
stream_mapped (y ∷ xs) zero x l e = ap stream_of (sym e)
stream_mapped (y ∷ xs) (suc i) x l e = stream_mapped xs i x (omega arith) e

pub got_stream : {F : Type 0} (xs : List (Stream F)) (i : ℕ) (x : Stream F) → slice_get xs i ≡ Some x → stream_at (map stream_of xs) i ≡ stream_of x
got_stream [] i x e = absurd (let no : None ≡ Some x = e in cc)
got_stream (y ∷ xs) zero x e = let is : y ≡ x = cc in ap stream_of is
got_stream (y ∷ xs) (suc i) x e = got_stream xs i x e

-- ---- bytes that wait

pub no_waiting : (n : ℕ) → size_of_waiting (λ s. []) n ≡ 0
no_waiting zero = refl
no_waiting (suc n) = omega (arith, no_waiting n)

pub size_append : (xs ys : List Handed) → size_of_messages (xs ++ ys) ≡ size_of_messages xs + size_of_messages ys
size_append [] ys = omega arith
size_append (x ∷ xs) ys = omega (arith, size_append xs ys)

waiting_past : (w : ℕ → List Handed) (s n : ℕ) (hs : List Handed) → n ≤ s → size_of_waiting (at w s hs) n ≡ size_of_waiting w n
waiting_past w s zero hs le = refl
waiting_past w s (suc n) hs le =
    let apart : (n == s) ≡ false = grind (arith, nat_tests) in
    let more = waiting_past w s n hs (omega arith) in
    rw apart (ap (λ (m : ℕ). m + size_of_messages (w n)) more)

-- what waits on one stream changes
pub waiting_set : (w : ℕ → List Handed) (s n : ℕ) (hs : List Handed) → s < n → size_of_waiting (at w s hs) n + size_of_messages (w s) ≡ size_of_waiting w n + size_of_messages hs
waiting_set w s zero hs l = absurd (omega arith)
waiting_set w s (suc n) hs l = go (cases_Bool (n == s)) (waiting_set w s n hs)
  where
    go : (n == s ≡ true) ⊎ (n == s ≡ false) → (s < n → size_of_waiting (at w s hs) n + size_of_messages (w s) ≡ size_of_waiting w n + size_of_messages hs) →
        size_of_waiting (at w s hs) (suc n) + size_of_messages (w s) ≡ size_of_waiting w (suc n) + size_of_messages hs
    go (inl e) more =
        let same : n ≡ s = grind (arith, nat_tests) in
        let rest = waiting_past w s n hs (omega arith) in
        let these : size_of_messages (w n) ≡ size_of_messages (w s) = ap (λ (i : ℕ). size_of_messages (w i)) same in
        rw e (omega arith)
    go (inr e) more =
        let low : s < n = grind (arith, nat_tests) in
        let rest = more low in
        rw e (omega arith)
