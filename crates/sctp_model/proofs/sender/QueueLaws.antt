-- Messages that wait: what is left when one is taken or withdrawn, by tickets.
use Rattle.std.proofs.Common.{◌≡◌, ℕ, List, [], ◌∷◌, ◌++◌, Bool, true, false, Some, refl, sym, ◌∙◌, subst, arith}
use Rattle.std.specs.Prelude.{◌==◌, ◌||◌, if◌then◌else◌}
use Rattle.std.proofs.lemmas.Bool.Decides.{nat_tests}
use Rattle.sctp_model.specs.sender.SenderView.{Queued}
use Rattle.sctp_model.specs.sender.Assigning.{is_on, first_on, without_first}
use Rattle.sctp_model.specs.sender.Abandoning.{waits, without}

-- messages that wait have tickets of their own
abbrev pub AreApart : List Queued → Type 0
AreApart [] = Unit {0}
AreApart (q ∷ qs) = (waits q.message.ticket qs ≡ false) × AreApart qs

-- ---- a message leaves the queue

-- what is left when a message is taken from those that wait
pub record IsTaken (q : Queued) (rest queue : List Queued) : Type 0 where
  pub fewer : (t : ℕ) → waits t rest ≡ true → waits t queue ≡ true
  pub was : waits q.message.ticket queue ≡ true
  pub others : (t : ℕ) → (q.message.ticket ≡ t → ⊥) → waits t rest ≡ waits t queue
  pub alone : AreApart queue → (waits q.message.ticket rest ≡ false) × AreApart rest

pub right_or : (b c : Bool) → c ≡ true → (b || c) ≡ true
right_or true c is = refl
right_or false c is = is

pub self_same : (n : ℕ) → (n == n) ≡ true
self_same n = grind (arith, nat_tests)

pub apart_tests : (a b : ℕ) → (a ≡ b → ⊥) → (a == b) ≡ false
apart_tests a b ne = grind (arith, nat_tests)

pub taken_head : (q : Queued) (rest : List Queued) → IsTaken q rest (q ∷ rest)
taken_head q rest = record {
  fewer = λ t is. right_or (q.message.ticket == t) (waits t rest) is;
  was = rw (self_same q.message.ticket) refl;
  others = λ t ne. rw (apart_tests q.message.ticket t ne) refl;
  alone = λ h. h;
}

taken_behind : (x q : Queued) (rest queue : List Queued) → IsTaken q rest queue → IsTaken q (x ∷ rest) (x ∷ queue)
taken_behind x q rest queue h = record {
  fewer = λ t is. either (x.message.ticket == t) t is;
  was = right_or (x.message.ticket == q.message.ticket) (waits q.message.ticket queue) h.was;
  others = λ t ne. rw (h.others t ne) refl;
  alone = λ a.
      let ne : (q.message.ticket ≡ x.message.ticket → ⊥) = λ e. clash (rw e at h.was) a.0 in
      let back : (x.message.ticket ≡ q.message.ticket → ⊥) = λ e. ne (sym e) in
      let rest_alone = h.alone a.1 in
      (rw (apart_tests x.message.ticket q.message.ticket back) rest_alone.0, (h.others x.message.ticket ne ∙ a.0, rest_alone.1));
}
  where
    clash : {b : Bool} → b ≡ true → b ≡ false → ⊥
    clash on off = cc

    either : (b : Bool) (t : ℕ) → (b || waits t rest) ≡ true → (b || waits t queue) ≡ true
    either true t is = refl
    either false t is = h.fewer t is

pub taken_first : (s : ℕ) (q : Queued) (qs : List Queued) → first_on s qs ≡ Some q → IsTaken q (without_first (is_on s) qs) qs
taken_first s q [] is = absurd (cc)
taken_first s q (x ∷ qs) is = by_test (is_on s x) is (λ there. taken_first s q qs there)
  where
    by_test : (b : Bool) → (if b then Some x else first_on s qs) ≡ Some q → (first_on s qs ≡ Some q → IsTaken q (without_first (is_on s) qs) qs) → IsTaken q (if b then qs else x ∷ without_first (is_on s) qs) (x ∷ qs)
    by_test true here further = let same : x ≡ q = cc in subst (λ (y : Queued). IsTaken y qs (x ∷ qs)) same (taken_head x qs)
    by_test false here further = taken_behind x q (without_first (is_on s) qs) qs (further here)

pub fewer_without : (t x : ℕ) (qs : List Queued) → waits x (without t qs) ≡ true → waits x qs ≡ true
fewer_without t x [] is = is
fewer_without t x (q ∷ qs) is = by_test (q.message.ticket == t) is (λ there. fewer_without t x qs there)
  where
    by_head : (b : Bool) → (b || waits x (without t qs)) ≡ true → (waits x (without t qs) ≡ true → waits x qs ≡ true) → (b || waits x qs) ≡ true
    by_head true here further = refl
    by_head false here further = further here

    by_test : (b : Bool) → waits x (if b then qs else q ∷ without t qs) ≡ true → (waits x (without t qs) ≡ true → waits x qs ≡ true) → ((q.message.ticket == x) || waits x qs) ≡ true
    by_test true here further = right_or (q.message.ticket == x) (waits x qs) here
    by_test false here further = by_head (q.message.ticket == x) here further

not_fewer : (b c : Bool) → (b ≡ true → c ≡ true) → c ≡ false → b ≡ false
not_fewer true c up off = let on = up refl in absurd (cc)
not_fewer false c up off = refl

pub apart_without : (t : ℕ) (qs : List Queued) → AreApart qs → AreApart (without t qs)
apart_without t [] h = tt
apart_without t (q ∷ qs) h = by_test (q.message.ticket == t) (apart_without t qs h.1)
  where
    by_test : (b : Bool) → AreApart (without t qs) → AreApart (if b then qs else q ∷ without t qs)
    by_test true rest = h.1
    by_test false rest = (not_fewer (waits q.message.ticket (without t qs)) (waits q.message.ticket qs) (λ is. fewer_without t q.message.ticket qs is) h.0, rest)

-- ---- a message more

pub waits_push : (t : ℕ) (qs : List Queued) (q : Queued) → waits t (qs ++ q ∷ []) ≡ (waits t qs || (q.message.ticket == t))
waits_push t [] q = by_test (q.message.ticket == t)
  where
    by_test : (b : Bool) → (b || false) ≡ b
    by_test true = refl
    by_test false = refl
waits_push t (x ∷ qs) q = by_test (x.message.ticket == t) (waits_push t qs q)
  where
    by_test : (b : Bool) → waits t (qs ++ q ∷ []) ≡ (waits t qs || (q.message.ticket == t)) → (b || waits t (qs ++ q ∷ [])) ≡ ((b || waits t qs) || (q.message.ticket == t))
    by_test true rest = refl
    by_test false rest = rest

pub apart_push : (qs : List Queued) (q : Queued) → AreApart qs → ((t : ℕ) → waits t qs ≡ true → q.message.ticket ≡ t → ⊥) → AreApart (qs ++ q ∷ [])
apart_push [] q h ne = (refl, tt)
apart_push (x ∷ qs) q h ne =
    let other : (q.message.ticket == x.message.ticket) ≡ false = apart_tests q.message.ticket x.message.ticket (λ e. ne x.message.ticket (rw (self_same x.message.ticket) refl) e) in
    (waits_push x.message.ticket qs q ∙ rw (h.0, other) refl, apart_push qs q h.1 (λ t is e. ne t (right_or (x.message.ticket == t) (waits t qs) is) e))

-- ---- a message withdrawn

pub without_other : (t x : ℕ) (qs : List Queued) → (t ≡ x → ⊥) → waits x (without t qs) ≡ waits x qs
without_other t x [] ne = refl
without_other t x (q ∷ qs) ne = by_test (q.message.ticket == t) refl (without_other t x qs ne)
  where
    by_test : (b : Bool) → (q.message.ticket == t) ≡ b → waits x (without t qs) ≡ waits x qs → waits x (if b then qs else q ∷ without t qs) ≡ ((q.message.ticket == x) || waits x qs)
    by_test true on rest =
        let off : (q.message.ticket == x) ≡ false = apart (q.message.ticket == x) refl in
        rw off refl
      where
        apart : (b : Bool) → (q.message.ticket == x) ≡ b → b ≡ false
        apart false is = refl
        apart true is = absurd (ne (let one : q.message.ticket ≡ t = grind (arith, nat_tests) in let two : q.message.ticket ≡ x = grind (arith, nat_tests) in sym one ∙ two))
    by_test false off rest = rw rest refl

-- a message withdrawn waits no more
pub without_self : (t : ℕ) (qs : List Queued) → AreApart qs → waits t (without t qs) ≡ false
without_self t [] h = refl
without_self t (q ∷ qs) h = by_test (q.message.ticket == t) refl (without_self t qs h.1)
  where
    by_test : (b : Bool) → (q.message.ticket == t) ≡ b → waits t (without t qs) ≡ false → waits t (if b then qs else q ∷ without t qs) ≡ false
    by_test true on rest = let same : q.message.ticket ≡ t = grind (arith, nat_tests) in rw same at h.0
    by_test false off rest = rw off rest
