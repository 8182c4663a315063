-- What a sender's searches find: the last entry of a stream, by its index, and the first of the messages that are meant.
use Rattle.std.proofs.Common.{◌≡◌, ℕ, zero, suc, ◌≤◌, ◌==◌, ◌||◌, true, false, Bool, List, [], ◌∷◌, ◌++◌, slice_get, Some, None, inl, inr, refl, sym, subst, ap, arith, eqb-true, ◌∙◌}
use Rattle.std.specs.Prelude.{if◌then◌else◌, find}
use Rattle.std.specs.List.{list_any}
use Rattle.sctp_model.specs.numbers.Lists.{Has}
use Rattle.sctp_model.specs.messages.Plan.{Entry, Plan, entry_at}
use Rattle.sctp_model.specs.sender.SenderView.{Queued}
use Rattle.sctp_model.specs.sender.Words.{when}
use Rattle.sctp_model.specs.sender.Entries.{entry_lane, latest}
use Rattle.sctp_model.specs.sender.Assigning.{without_first}
use Rattle.sctp_model.proofs.sender.WordLaws.{of_two, of_none, when_there, when_absent}

-- ---- the last entry of a stream

-- the entry is of the stream
abbrev IsOn : ℕ → Entry → Type 0
IsOn s e = (entry_lane e).stream ≡ s

self : (n : ℕ) → (n == n) ≡ true
self n = grind arith

-- an entry that isn't found isn't of the stream
not_on : (s : ℕ) (e d : Entry) → when ((entry_lane e).stream == s) e ≡ None → e ≡ d → IsOn s d → ⊥
not_on s e d none same on =
    let apart = when_absent ((entry_lane e).stream == s) e none in
    let mine : IsOn s e = subst (λ (x : Entry). IsOn s x) (sym same) on in
    let equal : ((entry_lane e).stream == s) ≡ true = rw mine (self s) in
    cc (apart, equal)

-- if none is found, none is there
none_on : (s : ℕ) (es : List Entry) → latest s es ≡ None → (i : ℕ) (d : Entry) → slice_get es i ≡ Some d → IsOn s d → ⊥
none_on s [] none i d here on = cc
none_on s (e ∷ es) none zero d here on = not_on s e d (of_none (latest s es) (when ((entry_lane e).stream == s) e) none).1 (cc) on
none_on s (e ∷ es) none (suc i) d here on = none_on s es (of_none (latest s es) (when ((entry_lane e).stream == s) e) none).0 i d here on

-- the entry that is found is on its stream, and none is there after it
record IsLastOf (s : ℕ) (es : List Entry) (e : Entry) : Type 0 where
  place : ℕ
  here : slice_get es place ≡ Some e
  on : IsOn s e
  last : (i : ℕ) (d : Entry) → slice_get es i ≡ Some d → IsOn s d → i ≤ place

last_of : (s : ℕ) (es : List Entry) (x : Entry) → latest s es ≡ Some x → IsLastOf s es x
last_of s [] x is = absurd (cc)
last_of s (e ∷ es) x is =
    elim (of_two (latest s es) (when ((entry_lane e).stream == s) e) x is) [
      | inl later ↦ behind (last_of s es x later)
      | inr here ↦ let on = when_there ((entry_lane e).stream == s) e x here.1 in subst (IsLastOf s (e ∷ es)) on.1 (this here.0 (eqb-true (entry_lane e).stream s on.0))
    ]
  where
    behind : IsLastOf s es x → IsLastOf s (e ∷ es) x
    behind r = record { place = suc r.place; here = r.here; on = r.on; last = low }
      where
        low : (i : ℕ) (d : Entry) → slice_get (e ∷ es) i ≡ Some d → IsOn s d → i ≤ suc r.place
        low zero d first on = omega arith
        low (suc i) d later on = let le = r.last i d later on in omega (arith, le)

    this : latest s es ≡ None → IsOn s e → IsLastOf s (e ∷ es) e
    this none on = record { place = 0; here = refl; on = on; last = low }
      where
        low : (i : ℕ) (d : Entry) → slice_get (e ∷ es) i ≡ Some d → IsOn s d → i ≤ 0
        low zero d first also = omega arith
        low (suc i) d later also = absurd (none_on s es none i d later also)

-- the same by index
pub record IsLatestIn (p : Plan) (s : ℕ) (e : Entry) : Type 0 where
  pub index : ℕ
  pub here : entry_at p index ≡ Some e
  pub stream : (entry_lane e).stream ≡ s
  pub last : (i : ℕ) (d : Entry) → entry_at p i ≡ Some d → (entry_lane d).stream ≡ s → i ≤ index

pub latest_is : (p : Plan) (s : ℕ) (e : Entry) → latest s p.entries ≡ Some e → IsLatestIn p s e
latest_is p s e found = by_index (last_of s p.entries e found)
  where
    by_index : IsLastOf s p.entries e → IsLatestIn p s e
    by_index r = record { index = suc r.place; here = r.here; stream = r.on; last = low }
      where
        low : (i : ℕ) (d : Entry) → entry_at p i ≡ Some d → IsOn s d → i ≤ suc r.place
        low zero d here on = absurd (cc)
        low (suc i) d here on = let le = r.last i d here on in omega (arith, le)

pub latest_none : (p : Plan) (s : ℕ) → latest s p.entries ≡ None → (i : ℕ) (d : Entry) → entry_at p i ≡ Some d → (entry_lane d).stream ≡ s → ⊥
latest_none p s none zero d here on = cc
latest_none p s none (suc i) d here on = none_on s p.entries none i d here on

-- ---- the first message that is meant

-- it is in the queue between some that aren't meant and some others, and is what the queue is left without
pub record IsFirstMeant (meant : Queued → Bool) (qs : List Queued) (q : Queued) : Type 0 where
  pub before : List Queued
  pub rest : List Queued
  pub queue : qs ≡ before ++ q ∷ rest
  pub others : without_first meant qs ≡ before ++ rest
  pub none : (x : Queued) → Has before x → meant x ≡ false
  pub is : meant q ≡ true

pub first_meant : (meant : Queued → Bool) (qs : List Queued) (q : Queued) → find meant qs ≡ Some q → IsFirstMeant meant qs q
first_meant meant [] q found = absurd (cc)
first_meant meant (x ∷ qs) q found = by_test (meant x) refl found (λ later. first_meant meant qs q later)
  where
    left : Bool → List Queued
    left b = if b then qs else x ∷ without_first meant qs

    by_test : (b : Bool) → meant x ≡ b → (if b then Some x else find meant qs) ≡ Some q → (find meant qs ≡ Some q → IsFirstMeant meant qs q) → IsFirstMeant meant (x ∷ qs) q
    by_test true on here further =
        let same : x ≡ q = cc in
        subst (IsFirstMeant meant (x ∷ qs)) same (record { before = []; rest = qs; queue = refl; others = ap left on; none = λ y has. absurd has; is = on })
    by_test false off here further = behind (further here)
      where
        behind : IsFirstMeant meant qs q → IsFirstMeant meant (x ∷ qs) q
        behind r = record {
          before = x ∷ r.before;
          rest = r.rest;
          queue = ap (λ (ys : List Queued). x ∷ ys) r.queue;
          others = ap left off ∙ ap (λ (ys : List Queued). x ∷ ys) r.others;
          none = none;
          is = r.is;
        }
          where
            none : (y : Queued) → Has (x ∷ r.before) y → meant y ≡ false
            none y (inl same) = subst (λ (z : Queued). meant z ≡ false) same off
            none y (inr has) = r.none y has

-- if one is meant, a first one is
pub some_meant : (meant : Queued → Bool) (qs : List Queued) → list_any meant qs ≡ true → (q : Queued) × IsFirstMeant meant qs q
some_meant meant qs any = let r = found qs any in (r.0, first_meant meant qs r.0 r.1)
  where
    found : (xs : List Queued) → list_any meant xs ≡ true → (q : Queued) × (find meant xs ≡ Some q)
    found [] any = absurd (cc)
    found (x ∷ xs) any = by_test (meant x) any (λ later. found xs later)
      where
        by_test : (b : Bool) → (b || list_any meant xs) ≡ true → (list_any meant xs ≡ true → (q : Queued) × (find meant xs ≡ Some q)) → (q : Queued) × ((if b then Some x else find meant xs) ≡ Some q)
        by_test true here further = (x, refl)
        by_test false later further = further later
