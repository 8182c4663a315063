-- A FORWARD of a view names, by rising stream and ordered before unordered, of each numbered lane the largest number up to the index that it goes to.
use Rattle.std.proofs.Common.{◌≡◌, ℕ, zero, suc, ◌+◌, ◌-◌, ◌<◌, ◌≤◌, ◌⊎◌, inl, inr, List, [], ◌∷◌, ◌++◌, take, drop, Bool, true, false, Option, Some, None, refl, sym, ap, ◌∙◌, subst, arith}
use Rattle.std.specs.Prelude.{◌==◌, if◌then◌else◌, slice_get, max, nat_le}
use Rattle.std.proofs.lemmas.Bool.Decides.{nat_tests}
use Rattle.sctp_model.specs.numbers.Lists.{Has}
use Rattle.sctp_model.specs.messages.Format.{Format, Kind, Ordered, Unordered, Lane, is_numbered, same_lane}
use Rattle.sctp_model.specs.messages.Plan.{Entry, Plan, entry_at, IsOf}
use Rattle.sctp_model.specs.sender.SenderView.{SenderView}
use Rattle.sctp_model.specs.messages.Forward.{Skip, StandsIn, IsLaneBefore, IsListed, IsForward}
use Rattle.sctp_model.specs.sender.Entries.{entry_lane, entry_number}
use Rattle.sctp_model.specs.sender.Forwarding.{larger, largest_in, skip_in, skip_of, skips_on, skips_below, forward_to}
use Rattle.sctp_model.specs.sender.Reached.{IsReached}
use Rattle.sctp_model.proofs.sender.WordLaws.{has_left, has_right, has_either}
use Rattle.sctp_model.proofs.sender.AbandonCases.{lanes_same, same_lane-self}
use Rattle.sctp_model.proofs.sender.PlanLaws.{AllNamed, IsNamed}
use Rattle.sctp_model.proofs.sender.CountLaws.{is_named}
use Rattle.sctp_model.proofs.sender.PointLaws.{get-drop, of_itself, is_itself}

-- ---- lists

listed_append : (xs ys : List Skip) → IsListed xs → IsListed ys → ((x y : Skip) → Has xs x → Has ys y → IsLaneBefore x.lane y.lane) → IsListed (xs ++ ys)
listed_append [] ys a b apart = b
listed_append (x ∷ xs) ys a b apart =
    ((λ y has. elim (has_either xs ys y has) [ inl left ↦ a.0 y left | inr right ↦ apart x y (inl refl) right ]), listed_append xs ys a.1 b (λ z y l r. apart z y (inr l) r))

-- ---- entries after CUM, up to an index

passed_stands : (es : List Entry) (n : ℕ) (e : Entry) → Has (take n es) e → (j : ℕ) × (j < n) × (slice_get es j ≡ Some e)
passed_stands es zero e has = absurd has
passed_stands [] (suc n) e has = absurd has
passed_stands (d ∷ es) (suc n) e has =
    elim has [
      | inl same ↦ (zero, omega arith, ap (λ (x : Entry). Some x) same)
      | inr rest ↦ let found = passed_stands es n e rest in let low = found.1 in (suc found.0, omega arith, found.2)
    ]

stands_passed : (es : List Entry) (n j : ℕ) (e : Entry) → j < n → slice_get es j ≡ Some e → Has (take n es) e
stands_passed es zero j e lt is = absurd (omega arith)
stands_passed [] (suc n) j e lt is = absurd (cc)
stands_passed (d ∷ es) (suc n) zero e lt is = inl (let same : Some d ≡ Some e = is in cc)
stands_passed (d ∷ es) (suc n) (suc j) e lt is = inr (stands_passed es n j e (omega arith) is)

-- ---- the largest number of a lane

-- what is found is the number of an entry, or was found before
largest_found : (l : Lane) (found : Option ℕ) (es : List Entry) (n : ℕ) → largest_in l found es ≡ Some n → (found ≡ Some n) ⊎ ((e : Entry) × Has es e × (entry_lane e ≡ l) × (entry_number e ≡ n))
largest_found l found [] n is = inl is
largest_found l found (e ∷ es) n is = by_lane (same_lane l (entry_lane e)) refl (largest_found l (if same_lane l (entry_lane e) then larger found (entry_number e) else found) es n is)
  where
    by_found : (o : Option ℕ) → found ≡ o → entry_lane e ≡ l → larger o (entry_number e) ≡ Some n → (found ≡ Some n) ⊎ ((d : Entry) × Has (e ∷ es) d × (entry_lane d ≡ l) × (entry_number d ≡ n))
    by_found None none lane here = inr (e, inl refl, lane, (let same : Some (entry_number e) ≡ Some n = here in cc))
    by_found (Some m) some lane here = by_max (nat_le m (entry_number e)) refl
      where
        number : max m (entry_number e) ≡ n
        number = let same : Some (max m (entry_number e)) ≡ Some n = here in cc

        by_max : (b : Bool) → nat_le m (entry_number e) ≡ b → (found ≡ Some n) ⊎ ((d : Entry) × Has (e ∷ es) d × (entry_lane d ≡ l) × (entry_number d ≡ n))
        by_max true le = inr (e, inl refl, lane, (let h : m ≤ entry_number e = grind (arith, nat_tests) in let k = number in omega arith))
        by_max false gt = inl (some ∙ ap (λ (x : ℕ). Some x) (let h : entry_number e < m = grind (arith, nat_tests) in let k = number in omega arith))

    by_lane : (b : Bool) → same_lane l (entry_lane e) ≡ b → ((if b then larger found (entry_number e) else found) ≡ Some n) ⊎ ((d : Entry) × Has es d × (entry_lane d ≡ l) × (entry_number d ≡ n))
        → (found ≡ Some n) ⊎ ((d : Entry) × Has (e ∷ es) d × (entry_lane d ≡ l) × (entry_number d ≡ n))
    by_lane b on (inr h) = inr (h.0, inr h.1, h.2, h.3)
    by_lane true on (inl here) = by_found found refl (sym (lanes_same l (entry_lane e) on)) here
    by_lane false off (inl here) = inl here

-- it is at least what was found before, and at least each number of the lane
largest_over : (l : Lane) (found : Option ℕ) (es : List Entry) (m : ℕ) → found ≡ Some m → (n : ℕ) × (largest_in l found es ≡ Some n) × (m ≤ n)
largest_over l found [] m is = (m, is, omega arith)
largest_over l found (e ∷ es) m is = by_lane (same_lane l (entry_lane e)) (λ o k some. largest_over l o es k some)
  where
    by_lane : (b : Bool) → ((o : Option ℕ) (k : ℕ) → o ≡ Some k → (n : ℕ) × (largest_in l o es ≡ Some n) × (k ≤ n)) → (n : ℕ) × (largest_in l (if b then larger found (entry_number e) else found) es ≡ Some n) × (m ≤ n)
    by_lane true further =
        let next = further (larger found (entry_number e)) (max m (entry_number e)) (ap (λ (o : Option ℕ). larger o (entry_number e)) is) in
        let low = next.2 in
        (next.0, next.1, omega arith)
    by_lane false further = further found m is

largest_all : (l : Lane) (found : Option ℕ) (es : List Entry) (e : Entry) → Has es e → entry_lane e ≡ l → (n : ℕ) × (largest_in l found es ≡ Some n) × (entry_number e ≤ n)
largest_all l found [] e has lane = absurd has
largest_all l found (d ∷ es) e has lane =
    elim has [
      | inl same ↦ here same
      | inr rest ↦ largest_all l (if same_lane l (entry_lane d) then larger found (entry_number d) else found) es e rest lane
    ]
  where
    at_least : (o : Option ℕ) → (m : ℕ) × (larger o (entry_number d) ≡ Some m) × (entry_number d ≤ m)
    at_least None = (entry_number d, refl, omega arith)
    at_least (Some k) = (max k (entry_number d), refl, omega arith)

    here : d ≡ e → (n : ℕ) × (largest_in l (if same_lane l (entry_lane d) then larger found (entry_number d) else found) es ≡ Some n) × (entry_number e ≤ n)
    here same =
        let mine : same_lane l (entry_lane d) ≡ true = rw (ap entry_lane same ∙ lane) (same_lane-self l) in
        let m = at_least found in
        let next = largest_over l (if same_lane l (entry_lane d) then larger found (entry_number d) else found) es m.0 (rw mine m.1) in
        let low = m.2 in
        let high = next.2 in
        let number = ap entry_number same in
        (next.0, next.1, omega arith)

-- ---- the entries of a FORWARD

-- an entry is of its lane, which is numbered, and says the largest number found
pub record IsSkip (f : Format) (es : List Entry) (l : Lane) (y : Skip) : Type 0 where
  pub lane : y.lane ≡ l
  pub numbered : is_numbered f l.kind ≡ true
  pub number : largest_in l None es ≡ Some y.number

skip_has : (f : Format) (es : List Entry) (l : Lane) (y : Skip) → Has (skip_of f es l) y → IsSkip f es l y
skip_has f es l y has = by_test (is_numbered f l.kind) refl has
  where
    by_option : (o : Option ℕ) → largest_in l None es ≡ o → is_numbered f l.kind ≡ true → Has (skip_in l o) y → IsSkip f es l y
    by_option None none numbered here = absurd here
    by_option (Some n) some numbered here =
        elim here [
          | inl same ↦ record { lane = sym (ap (λ (x : Skip). x.lane) same); numbered = numbered; number = some ∙ ap (λ (x : Skip). Some x.number) same }
          | inr never ↦ absurd never
        ]

    by_test : (b : Bool) → is_numbered f l.kind ≡ b → Has (if b then skip_in l (largest_in l None es) else []) y → IsSkip f es l y
    by_test false off here = absurd here
    by_test true on here = by_option (largest_in l None es) refl on here

skip_listed : (f : Format) (es : List Entry) (l : Lane) → IsListed (skip_of f es l)
skip_listed f es l = by_test (is_numbered f l.kind)
  where
    by_option : (o : Option ℕ) → IsListed (skip_in l o)
    by_option None = tt
    by_option (Some n) = ((λ y never. absurd never), tt)

    by_test : (b : Bool) → IsListed (if b then skip_in l (largest_in l None es) else [])
    by_test false = tt
    by_test true = by_option (largest_in l None es)

on_listed : (f : Format) (es : List Entry) (s : ℕ) → IsListed (skips_on f es s)
on_listed f es s =
    listed_append (skip_of f es (record { stream = s; kind = Ordered })) (skip_of f es (record { stream = s; kind = Unordered })) (skip_listed f es (record { stream = s; kind = Ordered })) (skip_listed f es (record { stream = s; kind = Unordered }))
    (λ x y left right.
    let a = (skip_has f es (record { stream = s; kind = Ordered }) x left).lane in
    let b = (skip_has f es (record { stream = s; kind = Unordered }) y right).lane in
    inr (ap (λ (l : Lane). l.stream) a ∙ sym (ap (λ (l : Lane). l.stream) b), ap (λ (l : Lane). l.kind) a, ap (λ (l : Lane). l.kind) b))

-- some lane of the stream has this entry
on_has : (f : Format) (es : List Entry) (s : ℕ) (y : Skip) → Has (skips_on f es s) y → (l : Lane) × IsSkip f es l y × (l.stream ≡ s)
on_has f es s y has =
    elim (has_either (skip_of f es (record { stream = s; kind = Ordered })) (skip_of f es (record { stream = s; kind = Unordered })) y has) [
      | inl left ↦ (record { stream = s; kind = Ordered }, skip_has f es (record { stream = s; kind = Ordered }) y left, refl)
      | inr right ↦ (record { stream = s; kind = Unordered }, skip_has f es (record { stream = s; kind = Unordered }) y right, refl)
    ]

below_has : (f : Format) (es : List Entry) (s : ℕ) (y : Skip) → Has (skips_below f es s) y → (l : Lane) × IsSkip f es l y × (l.stream < s)
below_has f es zero y has = absurd has
below_has f es (suc s) y has =
    elim (has_either (skips_below f es s) (skips_on f es s) y has) [
      | inl left ↦ let found = below_has f es s y left in let low = found.2 in (found.0, found.1, omega arith)
      | inr right ↦ let found = on_has f es s y right in let same = found.2 in (found.0, found.1, omega arith)
    ]

below_listed : (f : Format) (es : List Entry) (s : ℕ) → IsListed (skips_below f es s)
below_listed f es zero = tt
below_listed f es (suc s) =
    listed_append (skips_below f es s) (skips_on f es s) (below_listed f es s) (on_listed f es s)
    (λ x y left right.
    let a = below_has f es s x left in
    let b = on_has f es s y right in
    let one = ap (λ (l : Lane). l.stream) a.1.lane in
    let two = ap (λ (l : Lane). l.stream) b.1.lane in
    let low = a.2 in
    let same = b.2 in
    inl (omega arith))

-- the entry of a lane is in the list
has_on : (f : Format) (es : List Entry) (l : Lane) (y : Skip) → Has (skip_of f es l) y → Has (skips_on f es l.stream) y
has_on f es l y has = by_kind l.kind refl
  where
    by_kind : (k : Kind) → l.kind ≡ k → Has (skips_on f es l.stream) y
    by_kind Ordered is = has_left (skip_of f es (record { stream = l.stream; kind = Ordered })) (skip_of f es (record { stream = l.stream; kind = Unordered })) y (subst (λ (k : Kind). Has (skip_of f es (record { stream = l.stream; kind = k })) y) is has)
    by_kind Unordered is = has_right (skip_of f es (record { stream = l.stream; kind = Ordered })) (skip_of f es (record { stream = l.stream; kind = Unordered })) y (subst (λ (k : Kind). Has (skip_of f es (record { stream = l.stream; kind = k })) y) is has)

has_below : (f : Format) (es : List Entry) (s : ℕ) (l : Lane) (y : Skip) → l.stream < s → Has (skip_of f es l) y → Has (skips_below f es s) y
has_below f es zero l y lt has = absurd (omega arith)
has_below f es (suc s) l y lt has = by_last (l.stream == s) refl (λ less. has_below f es s l y less has)
  where
    by_last : (b : Bool) → (l.stream == s) ≡ b → (l.stream < s → Has (skips_below f es s) y) → Has (skips_below f es s ++ skips_on f es s) y
    by_last true on further =
        let same : l.stream ≡ s = grind (arith, nat_tests) in
        has_right (skips_below f es s) (skips_on f es s) y (subst (λ (x : ℕ). Has (skips_on f es x) y) same (has_on f es l y has))
    by_last false off further = has_left (skips_below f es s) (skips_on f es s) y (further (let ne : (l.stream ≡ s → ⊥) = λ e. grind (arith, nat_tests) in omega arith))

pub named_at : (n : ℕ) (p : Plan) (es : List Entry) (j : ℕ) (e : Entry) → AllNamed n p es → slice_get es j ≡ Some e → IsNamed n p e
named_at n p [] j e h is = absurd (cc)
named_at n p (d ∷ es) zero e h is = let same : d ≡ e = (let some : Some d ≡ Some e = is in cc) in subst (λ (x : Entry). IsNamed n p x) same h.0
named_at n p (d ∷ es) (suc j) e h is = named_at n p es j e h.1 is

of_lane : (l : Lane) (n : ℕ) (e : Entry) → entry_lane e ≡ l → entry_number e ≡ n → IsOf l n e
of_lane l n e lane number = subst (λ (m : ℕ). IsOf l m e) number (subst (λ (k : Lane). IsOf k (entry_number e) e) lane (of_itself e))

-- an entry listed is after c, up to p
standing : (f : Format) (plan : Plan) (c p s : ℕ) (y : Skip) → Has (skips_below f (take (p - c) (drop c plan.entries)) s) y → StandsIn plan c p y.lane y.number
standing f plan c p s y has =
    let found = below_has f (take (p - c) (drop c plan.entries)) s y has in
    by_found (largest_found found.0 None (take (p - c) (drop c plan.entries)) y.number found.1.number) found.1.lane
  where
    by_found : {l : Lane} → (None ≡ Some y.number) ⊎ ((e : Entry) × Has (take (p - c) (drop c plan.entries)) e × (entry_lane e ≡ l) × (entry_number e ≡ y.number)) → y.lane ≡ l →
        StandsIn plan c p y.lane y.number
    by_found (inl none) lane = absurd (cc)
    by_found (inr e) lane =
        let place = passed_stands (drop c plan.entries) (p - c) e.0 e.1 in
        let low = place.1 in
        let here : entry_at plan (suc (c + place.0)) ≡ Some e.0 = get-drop c plan.entries place.0 ∙ place.2 in
        (suc (c + place.0), e.0, omega arith, omega arith, here, of_lane y.lane y.number e.0 (e.2 ∙ sym lane) e.3)

-- of each numbered lane the largest number is listed, if all streams lie below s
highest : (f : Format) (plan : Plan) (c p s : ℕ) (l : Lane) (n : ℕ) → ((i : ℕ) (e : Entry) → entry_at plan i ≡ Some e → (entry_lane e).stream < s) → is_numbered f l.kind ≡ true →
    StandsIn plan c p l n → (y : Skip) × Has (skips_below f (take (p - c) (drop c plan.entries)) s) y × (y.lane ≡ l) × (n ≤ y.number)
highest f plan c p s l n within numbered at =
    let lo = at.2 in
    let hi = at.3 in
    let same = is_itself l n at.1 at.5 in
    let back : at.0 ≡ suc (c + (at.0 - suc c)) = omega arith in
    let here : slice_get plan.entries (c + (at.0 - suc c)) ≡ Some at.1 = subst (λ (x : ℕ). entry_at plan x ≡ Some at.1) back at.4 in
    let there : slice_get (drop c plan.entries) (at.0 - suc c) ≡ Some at.1 = sym (get-drop c plan.entries (at.0 - suc c)) ∙ here in
    let inside = stands_passed (drop c plan.entries) (p - c) (at.0 - suc c) at.1 (omega arith) there in
    let low : l.stream < s = subst (λ (k : Lane). k.stream < s) same.0 (within at.0 at.1 at.4) in
    let most = largest_all l None (take (p - c) (drop c plan.entries)) at.1 inside same.0 in
    let listed : Has (skip_of f (take (p - c) (drop c plan.entries)) l) (record { lane = l; number = most.0 }) = rw (numbered, most.1) (inl refl) in
    let over = most.2 in
    let number = same.1 in
    (record { lane = l; number = most.0 }, has_below f (take (p - c) (drop c plan.entries)) s l (record { lane = l; number = most.0 }) low listed, refl, omega arith)

-- of every plan whose streams lie below s, between any two indexes
pub forward_between : (f : Format) (plan : Plan) (c p s : ℕ) → ((i : ℕ) (e : Entry) → entry_at plan i ≡ Some e → (entry_lane e).stream < s) →
    IsForward f plan c p (record { point = p; skips = skips_below f (take (p - c) (drop c plan.entries)) s })
forward_between f plan c p s within = record {
  point = refl;
  order = below_listed f (take (p - c) (drop c plan.entries)) s;
  numbered = λ y has. let found = below_has f (take (p - c) (drop c plan.entries)) s y has in ap (λ (l : Lane). is_numbered f l.kind) found.1.lane ∙ found.1.numbered;
  stands = λ y has. standing f plan c p s y has;
  largest = λ l n numbered at. highest f plan c p s l n within numbered at;
}

-- each entry of a view that calls reach is on a stream that is there
on_streams : (f : Format) (v : SenderView) → IsReached f v → (i : ℕ) (e : Entry) → entry_at v.plan i ≡ Some e → (entry_lane e).stream < v.streams
on_streams f v h zero e here = absurd (cc)
on_streams f v h (suc i) e here = (named_at v.streams v.plan v.plan.entries i e (is_named f v h) here).stream

pub forward_is_forward : (f : Format) (v : SenderView) (p : ℕ) → IsReached f v → IsForward f v.plan v.cum p (forward_to f v p)
forward_is_forward f v p h = forward_between f v.plan v.cum p v.streams (on_streams f v h)
