-- The tickets that time or a packet may abandon, one after the other: the next one above those found so far, until there is none.
use Rattle.std.proofs.Common.{◌≡◌, ℕ, zero, suc, ◌+◌, ◌-◌, ◌<◌, ◌≤◌, Bool, true, false, ◌&&◌, List, [], ◌∷◌, ◌++◌, length, map, Some, None, refl, sym, ap, ◌∙◌, arith}
use Rattle.std.specs.Prelude.{nat_lt, filter}
use Rattle.std.specs.List.{list_any}
use Rattle.std.proofs.lemmas.Bool.{and_parts, or_parts}
use Rattle.std.proofs.lemmas.Bool.Decides.{nat_tests}
use Rattle.std.proofs.lemmas.List.{append-nil}
use Rattle.std.proofs.lemmas.List.Elements.{filter-append}
use Rattle.sctp_model.specs.sender.Words.{count_up, lowest}
use Rattle.sctp_model.specs.end.EndView.{EndView}
use Rattle.sctp_model.specs.end.Clock.{at_moment}
use Rattle.sctp_model.proofs.sender.WordLaws.{count_push, IsLowest, lowest_is, none_lowest}
use Rattle.sctp_association.specs.GivenUp.{is_to_give_up}
use Rattle.sctp_association.proofs.GivenUpLemmas.{any_up}
use Rattle.sctp_script.specs.ReportText.{ticket_number}
use Rattle.sctp_values.specs.declared.ticket.Ticket.{Ticket}
use Rattle.sctp_pair.specs.Noted.{tickets_to_give_up, has_to_give_up}

-- ---- of numbers that count up, those that pass

-- one number more: it stays, or goes
counted : (n : ℕ) → count_up 1 (suc n) ≡ count_up 1 n ++ suc n ∷ []
counted n = let next : 1 + n ≡ suc n = omega arith in rw next at (count_push 1 n)

pub filter-more : (Q : ℕ → Bool) (n : ℕ) → filter Q (count_up 1 (suc n)) ≡ filter Q (count_up 1 n) ++ filter Q (suc n ∷ [])
filter-more Q n = ap (λ (ks : List ℕ). filter Q ks) (counted n) ∙ filter-append Q (count_up 1 n) (suc n ∷ [])

filter-stays : (Q : ℕ → Bool) (n : ℕ) → Q (suc n) ≡ true → filter Q (count_up 1 (suc n)) ≡ filter Q (count_up 1 n) ++ suc n ∷ []
filter-stays Q n t = let one : filter Q (suc n ∷ []) ≡ suc n ∷ [] = rw t refl in filter-more Q n ∙ ap (λ (xs : List ℕ). filter Q (count_up 1 n) ++ xs) one

filter-goes : (Q : ℕ → Bool) (n : ℕ) → Q (suc n) ≡ false → filter Q (count_up 1 (suc n)) ≡ filter Q (count_up 1 n)
filter-goes Q n f =
    let one : filter Q (suc n ∷ []) ≡ [] = rw f refl in
    (filter-more Q n ∙ ap (λ (xs : List ℕ). filter Q (count_up 1 n) ++ xs) one) ∙ append-nil (filter Q (count_up 1 n))

-- so many more, of which none passes
filter-gap : (Q : ℕ → Bool) (n d : ℕ) → ((k : ℕ) → n < k → k ≤ n + d → Q k ≡ false) → filter Q (count_up 1 (n + d)) ≡ filter Q (count_up 1 n)
filter-gap Q n zero off = let same : n + 0 ≡ n = omega arith in ap (λ (m : ℕ). filter Q (count_up 1 m)) same
filter-gap Q n (suc d) off =
    let next : n + suc d ≡ suc (n + d) = omega arith in
    ap (λ (m : ℕ). filter Q (count_up 1 m)) next ∙ filter-goes Q (n + d) (off (suc (n + d)) (omega arith) (omega arith)) ∙ filter-gap Q n d (λ k lo hi. off k lo (omega arith))

-- one more that passes, behind some that don't
filter-next : (Q : ℕ → Bool) (last k : ℕ) → last < k → ((j : ℕ) → last < j → j < k → Q j ≡ false) → Q k ≡ true → filter Q (count_up 1 k) ≡ filter Q (count_up 1 last) ++ k ∷ []
filter-next Q last zero above off on = absurd (omega arith)
filter-next Q last (suc n) above off on =
    let gap : last + (n - last) ≡ n = omega (arith, above) in
    let between = filter-gap Q last (n - last) (λ j lo hi. off j lo (omega (arith, hi, gap))) in
    filter-stays Q n on ∙ ap (λ (ks : List ℕ). ks ++ suc n ∷ []) (sym (ap (λ (m : ℕ). filter Q (count_up 1 m)) gap) ∙ between)

-- of a list where none passes, none is left
none_left : (Q : ℕ → Bool) (ks : List ℕ) → list_any Q ks ≡ false → filter Q ks ≡ []
none_left Q [] off = refl
none_left Q (k ∷ ks) off = let parts = or_parts (Q k) (list_any Q ks) off in rw parts.0 (none_left Q ks parts.1)

-- ---- the tickets that pass, one after the other

-- those up to this one
abbrev pub listed_to : (ℕ → Bool) → (last : ℕ) → List ℕ
listed_to Q last = filter Q (count_up 1 last)

-- above the last one
abbrev is_next : (ℕ → Bool) → (last ticket : ℕ) → Bool
is_next Q last k = nat_lt last k && Q k

not_next : (Q : ℕ → Bool) (last k : ℕ) → last < k → is_next Q last k ≡ false → Q k ≡ false
not_next Q last k above off = let test : nat_lt last k ≡ true = grind (arith, nat_tests) in sym (ap (λ (b : Bool). b && Q k) test) ∙ off

-- one more is found of n: it was given, and those up to it are one more
pub record IsNextListed (Q : ℕ → Bool) (n last t : ℕ) : Type 0 where
  pub above : last < t
  pub given : t ≤ n
  pub more : listed_to Q t ≡ listed_to Q last ++ t ∷ []
  pub some : list_any Q (count_up 1 n) ≡ true

pub listed_more : (Q : ℕ → Bool) (n last t : ℕ) → lowest (λ k. nat_lt last k && Q k) n ≡ Some t → IsNextListed Q n last t
listed_more Q n last t is = record {
  above = above;
  given = found.within;
  more = filter-next Q last t above (λ j lo hi. not_next Q last j lo (found.first j (omega arith) hi)) tests.1;
  some = any_up Q 1 n t (omega (arith, found.some)) (let hi = found.within in omega arith) tests.1;
}
  where
    found : IsLowest (is_next Q last) n t
    found = lowest_is (is_next Q last) n t is

    tests : (nat_lt last t ≡ true) × (Q t ≡ true)
    tests = and_parts (nat_lt last t) (Q t) found.passes

    above : last < t
    above = let test = tests.0 in grind (arith, nat_tests)

-- none is left: those up to the last one are all
pub listed_all : (Q : ℕ → Bool) (n last : ℕ) → last ≤ n → lowest (λ k. nat_lt last k && Q k) n ≡ None → listed_to Q last ≡ listed_to Q n
listed_all Q n last within none =
    let all : last + (n - last) ≡ n = omega (arith, within) in
    let quiet = λ (k : ℕ) (lo : last < k) (hi : k ≤ n). not_next Q last k lo (none_lowest (is_next Q last) n none k (omega (arith, lo)) hi) in
    sym (filter-gap Q last (n - last) (λ k lo hi. quiet k lo (omega (arith, hi, all)))) ∙ ap (listed_to Q) all

-- where there are some, there is one
pub listed_some : (e : EndView) (now : ℕ) (tickets : List Ticket) → map ticket_number tickets ≡ tickets_to_give_up e now → 0 < length tickets → has_to_give_up e now ≡ true
listed_some e now tickets is some = by_any (has_to_give_up e now) refl
  where
    empty : (ts : List Ticket) → map ticket_number ts ≡ [] → 0 < length ts → has_to_give_up e now ≡ true
    empty [] none lt = absurd (omega arith)
    empty (t ∷ ts) none lt = absurd (cc)

    by_any : (b : Bool) → has_to_give_up e now ≡ b → has_to_give_up e now ≡ true
    by_any true on = on
    by_any false off = empty tickets (is ∙ none_left (is_to_give_up (at_moment e now)) (count_up 1 e.sender.tickets) off) some
